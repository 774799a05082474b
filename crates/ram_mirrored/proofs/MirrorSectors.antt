-- A register that goes with what a mirror stands for, whichever bytes a lost sector has, and what parts of a call leave of it.
use Rattle.std.specs.Prelude.{◌≡◌, ℕ, ◌+◌, ◌-◌, ◌*◌, ◌<◌, ◌≤◌, ◌⊎◌, Bool, true, false, nat_lt, not, ◌&&◌, Option, None, Some, List, [], ◌∷◌, length, take, drop, replicate}
use Rattle.std.specs.List.{Contains}
use Rattle.std.proofs.Common.{arith, refl, sym, ap, ◌∙◌, inl, inr, subst, length-take, length-drop}
use Rattle.std.proofs.lemmas.Bool.{cases_lt, lt-ltb, le-ltb, true≢false}
use Rattle.std.proofs.lemmas.List.{drop-replicate, take-replicate}
use Rattle.model_sectors.specs.Discs.{Standing, On, Off, sectors_of, replaced, zeros, candidates}
use Rattle.model_sectors.proofs.Pieces.{piece_of_piece, length_replaced, sectors_replaced, other_sectors_replaced}
use Rattle.model_drive.specs.Shown.{Shown, StandsFor}
use Rattle.model_cache.specs.Falling.{LiesIn}
use Rattle.model_cache.proofs.Members.{Contains-none, Contains-first, Contains-later, Contains-cases}
use Rattle.model_mirror.specs.Shown.{MirrorShown}
use Rattle.model_mirror.specs.Sides.{side_a, side_b}
use Rattle.model_mirror.specs.Standing.{MayBe}
use Rattle.ram_machine.specs.SectorBytes.{bytes_of_sector, is_sector_among}
use Rattle.ram_machine.specs.Register.{Value, Bytes, Lost}
use Rattle.ram_machine.proofs.SectorValues.{bytes_under, now_under, falls_under}
use Rattle.ram_machine.proofs.SectorFilled.{filled_differ}
use Rattle.ram_machine.proofs.SectorNow.{now_of, now_there, now_gone, now_same}
use Rattle.ram_machine.proofs.SectorBoth.{one_lost, other_lost}
use Rattle.ram_mirrored.specs.MirrorRegister.{MirrorRegister, settled_at, has_none, emptied}

-- what is there now
abbrev pub now_at : (at : ℕ) → Standing → Option (List ℕ)
now_at at (On disc) = now_of at disc
now_at at (Off discs) = None

-- the sector of each of these discs that has it is one of these
abbrev pub FallTo : (at : ℕ) → (choices discs : List (List ℕ)) → Type 0
FallTo at choices discs = (disc : List ℕ) → Contains discs disc → 2048 * (at + 1) ≤ length disc → Contains choices (sectors_of disc at 1)

-- What it stands for has what the register has now, and falls back to nothing else than the register.
pub record Fits (lost : List ℕ) (at : ℕ) (s : Standing) (r : MirrorRegister) : Type 0 where
  pub now : now_under lost r.now ≡ now_at at s
  pub falls : FallTo at (falls_under lost r.falls) (candidates s)

-- a mirror stands for something that goes with the register, where a lost sector has these bytes
pub record Held (lost : List ℕ) (at : ℕ) (shown : MirrorShown) (r : MirrorRegister) : Type 0 where
  pub standing : Standing
  pub stands : MayBe shown standing
  pub fits : Fits lost at standing r

-- and where it has others
pub record HeldBoth (at : ℕ) (shown : MirrorShown) (r : MirrorRegister) : Type 0 where
  pub one : Held one_lost at shown r
  pub other : Held other_lost at shown r

-- a side falls back to nothing else than these values
pub record SideFalls (lost : List ℕ) (at : ℕ) (side : Shown) (falls : List Value) : Type 0 where
  pub standing : Standing
  pub stands : StandsFor side standing
  pub fall : FallTo at (falls_under lost falls) (candidates standing)

-- and neither does
pub record SidesFall (lost : List ℕ) (at : ℕ) (shown : MirrorShown) (falls : List Value) : Type 0 where
  pub a : SideFalls lost at (side_a shown) falls
  pub b : SideFalls lost at (side_b shown) falls

-- Nobody leads: the mirror is off, and neither side falls back to anything else.
pub record NobodyHolds (at : ℕ) (shown : MirrorShown) (r : MirrorRegister) : Type 0 where
  pub off : shown.on ≡ false
  pub none : r.now ≡ None
  pub one : SidesFall one_lost at shown r.falls
  pub other : SidesFall other_lost at shown r.falls

abbrev pub HeldBy : (at : ℕ) → MirrorShown → MirrorRegister → (known : Bool) → Type 0
HeldBy at shown r true = HeldBoth at shown r
HeldBy at shown r false = NobodyHolds at shown r

-- the register goes with the mirror
pub record MatchesMirror (at : ℕ) (shown : MirrorShown) (r : MirrorRegister) : Type 0 where
  pub led : r.led ≡ shown.who.known
  pub held : HeldBy at shown r shown.who.known

-- The rule leads to a register that goes with it.
pub record Turned (at : ℕ) (shown : MirrorShown) (Rule : MirrorRegister → Type 0) : Type 0 where
  pub after : MirrorRegister
  pub rule : Rule after
  pub matches : MatchesMirror at shown after

pub match_led : (at : ℕ) (shown : MirrorShown) (r : MirrorRegister) → shown.who.known ≡ true → r.led ≡ true → HeldBoth at shown r → MatchesMirror at shown r
match_led at shown r known led both = record { led = led ∙ sym known; held = subst (HeldBy at shown r) (sym known) both }

pub match_none : (at : ℕ) (shown : MirrorShown) (r : MirrorRegister) → shown.who.known ≡ false → r.led ≡ false → NobodyHolds at shown r → MatchesMirror at shown r
match_none at shown r known led both = record { led = led ∙ sym known; held = subst (HeldBy at shown r) (sym known) both }

-- ---- which bytes a lost sector has
none_some : {A : Type 0} {a : A} → None ≡ Some a → ⊥
none_some is = cc

same_some : {A : Type 0} {a b : A} → Some a ≡ Some b → a ≡ b
same_some is = cc

-- a good read shows what the sector has
pub shown_value : (now : Option Value) (bytes : List ℕ) → now_under one_lost now ≡ Some bytes → now_under other_lost now ≡ Some bytes → now ≡ Some (Bytes bytes)
shown_value None bytes one other = absurd (none_some one)
shown_value (Some (Bytes held)) bytes one other = ap (λ (b : List ℕ). Some (Bytes b)) (same_some one)
shown_value (Some Lost) bytes one other = absurd (filled_differ 2048 (omega arith) (same_some one ∙ sym (same_some other)))

-- in the register no sector is lost
pub record KnowsAll (r : MirrorRegister) : Type 0 where
  pub now : now_under one_lost r.now ≡ now_under other_lost r.now
  pub falls : falls_under one_lost r.falls ≡ falls_under other_lost r.falls

pub by_one : (at : ℕ) (shown : MirrorShown) (r : MirrorRegister) → KnowsAll r → Held one_lost at shown r → HeldBoth at shown r
by_one at shown r knows held = record {
  one = held;
  other = record {
    standing = held.standing;
    stands = held.stands;
    fits = record { now = sym knows.now ∙ held.fits.now; falls = subst (λ (l : List (List ℕ)). FallTo at l (candidates held.standing)) knows.falls held.fits.falls };
  };
}

pub by_other : (at : ℕ) (shown : MirrorShown) (r : MirrorRegister) → KnowsAll r → Held other_lost at shown r → HeldBoth at shown r
by_other at shown r knows held = record {
  one = record {
    standing = held.standing;
    stands = held.stands;
    fits = record { now = knows.now ∙ held.fits.now; falls = subst (λ (l : List (List ℕ)). FallTo at l (candidates held.standing)) (sym knows.falls) held.fits.falls };
  };
  other = held;
}

-- the values that a list of discs has in the sector, whatever these are
abbrev pub values_of : (at : ℕ) → List (List ℕ) → List Value
values_of at [] = []
values_of at (disc ∷ discs) = Bytes (sectors_of disc at 1) ∷ values_of at discs

pub falls_to_own : (lost : List ℕ) (at : ℕ) (discs : List (List ℕ)) → FallTo at (falls_under lost (values_of at discs)) discs
falls_to_own lost at [] disc has inside = absurd (Contains-none disc has)
falls_to_own lost at (first ∷ discs) disc has inside = elim (Contains-cases first discs disc has) [
  | inl is ↦ subst (λ (d : List ℕ). Contains (falls_under lost (values_of at (first ∷ discs))) (sectors_of d at 1)) is (Contains-first (sectors_of first at 1) (falls_under lost (values_of at discs)))
  | inr more ↦ Contains-later (sectors_of first at 1) (falls_under lost (values_of at discs)) (sectors_of disc at 1) (falls_to_own lost at discs disc more inside)
]

pub values_known : (at : ℕ) (discs : List (List ℕ)) → falls_under one_lost (values_of at discs) ≡ falls_under other_lost (values_of at discs)
values_known at [] = refl
values_known at (disc ∷ discs) = ap (λ (l : List (List ℕ)). sectors_of disc at 1 ∷ l) (values_known at discs)

-- those of two lists
abbrev pub both_values : List Value → List Value → List Value
both_values [] more = more
both_values (value ∷ values) more = value ∷ both_values values more

pub in_first : (lost : List ℕ) (values more : List Value) (bytes : List ℕ) → Contains (falls_under lost values) bytes → Contains (falls_under lost (both_values values more)) bytes
in_first lost [] more bytes has = absurd (Contains-none bytes has)
in_first lost (value ∷ values) more bytes has = elim (Contains-cases (bytes_under lost value) (falls_under lost values) bytes has) [
  | inl is ↦ subst (Contains (falls_under lost (both_values (value ∷ values) more))) is (Contains-first (bytes_under lost value) (falls_under lost (both_values values more)))
  | inr later ↦ Contains-later (bytes_under lost value) (falls_under lost (both_values values more)) bytes (in_first lost values more bytes later)
]

pub in_second : (lost : List ℕ) (values more : List Value) (bytes : List ℕ) → Contains (falls_under lost more) bytes → Contains (falls_under lost (both_values values more)) bytes
in_second lost [] more bytes has = has
in_second lost (value ∷ values) more bytes has = Contains-later (bytes_under lost value) (falls_under lost (both_values values more)) bytes (in_second lost values more bytes has)

-- ---- what is left of a register
module _ (lost : List ℕ) (at : ℕ) where
  pub fits_same : (s t : Standing) (r : MirrorRegister) → s ≡ t → Fits lost at s r → Fits lost at t r
  fits_same s t r is was = subst (λ (x : Standing). Fits lost at x r) is was

  -- the power went off
  pub fits_off : (s t : Standing) (r : MirrorRegister) → Off (candidates s) ≡ t → Fits lost at s r → Fits lost at t (has_none r)
  fits_off s t r is was = subst (λ (x : Standing). Fits lost at x (has_none r)) is (record { now = refl; falls = was.falls })

  -- one disc is found, with what it has
  pub found_some : (disc : List ℕ) (r : MirrorRegister) (value : Value) → 2048 * (at + 1) ≤ length disc → bytes_under lost value ≡ sectors_of disc at 1 → Fits lost at (On disc) (settled_at r value)
  found_some disc r value inside has = record {
    now = ap Some has ∙ sym (now_there at disc inside);
    falls = one_of;
  }
    where
      one_of : FallTo at (falls_under lost (value ∷ [])) (disc ∷ [])
      one_of found there long = elim (Contains-cases disc [] found there) [
        | inl is ↦ subst (λ (d : List ℕ). Contains (falls_under lost (value ∷ [])) (sectors_of d at 1)) is (subst (λ (b : List ℕ). Contains (b ∷ []) (sectors_of disc at 1)) (sym has) (Contains-first (sectors_of disc at 1) []))
        | inr none ↦ absurd (Contains-none found none)
      ]

  pub found_none : (disc : List ℕ) (r : MirrorRegister) → length disc < 2048 * (at + 1) → Fits lost at (On disc) (emptied r)
  found_none disc r past = record { now = sym (now_gone at disc past); falls = none_of }
    where
      none_of : FallTo at (falls_under lost []) (disc ∷ [])
      none_of found there long = elim (Contains-cases disc [] found there) [
        | inl is ↦ absurd (let same = ap length is in omega (arith, same, past, long))
        | inr none ↦ absurd (Contains-none found none)
      ]

  -- a disc that is as long, with the same sector
  pub fits_like : (disc copy : List ℕ) (r : MirrorRegister) → length copy ≡ length disc → sectors_of copy at 1 ≡ sectors_of disc at 1 → Fits lost at (On disc) r → Fits lost at (On copy) r
  fits_like disc copy r long same was = record { now = was.now ∙ sym (now_same at disc copy long same); falls = one_of }
    where
      one_of : FallTo at (falls_under lost r.falls) (copy ∷ [])
      one_of found there inside = elim (Contains-cases copy [] found there) [
        | inl is ↦
            let size = ap length is in
            subst (λ (d : List ℕ). Contains (falls_under lost r.falls) (sectors_of d at 1)) is
            (subst (Contains (falls_under lost r.falls)) (sym same) (was.falls disc (Contains-first disc []) (omega (arith, inside, size, long))))
        | inr none ↦ absurd (Contains-none found none)
      ]

  -- one of two, and the power is off
  pub fits_two : (x y : List ℕ) (r : MirrorRegister) → FallTo at (falls_under lost r.falls) (x ∷ []) → FallTo at (falls_under lost r.falls) (y ∷ []) → Fits lost at (Off (x ∷ y ∷ [])) (has_none r)
  fits_two x y r one other = record { now = refl; falls = two_of }
    where
      two_of : FallTo at (falls_under lost r.falls) (x ∷ y ∷ [])
      two_of found there inside = elim (Contains-cases x (y ∷ []) found there) [
        | inl is ↦ one found (subst (Contains (x ∷ [])) is (Contains-first x [])) inside
        | inr more ↦ other found more inside
      ]

  -- it may have another value too
  pub fall_more : (value : Value) (falls : List Value) (discs : List (List ℕ)) → FallTo at (falls_under lost falls) discs → FallTo at (falls_under lost (value ∷ falls)) discs
  fall_more value falls discs fall disc there inside = Contains-later (bytes_under lost value) (falls_under lost falls) (sectors_of disc at 1) (fall disc there inside)

  -- a disc without the sector
  pub fall_short : (choices : List (List ℕ)) (disc : List ℕ) → length disc < 2048 * (at + 1) → FallTo at choices (disc ∷ [])
  fall_short choices disc past found there inside = elim (Contains-cases disc [] found there) [
    | inl is ↦ absurd (let same = ap length is in omega (arith, same, past, inside))
    | inr none ↦ absurd (Contains-none found none)
  ]

  pub fall_one : (choices : List (List ℕ)) (disc : List ℕ) → Contains choices (sectors_of disc at 1) → FallTo at choices (disc ∷ [])
  fall_one choices disc has found there inside = elim (Contains-cases disc [] found there) [
    | inl is ↦ subst (λ (d : List ℕ). Contains choices (sectors_of d at 1)) is has
    | inr none ↦ absurd (Contains-none found none)
  ]

  -- ---- a write of the sector, of a disc that has it
  module _ (lba n : ℕ) (payload : List ℕ) (disc : List ℕ) (r : MirrorRegister) (lies : LiesIn disc lba n payload) (was : Fits lost at (On disc) r) where
    abbrev sent : List ℕ
    sent = bytes_of_sector lba payload at

    same_long : (b : ℕ) → length (replaced disc lba payload b) ≡ length disc
    same_long b = length_replaced disc lies.blocks lba n payload b lies.whole lies.inside lies.as_long

    pub unreached : (b : ℕ) → (at < lba) ⊎ (lba + n ≤ at) ⊎ (16 * b ≤ at) → Fits lost at (On (replaced disc lba payload b)) r
    unreached b beside = fits_like disc (replaced disc lba payload b) r (same_long b) (other_sectors_replaced disc lies.blocks lba n payload b at 1 lies.whole lies.inside lies.as_long (apart beside)) was
      where
        apart : (at < lba) ⊎ (lba + n ≤ at) ⊎ (16 * b ≤ at) → (at + 1 ≤ lba) ⊎ (lba + n ≤ at) ⊎ (16 * b ≤ at)
        apart (inl before) = inl (omega (arith, before))
        apart (inr (inl past)) = inr (inl past)
        apart (inr (inr behind)) = inr (inr behind)

    module _ (from : lba ≤ at) (to : at < lba + n) where
      pub reached : (b : ℕ) → at < 16 * b → Fits lost at (On (replaced disc lba payload b)) (settled_at r (Bytes sent))
      reached b before =
          let inside : lba + n ≤ 16 * lies.blocks = lies.inside in
          let long : length disc ≡ 32768 * lies.blocks = lies.as_long in
          found_some (replaced disc lba payload b) r (Bytes sent) (omega (arith, to, inside, long, same_long b))
          (sym (sectors_replaced disc lies.blocks lba n payload b at 1 lies.whole lies.inside lies.as_long from (omega (arith, before)) (omega (arith, to))))

      -- either way it has the new bytes or what it might have before
      pub either : (b : ℕ) → FallTo at (falls_under lost (Bytes sent ∷ r.falls)) (replaced disc lba payload b ∷ [])
      either b = elim (cases_lt at (16 * b)) [
        | inl before ↦ fall_one (falls_under lost (Bytes sent ∷ r.falls)) (replaced disc lba payload b)
            (subst (Contains (sent ∷ falls_under lost r.falls))
            (sym (sectors_replaced disc lies.blocks lba n payload b at 1 lies.whole lies.inside lies.as_long from (omega (arith, before)) (omega (arith, to))))
            (Contains-first sent (falls_under lost r.falls)))
        | inr behind ↦ fall_more (Bytes sent) r.falls (replaced disc lba payload b ∷ []) (unreached b (inr (inr behind))).falls
      ]

-- ---- a sector of zeros
zeros_part : (size n i : ℕ) → size * i + size ≤ n → take size (drop (size * i) (replicate {A = ℕ} n 0)) ≡ replicate size 0
zeros_part size n i inside = ap (take size) (drop-replicate (size * i) n 0) ∙ take-replicate size (n - size * i) 0 (omega (arith, inside))

pub zeros_sector : (at n : ℕ) → 2048 * (at + 1) ≤ n → sectors_of (zeros n) at 1 ≡ zeros 2048
unfolding sectors_of zeros
zeros_sector at n inside = zeros_part 2048 n at (omega (arith, inside))

-- ---- which sectors a request has
before_all : (lba n at : ℕ) → at < lba → is_sector_among lba n at ≡ false
before_all lba n at before = ap (λ (b : Bool). not b && nat_lt at (lba + n)) (lt-ltb at lba before)

behind_first : (lba n at : ℕ) → lba ≤ at → is_sector_among lba n at ≡ nat_lt at (lba + n)
behind_first lba n at from = ap (λ (b : Bool). not b && nat_lt at (lba + n)) (le-ltb at lba from)

pub is_among : (lba n at : ℕ) → is_sector_among lba n at ≡ true → (lba ≤ at) × (at < lba + n)
is_among lba n at is = elim (cases_lt at lba) [
  | inl before ↦ absurd (true≢false (sym is ∙ before_all lba n at before))
  | inr from ↦ elim (cases_lt at (lba + n)) [
    | inl inside ↦ (from, inside)
    | inr past ↦ absurd (true≢false (sym is ∙ behind_first lba n at from ∙ le-ltb at (lba + n) past))
  ]
]

pub is_beside : (lba n at : ℕ) → is_sector_among lba n at ≡ false → (at < lba) ⊎ (lba + n ≤ at)
is_beside lba n at is = elim (cases_lt at lba) [
  | inl before ↦ inl before
  | inr from ↦ elim (cases_lt at (lba + n)) [
    | inl inside ↦ absurd (true≢false (sym (lt-ltb at (lba + n) inside) ∙ sym (behind_first lba n at from) ∙ is))
    | inr past ↦ inr past
  ]
]

-- the bytes of a sector among those of several
pub sector_among : (disc : List ℕ) (lba n at : ℕ) → lba ≤ at → at < lba + n → bytes_of_sector lba (sectors_of disc lba n) at ≡ sectors_of disc at 1
unfolding sectors_of
sector_among disc lba n at from to =
    let there : 2048 * lba + 2048 * (at - lba) ≡ 2048 * at = omega (arith, from) in
    piece_of_piece (2048 * lba) (2048 * n) (2048 * (at - lba)) 2048 disc (omega (arith, from, to))
    ∙ ap (λ (m : ℕ). take 2048 (drop m disc)) there

-- where so many sectors were read, the disc has them
pub has_sectors : (disc : List ℕ) (lba n : ℕ) → 0 < n → length (sectors_of disc lba n) ≡ 2048 * n → 2048 * (lba + n) ≤ length disc
unfolding sectors_of
has_sectors disc lba n some whole =
    let a = length-take (2048 * n) (drop (2048 * lba) disc) in
    let b = length-drop (2048 * lba) disc in
    omega (arith, some, whole, a, b)
