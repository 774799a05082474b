-- Which bytes the writes of a block's state byte and of its data change, whole or in part, one after another.
use Rattle.std.specs.Prelude.{◌≡◌, ◌≢◌, ℕ, ◌+◌, ◌-◌, ◌<◌, ◌≤◌, ◌⊎◌, ◌==◌, Bool, true, false, if◌then◌else◌, List, [], ◌∷◌, length, slice_index}
use Rattle.std.proofs.Common.{arith, refl, sym, ap, ◌∙◌, inl, inr}
use Rattle.std.proofs.lemmas.Bool.{cases_eq, cases_lt, eqb-true, eq-eqb}
use Rattle.std.proofs.lemmas.List.{ext_get_or}
use Rattle.model_bytes.specs.Bytes.{put_at, PartlyPut}
use Rattle.model_bytes.proofs.Laws.{length-put_at, get_or-put_at-below, get_or-put_at-past, get_or-put_at-inside}
use Rattle.model_medium.specs.Cells.{Blank, Good, Torn, Dead}
use Rattle.model_medium.specs.declared.Fate.{Fate}
use Rattle.model_image.specs.Cells.{state_offset, data_offset, image_len, cell_of}
use Rattle.model_image.specs.Writes.{torn_state, good_state, dead_state, with_state, with_block, bytes_by, bytes_left, PutsInBlock, IsBeforeOrAfter}

-- one written byte, and all others
byte_there : (at byte : ℕ) (held : List ℕ) → at < length held → slice_index (put_at at (byte ∷ []) held) at ≡ byte
byte_there at byte held inside =
    ap (slice_index (put_at at (byte ∷ []) held)) (let none : at ≡ at + 0 = omega arith in none) ∙ get_or-put_at-inside 0 at (byte ∷ []) held 0 (omega arith) (omega arith)

pub byte_elsewhere : (at byte : ℕ) (held : List ℕ) (k : ℕ) → at < length held → k ≢ at → slice_index (put_at at (byte ∷ []) held) k ≡ slice_index held k
byte_elsewhere at byte held k inside other = elim (cases_lt k at) [
  | inl below ↦ get_or-put_at-below k at (byte ∷ []) held 0 below (omega arith)
  | inr past ↦ get_or-put_at-past k at (byte ∷ []) held 0 (let above : at + 1 ≤ k = omega (arith, other) in above) (omega arith)
]

-- a byte that was put in part is the old or the new one
module _ (at byte : ℕ) (before after : List ℕ) (inside : at < length before) (put : PartlyPut at (byte ∷ []) before after) where
  others_stay : (k : ℕ) → k ≢ at → slice_index after k ≡ slice_index before k
  others_stay k other = elim (put.each k) [ inl e ↦ e | inr p ↦ absurd (let e : k ≡ at = omega (arith, p.0, p.1) in other e) ]

  from_here : (byte' : ℕ) (to : List ℕ) → length to ≡ length before → slice_index after at ≡ byte' → slice_index to at ≡ byte' → ((k : ℕ) → k ≢ at → slice_index to k ≡ slice_index before k) → after ≡ to
  from_here byte' to long here there others =
      ext_get_or 0 after to (put.as_long ∙ sym long) (λ k h. elim (cases_eq k at) [
        | inl e ↦ ap (slice_index after) e ∙ here ∙ sym there ∙ sym (ap (slice_index to) e)
        | inr ne ↦ others_stay k ne ∙ sym (others k ne)
      ])

  pub one_byte : IsBeforeOrAfter before (put_at at (byte ∷ []) before) after
  one_byte = elim (put.each at) [
    | inl e ↦ inl (from_here (slice_index before at) before refl e refl (λ k ne. refl))
    | inr p ↦ inr (from_here byte (put_at at (byte ∷ []) before) (length-put_at at (byte ∷ []) before (omega arith))
        (p.2 ∙ ap (slice_index (byte ∷ [])) (let none : at - at ≡ 0 = omega arith in none))
        (byte_there at byte before inside) (λ k ne. byte_elsewhere at byte before k inside ne))
  ]

module _ (total block : ℕ) (from : List ℕ) where
  -- a byte was put by a write of the block
  abbrev New : List ℕ → ℕ → Type 0
  New l k = ((k ≡ state_offset block) × ((slice_index l k ≡ torn_state) ⊎ (slice_index l k ≡ good_state)))
      ⊎ ((data_offset total block ≤ k) × (k < data_offset total block + length from) × (slice_index l k ≡ slice_index from (k - data_offset total block)))

  -- nothing was put
  pub puts_none : (held : List ℕ) → PutsInBlock total block from held held
  puts_none held = record { as_long = refl; each = λ k. inl refl }

  pub puts_then : (a b c : List ℕ) → PutsInBlock total block from a b → PutsInBlock total block from b c → PutsInBlock total block from a c
  puts_then a b c one two = record { as_long = two.as_long ∙ one.as_long; each = λ k. step k (one.each k) (two.each k) }
    where
      moved : (k : ℕ) → slice_index c k ≡ slice_index b k → New b k → New c k
      moved k e (inl p) = inl (p.0, elim p.1 [ inl torn ↦ inl (e ∙ torn) | inr good ↦ inr (e ∙ good) ])
      moved k e (inr p) = inr (p.0, p.1, e ∙ p.2)

      step : (k : ℕ) → (slice_index b k ≡ slice_index a k) ⊎ New b k → (slice_index c k ≡ slice_index b k) ⊎ New c k → (slice_index c k ≡ slice_index a k) ⊎ New c k
      step k (inl e) (inl e') = inl (e' ∙ e)
      step k (inr new) (inl e') = inr (moved k e' new)
      step k first (inr new) = inr new

  -- the state byte of a torn or a good block was put in part, and so were the data
  pub puts_state : (state : ℕ) (a b : List ℕ) → (state ≡ torn_state) ⊎ (state ≡ good_state) → PartlyPut (state_offset block) (state ∷ []) a b → PutsInBlock total block from a b
  puts_state state a b is put = record { as_long = put.as_long; each = λ k. step k (put.each k) }
    where
      byte : (k : ℕ) → k ≡ state_offset block → slice_index b k ≡ slice_index (state ∷ []) (k - state_offset block) → slice_index b k ≡ state
      byte k e new = new ∙ ap (slice_index (state ∷ [])) (let none : k - state_offset block ≡ 0 = omega (arith, e) in none)

      step : (k : ℕ) → (slice_index b k ≡ slice_index a k) ⊎ ((state_offset block ≤ k) × (k < state_offset block + 1) × (slice_index b k ≡ slice_index (state ∷ []) (k - state_offset block)))
          → (slice_index b k ≡ slice_index a k) ⊎ ((k ≡ state_offset block) × ((slice_index b k ≡ torn_state) ⊎ (slice_index b k ≡ good_state)))
          ⊎ ((data_offset total block ≤ k) × (k < data_offset total block + length from) × (slice_index b k ≡ slice_index from (k - data_offset total block)))
      step k (inl e) = inl e
      step k (inr p) =
          let here : k ≡ state_offset block = omega (arith, p.0, p.1) in
          inr (inl (here, elim is [ inl torn ↦ inl (byte k here p.2 ∙ torn) | inr good ↦ inr (byte k here p.2 ∙ good) ]))

  pub puts_data : (a b : List ℕ) → PartlyPut (data_offset total block) from a b → PutsInBlock total block from a b
  puts_data a b put = record { as_long = put.as_long; each = λ k. elim (put.each k) [ inl e ↦ inl e | inr p ↦ inr (inr p) ] }

-- what was put whole was put in part
pub put_at-partly : (at : ℕ) (from held : List ℕ) → at + length from ≤ length held → PartlyPut at from held (put_at at from held)
put_at-partly at from held fits = record { as_long = length-put_at at from held fits; each = each }
  where
    each : (k : ℕ) → (slice_index (put_at at from held) k ≡ slice_index held k) ⊎ ((at ≤ k) × (k < at + length from) × (slice_index (put_at at from held) k ≡ slice_index from (k - at)))
    each k = elim (cases_lt k at) [
      | inl below ↦ inl (get_or-put_at-below k at from held 0 below (omega arith))
      | inr above ↦ elim (cases_lt k (at + length from)) [
        | inl within ↦ inr (
          above,
          within,
          ap (slice_index (put_at at from held)) (let split : k ≡ at + (k - at) = omega arith in split)
              ∙ get_or-put_at-inside (k - at) at from held 0 (omega arith) (omega arith),
        )
        | inr past ↦ inl (get_or-put_at-past k at from held 0 past (omega arith))
      ]
    ]

-- The three writes of a block.
module _ (total block : ℕ) (inside : block < total) (from held : List ℕ) (whole : length held ≡ image_len total) (long : length from ≡ 32768) where
  abbrev first : List ℕ
  first = with_state block torn_state held

  abbrev second : List ℕ
  second = put_at (data_offset total block) from first

  first_long : length first ≡ length held
  first_long = length-put_at (state_offset block) (2 ∷ []) held (omega arith)

  second_long : length second ≡ length held
  second_long = length-put_at (data_offset total block) from first (omega (arith, first_long)) ∙ first_long

  abbrev aside : List ℕ
  aside = put_at (data_offset total block) from held

  aside_long : length aside ≡ length held
  aside_long = length-put_at (data_offset total block) from held (omega arith)

  -- but for the state byte, it does not matter whether the block was torn before
  no_matter : (k : ℕ) → k ≢ state_offset block → slice_index second k ≡ slice_index aside k
  no_matter k other = elim (cases_lt k (data_offset total block)) [
    | inl below ↦ get_or-put_at-below k (data_offset total block) from first 0 below (omega (arith, first_long)) ∙ byte_elsewhere (state_offset block) 2 held k (omega arith) other
        ∙ sym (get_or-put_at-below k (data_offset total block) from held 0 below (omega arith))
    | inr above ↦ elim (cases_lt k (data_offset total block + length from)) [
      | inl within ↦
          let split : k ≡ data_offset total block + (k - data_offset total block) = omega arith in
          ap (slice_index second) split ∙ get_or-put_at-inside (k - data_offset total block) (data_offset total block) from first 0 (omega arith) (omega (arith, first_long))
          ∙ sym (get_or-put_at-inside (k - data_offset total block) (data_offset total block) from held 0 (omega arith) (omega arith)) ∙ ap (slice_index aside) (sym split)
      | inr past ↦ get_or-put_at-past k (data_offset total block) from first 0 past (omega (arith, first_long)) ∙ byte_elsewhere (state_offset block) 2 held k (omega arith) other
          ∙ sym (get_or-put_at-past k (data_offset total block) from held 0 past (omega arith))
    ]
  ]

  pub three_writes : put_at (state_offset block) (1 ∷ []) second ≡ with_block total block from held
  three_writes =
      ext_get_or 0 _ _
      (length-put_at (state_offset block) (1 ∷ []) second (omega (arith, second_long)) ∙ second_long ∙ sym (length-put_at (state_offset block) (1 ∷ []) aside (omega (arith, aside_long)) ∙ aside_long))
      (λ k h. elim (cases_eq k (state_offset block)) [
        | inl e ↦ ap (slice_index (put_at (state_offset block) (1 ∷ []) second)) e ∙ byte_there (state_offset block) 1 second (omega (arith, second_long))
            ∙ sym (byte_there (state_offset block) 1 aside (omega (arith, aside_long))) ∙ ap (slice_index (put_at (state_offset block) (1 ∷ []) aside)) (sym e)
        | inr ne ↦ byte_elsewhere (state_offset block) 1 second k (omega (arith, second_long)) ne ∙ no_matter k ne
            ∙ sym (byte_elsewhere (state_offset block) 1 aside k (omega (arith, aside_long)) ne)
      ])

  puts_first : PutsInBlock total block from held first
  puts_first = puts_state total block from 2 held first (inl refl) (put_at-partly (state_offset block) (2 ∷ []) held (omega arith))

  puts_second : PutsInBlock total block from first second
  puts_second = puts_data total block from first second (put_at-partly (data_offset total block) from first (omega (arith, first_long)))

  -- each of the three failed half way
  pub puts_till_first : (after : List ℕ) → PartlyPut (state_offset block) (2 ∷ []) held after → PutsInBlock total block from held after
  puts_till_first after put = puts_state total block from 2 held after (inl refl) put

  pub puts_till_second : (after : List ℕ) → PartlyPut (data_offset total block) from first after → PutsInBlock total block from held after
  puts_till_second after put = puts_then total block from held first after puts_first (puts_data total block from first after put)

  pub puts_till_third : (after : List ℕ) → PartlyPut (state_offset block) (1 ∷ []) second after → PutsInBlock total block from held after
  puts_till_third after put =
      puts_then total block from held second after (puts_then total block from held first second puts_first puts_second)
      (puts_state total block from 1 second after (inr refl) put)

-- what a state byte says of the cell
pub dead_state_is : (state : ℕ) (held : List ℕ) → cell_of state held ≡ Dead → state ≡ dead_state
dead_state_is state held e = by_blank (state == 0) refl e
  where
    by_dead : (b : Bool) → (state == 3) ≡ b → (if b then Dead else Torn) ≡ Dead → state ≡ 3
    by_dead true is e = eqb-true state 3 is
    by_dead false is e = absurd (let clash : Torn ≡ Dead = e in cc)

    by_good : (b : Bool) → (if b then Good held else (if state == 3 then Dead else Torn)) ≡ Dead → state ≡ 3
    by_good true e = absurd (let clash : Good held ≡ Dead = e in cc)
    by_good false e = by_dead (state == 3) refl e

    by_blank : (b : Bool) → (state == 0) ≡ b → (if b then Blank else (if state == 1 then Good held else (if state == 3 then Dead else Torn))) ≡ Dead → state ≡ 3
    by_blank true is e = absurd (let clash : Blank ≡ Dead = e in cc)
    by_blank false is e = by_good (state == 1) e

pub dead_cell_of : (state : ℕ) (held : List ℕ) → state ≡ dead_state → cell_of state held ≡ Dead
dead_cell_of state held e = ap (λ s. cell_of s held) e

-- what a fate leaves under a dead block, and under one that is not
module _ (fate : Fate) (total block : ℕ) (from held : List ℕ) where
  pub bytes_left-dead : slice_index held (state_offset block) ≡ dead_state → held ≡ bytes_left fate total block from held
  bytes_left-dead dead = by_test (slice_index held (state_offset block) == 3) (eq-eqb (slice_index held (state_offset block)) 3 dead)
    where
      by_test : (b : Bool) → b ≡ true → held ≡ (if b then held else bytes_by fate total block from held)
      by_test true e = refl
      by_test false e = absurd (cc)

  pub bytes_left-alive : ¬ (slice_index held (state_offset block) ≡ dead_state) → bytes_by fate total block from held ≡ bytes_left fate total block from held
  bytes_left-alive alive = by_test (slice_index held (state_offset block) == 3) refl
    where
      by_test : (b : Bool) → (slice_index held (state_offset block) == 3) ≡ b → bytes_by fate total block from held ≡ (if b then held else bytes_by fate total block from held)
      by_test true e = absurd (alive (eqb-true (slice_index held (state_offset block)) 3 e))
      by_test false e = refl
