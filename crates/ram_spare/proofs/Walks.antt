-- The first of a pool's spares from some turn on that passes a test.
use Rattle.std.proofs.Common.{◌≡◌, ◌≢◌, ℕ, zero, suc, ◌+◌, ◌-◌, ◌<◌, ◌≤◌, inl, inr, eqb, nat_lt, Bool, true, false, List, [], ◌∷◌, length, get_or, drop, drop_of_length-le, Option, Some, None, refl, sym, ap, ◌∙◌, arith}
use Rattle.std.specs.Prelude.{slice_get, slice_index, if◌then◌else◌}
use Rattle.std.specs.List.{Contains, filter, find, after_first, position_or_len}
use Rattle.std.proofs.lemmas.Bool.{cases_Bool, cases_lt, cond-true, cond-false, eq-eqb, ne_eqb, lt-ltb, le-ltb}
use Rattle.std.proofs.lemmas.List.Sums.{position_or_len_is}
use Rattle.std.proofs.lemmas.Option.{slice_get-get_or, slice_get_within, get_or_from_slice_get}
use Rattle.model_lists.specs.declared.sdl.SdlEntry.{SdlEntry}
use Rattle.model_pools.specs.Pools.{Pool, spares_at, is_unnamed, next_in, CursorsFit}
use Rattle.ram_spare.specs.declared.spare.FreeSpare.{FreeSpare}
use Rattle.ram_spare.specs.Turns.{IsFirstTurn, BeginsAfter, AreUsed, IsNextFree}

same_in_some : {X : Type 0} {x y : X} → Some x ≡ Some y → x ≡ y
same_in_some h = cc

module _ (p : ℕ → Bool) where
  find_none_left : (k : ℕ) → find p (drop k []) ≡ None
  find_none_left zero = refl
  find_none_left (suc k) = refl

  -- the spare of the turn passes
  pub find_here : (xs : List ℕ) (k b : ℕ) → slice_get xs k ≡ Some b → p b ≡ true → find p (drop k xs) ≡ Some b
  find_here [] k b at passes = absurd (let none : None ≡ Some b = at in cc)
  find_here (x ∷ xs) zero b at passes =
      let same : x ≡ b = grind arith in
      cond-true (p x) (Some x) (find p xs) (ap p same ∙ passes) ∙ ap Some same
  find_here (x ∷ xs) (suc k) b at passes = find_here xs k b at passes

  -- it does not, or there is none
  pub find_step : (xs : List ℕ) (k : ℕ) → ((b : ℕ) → slice_get xs k ≡ Some b → p b ≡ false) → find p (drop k xs) ≡ find p (drop (k + 1) xs)
  find_step [] k fails = find_none_left k ∙ sym (find_none_left (k + 1))
  find_step (x ∷ xs) zero fails = cond-false (p x) (Some x) (find p xs) (fails x refl)
  find_step (x ∷ xs) (suc k) fails =
      let next : suc (k + 1) ≡ suc k + 1 = omega arith in
      find_step xs k fails ∙ ap (λ (n : ℕ). find p (drop n (x ∷ xs))) next

  -- the spare of the turn does not pass
  pub find_step_by : (xs : List ℕ) (k b : ℕ) → slice_get xs k ≡ Some b → p b ≡ false → find p (drop k xs) ≡ find p (drop (k + 1) xs)
  find_step_by xs k b at fails = find_step xs k (λ c at'. (let same : b ≡ c = same_in_some (sym at ∙ at') in ap p (sym same) ∙ fails))

  pub find_past : (xs : List ℕ) (k : ℕ) → length xs ≤ k → find p (drop k xs) ≡ None
  find_past xs k past = ap (find p) (drop_of_length-le xs past)

  pub past_none : (xs : List ℕ) (k : ℕ) → slice_get xs k ≡ None → length xs ≤ k
  past_none xs k none = elim (cases_lt k (length xs)) [
    | inl inside ↦ absurd (let some : None ≡ Some (get_or xs k 0) = sym none ∙ slice_get-get_or xs k 0 inside in cc)
    | inr past ↦ past
  ]

  pub find_at_end : (xs : List ℕ) (k : ℕ) → slice_get xs k ≡ None → find p (drop k xs) ≡ None
  find_at_end xs k none = find_past xs k (past_none xs k none)

  -- turns whose spares fail may be passed
  pub find_skip : (xs : List ℕ) (a n : ℕ) → ((k b : ℕ) → a ≤ k → k < a + n → slice_get xs k ≡ Some b → p b ≡ false) → find p (drop a xs) ≡ find p (drop (a + n) xs)
  find_skip xs a zero fails = let same : a ≡ a + 0 = omega arith in ap (λ (m : ℕ). find p (drop m xs)) same
  find_skip xs a (suc n) fails =
      let next : a + n + 1 ≡ a + suc n = omega arith in
      find_skip xs a n (λ k b from below. fails k b from (omega (arith, below)))
      ∙ find_step xs (a + n) (λ b. fails (a + n) b (omega arith) (omega arith))
      ∙ ap (λ (m : ℕ). find p (drop m xs)) next

  pub find_first : (xs : List ℕ) → find p xs ≡ slice_get (filter p xs) 0
  find_first [] = refl
  find_first (x ∷ xs) = elim (cases_Bool (p x)) [
    | inl t ↦ cond-true (p x) (Some x) (find p xs) t ∙ sym (ap (λ (ys : List ℕ). slice_get ys 0) (cond-true (p x) (x ∷ filter p xs) (filter p xs) t))
    | inr f ↦ cond-false (p x) (Some x) (find p xs) f ∙ find_first xs ∙ sym (ap (λ (ys : List ℕ). slice_get ys 0) (cond-false (p x) (x ∷ filter p xs) (filter p xs) f))
  ]

  module _ (xs : List ℕ) (cursor : ℕ) (fit : (k b : ℕ) → k < cursor → slice_get xs k ≡ Some b → p b ≡ false) where
    -- from the cursor on
    pub first_from_cursor : find p (drop cursor xs) ≡ slice_get (filter p xs) 0
    first_from_cursor =
        let same : 0 + cursor ≡ cursor = omega arith in
        sym (find_skip xs 0 cursor (λ k b from below. fit k b (omega (arith, below))) ∙ ap (λ (m : ℕ). find p (drop m xs)) same) ∙ find_first xs

    -- after a spare, and from the cursor on
    pub first_after : (last turn : ℕ) → IsFirstTurn xs last turn → find p (drop (if nat_lt cursor (turn + 1) then turn + 1 else cursor) xs) ≡ find p (after_first (λ b. eqb b last) xs)
    first_after last turn first = elim (cases_lt cursor (turn + 1)) [
      | inl less ↦ ap (λ (m : ℕ). find p (drop m xs)) (cond-true (nat_lt cursor (turn + 1)) (turn + 1) cursor (lt-ltb cursor (turn + 1) less)) ∙ after
      | inr from ↦
          let back : turn + 1 + (cursor - (turn + 1)) ≡ cursor = omega (arith, from) in
          ap (λ (m : ℕ). find p (drop m xs)) (cond-false (nat_lt cursor (turn + 1)) (turn + 1) cursor (le-ltb cursor (turn + 1) from))
          ∙ sym (find_skip xs (turn + 1) (cursor - (turn + 1)) (λ k b from' below. fit k b (omega (arith, below, back))) ∙ ap (λ (m : ℕ). find p (drop m xs)) back) ∙ after
    ]
      where
        after : find p (drop (turn + 1) xs) ≡ find p (after_first (λ b. eqb b last) xs)
        after =
            let at : position_or_len (λ b. eqb b last) xs ≡ turn =
            position_or_len_is (λ b. eqb b last) xs turn 0 (let h = first.within in omega (arith, h)) (λ k less. ne_eqb (slice_index xs k) last (first.not_before k less)) (λ _. eq-eqb (slice_index xs turn) last first.here) in
            ap (λ (n : ℕ). find p (drop (n + 1) xs)) (sym at)

-- ---- what a search finds

module _ (p : ℕ → Bool) (xs : List ℕ) (first : ℕ) where
  -- the spare of one more turn is used
  pub used_more : (turn block : ℕ) → AreUsed p xs first turn → slice_get xs turn ≡ Some block → p block ≡ false → AreUsed p xs first (turn + 1)
  used_more turn block used at fails k b from below here = elim (cases_lt k turn) [
    | inl less ↦ used k b from less here
    | inr past ↦
        (let same : k ≡ turn = omega (arith, below, past) in
        let one : b ≡ block = same_in_some (sym here ∙ ap (slice_get xs) same ∙ at) in
        ap p one ∙ fails)
  ]

  -- where the turns have ended, all are used
  pub used_all : (turn : ℕ) → AreUsed p xs first turn → slice_get xs turn ≡ None → AreUsed p xs first (length xs)
  used_all turn used none k b from below here = used k b from (let past = past_none p xs turn none in omega (arith, below, past)) here

  pub find_found : (found : FreeSpare) → IsNextFree p xs first found → find p (drop first xs) ≡ Some found.block
  find_found found is =
      let from = is.from in
      let back : first + (found.turn - first) ≡ found.turn = omega (arith, from) in
      find_skip p xs first (found.turn - first) (λ k b from' below. is.used k b from' (omega (arith, below, back)))
      ∙ ap (λ (n : ℕ). find p (drop n xs)) back ∙ find_here p xs found.turn found.block is.here is.free

  pub find_no_more : AreUsed p xs first (length xs) → find p (drop first xs) ≡ None
  find_no_more used =
      find_skip p xs first (length xs) (λ k b from' below at. used k b from' (slice_get_within xs k b at) at)
      ∙ find_past p xs (first + length xs) (omega arith)

-- what is found behind a spare and from the cursor on
module _ (pools : List Pool) (entries : List SdlEntry) (cursors : List ℕ) (pool : ℕ) (fit : CursorsFit pools entries cursors) (inside : pool < length cursors) where
  pub next_by : (first : ℕ) (after : Option ℕ) → BeginsAfter (spares_at pools pool) (slice_index cursors pool) first after
      → find (is_unnamed entries) (drop first (spares_at pools pool)) ≡ next_in pools entries pool after
  next_by first None is =
      ap (λ (n : ℕ). find (is_unnamed entries) (drop n (spares_at pools pool))) is
      ∙ first_from_cursor (is_unnamed entries) (spares_at pools pool) (slice_index cursors pool) (λ k b. fit pool k b inside)
  next_by first (Some last) is =
      ap (λ (n : ℕ). find (is_unnamed entries) (drop n (spares_at pools pool))) is.2
      ∙ first_after (is_unnamed entries) (spares_at pools pool) (slice_index cursors pool) (λ k b. fit pool k b inside) last is.0 is.1

-- ---- the turn of a spare

pub turn_here : (xs : List ℕ) (spare k other : ℕ) → slice_get xs k ≡ Some other → other ≡ spare → ((j : ℕ) → j < k → slice_index xs j ≢ spare) → IsFirstTurn xs spare k
turn_here xs spare k other at same before = record { within = slice_get_within xs k other at; here = get_or_from_slice_get xs k other 0 at ∙ same; not_before = before }

pub turn_more : (xs : List ℕ) (spare k other : ℕ) → slice_get xs k ≡ Some other → other ≢ spare → ((j : ℕ) → j < k → slice_index xs j ≢ spare) → (j : ℕ) → j < k + 1 → slice_index xs j ≢ spare
turn_more xs spare k other at differs before j below = elim (cases_lt j k) [
  | inl less ↦ before j less
  | inr from ↦
      (let same : j ≡ k = omega (arith, below, from) in
      λ is. differs (sym (get_or_from_slice_get xs k other 0 at) ∙ ap (slice_index xs) (sym same) ∙ is))
]

-- a spare of the pool is met before the end
pub turn_met : (xs : List ℕ) (spare k : ℕ) → Contains xs spare → length xs ≤ k → ((j : ℕ) → j < k → slice_index xs j ≢ spare) → ⊥
turn_met xs spare k (j, within, is) past before = before j (omega (arith, within, past)) (get_or_from_slice_get xs j spare 0 (slice_get-get_or xs j spare within ∙ ap Some is))

pub turn_met_none : (xs : List ℕ) (spare k : ℕ) → Contains xs spare → slice_get xs k ≡ None → ((j : ℕ) → j < k → slice_index xs j ≢ spare) → ⊥
turn_met_none xs spare k has none before = turn_met xs spare k has (past_none (λ _. true) xs k none) before
