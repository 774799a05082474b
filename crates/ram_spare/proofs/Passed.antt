-- How far the free spares of a pool were passed, by turns.
use Rattle.std.proofs.Common.{◌≡◌, ℕ, zero, suc, ◌+◌, ◌-◌, ◌<◌, ◌≤◌, inl, inr, Bool, true, false, List, [], ◌∷◌, length, drop, drop_of_length-le, Option, Some, None, refl, sym, ap, ◌∙◌, arith}
use Rattle.std.specs.Prelude.{slice_get, slice_index}
use Rattle.std.specs.List.{filter}
use Rattle.std.proofs.lemmas.Bool.{cases_lt, cond-true, cond-false, true≢false}
use Rattle.std.proofs.lemmas.Option.{slice_get_within}
use Rattle.ram_spare.specs.declared.spare.FreeSpare.{FreeSpare}
use Rattle.ram_spare.specs.Turns.{AreUsed, IsNextFree, ArePassed}

same_in_some : {X : Type 0} {x y : X} → Some x ≡ Some y → x ≡ y
same_in_some h = cc

-- ---- what is left of a list from a place on

front_of : (xs : List ℕ) (k x : ℕ) (ys : List ℕ) → drop k xs ≡ x ∷ ys → (k < length xs) × (slice_index xs k ≡ x) × (drop (k + 1) xs ≡ ys)
front_of [] zero x ys is = absurd (let none : ◌≡◌ {A = List ℕ} [] (x ∷ ys) = is in cc)
front_of [] (suc k) x ys is = absurd (let none : ◌≡◌ {A = List ℕ} [] (x ∷ ys) = is in cc)
front_of (z ∷ zs) zero x ys is = (omega arith, ap (λ (l : List ℕ). slice_index l 0) is, ap (drop 1) is)
front_of (z ∷ zs) (suc k) x ys is =
    let rest = front_of zs k x ys is in
    let next : suc (k + 1) ≡ suc k + 1 = omega arith in
    (omega (arith, rest.0), rest.1, ap (λ (n : ℕ). drop n (z ∷ zs)) (sym next) ∙ rest.2)

ended_at : (xs : List ℕ) (k : ℕ) → drop k xs ≡ [] → length xs ≤ k
ended_at [] k is = omega arith
ended_at (z ∷ zs) zero is = absurd (let none : ◌≡◌ {A = List ℕ} (z ∷ zs) [] = is in cc)
ended_at (z ∷ zs) (suc k) is = let rest = ended_at zs k is in omega (arith, rest)

module _ (p : ℕ → Bool) where
  none_left : (k : ℕ) → filter p (drop k []) ≡ []
  none_left zero = refl
  none_left (suc k) = refl

  keep_here : (xs : List ℕ) (k b : ℕ) → slice_get xs k ≡ Some b → p b ≡ true → filter p (drop k xs) ≡ b ∷ filter p (drop (k + 1) xs)
  keep_here [] k b at passes = absurd (let none : ◌≡◌ {A = Option ℕ} None (Some b) = at in cc)
  keep_here (x ∷ xs) zero b at passes =
      let same : x ≡ b = same_in_some at in
      cond-true (p x) (x ∷ filter p xs) (filter p xs) (ap p same ∙ passes) ∙ ap (λ (y : ℕ). y ∷ filter p xs) same
  keep_here (x ∷ xs) (suc k) b at passes =
      let next : suc (k + 1) ≡ suc k + 1 = omega arith in
      keep_here xs k b at passes ∙ ap (λ (n : ℕ). b ∷ filter p (drop n (x ∷ xs))) next

  keep_step : (xs : List ℕ) (k : ℕ) → ((b : ℕ) → slice_get xs k ≡ Some b → p b ≡ false) → filter p (drop k xs) ≡ filter p (drop (k + 1) xs)
  keep_step [] k fails = none_left k ∙ sym (none_left (k + 1))
  keep_step (x ∷ xs) zero fails = cond-false (p x) (x ∷ filter p xs) (filter p xs) (fails x refl)
  keep_step (x ∷ xs) (suc k) fails =
      let next : suc (k + 1) ≡ suc k + 1 = omega arith in
      keep_step xs k fails ∙ ap (λ (n : ℕ). filter p (drop n (x ∷ xs))) next

  keep_skip : (xs : List ℕ) (a n : ℕ) → AreUsed p xs a (a + n) → filter p (drop a xs) ≡ filter p (drop (a + n) xs)
  keep_skip xs a zero used = let same : a ≡ a + 0 = omega arith in ap (λ (m : ℕ). filter p (drop m xs)) same
  keep_skip xs a (suc n) used =
      let next : a + n + 1 ≡ a + suc n = omega arith in
      keep_skip xs a n (λ k b from below. used k b from (omega (arith, below)))
      ∙ keep_step xs (a + n) (λ b. used (a + n) b (omega arith) (omega arith))
      ∙ ap (λ (m : ℕ). filter p (drop m xs)) next

  module _ (xs : List ℕ) where
    -- Before a cursor that fits comes no free spare.
    pub none_passed : (cursor : ℕ) → AreUsed p xs 0 cursor → ArePassed p xs 0 cursor
    none_passed cursor used =
        let same : 0 + cursor ≡ cursor = omega arith in
        record {
          few = omega arith;
          rest = keep_skip xs 0 cursor (λ k b from below. used k b from (omega (arith, below))) ∙ ap (λ (m : ℕ). filter p (drop m xs)) same;
          passed = λ k b below at free. absurd (true≢false (sym free ∙ used k b (omega arith) below at));
        }

    module _ (count turn : ℕ) (so_far : ArePassed p xs count turn) where
      -- The next free spare is the one after those,
      module _ (found : FreeSpare) (is : IsNextFree p xs turn found) where
        begins : drop count (filter p xs) ≡ found.block ∷ filter p (drop (found.turn + 1) xs)
        begins =
            let from = is.from in
            let back : turn + (found.turn - turn) ≡ found.turn = omega (arith, from) in
            so_far.rest
            ∙ keep_skip xs turn (found.turn - turn) (λ k b from' below. is.used k b from' (omega (arith, below, back)))
            ∙ ap (λ (m : ℕ). filter p (drop m xs)) back
            ∙ keep_here xs found.turn found.block is.here is.free

        pub next_within : count < length (filter p xs)
        next_within = (front_of (filter p xs) count found.block (filter p (drop (found.turn + 1) xs)) begins).0

        pub next_is_there : slice_index (filter p xs) count ≡ found.block
        next_is_there = (front_of (filter p xs) count found.block (filter p (drop (found.turn + 1) xs)) begins).1

        pub one_more_passed : ArePassed p xs (count + 1) (found.turn + 1)
        one_more_passed = record {
          few = let within = next_within in omega (arith, within);
          rest = (front_of (filter p xs) count found.block (filter p (drop (found.turn + 1) xs)) begins).2;
          passed = by_turn;
        }
          where
            by_turn : (k b : ℕ) → k < found.turn + 1 → slice_get xs k ≡ Some b → p b ≡ true → (j : ℕ) × (j < count + 1) × (slice_index (filter p xs) j ≡ b)
            by_turn k b below at free = elim (cases_lt k turn) [
              | inl before ↦ (let there = so_far.passed k b before at free in (there.0, omega (arith, there.1), there.2))
              | inr from ↦ elim (cases_lt k found.turn) [
                | inl between ↦ absurd (true≢false (sym free ∙ is.used k b from between at))
                | inr past ↦
                    (let here : k ≡ found.turn = omega (arith, below, past) in
                    let same : b ≡ found.block = same_in_some (sym at ∙ ap (slice_get xs) here ∙ is.here) in
                    (count, omega arith, next_is_there ∙ sym same))
              ]
            ]

      -- and where there is none, those are all.
      pub all_passed : AreUsed p xs turn (length xs) → count ≡ length (filter p xs)
      all_passed used =
          let few = so_far.few in
          let past = ended_at (filter p xs) count
          (so_far.rest
          ∙ keep_skip xs turn (length xs) (λ k b from below at. used k b from (slice_get_within xs k b at) at)
          ∙ ap (filter p) (drop_of_length-le xs (omega arith))) in
          omega (arith, few, past)
