-- The front of a buffer after uses of blocks in turn.
use Rattle.std.proofs.Common.{◌≡◌, ℕ, zero, suc, ◌+◌, ◌<◌, ◌≤◌, true, List, [], ◌∷◌, length, take, refl, sym, ap, ◌∙◌, subst, arith}
use Rattle.std.specs.Prelude.{◌==◌, not}
use Rattle.std.specs.List.{filter}
use Rattle.std.proofs.lemmas.Bool.{cond-true, ne_eqb}
use Rattle.std.proofs.lemmas.List.{take-take, take_all, length-take}
use Rattle.model_sectors.specs.Uses.{touched_from, last_numbers}

-- each of these numbers is below this one
abbrev AreBelow : ℕ → List ℕ → Type 0
AreBelow limit [] = Unit {0}
AreBelow limit (x ∷ xs) = (x < limit) × AreBelow limit xs

below_more : (a b : ℕ) (xs : List ℕ) → a ≤ b → AreBelow a xs → AreBelow b xs
below_more a b [] le below = below
below_more a b (x ∷ xs) le below = let h = below.0 in (omega (arith, h, le), below_more a b xs le below.1)

last_below : (first count j : ℕ) → AreBelow (first + count) (last_numbers first count j)
last_below first count zero = tt
last_below first zero (suc j) = tt
last_below first (suc count) (suc j) = (omega arith, below_more (first + count) (first + suc count) (last_numbers first count j) (omega arith) (last_below first count j))

-- where the front of a list is such, a test for another number leaves it
front_kept : (n : ℕ) (j : ℕ) (xs ys : List ℕ) → take j xs ≡ ys → AreBelow n ys → take j (filter (λ other. not (other == n)) xs) ≡ ys
front_kept n zero xs ys is below = is
front_kept n (suc j) [] ys is below = is
front_kept n (suc j) (x ∷ xs) ys is below =
    let front : AreBelow n (x ∷ take j xs) = subst (AreBelow n) (sym is) below in
    let less = front.0 in
    let passes : not (x == n) ≡ true = ap not (ne_eqb x n (λ (same : x ≡ n). omega (arith, less, same))) in
    ap (take (suc j)) (cond-true (not (x == n)) (x ∷ filter (λ other. not (other == n)) xs) (filter (λ other. not (other == n)) xs) passes)
    ∙ ap (λ (l : List ℕ). x ∷ l) (front_kept n j xs (take j xs) refl front.1)
    ∙ is

-- one use more, in any room
front_in_room : (room : ℕ) (b : List ℕ) (n j : ℕ) (ys : List ℕ) → suc j ≤ room → take j b ≡ ys → AreBelow n ys → take (suc j) (take room (n ∷ filter (λ other. not (other == n)) b)) ≡ n ∷ ys
front_in_room room b n j ys within is below =
    take-take (suc j) room (n ∷ filter (λ other. not (other == n)) b) within
    ∙ ap (λ (l : List ℕ). n ∷ l) (front_kept n j b ys is below)

pub front_is : (b : List ℕ) (first k j : ℕ) → j ≤ k → j ≤ 8 → take j (touched_from b first k) ≡ last_numbers first k j
front_is b first k zero le few = refl
front_is b first zero (suc j) le few = absurd (omega (arith, le))
front_is b first (suc k) (suc j) le few =
    front_in_room 8 (touched_from b first k) (first + k) j (last_numbers first k j) few (front_is b first k j (omega (arith, le)) (omega (arith, few))) (last_below first k j)

few_in_room : (room : ℕ) (b : List ℕ) (n : ℕ) → length (take room (n ∷ filter (λ other. not (other == n)) b)) ≤ room
few_in_room room b n = omega (arith, length-take room (n ∷ filter (λ other. not (other == n)) b))

pub few : (b : List ℕ) (first k : ℕ) → 1 ≤ k → length (touched_from b first k) ≤ 8
few b first zero some = absurd (omega (arith, some))
few b first (suc k) some = few_in_room 8 (touched_from b first k) (first + k)

pub all_are : (b : List ℕ) (first k : ℕ) → 8 ≤ k → touched_from b first k ≡ last_numbers first k 8
all_are b first k many = sym (take_all 8 (touched_from b first k) (few b first k (omega (arith, many)))) ∙ front_is b first k 8 many (omega arith)

-- the last of a row are the last of its end
last_shift : (first k count j : ℕ) → j ≤ count → last_numbers first (k + count) j ≡ last_numbers (first + k) count j
last_shift first k count zero le = refl
last_shift first k zero (suc j) le = absurd (omega (arith, le))
last_shift first k (suc count) (suc j) le =
    let next : k + suc count ≡ suc (k + count) = omega arith in
    let same : first + (k + count) ≡ first + k + count = omega arith in
    ap (λ (n : ℕ). last_numbers first n (suc j)) next
    ∙ ap (λ (n : ℕ). n ∷ last_numbers first (k + count) j) same
    ∙ ap (λ (l : List ℕ). (first + k + count) ∷ l) (last_shift first k count j (omega (arith, le)))

pub before_does_not_matter : (b c : List ℕ) (first k : ℕ) → touched_from b first (k + 8) ≡ touched_from c (first + k) 8
before_does_not_matter b c first k = all_are b first (k + 8) (omega arith) ∙ last_shift first k 8 8 (omega arith) ∙ sym (all_are c (first + k) 8 (omega arith))
