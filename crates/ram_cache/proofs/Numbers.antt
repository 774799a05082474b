-- The numbers of pending blocks: that they are apart, how many are among some, and changes of the bytes alone.
use Rattle.std.proofs.Common.{◌≡◌, ℕ, zero, suc, ◌+◌, ◌-◌, ◌*◌, ◌<◌, ◌≤◌, Bool, true, false, List, [], ◌∷◌, ◌++◌, length, take, drop, get_or, set, map, refl, sym, ap, ◌∙◌, subst, inl, inr, arith, length-take, length-append}
use Rattle.std.specs.Prelude.{cond, ◌⊎◌}
use Rattle.std.specs.List.{Contains, filter}
use Rattle.std.proofs.lemmas.List.{take-set-le, drop-set-add, take-set, take_more_set, get_or_read, get_or_default, get_or-take, length-drop, map-append, take_more, length-map, take_all, drop_all, append-nil}
use Rattle.std.proofs.lemmas.List.Edits.{map_over_more}
use Rattle.std.proofs.Math.Seq.{take-add}
use Rattle.std.proofs.lemmas.List.Elements.{filter-append, Contains-append_cases}
use Rattle.model_bytes.proofs.Laws.{length-put_at}
use Rattle.model_buffer.specs.Buffer.{numbers_in}
use Rattle.model_sectors.specs.Requests.{start_in, end_in, merged_in, part_of}
use Rattle.model_sectors.proofs.Pieces.{length_part_of}
use Rattle.model_cache.specs.Shown.{AreApart}
use Rattle.model_cache.proofs.Members.{Contains-none, Contains-first, Contains-later, Contains-cases}
use Rattle.ram_cache.specs.Rooms.{pending_at}

-- ---- by the numbers alone

pub has_number : (p : List (ℕ × List ℕ)) (i : ℕ) (bytes : List ℕ) → Contains p (i, bytes) → Contains (numbers_in p) i
has_number [] i bytes has = absurd (Contains-none (i, bytes) has)
has_number (held ∷ p) i bytes has = elim (Contains-cases held p (i, bytes) has) [
  | inl is ↦ subst (Contains (held.0 ∷ numbers_in p)) (ap (λ (x : ℕ × List ℕ). x.0) is) (Contains-first held.0 (numbers_in p))
  | inr more ↦ Contains-later held.0 (numbers_in p) i (has_number p i bytes more)
]

pub number_held : (p : List (ℕ × List ℕ)) (i : ℕ) → Contains (numbers_in p) i → (bytes : List ℕ) × Contains p (i, bytes)
number_held [] i has = absurd (Contains-none i has)
number_held (held ∷ p) i has = elim (Contains-cases held.0 (numbers_in p) i has) [
  | inl is ↦ (held.1, subst (λ (n : ℕ). Contains (held ∷ p) (n, held.1)) is (Contains-first held p))
  | inr more ↦ let found = number_held p i more in (found.0, Contains-later held p (i, found.0) (found.1))
]

-- blocks with the same numbers are apart if the others are
pub apart_numbers : (p q : List (ℕ × List ℕ)) → numbers_in p ≡ numbers_in q → AreApart p → AreApart q
apart_numbers [] [] same apart = tt
apart_numbers [] (held ∷ q) same apart = absurd (let w = same in cc)
apart_numbers (held ∷ p) [] same apart = absurd (let w = same in cc)
apart_numbers (held ∷ p) (other ∷ q) same apart =
    let first : held.0 ≡ other.0 = cc in
    let rest : numbers_in p ≡ numbers_in q = cc in (
      λ bytes has.
          let found = number_held p held.0 (subst (λ (l : List ℕ). Contains l held.0) (sym rest) (subst (Contains (numbers_in q)) (sym first) (has_number q other.0 bytes has))) in
          apart.0 (found.0) (found.1),
      apart_numbers p q rest (apart.1),
    )

-- ---- how many are among some

pub counted_more : (t : ℕ → Bool) (p : List (ℕ × List ℕ)) (k : ℕ) → k < length p
    → length (filter t (numbers_in (take (k + 1) p))) ≡ length (filter t (numbers_in (take k p))) + cond (t ((pending_at p k).0)) 1 0
counted_more t p k within =
    ap (λ (l : List (ℕ × List ℕ)). length (filter t (numbers_in l))) (take_more p k (0, []) within)
    ∙ ap (λ (l : List ℕ). length (filter t l)) (map-append (λ (x : ℕ × List ℕ). x.0) (take k p) (pending_at p k ∷ []))
    ∙ ap length (filter-append t (numbers_in (take k p)) ((pending_at p k).0 ∷ []))
    ∙ length-append (filter t (numbers_in (take k p))) (filter t ((pending_at p k).0 ∷ []))
    ∙ ap (λ (m : ℕ). length (filter t (numbers_in (take k p))) + m) (one (t ((pending_at p k).0)))
  where
    one : (b : Bool) → length (cond b ((pending_at p k).0 ∷ []) []) ≡ cond b 1 0
    one true = refl
    one false = refl

-- ---- a change of one room

module _ {X : Type 0} where
  pub take_set : (n k : ℕ) (xs : List X) (y : X) → take n (set xs k y) ≡ set (take n xs) k y
  take_set zero k xs y = refl
  take_set (suc n) k [] y = refl
  take_set (suc n) zero (x ∷ xs) y = refl
  take_set (suc n) (suc k) (x ∷ xs) y = ap (λ (l : List X). x ∷ l) (take_set n k xs y)

  pub Contains-set : (xs : List X) (k : ℕ) (y q : X) → Contains (set xs k y) q → (y ≡ q) ⊎ Contains xs q
  Contains-set [] k y q has = absurd (Contains-none q has)
  Contains-set (x ∷ xs) zero y q has = elim (Contains-cases y xs q has) [ inl is ↦ inl is | inr more ↦ inr (Contains-later x xs q more) ]
  Contains-set (x ∷ xs) (suc k) y q has = elim (Contains-cases x (set xs k y) q has) [
    | inl is ↦ inr (subst (Contains (x ∷ xs)) is (Contains-first x xs))
    | inr more ↦ elim (Contains-set xs k y q more) [ inl is ↦ inl is | inr there ↦ inr (Contains-later x xs q there) ]
  ]

-- a room behind the pending blocks
module _ (items : List (ℕ × List ℕ)) (count staged : ℕ) (y : ℕ × List ℕ) where
  pub same_front : take count (set items (count + staged) y) ≡ take count items
  same_front = take-set-le count items (count + staged) y (omega arith)

  pub same_staged : take staged (drop count (set items (count + staged) y)) ≡ take staged (drop count items)
  same_staged = ap (take staged) (drop-set-add count items staged y) ∙ take-set (drop count items) staged y

  pub one_staged : count + staged < length items → take (staged + 1) (drop count (set items (count + staged) y)) ≡ take staged (drop count items) ++ y ∷ []
  one_staged room = ap (take (staged + 1)) (drop-set-add count items staged y) ∙ take_more_set (drop count items) staged y (omega (arith, room, length-drop count items))

-- ---- the bytes of a block with those of a request over them

pub merged_long : (lba n i : ℕ) (bytes held : List ℕ) → start_in lba i < end_in lba n i → length bytes ≡ 2048 * n → length held ≡ 32768 → length (merged_in lba n bytes i held) ≡ 32768
unfolding merged_in
merged_long lba n i bytes held some whole long =
    length-put_at (2048 * (start_in lba i - 16 * i)) (part_of lba n bytes i) held (omega (arith, some, long, length_part_of lba n bytes i whole)) ∙ long

-- ---- a change of one pending block

pub same_numbers : (p : List (ℕ × List ℕ)) (k : ℕ) (y : ℕ × List ℕ) → y.0 ≡ (pending_at p k).0 → numbers_in (set p k y) ≡ numbers_in p
same_numbers [] k y same = refl
same_numbers (held ∷ p) zero y same = ap (λ (n : ℕ). n ∷ numbers_in p) same
same_numbers (held ∷ p) (suc k) y same = ap (λ (l : List ℕ). held.0 ∷ l) (same_numbers p k y same)

module _ (items : List (ℕ × List ℕ)) (count k : ℕ) (was y : ℕ × List ℕ) (there : k < length (take count items)) (is : was ≡ get_or items k was) (same : y.0 ≡ was.0) where
  pub held_there : pending_at (take count items) k ≡ was
  held_there =
      let below = length-take count items in
      get_or-take count items k (0, []) (omega (arith, there, below)) ∙ sym (get_or_read items k was (omega (arith, there, below)) is (0, []))

  pub apart_set : AreApart (take count items) → AreApart (take count (set items k y))
  apart_set apart =
      subst AreApart (sym (take_set count k items y))
      (apart_numbers (take count items) (set (take count items) k y) (sym (same_numbers (take count items) k y (same ∙ sym (ap (λ (x : ℕ × List ℕ). x.0) held_there)))) apart)

  pub whole_set : length y.1 ≡ 32768 → ((i : ℕ) (bytes : List ℕ) → Contains (take count items) (i, bytes) → length bytes ≡ 32768)
      → (i : ℕ) (bytes : List ℕ) → Contains (take count (set items k y)) (i, bytes) → length bytes ≡ 32768
  whole_set long whole i bytes has = elim (Contains-set (take count items) k y (i, bytes) (subst (λ (l : List (ℕ × List ℕ)). Contains l (i, bytes)) (take_set count k items y) has)) [
    | inl e ↦ sym (ap (λ (x : ℕ × List ℕ). length x.1) e) ∙ long
    | inr there ↦ whole i bytes there
  ]

-- what is covered so far
module _ (f : (ℕ × List ℕ) → (ℕ × List ℕ)) (p : List (ℕ × List ℕ)) where
  pub covered_none : p ≡ map f (take 0 p) ++ drop 0 p
  covered_none = refl

  pub covered_more : (ys ys' : List (ℕ × List ℕ)) (k : ℕ) → k < length p → ys ≡ map f (take k p) ++ drop k p → ys' ≡ set ys k (f (pending_at ys k))
      → ys' ≡ map f (take (k + 1) p) ++ drop (k + 1) p
  covered_more ys ys' k within is put =
      let long : length ys ≡ length p = ap length is ∙ length-append (map f (take k p)) (drop k p) ∙ omega (arith, within, length-map (take k p) f, length-take k p, length-drop k p) in
      put ∙ map_over_more f p ys k (pending_at ys k) within is (get_or_default ys k (0, []) (pending_at ys k) (omega (arith, within, long)))

  pub covered_all : (ys : List (ℕ × List ℕ)) (k : ℕ) → length p ≤ k → ys ≡ map f (take k p) ++ drop k p → ys ≡ map f p
  covered_all ys k all is = is ∙ ap (λ (l : List (ℕ × List ℕ)). map f l ++ drop k p) (take_all k p all) ∙ ap (λ (l : List (ℕ × List ℕ)). map f p ++ l) (drop_all k p all) ∙ append-nil (map f p)

pub numbers_over : (f : (ℕ × List ℕ) → (ℕ × List ℕ)) → ((x : ℕ × List ℕ) → (f x).0 ≡ x.0) → (p : List (ℕ × List ℕ)) → numbers_in (map f p) ≡ numbers_in p
numbers_over f same [] = refl
numbers_over f same (held ∷ p) = ap (λ (n : ℕ). n ∷ numbers_in (map f p)) (same held) ∙ ap (λ (l : List ℕ). held.0 ∷ l) (numbers_over f same p)

-- ---- the blocks to come become pending

module _ (f : (ℕ × List ℕ) → (ℕ × List ℕ)) (same : (x : ℕ × List ℕ) → (f x).0 ≡ x.0) (p items fresh : List (ℕ × List ℕ)) (count staged : ℕ) (front : take count items ≡ map f p)
    (behind : take staged (drop count items) ≡ fresh) where
  pub all_taken : take (count + staged) items ≡ map f p ++ fresh
  all_taken = take-add count staged items ∙ ap (λ (l : List (ℕ × List ℕ)). l ++ take staged (drop count items)) front ∙ ap (λ (l : List (ℕ × List ℕ)). map f p ++ l) behind

  pub apart_taken : AreApart (p ++ fresh) → AreApart (take (count + staged) items)
  apart_taken apart =
      subst AreApart (sym all_taken)
      (apart_numbers (p ++ fresh) (map f p ++ fresh) (
      map-append (λ (x : ℕ × List ℕ). x.0) p fresh ∙ ap (λ (l : List ℕ). l ++ numbers_in fresh) (sym (numbers_over f same p)) ∙ sym (map-append (λ (x : ℕ × List ℕ). x.0) (map f p) fresh)) apart)

  pub whole_taken : ((i : ℕ) (bytes : List ℕ) → Contains (take count items) (i, bytes) → length bytes ≡ 32768)
      → ((i : ℕ) (bytes : List ℕ) → Contains fresh (i, bytes) → length bytes ≡ 32768)
      → (i : ℕ) (bytes : List ℕ) → Contains (take (count + staged) items) (i, bytes) → length bytes ≡ 32768
  whole_taken whole long i bytes has = elim (Contains-append_cases (map f p) fresh (i, bytes) (subst (λ (l : List (ℕ × List ℕ)). Contains l (i, bytes)) all_taken has)) [
    | inl there ↦ whole i bytes (subst (λ (l : List (ℕ × List ℕ)). Contains l (i, bytes)) (sym front) there)
    | inr there ↦ long i bytes there
  ]
