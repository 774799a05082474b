-- A pool that is cut out of a rising list: n of the first are spares, taken from the last of them down; the next are logical
-- blocks; and the others are spares again, taken from the last down.
use Rattle.std.proofs.Common.{◌≡◌, ℕ, ◌+◌, ◌-◌, ◌<◌, ◌≤◌, ◌⊎◌, inl, inr, ⊎_elim, List, [], ◌∷◌, ◌++◌, length, take, drop, get_or, Some, refl, sym, ap, ◌∙◌, subst, arith}
use Rattle.std.specs.Prelude.{reverse, slice_get, slice_index}
use Rattle.std.specs.List.{Contains}
use Rattle.std.specs.List.Sorted.{IsStrictlyIncreasing}
use Rattle.std.proofs.lemmas.Bool.{cases_lt}
use Rattle.std.proofs.lemmas.List.{append-nil, length-append, length-take, length-drop, length-reverse, get_or-take, get_or-drop, get_or-reverse, get_or_append_left, get_or-append_right}
use Rattle.std.proofs.lemmas.List.Elements.{Contains-append_cases}
use Rattle.std.proofs.lemmas.Option.{slice_get-get_or, slice_get_within, get_or_from_slice_get}
use Rattle.model_geometry.proofs.DataBlocks.{Contains-slice_get}
use Rattle.model_pools.specs.Pools.{ArePools}
use Rattle.model_pools.proofs.Listed.{same_index}

module _ (U : List ℕ) (b n : ℕ) (fits : b + n ≤ length U) where
  abbrev spares : List ℕ
  spares = reverse (take b U) ++ reverse (drop (b + n) U)

  pub logical_many : length (take n (drop b U) ++ []) ≡ n
  logical_many = omega (arith, length-append (take n (drop b U)) [], length-take n (drop b U), length-drop b U, fits)

  pub logical_at : (i : ℕ) → i < n → slice_index (take n (drop b U) ++ []) i ≡ slice_index U (b + i)
  logical_at i inside = ap (λ (l : List ℕ). slice_index l i) (append-nil (take n (drop b U))) ∙ get_or-take n (drop b U) i 0 inside ∙ get_or-drop b U i 0

  first_many : length (reverse (take b U)) ≡ b
  first_many = omega (arith, length-reverse (take b U), length-take b U, fits)

  last_many : length (reverse (drop (b + n) U)) ≡ length U - (b + n)
  last_many = length-reverse (drop (b + n) U) ∙ length-drop (b + n) U

  pub spares_many : length spares ≡ b + (length U - (b + n))
  spares_many = omega (arith, length-append (reverse (take b U)) (reverse (drop (b + n) U)), first_many, last_many)

  -- the place in the table of the spare that is taken as the k-th
  abbrev pub PlaceOfSpare : (k place : ℕ) → Type 0
  PlaceOfSpare k place = ((k < b) × (place ≡ b - 1 - k)) ⊎ ((b ≤ k) × (k - b < length U - (b + n)) × (place ≡ length U - 1 - (k - b)))

  spare_index : (k place : ℕ) → PlaceOfSpare k place → slice_index spares k ≡ slice_index U place
  spare_index k place (inl first) =
      let less = first.0 in
      get_or_append_left (reverse (take b U)) (reverse (drop (b + n) U)) 0 k (omega (arith, first_many, less))
      ∙ get_or-reverse (take b U) k 0 (omega (arith, less, length-take b U, fits))
      ∙ ap (slice_index (take b U)) (omega (arith, length-take b U, fits, first.1))
      ∙ get_or-take b U place 0 (omega (arith, less, first.1))
  spare_index k place (inr last) =
      let from = last.0 in
      let inside = last.1 in
      let back : b + n + (length (drop (b + n) U) - 1 - (k - b)) ≡ place = omega (arith, length-drop (b + n) U, inside, last.2, fits) in
      get_or-append_right (reverse (take b U)) (reverse (drop (b + n) U)) b k 0 first_many from
      ∙ get_or-reverse (drop (b + n) U) (k - b) 0 (omega (arith, inside, length-drop (b + n) U))
      ∙ get_or-drop (b + n) U (length (drop (b + n) U) - 1 - (k - b)) 0
      ∙ ap (slice_index U) back

  pub spare_there : (k place : ℕ) → PlaceOfSpare k place → slice_get spares k ≡ Some (slice_index U place)
  spare_there k place at = slice_get-get_or spares k 0 (within at) ∙ ap Some (spare_index k place at)
    where
      within : PlaceOfSpare k place → k < length spares
      within (inl first) = let less = first.0 in omega (arith, less, spares_many)
      within (inr last) = let inside = last.1 in omega (arith, inside, spares_many)

  -- each spare stands at some place of the table
  pub place_of_spare : (k : ℕ) → k < length spares → (place : ℕ) × PlaceOfSpare k place
  place_of_spare k inside = elim (cases_lt k b) [
    | inl less ↦ (b - 1 - k, inl (less, refl))
    | inr from ↦ (length U - 1 - (k - b), inr (from, omega (arith, inside, spares_many, from), refl))
  ]

  pub place_inside : (k place : ℕ) → PlaceOfSpare k place → (place < length U) × ((place < b) ⊎ (b + n ≤ place))
  place_inside k place (inl first) = let less = first.0 in (omega (arith, less, first.1, fits), inl (omega (arith, less, first.1)))
  place_inside k place (inr last) = let inside = last.1 in (omega (arith, inside, last.2), inr (omega (arith, inside, last.2)))

  same_spare : (j k place : ℕ) → PlaceOfSpare j place → PlaceOfSpare k place → j ≡ k
  same_spare j k place (inl p) (inl q) = let l = p.0 in let m = q.0 in omega (arith, l, m, p.1, q.1)
  same_spare j k place (inl p) (inr q) = absurd (let l = p.0 in let m = q.1 in omega (arith, l, m, p.1, q.2, fits))
  same_spare j k place (inr p) (inl q) = absurd (let l = p.1 in let m = q.0 in omega (arith, l, m, p.2, q.1, fits))
  same_spare j k place (inr p) (inr q) = let l = p.1 in let m = q.1 in let f = p.0 in let g = q.0 in omega (arith, l, m, f, g, p.2, q.2)

  -- a place outside the logical blocks is that of a spare
  pub spare_at_place : (place : ℕ) → place < length U → (place < b) ⊎ (b + n ≤ place) → (k : ℕ) × PlaceOfSpare k place
  spare_at_place place inside (inl less) = (b - 1 - place, inl (omega (arith, less), omega (arith, less)))
  spare_at_place place inside (inr from) = (b + (length U - 1 - place), inr (omega arith, omega (arith, inside, from), omega (arith, inside, from)))

  module _ (rise : IsStrictlyIncreasing U) where
    one_place : (j k : ℕ) → j < length U → k < length U → slice_index U j ≡ slice_index U k → j ≡ k
    one_place j k = same_index U rise j k 0

    spares_differ : (j k block : ℕ) → slice_get spares j ≡ Some block → slice_get spares k ≡ Some block → j ≡ k
    spares_differ j k block at at' =
        let p = place_of_spare j (slice_get_within spares j block at) in
        let q = place_of_spare k (slice_get_within spares k block at') in
        let same : slice_index U p.0 ≡ slice_index U q.0 =
        sym (spare_index j p.0 p.1) ∙ get_or_from_slice_get spares j block 0 at ∙ sym (get_or_from_slice_get spares k block 0 at') ∙ spare_index k q.0 q.1 in
        let e : p.0 ≡ q.0 = one_place p.0 q.0 (place_inside j p.0 p.1).0 (place_inside k q.0 q.1).0 same in
        same_spare j k q.0 (subst (λ (m : ℕ). PlaceOfSpare j m) e p.1) q.1

    no_spare : (place : ℕ) → b ≤ place → place < b + n → ¬ Contains spares (slice_index U place)
    no_spare place from before (k, within, is) =
        let p = place_of_spare k within in
        let inside = place_inside k p.0 p.1 in
        let same : slice_index U p.0 ≡ slice_index U place = sym (spare_index k p.0 p.1) ∙ get_or_default k within (slice_index U place) ∙ is in
        let e : p.0 ≡ place = one_place p.0 place inside.0 (omega (arith, before, fits)) same in
        ⊎_elim (λ less. omega (arith, less, e, from)) (λ past. omega (arith, past, e, before)) inside.1
      where
        get_or_default : (k : ℕ) → k < length spares → (d : ℕ) → slice_index spares k ≡ get_or spares k d
        get_or_default k within d = get_or_from_slice_get spares k (get_or spares k d) 0 (slice_get-get_or spares k d within)

    pub pools_lawful : ArePools (record { blocks = take n (drop b U); spares = spares } ∷ [])
    pools_lawful = record {
      blocks = λ i j inside inside' same.
          let l : i < n = omega (arith, inside, logical_many) in
          let m : j < n = omega (arith, inside', logical_many) in
          let e = one_place (b + i) (b + j) (omega (arith, l, fits)) (omega (arith, m, fits)) (sym (logical_at i l) ∙ same ∙ logical_at j m) in
          omega (arith, e);
      spares = λ j k block at at'. spares_differ j k block (ap (λ (l : List ℕ). slice_get l j) (sym (append-nil spares)) ∙ at) (ap (λ (l : List ℕ). slice_get l k) (sym (append-nil spares)) ∙ at');
      apart = λ i inside has.
          let l : i < n = omega (arith, inside, logical_many) in
          no_spare (b + i) (omega arith) (omega (arith, l)) (subst (λ (x : ℕ). Contains spares x) (logical_at i l) (subst (λ (s : List ℕ). Contains s (slice_index (take n (drop b U) ++ []) i)) (append-nil spares) has));
    }

  -- ---- what a block at a place of the table is

  module _ (place block : ℕ) (at : slice_get U place ≡ Some block) where
    here : slice_index U place ≡ block
    here = get_or_from_slice_get U place block 0 at

    pub is_logical : b ≤ place → place - b < n → slice_get (take n (drop b U) ++ []) (place - b) ≡ Some block
    is_logical from inside =
        let back : b + (place - b) ≡ place = omega (arith, from) in
        slice_get-get_or (take n (drop b U) ++ []) (place - b) 0 (omega (arith, inside, logical_many))
        ∙ ap Some (logical_at (place - b) inside ∙ ap (slice_index U) back ∙ here)

    pub is_spare : (place < b) ⊎ (b + n ≤ place) → Contains (spares ++ []) block
    is_spare outside =
        let k = spare_at_place place (slice_get_within U place block at) outside in
        subst (λ (s : List ℕ). Contains s block) (sym (append-nil spares)) (Contains-slice_get spares k.0 block (spare_there k.0 place k.1 ∙ ap Some here))

  -- a block that is not in the table is neither
  pub is_neither : (block : ℕ) → ¬ Contains U block → ¬ Contains ((take n (drop b U) ++ []) ++ (spares ++ [])) block
  is_neither block out has = ⊎_elim (λ l. logical_case (subst (λ (s : List ℕ). Contains s block) (append-nil (take n (drop b U))) l)) (λ r. spare_case (subst (λ (s : List ℕ). Contains s block) (append-nil spares) r))
      (Contains-append_cases (take n (drop b U) ++ []) (spares ++ []) block has)
    where
      logical_case : ¬ Contains (take n (drop b U)) block
      logical_case (k, within, is) =
          let l : k < n = omega (arith, within, length-take n (drop b U)) in
          out (b + k, omega (arith, l, fits), sym (get_or-drop b U k block) ∙ sym (get_or-take n (drop b U) k block l) ∙ is)

      spare_case : ¬ Contains spares block
      spare_case (k, within, is) =
          let p = place_of_spare k within in
          let inside = place_inside k p.0 p.1 in
          out (Contains-slice_get U p.0 block
          (slice_get-get_or U p.0 0 inside.0 ∙ ap Some (sym (spare_index k p.0 p.1) ∙ get_or_from_slice_get spares k (get_or spares k block) 0 (slice_get-get_or spares k block within) ∙ is)))
