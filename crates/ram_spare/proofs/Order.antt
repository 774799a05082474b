-- The walk through the free spares of a pool, one after another.
use Rattle.std.proofs.Common.{◌≡◌, ℕ, zero, suc, ◌+◌, ◌-◌, ◌<◌, ◌≤◌, ⊎_elim, Bool, true, false, not, cond, eqb, List, [], ◌∷◌, ◌++◌, length, get_or, drop, Option, Some, None, IfSome, slice_get, slice_index, refl, sym, ap, ◌∙◌, subst, arith}
use Rattle.std.specs.List.{Contains, IsDistinct, filter, find, after_first, position_or_len}
use Rattle.std.proofs.lemmas.Bool.{cases_Bool, cond-true, cond-false, eq-eqb, ne_eqb}
use Rattle.std.proofs.lemmas.List.{get_or_append_left, get_or-append_right, length-append}
use Rattle.std.proofs.lemmas.Map.Keys.{IsDistinct-from_apart, IsDistinct-tail}
use Rattle.std.proofs.lemmas.Option.{slice_get-get_or, slice_get_within, get_or_from_slice_get}
use Rattle.model_geometry.proofs.DataBlocks.{Contains-slice_get}
use Rattle.model_lists.specs.declared.sdl.SdlEntry.{SdlEntry}
use Rattle.model_pools.specs.Pools.{Pool, ArePools, spares_in, spares_at, is_unnamed, free_at, next_in}
use Rattle.model_pools.proofs.Listed.{Contains-from_filter}
use Rattle.model_pools.proofs.Replacements.{first_is_alone}
use Rattle.ram_spare.specs.Spares.{spare_before}
use Rattle.ram_spare.proofs.Walks.{find_first}

-- ---- what a filter keeps, one after another

after_here : (q : ℕ → Bool) (x : ℕ) (xs : List ℕ) → q x ≡ true → after_first q (x ∷ xs) ≡ xs
after_here q x xs t = ap (λ b. drop (cond (not b) (1 + position_or_len q xs) 0 + 1) (x ∷ xs)) t

after_later : (q : ℕ → Bool) (x : ℕ) (xs : List ℕ) → q x ≡ false → after_first q (x ∷ xs) ≡ after_first q xs
after_later q x xs f =
    let next : 1 + position_or_len q xs + 1 ≡ suc (position_or_len q xs + 1) = omega arith in
    ap (λ b. drop (cond (not b) (1 + position_or_len q xs) 0 + 1) (x ∷ xs)) f ∙ ap (λ n. drop n (x ∷ xs)) next

-- what is kept of the others is none of the first
kept_differs : (p : ℕ → Bool) (x : ℕ) (xs : List ℕ) → IsDistinct eqb (x ∷ xs) → (k last : ℕ) → slice_get (filter p xs) k ≡ Some last → eqb x last ≡ false
kept_differs p x xs apart k last at =
    ne_eqb x last (λ e. first_is_alone x xs apart (subst (Contains xs) (sym e) (Contains-from_filter p xs last (Contains-slice_get (filter p xs) k last at)).1))

-- Of numbers that differ, the first that passes after one that is kept is the next that is kept.
pub find_next : (p : ℕ → Bool) (xs : List ℕ) → IsDistinct eqb xs → (k last : ℕ) → slice_get (filter p xs) k ≡ Some last
    → find p (after_first (λ b. eqb b last) xs) ≡ slice_get (filter p xs) (suc k)
find_next p [] apart k last at = absurd cc
find_next p (x ∷ xs) apart zero last at =
    ⊎_elim
    (λ t.
    let kept = cond-true (p x) (x ∷ filter p xs) (filter p xs) t in
    let same : ◌≡◌ {A = Option ℕ} (Some x) (Some last) = sym (ap (λ ys. slice_get ys 0) kept) ∙ at in
    let e : x ≡ last = grind arith in
    ap (find p) (after_here (λ b. eqb b last) x xs (eq-eqb x last e)) ∙ find_first p xs ∙ sym (ap (λ ys. slice_get ys 1) kept))
    (λ f.
    let kept = cond-false (p x) (x ∷ filter p xs) (filter p xs) f in
    let at' : slice_get (filter p xs) 0 ≡ Some last = sym (ap (λ ys. slice_get ys 0) kept) ∙ at in
    ap (find p) (after_later (λ b. eqb b last) x xs (kept_differs p x xs apart 0 last at')) ∙ find_next p xs (IsDistinct-tail eqb x xs apart) 0 last at' ∙ sym (ap (λ ys. slice_get ys 1) kept))
    (cases_Bool (p x))
find_next p (x ∷ xs) apart (suc k) last at =
    ⊎_elim
    (λ t.
    let kept = cond-true (p x) (x ∷ filter p xs) (filter p xs) t in
    let at' : slice_get (filter p xs) k ≡ Some last = sym (ap (λ ys. slice_get ys (suc k)) kept) ∙ at in
    ap (find p) (after_later (λ b. eqb b last) x xs (kept_differs p x xs apart k last at')) ∙ find_next p xs (IsDistinct-tail eqb x xs apart) k last at' ∙ sym (ap (λ ys. slice_get ys (suc (suc k))) kept))
    (λ f.
    let kept = cond-false (p x) (x ∷ filter p xs) (filter p xs) f in
    let at' : slice_get (filter p xs) (suc k) ≡ Some last = sym (ap (λ ys. slice_get ys (suc k)) kept) ∙ at in
    ap (find p) (after_later (λ b. eqb b last) x xs (kept_differs p x xs apart (suc k) last at')) ∙ find_next p xs (IsDistinct-tail eqb x xs apart) (suc k) last at' ∙ sym (ap (λ ys. slice_get ys (suc (suc k))) kept))
    (cases_Bool (p x))

-- ---- the spares of a pool among all

-- where the spares of a pool begin among all
abbrev offset_of : List Pool → ℕ → ℕ
offset_of [] pool = 0
offset_of (first ∷ pools) zero = 0
offset_of (first ∷ pools) (suc pool) = length first.spares + offset_of pools pool

among_all : (pools : List Pool) (pool k block : ℕ) → slice_get (spares_at pools pool) k ≡ Some block → slice_get (spares_in pools) (offset_of pools pool + k) ≡ Some block
among_all [] pool k block at = absurd (let none : ◌≡◌ {A = Option ℕ} None (Some block) = at in cc)
among_all (first ∷ pools) zero k block at =
    let within = slice_get_within first.spares k block at in
    let none_before : 0 + k ≡ k = omega arith in
    ap (slice_get (first.spares ++ spares_in pools)) none_before
    ∙ slice_get-get_or (first.spares ++ spares_in pools) k 0 (omega (arith, within, length-append first.spares (spares_in pools)))
    ∙ ap Some (get_or_append_left first.spares (spares_in pools) 0 k within ∙ get_or_from_slice_get first.spares k block 0 at)
among_all (first ∷ pools) (suc pool) k block at =
    let rest = among_all pools pool k block at in
    let within = slice_get_within (spares_in pools) (offset_of pools pool + k) block rest in
    let same : length first.spares + offset_of pools pool + k - length first.spares ≡ offset_of pools pool + k = omega arith in
    slice_get-get_or (first.spares ++ spares_in pools) (length first.spares + offset_of pools pool + k) 0 (omega (arith, within, length-append first.spares (spares_in pools)))
    ∙ ap Some (get_or-append_right first.spares (spares_in pools) (length first.spares) (length first.spares + offset_of pools pool + k) 0 refl (omega arith)
    ∙ ap (slice_index (spares_in pools)) same ∙ get_or_from_slice_get (spares_in pools) (offset_of pools pool + k) block 0 rest)

-- so they differ
pub pool_differs : (pools : List Pool) (pool : ℕ) → ArePools pools → IsDistinct eqb (spares_at pools pool)
pool_differs pools pool lawful =
    let xs = spares_at pools pool in
    IsDistinct-from_apart eqb xs
    (λ i j d less within. ne_eqb (get_or xs i d) (get_or xs j d)
    (λ e. let first = among_all pools pool i (get_or xs j d) (slice_get-get_or xs i d (omega (arith, less, within)) ∙ ap Some e) in
    let last = among_all pools pool j (get_or xs j d) (slice_get-get_or xs j d within) in
    let same = lawful.spares (offset_of pools pool + i) (offset_of pools pool + j) (get_or xs j d) first last in
    omega (arith, same, less)))

-- ---- the walk

module _ (pools : List Pool) (entries : List SdlEntry) (pool : ℕ) where
  module _ (lawful : ArePools pools) where
    -- what comes after a free spare is the next one
    pub free_follows_at : (k : ℕ) → k < length (free_at pools entries pool) → slice_get (free_at pools entries pool) (k + 1) ≡ next_in pools entries pool (Some (slice_index (free_at pools entries pool) k))
    free_follows_at k within =
        let next : suc k ≡ k + 1 = omega arith in
        sym (find_next (is_unnamed entries) (spares_at pools pool) (pool_differs pools pool lawful) k (slice_index (free_at pools entries pool) k) (slice_get-get_or (free_at pools entries pool) k 0 within)
        ∙ ap (slice_get (free_at pools entries pool)) next)

    -- Asking for the next after the one before the k-th gives the k-th, and nothing where there are no more.
    pub next_is : (k : ℕ) → k ≤ length (free_at pools entries pool) → next_in pools entries pool (spare_before pools entries pool k) ≡ slice_get (free_at pools entries pool) k
    next_is zero within = refl
    next_is (suc k) within =
        let inside : k < length (free_at pools entries pool) = omega (arith, within) in
        let next : k + 1 ≡ suc k = omega arith in
        ap (next_in pools entries pool) (slice_get-get_or (free_at pools entries pool) k 0 inside)
        ∙ sym (free_follows_at k inside)
        ∙ ap (slice_get (free_at pools entries pool)) next

  -- what was given may be asked for
  pub may_ask : (k : ℕ) → IfSome (spare_before pools entries pool k) (Contains (spares_at pools pool))
  may_ask zero = tt
  may_ask (suc k) = by_cases (slice_get (free_at pools entries pool) k) refl
    where
      by_cases : (o : Option ℕ) → slice_get (free_at pools entries pool) k ≡ o → IfSome o (Contains (spares_at pools pool))
      by_cases None at = tt
      by_cases (Some spare) at = (Contains-from_filter (is_unnamed entries) (spares_at pools pool) spare (Contains-slice_get (free_at pools entries pool) k spare at)).1
