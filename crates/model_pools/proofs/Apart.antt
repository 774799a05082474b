-- The free spares are different blocks.
use Rattle.std.proofs.Common.{◌≡◌, ◌≢◌, ℕ, zero, suc, ◌+◌, ◌-◌, ◌<◌, List, [], ◌∷◌, ◌++◌, Some, refl, sym, ap, ◌∙◌, arith, length, get_or, length-append}
use Rattle.std.specs.Prelude.{slice_index}
use Rattle.std.specs.List.{AllPairs}
use Rattle.std.proofs.lemmas.List.{get_or_append_left, get_or-append_right}
use Rattle.std.proofs.lemmas.List.Kept.{AllPairs-filter}
use Rattle.std.proofs.lemmas.Option.{slice_get-get_or}
use Rattle.model_lists.specs.declared.sdl.SdlEntry.{SdlEntry}
use Rattle.model_pools.specs.Pools.{Pool, ArePools, spares_in, spares_at, spares_for, pool_of, is_unnamed, free_in}

-- all elements are different
abbrev pub Apart : List ℕ → Type 0
Apart xs = AllPairs (λ (x y : ℕ). x ≢ y) xs

apart_front : (xs ys : List ℕ) → Apart (xs ++ ys) → Apart xs
apart_front xs ys apart i j d less h =
    let long = length-append xs ys in
    λ same. apart i j d less (omega arith) (get_or_append_left xs ys d i (omega arith) ∙ same ∙ sym (get_or_append_left xs ys d j h))

apart_rest : (xs ys : List ℕ) → Apart (xs ++ ys) → Apart ys
apart_rest xs ys apart i j d less h =
    let long = length-append xs ys in
    λ same. apart (length xs + i) (length xs + j) d (omega arith) (omega arith) (past i ∙ same ∙ sym (past j))
  where
    past : (k : ℕ) → get_or (xs ++ ys) (length xs + k) d ≡ get_or ys k d
    past k =
        let back : length xs + k - length xs ≡ k = omega arith in
        get_or-append_right xs ys (length xs) (length xs + k) d refl (omega arith) ∙ ap (λ (m : ℕ). get_or ys m d) back

-- all spares are different
all_apart : (pools : List Pool) → ArePools pools → Apart (spares_in pools)
all_apart pools lawful i j d less h =
    λ same.
    let x = get_or (spares_in pools) j d in
    let e = lawful.spares i j x (slice_get-get_or (spares_in pools) i d (omega arith) ∙ ap Some same) (slice_get-get_or (spares_in pools) j d h) in
    omega (arith, e)

-- so are those of a pool
at_apart : (pools : List Pool) (pool : ℕ) → Apart (spares_in pools) → Apart (spares_at pools pool)
at_apart [] pool apart = λ i j d less h. absurd (let l : j < 0 = h in omega (arith, l))
at_apart (p ∷ ps) zero apart = apart_front p.spares (spares_in ps) apart
at_apart (p ∷ ps) (suc pool) apart = at_apart ps pool (apart_rest p.spares (spares_in ps) apart)

-- the free spares of a logical block are different
pub free_apart_in : (pools : List Pool) (entries : List SdlEntry) → ArePools pools → (i j k : ℕ) → j < k → k < length (free_in pools entries i)
    → slice_index (free_in pools entries i) j ≢ slice_index (free_in pools entries i) k
free_apart_in pools entries lawful i j k less h =
    AllPairs-filter (λ (x y : ℕ). x ≢ y) (is_unnamed entries) (spares_for pools i) (at_apart pools (pool_of pools i) (all_apart pools lawful)) j k 0 less h
