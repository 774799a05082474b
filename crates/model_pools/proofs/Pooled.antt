-- Where a logical block and a spare lie among the pools.
use Rattle.std.proofs.Common.{◌≡◌, ◌≢◌, ℕ, zero, suc, ◌-◌, ◌<◌, ◌≤◌, inl, inr, nat_lt, List, [], ◌∷◌, length, Some, sym, ◌∙◌, subst, arith}
use Rattle.std.specs.Prelude.{slice_get}
use Rattle.std.specs.List.{Contains}
use Rattle.std.proofs.lemmas.Bool.{cases_lt, cond-true, cond-false, lt-ltb, le-ltb}
use Rattle.std.proofs.lemmas.List.{length-append, get_or_default}
use Rattle.std.proofs.lemmas.List.Elements.{Contains-append_left, Contains-append_right, Contains-get_or}
use Rattle.model_geometry.proofs.DataBlocks.{Contains-slice_get}
use Rattle.model_pools.specs.Pools.{Pool, ArePools, logical_in, spares_in, pool_of, spares_at, block_in}

pub pool_here : (pool : Pool) (pools : List Pool) (i : ℕ) → i < length pool.blocks → pool_of (pool ∷ pools) i ≡ 0
pool_here pool pools i here = cond-true (nat_lt i (length pool.blocks)) 0 (suc (pool_of pools (i - length pool.blocks))) (lt-ltb i (length pool.blocks) here)

pub pool_later : (pool : Pool) (pools : List Pool) (i : ℕ) → length pool.blocks ≤ i → pool_of (pool ∷ pools) i ≡ suc (pool_of pools (i - length pool.blocks))
pool_later pool pools i later = cond-false (nat_lt i (length pool.blocks)) 0 (suc (pool_of pools (i - length pool.blocks))) (le-ltb i (length pool.blocks) later)

pub has_pool : (pools : List Pool) (i : ℕ) → i < length (logical_in pools) → pool_of pools i < length pools
has_pool [] i inside = absurd (omega (arith, inside))
has_pool (pool ∷ pools) i inside = elim (cases_lt i (length pool.blocks)) [
  | inl here ↦ (let at = pool_here pool pools i here in omega (arith, at))
  | inr later ↦
      (let at = pool_later pool pools i later in
      let rest = has_pool pools (i - length pool.blocks) (omega (arith, inside, later, length-append pool.blocks (logical_in pools))) in
      omega (arith, at, rest))
]

-- the spares of a pool are among all spares
pub pool_spares_among : (pools : List Pool) (pool block : ℕ) → Contains (spares_at pools pool) block → Contains (spares_in pools) block
pool_spares_among [] pool block (k, within, is) = absurd (let less : k < 0 = within in omega (arith, less))
pool_spares_among (p ∷ ps) zero block has = Contains-append_left p.spares (spares_in ps) block has
pool_spares_among (p ∷ ps) (suc pool) block has = Contains-append_right p.spares (spares_in ps) block (pool_spares_among ps pool block has)

pub spare_among : (pools : List Pool) (pool k spare : ℕ) → slice_get (spares_at pools pool) k ≡ Some spare → Contains (spares_in pools) spare
spare_among pools pool k spare at = pool_spares_among pools pool spare (Contains-slice_get (spares_at pools pool) k spare at)

-- no logical block is a spare
pub logical_apart : (pools : List Pool) → ArePools pools → (b : ℕ) → Contains (logical_in pools) b → ¬ Contains (spares_in pools) b
logical_apart pools lawful b (k, inside, is) spare =
    let here : block_in pools k ≡ b = get_or_default (logical_in pools) k 0 b inside ∙ is in
    lawful.apart k inside (subst (Contains (spares_in pools)) (sym here) spare)

-- a logical block's own block is one of the logical blocks
pub Contains-block_in : (pools : List Pool) (i : ℕ) → i < length (logical_in pools) → Contains (logical_in pools) (block_in pools i)
Contains-block_in pools i inside = Contains-get_or (logical_in pools) i 0 inside

-- and no spare
pub own_no_spare : (pools : List Pool) → ArePools pools → (i : ℕ) → i < length (logical_in pools) → (b : ℕ) → Contains (spares_in pools) b → b ≢ block_in pools i
own_no_spare pools lawful i inside b has same = lawful.apart i inside (subst (Contains (spares_in pools)) same has)
