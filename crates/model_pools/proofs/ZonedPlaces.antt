-- Where the logical blocks of each zone stand, of pools of zones that lie one after another.
use Rattle.std.proofs.Common.{◌≡◌, ℕ, suc, ◌+◌, ◌-◌, ◌<◌, List, [], ◌∷◌, ◌++◌, length, map, refl, sym, ap, ◌∙◌, arith}
use Rattle.std.specs.Prelude.{slice_index}
use Rattle.std.specs.List.{range_with_len}
use Rattle.std.proofs.lemmas.List.{length-append, append_assoc, get_or_append_left, get_or-append-add}
use Rattle.std.proofs.lemmas.List.FromFn.{length-map-range_with_len}
use Rattle.model_geometry.proofs.Ranges.{range_with_len-append}
use Rattle.model_pools.specs.Pools.{Pool, logical_in, pool_of, block_in}
use Rattle.model_pools.proofs.Pooled.{pool_here, pool_later}

-- ---- pools behind others

pub logical_in-append : (xs ys : List Pool) → logical_in (xs ++ ys) ≡ logical_in xs ++ logical_in ys
logical_in-append [] ys = refl
logical_in-append (p ∷ xs) ys = ap (λ (l : List ℕ). p.blocks ++ l) (logical_in-append xs ys) ∙ sym (append_assoc p.blocks (logical_in xs) (logical_in ys))

-- the pool of a logical block that stands behind those of other pools
pub pool_of_behind : (xs ys : List Pool) (i : ℕ) → pool_of (xs ++ ys) (length (logical_in xs) + i) ≡ length xs + pool_of ys i
pool_of_behind [] ys i = let e : 0 + i ≡ i = omega arith in omega (arith, ap (pool_of ys) e)
pool_of_behind (p ∷ xs) ys i =
    let long = length-append p.blocks (logical_in xs) in
    let at : ℕ = length (p.blocks ++ logical_in xs) + i in
    let later = pool_later p (xs ++ ys) at (omega (arith, long)) in
    let back : at - length p.blocks ≡ length (logical_in xs) + i = omega (arith, long) in
    omega (arith, later, ap (pool_of (xs ++ ys)) back, pool_of_behind xs ys i)

-- its block
pub block_in_behind : (xs ys : List Pool) (i : ℕ) → block_in (xs ++ ys) (length (logical_in xs) + i) ≡ block_in ys i
block_in_behind xs ys i =
    ap (λ (l : List ℕ). slice_index l (length (logical_in xs) + i)) (logical_in-append xs ys)
    ∙ get_or-append-add (logical_in xs) (logical_in ys) i 0

pub map-append_pools : (f : ℕ → Pool) (xs ys : List ℕ) → map f (xs ++ ys) ≡ map f xs ++ map f ys
map-append_pools f [] ys = refl
map-append_pools f (x ∷ xs) ys = ap (λ (l : List Pool). f x ∷ l) (map-append_pools f xs ys)

-- ---- zones

module _ (group : ℕ → Pool) where
  abbrev groups : ℕ → ℕ → List Pool
  groups a m = map group (range_with_len a m)

  -- the pools of some zones are those of the first ones, that of the next, and those of the rest
  pub groups_split : (a k r : ℕ) → groups a (k + (r + 1)) ≡ groups a k ++ (group (a + k) ∷ groups (a + k + 1) r)
  groups_split a k r =
      let one : r + 1 ≡ suc r = omega arith in
      ap (map group) (range_with_len-append a k (r + 1))
      ∙ map-append_pools group (range_with_len a k) (range_with_len (a + k) (r + 1))
      ∙ ap (λ (n : ℕ). groups a k ++ map group (range_with_len (a + k) n)) one

  -- the j-th logical block of a zone: its block, and its pool
  module _ (a k r j : ℕ) (inside : j < length (group (a + k)).blocks) where
    pub zone_block_at : block_in (groups a (k + (r + 1))) (length (logical_in (groups a k)) + j) ≡ slice_index (group (a + k)).blocks j
    zone_block_at =
        ap (λ (p : List Pool). block_in p (length (logical_in (groups a k)) + j)) (groups_split a k r)
        ∙ block_in_behind (groups a k) (group (a + k) ∷ groups (a + k + 1) r) j
        ∙ get_or_append_left (group (a + k)).blocks (logical_in (groups (a + k + 1) r)) 0 j inside

    pub zone_pool_at : pool_of (groups a (k + (r + 1))) (length (logical_in (groups a k)) + j) ≡ k
    zone_pool_at =
        let here = pool_here (group (a + k)) (groups (a + k + 1) r) j inside in
        let many = length-map-range_with_len group a k in
        let behind = pool_of_behind (groups a k) (group (a + k) ∷ groups (a + k + 1) r) j in
        ap (λ (p : List Pool). pool_of p (length (logical_in (groups a k)) + j)) (groups_split a k r)
        ∙ (omega (arith, behind, here, many))
