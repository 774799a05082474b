-- A table of zones as its calls see it, and how one is made.
use Rattle.std.proofs.Common.{◌≡◌, ℕ, ◌+◌, ◌-◌, ◌<◌, ◌≤◌, List, ◌++◌, length, leb, true, false, Some, sym, ap, ◌∙◌, subst, arith}
use Rattle.std.specs.Prelude.{slice_get, slice_index}
use Rattle.std.specs.List.{Contains}
use Rattle.std.specs.List.Sorted.{IsNonDecreasingBy, IsPartitionPoint}
use Rattle.std.proofs.lemmas.Bool.{leb-true, leb-false}
use Rattle.std.proofs.lemmas.Option.{slice_get_within}
use Rattle.model_places.specs.Places.{zone_count, zone_first}
use Rattle.model_pools.specs.Pools.{logical_in, spares_in, block_in, pool_of}
use Rattle.ram_layout.proofs.SlipPools.{blocks_few}
use Rattle.ram_runs.specs.declared.Run.{Run}
use Rattle.ram_runs.specs.Runs.{blocks_in}
use Rattle.ram_groups.specs.declared.zone_layout.ZoneLayout.TheInside.{Inside}
use Rattle.ram_groups.specs.Zoning.{ZoneTable, zone_table_in, zone_pools, IsZoned, IsCutIntoZones, IsZoneTable, IsZoneOfPlace}
use Rattle.ram_groups.proofs.Cutting.{start_within, starts_rising, zone_begun, neither_in, pools_many, logical_many, place_inside, logical_at, pool_at}

module _ (inside : Inside) (table : ZoneTable) (view : zone_table_in inside ≡ table) (whole : IsZoneTable inside) where
  pub geometry_is : inside.geometry ≡ table.shape
  geometry_is = ap (λ (t : ZoneTable). t.shape) view

  pub zones_are : inside.geometry.zones ≡ table.shape.zones
  zones_are = ap (λ (t : ZoneTable). t.shape.zones) view

  pub runs_are : blocks_in inside.runs.items ≡ table.blocks
  runs_are = ap (λ (t : ZoneTable). t.blocks) view

  pub starts_are : inside.starts.items ≡ table.starts
  starts_are = ap (λ (t : ZoneTable). t.starts) view

  pub count_is : (z : ℕ) → zone_count inside.geometry z ≡ zone_count table.shape z
  count_is z = ap (λ (t : ZoneTable). zone_count t.shape z) view

  pub first_of : (z : ℕ) → zone_first inside.geometry z ≡ zone_first table.shape z
  first_of z = ap (λ (t : ZoneTable). zone_first t.shape z) view

  pub zoned_by : IsZoned table.shape
  zoned_by = subst (λ (t : ZoneTable). IsZoned t.shape) view whole.zoned

  pub cut_by : IsCutIntoZones table.shape table.blocks table.starts
  cut_by = subst (λ (t : ZoneTable). IsCutIntoZones t.shape t.blocks t.starts) view whole.cut

  -- there are few blocks
  pub few_blocks : length table.blocks ≤ 147016
  few_blocks =
      let few = blocks_few 0 0 inside.runs.items whole.table (omega arith) in
      omega (arith, few, whole.small, ap length runs_are)

  pub small_start : (z : ℕ) → z ≤ table.shape.zones → slice_index table.starts z ≤ 147016
  small_start z within = (let h = start_within table.shape table.blocks table.starts zoned_by cut_by z within in omega (arith, h, few_blocks))

  -- ---- the zone of a number

  pub number_below : (i : ℕ) → i < length (logical_in (zone_pools table)) → i < zone_first inside.geometry inside.geometry.zones
  number_below i below =
      omega (arith, below, logical_many table.shape table.blocks table.starts zoned_by cut_by, first_of table.shape.zones, ap (zone_first inside.geometry) zones_are)

  module _ (z i : ℕ) (within : z < inside.geometry.zones) (from : zone_first inside.geometry z ≤ i) (before : i < zone_first inside.geometry z + zone_count inside.geometry z) where
    pub zone_within : z < table.shape.zones
    zone_within = omega (arith, within, zones_are)

    after_in : i - zone_first table.shape z < zone_count table.shape z
    after_in = omega (arith, from, before, first_of z, count_is z)

    back : zone_first table.shape z + (i - zone_first table.shape z) ≡ i
    back = omega (arith, from, first_of z)

    module _ (place : ℕ) (place_is : place ≡ slice_index table.starts z + (i - zone_first inside.geometry z)) where
      same_place : place ≡ slice_index table.starts z + (i - zone_first table.shape z)
      same_place = omega (arith, place_is, first_of z)

      pub place_within : place < length table.blocks
      place_within =
          let below = place_inside table.shape table.blocks table.starts zoned_by cut_by z (i - zone_first table.shape z) zone_within after_in in
          let end = start_within table.shape table.blocks table.starts zoned_by cut_by (z + 1) (let w = zone_within in omega (arith, w)) in
          omega (arith, below, end, same_place)

      pub physical_by : slice_index table.blocks place ≡ block_in (zone_pools table) i
      physical_by =
          ap (slice_index table.blocks) same_place
          ∙ sym (logical_at table.shape table.blocks table.starts zoned_by cut_by z (i - zone_first table.shape z) zone_within after_in)
          ∙ ap (block_in (zone_pools table)) back

    pub pool_by : z ≡ pool_of (zone_pools table) i
    pool_by = sym (pool_at table.shape table.blocks table.starts zoned_by cut_by z (i - zone_first table.shape z) zone_within after_in) ∙ ap (pool_of (zone_pools table)) back

    pub pool_within : z < length (zone_pools table)
    pool_within = let w = zone_within in omega (arith, w, pools_many table.shape table.blocks table.starts)

  -- ---- the zone of a place

  module _ (seen : List ℕ) (same : seen ≡ inside.starts.items) where
    seen_is : seen ≡ table.starts
    seen_is = same ∙ starts_are

    pub seen_rising : IsNonDecreasingBy (λ (start : ℕ). start) seen
    seen_rising = subst (IsNonDecreasingBy (λ (start : ℕ). start)) (sym seen_is) (starts_rising table.shape table.blocks table.starts zoned_by cut_by)

    module _ (place count : ℕ) (below : place < length table.blocks) (bound : count ≤ length seen)
        (point : IsPartitionPoint (λ (start : ℕ). leb start place ≡ true) (λ (start : ℕ). leb start place ≡ false) seen count) where
      low : (k : ℕ) → k < count → slice_index table.starts k ≤ place
      low k less =
          let h = leb-true (slice_index seen k) place (point.0 k 0 (omega (arith, less, bound)) less) in
          omega (arith, h, ap (λ (l : List ℕ). slice_index l k) seen_is)

      high : (k : ℕ) → count ≤ k → k < length table.starts → place < slice_index table.starts k
      high k from less =
          let h = leb-false (slice_index seen k) place (point.1 k 0 from (omega (arith, less, ap length seen_is))) in
          omega (arith, h, ap (λ (l : List ℕ). slice_index l k) seen_is)

      pub begun : (1 ≤ count) × (count ≤ table.shape.zones)
      begun = zone_begun table.shape table.blocks table.starts zoned_by cut_by place count below (omega (arith, bound, ap length seen_is)) low high

      pub zone_by : IsZoneOfPlace table place (count - 1)
      zone_by =
          let some = begun.0 in
          let few = begun.1 in
          let one : count - 1 + 1 ≡ count = omega (arith, some) in
          let past = high count (omega arith) (omega (arith, few, cut_by.many)) in
          record {
            inside = omega (arith, some, few);
            from = low (count - 1) (omega (arith, some));
            before = omega (arith, past, ap (slice_index table.starts) one);
          }

  -- ---- what a block is

  module _ (runs : List Run) (same : runs ≡ inside.runs.items) (block : ℕ) where
    seen_blocks : blocks_in runs ≡ table.blocks
    seen_blocks = ap blocks_in same ∙ runs_are

    pub neither_by : ¬ Contains (blocks_in runs) block → ¬ Contains (logical_in (zone_pools table) ++ spares_in (zone_pools table)) block
    neither_by out = neither_in table.shape table.blocks table.starts block (subst (λ (l : List ℕ). ¬ Contains l block) seen_blocks out)

    pub there_by : (n : ℕ) → slice_get (blocks_in runs) n ≡ Some block → slice_get table.blocks n ≡ Some block
    there_by n at = ap (λ (l : List ℕ). slice_get l n) (sym seen_blocks) ∙ at

    pub below_by : (n : ℕ) → slice_get (blocks_in runs) n ≡ Some block → n < length table.blocks
    below_by n at = slice_get_within table.blocks n block (there_by n at)

  pub seen_at : (runs : List Run) → runs ≡ inside.runs.items → (n : ℕ) → slice_index (blocks_in runs) n ≡ slice_index table.blocks n
  seen_at runs same n = ap (λ (l : List ℕ). slice_index l n) (ap blocks_in same ∙ runs_are)

  pub seen_many : (runs : List Run) → runs ≡ inside.runs.items → length (blocks_in runs) ≡ length table.blocks
  seen_many runs same = ap length (ap blocks_in same ∙ runs_are)
