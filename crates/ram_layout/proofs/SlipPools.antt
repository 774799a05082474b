-- The one pool of slipping, by places in the table.
use Rattle.std.proofs.Common.{◌≡◌, ℕ, zero, suc, ◌+◌, ◌-◌, ◌^◌, ◌<◌, ◌≤◌, ◌⊎◌, List, [], ◌∷◌, ◌++◌, length, take, drop, Some, refl, sym, ap, ◌∙◌, subst, arith}
use Rattle.std.specs.Prelude.{reverse, slice_get, vec_capacity}
use Rattle.std.specs.List.{Contains}
use Rattle.std.specs.List.Sorted.{IsStrictlyIncreasing}
use Rattle.std.proofs.lemmas.List.{length-append}
use Rattle.model_geometry.specs.declared.kinds.LayoutKind.TheVariants.{OneGroup}
use Rattle.model_geometry.specs.Geometry.{Shape, data_blocks}
use Rattle.model_lists.specs.declared.dds.PdlEntry.{PdlEntry}
use Rattle.model_lists.specs.Values.{Dds, pdl_blocks}
use Rattle.model_places.specs.Places.{unslipped, primary_count, count_of, pools_of}
use Rattle.model_places.specs.Valid.{IsValidPdl, IsValidOnSome}
use Rattle.model_places.proofs.ByKind as by_kind
use Rattle.model_places.proofs.Pools.{slips_are_all, unslipped_rise}
use Rattle.model_pools.specs.Pools.{Pool, ArePools, logical_in, spares_in, spares_at}
use Rattle.model_pools.proofs.Cuts.{logical_many, spares_many, pools_lawful, is_logical, is_spare, is_neither}
use Rattle.std.specs.List.{range_with_len}
use Rattle.std.proofs.lemmas.List.FromFn.{length-range_with_len}
use Rattle.ram_runs.specs.declared.Run.{Run}
use Rattle.ram_runs.specs.Runs.{blocks_in, AreRunsFrom, IsTable, end_of}
use Rattle.ram_layout.specs.declared.slip_layout.SlipLayout.TheInside.{Inside}
use Rattle.ram_layout.specs.Filling.{kept_in}
use Rattle.ram_layout.specs.Slipping.{SlipTable, table_in, slip_pools, IsSlippingOf, IsSlipTable}

-- The pool of a table is that of the structure and of the size of the area.
module _ (shape : Shape) (dds : Dds) (ssa : ℕ) (table : SlipTable) (one : shape.layout ≡ OneGroup) (valid : IsValidPdl shape dds) (area : IsValidOnSome shape ssa)
    (is : IsSlippingOf shape dds (count_of shape ssa) table) where
  abbrev one_pool : List ℕ → ℕ → ℕ → ℕ → List Pool
  one_pool U b n m = record { blocks = take n (drop b U); spares = reverse (take b U) ++ reverse (drop m U) } ∷ []

  pub slipping_is : slip_pools table ≡ pools_of shape dds ssa
  slipping_is =
      let all = slips_are_all shape one dds ssa valid area.1 in
      let count = count_of shape ssa in
      let rest : primary_count shape dds + count ≡ length (unslipped shape dds) - ssa = omega (arith, all) in
      ap (λ (l : List ℕ). one_pool l table.primary table.logical (table.primary + table.logical)) is.blocks_are
      ∙ ap (λ (b : ℕ). one_pool (unslipped shape dds) b table.logical (b + table.logical)) is.primary_is
      ∙ ap (λ (n : ℕ). one_pool (unslipped shape dds) (primary_count shape dds) n (primary_count shape dds + n)) is.logical_is
      ∙ ap (one_pool (unslipped shape dds) (primary_count shape dds) count) rest
      ∙ sym (by_kind.slip_pools shape one dds ssa)

-- With another size of the area it is still that of the structure.
module _ (shape : Shape) (dds : Dds) (logical ssa : ℕ) (table : SlipTable) (one : shape.layout ≡ OneGroup) (valid : IsValidPdl shape dds) (area : IsValidOnSome shape ssa) (is : IsSlippingOf shape dds logical table) where
  pub room_for_ssa : table.primary + count_of shape ssa ≤ length table.blocks
  room_for_ssa =
      let all = slips_are_all shape one dds ssa valid area.1 in
      omega (arith, all, is.primary_is, ap length is.blocks_are)

  pub resized : IsSlippingOf shape dds (count_of shape ssa) (record table { logical = count_of shape ssa })
  resized = record { same_shape = is.same_shape; blocks_are = is.blocks_are; primary_is = is.primary_is; logical_is = refl }

-- ---- as the calls see it

-- there are no more blocks than numbers before the end
pub blocks_few : (b i : ℕ) (runs : List Run) → AreRunsFrom b i runs → i ≤ b → i + length (blocks_in runs) ≤ end_of b runs
blocks_few b i [] t least = omega (arith, least)
blocks_few b i (r ∷ rs) t least =
    let first = t.0 in
    let on = blocks_few (r.first + r.len + 1) (i + r.len) rs t.3 (omega (arith, first, least)) in
    omega (arith, on, length-append (range_with_len r.first r.len) (blocks_in rs), length-range_with_len r.first r.len)

module _ (inside : Inside) (table : SlipTable) (view : table_in inside ≡ table) (whole : IsSlipTable inside) where
  abbrev blocks : List ℕ
  blocks = blocks_in inside.runs.items

  pub lawful_by : ArePools (slip_pools table)
  lawful_by = subst (λ (t : SlipTable). ArePools (slip_pools t)) view (pools_lawful blocks inside.primary inside.logical whole.fits whole.rise)

  pub physical_small : (i : ℕ) → i < length (logical_in (slip_pools table)) → inside.primary + i < 147017
  physical_small i below =
      let below' : i < length (logical_in (slip_pools (table_in inside))) = subst (λ (t : SlipTable). i < length (logical_in (slip_pools t))) (sym view) below in
      let few = blocks_few 0 0 inside.runs.items whole.table (omega arith) in
      omega (arith, below', logical_many blocks inside.primary inside.logical whole.fits, whole.fits, few, whole.small)

  module _ (seen : List Run) (same : seen ≡ inside.runs.items) (block : ℕ) where
    pub neither_by : ¬ Contains (blocks_in seen) block → ¬ Contains (logical_in (slip_pools table) ++ spares_in (slip_pools table)) block
    neither_by out =
        subst (λ (t : SlipTable). ¬ Contains (logical_in (slip_pools t) ++ spares_in (slip_pools t)) block) view
        (is_neither blocks inside.primary inside.logical whole.fits block (subst (λ (l : List Run). ¬ Contains (blocks_in l) block) same out))

    module _ (n : ℕ) (at : slice_get (blocks_in seen) n ≡ Some block) where
      there : slice_get blocks n ≡ Some block
      there = ap (λ (l : List Run). slice_get (blocks_in l) n) (sym same) ∙ at

      pub spare_by : (n < inside.primary) ⊎ (inside.primary + inside.logical ≤ n) → Contains (spares_in (slip_pools table)) block
      spare_by outside = subst (λ (t : SlipTable). Contains (spares_in (slip_pools t)) block) view (is_spare blocks inside.primary inside.logical whole.fits n block there outside)

      pub logical_by : inside.primary ≤ n → n - inside.primary < inside.logical → slice_get (logical_in (slip_pools table)) (n - inside.primary) ≡ Some block
      logical_by from below = subst (λ (t : SlipTable). slice_get (logical_in (slip_pools t)) (n - inside.primary) ≡ Some block) view (is_logical blocks inside.primary inside.logical whole.fits n block there from below)

-- ---- a table is made

module _ (inside : Inside) (shape : Shape) (dds : Dds) (ssa : ℕ) (entries : List PdlEntry) (one : shape.layout ≡ OneGroup) (valid : IsValidPdl shape dds) (area : IsValidOnSome shape ssa) (are : entries ≡ dds.entries)
    (made : blocks_in inside.runs.items ≡ kept_in (pdl_blocks entries) (data_blocks shape)) (primary : inside.primary ≡ primary_count shape dds) (logical : inside.logical ≡ count_of shape ssa) where
  pub blocks_made : blocks_in inside.runs.items ≡ unslipped shape dds
  unfolding unslipped
  blocks_made = made ∙ ap (λ (l : List PdlEntry). kept_in (pdl_blocks l) (data_blocks shape)) are

  pub whole_made : IsTable inside.runs.items → end_of 0 inside.runs.items ≤ 147016 → 4127 ≤ vec_capacity inside.runs → IsSlipTable inside
  whole_made table small roomy =
      let all = slips_are_all shape one dds ssa valid area.1 in
      record {
        table = table;
        small = small;
        rise = subst IsStrictlyIncreasing (sym blocks_made) (unslipped_rise shape dds);
        fits = omega (arith, all, primary, logical, ap length blocks_made);
        roomy = roomy;
      }

  pub slipping_made : inside.geometry ≡ shape → IsSlippingOf shape dds (count_of shape ssa) (table_in inside)
  slipping_made same = record { same_shape = same; blocks_are = blocks_made; primary_is = primary; logical_is = logical }

-- its spares are few
few_by : (inside : Inside) → IsSlipTable inside → (pool : ℕ) → length (spares_at (slip_pools (table_in inside)) pool) < 2 ^ 32
few_by inside whole zero =
    omega (arith, spares_many (blocks_in inside.runs.items) inside.primary inside.logical whole.fits, blocks_few 0 0 inside.runs.items whole.table (omega arith), whole.small, whole.fits)
few_by inside whole (suc pool) = omega arith

pub few_in : (inside : Inside) (table : SlipTable) → table_in inside ≡ table → IsSlipTable inside → (pool : ℕ) → length (spares_at (slip_pools table) pool) < 2 ^ 32
few_in inside table view whole pool = subst (λ (t : SlipTable). length (spares_at (slip_pools t) pool) < 2 ^ 32) view (few_by inside whole pool)

-- ---- another size of the supplementary spare area

module _ (inside : Inside) (table : SlipTable) (view : table_in inside ≡ table) (ssa : ℕ) (one : table.shape.layout ≡ OneGroup) (area : IsValidOnSome table.shape ssa) where
  one_inside : inside.geometry.layout ≡ OneGroup
  one_inside = subst (λ (t : SlipTable). t.shape.layout ≡ OneGroup) (sym view) one

  area_inside : IsValidOnSome inside.geometry ssa
  area_inside = subst (λ (t : SlipTable). IsValidOnSome t.shape ssa) (sym view) area

  module _ (count psa : ℕ) (count_is : count ≡ length (data_blocks inside.geometry)) (psa_is : psa ≡ inside.geometry.psa) where
    pub room_to_resize : ssa ≤ count - psa
    room_to_resize = let some = area_inside.1.some_logical in omega (arith, some, count_is, psa_is, by_kind.slip_room inside.geometry one_inside ssa)

    new_count : count - psa - ssa ≡ count_of inside.geometry ssa
    new_count = omega (arith, count_is, psa_is, by_kind.slip_counts inside.geometry one_inside ssa)

    pub resized_by : table_in (record inside { logical = count - psa - ssa }) ≡ record table { logical = count_of table.shape ssa }
    resized_by = ap (λ (n : ℕ). record (table_in inside) { logical = n }) new_count ∙ ap (λ (t : SlipTable). record t { logical = count_of t.shape ssa }) view

    pub still_whole : IsSlipTable inside → table.primary + count_of table.shape ssa ≤ length table.blocks → IsSlipTable (record inside { logical = count - psa - ssa })
    still_whole whole room =
        let room' : inside.primary + count_of inside.geometry ssa ≤ length (blocks_in inside.runs.items) = subst (λ (t : SlipTable). t.primary + count_of t.shape ssa ≤ length t.blocks) (sym view) room in
        record { table = whole.table; small = whole.small; rise = whole.rise; fits = omega (arith, room', new_count); roomy = whole.roomy }
