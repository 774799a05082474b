-- From counts of slipped blocks to places among those that are not slipped.
use Rattle.std.proofs.Common.{◌≡◌, ℕ, ◌+◌, ◌-◌, ◌<◌, ◌≤◌, Bool, false, IsTrue, List, length, get_or, Some, sym, ap, ◌∙◌, subst, arith}
use Rattle.std.specs.Prelude.{slice_get, slice_index}
use Rattle.std.specs.List.{Contains}
use Rattle.std.proofs.lemmas.Bool.{true≢false}
use Rattle.std.proofs.lemmas.List.{get_or-take, get_or-drop, length-take, length-drop}
use Rattle.std.proofs.lemmas.Option.{slice_get_within, get_or_from_slice_get}
use Rattle.model_geometry.specs.declared.kinds.LayoutKind.TheVariants.{OneGroup}
use Rattle.model_geometry.specs.Geometry.{Shape, data_blocks}
use Rattle.model_lists.specs.declared.dds.PdlEntry.{PdlEntry}
use Rattle.model_lists.specs.declared.versions.Version.{Version}
use Rattle.model_lists.specs.Values.{Dds, pdl_blocks}
use Rattle.model_pools.specs.Pools.{block_in}
use Rattle.model_places.specs.Places.{slipped, unslipped, count_of, pools_of, primary_count, primary_spares, supplementary_spares}
use Rattle.model_places.specs.Valid.{IsValidPdl, IsValidSsa}
use Rattle.model_places.proofs.ByKind.{length-slipped}
use Rattle.model_places.proofs.Layouts.{one_block}
use Rattle.model_places.proofs.Pools.{slips_are_all}
use Rattle.model_places.proofs.Slipping.{length-below, slice_get-unslipped}
use Rattle.ram_slip.specs.Counts.{IsCountBefore}

-- A data block that is not slipped stands among those that are not slipped as many places earlier as slipped blocks
-- come before it.
pub stands_unslipped : (shape : Shape) (dds : Dds) → IsValidPdl shape dds → (n m block : ℕ) → slice_get (data_blocks shape) n ≡ Some block → IsCountBefore dds.entries block m → ¬ Contains (slipped dds) block
    → (m ≤ n) × (slice_get (unslipped shape dds) (n - m) ≡ Some block)
stands_unslipped shape dds valid n m block at count apart =
    let long = length-slipped dds in
    slice_get-unslipped shape dds valid n m block at
    (length-below (slipped dds) valid.rising m block (omega (arith, count.within)) count.lower (λ less. count.others m (omega arith) (omega (arith, less))))
    apart

-- a data block that no entry names, by the numbers of the code
pub stands_by : (shape : Shape) (dds : Dds) → IsValidPdl shape dds → (entries : List PdlEntry) (index before block : ℕ) (named : Bool) → entries ≡ dds.entries → slice_get (data_blocks shape) index ≡ Some block
    → IsCountBefore entries block before → (Contains (pdl_blocks entries) block → IsTrue named) → named ≡ false → (before ≤ index) × (slice_get (unslipped shape dds) (index - before) ≡ Some block)
stands_by shape dds valid entries index before block named same at count tells is_not =
    let apart : ¬ Contains (pdl_blocks entries) block = λ has. true≢false (sym (tells has) ∙ is_not) in
    stands_unslipped shape dds valid index before block at
    (subst (λ (es : List PdlEntry). IsCountBefore es block before) same count)
    (subst (λ (es : List PdlEntry). ¬ Contains (pdl_blocks es) block) same apart)

-- how many primary spares are left, by the numbers of the code
pub primary_is : (shape : Shape) (dds : Dds) (entries : List PdlEntry) (psa : ℕ) → entries ≡ dds.entries → psa ≡ shape.psa → psa - length entries ≡ primary_count shape dds
primary_is shape dds entries psa same psa_is = omega (arith, psa_is, ap (λ (es : List PdlEntry). length es) same)

-- ---- what a block is, by its place among the blocks that are not slipped

pub primary_by_place : (shape : Shape) (dds : Dds) (place block : ℕ) → slice_get (unslipped shape dds) place ≡ Some block → place < primary_count shape dds → Contains (primary_spares shape dds) block
primary_by_place shape dds place block at less =
    let u = unslipped shape dds in
    let within = slice_get_within u place block at in
    (place, omega (arith, length-take (primary_count shape dds) u, within, less), get_or-take (primary_count shape dds) u place block less ∙ get_or_from_slice_get u place block block at)

pub logical_by_place : {version : Version} (shape : Shape) → shape.layout ≡ OneGroup → (dds : Dds) (ssa : ℕ) → IsValidPdl shape dds → IsValidSsa shape version ssa → (place block i : ℕ) → slice_get (unslipped shape dds) place ≡ Some block
    → primary_count shape dds ≤ place → i ≡ place - primary_count shape dds → i < count_of shape ssa → block_in (pools_of shape dds ssa) i ≡ block
logical_by_place shape one dds ssa valid area place block i at from is within =
    let there : primary_count shape dds + i ≡ place = omega (arith, from, is) in
    one_block shape dds ssa one valid area i within
    ∙ ap (slice_index (unslipped shape dds)) there ∙ get_or_from_slice_get (unslipped shape dds) place block 0 at

pub supplementary_by_place : {version : Version} (shape : Shape) → shape.layout ≡ OneGroup → (dds : Dds) (ssa : ℕ) → IsValidPdl shape dds → IsValidSsa shape version ssa → (place block : ℕ) → slice_get (unslipped shape dds) place ≡ Some block
    → primary_count shape dds + count_of shape ssa ≤ place → Contains (supplementary_spares shape dds ssa) block
supplementary_by_place shape one dds ssa valid area place block at from =
    let u = unslipped shape dds in
    let within = slice_get_within u place block at in
    let all = slips_are_all shape one dds ssa valid area in
    let start : length u - ssa ≤ place = omega (arith, all, from) in
    let there : length u - ssa + (place - (length u - ssa)) ≡ place = omega (arith, start) in (
      place - (length u - ssa),
      omega (arith, length-drop (length u - ssa) u, within, start),
      get_or-drop (length u - ssa) u (place - (length u - ssa)) block ∙ ap (λ (k : ℕ). get_or u k block) there ∙ get_or_from_slice_get u place block block at,
    )
