use Rattle.std.proofs.Common.{◌<◌, ◌≤◌, ℕ, sym, subst, arith, List}
use Rattle.std.specs.List.{Contains}
use Rattle.std.specs.Prelude.{slice_index}
use Rattle.std.proofs.lemmas.Option.{slice_get-get_or}
use Rattle.model_places.specs.Places.{unslipped, primary_count}
use Rattle.model_places.proofs.ByKind.{slip_counts, slip_room}
use Rattle.ram_dds.specs.Dds.{dds_of}
use Rattle.ram_slip.proofs.Slips.{primary_by_place, logical_by_place, supplementary_by_place}
use Rattle.ram_slip.proofs.Spares.{primary_many}
use Rattle.ram_slip.proofs.SpareAreas.{primary_one, supplementary_one}
use Rattle.ram_slip.proofs.slip.role_in_group.Goals as goal

pub returns-then-place-primary : goal.returns-then-place-primary
returns-then-place-primary c =
    let shape = c.args.geometry.now in
    let dds = dds_of c.args.dds.now in
    let left = c.primary_left-primary.ensures.left in
    let less : c.args.place < primary_count shape dds = omega (arith, left, c.if-place-primary.true, primary_many shape dds c.args.ssa c.requires.one c.requires.valid c.requires.area.1) in
    subst (λ (l : List ℕ). Contains l (slice_index (unslipped shape dds) c.args.place)) (sym (primary_one shape dds c.requires.one))
    (primary_by_place shape dds c.args.place _ (slice_get-get_or (unslipped shape dds) c.args.place 0 c.requires.inside) less)

pub returns-then-i-data_blocks : goal.returns-then-i-data_blocks
returns-then-i-data_blocks c =
    let shape = c.args.geometry.now in
    let dds = dds_of c.args.dds.now in
    let left = c.primary_left-primary.ensures.left in
    let many = primary_many shape dds c.args.ssa c.requires.one c.requires.valid c.requires.area.1 in
    let from : primary_count shape dds ≤ c.args.place = omega (arith, left, many, c.if-place-primary.false) in (
      omega (arith, c.data_blocks.ensures.count, c.psa.ensures.spares, c.if-i-data_blocks.true, slip_counts shape c.requires.one c.args.ssa),
      logical_by_place shape c.requires.one dds c.args.ssa c.requires.valid c.requires.area.1 c.args.place _ _ (slice_get-get_or (unslipped shape dds) c.args.place 0 c.requires.inside) from (omega (arith, left, many))
          (omega (arith, c.data_blocks.ensures.count, c.psa.ensures.spares, c.if-i-data_blocks.true, slip_counts shape c.requires.one c.args.ssa)),
    )

pub returns : goal.returns
returns c =
    let shape = c.args.geometry.now in
    let dds = dds_of c.args.dds.now in
    let left = c.primary_left-primary.ensures.left in
    let many = primary_many shape dds c.args.ssa c.requires.one c.requires.valid c.requires.area.1 in
    subst (λ (l : List ℕ). Contains l (slice_index (unslipped shape dds) c.args.place)) (sym (supplementary_one shape dds c.args.ssa c.requires.one))
    (supplementary_by_place shape c.requires.one dds c.args.ssa c.requires.valid c.requires.area.1 c.args.place _ (slice_get-get_or (unslipped shape dds) c.args.place 0 c.requires.inside)
    (omega (arith, left, many, c.if-place-primary.false, c.data_blocks.ensures.count, c.psa.ensures.spares, c.if-i-data_blocks.false, slip_counts shape c.requires.one c.args.ssa)))

pub overflow_sub-data_blocks-2 : goal.overflow_sub-data_blocks-2
overflow_sub-data_blocks-2 c =
    let area = c.requires.area.1.some_logical in
    omega (arith, c.data_blocks.ensures.count, c.psa.ensures.spares, slip_room c.args.geometry.now c.requires.one c.args.ssa, area)
