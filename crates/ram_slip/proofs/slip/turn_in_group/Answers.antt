use Rattle.std.proofs.Common.{arith}
use Rattle.std.proofs.lemmas.Option.{slice_get-get_or}
use Rattle.ram_dds.specs.Dds.{dds_of}
use Rattle.model_places.specs.Places.{unslipped}
use Rattle.model_places.proofs.Pools.{slips_are_all, length-unslipped}
use Rattle.model_places.proofs.ByKind.{slip_counts, slip_room}
use Rattle.ram_slip.proofs.Spares.{primary_turn, supplementary_turn, no_turn, primary_many}
use Rattle.ram_slip.proofs.slip.turn_in_group.Goals as goal

pub returns-then-place-primary : goal.returns-then-place-primary
returns-then-place-primary c =
    let shape = c.args.geometry.now in
    let dds = dds_of c.args.dds.now in
    let left = c.primary_left-primary.ensures.left in
    let many = primary_many shape dds c.args.ssa c.requires.one c.requires.valid c.requires.area.1 in
    primary_turn shape dds c.args.ssa c.requires.one c.requires.valid c.requires.area.1 c.args.place _ (slice_get-get_or (unslipped shape dds) c.args.place 0 c.requires.inside) _
    (omega (arith, left, many, c.if-place-primary.true)) (omega (arith, left, many))

pub returns-then-place-primary-2 : goal.returns-then-place-primary-2
returns-then-place-primary-2 c =
    let shape = c.args.geometry.now in
    let dds = dds_of c.args.dds.now in
    let left = c.primary_left-primary.ensures.left in
    let many = primary_many shape dds c.args.ssa c.requires.one c.requires.valid c.requires.area.1 in
    no_turn shape dds c.args.ssa c.requires.one c.requires.valid c.requires.area.1 c.args.place _ (slice_get-get_or (unslipped shape dds) c.args.place 0 c.requires.inside)
    (omega (arith, left, many, c.if-place-primary.false))
    (omega (arith, left, many, c.if-place-primary.false, c.if-place-primary-2.true, c.data_blocks.ensures.count, c.psa.ensures.spares, slip_counts shape c.requires.one c.args.ssa))

pub returns : goal.returns
returns c =
    let shape = c.args.geometry.now in
    let dds = dds_of c.args.dds.now in
    let left = c.primary_left-primary.ensures.left in
    let many = primary_many shape dds c.args.ssa c.requires.one c.requires.valid c.requires.area.1 in
    let counts = slip_counts shape c.requires.one c.args.ssa in
    supplementary_turn shape dds c.args.ssa c.requires.one c.requires.valid c.requires.area.1 c.args.place _ (slice_get-get_or (unslipped shape dds) c.args.place 0 c.requires.inside) _
    (omega (arith, left, many, c.if-place-primary.false, c.if-place-primary-2.false, c.data_blocks.ensures.count, c.psa.ensures.spares, counts))
    (omega (arith, left, many, c.data_blocks.ensures.count, c.psa.ensures.spares, counts))

pub overflow_sub-logical-2 : goal.overflow_sub-logical-2
overflow_sub-logical-2 c =
    let area = c.requires.area.1.some_logical in
    omega (arith, c.data_blocks.ensures.count, c.psa.ensures.spares, slip_room c.args.geometry.now c.requires.one c.args.ssa, area)

pub overflow_add-result-2 : goal.overflow_add-result-2
overflow_add-result-2 c =
    let shape = c.args.geometry.now in
    let dds = dds_of c.args.dds.now in
    let area = c.requires.area.1.some_logical in
    let all = slips_are_all shape c.requires.one dds c.args.ssa c.requires.valid c.requires.area.1 in
    let long = length-unslipped shape dds c.requires.valid in
    let counts = slip_counts shape c.requires.one c.args.ssa in
    let left = c.primary_left-primary.ensures.left in
    let many = primary_many shape dds c.args.ssa c.requires.one c.requires.valid c.requires.area.1 in
    let most = c.data_blocks.ensures.most in
    omega (arith, area, all, c.requires.inside, long, counts, left, many, most, c.data_blocks.ensures.count, c.psa.ensures.spares, slip_room shape c.requires.one c.args.ssa)

pub overflow_sub-result-3 : goal.overflow_sub-result-3
overflow_sub-result-3 c =
    let shape = c.args.geometry.now in
    let dds = dds_of c.args.dds.now in
    let area = c.requires.area.1.some_logical in
    let all = slips_are_all shape c.requires.one dds c.args.ssa c.requires.valid c.requires.area.1 in
    let long = length-unslipped shape dds c.requires.valid in
    let counts = slip_counts shape c.requires.one c.args.ssa in
    let left = c.primary_left-primary.ensures.left in
    let many = primary_many shape dds c.args.ssa c.requires.one c.requires.valid c.requires.area.1 in
    let most = c.data_blocks.ensures.most in
    omega (arith, area, all, c.requires.inside, long, counts, left, many, most, c.data_blocks.ensures.count, c.psa.ensures.spares, slip_room shape c.requires.one c.args.ssa)

pub overflow_add-result-3 : goal.overflow_add-result-3
overflow_add-result-3 c =
    let shape = c.args.geometry.now in
    let dds = dds_of c.args.dds.now in
    let area = c.requires.area.1.some_logical in
    let all = slips_are_all shape c.requires.one dds c.args.ssa c.requires.valid c.requires.area.1 in
    let long = length-unslipped shape dds c.requires.valid in
    let counts = slip_counts shape c.requires.one c.args.ssa in
    let left = c.primary_left-primary.ensures.left in
    let many = primary_many shape dds c.args.ssa c.requires.one c.requires.valid c.requires.area.1 in
    let most = c.data_blocks.ensures.most in
    omega (arith, area, all, c.requires.inside, long, counts, left, many, most, c.data_blocks.ensures.count, c.psa.ensures.spares, slip_room shape c.requires.one c.args.ssa)
