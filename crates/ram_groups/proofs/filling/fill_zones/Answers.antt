use Rattle.std.proofs.Common.{◌<◌, ◌^◌, List, sym, subst, arith}
use Rattle.model_lists.specs.Values.{pdl_blocks}
use Rattle.ram_layout.proofs.Zoned.{zones_all}
use Rattle.ram_runs.specs.declared.Run.{Run}
use Rattle.ram_runs.specs.Runs.{end_of}
use Rattle.ram_groups.proofs.Starts.{small_end}
use Rattle.ram_groups.proofs.filling.fill_zones.Goals as goal

pub count_in-requires-clause-small : goal.count_in-requires-clause-small
count_in-requires-clause-small c =
    subst (λ (l : List Run). end_of 0 l < 2 ^ 32) (sym c.as_slice.ensures.value)
    (small_end c.args.geometry.now c.total-total.ensures.lawful (pdl_blocks c.args.slipped.now) c.loop-zone.zone c.loop-zone.passed c.loop-zone.runs.items c.loop-zone.invariant.within c.loop-zone.invariant.zones)

pub returns-clause-blocks : goal.returns-clause-blocks
returns-clause-blocks c =
    (zones_all c.args.geometry.now c.total-total.ensures.lawful (pdl_blocks c.args.slipped.now) c.loop-zone.zone c.loop-zone.passed c.loop-zone.runs.items c.loop-zone.invariant.zones
    (omega (arith, c.loop-zone-test.false, c.loop-zone.invariant.within, c.zones-zone-end.ensures))).0
