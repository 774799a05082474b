use Rattle.std.proofs.Common.{arith}
use Rattle.model_medium.specs.Cells.{cut_short}
use Rattle.ram_medium.proofs.SlotCells.{slot_cells-change}
use Rattle.ram_medium.proofs.slots.cut_slot.Goals as goal

pub returns-clause-cells : goal.returns-clause-cells
returns-clause-cells c =
    slot_cells-change c.args.slots.now.items c.args.block _ _ (cut_short c.args.fate c.args.from.now) (omega (arith, c.args.slots.now.ok.0)) c.index_mut-slot.ensures.value c.cut_short.ensures
