use Rattle.std.proofs.Common.{refl}
use Rattle.model_medium.specs.Cells.{Dead}
use Rattle.ram_medium.proofs.SlotCells.{slot_cells-set}
use Rattle.ram_medium.proofs.slots.kill_where.Goals as goal

pub returns-then-dies-clause-cells : goal.returns-then-dies-clause-cells
returns-then-dies-clause-cells c = rw c.if-dies.true (slot_cells-set c.args.slots.now.items c.args.block _ Dead refl)
