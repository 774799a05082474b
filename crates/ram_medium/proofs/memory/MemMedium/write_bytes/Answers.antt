use Rattle.std.proofs.Common.{arith, subst, sym}
use Rattle.model_medium.specs.Cells.{AreWhole}
use Rattle.ram_medium.proofs.SlotCells.{whole_written, whole_cut}
use Rattle.ram_medium.proofs.memory.MemMedium.write_bytes.Goals as goal

pub invariant_of-self-clause-whole : goal.invariant_of-self-clause-whole
invariant_of-self-clause-whole c =
    subst AreWhole (sym c.cut_slot.ensures.cells)
    (whole_cut c.begin.new.self.slots.items c.args.block c.in-Cut.fate c.args.from.now (omega (arith, c.begin.ensures.len, c.requires.inside)) c.requires.whole c.begin.new.self.whole)

pub invariant_of-self-in-On-clause-whole : goal.invariant_of-self-in-On-clause-whole
invariant_of-self-in-On-clause-whole c =
    subst AreWhole (sym c.write_slot.ensures.cells)
    (whole_written c.begin.new.self.slots.items c.args.block c.args.from.now (omega (arith, c.begin.ensures.len, c.requires.inside)) c.requires.whole c.begin.new.self.whole)
