use Rattle.std.proofs.Common.{◌≡◌, replicate, vec_len}
use Rattle.model_medium.specs.Cells.{Blank}
use Rattle.ram_medium.specs.Slots.{slot_cells}
use Rattle.ram_medium.proofs.slots.blank_slots.Given as goal

abbrev pub invariant-loop : goal.invariant-loop
invariant-loop l = (vec_len l.slots ≡ l.counter) × (slot_cells l.slots.items ≡ replicate l.counter Blank)
