-- Those of the first n entries are there, and the room stays.
use Rattle.std.specs.Prelude.{◌≤◌, vec_capacity}
use Rattle.ram_spare.proofs.FirstFree.{HasPut}
use Rattle.ram_spare.proofs.first_free.put_replacements.Given as goal

abbrev pub invariant-loop-entry : goal.invariant-loop-entry
invariant-loop-entry l = record {
  put : HasPut l.entries l.entry-index l.blocks.items;
  room : vec_capacity l.fn.blocks ≤ vec_capacity l.blocks;
}
