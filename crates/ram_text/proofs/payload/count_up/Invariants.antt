-- So far the bytes count up, as many as the sectors so far have, or all that are due.
use Rattle.std.proofs.Common.{◌≡◌, ◌*◌, ◌≤◌, min, vec_len, vec_capacity}
use Rattle.ram_text.specs.Script.{counted_up}
use Rattle.ram_text.proofs.payload.count_up.Given as goal

abbrev pub invariant-loop-sector : goal.invariant-loop-sector
invariant-loop-sector l = record {
  so_far : l.payload.items ≡ counted_up l.byte (min l.due (2048 * l.sector));
  len : vec_len l.payload ≡ min l.due (2048 * l.sector);
  room : vec_capacity l.fn.payload ≤ vec_capacity l.payload;
}
