-- The lines of the rows so far are there, none is longer than 36 bytes, and there is no less room.
use Rattle.std.proofs.Common.{◌≡◌, ◌++◌, ◌+◌, ◌*◌, ◌≤◌, take, length, vec_capacity}
use Rattle.std.specs.List.{flat_map}
use Rattle.ram_summary.specs.Summary.{row_text}
use Rattle.ram_summary.proofs.summary.add_checks.Given as goal

abbrev pub invariant-loop-row : goal.invariant-loop-row
invariant-loop-row l = record {
  items : l.text.items ≡ l.fn.text.items ++ flat_map row_text (take l.row-index l.rows);
  few : length l.text.items ≤ length l.fn.text.items + 36 * l.row-index;
  room : vec_capacity l.fn.text ≤ vec_capacity l.text;
}
