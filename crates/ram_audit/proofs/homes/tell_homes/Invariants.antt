use Rattle.std.proofs.Common.{◌+◌, ◌*◌, ◌≤◌}
use Rattle.ram_image.specs.Medium.{bytes_in}
use Rattle.ram_lists.specs.Lists.{lists_of}
use Rattle.ram_audit.specs.Leaving.{LooksOn}
use Rattle.ram_audit.specs.Telling.{AddsLost, bytes_of}
use Rattle.ram_audit.proofs.homes.tell_homes.Given as goal

abbrev pub invariant-loop-i : goal.invariant-loop-i
invariant-loop-i g l = record {
  looks : LooksOn l.fn.medium l.medium;
  adds : AddsLost l.fn.lines l.lines l.geometry (bytes_in l.fn.medium) (lists_of l.lists) l.i;
  len : bytes_of l.lines ≤ bytes_of l.fn.lines + 16 * l.i;
}
