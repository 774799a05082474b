use Rattle.std.proofs.Common.{◌+◌, ◌*◌, ◌≤◌}
use Rattle.ram_image.specs.Medium.{bytes_in}
use Rattle.ram_lists.specs.Lists.{lists_of}
use Rattle.ram_audit.specs.Leaving.{LooksOn}
use Rattle.ram_audit.specs.Telling.{AddsCopies, bytes_of}
use Rattle.ram_audit.proofs.CellsUpTo.{cells_upto}
use Rattle.ram_audit.proofs.copies.tell_copies.Given as goal

abbrev pub invariant-loop-k : goal.invariant-loop-k
invariant-loop-k g l = record {
  looks : LooksOn l.fn.medium l.medium;
  adds : AddsCopies l.fn.lines l.lines l.geometry (bytes_in l.fn.medium) (lists_of l.lists) (cells_upto l.geometry l.lists.sdl.version l.k);
  len : bytes_of l.lines ≤ bytes_of l.fn.lines + 69 * l.k;
}
