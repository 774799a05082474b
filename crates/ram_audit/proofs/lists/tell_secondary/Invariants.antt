use Rattle.std.proofs.Common.{◌+◌, ◌*◌, ◌≤◌, ◌++◌, List, map, take}
use Rattle.model_audit.specs.Certificate.{sdl_line}
use Rattle.model_audit.specs.declared.lines.CertificateLine.{CertificateLine}
use Rattle.ram_audit.specs.Telling.{AreLines, bytes_of}
use Rattle.ram_audit.proofs.lists.tell_secondary.Given as goal

abbrev pub invariant-loop-k : goal.invariant-loop-k
invariant-loop-k l = record {
  lines : (told : List CertificateLine) → AreLines l.initial.lines told → AreLines l.lines (told ++ map sdl_line (take l.k l.entries));
  len : bytes_of l.lines ≤ bytes_of l.initial.lines + 27 * l.k;
}
