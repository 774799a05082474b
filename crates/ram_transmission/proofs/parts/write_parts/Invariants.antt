use Rattle.std.specs.Prelude.{◌≡◌, ◌+◌, ◌≤◌, map, vec_capacity}
use Rattle.model_nbd.specs.Commands.{parts, write_of}
use Rattle.ram_machine.specs.States.{Served, Disc}
use Rattle.ram_machine.specs.Inserted.{Stands, faults_of}
use Rattle.ram_transmission.proofs.Chained.{UpTo}
use Rattle.ram_transmission.proofs.parts.write_parts.Given as goal

-- the parts before the rest were done, and good
abbrev pub invariant-loop-left : goal.invariant-loop-left
invariant-loop-left g l = record {
  from : l.fn.lba ≤ l.at;
  total : l.at + l.left ≡ l.fn.lba + l.fn.n;
  far : (s : Served) → Stands g.D.Caching g.D.Drive.lies_in g.D.Image.Image l.fn.inserted (Disc s)
      → UpTo (λ bytes. Unit {0}) (Stands g.D.Caching g.D.Drive.lies_in g.D.Image.Image l.inserted) s
      (map (write_of l.fn.fua l.fn.lba l.fn.payload) (parts l.fn.lba l.fn.n)) (map (write_of l.fn.fua l.fn.lba l.fn.payload) (parts l.at l.left));
  count : faults_of g.D.Caching g.D.Image.Image l.inserted ≡ faults_of g.D.Caching g.D.Image.Image l.fn.inserted;
  room : vec_capacity l.fn.data_in ≤ vec_capacity l.data_in;
}

abbrev pub decreases-loop-left : goal.decreases-loop-left
decreases-loop-left g l = l.left
