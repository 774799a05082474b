use Rattle.std.proofs.Common.{◌≡◌, ℕ, ◌≤◌, List, drop, map, vec_capacity}
use Rattle.std.specs.Borrow.{Bor}
use Rattle.model_nbd.specs.Handshake.{Export as Told}
use Rattle.ram_text.specs.Faults.{AreFaultWords}
use Rattle.ram_text.specs.declared.script.Line.{Line}
use Rattle.ram_machine.specs.Inserted.{Stands, faults_of}
use Rattle.ram_script.specs.Progress.{Beginning}
use Rattle.ram_session.specs.Opening.{without_data}
use Rattle.ram_opening.specs.Opens.{OpenedTo, IsServedSo}
use Rattle.ram_opening.proofs.opening.make_faults.Given as goal

-- the faults of the words before this one were made
abbrev pub invariant-loop-word : goal.invariant-loop-word
invariant-loop-word g l = record {
  far : (first : Beginning) (faults : List Line) → AreFaultWords (map (λ (word : Bor (List ℕ)). word.now) l.words) faults → (export : Told)
      → OpenedTo first faults (IsServedSo export) (Stands g.D.Caching g.D.Drive.lies_in g.D.Image.Image l.fn.inserted) (map without_data faults)
      → OpenedTo first faults (IsServedSo export) (Stands g.D.Caching g.D.Drive.lies_in g.D.Image.Image l.inserted) (map without_data (drop l.word-index faults));
  count : faults_of g.D.Caching g.D.Image.Image l.inserted ≡ faults_of g.D.Caching g.D.Image.Image l.fn.inserted;
  room : vec_capacity l.fn.data_in ≤ vec_capacity l.data_in;
}
