use Rattle.std.proofs.Common.{◌+◌, ◌∙◌, List, [], drop, map, subst, arith}
use Rattle.ram_machine.specs.Inserted.{Stands}
use Rattle.ram_session.specs.Opening.{Given, without_data}
use Rattle.ram_opening.specs.Opens.{OpenedTo, IsServedSo}
use Rattle.ram_opening.proofs.Openings.{ended_so, reads_there, fault_at, is_fault_at, faults_more, faults_end}
use Rattle.ram_opening.proofs.opening.make_faults.Goals as goal

pub make_fault-requires-clause-reads : goal.make_fault-requires-clause-reads
make_fault-requires-clause-reads g c = reads_there c.args.words.now c.loop-word.word-index _ c.loop-word-test.true c.requires.reads

pub loop-word-preserved : goal.loop-word-preserved
loop-word-preserved g c = record {
  far = λ first faults are export whole.
      c.in-Ok.ensures.rule first faults export (fault_at faults c.loop-word.word-index)
      (map without_data (drop (c.loop-word.word-index + 1) faults)) (is_fault_at c.args.words.now faults are c.loop-word.word-index c.loop-word-test.true _)
      (subst (λ (rest : List Given). OpenedTo first faults (IsServedSo export) (Stands g.D.Caching g.D.Drive.lies_in g.D.Image.Image c.loop-word.inserted) rest)
      (faults_more c.args.words.now faults are c.loop-word.word-index c.loop-word-test.true) (c.loop-word.invariant.far first faults are export whole));
  count = c.in-Ok.ensures.count ∙ c.loop-word.invariant.count;
  room = omega (arith, c.loop-word.invariant.room, c.in-Ok.ensures.room);
}

pub returns-in-Err-clause-rule : goal.returns-in-Err-clause-rule
returns-in-Err-clause-rule g c = λ first faults are export whole.
    let rest = map without_data (drop (c.loop-word.word-index + 1) faults) in
    ended_so first faults (Stands g.D.Caching g.D.Drive.lies_in g.D.Image.Image c.make_fault.new.inserted) (λ (done : Unit {0}). export) (λ (done : Unit {0}). export) rest [] c.in-Err.status
    (c.in-Err.ensures.rule first faults export (fault_at faults c.loop-word.word-index)
    rest (is_fault_at c.args.words.now faults are c.loop-word.word-index c.loop-word-test.true _)
    (subst (λ (given : List Given). OpenedTo first faults (IsServedSo export) (Stands g.D.Caching g.D.Drive.lies_in g.D.Image.Image c.loop-word.inserted) given)
    (faults_more c.args.words.now faults are c.loop-word.word-index c.loop-word-test.true) (c.loop-word.invariant.far first faults are export whole)))

pub returns-clause-rule : goal.returns-clause-rule
returns-clause-rule g c = λ first faults are export whole.
    subst (λ (given : List Given). OpenedTo first faults (IsServedSo export) (Stands g.D.Caching g.D.Drive.lies_in g.D.Image.Image c.loop-word.inserted) given)
    (faults_end c.args.words.now faults are c.loop-word.word-index c.loop-word-test.false) (c.loop-word.invariant.far first faults are export whole)
