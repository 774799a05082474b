use Rattle.std.proofs.Common.{Ok, map, refl, ◌∙◌, subst, arith}
use Rattle.std.proofs.lemmas.Result.{err_from_is_err_and}
use Rattle.model_sense.specs.declared.answer.Answer.{Answer}
use Rattle.model_nbd.specs.Commands.{parts, write_of}
use Rattle.ram_machine.specs.Inserted.{Stands}
use Rattle.ram_transmission.specs.Chains.{CommandRule, AnyData}
use Rattle.ram_transmission.proofs.Chained.{nothing_yet, part_good, part_refused, part_failed, part_last}
use Rattle.ram_transmission.proofs.parts.write_parts.Goals as goal

pub loop-left-init : goal.loop-left-init
loop-left-init g c = record {
  from = omega arith;
  total = refl;
  far = λ s stands. nothing_yet (λ bytes. Unit {0}) (Stands g.D.Caching g.D.Drive.lies_in g.D.Image.Image c.args.inserted.now) s (map (write_of c.args.fua c.args.lba c.args.payload.now) (parts c.args.lba c.args.n)) stands tt;
  count = refl;
  room = omega arith;
}

pub loop-left-preserved : goal.loop-left-preserved
loop-left-preserved g c = record {
  from = omega (arith, c.loop-left.invariant.from);
  total = omega (arith, c.loop-left.invariant.total, c.loop-left-test.true);
  far = λ s stands.
      part_good (write_of c.args.fua c.args.lba c.args.payload.now) (Stands g.D.Caching g.D.Drive.lies_in g.D.Image.Image c.loop-left.inserted) (Stands g.D.Caching g.D.Drive.lies_in g.D.Image.Image c.write_part.new.inserted) s (map (write_of c.args.fua c.args.lba c.args.payload.now) (parts c.args.lba c.args.n)) (λ bytes. Unit {0}) c.loop-left.at c.loop-left.left (c.loop-left.invariant.far s stands) (λ bytes. Unit {0}) AnyData (omega (arith, c.loop-left-test.true))
      (λ bytes more a b. tt)
      (λ t stood. subst (λ (a : Answer). CommandRule AnyData (Stands g.D.Caching g.D.Drive.lies_in g.D.Image.Image c.write_part.new.inserted) t ((write_of c.args.fua c.args.lba c.args.payload.now) (record { lba = c.loop-left.at; n = 1024 })) (Ok a)) c.in-Good.is (c.in_ok-answer.ensures.rule t stood));
  count = c.in_ok-answer.ensures.count ∙ c.loop-left.invariant.count;
  room = omega (arith, c.loop-left.invariant.room, c.in_ok-answer.ensures.room);
}

pub returns-in_default : goal.returns-in_default
returns-in_default g c = record {
  rule = λ s stands.
      part_refused (write_of c.args.fua c.args.lba c.args.payload.now) (Stands g.D.Caching g.D.Drive.lies_in g.D.Image.Image c.loop-left.inserted) (Stands g.D.Caching g.D.Drive.lies_in g.D.Image.Image c.write_part.new.inserted) s (map (write_of c.args.fua c.args.lba c.args.payload.now) (parts c.args.lba c.args.n)) (λ bytes. Unit {0}) c.loop-left.at c.loop-left.left (c.loop-left.invariant.far s stands) AnyData AnyData c.in_ok-answer.answer
      (omega (arith, c.loop-left-test.true)) c.in_default.not-Good (λ bytes more a b. tt) c.in_ok-answer.ensures.rule;
  count = c.in_ok-answer.ensures.count ∙ c.loop-left.invariant.count;
  room = omega (arith, c.loop-left.invariant.room, c.in_ok-answer.ensures.room);
}

pub returns-clause-rule : goal.returns-clause-rule
returns-clause-rule g c = λ s stands.
    part_last (write_of c.args.fua c.args.lba c.args.payload.now) (Stands g.D.Caching g.D.Drive.lies_in g.D.Image.Image c.loop-left.inserted) (Stands g.D.Caching g.D.Drive.lies_in g.D.Image.Image c.write_part-2.new.inserted) s (map (write_of c.args.fua c.args.lba c.args.payload.now) (parts c.args.lba c.args.n)) (λ bytes. Unit {0}) c.loop-left.at c.loop-left.left (c.loop-left.invariant.far s stands) AnyData AnyData c.write_part-2.result
    (omega (arith, c.loop-left-test.false)) (λ answer bytes more a b. tt) c.write_part-2.ensures.rule

pub returns-in_err-answer-clause-rule : goal.returns-in_err-answer-clause-rule
returns-in_err-answer-clause-rule g c =
    let p = err_from_is_err_and c.from_residual.result c.from_residual.ensures.1 in
    rw (p.1, p.2)
    (λ s stands. part_failed (write_of c.args.fua c.args.lba c.args.payload.now) (Stands g.D.Caching g.D.Drive.lies_in g.D.Image.Image c.loop-left.inserted) (Stands g.D.Caching g.D.Drive.lies_in g.D.Image.Image c.write_part.new.inserted) s (map (write_of c.args.fua c.args.lba c.args.payload.now) (parts c.args.lba c.args.n)) (λ bytes. Unit {0}) c.loop-left.at c.loop-left.left (c.loop-left.invariant.far s stands)
    AnyData AnyData c.in_err-answer.field-0.0 (omega (arith, c.loop-left-test.true)) c.in_err-answer.ensures.rule)
