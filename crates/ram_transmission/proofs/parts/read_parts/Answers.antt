use Rattle.std.proofs.Common.{◌≡◌, ◌++◌, Ok, map, refl, sym, ◌∙◌, subst, arith, append-nil}
use Rattle.std.proofs.lemmas.Result.{err_from_is_err_and}
use Rattle.model_sense.specs.declared.answer.Answer.{Answer}
use Rattle.model_nbd.specs.Commands.{Sectors, parts, bare, read_cdb}
use Rattle.ram_machine.specs.Inserted.{Stands}
use Rattle.ram_transmission.specs.Chains.{CommandRule, GoesBehind}
use Rattle.ram_transmission.proofs.Chained.{nothing_yet, part_good, part_refused, part_failed, part_last, goes_on, goes_behind}
use Rattle.ram_transmission.proofs.parts.read_parts.Goals as goal

pub loop-left-init : goal.loop-left-init
loop-left-init g c = record {
  total = refl;
  far = λ s stands. nothing_yet (λ bytes. c.args.reply.now.items ≡ c.args.reply.now.items ++ bytes) (Stands g.D.Caching g.D.Drive.lies_in g.D.Image.Image c.args.inserted.now) s (map (λ (part : Sectors). bare (read_cdb part)) (parts c.args.lba c.args.n)) stands (sym (append-nil c.args.reply.now.items));
  count = refl;
  room = omega arith;
  free = c.requires.free;
  kept = omega arith;
}

pub loop-left-preserved : goal.loop-left-preserved
loop-left-preserved g c = record {
  total = omega (arith, c.loop-left.invariant.total, c.loop-left-test.true);
  far = λ s stands.
      part_good (λ (part : Sectors). bare (read_cdb part)) (Stands g.D.Caching g.D.Drive.lies_in g.D.Image.Image c.loop-left.inserted) (Stands g.D.Caching g.D.Drive.lies_in g.D.Image.Image c.read_part.new.inserted) s (map (λ (part : Sectors). bare (read_cdb part)) (parts c.args.lba c.args.n)) (λ bytes. c.loop-left.reply.items ≡ c.args.reply.now.items ++ bytes) c.loop-left.at c.loop-left.left (c.loop-left.invariant.far s stands) (λ bytes. c.read_part.new.reply.items ≡ c.args.reply.now.items ++ bytes) (GoesBehind c.loop-left.reply.items c.read_part.new.reply.items) (omega (arith, c.loop-left-test.true))
      (goes_on c.args.reply.now.items c.loop-left.reply.items c.read_part.new.reply.items)
      (λ t stood. subst (λ (a : Answer). CommandRule (GoesBehind c.loop-left.reply.items c.read_part.new.reply.items) (Stands g.D.Caching g.D.Drive.lies_in g.D.Image.Image c.read_part.new.inserted) t (bare (read_cdb (record { lba = c.loop-left.at; n = 1024 }))) (Ok a)) c.in-Good.is (c.in_ok-answer.ensures.rule t stood));
  count = c.in_ok-answer.ensures.count ∙ c.loop-left.invariant.count;
  room = omega (arith, c.loop-left.invariant.room, c.in_ok-answer.ensures.room);
  free = omega (arith, c.loop-left.invariant.free, c.in_ok-answer.ensures.len, c.in_ok-answer.ensures.free, c.loop-left-test.true);
  kept = omega (arith, c.loop-left.invariant.kept, c.in_ok-answer.ensures.free);
}

pub returns-in_default : goal.returns-in_default
returns-in_default g c = record {
  rule = λ s stands.
      part_refused (λ (part : Sectors). bare (read_cdb part)) (Stands g.D.Caching g.D.Drive.lies_in g.D.Image.Image c.loop-left.inserted) (Stands g.D.Caching g.D.Drive.lies_in g.D.Image.Image c.read_part.new.inserted) s (map (λ (part : Sectors). bare (read_cdb part)) (parts c.args.lba c.args.n)) (λ bytes. c.loop-left.reply.items ≡ c.args.reply.now.items ++ bytes) c.loop-left.at c.loop-left.left (c.loop-left.invariant.far s stands) (GoesBehind c.args.reply.now.items c.read_part.new.reply.items) (GoesBehind c.loop-left.reply.items c.read_part.new.reply.items) c.in_ok-answer.answer
      (omega (arith, c.loop-left-test.true)) c.in_default.not-Good (goes_behind c.args.reply.now.items c.loop-left.reply.items c.read_part.new.reply.items c.in_ok-answer.answer) c.in_ok-answer.ensures.rule;
  count = c.in_ok-answer.ensures.count ∙ c.loop-left.invariant.count;
  room = omega (arith, c.loop-left.invariant.room, c.in_ok-answer.ensures.room);
  free = omega (arith, c.loop-left.invariant.kept, c.in_ok-answer.ensures.free);
}

pub returns-clause-rule : goal.returns-clause-rule
returns-clause-rule g c = λ s stands.
    part_last (λ (part : Sectors). bare (read_cdb part)) (Stands g.D.Caching g.D.Drive.lies_in g.D.Image.Image c.loop-left.inserted) (Stands g.D.Caching g.D.Drive.lies_in g.D.Image.Image c.read_part-2.new.inserted) s (map (λ (part : Sectors). bare (read_cdb part)) (parts c.args.lba c.args.n)) (λ bytes. c.loop-left.reply.items ≡ c.args.reply.now.items ++ bytes) c.loop-left.at c.loop-left.left (c.loop-left.invariant.far s stands) (GoesBehind c.args.reply.now.items c.read_part-2.new.reply.items) (GoesBehind c.loop-left.reply.items c.read_part-2.new.reply.items) c.read_part-2.result
    (omega (arith, c.loop-left-test.false)) (goes_behind c.args.reply.now.items c.loop-left.reply.items c.read_part-2.new.reply.items) c.read_part-2.ensures.rule

pub returns-in_err-answer-clause-rule : goal.returns-in_err-answer-clause-rule
returns-in_err-answer-clause-rule g c =
    let p = err_from_is_err_and c.from_residual.result c.from_residual.ensures.1 in
    rw (p.1, p.2)
    (λ s stands. part_failed (λ (part : Sectors). bare (read_cdb part)) (Stands g.D.Caching g.D.Drive.lies_in g.D.Image.Image c.loop-left.inserted) (Stands g.D.Caching g.D.Drive.lies_in g.D.Image.Image c.read_part.new.inserted) s (map (λ (part : Sectors). bare (read_cdb part)) (parts c.args.lba c.args.n)) (λ bytes. c.loop-left.reply.items ≡ c.args.reply.now.items ++ bytes) c.loop-left.at c.loop-left.left (c.loop-left.invariant.far s stands)
    (GoesBehind c.args.reply.now.items c.read_part.new.reply.items) (GoesBehind c.loop-left.reply.items c.read_part.new.reply.items) c.in_err-answer.field-0.0 (omega (arith, c.loop-left-test.true)) c.in_err-answer.ensures.rule)
