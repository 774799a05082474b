use Rattle.std.proofs.Common.{ℕ, [], map, ap, ◌∙◌, subst, arith}
use Rattle.model_sense.specs.declared.answer.Answer.{Answer}
use Rattle.model_nbd.specs.Messages.{reply_bytes}
use Rattle.model_nbd.specs.Commands.{Sectors, parts, bare, read_cdb}
use Rattle.ram_machine.specs.Inserted.{Stands}
use Rattle.ram_transmission.specs.Chains.{ChainDone, GoesBehind}
use Rattle.ram_transmission.proofs.Replies.{read_told, read_refused}
use Rattle.ram_transmission.proofs.requests.answer_read.Goals as goal

pub returns-in-Good-clause-rule : goal.returns-in-Good-clause-rule
returns-in-Good-clause-rule g c = λ s stands.
    read_told (Stands g.D.Caching g.D.Drive.lies_in g.D.Image.Image c.read_parts.new.inserted) s c.args.cookie c.args.lba c.args.n c.args.reply.now.items
    c.put_reply.new.reply.items c.read_parts.new.reply.items c.put_reply.ensures.items
    (subst (λ (a : Answer). ChainDone (GoesBehind c.put_reply.new.reply.items c.read_parts.new.reply.items)
    (Stands g.D.Caching g.D.Drive.lies_in g.D.Image.Image c.read_parts.new.inserted) s
    (map (λ (part : Sectors). bare (read_cdb part)) (parts c.args.lba c.args.n)) a) c.in-Good.is (c.in_ok-answer.ensures.rule s stands))

pub returns-in_default : goal.returns-in_default
returns-in_default g c = record {
  rule = λ s stands.
      read_refused (Stands g.D.Caching g.D.Drive.lies_in g.D.Image.Image c.read_parts.new.inserted) s c.args.cookie c.args.lba c.args.n c.args.reply.now.items
      c.put_reply.new.reply.items c.read_parts.new.reply.items c.put_reply-in_default.new.reply.items c.in_ok-answer.answer c.in_default.not-Good
      (c.put_reply-in_default.ensures.items ∙ ap (λ (error : ℕ). reply_bytes error c.args.cookie []) c.error_of.ensures)
      (c.in_ok-answer.ensures.rule s stands);
  count = c.in_ok-answer.ensures.count;
  room = omega (arith, c.put_reply.ensures.room, c.in_ok-answer.ensures.free, c.put_reply-in_default.ensures.room);
  data_room = c.in_ok-answer.ensures.room;
}
