use Rattle.std.proofs.Common.{List, ℕ, [], length, ap, ◌∙◌, subst}
use Rattle.model_nbd.specs.Commands.{read_cdb}
use Rattle.ram_machine.specs.Inserted.{Stands}
use Rattle.ram_transmission.specs.Chains.{AnyData, GoesBehind}
use Rattle.ram_transmission.proofs.Commands.{read_done, stopped_same}
use Rattle.ram_transmission.proofs.parts.read_part.Goals as goal

pub returns-in-Ok-clause-rule : goal.returns-in-Ok-clause-rule
returns-in-Ok-clause-rule g c = λ s stands.
    read_done (Stands g.D.Caching g.D.Drive.lies_in g.D.Image.Image c.do_command.new.inserted) s c.args.lba c.args.n c.read_cdb.result
    c.do_command.new.data_in.items c.args.reply.now.items c.put_data.new.reply.items c.in-Ok.answer c.read_cdb.ensures c.ranges.lba.fits c.requires.few
    (λ long. subst (λ (xs : List ℕ). GoesBehind c.args.reply.now.items c.put_data.new.reply.items c.in-Ok.answer xs) c.deref.ensures.value
    (c.put_data.ensures.given (ap length c.deref.ensures.value ∙ long)))
    (c.in-Ok.ensures.rule s stands)

pub returns-in-Err-clause-rule : goal.returns-in-Err-clause-rule
returns-in-Err-clause-rule g c = λ s stands.
    stopped_same AnyData AnyData (Stands g.D.Caching g.D.Drive.lies_in g.D.Image.Image c.do_command.new.inserted) s c.read_cdb.result
    (read_cdb (record { lba = c.args.lba; n = c.args.n })) [] c.in-Err.stopped c.read_cdb.ensures (c.in-Err.ensures.rule s stands)
