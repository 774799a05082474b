use Rattle.std.proofs.Common.{rules, ◌*◌, ◌-◌, take, drop}
use Rattle.model_nbd.specs.Commands.{write_cdb}
use Rattle.ram_machine.specs.Inserted.{Stands}
use Rattle.ram_transmission.proofs.Commands.{any_command}
use Rattle.ram_transmission.proofs.parts.write_part.Goals as goal

pub returns-clause-rule : goal.returns-clause-rule
returns-clause-rule g c = λ s stands.
    any_command _ (Stands g.D.Caching g.D.Drive.lies_in g.D.Image.Image c.do_command.new.inserted) s c.write_cdb.result
    (write_cdb c.args.fua (record { lba = c.args.at; n = c.args.n })) _
    (take (2048 * c.args.n) (drop (2048 * (c.args.at - c.args.lba)) c.args.payload.now)) c.do_command.result c.write_cdb.ensures
    (search rules) (c.do_command.ensures.rule s stands)
