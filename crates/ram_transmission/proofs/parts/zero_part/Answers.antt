use Rattle.std.specs.Prelude.{◌*◌}
use Rattle.model_nbd.specs.Commands.{write_cdb, zeroes_for}
use Rattle.ram_machine.specs.Inserted.{Stands}
use Rattle.ram_transmission.proofs.Commands.{any_command, fewer_zeroes}
use Rattle.ram_transmission.proofs.parts.zero_part.Goals as goal

pub returns-clause-rule : goal.returns-clause-rule
returns-clause-rule g c = λ s stands.
    any_command _ (Stands g.D.Caching g.D.Drive.lies_in g.D.Image.Image c.do_command.new.inserted) s c.write_cdb.result
    (write_cdb c.args.fua (record { lba = c.args.at; n = c.args.n })) _ (zeroes_for (2048 * c.args.n)) c.do_command.result c.write_cdb.ensures
    (fewer_zeroes (2048 * c.args.n) c.args.zeros.now c.requires.long c.requires.zeros) (c.do_command.ensures.rule s stands)
