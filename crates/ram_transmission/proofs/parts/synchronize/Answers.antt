use Rattle.std.specs.Prelude.{[]}
use Rattle.std.proofs.Common.{refl}
use Rattle.model_nbd.specs.Commands.{bare, sync_cdb}
use Rattle.ram_machine.specs.Inserted.{Stands}
use Rattle.ram_transmission.proofs.Commands.{any_command}
use Rattle.ram_transmission.proofs.Chained.{one_command}
use Rattle.ram_transmission.proofs.parts.synchronize.Goals as goal

pub returns-clause-rule : goal.returns-clause-rule
returns-clause-rule g c = λ s stands.
    one_command (Stands g.D.Caching g.D.Drive.lies_in g.D.Image.Image c.do_command.new.inserted)
    (Stands g.D.Caching g.D.Drive.lies_in g.D.Image.Image c.args.inserted.now) s (bare sync_cdb) c.do_command.result stands
    (λ t stood. any_command _ (Stands g.D.Caching g.D.Drive.lies_in g.D.Image.Image c.do_command.new.inserted) t c.sync_cdb.result sync_cdb [] []
    c.do_command.result c.sync_cdb.ensures refl (c.do_command.ensures.rule t stood))
