use Rattle.std.specs.Prelude.{[]}
use Rattle.ram_machine.specs.States.{Disc}
use Rattle.ram_machine.specs.Inserted.{Stands}
use Rattle.ram_transmission.specs.Chains.{AnyData}
use Rattle.ram_transmission.proofs.Commands.{command_done, command_stopped}
use Rattle.ram_transmission.proofs.parts.do_command.Goals as goal

pub returns-in-Ok-Command-clause-rule : goal.returns-in-Ok-Command-clause-rule
returns-in-Ok-Command-clause-rule g c = λ s stands.
    command_done s c.args.cdb c.in-Ok-Command.field-0-0 c.args.payload.now c.answer.new.data_in.items _
    (Stands g.D.Caching g.D.Drive.lies_in g.D.Image.Image c.answer.new.self) c.in-Ok-Command.field-0 c.in-Ok-Command.answer c.in-Ok-Command.field-0-is
    (c.in-Ok-Command.ensures.step (Disc s) stands)

pub returns-in-Err-clause-rule : goal.returns-in-Err-clause-rule
returns-in-Err-clause-rule g c = λ s stands.
    command_stopped AnyData s c.args.cdb c.args.payload.now c.answer.new.data_in.items []
    (Stands g.D.Caching g.D.Drive.lies_in g.D.Image.Image c.answer.new.self) c.in-Err.stopped (c.in-Err.ensures.step (Disc s) stands)
