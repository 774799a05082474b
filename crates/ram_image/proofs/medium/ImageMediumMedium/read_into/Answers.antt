use Rattle.std.specs.Prelude.{[]}
use Rattle.ram_medium.specs.ReadInto.{bytes_read}
use Rattle.model_medium.proofs.Happening.{read_by}
use Rattle.model_medium.proofs.Rules.{read_rule, read_continues}
use Rattle.model_image.proofs.KnownCells.{shows_none_unknown}
use Rattle.ram_image.specs.Medium.{shape_of_medium, machine_in, ImageTakes}
use Rattle.ram_image.proofs.medium.ImageMediumMedium.read_into.Goals as goal

pub returns-clause-rule : goal.returns-clause-rule
returns-clause-rule g c =
    read_rule (machine_in c.args.self.now) (machine_in c.read_bytes.new.self) c.args.block [] (bytes_read c.read_bytes.result c.read_bytes.new.into) c.read_bytes.result
    (shows_none_unknown (shape_of_medium c.args.self.now) (g.I.Image.bytes c.args.self.now.image)) c.read_bytes.ensures.event.exactly

pub returns-clause-continues : goal.returns-clause-continues
returns-clause-continues g c =
    read_by ImageTakes machine_in c.args.self.now c.read_bytes.new.self _ c.read_bytes.ensures.event c.read_bytes.result
    (read_continues (machine_in c.args.self.now) (machine_in c.read_bytes.new.self) c.args.block [] (bytes_read c.read_bytes.result c.read_bytes.new.into) c.read_bytes.result c.args.self.now.armed.value.to_come c.read_bytes.ensures.event.exactly)
