use Rattle.model_medium.proofs.Happening.{read_by}
use Rattle.model_medium.proofs.Rules.{read_rule, read_continues}
use Rattle.model_image.proofs.KnownCells.{shows_none_unknown}
use Rattle.ram_image.specs.Medium.{shape_of_medium, machine_in, ImageTakes}
use Rattle.ram_image.proofs.medium.ImageMediumMedium.read.Goals as goal

pub returns-clause-rule : goal.returns-clause-rule
returns-clause-rule g c =
    read_rule (machine_in c.args.self.now) (machine_in c.read_block.new.self) c.args.block c.args.into.now c.read_block.new.into c.read_block.result
    (shows_none_unknown (shape_of_medium c.args.self.now) (g.I.Image.bytes c.args.self.now.image)) c.read_block.ensures.exactly

pub returns-clause-continues : goal.returns-clause-continues
returns-clause-continues g c =
    read_by ImageTakes machine_in c.args.self.now c.read_block.new.self _ c.read_block.ensures c.read_block.result
    (read_continues (machine_in c.args.self.now) (machine_in c.read_block.new.self) c.args.block c.args.into.now c.read_block.new.into c.read_block.result c.args.self.now.armed.value.to_come c.read_block.ensures.exactly)
