use Rattle.std.proofs.Common.{◌∙◌}
use Rattle.ram_image.proofs.CellReads.{data_read}
use Rattle.ram_image.proofs.CellMoments.{read_at_passes}
use Rattle.ram_image.proofs.cells.read_data.Goals as goal

pub returns-clause-rule : goal.returns-clause-rule
returns-clause-rule g c =
    data_read c.args.total c.args.block c.data_offset.result c.read_at.new.into c.data_offset.ensures (c.read_at.auto.into ∙ c.requires.fits)
    (g.I.Image.bytes c.args.image.now) (g.I.Image.bytes c.read_at.new.self) (g.I.Image.faults c.args.image.now) (g.I.Image.faults c.read_at.new.self) c.requires.good c.read_at.result c.read_at.ensures.rule

pub returns-clause-past : goal.returns-clause-past
returns-clause-past g c = read_at_passes (g.I.Image.bytes c.args.image.now) (g.I.Image.bytes c.read_at.new.self) (g.I.Image.past c.args.image.now) (g.I.Image.past c.read_at.new.self) (g.I.Image.faults c.args.image.now) (g.I.Image.faults c.read_at.new.self) c.data_offset.result c.read_at.new.into c.read_at.result c.read_at.ensures.rule c.read_at.ensures.past
