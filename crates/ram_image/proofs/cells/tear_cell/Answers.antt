use Rattle.std.proofs.Common.{refl}
use Rattle.model_medium.specs.Cells.{Torn}
use Rattle.ram_image.proofs.Leaving.{state_written}
use Rattle.ram_image.proofs.ByteSteps.{state_bytes}
use Rattle.ram_image.proofs.CellMoments.{state_passes}
use Rattle.ram_image.proofs.cells.tear_cell.Goals as goal

pub returns-clause-rule : goal.returns-clause-rule
returns-clause-rule g c =
    state_written c.args.total c.args.block c.requires.inside _ Torn (λ bytes. refl) (g.I.Image.bytes c.args.image.now) (g.I.Image.bytes c.write_at.new.self) c.requires.whole
    (g.I.Image.faults c.args.image.now) (g.I.Image.faults c.write_at.new.self) c.write_at.result (rw c.state_offset.ensures at c.write_at.ensures.rule)

pub returns-clause-bytes : goal.returns-clause-bytes
returns-clause-bytes g c =
    state_bytes c.args.total c.args.block c.requires.inside _ (g.I.Image.bytes c.args.image.now) (g.I.Image.bytes c.write_at.new.self) c.requires.whole
    (g.I.Image.faults c.args.image.now) (g.I.Image.faults c.write_at.new.self) c.write_at.result (rw c.state_offset.ensures at c.write_at.ensures.rule)

pub returns-clause-past : goal.returns-clause-past
returns-clause-past g c =
    state_passes c.args.total c.args.block _ c.requires.inside (g.I.Image.bytes c.args.image.now) (g.I.Image.bytes c.write_at.new.self) c.requires.whole (g.I.Image.faults c.args.image.now) (g.I.Image.faults c.write_at.new.self) c.write_at.result
    (rw c.state_offset.ensures at c.write_at.ensures.rule) (g.I.Image.past c.args.image.now) (g.I.Image.past c.write_at.new.self) c.write_at.ensures.past
