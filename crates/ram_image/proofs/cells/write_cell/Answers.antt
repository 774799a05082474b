use Rattle.std.proofs.Common.{◌∙◌, arith}
use Rattle.model_image.proofs.CellWrites.{known-stopped_first, known-stopped_second, known-second_long}
use Rattle.ram_image.proofs.CellSteps.{last_write}
use Rattle.ram_image.proofs.ByteSteps.{bytes_first, bytes_second, bytes_last}
use Rattle.model_image.specs.Writes.{PutsInBlock}
use Rattle.ram_image.proofs.Moments.{passes_then}
use Rattle.ram_image.proofs.CellMoments.{first_passes, second_passes, third_passes}
use Rattle.ram_image.proofs.cells.write_cell.Goals as goal

pub returns-in-Failed-clause-rule : goal.returns-in-Failed-clause-rule
returns-in-Failed-clause-rule g c = (
  known-stopped_first c.args.total c.args.block c.requires.inside (g.I.Image.bytes c.args.image.now) c.args.from.now c.requires.whole
      c.requires.fits (g.I.Image.bytes c.write_at.new.self)
      (rw c.state_offset.ensures at c.in-Failed.ensures.rule.1),
  c.in-Failed.ensures.rule.0,
)

pub returns-in-Failed-write_at-clause-rule : goal.returns-in-Failed-write_at-clause-rule
returns-in-Failed-write_at-clause-rule g c = (
  known-stopped_second c.args.total c.args.block c.requires.inside (g.I.Image.bytes c.args.image.now) c.args.from.now c.requires.whole
      c.requires.fits (g.I.Image.bytes c.write_at.new.self) (g.I.Image.bytes c.write_at-2.new.self)
      (rw c.state_offset.ensures at c.in-Done.ensures.rule.changed) (rw c.data_offset.ensures at c.in-Failed-write_at.ensures.rule.1),
  omega (arith, c.in-Done.ensures.rule.count, c.in-Failed-write_at.ensures.rule.0),
)

pub write_at-requires-3 : goal.write_at-requires-3
write_at-requires-3 g c x is =
    omega (
      arith,
      c.state_offset-2.ensures,
      known-second_long c.args.total c.args.block c.requires.inside (g.I.Image.bytes c.args.image.now) c.args.from.now c.requires.whole
          c.requires.fits (g.I.Image.bytes c.write_at.new.self) (g.I.Image.bytes c.write_at-2.new.self)
          (rw c.state_offset.ensures at c.in-Done.ensures.rule.changed) (rw c.data_offset.ensures at c.in-Done-write_at.ensures.rule.changed) x is,
    )

pub returns-clause-rule : goal.returns-clause-rule
returns-clause-rule g c =
    last_write c.args.total c.args.block c.requires.inside (g.I.Image.bytes c.args.image.now) (g.I.Image.bytes c.write_at.new.self) (g.I.Image.bytes c.write_at-2.new.self)
    (g.I.Image.bytes c.write_at-3.new.self) c.args.from.now c.requires.whole c.requires.fits
    (rw c.state_offset.ensures at c.in-Done.ensures.rule.changed) (rw c.data_offset.ensures at c.in-Done-write_at.ensures.rule.changed)
    (g.I.Image.faults c.args.image.now) (g.I.Image.faults c.write_at-2.new.self) (g.I.Image.faults c.write_at-3.new.self)
    (c.in-Done-write_at.ensures.rule.count ∙ c.in-Done.ensures.rule.count) c.write_at-3.result (rw c.state_offset-2.ensures at c.write_at-3.ensures.rule)

pub returns-in-Failed-clause-bytes : goal.returns-in-Failed-clause-bytes
returns-in-Failed-clause-bytes g c =
    bytes_first c.args.total c.args.block c.requires.inside c.args.from.now c.requires.fits (g.I.Image.bytes c.args.image.now) c.requires.whole
    (g.I.Image.bytes c.write_at.new.self) (rw c.state_offset.ensures at c.in-Failed.ensures.rule.1)

pub returns-in-Failed-write_at-clause-bytes : goal.returns-in-Failed-write_at-clause-bytes
returns-in-Failed-write_at-clause-bytes g c =
    bytes_second c.args.total c.args.block c.requires.inside c.args.from.now c.requires.fits (g.I.Image.bytes c.args.image.now) c.requires.whole
    (g.I.Image.bytes c.write_at.new.self) (g.I.Image.bytes c.write_at-2.new.self) (rw c.state_offset.ensures at c.in-Done.ensures.rule.changed)
    (rw c.data_offset.ensures at c.in-Failed-write_at.ensures.rule.1)

pub returns-clause-bytes : goal.returns-clause-bytes
returns-clause-bytes g c =
    bytes_last c.args.total c.args.block c.requires.inside c.args.from.now c.requires.fits (g.I.Image.bytes c.args.image.now) c.requires.whole
    (g.I.Image.bytes c.write_at.new.self) (g.I.Image.bytes c.write_at-2.new.self) (g.I.Image.bytes c.write_at-3.new.self)
    (rw c.state_offset.ensures at c.in-Done.ensures.rule.changed) (rw c.data_offset.ensures at c.in-Done-write_at.ensures.rule.changed)
    (g.I.Image.faults c.args.image.now) (g.I.Image.faults c.write_at-2.new.self) (g.I.Image.faults c.write_at-3.new.self) c.write_at-3.result (rw c.state_offset-2.ensures at c.write_at-3.ensures.rule)

pub returns-in-Failed-clause-past : goal.returns-in-Failed-clause-past
returns-in-Failed-clause-past g c =
    first_passes c.args.total c.args.block c.requires.inside c.args.from.now c.requires.fits (g.I.Image.bytes c.args.image.now) c.requires.whole (g.I.Image.bytes c.write_at.new.self) (g.I.Image.faults c.args.image.now) (g.I.Image.faults c.write_at.new.self) c.write_at.result (rw c.state_offset.ensures at c.write_at.ensures.rule) (g.I.Image.past c.args.image.now) (g.I.Image.past c.write_at.new.self) c.write_at.ensures.past

pub returns-in-Failed-write_at-clause-past : goal.returns-in-Failed-write_at-clause-past
returns-in-Failed-write_at-clause-past g c =
    passes_then (PutsInBlock c.args.total c.args.block c.args.from.now) (g.I.Image.bytes c.args.image.now) (g.I.Image.past c.args.image.now) (g.I.Image.past c.write_at.new.self) (g.I.Image.past c.write_at-2.new.self)
    (first_passes c.args.total c.args.block c.requires.inside c.args.from.now c.requires.fits (g.I.Image.bytes c.args.image.now) c.requires.whole (g.I.Image.bytes c.write_at.new.self) (g.I.Image.faults c.args.image.now) (g.I.Image.faults c.write_at.new.self) c.write_at.result (rw c.state_offset.ensures at c.write_at.ensures.rule) (g.I.Image.past c.args.image.now) (g.I.Image.past c.write_at.new.self) c.write_at.ensures.past)
    (second_passes c.args.total c.args.block c.requires.inside c.args.from.now c.requires.fits (g.I.Image.bytes c.args.image.now) c.requires.whole (g.I.Image.bytes c.write_at.new.self) (g.I.Image.bytes c.write_at-2.new.self) (rw c.state_offset.ensures at c.in-Done.ensures.rule.changed) (g.I.Image.faults c.write_at.new.self) (g.I.Image.faults c.write_at-2.new.self) c.write_at-2.result (rw c.data_offset.ensures at c.write_at-2.ensures.rule) (g.I.Image.past c.write_at.new.self) (g.I.Image.past c.write_at-2.new.self) c.write_at-2.ensures.past)

pub returns-clause-past : goal.returns-clause-past
returns-clause-past g c =
    passes_then (PutsInBlock c.args.total c.args.block c.args.from.now) (g.I.Image.bytes c.args.image.now) (g.I.Image.past c.args.image.now) (g.I.Image.past c.write_at-2.new.self) (g.I.Image.past c.write_at-3.new.self)
    (passes_then (PutsInBlock c.args.total c.args.block c.args.from.now) (g.I.Image.bytes c.args.image.now) (g.I.Image.past c.args.image.now) (g.I.Image.past c.write_at.new.self) (g.I.Image.past c.write_at-2.new.self)
    (first_passes c.args.total c.args.block c.requires.inside c.args.from.now c.requires.fits (g.I.Image.bytes c.args.image.now) c.requires.whole (g.I.Image.bytes c.write_at.new.self) (g.I.Image.faults c.args.image.now) (g.I.Image.faults c.write_at.new.self) c.write_at.result (rw c.state_offset.ensures at c.write_at.ensures.rule) (g.I.Image.past c.args.image.now) (g.I.Image.past c.write_at.new.self) c.write_at.ensures.past)
    (second_passes c.args.total c.args.block c.requires.inside c.args.from.now c.requires.fits (g.I.Image.bytes c.args.image.now) c.requires.whole (g.I.Image.bytes c.write_at.new.self) (g.I.Image.bytes c.write_at-2.new.self) (rw c.state_offset.ensures at c.in-Done.ensures.rule.changed) (g.I.Image.faults c.write_at.new.self) (g.I.Image.faults c.write_at-2.new.self) c.write_at-2.result (rw c.data_offset.ensures at c.write_at-2.ensures.rule) (g.I.Image.past c.write_at.new.self) (g.I.Image.past c.write_at-2.new.self) c.write_at-2.ensures.past))
    (third_passes c.args.total c.args.block c.requires.inside c.args.from.now c.requires.fits (g.I.Image.bytes c.args.image.now) c.requires.whole (g.I.Image.bytes c.write_at.new.self) (g.I.Image.bytes c.write_at-2.new.self) (rw c.state_offset.ensures at c.in-Done.ensures.rule.changed) (g.I.Image.bytes c.write_at-3.new.self) (rw c.data_offset.ensures at c.in-Done-write_at.ensures.rule.changed) (g.I.Image.faults c.write_at-2.new.self) (g.I.Image.faults c.write_at-3.new.self) c.write_at-3.result (rw c.state_offset-2.ensures at c.write_at-3.ensures.rule) (g.I.Image.past c.write_at-2.new.self) (g.I.Image.past c.write_at-3.new.self) c.write_at-3.ensures.past)
