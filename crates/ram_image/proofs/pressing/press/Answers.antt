use Rattle.std.proofs.Common.{refl, ◌∙◌, arith}
use Rattle.model_image.proofs.Presses.{known-pressed, known-stopped_header}
use Rattle.ram_image.proofs.pressing.press.Goals as goal

pub returns-in-Failed-write_at : goal.returns-in-Failed-write_at
returns-in-Failed-write_at g c = (
  known-stopped_header c.args.geometry.now refl (g.I.Image.bytes c.args.image.now) (g.I.Image.bytes c.set_len.new.self) (g.I.Image.bytes c.set_len-2.new.self) (g.I.Image.bytes c.write_at.new.self)
      c.in-Done.ensures.rule.changed (rw c.image_len-len.ensures.bytes at c.in-Done-set_len.ensures.rule.changed) (rw c.header-header.ensures at c.in-Failed-write_at.ensures.rule.1),
  omega (arith, c.in-Done.ensures.rule.count, c.in-Done-set_len.ensures.rule.count, c.in-Failed-write_at.ensures.rule.0),
)

pub returns-in-Done-write_at : goal.returns-in-Done-write_at
returns-in-Done-write_at g c = (
  known-pressed c.args.geometry.now refl (g.I.Image.bytes c.args.image.now) c.image_len-len.ensures.lawful (g.I.Image.bytes c.set_len.new.self) (g.I.Image.bytes c.set_len-2.new.self) (g.I.Image.bytes c.write_at.new.self)
      c.in-Done.ensures.rule.changed (rw c.image_len-len.ensures.bytes at c.in-Done-set_len.ensures.rule.changed) (rw c.header-header.ensures at c.in-Done-write_at.ensures.rule.changed),
  c.in-Done-write_at.ensures.rule.count ∙ c.in-Done-set_len.ensures.rule.count ∙ c.in-Done.ensures.rule.count,
)
