use Rattle.ram_outside.specs.declared.image.Moved.TheVariants as moves
use Rattle.ram_image.proofs.Moments.{reads_pass}
use Rattle.ram_image.proofs.cells.read_state.Goals as goal

pub returns-in-Failed-clause-past : goal.returns-in-Failed-clause-past
returns-in-Failed-clause-past g c = reads_pass (g.I.Image.bytes c.args.image.now) (g.I.Image.bytes c.read_at.new.self) (g.I.Image.past c.args.image.now) (g.I.Image.past c.read_at.new.self) moves.Failed c.in-Failed.ensures.rule.same c.in-Failed.ensures.past
