use Rattle.ram_image.proofs.Leaving.{left_unread, left_dead}
use Rattle.ram_image.proofs.ByteSteps.{bytes_unread, bytes_dead}
use Rattle.ram_image.proofs.CellMoments.{read_then}
use Rattle.ram_image.proofs.cells.leave_cell.Goals as goal

pub returns-in-Failed-clause-rule : goal.returns-in-Failed-clause-rule
returns-in-Failed-clause-rule g c = left_unread c.args.total c.args.block c.requires.inside c.args.from.now _ _ _ _ c.in-Failed.ensures.rule

pub returns-in-Dead-clause-rule : goal.returns-in-Dead-clause-rule
returns-in-Dead-clause-rule g c = (left_dead c.args.total c.args.block c.requires.inside c.args.from.now c.args.fate _ _ c.in-Dead.ensures.rule.1 c.in-Dead.ensures.rule.0.same, c.in-Dead.ensures.rule.0.count)

pub returns-in-Failed-clause-bytes : goal.returns-in-Failed-clause-bytes
returns-in-Failed-clause-bytes g c = bytes_unread c.args.total c.args.block c.args.from.now _ _ c.in-Failed.ensures.rule.same

pub returns-in-Dead-clause-bytes : goal.returns-in-Dead-clause-bytes
returns-in-Dead-clause-bytes g c = bytes_dead c.args.total c.args.block c.args.from.now c.args.fate _ _ c.in-Dead.ensures.rule.1 c.in-Dead.ensures.rule.0.same

pub returns-in-Alive-clause-past : goal.returns-in-Alive-clause-past
returns-in-Alive-clause-past g c =
    read_then c.args.total c.args.block c.args.from.now (g.I.Image.bytes c.args.image.now) (g.I.Image.bytes c.read_state.new.image) c.in-Alive.ensures.rule.0.same (g.I.Image.past c.args.image.now) (g.I.Image.past c.read_state.new.image) (g.I.Image.past c.leave_alive-in-Alive.new.image) c.in-Alive.ensures.past c.leave_alive-in-Alive.ensures.past
