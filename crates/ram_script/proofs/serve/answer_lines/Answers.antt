use Rattle.ram_machine.specs.Inserted.{Stands}
use Rattle.ram_script.specs.Progress.{run_view}
use Rattle.ram_script.proofs.Finishes.{begins}
use Rattle.ram_script.proofs.Left.{leaves_by}
use Rattle.ram_script.proofs.serve.answer_lines.Goals as goal

pub returns-clause-leaves : goal.returns-clause-leaves
returns-clause-leaves g c first kind b =
    leaves_by first (Stands g.D.Caching g.D.Drive.lies_in g.D.Image.Image c.serve_lines-inserted.result.0) (g.D.Image.Image.bytes c.into_parts-image.result.0) c.into_parts-image.ensures.left
    (run_view g.T.Conversation g.T.Sink.Sink c.serve_lines-inserted.new.dialogue c.serve_lines-inserted.new.state.tally) c.serve_lines-inserted.result.1
    (c.serve_lines-inserted.ensures.ends first
    (begins g.T.Conversation g.T.Sink.Sink first c.args.rooms.drive.kind (Stands g.D.Caching g.D.Drive.lies_in g.D.Image.Image c.in-Ok.inserted) c.args.dialogue.now c.args.state.now kind c.requires.fresh c.requires.empty b.left_is b.written_is
    (c.in-Ok.ensures.0 first.image b.image_is)))

pub returns-clause-counts : goal.returns-clause-counts
returns-clause-counts g c = rw c.into_parts-image.ensures.count (rw c.in-Ok.ensures.1 at c.serve_lines-inserted.ensures.counts)
