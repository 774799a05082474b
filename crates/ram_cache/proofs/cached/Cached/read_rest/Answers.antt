use Rattle.std.proofs.Common.{◌*◌, sym, ap, ◌∙◌, subst}
use Rattle.model_drive.specs.Reads.{ReadCause, ReadStep}
use Rattle.model_cache.specs.Causes.{leaves_after_read}
use Rattle.ram_cache.specs.declared.pending.PendingBlocks.{PendingBlocks}
use Rattle.ram_cache.specs.Rooms.{pending_of, staged_of, room_of}
use Rattle.ram_cache.proofs.Rests.{ok_good, rest_contents}
use Rattle.ram_cache.proofs.cached.Cached.read_rest.Goals as goal

pub returns-clause-step : goal.returns-clause-step
returns-clause-step g c = λ v not_pending so.
    let drives = g.D.Sectors in
    rest_contents (drives.shows c.args.self.now.disc) (drives.shows c.after_read.new.self.disc) (drives.stands c.args.self.now.disc) (drives.stands c.after_read.new.self.disc)
    (pending_of c.args.self.now.pending) c.args.part.request.lba c.args.part.request.n c.args.part.block c.args.part.start c.requires.inside
    (room_of c.read_rest-out.new.self c.args.staged) (room_of c.after_read.new.self.pending c.args.staged) v not_pending
    (pending_of c.after_read.new.self.pending) c.read_rest-out.result c.told_of_rest.result c.told_of_rest.ensures
    (c.after_read.ensures.left ∙ ap (leaves_after_read c.read_rest-out.result) c.read_rest-out.ensures.pending)
    (subst (λ (x : g.row.D.Denot). ReadCause (drives.shows c.args.self.now.disc) (drives.shows x) (16 * c.args.part.block) 16 c.read_rest-out.result) (sym c.after_read.ensures.same_disc) c.read_rest-out.ensures.cause.cause)
    (λ t b. subst (λ (x : g.row.D.Denot). ReadStep (drives.stands x) t (16 * c.args.part.block) 16 (room_of c.read_rest-out.new.self c.args.staged) c.read_rest-out.result) (sym c.after_read.ensures.same_disc)
    (c.read_rest-out.ensures.step t b))
    (λ good. ap (λ (q : PendingBlocks). room_of q c.args.staged) (c.after_read.ensures.kept good)) so

pub returns-clause-staged : goal.returns-clause-staged
returns-clause-staged g c = λ ok.
    ap (λ (q : PendingBlocks). staged_of q c.args.staged) (c.after_read.ensures.kept (ok_good c.read_rest-out.result c.args.part.start c.told_of_rest.result c.told_of_rest.ensures ok))
    ∙ c.read_rest-out.ensures.staged
