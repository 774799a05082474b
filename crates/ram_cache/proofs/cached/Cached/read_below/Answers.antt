use Rattle.std.proofs.Common.{◌-◌, sym, subst}
use Rattle.model_drive.specs.Reads.{ReadCause, ReadStep}
use Rattle.ram_cache.specs.Rooms.{pending_of}
use Rattle.model_cache.specs.Chains.{ReadsDisc}
use Rattle.ram_cache.specs.Caches.{shown_by}
use Rattle.ram_cache.proofs.ReadParts.{below_contents, below_cause}
use Rattle.ram_cache.proofs.cached.Cached.read_below.Goals as goal

pub returns-clause-step : goal.returns-clause-step
returns-clause-step g c = λ v not_pending so.
    let drives = g.D.Sectors in
    below_contents (drives.shows c.args.self.now.disc) (drives.shows c.after_read.new.self.disc) (drives.stands c.args.self.now.disc) (drives.stands c.after_read.new.self.disc)
    (pending_of c.args.self.now.pending) (λ t b. (g.met.D.Sectors.laws.as_shown c.args.self.now.disc t).0 b)
    c.args.part.request.lba c.args.part.request.n c.args.part.block c.requires.inside c.requires.covered c.read-out.new.into c.args.into.now c.skipped-at.result c.args.part.start c.args.part.end
    c.skipped-at.ensures c.args.part.start_is c.args.part.end_is v not_pending (pending_of c.after_read.new.self.pending) c.read-out.result c.after_read.ensures.left
    (subst (λ (x : g.row.D.Denot). ReadCause (drives.shows c.args.self.now.disc) (drives.shows x) c.args.part.start (c.args.part.end - c.args.part.start) c.read-out.result) (sym c.after_read.ensures.same_disc) c.read-out.ensures.cause)
    (λ t b. subst (λ (x : g.row.D.Denot). ReadStep (drives.stands x) t c.args.part.start (c.args.part.end - c.args.part.start) c.read-out.new.into c.read-out.result) (sym c.after_read.ensures.same_disc) (c.read-out.ensures.step t b))
    so

pub returns-clause-cause : goal.returns-clause-cause
returns-clause-cause g c =
    let drives = g.D.Sectors in
    below_cause (shown_by drives c.args.self.now) (shown_by drives c.after_read.new.self) c.args.part.request.lba c.args.part.request.n c.args.part.block c.args.part.start c.args.part.end c.read-out.result
    c.args.part.start_is c.args.part.end_is
    (subst (λ (x : g.row.D.Denot). ReadsDisc (drives.shows c.args.self.now.disc) (drives.shows x) c.args.part.start (c.args.part.end - c.args.part.start) c.read-out.result) (sym c.after_read.ensures.same_disc)
    (record { cause = c.read-out.ensures.cause; quiet = c.read-out.ensures.quiet; leaves = record { same_shape = c.read-out.ensures.same_shape; sound = g.met.D.Sectors.laws.sound c.read-out.new.self } }))
    c.after_read.ensures.left c.after_read.ensures.same_mode
