use Rattle.std.proofs.Common.{sym, subst}
use Rattle.model_drive.specs.Formats.{FormatCause, FormatStep}
use Rattle.ram_cache.specs.Rooms.{pending_of}
use Rattle.ram_cache.specs.Calls.{LeftAfter}
use Rattle.ram_cache.proofs.HostCalls.{format_left, format_contents}
use Rattle.ram_cache.proofs.calls.CachedCaching.format.Goals as goal

pub returns-clause-step : goal.returns-clause-step
returns-clause-step g c =
    let drives = g.D.Sectors in
    let same = sym c.after_format.ensures.same_disc in
    let cause = subst (λ (x : g.row.D.Denot). FormatCause (drives.shows c.args.self.now.disc) (drives.shows x) c.args.kind c.format-out.result) same c.format-out.ensures.cause in
    let left = subst (λ (x : g.row.D.Denot). LeftAfter (drives.shows x) c.drops_all-all.result c.format-out.result (pending_of c.args.self.now.pending) (pending_of c.after_format.new.self.pending)) same
    c.after_format.ensures.left in
    format_contents (drives.shows c.args.self.now.disc) (drives.shows c.after_format.new.self.disc) (drives.stands c.args.self.now.disc) (drives.stands c.after_format.new.self.disc)
    (λ t b. (g.met.D.Sectors.laws.as_shown c.after_format.new.self.disc t).0 b) (pending_of c.args.self.now.pending) (pending_of c.after_format.new.self.pending) c.args.kind c.format-out.result
    (format_left (drives.shows c.args.self.now.disc) (drives.shows c.after_format.new.self.disc) (pending_of c.args.self.now.pending) (pending_of c.after_format.new.self.pending) c.drops_all-all.result
    c.counts.result.formatted c.counts.ensures.formatted c.args.kind c.format-out.result c.drops_all-all.ensures cause left)
    cause
    (λ t b. subst (λ (x : g.row.D.Denot). FormatStep (drives.shows c.args.self.now.disc) (drives.shows x) (drives.stands x) t c.args.kind c.format-out.result) same (c.format-out.ensures.step t b))
