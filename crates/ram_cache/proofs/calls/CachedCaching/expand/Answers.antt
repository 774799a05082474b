use Rattle.std.proofs.Common.{sym, subst}
use Rattle.model_drive.specs.Expands.{ExpandCause, ExpandStep}
use Rattle.ram_cache.specs.Rooms.{pending_of}
use Rattle.ram_cache.specs.Calls.{LeftExpanded}
use Rattle.ram_cache.proofs.HostCalls.{expand_contents}
use Rattle.ram_cache.proofs.calls.CachedCaching.expand.Goals as goal

pub returns-clause-step : goal.returns-clause-step
returns-clause-step g c =
    let drives = g.D.Sectors in
    let same = sym c.after_expansion.ensures.same_disc in
    expand_contents (drives.shows c.args.self.now.disc) (drives.shows c.after_expansion.new.self.disc) (drives.stands c.args.self.now.disc) (drives.stands c.after_expansion.new.self.disc)
    (λ t b. (g.met.D.Sectors.laws.as_shown c.args.self.now.disc t).0 b) (λ t b. (g.met.D.Sectors.laws.as_shown c.after_expansion.new.self.disc t).0 b)
    (pending_of c.args.self.now.pending) (pending_of c.after_expansion.new.self.pending) c.args.capacity c.expand-out.result
    (subst (λ (x : g.row.D.Denot). ExpandCause (drives.shows c.args.self.now.disc) (drives.shows x) c.args.capacity c.expand-out.result) same c.expand-out.ensures.cause)
    (subst (λ (x : g.row.D.Denot). LeftExpanded (drives.shows x) c.expand-out.result (pending_of c.args.self.now.pending) (pending_of c.after_expansion.new.self.pending)) same c.after_expansion.ensures.left)
    (λ t b. subst (λ (x : g.row.D.Denot). ExpandStep (drives.stands x) t c.args.capacity c.expand-out.result) same (c.expand-out.ensures.step t b))
