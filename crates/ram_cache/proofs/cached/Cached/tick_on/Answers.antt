use Rattle.std.proofs.Common.{ℕ, ◌*◌, ap, subst, sym}
use Rattle.model_cache.specs.declared.TickOut.{TickOut}
use Rattle.model_cache.specs.Causes.{TickCauseOf}
use Rattle.ram_cache.specs.Caches.{shown_by}
use Rattle.ram_cache.specs.Rooms.{pending_of}
use Rattle.ram_cache.proofs.Telling.{tick_cause, not_empty}
use Rattle.ram_cache.proofs.cached.Cached.tick_on.Goals as goal

pub returns-clause-cause : goal.returns-clause-cause
returns-clause-cause g c =
    subst (λ (o : TickOut). TickCauseOf (shown_by g.D.Sectors c.args.self.now) (shown_by g.D.Sectors c.flush-out.new.self) o) (sym c.told_of_tick.ensures)
    (tick_cause (shown_by g.D.Sectors c.args.self.now) (shown_by g.D.Sectors c.flush-out.new.self) c.requires.ready.can c.args.self.now.pending.apart
    (not_empty (pending_of c.args.self.now.pending) c.is_empty.result c.if-is_empty.false c.is_empty.ensures)
    (16 * c.number-lba.result) c.flush-out.result (ap (λ (n : ℕ). 16 * n) c.number-lba.ensures) c.flush-out.ensures.rule)
