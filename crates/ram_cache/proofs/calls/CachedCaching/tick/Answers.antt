use Rattle.ram_cache.specs.Caches.{shown_by}
use Rattle.ram_cache.proofs.Beginnings.{tick_entered}
use Rattle.ram_cache.proofs.calls.CachedCaching.tick.Goals as goal

pub returns-in-Formatted-clause-cause : goal.returns-in-Formatted-clause-cause
returns-in-Formatted-clause-cause g c =
    tick_entered (shown_by g.D.Sectors c.args.self.now) (shown_by g.D.Sectors c.enter.new.self) (shown_by g.D.Sectors c.tick_on.new.self) c.tick_on.result c.in-Formatted.ensures.rule.1 c.tick_on.ensures.cause
