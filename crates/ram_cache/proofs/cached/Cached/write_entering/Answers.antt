use Rattle.ram_cache.specs.Caches.{shown_by, stands_by}
use Rattle.ram_cache.proofs.IntoCache.{write_entered, contents_entered}
use Rattle.ram_cache.proofs.cached.Cached.write_entering.Goals as goal

pub returns-in-Formatted-clause-cause : goal.returns-in-Formatted-clause-cause
returns-in-Formatted-clause-cause g c =
    write_entered (shown_by g.D.Sectors c.args.self.now) (shown_by g.D.Sectors c.enter.new.self) (shown_by g.D.Sectors c.write_on.new.self) (c.in-Formatted.ensures.rule.1) c.args.lba c.args.n c.args.from.now
    c.args.into_cache c.write_on.result c.write_on.ensures.cause

pub returns-in-Formatted-clause-step : goal.returns-in-Formatted-clause-step
returns-in-Formatted-clause-step g c = λ s so.
    contents_entered (shown_by g.D.Sectors c.args.self.now) (shown_by g.D.Sectors c.enter.new.self) (shown_by g.D.Sectors c.write_on.new.self) (c.in-Formatted.ensures.rule.1) c.args.lba c.args.n c.args.from.now
    (stands_by g.D.Sectors c.write_on.new.self) s c.args.into_cache c.write_on.result (c.write_on.ensures.step s (c.enter.ensures.step s so))
