use Rattle.ram_cache.specs.Rooms.{pending_of}
use Rattle.ram_cache.proofs.HostCalls.{power_contents}
use Rattle.ram_cache.proofs.calls.CachedCaching.power.Goals as goal

pub returns-clause-step : goal.returns-clause-step
returns-clause-step g c =
    power_contents (g.D.Sectors.shows c.power.new.self) (g.D.Sectors.stands c.args.self.now.disc) (g.D.Sectors.stands c.power.new.self) (pending_of c.args.self.now.pending)
    (pending_of c.drop_all.new.self) c.power.result c.drop_all.ensures c.power.ensures.step
