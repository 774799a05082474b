use Rattle.ram_cache.specs.Caches.{shown_by}
use Rattle.ram_cache.proofs.Beginnings.{read_unformatted}
use Rattle.ram_cache.proofs.cached.Cached.read_entering.Goals as goal

pub returns-in-NotFormatted-clause-cause : goal.returns-in-NotFormatted-clause-cause
returns-in-NotFormatted-clause-cause g c =
    read_unformatted (shown_by g.D.Sectors c.args.self.now) (shown_by g.D.Sectors c.enter.new.self) c.args.lba c.args.n (g.met.D.Sectors.laws.sound c.args.self.now.disc) c.in-NotFormatted.ensures.rule
