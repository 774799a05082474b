use Rattle.ram_cache.specs.Rooms.{pending_of}
use Rattle.ram_cache.proofs.Beginnings.{plain_read, plain_read_cause}
use Rattle.ram_cache.proofs.calls.CachedCaching.read.Goals as goal

pub returns-then-is_empty-clause-step : goal.returns-then-is_empty-clause-step
returns-then-is_empty-clause-step g c =
    plain_read (g.D.Sectors.stands c.args.self.now.disc) (g.D.Sectors.stands c.read.new.self) (pending_of c.args.self.now.pending) c.args.lba c.args.n c.read.new.into c.read.result
    (c.is_empty.ensures.0 c.if-is_empty.true) c.read.ensures.step

pub returns-then-is_empty-clause-cause : goal.returns-then-is_empty-clause-cause
returns-then-is_empty-clause-cause g c =
    plain_read_cause (g.D.Sectors.shows c.args.self.now.disc) (g.D.Sectors.shows c.read.new.self) (pending_of c.args.self.now.pending) c.args.self.now.on c.args.lba c.args.n c.read.result
    (c.is_empty.ensures.0 c.if-is_empty.true) (record { cause = c.read.ensures.cause; quiet = c.read.ensures.quiet; leaves = record { same_shape = c.read.ensures.same_shape; sound = g.met.D.Sectors.laws.sound c.read.new.self } })
