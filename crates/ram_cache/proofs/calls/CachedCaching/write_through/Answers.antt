use Rattle.ram_cache.specs.Rooms.{pending_of}
use Rattle.ram_cache.proofs.PlainWrites.{plain_write_cause, plain_write}
use Rattle.ram_cache.proofs.calls.CachedCaching.write_through.Goals as goal

pub returns-then-is_empty-clause-cause : goal.returns-then-is_empty-clause-cause
returns-then-is_empty-clause-cause g c =
    plain_write_cause (g.D.Sectors.shows c.args.self.now.disc) (g.D.Sectors.shows c.write.new.self) (pending_of c.args.self.now.pending) c.args.self.now.on c.args.lba c.args.n c.write.result
    (c.is_empty.ensures.0 c.if-is_empty.true) (record { same_shape = c.write.ensures.same_shape; sound = g.met.D.Sectors.laws.sound c.write.new.self }) c.write.ensures.cause

pub returns-then-is_empty-clause-step : goal.returns-then-is_empty-clause-step
returns-then-is_empty-clause-step g c =
    plain_write (g.D.Sectors.shows c.args.self.now.disc) (g.D.Sectors.shows c.write.new.self) (pending_of c.args.self.now.pending) c.args.self.now.on c.args.lba c.args.n
    (g.D.Sectors.stands c.args.self.now.disc) (g.D.Sectors.stands c.write.new.self) (λ t b. (g.met.D.Sectors.laws.as_shown c.args.self.now.disc t).0 b) c.args.from.now c.requires.whole c.write.result
    (c.is_empty.ensures.0 c.if-is_empty.true) c.write.ensures.cause c.write.ensures.step
