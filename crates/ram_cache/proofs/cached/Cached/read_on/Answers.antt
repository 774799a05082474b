use Rattle.ram_cache.specs.Caches.{shown_by}
use Rattle.ram_cache.specs.Rooms.{pending_of}
use Rattle.ram_cache.proofs.Beginnings.{plain_read, out_of_range, read_past}
use Rattle.ram_cache.proofs.Telling.{not_empty}
use Rattle.ram_cache.proofs.cached.Cached.read_on.Goals as goal

pub returns-then-is_empty-clause-step : goal.returns-then-is_empty-clause-step
returns-then-is_empty-clause-step g c =
    plain_read (g.D.Sectors.stands c.args.self.now.disc) (g.D.Sectors.stands c.read.new.self) (pending_of c.args.self.now.pending) c.args.lba c.args.n c.read.new.into c.read.result
    (c.is_empty.ensures.0 c.if-is_empty.true) c.read.ensures.step

pub returns-in-None-clause-cause : goal.returns-in-None-clause-cause
returns-in-None-clause-cause g c =
    read_past (pending_of c.args.self.now.pending) (shown_by g.D.Sectors c.args.self.now) c.args.sectors c.args.lba c.args.n
    (not_empty (pending_of c.args.self.now.pending) c.is_empty.result c.if-is_empty.false c.is_empty.ensures)
    (out_of_range (shown_by g.D.Sectors c.args.self.now) c.args.sectors c.args.lba c.args.n c.requires.ready c.in-None.ensures)
