use Rattle.ram_cache.specs.Caches.{shown_by}
use Rattle.ram_cache.specs.Calls.{goes_in}
use Rattle.ram_cache.proofs.Beginnings.{out_of_range}
use Rattle.std.proofs.Common.{arith}
use Rattle.ram_cache.proofs.IntoCache.{either_way, off_not, many_not, through_on}
use Rattle.ram_cache.proofs.cached.Cached.write_on.Goals.{else-into_cache-via-then-into_cache+else-blocks-le-CACHED_AT_ONCE, else-into_cache-via-else-into_cache}
use Rattle.ram_cache.proofs.cached.Cached.write_on.Goals as goal

pub returns-in_default-clause-cause : goal.returns-in_default-clause-cause
returns-in_default-clause-cause g c =
    either_way (goes_in c.args.into_cache c.args.lba c.args.n) _
    (out_of_range (shown_by g.D.Sectors c.args.self.now) c.args.sectors c.args.lba c.args.n c.requires.ready c.in_default.ensures)

pub returns-else-into_cache-clause-cause : goal.returns-else-into_cache-clause-cause
returns-else-into_cache-clause-cause g c =
    through_on (shown_by g.D.Sectors c.args.self.now) (shown_by g.D.Sectors c.write_over.new.self) c.args.into_cache c.args.lba c.args.n c.in-Some.request.lba c.in-Some.request.n c.args.from.now c.write_over.result
    c.in-Some.ensures.0 c.in-Some.ensures.1
    (elim c.else-into_cache.branch [
      | else-into_cache-via-then-into_cache+else-blocks-le-CACHED_AT_ONCE w ↦
          many_not c.args.into_cache c.args.lba c.args.n c.in-Some.request.lba c.in-Some.request.n w.blocks-then-into_cache.result w.blocks-then-into_cache.ensures c.in-Some.ensures.0 c.in-Some.ensures.1
          (let many = w.if-blocks-le-CACHED_AT_ONCE.false in omega (arith, many))
      | else-into_cache-via-else-into_cache w ↦ off_not c.args.into_cache c.args.lba c.args.n w.if-into_cache.false
    ])
    c.write_over.ensures.cause
