use Rattle.ram_cache.specs.Caches.{shown_by, stands_by}
use Rattle.ram_cache.proofs.DrainedSoFar.{DrainedSoFar}
use Rattle.ram_cache.proofs.cached.Cached.drain.Given as goal

abbrev pub invariant-loop-turn : goal.invariant-loop-turn
invariant-loop-turn g l = record {
  far : DrainedSoFar (shown_by g.D.Sectors l.fn.self) (shown_by g.D.Sectors l.self) l.among l.first l.count l._turn l.enough l.missing l.told (stands_by g.D.Sectors l.fn.self) (stands_by g.D.Sectors l.self);
  underwent : g.D.Sectors.underwent l.fn.self.disc l.self.disc;
}
