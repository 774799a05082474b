use Rattle.ram_cache.specs.Caches.{shown_by, stands_by}
use Rattle.ram_cache.proofs.ReadSoFar.{ReadSoFar}
use Rattle.ram_cache.proofs.cached.Cached.read_parts.Given as goal

abbrev pub invariant-loop-k : goal.invariant-loop-k
invariant-loop-k g l = record {
  far : ReadSoFar (shown_by g.D.Sectors l.fn.self) (shown_by g.D.Sectors l.self) l.request.lba l.request.n l.k l.into (stands_by g.D.Sectors l.fn.self) (stands_by g.D.Sectors l.self);
  underwent : g.D.Sectors.underwent l.fn.self.disc l.self.disc;
}
