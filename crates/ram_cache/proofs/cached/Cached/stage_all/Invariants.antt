use Rattle.ram_cache.specs.Caches.{shown_by, stands_by}
use Rattle.ram_cache.specs.Rooms.{staged_of}
use Rattle.ram_cache.specs.Staging.{StagedSoFar}
use Rattle.ram_cache.proofs.cached.Cached.stage_all.Given as goal

abbrev pub invariant-loop-k : goal.invariant-loop-k
invariant-loop-k g l = record {
  far : StagedSoFar (shown_by g.D.Sectors l.fn.self) (shown_by g.D.Sectors l.self) l.request.lba l.request.n l.k l.from (staged_of l.self.pending l.staged) l.staged
      (stands_by g.D.Sectors l.fn.self) (stands_by g.D.Sectors l.self);
  underwent : g.D.Sectors.underwent l.fn.self.disc l.self.disc;
}
