use Rattle.std.proofs.Common.{subst, sym, arith}
use Rattle.model_cache.specs.declared.SyncOut.{SyncOut}
use Rattle.model_cache.specs.Steps.{SyncContents}
use Rattle.model_cache.specs.Causes.{DrainsAll, as_write}
use Rattle.ram_cache.specs.Caches.{shown_by, stands_by}
use Rattle.ram_cache.proofs.Telling.{due_long, sync_cause, sync_step}
use Rattle.ram_cache.proofs.cached.Cached.synchronize_on.Goals as goal

pub returns-clause-cause : goal.returns-clause-cause
returns-clause-cause g c =
    let old = shown_by g.D.Sectors c.args.self.now in
    let new = shown_by g.D.Sectors c.drain-out.new.self in
    subst (λ (o : SyncOut). DrainsAll old new (as_write o)) (sym c.told_of_sync.ensures)
    (sync_cause old new c.len-all.result c.len-all.ensures c.requires.ready.can c.drain-out.result c.drain-out.ensures.rule)

pub returns-clause-step : goal.returns-clause-step
returns-clause-step g c = λ s so.
    let old = shown_by g.D.Sectors c.args.self.now in
    let new = shown_by g.D.Sectors c.drain-out.new.self in
    subst (λ (o : SyncOut). SyncContents new (stands_by g.D.Sectors c.drain-out.new.self) s o) (sym c.told_of_sync.ensures)
    (sync_step old new c.len-all.result c.len-all.ensures (g.D.Sectors.stands c.drain-out.new.self.disc) s c.drain-out.result c.drain-out.ensures.rule (c.drain-out.ensures.step s so))

pub drain-out-requires-clause-enough : goal.drain-out-requires-clause-enough
drain-out-requires-clause-enough g c =
    let long = due_long (shown_by g.D.Sectors c.args.self.now) (shown_by g.D.Sectors c.args.self.now) in
    omega (arith, long, c.len-all.ensures)
