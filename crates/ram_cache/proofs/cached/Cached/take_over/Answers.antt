use Rattle.std.proofs.Common.{ℕ, List, ap, sym, ◌∙◌, arith}
use Rattle.model_cache.specs.Causes.{fresh_blocks}
use Rattle.model_sectors.specs.Requests.{block_with, blocks_covered}
use Rattle.ram_cache.specs.Caches.{shown_by, stands_by}
use Rattle.ram_cache.specs.Rooms.{pending_of, staged_of}
use Rattle.ram_cache.proofs.ReadParts.{never_off}
use Rattle.ram_cache.proofs.Staged.{staged_long}
use Rattle.ram_cache.proofs.Coming.{come_values}
use Rattle.ram_cache.proofs.IntoCache.{stopped_cached, come_contents}
use Rattle.ram_cache.proofs.cached.Cached.take_over.Goals as goal

pub take_in-requires-clause-long : goal.take_in-requires-clause-long
take_in-requires-clause-long g c =
    staged_long (shown_by g.D.Sectors c.args.self.now) (shown_by g.D.Sectors c.stage_all.new.self) c.args.request.lba c.args.request.n c.args.from.now (staged_of c.stage_all.new.self.pending c.in-Ok.staged) c.in-Ok.staged
    (stands_by g.D.Sectors c.args.self.now) (stands_by g.D.Sectors c.stage_all.new.self) c.requires.whole c.in-Ok.ensures.rule

pub returns-in-Ok-clause-step : goal.returns-in-Ok-clause-step
returns-in-Ok-clause-step g c =
    let far = c.in-Ok.ensures.rule in
    let drives = g.D.Sectors in
    let disc = c.stage_all.new.self.disc in
    come_contents (shown_by drives c.args.self.now) (shown_by drives c.args.self.now) c.args.request.lba c.args.request.n c.args.from.now (stands_by drives c.args.self.now)
    (λ s. stands_by drives (record { disc = c.stage_all.new.self.disc; pending = c.take_in.new.self; on = c.stage_all.new.self.on }) s)
    (never_off (drives.shows c.args.self.now.disc) (drives.stands c.args.self.now.disc) (pending_of c.args.self.now.pending) (λ t b. (g.met.D.Sectors.laws.as_shown c.args.self.now.disc t).0 b) c.requires.inside.on)
    (λ v so.
    let gave = far.gives v so in
    let same = far.same_count in
    let inside = c.requires.inside.inside in
    come_values (drives.shows disc) (drives.stands disc) (pending_of c.stage_all.new.self.pending) (staged_of c.stage_all.new.self.pending c.in-Ok.staged) (pending_of c.take_in.new.self)
    (λ t b. (g.met.D.Sectors.laws.as_shown disc t).0 b) c.args.request.lba c.args.request.n c.args.from.now (omega (arith, same, inside)) c.requires.whole c.take_in.ensures
    (far.numbers ∙ ap (λ (l : List (ℕ × List ℕ)). fresh_blocks l (block_with c.args.request.lba) (blocks_covered c.args.request.lba c.args.request.n)) (sym far.same_pending))
    v (gave.1) (gave.0))

pub returns-in-Err-clause-step : goal.returns-in-Err-clause-step
returns-in-Err-clause-step g c =
    stopped_cached (shown_by g.D.Sectors c.args.self.now) (shown_by g.D.Sectors c.stage_all.new.self) c.args.request.lba c.args.request.n c.args.from.now (stands_by g.D.Sectors c.args.self.now)
    (stands_by g.D.Sectors c.stage_all.new.self)
    (never_off (g.D.Sectors.shows c.args.self.now.disc) (g.D.Sectors.stands c.args.self.now.disc) (pending_of c.args.self.now.pending) (λ t b. (g.met.D.Sectors.laws.as_shown c.args.self.now.disc t).0 b) c.requires.inside.on)
    c.in-Err.out (c.in-Err.ensures.rule.0) (c.in-Err.ensures.rule.1)
