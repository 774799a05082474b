use Rattle.std.proofs.Common.{ℕ, List, Option, Some, None, Ok, sym, ◌+◌, subst, true}
use Rattle.model_sectors.specs.Requests.{block_with}
use Rattle.ram_requests.specs.declared.requests.Request.{Request}
use Rattle.ram_cache.specs.Caches.{shown_by, stands_by}
use Rattle.ram_cache.specs.Rooms.{pending_of, staged_of, pending_at, FirstOf}
use Rattle.ram_cache.specs.Staging.{StagedContents}
use Rattle.ram_cache.proofs.ReadParts.{found_at, found_none, none_pending}
use Rattle.ram_cache.proofs.Rests.{staged_already}
use Rattle.ram_cache.proofs.cached.Cached.stage_next.Goals as goal

pub stage_block-requires-clause-room : goal.stage_block-requires-clause-room
stage_block-requires-clause-room g c =
    c.requires.room (found_none (pending_of c.args.self.now.pending) (block_with c.args.request.lba + c.args.k)
    (subst (λ (j : ℕ). FirstOf (pending_of c.args.self.now.pending) true j 1 None) c.part-part.ensures.block c.in-None.ensures))

pub stage_block-requires-clause-none : goal.stage_block-requires-clause-none
stage_block-requires-clause-none g c = found_none (pending_of c.args.self.now.pending) c.part-part.result.block c.in-None.ensures

pub returns-in-Some-clause-rule : goal.returns-in-Some-clause-rule
returns-in-Some-clause-rule g c =
    let p = pending_of c.args.self.now.pending in
    let i = block_with c.args.request.lba + c.args.k in
    staged_already (shown_by g.D.Sectors c.args.self.now) c.args.request.lba c.args.request.n i c.args.from.now ((pending_at p c.in-Some._place).1) (staged_of c.args.self.now.pending c.args.staged) c.args.staged
    (found_at p i c.in-Some._place (subst (λ (j : ℕ). FirstOf p true j 1 (Some c.in-Some._place)) c.part-part.ensures.block c.in-Some.ensures))

pub returns-in-Some-clause-step : goal.returns-in-Some-clause-step
returns-in-Some-clause-step g c = λ v so.
    let p = pending_of c.args.self.now.pending in
    let i = block_with c.args.request.lba + c.args.k in
    subst (λ (o : Option (List ℕ)). StagedContents (stands_by g.D.Sectors c.args.self.now) v c.args.request.lba c.args.request.n i c.args.from.now o (staged_of c.args.self.now.pending c.args.staged) (staged_of c.args.self.now.pending) (Ok c.args.staged))
    (sym (found_at p i c.in-Some._place (subst (λ (j : ℕ). FirstOf p true j 1 (Some c.in-Some._place)) c.part-part.ensures.block c.in-Some.ensures))) so

pub returns-in-None-clause-step : goal.returns-in-None-clause-step
returns-in-None-clause-step g c = λ v so.
    let p = pending_of c.args.self.now.pending in
    let i = block_with c.args.request.lba + c.args.k in
    let after = stands_by g.D.Sectors c.stage_block.new.self in
    let none : FirstOf p true i 1 None = subst (λ (j : ℕ). FirstOf p true j 1 None) c.part-part.ensures.block c.in-None.ensures in
    subst (λ (o : Option (List ℕ)). StagedContents after v c.args.request.lba c.args.request.n i c.args.from.now o (staged_of c.args.self.now.pending c.args.staged) (staged_of c.stage_block.new.self.pending) c.stage_block.result)
    (sym (found_none p i none))
    (subst (λ (j : ℕ). StagedContents after v c.args.request.lba c.args.request.n j c.args.from.now None (staged_of c.args.self.now.pending c.args.staged) (staged_of c.stage_block.new.self.pending) c.stage_block.result)
    c.part-part.ensures.block
    (subst (λ (r : Request). StagedContents after v r.lba r.n c.part-part.result.block c.args.from.now None (staged_of c.args.self.now.pending c.args.staged) (staged_of c.stage_block.new.self.pending) c.stage_block.result)
    c.part-part.ensures.request (c.stage_block.ensures.step v (none_pending p c.part-part.result.block c.in-None.ensures) so)))
