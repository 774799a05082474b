use Rattle.std.proofs.Common.{ℕ, List, Option, Some, None, refl, sym, ap, ◌∙◌, ◌+◌, subst, true}
use Rattle.model_sectors.specs.Requests.{block_with, filled_by}
use Rattle.model_sectors.specs.declared.ReadOut.TheVariants as reads
use Rattle.model_cache.specs.Causes.{ReadsPart}
use Rattle.ram_requests.specs.declared.requests.Request.{Request}
use Rattle.ram_cache.specs.Caches.{shown_by, stands_by}
use Rattle.ram_cache.specs.Rooms.{pending_of, FirstOf}
use Rattle.ram_cache.specs.Reading.{PartContents}
use Rattle.ram_cache.proofs.ReadParts.{found_at, found_none, found_block, none_pending}
use Rattle.ram_cache.proofs.cached.Cached.read_part.Goals as goal

pub returns-in-Some-clause-cause : goal.returns-in-Some-clause-cause
returns-in-Some-clause-cause g c =
    let p = pending_of c.args.self.now.pending in
    let i = block_with c.args.request.lba + c.args.k in
    let first : FirstOf p true i 1 (Some c.in-Some.index) = subst (λ (j : ℕ). FirstOf p true j 1 (Some c.in-Some.index)) c.part-part.ensures.block c.in-Some.ensures in
    subst (λ (o : Option (List ℕ)). ReadsPart (shown_by g.D.Sectors c.args.self.now) (shown_by g.D.Sectors c.args.self.now) c.args.request.lba c.args.request.n i o reads.Good)
    (sym (found_at p i c.in-Some.index first)) (refl, refl)

pub returns-in-Some-clause-step : goal.returns-in-Some-clause-step
returns-in-Some-clause-step g c = λ v (d, so, under).
    let p = pending_of c.args.self.now.pending in
    let i = block_with c.args.request.lba + c.args.k in
    let first : FirstOf p true i 1 (Some c.in-Some.index) = subst (λ (j : ℕ). FirstOf p true j 1 (Some c.in-Some.index)) c.part-part.ensures.block c.in-Some.ensures in (
      (d, so, under),
      c.copy_out.ensures
          ∙ ap (λ (r : Request). filled_by r.lba r.n c.part-part.result.block c.block.result.now c.args.into.now) c.part-part.ensures.request
          ∙ ap (λ (j : ℕ). filled_by c.args.request.lba c.args.request.n j c.block.result.now c.args.into.now) c.part-part.ensures.block
          ∙ ap (λ (b : List ℕ). filled_by c.args.request.lba c.args.request.n i b c.args.into.now) (c.block.ensures ∙ found_block p i c.in-Some.index d v first under),
    )

pub returns-in-None-clause-cause : goal.returns-in-None-clause-cause
returns-in-None-clause-cause g c =
    let p = pending_of c.args.self.now.pending in
    let i = block_with c.args.request.lba + c.args.k in
    let old = shown_by g.D.Sectors c.args.self.now in
    let new = shown_by g.D.Sectors c.read_below.new.self in
    let none : FirstOf p true i 1 None = subst (λ (j : ℕ). FirstOf p true j 1 None) c.part-part.ensures.block c.in-None.ensures in
    subst (λ (o : Option (List ℕ)). ReadsPart old new c.args.request.lba c.args.request.n i o c.read_below.result) (sym (found_none p i none))
    (subst (λ (j : ℕ). ReadsPart old new c.args.request.lba c.args.request.n j None c.read_below.result) c.part-part.ensures.block
    (subst (λ (r : Request). ReadsPart old new r.lba r.n c.part-part.result.block None c.read_below.result) c.part-part.ensures.request c.read_below.ensures.cause))

pub returns-in-None-clause-step : goal.returns-in-None-clause-step
returns-in-None-clause-step g c = λ v so.
    let p = pending_of c.args.self.now.pending in
    let i = block_with c.args.request.lba + c.args.k in
    let after = stands_by g.D.Sectors c.read_below.new.self in
    let none : FirstOf p true c.part-part.result.block 1 None = c.in-None.ensures in
    subst (λ (j : ℕ). PartContents after v c.args.request.lba c.args.request.n j c.args.into.now c.read_below.new.into c.read_below.result) c.part-part.ensures.block
    (subst (λ (r : Request). PartContents after v r.lba r.n c.part-part.result.block c.args.into.now c.read_below.new.into c.read_below.result) c.part-part.ensures.request
    (c.read_below.ensures.step v (none_pending p c.part-part.result.block none) so))
