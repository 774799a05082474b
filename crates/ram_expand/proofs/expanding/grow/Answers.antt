use Rattle.std.proofs.Common.{arith, ◌≢◌, ◌<◌, ◌^◌, ◌∙◌, ℕ, ap, sym, subst, inr}
use Rattle.std.proofs.lemmas.Result.{err_from_is_err_and}
use Rattle.model_lists.specs.Values.{Sdl, IsLawfulSdl}
use Rattle.model_places.specs.Valid.{AreValid}
use Rattle.model_volume.specs.Expansions.{lists_expanded}
use Rattle.model_drive.specs.declared.TheConstants.{LAST_COUNTER}
use Rattle.ram_dds.specs.Dds.{dds_of}
use Rattle.ram_zones.specs.declared.list_kind.ListKind.TheVariants as kinds
use Rattle.ram_copies.specs.Values.{SdlValue}
use Rattle.ram_copies.specs.Calls.{HasPutList, StopsUpdating}
use Rattle.ram_copies.specs.declared.writes.Purpose.TheVariants.{Update}
use Rattle.ram_lists.specs.Lists.{lists_of}
use Rattle.ram_expand.specs.Expanding.{HasGrown}
use Rattle.model_drive.proofs.ExpandSteps.{lawful_area, larger_area}
use Rattle.ram_expand.proofs.Sizing.{left_within}
use Rattle.ram_expand.proofs.Growing.{has_grown, no_copy, growing_stopped, grown_valid}
use Rattle.ram_expand.proofs.expanding.grow.Goals as goal

pub returns-in_err-put_copies-clause-rule : goal.returns-in_err-put_copies-clause-rule
returns-in_err-put_copies-clause-rule g c =
    let p = err_from_is_err_and c.from_residual.result c.from_residual.ensures.1 in
    let room : c.args.lists.now.sdl.counter < LAST_COUNTER = (let counted : c.args.lists.now.sdl.counter < 2 ^ 32 = c.requires.fit.lawful.counted in let other : c.args.lists.now.sdl.counter ≢ LAST_COUNTER = c.if-counter.false in omega (arith, counted, other)) in
    rw (p.1, p.2) (growing_stopped g.M.Medium.world g.M.Medium.block_count g.M.Medium.reaches g.met.M.Medium.laws c.args.geometry.now (lists_of c.args.lists.now) c.requires.fit.valid c.args.capacity c.in-Smaller.ensures
    c.args.medium.now c.requires.settled c.put_copies.new.medium _ room (subst (λ (s : Sdl). StopsUpdating {M = g.row.M.Denot} g.M.Medium.world g.M.Medium.reaches kinds.Sdl c.args.geometry.now c.args.medium.now c.put_copies.new.medium (SdlValue s) c.in_err-put_copies.field-0.0)
    (c.draft_expanded.ensures.value ∙ ap (λ (n : ℕ). (lists_expanded c.args.geometry.now (lists_of c.args.lists.now) n).sdl) c.area_for-ssa.ensures.area) c.in_err-put_copies.ensures.rule))

pub returns-then-branch-eq0-clause-rule : goal.returns-then-branch-eq0-clause-rule
returns-then-branch-eq0-clause-rule g c =
    no_copy g.M.Medium.world g.M.Medium.block_count g.M.Medium.reaches g.met.M.Medium.laws c.args.geometry.now (lists_of c.args.lists.now) c.requires.fit.valid c.args.capacity c.in-Smaller.ensures
    c.args.medium.now c.requires.settled c.put_copies.new.medium c.in_ok-put_copies.field-0 (subst (λ (s : Sdl). HasPutList {M = g.row.M.Denot} g.M.Medium.world g.M.Medium.reaches kinds.Sdl c.args.geometry.now c.args.medium.now c.put_copies.new.medium (SdlValue s) Update c.in_ok-put_copies.field-0)
    (c.draft_expanded.ensures.value ∙ ap (λ (n : ℕ). (lists_expanded c.args.geometry.now (lists_of c.args.lists.now) n).sdl) c.area_for-ssa.ensures.area) c.in_ok-put_copies.ensures.rule) c.if-branch-eq0.true c.if-counter.false

pub returns-clause-rule : goal.returns-clause-rule
returns-clause-rule g c =
    let room : c.args.lists.now.sdl.counter < LAST_COUNTER = (let counted : c.args.lists.now.sdl.counter < 2 ^ 32 = c.requires.fit.lawful.counted in let other : c.args.lists.now.sdl.counter ≢ LAST_COUNTER = c.if-counter.false in omega (arith, counted, other)) in
    inr (subst (λ (s : Sdl). HasGrown {M = g.row.M.Denot} g.M.Medium.world g.M.Medium.reaches c.args.geometry.now c.args.medium.now c.put_copies.new.medium (lists_of c.args.lists.now) c.args.capacity (record { dds = dds_of c.args.lists.now.dds; sdl = s }))
    (sym (c.copy_from.ensures ∙ c.draft_expanded.ensures.value ∙ ap (λ (n : ℕ). (lists_expanded c.args.geometry.now (lists_of c.args.lists.now) n).sdl) c.area_for-ssa.ensures.area))
    (has_grown g.M.Medium.world g.M.Medium.block_count g.M.Medium.reaches g.met.M.Medium.laws c.args.geometry.now (lists_of c.args.lists.now) c.requires.fit.valid c.args.capacity c.in-Smaller.ensures
    c.args.medium.now c.requires.settled c.put_copies.new.medium c.in_ok-put_copies.field-0 (subst (λ (s : Sdl). HasPutList {M = g.row.M.Denot} g.M.Medium.world g.M.Medium.reaches kinds.Sdl c.args.geometry.now c.args.medium.now c.put_copies.new.medium (SdlValue s) Update c.in_ok-put_copies.field-0)
    (c.draft_expanded.ensures.value ∙ ap (λ (n : ℕ). (lists_expanded c.args.geometry.now (lists_of c.args.lists.now) n).sdl) c.area_for-ssa.ensures.area) c.in_ok-put_copies.ensures.rule) c.if-branch-eq0.false room))

pub returns-clause-fit : goal.returns-clause-fit
returns-clause-fit g c = record {
  size = c.put_copies.ensures.as_many ∙ c.requires.fit.size;
  valid = subst (λ (s : Sdl). AreValid c.args.geometry.now (record { dds = dds_of c.args.lists.now.dds; sdl = s }))
      (sym (c.copy_from.ensures ∙ c.draft_expanded.ensures.value ∙ ap (λ (n : ℕ). (lists_expanded c.args.geometry.now (lists_of c.args.lists.now) n).sdl) c.area_for-ssa.ensures.area))
      (grown_valid g.M.Medium.world g.M.Medium.block_count g.M.Medium.reaches g.met.M.Medium.laws c.args.geometry.now (lists_of c.args.lists.now) c.requires.fit.valid c.args.capacity c.in-Smaller.ensures
      c.args.medium.now c.requires.settled);
  lawful = subst IsLawfulSdl (sym c.copy_from.ensures) c.draft_expanded.ensures.lawful;
}

pub area_for-ssa-requires : goal.area_for-ssa-requires
area_for-ssa-requires g c = left_within c.args.geometry.now (lists_of c.args.lists.now) c.requires.fit.valid c.args.capacity c.in-Smaller.ensures

pub draft_expanded-requires-clause-area : goal.draft_expanded-requires-clause-area
draft_expanded-requires-clause-area g c =
    let size = c.in-Smaller.ensures in
    rw c.area_for-ssa.ensures.area (lawful_area c.args.geometry.now (lists_of c.args.lists.now) c.requires.fit.valid c.args.capacity size.lawful.some size.lawful.whole size.lawful.fewer size.lawful.most size.lawful.grows)

pub draft_expanded-requires-clause-grows : goal.draft_expanded-requires-clause-grows
draft_expanded-requires-clause-grows g c =
    let size = c.in-Smaller.ensures in
    rw c.area_for-ssa.ensures.area (larger_area c.args.geometry.now (lists_of c.args.lists.now) c.requires.fit.valid c.args.capacity size.lawful.some size.lawful.whole size.lawful.fewer size.lawful.most)
