use Rattle.std.proofs.Common.{arith, ◌≡◌, ◌≢◌, ◌+◌, ◌<◌, ◌^◌, ◌∙◌, ℕ, length, inr, refl, sym, ap, subst}
use Rattle.std.proofs.lemmas.List.{length-set}
use Rattle.std.proofs.lemmas.Option.{slice_get_within}
use Rattle.std.proofs.lemmas.Result.{err_from_is_err_and}
use Rattle.model_lists.specs.Values.{Sdl, IsLawfulSdl}
use Rattle.model_places.specs.Valid.{AreValid}
use Rattle.model_places.proofs.Homes.{home_inside}
use Rattle.model_drive.specs.declared.TheConstants.{LAST_COUNTER}
use Rattle.ram_dds.specs.Dds.{dds_of}
use Rattle.ram_zones.specs.declared.list_kind.ListKind.TheVariants as kinds
use Rattle.ram_copies.specs.Values.{SdlValue}
use Rattle.ram_copies.specs.Calls.{HasPutList}
use Rattle.ram_copies.specs.declared.writes.Purpose.TheVariants.{Update}
use Rattle.ram_lists.specs.Lists.{lists_of}
use Rattle.ram_replace.specs.Placing.{PlacesBlock}
use Rattle.ram_replace.proofs.Under.{lawful_here, valid_here, data_here, most_here, spare_here, logical_here, free_here, moved_here}
use Rattle.ram_replace.proofs.Behind.{fits_then, goes_to_turn}
use Rattle.model_pools.specs.Pools.{free_at, is_unnamed, spares_at, pool_of}
use Rattle.model_pools.specs.Moves.{tried_of}
use Rattle.model_places.specs.Places.{pools_under, free_spares}
use Rattle.model_volume.proofs.Moved.{moved_valid}
use Rattle.ram_sdl.specs.Sdl.{sdl_of}
use Rattle.ram_replace.specs.Spares.{StandsAt, StandsAtTurn}
use Rattle.ram_replace.proofs.Placing.{home_stopped, home_put, spares_stopped, no_spare, last_counter, update_stops, no_copy, spare_put}
use Rattle.ram_replace.proofs.writing.place_block.Goals as goal

pub put_block-requires-clause-inside : goal.put_block-requires-clause-inside
put_block-requires-clause-inside g c =
    let inside = home_inside c.args.geometry.now (lists_of c.args.lists.now) c.requires.fit.valid.primary c.requires.fit.valid.together.secondary c.args.i c.requires.inside in
    omega (arith, inside, c.requires.home, c.requires.fit.size)

pub returns-in_err-put_block-clause-rule : goal.returns-in_err-put_block-clause-rule
returns-in_err-put_block-clause-rule g c =
    let p = err_from_is_err_and c.from_residual.result c.from_residual.ensures.1 in
    rw (p.1, p.2) (home_stopped g.M.Medium.world g.M.Medium.block_count g.M.Medium.reaches g.met.M.Medium.laws c.args.geometry.now (lists_of c.args.lists.now) c.requires.fit.valid c.args.i c.requires.inside c.args.from.now
    c.args.medium.now c.requires.settled c.put_block.new.medium _ c.requires.on (rw c.requires.home at c.in_err-put_block.ensures.rule))

pub returns-then-branch-clause-rule : goal.returns-then-branch-clause-rule
returns-then-branch-clause-rule g c =
    home_put g.M.Medium.world g.M.Medium.block_count g.M.Medium.reaches g.met.M.Medium.laws c.args.geometry.now (lists_of c.args.lists.now) c.requires.fit.valid c.args.i c.requires.inside c.args.from.now
    c.args.medium.now c.requires.settled c.put_block.new.medium (rw (c.if-branch.true, c.requires.home) at c.in_ok-put_block.ensures.rule)

pub returns-in_err-found-clause-rule : goal.returns-in_err-found-clause-rule
returns-in_err-found-clause-rule g c =
    let p = err_from_is_err_and c.from_residual-in_err-found.result c.from_residual-in_err-found.ensures.1 in
    rw (p.1, p.2) (spares_stopped g.M.Medium.world g.M.Medium.block_count g.M.Medium.reaches g.met.M.Medium.laws c.args.geometry.now (lists_of c.args.lists.now) c.requires.fit.valid c.args.i c.requires.inside c.args.from.now
    c.args.medium.now c.requires.settled c.put_block.new.medium (rw (c.if-branch.false, c.requires.home) at c.in_ok-put_block.ensures.rule)
    c.find_spare.new.medium _ c.requires.on (rw (free_here c.args.geometry.now (lists_of c.args.lists.now) c.requires.fit.valid (g.L.Layout.pools c.args.layout.now) c.requires.fit.pools_are c.args.i c.pool_of-pool.result c.pool_of-pool.ensures.pool) at c.in_err-found.ensures.rule))

pub returns-in_default-clause-rule : goal.returns-in_default-clause-rule
returns-in_default-clause-rule g c =
    no_spare g.M.Medium.world g.M.Medium.block_count g.M.Medium.reaches g.met.M.Medium.laws c.args.geometry.now (lists_of c.args.lists.now) c.requires.fit.valid c.args.i c.requires.inside c.args.from.now
    c.args.medium.now c.requires.settled c.put_block.new.medium (rw (c.if-branch.false, c.requires.home) at c.in_ok-put_block.ensures.rule)
    c.find_spare.new.medium (rw (c.in_default.is, (free_here c.args.geometry.now (lists_of c.args.lists.now) c.requires.fit.valid (g.L.Layout.pools c.args.layout.now) c.requires.fit.pools_are c.args.i c.pool_of-pool.result c.pool_of-pool.ensures.pool)) at c.in_ok-found.ensures.rule)

pub returns-then-counter-clause-rule : goal.returns-then-counter-clause-rule
returns-then-counter-clause-rule g c =
    last_counter g.M.Medium.world g.M.Medium.block_count g.M.Medium.reaches g.met.M.Medium.laws c.args.geometry.now (lists_of c.args.lists.now) c.requires.fit.valid c.args.i c.requires.inside c.args.from.now
    c.args.medium.now c.requires.settled c.put_block.new.medium (rw (c.if-branch.false, c.requires.home) at c.in_ok-put_block.ensures.rule)
    c.find_spare.new.medium c.in-Some.found (rw (c.in-Some.is, (free_here c.args.geometry.now (lists_of c.args.lists.now) c.requires.fit.valid (g.L.Layout.pools c.args.layout.now) c.requires.fit.pools_are c.args.i c.pool_of-pool.result c.pool_of-pool.ensures.pool)) at c.in_ok-found.ensures.rule) c.if-counter.true

pub returns-in_err-put_copies-clause-rule : goal.returns-in_err-put_copies-clause-rule
returns-in_err-put_copies-clause-rule g c =
    let p = err_from_is_err_and c.from_residual-in_err-put_copies.result c.from_residual-in_err-put_copies.ensures.1 in
    rw (p.1, p.2) (update_stops g.M.Medium.world g.M.Medium.block_count g.M.Medium.reaches g.met.M.Medium.laws c.args.geometry.now (lists_of c.args.lists.now) c.requires.fit.valid c.args.i c.requires.inside c.args.from.now
    c.args.medium.now c.requires.settled c.put_block.new.medium (rw (c.if-branch.false, c.requires.home) at c.in_ok-put_block.ensures.rule)
    c.find_spare.new.medium c.in-Some.found (rw (c.in-Some.is, (free_here c.args.geometry.now (lists_of c.args.lists.now) c.requires.fit.valid (g.L.Layout.pools c.args.layout.now) c.requires.fit.pools_are c.args.i c.pool_of-pool.result c.pool_of-pool.ensures.pool)) at c.in_ok-found.ensures.rule) c.put_copies.new.medium _ c.requires.on (rw (c.draft_moved.ensures.value ∙ moved_here c.args.geometry.now (lists_of c.args.lists.now) c.requires.fit.valid (g.L.Layout.pools c.args.layout.now) c.requires.fit.pools_are c.args.i c.in-Some.found.tried c.in-Some.found.spare) at c.in_err-put_copies.ensures.rule))

pub returns-then-branch-eq0-clause-rule : goal.returns-then-branch-eq0-clause-rule
returns-then-branch-eq0-clause-rule g c =
    no_copy g.M.Medium.world g.M.Medium.block_count g.M.Medium.reaches g.met.M.Medium.laws c.args.geometry.now (lists_of c.args.lists.now) c.requires.fit.valid c.args.i c.requires.inside c.args.from.now
    c.args.medium.now c.requires.settled c.put_block.new.medium (rw (c.if-branch.false, c.requires.home) at c.in_ok-put_block.ensures.rule)
    c.find_spare.new.medium c.in-Some.found (rw (c.in-Some.is, (free_here c.args.geometry.now (lists_of c.args.lists.now) c.requires.fit.valid (g.L.Layout.pools c.args.layout.now) c.requires.fit.pools_are c.args.i c.pool_of-pool.result c.pool_of-pool.ensures.pool)) at c.in_ok-found.ensures.rule) c.put_copies.new.medium c.in_ok-put_copies.field-0 (subst (λ (s : Sdl). HasPutList {M = g.row.M.Denot} g.M.Medium.world g.M.Medium.reaches kinds.Sdl c.args.geometry.now c.find_spare.new.medium c.put_copies.new.medium (SdlValue s) Update c.in_ok-put_copies.field-0) (c.draft_moved.ensures.value ∙ moved_here c.args.geometry.now (lists_of c.args.lists.now) c.requires.fit.valid (g.L.Layout.pools c.args.layout.now) c.requires.fit.pools_are c.args.i c.in-Some.found.tried c.in-Some.found.spare) c.in_ok-put_copies.ensures.rule) c.if-branch-eq0.true c.if-counter.false

pub returns-clause-rule : goal.returns-clause-rule
returns-clause-rule g c =
    subst (λ (s : Sdl). PlacesBlock {M = g.row.M.Denot} g.M.Medium.world g.M.Medium.reaches c.args.geometry.now c.args.medium.now c.put_copies.new.medium (lists_of c.args.lists.now) c.args.i c.args.from.now (record { dds = dds_of c.args.lists.now.dds; sdl = s }))
    (sym (c.copy_from.ensures ∙ (c.draft_moved.ensures.value ∙ moved_here c.args.geometry.now (lists_of c.args.lists.now) c.requires.fit.valid (g.L.Layout.pools c.args.layout.now) c.requires.fit.pools_are c.args.i c.in-Some.found.tried c.in-Some.found.spare)))
    (spare_put g.M.Medium.world g.M.Medium.block_count g.M.Medium.reaches g.met.M.Medium.laws c.args.geometry.now (lists_of c.args.lists.now) c.requires.fit.valid c.args.i c.requires.inside c.args.from.now
    c.args.medium.now c.requires.settled c.put_block.new.medium (rw (c.if-branch.false, c.requires.home) at c.in_ok-put_block.ensures.rule)
    c.find_spare.new.medium c.in-Some.found (rw (c.in-Some.is, (free_here c.args.geometry.now (lists_of c.args.lists.now) c.requires.fit.valid (g.L.Layout.pools c.args.layout.now) c.requires.fit.pools_are c.args.i c.pool_of-pool.result c.pool_of-pool.ensures.pool)) at c.in_ok-found.ensures.rule) c.put_copies.new.medium c.in_ok-put_copies.field-0 (subst (λ (s : Sdl). HasPutList {M = g.row.M.Denot} g.M.Medium.world g.M.Medium.reaches kinds.Sdl c.args.geometry.now c.find_spare.new.medium c.put_copies.new.medium (SdlValue s) Update c.in_ok-put_copies.field-0) (c.draft_moved.ensures.value ∙ moved_here c.args.geometry.now (lists_of c.args.lists.now) c.requires.fit.valid (g.L.Layout.pools c.args.layout.now) c.requires.fit.pools_are c.args.i c.in-Some.found.tried c.in-Some.found.spare) c.in_ok-put_copies.ensures.rule) c.if-branch-eq0.false
    (let counted : c.args.lists.now.sdl.counter < 2 ^ 32 = c.requires.fit.lawful.counted in let room : c.args.lists.now.sdl.counter ≢ LAST_COUNTER = c.if-counter.false in omega (arith, counted, room)))

pub returns-clause-fit : goal.returns-clause-fit
returns-clause-fit g c =
    let rule = rw c.in-Some.is at c.in_ok-found.ensures.rule in
    let at = subst (λ (p : ℕ). StandsAt (free_at (g.L.Layout.pools c.args.layout.now) c.args.lists.now.sdl.entries p) c.in-Some.found) c.pool_of-pool.ensures.pool rule.stands in
    let turn = subst (λ (p : ℕ). StandsAtTurn (is_unnamed c.args.lists.now.sdl.entries) (spares_at (g.L.Layout.pools c.args.layout.now) p) c.in-Some.found) c.pool_of-pool.ensures.pool (rw c.in-Some.is at c.in_ok-found.ensures.turn) in
    let its : pool_of (g.L.Layout.pools c.args.layout.now) c.args.i < length c.args.cursors.now = omega (arith, c.pool_of-pool.ensures.inside, c.pool_of-pool.ensures.pool, c.requires.fit.one_each) in
    let new_is = c.copy_from.ensures ∙ c.draft_moved.ensures.value in
    let has = rw (free_here c.args.geometry.now (lists_of c.args.lists.now) c.requires.fit.valid (g.L.Layout.pools c.args.layout.now) c.requires.fit.pools_are c.args.i c.pool_of-pool.result c.pool_of-pool.ensures.pool) at rule in
    record {
      size = c.put_copies.ensures.as_many ∙ c.in_ok-found.ensures.as_many ∙ c.in_ok-put_block.ensures.as_many ∙ c.requires.fit.size;
      valid = subst (λ (s : Sdl). AreValid c.args.geometry.now (record { dds = dds_of c.args.lists.now.dds; sdl = s })) (sym (new_is ∙ moved_here c.args.geometry.now (lists_of c.args.lists.now) c.requires.fit.valid (g.L.Layout.pools c.args.layout.now) c.requires.fit.pools_are c.args.i c.in-Some.found.tried c.in-Some.found.spare))
          (moved_valid c.args.geometry.now (lists_of c.args.lists.now) c.requires.fit.valid c.args.i c.requires.inside (tried_of (free_spares c.args.geometry.now (lists_of c.args.lists.now) c.args.i) c.in-Some.found.tried) c.in-Some.found.spare
          (record { tried = c.in-Some.found.tried; failed_are = refl; inside = has.stands.inside; spare_is = has.stands.spare_is }));
      lawful = subst IsLawfulSdl (sym c.copy_from.ensures) c.draft_moved.ensures.lawful;
      pools_are = subst (λ (s : Sdl). (g.L.Layout.pools c.args.layout.now) ≡ pools_under c.args.geometry.now (record { dds = dds_of c.args.lists.now.dds; sdl = s })) (sym new_is) c.requires.fit.pools_are;
      one_each = ap length c.set.ensures ∙ length-set c.args.cursors.now c.pool_of-pool.result (c.in-Some.found.turn + 1) ∙ c.requires.fit.one_each;
      cursors_fit = fits_then (g.L.Layout.pools c.args.layout.now) c.args.lists.now.sdl.entries (lawful_here c.args.geometry.now (lists_of c.args.lists.now) c.requires.fit.valid (g.L.Layout.pools c.args.layout.now) c.requires.fit.pools_are) (valid_here c.args.geometry.now (lists_of c.args.lists.now) c.requires.fit.valid (g.L.Layout.pools c.args.layout.now) c.requires.fit.pools_are) c.args.i (logical_here c.args.geometry.now (lists_of c.args.lists.now) c.requires.fit.valid (g.L.Layout.pools c.args.layout.now) c.requires.fit.pools_are c.args.i c.requires.inside) c.args.cursors.now c.requires.fit.cursors_fit its c.in-Some.found at turn c.copy_from.new.self.entries c.set.new.self c.pool_of-pool.result (ap (λ (s : Sdl). s.entries) new_is) c.pool_of-pool.ensures.pool c.set.ensures;
    }

pub returns-clause-cursors : goal.returns-clause-cursors
returns-clause-cursors g c =
    let rule = rw c.in-Some.is at c.in_ok-found.ensures.rule in
    let at = subst (λ (p : ℕ). StandsAt (free_at (g.L.Layout.pools c.args.layout.now) c.args.lists.now.sdl.entries p) c.in-Some.found) c.pool_of-pool.ensures.pool rule.stands in
    let turn = subst (λ (p : ℕ). StandsAtTurn (is_unnamed c.args.lists.now.sdl.entries) (spares_at (g.L.Layout.pools c.args.layout.now) p) c.in-Some.found) c.pool_of-pool.ensures.pool (rw c.in-Some.is at c.in_ok-found.ensures.turn) in
    let its : pool_of (g.L.Layout.pools c.args.layout.now) c.args.i < length c.args.cursors.now = omega (arith, c.pool_of-pool.ensures.inside, c.pool_of-pool.ensures.pool, c.requires.fit.one_each) in
    let new_is = c.copy_from.ensures ∙ c.draft_moved.ensures.value in
    inr (goes_to_turn (g.L.Layout.pools c.args.layout.now) c.args.lists.now.sdl.entries (lawful_here c.args.geometry.now (lists_of c.args.lists.now) c.requires.fit.valid (g.L.Layout.pools c.args.layout.now) c.requires.fit.pools_are) (valid_here c.args.geometry.now (lists_of c.args.lists.now) c.requires.fit.valid (g.L.Layout.pools c.args.layout.now) c.requires.fit.pools_are) c.args.i (logical_here c.args.geometry.now (lists_of c.args.lists.now) c.requires.fit.valid (g.L.Layout.pools c.args.layout.now) c.requires.fit.pools_are c.args.i c.requires.inside) c.args.cursors.now c.requires.fit.cursors_fit its c.in-Some.found at turn (sdl_of c.args.lists.now.sdl) (sdl_of c.copy_from.new.self) c.set.new.self c.pool_of-pool.result refl new_is c.pool_of-pool.ensures.pool c.set.ensures)

pub overflow_add-found : goal.overflow_add-found
overflow_add-found g c =
    let turn = rw c.in-Some.is at c.in_ok-found.ensures.turn in
    let within = slice_get_within (spares_at (g.L.Layout.pools c.args.layout.now) c.pool_of-pool.result) c.in-Some.found.turn c.in-Some.found.spare turn.here in
    let few = c.find_spare.ensures.few in
    omega (arith, within, few)

pub pool_of-pool-requires : goal.pool_of-pool-requires
pool_of-pool-requires g c = logical_here c.args.geometry.now (lists_of c.args.lists.now) c.requires.fit.valid (g.L.Layout.pools c.args.layout.now) c.requires.fit.pools_are c.args.i c.requires.inside

pub find_spare-requires-clause-within : goal.find_spare-requires-clause-within
find_spare-requires-clause-within g c = λ b has.
    (let there = spare_here c.args.geometry.now (lists_of c.args.lists.now) c.requires.fit.valid (g.L.Layout.pools c.args.layout.now) c.requires.fit.pools_are c.pool_of-pool.result b has in
    omega (arith, there, c.requires.fit.size, c.in_ok-put_block.ensures.as_many))

pub draft_moved-requires-clause-pools : goal.draft_moved-requires-clause-pools
draft_moved-requires-clause-pools g c = lawful_here c.args.geometry.now (lists_of c.args.lists.now) c.requires.fit.valid (g.L.Layout.pools c.args.layout.now) c.requires.fit.pools_are

pub draft_moved-requires-clause-blocks : goal.draft_moved-requires-clause-blocks
draft_moved-requires-clause-blocks g c = data_here c.args.geometry.now (lists_of c.args.lists.now) c.requires.fit.valid (g.L.Layout.pools c.args.layout.now) c.requires.fit.pools_are

pub draft_moved-requires-clause-most : goal.draft_moved-requires-clause-most
draft_moved-requires-clause-most g c = most_here c.args.geometry.now (lists_of c.args.lists.now) c.requires.fit.valid (g.L.Layout.pools c.args.layout.now) c.requires.fit.pools_are

pub draft_moved-requires-clause-inside : goal.draft_moved-requires-clause-inside
draft_moved-requires-clause-inside g c = logical_here c.args.geometry.now (lists_of c.args.lists.now) c.requires.fit.valid (g.L.Layout.pools c.args.layout.now) c.requires.fit.pools_are c.args.i c.requires.inside
