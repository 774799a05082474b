use Rattle.std.proofs.Common.{arith, ◌≡◌, ◌+◌, ◌≤◌, ◌∙◌, ℕ, List, length, refl, sym, ap, subst}
use Rattle.model_lists.specs.Values.{Sdl, IsLawfulSdl, most_of, with_entry, pair}
use Rattle.model_lists.proofs.SdlTexts.{most_is}
use Rattle.model_pools.specs.Pools.{free_at, free_in, spares_at, is_unnamed}
use Rattle.model_pools.specs.Moves.{with_retired, tried_of, entries_moved_in, sdl_moved_in}
use Rattle.ram_sdl.specs.Sdl.{sdl_of}
use Rattle.ram_spare.specs.Turns.{AreUsed}
use Rattle.ram_replace.proofs.Moving.{retired_few, room_for_pair, room_for_former, draft_is, entries_valid, lawful_in}
use Rattle.ram_replace.proofs.Under.{data_number}
use Rattle.ram_replace.proofs.drafts.draft_moved.Goals as goal

pub retire_tried-requires-clause-first : goal.retire_tried-requires-clause-first
retire_tried-requires-clause-first g c =
    subst (λ (p : ℕ). AreUsed (is_unnamed c.args.sdl.now.entries) (spares_at (g.L.Layout.pools c.args.layout.now) p) 0 c.args.first) (sym c.pool_of-pool.ensures.pool) c.requires.first

pub retire_tried-requires-clause-few : goal.retire_tried-requires-clause-few
retire_tried-requires-clause-few g c =
    let same : free_at (g.L.Layout.pools c.args.layout.now) c.args.sdl.now.entries c.pool_of-pool.result ≡ free_in (g.L.Layout.pools c.args.layout.now) c.args.sdl.now.entries c.args.i = ap (free_at (g.L.Layout.pools c.args.layout.now) c.args.sdl.now.entries) c.pool_of-pool.ensures.pool in
    let inside = c.requires.stands.inside in
    omega (arith, inside, ap length same)

pub retire_tried-requires-clause-room : goal.retire_tried-requires-clause-room
retire_tried-requires-clause-room g c = λ k few.
    (let same : free_at (g.L.Layout.pools c.args.layout.now) c.args.sdl.now.entries c.pool_of-pool.result ≡ free_in (g.L.Layout.pools c.args.layout.now) c.args.sdl.now.entries c.args.i = ap (free_at (g.L.Layout.pools c.args.layout.now) c.args.sdl.now.entries) c.pool_of-pool.ensures.pool in
    let inside = c.requires.stands.inside in
    let fits = retired_few (g.L.Layout.pools c.args.layout.now) c.args.sdl.now.entries c.requires.pools c.requires.valid (most_of c.args.sdl.now.version) c.requires.most c.args.i k (omega (arith, few, inside)) in
    omega (arith, fits, ap (λ (f : List ℕ). length (with_retired (tried_of f k) c.args.sdl.now.entries)) same, most_is c.args.sdl.now.version))

pub set-requires-clause-room : goal.set-requires-clause-room
set-requires-clause-room g c =
    let same : free_at (g.L.Layout.pools c.args.layout.now) c.args.sdl.now.entries c.pool_of-pool.result ≡ free_in (g.L.Layout.pools c.args.layout.now) c.args.sdl.now.entries c.args.i = ap (free_at (g.L.Layout.pools c.args.layout.now) c.args.sdl.now.entries) c.pool_of-pool.ensures.pool in
    let room : most_of c.args.sdl.now.version ≤ 8184 = omega (arith, most_is c.args.sdl.now.version) in
    room_for_pair (g.L.Layout.pools c.args.layout.now) c.args.sdl.now.entries c.requires.pools c.requires.valid (most_of c.args.sdl.now.version) c.requires.most c.args.i c.requires.inside c.args.found c.requires.stands c.retire_tried.new.draft.entries room c.physical-own.result c.physical-own.ensures
    (ap (λ (s : Sdl). s.entries) c.retire_tried.ensures.value ∙ ap (λ (f : List ℕ). with_retired (tried_of f c.args.found.tried) c.args.sdl.now.entries) same)

pub retire_former-requires-clause-room : goal.retire_former-requires-clause-room
retire_former-requires-clause-room g c =
    let same : free_at (g.L.Layout.pools c.args.layout.now) c.args.sdl.now.entries c.pool_of-pool.result ≡ free_in (g.L.Layout.pools c.args.layout.now) c.args.sdl.now.entries c.args.i = ap (free_at (g.L.Layout.pools c.args.layout.now) c.args.sdl.now.entries) c.pool_of-pool.ensures.pool in
    let room : most_of c.args.sdl.now.version ≤ 8184 = omega (arith, most_is c.args.sdl.now.version) in
    room_for_former (g.L.Layout.pools c.args.layout.now) c.args.sdl.now.entries c.requires.pools c.requires.valid (most_of c.args.sdl.now.version) c.requires.most c.args.i c.requires.inside c.args.found c.requires.stands c.set.new.self.entries room c.physical-own.result c.physical-own.ensures
    c.args.home c.requires.home
    (ap (λ (s : Sdl). s.entries) c.set.ensures.value ∙ ap (with_entry (pair c.physical-own.result c.args.found.spare)) (ap (λ (s : Sdl). s.entries) c.retire_tried.ensures.value ∙ ap (λ (f : List ℕ). with_retired (tried_of f c.args.found.tried) c.args.sdl.now.entries) same))

pub returns-clause-value : goal.returns-clause-value
returns-clause-value g c =
    let same : free_at (g.L.Layout.pools c.args.layout.now) c.args.sdl.now.entries c.pool_of-pool.result ≡ free_in (g.L.Layout.pools c.args.layout.now) c.args.sdl.now.entries c.args.i = ap (free_at (g.L.Layout.pools c.args.layout.now) c.args.sdl.now.entries) c.pool_of-pool.ensures.pool in
    draft_is (g.L.Layout.pools c.args.layout.now) (sdl_of c.args.sdl.now) c.args.i (tried_of (free_in (g.L.Layout.pools c.args.layout.now) c.args.sdl.now.entries c.args.i) c.args.found.tried) c.args.found.spare (sdl_of c.copy_from.new.self) (sdl_of c.retire_tried.new.draft) (sdl_of c.set.new.self) (sdl_of c.retire_former.new.draft)
    c.physical-own.result c.args.home c.copy_from.ensures
    (c.retire_tried.ensures.value ∙ ap (λ (f : List ℕ). record (sdl_of c.copy_from.new.self) { counter = (sdl_of c.copy_from.new.self).counter + 1; entries = with_retired (tried_of f c.args.found.tried) c.args.sdl.now.entries }) same)
    c.set.ensures.value c.retire_former.ensures.value c.physical-own.ensures c.requires.home

pub returns-clause-lawful : goal.returns-clause-lawful
returns-clause-lawful g c =
    let same : free_at (g.L.Layout.pools c.args.layout.now) c.args.sdl.now.entries c.pool_of-pool.result ≡ free_in (g.L.Layout.pools c.args.layout.now) c.args.sdl.now.entries c.args.i = ap (free_at (g.L.Layout.pools c.args.layout.now) c.args.sdl.now.entries) c.pool_of-pool.ensures.pool in
    let moved = draft_is (g.L.Layout.pools c.args.layout.now) (sdl_of c.args.sdl.now) c.args.i (tried_of (free_in (g.L.Layout.pools c.args.layout.now) c.args.sdl.now.entries c.args.i) c.args.found.tried) c.args.found.spare (sdl_of c.copy_from.new.self) (sdl_of c.retire_tried.new.draft) (sdl_of c.set.new.self) (sdl_of c.retire_former.new.draft)
    c.physical-own.result c.args.home c.copy_from.ensures
    (c.retire_tried.ensures.value ∙ ap (λ (f : List ℕ). record (sdl_of c.copy_from.new.self) { counter = (sdl_of c.copy_from.new.self).counter + 1; entries = with_retired (tried_of f c.args.found.tried) c.args.sdl.now.entries }) same)
    c.set.ensures.value c.retire_former.ensures.value c.physical-own.ensures c.requires.home in
    subst IsLawfulSdl (sym moved)
    (lawful_in (g.L.Layout.pools c.args.layout.now) (entries_moved_in (g.L.Layout.pools c.args.layout.now) c.args.sdl.now.entries c.args.i (tried_of (free_in (g.L.Layout.pools c.args.layout.now) c.args.sdl.now.entries c.args.i) c.args.found.tried) c.args.found.spare) (entries_valid (g.L.Layout.pools c.args.layout.now) c.args.sdl.now.entries c.requires.pools c.requires.valid (most_of c.args.sdl.now.version) c.requires.most c.args.i c.requires.inside c.args.found c.requires.stands)
    (λ b has. data_number c.args.geometry.now c.total-total.ensures.lawful b (c.requires.blocks b has))
    (sdl_of c.args.sdl.now) (sdl_moved_in (g.L.Layout.pools c.args.layout.now) (sdl_of c.args.sdl.now) c.args.i (tried_of (free_in (g.L.Layout.pools c.args.layout.now) c.args.sdl.now.entries c.args.i) c.args.found.tried) c.args.found.spare) c.requires.lawful refl (omega (arith, c.requires.counter)) refl refl refl c.requires.most)
