use Rattle.std.proofs.Common.{arith, ◌≡◌, ◌+◌, ℕ, ◌∙◌, sym, ap, subst, List}
use Rattle.std.specs.List.Sorted.{IsStrictlyIncreasing}
use Rattle.model_lists.specs.declared.sdl.SdlEntry.{SdlEntry}
use Rattle.model_lists.specs.Values.{Sdl, defectives, retired}
use Rattle.model_pools.specs.Pools.{spares_at, is_unnamed, free_at}
use Rattle.model_pools.specs.Moves.{with_retired, tried_of}
use Rattle.ram_sdl.specs.Sdl.{sdl_of}
use Rattle.ram_spare.proofs.Passed.{none_passed, one_more_passed, all_passed}
use Rattle.ram_replace.proofs.FreeSpares.{next_stands}
use Rattle.ram_replace.proofs.Moving.{one_more_entry, retired_next, room_for_spare}
use Rattle.ram_replace.proofs.drafts.retire_tried.Goals as goal

pub loop-init : goal.loop-init
loop-init g c = record {
  value = ap (λ (es : List SdlEntry). record (sdl_of c.args.draft.now) { entries = es }) c.requires.same;
  rise = subst (λ (es : List SdlEntry). IsStrictlyIncreasing (defectives es)) (sym c.requires.same) c.requires.rise;
  passed = none_passed (is_unnamed c.args.sdl.now.entries) (spares_at (g.L.Layout.pools c.args.layout.now) c.args.pool) c.args.first c.requires.first;
}

pub unreachable-requires : goal.unreachable-requires
unreachable-requires g c =
    let all = all_passed (is_unnamed c.args.sdl.now.entries) (spares_at (g.L.Layout.pools c.args.layout.now) c.args.pool) c.loop.counter c.loop.turn c.loop.invariant.passed c.in_default.ensures.finds in
    omega (arith, all, c.loop-test.true, c.requires.few)

pub retire-requires-clause-rise : goal.retire-requires-clause-rise
retire-requires-clause-rise g c = c.loop.invariant.rise

pub retire-requires-clause-room : goal.retire-requires-clause-room
retire-requires-clause-room g c =
    let at = next_stands (is_unnamed c.args.sdl.now.entries) (spares_at (g.L.Layout.pools c.args.layout.now) c.args.pool) c.loop.counter c.loop.turn c.loop.invariant.passed c.in-Some.free c.in-Some.ensures.finds in
    let fits = c.requires.room (c.loop.counter + 1) (omega (arith, c.loop-test.true)) in
    room_for_spare (free_at (g.L.Layout.pools c.args.layout.now) c.args.sdl.now.entries c.args.pool) c.args.sdl.now.entries c.loop.draft.entries c.loop.counter c.in-Some.free.block at.spare_is fits (ap (λ (s : Sdl). s.entries) c.loop.invariant.value)

pub loop-preserved : goal.loop-preserved
loop-preserved g c =
    let at = next_stands (is_unnamed c.args.sdl.now.entries) (spares_at (g.L.Layout.pools c.args.layout.now) c.args.pool) c.loop.counter c.loop.turn c.loop.invariant.passed c.in-Some.free c.in-Some.ensures.finds in
    record {
      value =
          one_more_entry (sdl_of c.args.draft.now) (sdl_of c.loop.draft) (sdl_of c.retire.new.list) _ (retired c.in-Some.free.block) c.loop.invariant.value c.retire.ensures.value
          ∙ ap (λ (es : List SdlEntry). record (sdl_of c.args.draft.now) { entries = es }) (retired_next (free_at (g.L.Layout.pools c.args.layout.now) c.args.sdl.now.entries c.args.pool) c.args.sdl.now.entries c.loop.counter c.in-Some.free.block at.spare_is);
      rise = c.retire.ensures.rise;
      passed = one_more_passed (is_unnamed c.args.sdl.now.entries) (spares_at (g.L.Layout.pools c.args.layout.now) c.args.pool) c.loop.counter c.loop.turn c.loop.invariant.passed c.in-Some.free c.in-Some.ensures.finds;
    }

pub returns-clause-value : goal.returns-clause-value
returns-clause-value g c =
    let all : c.loop.counter ≡ c.args.tried = omega (arith, c.loop-test.false, c.loop.auto.counter-end) in
    subst (λ (n : ℕ). sdl_of c.loop.draft ≡ record (sdl_of c.args.draft.now) { entries = with_retired (tried_of (free_at (g.L.Layout.pools c.args.layout.now) c.args.sdl.now.entries c.args.pool) n) c.args.sdl.now.entries }) all
    c.loop.invariant.value

pub returns-clause-rise : goal.returns-clause-rise
returns-clause-rise g c = c.loop.invariant.rise
