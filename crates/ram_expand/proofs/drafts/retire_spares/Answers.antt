use Rattle.std.proofs.Common.{ap, ◌∙◌, sym}
use Rattle.model_lists.specs.Values.{Sdl}
use Rattle.ram_dds.specs.Dds.{dds_of}
use Rattle.ram_sdl.specs.Sdl.{sdl_of}
use Rattle.ram_expand.proofs.Drafting.{until_rises, list_spare, list_other}
use Rattle.ram_expand.proofs.drafts.retire_spares.Goals as goal
use Rattle.ram_expand.proofs.drafts.retire_spares.Goals.{then-is_spare, else-is_spare}

pub set-requires-clause-rise : goal.set-requires-clause-rise
set-requires-clause-rise c =
    until_rises c.args.geometry.now (dds_of c.args.lists.now.dds) c.args.ssa c.args.lists.now.sdl.entries c.requires.valid.together.secondary.entries.rising c.loop-entry.entry-index
    c.loop-entry.draft.entries (ap (λ (s : Sdl). s.entries) c.loop-entry.invariant.value)

pub loop-entry-preserved : goal.loop-entry-preserved
loop-entry-preserved c =
    let es = c.args.lists.now.sdl.entries in
    elim c.if-is_spare.branch [
      | then-is_spare w ↦ rw w.draft-is (record {
        value = list_spare c.args.geometry.now (dds_of c.args.lists.now.dds) c.args.ssa (sdl_of c.args.draft.now) (sdl_of c.loop-entry.draft) es c.requires.valid.together.secondary.entries.rising c.loop-entry.entry-index _
            (rw c.as_slice-entry-items.ensures at c.loop-entry-test.true) c.loop-entry.invariant.value (sdl_of w.set.new.self)
            (rw c.as_slice-entry-items.ensures at (sym c.is_spare.ensures ∙ w.if-is_spare.true)) (rw c.as_slice-entry-items.ensures at w.set.ensures.value);
      })
      | else-is_spare w ↦ rw w.draft-is (record {
        value = list_other c.args.geometry.now (dds_of c.args.lists.now.dds) c.args.ssa (sdl_of c.args.draft.now) (sdl_of c.loop-entry.draft) es c.requires.valid.together.secondary.entries.rising c.loop-entry.entry-index _
            (rw c.as_slice-entry-items.ensures at c.loop-entry-test.true) c.loop-entry.invariant.value
            (rw c.as_slice-entry-items.ensures at (sym c.is_spare.ensures ∙ w.if-is_spare.false));
      })
    ]

pub is_spare-requires-clause-area : goal.is_spare-requires-clause-area
is_spare-requires-clause-area c = (c.args.lists.now.sdl.version, c.requires.area)
