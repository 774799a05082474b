use Rattle.std.specs.Prelude.{◌≡◌}
use Rattle.ram_dds.specs.Dds.{dds_of}
use Rattle.ram_sdl.specs.Sdl.{sdl_of}
use Rattle.ram_expand.proofs.Drafting.{expanded_until}
use Rattle.ram_expand.proofs.drafts.retire_spares.Given as goal

abbrev pub invariant-loop-entry : goal.invariant-loop-entry
invariant-loop-entry l = record {
  value : sdl_of l.draft ≡ record (sdl_of l.fn.draft) { entries = expanded_until l.geometry (dds_of l.lists.dds) l.ssa l.entry-index l.lists.sdl.entries };
}
