-- From the rule of a rewriting format to the cause of its answer, one lemma for each.
use Rattle.std.proofs.Common.{ℕ, ◌+◌, Option, List, [], refl}
use Rattle.model_geometry.specs.Geometry.{Shape, dds_block}
use Rattle.model_lists.specs.Texts.{IsDdsText}
use Rattle.model_lists.specs.Values.{Sdl}
use Rattle.model_medium.specs.World.{World, Span}
use Rattle.model_medium.specs.Machine.{Machine}
use Rattle.model_medium.specs.Exact.{Event}
use Rattle.model_medium.specs.declared.WornBlock.{WornBlock}
use Rattle.model_medium.specs.declared.ArmedCut.{ArmedCut}
use Rattle.model_stops.specs.declared.Stop.{Stop}
use Rattle.model_places.specs.Places.{Lists}
use Rattle.model_drive.specs.declared.FormatOut.TheVariants as outs
use Rattle.model_drive.specs.Shown.{Shown}
use Rattle.model_drive.specs.Repairs.{RepairsList, RepairsSdl, most_rewrite_uses}
use Rattle.model_drive.specs.Rewriting.{RepairsBoth, StopsInRewrite, RewriteCause}
use Rattle.ram_medium.specs.Laws.{ControlLaws, machine_shown}
use Rattle.ram_lists.specs.Mounts.{RepairsCopies, RepairsBothParts}
use Rattle.ram_format.specs.Rewriting.{RepairsBothLists, HaveCopies, LacksCopies, RewriteStopped}
use Rattle.ram_transfer.specs.Shown.{shown_without, shown_under}
use Rattle.ram_transfer.proofs.Machines.{machine_continues, machine_stops}

module _ {M : Type 0} (world : M → World) (reaches : M → M → Span → Type 0) (takes : M → M → Event → Type 0) (arms : M → List WornBlock) (armed_cut : M → Option ArmedCut)
    (laws : ControlLaws world reaches takes arms armed_cut) (shape : Shape) (lists : Lists) (buffer : List (ℕ × List ℕ)) (old new : M) where
  abbrev machine : M → Machine
  machine m = machine_shown world arms armed_cut m

  abbrev pub before : Shown
  before = shown_under shape (machine old) lists buffer

  abbrev pub after : Shown
  after = shown_under shape (machine new) lists []

  repairs : {V : Type 0} (text : V → List ℕ → Type 0) (place : ℕ → ℕ) (value : V) (uses : ℕ) → RepairsCopies text place (world old) (world new) value uses → RepairsList text place before after value uses
  repairs text place value uses r = record { rewritten = r.rewritten; few = r.few; uses_are = r.uses_are; rewrites = r.rewrites }

  repairs_parts : (sdl : Sdl) (uses : ℕ) → RepairsBothParts shape (world old) (world new) sdl uses → RepairsSdl before after sdl uses
  repairs_parts sdl uses r = record {
    firsts = r.firsts;
    seconds = r.seconds;
    few = r.few;
    few' = r.few';
    none = r.none;
    uses_are = r.uses_are;
    of_firsts = r.of_firsts;
    of_seconds = r.of_seconds;
  }

  both : RepairsBothLists world reaches shape old new lists → RepairsBoth before after lists
  both r = record {
    was_on = r.was_on;
    only = r.only;
    keeps = record { same_lists = refl; same_mark = refl };
    unbuffered = refl;
    dds_uses = r.dds_uses;
    dds = repairs IsDdsText (dds_block shape) lists.dds r.dds_uses r.dds;
    sdl_uses = r.sdl_uses;
    sdl = repairs_parts lists.sdl r.sdl_uses r.sdl;
    ends = machine_continues world reaches takes arms armed_cut laws old new (r.dds_uses + r.sdl_uses) r.continues;
  }

  -- each list has a copy
  pub rewritten_cause : HaveCopies world reaches shape old new lists → RewriteCause before after lists outs.Good
  rewritten_cause have = record { both = both have.both; has_dds = have.has_dds; has_sdl = have.has_sdl }

  -- a list has none left
  pub lacking_cause : (counter : ℕ) → LacksCopies world reaches shape old new lists counter → RewriteCause before after lists (outs.NoUpdate counter)
  lacking_cause counter lacks = record { both = both lacks.both; lost = lacks.lost }

  -- it was stopped
  pub stopped_cause : (stop : Stop) → RewriteStopped world reaches shape old new lists stop → StopsInRewrite before (shown_without shape (machine new)) lists stop
  stopped_cause stop was = record {
    was_on = was.was_on;
    only = was.only;
    given = λ known. was.given;
    left = λ known. was.left;
    stopped = record {
      stops = machine_stops world reaches takes arms armed_cut laws old new (most_rewrite_uses lists.sdl) (most_rewrite_uses lists.sdl) refl stop was.stops;
      no_lists = refl;
      no_mark = refl;
      no_buffer = refl;
    };
  }
