-- What a read of a drive shows, by how the reading of its parts ended.
use Rattle.std.proofs.Common.{◌≡◌, ℕ, ◌+◌, ◌≤◌, IsTrue, Option, Some, None, List, [], Ok, inl, inr, refl, sym, ap, ◌∙◌, subst}
use Rattle.model_geometry.specs.Geometry.{Shape}
use Rattle.model_medium.specs.Cells.{Cell, cell_at}
use Rattle.model_medium.specs.World.{World, Span}
use Rattle.model_medium.specs.Machine.{Machine}
use Rattle.model_medium.specs.Exact.{Event}
use Rattle.model_medium.specs.declared.WornBlock.{WornBlock}
use Rattle.model_medium.specs.declared.ArmedCut.{ArmedCut}
use Rattle.model_buffer.specs.Buffer.{numbers_in}
use Rattle.model_sectors.specs.Discs.{On, Off, sectors_of}
use Rattle.model_sectors.specs.Requests.{block_with, blocks_covered}
use Rattle.model_sectors.specs.Uses.{read_uses}
use Rattle.model_sectors.specs.declared.ReadOut.{ReadOut}
use Rattle.model_sectors.specs.declared.ReadOut.TheVariants as outs
use Rattle.model_sectors.proofs.Covering.{all_at_hand, no_uses_buffered}
use Rattle.model_stops.specs.Stops.{Continues}
use Rattle.model_stops.specs.declared.Stop.{Stop}
use Rattle.model_stops.specs.declared.Stop.TheVariants as stops
use Rattle.model_places.specs.Places.{Lists, capacity_of}
use Rattle.model_volume.specs.Given.{AreSettled}
use Rattle.model_drive.specs.Shown.{Shown, HoldsBlocksOf, StandsFor}
use Rattle.model_drive.specs.Parts.{IsInRange, AreSameOrDead, EndsBy}
use Rattle.model_drive.specs.Reads.{AreBuffered, ReadCause, ReadIsQuiet, StopsInRead}
use Rattle.model_drive.proofs.Dying.{one_dies, settled_dies, read_step_on, read_step_off}
use Rattle.model_drive.proofs.Powers.{holds_nothing}
use Rattle.ram_medium.specs.Laws.{ControlLaws, machine_shown}
use Rattle.ram_transfer.specs.Reading.{EndsInBlock, StopsInBlock, PartsEnd, read_end_at}
use Rattle.ram_transfer.specs.Stopped.{read_stopped_by}
use Rattle.ram_transfer.specs.Shown.{shown_without, shown_under}
use Rattle.ram_transfer.proofs.Machines.{machine_stops}
use Rattle.ram_states.specs.Reading.{ReadSteps}

module _ {M : Type 0} (world : M → World) (reaches : M → M → Span → Type 0) (takes : M → M → Event → Type 0) (arms : M → List WornBlock) (armed_cut : M → Option ArmedCut)
    (laws : ControlLaws world reaches takes arms armed_cut) (shape : Shape) where
  abbrev machine : M → Machine
  machine m = machine_shown world arms armed_cut m

  module _ (lists : Lists) where
    abbrev under : M → List (ℕ × List ℕ) → Shown
    under m held = shown_under shape (machine m) lists held

    -- the sectors are the disc's
    module _ (old new : M) (held : List (ℕ × List ℕ)) (lba n : ℕ) (on : IsTrue (world old).power) (inside : lba + n ≤ capacity_of shape lists) where
      in_range : IsInRange (under old held) lba n
      in_range = record { on = on; formatted = refl; inside = inside }

      -- a block that was not at hand was not buffered
      not_quiet : (before : ℕ) → EndsInBlock world reaches old new held shape lists lba n before → ¬ AreBuffered (under old held) lba n
      not_quiet before ended buffered = ended.not_at_hand (all_at_hand (numbers_in held) (block_with lba) (blocks_covered lba n) buffered ended.few before ended.covered)

      module _ (held' : List (ℕ × List ℕ)) where
        ends : (uses : ℕ) → Continues world reaches old new uses → EndsBy (under old held) (under new held') uses
        ends uses continues = record { reach = laws.reach old new uses continues.reach; is_on = continues.is_on }

        module _ (into : List ℕ) where
          ended_cause : (met : Option ℕ) → PartsEnd world reaches old new held shape lists lba n held' into (Ok met) → ReadCause (under old held) (under new held') lba n (read_end_at shape lists lba met)
          ended_cause None did = record {
            inside = in_range;
            keeps = record { same_lists = refl; same_mark = refl };
            ends = ends (read_uses (numbers_in held) (block_with lba) (blocks_covered lba n)) did.all.continues;
            buffered_are = did.all.touched;
            readable = did.all.readable;
            same_cells = λ block. ap (λ (l : List Cell). cell_at l block) did.all.same_cells;
          }
          ended_cause (Some before) did = record {
            inside = in_range;
            keeps = record { same_lists = refl; same_mark = refl };
            before = before;
            is_named = record { covered = did.ended.covered; first = refl };
            block_is = refl;
            not_at_hand = did.ended.not_at_hand;
            ends = ends (read_uses (numbers_in held) (block_with lba) before + 1) did.continues;
            buffered_are = did.touched;
            readable = did.readable;
            unread = did.not_good;
            dies = record { others = did.ended.dies.others; left = did.ended.dies.left };
          }

          ended_holds : (met : Option ℕ) → PartsEnd world reaches old new held shape lists lba n held' into (Ok met) → (disc : List ℕ) → StandsFor (under old held) (On disc) → HoldsBlocksOf disc held'
          ended_holds None did disc stood = did.all.holds disc (stood.0, stood.2)
          ended_holds (Some before) did disc stood = did.holds disc (stood.0, stood.2)

          ended_gives : (met : Option ℕ) → PartsEnd world reaches old new held shape lists lba n held' into (Ok met) → (disc : List ℕ) → StandsFor (under old held) (On disc)
              → read_end_at shape lists lba met ≡ outs.Good → into ≡ sectors_of disc lba n
          ended_gives None did disc stood good = did.gives disc (stood.0, stood.2)
          ended_gives (Some before) did disc stood good = absurd (cc)

          ended_quiet : (met : Option ℕ) → PartsEnd world reaches old new held shape lists lba n held' into (Ok met) → ReadIsQuiet (under old held) (under new held') lba n (read_end_at shape lists lba met)
          ended_quiet None did range buffered = (
            refl,
            ap machine (did.all.unused (elim did.all.few [
              | inl none ↦ ap (read_uses (numbers_in held) (block_with lba)) none
              | inr few ↦ no_uses_buffered (numbers_in held) (block_with lba) (blocks_covered lba n) buffered few
            ])),
          )
          ended_quiet (Some before) did range buffered = absurd (not_quiet before did.ended buffered)

          -- no cell changed, or one died
          ended_dies : (met : Option ℕ) → PartsEnd world reaches old new held shape lists lba n held' into (Ok met) → AreSameOrDead (world old).cells (world new).cells
          ended_dies None did = λ block. inl (ap (λ (l : List Cell). cell_at l block) did.all.same_cells)
          ended_dies (Some before) did = one_dies (under old held) (under new held') _ (record { others = did.ended.dies.others; left = did.ended.dies.left })

          module _ (met : Option ℕ) (did : PartsEnd world reaches old new held shape lists lba n held' into (Ok met)) (out : ReadOut) (is : out ≡ read_end_at shape lists lba met) where
            pub read_cause : ReadCause (under old held) (under new held') lba n out
            read_cause = subst (ReadCause (under old held) (under new held') lba n) (sym is) (ended_cause met did)

            pub read_steps : ReadSteps (under old held) (under new held') lba n into out
            read_steps (On disc) stood = read_step_on (under old held) (under new held') refl lba n disc into out read_cause stood (ended_holds met did disc stood)
                (λ good. ended_gives met did disc stood (sym is ∙ good))
            read_steps (Off discs) stood = read_step_off (under old held) (under new held') refl lba n discs into out read_cause stood

            pub read_quiet : ReadIsQuiet (under old held) (under new held') lba n out
            read_quiet = subst (ReadIsQuiet (under old held) (under new held') lba n) (sym is) (ended_quiet met did)

          -- the power is on, and the lists are settled
          pub read_on : (met : Option ℕ) → PartsEnd world reaches old new held shape lists lba n held' into (Ok met) → IsTrue (world new).power
          read_on None did = did.all.continues.is_on
          read_on (Some before) did = did.continues.is_on

          pub read_settled : (met : Option ℕ) → PartsEnd world reaches old new held shape lists lba n held' into (Ok met) → AreSettled shape (world old).cells lists → AreSettled shape (world new).cells lists
          read_settled met did settled = settled_dies shape (world old).cells (world new).cells (ended_dies met did) lists settled

      -- the read was stopped
      module _ (stop : Stop) (did : StopsInBlock world reaches old new held shape lists lba n stop) where
        abbrev off : Shown
        off = shown_without shape (machine new)

        -- the uses of the whole read
        abbrev whole : ℕ
        whole = read_uses (numbers_in held) (block_with lba) (blocks_covered lba n)

        stops_in : StopsInRead (under old held) off lba n (read_uses (numbers_in held) (block_with lba) (blocks_covered lba n)) stop
        stops_in = record {
          inside = in_range;
          stopped = record {
            stops = machine_stops world reaches takes arms armed_cut laws old new whole whole refl stop did.stops;
            no_lists = refl;
            no_mark = refl;
            no_buffer = refl;
          };
          before = did.before;
          covered = did.ended.covered;
          dies = record { others = did.ended.dies.others; left = did.ended.dies.left };
        }

        pub stopped_quiet : (out : ReadOut) → ReadIsQuiet (under old held) off lba n out
        stopped_quiet out range buffered = absurd (not_quiet did.before did.ended buffered)

        stopped_steps_by : (out : ReadOut) → ReadCause (under old held) off lba n out → ¬ (out ≡ outs.Good) → (into : List ℕ) → ReadSteps (under old held) off lba n into out
        stopped_steps_by out cause not_good into (On disc) stood =
            read_step_on (under old held) off refl lba n disc into out cause stood (holds_nothing disc [] refl) (λ good. absurd (not_good good))
        stopped_steps_by out cause not_good into (Off discs) stood = read_step_off (under old held) off refl lba n discs into out cause stood

      pub stopped_cause : (stop : Stop) → StopsInBlock world reaches old new held shape lists lba n stop → ReadCause (under old held) (shown_without shape (machine new)) lba n (read_stopped_by stop)
      stopped_cause stops.Cut did = stops_in stops.Cut did
      stopped_cause stops.Off did = absurd (did.stops.was_off on)
      stopped_cause stops.Fault did = stops_in stops.Fault did

      pub stopped_steps : (into : List ℕ) (stop : Stop) → StopsInBlock world reaches old new held shape lists lba n stop → ReadSteps (under old held) (shown_without shape (machine new)) lba n into (read_stopped_by stop)
      stopped_steps into stops.Cut did = stopped_steps_by stops.Cut did outs.Cut (stops_in stops.Cut did) (λ same. cc) into
      stopped_steps into stops.Off did = absurd (did.stops.was_off on)
      stopped_steps into stops.Fault did = stopped_steps_by stops.Fault did outs.Fault (stops_in stops.Fault did) (λ same. cc) into
