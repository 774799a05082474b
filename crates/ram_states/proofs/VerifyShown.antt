-- What a verification by a drive shows, by how the reading of the homes ended.
use Rattle.std.proofs.Common.{◌≡◌, ℕ, ◌+◌, ◌≤◌, IsTrue, Option, Some, None, List, Ok, inl, refl, sym, ap, subst}
use Rattle.model_geometry.specs.Geometry.{Shape}
use Rattle.model_medium.specs.Cells.{Cell, cell_at}
use Rattle.model_medium.specs.World.{World, Span}
use Rattle.model_medium.specs.Machine.{Machine}
use Rattle.model_medium.specs.Exact.{Event}
use Rattle.model_medium.specs.declared.WornBlock.{WornBlock}
use Rattle.model_medium.specs.declared.ArmedCut.{ArmedCut}
use Rattle.model_sectors.specs.Requests.{blocks_covered}
use Rattle.model_sectors.specs.declared.ReadOut.{ReadOut}
use Rattle.model_stops.specs.declared.Stop.{Stop}
use Rattle.model_stops.specs.declared.Stop.TheVariants as stops
use Rattle.model_places.specs.Places.{Lists, capacity_of}
use Rattle.model_volume.specs.Given.{AreSettled}
use Rattle.model_drive.specs.Shown.{Shown}
use Rattle.model_drive.specs.Parts.{IsInRange, AreSameOrDead}
use Rattle.model_drive.specs.Reads.{VerifyCause, StopsInRead}
use Rattle.model_drive.proofs.Dying.{one_dies, settled_dies}
use Rattle.ram_medium.specs.Laws.{ControlLaws, machine_shown}
use Rattle.ram_transfer.specs.Reading.{read_end_at}
use Rattle.ram_transfer.specs.Verifying.{HomesEnd, StopsAtHome}
use Rattle.ram_transfer.specs.Stopped.{read_stopped_by}
use Rattle.ram_transfer.specs.Shown.{shown_without, shown_under}
use Rattle.ram_transfer.proofs.Machines.{machine_continues, machine_stops}

module _ {M : Type 0} (world : M → World) (reaches : M → M → Span → Type 0) (takes : M → M → Event → Type 0) (arms : M → List WornBlock) (armed_cut : M → Option ArmedCut)
    (laws : ControlLaws world reaches takes arms armed_cut) (shape : Shape) (lists : Lists) (buffer : List (ℕ × List ℕ)) (old new : M)
    (lba n : ℕ) (on : IsTrue (world old).power) (inside : lba + n ≤ capacity_of shape lists) where
  abbrev machine : M → Machine
  machine m = machine_shown world arms armed_cut m

  abbrev under : M → Shown
  under m = shown_under shape (machine m) lists buffer

  abbrev off : Shown
  off = shown_without shape (machine new)

  -- the sectors are the disc's
  in_range : IsInRange (under old) lba n
  in_range = record { on = on; formatted = refl; inside = inside }

  -- it went to its end
  ended_cause : (met : Option ℕ) → HomesEnd world reaches old new shape lists lba n (Ok met) → VerifyCause (under old) (under new) lba n (read_end_at shape lists lba met)
  ended_cause None did = record {
    inside = in_range;
    keeps = record { same_lists = refl; same_mark = refl };
    ends = machine_continues world reaches takes arms armed_cut laws old new (blocks_covered lba n) did.continues;
    same_buffer = refl;
    good = did.good;
    same_cells = λ block. ap (λ (l : List Cell). cell_at l block) did.same_cells;
  }
  ended_cause (Some before) did = record {
    inside = in_range;
    keeps = record { same_lists = refl; same_mark = refl };
    before = before;
    is_named = record { covered = did.covered; first = refl };
    block_is = refl;
    ends = machine_continues world reaches takes arms armed_cut laws old new (before + 1) did.continues;
    same_buffer = refl;
    good = did.good;
    unread = did.not_good;
    dies = record { others = did.dies.others; left = did.dies.left };
  }

  pub verified_cause : (met : Option ℕ) → HomesEnd world reaches old new shape lists lba n (Ok met) → (out : ReadOut) → out ≡ read_end_at shape lists lba met → VerifyCause (under old) (under new) lba n out
  verified_cause met did out is = subst (VerifyCause (under old) (under new) lba n) (sym is) (ended_cause met did)

  -- no cell changed, or one died
  ended_dies : (met : Option ℕ) → HomesEnd world reaches old new shape lists lba n (Ok met) → AreSameOrDead (world old).cells (world new).cells
  ended_dies None did = λ block. inl (ap (λ (l : List Cell). cell_at l block) did.same_cells)
  ended_dies (Some before) did = one_dies (under old) (under new) _ (record { others = did.dies.others; left = did.dies.left })

  -- so the power is on, and the lists are settled
  pub verified_on : (met : Option ℕ) → HomesEnd world reaches old new shape lists lba n (Ok met) → IsTrue (world new).power
  verified_on None did = did.continues.is_on
  verified_on (Some before) did = did.continues.is_on

  pub verified_settled : (met : Option ℕ) → HomesEnd world reaches old new shape lists lba n (Ok met) → AreSettled shape (world old).cells lists → AreSettled shape (world new).cells lists
  verified_settled met did settled = settled_dies shape (world old).cells (world new).cells (ended_dies met did) lists settled

  -- it was stopped
  stops_in : (stop : Stop) → StopsAtHome world reaches old new shape lists lba n stop → StopsInRead (under old) off lba n (blocks_covered lba n) stop
  stops_in stop did = record {
    inside = in_range;
    stopped = record {
      stops = machine_stops world reaches takes arms armed_cut laws old new (blocks_covered lba n) (blocks_covered lba n) refl stop did.stops;
      no_lists = refl;
      no_mark = refl;
      no_buffer = refl;
    };
    before = did.before;
    covered = did.covered;
    dies = record { others = did.dies.others; left = did.dies.left };
  }

  pub verify_stopped : (stop : Stop) → StopsAtHome world reaches old new shape lists lba n stop → VerifyCause (under old) off lba n (read_stopped_by stop)
  verify_stopped stops.Cut did = stops_in stops.Cut did
  verify_stopped stops.Off did = absurd (did.stops.was_off on)
  verify_stopped stops.Fault did = stops_in stops.Fault did
