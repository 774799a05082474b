-- From the rule of an expansion to the cause of its answer, one lemma for each, and from the cause to what the drive stands
-- for then.
use Rattle.std.proofs.Common.{◌≡◌, ℕ, ◌==◌, ◌⊎◌, inl, inr, if◌then◌else◌, Option, Some, None, List, [], IsTrue, refl, ap}
use Rattle.model_geometry.specs.Geometry.{Shape}
use Rattle.model_medium.specs.World.{World, Span}
use Rattle.model_medium.specs.Machine.{Machine}
use Rattle.model_medium.specs.Exact.{Event}
use Rattle.model_medium.specs.declared.WornBlock.{WornBlock}
use Rattle.model_medium.specs.declared.ArmedCut.{ArmedCut}
use Rattle.model_sectors.specs.Discs.{On, Off}
use Rattle.model_stops.specs.declared.Stop.{Stop}
use Rattle.model_stops.specs.declared.Stop.TheVariants as stops
use Rattle.model_places.specs.Places.{Lists, capacity_of}
use Rattle.model_drive.specs.declared.TheConstants.{LAST_COUNTER}
use Rattle.model_drive.specs.declared.ExpandOut.{ExpandOut}
use Rattle.model_drive.specs.declared.ExpandOut.TheVariants as outs
use Rattle.model_drive.specs.Shown.{Shown}
use Rattle.model_drive.specs.Sound.{IsSound}
use Rattle.model_drive.specs.Repairs.{sdl_update_uses}
use Rattle.model_drive.specs.Expands.{IsLawfulSize, ExpandsAny, StaysAsLarge, Grows, StopsInExpansion, ExpandCause}
use Rattle.model_drive.proofs.ExpandSteps.{expand_step_on, expand_step_off}
use Rattle.ram_medium.specs.Laws.{ControlLaws, machine_shown}
use Rattle.ram_zones.specs.declared.list_kind.ListKind.TheVariants as kinds
use Rattle.ram_copies.specs.Calls.{ChangesCopiesAlone}
use Rattle.ram_expand.specs.Expanding.{KeepsSize, HasGrown, LacksUpdate, StopsGrowing}
use Rattle.ram_transfer.specs.Stopped.{expand_stopped_by}
use Rattle.ram_transfer.specs.Shown.{shown_without, shown_under}
use Rattle.ram_transfer.proofs.Machines.{machine_continues, machine_stops}
use Rattle.ram_states.specs.Expanding.{ExpandSteps}

module _ {M : Type 0} (world : M → World) (reaches : M → M → Span → Type 0) (takes : M → M → Event → Type 0) (arms : M → List WornBlock) (armed_cut : M → Option ArmedCut)
    (laws : ControlLaws world reaches takes arms armed_cut) (shape : Shape) (lists : Lists) (buffer : List (ℕ × List ℕ)) (old new : M) (sectors : ℕ) (lists' : Lists) where
  abbrev machine : M → Machine
  machine m = machine_shown world arms armed_cut m

  abbrev pub before : Shown
  before = shown_under shape (machine old) lists buffer

  abbrev pub after : Shown
  after = shown_under shape (machine new) lists' []

  abbrev pub off : Shown
  off = shown_without shape (machine new)

  any : (left : Option Lists) (mark : ℕ) → IsTrue (world old).power → IsLawfulSize shape lists.sdl.version (capacity_of shape lists) sectors → {two : Type 0} → ChangesCopiesAlone world reaches kinds.Sdl shape old new two
      → ExpandsAny before (record { shape = shape; medium = machine new; lists = left; mark = mark; buffer = [] }) sectors lists
  any left mark on size alone = record { was_on = on; in_use = refl; lawful = size; only = λ block first second. alone.others block first (λ two. second) }

  -- the disc has the capacity already, or it has now
  stays_cause : KeepsSize world reaches shape old new lists sectors lists' → StaysAsLarge before after sectors
  stays_cause keeps = record {
    lists = lists;
    any = any (Some lists') lists'.dds.counter keeps.ended.was_on keeps.size.lawful keeps.ended.alone;
    present = keeps.size.present;
    ends = machine_continues world reaches takes arms armed_cut laws old new 0 keeps.ended.continues;
    keeps = record { same_lists = ap Some keeps.does.same; same_mark = ap (λ (l : Lists). l.dds.counter) keeps.does.same };
    unbuffered = refl;
  }

  grown_cause : HasGrown world reaches shape old new lists sectors lists' → Grows before after sectors
  grown_cause grown = record {
    lists = lists;
    any = any (Some lists') lists'.dds.counter grown.ended.was_on grown.size.lawful grown.ended.alone;
    smaller = grown.size.smaller;
    room = grown.room;
    ends = machine_continues world reaches takes arms armed_cut laws old new (sdl_update_uses lists.sdl) grown.ended.continues;
    now_in_use = ap Some grown.lists_are;
    same_mark = ap (λ (l : Lists). l.dds.counter) grown.lists_are;
    unbuffered = refl;
    has_copy = grown.has_copy;
  }

  abbrev pub HasSize : Type 0
  HasSize = KeepsSize world reaches shape old new lists sectors lists' ⊎ HasGrown world reaches shape old new lists sectors lists'

  pub good_cause : HasSize → ExpandCause before after sectors outs.Good
  good_cause (inl keeps) = inl (stays_cause keeps)
  good_cause (inr grown) = inr (grown_cause grown)

  -- the new list has no copy
  pub vain_cause : (counter : ℕ) → LacksUpdate world reaches shape old new lists sectors lists' counter → ExpandCause before after sectors (outs.NoUpdate counter)
  vain_cause counter lacks = record {
    lists = lists;
    any = any (Some lists') lists'.dds.counter lacks.ended.was_on lacks.size.lawful lacks.ended.alone;
    smaller = lacks.size.smaller;
    counter_is = lacks.counter_is;
    cause = lacks.cause;
    ends = machine_continues world reaches takes arms armed_cut laws old new (if counter == LAST_COUNTER then 0 else sdl_update_uses lists.sdl) lacks.ended.continues;
    keeps = record { same_lists = ap Some lacks.same; same_mark = ap (λ (l : Lists). l.dds.counter) lacks.same };
    unbuffered = refl;
  }

  -- it was stopped
  pub stopped_cause : (stop : Stop) → StopsGrowing world reaches shape old new lists sectors lists' stop → StopsInExpansion before off sectors stop
  stopped_cause stop was = record {
    lists = lists;
    any = any None 0 was.stopped.was_on was.size.lawful was.stopped.alone;
    smaller = was.size.smaller;
    room = was.room;
    given = λ known. was.given;
    left = λ known. was.left;
    stopped = record {
      stops = machine_stops world reaches takes arms armed_cut laws old new (sdl_update_uses lists.sdl) (sdl_update_uses lists.sdl) refl stop was.stopped.stops;
      no_lists = refl;
      no_mark = refl;
      no_buffer = refl;
    };
  }

  pub grown_stopped : (stop : Stop) → StopsGrowing world reaches shape old new lists sectors lists' stop → ExpandCause before off sectors (expand_stopped_by stop)
  grown_stopped stops.Cut was = stopped_cause stops.Cut was
  grown_stopped stops.Off was = absurd (was.stopped.stops.was_off was.stopped.was_on)
  grown_stopped stops.Fault was = stopped_cause stops.Fault was

-- the steps follow from the cause
pub expand_steps : (old new : Shown) → new.shape ≡ old.shape → IsSound new → (sectors : ℕ) (out : ExpandOut) → ExpandCause old new sectors out → ExpandSteps old new sectors out
expand_steps old new same sound sectors out cause (On disc) stood = expand_step_on old new same sound sectors disc stood out cause
expand_steps old new same sound sectors out cause (Off discs) stood = expand_step_off old new sectors discs stood out cause
