-- What an expansion does: for `grow`, and by its answer for `expand_lists`.
use Rattle.std.specs.Prelude.{◌≡◌, ℕ, ◌<◌, ◌==◌, ◌⊎◌, if◌then◌else◌, true, IsTrue, List, [], ◌∷◌}
use Rattle.model_geometry.specs.Geometry.{Shape}
use Rattle.model_lists.specs.Texts.{IsTwo}
use Rattle.model_medium.specs.World.{World, Span}
use Rattle.model_stops.specs.declared.Stop.{Stop}
use Rattle.model_stops.specs.declared.Stop.TheVariants as stops
use Rattle.model_copies.specs.Parts.{SdlIsLost}
use Rattle.model_places.specs.Places.{Lists, capacity_of}
use Rattle.model_volume.specs.Given.{AreSettled, IsGiven}
use Rattle.model_volume.specs.Covers.{FitsUnder, Cover}
use Rattle.model_volume.specs.Expansions.{lists_expanded}
use Rattle.model_drive.specs.declared.TheConstants.{LAST_COUNTER}
use Rattle.model_drive.specs.Repairs.{sdl_update_uses}
use Rattle.model_drive.specs.Expands.{IsLawfulSize, ssa_for, shortened}
use Rattle.ram_zones.specs.declared.list_kind.ListKind.TheVariants as kinds
use Rattle.ram_copies.specs.Calls.{CallEnds, StoppedWithin}
use Rattle.model_survival.specs.Stops.{LeavesSdl}
use Rattle.ram_expand.specs.Sizes.{IsPresent, IsSmaller}
use Rattle.ram_expand.specs.declared.expanding.ExpandEnd.{ExpandEnd}
use Rattle.ram_expand.specs.declared.expanding.ExpandEnd.TheVariants as ends
use Rattle.ram_expand.specs.declared.expanding.Grown.{Grown}
use Rattle.ram_expand.specs.declared.expanding.Grown.TheVariants as growns

-- The lists where the supplementary spare area has grown until this capacity is left. (This project's own, as all here.)
abbrev pub lists_grown : Shape → Lists → (capacity : ℕ) → Lists
lists_grown shape lists capacity = lists_expanded shape lists (ssa_for shape capacity)

module _ {M : Type 0} (world : M → World) (reaches : M → M → Span → Type 0)
    (shape : Shape) (old new : M) (lists : Lists) (capacity : ℕ) (lists' : Lists) where
  -- nothing was done, and the lists are as before
  pub record DoesNothing : Type 0 where
    pub nothing : new ≡ old
    pub same : lists' ≡ lists

  -- The power was on, and the disc has the capacity already.
  pub record KeepsSize : Type 0 where
    pub size : IsPresent shape lists capacity
    pub ended : CallEnds world reaches kinds.Sdl shape old new (IsTwo lists.sdl) 0
    pub does : DoesNothing

  -- The power was on, and the disc cannot have the capacity.
  pub record RefusesCapacity : Type 0 where
    pub was_on : IsTrue (world old).power
    pub unlawful : ¬ IsLawfulSize shape lists.sdl.version (capacity_of shape lists) capacity
    pub does : DoesNothing

  -- The area has grown: the lists are the new ones, each of their copies is exactly its text or dead, and one of the
  -- secondary list can be read. Of a disc that fitted before the first sectors fit.
  pub record HasGrown : Type 0 where
    pub size : IsSmaller shape lists capacity
    pub room : lists.sdl.counter < LAST_COUNTER
    pub ended : CallEnds world reaches kinds.Sdl shape old new (IsTwo lists.sdl) (sdl_update_uses lists.sdl)
    pub lists_are : lists' ≡ lists_grown shape lists capacity
    pub settled : AreSettled shape (world new).cells lists'
    pub has_copy : (world old).known ≡ true → ¬ SdlIsLost shape (world new).cells lists.sdl
    pub makes : (disc : List ℕ) → FitsUnder shape (world old).cells lists disc
        → FitsUnder shape (world new).cells lists' (shortened capacity disc)

  -- No copy of the secondary list is left, or its counter, which is told, stands at its end and none was written.
  -- The lists and the disc are as before.
  pub record LacksUpdate (counter : ℕ) : Type 0 where
    pub size : IsSmaller shape lists capacity
    pub counter_is : counter ≡ lists.sdl.counter
    pub cause : SdlIsLost shape (world new).cells lists.sdl ⊎ (counter ≡ LAST_COUNTER)
    pub ended : CallEnds world reaches kinds.Sdl shape old new (IsTwo lists.sdl)
        (if counter == LAST_COUNTER then 0 else sdl_update_uses lists.sdl)
    pub same : lists' ≡ lists
    pub settled : AreSettled shape (world new).cells lists
    pub keeps : (disc : List ℕ) → FitsUnder shape (world old).cells lists disc
        → FitsUnder shape (world new).cells lists disc

  -- It was stopped in the update, for a cause that its count shows. The lists in memory are as before; the cells give those
  -- or the new ones, and no others, and the disc or its first sectors fit under them; and this is left of the copies, from below.
  pub record StopsGrowing (stop : Stop) : Type 0 where
    pub size : IsSmaller shape lists capacity
    pub room : lists.sdl.counter < LAST_COUNTER
    pub stopped : StoppedWithin world reaches kinds.Sdl shape old new (IsTwo lists.sdl) (sdl_update_uses lists.sdl) stop
    pub same : lists' ≡ lists
    pub left : LeavesSdl shape (world old).cells (world new).cells (lists_grown shape lists capacity).sdl
    pub given : (other : Lists) → IsGiven shape (world new).cells other
        → (other ≡ lists) ⊎ (other ≡ lists_grown shape lists capacity)
    pub covers : (disc : List ℕ) → FitsUnder shape (world old).cells lists disc
        → Cover shape (world new).cells (disc ∷ shortened capacity disc ∷ [])

  -- the power was off
  pub record FindsOff : Type 0 where
    pub off : ¬ IsTrue (world old).power
    pub does : DoesNothing

  -- how an expansion that was not stopped ended
  abbrev pub EndsGrowing : Grown → Type 0
  EndsGrowing growns.Good = KeepsSize ⊎ HasGrown
  EndsGrowing growns.Refused = RefusesCapacity
  EndsGrowing (growns.NoUpdate counter) = LacksUpdate counter

  -- what an expansion does, by its answer
  abbrev pub ExpandRule : ExpandEnd → Type 0
  ExpandRule ends.Good = KeepsSize ⊎ HasGrown
  ExpandRule ends.Refused = RefusesCapacity
  ExpandRule (ends.NoUpdate counter) = LacksUpdate counter
  ExpandRule ends.Cut = StopsGrowing stops.Cut
  ExpandRule ends.Off = FindsOff
  ExpandRule ends.Fault = StopsGrowing stops.Fault
