-- What holds of any medium and of any controllable one: the laws of the traits `Medium` and `MediumControl`.
use Rattle.std.specs.Prelude.{◌≡◌, ℕ, ◌+◌, ◌≤◌, Option, List, length}
use Rattle.std.specs.Bool.{OnTrue}
use Rattle.model_medium.specs.Cells.{AreWhole}
use Rattle.model_medium.specs.World.{World, Span, Uses, ShowsNoneUnknown}
use Rattle.model_medium.specs.Machine.{Machine, IsToCome, AreToCome}
use Rattle.model_medium.specs.Exact.{Event, Exactly}
use Rattle.model_medium.specs.Reach.{Follows, Reach}
use Rattle.model_medium.specs.declared.WornBlock.{WornBlock}
use Rattle.model_medium.specs.declared.ArmedCut.{ArmedCut}
use Rattle.ram_medium.specs.declared.countdown.TheConstants.{MOST_ARMS}

-- What holds of `reaches`, which says what can follow by n uses that did not fail, or by one that did: nothing follows by
-- none, one part after another adds up, and what follows is what can follow on any medium. A medium whose cells are known shows
-- one for each block, and one that does not shows none. Cells with whole bytes have those of a block. (This project's own.)
pub record MediumLaws {M : Type 0} (world : M → World) (block_count : M → ℕ) (reaches : M → M → Span → Type 0) : Type 0 where
  pub none : (m : M) → reaches m m (Uses 0)
  pub adds_up : (a b c : M) (j k : ℕ) → reaches a b (Uses j) → reaches b c (Uses k)
      → reaches a c (Uses (j + k))
  pub follows : (a b : M) (k : ℕ) → reaches a b (Uses k) → Follows (world a) (world b) k
  pub unknown : (m : M) → ShowsNoneUnknown (world m)
  pub as_many : (m : M) → OnTrue (world m).known (length (world m).cells ≡ block_count m)
  pub whole : (m : M) → AreWhole (world m).cells

-- a controllable medium, of its parts
abbrev pub machine_of : World → List WornBlock → Option ArmedCut → Machine
machine_of world arms cut = record { world = world; arms = arms; cut = cut }

-- the controllable medium that these three show of a value
abbrev pub machine_shown : {M : Type 0} → (M → World) → (M → List WornBlock) → (M → Option ArmedCut) → M → Machine
machine_shown world arms cut m = machine_of (world m) (arms m) (cut m)

-- What holds of a controllable medium: each event does exactly what it is to do, what follows is what can follow with
-- its arms and its armed cut, the armed cut and the arms are to come, and no more arms stand than may. (This project's
-- own.)
pub record ControlLaws {M : Type 0} (world : M → World) (reaches : M → M → Span → Type 0)
    (takes : M → M → Event → Type 0) (arms : M → List WornBlock) (armed_cut : M → Option ArmedCut) : Type 0 where
  pub exactly : (a b : M) (event : Event) → takes a b event
      → Exactly (machine_shown world arms armed_cut a) (machine_shown world arms armed_cut b) event
  pub reach : (a b : M) (k : ℕ) → reaches a b (Uses k)
      → Reach (machine_shown world arms armed_cut a) (machine_shown world arms armed_cut b) k
  pub to_come : (m : M) → IsToCome (armed_cut m)
  pub arms_to_come : (m : M) → AreToCome (arms m)
  pub few : (m : M) → length (arms m) ≤ MOST_ARMS
