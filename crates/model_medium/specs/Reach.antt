-- What can follow on a medium by n uses that did not fail: for work of several uses.
use Rattle.std.specs.Prelude.{◌≡◌, ◌≢◌, ℕ, ◌+◌, ◌≤◌, ◌⊎◌, IsTrue, Option, Some, None, List, [], ◌∷◌}
use Rattle.model_counts.specs.Counts.{counted}
use Rattle.model_medium.specs.Cells.{Cell, Torn, Dead, IsGood, IsGoodOrDead, cell_at}
use Rattle.model_medium.specs.World.{World, Span, Uses, FailedUse}
use Rattle.model_medium.specs.Machine.{Machine}
use Rattle.model_medium.specs.declared.WornBlock.{WornBlock}
use Rattle.model_medium.specs.declared.ArmedCut.{ArmedCut}

-- What k uses of any medium keep, none of which failed: they are counted, the label stays, what is known stays known, no
-- fault is counted, and a dead cell stays dead. (This project's own, as all here.)
pub record Lasts (old new : World) (k : ℕ) : Type 0 where
  pub same_label : new.label ≡ old.label
  pub as_known : new.known ≡ old.known
  pub counts : new.uses ≡ counted old.uses k
  pub no_fault : new.faults ≡ old.faults
  pub stays_dead : (block : ℕ) → cell_at old.cells block ≡ Dead → cell_at new.cells block ≡ Dead

-- no cut came: the power is as it was, and each good cell is good or dead
pub record NoCutCame (old new : World) : Type 0 where
  pub power_same : new.power ≡ old.power
  pub no_cut : new.cuts ≡ old.cuts
  pub stays_good : (block : ℕ) → IsGood (cell_at old.cells block) → IsGoodOrDead (cell_at new.cells block)

-- the last use was cut: the power went off, and each good cell is good or dead, but for at most one that is torn
pub record CutCame (old new : World) : Type 0 where
  pub was_on : IsTrue old.power
  pub turns_off : ¬ IsTrue new.power
  pub one_cut : new.cuts ≡ counted old.cuts 1
  pub torn : ℕ
  pub others_stay_good : (block : ℕ) → block ≢ torn → IsGood (cell_at old.cells block)
      → IsGoodOrDead (cell_at new.cells block)
  pub one_torn : IsGood (cell_at old.cells torn)
      → IsGoodOrDead (cell_at new.cells torn) ⊎ (cell_at new.cells torn ≡ Torn)

-- What can follow on any medium by k uses, none of which failed. While the power is off nothing happens.
pub record Follows (old new : World) (k : ℕ) : Type 0 where
  pub lasts : Lasts old new k
  pub off_is_still : ¬ IsTrue old.power → (new ≡ old) × (k ≡ 0)
  pub ends : NoCutCame old new ⊎ CutCame old new

-- some arm of the block has at most k uses left
abbrev pub IsWornWithin : ℕ → ℕ → List WornBlock → Type 0
IsWornWithin k block [] = ⊥
IsWornWithin k block (arm ∷ arms) = ((arm.block ≡ block) × (arm.left ≤ k)) ⊎ IsWornWithin k block arms

-- the arm was dropped within k uses: it had at most k left, and its block is dead
pub record IsDropped (k : ℕ) (cells : List Cell) (arm : WornBlock) : Type 0 where
  pub few_left : arm.left ≤ k
  pub dead : cell_at cells arm.block ≡ Dead

-- the arm stands after k uses: it is lowered by at most k
pub record IsLowered (k : ℕ) (arm arm' : WornBlock) : Type 0 where
  pub same_block : arm'.block ≡ arm.block
  pub not_raised : arm'.left ≤ arm.left
  pub lowered : arm.left ≤ arm'.left + k

-- The arms after k uses are those of before in their order, each dropped or lowered; the cells are those after.
abbrev pub WornBy : ℕ → List Cell → List WornBlock → List WornBlock → Type 0
WornBy k cells [] [] = Unit {0}
WornBy k cells [] (arm' ∷ arms') = ⊥
WornBy k cells (arm ∷ arms) [] = IsDropped k cells arm × WornBy k cells arms []
WornBy k cells (arm ∷ arms) (arm' ∷ arms') = (IsDropped k cells arm × WornBy k cells arms (arm' ∷ arms'))
    ⊎ (IsLowered k arm arm' × WornBy k cells arms arms')

-- no cut came in k uses: an armed cut has k fewer left, and at least one
abbrev pub CutStands : ℕ → Option ArmedCut → Option ArmedCut → Type 0
CutStands k None None = Unit {0}
CutStands k None (Some armed') = ⊥
CutStands k (Some armed) None = ⊥
CutStands k (Some armed) (Some armed') = (armed'.fate ≡ armed.fate) × (armed.left ≡ armed'.left + k) × (1 ≤ armed'.left)

-- the armed cut came at the last of k uses: it had just n left, and is dropped
abbrev pub CutFell : ℕ → Option ArmedCut → Option ArmedCut → Type 0
CutFell k None cut' = ⊥
CutFell k (Some armed) cut' = (armed.left ≡ k) × (cut' ≡ None)

-- What can follow on a controllable medium by k uses, none of which failed. A cell dies by an arm alone.
pub record Reach (old new : Machine) (k : ℕ) : Type 0 where
  pub lasts : Lasts old.world new.world k
  pub off_is_still : ¬ IsTrue old.world.power → (new ≡ old) × (k ≡ 0)
  pub dies_by_arm : (block : ℕ) → cell_at new.world.cells block ≡ Dead
      → (cell_at old.world.cells block ≡ Dead) ⊎ IsWornWithin k block old.arms
  pub arms : WornBy k new.world.cells old.arms new.arms
  pub ends : (NoCutCame old.world new.world × CutStands k old.cut new.cut)
      ⊎ (CutCame old.world new.world × CutFell k old.cut new.cut)

-- The same by how far the work went; what a use that failed did is told by its own rule.
abbrev pub ReachBy : Machine → Machine → Span → Type 0
ReachBy old new (Uses k) = Reach old new k
ReachBy old new FailedUse = Unit {0}
