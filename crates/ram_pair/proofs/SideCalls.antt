-- What is done to one side of a mirror: the other side, and all that the mirror keeps beside them, stay.
use Rattle.std.specs.Prelude.{◌≡◌, ◌≢◌, ℕ, Bool, true, false, List}
use Rattle.std.proofs.Common.{refl, sym, ap, ◌∙◌, inl, inr, subst}
use Rattle.model_geometry.specs.Geometry.{total}
use Rattle.model_sectors.specs.Discs.{Standing, On, Off}
use Rattle.model_drive.specs.Shown.{StandsFor}
use Rattle.model_drive.specs.Faults.{faults}
use Rattle.model_cache.specs.Chains.{LeavesSound}
use Rattle.model_mirror.specs.Shown.{MirrorShown}
use Rattle.model_mirror.specs.Standing.{StandsSomehow, IsFollowed, MirrorStands, MayBe}
use Rattle.model_mirror.specs.Watching.{TracksFaults}
use Rattle.ram_medium.specs.Control.{WearRule, with_armed_cut}
use Rattle.ram_medium.specs.declared.control.FailEnd.{FailEnd}
use Rattle.ram_medium.specs.declared.control.FailEnd.TheVariants as fails
use Rattle.ram_medium.specs.declared.control.Arm.{Arm}
use Rattle.ram_medium.specs.declared.control.Arm.TheVariants as arming
use Rattle.model_medium.specs.Machine.{Machine}
use Rattle.model_medium.specs.declared.Fate.{Fate}
use Rattle.ram_states.specs.Control.{KeepsMemory, FailOnDrive}
use Rattle.ram_sectors.specs.declared.Sectors.{Ghosts as Drives}
use Rattle.ram_sectors.specs.Laws.{SectorsLaws}
use Rattle.ram_side.specs.Side.{standing_after_fail}
use Rattle.ram_report.specs.declared.printing.Event.TheVariants as events
use Rattle.ram_report.specs.declared.printing.MirrorEvent.TheVariants as mirrors
use Rattle.ram_mirror.specs.declared.following.Following.{Following}
use Rattle.ram_mirror.specs.Mirrors.{roles}
use Rattle.ram_text.specs.declared.mirror.MirrorLine.TheVariants as lines
use Rattle.ram_pair.specs.PairLines.{FailCall, WearCall, CutCall}
use Rattle.ram_pair.specs.PairSteps.{IsImageFailure}
use Rattle.ram_pair.specs.Told.{fail_told, wear_told}

-- what a mirror stands for goes by what it keeps beside its sides
module _ (shown shown' : MirrorShown) (on : shown'.on ≡ shown.on) (up : shown'.up ≡ shown.up) (table : shown'.table ≡ shown.table)
    (lead lead' other other' : Standing → Type 0) (leads : (s : Standing) → lead s → lead' s) (follows : (s : Standing) → other s → other' s) where
  some_of : StandsSomehow other → StandsSomehow other'
  some_of some = record { standing = some.standing; stands = follows some.standing some.stands }

  followed_of : (disc : List ℕ) → IsFollowed shown other disc → IsFollowed shown' other' disc
  followed_of disc is = record {
    some = some_of is.some;
    copy = λ now. let has = is.copy (sym up ∙ now) in record { copy = has.copy; stands = follows (On has.copy) has.stands; agrees = rw table has.agrees };
  }

  moved : (s : Standing) → MirrorStands shown lead other s → MirrorStands shown' lead' other' s
  moved (On disc) is = (on ∙ is.0, leads (On disc) is.1, followed_of disc is.2)
  moved (Off discs) is = elim is.0 [
    | inl off ↦ (inl (leads (Off discs) off), some_of is.1)
    | inr idle ↦ (inr (record { off = on ∙ idle.off; disc = idle.disc; one = idle.one; stands = leads (On idle.disc) idle.stands }), some_of is.1)
  ]

not_failed : (s : Standing) (end : FailEnd) → end ≢ fails.Failed → standing_after_fail s end ≡ s
not_failed s fails.Done not = refl
not_failed s (fails.NoBlock blocks) not = refl
not_failed s fails.Failed not = absurd (not refl)

-- a line that is an image's failure was one
pub lost_failed : (on_a : Bool) (block : ℕ) (end : FailEnd) → IsImageFailure (lines.Fail on_a block) (fail_told end) → end ≡ fails.Failed
lost_failed on_a block fails.Done lost = absurd lost
lost_failed on_a block (fails.NoBlock blocks) lost = absurd lost
lost_failed on_a block fails.Failed lost = refl

module _ {S : Type 0} (sides : Drives S) (laws : SectorsLaws sides.shows sides.stands) where
  abbrev for : S → Standing → Type 0
  for x s = StandsFor (sides.shows x) s

  -- it stands for the same where the side does
  kept : (x x' : S) → ((s : Standing) → sides.stands x s → sides.stands x' s) → (s : Standing) → StandsFor (sides.shows x) s → StandsFor (sides.shows x') s
  kept x x' stands s is = (laws.as_shown x' s).0 (stands s ((laws.as_shown x s).1 is))

  module _ (x x' y : S) (f : Following) (stands : (s : Standing) → sides.stands x s → sides.stands x' s) where
    keeps_a : (lead : Bool) (s : Standing) → MayBe (roles sides sides lead x y f) s → MayBe (roles sides sides lead x' y f) s
    keeps_a true s is = moved (roles sides sides true x y f) (roles sides sides true x' y f) refl refl refl (for x) (for x') (for y) (for y) (kept x x' stands) (λ t at. at) s is
    keeps_a false s is = moved (roles sides sides false x y f) (roles sides sides false x' y f) refl refl refl (for y) (for y) (for x) (for x') (λ t at. at) (kept x x' stands) s is

    keeps_b : (lead : Bool) (s : Standing) → MayBe (roles sides sides lead y x f) s → MayBe (roles sides sides lead y x' f) s
    keeps_b true s is = moved (roles sides sides true y x f) (roles sides sides true y x' f) refl refl refl (for y) (for y) (for x) (for x') (λ t at. at) (kept x x' stands) s is
    keeps_b false s is = moved (roles sides sides false y x f) (roles sides sides false y x' f) refl refl refl (for x) (for x') (for y) (for y) (kept x x' stands) (λ t at. at) s is

  -- the geometry of a side stays when a block fails
  pub shape_after_fail : (x x' : S) (block : ℕ) (end : FailEnd) → FailOnDrive (sides.shows x) (sides.shows x') block end → (sides.shows x').shape ≡ (sides.shows x).shape
  shape_after_fail x x' block fails.Done rule = rule.1.same_shape
  shape_after_fail x x' block (fails.NoBlock blocks) rule = rule.1.same_shape
  shape_after_fail x x' block fails.Failed rule = rule.1.same_shape

  module _ (x x' y : S) (f : Following) (block : ℕ) (end : FailEnd) (rule : FailOnDrive (sides.shows x) (sides.shows x') block end)
      (stands : (s : Standing) → sides.stands x s → sides.stands x' (standing_after_fail s end)) where
    same_stands : end ≢ fails.Failed → (s : Standing) → sides.stands x s → sides.stands x' s
    same_stands not s is = subst (sides.stands x') (not_failed s end not) (stands s is)

    leaves_failed : LeavesSound (sides.shows x) (sides.shows x')
    leaves_failed = record { same_shape = shape_after_fail x x' block end rule; sound = laws.sound x' }

    stands_failed : (s : Standing) → StandsFor (sides.shows x) s → StandsFor (sides.shows x') (standing_after_fail s end)
    stands_failed s is = (laws.as_shown x' (standing_after_fail s end)).0 (stands s ((laws.as_shown x s).1 is))

    pub failed_a : (lead : Bool) → FailCall (roles sides sides lead x y f) (roles sides sides lead x' y f) true block (fail_told end)
    failed_a true = record { end = end; rule = rule; leaves = leaves_failed; rest = refl; keeps = λ not. keeps_a x x' y f (same_stands not) true; stands = stands_failed; told_is = refl }
    failed_a false = record { end = end; rule = rule; leaves = leaves_failed; rest = refl; keeps = λ not. keeps_a x x' y f (same_stands not) false; stands = stands_failed; told_is = refl }

    pub failed_b : (lead : Bool) → FailCall (roles sides sides lead y x f) (roles sides sides lead y x' f) false block (fail_told end)
    failed_b true = record { end = end; rule = rule; leaves = leaves_failed; rest = refl; keeps = λ not. keeps_b x x' y f (same_stands not) true; stands = stands_failed; told_is = refl }
    failed_b false = record { end = end; rule = rule; leaves = leaves_failed; rest = refl; keeps = λ not. keeps_b x x' y f (same_stands not) false; stands = stands_failed; told_is = refl }

  module _ (x x' y : S) (f : Following) (block n : ℕ) (end : Arm) (rule : WearRule (total (sides.shows x).shape) (sides.shows x).medium (sides.shows x').medium (record { block = block; left = n }) end)
      (memory : KeepsMemory (sides.shows x) (sides.shows x')) (stands : (s : Standing) → sides.stands x s → sides.stands x' s) where
    leaves_worn : LeavesSound (sides.shows x) (sides.shows x')
    leaves_worn = record { same_shape = memory.same_shape; sound = laws.sound x' }

    pub worn_a : (lead : Bool) → WearCall (roles sides sides lead x y f) (roles sides sides lead x' y f) true block n (wear_told end)
    worn_a true = record { end = end; rule = rule; memory = memory; leaves = leaves_worn; rest = refl; keeps = keeps_a x x' y f stands true; told_is = refl }
    worn_a false = record { end = end; rule = rule; memory = memory; leaves = leaves_worn; rest = refl; keeps = keeps_a x x' y f stands false; told_is = refl }

    pub worn_b : (lead : Bool) → WearCall (roles sides sides lead y x f) (roles sides sides lead y x' f) false block n (wear_told end)
    worn_b true = record { end = end; rule = rule; memory = memory; leaves = leaves_worn; rest = refl; keeps = keeps_b x x' y f stands true; told_is = refl }
    worn_b false = record { end = end; rule = rule; memory = memory; leaves = leaves_worn; rest = refl; keeps = keeps_b x x' y f stands false; told_is = refl }

  module _ (x x' y : S) (f : Following) (n : ℕ) (fate : Fate) (rule : (sides.shows x').medium ≡ with_armed_cut n fate (sides.shows x).medium) (memory : KeepsMemory (sides.shows x) (sides.shows x'))
      (stands : (s : Standing) → sides.stands x s → sides.stands x' s) where
    leaves_armed : LeavesSound (sides.shows x) (sides.shows x')
    leaves_armed = record { same_shape = memory.same_shape; sound = laws.sound x' }

    pub armed_a : (lead : Bool) → CutCall (roles sides sides lead x y f) (roles sides sides lead x' y f) true n fate (mirrors.OfDisc events.Armed)
    armed_a true = record { armed = rule; memory = memory; leaves = leaves_armed; rest = refl; keeps = keeps_a x x' y f stands true; told_is = refl }
    armed_a false = record { armed = rule; memory = memory; leaves = leaves_armed; rest = refl; keeps = keeps_a x x' y f stands false; told_is = refl }

    pub armed_b : (lead : Bool) → CutCall (roles sides sides lead y x f) (roles sides sides lead y x' f) false n fate (mirrors.OfDisc events.Armed)
    armed_b true = record { armed = rule; memory = memory; leaves = leaves_armed; rest = refl; keeps = keeps_b x x' y f stands true; told_is = refl }
    armed_b false = record { armed = rule; memory = memory; leaves = leaves_armed; rest = refl; keeps = keeps_b x x' y f stands false; told_is = refl }

    -- nothing fails when a cut is armed
    pub tracks_armed : (failed failed' : Bool) → failed' ≡ failed → TracksFaults (faults (sides.shows x)) (faults (sides.shows x')) failed failed'
    tracks_armed failed failed' same = inl (ap (λ (m : Machine). m.world.faults) rule, same)

  -- nothing fails when a block is armed
  pub tracks_wear : (x x' : S) (block n : ℕ) (end : Arm) (failed failed' : Bool) → WearRule (total (sides.shows x).shape) (sides.shows x).medium (sides.shows x').medium (record { block = block; left = n }) end
      → failed' ≡ failed → TracksFaults (faults (sides.shows x)) (faults (sides.shows x')) failed failed'
  tracks_wear x x' block n arming.Set failed failed' rule same = inl (ap (λ (m : Machine). m.world.faults) rule.2, same)
  tracks_wear x x' block n (arming.NoBlock blocks) failed failed' rule same = inl (ap (λ (m : Machine). m.world.faults) rule.2, same)
  tracks_wear x x' block n arming.Full failed failed' rule same = inl (ap (λ (m : Machine). m.world.faults) rule.2, same)
