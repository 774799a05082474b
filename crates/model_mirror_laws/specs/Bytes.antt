-- Which sides of a mirror have the bytes of a sector, in this run and in another one. (This project's own, as all here.)
use Rattle.std.specs.Prelude.{◌≡◌, ◌⊎◌, ℕ, not, Bool, true, false, List, []}
use Rattle.std.specs.List.{AllByRecursion}
use Rattle.model_sectors.specs.Discs.{Standing, candidates, sectors_of}
use Rattle.model_drive.specs.Shown.{Shown, IsOn, StandsFor, cells_in}
use Rattle.model_drive.specs.Parts.{KeepsLists, AreSameOrDead}
use Rattle.model_cache.specs.Chains.{LeavesSound}
use Rattle.model_mirror.specs.declared.MirrorPowerOut.{MirrorPowerOut}
use Rattle.model_mirror.specs.Shown.{MirrorShown}
use Rattle.model_mirror.specs.Standing.{StandsSomehow, MayBe}
use Rattle.model_mirror.specs.Powers.{MirrorPowerStep}
use Rattle.model_mirror.specs.Sides.{side_a, side_b, named_side}
use Rattle.model_mirror_laws.specs.Ahead.{SideIsAhead}

-- From each thing that a mirror may stand for before a call, the call comes so to one that it may stand for then.
abbrev pub ComesSo : (old new : MirrorShown) → (Standing → Standing → Type 0) → Type 0
ComesSo old new Step = (s : Standing) → MayBe old s → (t : Standing) × MayBe new t × Step s t

-- From what both sides stand for, the power on comes to what the mirror and both sides stand for then.
abbrev pub PowersSo : (old new : MirrorShown) → MirrorPowerOut → Type 0
PowersSo old new out = (s t : Standing) → StandsFor (side_a old) s → StandsFor (side_b old) t
    → MirrorPowerStep new (MayBe new) (StandsFor (side_a new)) (StandsFor (side_b new)) s t out

module _ (at : ℕ) (bytes : List ℕ) where
  -- a disc has these bytes in this sector, or it has no sectors
  abbrev pub HasSector : List ℕ → Type 0
  HasSector disc = (disc ≡ []) ⊎ (sectors_of disc at 1 ≡ bytes)

  -- each disc that may be found has
  abbrev pub AllHave : Standing → Type 0
  AllHave s = AllByRecursion HasSector (candidates s)

  -- The side holds the sector: it stands for discs that all have it.
  pub record HoldsSector (shown : Shown) : Type 0 where
    pub standing : Standing
    pub stands : StandsFor shown standing
    pub each : AllHave standing

  -- A mirror shows it: it may stand for discs that all have it.
  pub record ShowsSector (shown : MirrorShown) : Type 0 where
    pub standing : Standing
    pub stands : MayBe shown standing
    pub each : AllHave standing

  -- The side of this name keeps the sector: it holds it, and leads where it is known who leads; and the other side holds it as well, or
  -- its record is behind. So whichever leads in another run has the sector.
  pub record KeepsSector (on_a : Bool) (shown : MirrorShown) : Type 0 where
    pub holds : HoldsSector (named_side on_a shown)
    pub rest : HoldsSector (named_side (not on_a) shown) ⊎ SideIsAhead on_a shown
    pub leads : shown.who.known ≡ true → shown.lead_is_a ≡ on_a
    pub other : StandsSomehow (StandsFor (named_side (not on_a) shown))
    pub shows : shown.on ≡ true → ShowsSector shown

  -- some side does
  abbrev pub IsKept : MirrorShown → Type 0
  IsKept shown = (on_a : Bool) × KeepsSector on_a shown

-- A side grew older between two calls: some cells have died, or will die or cut the power at a later use, and nothing else changed.
pub record Ages (old new : Shown) : Type 0 where
  pub leaves : LeavesSound old new
  pub as_known : new.medium.world.known ≡ old.medium.world.known
  pub same_power : new.medium.world.power ≡ old.medium.world.power
  pub keeps : KeepsLists old new
  pub same_buffer : new.buffer ≡ old.buffer
  pub same : AreSameOrDead (cells_in old) (cells_in new)

-- Both sides of a mirror did, at most.
pub record SidesAge (old new : MirrorShown) : Type 0 where
  pub lead : Ages old.lead new.lead
  pub other : Ages old.other new.other
  pub new_is : new ≡ record old { lead = new.lead; other = new.other }

-- A side was opened anew: its geometry is as it was, its power is off, and no cell changed but that some have died.
pub record IsReopened (old new : Shown) : Type 0 where
  pub leaves : LeavesSound old new
  pub as_known : new.medium.world.known ≡ old.medium.world.known
  pub off : ¬ IsOn new
  pub same : AreSameOrDead (cells_in old) (cells_in new)

-- Another run begins over the images of a mirror, in the order in which they were or in the other one.
pub record BeginsAgain (turned : Bool) (old new : MirrorShown) : Type 0 where
  pub a : IsReopened (named_side (not turned) old) (side_a new)
  pub b : IsReopened (named_side turned old) (side_b new)
  pub off : new.on ≡ false
  pub unknown : new.who.known ≡ false
  pub not_by_hand : new.who.by_hand ≡ false
  pub other_unseen : new.who.other.seen ≡ false
