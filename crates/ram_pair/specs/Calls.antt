-- What a call of a mirror may be asked for, and what is known of both sides after it. (This project's own, as all here.)
use Rattle.std.specs.Prelude.{◌≡◌, ℕ, ◌+◌, ◌*◌, ◌≤◌, ◌⊎◌, Bool, true, Option, List, length}
use Rattle.model_drive.specs.Faults.{faults}
use Rattle.model_mirror.specs.Watching.{TracksFaults}
use Rattle.ram_sectors.specs.declared.Sectors.{Ghosts as Drives}
use Rattle.ram_mirror.specs.declared.mirror.Mirror.{Mirror}
use Rattle.ram_mirror.specs.Mirrors.{mirror_shows}
use Rattle.ram_report.specs.declared.printing.MirrorEvent.{MirrorEvent}
use Rattle.ram_text.specs.declared.mirror.MirrorLine.{MirrorLine}
use Rattle.ram_text.specs.declared.mirror.MirrorLine.TheVariants as lines
use Rattle.ram_pair.specs.Told.{PairOutcome, image_failed}
use Rattle.ram_pair.specs.PairLines.{CallRule}
use Rattle.ram_pair.specs.PairSteps.{LineImages, ComesOut, IsImageFailure}
use Rattle.ram_pair.specs.Pairs.{lies_by}

-- A mirror can be asked for what the line says: no more sectors than go with one call, with all their data, and uses from 1 on.
abbrev pub CanBeCalled : MirrorLine → (payload : List ℕ) → Type 0
CanBeCalled lines.Empty payload = ⊥
CanBeCalled (lines.Press zones scale psa) payload = ⊥
CanBeCalled (lines.Read lba n) payload = n ≤ 1024
CanBeCalled (lines.Write lba n) payload = (n ≤ 1024) × (length payload ≡ 2048 * n)
CanBeCalled (lines.Wear on_a block n) payload = 1 ≤ n
CanBeCalled (lines.Cut on_a n fate) payload = 1 ≤ n
CanBeCalled _ payload = Unit {0}

module _ {S : Type 0} (sides : Drives S) where
  -- the geometries of both sides stay
  pub record SameShapes (old new : Mirror S S) : Type 0 where
    pub a : (sides.shows new.a).shape ≡ (sides.shows old.a).shape
    pub b : (sides.shows new.b).shape ≡ (sides.shows old.b).shape

  -- each side tells whether its image failed
  pub record BothTracked (has_failed : S → Bool) (old new : Mirror S S) : Type 0 where
    pub a : TracksFaults (faults (sides.shows old.a)) (faults (sides.shows new.a)) (has_failed old.a) (has_failed new.a)
    pub b : TracksFaults (faults (sides.shows old.b)) (faults (sides.shows new.b)) (has_failed old.b) (has_failed new.b)

  -- how often both have failed
  abbrev pub both_faults : Mirror S S → ℕ
  both_faults mirror = faults (sides.shows mirror.a) + faults (sides.shows mirror.b)

-- What is known of a mirror around the call of a line.
module _ {S : Type 0} (sides : Drives S) (lies_in : S → Option (List ℕ)) (has_failed : S → Bool) (old new : Mirror S S) where
  -- it did what the line says, and was answered so
  pub record IsCalled (line : MirrorLine) (payload bytes : List ℕ) (called : MirrorEvent) : Type 0 where
    pub rule : CallRule (mirror_shows sides sides old) (mirror_shows sides sides new) line payload bytes called
    pub images : LineImages line called (lies_by sides lies_in old) (lies_by sides lies_in new)
    pub tracks : BothTracked sides has_failed old new
    pub lost : IsImageFailure line called → (has_failed new.a ≡ true) ⊎ (has_failed new.b ≡ true)
    pub shapes : SameShapes sides old new

-- the line was done, and came out so
pub record IsDone {S : Type 0} (sides : Drives S) (lies_in : S → Option (List ℕ)) (old new : Mirror S S) (line : MirrorLine)
    (payload bytes : List ℕ) (outcome : PairOutcome) : Type 0 where
  pub called : MirrorEvent
  pub rule : CallRule (mirror_shows sides sides old) (mirror_shows sides sides new) line payload bytes called
  pub images : LineImages line called (lies_by sides lies_in old) (lies_by sides lies_in new)
  pub ends : ComesOut (mirror_shows sides sides old) (mirror_shows sides sides new) called outcome
  pub lost : IsImageFailure line called → outcome ≡ image_failed
  pub shapes : SameShapes sides old new
