-- What the inserted disc stands for, and what a line leaves of it. For the loop over the lines and the calls below it.
use Rattle.std.specs.Prelude.{◌≡◌, ℕ, Option, None, Some, List, []}
use Rattle.model_geometry.specs.Geometry.{Shape}
use Rattle.ram_outside.specs.declared.image.Image.{Ghosts as Images}
use Rattle.ram_sectors.specs.declared.caching.Caching.{Ghosts as Drives}
use Rattle.ram_scrub.specs.Scrub.{scrubber_of}
use Rattle.ram_machine.specs.declared.inserted.Inserted.{Inserted}
use Rattle.ram_machine.specs.declared.inserted.Inserted.TheVariants as inserts
use Rattle.ram_text.specs.declared.script.Line.{Line}
use Rattle.ram_text.specs.declared.script.Line.TheVariants as lines
use Rattle.ram_machine.specs.Replies.{Outcome}
use Rattle.ram_machine.specs.States.{State, Unopened, Disc, IsIn, IsLeft, kind_of}
use Rattle.ram_machine.specs.LineSteps.{PressStep, Step}

module _ {D I : Type 0} (drives : Drives D) (lies_in : D → Option (List ℕ)) (images : Images I) where
  -- the inserted disc stands for this state, and the bytes of its image are known (this project's own, as all here)
  abbrev pub Stands : Inserted D I → State → Type 0
  Stands (inserts.Image image rooms) (Unopened bare) = (images.bytes image ≡ Some bare.bytes) × (rooms.drive.kind ≡ bare.kind)
  Stands (inserts.Image image rooms) (Disc s) = ⊥
  Stands (inserts.Disc target kind scrub) (Unopened bare) = ⊥
  Stands (inserts.Disc target kind scrub) (Disc s) = IsIn (drives.shows target.disc) (drives.stands target.disc) target.host
      (lies_in target.disc) s × (kind ≡ kind_of (Disc s)) × (scrubber_of scrub ≡ s.scrub)

module _ {D I : Type 0} (drives : Drives D) (images : Images I) where
  -- how often the image of the inserted disc has failed
  abbrev pub faults_of : Inserted D I → ℕ
  faults_of (inserts.Image image rooms) = images.faults image
  faults_of (inserts.Disc target kind scrub) = (drives.shows target.disc).drive.medium.world.faults

-- the blocks that the scrubber of the inserted disc has found; there is none without a disc
abbrev pub found_in : {D I : Type 0} → Inserted D I → List ℕ
found_in (inserts.Image image rooms) = []
found_in (inserts.Disc target kind scrub) = (scrubber_of scrub).found

-- the bytes of the image that is left are known, and they are those of the state
abbrev pub LeavesImage : State → Option (List ℕ) → Type 0
LeavesImage s None = ⊥
LeavesImage s (Some bytes) = IsLeft s bytes

-- the data before a line: those of the last one where it is a command, which says itself what they are then, and else none
abbrev pub data_before : Line → (held : List ℕ) → List ℕ
data_before (lines.Command cdb) held = held
data_before _ held = []

-- What became of a line, of which the state before it is s, where the inserted disc then stands for some states.
pub record IsAnswered (s : State) (line : Line) (payload data_in : List ℕ) (after : State → Type 0)
    (outcome : Outcome) : Type 0 where
  pub state : State
  pub step : Step s line payload outcome data_in state
  pub stands : after state

-- What became of a press of this geometry, of which the state before it is s.
pub record IsPressAnswered (s : State) (shape : Shape) (after : State → Type 0) (outcome : Outcome) : Type 0 where
  pub state : State
  pub step : PressStep s shape outcome state
  pub stands : after state
