-- What a pair stands for, by what it holds: for the calls that begin a run of a mirror, answer its lines and end it. (This project's own,
-- as all here.)
use Rattle.std.specs.Prelude.{◌≡◌, ℕ, ◌+◌, Option, Some, List}
use Rattle.model_geometry.specs.declared.kinds.LayoutKind.TheVariants.{OneGroup}
use Rattle.model_drive.specs.Faults.{faults}
use Rattle.ram_outside.specs.declared.image.Image.{Ghosts as Images}
use Rattle.ram_sectors.specs.declared.Sectors.{Ghosts as Drives}
use Rattle.ram_mirror.specs.declared.mirror.Mirror.{Mirror}
use Rattle.ram_mirror.specs.Mirrors.{mirror_shows}
use Rattle.ram_pair.specs.declared.rooms.PairRooms.{PairRooms}
use Rattle.ram_pair.specs.declared.held.Held.{Held}
use Rattle.ram_pair.specs.declared.held.Held.TheVariants as held
use Rattle.ram_pair.specs.PairStates.{TwoImages, Mirrored, PairState, Unpaired, Paired, images_of}
use Rattle.ram_pair.specs.PairSteps.{Lying, RawStep}
use Rattle.ram_pair.specs.Told.{PairOutcome}

-- the rooms are for discs with one group of spares
pub record AreOfOneGroup (rooms : PairRooms) : Type 0 where
  pub a : rooms.a.kind ≡ OneGroup
  pub b : rooms.b.kind ≡ OneGroup

module _ {S : Type 0} (sides : Drives S) (lies_in : S → Option (List ℕ)) where
  -- a mirror as it lies in two images
  abbrev pub lies_by : Mirror S S → Lying
  lies_by mirror = record { shown = mirror_shows sides sides mirror; a = lies_in mirror.a; b = lies_in mirror.b }

  -- the sides of a mirror have discs with one group of spares
  pub record HasOneGroup (mirror : Mirror S S) : Type 0 where
    pub a : (sides.shows mirror.a).shape.layout ≡ OneGroup
    pub b : (sides.shows mirror.b).shape.layout ≡ OneGroup

  -- a mirror is in this state
  pub record IsMirrorIn (mirror : Mirror S S) (s : Mirrored) : Type 0 where
    pub kind : HasOneGroup mirror
    pub shown_is : mirror_shows sides sides mirror ≡ s.shown
    pub a_is : lies_in mirror.a ≡ Some s.images.a
    pub b_is : lies_in mirror.b ≡ Some s.images.b

-- two images have these bytes
pub record AreIn {I : Type 0} (images : Images I) (a b : I) (held : TwoImages) : Type 0 where
  pub a_is : images.bytes a ≡ Some held.a
  pub b_is : images.bytes b ≡ Some held.b

module _ {S I : Type 0} (sides : Drives S) (lies_in : S → Option (List ℕ)) (images : Images I) where
  -- what is held stands for this state, and the bytes of both images are known
  abbrev pub HeldAs : Held S I → PairState → Type 0
  HeldAs (held.Images a b rooms) (Unpaired bytes) = AreIn images a b bytes × AreOfOneGroup rooms
  HeldAs (held.Images a b rooms) (Paired s) = ⊥
  HeldAs (held.Mirror mirror) (Unpaired bytes) = ⊥
  HeldAs (held.Mirror mirror) (Paired s) = IsMirrorIn sides lies_in mirror s

  -- What became of the bytes of a line, of which the state before it is s.
  pub record IsRawAnswered (s : PairState) (raw : List ℕ) (outcome : PairOutcome) (bytes : List ℕ) (now : Held S I) : Type 0 where
    pub state : PairState
    pub step : RawStep s raw outcome bytes state
    pub stands : HeldAs now state

  -- the same from each state before; the bytes are those that a read gave
  abbrev pub PairAnswers : Held S I → List ℕ → PairOutcome → (bytes : List ℕ) → Held S I → Type 0
  PairAnswers old raw outcome bytes new = (s : PairState) → HeldAs old s → IsRawAnswered s raw outcome bytes new

module _ {S I : Type 0} (sides : Drives S) (images : Images I) where
  -- how often the first image has failed
  abbrev pub first_faults : Held S I → ℕ
  first_faults (held.Images a b rooms) = images.faults a
  first_faults (held.Mirror mirror) = faults (sides.shows mirror.a)

  -- how often the second has
  abbrev pub second_faults : Held S I → ℕ
  second_faults (held.Images a b rooms) = images.faults b
  second_faults (held.Mirror mirror) = faults (sides.shows mirror.b)

  -- how often both have
  abbrev pub faults_held : Held S I → ℕ
  faults_held now = first_faults now + second_faults now

-- the bytes of two images that are left are known, and they are those of the state
pub record LeavesPair (s : PairState) (a b : Option (List ℕ)) : Type 0 where
  pub a_is : a ≡ Some (images_of s).a
  pub b_is : b ≡ Some (images_of s).b
