-- What the opening of two images makes of them: for the begin of a run, and for a press. (This project's own, as all here.)
use Rattle.std.specs.Prelude.{◌≡◌, ℕ, ◌⊎◌, Result, Ok, Err, Option, List}
use Rattle.model_counts.specs.Counts.{Rose}
use Rattle.model_geometry.specs.Geometry.{Shape}
use Rattle.ram_outside.specs.declared.image.Image.{Ghosts as Images}
use Rattle.ram_sectors.specs.declared.Sectors.{Ghosts as Drives}
use Rattle.model_drive.specs.Faults.{faults}
use Rattle.ram_mirror.specs.declared.mirror.Mirror.{Mirror}
use Rattle.ram_mirror.specs.Mirrors.{mirror_shows}
use Rattle.ram_pair.specs.declared.held.Both.{Both}
use Rattle.ram_pair.specs.declared.held.Both.TheVariants as both
use Rattle.ram_image.specs.Press.{PressRule}
use Rattle.ram_image.specs.declared.pressing.PressOut.{PressOut}
use Rattle.ram_image.specs.declared.pressing.PressOut.TheVariants as presses
use Rattle.ram_image.specs.declared.opening.OpenFault.{OpenFault}
use Rattle.ram_image.specs.declared.opening.OpenFault.TheVariants as faulty
use Rattle.ram_pair.specs.declared.rooms.PairRooms.{PairRooms}
use Rattle.ram_pair.specs.declared.held.Held.{Held}
use Rattle.ram_pair.specs.Told.{PairOutcome}
use Rattle.ram_pair.specs.PairStates.{TwoImages, PairState, AreDiscs, IsNewMirror, IsFirstPair}
use Rattle.ram_pair.specs.PairSteps.{PressPair}
use Rattle.ram_pair.specs.Pairs.{AreOfOneGroup, HasOneGroup, AreIn, HeldAs, first_faults, second_faults}

-- the bytes and the count of an image are as before
pub record IsSameImage (before after : Option (List ℕ)) (failed failed' : ℕ) : Type 0 where
  pub bytes : after ≡ before
  pub count : failed' ≡ failed

-- one of two images counted a failure
abbrev pub OneRose : {I : Type 0} → Images I → (x y x' y' : I) → Type 0
OneRose images x y x' y' = (Rose (images.faults x) (images.faults x') × (images.faults y' ≡ images.faults y))
    ⊎ ((images.faults x' ≡ images.faults x) × Rose (images.faults y) (images.faults y'))

-- One of two images failed; both have the bytes that they had.
pub record OneRefuses {I : Type 0} (images : Images I) (x y x' y' : I) : Type 0 where
  pub a : images.bytes x' ≡ images.bytes x
  pub b : images.bytes y' ≡ images.bytes y
  pub count : OneRose images x y x' y'

module _ {S I : Type 0} (sides : Drives S) (lies_in : S → Option (List ℕ)) (images : Images I) (a b : I) where
  -- a mirror of the discs in them
  pub record IsMadeOf (mirror : Mirror S S) : Type 0 where
    pub kind : HasOneGroup sides lies_in mirror
    pub a_same : IsSameImage (images.bytes a) (lies_in mirror.a) (images.faults a) (faults (sides.shows mirror.a))
    pub b_same : IsSameImage (images.bytes b) (lies_in mirror.b) (images.faults b) (faults (sides.shows mirror.b))
    pub new : (held : TwoImages) → AreIn images a b held → (shape : Shape) × AreDiscs shape held
        × IsNewMirror shape held (record { shown = mirror_shows sides sides mirror; images = held })

  -- the images, which are not those of two discs of one geometry
  pub record AreNoDiscs (a' b' : I) : Type 0 where
    pub a_same : IsSameImage (images.bytes a) (images.bytes a') (images.faults a) (images.faults a')
    pub b_same : IsSameImage (images.bytes b) (images.bytes b') (images.faults b) (images.faults b')
    pub none : (held : TwoImages) → AreIn images a b held → (shape : Shape) → ¬ AreDiscs shape held

  -- What became of them, where the rooms are for discs with one group of spares.
  abbrev pub OpensBoth : Both S I → Type 0
  OpensBoth (both.Mirror mirror) = IsMadeOf mirror
  OpensBoth (both.Images a' b' rooms) = AreNoDiscs a' b' × AreOfOneGroup rooms
  OpensBoth (both.Failed a' b' rooms) = OneRefuses images a b a' b' × AreOfOneGroup rooms

-- how often the images have failed then, whatever the rooms are for
abbrev pub CountsBoth : {S I : Type 0} → Drives S → Images I → (a b : I) → Both S I → Type 0
CountsBoth sides images a b (both.Mirror mirror) =
    (faults (sides.shows mirror.a) ≡ images.faults a) × (faults (sides.shows mirror.b) ≡ images.faults b)
CountsBoth sides images a b (both.Images a' b' rooms) =
    (images.faults a' ≡ images.faults a) × (images.faults b' ≡ images.faults b)
CountsBoth sides images a b (both.Failed a' b' rooms) = OneRose images a b a' b'

-- the images, by why one of them was not opened
abbrev pub IsRefusedBy : {S I : Type 0} → OpenFault → (a b : I) → PairRooms → Both S I → Type 0
IsRefusedBy faulty.Header a b rooms result = result ≡ both.Images a b rooms
IsRefusedBy (faulty.Length len) a b rooms result = result ≡ both.Images a b rooms
IsRefusedBy faulty.Fault a b rooms result = result ≡ both.Failed a b rooms

module _ {S I : Type 0} (sides : Drives S) (lies_in : S → Option (List ℕ)) (images : Images I) where
  -- what a run over images of these bytes begins with
  pub record BeginsWith (held : TwoImages) (now : Held S I) : Type 0 where
    pub state : PairState
    pub first : IsFirstPair held state
    pub stands : HeldAs sides lies_in images now state

  -- Neither image failed, and this is what a run over them begins with.
  pub record IsBegun (a b : I) (now : Held S I) : Type 0 where
    pub begins : (held : TwoImages) → AreIn images a b held → BeginsWith held now
    pub first : first_faults sides images now ≡ images.faults a
    pub second : second_faults sides images now ≡ images.faults b

  -- That, or one of them failed.
  abbrev pub BeginRule : (a b : I) → Result (Held S I) (I × I) → Type 0
  BeginRule a b (Ok now) = IsBegun a b now
  BeginRule a b (Err back) = OneRefuses images a b back.0 back.1

  -- What became of a press of this geometry, of which the state before it is s.
  pub record IsPressed (s : PairState) (shape : Shape) (outcome : PairOutcome) (now : Held S I) : Type 0 where
    pub state : PairState
    pub step : PressPair s shape outcome state
    pub stands : HeldAs sides lies_in images now state

-- What a press of both images makes of them: both are made anew, or the first failed and the second was not touched, or the second failed.
abbrev pub PressesBoth : {I : Type 0} → Images I → (a b a' b' : I) → Shape → PressOut → Type 0
PressesBoth images a b a' b' shape presses.Done =
    PressRule images a a' shape presses.Done × PressRule images b b' shape presses.Done
PressesBoth images a b a' b' shape presses.Failed = (PressRule images a a' shape presses.Failed × (b' ≡ b))
    ⊎ (PressRule images a a' shape presses.Done × PressRule images b b' shape presses.Failed)
