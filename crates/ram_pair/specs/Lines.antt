-- What became of a line for a mirror, by what is held then. (This project's own, as all here.)
use Rattle.std.specs.Prelude.{ℕ, Option, List}
use Rattle.ram_outside.specs.declared.image.Image.{Ghosts as Images}
use Rattle.ram_sectors.specs.declared.Sectors.{Ghosts as Drives}
use Rattle.ram_text.specs.declared.mirror.MirrorLine.{MirrorLine}
use Rattle.ram_text.specs.declared.mirror.MirrorLine.TheVariants as lines
use Rattle.ram_pair.specs.declared.held.Held.{Held}
use Rattle.ram_pair.specs.Told.{PairOutcome}
use Rattle.ram_pair.specs.Calls.{CanBeCalled}
use Rattle.ram_pair.specs.PairStates.{PairState}
use Rattle.ram_pair.specs.PairSteps.{PairStep}
use Rattle.ram_pair.specs.Pairs.{HeldAs}

-- it says nothing, or presses, or a mirror can be asked for what it says
abbrev pub CanBeAnswered : MirrorLine → (payload : List ℕ) → Type 0
CanBeAnswered lines.Empty payload = Unit {0}
CanBeAnswered (lines.Press zones scale psa) payload = Unit {0}
CanBeAnswered line payload = CanBeCalled line payload

module _ {S I : Type 0} (sides : Drives S) (lies_in : S → Option (List ℕ)) (images : Images I) where
  -- What became of a line, of which the state before it is s.
  pub record IsLineAnswered (s : PairState) (line : MirrorLine) (payload bytes : List ℕ) (outcome : PairOutcome) (now : Held S I) : Type 0 where
    pub state : PairState
    pub step : PairStep s line payload outcome bytes state
    pub stands : HeldAs sides lies_in images now state
