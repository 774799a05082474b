-- What an expansion makes of what a drive stood for. (This project's own, as all here.)
use Rattle.std.specs.Prelude.{ℕ}
use Rattle.model_sectors.specs.Discs.{Standing}
use Rattle.model_drive.specs.declared.ExpandOut.{ExpandOut}
use Rattle.model_drive.specs.Shown.{Shown, StandsFor}
use Rattle.model_drive.specs.Expands.{ExpandStep}

-- What the drive stands for after that, for each thing that it stood for.
abbrev pub ExpandSteps : Shown → Shown → (capacity : ℕ) → ExpandOut → Type 0
ExpandSteps old new capacity out = (s : Standing) → StandsFor old s → ExpandStep (StandsFor new) s capacity out
