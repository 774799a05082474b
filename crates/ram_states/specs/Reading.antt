-- What a read makes of what a drive stood for. (This project's own, as all here.)
use Rattle.std.specs.Prelude.{ℕ, List}
use Rattle.model_sectors.specs.Discs.{Standing}
use Rattle.model_sectors.specs.declared.ReadOut.{ReadOut}
use Rattle.model_drive.specs.Shown.{Shown, StandsFor}
use Rattle.model_drive.specs.Reads.{ReadStep}

-- What the drive stands for after a read, for each thing that it stood for.
abbrev pub ReadSteps : Shown → Shown → (lba n : ℕ) → List ℕ → ReadOut → Type 0
ReadSteps old new lba n into out = (s : Standing) → StandsFor old s → ReadStep (StandsFor new) s lba n into out
