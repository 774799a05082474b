-- What a verification makes of what a drive stood for. (This project's own, as all here.)
use Rattle.model_sectors.specs.Discs.{Standing}
use Rattle.model_sectors.specs.declared.ReadOut.{ReadOut}
use Rattle.model_drive.specs.Shown.{Shown, StandsFor}
use Rattle.model_drive.specs.Reads.{VerifyStep}

-- What the drive stands for after a verification, for each thing that it stood for.
abbrev pub VerifySteps : Shown → Shown → ReadOut → Type 0
VerifySteps old new out = (s : Standing) → StandsFor old s → VerifyStep (StandsFor new) s out
