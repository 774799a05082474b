-- What a format makes of what a drive stood for: for `format` of both states. (This project's own, as all here.)
use Rattle.model_sectors.specs.Discs.{Standing}
use Rattle.model_drive.specs.declared.Kind.{Kind}
use Rattle.model_drive.specs.declared.FormatOut.{FormatOut}
use Rattle.model_drive.specs.Shown.{Shown, StandsFor}
use Rattle.model_drive.specs.Formats.{FormatStep}

-- What the drive stands for after that, for each thing that it stood for.
abbrev pub FormatSteps : Shown → Shown → Kind → FormatOut → Type 0
FormatSteps old new kind out = (s : Standing) → StandsFor old s → FormatStep old new (StandsFor new) s kind out
