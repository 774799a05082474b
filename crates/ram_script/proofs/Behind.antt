-- What had failed when the sink failed in the end, by how the lines had ended.
use Rattle.ram_machine.specs.declared.stopped.Stopped.TheVariants as stopped
use Rattle.std.specs.Prelude.{Err}
use Rattle.ram_script.specs.RunCounts.{Counts, OnlySinkRose, SourceAndSinkRose, ImageAndSinkRose}
use Rattle.ram_script.specs.Progress.{Ending}

-- these counts rose, and no others
abbrev pub Behind : Counts → Counts → Ending → Type 0
Behind before after (Err stopped.SourceFault) = SourceAndSinkRose before after
Behind before after (Err stopped.ImageFault) = ImageAndSinkRose before after
Behind before after _ = OnlySinkRose before after
