-- How often the image failed in a line. For the code that answers a line, and for the loop above it.
use Rattle.std.specs.Prelude.{◌≡◌, ℕ, Result, Ok, Err}
use Rattle.model_counts.specs.Counts.{Rose}
use Rattle.ram_machine.specs.declared.reply.Reply.{Reply}
use Rattle.ram_machine.specs.declared.stopped.Stopped.{Stopped}
use Rattle.ram_machine.specs.declared.stopped.Stopped.TheVariants as stopped

-- The image's count, by what became of a line: it rose exactly where the image failed. Nothing else can fail in a line.
-- (This project's own.)
abbrev pub LineCount : ℕ → ℕ → Result Reply Stopped → Type 0
LineCount faults faults' (Ok reply) = faults' ≡ faults
LineCount faults faults' (Err stopped.NotADisc) = faults' ≡ faults
LineCount faults faults' (Err stopped.ImageFault) = Rose faults faults'
LineCount faults faults' (Err why) = ⊥
