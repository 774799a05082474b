-- What becomes of a line: a reply, or the reason why the run ends. For the steps of a run and the code that does them.
use Rattle.std.specs.Prelude.{◌*◌, Result, Ok, Err, List, ℕ}
use Rattle.ram_image.specs.declared.opening.OpenFault.{OpenFault}
use Rattle.ram_image.specs.declared.opening.OpenFault.TheVariants as opens
use Rattle.model_cache.specs.declared.TickOut.{TickOut}
use Rattle.model_cache.specs.declared.TickOut.TheVariants as ticks
use Rattle.model_sectors.specs.declared.PowerOut.{PowerOut}
use Rattle.model_sectors.specs.declared.PowerOut.TheVariants as powers
use Rattle.ram_medium.specs.declared.control.FailEnd.{FailEnd}
use Rattle.ram_medium.specs.declared.control.FailEnd.TheVariants as fails
use Rattle.ram_medium.specs.declared.control.Arm.{Arm}
use Rattle.ram_medium.specs.declared.control.Arm.TheVariants as arming
use Rattle.model_scrub.specs.declared.ends.StepEnd.{StepEnd}
use Rattle.model_scrub.specs.declared.ends.StepEnd.TheVariants as steps
use Rattle.model_scrub.specs.declared.ends.PassEnd.{PassEnd}
use Rattle.model_scrub.specs.declared.ends.PassEnd.TheVariants as passes
use Rattle.model_sense.specs.declared.answer.Answer.{Answer}
use Rattle.model_sense.specs.declared.answer.Answer.TheVariants as answers
use Rattle.ram_report.specs.ReportLines.{IsPrinted, IsAddressed}
use Rattle.ram_report.specs.declared.printing.Event.{Event}
use Rattle.ram_report.specs.declared.printing.Event.TheVariants as events
use Rattle.ram_machine.specs.declared.reply.Reply.{Reply}
use Rattle.ram_machine.specs.declared.reply.Reply.TheVariants as replies
use Rattle.ram_machine.specs.declared.stopped.Stopped.{Stopped}
use Rattle.ram_machine.specs.declared.stopped.Stopped.TheVariants as stopped

-- What became of a line: what it is answered, or why the run ends at it. (This project's own, as all here.)
abbrev pub Outcome : Type 0
Outcome = Result Reply Stopped

-- the answer of a line that is no command
abbrev pub event : Event → Outcome
event answer = Ok (replies.Event answer)

-- how each end of the turning on of the power comes out
abbrev pub power_outcome : PowerOut → Outcome
power_outcome (powers.Ready capacity) = event (events.Ready capacity)
power_outcome powers.NotFormatted = event events.NotFormatted
power_outcome powers.Cut = event events.Cut
power_outcome powers.Fault = Err stopped.ImageFault

-- how each end of the failure of a block comes out
abbrev pub fail_outcome : FailEnd → Outcome
fail_outcome fails.Done = event events.Failed
fail_outcome (fails.NoBlock blocks) = event events.NoSuchBlock
fail_outcome fails.Failed = Err stopped.ImageFault

-- how each end of the arming of a block comes out
abbrev pub wear_outcome : Arm → Outcome
wear_outcome arming.Set = event events.Armed
wear_outcome (arming.NoBlock blocks) = event events.NoSuchBlock
wear_outcome arming.Full = event events.Full

-- how each end of the write of the oldest pending block comes out
abbrev pub tick_outcome : TickOut → Outcome
tick_outcome ticks.Idle = event events.Idle
tick_outcome (ticks.Written lba) = event (events.Written lba)
tick_outcome (ticks.NoSpare lba) = event (events.NoSpare lba)
tick_outcome (ticks.NoUpdate counter) = event events.NoUpdate
tick_outcome ticks.Cut = event events.Cut
tick_outcome ticks.Off = event events.Off
tick_outcome ticks.Fault = Err stopped.ImageFault

-- how each end of a step of the scrubber comes out: a block is told by its first sector
abbrev pub step_outcome : StepEnd → Outcome
step_outcome (steps.Readable i) = event (events.Readable (16 * i))
step_outcome (steps.Unreadable i) = event (events.Unreadable (16 * i))
step_outcome steps.NotFormatted = event events.NotFormatted
step_outcome steps.Cut = event events.Cut
step_outcome steps.Off = event events.Off
step_outcome steps.Fault = Err stopped.ImageFault

-- how each end of a pass comes out, after which the scrubber has n blocks
abbrev pub pass_outcome : PassEnd → (count : ℕ) → Outcome
pass_outcome passes.Done count = event (events.Found count)
pass_outcome passes.NotFormatted count = event events.NotFormatted
pass_outcome passes.Cut count = event events.Cut
pass_outcome passes.Off count = event events.Off
pass_outcome passes.Fault count = Err stopped.ImageFault

-- The data that a line gave, by what became of it: the blocks that the scrubber has, where it tells how many these are, and else
-- the bytes of a command.
abbrev pub data_told : Outcome → (bytes found : List ℕ) → List ℕ
data_told (Ok (replies.Event (events.Found count))) bytes found = found
data_told outcome bytes found = bytes

-- how each answer of a command comes out: a failure of the image ends the run
abbrev pub command_outcome : List ℕ → Answer → Outcome
command_outcome cdb answers.Good = Ok (replies.Command cdb answers.Good)
command_outcome cdb (answers.Check sense) = Ok (replies.Command cdb (answers.Check sense))
command_outcome cdb answers.Cut = Ok (replies.Command cdb answers.Cut)
command_outcome cdb answers.Off = Ok (replies.Command cdb answers.Off)
command_outcome cdb answers.Fault = Err stopped.ImageFault

-- why a run ends whose image was not opened
abbrev pub stopped_by : OpenFault → Stopped
stopped_by opens.Header = stopped.NotADisc
stopped_by (opens.Length len) = stopped.NotADisc
stopped_by opens.Fault = stopped.ImageFault

-- a reply that can be printed: of a command one that has words, and a read that was done has its address
abbrev pub CanPrint : Reply → Type 0
CanPrint replies.Nothing = Unit {0}
CanPrint (replies.Event event) = Unit {0}
CanPrint (replies.Command cdb answer) = IsPrinted answer × IsAddressed answer cdb

-- the same of what became of a line
abbrev pub PrintsWhere : Outcome → Type 0
PrintsWhere (Ok reply) = CanPrint reply
PrintsWhere (Err why) = Unit {0}
