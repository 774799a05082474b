-- That a command was not done, by its answer alone. For the laws of runs. (This project's own, as all here.)
use Rattle.std.specs.Prelude.{ℕ, ◌⊎◌, IsTrue, Bool, true, false, ◌&&◌, ◌||◌, not, ◌==◌, List}
use Rattle.model_sense.specs.declared.sense.Sense.{Sense}
use Rattle.model_sense.specs.declared.answer.Answer.{Answer}
use Rattle.model_sense.specs.declared.answer.Answer.TheVariants as answers
use Rattle.ram_text.specs.declared.script.Line.{Line}
use Rattle.ram_machine.specs.declared.reply.Reply.{Reply}
use Rattle.ram_machine.specs.declared.reply.Reply.TheVariants as replies
use Rattle.ram_machine.specs.Answered.{AnsweredStep}
use Rattle.ram_machine.specs.Register.{is_midway}

-- A refusal that may come when something was done: in the midst of a command, or where a format failed (31/01).
abbrev pub may_come_late : Sense → Bool
may_come_late why = is_midway why || (why.asc == 0x31 && why.ascq == 0x01)

-- This answer tells that the command was not done: the power is off, or a refusal that comes before anything is done.
abbrev pub tells_only : Answer → Bool
tells_only answers.Off = true
tells_only (answers.Check why) = not (may_come_late why)
tells_only _ = false

-- The same of a line.
abbrev pub was_only_told : Reply → Bool
was_only_told (replies.Command cdb answer) = tells_only answer
was_only_told _ = false

-- the same, as a premise
abbrev pub WasOnlyTold : Reply → Type 0
WasOnlyTold reply = IsTrue (was_only_told reply)

-- The line was only told, or this is so of it.
abbrev pub UnlessTold : (Line → (payload : List ℕ) → Type 0) → AnsweredStep → Type 0
UnlessTold so event = WasOnlyTold event.reply ⊎ so event.line event.payload
