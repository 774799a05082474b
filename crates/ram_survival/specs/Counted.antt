-- How many blocks the cuts of a run cost. For the laws of runs. (This project's own, as all here.)
use Rattle.std.specs.Prelude.{◌≡◌, ◌⊎◌, ℕ, ◌+◌, Bool, true, false, if◌then◌else◌, List, [], ◌∷◌, All}
use Rattle.model_drive.specs.Shown.{IsOn, IsFormatted}
use Rattle.model_costs.specs.Costs.{Lives}
use Rattle.model_sense.specs.declared.answer.Answer.TheVariants as answers
use Rattle.ram_report.specs.declared.printing.Event.TheVariants as events
use Rattle.ram_text.specs.declared.script.Line.{Line}
use Rattle.ram_text.specs.declared.script.Line.TheVariants as lines
use Rattle.ram_machine.specs.declared.reply.Reply.{Reply}
use Rattle.ram_machine.specs.declared.reply.Reply.TheVariants as replies
use Rattle.ram_machine.specs.States.{State, Unopened, Disc}
use Rattle.ram_machine.specs.Answered.{AnsweredStep}
use Rattle.ram_machine.specs.OnlyTold.{WasOnlyTold}
use Rattle.ram_survival.specs.Survival.{KeepsDisc}

-- the reply tells that the power was cut
abbrev pub tells_cut : Reply → Bool
tells_cut (replies.Command cdb answers.Cut) = true
tells_cut (replies.Event events.Cut) = true
tells_cut _ = false

-- how many of these lines were told so
abbrev pub cuts_told : List AnsweredStep → ℕ
cuts_told [] = 0
cuts_told (event ∷ earlier) = (if tells_cut event.reply then 1 else 0) + cuts_told earlier

-- the line makes no disc anew, and is no `power` that found the disc not formatted
abbrev pub KeepsBlocks : Line → (payload : List ℕ) → Reply → Type 0
KeepsBlocks lines.Power payload reply = ¬ (reply ≡ replies.Event events.NotFormatted)
KeepsBlocks line payload reply = KeepsDisc line payload

-- so it is of each of these lines, unless it was only told that it is not done
abbrev pub KeepBlocks : List AnsweredStep → Type 0
KeepBlocks events = All (λ (event : AnsweredStep).
    WasOnlyTold event.reply ⊎ KeepsBlocks event.line event.payload event.reply) events

-- with the power on the disc is formatted
abbrev pub IsFormattedOn : State → Type 0
IsFormattedOn (Unopened image) = ⊥
IsFormattedOn (Disc s) = IsOn s.disc.shown.drive → IsFormatted s.disc.shown.drive

-- the home of this block has whole bytes or is dead, whichever lists are found
abbrev pub HasLiving : State → (i : ℕ) → Type 0
HasLiving (Unopened image) i = ⊥
HasLiving (Disc s) i = Lives s.disc.shown.drive i
