-- What a scrub of all blocks told, and a read that met a block that cannot be read. For the law of runs. (This project's own, as all
-- here.)
use Rattle.std.specs.Prelude.{◌≡◌, ℕ, ◌<◌, true, Ok, List, []}
use Rattle.model_medium.specs.Cells.{IsGood}
use Rattle.model_drive.specs.Shown.{block_count, home_cell}
use Rattle.model_sense.specs.Sense.{sense_at}
use Rattle.model_sense.specs.declared.answer.Answer.TheVariants as answers
use Rattle.model_cdb.specs.declared.commands.Command.TheVariants as commands
use Rattle.model_cdb.specs.Decoding.{decoded}
use Rattle.ram_report.specs.declared.printing.Event.TheVariants as events
use Rattle.ram_text.specs.declared.script.Line.TheVariants as lines
use Rattle.ram_machine.specs.declared.reply.Reply.TheVariants as replies
use Rattle.ram_machine.specs.States.{State, Unopened, Disc}
use Rattle.ram_machine.specs.Answered.{AnsweredStep}

-- The line was a scrub of all blocks, and told how many it found. Which these are are the data that it gave.
pub record ToldFound (event : AnsweredStep) (count : ℕ) : Type 0 where
  pub line_is : event.line ≡ lines.Scrub true
  pub reply_is : event.reply ≡ replies.Event (events.Found count)

-- The line was a read of n sectors from lba on, and was answered that the block of this sector cannot be read (3/11/00).
pub record WasToldUnreadable (event : AnsweredStep) (lba n named : ℕ) : Type 0 where
  pub cdb : List ℕ
  pub line_is : event.line ≡ lines.Command cdb
  pub asks : decoded cdb event.payload ≡ Ok (commands.Read lba n)
  pub reply_is : event.reply ≡ replies.Command cdb (answers.Check (sense_at 0x3 0x11 0x00 named))

-- The disc has this logical block, and its home has no whole bytes.
abbrev pub IsUnreadableNow : State → (block : ℕ) → Type 0
IsUnreadableNow (Unopened image) block = ⊥
IsUnreadableNow (Disc s) block = (block < block_count s.disc.shown.drive) × ¬ IsGood (home_cell s.disc.shown.drive block)

-- No block is armed to die.
abbrev pub HasNoArms : State → Type 0
HasNoArms (Unopened image) = ⊥
HasNoArms (Disc s) = s.disc.shown.drive.medium.arms ≡ []
