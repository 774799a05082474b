-- That a run gives up no block that is not dead, and says that no spare is left only where none is. For laws of runs. (This
-- project's own, as all here.)
use Rattle.std.specs.Prelude.{◌≡◌, ℕ, ◌⊎◌, Some, List}
use Rattle.std.specs.List.{Contains}
use Rattle.model_medium.specs.Cells.{Dead, cell_at}
use Rattle.model_pools.specs.Listed.{replacements}
use Rattle.model_sectors.specs.Requests.{block_with}
use Rattle.model_places.specs.Places.{Lists, spares_of}
use Rattle.model_drive.specs.Shown.{Shown, cells_in}
use Rattle.model_fairness.specs.Fair.{GivesUpDeadAlone}
use Rattle.model_sense.specs.Sense.{sense_at}
use Rattle.model_sense.specs.declared.answer.Answer.TheVariants as answers
use Rattle.ram_report.specs.declared.printing.Event.TheVariants as events
use Rattle.ram_text.specs.declared.script.Line.TheVariants as lines
use Rattle.ram_machine.specs.declared.reply.Reply.TheVariants as replies
use Rattle.ram_machine.specs.States.{State, Unopened, Disc}
use Rattle.ram_machine.specs.Answered.{AnsweredStep}

-- The disc in the drive gives up dead blocks alone, by the lists in use and by all that it may give. An image that is no disc's has
-- none.
abbrev pub FairNow : State → Type 0
FairNow (Unopened image) = Unit {0}
FairNow (Disc s) = GivesUpDeadAlone s.disc.shown.drive

-- The line was a command, and was answered that no spare is left for the block of this sector (3/32/00).
pub record CommandWasToldNoSpare (event : AnsweredStep) (named : ℕ) : Type 0 where
  pub cdb : List ℕ
  pub line_is : event.line ≡ lines.Command cdb
  pub reply_is : event.reply ≡ replies.Command cdb (answers.Check (sense_at 0x3 0x32 0x00 named))

-- the same of a tick
pub record TickWasToldNoSpare (event : AnsweredStep) (named : ℕ) : Type 0 where
  pub line_is : event.line ≡ lines.Tick
  pub reply_is : event.reply ≡ replies.Event (events.NoSpare named)

-- The line was answered that no spare is left for the block of this sector.
abbrev pub WasToldNoSpare : AnsweredStep → (named : ℕ) → Type 0
WasToldNoSpare event named = CommandWasToldNoSpare event named ⊎ TickWasToldNoSpare event named

-- Each spare that the block of a sector may go to, and that replaces no block, is dead, also those that the lists in use gave up.
abbrev pub HasNoSpare : Shown → (sector : ℕ) → Type 0
HasNoSpare shown sector =
    (lists : Lists) → shown.lists ≡ Some lists → (spare : ℕ) → Contains (spares_of shown.shape lists (block_with sector)) spare
    → ¬ Contains (replacements lists.sdl.entries) spare → cell_at (cells_in shown) spare ≡ Dead

-- No spare is left for the block of a sector.
abbrev pub HasNoSpareLeft : State → (sector : ℕ) → Type 0
HasNoSpareLeft (Unopened image) sector = ⊥
HasNoSpareLeft (Disc s) sector = HasNoSpare s.disc.shown.drive sector
