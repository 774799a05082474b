-- That a block can be read until it dies, in a user's words: what is safe, which lines leave it, and what holds of it from one line to
-- the next. For the laws of runs. (This project's own, as all here.)
use Rattle.std.specs.Prelude.{◌≡◌, ◌⊎◌, ℕ, Bool, Result, Ok, Err, List, All}
use Rattle.model_geometry.specs.Geometry.{IsLawful, shape_of}
use Rattle.model_medium.specs.Cells.{Dead, IsGood}
use Rattle.model_drive.specs.declared.Kind.TheVariants as kinds
use Rattle.model_drive.specs.Shown.{IsOn, IsFormatted, home_cell}
use Rattle.model_costs.specs.Costs.{Lives}
use Rattle.model_cache.specs.Values.{IsPending}
use Rattle.model_cache.specs.Shown.{CacheShown}
use Rattle.model_cache.specs.Falling.{Misses}
use Rattle.model_sense.specs.declared.sense.Sense.{Sense}
use Rattle.model_sense.specs.declared.answer.Answer.TheVariants as answers
use Rattle.model_cdb.specs.declared.commands.Command.{Command}
use Rattle.model_cdb.specs.declared.commands.Command.TheVariants as commands
use Rattle.model_cdb.specs.Decoding.{decoded}
use Rattle.ram_report.specs.declared.printing.Event.TheVariants as events
use Rattle.ram_text.specs.declared.script.Line.{Line}
use Rattle.ram_text.specs.declared.script.Line.TheVariants as lines
use Rattle.ram_machine.specs.declared.reply.Reply.TheVariants as replies
use Rattle.ram_machine.specs.Replies.{Outcome}
use Rattle.ram_machine.specs.States.{State, Unopened, Disc}
use Rattle.ram_machine.specs.Answered.{AnsweredStep}
use Rattle.ram_machine.specs.OnlyTold.{WasOnlyTold}

-- a command asks for no sector of the block to be written, and for no full format
abbrev pub LeavesBlockAsAsked : (i : ℕ) → Command → Type 0
LeavesBlockAsAsked i (commands.Write lba n fua) = Misses lba n i
LeavesBlockAsAsked i (commands.Format (kinds.Full drop_sdl)) = ⊥
LeavesBlockAsAsked i _ = Unit {0}

-- the same of a command block; one that is refused does nothing
abbrev pub LeavesBlockAsDecoded : (i : ℕ) → Result Command Sense → Type 0
LeavesBlockAsDecoded i (Ok asked) = LeavesBlockAsAsked i asked
LeavesBlockAsDecoded i (Err why) = Unit {0}

-- The same of a line, with its data and what became of it: it is no press of a lawful geometry either, and no `power` line that found
-- the disc not formatted. (A rewriting format of such a disc would be a full one.)
abbrev pub LeavesBlock : (i : ℕ) → Line → (payload : List ℕ) → Outcome → Type 0
LeavesBlock i (lines.Press zones scale psa) payload outcome = ¬ IsLawful (shape_of zones scale psa)
LeavesBlock i (lines.Command cdb) payload outcome = LeavesBlockAsDecoded i (decoded cdb payload)
LeavesBlock i lines.Power payload outcome = ¬ (outcome ≡ Ok (replies.Event events.NotFormatted))
LeavesBlock i _ payload outcome = Unit {0}

-- so it is of each of these lines, unless it was only told that it is not done
abbrev pub LeaveBlock : (i : ℕ) → List AnsweredStep → Type 0
LeaveBlock i events = All (λ (event : AnsweredStep).
    WasOnlyTold event.reply ⊎ LeavesBlock i event.line event.payload (Ok event.reply)) events

-- The disc is formatted, the block is not pending, and its home has whole bytes.
pub record IsSafeOn (shown : CacheShown) (i : ℕ) : Type 0 where
  pub formatted : IsFormatted shown.drive
  pub settled : ¬ IsPending shown.pending i
  pub good : IsGood (home_cell shown.drive i)

-- so it is in this state
abbrev pub IsSafe : State → (i : ℕ) → Type 0
IsSafe (Unopened image) i = ⊥
IsSafe (Disc s) i = IsSafeOn s.disc.shown i

-- The block can be read until it dies: whichever lists are found, its home has whole bytes or is dead; it is not pending; and with the
-- power on the disc is formatted.
pub record StaysReadable (shown : CacheShown) (i : ℕ) : Type 0 where
  pub lives : Lives shown.drive i
  pub settled : ¬ IsPending shown.pending i
  pub formatted : IsOn shown.drive → IsFormatted shown.drive

-- so it is in this state
abbrev pub LivesNow : State → (i : ℕ) → Type 0
LivesNow (Unopened image) i = ⊥
LivesNow (Disc s) i = StaysReadable s.disc.shown i

-- the write cache is on in this state, or off
abbrev pub CachesIn : State → Bool → Type 0
CachesIn (Unopened image) on = ⊥
CachesIn (Disc s) on = s.disc.shown.caches ≡ on

-- The line was a command that asks for this, and it was refused with this sense.
pub record WasRefused (event : AnsweredStep) (asked : Command) (why : Sense) : Type 0 where
  pub cdb : List ℕ
  pub line_is : event.line ≡ lines.Command cdb
  pub asks : decoded cdb event.payload ≡ Ok asked
  pub reply_is : event.reply ≡ replies.Command cdb (answers.Check why)

-- the home of the block, by the lists in use, is dead
abbrev pub HasDied : State → (i : ℕ) → Type 0
HasDied (Unopened image) i = ⊥
HasDied (Disc s) i = home_cell s.disc.shown.drive i ≡ Dead
