-- What a user may rely on over a run: the bytes of sectors that the drive acknowledged, and the lines that
-- leave them. For the laws of runs. (This project's own, as all here.)
use Rattle.std.specs.Prelude.{◌≡◌, ℕ, ◌+◌, ◌*◌, ◌<◌, ◌≤◌, ◌⊎◌, Bool, true, false, if◌then◌else◌, Result, Ok, Err, Some, List, [], ◌∷◌, length, All}
use Rattle.std.specs.List.{Contains}
use Rattle.model_geometry.specs.Geometry.{IsLawful, shape_of, total}
use Rattle.model_medium.specs.Cells.{Cell, Good, cell_at}
use Rattle.model_image.specs.Cells.{cells_of}
use Rattle.model_sectors.specs.Discs.{sectors_of}
use Rattle.model_sectors.specs.Requests.{block_with}
use Rattle.model_places.specs.Places.{Lists, home_of}
use Rattle.model_drive.specs.Shown.{Shown}
use Rattle.model_cache.specs.Values.{Contents, Has, MayHave}
use Rattle.model_cache.specs.Shown.{goes_into_cache}
use Rattle.model_cache.specs.Falling.{FallsTo}
use Rattle.model_sense.specs.declared.sense.Sense.{Sense}
use Rattle.model_sense.specs.declared.answer.Answer.TheVariants as answers
use Rattle.model_cdb.specs.declared.commands.Command.{Command}
use Rattle.model_cdb.specs.declared.commands.Command.TheVariants as commands
use Rattle.model_cdb.specs.Decoding.{decoded}
use Rattle.ram_text.specs.declared.script.Line.TheVariants as lines
use Rattle.ram_text.specs.declared.script.Line.{Line}
use Rattle.ram_report.specs.declared.printing.Event.TheVariants as events
use Rattle.ram_machine.specs.declared.reply.Reply.{Reply}
use Rattle.ram_machine.specs.declared.reply.Reply.TheVariants as replies
use Rattle.ram_machine.specs.States.{State, Unopened, Disc}
use Rattle.ram_machine.specs.Answered.{AnsweredStep}
use Rattle.ram_machine.specs.SectorBytes.{bytes_of_sector, is_sector_among}
use Rattle.ram_machine.specs.OnlyTold.{was_only_told, UnlessTold}

-- the disc has a sector of this number, with these bytes
pub record HasSector (disc : List ℕ) (at : ℕ) (bytes : List ℕ) : Type 0 where
  pub inside : 2048 * (at + 1) ≤ length disc
  pub bytes_are : sectors_of disc at 1 ≡ bytes

-- these bytes of a logical block have those of the sector
abbrev pub HasInBlock : (at : ℕ) → (bytes held : List ℕ) → Type 0
HasInBlock at bytes held = bytes_of_sector (16 * block_with at) held at ≡ bytes

-- The drive acknowledged these bytes of the sector, and gives no others: whichever disc is found when the power goes off and
-- on again has them there, or has no block of this number. So each value to which the sector's block may fall back has them.
abbrev pub Acknowledged : State → (at : ℕ) → List ℕ → Type 0
Acknowledged (Unopened image) at bytes = ⊥
Acknowledged (Disc s) at bytes = FallsTo (HasInBlock at bytes) (block_with at) s.disc.contents

-- these bytes of a block have the old ones of the sector, or the new ones
abbrev pub IsOldOrNew : (at : ℕ) → (old new held : List ℕ) → Type 0
IsOldOrNew at old new held = HasInBlock at old held ⊎ HasInBlock at new held

-- Whichever disc is found when the power goes off and on again has the old bytes of the sector or the new
-- ones, or has no block of this number.
abbrev pub HoldsOldOrNew : State → (at : ℕ) → (old new : List ℕ) → Type 0
HoldsOldOrNew (Unopened image) at old new = ⊥
HoldsOldOrNew (Disc s) at old new = FallsTo (IsOldOrNew at old new) (block_with at) s.disc.contents

-- Whichever disc is found when the power goes off and on again has one of these in the sector, or has no block of this number.
abbrev pub FallsBackTo : State → (at : ℕ) → List (List ℕ) → Type 0
FallsBackTo (Unopened image) at choices = ⊥
FallsBackTo (Disc s) at choices =
    FallsTo (λ held. Contains choices (bytes_of_sector (16 * block_with at) held at)) (block_with at) s.disc.contents

-- what a drive stands for is one disc that shows these bytes in the sector
abbrev pub StandsWithSector : Contents → (at : ℕ) → List ℕ → Type 0
StandsWithSector (Has v) at bytes = HasSector v.disc at bytes
StandsWithSector (MayHave all) at bytes = ⊥

-- The power is on, and the disc has these bytes in the sector.
abbrev pub HasNow : State → (at : ℕ) → List ℕ → Type 0
HasNow (Unopened image) at bytes = ⊥
HasNow (Disc s) at bytes = StandsWithSector s.disc.contents at bytes

-- A write goes through the write cache: with FUA, and where the cache is off or many blocks are covered.
abbrev pub GoesThrough : State → (lba n : ℕ) → (fua : Bool) → Type 0
GoesThrough (Unopened image) lba n fua = ⊥
GoesThrough (Disc s) lba n fua = (fua ≡ true) ⊎ (goes_into_cache s.disc.shown lba n ≡ false)

-- The line was a command that asks for this, and it was answered Good.
pub record WasDone (event : AnsweredStep) (asked : Command) : Type 0 where
  pub cdb : List ℕ
  pub line_is : event.line ≡ lines.Command cdb
  pub asks : decoded cdb event.payload ≡ Ok asked
  pub reply_is : event.reply ≡ replies.Command cdb answers.Good

-- the sector is one of n from this one on
abbrev pub IsAmong : (lba n at : ℕ) → Type 0
IsAmong lba n at = (lba ≤ at) × (at < lba + n)

-- A command does not ask for the sector to be written: it formats nothing, and writes others if any. (A rewriting format
-- counts as a format, since of a disc that is not formatted it is a full one.)
abbrev pub LeavesAsAsked : (at : ℕ) → Command → Type 0
LeavesAsAsked at (commands.Write lba n fua) = (at < lba) ⊎ (lba + n ≤ at)
LeavesAsAsked at (commands.Format kind) = ⊥
LeavesAsAsked at _ = Unit {0}

-- the same of a command block; one that is refused writes nothing
abbrev pub LeavesAsDecoded : (at : ℕ) → Result Command Sense → Type 0
LeavesAsDecoded at (Ok asked) = LeavesAsAsked at asked
LeavesAsDecoded at (Err why) = Unit {0}

-- The same of a line, with its data: it is no press of a lawful geometry, and no command that writes the sector.
abbrev pub LeavesSector : (at : ℕ) → Line → (payload : List ℕ) → Type 0
LeavesSector at (lines.Press zones scale psa) payload = ¬ IsLawful (shape_of zones scale psa)
LeavesSector at (lines.Command cdb) payload = LeavesAsDecoded at (decoded cdb payload)
LeavesSector at _ payload = Unit {0}

-- With a line's answer no power was lost: it was no `power` line, and was not answered that the power was cut.
abbrev pub KeepsPower : Line → Reply → Type 0
KeepsPower lines.Power reply = ⊥
KeepsPower line (replies.Command cdb answers.Cut) = ⊥
KeepsPower line (replies.Event events.Cut) = ⊥
KeepsPower line reply = Unit {0}

-- no power was lost with these lines
abbrev pub KeepPower : List AnsweredStep → Type 0
KeepPower events = All (λ (event : AnsweredStep). KeepsPower event.line event.reply) events

-- none of these lines writes the sector, unless it was only told that it is not done
abbrev pub LeaveSector : (at : ℕ) → List AnsweredStep → Type 0
LeaveSector at events = All (UnlessTold (LeavesSector at)) events

-- A command writes sectors at most: it formats nothing.
abbrev pub WritesAsAsked : Command → Type 0
WritesAsAsked (commands.Format kind) = ⊥
WritesAsAsked _ = Unit {0}

-- the same of a command block; one that is refused writes nothing
abbrev pub WritesAsDecoded : Result Command Sense → Type 0
WritesAsDecoded (Ok asked) = WritesAsAsked asked
WritesAsDecoded (Err why) = Unit {0}

-- The same of a line, with its data: it is no press of a lawful geometry, and formats nothing.
abbrev pub NeitherPressesNorFormats : Line → (payload : List ℕ) → Type 0
NeitherPressesNorFormats (lines.Press zones scale psa) payload = ¬ IsLawful (shape_of zones scale psa)
NeitherPressesNorFormats (lines.Command cdb) payload = WritesAsDecoded (decoded cdb payload)
NeitherPressesNorFormats _ payload = Unit {0}

-- what a sector may fall back to after a command that may have sent other bytes of it
abbrev pub choices_asked : (at : ℕ) → Result Command Sense → (payload : List ℕ) → List (List ℕ) → List (List ℕ)
choices_asked at (Ok (commands.Write lba n fua)) payload choices =
    if is_sector_among lba n at then bytes_of_sector lba payload at ∷ choices else choices
choices_asked at _ payload choices = choices

-- the same of a line, with its data
abbrev pub choices_with : (at : ℕ) → Line → (payload : List ℕ) → List (List ℕ) → List (List ℕ)
choices_with at (lines.Command cdb) payload choices = choices_asked at (decoded cdb payload) payload choices
choices_with at _ payload choices = choices

-- the same of a run, whose newest line comes first: a line that was only told adds nothing
abbrev pub choices_after : (at : ℕ) → List AnsweredStep → List (List ℕ) → List (List ℕ)
choices_after at [] choices = choices
choices_after at (event ∷ events) choices =
    if was_only_told event.reply then choices_after at events choices
    else choices_with at event.line event.payload (choices_after at events choices)

-- With these cells the home of the sector's logical block, by the lists in use, has whole bytes, and these in
-- the sector.
pub record HasInCells (shown : Shown) (cells : List Cell) (at : ℕ) (bytes : List ℕ) : Type 0 where
  pub lists : Lists
  pub in_use : shown.lists ≡ Some lists
  pub held : List ℕ
  pub has : cell_at cells (home_of shown.shape lists (block_with at)) ≡ Good held
  pub bytes_are : bytes_of_sector (16 * block_with at) held at ≡ bytes

-- An image with these bytes has these bytes of the sector in it, by the lists that the drive has in use.
abbrev pub HasInImage : State → (image : List ℕ) → (at : ℕ) → List ℕ → Type 0
HasInImage (Unopened first) image at bytes = ⊥
HasInImage (Disc s) image at bytes =
    HasInCells s.disc.shown.drive (cells_of (total s.disc.shown.drive.shape) image) at bytes

-- With these cells the home of a logical block, by the lists in use, has these bytes.
pub record HasHomeInCells (shown : Shown) (cells : List Cell) (i : ℕ) (bytes : List ℕ) : Type 0 where
  pub lists : Lists
  pub in_use : shown.lists ≡ Some lists
  pub has : cell_at cells (home_of shown.shape lists i) ≡ Good bytes

-- An image with these bytes has these of a logical block in it, in the block's home by the lists that the drive has in use.
abbrev pub HasBlockInImage : State → (image : List ℕ) → (i : ℕ) → List ℕ → Type 0
HasBlockInImage (Unopened first) image i bytes = ⊥
HasBlockInImage (Disc s) image i bytes =
    HasHomeInCells s.disc.shown.drive (cells_of (total s.disc.shown.drive.shape) image) i bytes

-- the block is pending, with these bytes
abbrev pub IsPendingIn : State → (i : ℕ) → List ℕ → Type 0
IsPendingIn (Unopened image) i bytes = ⊥
IsPendingIn (Disc s) i bytes = Contains s.disc.shown.pending (i, bytes)
