-- What a user may rely on of a drive, by what it is asked and answers alone: each sector is a register, whose bytes a read shows, and
-- which has one of a few values after the power was lost. (This project's own, as all here.)
use Rattle.std.specs.Prelude.{◌≡◌, ℕ, ◌+◌, ◌*◌, ◌%◌, ◌<◌, ◌⊎◌, Bool, true, false, ◌&&◌, ◌||◌, not, nat_lt, ◌==◌, if◌then◌else◌, MatchBool, Option, None, Some, Result, Ok, Err, List, [], ◌∷◌, length, take, drop}
use Rattle.std.specs.List.{Contains}
use Rattle.model_sectors.specs.Discs.{zeros}
use Rattle.model_sectors.specs.Requests.{blocks_covered}
use Rattle.model_image.specs.Cells.{data_offset, image_len}
use Rattle.model_modes.specs.ParameterLists.{caches_after}
use Rattle.model_cache.specs.declared.TheConstants.{CACHED_AT_ONCE}
use Rattle.model_drive.specs.declared.Kind.{Kind}
use Rattle.model_drive.specs.declared.Kind.TheVariants as kinds
use Rattle.model_sense.specs.declared.sense.Sense.{Sense}
use Rattle.model_sense.specs.declared.answer.Answer.{Answer}
use Rattle.model_sense.specs.declared.answer.Answer.TheVariants as answers
use Rattle.model_cdb.specs.declared.commands.Command.{Command}
use Rattle.model_cdb.specs.declared.commands.Command.TheVariants as commands
use Rattle.model_cdb.specs.Decoding.{decoded}
use Rattle.ram_report.specs.declared.printing.Event.TheVariants as events
use Rattle.ram_text.specs.declared.script.Line.{Line}
use Rattle.ram_text.specs.declared.script.Line.TheVariants as lines
use Rattle.ram_machine.specs.declared.reply.Reply.{Reply}
use Rattle.ram_machine.specs.declared.reply.Reply.TheVariants as replies
use Rattle.ram_machine.specs.Answered.{AnsweredStep}
use Rattle.ram_machine.specs.SectorBytes.{bytes_of_sector, is_sector_among}

-- What a sector has: bytes; or it is lost, and no read of it is good until it is written.
pub data Value : Type 0 where
  Bytes : List ℕ → Value
  Lost : Value

-- One sector. A read that is good shows the bytes that it has now; where it has none, no read of it is good. If the power is lost it
-- may have each of the others afterwards. And whether the write cache is on.
pub record Register : Type 0 where
  pub now : Option Value
  pub falls : List Value
  pub caches : Bool

-- it has this, and no loss of power changes that
abbrev pub settled : Register → Value → Register
settled r value = record r { now = Some value; falls = value ∷ [] }

-- after a loss of power it may have this too
abbrev pub or_else : Register → Value → Register
or_else r value = record r { falls = value ∷ r.falls }

-- it has nothing now: the power is off, no disc is formatted, or the disc has no such sector
abbrev pub gone : Register → Register
gone r = record r { now = None }

-- what it has now is all that it may have
abbrev pub synchronised : Option Value → Register → Register
synchronised None r = r
synchronised (Some value) r = settled r value

-- the same where the disc is synchronised first
abbrev pub synchronised_if : Bool → Register → Register
synchronised_if first r = if first then synchronised r.now r else r

-- A write goes through the write cache: with FUA, where the cache is off, and where it covers many blocks of 16 sectors.
abbrev pub goes_through : Register → (lba n : ℕ) → (fua : Bool) → Bool
goes_through r lba n fua = fua || not (r.caches && nat_lt (blocks_covered lba n) (CACHED_AT_ONCE + 1))

-- what leaves the sector as it is leaves it so, unless the power was cut meanwhile
abbrev pub left_by : Answer → Register → Register
left_by answers.Cut r = gone r
left_by _ r = r

-- A refusal that may come in the midst of a write: a block could not be read or written.
abbrev pub is_midway : Sense → Bool
is_midway why = why.asc == 0x11 || why.asc == 0x32

-- A write of these bytes. Done, the sector has them; they are settled where the write went through the cache. One through the cache
-- that was refused midway or cut may have written the sector or not. No other writes it.
abbrev pub AfterWrite : Register → (through : Bool) → List ℕ → Answer → Register → Type 0
AfterWrite r true bytes answers.Good after = after ≡ settled r (Bytes bytes)
AfterWrite r true bytes (answers.Check why) after =
    MatchBool (is_midway why) ((after ≡ r) ⊎ (after ≡ settled r (Bytes bytes))) (after ≡ r)
AfterWrite r true bytes answers.Cut after = after ≡ gone (or_else r (Bytes bytes))
AfterWrite r false bytes answers.Good after = after ≡ or_else (record r { now = Some (Bytes bytes) }) (Bytes bytes)
AfterWrite r through bytes answer after = after ≡ left_by answer r

-- A full format. Done, the sector has zeros, or the disc has no such sector; one that was cut may have come so far or not, and one that
-- failed (3/31/01) may leave no disc.
abbrev pub AfterFull : Register → Answer → Register → Type 0
AfterFull r answers.Good after = (after ≡ settled r (Bytes (zeros 2048))) ⊎ (after ≡ gone (settled r (Bytes (zeros 2048))))
AfterFull r (answers.Check why) after = MatchBool (why.asc == 0x31) ((after ≡ r) ⊎ (after ≡ gone r)) (after ≡ r)
AfterFull r answers.Cut after = after ≡ gone (or_else r (Bytes (zeros 2048)))
AfterFull r answer after = after ≡ r

-- A rewriting format leaves a sector that has something as it is. Of a disc that is not formatted it is a full one.
abbrev pub AfterRewrite : Option Value → Register → Answer → Register → Type 0
AfterRewrite (Some value) r answer after = after ≡ left_by answer r
AfterRewrite None r answer after = (after ≡ left_by answer r) ⊎ AfterFull r answer after

abbrev pub AfterFormat : Register → Kind → Answer → Register → Type 0
AfterFormat r (kinds.Full drop_sdl) answer after = AfterFull r answer after
AfterFormat r kinds.Rewrite answer after = AfterRewrite r.now r answer after

-- A read that is good gives as many sectors as it asks for, and of this one, if it is among them, the bytes that it has now.
pub record Shows (at : ℕ) (r : Register) (lba n : ℕ) (data_in : List ℕ) : Type 0 where
  pub whole : length data_in ≡ 2048 * n
  pub shown : is_sector_among lba n at ≡ true → r.now ≡ Some (Bytes (bytes_of_sector lba data_in at))

-- A command that was answered Good, but a write and a format: a read, a synchronisation, an expansion to n sectors, an ejection, and
-- a list of mode pages, which may turn the cache on or off. Before an ejection, and before the cache is turned off, the disc is
-- synchronised.
abbrev pub AfterGood : (at : ℕ) → Register → Command → (payload data_in : List ℕ) → Register → Type 0
AfterGood at r (commands.Read lba n) payload data_in after = Shows at r lba n data_in × (after ≡ r)
AfterGood at r commands.Synchronize payload data_in after = after ≡ synchronised r.now r
AfterGood at r (commands.Expand sectors) payload data_in after = after ≡ (if nat_lt at sectors then r else gone r)
AfterGood at r (commands.StartStop start eject) payload data_in after = after ≡ synchronised_if (eject && not start) r
AfterGood at r commands.ModeSelect payload data_in after =
    after ≡ record (synchronised_if (r.caches && not (caches_after payload r.caches)) r) { caches = caches_after payload r.caches }
AfterGood at r _ payload data_in after = after ≡ r

-- the same, by its answer
abbrev pub AfterOther : (at : ℕ) → Register → Command → (payload data_in : List ℕ) → Answer → Register → Type 0
AfterOther at r asked payload data_in answers.Good after = AfterGood at r asked payload data_in after
AfterOther at r asked payload data_in answer after = after ≡ left_by answer r

-- A command that asks for this, with its data and those that it gave.
abbrev pub AfterCommand : (at : ℕ) → Register → Result Command Sense → (payload data_in : List ℕ) → Answer → Register → Type 0
AfterCommand at r (Err why) payload data_in answer after = (data_in ≡ []) × (after ≡ left_by answer r)
AfterCommand at r (Ok (commands.Write lba n fua)) payload data_in answer after =
    MatchBool (is_sector_among lba n at)
    (AfterWrite r (goes_through r lba n fua) (bytes_of_sector lba payload at) answer after) (after ≡ left_by answer r)
AfterCommand at r (Ok (commands.Format kind)) payload data_in answer after = AfterFormat r kind answer after
AfterCommand at r (Ok asked) payload data_in answer after = AfterOther at r asked payload data_in answer after

-- The power went off, and on again, and the cache is off. Where a disc is ready that has the sector, it has one of those that
-- it might have.
abbrev pub powered : Register → Option Value → List Value → Register
powered r now falls = record { now = now; falls = falls; caches = false }

abbrev pub AfterPower : (at : ℕ) → Register → Reply → Register → Type 0
AfterPower at r (replies.Event (events.Ready capacity)) after = MatchBool (nat_lt at capacity)
    ((value : Value) × Contains r.falls value × (after ≡ powered r (Some value) (value ∷ [])))
    (after ≡ powered r None r.falls)
AfterPower at r _ after = after ≡ powered r None r.falls

-- A press leaves nothing.
abbrev pub AfterPress : Register → Reply → Register → Type 0
AfterPress r (replies.Event events.Pressed) after = after ≡ powered r None []
AfterPress r _ after = after ≡ r

-- A line that is no command, press or power line leaves the sector, unless the power was cut in it. A scrub gives the blocks that it
-- found, and other lines no data.
abbrev pub left_in : Reply → Register → Register
left_in (replies.Event events.Cut) r = gone r
left_in _ r = r

-- One line, with its data, its reply and the data that it gave: from one register to the next.
abbrev pub Turn : (at : ℕ) → Register → Line → (payload : List ℕ) → Reply → (data_in : List ℕ) → Register → Type 0
Turn at r (lines.Command cdb) payload reply data_in after =
    (answer : Answer) × (reply ≡ replies.Command cdb answer) × AfterCommand at r (decoded cdb payload) payload data_in answer after
Turn at r (lines.Press zones scale psa) payload reply data_in after = (data_in ≡ []) × AfterPress r reply after
Turn at r lines.Power payload reply data_in after = (data_in ≡ []) × AfterPower at r reply after
Turn at r (lines.Scrub all) payload reply data_in after = after ≡ left_in reply r
Turn at r line payload reply data_in after = (data_in ≡ []) × (after ≡ left_in reply r)

-- The lines, the newest first, take the first register to the last.
abbrev pub Turns : (at : ℕ) → Register → List AnsweredStep → Register → Type 0
Turns at first [] last = last ≡ first
Turns at first (event ∷ events) last =
    (before : Register) × Turns at first events before × Turn at before event.line event.payload event.reply event.data_in last

-- The sector may have this in an image: it is lost, or has the bytes at its place in some block.
abbrev pub MayHold : List ℕ → (at : ℕ) → Value → Type 0
MayHold image at Lost = Unit {0}
MayHold image at (Bytes bytes) =
    (total : ℕ) × (block : ℕ) × (length image ≡ image_len total) × (block < total)
    × (bytes ≡ take 2048 (drop (data_offset total block + 2048 * (at % 16)) image))

-- What it is when an image of these bytes was opened: the power is off.
pub record IsOpened (image : List ℕ) (at : ℕ) (r : Register) : Type 0 where
  pub off : r.now ≡ None
  pub held : (value : Value) → Contains r.falls value → MayHold image at value
  pub uncached : r.caches ≡ false

-- The sector is a register over these lines, from an image of these bytes on.
pub record IsRegister (image : List ℕ) (events : List AnsweredStep) (at : ℕ) : Type 0 where
  pub first : Register
  pub last : Register
  pub opened : IsOpened image at first
  pub turns : Turns at first events last

-- Whatever comes, but a write of the sector, it has these bytes or nothing. (For laws alone.)
pub record HasSettled (r : Register) (bytes : List ℕ) : Type 0 where
  pub shows : (found : Value) → r.now ≡ Some found → found ≡ Bytes bytes
  pub falls : (found : Value) → Contains r.falls found → found ≡ Bytes bytes

-- the bytes among these values (for laws alone)
abbrev pub bytes_held : List Value → List (List ℕ)
bytes_held [] = []
bytes_held (Bytes bytes ∷ values) = bytes ∷ bytes_held values
bytes_held (Lost ∷ values) = bytes_held values

-- The image was handed back, and opened by another run: what cannot be read of it is lost there.
abbrev pub reopened : Register → Register
reopened r = record { now = None; falls = Lost ∷ r.falls; caches = false }

-- The same over two runs, of which the second goes on with the image that the first left.
pub record IsRegisterAgain (image : List ℕ) (events later : List AnsweredStep) (at : ℕ) : Type 0 where
  pub first : Register
  pub middle : Register
  pub last : Register
  pub opened : IsOpened image at first
  pub turns : Turns at first events middle
  pub then_turns : Turns at (reopened middle) later last
