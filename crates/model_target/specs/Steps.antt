-- What one command does on a drive with a write cache, and how it is answered: the first reason against it, else its reply. (After INCITS MMC and SPC; the causes are this project's own.)
use Rattle.std.specs.Prelude.{◌≡◌, ℕ, ◌==◌, ◌⊎◌, if◌then◌else◌, Bool, false, ◌&&◌, not, is_some, Option, Result, Ok, Err, List, [], take}
use Rattle.std.specs.Bool.{MatchBool}
use Rattle.std.specs.Option.{option_map_or}
use Rattle.model_geometry.specs.Geometry.{formattable}
use Rattle.model_places.specs.Places.{Lists, free_primary_count, free_supplementary_count}
use Rattle.model_commands.specs.declared.Operation.{Operation}
use Rattle.model_commands.specs.Commands.{operation_of}
use Rattle.model_counts.specs.Counts.{Rose}
use Rattle.model_modes.specs.Pages.{mode_data}
use Rattle.model_modes.specs.ParameterLists.{caches_after}
use Rattle.model_sectors.specs.declared.ReadOut.{ReadOut}
use Rattle.model_sectors.specs.declared.ReadOut.TheVariants as reads
use Rattle.model_sectors.specs.declared.PowerOut.{PowerOut}
use Rattle.model_drive.specs.declared.WriteOut.{WriteOut}
use Rattle.model_drive.specs.declared.WriteOut.TheVariants as writes
use Rattle.model_drive.specs.declared.FormatOut.{FormatOut}
use Rattle.model_drive.specs.declared.FormatOut.TheVariants as formats
use Rattle.model_drive.specs.declared.Kind.{Kind}
use Rattle.model_drive.specs.declared.ExpandOut.{ExpandOut}
use Rattle.model_drive.specs.declared.ExpandOut.TheVariants as expands
use Rattle.model_drive.specs.Shown.{Shown, IsOn, capacity}
use Rattle.model_drive.specs.Tells.{GivesDds}
use Rattle.model_drive.specs.Faults.{faults}
use Rattle.model_cache.specs.declared.SyncOut.{SyncOut}
use Rattle.model_cache.specs.declared.SyncOut.TheVariants as syncs
use Rattle.model_cache.specs.Values.{Contents}
use Rattle.model_cache.specs.Shown.{CacheShown}
use Rattle.model_cache.specs.Causes.{CacheReadCause, CacheVerifyCause, CacheWriteCause, ThroughCause, CacheFormatCause, CacheExpandCause, CachePowerCause, SyncCause}
use Rattle.model_cache.specs.Steps.{ReadContents, VerifyContents, WriteContents, ThroughContents, FormatContents, ExpandContents, PowerContents, SyncContents}
use Rattle.model_sense.specs.Sense.{sense, sense_at}
use Rattle.model_sense.specs.declared.sense.Sense.{Sense}
use Rattle.model_sense.specs.declared.answer.Answer.{Answer}
use Rattle.model_sense.specs.declared.answer.Answer.TheVariants as answers
use Rattle.model_cdb.specs.declared.commands.Command.{Command}
use Rattle.model_cdb.specs.declared.commands.Command.TheVariants as commands
use Rattle.model_target.specs.declared.host.Host.{Host}
use Rattle.model_target.specs.Host.{powered_on, is_good, done_by, with_kept_sense, attention_after}
use Rattle.model_target.specs.Judging.{IsJudged}
use Rattle.model_target.specs.Replies.{sense_reply, inquiry_by, capacity_reply, configuration_reply, events_reply, disc_reply, format_capacities_reply, structure_reply, spares_reply}

-- how each end of a read is answered (after INCITS MMC)
abbrev pub read_answer : ReadOut → Answer
read_answer reads.Good = answers.Good
read_answer reads.NotFormatted = answers.Check (sense 0x3 0x31 0x00)
read_answer (reads.Range known) = answers.Check (sense 0x5 0x21 0x00)
read_answer (reads.Unread lba block) = answers.Check (sense_at 0x3 0x11 0x00 lba)
read_answer reads.Cut = answers.Cut
read_answer reads.Off = answers.Off
read_answer reads.Fault = answers.Fault

-- how each end of a write is answered (after INCITS MMC)
abbrev pub write_answer : WriteOut → Answer
write_answer writes.Good = answers.Good
write_answer writes.NotFormatted = answers.Check (sense 0x3 0x31 0x00)
write_answer (writes.Range known) = answers.Check (sense 0x5 0x21 0x00)
write_answer (writes.Unread lba block) = answers.Check (sense_at 0x3 0x11 0x00 lba)
write_answer (writes.NoSpare lba) = answers.Check (sense_at 0x3 0x32 0x00 lba)
write_answer (writes.NoUpdate counter) = answers.Check (sense 0x3 0x32 0x01)
write_answer writes.Cut = answers.Cut
write_answer writes.Off = answers.Off
write_answer writes.Fault = answers.Fault

-- how each end of a format is answered (after INCITS MMC)
abbrev pub format_answer : FormatOut → Answer
format_answer formats.Good = answers.Good
format_answer (formats.TooMany found) = answers.Check (sense 0x3 0x31 0x01)
format_answer (formats.NoUpdate counter) = answers.Check (sense 0x3 0x31 0x01)
format_answer formats.Cut = answers.Cut
format_answer formats.Off = answers.Off
format_answer formats.Fault = answers.Fault

-- how each end of an expansion is answered (after INCITS MMC)
abbrev pub expand_answer : ExpandOut → Answer
expand_answer expands.Good = answers.Good
expand_answer expands.NotFormatted = answers.Check (sense 0x3 0x31 0x00)
expand_answer (expands.Refused known) = answers.Check (sense 0x5 0x26 0x00)
expand_answer (expands.NoUpdate counter) = answers.Check (sense 0x3 0x32 0x01)
expand_answer expands.Cut = answers.Cut
expand_answer expands.Off = answers.Off
expand_answer expands.Fault = answers.Fault

-- how each end of a synchronisation is answered: as that of a write (after INCITS MMC)
abbrev pub sync_answer : SyncOut → Answer
sync_answer syncs.Good = answers.Good
sync_answer syncs.NotFormatted = answers.Check (sense 0x3 0x31 0x00)
sync_answer (syncs.NoSpare lba) = answers.Check (sense_at 0x3 0x32 0x00 lba)
sync_answer (syncs.NoUpdate counter) = answers.Check (sense 0x3 0x32 0x01)
sync_answer syncs.Cut = answers.Cut
sync_answer syncs.Off = answers.Off
sync_answer syncs.Fault = answers.Fault

-- The same where the disc is synchronised before it is taken out, or before the cache is turned off: of one that is not formatted there
-- is nothing to write. (This project's own.)
abbrev pub settle_answer : SyncOut → Answer
settle_answer syncs.NotFormatted = answers.Good
settle_answer out = sync_answer out

-- the data of a read: the sectors, where all were read
abbrev pub data_read : ReadOut → List ℕ → List ℕ
data_read reads.Good bytes = bytes
data_read _ bytes = []

-- the capacity that a disc has, or that a format would give it
abbrev pub capacities_told : (out : Bool) → Shown → List ℕ
capacities_told out shown =
    format_capacities_reply out (is_some shown.lists) (capacity shown) (formattable shown.shape)

-- the features that are asked for, by what the drive shows
abbrev pub configuration_told : (kind first : ℕ) (out : Bool) → Shown → List ℕ
configuration_told kind first out shown = configuration_reply kind first out (is_some shown.lists) (capacity shown)

-- what kind of disc it is
abbrev pub disc_told : Shown → List ℕ
disc_told shown = disc_reply (is_some shown.lists)

-- the spares of the lists in use: how many primary ones are free, how many supplementary ones, and how many of these there are
abbrev pub spares_told : Shown → List ℕ
spares_told shown = spares_reply (option_map_or (free_primary_count shown.shape) shown.lists 0)
    (option_map_or (free_supplementary_count shown.shape) shown.lists 0)
    (option_map_or (λ (lists : Lists). lists.sdl.ssa) shown.lists 0)

-- What stands in the four things after a command, by how it was judged and answered. One that was to be done, and was not, changes none
-- but the sense that is kept.
abbrev pub host_after : Host → Option Operation → Result Command Sense → Answer → Host
host_after host operation (Err why) answer =
    with_kept_sense (record host { attention = attention_after host operation }) answer
host_after host operation (Ok asked) answer =
    with_kept_sense (if is_good answer then done_by asked host else host) answer

module _ (old new : CacheShown) (lba n : ℕ) (bytes : List ℕ) where
  -- Why a write is answered so: with FUA it goes through the cache, and else into it where that is on and few blocks are covered.
  abbrev pub WrittenCause : (fua : Bool) → WriteOut → Type 0
  WrittenCause fua out = MatchBool fua (ThroughCause old new lba n out) (CacheWriteCause old new lba n bytes out)

  -- the same of what it makes of what the drive stands for
  abbrev pub WrittenContents : (Contents → Type 0) → Contents → (fua : Bool) → WriteOut → Type 0
  WrittenContents after s fua out = MatchBool fua
      (ThroughContents old new after s lba n bytes out) (WriteContents old new after s lba n bytes out)

module _ (old new : CacheShown) (before after : Contents → Type 0) where
  -- nothing was done on the disc
  pub record Untouched : Type 0 where
    pub same : new ≡ old
    pub stands : (s : Contents) → before s → after s

  -- a read of n sectors was answered so, with these data
  pub record IsRead (lba n : ℕ) (answer : Answer) (data_in : List ℕ) : Type 0 where
    pub out : ReadOut
    pub bytes : List ℕ
    pub cause : CacheReadCause old new lba n out
    pub step : (s : Contents) → before s → ReadContents after s lba n bytes out
    pub answer_is : answer ≡ read_answer out
    pub data_is : data_in ≡ data_read out bytes

  -- One call of the disc ended in some way, for this cause; that makes this of what the drive stands for, and is answered so, with no data.
  pub record Does (Out : Type 0) (because : Out → Type 0) (makes : Contents → Out → Type 0) (answered : Out → Answer)
      (answer : Answer) (data_in : List ℕ) : Type 0 where
    pub out : Out
    pub cause : because out
    pub step : (s : Contents) → before s → makes s out
    pub answer_is : answer ≡ answered out
    pub no_data : data_in ≡ []

  -- a write of these bytes, with or without FUA, was answered so
  abbrev pub IsWritten : (lba n : ℕ) → (fua : Bool) → (payload : List ℕ) → Answer → (data_in : List ℕ) → Type 0
  IsWritten lba n fua payload = Does WriteOut (WrittenCause old new lba n payload fua)
      (λ s out. WrittenContents old new lba n payload after s fua out) write_answer

  -- a format was answered so
  abbrev pub IsFormatted : Kind → Answer → (data_in : List ℕ) → Type 0
  IsFormatted kind = Does FormatOut (CacheFormatCause old new kind)
      (λ s out. FormatContents old.drive new.drive after s kind out) format_answer

  -- an expansion that leaves n sectors was answered so
  abbrev pub IsExpanded : (sectors : ℕ) → Answer → (data_in : List ℕ) → Type 0
  IsExpanded sectors =
      Does ExpandOut (CacheExpandCause old new sectors) (λ s out. ExpandContents after s sectors out) expand_answer

  -- a verification of n sectors was answered so
  abbrev pub IsVerified : (lba n : ℕ) → Answer → (data_in : List ℕ) → Type 0
  IsVerified lba n = Does ReadOut (CacheVerifyCause old new lba n) (λ s out. VerifyContents after s out) read_answer

  -- a synchronisation was answered so
  abbrev pub IsSynchronised : Answer → (data_in : List ℕ) → Type 0
  IsSynchronised = Does SyncOut (SyncCause old new) (λ s out. SyncContents new after s out) sync_answer

  -- the same before an ejection
  abbrev pub IsSettled : Answer → (data_in : List ℕ) → Type 0
  IsSettled = Does SyncOut (SyncCause old new) (λ s out. SyncContents new after s out) settle_answer

  -- The disc was synchronised, and where that is good the cache is turned off.
  pub record TurnsOff (answer : Answer) (data_in : List ℕ) : Type 0 where
    pub mid : CacheShown
    pub out : SyncOut
    pub cause : SyncCause old mid out
    pub step : (s : Contents) → before s → SyncContents mid after s out
    pub new_is : new ≡ (if is_good answer then record mid { caches = false } else mid)
    pub answer_is : answer ≡ settle_answer out
    pub no_data : data_in ≡ []

  -- A list of mode pages that is taken turns the cache on or off, as its last caching page says, or leaves it so.
  pub record SetsCache (payload : List ℕ) (answer : Answer) (data_in : List ℕ) : Type 0 where
    pub mode : new ≡ record old { caches = caches_after payload old.caches }
    pub stands : (s : Contents) → before s → after s
    pub answer_is : answer ≡ answers.Good
    pub no_data : data_in ≡ []

  -- Before the list turns the cache off the disc is synchronised.
  abbrev pub IsSelected : (payload : List ℕ) → Answer → (data_in : List ℕ) → Type 0
  IsSelected payload answer data_in =
      MatchBool (old.caches && not (caches_after payload old.caches)) (TurnsOff answer data_in) (SetsCache payload answer data_in)

  -- nothing was done on the disc, and this is the answer, with this reply
  pub record IsAnswered (answer due : Answer) (data_in reply : List ℕ) : Type 0 where
    pub answer_is : answer ≡ due
    pub data_is : data_in ≡ reply
    pub untouched : Untouched

  -- the structure in use is told
  pub record TellsStructure (alloc : ℕ) (answer : Answer) (data_in : List ℕ) : Type 0 where
    pub text : List ℕ
    pub is_text : GivesDds old.drive.lists text
    pub is_answered : IsAnswered answer answers.Good data_in (take alloc (structure_reply text))

  -- the spares are told
  abbrev pub TellsSpares : (alloc : ℕ) → Answer → List ℕ → Type 0
  TellsSpares alloc answer data_in = IsAnswered answer answers.Good data_in (take alloc (spares_told old.drive))

  -- What a command does that is to be done, and what it replies, cut to the allocation length.
  abbrev pub IsDone : Host → (payload : List ℕ) → Command → Answer → List ℕ → Type 0
  IsDone host payload commands.TestUnitReady answer data_in = IsAnswered answer answers.Good data_in []
  IsDone host payload (commands.RequestSense alloc) answer data_in =
      IsAnswered answer answers.Good data_in (take alloc (sense_reply host))
  IsDone host payload (commands.Format kind) answer data_in = IsFormatted kind answer data_in
  IsDone host payload (commands.Expand sectors) answer data_in = IsExpanded sectors answer data_in
  IsDone host payload (commands.Inquiry vital alloc) answer data_in =
      IsAnswered answer answers.Good data_in (take alloc (inquiry_by vital))
  IsDone host payload (commands.StartStop start eject) answer data_in =
      MatchBool (eject && not start) (IsSettled answer data_in) (IsAnswered answer answers.Good data_in [])
  IsDone host payload (commands.Prevent on) answer data_in = IsAnswered answer answers.Good data_in []
  IsDone host payload (commands.FormatCapacities alloc) answer data_in =
      IsAnswered answer answers.Good data_in (take alloc (capacities_told host.out old.drive))
  IsDone host payload commands.ReadCapacity answer data_in =
      IsAnswered answer answers.Good data_in (capacity_reply (capacity old.drive))
  IsDone host payload (commands.Read lba n) answer data_in = IsRead lba n answer data_in
  IsDone host payload (commands.Write lba n fua) answer data_in = IsWritten lba n fua payload answer data_in
  IsDone host payload (commands.Verify lba n) answer data_in = IsVerified lba n answer data_in
  IsDone host payload commands.Synchronize answer data_in = IsSynchronised answer data_in
  IsDone host payload (commands.Configuration rt start alloc) answer data_in =
      IsAnswered answer answers.Good data_in (take alloc (configuration_told rt start host.out old.drive))
  IsDone host payload (commands.Events media alloc) answer data_in =
      IsAnswered answer answers.Good data_in (take alloc (events_reply media host.out))
  IsDone host payload (commands.DiscInformation alloc) answer data_in =
      IsAnswered answer answers.Good data_in (take alloc (disc_told old.drive))
  IsDone host payload commands.ModeSelect answer data_in = IsSelected payload answer data_in
  IsDone host payload (commands.ModeSense short control page alloc) answer data_in =
      IsAnswered answer answers.Good data_in (take alloc (mode_data short control old.caches host.prevented page))
  IsDone host payload (commands.Structure format alloc) answer data_in =
      MatchBool (format == 0x08) (TellsStructure alloc answer data_in) (TellsSpares alloc answer data_in)
  IsDone host payload commands.Streaming answer data_in = IsAnswered answer answers.Good data_in []

  -- how a command is answered that was judged so
  abbrev pub IsAnsweredBy : Host → (payload : List ℕ) → Result Command Sense → Answer → List ℕ → Type 0
  IsAnsweredBy host payload (Err why) answer data_in = IsAnswered answer (answers.Check why) data_in []
  IsAnsweredBy host payload (Ok asked) answer data_in = IsDone host payload asked answer data_in

  -- a command with the power on
  pub record IsExecuted (host later : Host) (cdb payload : List ℕ) (answer : Answer) (data_in : List ℕ) : Type 0 where
    pub judged : Result Command Sense
    pub is_judged : IsJudged host (is_some old.drive.lists) cdb payload judged
    pub is_answered : IsAnsweredBy host payload judged answer data_in
    pub later_is : later ≡ host_after host (operation_of cdb) judged answer

  -- The power was turned off and on again, and the cache was turned off first. Then the host's four things are those of a
  -- target that was just turned on.
  pub record IsPoweredAgain (later : Host) (out : PowerOut) : Type 0 where
    pub cause : CachePowerCause (record old { caches = false }) new out
    pub step : (s : Contents) → before s → PowerContents new.drive after s out
    pub later_is : later ≡ powered_on

  -- a command with the power off: nothing is done
  pub record IsOffFor (host later : Host) (answer : Answer) (data_in : List ℕ) : Type 0 where
    pub is_answered : IsAnswered answer answers.Off data_in []
    pub later_is : later ≡ host

  -- One command: what the drive shows and stands for, the four things, the answer and the data.
  abbrev pub IsStep : (host later : Host) (cdb payload : List ℕ) → Answer → List ℕ → Type 0
  IsStep host later cdb payload answer data_in =
      (¬ IsOn old.drive × IsOffFor host later answer data_in)
      ⊎ (IsOn old.drive × IsExecuted host later cdb payload answer data_in)

-- What a command leaves of the count of faults of what the medium lies on: one more where it answers Fault, and the same
-- with any other answer.
abbrev pub AnswerFaults : Shown → Shown → Answer → Type 0
AnswerFaults old new answers.Fault = Rose (faults old) (faults new)
AnswerFaults old new _ = faults new ≡ faults old
