-- What one command does on a drive without a write cache: the calls of the disc itself, each by its cause and its step in
-- `model_drive`. For the law of runs in which the cache stays off. (This project's own; the answers are those of `model_target`.)
use Rattle.std.specs.Prelude.{◌≡◌, ℕ, ◌==◌, ◌⊎◌, false, is_some, Result, Ok, Err, List, [], take}
use Rattle.std.specs.Bool.{MatchBool}
use Rattle.model_commands.specs.Commands.{operation_of}
use Rattle.model_modes.specs.Pages.{mode_data}
use Rattle.model_sectors.specs.Discs.{Standing}
use Rattle.model_sectors.specs.declared.ReadOut.{ReadOut}
use Rattle.model_drive.specs.declared.WriteOut.{WriteOut}
use Rattle.model_drive.specs.declared.FormatOut.{FormatOut}
use Rattle.model_drive.specs.declared.ExpandOut.{ExpandOut}
use Rattle.model_drive.specs.declared.Kind.{Kind}
use Rattle.model_drive.specs.Shown.{Shown, IsOn, capacity}
use Rattle.model_drive.specs.Reads.{ReadCause, ReadStep, ReadIsQuiet, VerifyCause, VerifyStep}
use Rattle.model_drive.specs.Writes.{WriteCause, WriteStep}
use Rattle.model_drive.specs.Formats.{FormatCause, FormatStep}
use Rattle.model_drive.specs.Expands.{ExpandCause, ExpandStep}
use Rattle.model_drive.specs.Tells.{GivesDds}
use Rattle.model_sense.specs.declared.sense.Sense.{Sense}
use Rattle.model_sense.specs.declared.answer.Answer.{Answer}
use Rattle.model_sense.specs.declared.answer.Answer.TheVariants as answers
use Rattle.model_cdb.specs.declared.commands.Command.{Command}
use Rattle.model_cdb.specs.declared.commands.Command.TheVariants as commands
use Rattle.model_target.specs.declared.host.Host.{Host}
use Rattle.model_target.specs.Judging.{IsJudged}
use Rattle.model_target.specs.Replies.{sense_reply, inquiry_by, capacity_reply, events_reply, structure_reply}
use Rattle.model_target.specs.Steps.{read_answer, write_answer, format_answer, expand_answer, data_read, configuration_told, disc_told, capacities_told, spares_told, host_after}

module _ (old new : Shown) (s t : Standing) where
  -- Nothing was done on the disc, and this is the answer, with this reply. (What the drive shows and stands for is as before.)
  pub record PlainAnswer (answer due : Answer) (data_in reply : List ℕ) : Type 0 where
    pub answer_is : answer ≡ due
    pub data_is : data_in ≡ reply
    pub same : new ≡ old
    pub stands : t ≡ s

  -- a read of n sectors was answered so, with these data
  pub record PlainRead (lba n : ℕ) (answer : Answer) (data_in : List ℕ) : Type 0 where
    pub out : ReadOut
    pub bytes : List ℕ
    pub cause : ReadCause old new lba n out
    pub quiet : ReadIsQuiet old new lba n out
    pub step : ReadStep (λ u. u ≡ t) s lba n bytes out
    pub answer_is : answer ≡ read_answer out
    pub data_is : data_in ≡ data_read out bytes

  -- a write of these bytes was answered so
  pub record PlainWrite (lba n : ℕ) (payload : List ℕ) (answer : Answer) (data_in : List ℕ) : Type 0 where
    pub out : WriteOut
    pub cause : WriteCause old new lba n out
    pub step : WriteStep new (λ u. u ≡ t) s lba n payload out
    pub answer_is : answer ≡ write_answer out
    pub no_data : data_in ≡ []

  -- a verification of n sectors was answered so
  pub record PlainVerification (lba n : ℕ) (answer : Answer) (data_in : List ℕ) : Type 0 where
    pub out : ReadOut
    pub cause : VerifyCause old new lba n out
    pub step : VerifyStep (λ u. u ≡ t) s out
    pub answer_is : answer ≡ read_answer out
    pub no_data : data_in ≡ []

  -- a format was answered so
  pub record PlainFormat (kind : Kind) (answer : Answer) (data_in : List ℕ) : Type 0 where
    pub out : FormatOut
    pub cause : FormatCause old new kind out
    pub step : FormatStep old new (λ u. u ≡ t) s kind out
    pub answer_is : answer ≡ format_answer out
    pub no_data : data_in ≡ []

  -- an expansion that leaves n sectors was answered so
  pub record PlainExpansion (sectors : ℕ) (answer : Answer) (data_in : List ℕ) : Type 0 where
    pub out : ExpandOut
    pub cause : ExpandCause old new sectors out
    pub step : ExpandStep (λ u. u ≡ t) s sectors out
    pub answer_is : answer ≡ expand_answer out
    pub no_data : data_in ≡ []

  -- the structure in use is told
  pub record PlainStructure (alloc : ℕ) (answer : Answer) (data_in : List ℕ) : Type 0 where
    pub text : List ℕ
    pub is_text : GivesDds old.lists text
    pub is_answered : PlainAnswer answer answers.Good data_in (take alloc (structure_reply text))

  -- the spares are told
  abbrev pub PlainSpares : (alloc : ℕ) → Answer → List ℕ → Type 0
  PlainSpares alloc answer data_in = PlainAnswer answer answers.Good data_in (take alloc (spares_told old))

  -- What a command does that is to be done, and what it replies. There is nothing to synchronise, and no mode is kept.
  abbrev pub PlainDone : Host → (payload : List ℕ) → Command → Answer → List ℕ → Type 0
  PlainDone host payload commands.TestUnitReady answer data_in = PlainAnswer answer answers.Good data_in []
  PlainDone host payload (commands.RequestSense alloc) answer data_in =
      PlainAnswer answer answers.Good data_in (take alloc (sense_reply host))
  PlainDone host payload (commands.Format kind) answer data_in = PlainFormat kind answer data_in
  PlainDone host payload (commands.Expand sectors) answer data_in = PlainExpansion sectors answer data_in
  PlainDone host payload (commands.Inquiry vital alloc) answer data_in =
      PlainAnswer answer answers.Good data_in (take alloc (inquiry_by vital))
  PlainDone host payload (commands.StartStop start eject) answer data_in = PlainAnswer answer answers.Good data_in []
  PlainDone host payload (commands.Prevent on) answer data_in = PlainAnswer answer answers.Good data_in []
  PlainDone host payload (commands.FormatCapacities alloc) answer data_in =
      PlainAnswer answer answers.Good data_in (take alloc (capacities_told host.out old))
  PlainDone host payload commands.ReadCapacity answer data_in =
      PlainAnswer answer answers.Good data_in (capacity_reply (capacity old))
  PlainDone host payload (commands.Read lba n) answer data_in = PlainRead lba n answer data_in
  PlainDone host payload (commands.Write lba n fua) answer data_in = PlainWrite lba n payload answer data_in
  PlainDone host payload (commands.Verify lba n) answer data_in = PlainVerification lba n answer data_in
  PlainDone host payload commands.Synchronize answer data_in = PlainAnswer answer answers.Good data_in []
  PlainDone host payload (commands.Configuration rt start alloc) answer data_in =
      PlainAnswer answer answers.Good data_in (take alloc (configuration_told rt start host.out old))
  PlainDone host payload (commands.Events media alloc) answer data_in =
      PlainAnswer answer answers.Good data_in (take alloc (events_reply media host.out))
  PlainDone host payload (commands.DiscInformation alloc) answer data_in =
      PlainAnswer answer answers.Good data_in (take alloc (disc_told old))
  PlainDone host payload commands.ModeSelect answer data_in = PlainAnswer answer answers.Good data_in []
  PlainDone host payload (commands.ModeSense short control page alloc) answer data_in =
      PlainAnswer answer answers.Good data_in (take alloc (mode_data short control false host.prevented page))
  PlainDone host payload (commands.Structure format alloc) answer data_in =
      MatchBool (format == 0x08) (PlainStructure alloc answer data_in) (PlainSpares alloc answer data_in)
  PlainDone host payload commands.Streaming answer data_in = PlainAnswer answer answers.Good data_in []

  -- how a command is answered that was judged so
  abbrev pub PlainlyAnswered : Host → (payload : List ℕ) → Result Command Sense → Answer → List ℕ → Type 0
  PlainlyAnswered host payload (Err why) answer data_in = PlainAnswer answer (answers.Check why) data_in []
  PlainlyAnswered host payload (Ok asked) answer data_in = PlainDone host payload asked answer data_in

  -- a command with the power on
  pub record PlainExecution (host later : Host) (cdb payload : List ℕ) (answer : Answer) (data_in : List ℕ) : Type 0 where
    pub judged : Result Command Sense
    pub is_judged : IsJudged host (is_some old.lists) cdb payload judged
    pub is_answered : PlainlyAnswered host payload judged answer data_in
    pub later_is : later ≡ host_after host (operation_of cdb) judged answer

  -- a command with the power off: nothing is done
  pub record PlainlyOff (host later : Host) (answer : Answer) (data_in : List ℕ) : Type 0 where
    pub is_answered : PlainAnswer answer answers.Off data_in []
    pub later_is : later ≡ host

  -- One command: what the drive shows and stands for, what is remembered for its host, the answer and the data.
  abbrev pub PlainCommand : (host later : Host) (cdb payload : List ℕ) → Answer → List ℕ → Type 0
  PlainCommand host later cdb payload answer data_in =
      (¬ IsOn old × PlainlyOff host later answer data_in)
      ⊎ (IsOn old × PlainExecution host later cdb payload answer data_in)
