-- What the program promises, by its words: the contract of the public call `run`. (This project's own, as all here.)
use Rattle.std.specs.Prelude.{◌≡◌, ℕ, ◌⊎◌, Bool, true, Option, List}
use Rattle.model_geometry.specs.declared.kinds.LayoutKind.{LayoutKind}
use Rattle.ram_outside.specs.Conversation.{AsksOnly}
use Rattle.ram_outside.specs.Past.{Moment}
use Rattle.ram_outside.specs.declared.opener.Access.TheVariants.{ReadWrite}
use Rattle.ram_text.specs.declared.script.Line.{Line}
use Rattle.ram_machine.specs.declared.status.Status.{Status}
use Rattle.ram_machine.specs.declared.status.Status.TheVariants as statuses
use Rattle.ram_script.specs.Asking.{IsAnsweredBy}
use Rattle.ram_script.specs.Around.{Surroundings, IsNotOpened, UntouchedByUsage, TellsText, AsksOnce}
use Rattle.ram_script.specs.Completes.{IsInLanguage, BeginsWithDisc, NoneRose, IsComplete}
use Rattle.ram_script.specs.Endings.{IsUnopened, StandsWith, StatusCounts}
use Rattle.ram_script.specs.Opened.{IsBeginning, EndsAtFailure, aftermath_of}
use Rattle.ram_script.specs.Progress.{Beginning}
use Rattle.ram_script.specs.Promise.{KeepsBytes}
use Rattle.ram_summary.specs.Generating.{BeginsFrom, Generates, AsksUnread}
use Rattle.ram_certificate.specs.Auditing.{Audits, Checks}
use Rattle.ram_client.specs.Serving.{ServesClient}
use Rattle.ram_mirrored.specs.Running.{RunsMirror}
use Rattle.ram_run.specs.declared.help.TheConstants.{HELP, VERSION}
use Rattle.ram_run.specs.Words.{IsServedOf, IsGenerateOf, IsAuditOf, IsCheckOf, IsNbdOf, IsMirrorOf, IsHelp, IsVersion, UsageRule, MemoryRule}

-- By what is known before and after, where the opener tells what is handed back or not, and by the status.
module _ {I : Type 0} (bytes_of : I → Option (List ℕ)) (past_of : I → Option (List Moment)) (knows : Bool) (old new : Surroundings I) (status : Status) where
  -- What is promised of a script that runs over the image of this name, whose discs have a layout of this kind: the opener is asked
  -- for that image, once, to be read and written. Where script, report and image are known, the report is the text of the answers and
  -- the image that of the last state (`run`), or no image was opened; each sector is a register (`promise`); whenever more of the script is
  -- asked for, all answers to the whole lines that came by then are written (`talks`); a script in the language runs to its end over a
  -- disc, where nothing fails (`completes`); and an image that failed has the bytes right after the first of its calls that failed, or none
  -- was opened (`fails`).
  pub record RunsScript (kind : LayoutKind) (name : List ℕ) : Type 0 where
    pub asks : AsksOnce old new ReadWrite name status
    pub run : (first : Beginning) → first.kind ≡ kind → IsBeginning bytes_of first old knows
        → StandsWith first (aftermath_of bytes_of new) old.counts new.counts status ⊎ (IsUnopened status × IsNotOpened old new)
    pub promise : (first : Beginning) → first.kind ≡ kind → IsBeginning bytes_of first old knows
        → KeepsBytes first.script first.report first.image new.written
    pub talks : (first : Beginning) → first.kind ≡ kind → IsBeginning bytes_of first old knows
        → AsksOnly (IsAnsweredBy first) old.asked new.asked
    pub completes : (first : Beginning) → first.kind ≡ kind → IsBeginning bytes_of first old knows
        → IsInLanguage first.script → BeginsWithDisc first → NoneRose old.counts new.counts → IsComplete status
    pub fails : knows ≡ true → status ≡ statuses.ImageFault → EndsAtFailure bytes_of past_of new ⊎ IsNotOpened old new

  -- What is promised of the script that is drawn from this number, over the image of this name. An image that failed ends as above.
  pub record RunsDrawn (name : List ℕ) (seed : ℕ) : Type 0 where
    pub asks : AsksUnread old new ReadWrite name status
    pub generate : (first : Beginning) → BeginsFrom bytes_of seed first old knows → Generates bytes_of seed first old new status
    pub fails : knows ≡ true → status ≡ statuses.ImageFault → EndsAtFailure bytes_of past_of new ⊎ IsNotOpened old new

  -- All promises, by the words of the program.
  pub record Promises (words : List (List ℕ)) : Type 0 where
    pub memory : MemoryRule status
    pub usage : UsageRule words status
    pub untouched : UntouchedByUsage old new status
    pub causes : StatusCounts old.counts new.counts status
    pub help : IsHelp words → TellsText old new HELP.now status
    pub version : IsVersion words → TellsText old new VERSION.now status
    pub script : (kind : LayoutKind) (name : List ℕ) → IsServedOf kind name words → RunsScript kind name
    pub drawn : (name : List ℕ) (seed : ℕ) → IsGenerateOf name seed words → RunsDrawn name seed
    pub audit : (name : List ℕ) → IsAuditOf name words → Audits bytes_of old new knows name status
    pub check : (name : List ℕ) → IsCheckOf name words → Checks bytes_of old new knows name status
    pub client : (name : List ℕ) (faults : List Line) → IsNbdOf name faults words
        → ServesClient bytes_of past_of knows old new status name faults
    pub mirror : (a b : List ℕ) → IsMirrorOf a b words → RunsMirror bytes_of past_of knows old new status a b
