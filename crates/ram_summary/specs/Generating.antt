-- What stands with each status where a script was drawn from a number. For the program's form that runs such a script.
use Rattle.std.specs.Prelude.{◌≡◌, ℕ, ◌⊎◌, Bool, true, Option, Some, Ok, Err, List, [], take}
use Rattle.std.specs.Io.KnownBytes.{append_known}
use Rattle.model_counts.specs.Counts.{Rose}
use Rattle.model_geometry.specs.declared.kinds.LayoutKind.TheVariants.{OneGroup}
use Rattle.ram_generate.specs.Script.{script_from}
use Rattle.ram_outside.specs.Conversation.{Asked}
use Rattle.ram_outside.specs.Seen.{seen_opener}
use Rattle.ram_outside.specs.declared.opener.Access.{Access}
use Rattle.ram_outside.specs.declared.opener.Opener.{Ghosts as Openers}
use Rattle.ram_outside.specs.declared.sink.Sink.{Ghosts as Sinks}
use Rattle.ram_report.specs.declared.printing.LastLine.{LastLine}
use Rattle.ram_report.specs.declared.printing.LastLine.TheVariants as lasts
use Rattle.ram_machine.specs.declared.status.Status.{Status}
use Rattle.ram_machine.specs.declared.status.Status.TheVariants as statuses
use Rattle.ram_machine.specs.declared.stopped.Stopped.TheVariants as stopped
use Rattle.ram_machine.specs.Inserted.{LeavesImage}
use Rattle.ram_script.specs.RunCounts.{counts_of}
use Rattle.ram_script.specs.Progress.{Beginning, SoFar, Ending}
use Rattle.ram_script.specs.Endings.{IsOfScript, IsUnopened}
use Rattle.ram_script.specs.Leaving.{IsLeftBetween, IsLeftBy}
use Rattle.ram_script.specs.Opened.{bytes_returned}
use Rattle.ram_summary.specs.Summary.{summary_text}
use Rattle.ram_script.specs.Around.{Surroundings, IsNotOpened, AsksOnce}

-- What a run of the script of this number begins with: one group of spares, no report, and the image that is opened next. The
-- opener tells what is handed back. (This project's own, as all here.)
pub record BeginsFrom {I : Type 0} (bytes_of : I → Option (List ℕ)) (seed : ℕ) (first : Beginning) (before : Surroundings I)
    (returned_known : Bool) : Type 0 where
  pub kind_is : first.kind ≡ OneGroup
  pub script_is : first.script ≡ script_from seed
  pub report_is : first.report ≡ []
  pub image : I
  pub next_is : before.opener.next ≡ Some image
  pub image_is : bytes_of image ≡ Some first.image
  pub returned_known_is : returned_known ≡ true

-- Where the summary does not come: what the image is like, by the status.
abbrev pub StopsWith : Beginning → Option (List ℕ) → Status → Type 0
StopsWith first image statuses.Script = (last : LastLine) × IsOfScript last × IsLeftBetween first image (Some last)
StopsWith first image statuses.NotADisc = (line : ℕ) × IsLeftBetween first image (Some (lasts.NotADisc line))
StopsWith first image statuses.ImageFault = IsLeftBy first image (Err stopped.ImageFault)
StopsWith first image _ = ⊥

-- the image's count by how the lines ended, where neither source nor sink can fail: it rose exactly where the image stopped them
abbrev pub EndCount : ℕ → ℕ → Ending → Type 0
EndCount faults faults' (Err stopped.ImageFault) = Rose faults faults'
EndCount faults faults' (Err stopped.SinkFault) = ⊥
EndCount faults faults' (Err stopped.SourceFault) = ⊥
EndCount faults faults' _ = faults' ≡ faults

-- The whole script was answered, and the image is as it leaves it; this beginning of the summary, or all of it, was written.
pub record IsSummed (seed : ℕ) (first : Beginning) (before after image : Option (List ℕ))
    (part : List ℕ → List ℕ) : Type 0 where
  pub far : SoFar first
  pub ended : far.rest ≡ []
  pub image_is : LeavesImage far.now image
  pub written_is : after ≡ append_known before (part (summary_text seed far.events))

-- What stands with each status: what was written before and after, and what the image is like. Nothing is written where the
-- summary does not come.
abbrev pub GeneratedWith : (seed : ℕ) → Beginning → (before after image : Option (List ℕ)) → Status → Type 0
GeneratedWith seed first before after image statuses.Done = IsSummed seed first before after image (λ text. text)
GeneratedWith seed first before after image statuses.SinkFault =
    (n : ℕ) × IsSummed seed first before after image (take n)
GeneratedWith seed first before after image status = (after ≡ before) × StopsWith first image status

-- The same, by what is known before and after; or no image was opened.
abbrev pub Generates : {I : Type 0} (bytes_of : I → Option (List ℕ)) (seed : ℕ) → Beginning
    → (old new : Surroundings I) → Status → Type 0
Generates bytes_of seed first old new status =
    GeneratedWith seed first old.written new.written (bytes_returned bytes_of new.opener.returned) status
    ⊎ (IsUnopened status × IsNotOpened old new)

-- the opener was asked for this name, once, for this; nothing was asked of the program's script
pub record AsksUnread {I : Type 0} (old new : Surroundings I) (access : Access) (name : List ℕ) (status : Status) : Type 0 where
  pub asks : AsksOnce old new access name status
  pub left : new.left ≡ old.left
  pub asked : new.asked ≡ old.asked
  pub count : new.counts.source ≡ old.counts.source

-- What is known of what comes, for a call that asks for nothing: what is left, when more was asked for, and how often it failed.
pub record Heard : Type 0 where
  pub left : Option (List ℕ)
  pub asked : Option (List Asked)
  pub faults : ℕ

module _ {K O I : Type 0} (heard : Heard) (sinks : Sinks K) (openers : Openers O I) where
  -- the surroundings of sink and opener, beside what comes
  abbrev pub beside : K → O → Surroundings I
  beside report opener = record {
    left = heard.left;
    written = sinks.written report;
    refused = sinks.refused report;
    asked = heard.asked;
    opener = seen_opener openers opener;
    counts = counts_of heard.faults (sinks.faults report) (openers.faults opener);
  }
