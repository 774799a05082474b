-- How a script that was drawn from a number ends, and what its summary says.
use Rattle.std.specs.Prelude.{◌≡◌, ℕ, ◌+◌, Bool, Option, Some, IfSome, Ok, Err, List, take}
use Rattle.std.specs.Io.KnownBytes.{append_known}
use Rattle.std.proofs.Common.{arith, refl, sym, subst}
use Rattle.model_counts.specs.Counts.{Rose}
use Rattle.ram_report.specs.declared.printing.LastLine.TheVariants as lasts
use Rattle.ram_script.specs.declared.state.Tally.{Tally}
use Rattle.ram_machine.specs.declared.stopped.Stopped.{Stopped}
use Rattle.ram_machine.specs.declared.stopped.Stopped.TheVariants as stopped
use Rattle.ram_machine.specs.declared.status.Status.{Status}
use Rattle.ram_machine.specs.declared.status.Status.TheVariants as statuses
use Rattle.ram_script.specs.Progress.{Beginning, Ending}
use Rattle.ram_script.specs.RunCounts.{StopCounts, counts_of}
use Rattle.ram_script.specs.Around.{Surroundings, WritesText}
use Rattle.ram_summary.specs.Summary.{tally_text}
use Rattle.ram_script.specs.Endings.{status_of}
use Rattle.ram_script.specs.Leaving.{IsAnsweredWhole, LeavesBy}
use Rattle.ram_summary.specs.Generating.{BeginsFrom, StopsWith, EndCount, GeneratedWith}
use Rattle.ram_summary.proofs.Summaries.{tally_is_summary}

-- a count that stands still
never_rose : Rose 0 0 → ⊥
never_rose rose = absurd (omega (arith, rose))

-- source and sink cannot fail, so the image alone can have stopped the lines
pub end_count : (f f' : ℕ) (ending : Ending) → StopCounts (counts_of 0 0 f) (counts_of 0 0 f') ending → EndCount f f' ending
end_count f f' (Ok done) counts = counts.image
end_count f f' (Err stopped.NotInLanguage) counts = counts.image
end_count f f' (Err stopped.LineTooLong) counts = counts.image
end_count f f' (Err stopped.ScriptTooLong) counts = counts.image
end_count f f' (Err stopped.NotADisc) counts = counts.image
end_count f f' (Err stopped.SourceFault) counts = never_rose counts.source
end_count f f' (Err stopped.SinkFault) counts = absurd (omega (arith, counts.sink))
end_count f f' (Err stopped.ImageFault) counts = counts.image

-- the lines did not come to the script's end, and the status tells why
pub stops_with : (first : Beginning) (tally : Tally) (image : Option (List ℕ)) (f f' : ℕ) (why : Stopped) → EndCount f f' (Err why) → LeavesBy first tally image (Err why) → StopsWith first image (status_of (Err why))
stops_with first tally image f f' stopped.NotInLanguage counts e = (lasts.NotInLanguage (tally.lines + 1), tt, e)
stops_with first tally image f f' stopped.LineTooLong counts e = (lasts.LineTooLong (tally.lines + 1), tt, e)
stops_with first tally image f f' stopped.ScriptTooLong counts e = (lasts.ScriptTooLong, tt, e)
stops_with first tally image f f' stopped.NotADisc counts e = (tally.lines + 1, e)
stops_with first tally image f f' stopped.SourceFault counts e = absurd counts
stops_with first tally image f f' stopped.SinkFault counts e = absurd counts
stops_with first tally image f f' stopped.ImageFault counts e = e

-- the whole script was answered, and the summary told
pub summed : (seed : ℕ) (first : Beginning) (tally : Tally) (before after image : Option (List ℕ)) (status : Status) → IsAnsweredWhole first tally image → WritesText before after (tally_text seed tally) status → GeneratedWith seed first before after image status
summed seed first tally before after image statuses.Done whole tells =
    record { far = whole.far; ended = whole.ended; image_is = whole.image_is; written_is = subst (λ (text : List ℕ). after ≡ append_known before text) (tally_is_summary seed first whole.far tally whole.tallied) tells }
summed seed first tally before after image statuses.SinkFault whole tells = (
  tells.0,
  record { far = whole.far; ended = whole.ended; image_is = whole.image_is; written_is = subst (λ (text : List ℕ). after ≡ append_known before (take tells.0 text)) (tally_is_summary seed first whole.far tally whole.tallied) tells.1 },
)
summed seed first tally before after image statuses.NoMemory whole tells = absurd tells
summed seed first tally before after image statuses.Differs whole tells = absurd tells
summed seed first tally before after image statuses.Usage whole tells = absurd tells
summed seed first tally before after image statuses.Script whole tells = absurd tells
summed seed first tally before after image statuses.ImageFault whole tells = absurd tells
summed seed first tally before after image statuses.SourceFault whole tells = absurd tells
summed seed first tally before after image statuses.NotADisc whole tells = absurd tells

-- the summary did not come, and nothing was told
pub not_summed : (seed : ℕ) (first : Beginning) (before image : Option (List ℕ)) (status : Status) → StopsWith first image status → GeneratedWith seed first before before image status
not_summed seed first before image statuses.Done stops = absurd stops
not_summed seed first before image statuses.SinkFault stops = absurd stops
not_summed seed first before image statuses.NoMemory stops = (refl, stops)
not_summed seed first before image statuses.Differs stops = (refl, stops)
not_summed seed first before image statuses.Usage stops = (refl, stops)
not_summed seed first before image statuses.Script stops = (refl, stops)
not_summed seed first before image statuses.ImageFault stops = (refl, stops)
not_summed seed first before image statuses.SourceFault stops = (refl, stops)
not_summed seed first before image statuses.NotADisc stops = (refl, stops)

-- the same where the image was handed back
pub generated_there : (seed : ℕ) (first : Beginning) (before after image image' : Option (List ℕ)) (status : Status) → image' ≡ image → GeneratedWith seed first before after image status → GeneratedWith seed first before after image' status
generated_there seed first before after image image' status same is = subst (λ (o : Option (List ℕ)). GeneratedWith seed first before after o status) (sym same) is

-- what is known, of the image that was opened
pub image_known : {I : Type 0} (bytes_of : I → Option (List ℕ)) (seed : ℕ) (first : Beginning) (before : Surroundings I) (returned_known : Bool) (image : I) → BeginsFrom bytes_of seed first before returned_known
    → IfSome before.opener.next (λ known. image ≡ known) → bytes_of image ≡ Some first.image
image_known {I = I} bytes_of seed first before returned_known image known is =
    subst (λ (i : I). bytes_of i ≡ Some first.image) (sym (subst (λ (o : Option I). IfSome o (λ due. image ≡ due)) known.next_is is)) known.image_is

-- the status of lines that the image stopped
pub image_rose : (f f' : ℕ) (why : Stopped) → status_of (Err why) ≡ statuses.ImageFault → EndCount f f' (Err why) → Rose f f'
image_rose f f' stopped.NotInLanguage is counts = absurd (cc)
image_rose f f' stopped.LineTooLong is counts = absurd (cc)
image_rose f f' stopped.ScriptTooLong is counts = absurd (cc)
image_rose f f' stopped.NotADisc is counts = absurd (cc)
image_rose f f' stopped.SourceFault is counts = absurd counts
image_rose f f' stopped.SinkFault is counts = absurd counts
image_rose f f' stopped.ImageFault is counts = counts
