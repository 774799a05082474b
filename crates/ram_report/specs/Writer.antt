-- What printing, gathering and handing over a text may do: for the writer of reports, and for the run that answers lines.
use Rattle.std.specs.Prelude.{◌≡◌, ℕ, ◌<◌, ◌≤◌, Option, List, [], length, take, Result, Ok, Err}
use Rattle.std.specs.Io.KnownBytes.{append_known}
use Rattle.ram_outside.specs.Sink.{FailsOnce, length_with}
use Rattle.ram_report.specs.declared.gathered.SinkFailed.{SinkFailed}
use Rattle.ram_report.specs.declared.gathered.Print.{Print}
use Rattle.ram_report.specs.declared.gathered.Print.TheVariants.{Done, Failed}

-- What is due is what the sink has written, and then what is gathered for it. (This project's own.)
abbrev pub due : Option (List ℕ) → List ℕ → Option (List ℕ)
due written gathered = append_known written gathered

-- the text went to the end of what is due, and the sink counted nothing (this project's own)
pub record IsPut (before after : Option (List ℕ)) (faults faults' : ℕ) (text : List ℕ) : Type 0 where
  pub grew : after ≡ append_known before text
  pub count : faults' ≡ faults

-- A prefix of the text went to the end of what is due, and the sink failed and counted it. What it refused, with what was written, is what
-- was due before and some first bytes of the text, one at least. (This project's own.)
pub record IsCutShort (refused : Option ℕ) (before after : Option (List ℕ)) (faults faults' : ℕ) (text : List ℕ) : Type 0 where
  pub n : ℕ
  pub grew : after ≡ append_known before (take n text)
  pub offered : ℕ
  pub some : 0 < offered
  pub within : offered ≤ length text
  pub refused_is : refused ≡ length_with before offered
  pub count : FailsOnce faults faults'

-- What a call that prints a text may do, by its answer: what the sink refused last, what is due before and after, and the
-- sink's counts before and after. (This project's own.)
abbrev pub PrintRule : Option ℕ → Option (List ℕ) → Option (List ℕ) → ℕ → ℕ → List ℕ → Print → Type 0
PrintRule refused before after faults faults' text Done = IsPut before after faults faults' text
PrintRule refused before after faults faults' text Failed = IsCutShort refused before after faults faults' text

-- What a call inside that prints a text may do, by how it went, as `PrintRule` has it. (This project's own.)
abbrev pub TextRule : Option ℕ → Option (List ℕ) → Option (List ℕ) → ℕ → ℕ → List ℕ → Result (Unit {0}) SinkFailed → Type 0
TextRule refused before after faults faults' text (Ok done) = IsPut before after faults faults' text
TextRule refused before after faults faults' text (Err failed) = IsCutShort refused before after faults faults' text

-- What filling the room with the beginning of a text and handing it over may do: n bytes of the text went, and nothing is gathered any
-- more; or the text was cut short. (This project's own.)
abbrev pub FillRule : Option ℕ → Option (List ℕ) → Option (List ℕ) → ℕ → ℕ → List ℕ → List ℕ → Result ℕ SinkFailed → Type 0
FillRule refused before after faults faults' gathered text (Ok n) =
    (n ≤ length text) × (gathered ≡ []) × IsPut before after faults faults' (take n text)
FillRule refused before after faults faults' gathered text (Err failed) = IsCutShort refused before after faults faults' text

-- What handing over what is gathered may do, by its answer: what is due stays as it was; where it is done nothing is
-- gathered any more, and else the sink failed and counted it, and refused the end of what is due. (This project's own.)
abbrev pub FlushRule : Option ℕ → Option (List ℕ) → Option (List ℕ) → List ℕ → ℕ → ℕ → Print → Type 0
FlushRule refused before after gathered faults faults' Done = (after ≡ before) × (gathered ≡ []) × (faults' ≡ faults)
FlushRule refused before after gathered faults faults' Failed =
    (after ≡ before) × (refused ≡ length_with before 0) × FailsOnce faults faults'

-- What handing over a text at once may do: all of it is written; or a prefix of n bytes, and the sink failed and refused the rest.
-- (This project's own.)
abbrev pub HandOverRule : Option ℕ → Option (List ℕ) → Option (List ℕ) → ℕ → ℕ → List ℕ → Result (Unit {0}) ℕ → Type 0
HandOverRule refused written written' faults faults' text (Ok done) =
    (written' ≡ append_known written text) × (faults' ≡ faults)
HandOverRule refused written written' faults faults' text (Err n) =
    (n < length text) × (written' ≡ append_known written (take n text))
    × (refused ≡ length_with written (length text)) × FailsOnce faults faults'
