-- What printing does to a report: for the writer of reports, and for the calls that print a line.
use Rattle.std.specs.Prelude.{ℕ, Option, List, Result}
use Rattle.ram_outside.specs.declared.sink.Sink.{Ghosts as Sinks}
use Rattle.ram_report.specs.Writer.{PrintRule, TextRule, FlushRule, due}
use Rattle.ram_report.specs.declared.gathered.SinkFailed.{SinkFailed}
use Rattle.ram_report.specs.declared.gathered.Print.{Print}
use Rattle.ram_report.specs.declared.report.ReportWriter.{ReportWriter}

-- the text that a writer has gathered and not handed over (this project's own, as all here)
abbrev pub gathered_in : ReportWriter → List ℕ
gathered_in writer = writer.gathered

module _ {K : Type 0} (sinks : Sinks K) where
  -- What is due of a report: what its sink has written, and what is gathered for it.
  abbrev pub due_of : ReportWriter → K → Option (List ℕ)
  due_of w s = due (sinks.written s) (gathered_in w)

  -- The text is printed, or cut off by a failure of the sink: the writer and the sink, before and after.
  abbrev pub Prints : ReportWriter → K → ReportWriter → K → List ℕ → Print → Type 0
  Prints w s w' s' text answer =
      PrintRule (sinks.refused s') (due_of w s) (due_of w' s') (sinks.faults s) (sinks.faults s') text answer

  -- the same of a call inside, by how it went
  abbrev pub PutsText : ReportWriter → K → ReportWriter → K → List ℕ → Result (Unit {0}) SinkFailed → Type 0
  PutsText w s w' s' text outcome =
      TextRule (sinks.refused s') (due_of w s) (due_of w' s') (sinks.faults s) (sinks.faults s') text outcome

  -- What is gathered is handed over, or a prefix of it and the sink failed: the writer and the sink, before and after.
  abbrev pub HandsOver : ReportWriter → K → ReportWriter → K → Print → Type 0
  HandsOver w s w' s' answer =
      FlushRule (sinks.refused s') (due_of w s) (due_of w' s') (gathered_in w') (sinks.faults s) (sinks.faults s') answer
