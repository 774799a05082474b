-- The lines of the blocks so far.
use Rattle.ram_report.specs.Writer.{due, IsPut}
use Rattle.ram_report.specs.ReportLines.{lost_text}
use Rattle.ram_report.proofs.printing.events.print_lost.Given as goal

abbrev pub invariant-loop-block : goal.invariant-loop-block
invariant-loop-block g l =
    IsPut (due (g.K.Sink.written l.fn.sink) l.fn.writer.gathered) (due (g.K.Sink.written l.sink) l.writer.gathered) (g.K.Sink.faults l.fn.sink) (g.K.Sink.faults l.sink) (lost_text l.found l.block-index)
