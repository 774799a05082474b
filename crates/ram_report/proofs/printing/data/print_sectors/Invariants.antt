-- The lines of the sectors so far.
use Rattle.ram_report.specs.Writer.{due, IsPut}
use Rattle.ram_report.specs.ReportLines.{sectors_text}
use Rattle.ram_report.proofs.printing.data.print_sectors.Given as goal

abbrev pub invariant-loop-k : goal.invariant-loop-k
invariant-loop-k g l =
    IsPut (due (g.K.Sink.written l.fn.sink) l.fn.writer.gathered) (due (g.K.Sink.written l.sink) l.writer.gathered) (g.K.Sink.faults l.fn.sink) (g.K.Sink.faults l.sink) (sectors_text l.lba l.sectors l.k)
