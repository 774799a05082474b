-- The digits of the bytes so far.
use Rattle.std.proofs.Common.{◌*◌, length, take, min}
use Rattle.hex.specs.Hex.{encode_lower}
use Rattle.ram_report.specs.Writer.{due, IsPut}
use Rattle.ram_report.proofs.printing.data.print_digits.Given as goal

abbrev pub invariant-loop-k : goal.invariant-loop-k
invariant-loop-k g l =
    IsPut (due (g.K.Sink.written l.fn.sink) l.fn.writer.gathered) (due (g.K.Sink.written l.sink) l.writer.gathered) (g.K.Sink.faults l.fn.sink) (g.K.Sink.faults l.sink) (encode_lower (take (min (length l.bytes) (2048 * l.k)) l.bytes))
