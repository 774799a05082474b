-- How a call answers that was stopped, by the cause. (This project's own.)
use Rattle.model_stops.specs.declared.Stop.{Stop}
use Rattle.model_stops.specs.declared.Stop.TheVariants as stops
use Rattle.model_sectors.specs.declared.ReadOut.{ReadOut}
use Rattle.model_sectors.specs.declared.ReadOut.TheVariants as reads
use Rattle.model_drive.specs.declared.WriteOut.{WriteOut}
use Rattle.model_drive.specs.declared.WriteOut.TheVariants as writes
use Rattle.model_drive.specs.declared.FormatOut.{FormatOut}
use Rattle.model_drive.specs.declared.FormatOut.TheVariants as formats
use Rattle.model_drive.specs.declared.ExpandOut.{ExpandOut}
use Rattle.model_drive.specs.declared.ExpandOut.TheVariants as expands
use Rattle.model_drive.specs.declared.RecordOut.{RecordOut}
use Rattle.model_drive.specs.declared.RecordOut.TheVariants as records

abbrev pub read_stopped_by : Stop → ReadOut
read_stopped_by stops.Cut = reads.Cut
read_stopped_by stops.Off = reads.Off
read_stopped_by stops.Fault = reads.Fault

abbrev pub write_stopped_by : Stop → WriteOut
write_stopped_by stops.Cut = writes.Cut
write_stopped_by stops.Off = writes.Off
write_stopped_by stops.Fault = writes.Fault

abbrev pub format_stopped_by : Stop → FormatOut
format_stopped_by stops.Cut = formats.Cut
format_stopped_by stops.Off = formats.Off
format_stopped_by stops.Fault = formats.Fault

abbrev pub expand_stopped_by : Stop → ExpandOut
expand_stopped_by stops.Cut = expands.Cut
expand_stopped_by stops.Off = expands.Off
expand_stopped_by stops.Fault = expands.Fault

abbrev pub record_stopped_by : Stop → RecordOut
record_stopped_by stops.Cut = records.Cut
record_stopped_by stops.Off = records.Off
record_stopped_by stops.Fault = records.Fault
