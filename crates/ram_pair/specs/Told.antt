-- How each answer of a call of a mirror is told. A failure ends the run, by the count of the image that failed; so how it would be told
-- does not matter, and it is told as a cut, which leaves the power off too. (This project's own, as all here.)
use Rattle.std.specs.Prelude.{ℕ, Bool, true, false, Result, Ok, Err}
use Rattle.model_sectors.specs.declared.ReadOut.{ReadOut}
use Rattle.model_sectors.specs.declared.ReadOut.TheVariants as reads
use Rattle.model_drive.specs.declared.WriteOut.{WriteOut}
use Rattle.model_drive.specs.declared.WriteOut.TheVariants as writes
use Rattle.model_drive.specs.declared.FormatOut.{FormatOut}
use Rattle.model_drive.specs.declared.FormatOut.TheVariants as formats
use Rattle.model_mirror.specs.declared.MirrorPowerOut.{MirrorPowerOut}
use Rattle.model_mirror.specs.declared.MirrorPowerOut.TheVariants as powers
use Rattle.model_mirror.specs.declared.Resync.{Resync}
use Rattle.model_mirror.specs.declared.Resync.TheVariants as resyncs
use Rattle.model_mirror.specs.declared.GiveOut.{GiveOut}
use Rattle.model_mirror.specs.declared.GiveOut.TheVariants as gives
use Rattle.model_mirror.specs.declared.Leader.{Leader}
use Rattle.model_mirror.specs.declared.Leader.TheVariants as leaders
use Rattle.ram_medium.specs.declared.control.FailEnd.{FailEnd}
use Rattle.ram_medium.specs.declared.control.FailEnd.TheVariants as fails
use Rattle.ram_medium.specs.declared.control.Arm.{Arm}
use Rattle.ram_medium.specs.declared.control.Arm.TheVariants as arming
use Rattle.ram_report.specs.declared.printing.Event.TheVariants as events
use Rattle.ram_report.specs.declared.printing.MirrorEvent.{MirrorEvent}
use Rattle.ram_report.specs.declared.printing.MirrorEvent.TheVariants as mirrors
use Rattle.ram_machine.specs.declared.stopped.Stopped.{Stopped}
use Rattle.ram_machine.specs.declared.stopped.Stopped.TheVariants as stopped
use Rattle.ram_pair.specs.declared.told.Told.{Told}
use Rattle.ram_pair.specs.declared.told.Told.TheVariants as told

-- what became of a line: what it is answered, or why the run ends at it
abbrev pub PairOutcome : Type 0
PairOutcome = Result Told Stopped

-- it is answered so
abbrev pub answered : MirrorEvent → PairOutcome
answered event = Ok (told.Event event)

-- an image failed, and the run ends
abbrev pub image_failed : PairOutcome
image_failed = Err stopped.ImageFault

-- the power was cut
abbrev pub one_cut : MirrorEvent
one_cut = mirrors.OfDisc events.Cut

-- how a read from this sector on is told
abbrev pub read_told : (lba : ℕ) → ReadOut → MirrorEvent
read_told lba reads.Good = mirrors.Shows lba
read_told lba reads.NotFormatted = mirrors.OfDisc events.NotFormatted
read_told lba (reads.Range capacity) = mirrors.Range capacity
read_told lba (reads.Unread named block) = mirrors.Unread named
read_told lba reads.Cut = one_cut
read_told lba reads.Off = mirrors.OfDisc events.Off
read_told lba reads.Fault = one_cut

-- how a write is
abbrev pub write_told : WriteOut → MirrorEvent
write_told writes.Good = mirrors.Good
write_told writes.NotFormatted = mirrors.OfDisc events.NotFormatted
write_told (writes.Range capacity) = mirrors.Range capacity
write_told (writes.Unread named block) = mirrors.Unread named
write_told (writes.NoSpare named) = mirrors.NoSpare named
write_told (writes.NoUpdate counter) = mirrors.NoUpdate counter
write_told writes.Cut = one_cut
write_told writes.Off = mirrors.OfDisc events.Off
write_told writes.Fault = one_cut

-- how the turning on of the power is
abbrev pub power_told : MirrorPowerOut → MirrorEvent
power_told (powers.Ready capacity) = mirrors.OfDisc (events.Ready capacity)
power_told powers.NotFormatted = mirrors.OfDisc events.NotFormatted
power_told powers.Unknown = mirrors.Unknown
power_told powers.Cut = one_cut
power_told powers.Fault = one_cut

-- how a format is
abbrev pub format_told : FormatOut → MirrorEvent
format_told formats.Good = mirrors.Good
format_told (formats.TooMany found) = mirrors.TooMany found
format_told (formats.NoUpdate counter) = mirrors.NoUpdate counter
format_told formats.Cut = one_cut
format_told formats.Off = mirrors.OfDisc events.Off
format_told formats.Fault = one_cut

-- how a resynchronisation is
abbrev pub resync_told : Resync → MirrorEvent
resync_told (resyncs.Done left) = mirrors.Left left
resync_told resyncs.NotFormatted = mirrors.OfDisc events.NotFormatted
resync_told resyncs.Cut = one_cut
resync_told resyncs.Off = mirrors.OfDisc events.Off
resync_told resyncs.Fault = one_cut

-- how it is told who leads
abbrev pub lead_told : Leader → MirrorEvent
lead_told leaders.A = mirrors.Leads true
lead_told leaders.B = mirrors.Leads false
lead_told leaders.Unknown = mirrors.Unknown

-- how it is told that the lead was given to this side by hand
abbrev pub give_told : (to_a : Bool) → GiveOut → MirrorEvent
give_told to_a gives.Given = mirrors.Leads to_a
give_told to_a (gives.NoUpdate counter) = mirrors.NoUpdate counter
give_told to_a gives.Cut = one_cut
give_told to_a gives.Off = mirrors.OfDisc events.Off
give_told to_a gives.Fault = one_cut

-- how the failure of a block is
abbrev pub fail_told : FailEnd → MirrorEvent
fail_told fails.Done = mirrors.OfDisc events.Failed
fail_told (fails.NoBlock blocks) = mirrors.OfDisc events.NoSuchBlock
fail_told fails.Failed = one_cut

-- how the arming of a block is
abbrev pub wear_told : Arm → MirrorEvent
wear_told arming.Set = mirrors.OfDisc events.Armed
wear_told (arming.NoBlock blocks) = mirrors.OfDisc events.NoSuchBlock
wear_told arming.Full = mirrors.OfDisc events.Full
