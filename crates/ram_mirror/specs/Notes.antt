-- What a run knows of who leads, as its value; and what the writing of a record makes of what a side stands for. (This project's own.)
use Rattle.model_sectors.specs.Discs.{Standing}
use Rattle.model_drive.specs.declared.RecordOut.{RecordOut}
use Rattle.model_drive.specs.declared.RecordOut.TheVariants as records
use Rattle.model_mirror.specs.Leading as values
use Rattle.model_mirror.specs.Powers.{once_off}
use Rattle.ram_record.specs.Record.{record_of}
use Rattle.ram_mirror.specs.declared.noted.Noted.{Noted}
use Rattle.ram_mirror.specs.declared.noted.Leading.{Leading}

-- the record of one side
abbrev pub noted_of : Noted → values.Noted
noted_of noted = record { seen = noted.seen; most = noted.most; held = record_of noted.held }

-- who leads
abbrev pub leading_of : Leading → values.Leading
leading_of who = record { known = who.known; by_hand = who.by_hand; lead = noted_of who.lead; other = noted_of who.other }

-- Nothing new, but that the power may be off.
abbrev pub RaiseStep : (after : Standing → Type 0) → Standing → RecordOut → Type 0
RaiseStep after s records.Good = after s
RaiseStep after s records.Lost = after s
RaiseStep after s records.Cut = once_off after s
RaiseStep after s records.Off = after s
RaiseStep after s records.Fault = once_off after s
