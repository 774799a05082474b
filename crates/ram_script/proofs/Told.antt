-- The text of an answer that is no command's, by the data that the line gave.
use Rattle.std.specs.Prelude.{◌≡◌, ℕ, Ok, List}
use Rattle.std.proofs.Common.{refl}
use Rattle.ram_report.specs.ReportLines.{event_text}
use Rattle.ram_report.specs.declared.printing.Event.{Event}
use Rattle.ram_report.specs.declared.printing.Event.TheVariants.{Pressed, NotPressed, Ready, NotFormatted, Cut, Failed, NoSuchBlock, Armed, Full, Idle, Written, NoSpare, NoUpdate, Off, Readable, Unreadable, Found}
use Rattle.ram_machine.specs.declared.reply.Reply.TheVariants as replies
use Rattle.ram_machine.specs.Replies.{data_told}

pub event_told : (number : ℕ) (event : Event) (bytes found : List ℕ) → event_text number event found ≡ event_text number event (data_told (Ok (replies.Event event)) bytes found)
event_told number Pressed bytes found = refl
event_told number NotPressed bytes found = refl
event_told number (Ready capacity) bytes found = refl
event_told number NotFormatted bytes found = refl
event_told number Cut bytes found = refl
event_told number Failed bytes found = refl
event_told number NoSuchBlock bytes found = refl
event_told number Armed bytes found = refl
event_told number Full bytes found = refl
event_told number Idle bytes found = refl
event_told number (Written lba) bytes found = refl
event_told number (NoSpare lba) bytes found = refl
event_told number NoUpdate bytes found = refl
event_told number Off bytes found = refl
event_told number (Readable lba) bytes found = refl
event_told number (Unreadable lba) bytes found = refl
event_told number (Found count) bytes found = refl
