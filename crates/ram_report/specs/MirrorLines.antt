-- The text of each answer to a line for a mirror: for the function that prints it, and for the run that says what is due.
-- (This project's own, as all here.)
use Rattle.std.specs.Prelude.{ℕ, ◌/◌, Bool, true, false, List, [], ◌++◌, length, codes, decimal}
use Rattle.ram_report.specs.ReportLines.{numbered, event_words, sectors_text}
use Rattle.ram_report.specs.declared.printing.MirrorEvent.{MirrorEvent}
use Rattle.ram_report.specs.declared.printing.MirrorEvent.TheVariants as events

-- the word for a side
abbrev pub side_word : (on_a : Bool) → List ℕ
side_word true = codes "a"
side_word false = codes "b"

-- the words of an answer
abbrev pub mirror_words : MirrorEvent → List ℕ
mirror_words (events.OfDisc event) = event_words event
mirror_words events.Good = codes "good"
mirror_words (events.Shows lba) = codes "good"
mirror_words (events.Unread lba) = codes "unread " ++ decimal lba
mirror_words (events.NoSpare lba) = codes "no spare " ++ decimal lba
mirror_words (events.NoUpdate counter) = codes "no update " ++ decimal counter
mirror_words (events.Range capacity) = codes "range " ++ decimal capacity
mirror_words (events.TooMany count) = codes "too many " ++ decimal count
mirror_words (events.Left count) = codes "left " ++ decimal count
mirror_words (events.Leads on_a) = side_word on_a
mirror_words events.Unknown = codes "unknown"

-- the lines behind an answer: the sectors that were read
abbrev pub shown_text : MirrorEvent → (shown : List ℕ) → List ℕ
shown_text (events.Shows lba) shown = sectors_text lba shown (length shown / 2048)
shown_text event shown = []

-- the lines of an answer
abbrev pub mirror_text : ℕ → MirrorEvent → (shown : List ℕ) → List ℕ
mirror_text number event shown = numbered number (mirror_words event) ++ shown_text event shown
