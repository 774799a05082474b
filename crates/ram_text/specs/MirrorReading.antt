-- How the words of a line of a script for a mirror are read, one after another. (This project's own, as all here.)
use Rattle.std.specs.Prelude.{ℕ, ◌*◌, ◌==◌, ◌&&◌, nat_lt, nat_le, if◌then◌else◌, Bool, true, false, Option, Some, None, option_map, List, [], ◌∷◌, length, codes}
use Rattle.std.specs.Str.{bytes_eq}
use Rattle.ram_text.specs.ScriptReading.{◌>>=◌, only_word, first_number, only_number, press_of, payload_of, alone, reading_by}
use Rattle.ram_text.specs.Faults.{fault_of}
use Rattle.ram_text.specs.declared.script.Line.{Line as OfOneDisc}
use Rattle.ram_text.specs.declared.script.Line.TheVariants as lines
use Rattle.ram_text.specs.declared.mirror.MirrorLine.{MirrorLine}
use Rattle.ram_text.specs.declared.mirror.MirrorLine.TheVariants.{Empty, Press, Power, Format, Read, Write, Resync, Lead, GiveLead, Fail, Wear, Cut}
use Rattle.ram_text.specs.declared.mirror.MirrorForm.{MirrorForm}
use Rattle.ram_text.specs.declared.mirror.MirrorForm.TheVariants as forms

-- whether the word for the first image's side, or the one for the second's
abbrev pub side_of : List ℕ → Option Bool
side_of word =
    if bytes_eq word (codes "a") then Some true
    else if bytes_eq word (codes "b") then Some false
    else None

-- the form of a line whose first word is this one
abbrev pub mirror_form_of : List ℕ → Option MirrorForm
mirror_form_of word =
    if bytes_eq word (codes "press") then Some forms.Press
    else if bytes_eq word (codes "power") then Some forms.Power
    else if bytes_eq word (codes "format") then Some forms.Format
    else if bytes_eq word (codes "read") then Some forms.Read
    else if bytes_eq word (codes "write") then Some forms.Write
    else if bytes_eq word (codes "resync") then Some forms.Resync
    else if bytes_eq word (codes "lead") then Some forms.Lead
    else option_map forms.Side (side_of word)

-- a line `press` for one disc as the one for both sides
abbrev pub for_both : OfOneDisc → Option MirrorLine
for_both (lines.Press zones scale psa) = Some (Press zones scale psa)
for_both line = None

-- a line that makes one disc fail as the line that does so to this side
abbrev pub on_side : (on_a : Bool) → OfOneDisc → Option MirrorLine
on_side on_a (lines.Fail block) = Some (Fail on_a block)
on_side on_a (lines.Wear block n) = Some (Wear on_a block n)
on_side on_a (lines.Cut n fate) = Some (Cut on_a n fate)
on_side on_a line = None

-- the line, where no word is behind its own
abbrev pub single : MirrorLine → (words : List (List ℕ)) → Option MirrorLine
single line [] = Some line
single line (word ∷ words) = None

-- whether a read or a write may have so many sectors
abbrev pub is_count : ℕ → Bool
is_count n = nat_lt 0 n && nat_le n 1024

-- the line that the words behind `read` make
unfoldable pub read_of : List (List ℕ) → Option MirrorLine
read_of words = do
  lba ← first_number words
  n ← only_number lba.1
  if is_count n then Some (Read lba.0 n) else None

-- the line of a write of n sectors, with the data that these words name
unfoldable pub written_of : (lba n : ℕ) → List (List ℕ) → Option (MirrorLine × List ℕ)
written_of lba n words = do
  payload ← payload_of (2048 * n) words
  if length payload == 2048 * n then Some (Write lba n, payload) else None

-- the line that the words behind `write` make, with its data
unfoldable pub write_of : List (List ℕ) → Option (MirrorLine × List ℕ)
write_of words = do
  lba ← first_number words
  n ← first_number lba.1
  if is_count n.0 then written_of lba.0 n.0 n.1 else None

-- the line that the words behind `lead` make
unfoldable pub lead_of : List (List ℕ) → Option MirrorLine
lead_of [] = Some Lead
lead_of (word ∷ words) = do
  side ← only_word (word ∷ words)
  on_a ← side_of side
  Some (GiveLead on_a)

-- the line of each form, by the words behind its first
abbrev pub mirror_line_by : List (List ℕ) → MirrorForm → Option (MirrorLine × List ℕ)
mirror_line_by words forms.Press = alone (press_of words >>= for_both)
mirror_line_by words forms.Power = alone (single Power words)
mirror_line_by words forms.Format = alone (single Format words)
mirror_line_by words forms.Read = alone (read_of words)
mirror_line_by words forms.Write = write_of words
mirror_line_by words forms.Resync = alone (single Resync words)
mirror_line_by words forms.Lead = alone (lead_of words)
mirror_line_by words (forms.Side on_a) = alone (fault_of words >>= on_side on_a)

-- the line of these words, with its data
unfoldable pub mirror_line_of : List (List ℕ) → Option (MirrorLine × List ℕ)
mirror_line_of [] = Some (Empty, [])
mirror_line_of (word ∷ words) = mirror_form_of word >>= mirror_line_by words

-- the line, with its data
abbrev pub mirror_reading_of : List ℕ → Option (MirrorLine × List ℕ)
mirror_reading_of line = reading_by Empty mirror_line_of line
