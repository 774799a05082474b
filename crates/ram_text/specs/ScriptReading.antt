-- How the words of a line are read, one after another: each reading gives what it found and the words after it.
use Rattle.std.specs.Prelude.{◌≡◌, ℕ, ◌==◌, ◌&&◌, nat_lt, nat_le, if◌then◌else◌, true, false, Option, Some, None, option_map, option_and_then, List, [], ◌∷◌, length, slice_index, codes}
use Rattle.std.specs.List.{list_all}
use Rattle.std.specs.Result.{result_ok}
use Rattle.std.specs.Char.{is_ascii_digit}
use Rattle.std.specs.Str.{bytes_eq}
use Rattle.hex.specs.Hex.{decode_of}
use Rattle.model_commands.specs.Commands.{out_length_of}
use Rattle.model_medium.specs.declared.Fate.{Fate}
use Rattle.model_medium.specs.declared.Fate.TheVariants.{Old, New, Torn}
use Rattle.ram_text.specs.ScriptWords.{words_of, number_sign, decimal_value}
use Rattle.ram_text.specs.Script.{filled, counted_up}
use Rattle.ram_text.specs.declared.script.Line.{Line}
use Rattle.ram_text.specs.declared.script.Line.TheVariants.{Empty, Press, Power, Fail, Wear, Cut, Tick, Scrub, Command}
use Rattle.ram_text.specs.declared.script.Form.{Form}
use Rattle.ram_text.specs.declared.script.Form.TheVariants as forms
use Rattle.ram_text.specs.declared.payload.Kind.{Kind}
use Rattle.ram_text.specs.declared.payload.Kind.TheVariants as kinds

infixl 10 ◌>>=◌
-- what comes after, where the first gave something (this project's own)
abbrev pub ◌>>=◌ : {A B : Type 0} → Option A → (A → Option B) → Option B
o >>= f = option_and_then f o

-- the number that a word spells (this project's own)
unfoldable pub number_of : List ℕ → Option ℕ
number_of word =
    if nat_lt 0 (length word) && nat_le (length word) 10 && list_all is_ascii_digit word
    && nat_le (decimal_value word) 4294967295
    then Some (decimal_value word) else None

-- the bytes that a word spells (this project's own)
unfoldable pub hex_of : List ℕ → Option (List ℕ)
hex_of word = result_ok (decode_of word)

-- the only word (this project's own)
abbrev pub only_word : List (List ℕ) → Option (List ℕ)
only_word [] = None
only_word (word ∷ []) = Some word
only_word (word ∷ next ∷ words) = None

-- the number of the first word, and the words after it (this project's own)
abbrev pub first_number : List (List ℕ) → Option (ℕ × List (List ℕ))
first_number [] = None
first_number (word ∷ words) = option_map (λ number. (number, words)) (number_of word)

-- the number of the only word (this project's own)
abbrev pub only_number : List (List ℕ) → Option ℕ
only_number words = only_word words >>= number_of

-- the only byte (this project's own)
abbrev pub one_byte : List ℕ → Option ℕ
one_byte [] = None
one_byte (byte ∷ []) = Some byte
one_byte (byte ∷ next ∷ bytes) = None

-- the byte that a word of two hexadecimal digits spells (this project's own)
unfoldable pub hex_byte_of : List ℕ → Option ℕ
hex_byte_of word = hex_of word >>= one_byte

-- the command block that a word spells (this project's own)
unfoldable pub command_block_of : List ℕ → Option (List ℕ)
command_block_of word = hex_of word >>= λ cdb. if nat_lt 0 (length cdb) && nat_le (length cdb) 16 then Some cdb else None

-- the fate that a word names (this project's own)
abbrev pub fate_of : List ℕ → Option Fate
fate_of word =
    if bytes_eq word (codes "old") then Some Old
    else if bytes_eq word (codes "new") then Some New
    else if bytes_eq word (codes "torn") then Some Torn
    else None

-- the kind of data that a word names (this project's own)
abbrev pub payload_kind : List ℕ → Option Kind
payload_kind word =
    if bytes_eq word (codes "fill") then Some kinds.Fill
    else if bytes_eq word (codes "count") then Some kinds.Count
    else if bytes_eq word (codes "hex") then Some kinds.Hex
    else None

-- the form of a line whose first word is this one (this project's own)
abbrev pub form_of : List ℕ → Option Form
form_of word =
    if bytes_eq word (codes "press") then Some forms.Press
    else if bytes_eq word (codes "power") then Some forms.Power
    else if bytes_eq word (codes "fail") then Some forms.Fail
    else if bytes_eq word (codes "wear") then Some forms.Wear
    else if bytes_eq word (codes "cut") then Some forms.Cut
    else if bytes_eq word (codes "tick") then Some forms.Tick
    else if bytes_eq word (codes "scrub") then Some forms.Scrub
    else if bytes_eq word (codes "cdb") then Some forms.Command
    else None

-- the line that the words behind `press` make (this project's own)
unfoldable pub press_of : List (List ℕ) → Option Line
press_of words = do
  zones ← first_number words
  scale ← first_number zones.1
  psa ← only_number scale.1
  Some (Press zones.0 scale.0 psa)

-- the line that the words behind `power` make (this project's own)
unfoldable pub power_of : List (List ℕ) → Option Line
power_of [] = Some Power
power_of (word ∷ words) = None

-- the line that the words behind `fail` make (this project's own)
unfoldable pub fail_of : List (List ℕ) → Option Line
fail_of words = do
  block ← only_number words
  Some (Fail block)

-- the line that the words behind `wear` make (this project's own)
unfoldable pub wear_of : List (List ℕ) → Option Line
wear_of words = do
  block ← first_number words
  n ← only_number block.1
  if nat_lt 0 n then Some (Wear block.0 n) else None

-- the line that the words behind `cut` make (this project's own)
unfoldable pub cut_of : List (List ℕ) → Option Line
cut_of words = do
  n ← first_number words
  word ← only_word n.1
  fate ← fate_of word
  if nat_lt 0 n.0 then Some (Cut n.0 fate) else None

-- the line that the words behind `tick` make (this project's own)
unfoldable pub tick_of : List (List ℕ) → Option Line
tick_of [] = Some Tick
tick_of (word ∷ words) = None

-- the line that the words behind `scrub` make (this project's own)
unfoldable pub scrub_of : List (List ℕ) → Option Line
scrub_of [] = Some (Scrub false)
scrub_of (word ∷ []) = if bytes_eq word (codes "all") then Some (Scrub true) else None
scrub_of (word ∷ next ∷ words) = None

-- the data of each kind, where so many bytes are due (this project's own)
abbrev pub payload_by : ℕ → List ℕ → Kind → Option (List ℕ)
payload_by due digits kinds.Fill = hex_byte_of digits >>= λ byte. Some (filled byte due)
payload_by due digits kinds.Count = hex_byte_of digits >>= λ byte. Some (counted_up byte due)
payload_by due digits kinds.Hex = hex_of digits

-- the data that words name, where so many bytes are due: none, or of one kind (this project's own)
unfoldable pub payload_of : ℕ → List (List ℕ) → Option (List ℕ)
payload_of due [] = Some []
payload_of due (word ∷ words) = do
  digits ← only_word words
  kind ← payload_kind word
  payload_by due digits kind

-- the line that the words behind `cdb` make, with its data (this project's own)
unfoldable pub command_of : List (List ℕ) → Option (Line × List ℕ)
command_of [] = None
command_of (word ∷ words) = do
  cdb ← command_block_of word
  payload ← payload_of (out_length_of cdb) words
  Some (Command cdb, payload)

-- a line without data (this project's own)
abbrev pub alone : {L : Type 0} → Option L → Option (L × List ℕ)
alone read = option_map (λ line. (line, [])) read

-- the line of each form, by the words behind its first (this project's own)
abbrev pub line_by : List (List ℕ) → Form → Option (Line × List ℕ)
line_by words forms.Press = alone (press_of words)
line_by words forms.Power = alone (power_of words)
line_by words forms.Fail = alone (fail_of words)
line_by words forms.Wear = alone (wear_of words)
line_by words forms.Cut = alone (cut_of words)
line_by words forms.Tick = alone (tick_of words)
line_by words forms.Scrub = alone (scrub_of words)
line_by words forms.Command = command_of words

-- the line of these words, with its data (this project's own)
unfoldable pub line_of : List (List ℕ) → Option (Line × List ℕ)
line_of [] = Some (Empty, [])
line_of (word ∷ words) = form_of word >>= line_by words

-- the line, with its data, in the language whose words are read so (this project's own)
abbrev pub reading_by : {L : Type 0} → L → (List (List ℕ) → Option (L × List ℕ)) → List ℕ → Option (L × List ℕ)
reading_by empty by_words line = if slice_index line 0 == number_sign then Some (empty, []) else by_words (words_of line)

-- the line of a script for one disc, with its data (this project's own)
abbrev pub reading_of : List ℕ → Option (Line × List ℕ)
reading_of line = reading_by Empty line_of line

-- the data that were put down; none where nothing was read (this project's own)
abbrev pub PutsDown : {A : Type 0} → Option (List ℕ) → Option A → List ℕ → Type 0
PutsDown read None payload = (read ≡ None) × (payload ≡ [])
PutsDown read (Some found) payload = read ≡ Some payload

-- what was read, and the data that were put down; none where nothing was read (this project's own)
abbrev pub Puts : {A : Type 0} → Option (A × List ℕ) → Option A → List ℕ → Type 0
Puts read None payload = (read ≡ None) × (payload ≡ [])
Puts read (Some found) payload = read ≡ Some (found, payload)
