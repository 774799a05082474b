-- What a line of a script reads as, with its data: for the parser, and for the run that answers lines.
use Rattle.std.specs.Prelude.{◌≡◌, ℕ, ◌+◌, ◌/◌, ◌%◌, ◌<◌, ◌≤◌, ◌⊎◌, true, false, List, [], ◌∷◌, length, slice_index, map, replicate, codes}
use Rattle.std.specs.List.{range_with_len}
use Rattle.model_commands.specs.Commands.{out_length_of}
use Rattle.model_medium.specs.declared.Fate.{Fate}
use Rattle.model_medium.specs.declared.Fate.TheVariants.{Old, New, Torn}
use Rattle.ram_text.specs.ScriptWords.{words_of, without_return, number_sign, IsNumber, IsHex}
use Rattle.ram_text.specs.declared.script.Line.{Line}
use Rattle.ram_text.specs.declared.script.Line.TheVariants.{Empty, Press, Power, Fail, Wear, Cut, Tick, Scrub, Command}

-- the word for what a cut leaves of the block in progress (this project's own)
abbrev pub fate_word : Fate → List ℕ
fate_word Old = codes "old"
fate_word New = codes "new"
fate_word Torn = codes "torn"

-- n bytes, each this one (this project's own)
abbrev pub filled : ℕ → ℕ → List ℕ
filled byte n = replicate n byte

-- n bytes that count up by sectors of 2,048 bytes, from this one on, and after FFh from 00h on (this project's
-- own)
abbrev pub counted_up : ℕ → ℕ → List ℕ
counted_up byte n = map (λ offset. (byte + offset / 2048) % 256) (range_with_len 0 n)

-- `fill XX`: as many bytes as are due, each this one (this project's own)
pub record IsFilled (due : ℕ) (word digits payload : List ℕ) : Type 0 where
  pub named : word ≡ codes "fill"
  pub byte : ℕ
  pub digits_are : IsHex digits (byte ∷ [])
  pub payload_is : payload ≡ filled byte due

-- `count XX`: as many bytes as are due, which count up by sectors from this one (this project's own)
pub record IsCountedUp (due : ℕ) (word digits payload : List ℕ) : Type 0 where
  pub named : word ≡ codes "count"
  pub byte : ℕ
  pub digits_are : IsHex digits (byte ∷ [])
  pub payload_is : payload ≡ counted_up byte due

-- `hex HEX`: exactly these data (this project's own)
pub record IsSpelled (word digits payload : List ℕ) : Type 0 where
  pub named : word ≡ codes "hex"
  pub digits_are : IsHex digits payload

-- the data that two words name, in one of the three ways, where so many bytes are due (this project's own)
abbrev pub AreNamed : ℕ → (word digits payload : List ℕ) → Type 0
AreNamed due word digits payload =
    IsFilled due word digits payload ⊎ IsCountedUp due word digits payload ⊎ IsSpelled word digits payload

-- a command block of 1 to 16 bytes (this project's own)
pub record IsCommandBlock (digits cdb : List ℕ) : Type 0 where
  pub digits_are : IsHex digits cdb
  pub some : 0 < length cdb
  pub short : length cdb ≤ 16

-- The forms of a line, by its words: what it means, and the data that go with it. A word is never empty, so a word
-- of hexadecimal digits has at least two. (This project's own.)
abbrev pub IsForm : List (List ℕ) → Line → List ℕ → Type 0
IsForm [] Empty payload = payload ≡ []
IsForm (word ∷ a ∷ b ∷ c ∷ []) (Press zones scale psa) payload =
    (word ≡ codes "press") × IsNumber a zones × IsNumber b scale × IsNumber c psa × (payload ≡ [])
IsForm (word ∷ []) Power payload = (word ≡ codes "power") × (payload ≡ [])
IsForm (word ∷ a ∷ []) (Fail block) payload = (word ≡ codes "fail") × IsNumber a block × (payload ≡ [])
IsForm (word ∷ a ∷ b ∷ []) (Wear block n) payload =
    (word ≡ codes "wear") × IsNumber a block × IsNumber b n × (0 < n) × (payload ≡ [])
IsForm (word ∷ a ∷ b ∷ []) (Cut n fate) payload =
    (word ≡ codes "cut") × IsNumber a n × (0 < n) × (b ≡ fate_word fate) × (payload ≡ [])
IsForm (word ∷ []) Tick payload = (word ≡ codes "tick") × (payload ≡ [])
IsForm (word ∷ []) (Scrub false) payload = (word ≡ codes "scrub") × (payload ≡ [])
IsForm (word ∷ a ∷ []) (Scrub true) payload = (word ≡ codes "scrub") × (a ≡ codes "all") × (payload ≡ [])
IsForm (word ∷ a ∷ []) (Command cdb) payload = (word ≡ codes "cdb") × IsCommandBlock a cdb × (payload ≡ [])
IsForm (word ∷ a ∷ b ∷ c ∷ []) (Command cdb) payload =
    (word ≡ codes "cdb") × IsCommandBlock a cdb × AreNamed (out_length_of cdb) b c payload
IsForm _ _ payload = ⊥

-- a line that begins with a number sign says nothing (this project's own)
pub record IsComment {L : Type 0} (empty : L) (line : List ℕ) (read : L) (payload : List ℕ) : Type 0 where
  pub sign : slice_index line 0 ≡ number_sign
  pub nothing : read ≡ empty
  pub no_payload : payload ≡ []

-- every other line is one of the forms of its language (this project's own)
pub record IsOther {L : Type 0} (Forms : List (List ℕ) → L → List ℕ → Type 0) (line : List ℕ) (read : L) (payload : List ℕ) : Type 0 where
  pub no_sign : ¬ (slice_index line 0 ≡ number_sign)
  pub form : Forms (words_of line) read payload

-- What a line means in the language that has these forms, without its line feed, and the data that go with it; a carriage return at its
-- end is dropped. (This project's own.)
abbrev pub ReadsBy : {L : Type 0} → L → (List (List ℕ) → L → List ℕ → Type 0) → List ℕ → L → List ℕ → Type 0
ReadsBy empty Forms line read payload =
    IsComment empty (without_return line) read payload ⊎ IsOther Forms (without_return line) read payload

-- what a line of a script for one disc means (this project's own)
abbrev pub Reads : List ℕ → Line → List ℕ → Type 0
Reads line read payload = ReadsBy Empty IsForm line read payload
