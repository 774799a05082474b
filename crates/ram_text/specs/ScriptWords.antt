-- The words of a line, its numbers and its hexadecimal digits: for the language of scripts.
use Rattle.std.specs.Prelude.{◌≡◌, ℕ, ◌+◌, ◌-◌, ◌*◌, ◌<◌, ◌≤◌, ◌==◌, Bool, true, false, if◌then◌else◌, Some, List, [], ◌∷◌, length, take, slice_index, filter, fold}
use Rattle.std.specs.List.{AllPass}
use Rattle.std.specs.Char.{is_ascii_digit}
use Rattle.hex.specs.Hex.{hex_digit_value}

-- a space (ASCII)
abbrev pub space : ℕ
space = 32

-- a number sign, with which a comment begins (ASCII)
abbrev pub number_sign : ℕ
number_sign = 35

-- a carriage return (ASCII)
abbrev pub carriage_return : ℕ
carriage_return = 13

-- a line without the carriage return at its end, if it has one (this project's own)
abbrev pub without_return : List ℕ → List ℕ
without_return line = if slice_index line (length line - 1) == carriage_return then take (length line - 1) line else line

-- the byte in front of the first piece (this project's own)
abbrev pub lengthened : ℕ → List (List ℕ) → List (List ℕ)
lengthened byte [] = (byte ∷ []) ∷ []
lengthened byte (piece ∷ pieces) = (byte ∷ piece) ∷ pieces

-- what stands before, between and after the spaces, where two spaces may have nothing between them
-- (this project's own)
unfoldable pub pieces : List ℕ → List (List ℕ)
pieces [] = [] ∷ []
pieces (byte ∷ bytes) = if byte == space then [] ∷ pieces bytes else lengthened byte (pieces bytes)

-- whether a piece has a byte (this project's own)
abbrev pub is_word : List ℕ → Bool
is_word [] = false
is_word (byte ∷ bytes) = true

-- The words of a line: they are parted by one or more spaces, and spaces may stand before and after them. (This
-- project's own.)
unfoldable pub words_of : List ℕ → List (List ℕ)
words_of line = filter is_word (pieces line)

-- the number that decimal digits spell, the highest first (this project's own)
abbrev pub decimal_value : List ℕ → ℕ
decimal_value digits = fold (λ number digit. number * 10 + (digit - 48)) 0 digits

-- A number: 1 to 10 decimal digits that spell at most 4,294,967,295. (This project's own.)
pub record IsNumber (word : List ℕ) (number : ℕ) : Type 0 where
  pub digits : AllPass is_ascii_digit word
  pub some : 0 < length word
  pub short : length word ≤ 10
  pub value : decimal_value word ≡ number
  pub fits : number ≤ 4294967295

-- a byte as two hexadecimal digits of either case, the high one first (this project's own)
pub record IsHexByte (high low byte : ℕ) : Type 0 where
  pub high_value : ℕ
  pub low_value : ℕ
  pub high_digit : hex_digit_value high ≡ Some high_value
  pub low_digit : hex_digit_value low ≡ Some low_value
  pub byte_is : byte ≡ high_value * 16 + low_value

-- bytes as hexadecimal digits, two for each (this project's own)
abbrev pub IsHex : List ℕ → List ℕ → Type 0
IsHex [] [] = Unit {0}
IsHex (high ∷ low ∷ digits) (byte ∷ bytes) = IsHexByte high low byte × IsHex digits bytes
IsHex _ _ = ⊥
