-- Sense: what it is, and its bytes as a host is given them. For refusing a command, and telling of a refusal.
use Rattle.std.specs.Prelude.{ℕ, Option, Some, None, List, [], ◌∷◌, ◌++◌}
use Rattle.byteorder.specs.Endian.{big_bytes}
use Rattle.model_sense.specs.declared.sense.Sense.{Sense}

-- byte 0: sense data of the current command in fixed format, F0h where the information is valid (after INCITS MMC)
abbrev pub response_code : Option ℕ → ℕ
response_code None = 0x70
response_code (Some info) = 0xf0

-- bytes 3 to 6: the information, zero where there is none (after INCITS MMC)
abbrev pub information : Option ℕ → List ℕ
information None = big_bytes 4 0
information (Some info) = big_bytes 4 info

-- Sense data in fixed format: the response code, the key in byte 2, the information, the number 10 of the bytes that
-- follow byte 7, the code and its qualifier in bytes 12 and 13, and zeros. (After INCITS MMC.)
abbrev pub sense_data : Sense → List ℕ
sense_data sense =
    response_code sense.info ∷ 0 ∷ sense.key ∷ [] ++ information sense.info
    ++ 10 ∷ 0 ∷ 0 ∷ 0 ∷ 0 ∷ sense.asc ∷ sense.ascq ∷ 0 ∷ 0 ∷ 0 ∷ 0 ∷ []

-- sense without information: its key, code and qualifier (after INCITS MMC)
abbrev pub sense : (key asc ascq : ℕ) → Sense
sense key asc ascq = record { key = key; asc = asc; ascq = ascq; info = None }

-- sense with the first sector that is concerned (after INCITS MMC)
abbrev pub sense_at : (key asc ascq lba : ℕ) → Sense
sense_at key asc ascq lba = record { key = key; asc = asc; ascq = ascq; info = Some lba }
