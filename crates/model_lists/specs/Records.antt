-- The record of the lead, which each disc of a mirror has beside its two lists: its value and its text. (This project's own, as
-- all here.)
use Rattle.std.specs.Prelude.{◌≡◌, ℕ, ◌-◌, ◌*◌, ◌<◌, ◌^◌, Bool, true, false, List, [], ◌∷◌, ◌++◌, length, replicate, All}
use Rattle.byteorder.specs.Endian.{big_bytes}
use Rattle.model_lists.specs.declared.records.TheConstants.{REGIONS}

-- What a record says: its number, by which the disc with the greater one leads; whether the discs have the same bytes but in dirty
-- regions; and a byte for each region, which is not 0 where it is dirty: the discs may differ there.
pub record LeadRecord : Type 0 where
  pub generation : ℕ
  pub together : Bool
  pub dirty : List ℕ

-- the limits of a record
pub record IsLawfulRecord (value : LeadRecord) : Type 0 where
  pub numbered : value.generation < 2 ^ 32
  pub regions : length value.dirty ≡ REGIONS
  pub bytes : All (λ byte. byte < 256) value.dirty

-- the record of a disc that has none yet
abbrev pub first_record : LeadRecord
first_record = record { generation = 0; together = false; dirty = replicate REGIONS 0 }

-- the byte of the flag
abbrev pub together_byte : Bool → ℕ
together_byte true = 1
together_byte false = 0

-- the bytes of a record: 4Ch 45h, the version, the flag, the number, and the regions
abbrev pub record_bytes : LeadRecord → List ℕ
record_bytes value =
    76 ∷ 69 ∷ 1 ∷ together_byte value.together ∷ [] ++ big_bytes 4 value.generation ++ value.dirty

-- The block is the text of this record: its bytes, and then zeros.
pub record IsRecordText (value : LeadRecord) (block : List ℕ) : Type 0 where
  pub lawful : IsLawfulRecord value
  pub spells : block ≡ record_bytes value ++ replicate (32768 - length (record_bytes value)) 0
