-- The value of a `LeadRecord`, and what decoding gives: for `encode` and `decode`. (This project's own.)
use Rattle.std.specs.Prelude.{ℕ, List, Bool, true, false}
use Rattle.model_lists.specs.Records.{LeadRecord as Value, IsRecordText}
use Rattle.ram_record.specs.declared.record.LeadRecord.{LeadRecord}

-- the value, as the definitions of its text have it
abbrev pub record_of : LeadRecord → Value
record_of held = record { generation = held.generation; together = held.together; dirty = held.dirty }

-- What a block is read as: true, and the record is the value whose text it is; or false, and it is the text of none.
abbrev pub IsReadRecord : Bool → LeadRecord → List ℕ → Type 0
IsReadRecord true held block = IsRecordText (record_of held) block
IsReadRecord false held block = (value : Value) → IsRecordText value block → ⊥
