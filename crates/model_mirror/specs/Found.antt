-- What is found of a record of the lead later. (This project's own, as all here.)
use Rattle.std.specs.Prelude.{◌≡◌, ℕ, ◌⊎◌, List}
use Rattle.model_geometry.specs.Geometry.{Shape, record_block}
use Rattle.model_lists.specs.Records.{LeadRecord, IsRecordText}
use Rattle.model_medium.specs.Cells.{Cell, IsSameOrDead, cell_at}
use Rattle.model_copies.specs.Copies.{IsArea, HasCopy}

-- some copy of the record can be read
pub record SomeCopy (shape : Shape) (cells : List Cell) : Type 0 where
  pub value : LeadRecord
  pub area : ℕ
  pub copy : HasCopy IsRecordText (record_block shape) cells value area

-- it is one of two
abbrev pub OldOrNew : (before value found : LeadRecord) → Type 0
OldOrNew before value found = (found ≡ before) ⊎ (found ≡ value)

-- no copy of the record changed but that some have died
abbrev pub CopiesStay : Shape → List Cell → List Cell → Type 0
CopiesStay shape cells later = (area : ℕ) → IsArea area
    → IsSameOrDead (cell_at cells (record_block shape area)) (cell_at later (record_block shape area))
