-- The record that is found among copies that hold one value, or one of two.
use Rattle.std.specs.Prelude.{◌≡◌, ℕ, List}
use Rattle.std.proofs.Common.{inl, inr, subst}
use Rattle.model_geometry.specs.Geometry.{Shape, record_block}
use Rattle.model_lists.specs.Records.{LeadRecord, IsRecordText}
use Rattle.model_lists.proofs.RecordTexts.{one_value}
use Rattle.model_medium.specs.Cells.{Cell, Blank, Good, Torn, Dead, IsSameOrDead, cell_at}
use Rattle.model_copies.specs.Copies.{IsArea, Holds, HoldsOrDead, MayHold, Settled}
use Rattle.model_drive.specs.Records.{IsRecordOf}
use Rattle.model_mirror.specs.Found.{SomeCopy, OldOrNew, CopiesStay}

-- a cell that holds two records holds one
one_held : (cell : Cell) (v w : LeadRecord) → Holds IsRecordText cell v → Holds IsRecordText cell w → v ≡ w
one_held Blank v w a b = absurd a
one_held (Good bytes) v w a b = one_value v w bytes a b
one_held Torn v w a b = absurd a
one_held Dead v w a b = absurd a

-- a cell that can be read was so before, where it is the same or dead
held_before : (old cell : Cell) (v : LeadRecord) → IsSameOrDead old cell → Holds IsRecordText cell v → Holds IsRecordText old v
held_before old cell v (inl same) held = subst (λ (c : Cell). Holds IsRecordText c v) same held
held_before old cell v (inr dead) held = absurd (subst (λ (c : Cell). Holds IsRecordText c v) dead held)

-- a cell of a settled record holds it
held_settled : (cell : Cell) (v w : LeadRecord) → HoldsOrDead IsRecordText cell v → Holds IsRecordText cell w → w ≡ v
held_settled Blank v w a b = absurd b
held_settled (Good bytes) v w a b = one_value w v bytes b a
held_settled Torn v w a b = absurd b
held_settled Dead v w a b = absurd b

module _ (shape : Shape) (later : List Cell) (P : LeadRecord → Type 0)
    (each : (area : ℕ) → IsArea area → (v : LeadRecord) → Holds IsRecordText (cell_at later (record_block shape area)) v → P v) where
  -- what is found is one of those that the copies hold
  pub found_among : (found : LeadRecord) → SomeCopy shape later → IsRecordOf shape later found → P found
  found_among found some (inl chosen) = each chosen.0 chosen.1.copy.is_area found chosen.1.copy.holds
  found_among found some (inr none) = absurd (none.0 some.value some.area some.copy tt)

module _ (shape : Shape) (cells later : List Cell) (died : CopiesStay shape cells later) where
  -- a settled record is found
  pub found_settled : (value found : LeadRecord) → Settled IsRecordText (record_block shape) cells value → SomeCopy shape later → IsRecordOf shape later found → found ≡ value
  found_settled value found settled some is = found_among shape later (λ (v : LeadRecord). v ≡ value) each found some is
    where
      each : (area : ℕ) → IsArea area → (v : LeadRecord) → Holds IsRecordText (cell_at later (record_block shape area)) v → v ≡ value
      each area is_area v held =
          held_settled (cell_at cells (record_block shape area)) value v (settled area is_area)
          (held_before (cell_at cells (record_block shape area)) (cell_at later (record_block shape area)) v (died area is_area) held)

-- a cell of a writing that was stopped holds what it held, or what was written
held_stopped : (old cell : Cell) (before value v : LeadRecord) → HoldsOrDead IsRecordText old before → MayHold IsRecordText old value cell
    → Holds IsRecordText cell v → OldOrNew before value v
held_stopped old cell before value v settled (inl same) held = inl (held_settled old before v settled (subst (λ (c : Cell). Holds IsRecordText c v) same held))
held_stopped old cell before value v settled (inr (inl new)) held = inr (one_held cell v value held new)
held_stopped old cell before value v settled (inr (inr (inl torn))) held = absurd (subst (λ (c : Cell). Holds IsRecordText c v) torn held)
held_stopped old cell before value v settled (inr (inr (inr dead))) held = absurd (subst (λ (c : Cell). Holds IsRecordText c v) dead held)

module _ (shape : Shape) (old cells later : List Cell) (died : CopiesStay shape cells later)
    (before value : LeadRecord) (settled : Settled IsRecordText (record_block shape) old before)
    (may : (area : ℕ) → IsArea area → MayHold IsRecordText (cell_at old (record_block shape area)) value (cell_at cells (record_block shape area))) where
  pub found_stopped : (found : LeadRecord) → SomeCopy shape later → IsRecordOf shape later found → OldOrNew before value found
  found_stopped found some is = found_among shape later (OldOrNew before value) each found some is
    where
      each : (area : ℕ) → IsArea area → (v : LeadRecord) → Holds IsRecordText (cell_at later (record_block shape area)) v → OldOrNew before value v
      each area is_area v held =
          held_stopped (cell_at old (record_block shape area)) (cell_at cells (record_block shape area)) before value v (settled area is_area) (may area is_area)
          (held_before (cell_at cells (record_block shape area)) (cell_at later (record_block shape area)) v (died area is_area) held)
