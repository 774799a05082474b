-- The cells of slots, after a change of one.
use Rattle.std.specs.Prelude.{◌≡◌, ℕ, ◌<◌, Bool, true, false, List, length, set, get_or}
use Rattle.std.proofs.Common.{refl, sym, ap, ◌∙◌, subst, arith, eqb}
use Rattle.std.proofs.lemmas.List.{map-set, get_or-map, length-map, get_or-set_same, get_or-set_other}
use Rattle.model_medium.specs.Cells.{Cell, Blank, Good, Torn, Dead, AreWhole, cell_at, unless_dead, written, cut_short}
use Rattle.model_medium.specs.declared.Fate.{Fate}
use Rattle.model_medium.specs.declared.Fate.TheVariants as fates
use Rattle.std.proofs.lemmas.Bool.{eqb-true, eqb-false}
use Rattle.ram_medium.specs.Slots.{slot_cell, slot_cells}
use Rattle.ram_medium.specs.declared.slots.Slot.{Slot}

-- a slot is changed to one with this cell
pub slot_cells-set : (slots : List Slot) (block : ℕ) (slot : Slot) (cell : Cell) → slot_cell slot ≡ cell → slot_cells (set slots block slot) ≡ set (slot_cells slots) block cell
slot_cells-set slots block slot cell is = map-set slot_cell slots block slot ∙ ap (set (slot_cells slots) block) is

-- a slot is changed, and its cell is what this makes of it
pub slot_cells-change : (slots : List Slot) (block : ℕ) (before after : Slot) (change : Cell → Cell) → block < length slots → before ≡ get_or slots block before → slot_cell after ≡ change (slot_cell before)
    → slot_cells (set slots block after) ≡ set (slot_cells slots) block (change (cell_at (slot_cells slots) block))
slot_cells-change slots block before after change inside was is = slot_cells-set slots block after (change (cell_at (slot_cells slots) block)) (is ∙ ap change (ap slot_cell was ∙ sym (get_or-map slot_cell slots block before Dead inside)))

-- cells stay whole where one of them is changed to one that is
whole_set : (cells : List Cell) (block : ℕ) (cell : Cell) → block < length cells → ((bytes : List ℕ) → cell ≡ Good bytes → length bytes ≡ 32768)
    → AreWhole cells → AreWhole (set cells block cell)
whole_set cells block cell inside is_whole whole k bytes good = by_test (eqb k block) refl
  where
    by_test : (b : Bool) → eqb k block ≡ b → length bytes ≡ 32768
    by_test true same =
        let here : k ≡ block = eqb-true k block same in
        is_whole bytes (sym (get_or-set_same cells block cell Dead inside) ∙ ap (cell_at (set cells block cell)) (sym here) ∙ good)
    by_test false apart = whole k bytes (sym (get_or-set_other cells block k cell Dead (eqb-false k block apart)) ∙ good)

-- what a write makes of a whole cell is whole, also where it is cut
written_whole : (old : Cell) (from bytes : List ℕ) → length from ≡ 32768 → ((b : List ℕ) → old ≡ Good b → length b ≡ 32768)
    → written from old ≡ Good bytes → length bytes ≡ 32768
written_whole Blank from bytes long whole same = subst (λ (b : List ℕ). length b ≡ 32768) (let is : from ≡ bytes = cc in is) long
written_whole (Good held) from bytes long whole same = subst (λ (b : List ℕ). length b ≡ 32768) (let is : from ≡ bytes = cc in is) long
written_whole Torn from bytes long whole same = subst (λ (b : List ℕ). length b ≡ 32768) (let is : from ≡ bytes = cc in is) long
written_whole Dead from bytes long whole same = absurd (let clash : Dead ≡ Good bytes = same in cc)

torn_whole : (old : Cell) (bytes : List ℕ) → unless_dead old Torn ≡ Good bytes → length bytes ≡ 32768
torn_whole Blank bytes same = absurd (let clash : Torn ≡ Good bytes = same in cc)
torn_whole (Good held) bytes same = absurd (let clash : Torn ≡ Good bytes = same in cc)
torn_whole Torn bytes same = absurd (let clash : Torn ≡ Good bytes = same in cc)
torn_whole Dead bytes same = absurd (let clash : Dead ≡ Good bytes = same in cc)

cut_whole : (fate : Fate) (old : Cell) (from bytes : List ℕ) → length from ≡ 32768 → ((b : List ℕ) → old ≡ Good b → length b ≡ 32768)
    → cut_short fate from old ≡ Good bytes → length bytes ≡ 32768
cut_whole fates.Old old from bytes long whole same = whole bytes same
cut_whole fates.New old from bytes long whole same = written_whole old from bytes long whole same
cut_whole fates.Torn old from bytes long whole same = torn_whole old bytes same

pub whole_written : (slots : List Slot) (block : ℕ) (from : List ℕ) → block < length slots → length from ≡ 32768 → AreWhole (slot_cells slots)
    → AreWhole (set (slot_cells slots) block (written from (cell_at (slot_cells slots) block)))
whole_written slots block from inside long whole =
    whole_set (slot_cells slots) block (written from (cell_at (slot_cells slots) block)) (omega (arith, inside, length-map slots slot_cell))
    (λ bytes. written_whole (cell_at (slot_cells slots) block) from bytes long (whole block)) whole

pub whole_cut : (slots : List Slot) (block : ℕ) (fate : Fate) (from : List ℕ) → block < length slots → length from ≡ 32768 → AreWhole (slot_cells slots)
    → AreWhole (set (slot_cells slots) block (cut_short fate from (cell_at (slot_cells slots) block)))
whole_cut slots block fate from inside long whole =
    whole_set (slot_cells slots) block (cut_short fate from (cell_at (slot_cells slots) block)) (omega (arith, inside, length-map slots slot_cell))
    (λ bytes. cut_whole fate (cell_at (slot_cells slots) block) from bytes long (whole block)) whole
