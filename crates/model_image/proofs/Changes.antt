use Rattle.std.specs.Prelude.{◌≡◌, ◌≢◌, ℕ, ◌+◌, ◌-◌, ◌<◌, ◌≤◌, ◌⊎◌, List, length, take, drop, set, get_or, min, slice_index}
use Rattle.std.proofs.Common.{arith, sym, ap, ◌∙◌, inl, inr, length-drop, length-take, get_or-take, get_or-drop, get_or-set_same, get_or-set_other}
use Rattle.std.proofs.lemmas.Bool.{cases_eq, cases_lt}
use Rattle.std.proofs.lemmas.List.{ext_get_or, length-set}
use Rattle.std.proofs.lemmas.List.FromFn.{fill_by_all, length-map-range_with_len, get_or-map-range_with_len}
use Rattle.model_medium.specs.Cells.{Cell, Dead}
use Rattle.model_image.specs.Cells.{state_offset, data_offset, cell_of, data_in, cell_in, cells_of}

-- As long as before, and the same outside of the n bytes at `at` and on.
pub record SameBut (at n : ℕ) (before after : List ℕ) : Type 0 where
  pub as_long : length after ≡ length before
  pub same : (k : ℕ) → (k < at) ⊎ (at + n ≤ k) → slice_index after k ≡ slice_index before k

-- lists that agree in a range have the same part there
pub same_part : (p n : ℕ) (before after : List ℕ) → length after ≡ length before → ((k : ℕ) → p ≤ k → k < p + n → slice_index after k ≡ slice_index before k)
    → take n (drop p after) ≡ take n (drop p before)
same_part p n before after long same =
    ext_get_or 0 _ _
    (length-take n (drop p after) ∙ ap (min n) (length-drop p after ∙ ap (λ m. m - p) long ∙ sym (length-drop p before)) ∙ sym (length-take n (drop p before)))
    (λ i h. let below : i < n = omega (arith, length-take n (drop p after)) in
    get_or-take n (drop p after) i 0 below ∙ get_or-drop p after i 0 ∙ same (p + i) (omega arith) (omega arith)
    ∙ sym (get_or-drop p before i 0) ∙ sym (get_or-take n (drop p before) i 0 below))

-- the cell of a block whose state byte and data are the same is the same
pub same_cell : (total : ℕ) (before after : List ℕ) (k : ℕ) → length after ≡ length before → slice_index after (state_offset k) ≡ slice_index before (state_offset k)
    → ((i : ℕ) → data_offset total k ≤ i → i < data_offset total k + 32768 → slice_index after i ≡ slice_index before i) → cell_in total after k ≡ cell_in total before k
same_cell total before after k long state same =
    ap (λ s. cell_of s (data_in total after k)) state ∙ ap (cell_of (slice_index before (state_offset k))) (same_part (data_offset total k) 32768 before after long same)

-- after a change of one block's state byte, the other cells are the same
pub other_cell-state : (total : ℕ) (before after : List ℕ) (block k : ℕ) → k < total → k ≢ block → SameBut (state_offset block) 1 before after → block < total
    → cell_in total after k ≡ cell_in total before k
other_cell-state total before after block k inside other change block_inside =
    same_cell total before after k change.as_long
    (change.same (state_offset k) (elim (cases_lt k block) [ inl h ↦ inl (omega arith) | inr h ↦ inr (omega arith) ]))
    (λ i low high. change.same i (inr (omega arith)))

-- after a change in one block's data, the other cells are the same
pub other_cell-data : (total : ℕ) (before after : List ℕ) (block k : ℕ) → k < total → k ≢ block → SameBut (data_offset total block) 32768 before after → block < total
    → cell_in total after k ≡ cell_in total before k
other_cell-data total before after block k inside other change block_inside =
    same_cell total before after k change.as_long
    (change.same (state_offset k) (inl (omega arith)))
    (λ i low high. change.same i (apart i low high))
  where
    apart : (i : ℕ) → data_offset total k ≤ i → i < data_offset total k + 32768 → (i < data_offset total block) ⊎ (data_offset total block + 32768 ≤ i)
    apart i low high = elim (cases_lt k block) [ inl h ↦ inl (omega arith) | inr h ↦ inr (omega arith) ]

-- an image in which one cell alone may differ has the cells of before with that one set
pub cells_of-set : (total : ℕ) (before after : List ℕ) (block : ℕ) (cell : Cell) → block < total → cell_in total after block ≡ cell
    → ((k : ℕ) → k < total → k ≢ block → cell_in total after k ≡ cell_in total before k) → cells_of total after ≡ set (cells_of total before) block cell
cells_of-set total before after block cell inside here others =
    sym (fill_by_all (cell_in total after) (set (cells_of total before) block cell) total Dead
    (length-set (cells_of total before) block cell ∙ length-map-range_with_len (cell_in total before) 0 total) each)
  where
    long : length (cells_of total before) ≡ total
    long = length-map-range_with_len (cell_in total before) 0 total

    each : (k : ℕ) → k < total → get_or (set (cells_of total before) block cell) k Dead ≡ cell_in total after k
    each k h = elim (cases_eq k block) [
      | inl e ↦ ap (λ j. get_or (set (cells_of total before) block cell) j Dead) e ∙ get_or-set_same (cells_of total before) block cell Dead (omega (arith, long)) ∙ sym here ∙ ap (cell_in total after) (sym e)
      | inr ne ↦ get_or-set_other (cells_of total before) block k cell Dead ne ∙ get_or-map-range_with_len (cell_in total before) 0 total k k Dead h (omega arith) ∙ sym (others k h ne)
    ]
