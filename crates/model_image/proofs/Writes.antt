-- What the three writes of a block into an image leave of its cells, each of which may fail half way.
use Rattle.std.specs.Prelude.{◌≡◌, ℕ, ◌+◌, ◌-◌, ◌<◌, ◌≤◌, ◌⊎◌, List, [], ◌∷◌, ◌++◌, length, take, drop, set, slice_index}
use Rattle.std.proofs.Common.{arith, ap, ◌∙◌, inl, inr, length-drop, length-append, get_or-take, get_or-drop}
use Rattle.std.proofs.lemmas.List.{length-take-le, take_at, drop_at, append_assoc, get_or_append_left, get_or-append_right, get_or_at}
use Rattle.std.proofs.lemmas.List.FromFn.{get_or-map-range_with_len}
use Rattle.model_bytes.specs.Bytes.{put_at, PartlyPut}
use Rattle.model_medium.specs.Cells.{Dead, cell_at}
use Rattle.model_image.specs.Cells.{state_offset, data_offset, cell_of, data_in, cell_in, cells_of}
use Rattle.model_image.proofs.Changes.{SameBut, same_part, other_cell-state, other_cell-data, cells_of-set}

-- bytes put at a place leave the others
pub SameBut-put_at : (at : ℕ) (from held : List ℕ) → at + length from ≤ length held → SameBut at (length from) held (put_at at from held)
SameBut-put_at at from held fits = record { as_long = long; same = same }
  where
    prefix : length (take at held) ≡ at
    prefix = length-take-le at held (omega arith)

    both : length (take at held ++ from) ≡ at + length from
    both = length-append (take at held) from ∙ ap (λ n. n + length from) prefix

    long : length (put_at at from held) ≡ length held
    long = omega (arith, both, length-append (take at held ++ from) (drop (at + length from) held), length-drop (at + length from) held)

    same : (k : ℕ) → (k < at) ⊎ (at + length from ≤ k) → slice_index (put_at at from held) k ≡ slice_index held k
    same k (inl h) =
        get_or_append_left (take at held ++ from) (drop (at + length from) held) 0 k (omega (arith, both))
        ∙ get_or_append_left (take at held) from 0 k (omega (arith, prefix)) ∙ get_or-take at held k 0 h
    same k (inr h) =
        get_or-append_right (take at held ++ from) (drop (at + length from) held) (at + length from) k 0 both h
        ∙ get_or-drop (at + length from) held (k - (at + length from)) 0 ∙ ap (slice_index held) (omega arith)

-- so do bytes that were put in part
pub SameBut-PartlyPut : (at : ℕ) (from before after : List ℕ) → PartlyPut at from before after → SameBut at (length from) before after
SameBut-PartlyPut at from before after put = record { as_long = put.as_long; same = λ k h. kept k h (put.each k) }
  where
    kept : (k : ℕ) → (k < at) ⊎ (at + length from ≤ k) → (slice_index after k ≡ slice_index before k) ⊎ ((at ≤ k) × (k < at + length from) × (slice_index after k ≡ slice_index from (k - at)))
        → slice_index after k ≡ slice_index before k
    kept k h (inl e) = e
    kept k (inl below) (inr p) = absurd (omega arith)
    kept k (inr above) (inr p) = absurd (omega arith)

-- what was put stands there
pub part-put_at : (at n : ℕ) (from held : List ℕ) → at ≤ length held → length from ≡ n → take n (drop at (put_at at from held)) ≡ from
part-put_at at n from held fits long =
    ap (λ l. take n (drop at l)) (append_assoc (take at held) from rest) ∙ ap (take n) (drop_at (take at held) (from ++ rest) at (length-take-le at held fits)) ∙ take_at from rest n long
  where
    rest : List ℕ
    rest = drop (at + length from) held

pub byte-put_at : (at byte : ℕ) (held : List ℕ) → at ≤ length held → slice_index (put_at at (byte ∷ []) held) at ≡ byte
byte-put_at at byte held fits =
    ap (λ l. slice_index l at) (append_assoc (take at held) (byte ∷ []) (drop (at + 1) held)) ∙ get_or_at (take at held) byte (drop (at + 1) held) 0 at (length-take-le at held fits)

module _ (total : ℕ) (before after : List ℕ) (block : ℕ) (inside : block < total) where
  -- after a change of its state byte
  pub cells-state : SameBut (state_offset block) 1 before after → cells_of total after ≡ set (cells_of total before) block (cell_of (slice_index after (state_offset block)) (data_in total before block))
  cells-state change = cells_of-set total before after block _ inside here (λ k h ne. other_cell-state total before after block k h ne change inside)
    where
      here : cell_in total after block ≡ cell_of (slice_index after (state_offset block)) (data_in total before block)
      here = ap (cell_of (slice_index after (state_offset block)))
          (same_part (data_offset total block) 32768 before after change.as_long (λ i low high. change.same i (inr (omega arith))))

  -- after a change in its data
  pub cells-data : SameBut (data_offset total block) 32768 before after → cells_of total after ≡ set (cells_of total before) block (cell_of (slice_index before (state_offset block)) (data_in total after block))
  cells-data change = cells_of-set total before after block _ inside here (λ k h ne. other_cell-data total before after block k h ne change inside)
    where
      here : cell_in total after block ≡ cell_of (slice_index before (state_offset block)) (data_in total after block)
      here = ap (λ s. cell_of s (data_in total after block)) (change.same (state_offset block) (inl (omega arith)))

-- the cell of a block, among all of them
pub cell_at-cells_of : (total : ℕ) (bytes : List ℕ) (block : ℕ) → block < total → cell_at (cells_of total bytes) block ≡ cell_in total bytes block
cell_at-cells_of total bytes block h = get_or-map-range_with_len (cell_in total bytes) 0 total block block Dead h (omega arith)
