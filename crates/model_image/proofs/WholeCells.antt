-- The cells of a disc image are whole: a good one has a block's bytes.
use Rattle.std.specs.Prelude.{◌≡◌, ℕ, ◌+◌, ◌<◌, ◌≤◌, if◌then◌else◌, Bool, true, false, Option, Some, None, List, length, drop}
use Rattle.std.specs.Option.{ForSome}
use Rattle.std.proofs.Common.{refl, sym, ◌∙◌, subst, arith, leb, length-drop}
use Rattle.std.proofs.lemmas.Bool.{leb-true, leb-false}
use Rattle.std.proofs.lemmas.List.{length-take-le, get_or_past}
use Rattle.std.proofs.lemmas.List.FromFn.{length-map-range_with_len}
use Rattle.model_medium.specs.Cells.{Blank, Good, Torn, Dead, AreWhole, cell_at}
use Rattle.model_image.specs.Cells.{data_in, data_offset, cell_in, cells_of, cells_known, image_len}
use Rattle.model_image.proofs.Writes.{cell_at-cells_of}

-- the bytes of a good cell are the block's data
good_data : (zero one three : Bool) (block_data bytes : List ℕ)
    → (if zero then Blank else (if one then Good block_data else (if three then Dead else Torn))) ≡ Good bytes → block_data ≡ bytes
good_data true one three block_data bytes same = absurd (let clash : Blank ≡ Good bytes = same in cc)
good_data false true three block_data bytes same = cc
good_data false false true block_data bytes same = absurd (let clash : Dead ≡ Good bytes = same in cc)
good_data false false false block_data bytes same = absurd (let clash : Torn ≡ Good bytes = same in cc)

module _ (total : ℕ) (bytes : List ℕ) (long : length bytes ≡ image_len total) where
  data_long : (block : ℕ) → block < total → length (data_in total bytes block) ≡ 32768
  data_long block inside =
      let behind : data_offset total block + 32768 ≤ length bytes = omega (arith, long, inside) in
      length-take-le 32768 (drop (data_offset total block) bytes) (omega (arith, behind, length-drop (data_offset total block) bytes))

  pub cells_of-whole : AreWhole (cells_of total bytes)
  cells_of-whole block held good = by_test (leb total block) refl
    where
      by_test : (past : Bool) → leb total block ≡ past → length held ≡ 32768
      by_test true same = absurd (
          let none : cell_at (cells_of total bytes) block ≡ Dead =
          get_or_past (cells_of total bytes) block Dead
          (omega (arith, leb-true total block same, length-map-range_with_len (cell_in total bytes) 0 total)) in
          let clash : Dead ≡ Good held = sym none ∙ good in cc
          )
      by_test false same =
          let inside : block < total = leb-false total block same in
          let here : data_in total bytes block ≡ held =
          good_data _ _ _ (data_in total bytes block) held (sym (cell_at-cells_of total bytes block inside) ∙ good) in
          subst (λ (b : List ℕ). length b ≡ 32768) here (data_long block inside)

-- the same of an image whose bytes may not be known
pub cells_known-whole : (total : ℕ) (bytes : Option (List ℕ)) → ForSome bytes (λ held. length held ≡ image_len total) → AreWhole (cells_known total bytes)
cells_known-whole total None long block held good = absurd (let clash : Dead ≡ Good held = good in cc)
cells_known-whole total (Some bytes) long block held good = cells_of-whole total bytes (long bytes refl) block held good
