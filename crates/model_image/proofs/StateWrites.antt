-- A write of a block's state byte alone, which makes the same cell whatever data the block has.
use Rattle.std.specs.Prelude.{◌≡◌, ℕ, ◌<◌, ◌⊎◌, List, [], ◌∷◌, length, slice_index, Option, Some, None, MatchOption}
use Rattle.std.specs.Option.{option_map, ForSome}
use Rattle.std.proofs.Common.{refl, sym, inl, inr, subst}
use Rattle.model_bytes.specs.Bytes.{put_at, PartlyPut}
use Rattle.model_bytes.specs.Known.{WhereKnown}
use Rattle.model_medium.specs.Cells.{Cell, cell_at}
use Rattle.model_image.specs.Cells.{state_offset, image_len, cell_of, data_in, cells_of, SetsCell, StopsInState}
use Rattle.model_image.proofs.Writes.{SameBut-PartlyPut, cell_at-cells_of}
use Rattle.model_image.proofs.CellWrites.{state_step, state_put, state_stopped}

module _ (total block : ℕ) (inside : block < total) (byte : ℕ) (cell : Cell) (always : (bytes : List ℕ) → cell_of byte bytes ≡ cell) where
  put_state : (held : List ℕ) → length held ≡ image_len total → SetsCell total block cell held (put_at (state_offset block) (byte ∷ []) held)
  put_state held whole = state_put total block inside byte cell held whole (always (data_in total held block))

  stopped_state : (held after : List ℕ) → PartlyPut (state_offset block) (byte ∷ []) held after → StopsInState total block cell held after
  stopped_state held after put = record {
    left = cell_of (slice_index after (state_offset block)) (data_in total held block);
    may = state_stopped total block inside byte held after (λ s. (cell_of s (data_in total held block) ≡ cell_at (cells_of total held) block) ⊎ (cell_of s (data_in total held block) ≡ cell)) put
        (inl (sym (cell_at-cells_of total held block inside))) (inr (always (data_in total held block)));
    sets = state_step total block inside held after _ (SameBut-PartlyPut (state_offset block) (byte ∷ []) held after put) refl;
  }

  module _ (before after : Option (List ℕ)) (whole : ForSome before (λ held. length held ≡ image_len total)) where
    pub known-put_state : after ≡ option_map (put_at (state_offset block) (byte ∷ [])) before → WhereKnown before after (SetsCell total block cell)
    known-put_state e = subst (λ o. WhereKnown before o (SetsCell total block cell)) (sym e) (cases before whole)
      where
        cases : (o : Option (List ℕ)) → ForSome o (λ held. length held ≡ image_len total) → WhereKnown o (option_map (put_at (state_offset block) (byte ∷ [])) o) (SetsCell total block cell)
        cases None h = tt
        cases (Some held) h = put_state held (h held refl)

    pub known-stopped_state : MatchOption before (after ≡ before) (λ held. MatchOption after ⊥ (λ held'. PartlyPut (state_offset block) (byte ∷ []) held held')) → WhereKnown before after (StopsInState total block cell)
    known-stopped_state stopped = cases before after stopped
      where
        cases : (o p : Option (List ℕ)) → MatchOption o (p ≡ o) (λ held. MatchOption p ⊥ (λ held'. PartlyPut (state_offset block) (byte ∷ []) held held')) → WhereKnown o p (StopsInState total block cell)
        cases None None s = tt
        cases None (Some held') s = absurd (let clash : Some held' ≡ None = s in cc)
        cases (Some held) None s = absurd s
        cases (Some held) (Some held') s = stopped_state held held' s
