-- The three writes of a block's cell, and what each of them leaves where it fails half way.
use Rattle.std.specs.Prelude.{◌≡◌, ℕ, ◌+◌, ◌-◌, ◌<◌, ◌≤◌, ◌⊎◌, List, [], ◌∷◌, length, set, slice_index, Option, Some, None, MatchOption}
use Rattle.std.specs.Option.{option_map, ForSome}
use Rattle.std.proofs.Common.{arith, refl, sym, ap, ◌∙◌, inl, inr, subst}
use Rattle.std.proofs.lemmas.List.{set-set}
use Rattle.model_bytes.specs.Bytes.{put_at, PartlyPut}
use Rattle.model_bytes.specs.Known.{WhereKnown}
use Rattle.model_medium.specs.Cells.{Cell, Good, Torn, cell_at, MayLeave}
use Rattle.model_image.specs.Cells.{state_offset, data_offset, image_len, cell_of, data_in, cells_of, SetsCell, StopsInCell}
use Rattle.model_image.proofs.Changes.{SameBut, same_part}
use Rattle.model_image.proofs.Writes.{SameBut-put_at, SameBut-PartlyPut, part-put_at, byte-put_at, cells-state, cells-data, cell_at-cells_of}

module _ (total block : ℕ) (inside : block < total) where
  -- one write of the state byte
  pub state_step : (before after : List ℕ) (cell : Cell) → SameBut (state_offset block) 1 before after → cell_of (slice_index after (state_offset block)) (data_in total before block) ≡ cell → SetsCell total block cell before after
  state_step before after cell change is = record {
    as_long = change.as_long;
    header = same_part 0 16 before after change.as_long (λ k low high. change.same k (inl (omega arith)));
    cells = cells-state total before after block inside change ∙ ap (set (cells_of total before) block) is;
  }

  -- one write of the data
  data_step : (before after : List ℕ) (cell : Cell) → SameBut (data_offset total block) 32768 before after → cell_of (slice_index before (state_offset block)) (data_in total after block) ≡ cell → SetsCell total block cell before after
  data_step before after cell change is = record {
    as_long = change.as_long;
    header = same_part 0 16 before after change.as_long (λ k low high. change.same k (inl (omega arith)));
    cells = cells-data total before after block inside change ∙ ap (set (cells_of total before) block) is;
  }

  -- one after the other
  pub then_sets : (first before after : List ℕ) (c d : Cell) → SetsCell total block c first before → SetsCell total block d before after → SetsCell total block d first after
  then_sets first before after c d one two = record {
    as_long = two.as_long ∙ one.as_long;
    header = two.header ∙ one.header;
    cells = two.cells ∙ ap (λ cells. set cells block d) one.cells ∙ set-set (cells_of total first) block c d;
  }

  -- a whole write of the state byte
  pub state_put : (byte : ℕ) (cell : Cell) (held : List ℕ) → length held ≡ image_len total → cell_of byte (data_in total held block) ≡ cell → SetsCell total block cell held (put_at (state_offset block) (byte ∷ []) held)
  state_put byte cell held whole is =
      state_step held (put_at (state_offset block) (byte ∷ []) held) cell (SameBut-put_at (state_offset block) (byte ∷ []) held (omega arith))
      (ap (λ s. cell_of s (data_in total held block)) (byte-put_at (state_offset block) byte held (omega arith)) ∙ is)

  -- a write of the state byte that failed half way: the byte is the old or the new one
  pub state_stopped : (byte : ℕ) (before after : List ℕ) (P : ℕ → Type 0) → PartlyPut (state_offset block) (byte ∷ []) before after → P (slice_index before (state_offset block)) → P byte → P (slice_index after (state_offset block))
  state_stopped byte before after P put old new = cases (put.each (state_offset block))
    where
      cases : (slice_index after (state_offset block) ≡ slice_index before (state_offset block)) ⊎ ((state_offset block ≤ state_offset block) × (state_offset block < state_offset block + 1) × (slice_index after (state_offset block) ≡ slice_index (byte ∷ []) (state_offset block - state_offset block)))
          → P (slice_index after (state_offset block))
      cases (inl e) = subst P (sym e) old
      cases (inr p) = subst P (sym (p.2 ∙ ap (slice_index (byte ∷ [])) none)) new
        where
          none : state_offset block - state_offset block ≡ 0
          none = omega arith

  module _ (held from : List ℕ) (whole : length held ≡ image_len total) (long : length from ≡ 32768) where
    abbrev first : List ℕ
    first = put_at (state_offset block) (2 ∷ []) held

    abbrev second : List ℕ
    second = put_at (data_offset total block) from first

    abbrev third : List ℕ
    third = put_at (state_offset block) (1 ∷ []) second

    first_sets : SetsCell total block Torn held first
    first_sets = state_put 2 Torn held whole refl

    first_state : slice_index first (state_offset block) ≡ 2
    first_state = byte-put_at (state_offset block) 2 held (omega arith)

    first_long : length first ≡ image_len total
    first_long = first_sets.as_long ∙ whole

    data_change : SameBut (data_offset total block) 32768 first second
    data_change = subst (λ n. SameBut (data_offset total block) n first second) long (SameBut-put_at (data_offset total block) from first (omega (arith, first_long, long)))

    data_now : data_in total second block ≡ from
    data_now = part-put_at (data_offset total block) 32768 from first (omega (arith, first_long)) long

    second_sets : SetsCell total block Torn held second
    second_sets = then_sets held first second Torn Torn first_sets (data_step first second Torn data_change (ap (λ s. cell_of s (data_in total second block)) first_state))

    second_long : length second ≡ image_len total
    second_long = second_sets.as_long ∙ whole

    second_state : slice_index second (state_offset block) ≡ 2
    second_state = data_change.same (state_offset block) (inl (omega arith)) ∙ first_state

    pub third_sets : SetsCell total block (Good from) held third
    third_sets = then_sets held second third Torn (Good from) second_sets (state_put 1 (Good from) second second_long (ap Good data_now))

    -- the first write failed half way
    pub stopped_first : (after : List ℕ) → PartlyPut (state_offset block) (2 ∷ []) held after → StopsInCell total block from held after
    stopped_first after put = record {
      cell = cell_of (slice_index after (state_offset block)) (data_in total held block);
      may = state_stopped 2 held after (λ s. MayLeave (cell_at (cells_of total held) block) from (cell_of s (data_in total held block))) put
          (inl (sym (cell_at-cells_of total held block inside))) (inr (inr (inl refl)));
      sets = state_step held after _ (SameBut-PartlyPut (state_offset block) (2 ∷ []) held after put) refl;
    }

    -- the second did
    pub stopped_second : (after : List ℕ) → PartlyPut (data_offset total block) from first after → StopsInCell total block from held after
    stopped_second after put = record {
      cell = Torn;
      may = inr (inr (inl refl));
      sets = then_sets held first after Torn Torn first_sets (data_step first after Torn
          (subst (λ n. SameBut (data_offset total block) n first after) long (SameBut-PartlyPut (data_offset total block) from first after put))
          (ap (λ s. cell_of s (data_in total after block)) first_state));
    }

    -- the third did
    pub stopped_third : (after : List ℕ) → PartlyPut (state_offset block) (1 ∷ []) second after → StopsInCell total block from held after
    stopped_third after put = record {
      cell = cell_of (slice_index after (state_offset block)) (data_in total second block);
      may = state_stopped 1 second after (λ s. MayLeave (cell_at (cells_of total held) block) from (cell_of s (data_in total second block))) put
          (inr (inr (inl (ap (λ s. cell_of s (data_in total second block)) second_state)))) (inr (inl (ap Good data_now)));
      sets = then_sets held second after Torn _ second_sets (state_step second after _ (SameBut-PartlyPut (state_offset block) (1 ∷ []) second after put) refl);
    }

-- The same where the bytes of the image may not be known: what the three writes did, one by one.
module _ (total block : ℕ) (inside : block < total) (before : Option (List ℕ)) (from : List ℕ) (whole : ForSome before (λ held. length held ≡ image_len total)) (long : length from ≡ 32768) where
  pub known-written : (b1 b2 after : Option (List ℕ)) → b1 ≡ option_map (put_at (state_offset block) (2 ∷ [])) before → b2 ≡ option_map (put_at (data_offset total block) from) b1
      → after ≡ option_map (put_at (state_offset block) (1 ∷ [])) b2 → WhereKnown before after (SetsCell total block (Good from))
  known-written b1 b2 after e1 e2 e3 =
      subst (λ o. WhereKnown before o (SetsCell total block (Good from))) (sym (e3 ∙ ap (option_map (put_at (state_offset block) (1 ∷ []))) (e2 ∙ ap (option_map (put_at (data_offset total block) from)) e1))) (cases before whole)
    where
      cases : (o : Option (List ℕ)) → ForSome o (λ held. length held ≡ image_len total)
          → WhereKnown o (option_map (put_at (state_offset block) (1 ∷ [])) (option_map (put_at (data_offset total block) from) (option_map (put_at (state_offset block) (2 ∷ [])) o))) (SetsCell total block (Good from))
      cases None h = tt
      cases (Some held) h = third_sets total block inside held from (h held refl) long

  -- what a failed write leaves, as the image's rule says it
  abbrev Stopped : ℕ → List ℕ → Option (List ℕ) → Option (List ℕ) → Type 0
  Stopped at bytes o p = MatchOption o (p ≡ o) (λ held. MatchOption p ⊥ (λ held'. PartlyPut at bytes held held'))

  pub known-stopped_first : (after : Option (List ℕ)) → Stopped (state_offset block) (2 ∷ []) before after → WhereKnown before after (StopsInCell total block from)
  known-stopped_first after stopped = cases before after whole stopped
    where
      cases : (o p : Option (List ℕ)) → ForSome o (λ held. length held ≡ image_len total) → Stopped (state_offset block) (2 ∷ []) o p → WhereKnown o p (StopsInCell total block from)
      cases None None h s = tt
      cases None (Some held') h s = absurd (cc)
      cases (Some held) None h s = absurd s
      cases (Some held) (Some held') h s = stopped_first total block inside held from (h held refl) long held' s

  pub known-stopped_second : (b1 after : Option (List ℕ)) → b1 ≡ option_map (put_at (state_offset block) (2 ∷ [])) before → Stopped (data_offset total block) from b1 after → WhereKnown before after (StopsInCell total block from)
  known-stopped_second b1 after e1 stopped = cases before after whole (subst (λ o. Stopped (data_offset total block) from o after) e1 stopped)
    where
      cases : (o p : Option (List ℕ)) → ForSome o (λ held. length held ≡ image_len total) → Stopped (data_offset total block) from (option_map (put_at (state_offset block) (2 ∷ [])) o) p → WhereKnown o p (StopsInCell total block from)
      cases None None h s = tt
      cases None (Some held') h s = absurd (cc)
      cases (Some held) None h s = absurd s
      cases (Some held) (Some held') h s = stopped_second total block inside held from (h held refl) long held' s

  pub known-stopped_third : (b1 b2 after : Option (List ℕ)) → b1 ≡ option_map (put_at (state_offset block) (2 ∷ [])) before → b2 ≡ option_map (put_at (data_offset total block) from) b1
      → Stopped (state_offset block) (1 ∷ []) b2 after → WhereKnown before after (StopsInCell total block from)
  known-stopped_third b1 b2 after e1 e2 stopped = cases before after whole (subst (λ o. Stopped (state_offset block) (1 ∷ []) o after) (e2 ∙ ap (option_map (put_at (data_offset total block) from)) e1) stopped)
    where
      cases : (o p : Option (List ℕ)) → ForSome o (λ held. length held ≡ image_len total)
          → Stopped (state_offset block) (1 ∷ []) (option_map (put_at (data_offset total block) from) (option_map (put_at (state_offset block) (2 ∷ [])) o)) p → WhereKnown o p (StopsInCell total block from)
      cases None None h s = tt
      cases None (Some held') h s = absurd (cc)
      cases (Some held) None h s = absurd s
      cases (Some held) (Some held') h s = stopped_third total block inside held from (h held refl) long held' s

  -- the last write finds the image as long as it was
  pub known-second_long : (b1 b2 : Option (List ℕ)) → b1 ≡ option_map (put_at (state_offset block) (2 ∷ [])) before → b2 ≡ option_map (put_at (data_offset total block) from) b1
      → ForSome b2 (λ held. length held ≡ image_len total)
  known-second_long b1 b2 e1 e2 = cases before b2 whole (e2 ∙ ap (option_map (put_at (data_offset total block) from)) e1)
    where
      cases : (o p : Option (List ℕ)) → ForSome o (λ held. length held ≡ image_len total) → p ≡ option_map (put_at (data_offset total block) from) (option_map (put_at (state_offset block) (2 ∷ [])) o)
          → ForSome p (λ held. length held ≡ image_len total)
      cases None p h e held is = absurd (let clash : Some held ≡ None = sym is ∙ e in cc)
      cases (Some first_held) p h e held is =
          let both : Some held ≡ Some (put_at (data_offset total block) from (put_at (state_offset block) (2 ∷ []) first_held)) = sym is ∙ e in
          let same : held ≡ put_at (data_offset total block) from (put_at (state_offset block) (2 ∷ []) first_held) = (cc) in
          ap length same ∙ second_long total block inside first_held from (h first_held refl) long
