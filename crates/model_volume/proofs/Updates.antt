-- Which discs fit while a logical block is written and moved.
use Rattle.std.proofs.Common.{◌≡◌, ◌≢◌, ℕ, ◌<◌, ◌⊎◌, inl, inr, List, [], ◌∷◌, refl, sym, ◌∙◌, subst, arith, ◌+◌, eqb, cond}
use Rattle.std.specs.List.{Contains}
use Rattle.std.proofs.lemmas.Bool.{cases_eq, cond_both}
use Rattle.model_geometry.specs.Geometry.{Shape, lead_out, data_blocks, dds_block, sdl_block}
use Rattle.model_geometry.proofs.ListBlocks.{no_data_block_dds, no_data_block_sdl, lead_out_late}
use Rattle.model_lists.specs.Texts.{IsDdsText}
use Rattle.model_medium.specs.Cells.{Cell, Good, IsGood, cell_at}
use Rattle.model_sectors.specs.Discs.{Agrees, block_of}
use Rattle.model_sectors.proofs.Fitting.{agrees_not_good}
use Rattle.model_copies.specs.Copies.{Settled, HoldsOrDead}
use Rattle.model_geometry.specs.Geometry.{sdl_second_block}
use Rattle.model_copies.specs.Parts.{SdlIsBetween}
use Rattle.model_copies.proofs.SdlParts.{settled_same}
use Rattle.model_volume.proofs.ListCells.{no_data_block_second}
use Rattle.model_places.specs.Places.{Lists, logical_count, home_of}
use Rattle.model_places.specs.Valid.{AreValid}
use Rattle.model_volume.specs.Given.{AreSettled}
use Rattle.model_volume.specs.Covers.{FitsUnder, SomeFit, Cover}
use Rattle.model_volume.specs.Moves.{lists_moved, sdl_moved, IsNextSpare, DiffersAt, OnlyMoves, OnlyData}
use Rattle.model_volume.proofs.GivenFacts.{settled_alone, pair_between}
use Rattle.model_volume.proofs.Moved.{home_is_data_block, homes_apart, home_not_free, free_is_data, home_moved, home_stays}

-- the first list's block of an area is one of four
one_of_four : (shape : Shape) (area : ℕ) → (dds_block shape area ≡ 0) ⊎ (dds_block shape area ≡ 2) ⊎ (dds_block shape area ≡ lead_out shape) ⊎ (dds_block shape area ≡ lead_out shape + 2)
one_of_four shape area =
    let P : ℕ → Type 0 = λ x. (x ≡ 0) ⊎ (x ≡ 2) ⊎ (x ≡ lead_out shape) ⊎ (x ≡ lead_out shape + 2) in
    cond_both (eqb area 1) 0 (cond (eqb area 2) 2 (cond (eqb area 3) (lead_out shape) (lead_out shape + 2))) P (λ _. inl refl)
    (λ _. cond_both (eqb area 2) 2 (cond (eqb area 3) (lead_out shape) (lead_out shape + 2)) P (λ _. inr (inl refl))
    (λ _. cond_both (eqb area 3) (lead_out shape) (lead_out shape + 2) P (λ _. inr (inr (inl refl))) (λ _. inr (inr (inr refl)))))

pub agrees_good : (cell : Cell) (bytes : List ℕ) → cell ≡ Good bytes → Agrees cell bytes
agrees_good cell bytes good = subst (λ (c : Cell). Agrees c bytes) (sym good) refl

-- so no block is of both lists
pub dds_no_sdl : (shape : Shape) (area at : ℕ) → dds_block shape area ≡ sdl_block shape at → ⊥
dds_no_sdl shape area at same =
    let late = lead_out_late shape in
    let a = one_of_four shape area in
    let b = one_of_four shape at in
    grind (arith, late, a, b, same)

second_of_four : (shape : Shape) (area : ℕ) → (sdl_second_block shape area ≡ 4) ⊎ (sdl_second_block shape area ≡ 5) ⊎ (sdl_second_block shape area ≡ lead_out shape + 4) ⊎ (sdl_second_block shape area ≡ lead_out shape + 5)
second_of_four shape area =
    let P : ℕ → Type 0 = λ x. (x ≡ 4) ⊎ (x ≡ 5) ⊎ (x ≡ lead_out shape + 4) ⊎ (x ≡ lead_out shape + 5) in
    cond_both (eqb area 1) 4 (cond (eqb area 2) 5 (cond (eqb area 3) (lead_out shape + 4) (lead_out shape + 5))) P (λ _. inl refl)
    (λ _. cond_both (eqb area 2) 5 (cond (eqb area 3) (lead_out shape + 4) (lead_out shape + 5)) P (λ _. inr (inl refl))
    (λ _. cond_both (eqb area 3) (lead_out shape + 4) (lead_out shape + 5) P (λ _. inr (inr (inl refl))) (λ _. inr (inr (inr refl)))))

pub dds_no_second : (shape : Shape) (area at : ℕ) → dds_block shape area ≡ sdl_second_block shape at → ⊥
dds_no_second shape area at same =
    let late = lead_out_late shape in
    let a = one_of_four shape area in
    let b = second_of_four shape at in
    grind (arith, late, a, b, same)

pub sdl_no_second : (shape : Shape) (area at : ℕ) → sdl_block shape area ≡ sdl_second_block shape at → ⊥
sdl_no_second shape area at same =
    let late = lead_out_late shape in
    let a = one_of_four shape area in
    let b = second_of_four shape at in
    grind (arith, late, a, b, same)

module _ (shape : Shape) (lists : Lists) (valid : AreValid shape lists) (i : ℕ) (inside : i < logical_count shape lists) (old new : List Cell) (only : OnlyMoves shape old new lists i) where
  -- the home of another logical block is as it was
  pub other_home : (j : ℕ) → j < logical_count shape lists → j ≢ i → cell_at new (home_of shape lists j) ≡ cell_at old (home_of shape lists j)
  other_home j h ne = only (home_of shape lists j)
      (λ same. ne (homes_apart shape lists valid j i h inside same))
      (home_not_free shape lists valid i j h)
      (λ area same. no_data_block_sdl shape area (subst (Contains (data_blocks shape)) same (home_is_data_block shape lists valid j h)))
      (λ area same. no_data_block_second shape area (subst (Contains (data_blocks shape)) same (home_is_data_block shape lists valid j h)))

  -- the first list's copies are as they were
  pub dds_same : (area : ℕ) → cell_at new (dds_block shape area) ≡ cell_at old (dds_block shape area)
  dds_same area = only (dds_block shape area)
      (λ same. no_data_block_dds shape area (subst (Contains (data_blocks shape)) (sym same) (home_is_data_block shape lists valid i inside)))
      (λ free. no_data_block_dds shape area (free_is_data shape lists valid i (dds_block shape area) free))
      (λ at same. dds_no_sdl shape area at same)
      (λ at same. dds_no_second shape area at same)

  pub dds_settled : AreSettled shape old lists → Settled IsDdsText (dds_block shape) new lists.dds
  dds_settled settled area is = subst (λ (c : Cell). HoldsOrDead IsDdsText c lists.dds) (sym (dds_same area)) (settled.dds area is)

  -- the disc as it was fits where the home is as it was or has no whole bytes
  pub fits_before : (disc : List ℕ) → (cell_at new (home_of shape lists i) ≡ cell_at old (home_of shape lists i)) ⊎ ¬ IsGood (cell_at new (home_of shape lists i))
      → FitsUnder shape old lists disc → FitsUnder shape new lists disc
  fits_before disc left fits = record {
    as_long = fits.as_long;
    agrees = λ j h. elim (cases_eq j i) [
      | inl e ↦ subst (λ (k : ℕ). Agrees (cell_at new (home_of shape lists k)) (block_of disc k)) (sym e) (here left)
      | inr ne ↦ subst (λ (c : Cell). Agrees c (block_of disc j)) (sym (other_home j h ne)) (fits.agrees j h)
    ];
  }
    where
      here : (cell_at new (home_of shape lists i) ≡ cell_at old (home_of shape lists i)) ⊎ ¬ IsGood (cell_at new (home_of shape lists i)) → Agrees (cell_at new (home_of shape lists i)) (block_of disc i)
      here (inl same) = subst (λ (c : Cell). Agrees c (block_of disc i)) (sym same) (fits.agrees i inside)
      here (inr bad) = agrees_not_good (cell_at new (home_of shape lists i)) (block_of disc i) bad

  module _ (bytes disc disc' : List ℕ) (differs : DiffersAt i bytes disc disc') (fits : FitsUnder shape old lists disc) where
    others_agree : (j : ℕ) → j < logical_count shape lists → j ≢ i → Agrees (cell_at new (home_of shape lists j)) (block_of disc' j)
    others_agree j h ne =
        subst (λ (c : Cell). Agrees c (block_of disc' j)) (sym (other_home j h ne))
        (subst (Agrees (cell_at old (home_of shape lists j))) (sym (differs.others j ne)) (fits.agrees j h))

    -- the disc as written fits where the home has the bytes
    pub fits_written : Agrees (cell_at new (home_of shape lists i)) bytes → FitsUnder shape new lists disc'
    fits_written good = record {
      as_long = differs.as_long ∙ fits.as_long;
      agrees = λ j h. elim (cases_eq j i) [
        | inl e ↦ subst (λ (k : ℕ). Agrees (cell_at new (home_of shape lists k)) (block_of disc' k)) (sym e)
            (subst (Agrees (cell_at new (home_of shape lists i))) (sym differs.here) good)
        | inr ne ↦ others_agree j h ne
      ];
    }

    module _ (failed : List ℕ) (spare : ℕ) (next : IsNextSpare shape lists i failed spare) (has : Agrees (cell_at new spare) bytes) where
      -- under the new lists it fits where the spare has the bytes
      pub fits_moved : FitsUnder shape new (lists_moved shape lists i failed spare) disc'
      fits_moved = record {
        as_long = differs.as_long ∙ fits.as_long;
        agrees = λ j h. elim (cases_eq j i) [
          | inl e ↦ subst (λ (k : ℕ). Agrees (cell_at new (home_of shape (lists_moved shape lists i failed spare) k)) (block_of disc' k)) (sym e)
              (subst (λ (b : ℕ). Agrees (cell_at new b) (block_of disc' i)) (sym (home_moved shape lists valid i inside failed spare next))
              (subst (Agrees (cell_at new spare)) (sym differs.here) has))
          | inr ne ↦ subst (λ (b : ℕ). Agrees (cell_at new b) (block_of disc' j)) (sym (home_stays shape lists valid i inside failed spare next j h ne)) (others_agree j h ne)
        ];
      }

      -- In an update of the second list, one of the two discs fits under the lists that are given, whichever these are.
      pub cover_between : AreSettled shape old lists → ¬ IsGood (cell_at new (home_of shape lists i))
          → SdlIsBetween shape new lists.sdl (sdl_moved shape lists i failed spare) → Cover shape new (disc ∷ disc' ∷ [])
      cover_between settled dead between other given = elim (pair_between shape new lists.dds lists.sdl (sdl_moved shape lists i failed spare) other (dds_settled settled) valid.together.same_version between given) [
        | inl before ↦ inl (subst (λ (l : Lists). FitsUnder shape new l disc) (sym before) (fits_before disc (inr dead) fits))
        | inr after ↦ inr (inl (subst (λ (l : Lists). FitsUnder shape new l disc') (sym after) fits_moved))
      ]

    -- Before it, the lists are settled as before, and one of the discs fits.
    pub cover_settled : AreSettled shape new lists → (cell_at new (home_of shape lists i) ≡ cell_at old (home_of shape lists i)) ⊎ (cell_at new (home_of shape lists i) ≡ Good bytes) ⊎ ¬ IsGood (cell_at new (home_of shape lists i))
        → Cover shape new (disc ∷ disc' ∷ [])
    cover_settled settled left other given =
        subst (λ (l : Lists). SomeFit shape new l (disc ∷ disc' ∷ [])) (sym (settled_alone shape new lists other settled valid.together.same_version given)) (here left)
      where
        here : (cell_at new (home_of shape lists i) ≡ cell_at old (home_of shape lists i)) ⊎ (cell_at new (home_of shape lists i) ≡ Good bytes) ⊎ ¬ IsGood (cell_at new (home_of shape lists i)) → SomeFit shape new lists (disc ∷ disc' ∷ [])
        here (inl same) = inl (fits_before disc (inl same) fits)
        here (inr (inl good)) = inr (inl (fits_written (agrees_good (cell_at new (home_of shape lists i)) bytes good)))
        here (inr (inr bad)) = inl (fits_before disc (inr bad) fits)

-- While the lists' cells are as they were, the lists stay settled.
module _ (shape : Shape) (lists : Lists) (valid : AreValid shape lists) (i : ℕ) (inside : i < logical_count shape lists) (old new : List Cell) (only : OnlyData shape old new lists i) where
  pub data_moves : OnlyMoves shape old new lists i
  data_moves block home free none none' = only block home free

  pub list_same : (block : ℕ) → ¬ Contains (data_blocks shape) block → cell_at new block ≡ cell_at old block
  list_same block outside = only block
      (λ same. outside (subst (Contains (data_blocks shape)) (sym same) (home_is_data_block shape lists valid i inside)))
      (λ free. outside (free_is_data shape lists valid i block free))

  pub settled_kept : AreSettled shape old lists → AreSettled shape new lists
  settled_kept settled = record {
    dds = λ area is. subst (λ (c : Cell). HoldsOrDead IsDdsText c lists.dds) (sym (list_same (dds_block shape area) (no_data_block_dds shape area))) (settled.dds area is);
    sdl = settled_same shape old new lists.sdl (λ area is. list_same (sdl_block shape area) (no_data_block_sdl shape area)) (λ area is. list_same (sdl_second_block shape area) (no_data_block_second shape area)) settled.sdl;
  }
