-- The cells of an image whose bytes may not be known, after a write of one.
use Rattle.std.specs.Prelude.{◌≡◌, ℕ, Option, Some, None, is_some, IfSome, List, [], length, set}
use Rattle.std.specs.Bool.{OnTrue, OnFalse}
use Rattle.std.proofs.Common.{refl, sym, ap, ◌∙◌, subst}
use Rattle.std.proofs.lemmas.List.{set-get_or}
use Rattle.std.proofs.lemmas.List.FromFn.{length-map-range_with_len}
use Rattle.model_bytes.specs.Known.{WhereKnown}
use Rattle.model_geometry.specs.Geometry.{Shape, total}
use Rattle.model_medium.specs.Cells.{Cell, Dead, cell_at}
use Rattle.model_image.specs.Cells.{cell_in, cells_of, cells_known, SetsCell}

pub shows_none_unknown : (shape : Shape) (bytes : Option (List ℕ)) → OnFalse (is_some bytes) (cells_known (total shape) bytes ≡ [])
shows_none_unknown shape None = refl
shows_none_unknown shape (Some held) = tt

-- what holds of bytes that are known holds under more that is known of the first
pub known_more : (R Q : List ℕ → List ℕ → Type 0) (P : List ℕ → Type 0) → ((held held' : List ℕ) → P held → R held held' → Q held held') → (before after : Option (List ℕ)) → IfSome before P → WhereKnown before after R → WhereKnown before after Q
known_more R Q P step None None p r = tt
known_more R Q P step None (Some held') p r = absurd r
known_more R Q P step (Some held) None p r = absurd r
known_more R Q P step (Some held) (Some held') p r = step held held' p r

pub same_where_known : (R : List ℕ → List ℕ → Type 0) (P : List ℕ → Type 0) → ((held : List ℕ) → P held → R held held) → (before after : Option (List ℕ)) → IfSome before P → after ≡ before → WhereKnown before after R
same_where_known R P step before after p e = subst (λ o. WhereKnown before o R) (sym e) (cases before p)
  where
    cases : (o : Option (List ℕ)) → IfSome o P → WhereKnown o o R
    cases None p = tt
    cases (Some held) p = step held p

-- a cell that is set to what it is stays, with all others
pub sets_same : (total block : ℕ) (held : List ℕ) (cell : Cell) → cell ≡ cell_at (cells_of total held) block → SetsCell total block cell held held
sets_same total block held cell e = record { as_long = refl; header = refl; cells = sym (ap (set (cells_of total held) block) e ∙ set-get_or (cells_of total held) block Dead) }

-- one cell for each block
pub length-cells_known : (total : ℕ) (bytes : Option (List ℕ)) → OnTrue (is_some bytes) (length (cells_known total bytes) ≡ total)
length-cells_known total None = tt
length-cells_known total (Some held) = length-map-range_with_len (cell_in total held) 0 total
