-- What is told of kept blocks and of found ones where they are more than may be slipped: for `too_many`. (This project's own, as
-- all here.)
use Rattle.std.specs.Prelude.{◌≡◌, ℕ, ◌+◌, ◌<◌, ◌≤◌, Option, Some, None, List, length}
use Rattle.model_geometry.specs.declared.kinds.LayoutKind.{LayoutKind}
use Rattle.model_geometry.specs.declared.kinds.LayoutKind.TheVariants.{OneGroup, EachZone}
use Rattle.model_geometry.specs.Geometry.{Shape}
use Rattle.model_lists.specs.declared.dds.PdlEntry.{PdlEntry}
use Rattle.model_lists.specs.Values.{pdl_blocks}
use Rattle.model_places.specs.Valid.{slipped_in}

module _ (shape : Shape) (kept : List PdlEntry) where
  -- all of them, where they are more than the spares
  abbrev pub TellsInAll : (count : ℕ) → Option ℕ → Type 0
  TellsInAll count None = length kept + count ≤ shape.psa
  TellsInAll count (Some all) = (all ≡ length kept + count) × (shape.psa < all)

  -- how many of both lie in a zone
  abbrev pub both_in : (found : List ℕ) (zone : ℕ) → ℕ
  both_in found zone = slipped_in shape (pdl_blocks kept) zone + slipped_in shape found zone

  -- This zone is the first that has more of both than its spares.
  pub record IsFirstOver (found : List ℕ) (zone : ℕ) : Type 0 where
    pub inside : zone < shape.zones
    pub over : shape.psa < both_in found zone
    pub first : (before : ℕ) → before < zone → both_in found before ≤ shape.psa

  -- those of the first zone where they are more than its spares
  abbrev pub TellsZone : (found : List ℕ) → Option ℕ → Type 0
  TellsZone found None = (zone : ℕ) → zone < shape.zones → both_in found zone ≤ shape.psa
  TellsZone found (Some many) = (zone : ℕ) × IsFirstOver found zone × (many ≡ both_in found zone)

  abbrev pub tells_by_kind : LayoutKind → (found : List ℕ) (count : ℕ) → Option ℕ → Type 0
  tells_by_kind OneGroup found count = TellsInAll count
  tells_by_kind EachZone found count = TellsZone found

  -- What is told by the kind of the layout, of the first found ones and of how many were found.
  abbrev pub TellsTooMany : (found : List ℕ) (count : ℕ) → Option ℕ → Type 0
  TellsTooMany = tells_by_kind shape.layout
