-- What holds of a drive from one call to the next, so that no cut loses its disc: its lists can be found. For the law of survival
-- over runs. (This project's own, as all here.)
use Rattle.std.specs.Prelude.{◌≡◌, ℕ, ◌*◌, ◌==◌, Some, List, [], ◌∷◌}
use Rattle.std.specs.List.{Contains, filter}
use Rattle.model_geometry.specs.Geometry.{Shape}
use Rattle.model_sectors.specs.declared.PowerOut.{PowerOut}
use Rattle.model_sectors.specs.declared.PowerOut.TheVariants as powers
use Rattle.model_lists.specs.declared.versions.Version.{Version}
use Rattle.model_medium.specs.Cells.{Dead, cell_at}
use Rattle.model_lists.specs.Values.{Dds, Sdl}
use Rattle.model_places.specs.Places.{count_of}
use Rattle.model_survival.specs.Findable.{HaveTwoCopies, IsFindable}
use Rattle.model_drive.specs.declared.ExpandOut.{ExpandOut}
use Rattle.model_drive.specs.declared.ExpandOut.TheVariants as expands
use Rattle.model_drive.specs.Shown.{Shown, IsOn, cells_in}
use Rattle.model_drive.specs.Expands.{ssa_for}

-- the lists of the disc can be found: with this structure, and the older or the newer secondary list
abbrev pub CanBeFound : Shown → Dds → Sdl → Sdl → Type 0
CanBeFound shown dds older newer = IsFindable shown.shape (cells_in shown) dds older newer

-- at least two copies of each list have no dead cell, where the secondary list is of this version
abbrev pub KeepsTwoCopies : Shown → Version → Type 0
KeepsTwoCopies shown version = HaveTwoCopies shown.shape (cells_in shown) version

-- The disc stays formatted, whatever cuts come: its lists can be found; the secondary list is of this version, and its area has one
-- of these sizes; and with the power on lists are in use.
pub record StaysFormatted (shown : Shown) (version : Version) (sizes : List ℕ) : Type 0 where
  pub dds : Dds
  pub older : Sdl
  pub newer : Sdl
  pub found : CanBeFound shown dds older newer
  pub of_version : older.version ≡ version
  pub size : Contains sizes older.ssa
  pub size' : Contains sizes newer.ssa
  pub in_use : IsOn shown → shown.lists ≡ Some (record { dds = dds; sdl = older })

-- A mount did not find the disc unformatted; and where it told a capacity, this is that of one of these sizes of the area.
abbrev pub TellsSize : Shape → (sizes : List ℕ) → PowerOut → Type 0
TellsSize shape sizes (powers.Ready known) =
    (ssa : ℕ) × Contains sizes ssa × (known ≡ count_of shape ssa * 16)
TellsSize shape sizes powers.NotFormatted = ⊥
TellsSize shape sizes out = Unit {0}

-- The sizes that the area may have after a mount: where it told a capacity, those that give it.
abbrev pub sizes_found : Shape → PowerOut → List ℕ → List ℕ
sizes_found shape (powers.Ready known) sizes = filter (λ ssa. count_of shape ssa * 16 == known) sizes
sizes_found shape out sizes = sizes

-- The sizes that the area may have after an expansion that was to leave n sectors: the one that leaves them, where it is good;
-- that one too, where it was stopped; and else those that it might have before.
abbrev pub sizes_expanded : Shape → (sectors : ℕ) → ExpandOut → List ℕ → List ℕ
sizes_expanded shape sectors expands.Good sizes = ssa_for shape sectors ∷ []
sizes_expanded shape sectors expands.Cut sizes = ssa_for shape sectors ∷ sizes
sizes_expanded shape sectors expands.Fault sizes = ssa_for shape sectors ∷ sizes
sizes_expanded shape sectors out sizes = sizes

-- dead cells stay dead
abbrev pub DeadStay : Shown → Shown → Type 0
DeadStay old new = (block : ℕ) → cell_at (cells_in old) block ≡ Dead → cell_at (cells_in new) block ≡ Dead
