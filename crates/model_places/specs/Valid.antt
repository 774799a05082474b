-- Which defect lists are valid for a geometry, and which size of the supplementary spares: for the laws on homes.
use Rattle.std.specs.Prelude.{◌≡◌, ℕ, zero, suc, ◌+◌, ◌*◌, ◌<◌, ◌≤◌, nat_lt, if◌then◌else◌, Bool, true, false, IsTrue, List, length}
use Rattle.std.specs.List.{filter}
use Rattle.std.specs.List.Sorted.{IsStrictlyIncreasing}
use Rattle.model_geometry.specs.declared.kinds.LayoutKind.{LayoutKind}
use Rattle.model_geometry.specs.declared.kinds.LayoutKind.TheVariants.{OneGroup, EachZone}
use Rattle.model_geometry.specs.Geometry.{Shape, is_inside, data_blocks, spare_room}
use Rattle.model_lists.specs.declared.dds.DdsState.TheVariants.{Formatted}
use Rattle.model_lists.specs.declared.versions.Version.{Version}
use Rattle.model_lists.specs.Values.{Dds, most_of}
use Rattle.model_pools.specs.Listed.{AreListed}
use Rattle.model_pools.specs.Pools.{AreValidUnder}
use Rattle.model_places.specs.Places.{Lists, slipped, pools_under}

-- how many of these blocks are data blocks of a zone (this project's own)
abbrev pub slipped_in : Shape → List ℕ → (zone : ℕ) → ℕ
slipped_in shape blocks zone = length (filter (λ block. is_inside shape block zone) blocks)

-- which blocks are few enough to be slipped, for each kind (this project's own)
abbrev pub slips_few_by : LayoutKind → Shape → List ℕ → Type 0
slips_few_by OneGroup shape blocks = length blocks ≤ shape.psa
slips_few_by EachZone shape blocks = (zone : ℕ) → zone < shape.zones → slipped_in shape blocks zone ≤ shape.psa

-- No more blocks are slipped than may be, by the kind of the layout: with one group, as many in all as there are primary
-- spares; with a group for each zone, as many in each zone. (This project's own.)
unfoldable pub SlipsFew : Shape → List ℕ → Type 0
SlipsFew shape blocks = slips_few_by shape.layout shape blocks

-- Of the first n zones, the number of the first one that has more than the limit; and 0 where none has. (This project's
-- own.)
abbrev pub first_over : (limit : ℕ) → (many : ℕ → ℕ) → (zones : ℕ) → ℕ
first_over limit many zero = 0
first_over limit many (suc zone) =
    if nat_lt limit (first_over limit many zone) then first_over limit many zone
    else (if nat_lt limit (many zone) then many zone else 0)

-- the number that is told of too many blocks, for each kind (this project's own)
abbrev pub told_by_kind : LayoutKind → Shape → List ℕ → ℕ
told_by_kind OneGroup shape blocks = length blocks
told_by_kind EachZone shape blocks = first_over shape.psa (slipped_in shape blocks) shape.zones

-- The number that is told where these are more blocks than may be slipped, by the kind of the layout: with one group, how
-- many they are in all; with a group for each zone, how many the first zone has that has too many. (This project's own.)
unfoldable pub told_too_many : Shape → List ℕ → ℕ
told_too_many shape blocks = told_by_kind shape.layout shape blocks

-- A primary defect list is valid for a geometry: its structure names the kind of its layout and its primary spares, and its
-- blocks are data blocks that rise, no more than may be slipped. (This project's own.)
pub record IsValidPdl (shape : Shape) (dds : Dds) : Type 0 where
  pub same_layout : dds.layout ≡ shape.layout
  pub same_psa : dds.psa ≡ shape.psa
  pub data_only : AreListed (data_blocks shape) (slipped dds)
  pub rising : IsStrictlyIncreasing (slipped dds)
  pub few : SlipsFew shape (slipped dds)

-- With a group of spares for each zone there is no supplementary area, and each zone has a logical block. (This project's own.)
pub record IsZoneArea (shape : Shape) (ssa : ℕ) : Type 0 where
  pub none : ssa ≡ 0
  pub each : shape.psa + 2 < shape.scale * 25

-- what the kind of a layout asks of a supplementary spare area (this project's own)
abbrev pub area_fits_by : LayoutKind → Shape → ℕ → Type 0
area_fits_by OneGroup shape ssa = Unit {0}
area_fits_by EachZone shape ssa = IsZoneArea shape ssa

-- A size of the supplementary spare area is valid: no more spares in all than a disc of this version may have, and a logical
-- block is left; and the layout may have it. (This project's own.)
pub record IsValidSsa (shape : Shape) (version : Version) (ssa : ℕ) : Type 0 where
  pub most : spare_room shape ssa ≤ most_of version
  pub some_logical : spare_room shape ssa < length (data_blocks shape)
  pub of_kind : area_fits_by shape.layout shape ssa

-- whether a supplementary area may grow, for each kind (this project's own)
abbrev pub area_grows_by : LayoutKind → Bool
area_grows_by OneGroup = true
area_grows_by EachZone = false

-- The supplementary spare area of a disc can grow, by the kind of the layout: with one group of spares it can, and with a
-- group for each zone it cannot. (This project's own.)
unfoldable pub AreaGrows : Shape → Type 0
AreaGrows shape = IsTrue (area_grows_by shape.layout)

-- a size is valid on a disc of some version (this project's own)
abbrev pub IsValidOnSome : Shape → ℕ → Type 0
IsValidOnSome shape ssa = (version : Version) × IsValidSsa shape version ssa

-- The secondary defect list of these is valid under the primary one: the size of its supplementary spare area is valid, and
-- so are its entries under the pools. (This project's own.)
pub record IsValidSdl (shape : Shape) (lists : Lists) : Type 0 where
  pub area : IsValidSsa shape lists.sdl.version lists.sdl.ssa
  pub entries : AreValidUnder (pools_under shape lists) lists.sdl.entries

-- The secondary defect list belongs to the structure: it has its version, names its counter, and is valid under it. (This
-- project's own.)
pub record BelongTogether (shape : Shape) (lists : Lists) : Type 0 where
  pub same_version : lists.sdl.version ≡ lists.dds.version
  pub same_counter : lists.sdl.dds_counter ≡ lists.dds.counter
  pub secondary : IsValidSdl shape lists

-- Both lists of a formatted disc are valid: the primary one by itself, the secondary one under it, and the structure
-- says Formatted. (This project's own.)
pub record AreValid (shape : Shape) (lists : Lists) : Type 0 where
  pub primary : IsValidPdl shape lists.dds
  pub together : BelongTogether shape lists
  pub formatted : lists.dds.state ≡ Formatted
