-- The certificate of a disc: which lines tell what its cells hold. (This project's own, as all here.)
use Rattle.std.specs.Prelude.{◌≡◌, ℕ, ◌*◌, ◌⊎◌, Bool, true, false, if◌then◌else◌, Option, Some, None, List, [], ◌∷◌, ◌++◌, length, map}
use Rattle.std.specs.List.{flat_map, range_with_len}
use Rattle.model_geometry.specs.declared.kinds.LayoutKind.{LayoutKind}
use Rattle.model_geometry.specs.declared.kinds.LayoutKind.TheVariants.{OneGroup, EachZone}
use Rattle.model_geometry.specs.Geometry.{Shape, shape_in, SparesFitZones, dds_block, sdl_block, sdl_second_block}
use Rattle.model_medium.specs.Cells.{Cell, Blank, Good, Torn, Dead, IsGood, cell_at}
use Rattle.model_lists.specs.declared.dds.PdlEntry.{PdlEntry}
use Rattle.model_lists.specs.declared.sdl.SdlEntry.{SdlEntry}
use Rattle.model_lists.specs.declared.versions.Version.{Version}
use Rattle.model_lists.specs.declared.versions.Version.TheVariants as versions
use Rattle.model_lists.specs.Texts.{IsDdsText, IsSdlText, IsSdlSecond}
use Rattle.model_copies.specs.Copies.{Holds}
use Rattle.model_copies.specs.Parts.{Mark}
use Rattle.model_places.specs.Places.{Lists, logical_count, home_of}
use Rattle.model_volume.specs.Given.{AreChosen, ChoosesNone}
use Rattle.model_audit.specs.declared.lines.CopyState.{CopyState}
use Rattle.model_audit.specs.declared.lines.CopyState.TheVariants as states
use Rattle.model_audit.specs.declared.lines.CertificateLine.{CertificateLine}
use Rattle.model_audit.specs.declared.lines.CertificateLine.TheVariants as lines

-- ---- the lists

-- the first two lines
abbrev pub head_lines : Shape → List CertificateLine
head_lines shape = lines.Audit ∷ lines.Geometry shape.zones shape.scale shape.psa shape.layout ∷ []

-- the line of an entry of the primary list
abbrev pub pdl_line : PdlEntry → CertificateLine
pdl_line entry = lines.Pdl entry.block entry.kind

-- the line of an entry of the secondary list, by its replacement
abbrev pub replaced_line : ℕ → Option ℕ → CertificateLine
replaced_line defective (Some replacement) = lines.Pair defective replacement
replaced_line defective None = lines.Retired defective

-- the line of an entry of the secondary list
abbrev pub sdl_line : SdlEntry → CertificateLine
sdl_line entry = replaced_line entry.defective entry.replacement

-- the lines of both lists, which were found in these areas, before others
abbrev pub list_lines : Lists → (dds_area sdl_area : ℕ) → List CertificateLine → List CertificateLine
list_lines lists dds_area sdl_area others =
    lines.Dds lists.dds.version lists.dds.counter dds_area
    ∷ (map pdl_line lists.dds.entries
    ++ (lines.Sdl lists.sdl.counter sdl_area lists.sdl.ssa ∷ (map sdl_line lists.sdl.entries ++ others)))

-- ---- their copies

-- the parts of the copy of one area: the structure, the first block of the secondary list, and its second one
pub data ListPart : Type 0 where
  Structure : ListPart
  First : ListPart
  Second : ListPart

-- the bytes are this part of the text of these lists
abbrev pub IsPartOf : Lists → ListPart → List ℕ → Type 0
IsPartOf lists Structure bytes = IsDdsText lists.dds bytes
IsPartOf lists First bytes = IsSdlText lists.sdl bytes
IsPartOf lists Second bytes = IsSdlSecond lists.sdl bytes

-- the cell holds this part of the text of these lists
abbrev pub HoldsPart : Lists → ListPart → Cell → Type 0
HoldsPart lists part cell = Holds (IsPartOf lists) cell part

-- the second block, in the version that has one
abbrev pub second_cell : Shape → Version → (area : ℕ) → List (ℕ × ListPart)
second_cell shape versions.One area = []
second_cell shape versions.Two area = (sdl_second_block shape area, Second) ∷ []

-- the cells of the copies of one area, in the order of the lines
abbrev pub area_cells : Shape → Version → (area : ℕ) → List (ℕ × ListPart)
area_cells shape version area =
    (dds_block shape area, Structure) ∷ ((sdl_block shape area, First) ∷ second_cell shape version area)

-- the cells of all copies: area after area
unfoldable pub list_cells : Shape → Version → List (ℕ × ListPart)
list_cells shape version =
    area_cells shape version 1 ++ (area_cells shape version 2 ++ (area_cells shape version 3 ++ area_cells shape version 4))

-- What a cell has, beside what it should hold.
abbrev pub CellSays : Lists → ListPart → Cell → CopyState → Type 0
CellSays lists part cell states.Exact = HoldsPart lists part cell
CellSays lists part cell states.Other = IsGood cell × ¬ HoldsPart lists part cell
CellSays lists part cell states.Unread = (cell ≡ Blank) ⊎ (cell ≡ Torn)
CellSays lists part cell states.Dead = cell ≡ Dead

-- The lines of these cells: one for each, in their order.
abbrev pub AreCopyLines : List Cell → Lists → List (ℕ × ListPart) → List CertificateLine → Type 0
AreCopyLines cells lists [] told = told ≡ []
AreCopyLines cells lists (place ∷ places) told = (state : CopyState) × (others : List CertificateLine)
    × (told ≡ lines.Copy place.0 state ∷ others)
    × CellSays lists place.1 (cell_at cells place.0) state × AreCopyLines cells lists places others

-- ---- the homes

-- whether a cell has whole bytes
abbrev pub is_whole : Cell → Bool
is_whole Blank = false
is_whole (Good bytes) = true
is_whole Torn = false
is_whole Dead = false

-- the line of a logical block, where its home has no whole bytes
abbrev pub lost_home_line : Shape → List Cell → Lists → (i : ℕ) → List CertificateLine
lost_home_line shape cells lists i =
    if is_whole (cell_at cells (home_of shape lists i)) then [] else (lines.Lost (16 * i) ∷ [])

-- the lines of all such blocks, rising
unfoldable pub lost_lines : Shape → List Cell → Lists → List CertificateLine
lost_lines shape cells lists =
    flat_map (lost_home_line shape cells lists) (range_with_len 0 (logical_count shape lists))

-- ---- the whole

-- the lines, and the last one, which counts them
abbrev pub closed : List CertificateLine → List CertificateLine
closed told = told ++ lines.End (length told) ∷ []

-- Under a layout of this kind the disc has chosen lists: they are told, then what each cell of their copies has, and then
-- which homes have no whole bytes.
pub record TellsLists (shape : Shape) (cells : List Cell) (told : List CertificateLine) : Type 0 where
  pub lists : Lists
  pub chosen : AreChosen shape cells lists
  pub copies : List CertificateLine
  pub copies_are : AreCopyLines cells lists (list_cells shape lists.sdl.version) copies
  pub told_is : told ≡ closed (head_lines shape
      ++ list_lines lists chosen.dds_area chosen.sdl_area (copies ++ lost_lines shape cells lists))

-- the same geometry, with a layout of this kind
abbrev pub in_kind : LayoutKind → Shape → Shape
in_kind kind shape = shape_in kind shape.zones shape.scale shape.psa

-- Lists of this kind of layout are looked for: those of one group of spares always, and those of a group in each zone where
-- none of one group are chosen, and the spares fit the zones.
abbrev pub AreLookedFor : LayoutKind → Shape → List Cell → Type 0
AreLookedFor OneGroup shape cells = Unit {0}
AreLookedFor EachZone shape cells = SparesFitZones (in_kind EachZone shape) × ChoosesNone (in_kind OneGroup shape) cells

-- The disc has chosen lists, of the first kind of layout under which it has some.
pub record IsListsCertificate (shape : Shape) (cells : List Cell) (told : List CertificateLine) : Type 0 where
  pub kind : LayoutKind
  pub looked_for : AreLookedFor kind shape cells
  pub tells : TellsLists (in_kind kind shape) cells told

-- The disc has chosen lists under neither kind. Then the mark is told that it has with one group of spares.
pub record IsBareCertificate (shape : Shape) (cells : List Cell) (told : List CertificateLine) : Type 0 where
  pub none : (kind : LayoutKind) → AreLookedFor kind shape cells → ChoosesNone (in_kind kind shape) cells
  pub mark : ℕ
  pub mark_is : Mark (in_kind OneGroup shape) cells mark
  pub told_is : told ≡ closed (head_lines (in_kind OneGroup shape) ++ lines.Bare mark ∷ [])

-- These lines are the certificate of a disc of this geometry, whatever kind of layout that names, with these cells. There is
-- one, and no other.
abbrev pub IsCertificate : Shape → List Cell → List CertificateLine → Type 0
IsCertificate shape cells told = IsBareCertificate shape cells told ⊎ IsListsCertificate shape cells told
