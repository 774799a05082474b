-- Lines of a certificate as they are written, and which lines of a disc its parts add: for the writer. (This project's own, as all
-- here.)
use Rattle.std.specs.Prelude.{◌≡◌, ℕ, ◌*◌, ◌⊎◌, if◌then◌else◌, Bool, true, false, Option, IfSome, List, [], ◌∷◌, ◌++◌, length}
use Rattle.std.specs.List.{flat_map, range_with_len}
use Rattle.model_geometry.specs.Geometry.{Shape, total}
use Rattle.model_lists.specs.Values.{IsLawfulDds, IsLawfulSdl}
use Rattle.model_medium.specs.Cells.{Cell, Good, Blank, Torn, Dead, IsGood, cell_at}
use Rattle.model_image.specs.Cells.{cells_of}
use Rattle.model_copies.specs.Parts.{Mark}
use Rattle.model_places.specs.Places as places
use Rattle.model_places.specs.Valid.{AreValid}
use Rattle.model_volume.specs.Given.{ChoosesNone}
use Rattle.model_audit.specs.declared.lines.CopyState.{CopyState}
use Rattle.model_audit.specs.declared.lines.CopyState.TheVariants as states
use Rattle.model_audit.specs.declared.lines.CertificateLine.{CertificateLine}
use Rattle.model_audit.specs.declared.lines.CertificateLine.TheVariants as told
use Rattle.model_audit.specs.Text.{text_of}
use Rattle.ram_zones.specs.declared.list_kind.ListKind.{ListKind}
use Rattle.ram_zones.specs.declared.list_kind.ListKind.TheVariants as kinds
use Rattle.ram_audit.specs.declared.copies.Part.{Part}
use Rattle.ram_audit.specs.declared.copies.Part.TheVariants as parts
use Rattle.model_audit.specs.Certificate.{ListPart, Structure, First, Second, AreCopyLines, is_whole, lost_home_line, TellsLists, IsCertificate}
use Rattle.ram_lists.specs.Chosen.{AreChosenIn}
use Rattle.ram_lists.specs.declared.choosing.FoundLists.{FoundLists}
use Rattle.ram_lists.specs.declared.choosing.FoundLists.TheVariants as founds
use Rattle.ram_audit.specs.declared.lines.Lines.{Lines}

-- the text and the count are those of these lines
pub record AreLines (lines : Lines) (told : List CertificateLine) : Type 0 where
  pub text_is : lines.text.items ≡ text_of told
  pub count_is : lines.count ≡ length told

-- how many bytes their text has
abbrev pub bytes_of : Lines → ℕ
bytes_of lines = length lines.text.items

-- whatever lines there were, these are behind them now
abbrev pub Adds : Lines → Lines → List CertificateLine → Type 0
Adds old new more = (told : List CertificateLine) → AreLines old told → AreLines new (told ++ more)

-- the cells of a disc of this geometry in an image
abbrev pub cells_in_image : Shape → List ℕ → List Cell
cells_in_image shape held = cells_of (total shape) held

-- ---- what is found

-- Both lists are valid and of their grammar, and are those that are chosen, where the image's bytes are known.
pub record AreFound (shape : Shape) (bytes : Option (List ℕ)) (lists : places.Lists) (dds_area sdl_area : ℕ) : Type 0 where
  pub valid : AreValid shape lists
  pub lawful_dds : IsLawfulDds lists.dds
  pub lawful_sdl : IsLawfulSdl lists.sdl
  pub chosen : IfSome bytes (λ held. AreChosenIn shape (cells_in_image shape held) lists dds_area sdl_area)

-- none are, and this is the mark
abbrev pub NoneFound : Shape → Option (List ℕ) → (mark : ℕ) → Type 0
NoneFound shape bytes mark = IfSome bytes (λ held. ChoosesNone shape (cells_in_image shape held) × Mark shape (cells_in_image shape held) mark)

-- What was found in an image, with the lists in the room.
abbrev pub FindsIn : Shape → Option (List ℕ) → places.Lists → FoundLists → Type 0
FindsIn shape bytes lists (founds.Lists dds_area sdl_area) = AreFound shape bytes lists dds_area sdl_area
FindsIn shape bytes lists (founds.Bare mark) = NoneFound shape bytes mark

-- ---- what a block has

-- a block has these bytes, or no whole ones
abbrev pub HasBytesOrNone : Bool → Shape → Option (List ℕ) → (block : ℕ) → List ℕ → Type 0
HasBytesOrNone true shape bytes block held_there = IfSome bytes (λ held. cell_at (cells_in_image shape held) block ≡ Good held_there)
HasBytesOrNone false shape bytes block held_there = IfSome bytes (λ held. ¬ IsGood (cell_at (cells_in_image shape held) block))

-- it is dead, or not
abbrev pub IsDeadOrNot : Bool → Shape → Option (List ℕ) → (block : ℕ) → Type 0
IsDeadOrNot true shape bytes block = IfSome bytes (λ held. cell_at (cells_in_image shape held) block ≡ Dead)
IsDeadOrNot false shape bytes block = IfSome bytes (λ held. ¬ (cell_at (cells_in_image shape held) block ≡ Dead))

-- it has whole bytes, or not
abbrev pub IsGoodOrNot : Bool → Shape → Option (List ℕ) → (block : ℕ) → Type 0
IsGoodOrNot good shape bytes block = IfSome bytes (λ held. is_whole (cell_at (cells_in_image shape held) block) ≡ good)

-- ---- the lines of copies

-- What a cell has beside this text.
abbrev pub StateSays : Cell → List ℕ → CopyState → Type 0
StateSays cell text states.Exact = cell ≡ Good text
StateSays cell text states.Other = IsGood cell × ¬ (cell ≡ Good text)
StateSays cell text states.Unread = (cell ≡ Blank) ⊎ (cell ≡ Torn)
StateSays cell text states.Dead = cell ≡ Dead

-- which part of the lists this is
abbrev pub list_part_of : Part → ListPart
list_part_of parts.Structure = Structure
list_part_of parts.First = First
list_part_of parts.Second = Second

-- in whose blocks it lies
abbrev pub kind_of : Part → ListKind
kind_of parts.Structure = kinds.Dds
kind_of parts.First = kinds.Sdl
kind_of parts.Second = kinds.SdlTwo

-- The line of a cell was added, whose part of a list has this text.
pub record AddsCopy (old new : Lines) (shape : Shape) (bytes : Option (List ℕ)) (block : ℕ) (text : List ℕ) : Type 0 where
  pub state : CopyState
  pub adds : Adds old new (told.Copy block state ∷ [])
  pub says : IfSome bytes (λ held. StateSays (cell_at (cells_in_image shape held) block) text state)

-- The lines of these cells were added.
pub record AddsCopies (old new : Lines) (shape : Shape) (bytes : Option (List ℕ)) (lists : places.Lists) (cells : List (ℕ × ListPart)) : Type 0 where
  pub copies : List CertificateLine
  pub adds : Adds old new copies
  pub are : IfSome bytes (λ held. AreCopyLines (cells_in_image shape held) lists cells copies)

-- ---- the lines of lost blocks

-- The line of a logical block was added, if its home has no whole bytes.
pub record AddsHome (old new : Lines) (shape : Shape) (bytes : Option (List ℕ)) (home i : ℕ) : Type 0 where
  pub lost : List CertificateLine
  pub adds : Adds old new lost
  pub are : IfSome bytes (λ held. lost ≡ (if is_whole (cell_at (cells_in_image shape held) home) then [] else (told.Lost (16 * i) ∷ [])))

-- The lines of those of the first n logical blocks that are lost were added.
pub record AddsLost (old new : Lines) (shape : Shape) (bytes : Option (List ℕ)) (lists : places.Lists) (blocks : ℕ) : Type 0 where
  pub lost : List CertificateLine
  pub adds : Adds old new lost
  pub are : IfSome bytes (λ held. lost ≡ flat_map (lost_home_line shape (cells_in_image shape held) lists) (range_with_len 0 blocks))

-- ---- the whole

-- The lines are those of a certificate of these lists, where the image's bytes are known.
pub record AreToldOf (lines : Lines) (shape : Shape) (bytes : Option (List ℕ)) : Type 0 where
  pub all : List CertificateLine
  pub are : AreLines lines all
  pub tells : IfSome bytes (λ held. TellsLists shape (cells_in_image shape held) all)

-- The lines are the certificate of a disc with these bytes, where they are known.
pub record AreCertificate (lines : Lines) (shape : Shape) (bytes : Option (List ℕ)) : Type 0 where
  pub all : List CertificateLine
  pub are : AreLines lines all
  pub certifies : IfSome bytes (λ held. IsCertificate shape (cells_in_image shape held) all)
