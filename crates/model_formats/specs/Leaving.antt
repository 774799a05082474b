-- What a full format that was stopped leaves of both lists, from below, by the update that it had come to: for the full format.
-- (This project's own, as all here.)
use Rattle.std.specs.Prelude.{ℕ, ◌⊎◌, List}
use Rattle.model_geometry.specs.Geometry.{Shape, dds_block}
use Rattle.model_lists.specs.declared.dds.PdlEntry.{PdlEntry}
use Rattle.model_lists.specs.Texts.{IsDdsText}
use Rattle.model_medium.specs.Cells.{Cell}
use Rattle.model_copies.specs.Copies.{Settled}
use Rattle.model_copies.specs.Parts.{SdlIsExact}
use Rattle.model_volume.specs.Given.{OnlyLists}
use Rattle.model_survival.specs.Stops.{LeavesDds, LeavesSdl, SdlCellsDie}
use Rattle.model_formats.specs.Fresh.{formatting_dds, formatted_dds, fresh_sdl}

-- each copy of the structure is exactly the text that says Formatting, or dead
abbrev pub SaysFormatting : Shape → List Cell → ℕ → Type 0
SaysFormatting shape cells mark = Settled IsDdsText (dds_block shape) cells (formatting_dds shape mark)

module _ (shape : Shape) (old new : List Cell) (mark : ℕ) where
  -- The update of the structure that says Formatting was stopped. No cell but those of lists changed: the data are as they were.
  pub record FormatsFirst : Type 0 where
    pub dds : LeavesDds shape old new (formatting_dds shape mark)
    pub sdl : SdlCellsDie shape old new
    pub same_data : OnlyLists shape old new

  -- the certification was, or the update of the secondary list: in the certification that has an area 0
  pub record FormatsSdl : Type 0 where
    pub dds : SaysFormatting shape new mark
    pub sdl : LeavesSdl shape old new (fresh_sdl mark)

  -- The update of the structure that says Formatted was: it began when these were the cells.
  pub record FormatsLast : Type 0 where
    pub before : List Cell
    pub formatting : SaysFormatting shape before mark
    pub entries : List PdlEntry
    pub dds : LeavesDds shape before new (formatted_dds shape mark entries)
    pub sdl : SdlIsExact shape new (fresh_sdl mark)

  -- a full format was stopped in one of these
  abbrev pub FormatsInPart : Type 0
  FormatsInPart = FormatsFirst ⊎ FormatsSdl ⊎ FormatsLast
