-- Whether a disc's secondary list names dead blocks alone, and whether a drive gives up no others: for what a drive may give up for
-- good. (This project's own, as all here.)
use Rattle.std.specs.Prelude.{◌≡◌, Some, List}
use Rattle.std.specs.List.{Contains}
use Rattle.model_lists.specs.declared.sdl.SdlEntry.{SdlEntry}
use Rattle.model_medium.specs.Cells.{Cell, Dead, cell_at}
use Rattle.model_places.specs.Places.{Lists}
use Rattle.model_volume.specs.Given.{IsGiven}
use Rattle.model_drive.specs.Shown.{Shown, cells_in}

-- each block that these entries name as defective is dead
abbrev pub NameDeadBlocks : List Cell → List SdlEntry → Type 0
NameDeadBlocks cells entries = (entry : SdlEntry) → Contains entries entry → cell_at cells entry.defective ≡ Dead

-- Under these lists a disc is fair: no block is given up that is not dead.
abbrev pub IsFair : List Cell → Lists → Type 0
IsFair cells lists = NameDeadBlocks cells lists.sdl.entries

-- A drive gives up dead blocks alone: each block that the lists in use name as defective is dead, and so is each that lists name
-- which the disc may give.
pub record GivesUpDeadAlone (shown : Shown) : Type 0 where
  pub given : (lists : Lists) → IsGiven shown.shape (cells_in shown) lists → IsFair (cells_in shown) lists
  pub in_use : (lists : Lists) → shown.lists ≡ Some lists → IsFair (cells_in shown) lists
