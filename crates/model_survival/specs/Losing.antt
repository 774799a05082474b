-- That a stopped call loses one copy of a list at most, but for those that die. For the laws of survival. (This project's own, as
-- all here.)
use Rattle.std.specs.Prelude.{◌≡◌, ◌≢◌, ℕ, List}
use Rattle.model_geometry.specs.Geometry.{Shape, record_block}
use Rattle.model_medium.specs.Cells.{Cell, Dead, cell_at}
use Rattle.model_lists.specs.declared.versions.Version.{Version}
use Rattle.model_lists.specs.Values.{Dds, Sdl}
use Rattle.model_lists.specs.Records.{LeadRecord, IsRecordText}
use Rattle.model_copies.specs.Copies.{HasDdsCopy, HasCopy}
use Rattle.model_copies.specs.Parts.{HasSdlCopy}
use Rattle.model_survival.specs.Findable.{DdsLives, SdlLives}

module _ (shape : Shape) (old new : List Cell) where
  -- Each copy of the structure that could be read can be read now, or is dead, but for one at most.
  pub record LosesOneDds : Type 0 where
    pub at : ℕ
    pub others : (dds : Dds) (area : ℕ) → HasDdsCopy shape old dds area → area ≢ at → DdsLives shape new area
        → (now : Dds) × HasDdsCopy shape new now area

  -- So can each copy of a secondary list of this version, or one of its cells is dead.
  pub record LosesOneSdl (version : Version) : Type 0 where
    pub at : ℕ
    pub others : (sdl : Sdl) (area : ℕ) → sdl.version ≡ version → HasSdlCopy shape old sdl area → area ≢ at
        → SdlLives shape new version area → (now : Sdl) × HasSdlCopy shape new now area

  -- So can each copy of the record of the lead, or its cell is dead.
  pub record LosesOneRecord : Type 0 where
    pub at : ℕ
    pub others : (value : LeadRecord) (area : ℕ) → HasCopy IsRecordText (record_block shape) old value area → area ≢ at
        → cell_at new (record_block shape area) ≢ Dead
        → (now : LeadRecord) × HasCopy IsRecordText (record_block shape) new now area

  -- of each list one copy is lost at most, but for those that die
  pub record LosesOneAtMost (version : Version) : Type 0 where
    pub dds : LosesOneDds
    pub sdl : LosesOneSdl version

-- the copies of the secondary list that can be read are of this version, as on a disc that one drive wrote
abbrev pub HaveOneVersion : Shape → List Cell → Version → Type 0
HaveOneVersion shape cells version = (sdl : Sdl) (area : ℕ) → HasSdlCopy shape cells sdl area → sdl.version ≡ version
