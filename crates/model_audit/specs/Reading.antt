-- What a certificate says, read from its lines alone: for holders of a checked one. (This project's own, as all
-- here.)
use Rattle.std.specs.Prelude.{◌≡◌, ℕ, ◌*◌, ◌+◌, ◌<◌, ◌≤◌, Option, Some, None, List, [], ◌∷◌}
use Rattle.std.specs.List.{Contains}
use Rattle.model_geometry.specs.declared.kinds.LayoutKind.{LayoutKind}
use Rattle.model_geometry.specs.Geometry.{Shape}
use Rattle.model_medium.specs.Cells.{Cell, Dead, cell_at}
use Rattle.model_lists.specs.declared.dds.DdsState.TheVariants.{Formatted}
use Rattle.model_lists.specs.declared.dds.PdlEntry.{PdlEntry}
use Rattle.model_lists.specs.declared.sdl.SdlEntry.{SdlEntry}
use Rattle.model_lists.specs.declared.versions.Version.{Version}
use Rattle.model_lists.specs.Values.{Sdl, pair, retired, parts_by}
use Rattle.model_places.specs.Places.{Lists}
use Rattle.model_drive.specs.Shown.{Shown, cells_in}
use Rattle.model_drive.specs.Parts.{NoneCounted, EndsBy}
use Rattle.model_drive.specs.Power.{turned_on}
use Rattle.model_drive.specs.Repairs.{choice_uses}
use Rattle.model_audit.specs.Certificate.{in_kind}
use Rattle.model_audit.specs.declared.lines.CopyState.TheVariants as states
use Rattle.model_audit.specs.declared.lines.CertificateLine.{CertificateLine}
use Rattle.model_audit.specs.declared.lines.CertificateLine.TheVariants as lines

-- the entries of the primary list, from these lines on
abbrev pub pdl_in : List CertificateLine → List PdlEntry
pdl_in (lines.Pdl block kind ∷ others) = record { kind = kind; block = block } ∷ pdl_in others
pdl_in _ = []

-- the lines behind them
abbrev pub after_pdl : List CertificateLine → List CertificateLine
after_pdl (lines.Pdl block kind ∷ others) = after_pdl others
after_pdl others = others

-- the entries of the secondary list, from these lines on
abbrev pub entries_in : List CertificateLine → List SdlEntry
entries_in (lines.Pair defective replacement ∷ others) = pair defective replacement ∷ entries_in others
entries_in (lines.Retired defective ∷ others) = retired defective ∷ entries_in others
entries_in _ = []

-- the lists whose structure has this layout, number of spares, version, counter and primary list, and whose secondary list
-- follows
abbrev pub lists_behind : LayoutKind → (psa : ℕ) → Version → (counter : ℕ) → List PdlEntry
    → List CertificateLine → Option Lists
lists_behind layout psa version counter entries (lines.Sdl sdl_counter area ssa ∷ others) = Some (record {
  dds =
      record { version = version; counter = counter; state = Formatted; psa = psa; layout = layout; entries = entries };
  sdl =
      record { version = version; counter = sdl_counter; dds_counter = counter; ssa = ssa; entries = entries_in others };
})
lists_behind layout psa version counter entries _ = None

-- The lists that a certificate tells, where it tells some. That the structure says Formatted, and that the secondary list has
-- its version and names its counter, goes without saying.
abbrev pub lists_in : List CertificateLine → Option Lists
lists_in (lines.Audit ∷ (lines.Geometry zones scale psa layout ∷ (lines.Dds version counter area ∷ others))) =
    lists_behind layout psa version counter (pdl_in others) (after_pdl others)
lists_in _ = None

-- the same geometry, with the layout that the structure of these lists names
abbrev pub shape_named : Shape → Lists → Shape
shape_named shape lists = in_kind lists.dds.layout shape

-- no cell turned dead
abbrev pub NoneDies : List Cell → List Cell → Type 0
NoneDies old new = (block : ℕ) → cell_at new block ≡ Dead → cell_at old block ≡ Dead

-- Nothing came between: no cell turned dead, and neither a cut nor a fault was counted.
pub record IsUndisturbed (old new : Shown) : Type 0 where
  pub none_dies : NoneDies (cells_in old) (cells_in new)
  pub none_counted : NoneCounted old new

-- no block of the request is told as lost
abbrev pub NoneLost : List CertificateLine → (first count : ℕ) → Type 0
NoneLost told first count = (k : ℕ) → k < count → ¬ Contains told (lines.Lost (16 * (first + k)))

-- each cell of the copies is told as exact or dead
pub record AreExactOrDead (told : List CertificateLine) : Type 0 where
  pub none_other : (block : ℕ) → ¬ Contains told (lines.Copy block states.Other)
  pub none_unread : (block : ℕ) → ¬ Contains told (lines.Copy block states.Unread)

-- each is told as exact
pub record AreAllExact (told : List CertificateLine) : Type 0 where
  pub but_dead : AreExactOrDead told
  pub none_dead : (block : ℕ) → ¬ Contains told (lines.Copy block states.Dead)

-- A mount that chose both lists, and wrote nothing: its uses are those of the choice, and one for each cell of the copies.
pub record MountsByReading (old new : Shown) (sdl : Sdl) : Type 0 where
  pub mores : ℕ
  pub few : mores ≤ 4
  pub ends : EndsBy (turned_on old) new (choice_uses mores + (4 + 4 * parts_by sdl.version))
