-- What a certification does: for `certify_blocks`, and by its answer for `certify`.
use Rattle.std.specs.Prelude.{◌≡◌, ℕ, ◌-◌, ◌*◌, true, IsTrue, List, [], length, take}
use Rattle.std.specs.List.{Contains}
use Rattle.std.specs.List.Sorted.{IsStrictlyIncreasing}
use Rattle.model_geometry.specs.Geometry.{Shape, data_blocks}
use Rattle.model_lists.specs.declared.dds.PdlEntry.{PdlEntry}
use Rattle.model_medium.specs.Cells.{Dead, MayLeave, cell_at}
use Rattle.model_medium.specs.World.{World, Span, UseContinues, IsOff}
use Rattle.model_stops.specs.Stops.{Continues, Stops}
use Rattle.model_stops.specs.declared.Stop.{Stop}
use Rattle.model_stops.specs.declared.Stop.TheVariants as stops
use Rattle.model_sectors.specs.Discs.{zeros}
use Rattle.model_formats.specs.Defects.{IsCertified, AreCertified, ChangesCertified}
use Rattle.ram_copies.specs.Calls.{StoppedCounts}
use Rattle.ram_certify.specs.declared.certification.Certified.{Certified}
use Rattle.ram_certify.specs.declared.certification.Certified.TheVariants as ends

module _ {M : Type 0} (world : M → World) (reaches : M → M → Span → Type 0)
    (shape : Shape) (kept : List PdlEntry) (old new : M) where
  -- how many uses it takes: each data block that is not kept is written and read back (this project's own, as all here)
  abbrev pub certify_uses : ℕ
  certify_uses = 2 * (length (data_blocks shape) - length kept)

  -- no cell changed but those of the blocks that are certified
  pub record ChangesCertifiedAlone : Type 0 where
    pub as_known : (world new).known ≡ (world old).known
    pub others : ChangesCertified shape (Contains kept) (world old).cells (world new).cells

  -- the block was certified, and is dead
  pub record IsCertifiedDead (block : ℕ) : Type 0 where
    pub certified : IsCertified shape (Contains kept) block
    pub dead : cell_at (world new).cells block ≡ Dead

  -- These are the blocks that could not be read back: they rise, and are just the dead ones of those that were certified.
  pub record AreUnreadable (unreadable : List ℕ) : Type 0 where
    pub rise : IsStrictlyIncreasing unreadable
    pub each : (block : ℕ) → Contains unreadable block → IsCertifiedDead block
    pub all : (world old).known ≡ true → (block : ℕ) → IsCertifiedDead block → Contains unreadable block

  -- Each block that is not kept was certified: it has zeros now, or is dead. So many are dead, and as many of these as
  -- there was room for were found, from the lowest on.
  pub record HasCertified (room : ℕ) (found : List ℕ) (count : ℕ) : Type 0 where
    pub was_on : IsTrue (world old).power
    pub continues : Continues world reaches old new certify_uses
    pub counts : UseContinues (world old) (world new)
    pub alone : ChangesCertifiedAlone
    pub certified : (world old).known ≡ true → AreCertified shape (Contains kept) (world new).cells
    pub unreadable : List ℕ
    pub are : AreUnreadable unreadable
    pub count_is : count ≡ length unreadable
    pub found_are : found ≡ take room unreadable

  -- It was stopped, for a cause that its count shows: each cell is what a stopped write of zeros may leave of it.
  pub record StopsCertifying (stop : Stop) : Type 0 where
    pub was_on : IsTrue (world old).power
    pub stops : Stops world reaches old new certify_uses stop
    pub counts : StoppedCounts (world old) (world new) stop
    pub alone : ChangesCertifiedAlone
    pub left : (block : ℕ) → MayLeave (cell_at (world old).cells block) (zeros 32768) (cell_at (world new).cells block)

  -- What a certification does, by its answer.
  abbrev pub CertifyRule : (room : ℕ) → (found : List ℕ) → Certified → Type 0
  CertifyRule room found (ends.Done count) = HasCertified room found count
  CertifyRule room found ends.Cut = StopsCertifying stops.Cut
  CertifyRule room found ends.Off = IsOff (world old) (world new) × (found ≡ [])
  CertifyRule room found ends.Fault = StopsCertifying stops.Fault
