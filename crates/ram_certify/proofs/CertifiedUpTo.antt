-- How far a certification has come: what holds in each turn of the loop.
use Rattle.std.specs.Prelude.{◌≡◌, ℕ, ◌+◌, ◌-◌, ◌*◌, ◌<◌, ◌≤◌, ◌⊎◌, ◌↔◌, true, List, length, take, slice_index}
use Rattle.std.specs.List.{Contains}
use Rattle.std.specs.List.Sorted.{IsStrictlyIncreasing}
use Rattle.model_geometry.specs.Geometry.{Shape, data_blocks}
use Rattle.model_lists.specs.declared.dds.PdlEntry.{PdlEntry}
use Rattle.model_lists.specs.Values.{pdl_blocks}
use Rattle.model_medium.specs.Cells.{Good, Dead, MayLeave, cell_at}
use Rattle.model_medium.specs.World.{World, Span}
use Rattle.model_stops.specs.Stops.{Continues}
use Rattle.model_sectors.specs.Discs.{zeros}
use Rattle.model_formats.specs.Defects.{IsCertified}

-- The block is one of the first n data blocks.
abbrev pub IsReached : Shape → ℕ → ℕ → Type 0
IsReached shape n block = (d : ℕ) → d < length (data_blocks shape) → slice_index (data_blocks shape) d ≡ block → d < n

-- Of the kept blocks just the first n are among the first n data blocks.
abbrev pub ArePassed : Shape → List PdlEntry → (n passed : ℕ) → Type 0
ArePassed shape kept n passed = (k d : ℕ) → k < length kept → d < length (data_blocks shape)
    → slice_index (data_blocks shape) d ≡ slice_index (pdl_blocks kept) k → (k < passed) ↔ (d < n)

module _ {M : Type 0} (world : M → World) (reaches : M → M → Span → Type 0)
    (shape : Shape) (kept : List PdlEntry) (old new : M) where
  -- the block was certified by now, and is dead
  pub record IsFoundBy (n block : ℕ) : Type 0 where
    pub certified : IsCertified shape (Contains kept) block
    pub reached : IsReached shape n block
    pub dead : cell_at (world new).cells block ≡ Dead

  -- The first n data blocks were looked at, of which n are kept, and the others were certified.
  pub record HasCertifiedUpTo (room : ℕ) (n passed : ℕ) (found : List ℕ) (count : ℕ) : Type 0 where
    pub continues : Continues world reaches old new (2 * (n - passed))
    pub as_known : (world new).known ≡ (world old).known
    pub few : passed + count ≤ n
    pub within : passed ≤ length kept
    pub passed_are : ArePassed shape kept n passed
    pub others : (block : ℕ) → ¬ (IsCertified shape (Contains kept) block × IsReached shape n block)
        → cell_at (world new).cells block ≡ cell_at (world old).cells block
    pub done : (block : ℕ) → IsCertified shape (Contains kept) block → IsReached shape n block
        → (cell_at (world new).cells block ≡ Good (zeros 32768)) ⊎ (cell_at (world new).cells block ≡ Dead)
    pub left : (block : ℕ) → MayLeave (cell_at (world old).cells block) (zeros 32768) (cell_at (world new).cells block)
    pub unreadable : List ℕ
    pub rise : IsStrictlyIncreasing unreadable
    pub each : (block : ℕ) → Contains unreadable block → IsFoundBy n block
    pub all : (world old).known ≡ true → (block : ℕ) → IsFoundBy n block → Contains unreadable block
    pub count_is : count ≡ length unreadable
    pub found_are : found ≡ take room unreadable
