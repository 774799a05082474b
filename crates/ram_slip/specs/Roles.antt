-- What a block is to a disc: for `role_of` and `spare_turn`.
use Rattle.std.specs.Prelude.{◌≡◌, ◌↔◌, ℕ, ◌<◌, Option, Some, None, List, slice_get}
use Rattle.std.specs.List.{Contains}
use Rattle.model_geometry.specs.declared.kinds.LayoutKind.{LayoutKind}
use Rattle.model_geometry.specs.declared.kinds.LayoutKind.TheVariants.{OneGroup, EachZone}
use Rattle.model_geometry.specs.Geometry.{Shape, IsInZone, data_blocks}
use Rattle.model_lists.specs.Values.{Dds}
use Rattle.model_pools.specs.Pools.{spares_in, block_in}
use Rattle.model_places.specs.Places.{slipped, unslipped, unreplaced, count_of, pools_of, primary_by_kind, supplementary_by_kind}
use Rattle.ram_slip.specs.declared.slip.Rank.{Rank}
use Rattle.ram_slip.specs.declared.slip.Rank.TheVariants as ranks
use Rattle.ram_slip.specs.declared.role.Role.{Role}
use Rattle.ram_slip.specs.declared.role.Role.TheVariants as roles

-- the primary spares under a structure, and the supplementary ones (this project's own)
abbrev pub primary_in : Shape → Dds → List ℕ
primary_in shape dds = primary_by_kind shape.layout shape (unreplaced dds 0)

abbrev pub supplementary_in : Shape → Dds → ℕ → List ℕ
supplementary_in shape dds ssa = supplementary_by_kind shape.layout shape (unreplaced dds ssa)

-- A block is logical block i, a primary or a supplementary spare, slipped, or no data block. (After ECMA-330's slipping
-- and spare areas, by whole blocks.)
abbrev pub HasRole : Shape → Dds → ℕ → ℕ → Role → Type 0
HasRole shape dds ssa block (roles.Logical i) = (i < count_of shape ssa) × (block_in (pools_of shape dds ssa) i ≡ block)
HasRole shape dds ssa block roles.Primary = Contains (primary_in shape dds) block
HasRole shape dds ssa block roles.Supplementary = Contains (supplementary_in shape dds ssa) block
HasRole shape dds ssa block roles.Slipped = Contains (slipped dds) block
HasRole shape dds ssa block roles.Outside = ¬ Contains (data_blocks shape) block

-- A block stands at this place among those that are not slipped, is slipped, or is no data block. (After ECMA-330's
-- slipping, by whole blocks.)
abbrev pub HasRank : Shape → Dds → ℕ → Rank → Type 0
HasRank shape dds block ranks.Outside = ¬ Contains (data_blocks shape) block
HasRank shape dds block ranks.Slipped = Contains (slipped dds) block
HasRank shape dds block (ranks.At place) = slice_get (unslipped shape dds) place ≡ Some block

-- A block is the spare of this turn, in the order in which spares are taken, or no spare. (This project's own.)
abbrev pub HasTurn : Shape → Dds → ℕ → ℕ → Option ℕ → Type 0
HasTurn shape dds ssa block None = ¬ Contains (spares_in (pools_of shape dds ssa)) block
HasTurn shape dds ssa block (Some turn) = slice_get (spares_in (pools_of shape dds ssa)) turn ≡ Some block

-- what the kind of a layout asks of a spare and the block that it replaces (this project's own)
abbrev pub shares_by_kind : LayoutKind → Shape → ℕ → ℕ → Type 0
shares_by_kind OneGroup shape block spare = Unit {0}
shares_by_kind EachZone shape block spare = (zone : ℕ) → IsInZone shape zone block ↔ IsInZone shape zone spare

-- Two blocks share a pool, by the kind of the layout: with one group of spares any two do, and with a group for each zone
-- those that lie in one zone. (This project's own.)
abbrev pub SharesPool : Shape → ℕ → ℕ → Type 0
SharesPool shape block spare = shares_by_kind shape.layout shape block spare
