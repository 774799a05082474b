-- The layout of a disc is made for its lists.
use Rattle.std.specs.Prelude.{◌≡◌, ℕ, ◌≤◌, List, length}
use Rattle.std.proofs.Common.{inl, inr, ap, ◌∙◌, arith}
use Rattle.model_geometry.specs.Geometry.{Shape, IsLawful}
use Rattle.model_pools.specs.Pools.{CursorsFit}
use Rattle.model_lists.proofs.SdlTexts.{most_is}
use Rattle.model_places.specs.Places.{Lists, pool_count, pools_under}
use Rattle.model_places.specs.Valid.{AreValid}
use Rattle.model_places.proofs.Entries.{length-entries_most}
use Rattle.model_places.proofs.ByKind.{cases_kind, slip_pool_count, zone_pool_count, so_many_pools}
use Rattle.ram_groups.specs.declared.any_layout.AnyLayout.{AnyLayout}
use Rattle.ram_groups.specs.Layouts.{IsLayoutOf, layout_pools}
use Rattle.ram_groups.proofs.Layouts.{pools_of_layout, kind_of_layout}
use Rattle.ram_transfer.specs.Layouts.{IsLaidOut}

pools_few : (shape : Shape) → IsLawful shape → pool_count shape ≤ 35
pools_few shape lawful = elim (cases_kind shape.layout) [
  | inl is ↦ omega (arith, slip_pool_count shape is)
  | inr is ↦ omega (arith, zone_pool_count shape is, lawful.most_zones)
]

module _ (shape : Shape) (lists : Lists) (layout : AnyLayout) (valid : AreValid shape lists) (is : IsLayoutOf shape lists.dds lists.sdl.ssa layout) where
  its_pools : layout_pools layout ≡ pools_under shape lists
  its_pools = pools_of_layout shape lists.dds lists.sdl.ssa layout valid.primary (lists.sdl.version, valid.together.secondary.area) is

  so_many : length (layout_pools layout) ≡ pool_count shape
  so_many = ap length its_pools ∙ so_many_pools shape lists.dds lists.sdl.ssa

  pub few_pools : IsLawful shape → length (layout_pools layout) ≤ 35
  few_pools lawful = omega (arith, so_many, pools_few shape lawful)

  pub laid_out : (cursors : List ℕ) → length cursors ≡ length (layout_pools layout) → CursorsFit (layout_pools layout) lists.sdl.entries cursors → IsLaidOut shape lists layout cursors
  laid_out cursors one_each fit = record {
    pools_are = its_pools;
    kind = kind_of_layout shape lists.dds lists.sdl.ssa layout is;
    one_each = one_each;
    cursors_fit = fit;
  }

-- the replacements of a disc find room where the found blocks of a format do
pub few_replaced : (shape : Shape) (lists : Lists) (room : ℕ) → AreValid shape lists → 9993 ≤ room → length lists.sdl.entries ≤ room
few_replaced shape lists room valid enough =
    omega (arith, enough, length-entries_most shape lists valid.primary valid.together.secondary, most_is lists.sdl.version)
