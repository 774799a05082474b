-- The home of a block that has left the cache has its last bytes.
use Rattle.std.specs.Prelude.{◌≡◌, ℕ, ◌<◌, Option, Some, None, List}
use Rattle.std.specs.Option.{option_map_or}
use Rattle.std.proofs.Common.{arith, sym, ap, ◌∙◌}
use Rattle.model_geometry.specs.Geometry.{Shape}
use Rattle.model_medium.specs.Cells.{Cell, Blank, Good, Torn, Dead, IsGood, cell_at}
use Rattle.model_sectors.specs.Discs.{Agrees, block_of}
use Rattle.model_places.specs.Places.{Lists, logical_count, home_of}
use Rattle.model_drive.specs.Shown.{StandsBy, home_cell}
use Rattle.model_cache.specs.Values.{Values, Has}
use Rattle.model_cache.specs.Shown.{CacheShown, CacheStandsFor}
use Rattle.model_drains.specs.Leaving.{HasLeft}

-- a cell with whole bytes that agrees with some has these
agreed : (cell : Cell) (bytes : List ℕ) → IsGood cell → Agrees cell bytes → cell ≡ Good bytes
agreed Blank bytes good agrees = absurd good
agreed (Good held) bytes good agrees = ap Good agrees
agreed Torn bytes good agrees = absurd good
agreed Dead bytes good agrees = absurd good

-- on a disc with these lists in use
in_home : (shape : Shape) (cells : List Cell) (lists : Option Lists) (buffer : List (ℕ × List ℕ)) (disc : List ℕ) (i : ℕ)
    → StandsBy shape cells lists buffer disc → i < option_map_or (logical_count shape) lists 0
    → IsGood (cell_at cells (option_map_or (λ l. home_of shape l i) lists 0))
    → cell_at cells (option_map_or (λ l. home_of shape l i) lists 0) ≡ Good (block_of disc i)
in_home shape cells None buffer disc i stands inside good = absurd (omega (arith, inside))
in_home shape cells (Some lists) buffer disc i stands inside good =
    agreed (cell_at cells (home_of shape lists i)) (block_of disc i) good (stands.fits.agrees i inside)

pub left_settled : (new : CacheShown) (values : Values) (i : ℕ) → CacheStandsFor new (Has values) → HasLeft new i
    → home_cell new.drive i ≡ Good (block_of values.disc i)
left_settled new values i (disc, stands, under) left =
    in_home new.drive.shape new.drive.medium.world.cells new.drive.lists new.drive.buffer disc i stands.2 left.on_disc left.whole
    ∙ ap Good (sym (under.others i left.gone))
