-- The cells of the copies of the first areas: what holds in each turn of the loop.
use Rattle.std.specs.Prelude.{ℕ, zero, suc, List, [], ◌++◌}
use Rattle.model_geometry.specs.Geometry.{Shape}
use Rattle.model_lists.specs.declared.versions.Version.{Version}
use Rattle.model_audit.specs.Certificate.{ListPart, area_cells}

-- the cells of the copies of the first n areas
abbrev pub cells_upto : Shape → Version → (areas : ℕ) → List (ℕ × ListPart)
cells_upto shape version zero = []
cells_upto shape version (suc areas) = cells_upto shape version areas ++ area_cells shape version (suc areas)
