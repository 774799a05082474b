-- The entries of an expansion: for `retire_spares`.
use Rattle.std.specs.Prelude.{ℕ, List, map}
use Rattle.model_geometry.specs.Geometry.{Shape}
use Rattle.model_lists.specs.declared.sdl.SdlEntry.{SdlEntry}
use Rattle.model_lists.specs.Values.{Dds}
use Rattle.model_volume.specs.Expansions.{entry_expanded}

-- The entries where each defective block that is a spare, with this size of the area, is a retired one. (This project's
-- own.)
abbrev pub with_spares_retired : Shape → Dds → (ssa : ℕ) → List SdlEntry → List SdlEntry
with_spares_retired shape dds ssa entries = map (entry_expanded shape dds ssa) entries
