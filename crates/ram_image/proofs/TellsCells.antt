-- What is found in an image whose bytes are known is so in the cells that it stands for.
use Rattle.std.specs.Prelude.{ℕ, ◌<◌, Option, Some, None, is_some, IfSome, List}
use Rattle.std.specs.Bool.{OnTrue}
use Rattle.std.proofs.Common.{sym, subst}
use Rattle.model_medium.specs.Cells.{Cell, cell_at}
use Rattle.model_image.specs.Cells.{cell_in, cells_known}
use Rattle.model_image.proofs.Writes.{cell_at-cells_of}

pub known_cell : (total block : ℕ) (P : Cell → Type 0) → block < total → (o : Option (List ℕ)) → IfSome o (λ held. P (cell_in total held block)) → OnTrue (is_some o) (P (cell_at (cells_known total o) block))
known_cell total block P inside None h = tt
known_cell total block P inside (Some held) h = subst P (sym (cell_at-cells_of total held block inside)) h
