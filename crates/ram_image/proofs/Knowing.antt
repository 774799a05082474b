-- A block that is one of those known to be good has whole bytes.
use Rattle.std.specs.Prelude.{◌≡◌, ℕ, ◌<◌, ◌≤◌, true, false, Option, Some, None, is_some, List, slice_index}
use Rattle.std.specs.Option.{ForSome}
use Rattle.std.specs.Bool.{OnTrue}
use Rattle.std.proofs.Common.{refl, sym, subst}
use Rattle.model_medium.specs.Cells.{IsGood, cell_at}
use Rattle.model_medium.specs.Machine.{Machine}
use Rattle.model_image.specs.Cells.{state_offset, cell_in, cells_known}
use Rattle.model_image.proofs.Writes.{cell_at-cells_of}
use Rattle.ram_image.specs.CellCalls.{HaveGoodStates}
use Rattle.ram_image.specs.Begun.{LookRule, HasBytesRule}
use Rattle.ram_image.specs.declared.medium.Looked.{Looked}
use Rattle.ram_image.specs.declared.medium.Looked.TheVariants.{Good, NotGood, Failed}

good_state : (total block : ℕ) (held : List ℕ) → slice_index held (state_offset block) ≡ 1 → IsGood (cell_in total held block)
good_state total block held is = rw is tt

good_known : (total block from to : ℕ) (bytes : Option (List ℕ)) → block < total → from ≤ block → block < to → ForSome bytes (λ held. HaveGoodStates held from to)
    → OnTrue (is_some bytes) (IsGood (cell_at (cells_known total bytes) block))
good_known total block from to None inside low high good = tt
good_known total block from to (Some held) inside low high good =
    subst IsGood (sym (cell_at-cells_of total held block inside)) (good_state total block held (good held refl block low high))

pub has_bytes_from : (total block from to : ℕ) (old new : Machine) (bytes : Option (List ℕ)) → block < total → new.world.known ≡ is_some bytes → new.world.cells ≡ cells_known total bytes
    → ForSome bytes (λ held. HaveGoodStates held from to) → (looked : Looked) → LookRule old new block from to looked → HasBytesRule old new block looked
has_bytes_from total block from to old new bytes inside known cells good Good rule =
    (rule.0, rw (known, cells) (good_known total block from to bytes inside rule.1 rule.2 good))
has_bytes_from total block from to old new bytes inside known cells good NotGood rule = rule
has_bytes_from total block from to old new bytes inside known cells good Failed rule = rule
