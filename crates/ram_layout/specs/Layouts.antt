-- What a layout is to its callers. (This project's own.)
use Rattle.std.specs.Prelude.{◌≡◌, ℕ, Some, List, ◌++◌, slice_get}
use Rattle.std.specs.List.{Contains}
use Rattle.model_pools.specs.Pools.{Pool, logical_in, spares_in}
use Rattle.ram_slip.specs.declared.role.Role.{Role}
use Rattle.ram_slip.specs.declared.role.Role.TheVariants as roles

-- A block is logical block i, a spare, a data block that is neither, or no data block.
abbrev pub HasRoleIn : (blocks : List ℕ) → List Pool → (block : ℕ) → Role → Type 0
HasRoleIn blocks pools block (roles.Logical i) = slice_get (logical_in pools) i ≡ Some block
HasRoleIn blocks pools block roles.Primary = Contains (spares_in pools) block
HasRoleIn blocks pools block roles.Supplementary = Contains (spares_in pools) block
HasRoleIn blocks pools block roles.Slipped = Contains blocks block
    × ¬ Contains (logical_in pools ++ spares_in pools) block
HasRoleIn blocks pools block roles.Outside = ¬ Contains blocks block
