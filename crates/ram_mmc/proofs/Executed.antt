-- What a look at the disc says of its lists.
use Rattle.std.specs.Prelude.{◌≡◌, ℕ, Option, Some, None, is_some}
use Rattle.std.proofs.Common.{sym, ap}
use Rattle.model_drive.specs.Shown.{Shown}
use Rattle.ram_mmc.specs.Looks.{IsFormattedAs}

-- whether the disc is formatted
pub is_formatted : (shown : Shown) (formatted : Option ℕ) → IsFormattedAs shown formatted → is_some formatted ≡ is_some shown.lists
is_formatted shown None is = sym (ap (λ o. is_some o) is.1)
is_formatted shown (Some sectors) is = sym is.1
