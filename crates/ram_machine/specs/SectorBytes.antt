-- One sector among those of a request. For all that is said of a single sector. (This project's own, as all here.)
use Rattle.std.specs.Prelude.{ℕ, ◌+◌, ◌-◌, ◌*◌, Bool, ◌&&◌, not, nat_lt, List, take, drop}

-- the bytes of this sector, among those of the sectors from lba on
abbrev pub bytes_of_sector : (lba : ℕ) → List ℕ → (at : ℕ) → List ℕ
bytes_of_sector lba bytes at = take 2048 (drop (2048 * (at - lba)) bytes)

-- whether the sector is one of n from this one on
abbrev pub is_sector_among : (lba n at : ℕ) → Bool
is_sector_among lba n at = not (nat_lt at lba) && nat_lt at (lba + n)
