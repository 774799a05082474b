-- The sectors that an expansion leaves of a disc are those that it had.
use Rattle.std.proofs.Common.{◌≡◌, ℕ, ◌+◌, ◌*◌, ◌≤◌, List, length, take, drop, arith, ap, ◌∙◌, length-take}
use Rattle.model_sectors.specs.Discs.{sectors_of}
use Rattle.model_sectors.proofs.Pieces.{piece_of_piece}
use Rattle.model_drive.specs.Expands.{shortened}

-- what is left is no longer than the disc was
pub front_long : (disc : List ℕ) (sectors at : ℕ) → 2048 * (at + 1) ≤ length (shortened sectors disc) → 2048 * (at + 1) ≤ length disc
front_long disc sectors at inside = omega (arith, inside, length-take (2048 * sectors) disc)

-- a piece of the front of a disc is a piece of the disc
front_piece : (front low n : ℕ) (disc : List ℕ) → low + n ≤ front → take n (drop low (take front disc)) ≡ take n (drop low disc)
front_piece front low n disc inside =
    let start : 0 + low ≡ low = omega arith in
    piece_of_piece 0 front low n disc inside ∙ ap (λ (m : ℕ). take n (drop m disc)) start

-- a sector that is left has the bytes that it had
pub front_sector : (disc : List ℕ) (sectors at : ℕ) → 2048 * (at + 1) ≤ length (shortened sectors disc) → sectors_of (shortened sectors disc) at 1 ≡ sectors_of disc at 1
unfolding sectors_of
front_sector disc sectors at inside = front_piece (2048 * sectors) (2048 * at) (2048 * 1) disc (omega (arith, inside, length-take (2048 * sectors) disc))
