-- How many uses of the medium the calls of a drive take, and which blocks are buffered after them. For the causes of
-- reads and writes. (This project's own, as all here.)
use Rattle.std.specs.Prelude.{ℕ, zero, suc, ◌+◌, ◌==◌, ◌&&◌, not, Bool, if◌then◌else◌, List, [], ◌∷◌}
use Rattle.std.specs.List.{list_any}
use Rattle.model_buffer.specs.Buffer.{touched_one}
use Rattle.model_sectors.specs.Requests.{block_with, is_partly}

-- the buffered blocks after uses of n blocks, in order from this one on
abbrev pub touched_from : List ℕ → (first : ℕ) → ℕ → List ℕ
touched_from buffered first zero = buffered
touched_from buffered first (suc k) = touched_one (touched_from buffered first k) (first + k)

-- of `count` numbers from `first` on the last k, the last one first
abbrev pub last_numbers : (first count : ℕ) → ℕ → List ℕ
last_numbers first count zero = []
last_numbers first zero (suc j) = []
last_numbers first (suc count) (suc j) = (first + count) ∷ last_numbers first count j

-- whether a block is buffered
abbrev pub is_buffered : List ℕ → ℕ → Bool
is_buffered buffered block = list_any (λ other. other == block) buffered

-- whether the next block after n is at hand: it is buffered when its turn comes
abbrev pub is_at_hand : List ℕ → (first : ℕ) → ℕ → Bool
is_at_hand buffered first k = is_buffered (touched_from buffered first k) (first + k)

-- How many uses of the medium a read of n blocks from first on takes: one for each that is not at hand.
abbrev pub read_uses : List ℕ → (first : ℕ) → ℕ → ℕ
read_uses buffered first zero = 0
read_uses buffered first (suc k) = read_uses buffered first k + (if is_at_hand buffered first k then 0 else 1)

-- whether a write needs to read the home of a block, for the rest of it
abbrev pub reads_rest : List ℕ → (lba n k : ℕ) → Bool
reads_rest buffered lba n k = is_partly lba n (block_with lba + k) && not (is_at_hand buffered (block_with lba) k)

-- the buffered blocks after a write that was refused at a block: that block too, where it is covered in part
abbrev pub touched_refused : List ℕ → (lba n k : ℕ) → List ℕ
touched_refused buffered lba n k =
    if is_partly lba n (block_with lba + k) then touched_from buffered (block_with lba) (suc k) else touched_from buffered (block_with lba) k
