-- The pending blocks as a list, and what is at its places. (This project's own.)
use Rattle.std.specs.Prelude.{◌≡◌, ◌<◌, ℕ, Bool, true, false, Option, Some, None, List, [], length, take, drop, ◌+◌, slice_index_or, not, if◌then◌else◌}
use Rattle.std.specs.List.{filter}
use Rattle.model_buffer.specs.Buffer.{numbers_in}
use Rattle.model_cache.specs.Values.{is_among}
use Rattle.ram_cache.specs.declared.pending.PendingBlocks.{PendingBlocks}

-- the pending blocks, each a number and its bytes, the oldest first
abbrev pub pending_of : PendingBlocks → List (ℕ × List ℕ)
pending_of pending = take pending.count pending.rooms.items

-- the first n of the blocks to come: the rooms behind the pending blocks
abbrev pub staged_of : PendingBlocks → ℕ → List (ℕ × List ℕ)
staged_of pending staged = take staged (drop pending.count pending.rooms.items)

-- the bytes in the room behind n of these
abbrev pub room_of : PendingBlocks → ℕ → List ℕ
room_of pending staged = (slice_index_or pending.rooms.items (pending.count + staged) (0, [])).1

-- the one at this index
abbrev pub pending_at : List (ℕ × List ℕ) → ℕ → ℕ × List ℕ
pending_at pending k = slice_index_or pending k (0, [])

-- the numbers of those that are among n from this one on, or of those that are not
abbrev pub due_in : (among : Bool) → (first count : ℕ) → List (ℕ × List ℕ) → List ℕ
due_in true first count pending = filter (is_among first count) (numbers_in pending)
due_in false first count pending = filter (λ i. not (is_among first count i)) (numbers_in pending)

-- The first one of which it is so that its number is one of n from this one on, or of which it is not so.
abbrev pub FirstOf : List (ℕ × List ℕ) → (among : Bool) → (first count : ℕ) → Option ℕ → Type 0
FirstOf pending among first count None =
    (j : ℕ) → j < length pending → is_among first count ((pending_at pending j).0) ≡ (if among then false else true)
FirstOf pending among first count (Some k) = (k < length pending)
    × (is_among first count ((pending_at pending k).0) ≡ among)
    × ((j : ℕ) → j < k → is_among first count ((pending_at pending j).0) ≡ (if among then false else true))
