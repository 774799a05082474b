-- What receiving may do, by how it ended: what is left before and after, the counts, and what the slice then holds. (This project's own,
-- as all here.)
use Rattle.std.specs.Prelude.{◌≡◌, ℕ, ◌<◌, Option, is_some, List, length, take}
use Rattle.std.specs.Io.KnownBytes.{Consumes, IsAtEnd}
use Rattle.model_counts.specs.Counts.{Rose}
use Rattle.ram_outside.specs.Conversation.{Asked}
use Rattle.ram_receive.specs.declared.Received.{Received}
use Rattle.ram_receive.specs.declared.Received.TheVariants.{Whole, Ended, Failed}

-- these bytes went, and what is known stays so
pub record Went (before after : Option (List ℕ)) (bytes : List ℕ) : Type 0 where
  pub next : Consumes before after bytes
  pub known : is_some after ≡ is_some before

-- What receiving may do, by its answer.
abbrev pub ReceiveRule : Option (List ℕ) → Option (List ℕ) → ℕ → ℕ → List ℕ → Received → Type 0
ReceiveRule before after faults faults' into Whole = Went before after into × (faults' ≡ faults)
ReceiveRule before after faults faults' into (Ended n) =
    (n < length into) × Went before after (take n into) × IsAtEnd after × (faults' ≡ faults)
ReceiveRule before after faults faults' into (Failed n) =
    (n < length into) × Went before after (take n into) × Rose faults faults'

-- More was asked for when fewer bytes than this had come of what was left, and this was written.
pub record IsShortAsk (left written : Option (List ℕ)) (count : ℕ) (ask : Asked) : Type 0 where
  pub came : List ℕ
  pub few : length came < count
  pub went : Went left ask.left came
  pub written_is : ask.written ≡ written
