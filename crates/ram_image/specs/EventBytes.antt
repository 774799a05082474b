-- Which bytes of an image the events of a medium over it change: for `ImageTakes` and for `fail`.
use Rattle.std.specs.Prelude.{◌≡◌, ℕ, ◌⊎◌, Bool, Option, MatchOption, List}
use Rattle.model_bytes.specs.Known.{WhereKnown}
use Rattle.model_medium.specs.Machine.{Machine, is_killed, fate_due}
use Rattle.model_medium.specs.Exact.{Event, Read, Write, PowerOn, PowerOff}
use Rattle.model_medium.specs.declared.Fate.{Fate}
use Rattle.model_medium.specs.declared.Fate.TheVariants as fates
use Rattle.model_medium.specs.declared.ReadEnd.{ReadEnd}
use Rattle.model_medium.specs.declared.ReadEnd.TheVariants as reads
use Rattle.model_medium.specs.declared.WriteEnd.{WriteEnd}
use Rattle.model_medium.specs.declared.WriteEnd.TheVariants as writes
use Rattle.model_image.specs.Writes.{with_state, dead_state, worn_bytes, bytes_left, StopsInBytes, IsBeforeOrAfter}
use Rattle.ram_outside.specs.Past.{Moment}
use Rattle.ram_image.specs.Moments.{PassesOnly}
use Rattle.ram_medium.specs.Control.{Told, Fails, Arms, Syncs}
use Rattle.ram_medium.specs.declared.control.FailEnd.{FailEnd}
use Rattle.ram_medium.specs.declared.control.FailEnd.TheVariants as fails

-- The bytes before and after a use of a block in which one of its arms runs out, if `dies` says so: the block's state
-- byte is then that of a dead block, and no other byte changed. (This project's own, as all here.)
abbrev pub WearsBytes : Bool → ℕ → List ℕ → List ℕ → Type 0
WearsBytes dies block held held' = held' ≡ worn_bytes dies block held

-- The image failed while an arm killed the block: nothing changed, or just that.
abbrev pub MayWearBytes : Bool → ℕ → List ℕ → List ℕ → Type 0
MayWearBytes dies block held held' = IsBeforeOrAfter held (worn_bytes dies block held) held'

-- What a read makes of the bytes, by its answer: it changes none but by an arm.
abbrev pub ReadBytes : Bool → ℕ → Option (List ℕ) → Option (List ℕ) → ReadEnd → Type 0
ReadBytes dies block before after reads.Done = WhereKnown before after (WearsBytes dies block)
ReadBytes dies block before after reads.Unreadable = WhereKnown before after (WearsBytes dies block)
ReadBytes dies block before after reads.Cut = WhereKnown before after (WearsBytes dies block)
ReadBytes dies block before after reads.Off = after ≡ before
ReadBytes dies block before after reads.Failed = WhereKnown before after (MayWearBytes dies block)

-- The bytes before and after a write of these data that ends by this fate, behind the arms of its block.
abbrev pub LeavesBytes : Bool → Fate → ℕ → ℕ → List ℕ → List ℕ → List ℕ → Type 0
LeavesBytes dies fate total block block_data held held' =
    held' ≡ bytes_left fate total block block_data (worn_bytes dies block held)

-- The image failed in a write of these data: nothing changed, or bytes of the block alone, behind its arms.
abbrev pub MayLeaveBytes : Bool → ℕ → ℕ → List ℕ → List ℕ → List ℕ → Type 0
MayLeaveBytes dies total block block_data held held' =
    (held' ≡ held) ⊎ StopsInBytes total block block_data (worn_bytes dies block held) held'

-- What a write makes of the bytes, by its answer; `due` is the fate of the cut that is due in it.
abbrev pub WriteBytes : Bool → Option Fate → ℕ → ℕ → List ℕ → Option (List ℕ) → Option (List ℕ) → WriteEnd → Type 0
WriteBytes dies due total block block_data before after writes.Done =
    WhereKnown before after (LeavesBytes dies fates.New total block block_data)
WriteBytes dies due total block block_data before after writes.Cut =
    MatchOption due ⊥ (λ fate. WhereKnown before after (LeavesBytes dies fate total block block_data))
WriteBytes dies due total block block_data before after writes.Off = after ≡ before
WriteBytes dies due total block block_data before after writes.Failed =
    WhereKnown before after (MayLeaveBytes dies total block block_data)

-- What an event makes of the bytes of an image of n blocks.
abbrev pub BytesAt : Machine → ℕ → Option (List ℕ) → Option (List ℕ) → Event → Type 0
BytesAt old total before after (Read block into into' how) = ReadBytes (is_killed block old.arms) block before after how
BytesAt old total before after (Write block block_data how) =
    WriteBytes (is_killed block old.arms) (fate_due old.cut) total block block_data before after how
BytesAt old total before after PowerOn = after ≡ before
BytesAt old total before after PowerOff = after ≡ before

-- What the failure of a block makes of the bytes, by its answer: its state byte is that of a dead block.
abbrev pub FailBytes : ℕ → Option (List ℕ) → Option (List ℕ) → FailEnd → Type 0
FailBytes block before after fails.Done = WhereKnown before after (λ held held'. held' ≡ with_state block dead_state held)
FailBytes block before after (fails.NoBlock blocks) = after ≡ before
FailBytes block before after fails.Failed =
    WhereKnown before after (λ held held'. IsBeforeOrAfter held (with_state block dead_state held) held')

-- What is done to the medium beside its uses makes this of the bytes: where something is armed, or all is to last, they stay.
abbrev pub ToldBytes : Option (List ℕ) → Option (List ℕ) → Told → Type 0
ToldBytes before after (Fails block end) = FailBytes block before after end
ToldBytes before after Arms = after ≡ before
ToldBytes before after (Syncs end) = after ≡ before

-- At each moment within an event the image is one that its failure could leave in this event.
abbrev pub PastAt : Machine → ℕ → Option (List ℕ) → (past past' : Option (List Moment)) → Event → Type 0
PastAt old total before past past' (Read block into into' how) = PassesOnly (MayWearBytes (is_killed block old.arms) block) before past past'
PastAt old total before past past' (Write block block_data how) =
    PassesOnly (MayLeaveBytes (is_killed block old.arms) total block block_data) before past past'
PastAt old total before past past' PowerOn = past' ≡ past
PastAt old total before past past' PowerOff = past' ≡ past
