-- The bytes of an image that are known stay so, whatever events come.
use Rattle.std.specs.Prelude.{◌≡◌, ℕ, Option, None, Some, MatchOption, List, [], ◌∷◌}
use Rattle.std.proofs.Common.{refl, ap, ◌∙◌, subst}
use Rattle.model_bytes.specs.Known.{WhereKnown}
use Rattle.model_medium.specs.Machine.{Machine, fate_due, is_killed}
use Rattle.model_medium.specs.Exact.{Event, Read, Write, PowerOn, PowerOff}
use Rattle.model_medium.specs.Happened.{Happens}
use Rattle.model_medium.specs.declared.Fate.{Fate}
use Rattle.ram_image.specs.EventBytes.{BytesAt, FailBytes, LeavesBytes}
use Rattle.model_medium.specs.declared.ReadEnd.TheVariants as reads
use Rattle.model_medium.specs.declared.WriteEnd.TheVariants as writes
use Rattle.ram_medium.specs.declared.control.FailEnd.{FailEnd}
use Rattle.ram_medium.specs.declared.control.FailEnd.TheVariants as fails
use Rattle.ram_machine.specs.Underwent.{InImage, DoesInImage, UnderwentEvents}

-- they are known
abbrev pub AreKnown : Option (List ℕ) → Type 0
AreKnown image = (bytes : List ℕ) × (image ≡ Some bytes)

known_where : (before : List ℕ) (after : Option (List ℕ)) (R : List ℕ → List ℕ → Type 0) → WhereKnown (Some before) after R → AreKnown after
known_where before None R is = absurd is
known_where before (Some bytes) R is = (bytes, refl)

cut_known : (due : Option Fate) (R : Fate → List ℕ → List ℕ → Type 0) (before : List ℕ) (after : Option (List ℕ)) → MatchOption due ⊥ (λ fate. WhereKnown (Some before) after (R fate)) → AreKnown after
cut_known None R before after is = absurd is
cut_known (Some fate) R before after is = known_where before after (R fate) is

event_known : (old : Machine) (total : ℕ) (before : List ℕ) (after : Option (List ℕ)) (event : Event) → BytesAt old total (Some before) after event → AreKnown after
event_known old total before after (Read block into into' reads.Done) is = known_where before after _ is
event_known old total before after (Read block into into' reads.Unreadable) is = known_where before after _ is
event_known old total before after (Read block into into' reads.Cut) is = known_where before after _ is
event_known old total before after (Read block into into' reads.Off) is = (before, is)
event_known old total before after (Read block into into' reads.Failed) is = known_where before after _ is
event_known old total before after (Write block bytes writes.Done) is = known_where before after _ is
event_known old total before after (Write block bytes writes.Cut) is =
    cut_known (fate_due old.cut) (λ fate. LeavesBytes (is_killed block old.arms) fate total block bytes) before after is
event_known old total before after (Write block bytes writes.Off) is = (before, is)
event_known old total before after (Write block bytes writes.Failed) is = known_where before after _ is
event_known old total before after PowerOn is = (before, is)
event_known old total before after PowerOff is = (before, is)

events_known : (blocks : ℕ) (old new : InImage) (before : List ℕ) (events : List Event) → old.bytes ≡ Some before → Happens (DoesInImage blocks) old events new → AreKnown new.bytes
events_known blocks old new before [] known same = (before, ap (λ (i : InImage). i.bytes) same ∙ known)
events_known blocks old new before (event ∷ events) known did =
    let mid = events_known blocks old did.0 before events known did.1 in
    event_known did.0.machine blocks mid.0 new.bytes event (subst (λ (o : Option (List ℕ)). BytesAt did.0.machine blocks o new.bytes event) mid.1 did.2.bytes)

-- after events
pub underwent_known : (blocks : ℕ) (old : Machine) (before : List ℕ) (new : Machine) (after : Option (List ℕ)) → UnderwentEvents blocks old (Some before) new after → AreKnown after
underwent_known blocks old before new after happened =
    events_known blocks (record { machine = old; bytes = Some before }) (record { machine = new; bytes = after }) before happened.0 refl happened.1

-- after the failure of a block
pub fail_known : (block : ℕ) (before : List ℕ) (after : Option (List ℕ)) (end : FailEnd) → FailBytes block (Some before) after end → AreKnown after
fail_known block before after fails.Done is = known_where before after _ is
fail_known block before after (fails.NoBlock blocks) is = (before, is)
fail_known block before after fails.Failed is = known_where before after _ is
