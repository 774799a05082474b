-- The label of a medium stays, whatever a line does to it.
use Rattle.std.specs.Prelude.{◌≡◌, ℕ, not, Bool, true, false, Option, Some, None, List, [], ◌∷◌}
use Rattle.std.specs.Option.{option_map_or}
use Rattle.std.proofs.Common.{refl, ap, ◌∙◌}
use Rattle.model_medium.specs.Machine.{Machine, begun, cut_off, with_cell, fate_due, after_read, after_write}
use Rattle.model_medium.specs.Cells.{written, cut_short}
use Rattle.model_medium.specs.Exact.{Event, Read, Write, PowerOn, PowerOff, Exactly}
use Rattle.model_medium.specs.Happened.{Happens}
use Rattle.model_medium.specs.declared.Fate.{Fate}
use Rattle.model_medium.specs.declared.ReadEnd.TheVariants as reads
use Rattle.model_medium.specs.declared.WriteEnd.TheVariants as writes
use Rattle.model_medium.specs.declared.WornBlock.{WornBlock}
use Rattle.model_drive.specs.Shown.{Shown}
use Rattle.model_mirror.specs.Shown.{MirrorShown}
use Rattle.model_mirror.specs.Sides.{side_a, side_b, named_side}
use Rattle.ram_medium.specs.Control.{WearRule}
use Rattle.ram_medium.specs.declared.control.FailEnd.{FailEnd}
use Rattle.ram_medium.specs.declared.control.FailEnd.TheVariants as fails
use Rattle.ram_medium.specs.declared.control.Arm.{Arm}
use Rattle.ram_medium.specs.declared.control.Arm.TheVariants as arming
use Rattle.ram_states.specs.Control.{FailOnDrive}
use Rattle.ram_report.specs.declared.printing.MirrorEvent.{MirrorEvent}
use Rattle.ram_text.specs.declared.mirror.MirrorLine.{MirrorLine}
use Rattle.ram_text.specs.declared.mirror.MirrorLine.TheVariants as lines
use Rattle.ram_machine.specs.Underwent.{InImage, DoesInImage}
use Rattle.ram_pair.specs.PairStates.{Mirrored}
use Rattle.ram_pair.specs.PairLines.{with_side, CallRule}
use Rattle.ram_pair.specs.PairSteps.{lying, BothUnderwent, LineImages}

abbrev pub label : Machine → List ℕ
label machine = machine.world.label

read_label : (block : ℕ) (m : Machine) → label (after_read block m) ≡ label m
read_label block m = go (fate_due m.cut)
  where
    go : (due : Option Fate) → label (option_map_or (λ fate. cut_off (begun block m)) due (begun block m)) ≡ label m
    go None = refl
    go (Some fate) = refl

write_label : (block : ℕ) (bytes : List ℕ) (m : Machine) → label (after_write block bytes m) ≡ label m
write_label block bytes m = go (fate_due m.cut)
  where
    go : (due : Option Fate)
        → label (option_map_or (λ fate. cut_off (with_cell block (cut_short fate bytes) (begun block m))) due (with_cell block (written bytes) (begun block m))) ≡ label m
    go None = refl
    go (Some fate) = refl

event_label : (old new : Machine) (event : Event) → Exactly old new event → label new ≡ label old
event_label old new (Read block into into' reads.Done) is = ap label is.exactly ∙ read_label block old
event_label old new (Read block into into' reads.Unreadable) is = ap label is.exactly ∙ read_label block old
event_label old new (Read block into into' reads.Cut) is = ap label is.0.exactly ∙ read_label block old
event_label old new (Read block into into' reads.Off) is = ap label is.0.nothing
event_label old new (Read block into into' reads.Failed) is = is.0.one.same_label
event_label old new (Write block bytes writes.Done) is = ap label is.exactly ∙ write_label block bytes old
event_label old new (Write block bytes writes.Cut) is = ap label is.exactly ∙ write_label block bytes old
event_label old new (Write block bytes writes.Off) is = ap label is.nothing
event_label old new (Write block bytes writes.Failed) is = is.0.one.same_label
event_label old new PowerOn is = ap label is
event_label old new PowerOff is = ap label is

events_label : (blocks : ℕ) (old new : InImage) (events : List Event) → Happens (DoesInImage blocks) old events new → label new.machine ≡ label old.machine
events_label blocks old new [] same = ap (λ (i : InImage). label i.machine) same
events_label blocks old new (event ∷ events) did =
    event_label did.0.machine new.machine event did.2.exactly ∙ events_label blocks old did.0 events did.1

-- what a line does to a side beside its calls
module _ (old new : Shown) where
  abbrev SameLabel : Type 0
  SameLabel = label new.medium ≡ label old.medium

  fail_label : (block : ℕ) (end : FailEnd) → FailOnDrive old new block end → SameLabel
  fail_label block fails.Done p = ap label p.0.1
  fail_label block (fails.NoBlock blocks) p = ap label p.0.2
  fail_label block fails.Failed p = p.0.1.same_label

  wear_label : (blocks : ℕ) (worn : WornBlock) (end : Arm) → WearRule blocks old.medium new.medium worn end → SameLabel
  wear_label blocks worn arming.Set p = ap label p.2
  wear_label blocks worn (arming.NoBlock count) p = ap label p.2
  wear_label blocks worn arming.Full p = ap label p.2

-- the side that a line does not name is as before
other_stays : (on_a : Bool) (side : Shown) (shown : MirrorShown) → named_side (not on_a) (with_side on_a side shown) ≡ named_side (not on_a) shown
other_stays on_a side shown = go on_a shown.lead_is_a
  where
    go : (on_a lead_is_a : Bool)
        → named_side (not on_a) (with_side on_a side (record shown { lead_is_a = lead_is_a })) ≡ named_side (not on_a) (record shown { lead_is_a = lead_is_a })
    go true true = refl
    go true false = refl
    go false true = refl
    go false false = refl

-- both sides, by their names
abbrev pub SameLabels : MirrorShown → MirrorShown → Type 0
SameLabels old new = SameLabel (side_a old) (side_a new) × SameLabel (side_b old) (side_b new)

by_name : (on_a : Bool) (old new : MirrorShown) → new ≡ with_side on_a (named_side on_a new) old → SameLabel (named_side on_a old) (named_side on_a new) → SameLabels old new
by_name on_a old new rest one = go on_a one (ap (λ (m : MirrorShown). label (named_side (not on_a) m).medium) rest ∙ ap (λ (side : Shown). label side.medium) (other_stays on_a (named_side on_a new) old))
  where
    go : (on_a : Bool) → SameLabel (named_side on_a old) (named_side on_a new) → SameLabel (named_side (not on_a) old) (named_side (not on_a) new) → SameLabels old new
    go true one other = (one, other)
    go false one other = (other, one)

both_label : (s t : Mirrored) → BothUnderwent (lying s) (lying t) → SameLabels s.shown t.shown
both_label s t is = (events_label _ _ _ is.a.0 is.a.1, events_label _ _ _ is.b.0 is.b.1)

pub line_labels : (s t : Mirrored) (line : MirrorLine) (payload bytes : List ℕ) (called : MirrorEvent) → CallRule s.shown t.shown line payload bytes called → LineImages line called (lying s) (lying t)
    → SameLabels s.shown t.shown
line_labels s t lines.Empty payload bytes called rule is = absurd rule
line_labels s t (lines.Press zones scale psa) payload bytes called rule is = absurd rule
line_labels s t lines.Power payload bytes called rule is = both_label s t is
line_labels s t lines.Format payload bytes called rule is = both_label s t is
line_labels s t (lines.Read lba n) payload bytes called rule is = both_label s t is
line_labels s t (lines.Write lba n) payload bytes called rule is = both_label s t is
line_labels s t lines.Resync payload bytes called rule is = both_label s t is
line_labels s t lines.Lead payload bytes called rule is = (ap (λ (m : MirrorShown). label (side_a m).medium) rule.same, ap (λ (m : MirrorShown). label (side_b m).medium) rule.same)
line_labels s t (lines.GiveLead to_a) payload bytes called rule is = both_label s t is
line_labels s t (lines.Fail on_a block) payload bytes called rule is = by_name on_a s.shown t.shown rule.rest (fail_label _ _ block rule.end rule.rule)
line_labels s t (lines.Wear on_a block n) payload bytes called rule is = by_name on_a s.shown t.shown rule.rest (wear_label (named_side on_a s.shown) (named_side on_a t.shown) _ _ rule.end rule.rule)
line_labels s t (lines.Cut on_a n fate) payload bytes called rule is = by_name on_a s.shown t.shown rule.rest (ap label rule.armed)
