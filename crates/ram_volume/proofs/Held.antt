-- What a drive shows while it holds a state, before and after a call.
use Rattle.std.proofs.Common.{◌≡◌, ℕ, IsSome, Option, Some, None, List, sym, ap, subst}
use Rattle.std.specs.Prelude.{is_some}
use Rattle.model_sectors.specs.Discs.{Standing, Off, candidates}
use Rattle.model_sectors.specs.declared.ReadOut.{ReadOut}
use Rattle.model_sectors.specs.declared.PowerOut.{PowerOut}
use Rattle.model_drive.specs.declared.WriteOut.{WriteOut}
use Rattle.model_drive.specs.declared.ExpandOut.{ExpandOut}
use Rattle.model_drive.specs.declared.RecordOut.{RecordOut}
use Rattle.model_drive.specs.declared.Kind.{Kind}
use Rattle.model_drive.specs.declared.FormatOut.{FormatOut}
use Rattle.model_drive.specs.Shown.{Shown, StandsFor}
use Rattle.model_drive.specs.Reads.{ReadStep, VerifyStep}
use Rattle.model_drive.specs.Writes.{WriteStep}
use Rattle.model_drive.specs.Expands.{ExpandStep}
use Rattle.model_drive.specs.Records.{RecordStep}
use Rattle.model_drive.specs.Power.{PowerStep}
use Rattle.model_drive.specs.Formats.{FormatStep}
use Rattle.ram_medium.specs.declared.blocks.Medium.{Ghosts}
use Rattle.ram_medium.specs.declared.control.MediumControl.{Ghosts as ControlGhosts}
use Rattle.ram_medium.specs.declared.control.FailEnd.{FailEnd}
use Rattle.ram_medium.specs.declared.control.FailEnd.TheVariants as fails
use Rattle.ram_medium.specs.declared.control.SyncEnd.{SyncEnd}
use Rattle.ram_medium.specs.declared.control.SyncEnd.TheVariants as syncs
use Rattle.ram_transfer.specs.Writing.{WriteSteps}
use Rattle.ram_states.specs.Control.{FailOnDrive, FailStands, SyncOnDrive, SyncStands}
use Rattle.ram_states.specs.Reading.{ReadSteps}
use Rattle.ram_states.specs.Expanding.{ExpandSteps}
use Rattle.ram_states.specs.Powers.{PowerSteps}
use Rattle.ram_states.specs.Formats.{FormatSteps}
use Rattle.ram_states.specs.Records.{RecordSteps}
use Rattle.ram_states.specs.Shown.{shown_state}
use Rattle.ram_states.specs.Verifying.{VerifySteps}
use Rattle.ram_volume.specs.Volume.{StandsForSome, shown_in}
use Rattle.ram_states.specs.declared.states.State.{State}
use Rattle.ram_volume.proofs.Somes.{still_some}

-- the failure of a block leaves something that a drive stands for
fail_known : (old new : Shown) (block : ℕ) (end : FailEnd) → FailOnDrive old new block end → new.medium.world.known ≡ old.medium.world.known
fail_known old new block fails.Done rule = ap (λ m. m.world.known) rule.0.1
fail_known old new block (fails.NoBlock blocks) rule = ap (λ m. m.world.known) rule.0.2
fail_known old new block fails.Failed rule = rule.0.1.as_known

fail_found : (new : Shown) (s : Standing) (end : FailEnd) → FailStands new s end → (t : Standing) × StandsFor new t
fail_found new s fails.Done stands = (s, stands)
fail_found new s (fails.NoBlock blocks) stands = (s, stands)
fail_found new s fails.Failed stands = (Off (candidates s), stands)

pub fail_keeps : (old new : Shown) (block : ℕ) (end : FailEnd) → FailOnDrive old new block end → ((s : Standing) → StandsFor old s → FailStands new s end) → StandsForSome old → StandsForSome new
fail_keeps old new block end rule stands = still_some old new (fail_known old new block end rule) (λ s stood. fail_found new s end (stands s stood))

-- and so does the wait until all lasts
pub sync_keeps : (old new : Shown) (end : SyncEnd) → SyncOnDrive old new end → ((s : Standing) → StandsFor old s → SyncStands new s end) → StandsForSome old → StandsForSome new
sync_keeps old new syncs.Done same stands = subst StandsForSome (sym same)
sync_keeps old new syncs.Failed rule stands = still_some old new rule.0.as_known (λ s stood. (Off (candidates s), stands s stood))

module _ {M : Type 0} {c : ControlGhosts M} {d : Ghosts M} where
  -- a slot that holds a state
  pub holds : (slot : Option (State M c d)) (state : State M c d) → slot ≡ Some state → IsSome slot
  holds slot state is = ap is_some is

  held_is : (slot : Option (State M c d)) (held : IsSome slot) (state : State M c d) → slot ≡ Some state → shown_in slot held ≡ shown_state state
  held_is None held state is = let clash : None ≡ Some state = is in absurd cc
  held_is (Some kept) held state is = ap (λ (o : Option (State M c d)). shown_or (shown_state kept) o) is
    where
      shown_or : Shown → Option (State M c d) → Shown
      shown_or other None = other
      shown_or other (Some x) = shown_state x

  module _ (before after : State M c d) (old new : Option (State M c d)) (was : IsSome old) (is : IsSome new) (took : old ≡ Some before) (put : new ≡ Some after) where
    pub some_held : (StandsForSome (shown_state before) → StandsForSome (shown_state after)) → StandsForSome (shown_in old was) → StandsForSome (shown_in new is)
    some_held keeps some = subst StandsForSome (sym (held_is new is after put)) (keeps (subst StandsForSome (held_is old was before took) some))

    pub read_held : (lba n : ℕ) (into : List ℕ) (out : ReadOut) → ReadSteps (shown_state before) (shown_state after) lba n into out
        → (s : Standing) → StandsFor (shown_in old was) s → ReadStep (StandsFor (shown_in new is)) s lba n into out
    read_held lba n into out read s stands =
        subst (λ (x : Shown). ReadStep (StandsFor x) s lba n into out) (sym (held_is new is after put))
        (read s (subst (λ (x : Shown). StandsFor x s) (held_is old was before took) stands))

    pub verify_held : (out : ReadOut) → VerifySteps (shown_state before) (shown_state after) out
        → (s : Standing) → StandsFor (shown_in old was) s → VerifyStep (StandsFor (shown_in new is)) s out
    verify_held out verified s stands =
        subst (λ (x : Shown). VerifyStep (StandsFor x) s out) (sym (held_is new is after put))
        (verified s (subst (λ (x : Shown). StandsFor x s) (held_is old was before took) stands))

    pub record_held : (out : RecordOut) → RecordSteps (shown_state before) (shown_state after) out
        → (s : Standing) → StandsFor (shown_in old was) s → RecordStep (StandsFor (shown_in new is)) s out
    record_held out recorded s stands =
        subst (λ (x : Shown). RecordStep (StandsFor x) s out) (sym (held_is new is after put))
        (recorded s (subst (λ (x : Shown). StandsFor x s) (held_is old was before took) stands))

    pub write_held : (lba n : ℕ) (from : List ℕ) (out : WriteOut) → WriteSteps (shown_state before) (shown_state after) lba n from out
        → (s : Standing) → StandsFor (shown_in old was) s → WriteStep (shown_in new is) (StandsFor (shown_in new is)) s lba n from out
    write_held lba n from out wrote s stands =
        subst (λ (x : Shown). WriteStep x (StandsFor x) s lba n from out) (sym (held_is new is after put))
        (wrote s (subst (λ (x : Shown). StandsFor x s) (held_is old was before took) stands))

    pub expand_held : (sectors : ℕ) (out : ExpandOut) → ExpandSteps (shown_state before) (shown_state after) sectors out
        → (s : Standing) → StandsFor (shown_in old was) s → ExpandStep (StandsFor (shown_in new is)) s sectors out
    expand_held sectors out expanded s stands =
        subst (λ (x : Shown). ExpandStep (StandsFor x) s sectors out) (sym (held_is new is after put))
        (expanded s (subst (λ (x : Shown). StandsFor x s) (held_is old was before took) stands))

    pub power_held : (out : PowerOut) → PowerSteps (shown_state before) (shown_state after) out
        → (s : Standing) → StandsFor (shown_in old was) s → PowerStep (shown_in new is) (StandsFor (shown_in new is)) s out
    power_held out steps s stands =
        subst (λ (x : Shown). PowerStep x (StandsFor x) s out) (sym (held_is new is after put))
        (steps s (subst (λ (x : Shown). StandsFor x s) (held_is old was before took) stands))

    pub format_held : (kind : Kind) (out : FormatOut) → FormatSteps (shown_state before) (shown_state after) kind out
        → (s : Standing) → StandsFor (shown_in old was) s → FormatStep (shown_in old was) (shown_in new is) (StandsFor (shown_in new is)) s kind out
    format_held kind out formatted s stands =
        subst (λ (x : Shown). FormatStep (shown_in old was) x (StandsFor x) s kind out) (sym (held_is new is after put))
        (subst (λ (x : Shown). FormatStep x (shown_state after) (StandsFor (shown_state after)) s kind out) (sym (held_is old was before took))
        (formatted s (subst (λ (x : Shown). StandsFor x s) (held_is old was before took) stands)))
