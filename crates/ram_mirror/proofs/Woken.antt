-- A side whose power went on, and whose record was asked for, over plain values.
use Rattle.std.proofs.Common.{◌≡◌, ℕ, ◌+◌, inl, inr, Bool, true, false, [], refl, sym, subst}
use Rattle.std.specs.Prelude.{IsSome, MatchBool, nat_lt}
use Rattle.model_sectors.specs.Discs.{Standing, On, Off}
use Rattle.model_sectors.specs.declared.PowerOut.{PowerOut}
use Rattle.model_sectors.specs.declared.PowerOut.TheVariants as powers
use Rattle.model_drive.specs.declared.RecordOut.{RecordOut}
use Rattle.model_drive.specs.declared.RecordOut.TheVariants as records
use Rattle.model_drive.specs.Shown.{Shown, IsOn, IsFormatted}
use Rattle.model_drive.specs.Power.{PowerCause, PowerStep}
use Rattle.model_drive.specs.Tells.{HasDisc}
use Rattle.model_drive.specs.Records.{RecordStep, KeepsDisc}
use Rattle.model_mirror.specs.Leading.{Noted, NotesRecord, Raises, WritesNumber, WritesNoNumber, last_number}
use Rattle.model_mirror.specs.Powers.{WasMounted, on_or_off, stays_on}
use Rattle.ram_mirror.specs.Notes.{RaiseStep}
use Rattle.ram_mirror.specs.Powering.{once_asked, is_ready}

-- what a call that went to its end keeps of a side
pub kept_disc : (old new : Shown) (uses : ℕ) → KeepsDisc old new uses → new.shape ≡ old.shape → WasMounted new old
kept_disc old new uses keeps shape = record { same_shape = shape; same_lists = keeps.keeps.same_lists; only = keeps.only }

pub since_asked : (mounted new : Shown) (was now : Noted) (out : RecordOut) → NotesRecord mounted new was now out → new.shape ≡ mounted.shape → stays_on out ≡ true → WasMounted new mounted
since_asked mounted new was now records.Good notes shape on = kept_disc mounted new _ notes.cause.mends.keeps shape
since_asked mounted new was now records.Lost notes shape on = kept_disc mounted new _ notes.cause.mends.keeps shape
since_asked mounted new was now records.Cut notes shape on = absurd (let w = on in cc)
since_asked mounted new was now records.Off notes shape on = absurd (let w = on in cc)
since_asked mounted new was now records.Fault notes shape on = absurd (let w = on in cc)

on_asked : (mounted new : Shown) (was now : Noted) (out : RecordOut) → NotesRecord mounted new was now out → stays_on out ≡ true → IsOn new
on_asked mounted new was now records.Good notes on = notes.cause.mends.keeps.ends.is_on
on_asked mounted new was now records.Lost notes on = notes.cause.mends.keeps.ends.is_on
on_asked mounted new was now records.Cut notes on = absurd (let w = on in cc)
on_asked mounted new was now records.Off notes on = absurd (let w = on in cc)
on_asked mounted new was now records.Fault notes on = absurd (let w = on in cc)

formatted : (old mounted : Shown) (power : PowerOut) → PowerCause old mounted power → is_ready power ≡ true → IsFormatted mounted
formatted old mounted (powers.Ready known) cause ready = subst (λ l. IsSome l) (sym cause.in_use) refl
formatted old mounted powers.NotFormatted cause ready = absurd (let w = ready in cc)
formatted old mounted powers.Cut cause ready = absurd (let w = ready in cc)
formatted old mounted powers.Fault cause ready = absurd (let w = ready in cc)

pub disc_asked : (old mounted new : Shown) (power : PowerOut) → PowerCause old mounted power → (was now : Noted) (out : RecordOut) → NotesRecord mounted new was now out → new.shape ≡ mounted.shape
    → stays_on out ≡ true → is_ready power ≡ true → HasDisc new
disc_asked old mounted new power cause was now out notes shape on ready = (
  on_asked mounted new was now out notes on,
  subst (λ l. IsSome l) (sym (since_asked mounted new was now out notes shape on).same_lists) (formatted old mounted power cause ready),
)

-- one step after the mount
pub power_map : (shown : Shown) (before after : Standing → Type 0) → ((t : Standing) → before t → after t) → (s : Standing) (told : PowerOut) → PowerStep shown before s told → PowerStep shown after s told
power_map shown before after f s (powers.Ready known) step = record { lists = step.lists; in_use = step.in_use; disc = step.disc; first = step.first; found = f (On step.disc) step.found }
power_map shown before after f s powers.NotFormatted step = f (On []) step
power_map shown before after f s powers.Cut step = f _ step
power_map shown before after f s powers.Fault step = f _ step

pub asked_step : (after : Standing → Type 0) (t : Standing) (out : RecordOut) → RecordStep after t out → once_asked out after t
asked_step after (On disc) records.Good step = step
asked_step after (On disc) records.Lost step = step
asked_step after (On disc) records.Cut step = step
asked_step after (On disc) records.Off step = absurd step
asked_step after (On disc) records.Fault step = step
asked_step after (Off discs) records.Good step = absurd step
asked_step after (Off discs) records.Lost step = absurd step
asked_step after (Off discs) records.Cut step = absurd step
asked_step after (Off discs) records.Off step = step
asked_step after (Off discs) records.Fault step = absurd step

-- on or off, it stands for something that it stood for
pub raised_some : (after : Standing → Type 0) (s : Standing) (out : RecordOut) → RaiseStep after s out → on_or_off after s
raised_some after s records.Good step = inl step
raised_some after s records.Lost step = inl step
raised_some after s records.Cut step = inr step
raised_some after s records.Off step = inl step
raised_some after s records.Fault step = inr step

pub raised_keeps : (after : Standing → Type 0) (s : Standing) (out : RecordOut) → stays_on out ≡ true → RaiseStep after s out → after s
raised_keeps after s records.Good on step = step
raised_keeps after s records.Lost on step = step
raised_keeps after s records.Cut on step = absurd (let w = on in cc)
raised_keeps after s records.Off on step = absurd (let w = on in cc)
raised_keeps after s records.Fault on step = absurd (let w = on in cc)

same_mounted : (old new : Shown) → new ≡ old → WasMounted new old
same_mounted old new e = subst (λ (x : Shown). WasMounted x old) (sym e) (record { same_shape = refl; same_lists = refl; only = λ block others. refl })

wrote_since : (old new : Shown) (was now : Noted) (number : ℕ) (out : RecordOut) → WritesNumber old new was now number out → new.shape ≡ old.shape → stays_on out ≡ true → WasMounted new old
wrote_since old new was now number records.Good wrote shape on = kept_disc old new _ wrote.cause.keeps shape
wrote_since old new was now number records.Lost wrote shape on = kept_disc old new _ wrote.cause.keeps shape
wrote_since old new was now number records.Cut wrote shape on = absurd (let w = on in cc)
wrote_since old new was now number records.Off wrote shape on = absurd (let w = on in cc)
wrote_since old new was now number records.Fault wrote shape on = absurd (let w = on in cc)

-- a record was made one with a greater number: no cell changed but its own
pub raised_since : (old new : Shown) (was now : Noted) (above : ℕ) (out : RecordOut) → Raises old new was now above out → new.shape ≡ old.shape → stays_on out ≡ true → WasMounted new old
raised_since old new was now above out raises shape on = go (nat_lt above was.most) raises
  where
    inner : (b : Bool) → MatchBool b (WritesNumber old new was now (above + 1) out) (WritesNoNumber old new was now × (out ≡ records.Lost)) → WasMounted new old
    inner true wrote = wrote_since old new was now (above + 1) out wrote shape on
    inner false p = same_mounted old new p.0.same

    go : (b : Bool) → MatchBool b (WritesNoNumber old new was now × (out ≡ records.Good)) (MatchBool (nat_lt above last_number) (WritesNumber old new was now (above + 1) out) (WritesNoNumber old new was now × (out ≡ records.Lost))) → WasMounted new old
    go true p = same_mounted old new p.0.same
    go false p = inner (nat_lt above last_number) p

-- and a disc that was there still is, where it went well
pub raised_disc : (old new : Shown) (was now : Noted) (above : ℕ) → Raises old new was now above records.Good → HasDisc old → HasDisc new
raised_disc old new was now above raises disc = go (nat_lt above was.most) raises
  where
    inner : (b : Bool) → MatchBool b (WritesNumber old new was now (above + 1) records.Good) (WritesNoNumber old new was now × (records.Good ≡ records.Lost)) → HasDisc new
    inner true wrote = (wrote.cause.keeps.ends.is_on, subst (λ l. IsSome l) (sym wrote.cause.keeps.keeps.same_lists) disc.1)
    inner false p = absurd (let w = p.1 in cc)

    go : (b : Bool) → MatchBool b (WritesNoNumber old new was now × (records.Good ≡ records.Good)) (MatchBool (nat_lt above last_number) (WritesNumber old new was now (above + 1) records.Good) (WritesNoNumber old new was now × (records.Good ≡ records.Lost))) → HasDisc new
    go true p = subst HasDisc (sym p.0.same) disc
    go false p = inner (nat_lt above last_number) p
