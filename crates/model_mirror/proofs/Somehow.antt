-- After each call a side stands for something, if it did before.
use Rattle.std.proofs.Common.{◌≡◌, ℕ, ◌⊎◌, inl, inr, true, false, List, [], ◌∷◌, sym, ◌∙◌}
use Rattle.model_sectors.specs.Discs.{Standing, On, Off, candidates}
use Rattle.model_sectors.specs.declared.ReadOut.{ReadOut}
use Rattle.model_sectors.specs.declared.ReadOut.TheVariants as reads
use Rattle.model_sectors.specs.declared.PowerOut.{PowerOut}
use Rattle.model_sectors.specs.declared.PowerOut.TheVariants as powers
use Rattle.model_drive.specs.declared.WriteOut.{WriteOut}
use Rattle.model_drive.specs.declared.WriteOut.TheVariants as writes
use Rattle.model_drive.specs.declared.FormatOut.{FormatOut}
use Rattle.model_drive.specs.declared.FormatOut.TheVariants as formats
use Rattle.model_drive.specs.declared.Kind.TheVariants as kinds
use Rattle.model_drive.specs.Shown.{Shown}
use Rattle.model_drive.specs.Reads.{ReadStep}
use Rattle.model_drive.specs.Writes.{WriteStep}
use Rattle.model_drive.specs.Power.{PowerStep}
use Rattle.model_drive.specs.Formats.{FormatStep}
use Rattle.model_formats.specs.Stopped.{zero_disc}
use Rattle.model_drive.specs.declared.RecordOut.{RecordOut}
use Rattle.model_drive.specs.declared.RecordOut.TheVariants as records
use Rattle.model_drive.specs.Records.{RecordStep}
use Rattle.model_mirror.specs.Shown.{MirrorShown}
use Rattle.model_mirror.specs.Standing.{StandsSomehow, MirrorStands}

-- a mirror that is on stands for Off where its lead does
pub led_off : (shown : MirrorShown) → shown.on ≡ true → (lead other : Standing → Type 0) (discs : List (List ℕ)) → MirrorStands shown lead other (Off discs) → lead (Off discs)
led_off shown on lead other discs (inl off, some) = off
led_off shown on lead other discs (inr idle, some) = absurd (let e : false ≡ true = sym idle.off ∙ on in cc)

module _ (after : Standing → Type 0) where
  it : (t : Standing) → after t → StandsSomehow after
  it t so = record { standing = t; stands = so }

  pub read_somehow : (s : Standing) (lba n : ℕ) (into : List ℕ) (out : ReadOut) → ReadStep after s lba n into out → StandsSomehow after
  read_somehow (On disc) lba n into reads.Good step = it (On disc) step.1
  read_somehow (On disc) lba n into reads.NotFormatted step = it (On disc) step.1
  read_somehow (On disc) lba n into (reads.Range known) step = it (On disc) step
  read_somehow (On disc) lba n into (reads.Unread named block) step = it (On disc) step
  read_somehow (On disc) lba n into reads.Cut step = it (Off (disc ∷ [])) step
  read_somehow (On disc) lba n into reads.Off step = absurd step
  read_somehow (On disc) lba n into reads.Fault step = it (Off (disc ∷ [])) step
  read_somehow (Off discs) lba n into reads.Good step = absurd step
  read_somehow (Off discs) lba n into reads.NotFormatted step = absurd step
  read_somehow (Off discs) lba n into (reads.Range known) step = absurd step
  read_somehow (Off discs) lba n into (reads.Unread named block) step = absurd step
  read_somehow (Off discs) lba n into reads.Cut step = absurd step
  read_somehow (Off discs) lba n into reads.Off step = it (Off discs) step
  read_somehow (Off discs) lba n into reads.Fault step = absurd step

  pub write_somehow : (new : Shown) (s : Standing) (lba n : ℕ) (bytes : List ℕ) (out : WriteOut) → WriteStep new after s lba n bytes out → StandsSomehow after
  write_somehow new (On disc) lba n bytes writes.Good step = it _ step
  write_somehow new (On disc) lba n bytes writes.NotFormatted step = it (On disc) step.1
  write_somehow new (On disc) lba n bytes (writes.Range known) step = it (On disc) step
  write_somehow new (On disc) lba n bytes (writes.Unread named block) step = it _ step
  write_somehow new (On disc) lba n bytes (writes.NoSpare named) step = it _ step
  write_somehow new (On disc) lba n bytes (writes.NoUpdate counter) step = it _ step.before
  write_somehow new (On disc) lba n bytes writes.Cut step = it _ step.either
  write_somehow new (On disc) lba n bytes writes.Off step = absurd step
  write_somehow new (On disc) lba n bytes writes.Fault step = it _ step.either
  write_somehow new (Off discs) lba n bytes writes.Good step = absurd step
  write_somehow new (Off discs) lba n bytes writes.NotFormatted step = absurd step
  write_somehow new (Off discs) lba n bytes (writes.Range known) step = absurd step
  write_somehow new (Off discs) lba n bytes (writes.Unread named block) step = absurd step
  write_somehow new (Off discs) lba n bytes (writes.NoSpare named) step = absurd step
  write_somehow new (Off discs) lba n bytes (writes.NoUpdate counter) step = absurd step
  write_somehow new (Off discs) lba n bytes writes.Cut step = absurd step
  write_somehow new (Off discs) lba n bytes writes.Off step = it (Off discs) step
  write_somehow new (Off discs) lba n bytes writes.Fault step = absurd step

  pub power_somehow : (new : Shown) (s : Standing) (out : PowerOut) → PowerStep new after s out → StandsSomehow after
  power_somehow new s (powers.Ready known) step = it (On step.disc) step.found
  power_somehow new s powers.NotFormatted step = it (On []) step
  power_somehow new s powers.Cut step = it (Off (candidates s)) step
  power_somehow new s powers.Fault step = it (Off (candidates s)) step

  pub record_somehow : (s : Standing) (out : RecordOut) → RecordStep after s out → StandsSomehow after
  record_somehow (On disc) records.Good step = it (On disc) step
  record_somehow (On disc) records.Lost step = it (On disc) step
  record_somehow (On disc) records.Cut step = it (Off (disc ∷ [])) step
  record_somehow (On disc) records.Off step = absurd step
  record_somehow (On disc) records.Fault step = it (Off (disc ∷ [])) step
  record_somehow (Off discs) records.Good step = absurd step
  record_somehow (Off discs) records.Lost step = absurd step
  record_somehow (Off discs) records.Cut step = absurd step
  record_somehow (Off discs) records.Off step = it (Off discs) step
  record_somehow (Off discs) records.Fault step = absurd step

  pub format_somehow : (old new : Shown) (s : Standing) (out : FormatOut) → FormatStep old new after s (kinds.Full true) out → StandsSomehow after
  format_somehow old new (On disc) formats.Good step = it (On (zero_disc old.shape)) step
  format_somehow old new (On disc) (formats.TooMany found) step = it (On []) step
  format_somehow old new (On disc) (formats.NoUpdate counter) step = elim step [ inl kept ↦ it (On disc) kept.1 | inr lost ↦ it (On []) lost.1 ]
  format_somehow old new (On disc) formats.Cut step = in_part disc step
    where
      in_part : (disc : List ℕ) → after (Off (disc ∷ [] ∷ [])) ⊎ after (Off ([] ∷ [])) ⊎ after (Off ([] ∷ zero_disc old.shape ∷ [])) → StandsSomehow after
      in_part disc (inl a) = it _ a
      in_part disc (inr (inl b)) = it _ b
      in_part disc (inr (inr c)) = it _ c
  format_somehow old new (On disc) formats.Off step = absurd step
  format_somehow old new (On disc) formats.Fault step = in_part disc step
    where
      in_part : (disc : List ℕ) → after (Off (disc ∷ [] ∷ [])) ⊎ after (Off ([] ∷ [])) ⊎ after (Off ([] ∷ zero_disc old.shape ∷ [])) → StandsSomehow after
      in_part disc (inl a) = it _ a
      in_part disc (inr (inl b)) = it _ b
      in_part disc (inr (inr c)) = it _ c
  format_somehow old new (Off discs) formats.Good step = absurd step
  format_somehow old new (Off discs) (formats.TooMany found) step = absurd step
  format_somehow old new (Off discs) (formats.NoUpdate counter) step = absurd step
  format_somehow old new (Off discs) formats.Cut step = absurd step
  format_somehow old new (Off discs) formats.Off step = it (Off discs) step
  format_somehow old new (Off discs) formats.Fault step = absurd step
