-- The reading and the writing of the record of the lead with the power off, and that a drive stands for something after them.
use Rattle.std.proofs.Common.{◌≡◌, sym, subst}
use Rattle.model_lists.specs.Records.{LeadRecord}
use Rattle.model_sectors.specs.Discs.{Standing, On, Off}
use Rattle.model_drive.specs.declared.RecordOut.{RecordOut}
use Rattle.model_drive.specs.declared.RecordOut.TheVariants as outs
use Rattle.model_drive.specs.Shown.{Shown, IsOn, StandsFor}
use Rattle.model_drive.specs.Records.{GenerationCause, LeadFromCause, RecordStep}
use Rattle.model_drive.proofs.Found.{record_found}
use Rattle.model_drive.proofs.Kept.{generation_kept, lead_kept}
use Rattle.ram_states.specs.Records.{RecordSteps}
use Rattle.ram_volume.specs.Volume.{StandsForSome}
use Rattle.ram_volume.proofs.Somes.{still_some}

-- with the power off
module _ (old new : Shown) (same : old ≡ new) (off : ¬ IsOn new) where
  record_off : (s : Standing) → StandsFor new s → RecordStep (StandsFor new) s outs.Off
  record_off (On disc) stands = absurd (off stands.1)
  record_off (Off discs) stands = stands

  pub record_steps_off : RecordSteps old new outs.Off
  record_steps_off s stands = record_off s (subst (λ (x : Shown). StandsFor x s) same stands)

-- a call that began in this state did so in what the state shows
module _ (old begun new : Shown) (same : old ≡ begun) (value : LeadRecord) (out : RecordOut) where
  pub record_steps_of : RecordSteps begun new out → RecordSteps old new out
  record_steps_of steps = subst (λ (x : Shown). RecordSteps x new out) (sym same) steps

  pub generation_keeps : GenerationCause begun new value out → RecordSteps begun new out → StandsForSome old → StandsForSome new
  generation_keeps cause steps = subst (λ (x : Shown). StandsForSome x → StandsForSome new) (sym same)
      (still_some begun new (generation_kept begun new value out cause).as_known (λ s stands. let found = record_found (StandsFor new) s out (steps s stands) in (found.0, found.1)))

  pub lead_keeps : LeadFromCause begun new value out → RecordSteps begun new out → StandsForSome old → StandsForSome new
  lead_keeps cause steps = subst (λ (x : Shown). StandsForSome x → StandsForSome new) (sym same)
      (still_some begun new (lead_kept begun new value out cause).as_known (λ s stands. let found = record_found (StandsFor new) s out (steps s stands) in (found.0, found.1)))
