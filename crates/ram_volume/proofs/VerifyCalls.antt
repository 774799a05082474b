-- A verification with the power off, and that a drive stands for something after one.
use Rattle.std.proofs.Common.{◌≡◌, ℕ, sym, subst}
use Rattle.model_sectors.specs.Discs.{Standing, On, Off}
use Rattle.model_sectors.specs.declared.ReadOut.{ReadOut}
use Rattle.model_sectors.specs.declared.ReadOut.TheVariants as reads
use Rattle.model_drive.specs.Shown.{Shown, IsOn, StandsFor}
use Rattle.model_drive.specs.Reads.{VerifyCause, VerifyStep}
use Rattle.model_drive.proofs.Found.{verify_found}
use Rattle.model_drive.proofs.Kept.{verify_kept}
use Rattle.ram_states.specs.Verifying.{VerifySteps}
use Rattle.ram_volume.specs.Volume.{StandsForSome}
use Rattle.ram_volume.proofs.Somes.{still_some}

-- with the power off
module _ (old new : Shown) (same : old ≡ new) (off : ¬ IsOn new) where
  verify_off : (s : Standing) → StandsFor new s → VerifyStep (StandsFor new) s reads.Off
  verify_off (On disc) stands = absurd (off stands.1)
  verify_off (Off discs) stands = stands

  pub verify_steps_off : VerifySteps old new reads.Off
  verify_steps_off s stands = verify_off s (subst (λ (x : Shown). StandsFor x s) same stands)

-- a verification that began in this state did so in what the state shows
module _ (old begun new : Shown) (same : old ≡ begun) where
  verify_some : (lba n : ℕ) (out : ReadOut) → VerifyCause begun new lba n out → VerifySteps begun new out → StandsForSome begun → StandsForSome new
  verify_some lba n out cause steps =
      still_some begun new (verify_kept begun new lba n out cause).as_known
      (λ s stands. let found = verify_found (StandsFor new) s out (steps s stands) in (found.0, found.1))

  pub verify_keeps : (lba n : ℕ) (out : ReadOut) → VerifyCause begun new lba n out → VerifySteps begun new out → StandsForSome old → StandsForSome new
  verify_keeps lba n out cause steps = subst (λ (x : Shown). StandsForSome x → StandsForSome new) (sym same) (verify_some lba n out cause steps)
