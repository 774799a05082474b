-- What an expansion makes of a drive in each state, and that the drive stands for something after it, as it did before.
use Rattle.std.proofs.Common.{◌≡◌, ℕ, Option, None, sym, subst}
use Rattle.model_sectors.specs.Discs.{Standing, On, Off}
use Rattle.model_places.specs.Places.{Lists}
use Rattle.model_drive.specs.declared.ExpandOut.{ExpandOut}
use Rattle.model_drive.specs.declared.ExpandOut.TheVariants as outs
use Rattle.model_drive.specs.Shown.{Shown, IsOn, StandsBy, StandsFor, cells_in}
use Rattle.model_drive.specs.Expands.{ExpandCause, ExpandStep}
use Rattle.model_drive.proofs.Found.{expand_found}
use Rattle.model_drive.proofs.Kept.{expand_kept}
use Rattle.ram_states.specs.Expanding.{ExpandSteps}
use Rattle.ram_volume.specs.Volume.{StandsForSome}
use Rattle.ram_volume.proofs.Somes.{still_some}

module _ (old new : Shown) (same : old ≡ new) (sectors : ℕ) where
  -- with the power off
  off_step : ¬ IsOn new → (s : Standing) → StandsFor new s → ExpandStep (StandsFor new) s sectors outs.Off
  off_step off (On disc) stands = absurd (off stands.1)
  off_step off (Off discs) stands = stands

  pub expand_steps_off : ¬ IsOn new → ExpandSteps old new sectors outs.Off
  expand_steps_off off s stands = off_step off s (subst (λ (x : Shown). StandsFor x s) same stands)

  -- on a disc that is not formatted
  bare_step : IsOn new → new.lists ≡ None → (s : Standing) → StandsFor new s → ExpandStep (StandsFor new) s sectors outs.NotFormatted
  bare_step on none (On disc) stands = ((subst (λ (o : Option Lists). StandsBy new.shape (cells_in new) o new.buffer disc) none stands.2).0, stands)
  bare_step on none (Off discs) stands = absurd (stands.1 on)

  pub expand_steps_bare : IsOn new → new.lists ≡ None → ExpandSteps old new sectors outs.NotFormatted
  expand_steps_bare on none s stands = bare_step on none s (subst (λ (x : Shown). StandsFor x s) same stands)

expand_some : (old new : Shown) (sectors : ℕ) (out : ExpandOut) → ExpandCause old new sectors out → ExpandSteps old new sectors out → StandsForSome old → StandsForSome new
expand_some old new sectors out cause steps =
    still_some old new (expand_kept old new sectors out cause).as_known
    (λ s stands. let found = expand_found (StandsFor new) s sectors out (steps s stands) in (found.0, found.1))

-- an expansion that began in this state did so in what the state shows
module _ (old begun new : Shown) (same : old ≡ begun) (sectors : ℕ) (out : ExpandOut) where
  pub expand_steps_of : ExpandSteps begun new sectors out → ExpandSteps old new sectors out
  expand_steps_of steps = subst (λ (x : Shown). ExpandSteps x new sectors out) (sym same) steps

  pub expand_keeps : ExpandCause begun new sectors out → ExpandSteps begun new sectors out → StandsForSome old → StandsForSome new
  expand_keeps cause steps = subst (λ (x : Shown). StandsForSome x → StandsForSome new) (sym same) (expand_some begun new sectors out cause steps)
