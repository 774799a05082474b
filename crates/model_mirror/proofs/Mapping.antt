-- What a call makes of what a mirror stands for, over whatever holds of all that its sides stand for.
use Rattle.std.specs.Prelude.{◌≡◌, ℕ, Bool, true, false, List, [], ◌∷◌}
use Rattle.std.proofs.Common.{refl, inl, inr}
use Rattle.model_sectors.specs.Discs.{Standing, On, Off}
use Rattle.model_drive.specs.Shown.{Shown}
use Rattle.model_sectors.specs.declared.PowerOut.{PowerOut}
use Rattle.model_sectors.specs.declared.PowerOut.TheVariants as powers
use Rattle.model_drive.specs.Power.{PowerStep, FindsDisc}
use Rattle.model_mirror.specs.declared.MirrorPowerOut.{MirrorPowerOut}
use Rattle.model_mirror.specs.declared.MirrorPowerOut.TheVariants as outs
use Rattle.model_mirror.specs.declared.Resync.{Resync}
use Rattle.model_mirror.specs.declared.Resync.TheVariants as resyncs
use Rattle.model_mirror.specs.declared.GiveOut.{GiveOut}
use Rattle.model_mirror.specs.declared.GiveOut.TheVariants as gives
use Rattle.model_mirror.specs.Shown.{MirrorShown}
use Rattle.model_mirror.specs.Standing.{StandsSomehow, IsFollowed, MirrorStands}
use Rattle.model_mirror.specs.Steps.{ResyncStep}
use Rattle.model_mirror.specs.Giving.{GiveStep, GiveStepOf}
use Rattle.model_mirror.specs.Powers.{MirrorPowerStep, LeadPowerStep, StandsMounted, once_off, on_or_off, of_lead}

-- where all that the sides stand for is such
module _ (shown : MirrorShown) (lead lead' other other' : Standing → Type 0) (leads : (s : Standing) → lead s → lead' s) (follows : (s : Standing) → other s → other' s) where
  somehow : StandsSomehow other → StandsSomehow other'
  somehow some = record { standing = some.standing; stands = follows some.standing some.stands }

  followed : (disc : List ℕ) → IsFollowed shown other disc → IsFollowed shown other' disc
  followed disc is = record {
    some = somehow is.some;
    copy = λ up. let has = is.copy up in record { copy = has.copy; stands = follows (On has.copy) has.stands; agrees = has.agrees };
  }

  pub stands_mapped : (s : Standing) → MirrorStands shown lead other s → MirrorStands shown lead' other' s
  stands_mapped (On disc) is = (is.0, leads (On disc) is.1, followed disc is.2)
  stands_mapped (Off discs) is = elim is.0 [
    | inl off ↦ (inl (leads (Off discs) off), somehow is.1)
    | inr idle ↦ (inr (record { off = idle.off; disc = idle.disc; one = idle.one; stands = leads (On idle.disc) idle.stands }), somehow is.1)
  ]

module _ (after after' : Standing → Type 0) (each : (s : Standing) → after s → after' s) where
  off_mapped : (s : Standing) → once_off after s → once_off after' s
  off_mapped (On disc) is = each (Off (disc ∷ [])) is
  off_mapped (Off discs) is = each (Off discs) is

  on_or_off_mapped : (s : Standing) → on_or_off after s → on_or_off after' s
  on_or_off_mapped s (inl is) = inl (each s is)
  on_or_off_mapped s (inr off) = inr (off_mapped s off)

  finds_mapped : (now : Shown) (discs : List (List ℕ)) → FindsDisc now after discs → FindsDisc now after' discs
  finds_mapped now discs finds = record { lists = finds.lists; in_use = finds.in_use; disc = finds.disc; first = finds.first; found = each (On finds.disc) finds.found }

  power_mapped : (mounted : Shown) (s : Standing) (told : PowerOut) → PowerStep mounted after s told → PowerStep mounted after' s told
  power_mapped mounted s (powers.Ready known) step = finds_mapped mounted _ step
  power_mapped mounted s powers.NotFormatted step = each _ step
  power_mapped mounted s powers.Cut step = each _ step
  power_mapped mounted s powers.Fault step = each _ step

  -- an answer of a resynchronisation leaves one thing that it stands for
  pub resync_found : (s : Standing) (out : Resync) → ResyncStep after s out → (t : Standing) × after' t × ResyncStep (λ x. x ≡ t) s out
  resync_found (On disc) (resyncs.Done left) step = (On disc, each _ step, refl)
  resync_found (On disc) resyncs.NotFormatted step = (On disc, each _ step.1, (step.0, refl))
  resync_found (On disc) resyncs.Cut step = (Off (disc ∷ []), each _ step, refl)
  resync_found (On disc) resyncs.Off step = absurd step
  resync_found (On disc) resyncs.Fault step = (Off (disc ∷ []), each _ step, refl)
  resync_found (Off discs) resyncs.Off step = (Off discs, each _ step, refl)
  resync_found (Off discs) (resyncs.Done left) step = absurd step
  resync_found (Off discs) resyncs.NotFormatted step = absurd step
  resync_found (Off discs) resyncs.Cut step = absurd step
  resync_found (Off discs) resyncs.Fault step = absurd step

  give_mapped : (s : Standing) (out : GiveOut) → GiveStep after s out → GiveStep after' s out
  give_mapped s gives.Given step = each s step
  give_mapped s (gives.NoUpdate counter) step = each s step
  give_mapped s gives.Off step = each s step
  give_mapped (On disc) gives.Cut step = each _ step
  give_mapped (On disc) gives.Fault step = each _ step
  give_mapped (Off discs) gives.Cut step = absurd step
  give_mapped (Off discs) gives.Fault step = absurd step

  pub give_of_mapped : (meant : Bool) (s : Standing) (out : GiveOut) → GiveStepOf meant after s out → GiveStepOf meant after' s out
  give_of_mapped true s out step = give_mapped s out step
  give_of_mapped false s out step = each s step

-- a side that was mounted stands so
mounted_side : (after after' : Standing → Type 0) → ((s : Standing) → after s → after' s) → (s : Standing) → StandsMounted after s → StandsMounted after' s
mounted_side after after' each s is = record { mounted = is.mounted; told = is.told; step = power_mapped after after' each is.mounted s is.told is.step }

mounted_lead : (after after' : Standing → Type 0) → ((s : Standing) → after s → after' s) → (now : Shown) (s : Standing) (out : MirrorPowerOut) → LeadPowerStep now after s out → LeadPowerStep now after' s out
mounted_lead after after' each now s (outs.Ready known) step = let found = step.1 in (step.0, record { mounted = found.mounted; since = found.since; finds = finds_mapped after after' each found.mounted _ found.finds })
mounted_lead after after' each now s outs.NotFormatted step = each _ step
mounted_lead after after' each now s outs.Unknown step = tt
mounted_lead after after' each now s outs.Cut step = mounted_side (once_off after) (once_off after') (off_mapped after after' each) s step
mounted_lead after after' each now s outs.Fault step = mounted_side (once_off after) (once_off after') (off_mapped after after' each) s step

pub mirror_power_mapped : (new : MirrorShown) (mirror mirror' a a' b b' : Standing → Type 0) → ((s : Standing) → mirror s → mirror' s) → ((s : Standing) → a s → a' s) → ((s : Standing) → b s → b' s)
    → (s t : Standing) (out : MirrorPowerOut) → MirrorPowerStep new mirror a b s t out → MirrorPowerStep new mirror' a' b' s t out
mirror_power_mapped new mirror mirror' a a' b b' each each_a each_b s t out step = record {
  leads = mounted_lead mirror mirror' each new.lead (of_lead new.lead_is_a s t) out step.leads;
  of_a = mounted_side (on_or_off a) (on_or_off a') (on_or_off_mapped a a' each_a) s step.of_a;
  of_b = mounted_side (on_or_off b) (on_or_off b') (on_or_off_mapped b b' each_b) t step.of_b;
}
