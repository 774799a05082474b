-- How a format of a mirror ends whose lead is not formatted anew, over plain values.
use Rattle.std.proofs.Common.{◌≡◌, ℕ, ◌⊎◌, inl, inr, Bool, true, false, List, refl, sym, ap, ◌∙◌, subst}
use Rattle.std.specs.Prelude.{◌&&◌, Option, None, Some, is_some}
use Rattle.model_geometry.specs.Geometry.{Shape}
use Rattle.model_sectors.specs.Discs.{Standing, On, Off}
use Rattle.model_drive.specs.declared.FormatOut.TheVariants as formats
use Rattle.model_drive.specs.declared.Kind.TheVariants as kinds
use Rattle.model_drive.specs.Shown.{Shown, IsOn, IsFormatted}
use Rattle.model_drive.specs.Tells.{CapacityRule}
use Rattle.model_drive.specs.Formats.{FormatCause, FormatStep}
use Rattle.model_drive.specs.FullFormats.{StandsInFormat}
use Rattle.model_mirror.specs.Shown.{MirrorShown, led_by}
use Rattle.model_mirror.specs.Standing.{IsFollowed, MirrorStands}
use Rattle.model_mirror.specs.Whole.{FormatsSide, FormatsLead}
use Rattle.model_mirror.proofs.Somehow.{led_off}

-- a format whose list could not be written leaves the power on
unlisted_on : (old new : Shown) (counter : ℕ) → FormatCause old new (kinds.Full true) (formats.NoUpdate counter) → IsOn new
unlisted_on old new counter (inl lacks) = subst (λ (x : Shown). IsOn x) (sym lacks.nothing) lacks.was_on
unlisted_on old new counter (inr (inl lost)) = lost.any.ends.is_on
unlisted_on old new counter (inr (inr (inl lost))) = lost.any.ends.is_on
unlisted_on old new counter (inr (inr (inr lost))) = lost.any.ends.is_on

and_true : (a : Bool) → (a && true) ≡ a
and_true true = refl
and_true false = refl

and_false : (a : Bool) → (a && false) ≡ false
and_false true = refl
and_false false = refl

-- The lead could not write a list. Where it has its disc still, nothing else happened; else the other side is down.
module _ (old mid : MirrorShown) (up : Bool) (counter : ℕ) (capacity : Option ℕ) (led : mid ≡ led_by old mid.lead) (formatted : FormatsSide old.lead mid.lead (formats.NoUpdate counter))
    (tells : CapacityRule mid.lead capacity) (up_is : up ≡ (mid.up && is_some capacity)) where
  abbrev after : MirrorShown
  after = record mid { up = up }

  pub unlisted_cause : FormatsLead old after (formats.NoUpdate counter)
  unlisted_cause = record { mid = mid; lead = (formatted, led); ends = go capacity tells up_is }
    where
      go : (capacity : Option ℕ) → CapacityRule mid.lead capacity → up ≡ (mid.up && is_some capacity) → (IsFormatted mid.lead × (after ≡ mid)) ⊎ (¬ IsFormatted mid.lead × (after ≡ record mid { up = false }))
      go (Some known) rule is = inl (rule.0.1, ap (λ (b : Bool). record mid { up = b }) (is ∙ and_true mid.up))
      go None rule is = inr (λ is_formatted. rule (unlisted_on old.lead mid.lead counter formatted.formatted, is_formatted), ap (λ (b : Bool). record mid { up = b }) (is ∙ and_false mid.up))

module _ (old new : MirrorShown) (lead lead' other : Standing → Type 0) where
  stands_in : (shape : Shape) (disc : List ℕ) → IsFollowed old other disc → StandsInFormat shape lead' disc → StandsInFormat shape (MirrorStands new lead' other) disc
  stands_in shape disc followed (inl a) = inl (inl a, followed.some)
  stands_in shape disc followed (inr (inl b)) = inr (inl (inl b, followed.some))
  stands_in shape disc followed (inr (inr c)) = inr (inr (inl c, followed.some))

  -- the lead failed
  pub failed_format : old.on ≡ true → ((s : Standing) → lead s → FormatStep old.lead new.lead lead' s (kinds.Full true) formats.Fault)
      → (s : Standing) → MirrorStands old lead other s → FormatStep old.lead new.lead (MirrorStands new lead' other) s (kinds.Full true) formats.Fault
  failed_format on step (On disc) (_, so, followed) = stands_in old.lead.shape disc followed (step (On disc) so)
  failed_format on step (Off discs) stood = step (Off discs) (led_off old on lead other discs stood)
