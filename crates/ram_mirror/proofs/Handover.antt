-- How the other side takes the lead, or does not, over plain values.
use Rattle.std.proofs.Common.{◌≡◌, ◌≢◌, Bool, true, false, List, refl, sym, subst}
use Rattle.std.specs.Prelude.{MatchBool}
use Rattle.model_drive.specs.declared.RecordOut.{RecordOut}
use Rattle.model_drive.specs.declared.RecordOut.TheVariants as outs
use Rattle.model_mirror.specs.Leading.{Leading, handed_leading}
use Rattle.model_mirror.specs.Shown.{MirrorShown, may_lead, exchanged}
use Rattle.model_mirror.specs.Taking.{OtherRaises, CannotTake, LeadIsTaken, LeadIsNotTaken}
use Rattle.ram_mirror.proofs.Ends.{keeping, kept_as, all_off}

module _ (mid : MirrorShown) where
  -- the other side may not lead
  pub may_not : (on up : Bool) (table : List Bool) (who : Leading) → may_lead mid ≡ false → on ≡ false → up ≡ false → table ≡ mid.table → who ≡ mid.who → LeadIsNotTaken mid (keeping mid on up table who)
  may_not on up table who may off down same same_who = record {
    late = mid;
    why = subst (λ (b : Bool). MatchBool b (CannotTake mid mid) (mid ≡ mid)) (sym may) refl;
    new_is = all_off mid on up table who off down same same_who;
  }

  -- its record could not be written
  pub not_taken : (late : MirrorShown) (on up : Bool) (table : List Bool) (who : Leading) → may_lead mid ≡ true → (told : RecordOut) → OtherRaises mid late mid.who.lead.most told → told ≢ outs.Good
      → on ≡ false → up ≡ false → table ≡ late.table → who ≡ late.who → LeadIsNotTaken mid (keeping late on up table who)
  not_taken late on up table who may told wrote not_good off down same same_who = record {
    late = late;
    why = subst (λ (b : Bool). MatchBool b (CannotTake mid late) (late ≡ mid)) (sym may) (record { told = told; wrote = wrote; not_good = not_good });
    new_is = all_off late on up table who off down same same_who;
  }

  -- it was, and the lead is given
  pub was_taken : (late : MirrorShown) (on up : Bool) (table : List Bool) (who : Leading) → may_lead mid ≡ true → OtherRaises mid late mid.who.lead.most outs.Good
      → on ≡ true → up ≡ false → table ≡ late.table → who ≡ handed_leading late.who → LeadIsTaken mid (keeping (exchanged late) on up table who)
  was_taken late on up table who may wrote is_on down same same_who = record {
    may = may;
    late = late;
    wrote = wrote;
    new_is = kept_as (exchanged late) on true up false table late.table who (handed_leading late.who) is_on down same same_who;
  }
