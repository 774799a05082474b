-- How the lead is given by hand, over plain values.
use Rattle.std.proofs.Common.{◌≡◌, ℕ, Bool, true, false, List, not, refl, ap, ◌∙◌, subst}
use Rattle.model_drive.specs.declared.RecordOut.{RecordOut}
use Rattle.model_drive.specs.declared.RecordOut.TheVariants as records
use Rattle.model_drive.specs.Shown.{IsOn}
use Rattle.model_mirror.specs.Leading.{Leading, floor_of, given_leading, next_number}
use Rattle.model_mirror.specs.Shown.{MirrorShown, exchanged}
use Rattle.model_mirror.specs.Taking.{LeadRaises}
use Rattle.model_mirror.specs.Giving.{IsGiven, IsNotGiven}
use Rattle.ram_mirror.proofs.Ends.{keeping, kept_as, all_off}

module _ (old mid : MirrorShown) where
  -- the side that is named first has such a record
  pub was_given : (on up : Bool) (table : List Bool) (who : Leading) → IsOn old.lead → LeadRaises old mid (floor_of old.who.other) records.Good
      → on ≡ false → up ≡ false → table ≡ mid.table → who ≡ mid.who → IsGiven false old (keeping mid on up table (given_leading who))
  was_given on up table who is_on raises off down same same_who = record {
    mid = mid;
    is_on = is_on;
    raises = raises;
    new_is = kept_as mid on false up false table mid.table (given_leading who) (given_leading mid.who) off down same (ap given_leading same_who);
  }

  -- it could not be written
  pub not_given : (told : RecordOut) (on up : Bool) (table : List Bool) (who : Leading) → IsOn old.lead → LeadRaises old mid (floor_of old.who.other) told
      → on ≡ false → up ≡ false → table ≡ mid.table → who ≡ mid.who → IsNotGiven false old (keeping mid on up table who) told
  not_given told on up table who is_on raises off down same same_who = record {
    mid = mid;
    is_on = is_on;
    raises = raises;
    new_is = all_off mid on up table who off down same same_who;
  }

not_not : (b : Bool) → not (not b) ≡ b
not_not true = refl
not_not false = refl

-- with the roles exchanged twice
twice : (shown : MirrorShown) → exchanged (exchanged shown) ≡ shown
twice shown = ap (λ (b : Bool). record shown { lead_is_a = b }) (not_not shown.lead_is_a)

module _ (old named new : MirrorShown) (is : named ≡ exchanged old) where
  -- the side that is not named first has the lead then
  pub over_given : IsGiven false named new → IsGiven true old new
  over_given given = go (subst (λ (x : MirrorShown). IsGiven false x new) is given)
    where
      go : IsGiven false (exchanged old) new → IsGiven true old new
      go it = record { mid = it.mid; is_on = it.is_on; raises = it.raises; new_is = it.new_is }

  -- or it has not, and the roles are as before
  pub over_not_given : (last : MirrorShown) → last ≡ exchanged new → (told : RecordOut) → IsNotGiven false named new told → IsNotGiven true old last told
  over_not_given last last_is told kept = go (subst (λ (x : MirrorShown). IsNotGiven false x new told) is kept)
    where
      go : IsNotGiven false (exchanged old) new told → IsNotGiven true old last told
      go it = record { mid = it.mid; is_on = it.is_on; raises = it.raises; new_is = last_is ∙ ap exchanged it.new_is }

  pub over_off : (last : MirrorShown) → last ≡ exchanged new → ¬ IsOn named.lead × (new ≡ named) → ¬ IsOn (exchanged old).lead × (last ≡ old)
  over_off last last_is (off, same) = (subst (λ (x : MirrorShown). ¬ IsOn x.lead) is off, last_is ∙ ap exchanged (same ∙ is) ∙ twice old)

-- the number that was due
pub over_counter : (old named : MirrorShown) → named ≡ exchanged old → (counter : ℕ) → counter ≡ next_number (floor_of named.who.other) → counter ≡ next_number (floor_of (exchanged old).who.other)
over_counter old named is counter e = e ∙ ap (λ (x : MirrorShown). next_number (floor_of x.who.other)) is
