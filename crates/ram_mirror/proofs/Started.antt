-- How a mirror starts, over plain values: what each stage makes of both sides.
use Rattle.std.proofs.Common.{◌≡◌, ◌⊎◌, inl, inr, Bool, true, false, List, refl, sym, ap, ◌∙◌, subst}
use Rattle.std.specs.Prelude.{◌&&◌}
use Rattle.model_sectors.specs.Discs.{Standing}
use Rattle.model_sectors.specs.declared.PowerOut.{PowerOut}
use Rattle.model_sectors.specs.declared.PowerOut.TheVariants as powers
use Rattle.model_drive.specs.declared.RecordOut.{RecordOut}
use Rattle.model_drive.specs.declared.RecordOut.TheVariants as records
use Rattle.model_geometry.specs.Geometry.{record_block}
use Rattle.model_drive.specs.Shown.{Shown}
use Rattle.model_mirror.specs.declared.Waking.{Waking}
use Rattle.model_mirror.specs.declared.MirrorPowerOut.{MirrorPowerOut}
use Rattle.model_mirror.specs.declared.MirrorPowerOut.TheVariants as outs
use Rattle.model_mirror.specs.Shown.{MirrorShown}
use Rattle.model_mirror.specs.Whole.{all_apart}
use Rattle.model_mirror.specs.Powers.{WasMounted, stays_on, stop_of, is_ready_with, NobodyLeads, Finishes, RaisesFirst}
use Rattle.model_mirror.specs.Leading.{Leading, forgotten_leading}
use Rattle.ram_mirror.proofs.Ends.{keeping, kept_as}
use Rattle.ram_mirror.specs.Notes.{RaiseStep}
use Rattle.ram_mirror.specs.Powering.{StartsOff, StartsAs}
use Rattle.ram_mirror.proofs.Woken.{raised_some, raised_keeps, raised_since}

and_left : (a b : Bool) → (a && b) ≡ true → a ≡ true
and_left true b e = refl
and_left false b e = e

and_right : (a b : Bool) → (a && b) ≡ true → b ≡ true
and_right true b e = e
and_right false b e = absurd (let w = e in cc)

-- an answer of a mirror that is off
abbrev pub IsOffAnswer : MirrorPowerOut → Type 0
IsOffAnswer (outs.Ready known) = ⊥
IsOffAnswer outs.NotFormatted = ⊥
IsOffAnswer outs.Unknown = Unit {0}
IsOffAnswer outs.Cut = Unit {0}
IsOffAnswer outs.Fault = Unit {0}

pub stop_of_off : (power : PowerOut) → IsOffAnswer (stop_of power)
stop_of_off (powers.Ready known) = tt
stop_of_off powers.NotFormatted = tt
stop_of_off powers.Cut = tt
stop_of_off powers.Fault = tt

module _ (lead lead' other other' : Standing → Type 0) (old new : MirrorShown) (here there : Waking) where
  pub off_as : (out : MirrorPowerOut) → IsOffAnswer out → StartsOff lead lead' other other' old new here there → StartsAs lead lead' other other' old new here there out
  off_as (outs.Ready known) off starts = absurd off
  off_as outs.NotFormatted off starts = absurd off
  off_as outs.Unknown off starts = starts
  off_as outs.Cut off starts = starts
  off_as outs.Fault off starts = starts

  -- it was stopped, or nobody leads
  pub stopped_as : (stop out : MirrorPowerOut) → IsOffAnswer stop → (out ≡ stop) ⊎ (out ≡ outs.Unknown) → StartsOff lead lead' other other' old new here there → StartsAs lead lead' other other' old new here there out
  stopped_as stop out off (inl e) starts = off_as out (subst IsOffAnswer (sym e) off) starts
  stopped_as stop out off (inr e) starts = off_as out (subst IsOffAnswer (sym e) tt) starts

-- the mirror is off, and nobody leads
pub nobody : (mid : MirrorShown) (on up : Bool) (table : List Bool) (who : Leading) (out : MirrorPowerOut) → out ≡ outs.Unknown → on ≡ false → up ≡ false → table ≡ mid.table → who ≡ forgotten_leading mid.who
    → NobodyLeads mid (keeping mid on up table who) out
nobody mid on up table who out is off down same forgets = record { out_is = is; new_is = kept_as mid on false up false table mid.table who (forgotten_leading mid.who) off down same forgets }

-- the record of the other side was asked for, or was not
pub first_since : (mid late : MirrorShown) (asked : Bool) (raised : RecordOut) → RaisesFirst mid late asked raised → late.other.shape ≡ mid.other.shape → stays_on raised ≡ true → WasMounted late.other mid.other
first_since mid late true raised r shape on = raised_since mid.other late.other mid.who.other late.who.other 0 raised r.raises shape on
first_since mid late false raised r shape on = subst (λ (x : MirrorShown). WasMounted x.other mid.other) (sym r.0) (record { same_shape = refl; same_lists = refl; only = λ block others. refl })

-- The record of the lead was made one with a greater number before.
pub starts_after : (lead lead₁ lead' other other' : Standing → Type 0) (old mid new : MirrorShown) (here there : Waking) → mid.other ≡ old.other → WasMounted mid.lead old.lead → ((s : Standing) → lead s → lead₁ s)
    → (out : MirrorPowerOut) → StartsAs lead₁ lead' other other' mid new here there out → StartsAs lead lead' other other' old new here there out
starts_after lead lead₁ lead' other other' old mid new here there same since keeps (outs.Ready known) starts = record {
  on = starts.on;
  power = starts.power;
  read = starts.read;
  table = starts.table;
  since = record {
    same_shape = starts.since.same_shape ∙ since.same_shape;
    same_lists = starts.since.same_lists ∙ since.same_lists;
    only = λ block others. starts.since.only block (λ area is. subst (λ x. ¬ (block ≡ x)) (ap (λ shape. record_block shape area) (sym since.same_shape)) (others area is)) ∙ since.only block others;
  };
  keeps = λ s so. starts.keeps s (keeps s so);
  some = starts.some;
  up = λ up. let it = starts.up up in record { ready = it.ready; read = it.read; since = subst (WasMounted new.other) same it.since; keeps = it.keeps };
}
starts_after lead lead₁ lead' other other' old mid new here there same since keeps outs.NotFormatted starts = record {
  on = starts.on;
  down = starts.down;
  power = starts.power;
  read = starts.read;
  keeps = λ s so. starts.keeps s (keeps s so);
  some = starts.some;
}
starts_after lead lead₁ lead' other other' old mid new here there same since keeps outs.Unknown starts = record { off = starts.off; some_lead = λ s so. starts.some_lead s (keeps s so); some = starts.some }
starts_after lead lead₁ lead' other other' old mid new here there same since keeps outs.Cut starts = record { off = starts.off; some_lead = λ s so. starts.some_lead s (keeps s so); some = starts.some }
starts_after lead lead₁ lead' other other' old mid new here there same since keeps outs.Fault starts = record { off = starts.off; some_lead = λ s so. starts.some_lead s (keeps s so); some = starts.some }

-- The record of the other side was asked for, and the mirror is on where the lead is.
module _ (lead other other' : Standing → Type 0) (old late new : MirrorShown) (here there : Waking) (same_lead : late.lead ≡ old.lead) (down : late.up ≡ false) (raised : RecordOut)
    (since : stays_on raised ≡ true → WasMounted late.other old.other) (step : (s : Standing) → other s → RaiseStep other' s raised) where
  -- nobody leads
  pub nobody_starts : (out : MirrorPowerOut) → NobodyLeads late new out → StartsAs lead lead other other' old new here there out
  nobody_starts out nobody = off_as lead lead other other' old new here there out (subst IsOffAnswer (sym nobody.out_is) tt) (record {
    off = ap (λ (x : MirrorShown). x.on) nobody.new_is;
    some_lead = λ s so. inl so;
    some = λ s so. raised_some other' s raised (step s so);
  })

  pub finished : (power : PowerOut) → here.power ≡ power → here.record ≡ records.Good → (on : Bool) → on ≡ (stays_on there.record && stays_on raised) → (out : MirrorPowerOut)
      → Finishes late new there.power on power out → StartsAs lead lead other other' old new here there out
  finished (powers.Ready known) is read on on_is out ends = subst (StartsAs lead lead other other' old new here there) (sym ends.out_is) (record {
    on = ap (λ (x : MirrorShown). x.on) ends.new_is;
    power = is;
    read = read;
    table = ap (λ (x : MirrorShown). x.table) ends.new_is ∙ ap all_apart (sym (ap (λ (x : MirrorShown). x.lead) ends.new_is));
    since = subst (λ (x : Shown). WasMounted x old.lead) (sym (ap (λ (x : MirrorShown). x.lead) ends.new_is ∙ same_lead)) (record { same_shape = refl; same_lists = refl; only = λ block others. refl });
    keeps = λ s so. so;
    some = λ s so. raised_some other' s raised (step s so);
    up = λ up.
        let both : (is_ready_with known there.power && on) ≡ true = sym (ap (λ (x : MirrorShown). x.up) ends.new_is) ∙ up in
        let asked : (stays_on there.record && stays_on raised) ≡ true = sym on_is ∙ and_right (is_ready_with known there.power) on both in
        record {
          ready = and_left (is_ready_with known there.power) on both;
          read = and_left (stays_on there.record) (stays_on raised) asked;
          since = subst (λ (x : Shown). WasMounted x old.other) (sym (ap (λ (x : MirrorShown). x.other) ends.new_is)) (since (and_right (stays_on there.record) (stays_on raised) asked));
          keeps = λ s so. raised_keeps other' s raised (and_right (stays_on there.record) (stays_on raised) asked) (step s so);
        };
  })
  finished powers.NotFormatted is read on on_is out ends = subst (StartsAs lead lead other other' old new here there) (sym ends.out_is) (record {
    on = ap (λ (x : MirrorShown). x.on) ends.new_is;
    down = ap (λ (x : MirrorShown). x.up) ends.new_is ∙ down;
    power = is;
    read = read;
    keeps = λ s so. so;
    some = λ s so. raised_some other' s raised (step s so);
  })
  finished powers.Cut is read on on_is out ends = nobody_starts out ends
  finished powers.Fault is read on on_is out ends = nobody_starts out ends
