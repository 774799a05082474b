-- A sector that is kept comes again after the power on, and in another run.
use Rattle.std.specs.Prelude.{◌≡◌, ◌⊎◌, ℕ, ◌<◌, ◌≤◌, not, ◌&&◌, MatchBool, Bool, true, false, List, [], ◌∷◌}
use Rattle.std.specs.List.{AllByRecursion}
use Rattle.std.proofs.Common.{refl, sym, ap, ◌∙◌, inl, inr, subst}
use Rattle.std.proofs.lemmas.Bool.{false≢true}
use Rattle.model_geometry.specs.Geometry.{Shape}
use Rattle.model_medium.specs.Cells.{Cell}
use Rattle.model_sectors.specs.Discs.{Standing, On, Off, candidates}
use Rattle.model_sectors.specs.declared.PowerOut.{PowerOut}
use Rattle.model_sectors.specs.declared.PowerOut.TheVariants as power_outs
use Rattle.model_places.specs.Places.{Lists}
use Rattle.model_drive.specs.Shown.{Shown, StandsFor, IsFirstUnder}
use Rattle.model_drive.specs.Power.{PowerStep}
use Rattle.model_mirror.specs.declared.MirrorPowerOut.{MirrorPowerOut}
use Rattle.model_mirror.specs.declared.MirrorPowerOut.TheVariants as outs
use Rattle.model_drive.specs.declared.RecordOut.{RecordOut}
use Rattle.model_drive.specs.declared.RecordOut.TheVariants as records
use Rattle.model_mirror.specs.declared.Waking.{Waking}
use Rattle.model_mirror.proofs.Somehow.{power_somehow}
use Rattle.model_mirror.specs.Shown.{MirrorShown, exchanged}
use Rattle.model_mirror.specs.Standing.{StandsSomehow, MayBe}
use Rattle.model_mirror.specs.Powers.{MirrorPowerCause, NobodyLeads, LeadStops, stop_of, Starts, Leads, LeadGoesOn, OtherFollows, Finishes, is_to_lead, can_tell, still_tells, stays_on, MirrorPowerStep, StandsMounted, on_or_off, LeadPowerStep, of_lead}
use Rattle.model_mirror.specs.Sides.{side_a, side_b, named_side}
use Rattle.model_mirror_laws.specs.Ahead.{IsAhead, KnowsRecords, WakesWithCopies, SideIsAhead}
use Rattle.model_mirror_laws.specs.Bytes.{PowersSo, HasSector, AllHave, HoldsSector, ShowsSector, KeepsSector, IsKept, IsReopened, BeginsAgain}
use Rattle.model_drive.proofs.Dying.{same_off, same_candidates}
use Rattle.model_mirror_laws.proofs.Numbers.{dying_copies}
use Rattle.model_mirror_laws.proofs.Knowing.{knows_lead, power_knows}
use Rattle.model_mirror_laws.proofs.Again.{leads_again}

-- an answer of a mirror that is on
abbrev IsOnOut : MirrorPowerOut → Type 0
IsOnOut (outs.Ready known) = Unit {0}
IsOnOut outs.NotFormatted = Unit {0}
IsOnOut outs.Unknown = ⊥
IsOnOut outs.Cut = ⊥
IsOnOut outs.Fault = ⊥

abbrev KnowsLeadWhenOn : MirrorShown → Type 0
KnowsLeadWhenOn shown = shown.on ≡ true → shown.who.known ≡ true

-- a mirror that is on was answered so
on_out : (out : MirrorPowerOut) (known : ℕ) → out ≡ outs.Ready known → IsOnOut out
on_out out known e = subst IsOnOut (sym e) tt

bare_out : (out : MirrorPowerOut) → out ≡ outs.NotFormatted → IsOnOut out
bare_out out e = subst IsOnOut (sym e) tt

module _ (new : MirrorShown) (out : MirrorPowerOut) (on : new.on ≡ true) where
  nobody_out : (mid : MirrorShown) → NobodyLeads mid new out → IsOnOut out
  nobody_out mid nobody = absurd (false≢true (sym (ap (λ (s : MirrorShown). s.on) nobody.new_is) ∙ on))

  same_out : (mid : MirrorShown) → mid.on ≡ false → new ≡ mid → IsOnOut out
  same_out mid off same = absurd (false≢true (sym (ap (λ (s : MirrorShown). s.on) same ∙ off) ∙ on))

  stops_out : (mid : MirrorShown) (stop : MirrorPowerOut) → mid.on ≡ false → LeadStops mid new stop out → IsOnOut out
  stops_out mid stop off stops = go mid.who.known stops
    where
      go : (b : Bool) → MatchBool b ((out ≡ stop) × (new ≡ mid)) (NobodyLeads mid new out) → IsOnOut out
      go true p = same_out mid off p.1
      go false nobody = nobody_out mid nobody

  module _ (lead other : Waking) where
    finishes_out : (late : MirrorShown) (there : PowerOut) (up : Bool) (power : PowerOut) → Finishes late new there up power out → IsOnOut out
    finishes_out late there up (power_outs.Ready known) ends = on_out out known ends.out_is
    finishes_out late there up power_outs.NotFormatted ends = bare_out out ends.out_is
    finishes_out late there up power_outs.Cut ends = nobody_out late ends
    finishes_out late there up power_outs.Fault ends = nobody_out late ends

    follows_out : (mid : MirrorShown) → OtherFollows mid new lead other out → IsOnOut out
    follows_out mid f = go (still_tells f.late.who f.raised) f.ends
      where
        go : (b : Bool) → MatchBool b (Finishes f.late new other.power (stays_on other.record && stays_on f.raised) lead.power out) (NobodyLeads f.late new out) → IsOnOut out
        go true ends = finishes_out f.late other.power _ lead.power ends
        go false nobody = nobody_out f.late nobody

    leads_out : (mid : MirrorShown) → mid.on ≡ false → Leads mid new lead other out → IsOnOut out
    leads_out mid off l = go l.raised l.ends
      where
        late_off : l.late.on ≡ false
        late_off = ap (λ (s : MirrorShown). s.on) l.raises.new_is ∙ off

        go : (raised : RecordOut) → LeadGoesOn l.late new lead other out raised → IsOnOut out
        go records.Good ends = follows_out l.late ends
        go records.Lost ends = nobody_out l.late ends
        go records.Cut ends = same_out l.late late_off ends.1
        go records.Off ends = nobody_out l.late ends
        go records.Fault ends = same_out l.late late_off ends.1

    starts_out : (mid : MirrorShown) → mid.on ≡ false → (told : RecordOut) → Starts mid new lead other out told → IsOnOut out
    starts_out mid off records.Good starts = go (can_tell mid.who other.record) starts
      where
        go : (b : Bool) → MatchBool b (Leads mid new lead other out) (NobodyLeads mid new out) → IsOnOut out
        go true leads = leads_out mid off leads
        go false nobody = nobody_out mid nobody
    starts_out mid off records.Lost starts = nobody_out mid starts
    starts_out mid off records.Cut starts = stops_out mid outs.Cut off starts
    starts_out mid off records.Off starts = stops_out mid (stop_of lead.power) off starts
    starts_out mid off records.Fault starts = stops_out mid outs.Fault off starts

on_answer : (old new : MirrorShown) (out : MirrorPowerOut) → MirrorPowerCause old new out → new.on ≡ true → IsOnOut out
on_answer old new out cause on = go (is_to_lead cause.mid cause.lead.record cause.other.record) cause.starts
  where
    off : cause.mid.on ≡ false
    off = ap (λ (s : MirrorShown). s.on) cause.wakes.new_is

    go : (b : Bool) → MatchBool b (Starts (exchanged cause.mid) new cause.other cause.lead out cause.other.record) (Starts cause.mid new cause.lead cause.other out cause.lead.record) → IsOnOut out
    go true starts = starts_out new out on cause.other cause.lead (exchanged cause.mid) off cause.other.record starts
    go false starts = starts_out new out on cause.lead cause.other cause.mid off cause.lead.record starts

module _ (at : ℕ) (bytes : List ℕ) where
  -- the first disc that fits is one of those
  first_has : (shape : Shape) (cells : List Cell) (lists : Lists) (discs : List (List ℕ)) (found : List ℕ) → IsFirstUnder shape cells lists discs found → AllByRecursion (HasSector at bytes) discs → HasSector at bytes found
  first_has shape cells lists [] found first each = absurd first
  first_has shape cells lists (disc ∷ discs) found (inl here) each = subst (HasSector at bytes) (sym here.1) each.0
  first_has shape cells lists (disc ∷ discs) found (inr later) each = first_has shape cells lists discs found later.1 each.1

  no_sectors : HasSector at bytes []
  no_sectors = inl refl

  -- what a side was mounted with that stood for discs that have it
  module _ (after : Standing → Type 0) where
    record StandsWith : Type 0 where
      pub standing : Standing
      pub stands : after standing
      pub each : AllHave at bytes standing

    mounted_with : (mounted : Shown) (s : Standing) (told : PowerOut) → AllHave at bytes s → PowerStep mounted after s told → StandsWith
    mounted_with mounted s (power_outs.Ready known) each step = record { standing = On step.disc; stands = step.found; each = (first_has _ _ step.lists (candidates s) step.disc step.first each, tt) }
    mounted_with mounted s power_outs.NotFormatted each step = record { standing = On []; stands = step; each = (no_sectors, tt) }
    mounted_with mounted s power_outs.Cut each step = record { standing = Off (candidates s); stands = step; each = each }
    mounted_with mounted s power_outs.Fault each step = record { standing = Off (candidates s); stands = step; each = each }

  on_or_off_with : (after : Standing → Type 0) → StandsWith (on_or_off after) → StandsWith after
  on_or_off_with after with = go with.standing with.stands with.each
    where
      go : (s : Standing) → on_or_off after s → AllHave at bytes s → StandsWith after
      go s (inl stands) each = record { standing = s; stands = stands; each = each }
      go (On disc) (inr stands) each = record { standing = Off (disc ∷ []); stands = stands; each = each }
      go (Off discs) (inr stands) each = record { standing = Off discs; stands = stands; each = each }

  side_with : (shown : Shown) (s : Standing) → AllHave at bytes s → StandsMounted (on_or_off (StandsFor shown)) s → HoldsSector at bytes shown
  side_with shown s each mounted =
      let with = on_or_off_with (StandsFor shown) (mounted_with (on_or_off (StandsFor shown)) mounted.mounted s mounted.told each mounted.step) in
      record { standing = with.standing; stands = with.stands; each = with.each }

  side_somehow : (shown : Shown) (s : Standing) → StandsMounted (on_or_off (StandsFor shown)) s → StandsSomehow (StandsFor shown)
  side_somehow shown s mounted = let it = power_somehow (on_or_off (StandsFor shown)) mounted.mounted s mounted.told mounted.step in go it.standing it.stands
    where
      go : (s : Standing) → on_or_off (StandsFor shown) s → StandsSomehow (StandsFor shown)
      go s (inl stands) = record { standing = s; stands = stands }
      go (On disc) (inr stands) = record { standing = Off (disc ∷ []); stands = stands }
      go (Off discs) (inr stands) = record { standing = Off discs; stands = stands }

  -- a mirror that is on after the power on
  lead_shows : (new : MirrorShown) (s : Standing) (out : MirrorPowerOut) → AllHave at bytes s → (new.on ≡ true → IsOnOut out) → LeadPowerStep new.lead (MayBe new) s out → new.on ≡ true → ShowsSector at bytes new
  lead_shows new s (outs.Ready known) each answered step on = record { standing = On step.1.finds.disc; stands = step.1.finds.found; each = (first_has _ _ step.1.finds.lists (candidates s) step.1.finds.disc step.1.finds.first each, tt) }
  lead_shows new s outs.NotFormatted each answered step on = record { standing = On []; stands = step; each = (no_sectors, tt) }
  lead_shows new s outs.Unknown each answered step on = absurd (answered on)
  lead_shows new s outs.Cut each answered step on = absurd (answered on)
  lead_shows new s outs.Fault each answered step on = absurd (answered on)

  module _ (new : MirrorShown) (out : MirrorPowerOut) (known : KnowsLeadWhenOn new) (answered : new.on ≡ true → IsOnOut out) (s t : Standing)
      (step : MirrorPowerStep new (MayBe new) (StandsFor (side_a new)) (StandsFor (side_b new)) s t out) where
    -- side a keeps it
    a_keeps : AllHave at bytes s → AllHave at bytes t ⊎ SideIsAhead true new → (new.who.known ≡ true → new.lead_is_a ≡ true) → KeepsSector at bytes true new
    a_keeps each rest leads = record {
      holds = side_with (side_a new) s each step.of_a;
      rest = elim rest [ inl other ↦ inl (side_with (side_b new) t other step.of_b) | inr ahead ↦ inr ahead ];
      leads = leads;
      other = side_somehow (side_b new) t step.of_b;
      shows = λ on. lead_shows new (of_lead new.lead_is_a s t) out (subst (λ (b : Bool). AllHave at bytes (of_lead b s t)) (sym (leads (known on))) each) answered step.leads on;
    }

    -- or side b does
    b_keeps : AllHave at bytes t → AllHave at bytes s ⊎ SideIsAhead false new → (new.who.known ≡ true → new.lead_is_a ≡ false) → KeepsSector at bytes false new
    b_keeps each rest leads = record {
      holds = side_with (side_b new) t each step.of_b;
      rest = elim rest [ inl other ↦ inl (side_with (side_a new) s other step.of_a) | inr ahead ↦ inr ahead ];
      leads = leads;
      other = side_somehow (side_a new) s step.of_a;
      shows = λ on. lead_shows new (of_lead new.lead_is_a s t) out (subst (λ (b : Bool). AllHave at bytes (of_lead b s t)) (sym (leads (known on))) each) answered step.leads on;
    }

    -- where both have it, the one that leads keeps it
    both_keep : AllHave at bytes s → AllHave at bytes t → IsKept at bytes new
    both_keep one two = go new.lead_is_a refl
      where
        go : (b : Bool) → new.lead_is_a ≡ b → IsKept at bytes new
        go true e = (true, a_keeps one (inl two) (λ _. e))
        go false e = (false, b_keeps two (inl one) (λ _. e))

-- The power on.
module _ (old new : MirrorShown) (out : MirrorPowerOut) (cause : MirrorPowerCause old new out)
    (copies : WakesWithCopies old new out cause) (so : PowersSo old new out) (knows : KnowsRecords old) (at : ℕ) (bytes : List ℕ) where
  known_on : KnowsLeadWhenOn new
  known_on on = ((power_knows old new out cause (knows_lead old knows)).leads on).known

  again : (on_a : Bool) → SideIsAhead on_a old → (old.who.known ≡ true → old.lead_is_a ≡ on_a) → SideIsAhead on_a new × (new.who.known ≡ true → new.lead_is_a ≡ on_a)
  again = leads_again old new out cause copies knows

  answered : new.on ≡ true → IsOnOut out
  answered on = on_answer old new out cause on

  comes : (on_a : Bool) → KeepsSector at bytes on_a old → IsKept at bytes new
  comes true keeps = elim keeps.rest [
    | inl both ↦ both_keep at bytes new out known_on answered keeps.holds.standing both.standing (so _ _ keeps.holds.stands both.stands) keeps.holds.each both.each
    | inr ahead ↦ let still = again true ahead keeps.leads in
        (true, a_keeps at bytes new out known_on answered keeps.holds.standing keeps.other.standing (so _ _ keeps.holds.stands keeps.other.stands) keeps.holds.each (inr still.0) still.1)
  ]
  comes false keeps = elim keeps.rest [
    | inl both ↦ both_keep at bytes new out known_on answered both.standing keeps.holds.standing (so _ _ both.stands keeps.holds.stands) both.each keeps.holds.each
    | inr ahead ↦ let still = again false ahead keeps.leads in
        (false, b_keeps at bytes new out known_on answered keeps.other.standing keeps.holds.standing (so _ _ keeps.other.stands keeps.holds.stands) keeps.holds.each (inr still.0) still.1)
  ]

pub power_keeps_sector : (old new : MirrorShown) (out : MirrorPowerOut) (cause : MirrorPowerCause old new out)
    → WakesWithCopies old new out cause → PowersSo old new out → KnowsRecords old → (at : ℕ) (bytes : List ℕ) → IsKept at bytes old → IsKept at bytes new
power_keeps_sector old new out cause copies so knows at bytes (on_a, keeps) = comes old new out cause copies so knows at bytes on_a keeps

-- A side that was opened anew.
module _ (old new : Shown) (opened : IsReopened old new) where
  opened_stands : (s : Standing) → StandsFor old s → StandsFor new (Off (candidates s))
  opened_stands (On disc) stands = same_off old new opened.leaves.same_shape opened.as_known opened.off opened.same disc stands
  opened_stands (Off discs) stands = same_candidates old new opened.leaves.same_shape opened.as_known opened.off opened.same discs stands

  opened_somehow : StandsSomehow (StandsFor old) → StandsSomehow (StandsFor new)
  opened_somehow some = record { standing = Off (candidates some.standing); stands = opened_stands some.standing some.stands }

  opened_holds : (at : ℕ) (bytes : List ℕ) → HoldsSector at bytes old → HoldsSector at bytes new
  opened_holds at bytes holds = record { standing = Off (candidates holds.standing); stands = opened_stands holds.standing holds.stands; each = holds.each }

opened_ahead : (x x' y y' : Shown) → IsReopened x x' → IsReopened y y' → IsAhead x y → IsAhead x' y'
opened_ahead x x' y y' one two ahead = record {
  between = ahead.between;
  above = dying_copies (λ number. ahead.between < number) x x' one.leaves.same_shape ahead.above one.same;
  below = dying_copies (λ number. number ≤ ahead.between) y y' two.leaves.same_shape ahead.below two.same;
}

-- by the names that the sides had, and have
begins_by : (on_a on_b : Bool) (old new : MirrorShown) → IsReopened (named_side on_a old) (named_side on_b new) → IsReopened (named_side (not on_a) old) (named_side (not on_b) new) → new.on ≡ false → new.who.known ≡ false
    → (at : ℕ) (bytes : List ℕ) → KeepsSector at bytes on_a old → IsKept at bytes new
begins_by on_a on_b old new one two off unknown at bytes keeps = (
  on_b,
  record {
    holds = opened_holds (named_side on_a old) (named_side on_b new) one at bytes keeps.holds;
    rest = elim keeps.rest [
      | inl both ↦ inl (opened_holds (named_side (not on_a) old) (named_side (not on_b) new) two at bytes both)
      | inr ahead ↦ inr (opened_ahead (named_side on_a old) (named_side on_b new) (named_side (not on_a) old) (named_side (not on_b) new) one two ahead)
    ];
    leads = λ known. absurd (false≢true (sym unknown ∙ known));
    other = opened_somehow (named_side (not on_a) old) (named_side (not on_b) new) two keeps.other;
    shows = λ on. absurd (false≢true (sym off ∙ on));
  },
)

pub begins_again : (turned : Bool) (old new : MirrorShown) → BeginsAgain turned old new → (at : ℕ) (bytes : List ℕ) → IsKept at bytes old → IsKept at bytes new
begins_again false old new begins at bytes (true, keeps) = begins_by true true old new begins.a begins.b begins.off begins.unknown at bytes keeps
begins_again false old new begins at bytes (false, keeps) = begins_by false false old new begins.b begins.a begins.off begins.unknown at bytes keeps
begins_again true old new begins at bytes (true, keeps) = begins_by true false old new begins.b begins.a begins.off begins.unknown at bytes keeps
begins_again true old new begins at bytes (false, keeps) = begins_by false true old new begins.a begins.b begins.off begins.unknown at bytes keeps
