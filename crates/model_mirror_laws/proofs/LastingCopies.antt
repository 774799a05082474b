-- A copy of a record that is not dead after a power on was not dead when both sides had woken: dead cells stay dead.
use Rattle.std.specs.Prelude.{◌≡◌, ℕ, ◌+◌, ◌&&◌, not, MatchBool, if◌then◌else◌, Bool, true, false, nat_lt}
use Rattle.std.proofs.Common.{ap, ◌∙◌}
use Rattle.model_medium.specs.Cells.{Dead, cell_at}
use Rattle.model_lists.specs.Records.{LeadRecord}
use Rattle.model_sectors.specs.declared.PowerOut.{PowerOut}
use Rattle.model_sectors.specs.declared.PowerOut.TheVariants as power_outs
use Rattle.model_stops.specs.declared.Stop.TheVariants as stops
use Rattle.model_drive.specs.declared.RecordOut.{RecordOut}
use Rattle.model_drive.specs.declared.RecordOut.TheVariants as records
use Rattle.model_drive.specs.Shown.{Shown, cells_in}
use Rattle.model_drive.specs.Records.{LeadFromCause, record_update_uses}
use Rattle.model_drive.proofs.WriteStops.{dead_stopped}
use Rattle.model_mirror.specs.declared.MirrorPowerOut.{MirrorPowerOut}
use Rattle.model_mirror.specs.declared.MirrorPowerOut.TheVariants as outs
use Rattle.model_mirror.specs.declared.Waking.{Waking}
use Rattle.model_mirror.specs.Leading.{Noted, Raises, WritesNumber, WritesNoNumber, numbered, last_number}
use Rattle.model_mirror.specs.Shown.{MirrorShown, exchanged}
use Rattle.model_mirror.specs.Powers.{NobodyLeads, LeadStops, stop_of, OtherFollows, RaisesFirst, LeadGoesOn, Leads, Starts, Finishes, is_to_lead, was_read, can_tell, still_tells, stays_on, MirrorPowerCause}
use Rattle.model_mirror.specs.Sides.{side_a, side_b}
use Rattle.model_mirror_laws.specs.Ahead.{KeepsACopy, WakesWithCopies, CopiesLast}

-- dead cells stay dead
abbrev DeadStay : Shown → Shown → Type 0
DeadStay old new = (block : ℕ) → cell_at (cells_in old) block ≡ Dead → cell_at (cells_in new) block ≡ Dead

same_dead : (old new : Shown) → new ≡ old → DeadStay old new
same_dead old new same block dead = ap (λ (s : Shown). cell_at (cells_in s) block) same ∙ dead

module _ (old new : Shown) where
  -- where a record is written
  wrote_dead : (value : LeadRecord) (out : RecordOut) → LeadFromCause old new value out → DeadStay old new
  wrote_dead value records.Good cause = cause.keeps.ends.reach.lasts.stays_dead
  wrote_dead value records.Lost cause = cause.keeps.ends.reach.lasts.stays_dead
  wrote_dead value records.Cut cause = dead_stopped old.medium new.medium record_update_uses stops.Cut cause.was_on cause.stopped.stops
  wrote_dead value records.Off cause = same_dead old new cause.nothing
  wrote_dead value records.Fault cause = dead_stopped old.medium new.medium record_update_uses stops.Fault cause.was_on cause.stopped.stops

  raised_dead : (was now : Noted) (above : ℕ) (out : RecordOut) → Raises old new was now above out → DeadStay old new
  raised_dead was now above out raises = go (nat_lt above was.most) raises
    where
      inner : (b : Bool) → MatchBool b (WritesNumber old new was now (above + 1) out) (WritesNoNumber old new was now × (out ≡ records.Lost)) → DeadStay old new
      inner true wrote = wrote_dead (numbered was (above + 1)) out wrote.cause
      inner false p = same_dead old new p.0.same

      go : (b : Bool) → MatchBool b (WritesNoNumber old new was now × (out ≡ records.Good)) (MatchBool (nat_lt above last_number) (WritesNumber old new was now (above + 1) out) (WritesNoNumber old new was now × (out ≡ records.Lost))) → DeadStay old new
      go true p = same_dead old new p.0.same
      go false p = inner (nat_lt above last_number) p

-- They do on both sides of a mirror, by their names.
record BothStay (old new : MirrorShown) : Type 0 where
  pub a : DeadStay (side_a old) (side_a new)
  pub b : DeadStay (side_b old) (side_b new)

then_stay : (x y z : MirrorShown) → BothStay x y → BothStay y z → BothStay x z
then_stay x y z one two = record { a = λ block dead. two.a block (one.a block dead); b = λ block dead. two.b block (one.b block dead) }

-- by the roles, which stay as they are
by_name : (p q : Bool) (x x' y y' : Shown) → q ≡ p → DeadStay x y → DeadStay x' y' → DeadStay (if p then x else x') (if q then y else y')
by_name true true x x' y y' e one two = one
by_name true false x x' y y' e one two = absurd (let w = e in cc)
by_name false true x x' y y' e one two = absurd (let w = e in cc)
by_name false false x x' y y' e one two = two

module _ (x y : MirrorShown) (same : y.lead_is_a ≡ x.lead_is_a) where
  roles_stay : DeadStay x.lead y.lead → DeadStay x.other y.other → BothStay x y
  roles_stay one two = record {
    a = by_name x.lead_is_a y.lead_is_a x.lead x.other y.lead y.other same one two;
    b = by_name x.lead_is_a y.lead_is_a x.other x.lead y.other y.lead same two one;
  }

  neither_stays : y.lead ≡ x.lead → y.other ≡ x.other → BothStay x y
  neither_stays one two = roles_stay (same_dead x.lead y.lead one) (same_dead x.other y.other two)

-- the roles are exchanged
exchanged_name : (p : Bool) (x x' : Shown) → DeadStay (if p then x else x') (if not p then x' else x)
exchanged_name true x x' block dead = dead
exchanged_name false x x' block dead = dead

exchanged_stay : (x : MirrorShown) → BothStay x (exchanged x)
exchanged_stay x = record { a = exchanged_name x.lead_is_a x.lead x.other; b = exchanged_name x.lead_is_a x.other x.lead }

same_stays : (x y : MirrorShown) → y ≡ x → BothStay x y
same_stays x y e = neither_stays x y (ap (λ (s : MirrorShown). s.lead_is_a) e) (ap (λ (s : MirrorShown). s.lead) e) (ap (λ (s : MirrorShown). s.other) e)

-- From the waking of both sides on.
module _ (new : MirrorShown) (out : MirrorPowerOut) where
  nobody_stays : (mid : MirrorShown) → NobodyLeads mid new out → BothStay mid new
  nobody_stays mid n = neither_stays mid new (ap (λ (s : MirrorShown). s.lead_is_a) n.new_is) (ap (λ (s : MirrorShown). s.lead) n.new_is) (ap (λ (s : MirrorShown). s.other) n.new_is)

  stops_stay : (mid : MirrorShown) (stop : MirrorPowerOut) → LeadStops mid new stop out → BothStay mid new
  stops_stay mid stop stops = go mid.who.known stops
    where
      go : (b : Bool) → MatchBool b ((out ≡ stop) × (new ≡ mid)) (NobodyLeads mid new out) → BothStay mid new
      go true p = same_stays mid new p.1
      go false nobody = nobody_stays mid nobody

  module _ (lead other : Waking) where
    finished_stay : (late : MirrorShown) (there : PowerOut) (on : Bool) (power : PowerOut) → Finishes late new there on power out → BothStay late new
    finished_stay late there on (power_outs.Ready known) ends = neither_stays late new (ap (λ (s : MirrorShown). s.lead_is_a) ends.new_is) (ap (λ (s : MirrorShown). s.lead) ends.new_is) (ap (λ (s : MirrorShown). s.other) ends.new_is)
    finished_stay late there on power_outs.NotFormatted ends = neither_stays late new (ap (λ (s : MirrorShown). s.lead_is_a) ends.new_is) (ap (λ (s : MirrorShown). s.lead) ends.new_is) (ap (λ (s : MirrorShown). s.other) ends.new_is)
    finished_stay late there on power_outs.Cut ends = nobody_stays late ends
    finished_stay late there on power_outs.Fault ends = nobody_stays late ends

    first_stays : (mid late : MirrorShown) (asked : Bool) (raised : RecordOut) → RaisesFirst mid late asked raised → BothStay mid late
    first_stays mid late true raised r = roles_stay mid late (ap (λ (s : MirrorShown). s.lead_is_a) r.new_is) (same_dead mid.lead late.lead (ap (λ (s : MirrorShown). s.lead) r.new_is))
        (raised_dead mid.other late.other mid.who.other late.who.other 0 raised r.raises)
    first_stays mid late false raised r = same_stays mid late r.0

    followed_stay : (mid : MirrorShown) → OtherFollows mid new lead other out → BothStay mid new
    followed_stay mid f = then_stay mid f.late new (first_stays mid f.late (was_read other.record) f.raised f.raises) (go (still_tells f.late.who f.raised) f.ends)
      where
        go : (b : Bool) → MatchBool b (Finishes f.late new other.power (stays_on other.record && stays_on f.raised) lead.power out) (NobodyLeads f.late new out) → BothStay f.late new
        go true ends = finished_stay f.late other.power _ lead.power ends
        go false nobody = nobody_stays f.late nobody

    leads_stay : (mid : MirrorShown) → Leads mid new lead other out → BothStay mid new
    leads_stay mid l = then_stay mid l.late new raised (go l.raised l.ends)
      where
        raised : BothStay mid l.late
        raised = roles_stay mid l.late (ap (λ (s : MirrorShown). s.lead_is_a) l.raises.new_is) (raised_dead mid.lead l.late.lead mid.who.lead l.late.who.lead _ l.raised l.raises.raises)
            (same_dead mid.other l.late.other (ap (λ (s : MirrorShown). s.other) l.raises.new_is))

        go : (raised : RecordOut) → LeadGoesOn l.late new lead other out raised → BothStay l.late new
        go records.Good ends = followed_stay l.late ends
        go records.Lost ends = nobody_stays l.late ends
        go records.Cut ends = same_stays l.late new ends.1
        go records.Off ends = nobody_stays l.late ends
        go records.Fault ends = same_stays l.late new ends.1

    starts_stay : (mid : MirrorShown) (told : RecordOut) → Starts mid new lead other out told → BothStay mid new
    starts_stay mid records.Good starts = go (can_tell mid.who other.record) starts
      where
        go : (b : Bool) → MatchBool b (Leads mid new lead other out) (NobodyLeads mid new out) → BothStay mid new
        go true l = leads_stay mid l
        go false nobody = nobody_stays mid nobody
    starts_stay mid records.Lost starts = nobody_stays mid starts
    starts_stay mid records.Cut starts = stops_stay mid outs.Cut starts
    starts_stay mid records.Off starts = stops_stay mid (stop_of lead.power) starts
    starts_stay mid records.Fault starts = stops_stay mid outs.Fault starts

-- by the roles that the sides had
by_role : (p q : Bool) (x x' y y' : Shown) → q ≡ p → KeepsACopy (if p then x else x') (if q then y else y') → KeepsACopy (if p then x' else x) (if q then y' else y) → KeepsACopy x y × KeepsACopy x' y'
by_role true true x x' y y' e one two = (one, two)
by_role true false x x' y y' e one two = absurd (let w = e in cc)
by_role false true x x' y y' e one two = absurd (let w = e in cc)
by_role false false x x' y y' e one two = (two, one)

-- a copy that lasts longer
before_that : (old mid new : Shown) → DeadStay mid new → KeepsACopy old new → KeepsACopy old mid
before_that old mid new stay last = record { value = last.value; area = last.area; copy = last.copy; lives = λ dead. last.lives (stay _ dead) }

pub copies_woke : (old new : MirrorShown) (out : MirrorPowerOut) (cause : MirrorPowerCause old new out) → CopiesLast old new → WakesWithCopies old new out cause
copies_woke old new out cause last = let both = by_role old.lead_is_a cause.mid.lead_is_a old.lead old.other cause.mid.lead cause.mid.other (ap (λ (s : MirrorShown). s.lead_is_a) cause.wakes.new_is)
    (before_that (side_a old) (side_a cause.mid) (side_a new) stay.a last.a) (before_that (side_b old) (side_b cause.mid) (side_b new) stay.b last.b) in
    record { lead = both.0; other = both.1 }
  where
    stay : BothStay cause.mid new
    stay = go (is_to_lead cause.mid cause.lead.record cause.other.record) cause.starts
      where
        go : (b : Bool) → MatchBool b (Starts (exchanged cause.mid) new cause.other cause.lead out cause.other.record) (Starts cause.mid new cause.lead cause.other out cause.lead.record) → BothStay cause.mid new
        go true starts = then_stay cause.mid (exchanged cause.mid) new (exchanged_stay cause.mid) (starts_stay new out cause.other cause.lead (exchanged cause.mid) cause.other.record starts)
        go false starts = starts_stay new out cause.lead cause.other cause.mid cause.lead.record starts
