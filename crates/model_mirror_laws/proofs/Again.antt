-- The side whose record is ahead leads after another power on, and stays ahead.
use Rattle.std.specs.Prelude.{◌≡◌, ◌⊎◌, ℕ, ◌<◌, ◌≤◌, ◌&&◌, not, MatchBool, if◌then◌else◌, Bool, true, false}
use Rattle.std.proofs.Common.{refl, sym, ap, ◌∙◌, inl, inr, subst, arith}
use Rattle.std.proofs.lemmas.Bool.{false≢true, ltb-true, lt-ltb, leb-true, le-leb}
use Rattle.model_sectors.specs.declared.PowerOut.{PowerOut}
use Rattle.model_sectors.specs.declared.PowerOut.TheVariants as power_outs
use Rattle.model_drive.specs.declared.RecordOut.{RecordOut}
use Rattle.model_drive.specs.declared.RecordOut.TheVariants as records
use Rattle.model_drive.specs.Shown.{Shown, IsKnown}
use Rattle.model_mirror.specs.declared.MirrorPowerOut.{MirrorPowerOut}
use Rattle.model_mirror.specs.declared.MirrorPowerOut.TheVariants as outs
use Rattle.model_mirror.specs.declared.Waking.{Waking}
use Rattle.model_mirror.specs.Leading.{floor_of}
use Rattle.model_mirror.specs.Shown.{MirrorShown, exchanged}
use Rattle.model_mirror.specs.Taking.{LeadRaises}
use Rattle.model_mirror.specs.Powers.{MirrorPowerCause, NobodyLeads, LeadStops, stop_of, Starts, Leads, LeadGoesOn, OtherFollows, RaisesFirst, Finishes, is_to_lead, was_read, can_tell, still_tells, stays_on, goes_before}
use Rattle.model_mirror_laws.specs.Ahead.{HoldsOfCopies, IsAhead, KeepsACopy, KnowsRecords, WakesWithCopies, SideIsAhead}
use Rattle.model_mirror_laws.proofs.Numbers.{woke_copies, woke_has, raised_copies, raised_exact}
use Rattle.model_mirror_laws.proofs.Knowing.{KnowsLead, HasWoken, knows_lead, raises_other, told_seen, both_read, and_right, has_woken, has_woken_exchanged}

-- the same sides
ahead_by : (x x' y y' : Shown) → x' ≡ x → y' ≡ y → IsAhead x y → IsAhead x' y'
ahead_by x x' y y' e e' ahead = subst (λ (s : Shown). IsAhead s y') (sym e) (subst (IsAhead x) (sym e') ahead)

-- The power on ended with these roles: the sides are those of a state before its end, and the one that is named first is ahead.
record EndsAhead (mid new : MirrorShown) : Type 0 where
  pub ahead : IsAhead new.lead new.other
  pub same_side : new.lead_is_a ≡ mid.lead_is_a

module _ (new : MirrorShown) (out : MirrorPowerOut) where
  nobody_ends : (mid : MirrorShown) → IsAhead mid.lead mid.other → NobodyLeads mid new out → EndsAhead mid new
  nobody_ends mid ahead nobody = record {
    ahead = ahead_by mid.lead new.lead mid.other new.other (ap (λ (s : MirrorShown). s.lead) nobody.new_is) (ap (λ (s : MirrorShown). s.other) nobody.new_is) ahead;
    same_side = ap (λ (s : MirrorShown). s.lead_is_a) nobody.new_is;
  }

  same_ends : (mid : MirrorShown) → IsAhead mid.lead mid.other → new ≡ mid → EndsAhead mid new
  same_ends mid ahead same = record {
    ahead = ahead_by mid.lead new.lead mid.other new.other (ap (λ (s : MirrorShown). s.lead) same) (ap (λ (s : MirrorShown). s.other) same) ahead;
    same_side = ap (λ (s : MirrorShown). s.lead_is_a) same;
  }

  stops_ends : (mid : MirrorShown) (stop : MirrorPowerOut) → IsAhead mid.lead mid.other → LeadStops mid new stop out → EndsAhead mid new
  stops_ends mid stop ahead stops = go mid.who.known stops
    where
      go : (b : Bool) → MatchBool b ((out ≡ stop) × (new ≡ mid)) (NobodyLeads mid new out) → EndsAhead mid new
      go true p = same_ends mid ahead p.1
      go false nobody = nobody_ends mid ahead nobody

  module _ (lead other : Waking) where
    abbrev SameRoles : MirrorShown → Type 0
    SameRoles late = (new.lead ≡ late.lead) × (new.other ≡ late.other) × (new.lead_is_a ≡ late.lead_is_a)

    finished_roles : (late : MirrorShown) (there : PowerOut) (on : Bool) (power : PowerOut) → Finishes late new there on power out → SameRoles late
    finished_roles late there on (power_outs.Ready known) ends = (ap (λ (s : MirrorShown). s.lead) ends.new_is, ap (λ (s : MirrorShown). s.other) ends.new_is, ap (λ (s : MirrorShown). s.lead_is_a) ends.new_is)
    finished_roles late there on power_outs.NotFormatted ends = (ap (λ (s : MirrorShown). s.lead) ends.new_is, ap (λ (s : MirrorShown). s.other) ends.new_is, ap (λ (s : MirrorShown). s.lead_is_a) ends.new_is)
    finished_roles late there on power_outs.Cut ends = (ap (λ (s : MirrorShown). s.lead) ends.new_is, ap (λ (s : MirrorShown). s.other) ends.new_is, ap (λ (s : MirrorShown). s.lead_is_a) ends.new_is)
    finished_roles late there on power_outs.Fault ends = (ap (λ (s : MirrorShown). s.lead) ends.new_is, ap (λ (s : MirrorShown). s.other) ends.new_is, ap (λ (s : MirrorShown). s.lead_is_a) ends.new_is)

    followed_roles : (mid : MirrorShown) (f : OtherFollows mid new lead other out) → SameRoles f.late
    followed_roles mid f = go (still_tells f.late.who f.raised) f.ends
      where
        go : (b : Bool) → MatchBool b (Finishes f.late new other.power (stays_on other.record && stays_on f.raised) lead.power out) (NobodyLeads f.late new out) → SameRoles f.late
        go true ends = finished_roles f.late other.power _ lead.power ends
        go false nobody = (ap (λ (s : MirrorShown). s.lead) nobody.new_is, ap (λ (s : MirrorShown). s.other) nobody.new_is, ap (λ (s : MirrorShown). s.lead_is_a) nobody.new_is)

    first_roles : (mid late : MirrorShown) (asked : Bool) (raised : RecordOut) → RaisesFirst mid late asked raised → (late.lead ≡ mid.lead) × (late.lead_is_a ≡ mid.lead_is_a)
    first_roles mid late true raised r = (ap (λ (s : MirrorShown). s.lead) r.new_is, ap (λ (s : MirrorShown). s.lead_is_a) r.new_is)
    first_roles mid late false raised r = (ap (λ (s : MirrorShown). s.lead) r.0, ap (λ (s : MirrorShown). s.lead_is_a) r.0)

    -- a record that gets 1 has no more than the floor
    first_few : (mid late : MirrorShown) (asked : Bool) (raised : RecordOut) (floor : ℕ) → 1 ≤ floor → RaisesFirst mid late asked raised → IsKnown mid.other
        → HoldsOfCopies (λ number. number ≤ floor) mid.other → HoldsOfCopies (λ number. number ≤ floor) late.other
    first_few mid late true raised floor some r known few = raised_copies (λ number. number ≤ floor) mid.other late.other few known mid.who.other late.who.other 0 raised r.raises (λ _. some)
    first_few mid late false raised floor some r known few = subst (λ (s : MirrorShown). HoldsOfCopies (λ number. number ≤ floor) s.other) (sym r.0) few

    -- The side that is to lead is ahead.
    module _ (mid : MirrorShown) (woken : HasWoken mid lead.record other.record) (ahead : IsAhead mid.lead mid.other) where
      late_ahead : (late : MirrorShown) (raised : RecordOut) → lead.record ≡ records.Good → ahead.between < mid.who.lead.most → LeadRaises mid late (floor_of mid.who.other) raised
          → IsAhead late.lead late.other
      late_ahead late raised read most raises = record {
        between = ahead.between;
        above = raised_copies (λ number. ahead.between < number) mid.lead late.lead ahead.above woken.knows.lead_known mid.who.lead late.who.lead (floor_of mid.who.other) raised raises.raises (λ few. omega (arith, few, most));
        below = subst (HoldsOfCopies (λ number. number ≤ ahead.between)) (sym (raises_other mid late (floor_of mid.who.other) raised raises)) ahead.below;
      }

      late_side : (late : MirrorShown) (raised : RecordOut) → LeadRaises mid late (floor_of mid.who.other) raised → late.lead_is_a ≡ mid.lead_is_a
      late_side late raised raises = ap (λ (s : MirrorShown). s.lead_is_a) raises.new_is

      at_mid : (late : MirrorShown) → late.lead_is_a ≡ mid.lead_is_a → EndsAhead late new → EndsAhead mid new
      at_mid late same ends = record { ahead = ends.ahead; same_side = ends.same_side ∙ same }

      module _ (read : lead.record ≡ records.Good) (most : ahead.between < mid.who.lead.most) (can : can_tell mid.who other.record ≡ true) where
        followed : (late : MirrorShown) → LeadRaises mid late (floor_of mid.who.other) records.Good → OtherFollows late new lead other out → EndsAhead mid new
        followed late raises f = record {
          ahead = ahead_by f.late.lead new.lead f.late.other new.other roles.0 roles.1 (record {
            between = floor_of mid.who.other;
            above = subst (HoldsOfCopies (λ number. floor_of mid.who.other < number)) (sym first.0) (λ value area copy. let is = exact.0 value area copy in let more = exact.1 in omega (arith, is, more));
            below = first_few late f.late (was_read other.record) f.raised (floor_of mid.who.other) (omega arith) f.raises
                (subst IsKnown (sym same_other) woken.knows.other_known)
                (subst (HoldsOfCopies (λ number. number ≤ floor_of mid.who.other)) (sym same_other) (λ value area copy. let few = noted value area copy in omega (arith, few)));
          });
          same_side = roles.2 ∙ first.1 ∙ late_side late records.Good raises;
        }
          where
            roles : SameRoles f.late
            roles = followed_roles late f

            first : (f.late.lead ≡ late.lead) × (f.late.lead_is_a ≡ late.lead_is_a)
            first = first_roles late f.late (was_read other.record) f.raised f.raises

            exact : HoldsOfCopies (λ number. number ≡ late.who.lead.most) late.lead × (floor_of mid.who.other < late.who.lead.most)
            exact = raised_exact mid.lead late.lead mid.who.lead late.who.lead (floor_of mid.who.other) woken.knows.lead_known raises.raises (woken.exact read)

            same_other : late.other ≡ mid.other
            same_other = raises_other mid late (floor_of mid.who.other) records.Good raises

            noted : HoldsOfCopies (λ number. number ≤ mid.who.other.most) mid.other
            noted = woken.knows.noted (told_seen mid.who other.record woken.knows.not_by_hand can woken.other_seen)

        leads_ends : Leads mid new lead other out → EndsAhead mid new
        leads_ends l = go l.raised l.raises l.ends
          where
            nobody : (raised : RecordOut) → LeadRaises mid l.late (floor_of mid.who.other) raised → NobodyLeads l.late new out → EndsAhead mid new
            nobody raised raises ends =
                at_mid l.late (late_side l.late raised raises) (nobody_ends l.late (late_ahead l.late raised read most raises) ends)

            stays : (raised : RecordOut) → LeadRaises mid l.late (floor_of mid.who.other) raised → new ≡ l.late → EndsAhead mid new
            stays raised raises same =
                at_mid l.late (late_side l.late raised raises) (same_ends l.late (late_ahead l.late raised read most raises) same)

            go : (raised : RecordOut) → LeadRaises mid l.late (floor_of mid.who.other) raised → LeadGoesOn l.late new lead other out raised → EndsAhead mid new
            go records.Good raises ends = followed l.late raises ends
            go records.Lost raises ends = nobody records.Lost raises ends
            go records.Cut raises ends = stays records.Cut raises ends.1
            go records.Off raises ends = nobody records.Off raises ends
            go records.Fault raises ends = stays records.Fault raises ends.1

      starts_ends : (told : RecordOut) → lead.record ≡ told → (told ≡ records.Good → ahead.between < mid.who.lead.most) → Starts mid new lead other out told → EndsAhead mid new
      starts_ends records.Good read most starts = go (can_tell mid.who other.record) refl starts
        where
          go : (b : Bool) → can_tell mid.who other.record ≡ b → MatchBool b (Leads mid new lead other out) (NobodyLeads mid new out) → EndsAhead mid new
          go true can leads = leads_ends read (most refl) can leads
          go false can nobody = nobody_ends mid ahead nobody
      starts_ends records.Lost read most starts = nobody_ends mid ahead starts
      starts_ends records.Cut read most starts = stops_ends mid outs.Cut ahead starts
      starts_ends records.Off read most starts = stops_ends mid (stop_of lead.power) ahead starts
      starts_ends records.Fault read most starts = stops_ends mid outs.Fault ahead starts

  -- The other side is ahead, and it is not known who leads: then nobody does, unless both records were read.
  record EndsNobody (mid : MirrorShown) : Type 0 where
    pub ahead : IsAhead new.other new.lead
    pub same_side : new.lead_is_a ≡ mid.lead_is_a
    pub unknown : new.who.known ≡ false

  nobody_behind : (mid : MirrorShown) → IsAhead mid.other mid.lead → NobodyLeads mid new out → EndsNobody mid
  nobody_behind mid ahead nobody = record {
    ahead = ahead_by mid.other new.other mid.lead new.lead (ap (λ (s : MirrorShown). s.other) nobody.new_is) (ap (λ (s : MirrorShown). s.lead) nobody.new_is) ahead;
    same_side = ap (λ (s : MirrorShown). s.lead_is_a) nobody.new_is;
    unknown = ap (λ (s : MirrorShown). s.who.known) nobody.new_is;
  }

  stops_behind : (mid : MirrorShown) (stop : MirrorPowerOut) → mid.who.known ≡ false → IsAhead mid.other mid.lead → LeadStops mid new stop out → EndsNobody mid
  stops_behind mid stop unknown ahead stops = go mid.who.known unknown stops
    where
      go : (b : Bool) → b ≡ false → MatchBool b ((out ≡ stop) × (new ≡ mid)) (NobodyLeads mid new out) → EndsNobody mid
      go true e p = absurd (let w = e in cc)
      go false e nobody = nobody_behind mid ahead nobody

  starts_behind : (mid : MirrorShown) (lead other : Waking) (told : RecordOut) → mid.who.known ≡ false → mid.who.by_hand ≡ false → IsAhead mid.other mid.lead
      → (told ≡ records.Good → other.record ≡ records.Good → ⊥) → Starts mid new lead other out told → EndsNobody mid
  starts_behind mid lead other records.Good unknown hand ahead not_both starts = go (can_tell mid.who other.record) refl starts
    where
      read : (o : RecordOut) → other.record ≡ o → can_tell mid.who o ≡ true → ⊥
      read records.Good e can = not_both refl e
      read records.Lost e can = false≢true (sym hand ∙ can)
      read records.Cut e can = false≢true (sym (ap (λ b. b && mid.who.other.seen) unknown) ∙ can)
      read records.Off e can = false≢true (sym (ap (λ b. b && mid.who.other.seen) unknown) ∙ can)
      read records.Fault e can = false≢true (sym (ap (λ b. b && mid.who.other.seen) unknown) ∙ can)

      go : (b : Bool) → can_tell mid.who other.record ≡ b → MatchBool b (Leads mid new lead other out) (NobodyLeads mid new out) → EndsNobody mid
      go true can leads = absurd (read other.record refl can)
      go false can nobody = nobody_behind mid ahead nobody
  starts_behind mid lead other records.Lost unknown hand ahead not_both starts = nobody_behind mid ahead starts
  starts_behind mid lead other records.Cut unknown hand ahead not_both starts = stops_behind mid outs.Cut unknown ahead starts
  starts_behind mid lead other records.Off unknown hand ahead not_both starts = stops_behind mid (stop_of lead.power) unknown ahead starts
  starts_behind mid lead other records.Fault unknown hand ahead not_both starts = stops_behind mid outs.Fault unknown ahead starts

no_room : (between more few : ℕ) → between < more → few ≤ between → more ≤ few → ⊥
no_room between more few a b c = omega (arith, a, b, c)

-- which number goes before
before_more : (a : Bool) (lead other : ℕ) → goes_before a lead other ≡ true → lead ≤ other
before_more true lead other e = let less = ltb-true lead other e in omega (arith, less)
before_more false lead other e = leb-true lead other e

not_before : (a : Bool) (lead other : ℕ) → lead < other → goes_before a lead other ≡ true
not_before true lead other less = lt-ltb lead other less
not_before false lead other less = le-leb lead other (omega (arith, less))

-- Both sides woke, and one of them was ahead.
module _ (old new : MirrorShown) (out : MirrorPowerOut) (cause : MirrorPowerCause old new out) (copies : KeepsACopy old.lead cause.mid.lead × KeepsACopy old.other cause.mid.other) (knows : KnowsLead old) where
  module _ (P : ℕ → Type 0) where
    lead_copies : HoldsOfCopies P old.lead → P 0 ⊎ KeepsACopy old.lead cause.mid.lead → HoldsOfCopies P cause.mid.lead
    lead_copies holds why = woke_copies old.lead cause.mid.lead old.who.lead cause.mid.who.lead cause.lead cause.wakes.led knows.lead_known P holds why

    lead_has : HoldsOfCopies P old.lead → P 0 ⊎ KeepsACopy old.lead cause.mid.lead → cause.lead.record ≡ records.Good → P cause.mid.who.lead.most
    lead_has holds why read = woke_has old.lead cause.mid.lead old.who.lead cause.mid.who.lead cause.lead cause.wakes.led knows.lead_known P holds why read

    other_copies : HoldsOfCopies P old.other → P 0 ⊎ KeepsACopy old.other cause.mid.other → HoldsOfCopies P cause.mid.other
    other_copies holds why = woke_copies old.other cause.mid.other old.who.other cause.mid.who.other cause.other cause.wakes.followed knows.other_known P holds why

    other_has : HoldsOfCopies P old.other → P 0 ⊎ KeepsACopy old.other cause.mid.other → cause.other.record ≡ records.Good → P cause.mid.who.other.most
    other_has holds why read = woke_has old.other cause.mid.other old.who.other cause.mid.who.other cause.other cause.wakes.followed knows.other_known P holds why read

  mid_side : cause.mid.lead_is_a ≡ old.lead_is_a
  mid_side = ap (λ (s : MirrorShown). s.lead_is_a) cause.wakes.new_is

  mid_known : cause.mid.who.known ≡ old.who.known
  mid_known = ap (λ (s : MirrorShown). s.who.known) cause.wakes.new_is

  woken : HasWoken cause.mid cause.lead.record cause.other.record
  woken = has_woken old new out cause knows

  -- the one that is named first
  pub first_again : IsAhead old.lead old.other → IsAhead new.lead new.other × (new.lead_is_a ≡ old.lead_is_a)
  first_again was = go (is_to_lead cause.mid cause.lead.record cause.other.record) refl cause.starts
    where
      ahead : IsAhead cause.mid.lead cause.mid.other
      ahead = record {
        between = was.between;
        above = lead_copies (λ number. was.between < number) was.above (inr copies.0);
        below = other_copies (λ number. number ≤ was.between) was.below (inl (omega arith));
      }

      go : (b : Bool) → is_to_lead cause.mid cause.lead.record cause.other.record ≡ b
          → MatchBool b (Starts (exchanged cause.mid) new cause.other cause.lead out cause.other.record) (Starts cause.mid new cause.lead cause.other out cause.lead.record)
          → IsAhead new.lead new.other × (new.lead_is_a ≡ old.lead_is_a)
      go true e starts =
          let read = both_read cause.mid.who.known cause.lead.record cause.other.record _ e in
          let more = lead_has (λ number. was.between < number) was.above (inr copies.0) read.0 in
          let few = other_has (λ number. number ≤ was.between) was.below (inl (omega arith)) read.1 in
          let last : goes_before cause.mid.lead_is_a cause.mid.who.lead.most cause.mid.who.other.most ≡ true = and_right ((not cause.mid.who.known && was_read cause.lead.record) && was_read cause.other.record) _ e in
          absurd (no_room was.between cause.mid.who.lead.most cause.mid.who.other.most more few (before_more cause.mid.lead_is_a cause.mid.who.lead.most cause.mid.who.other.most last))
      go false e starts =
          let ends = starts_ends new out cause.lead cause.other cause.mid woken ahead cause.lead.record refl
          (λ read. lead_has (λ number. was.between < number) was.above (inr copies.0) read) starts in
          (ends.ahead, ends.same_side ∙ mid_side)

  -- and the other one, where it is not known who leads
  abbrev OtherAgain : Type 0
  OtherAgain = (IsAhead new.lead new.other × (new.lead_is_a ≡ not old.lead_is_a)) ⊎ (IsAhead new.other new.lead × (new.lead_is_a ≡ old.lead_is_a) × (new.who.known ≡ false))

  pub other_again : IsAhead old.other old.lead → old.who.known ≡ false → OtherAgain
  other_again was unknown = go (is_to_lead cause.mid cause.lead.record cause.other.record) refl cause.starts
    where
      ahead : IsAhead cause.mid.other cause.mid.lead
      ahead = record {
        between = was.between;
        above = other_copies (λ number. was.between < number) was.above (inr copies.1);
        below = lead_copies (λ number. number ≤ was.between) was.below (inl (omega arith));
      }

      -- were both read, the other one would lead
      not_both : is_to_lead cause.mid cause.lead.record cause.other.record ≡ false → cause.lead.record ≡ records.Good → cause.other.record ≡ records.Good → ⊥
      not_both e one two =
          let more = other_has (λ number. was.between < number) was.above (inr copies.1) two in
          let few = lead_has (λ number. number ≤ was.between) was.below (inl (omega arith)) one in
          let before = not_before cause.mid.lead_is_a cause.mid.who.lead.most cause.mid.who.other.most (omega (arith, more, few)) in
          false≢true (sym e ∙ to_lead one two (mid_known ∙ unknown) before)
        where
          to_lead : cause.lead.record ≡ records.Good → cause.other.record ≡ records.Good → cause.mid.who.known ≡ false → goes_before cause.mid.lead_is_a cause.mid.who.lead.most cause.mid.who.other.most ≡ true
              → is_to_lead cause.mid cause.lead.record cause.other.record ≡ true
          to_lead one two known before = all_true _ _ _ _ (ap not known) (ap was_read one) (ap was_read two) before
            where
              all_true : (a b c d : Bool) → a ≡ true → b ≡ true → c ≡ true → d ≡ true → (((a && b) && c) && d) ≡ true
              all_true true true true true w x y z = refl
              all_true false b c d w x y z = absurd (false≢true w)
              all_true true false c d w x y z = absurd (false≢true x)
              all_true true true false d w x y z = absurd (false≢true y)
              all_true true true true false w x y z = absurd (false≢true z)

      go : (b : Bool) → is_to_lead cause.mid cause.lead.record cause.other.record ≡ b
          → MatchBool b (Starts (exchanged cause.mid) new cause.other cause.lead out cause.other.record) (Starts cause.mid new cause.lead cause.other out cause.lead.record) → OtherAgain
      go true e starts =
          let read = both_read cause.mid.who.known cause.lead.record cause.other.record _ e in
          let ends = starts_ends new out cause.other cause.lead (exchanged cause.mid)
          (has_woken_exchanged old new out cause knows read.0) ahead cause.other.record refl
          (λ got. other_has (λ number. was.between < number) was.above (inr copies.1) got) starts in
          inl (ends.ahead, ends.same_side ∙ ap not mid_side)
      go false e starts =
          let ends = starts_behind new out cause.mid cause.lead cause.other cause.lead.record (mid_known ∙ unknown) woken.knows.not_by_hand ahead (not_both e) starts in
          inr (ends.ahead, ends.same_side ∙ mid_side, ends.unknown)

-- by the names of the sides
abbrev pub Named : Bool → Bool → Shown → Shown → Type 0
Named true lead_is_a lead other = IsAhead (if lead_is_a then lead else other) (if lead_is_a then other else lead)
Named false lead_is_a lead other = IsAhead (if lead_is_a then other else lead) (if lead_is_a then lead else other)

named_first : (on_a lead_is_a : Bool) (lead other : Shown) → lead_is_a ≡ on_a → IsAhead lead other → Named on_a lead_is_a lead other
named_first true true lead other e ahead = ahead
named_first false false lead other e ahead = ahead
named_first true false lead other e ahead = absurd (false≢true e)
named_first false true lead other e ahead = absurd (false≢true (sym e))

named_other : (on_a lead_is_a : Bool) (lead other : Shown) → lead_is_a ≡ not on_a → IsAhead other lead → Named on_a lead_is_a lead other
named_other true false lead other e ahead = ahead
named_other false true lead other e ahead = ahead
named_other true true lead other e ahead = absurd (false≢true (sym e))
named_other false false lead other e ahead = absurd (false≢true e)

which : (on_a lead_is_a : Bool) (lead other : Shown) → Named on_a lead_is_a lead other → ((lead_is_a ≡ on_a) × IsAhead lead other) ⊎ ((lead_is_a ≡ not on_a) × IsAhead other lead)
which true true lead other ahead = inl (refl, ahead)
which true false lead other ahead = inr (refl, ahead)
which false true lead other ahead = inr (refl, ahead)
which false false lead other ahead = inl (refl, ahead)

pub named : (on_a : Bool) (shown : MirrorShown) → SideIsAhead on_a shown → Named on_a shown.lead_is_a shown.lead shown.other
named true shown ahead = ahead
named false shown ahead = ahead

pub unnamed : (on_a : Bool) (shown : MirrorShown) → Named on_a shown.lead_is_a shown.lead shown.other → SideIsAhead on_a shown
unnamed true shown ahead = ahead
unnamed false shown ahead = ahead

not_not : (a : Bool) → not (not a) ≡ a
not_not true = refl
not_not false = refl

not_same : (a b : Bool) → a ≡ b → a ≡ not b → ⊥
not_same a true one two = false≢true (sym two ∙ one)
not_same a false one two = false≢true (sym one ∙ two)

pub leads_again : (old new : MirrorShown) (out : MirrorPowerOut) (cause : MirrorPowerCause old new out)
    → WakesWithCopies old new out cause → KnowsRecords old → (on_a : Bool) → SideIsAhead on_a old → (old.who.known ≡ true → old.lead_is_a ≡ on_a)
    → SideIsAhead on_a new × (new.who.known ≡ true → new.lead_is_a ≡ on_a)
leads_again old new out cause last knows on_a was led = elim (which on_a old.lead_is_a old.lead old.other (named on_a old was)) [
  | inl first ↦
      let again = first_again old new out cause copies (knows_lead old knows) first.1 in
      (unnamed on_a new (named_first on_a new.lead_is_a new.lead new.other (again.1 ∙ first.0) again.0), λ _. again.1 ∙ first.0)
  | inr other ↦ elim (other_again old new out cause copies (knows_lead old knows) other.1 (not_known other.0)) [
    | inl turned ↦ let same = turned.1 ∙ ap not other.0 ∙ not_not on_a in (unnamed on_a new (named_first on_a new.lead_is_a new.lead new.other same turned.0), λ _. same)
    | inr nobody ↦ (unnamed on_a new (named_other on_a new.lead_is_a new.lead new.other (nobody.1 ∙ other.0) nobody.0), λ known. absurd (false≢true (sym nobody.2 ∙ known)))
  ]
]
  where
    copies : KeepsACopy old.lead cause.mid.lead × KeepsACopy old.other cause.mid.other
    copies = (last.lead, last.other)

    not_known : old.lead_is_a ≡ not on_a → old.who.known ≡ false
    not_known turned = go old.who.known refl
      where
        go : (b : Bool) → old.who.known ≡ b → b ≡ false
        go true e = absurd (not_same old.lead_is_a on_a (led e) turned)
        go false e = refl
