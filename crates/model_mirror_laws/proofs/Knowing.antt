-- What is known of the records of a mirror stays true in each of its calls.
use Rattle.std.specs.Prelude.{◌≡◌, ◌⊎◌, ℕ, ◌<◌, ◌≤◌, ◌&&◌, not, MatchBool, Bool, true, false}
use Rattle.std.proofs.Common.{refl, sym, ap, ◌∙◌, inl, inr, subst, arith}
use Rattle.model_geometry.specs.Geometry.{Shape}
use Rattle.model_sectors.specs.declared.PowerOut.{PowerOut}
use Rattle.model_sectors.specs.declared.PowerOut.TheVariants as power_outs
use Rattle.model_sectors.specs.declared.ReadOut.{ReadOut}
use Rattle.model_drive.specs.declared.WriteOut.{WriteOut}
use Rattle.model_drive.specs.declared.FormatOut.{FormatOut}
use Rattle.model_drive.specs.declared.RecordOut.{RecordOut}
use Rattle.model_drive.specs.declared.RecordOut.TheVariants as records
use Rattle.model_drive.specs.Shown.{IsKnown}
use Rattle.model_mirror.specs.declared.MirrorPowerOut.{MirrorPowerOut}
use Rattle.model_mirror.specs.declared.MirrorPowerOut.TheVariants as outs
use Rattle.model_mirror.specs.declared.Resync.{Resync}
use Rattle.model_mirror.specs.declared.Waking.{Waking}
use Rattle.model_mirror.specs.Leading.{Noted, Leading, floor_of}
use Rattle.model_mirror.specs.Shown.{MirrorShown, exchanged, may_lead, mirror_turned_off, forgotten}
use Rattle.model_mirror.specs.Taking.{LeadRaises, TakesLead, LeadIsTaken, LeadIsNotTaken, CannotTake}
use Rattle.model_mirror.specs.Reads.{MirrorReadCause}
use Rattle.model_mirror.specs.Writes.{MirrorWriteCause}
use Rattle.model_mirror.specs.Whole.{MirrorFormatCause, ResyncCause}
use Rattle.model_mirror.specs.Powers.{MirrorPowerCause, NobodyLeads, LeadStops, stop_of, Starts, Leads, LeadGoesOn, OtherFollows, RaisesFirst, Finishes, is_to_lead, was_read, can_tell, still_tells, stays_on}
use Rattle.model_mirror.proofs.Ahead.{leads_ahead}
use Rattle.model_mirror_laws.specs.Kept.{AreSides, KeepsRecords, TakesBetween, LeavesRecords}
use Rattle.model_mirror_laws.specs.Ahead.{HoldsOfCopies, IsAhead, IsNoted, LeadsByNumber, KnowsRecords}
use Rattle.model_mirror_laws.proofs.MirrorRecords.{read_leaves, write_leaves, format_leaves, resync_leaves}
use Rattle.model_mirror_laws.proofs.Numbers.{kept_copies, woke_known, woke_exact, woke_seen, woke_noted, raised_known, raised_new, raised_exact, raised_noted, raised_seen}

-- the numbers say it of the copies
pub numbers_ahead : (shown : MirrorShown) → IsNoted shown.who.other shown.other → LeadsByNumber shown → IsAhead shown.lead shown.other
numbers_ahead shown noted leads = record {
  between = shown.who.other.most;
  above = λ value area copy. let is = leads.exact value area copy in let greater = leads.greater in omega (arith, is, greater);
  below = noted leads.other_seen;
}

pub on_ahead : (shown : MirrorShown) → KnowsRecords shown → shown.on ≡ true → IsAhead shown.lead shown.other
on_ahead shown knows on = numbers_ahead shown knows.noted (knows.leads on)

-- Calls that leave the records.
module _ (old new : MirrorShown) (keeps : KeepsRecords old new) where
  kept_noted : IsNoted old.who.other old.other → IsNoted new.who.other new.other
  kept_noted noted seen =
      subst (λ (l : Leading). HoldsOfCopies (λ number. number ≤ l.other.most) new.other) (sym keeps.same_who)
      (kept_copies (λ number. number ≤ old.who.other.most) old.other new.other keeps.other (noted (sym (ap (λ (l : Leading). l.other.seen) keeps.same_who) ∙ seen)))

  pub kept_leads : LeadsByNumber old → LeadsByNumber new
  kept_leads leads = record {
    known = ap (λ (l : Leading). l.known) keeps.same_who ∙ leads.known;
    exact = subst (λ (l : Leading). HoldsOfCopies (λ number. number ≡ l.lead.most) new.lead) (sym keeps.same_who) (kept_copies (λ number. number ≡ old.who.lead.most) old.lead new.lead keeps.lead leads.exact);
    lead_seen = ap (λ (l : Leading). l.lead.seen) keeps.same_who ∙ leads.lead_seen;
    other_seen = ap (λ (l : Leading). l.other.seen) keeps.same_who ∙ leads.other_seen;
    greater = subst (λ (l : Leading). l.other.most < l.lead.most) (sym keeps.same_who) leads.greater;
  }

-- The same of a mirror that knows who leads, whether it is on or not.
pub record KnowsLead (shown : MirrorShown) : Type 0 where
  pub lead_known : IsKnown shown.lead
  pub other_known : IsKnown shown.other
  pub not_by_hand : shown.who.by_hand ≡ false
  pub noted : IsNoted shown.who.other shown.other

pub knows_lead : (shown : MirrorShown) → KnowsRecords shown → KnowsLead shown
knows_lead shown knows = record { lead_known = knows.lead_known; other_known = knows.other_known; not_by_hand = knows.not_by_hand; noted = knows.noted }

pub with_leads : (shown : MirrorShown) → KnowsLead shown → (shown.on ≡ true → LeadsByNumber shown) → KnowsRecords shown
with_leads shown knows leads = record { lead_known = knows.lead_known; other_known = knows.other_known; not_by_hand = knows.not_by_hand; noted = knows.noted; leads = leads }

pub kept_lead : (old new : MirrorShown) → KeepsRecords old new → KnowsLead old → KnowsLead new
kept_lead old new keeps knows = record {
  lead_known = keeps.lead.as_known ∙ knows.lead_known;
  other_known = keeps.other.as_known ∙ knows.other_known;
  not_by_hand = ap (λ (l : Leading). l.by_hand) keeps.same_who ∙ knows.not_by_hand;
  noted = kept_noted old new keeps knows.noted;
}

same_knows : (old new : MirrorShown) → new ≡ old → KnowsRecords old → KnowsRecords new
same_knows old new same knows = subst KnowsRecords (sym same) knows

-- the other side took the lead
pub taken_knows : (mid late : MirrorShown) → LeadIsTaken mid late → KnowsLead mid → LeadsByNumber mid → KnowsLead late × LeadsByNumber late
taken_knows mid late taken knows leads =
    let wrote = taken.wrote in
    let greater = leads.greater in
    let raised = raised_new mid.other taken.late.other mid.who.other taken.late.who.other mid.who.lead.most knows.other_known wrote.raises (omega (arith, greater)) in
    let seen = taken_seen in
    let is : late.lead ≡ taken.late.other = ap (λ (s : MirrorShown). s.lead) taken.new_is in
    let was : late.other ≡ mid.lead = ap (λ (s : MirrorShown). s.other) taken.new_is ∙ ap (λ (s : MirrorShown). s.lead) wrote.new_is in
    let who : late.who.lead ≡ taken.late.who.other = ap (λ (s : MirrorShown). s.who.lead) taken.new_is in
    let who' : late.who.other ≡ mid.who.lead = ap (λ (s : MirrorShown). s.who.other) taken.new_is ∙ ap (λ (s : MirrorShown). s.who.lead) wrote.new_is in
    let exact : HoldsOfCopies (λ number. number ≡ mid.who.lead.most) late.other = subst (HoldsOfCopies (λ number. number ≡ mid.who.lead.most)) (sym was) leads.exact in
    let most : late.who.other.most ≡ mid.who.lead.most = ap (λ (n : Noted). n.most) who' in
    let most' : late.who.lead.most ≡ taken.late.who.other.most = ap (λ (n : Noted). n.most) who in
    let less = raised.1 in (
      record {
        lead_known = subst IsKnown (sym is) (raised_known mid.other taken.late.other mid.who.other taken.late.who.other mid.who.lead.most knows.other_known records.Good wrote.raises);
        other_known = subst IsKnown (sym was) knows.lead_known;
        not_by_hand = ap (λ (s : MirrorShown). s.who.by_hand) taken.new_is;
        noted = λ _ value area copy. let e = exact value area copy in omega (arith, e, most);
      },
      record {
        known = ap (λ (s : MirrorShown). s.who.known) taken.new_is ∙ ap (λ (s : MirrorShown). s.who.known) wrote.new_is ∙ leads.known;
        exact = subst (λ (m : ℕ). HoldsOfCopies (λ number. number ≡ m) late.lead) (sym most') (subst (HoldsOfCopies (λ number. number ≡ taken.late.who.other.most)) (sym is) raised.0);
        lead_seen = ap (λ (n : Noted). n.seen) who ∙ seen;
        other_seen = ap (λ (n : Noted). n.seen) who' ∙ leads.lead_seen;
        greater = omega (arith, most, most', less);
      },
    )
  where
    taken_seen : taken.late.who.other.seen ≡ true
    taken_seen = raised_seen mid.other taken.late.other mid.who.other taken.late.who.other mid.who.lead.most records.Good taken.wrote.raises leads.other_seen

-- or it did not
not_taken_knows : (mid late : MirrorShown) → LeadIsNotTaken mid late → KnowsLead mid → LeadsByNumber mid → KnowsLead late
not_taken_knows mid late taken knows leads = go (may_lead mid) taken.why
  where
    is : late.other ≡ taken.late.other
    is = ap (λ (s : MirrorShown). s.other) taken.new_is

    cannot : CannotTake mid taken.late → KnowsLead late
    cannot c =
        let from : late.lead ≡ mid.lead = ap (λ (s : MirrorShown). s.lead) taken.new_is ∙ ap (λ (s : MirrorShown). s.lead) c.wrote.new_is in
        let who : late.who.other ≡ taken.late.who.other = ap (λ (s : MirrorShown). s.who.other) taken.new_is in
        record {
          lead_known = subst IsKnown (sym from) knows.lead_known;
          other_known = subst IsKnown (sym is) (raised_known mid.other taken.late.other mid.who.other taken.late.who.other mid.who.lead.most knows.other_known c.told c.wrote.raises);
          not_by_hand = ap (λ (s : MirrorShown). s.who.by_hand) taken.new_is ∙ ap (λ (s : MirrorShown). s.who.by_hand) c.wrote.new_is ∙ knows.not_by_hand;
          noted = λ _. subst (λ (n : Noted). HoldsOfCopies (λ number. number ≤ n.most) late.other) (sym who) (subst (HoldsOfCopies (λ number. number ≤ taken.late.who.other.most)) (sym is)
              (raised_noted mid.other taken.late.other mid.who.other taken.late.who.other mid.who.lead.most knows.other_known c.told c.wrote.raises (knows.noted leads.other_seen)));
        }

    stays : taken.late ≡ mid → KnowsLead late
    stays same =
        let at : late ≡ mirror_turned_off mid = taken.new_is ∙ ap mirror_turned_off same in
        subst KnowsLead (sym at) (record { lead_known = knows.lead_known; other_known = knows.other_known; not_by_hand = knows.not_by_hand; noted = knows.noted })

    go : (b : Bool) → MatchBool b (CannotTake mid taken.late) (taken.late ≡ mid) → KnowsLead late
    go true c = cannot c
    go false same = stays same

module _ (old new : MirrorShown) (knows : KnowsRecords old) where
  -- a mirror that was on
  keeps_knows : old.on ≡ true → KeepsRecords old new → KnowsRecords new
  keeps_knows on keeps = with_leads new (kept_lead old new keeps (knows_lead old knows)) (λ _. kept_leads old new keeps (knows.leads on))

  takes_knows : old.on ≡ true → TakesBetween old new → KnowsRecords new
  takes_knows on t = go t.taken t.takes
    where
      mid_knows : KnowsLead t.mid
      mid_knows = kept_lead old t.mid t.before (knows_lead old knows)

      mid_leads : LeadsByNumber t.mid
      mid_leads = kept_leads old t.mid t.before (knows.leads on)

      go : (b : Bool) → TakesLead t.mid t.late b → KnowsRecords new
      go true taken =
          let late = taken_knows t.mid t.late taken mid_knows mid_leads in
          with_leads new (kept_lead t.late new t.after late.0) (λ _. kept_leads t.late new t.after late.1)
      go false taken =
          let late = not_taken_knows t.mid t.late taken mid_knows mid_leads in
          with_leads new (kept_lead t.late new t.after late) (λ is. absurd (let e : false ≡ true = sym (t.stays_off (ap (λ (s : MirrorShown). s.on) taken.new_is)) ∙ is in cc))

  leaves_knows : old.on ≡ true → LeavesRecords old new → KnowsRecords new
  leaves_knows on (inl keeps) = keeps_knows on keeps
  leaves_knows on (inr takes) = takes_knows on takes

  -- a mirror that is off does nothing
  by_on : (X Y : Type 0) → (X → old.on ≡ true → KnowsRecords new) → (b : Bool) → old.on ≡ b → MatchBool b X (Y × (new ≡ old)) → KnowsRecords new
  by_on X Y each true e cause = each cause e
  by_on X Y each false e p = same_knows old new p.1 knows

  pub format_knows : (out : FormatOut) → MirrorFormatCause old new out → KnowsRecords new
  format_knows out cause = by_on _ _ (λ _ on. keeps_knows on (format_leaves old new out cause)) old.on refl cause

  module _ (shape : Shape) (sides : AreSides shape old) where
    pub read_knows : (lba n : ℕ) (out : ReadOut) → MirrorReadCause old new lba n out → KnowsRecords new
    read_knows lba n out cause = by_on _ _ (λ _ on. leaves_knows on (read_leaves lba n shape old new sides out cause)) old.on refl cause

    pub write_knows : (lba n : ℕ) (out : WriteOut) → MirrorWriteCause old new lba n out → KnowsRecords new
    write_knows lba n out cause = by_on _ _ (λ _ on. leaves_knows on (write_leaves lba n shape old new sides out cause)) old.on refl cause

    pub resync_knows : (out : Resync) → ResyncCause old new out → KnowsRecords new
    resync_knows out cause = by_on _ _ (λ _ on. keeps_knows on (resync_leaves shape old new sides out cause)) old.on refl cause

-- What is there once both sides woke, for the one that is to lead and for the other one.
pub record HasWoken (mid : MirrorShown) (read other : RecordOut) : Type 0 where
  pub off : mid.on ≡ false
  pub knows : KnowsLead mid
  pub exact : read ≡ records.Good → HoldsOfCopies (λ number. number ≡ mid.who.lead.most) mid.lead
  pub lead_seen : read ≡ records.Good → mid.who.lead.seen ≡ true
  pub other_seen : other ≡ records.Good → mid.who.other.seen ≡ true

-- nobody leads
nobody_knows : (mid new : MirrorShown) (out : MirrorPowerOut) → KnowsLead mid → NobodyLeads mid new out → KnowsRecords new
nobody_knows mid new out knows nobody = subst KnowsRecords (sym nobody.new_is) (with_leads (forgotten mid)
    (record { lead_known = knows.lead_known; other_known = knows.other_known; not_by_hand = refl; noted = knows.noted })
    (λ on. absurd (let w = on in cc)))

off_knows : (mid : MirrorShown) → mid.on ≡ false → KnowsLead mid → KnowsRecords mid
off_knows mid off knows = with_leads mid knows (λ on. absurd (let e : false ≡ true = sym off ∙ on in cc))

-- the record of the lead was made the greater
module _ (mid late : MirrorShown) (above : ℕ) (raised : RecordOut) (raises : LeadRaises mid late above raised) where
  pub raises_other : late.other ≡ mid.other
  raises_other = ap (λ (s : MirrorShown). s.other) raises.new_is

  pub raises_who : late.who.other ≡ mid.who.other
  raises_who = ap (λ (s : MirrorShown). s.who.other) raises.new_is

  raises_off : mid.on ≡ false → late.on ≡ false
  raises_off off = ap (λ (s : MirrorShown). s.on) raises.new_is ∙ off

  raises_knows : KnowsLead mid → KnowsLead late
  raises_knows knows = record {
    lead_known = raised_known mid.lead late.lead mid.who.lead late.who.lead above knows.lead_known raised raises.raises;
    other_known = subst IsKnown (sym raises_other) knows.other_known;
    not_by_hand = ap (λ (s : MirrorShown). s.who.by_hand) raises.new_is ∙ knows.not_by_hand;
    noted = λ seen. subst (λ (n : Noted). HoldsOfCopies (λ number. number ≤ n.most) late.other) (sym raises_who)
        (subst (HoldsOfCopies (λ number. number ≤ mid.who.other.most)) (sym raises_other) (knows.noted (sym (ap (λ (n : Noted). n.seen) raises_who) ∙ seen)));
  }

-- A record of the other side with the number 0 gets 1.
first_knows : (mid late : MirrorShown) (asked : Bool) (raised : RecordOut) → RaisesFirst mid late asked raised → mid.who.other.seen ≡ true → KnowsLead mid
    → KnowsLead late × (late.who.other.seen ≡ true) × (late.lead ≡ mid.lead) × (late.who.lead ≡ mid.who.lead) × (late.who.known ≡ mid.who.known)
first_knows mid late true raised r seen knows = (
  record {
    lead_known = subst IsKnown (sym (ap (λ (s : MirrorShown). s.lead) r.new_is)) knows.lead_known;
    other_known = raised_known mid.other late.other mid.who.other late.who.other 0 knows.other_known raised r.raises;
    not_by_hand = ap (λ (s : MirrorShown). s.who.by_hand) r.new_is ∙ knows.not_by_hand;
    noted = λ _. raised_noted mid.other late.other mid.who.other late.who.other 0 knows.other_known raised r.raises (knows.noted seen);
  },
  raised_seen mid.other late.other mid.who.other late.who.other 0 raised r.raises seen,
  ap (λ (s : MirrorShown). s.lead) r.new_is,
  ap (λ (s : MirrorShown). s.who.lead) r.new_is,
  ap (λ (s : MirrorShown). s.who.known) r.new_is,
)
first_knows mid late false raised r seen knows = (
  subst KnowsLead (sym r.0) knows,
  ap (λ (s : MirrorShown). s.who.other.seen) r.0 ∙ seen,
  ap (λ (s : MirrorShown). s.lead) r.0,
  ap (λ (s : MirrorShown). s.who.lead) r.0,
  ap (λ (s : MirrorShown). s.who.known) r.0,
)

-- Where it can be told who leads without a hand, the other side's record was seen.
pub told_seen : (who : Leading) (out : RecordOut) → who.by_hand ≡ false → can_tell who out ≡ true → (out ≡ records.Good → who.other.seen ≡ true) → who.other.seen ≡ true
told_seen who records.Good hand can seen = seen refl
told_seen who records.Lost hand can seen = absurd (let e : false ≡ true = sym hand ∙ can in cc)
told_seen who records.Cut hand can seen = both who.known who.other.seen can
  where
    both : (a b : Bool) → (a && b) ≡ true → b ≡ true
    both true b e = e
    both false b e = absurd (let w = e in cc)
told_seen who records.Off hand can seen = both who.known who.other.seen can
  where
    both : (a b : Bool) → (a && b) ≡ true → b ≡ true
    both true b e = e
    both false b e = absurd (let w = e in cc)
told_seen who records.Fault hand can seen = both who.known who.other.seen can
  where
    both : (a b : Bool) → (a && b) ≡ true → b ≡ true
    both true b e = e
    both false b e = absurd (let w = e in cc)

module _ (new : MirrorShown) (lead other : Waking) (out : MirrorPowerOut) where
  -- the power is on: the lead is as its record was made
  finishes_knows : (late : MirrorShown) (there : PowerOut) (on : Bool) (power : PowerOut) → Finishes late new there on power out → KnowsLead late → late.on ≡ false
      → (((known : ℕ) → (out ≡ outs.Ready known) ⊎ (out ≡ outs.NotFormatted) → new.who.other.most < new.who.lead.most) → HoldsOfCopies (λ number. number ≡ late.who.lead.most) late.lead
      → late.who.lead.seen ≡ true → late.who.other.seen ≡ true → KnowsRecords new)
  finishes_knows late there on (power_outs.Ready known) ends knows off greater exact seen seen' = with_leads new
      (record {
        lead_known = ap (λ (s : MirrorShown). s.lead.medium.world.known) ends.new_is ∙ knows.lead_known;
        other_known = ap (λ (s : MirrorShown). s.other.medium.world.known) ends.new_is ∙ knows.other_known;
        not_by_hand = ap (λ (s : MirrorShown). s.who.by_hand) ends.new_is ∙ knows.not_by_hand;
        noted = λ _. subst (λ (s : MirrorShown). HoldsOfCopies (λ number. number ≤ s.who.other.most) s.other) (sym ends.new_is) (knows.noted seen');
      })
      (λ _. record {
        known = ap (λ (s : MirrorShown). s.who.known) ends.new_is;
        exact = subst (λ (s : MirrorShown). HoldsOfCopies (λ number. number ≡ s.who.lead.most) s.lead) (sym ends.new_is) exact;
        lead_seen = ap (λ (s : MirrorShown). s.who.lead.seen) ends.new_is ∙ seen;
        other_seen = ap (λ (s : MirrorShown). s.who.other.seen) ends.new_is ∙ seen';
        greater = greater known (inl ends.out_is);
      })
  finishes_knows late there on power_outs.NotFormatted ends knows off greater exact seen seen' = with_leads new
      (record {
        lead_known = ap (λ (s : MirrorShown). s.lead.medium.world.known) ends.new_is ∙ knows.lead_known;
        other_known = ap (λ (s : MirrorShown). s.other.medium.world.known) ends.new_is ∙ knows.other_known;
        not_by_hand = ap (λ (s : MirrorShown). s.who.by_hand) ends.new_is ∙ knows.not_by_hand;
        noted = λ _. subst (λ (s : MirrorShown). HoldsOfCopies (λ number. number ≤ s.who.other.most) s.other) (sym ends.new_is) (knows.noted seen');
      })
      (λ _. record {
        known = ap (λ (s : MirrorShown). s.who.known) ends.new_is;
        exact = subst (λ (s : MirrorShown). HoldsOfCopies (λ number. number ≡ s.who.lead.most) s.lead) (sym ends.new_is) exact;
        lead_seen = ap (λ (s : MirrorShown). s.who.lead.seen) ends.new_is ∙ seen;
        other_seen = ap (λ (s : MirrorShown). s.who.other.seen) ends.new_is ∙ seen';
        greater = greater 0 (inr ends.out_is);
      })
  finishes_knows late there on power_outs.Cut ends knows off greater exact seen seen' = nobody_knows late new out knows ends
  finishes_knows late there on power_outs.Fault ends knows off greater exact seen seen' = nobody_knows late new out knows ends

  module _ (mid : MirrorShown) (woken : HasWoken mid lead.record other.record) (can : can_tell mid.who other.record ≡ true) (read : lead.record ≡ records.Good) where
    leads_knows : Leads mid new lead other out → KnowsRecords new
    leads_knows leads = go leads.raised leads.raises leads.ends (λ known is. leads_ahead mid new lead other out known leads is)
      where
        seen : mid.who.other.seen ≡ true
        seen = told_seen mid.who other.record woken.knows.not_by_hand can woken.other_seen

        follows : LeadRaises mid leads.late (floor_of mid.who.other) records.Good → OtherFollows leads.late new lead other out
            → ((known : ℕ) → (out ≡ outs.Ready known) ⊎ (out ≡ outs.NotFormatted) → new.who.other.most < new.who.lead.most) → KnowsRecords new
        follows raises f greater = ends (still_tells f.late.who f.raised) f.ends
          where
            first : KnowsLead f.late × (f.late.who.other.seen ≡ true) × (f.late.lead ≡ leads.late.lead) × (f.late.who.lead ≡ leads.late.who.lead) × (f.late.who.known ≡ leads.late.who.known)
            first = first_knows leads.late f.late (was_read other.record) f.raised f.raises (ap (λ (n : Noted). n.seen) (raises_who mid leads.late _ records.Good raises) ∙ seen) (raises_knows mid leads.late _ records.Good raises woken.knows)

            exact : HoldsOfCopies (λ number. number ≡ f.late.who.lead.most) f.late.lead
            exact = subst (λ (n : Noted). HoldsOfCopies (λ number. number ≡ n.most) f.late.lead) (sym first.3) (subst (HoldsOfCopies (λ number. number ≡ leads.late.who.lead.most)) (sym first.2)
                (raised_exact mid.lead leads.late.lead mid.who.lead leads.late.who.lead (floor_of mid.who.other) woken.knows.lead_known raises.raises (woken.exact read)).0)

            lead_seen : f.late.who.lead.seen ≡ true
            lead_seen = ap (λ (n : Noted). n.seen) first.3 ∙ raised_seen mid.lead leads.late.lead mid.who.lead leads.late.who.lead (floor_of mid.who.other) records.Good raises.raises (woken.lead_seen read)

            off : f.late.on ≡ false
            off = first_off (was_read other.record) f.raises ∙ raises_off mid leads.late _ records.Good raises woken.off
              where
                first_off : (asked : Bool) → RaisesFirst leads.late f.late asked f.raised → f.late.on ≡ leads.late.on
                first_off true r = ap (λ (s : MirrorShown). s.on) r.new_is
                first_off false r = ap (λ (s : MirrorShown). s.on) r.0

            ends : (b : Bool) → MatchBool b (Finishes f.late new other.power (stays_on other.record && stays_on f.raised) lead.power out) (NobodyLeads f.late new out) → KnowsRecords new
            ends true e = finishes_knows f.late other.power _ lead.power e first.0 off greater exact lead_seen first.1
            ends false nobody = nobody_knows f.late new out first.0 nobody

        go : (raised : RecordOut) → LeadRaises mid leads.late (floor_of mid.who.other) raised → LeadGoesOn leads.late new lead other out raised
            → ((known : ℕ) → (out ≡ outs.Ready known) ⊎ (out ≡ outs.NotFormatted) → new.who.other.most < new.who.lead.most) → KnowsRecords new
        go records.Good raises ends greater = follows raises ends greater
        go records.Lost raises ends greater = nobody_knows leads.late new out (raises_knows mid leads.late _ records.Lost raises woken.knows) ends
        go records.Cut raises ends greater = same_knows leads.late new ends.1 (off_knows leads.late (raises_off mid leads.late _ records.Cut raises woken.off) (raises_knows mid leads.late _ records.Cut raises woken.knows))
        go records.Off raises ends greater = nobody_knows leads.late new out (raises_knows mid leads.late _ records.Off raises woken.knows) ends
        go records.Fault raises ends greater = same_knows leads.late new ends.1 (off_knows leads.late (raises_off mid leads.late _ records.Fault raises woken.off) (raises_knows mid leads.late _ records.Fault raises woken.knows))

  stops_knows : (mid : MirrorShown) (stop : MirrorPowerOut) → mid.on ≡ false → KnowsLead mid → LeadStops mid new stop out → KnowsRecords new
  stops_knows mid stop off knows stops = go mid.who.known stops
    where
      go : (b : Bool) → MatchBool b ((out ≡ stop) × (new ≡ mid)) (NobodyLeads mid new out) → KnowsRecords new
      go true p = same_knows mid new p.1 (off_knows mid off knows)
      go false nobody = nobody_knows mid new out knows nobody

  starts_knows : (mid : MirrorShown) (record_out : RecordOut) → lead.record ≡ record_out → HasWoken mid lead.record other.record → Starts mid new lead other out record_out → KnowsRecords new
  starts_knows mid records.Good read woken starts = go (can_tell mid.who other.record) refl starts
    where
      go : (b : Bool) → can_tell mid.who other.record ≡ b → MatchBool b (Leads mid new lead other out) (NobodyLeads mid new out) → KnowsRecords new
      go true can leads = leads_knows mid woken can read leads
      go false can nobody = nobody_knows mid new out woken.knows nobody
  starts_knows mid records.Lost read woken starts = nobody_knows mid new out woken.knows starts
  starts_knows mid records.Cut read woken starts = stops_knows mid outs.Cut woken.off woken.knows starts
  starts_knows mid records.Off read woken starts = stops_knows mid (stop_of lead.power) woken.off woken.knows starts
  starts_knows mid records.Fault read woken starts = stops_knows mid outs.Fault woken.off woken.knows starts

-- Both records were read where the other side is to lead, and who leads was not known; and its number is no less.
pub read_good : (out : RecordOut) → was_read out ≡ true → out ≡ records.Good
read_good records.Good e = refl
read_good records.Lost e = absurd (let w = e in cc)
read_good records.Cut e = absurd (let w = e in cc)
read_good records.Off e = absurd (let w = e in cc)
read_good records.Fault e = absurd (let w = e in cc)

pub and_left : (a b : Bool) → (a && b) ≡ true → a ≡ true
and_left true b e = refl
and_left false b e = absurd (let w = e in cc)

pub and_right : (a b : Bool) → (a && b) ≡ true → b ≡ true
and_right true b e = e
and_right false b e = absurd (let w = e in cc)

pub both_read : (known : Bool) (lead other : RecordOut) (before : Bool) → (((not known && was_read lead) && was_read other) && before) ≡ true → (lead ≡ records.Good) × (other ≡ records.Good)
both_read known lead other before e =
    let first = and_left ((not known && was_read lead) && was_read other) before e in
    (read_good lead (and_right (not known) (was_read lead) (and_left (not known && was_read lead) (was_read other) first)), read_good other (and_right (not known && was_read lead) (was_read other) first))

-- Both sides woke.
module _ (old new : MirrorShown) (out : MirrorPowerOut) (cause : MirrorPowerCause old new out) (knows : KnowsLead old) where
  pub mid_knows : KnowsLead cause.mid
  mid_knows = record {
    lead_known = woke_known old.lead cause.mid.lead old.who.lead cause.mid.who.lead cause.lead cause.wakes.led knows.lead_known;
    other_known = woke_known old.other cause.mid.other old.who.other cause.mid.who.other cause.other cause.wakes.followed knows.other_known;
    not_by_hand = ap (λ (s : MirrorShown). s.who.by_hand) cause.wakes.new_is ∙ knows.not_by_hand;
    noted = woke_noted old.other cause.mid.other old.who.other cause.mid.who.other cause.other cause.wakes.followed knows.other_known knows.noted;
  }

  mid_off : cause.mid.on ≡ false
  mid_off = ap (λ (s : MirrorShown). s.on) cause.wakes.new_is

  pub lead_exact : cause.lead.record ≡ records.Good → HoldsOfCopies (λ number. number ≡ cause.mid.who.lead.most) cause.mid.lead
  lead_exact = woke_exact old.lead cause.mid.lead old.who.lead cause.mid.who.lead cause.lead cause.wakes.led knows.lead_known

  lead_seen : cause.lead.record ≡ records.Good → cause.mid.who.lead.seen ≡ true
  lead_seen = woke_seen old.lead cause.mid.lead old.who.lead cause.mid.who.lead cause.lead cause.wakes.led knows.lead_known

  pub other_exact : cause.other.record ≡ records.Good → HoldsOfCopies (λ number. number ≡ cause.mid.who.other.most) cause.mid.other
  other_exact = woke_exact old.other cause.mid.other old.who.other cause.mid.who.other cause.other cause.wakes.followed knows.other_known

  pub other_seen : cause.other.record ≡ records.Good → cause.mid.who.other.seen ≡ true
  other_seen = woke_seen old.other cause.mid.other old.who.other cause.mid.who.other cause.other cause.wakes.followed knows.other_known

  pub has_woken : HasWoken cause.mid cause.lead.record cause.other.record
  has_woken = record { off = mid_off; knows = mid_knows; exact = lead_exact; lead_seen = lead_seen; other_seen = other_seen }

  pub has_woken_exchanged : cause.lead.record ≡ records.Good → HasWoken (exchanged cause.mid) cause.other.record cause.lead.record
  has_woken_exchanged read = record {
    off = mid_off;
    knows = record {
      lead_known = mid_knows.other_known;
      other_known = mid_knows.lead_known;
      not_by_hand = mid_knows.not_by_hand;
      noted = λ _ value area copy. let is = lead_exact read value area copy in omega (arith, is);
    };
    exact = other_exact;
    lead_seen = other_seen;
    other_seen = lead_seen;
  }

  pub power_knows : KnowsRecords new
  power_knows = go (is_to_lead cause.mid cause.lead.record cause.other.record) refl cause.starts
    where
      go : (b : Bool) → is_to_lead cause.mid cause.lead.record cause.other.record ≡ b
          → MatchBool b (Starts (exchanged cause.mid) new cause.other cause.lead out cause.other.record) (Starts cause.mid new cause.lead cause.other out cause.lead.record) → KnowsRecords new
      go true e starts =
          let read = both_read cause.mid.who.known cause.lead.record cause.other.record _ e in
          starts_knows new cause.other cause.lead out (exchanged cause.mid) cause.other.record refl (has_woken_exchanged read.0) starts
      go false e starts = starts_knows new cause.lead cause.other out cause.mid cause.lead.record refl has_woken starts

-- A run begins with both sides off, and with no record that was seen.
pub begins_knows : (shown : MirrorShown) → IsKnown shown.lead → IsKnown shown.other → shown.on ≡ false → shown.who.by_hand ≡ false → shown.who.other.seen ≡ false → KnowsRecords shown
begins_knows shown lead other off hand unseen = record {
  lead_known = lead;
  other_known = other;
  not_by_hand = hand;
  noted = λ seen. absurd (let e : false ≡ true = sym unseen ∙ seen in cc);
  leads = λ on. absurd (let e : false ≡ true = sym off ∙ on in cc);
}
