-- The number of the lead is greater than any that the other side may have.
use Rattle.std.proofs.Common.{◌≡◌, ◌⊎◌, ℕ, ◌+◌, ◌<◌, ◌≤◌, inl, inr, Bool, true, false, refl, sym, ap, ◌∙◌, arith}
use Rattle.std.proofs.lemmas.Bool.{ltb-true}
use Rattle.std.specs.Prelude.{MatchBool, max, nat_lt, ◌&&◌}
use Rattle.model_drive.specs.declared.RecordOut.{RecordOut}
use Rattle.model_drive.specs.declared.RecordOut.TheVariants as records
use Rattle.model_drive.specs.Shown.{Shown}
use Rattle.model_sectors.specs.declared.PowerOut.{PowerOut}
use Rattle.model_sectors.specs.declared.PowerOut.TheVariants as powers
use Rattle.model_mirror.specs.declared.Waking.{Waking}
use Rattle.model_mirror.specs.declared.MirrorPowerOut.{MirrorPowerOut}
use Rattle.model_mirror.specs.declared.MirrorPowerOut.TheVariants as outs
use Rattle.model_mirror.specs.Leading.{Noted, floor_of, Raises, WritesNumber, WritesNoNumber, last_number}
use Rattle.model_mirror.specs.Shown.{MirrorShown, turned}
use Rattle.model_mirror.specs.Taking.{LeadIsTaken}
use Rattle.model_mirror.specs.Giving.{IsGiven}
use Rattle.model_mirror.specs.Powers.{NobodyLeads, Finishes, RaisesFirst, OtherFollows, LeadGoesOn, Leads, was_read, stays_on, still_tells}

-- a record that was made one above a number is above it
raised_above : (old new : Shown) (was now : Noted) (above : ℕ) → Raises old new was now above records.Good → above < now.most
raised_above old new was now above raises = go (nat_lt above was.most) refl raises
  where
    inner : (b : Bool) → MatchBool b (WritesNumber old new was now (above + 1) records.Good) (WritesNoNumber old new was now × (records.Good ≡ records.Lost)) → above < now.most
    inner true wrote = let e = ap (λ (n : Noted). n.most) wrote.now_is in omega (arith, e)
    inner false p = absurd (let w = p.1 in cc)

    go : (b : Bool) → nat_lt above was.most ≡ b → MatchBool b (WritesNoNumber old new was now × (records.Good ≡ records.Good)) (MatchBool (nat_lt above last_number) (WritesNumber old new was now (above + 1) records.Good) (WritesNoNumber old new was now × (records.Good ≡ records.Lost))) → above < now.most
    go true e p = let less = ltb-true above was.most e in let same = ap (λ (n : Noted). n.most) p.0.now_is in omega (arith, less, same)
    go false e p = inner (nat_lt above last_number) p

-- one that was made one above 0 has at most 1, or what it had
wrote_first : (old new : Shown) (was now : Noted) (out : RecordOut) → WritesNumber old new was now (0 + 1) out → now.most ≤ max 1 was.most
wrote_first old new was now records.Good wrote = let e = ap (λ (n : Noted). n.most) wrote.now_is in omega (arith, e)
wrote_first old new was now records.Lost wrote = let e = ap (λ (n : Noted). n.most) wrote.now_is in omega (arith, e)
wrote_first old new was now records.Cut wrote = let e = ap (λ (n : Noted). n.most) wrote.now_is in omega (arith, e)
wrote_first old new was now records.Off wrote = let e = ap (λ (n : Noted). n.most) wrote.now_is in omega (arith, e)
wrote_first old new was now records.Fault wrote = let e = ap (λ (n : Noted). n.most) wrote.now_is in omega (arith, e)

first_few : (old new : Shown) (was now : Noted) (out : RecordOut) → Raises old new was now 0 out → now.most ≤ max 1 was.most
first_few old new was now out raises = go (nat_lt 0 was.most) raises
  where
    go : (b : Bool) → MatchBool b (WritesNoNumber old new was now × (out ≡ records.Good)) (WritesNumber old new was now (0 + 1) out) → now.most ≤ max 1 was.most
    go true p = let same = ap (λ (n : Noted). n.most) p.0.now_is in omega (arith, same)
    go false wrote = wrote_first old new was now out wrote

other_few : (mid late : MirrorShown) (asked : Bool) (raised : RecordOut) → RaisesFirst mid late asked raised → (late.who.other.most ≤ max 1 mid.who.other.most) × (late.who.lead.most ≡ mid.who.lead.most)
other_few mid late true raised r = (first_few mid.other late.other mid.who.other late.who.other raised r.raises, ap (λ (x : MirrorShown). x.who.lead.most) r.new_is)
other_few mid late false raised r = let e = ap (λ (x : MirrorShown). x.who.other.most) r.0 in (omega (arith, e), ap (λ (x : MirrorShown). x.who.lead.most) r.0)

-- an answer of a mirror that is on
abbrev IsOnAnswer : MirrorPowerOut → Type 0
IsOnAnswer out = (known : ℕ) × ((out ≡ outs.Ready known) ⊎ (out ≡ outs.NotFormatted))

not_unknown : (out : MirrorPowerOut) → IsOnAnswer out → out ≡ outs.Unknown → ⊥
not_unknown out (known, inl e) is = let w = sym is ∙ e in cc
not_unknown out (known, inr e) is = let w = sym is ∙ e in cc

not_cut : (out : MirrorPowerOut) → IsOnAnswer out → out ≡ outs.Cut → ⊥
not_cut out (known, inl e) is = let w = sym is ∙ e in cc
not_cut out (known, inr e) is = let w = sym is ∙ e in cc

not_fault : (out : MirrorPowerOut) → IsOnAnswer out → out ≡ outs.Fault → ⊥
not_fault out (known, inl e) is = let w = sym is ∙ e in cc
not_fault out (known, inr e) is = let w = sym is ∙ e in cc

-- what is noted stays at the end
finishes_same : (late new : MirrorShown) (other : PowerOut) (on : Bool) (power : PowerOut) (out : MirrorPowerOut) → IsOnAnswer out → Finishes late new other on power out
    → (new.who.lead.most ≡ late.who.lead.most) × (new.who.other.most ≡ late.who.other.most)
finishes_same late new other on (powers.Ready known) out is ends = (ap (λ (x : MirrorShown). x.who.lead.most) ends.new_is, ap (λ (x : MirrorShown). x.who.other.most) ends.new_is)
finishes_same late new other on powers.NotFormatted out is ends = (ap (λ (x : MirrorShown). x.who.lead.most) ends.new_is, ap (λ (x : MirrorShown). x.who.other.most) ends.new_is)
finishes_same late new other on powers.Cut out is ends = absurd (not_unknown out is ends.out_is)
finishes_same late new other on powers.Fault out is ends = absurd (not_unknown out is ends.out_is)

follows_ahead : (mid new : MirrorShown) (lead other : Waking) (out : MirrorPowerOut) → IsOnAnswer out → OtherFollows mid new lead other out → max 1 mid.who.other.most < mid.who.lead.most → new.who.other.most < new.who.lead.most
follows_ahead mid new lead other out is follows ahead = go (still_tells follows.late.who follows.raised) follows.ends
  where
    go : (b : Bool) → MatchBool b (Finishes follows.late new other.power (stays_on other.record && stays_on follows.raised) lead.power out) (NobodyLeads follows.late new out) → new.who.other.most < new.who.lead.most
    go true ends =
        let few = other_few mid follows.late (was_read other.record) follows.raised follows.raises in
        let same = finishes_same follows.late new other.power (stays_on other.record && stays_on follows.raised) lead.power out is ends in
        let a = few.0 in
        let b = few.1 in
        let c = same.0 in
        let d = same.1 in
        omega (arith, a, b, c, d, ahead)
    go false nobody = absurd (not_unknown out is nobody.out_is)

pub leads_ahead : (mid new : MirrorShown) (lead other : Waking) (out : MirrorPowerOut) → (known : ℕ) → Leads mid new lead other out → (out ≡ outs.Ready known) ⊎ (out ≡ outs.NotFormatted) → new.who.other.most < new.who.lead.most
leads_ahead mid new lead other out known leads is = go leads.raised leads.raises.raises leads.ends
  where
    go : (raised : RecordOut) → Raises mid.lead leads.late.lead mid.who.lead leads.late.who.lead (max 1 mid.who.other.most) raised → LeadGoesOn leads.late new lead other out raised → new.who.other.most < new.who.lead.most
    go records.Good raises ends =
        let above = raised_above mid.lead leads.late.lead mid.who.lead leads.late.who.lead (max 1 mid.who.other.most) raises in
        let same = ap (λ (x : MirrorShown). x.who.other.most) leads.raises.new_is in
        follows_ahead leads.late new lead other out (known, is) ends (omega (arith, above, same))
    go records.Lost raises ends = absurd (not_unknown out (known, is) ends.out_is)
    go records.Cut raises ends = absurd (not_cut out (known, is) ends.0)
    go records.Off raises ends = absurd (not_unknown out (known, is) ends.out_is)
    go records.Fault raises ends = absurd (not_fault out (known, is) ends.0)

pub taken_ahead : (mid new : MirrorShown) → LeadIsTaken mid new → new.who.other.most < new.who.lead.most
taken_ahead mid new taken =
    let above = raised_above mid.other taken.late.other mid.who.other taken.late.who.other mid.who.lead.most taken.wrote.raises in
    let same = ap (λ (x : MirrorShown). x.who.lead.most) taken.wrote.new_is in
    let a = ap (λ (x : MirrorShown). x.who.other.most) taken.new_is in
    let b = ap (λ (x : MirrorShown). x.who.lead.most) taken.new_is in
    omega (arith, above, same, a, b)

pub given_ahead : (turns : Bool) (old new : MirrorShown) → IsGiven turns old new → new.who.other.most < new.who.lead.most
given_ahead turns old new given =
    let named = turned turns old in
    let above = raised_above named.lead given.mid.lead named.who.lead given.mid.who.lead (floor_of named.who.other) given.raises.raises in
    let same = ap (λ (x : MirrorShown). x.who.other.most) given.raises.new_is in
    let a = ap (λ (x : MirrorShown). x.who.other.most) given.new_is in
    let b = ap (λ (x : MirrorShown). x.who.lead.most) given.new_is in
    omega (arith, above, same, a, b)
