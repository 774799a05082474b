-- The power on of a mirror, who leads it, and the register of a sector.
use Rattle.std.specs.Prelude.{◌≡◌, ℕ, ◌+◌, ◌*◌, ◌<◌, ◌≤◌, ◌⊎◌, Bool, true, false, not, if◌then◌else◌, nat_lt, MatchBool, Option, None, List, [], ◌∷◌, length}
use Rattle.std.specs.List.{Contains}
use Rattle.std.proofs.Common.{arith, refl, sym, ap, ◌∙◌, inl, inr, subst}
use Rattle.std.proofs.lemmas.Bool.{cases_lt, lt-ltb, le-ltb}
use Rattle.model_geometry.specs.Geometry.{Shape}
use Rattle.model_medium.specs.Cells.{Cell}
use Rattle.model_places.specs.Places.{Lists}
use Rattle.model_sectors.specs.Discs.{Standing, On, Off, sectors_of, candidates}
use Rattle.model_sectors.specs.declared.PowerOut.{PowerOut}
use Rattle.model_sectors.specs.declared.PowerOut.TheVariants as powers
use Rattle.model_drive.specs.Shown.{Shown, StandsFor, IsFirstUnder, cells_in, capacity}
use Rattle.model_drive.specs.Power.{PowerStep}
use Rattle.model_drive.specs.declared.RecordOut.{RecordOut}
use Rattle.model_drive.specs.declared.RecordOut.TheVariants as records
use Rattle.model_cache.proofs.Members.{Contains-none, Contains-first, Contains-later, Contains-cases}
use Rattle.model_mirror.specs.declared.MirrorPowerOut.{MirrorPowerOut}
use Rattle.model_mirror.specs.declared.MirrorPowerOut.TheVariants as outs
use Rattle.model_mirror.specs.declared.GiveOut.{GiveOut}
use Rattle.model_mirror.specs.declared.GiveOut.TheVariants as gives
use Rattle.model_mirror.specs.Shown.{MirrorShown, turned}
use Rattle.model_mirror.proofs.WriteSteps.{long_as_counted}
use Rattle.model_mirror.specs.Standing.{StandsSomehow, MayBe}
use Rattle.model_mirror.specs.Giving.{is_to_turn, IsNotGiven, Gives, GiveStepOf, leader_as}
use Rattle.model_mirror.specs.Powers.{FindsMounted, StandsMounted, MirrorPowerStep, LeadPowerStep, once_off, on_or_off, of_lead}
use Rattle.model_mirror.specs.Sides.{side_a, side_b}
use Rattle.ram_report.specs.declared.printing.MirrorEvent.{MirrorEvent}
use Rattle.ram_machine.specs.Register.{Value, Bytes, Lost}
use Rattle.ram_machine.proofs.SectorValues.{falls_under, has_bytes}
use Rattle.ram_machine.proofs.SectorBoth.{one_lost, other_lost}
use Rattle.ram_pair.specs.Told.{power_told, lead_told, give_told}
use Rattle.ram_pair.specs.PairLines.{PowerCall, LeadCall, GiveCall}
use Rattle.ram_mirrored.specs.MirrorRegister.{MirrorRegister, settled_at, has_none, emptied, led_on, LeadsAnew, OnPower, OnLead, OnGiven}
use Rattle.ram_mirrored.proofs.MirrorLeads.{SameKnown, Tells, PowerTells, power_tells}
use Rattle.ram_mirrored.proofs.MirrorSectors.{FallTo, Fits, Held, HeldBoth, SideFalls, SidesFall, NobodyHolds, MatchesMirror, Turned, match_led, match_none, by_one, by_other, values_of, falls_to_own, both_values, in_first, in_second, found_some, found_none, fall_short}
use Rattle.ram_mirrored.proofs.MirrorCalls.{by_known, left_off}

-- ---- the sides of a mirror
-- what its lead stands for, with the same candidates, and something for which the other side stands
pub record HasSides (shown : MirrorShown) (s : Standing) : Type 0 where
  pub lead : Standing
  pub leads : StandsFor shown.lead lead
  pub same : candidates lead ≡ candidates s
  pub other : Standing
  pub follows : StandsFor shown.other other

pub sides_of : (shown : MirrorShown) (s : Standing) → MayBe shown s → HasSides shown s
sides_of shown (On disc) may = record { lead = On disc; leads = may.1; same = refl; other = may.2.some.standing; follows = may.2.some.stands }
sides_of shown (Off discs) may = elim may.0 [
  | inl off ↦ record { lead = Off discs; leads = off; same = refl; other = may.1.standing; follows = may.1.stands }
  | inr idle ↦ record { lead = On idle.disc; leads = idle.stands; same = sym idle.one; other = may.1.standing; follows = may.1.stands }
]

-- by the names of the sides, or by their roles
module _ (P : Shown → Standing → Type 0) where
  named : (l : Bool) (x y : Shown) (u v : Standing) → P x u → P y v → P (if l then x else y) (of_lead l u v) × P (if l then y else x) (of_lead l v u)
  named true x y u v p q = (p, q)
  named false x y u v p q = (q, p)

  in_roles : (l : Bool) (x y : Shown) (s t : Standing) → P (if l then x else y) s → P (if l then y else x) t → P x (of_lead l s t) × P y (of_lead l t s)
  in_roles true x y s t p q = (p, q)
  in_roles false x y s t p q = (q, p)

lead_again : (l : Bool) (u v : Standing) → of_lead l (of_lead l u v) (of_lead l v u) ≡ u
lead_again true u v = refl
lead_again false u v = refl

-- it stands for this, or for its candidates with its power off
abbrev OrOff : Shown → Standing → Type 0
OrOff side s = StandsFor side s ⊎ StandsFor side (Off (candidates s))

-- a mirror that is off stands for the candidates of its lead
off_by : (shown : MirrorShown) (s : Standing) → shown.on ≡ false → OrOff shown.lead s → StandsSomehow (StandsFor shown.other) → MayBe shown (Off (candidates s))
off_by shown (On disc) off (inl leads) some = (inr (record { off = off; disc = disc; one = refl; stands = leads }), some)
off_by shown (On disc) off (inr leads) some = (inl leads, some)
off_by shown (Off discs) off (inl leads) some = (inl leads, some)
off_by shown (Off discs) off (inr leads) some = (inl leads, some)

somehow : (side : Shown) (s : Standing) → OrOff side s → StandsSomehow (StandsFor side)
somehow side s (inl stands) = record { standing = s; stands = stands }
somehow side s (inr stands) = record { standing = Off (candidates s); stands = stands }

-- ---- what is found
first_in : (shape : Shape) (cells : List Cell) (lists : Lists) (discs : List (List ℕ)) (found : List ℕ) → IsFirstUnder shape cells lists discs found → Contains discs found
first_in shape cells lists [] found is = absurd is
first_in shape cells lists (disc ∷ discs) found (inl here) = subst (Contains (disc ∷ discs)) (sym here.1) (Contains-first disc discs)
first_in shape cells lists (disc ∷ discs) found (inr later) = Contains-later disc discs found (first_in shape cells lists discs found later.1)

module _ (lost : List ℕ) (at : ℕ) where
  one_of : (choices : List (List ℕ)) (discs : List (List ℕ)) (disc : List ℕ) → Contains discs disc → FallTo at choices discs → FallTo at choices (disc ∷ [])
  one_of choices discs disc there fall found has inside = elim (Contains-cases disc [] found has) [
    | inl is ↦ fall found (subst (Contains discs) is there) inside
    | inr none ↦ absurd (Contains-none found none)
  ]

  short_disc : 0 < 2048 * (at + 1)
  short_disc = omega arith

  -- a side that was mounted falls back to nothing else
  side_mounted : (side : Shown) (falls : List Value) (s : Standing) → FallTo at (falls_under lost falls) (candidates s) → StandsMounted (on_or_off (StandsFor side)) s → SideFalls lost at side falls
  side_mounted side falls s fall mounted = go mounted.told mounted.step
    where
      on_disc : (disc : List ℕ) → FallTo at (falls_under lost falls) (disc ∷ []) → on_or_off (StandsFor side) (On disc) → SideFalls lost at side falls
      on_disc disc one (inl stands) = record { standing = On disc; stands = stands; fall = one }
      on_disc disc one (inr stands) = record { standing = Off (disc ∷ []); stands = stands; fall = one }

      off_all : on_or_off (StandsFor side) (Off (candidates s)) → SideFalls lost at side falls
      off_all (inl stands) = record { standing = Off (candidates s); stands = stands; fall = fall }
      off_all (inr stands) = record { standing = Off (candidates s); stands = stands; fall = fall }

      go : (told : PowerOut) → PowerStep mounted.mounted (on_or_off (StandsFor side)) s told → SideFalls lost at side falls
      go (powers.Ready known) step =
          on_disc step.disc (one_of (falls_under lost falls) (candidates s) step.disc (first_in mounted.mounted.shape (cells_in mounted.mounted) step.lists (candidates s) step.disc step.first) fall) step.found
      go powers.NotFormatted step = on_disc [] (fall_short lost at (falls_under lost falls) [] short_disc) step
      go powers.Cut step = off_all step
      go powers.Fault step = off_all step

  -- so does a mirror that was stopped
  mirror_mounted : (new : MirrorShown) (r : MirrorRegister) (s : Standing) → FallTo at (falls_under lost r.falls) (candidates s) → StandsMounted (once_off (MayBe new)) s → Held lost at new (has_none r)
  mirror_mounted new r s fall mounted = go mounted.told mounted.step
    where
      go : (told : PowerOut) → PowerStep mounted.mounted (once_off (MayBe new)) s told → Held lost at new (has_none r)
      go (powers.Ready known) step = record {
        standing = Off (step.disc ∷ []);
        stands = step.found;
        fits = record { now = refl; falls = one_of (falls_under lost r.falls) (candidates s) step.disc (first_in mounted.mounted.shape (cells_in mounted.mounted) step.lists (candidates s) step.disc step.first) fall };
      }
      go powers.NotFormatted step = record { standing = Off ([] ∷ []); stands = step; fits = record { now = refl; falls = fall_short lost at (falls_under lost r.falls) [] short_disc } }
      go powers.Cut step = record { standing = Off (candidates s); stands = step; fits = record { now = refl; falls = fall } }
      go powers.Fault step = record { standing = Off (candidates s); stands = step; fits = record { now = refl; falls = fall } }

  fits_led : (s : Standing) (r : MirrorRegister) → Fits lost at s r → Fits lost at s (led_on r)
  fits_led s r was = record { now = was.now; falls = was.falls }

  -- what a mirror finds that is ready, by whether its disc has the sector
  abbrev Finds : MirrorShown → MirrorRegister → (has : Bool) → Type 0
  Finds new r true = (value : Value) × Contains r.falls value × Held lost at new (led_on (settled_at r value))
  Finds new r false = Held lost at new (led_on (emptied r))

  as_long : (new : MirrorShown) (disc : List ℕ) (known : ℕ) → known ≡ capacity new.lead → MayBe new (On disc) → length disc ≡ 2048 * known
  as_long new disc known is may =
      let long = long_as_counted new.lead disc may.1 in
      omega (arith, long, is)

  finds : (new : MirrorShown) (r : MirrorRegister) (s : Standing) (known : ℕ) → FallTo at (falls_under lost r.falls) (candidates s) → (known ≡ capacity new.lead) × FindsMounted new.lead (MayBe new) s
      → Finds new r (nat_lt at known)
  finds new r s known fall (is, mounted) =
      let disc : List ℕ = mounted.finds.disc in
      let there = first_in mounted.mounted.shape (cells_in mounted.mounted) mounted.finds.lists (candidates s) disc mounted.finds.first in
      let long = as_long new disc known is mounted.finds.found in
      elim (cases_lt at known) [
        | inl below ↦
            let inside : 2048 * (at + 1) ≤ length disc = omega (arith, long) in
            let held = has_bytes lost r.falls (sectors_of disc at 1) (fall disc there inside) in
            subst (Finds new r) (sym (lt-ltb at known below))
            (held.value, held.among, record { standing = On disc; stands = mounted.finds.found; fits = fits_led (On disc) (settled_at r held.value) (found_some lost at disc r held.value inside held.has) })
        | inr beyond ↦
            let past : length disc < 2048 * (at + 1) = omega (arith, long) in
            subst (Finds new r) (sym (le-ltb at known beyond))
            (record { standing = On disc; stands = mounted.finds.found; fits = fits_led (On disc) (emptied r) (found_none lost at disc r past) })
      ]

-- one register for both
module _ (at : ℕ) (new : MirrorShown) (r : MirrorRegister) (known : new.who.known ≡ true) where
  abbrev IsFound : (has : Bool) → MirrorRegister → Type 0
  IsFound has after = MatchBool has ((value : Value) × Contains r.falls value × (after ≡ led_on (settled_at r value))) (after ≡ led_on (emptied r))

  has_sector : (value : Value) → Contains r.falls value → HeldBoth at new (led_on (settled_at r value)) → Turned at new (IsFound true)
  has_sector value among both = record { after = led_on (settled_at r value); rule = (value, among, refl); matches = match_led at new (led_on (settled_at r value)) known refl both }

  join_values : (one_value other_value : Value) → Contains r.falls one_value → Contains r.falls other_value → Held one_lost at new (led_on (settled_at r one_value)) → Held other_lost at new (led_on (settled_at r other_value))
      → Turned at new (IsFound true)
  join_values (Bytes bytes) other_value among also one other = has_sector (Bytes bytes) among (by_one at new (led_on (settled_at r (Bytes bytes))) (record { now = refl; falls = refl }) one)
  join_values Lost (Bytes bytes) among also one other = has_sector (Bytes bytes) also (by_other at new (led_on (settled_at r (Bytes bytes))) (record { now = refl; falls = refl }) other)
  join_values Lost Lost among also one other = has_sector Lost among (record { one = one; other = other })

  join_found : (has : Bool) → Finds one_lost at new r has → Finds other_lost at new r has → Turned at new (IsFound has)
  join_found true one other = join_values one.0 other.0 one.1 other.1 one.2 other.2
  join_found false none other = record {
    after = led_on (emptied r);
    rule = refl;
    matches = match_led at new (led_on (emptied r)) known refl (by_one at new (led_on (emptied r)) (record { now = refl; falls = refl }) none);
  }

  bare_both : MayBe new (On []) → HeldBoth at new (led_on (emptied r))
  bare_both may = record { one = bare one_lost; other = bare other_lost }
    where
      bare : (lost : List ℕ) → Held lost at new (led_on (emptied r))
      bare lost = record { standing = On []; stands = may; fits = fits_led lost at (On []) (emptied r) (found_none lost at [] r (omega arith)) }

-- ---- both sides, of which nothing was known together
-- each falls back to these values, whichever they are
record SidesOwn (at : ℕ) (shown : MirrorShown) (a b : Standing) : Type 0 where
  stands_a : StandsFor (side_a shown) a
  stands_b : StandsFor (side_b shown) b

abbrev own_values : (at : ℕ) → Standing → Standing → List Value
own_values at a b = both_values (values_of at (candidates a)) (values_of at (candidates b))

own_a : (lost : List ℕ) (at : ℕ) (a b : Standing) → FallTo at (falls_under lost (own_values at a b)) (candidates a)
own_a lost at a b disc there inside = in_first lost (values_of at (candidates a)) (values_of at (candidates b)) (sectors_of disc at 1) (falls_to_own lost at (candidates a) disc there inside)

own_b : (lost : List ℕ) (at : ℕ) (a b : Standing) → FallTo at (falls_under lost (own_values at a b)) (candidates b)
own_b lost at a b disc there inside = in_second lost (values_of at (candidates a)) (values_of at (candidates b)) (sectors_of disc at 1) (falls_to_own lost at (candidates b) disc there inside)

own_sides : (lost : List ℕ) (at : ℕ) (shown : MirrorShown) (a b : Standing) → SidesOwn at shown a b → SidesFall lost at shown (own_values at a b)
own_sides lost at shown a b own = record {
  a = record { standing = a; stands = own.stands_a; fall = own_a lost at a b };
  b = record { standing = b; stands = own.stands_b; fall = own_b lost at a b };
}

own_of : (lost : List ℕ) (at : ℕ) (l : Bool) (a b : Standing) → FallTo at (falls_under lost (own_values at a b)) (candidates (of_lead l a b))
own_of lost at true a b = own_a lost at a b
own_of lost at false a b = own_b lost at a b

-- what a side stands for that was mounted
mounted_some : (side : Shown) (s : Standing) → StandsMounted (on_or_off (StandsFor side)) s → StandsSomehow (StandsFor side)
mounted_some side s mounted = go mounted.told mounted.step
  where
    some : (t : Standing) → on_or_off (StandsFor side) t → StandsSomehow (StandsFor side)
    some (On disc) (inl stands) = record { standing = On disc; stands = stands }
    some (On disc) (inr stands) = record { standing = Off (disc ∷ []); stands = stands }
    some (Off discs) (inl stands) = record { standing = Off discs; stands = stands }
    some (Off discs) (inr stands) = record { standing = Off discs; stands = stands }

    go : (told : PowerOut) → PowerStep mounted.mounted (on_or_off (StandsFor side)) s told → StandsSomehow (StandsFor side)
    go (powers.Ready known) step = some (On step.disc) step.found
    go powers.NotFormatted step = some (On []) step
    go powers.Cut step = some (Off (candidates s)) step
    go powers.Fault step = some (Off (candidates s)) step

abbrev no_value : Option Value
no_value = None

abbrev anew_as : (r : MirrorRegister) (led : Bool) (falls : List Value) → MirrorRegister
anew_as r led falls = record { now = None; falls = falls; led = led }

-- who leads is told anew, where it was known
anew_led : (r : MirrorRegister) (led : Bool) (falls : List Value) → r.led ≡ true → LeadsAnew r led (record { now = None; falls = falls; led = led })
anew_led r led falls is = subst (λ (b : Bool). MatchBool b ((no_value ≡ None) × (led ≡ led)) (anew_as r led falls ≡ anew_as r led r.falls)) (sym is) (refl, refl)

-- and where it was not
anew_none : (r : MirrorRegister) (led : Bool) → r.led ≡ false → LeadsAnew r led (record { now = None; falls = r.falls; led = led })
anew_none r led is = subst (λ (b : Bool). MatchBool b ((no_value ≡ None) × (led ≡ led)) (anew_as r led r.falls ≡ anew_as r led r.falls)) (sym is) refl

module _ (at : ℕ) (old new : MirrorShown) (r : MirrorRegister) (was : MatchesMirror at old r) where
  abbrev Nobody : List Value → Type 0
  Nobody falls = SidesFall one_lost at new falls × SidesFall other_lost at new falls

  -- ---- a power on
  abbrev PowersAs : MirrorPowerOut → Standing → Standing → Type 0
  PowersAs out s t = MirrorPowerStep new (MayBe new) (StandsFor (side_a new)) (StandsFor (side_b new)) s t out

  -- the part of the side that leads then, and what either side stands for
  record Part (lost : List ℕ) (out : MirrorPowerOut) : Type 0 where
    lead : Standing
    fall : FallTo at (falls_under lost r.falls) (candidates lead)
    leads : LeadPowerStep new.lead (MayBe new) lead out
    a : StandsSomehow (StandsFor (side_a new))
    b : StandsSomehow (StandsFor (side_b new))

  module _ (out : MirrorPowerOut) (steps : (s t : Standing) → StandsFor (side_a old) s → StandsFor (side_b old) t → PowersAs out s t) where
    led_part : new.lead_is_a ≡ old.lead_is_a → (lost : List ℕ) → Held lost at old r → Part lost out
    led_part same lost held =
        let sides = sides_of old held.standing held.stands in
        let s : Standing = of_lead old.lead_is_a sides.lead sides.other in
        let t : Standing = of_lead old.lead_is_a sides.other sides.lead in
        let names = named StandsFor old.lead_is_a old.lead old.other sides.lead sides.other sides.leads sides.follows in
        let step = steps s t names.0 names.1 in
        record {
          lead = sides.lead;
          fall = subst (FallTo at (falls_under lost r.falls)) (sym sides.same) held.fits.falls;
          leads = subst (λ (x : Standing). LeadPowerStep new.lead (MayBe new) x out) (ap (λ (l : Bool). of_lead l s t) same ∙ lead_again old.lead_is_a sides.lead sides.other) step.leads;
          a = mounted_some (side_a new) s step.of_a;
          b = mounted_some (side_b new) t step.of_b;
        }

    fall_of : (lost : List ℕ) (l : Bool) (s t : Standing) → FallTo at (falls_under lost r.falls) (candidates s) → FallTo at (falls_under lost r.falls) (candidates t) → FallTo at (falls_under lost r.falls) (candidates (of_lead l s t))
    fall_of lost true s t p q = p
    fall_of lost false s t p q = q

    none_part : (lost : List ℕ) → SidesFall lost at old r.falls → Part lost out
    none_part lost sides =
        let step = steps sides.a.standing sides.b.standing sides.a.stands sides.b.stands in
        record {
          lead = of_lead new.lead_is_a sides.a.standing sides.b.standing;
          fall = fall_of lost new.lead_is_a sides.a.standing sides.b.standing sides.a.fall sides.b.fall;
          leads = step.leads;
          a = mounted_some (side_a new) sides.a.standing step.of_a;
          b = mounted_some (side_b new) sides.b.standing step.of_b;
        }

    none_sides : (lost : List ℕ) → SidesFall lost at old r.falls → SidesFall lost at new r.falls
    none_sides lost sides =
        let step = steps sides.a.standing sides.b.standing sides.a.stands sides.b.stands in
        record {
          a = side_mounted lost at (side_a new) r.falls sides.a.standing sides.a.fall step.of_a;
          b = side_mounted lost at (side_b new) r.falls sides.b.standing sides.b.fall step.of_b;
        }

  ready : (capacity : ℕ) → new.who.known ≡ true → Part one_lost (outs.Ready capacity) → Part other_lost (outs.Ready capacity) → Turned at new (λ after. OnPower at r (power_told (outs.Ready capacity)) after)
  ready capacity known one other =
      join_found at new r known (nat_lt at capacity) (finds one_lost at new r one.lead capacity one.fall one.leads) (finds other_lost at new r other.lead capacity other.fall other.leads)

  bare : new.who.known ≡ true → MayBe new (On []) → Turned at new (λ after. after ≡ led_on (emptied r))
  bare known may = record { after = led_on (emptied r); rule = refl; matches = match_led at new (led_on (emptied r)) known refl (bare_both at new r known may) }

  -- nobody leads, and either side may have anything
  forgotten_led : (a b : Standing) → StandsFor (side_a new) a → StandsFor (side_b new) b → r.led ≡ true → new.who.known ≡ false → new.on ≡ false → Turned at new (λ after. LeadsAnew r false after)
  forgotten_led a b stands_a stands_b led known off =
      let own : SidesOwn at new a b = record { stands_a = stands_a; stands_b = stands_b } in
      let after : MirrorRegister = record { now = None; falls = own_values at a b; led = false } in
      record {
        after = after;
        rule = anew_led r false (own_values at a b) led;
        matches = match_none at new after known refl (record { off = off; none = refl; one = own_sides one_lost at new a b own; other = own_sides other_lost at new a b own });
      }

  forgotten_none : Nobody r.falls → r.led ≡ false → new.who.known ≡ false → new.on ≡ false → Turned at new (λ after. LeadsAnew r false after)
  forgotten_none sides led known off =
      let after : MirrorRegister = record { now = None; falls = r.falls; led = false } in
      record { after = after; rule = anew_none r false led; matches = match_none at new after known refl (record { off = off; none = refl; one = sides.0; other = sides.1 }) }

  gone_none : Nobody r.falls → r.led ≡ false → new.who.known ≡ false → new.on ≡ false → Turned at new (λ after. after ≡ has_none r)
  gone_none sides led known off = record { after = has_none r; rule = refl; matches = match_none at new (has_none r) known led (record { off = off; none = refl; one = sides.0; other = sides.1 }) }

  gone_led : HeldBoth at new (has_none r) → r.led ≡ true → new.who.known ≡ true → Turned at new (λ after. after ≡ has_none r)
  gone_led held led known = record { after = has_none r; rule = refl; matches = match_led at new (has_none r) known led held }

  power_led : (out : MirrorPowerOut) → r.led ≡ true → old.who.known ≡ true → HeldBoth at old r → PowerTells old new out
      → ((s t : Standing) → StandsFor (side_a old) s → StandsFor (side_b old) t → PowersAs out s t) → Turned at new (λ after. OnPower at r (power_told out) after)
  power_led out led known held tells steps = go out tells.tells (led_part out steps (tells.stays known) one_lost held.one) (led_part out steps (tells.stays known) other_lost held.other)
    where
      go : (out : MirrorPowerOut) → Tells old new out → Part one_lost out → Part other_lost out → Turned at new (λ after. OnPower at r (power_told out) after)
      go (outs.Ready capacity) told one other = ready capacity told one other
      go outs.NotFormatted told one other = bare told one.leads
      go outs.Unknown told one other = forgotten_led one.a.standing one.b.standing one.a.stands one.b.stands led told.0 told.1
      go outs.Cut told one other = gone_led (record { one = mirror_mounted one_lost at new r one.lead one.fall one.leads; other = mirror_mounted other_lost at new r other.lead other.fall other.leads }) led (told.0 ∙ known)
      go outs.Fault told one other = gone_led (record { one = mirror_mounted one_lost at new r one.lead one.fall one.leads; other = mirror_mounted other_lost at new r other.lead other.fall other.leads }) led (told.0 ∙ known)

  power_none : (out : MirrorPowerOut) → r.led ≡ false → old.who.known ≡ false → NobodyHolds at old r → PowerTells old new out
      → ((s t : Standing) → StandsFor (side_a old) s → StandsFor (side_b old) t → PowersAs out s t) → Turned at new (λ after. OnPower at r (power_told out) after)
  power_none out led known held tells steps = go out tells.tells (none_part out steps one_lost held.one) (none_part out steps other_lost held.other) (none_sides out steps one_lost held.one, none_sides out steps other_lost held.other)
    where
      go : (out : MirrorPowerOut) → Tells old new out → Part one_lost out → Part other_lost out → Nobody r.falls → Turned at new (λ after. OnPower at r (power_told out) after)
      go (outs.Ready capacity) told one other sides = ready capacity told one other
      go outs.NotFormatted told one other sides = bare told one.leads
      go outs.Unknown told one other sides = forgotten_none sides led told.0 told.1
      go outs.Cut told one other sides = gone_none sides led (told.0 ∙ known) told.1
      go outs.Fault told one other sides = gone_none sides led (told.0 ∙ known) told.1

  pub power_called : (told : MirrorEvent) → PowerCall old new told → Turned at new (λ after. OnPower at r told after)
  power_called told call =
      subst (λ (e : MirrorEvent). Turned at new (λ after. OnPower at r e after)) (sym call.told_is)
      (by_known at old new r was (λ after. OnPower at r (power_told call.out) after)
      (λ known led held. power_led call.out led known held (power_tells old new call.out call.cause) call.step)
      (λ known led held. power_none call.out led known held (power_tells old new call.out call.cause) call.step))

  -- ---- it is told who leads
  told_leader : (known lead_is_a : Bool) → r.led ≡ known → OnLead r (lead_told (leader_as known lead_is_a)) r
  told_leader true true led = (led, refl)
  told_leader true false led = (led, refl)
  told_leader false lead_is_a led = (led, refl)

  pub lead_called : (told : MirrorEvent) → LeadCall old new told → Turned at new (λ after. OnLead r told after)
  lead_called told call =
      left_off at old new r was (λ after. OnLead r told after)
      (subst (λ (e : MirrorEvent). OnLead r e r) (sym call.told_is) (told_leader old.who.known old.lead_is_a was.led)) call.same

  -- ---- the lead is given by hand
  turned_known : (turns : Bool) (shown : MirrorShown) → SameKnown shown (turned turns shown)
  turned_known true shown = refl
  turned_known false shown = refl

  not_not : (b : Bool) → not (not b) ≡ b
  not_not true = refl
  not_not false = refl

  turned_back : (turns : Bool) (mid : MirrorShown) → mid.lead_is_a ≡ (turned turns old).lead_is_a → (turned turns mid).lead_is_a ≡ old.lead_is_a
  turned_back true mid same = ap not same ∙ not_not old.lead_is_a
  turned_back false mid same = same

  -- it was not given: the mirror is off, and who leads is as before
  record NotGiven : Type 0 where
    known : SameKnown old new
    off : new.on ≡ false
    roles : new.lead_is_a ≡ old.lead_is_a

  not_given : (turns : Bool) (told : RecordOut) → IsNotGiven turns old new told → NotGiven
  not_given turns told is = record {
    known = ap (λ (s : MirrorShown). s.who.known) is.new_is ∙ turned_known turns is.mid ∙ ap (λ (s : MirrorShown). s.who.known) is.raises.new_is ∙ turned_known turns old;
    off = ap (λ (s : MirrorShown). s.on) is.new_is;
    roles = ap (λ (s : MirrorShown). s.lead_is_a) is.new_is ∙ turned_back turns is.mid (ap (λ (s : MirrorShown). s.lead_is_a) is.raises.new_is);
  }

  -- what a side stands for then
  kept_or_off : (meant : Bool) (side : Shown) (s : Standing) (out : GiveOut) → GiveStepOf meant (StandsFor side) s out → OrOff side s
  kept_or_off false side s out step = inl step
  kept_or_off true side s gives.Given step = inl step
  kept_or_off true side s (gives.NoUpdate counter) step = inl step
  kept_or_off true side s gives.Off step = inl step
  kept_or_off true side (On disc) gives.Cut step = inr step
  kept_or_off true side (Off discs) gives.Cut step = absurd step
  kept_or_off true side (On disc) gives.Fault step = inr step
  kept_or_off true side (Off discs) gives.Fault step = absurd step

  given_side : (meant : Bool) (side : Shown) (s : Standing) → GiveStepOf meant (StandsFor side) s gives.Given → StandsFor side s
  given_side true side s step = step
  given_side false side s step = step

  module _ (to_a : Bool) where
    abbrev OfA : GiveOut → Type 0
    OfA out = (s : Standing) → StandsFor (side_a old) s → GiveStepOf to_a (StandsFor (side_a new)) s out

    abbrev OfB : GiveOut → Type 0
    OfB out = (s : Standing) → StandsFor (side_b old) s → GiveStepOf (not to_a) (StandsFor (side_b new)) s out

    -- the mirror stands for the candidates of the side that leads then
    held_given : (lost : List ℕ) (s t : Standing) (falls : List Value) → new.on ≡ false → StandsFor (side_a new) s → StandsFor (side_b new) t
        → FallTo at (falls_under lost falls) (candidates (of_lead new.lead_is_a s t)) → Held lost at new (record { now = None; falls = falls; led = true })
    held_given lost s t falls off stands_a stands_b fall =
        let roles = in_roles StandsFor new.lead_is_a new.lead new.other s t stands_a stands_b in
        record {
          standing = Off (candidates (of_lead new.lead_is_a s t));
          stands = off_by new (of_lead new.lead_is_a s t) off (inl roles.0) (somehow new.other (of_lead new.lead_is_a t s) (inl roles.1));
          fits = record { now = refl; falls = fall };
        }

    given_led : OfA gives.Given → OfB gives.Given → r.led ≡ true → HeldBoth at old r → new.who.known ≡ true → new.on ≡ false → Turned at new (λ after. (to_a ≡ to_a) × LeadsAnew r true after)
    given_led of_a of_b led held known off =
        let sides = sides_of old held.one.standing held.one.stands in
        let s : Standing = of_lead old.lead_is_a sides.lead sides.other in
        let t : Standing = of_lead old.lead_is_a sides.other sides.lead in
        let names = named StandsFor old.lead_is_a old.lead old.other sides.lead sides.other sides.leads sides.follows in
        let stands_a = given_side to_a (side_a new) s (of_a s names.0) in
        let stands_b = given_side (not to_a) (side_b new) t (of_b t names.1) in
        let after : MirrorRegister = record { now = None; falls = own_values at s t; led = true } in
        record {
          after = after;
          rule = (refl, anew_led r true (own_values at s t) led);
          matches = match_led at new after known refl (record {
            one = held_given one_lost s t (own_values at s t) off stands_a stands_b (own_of one_lost at new.lead_is_a s t);
            other = held_given other_lost s t (own_values at s t) off stands_a stands_b (own_of other_lost at new.lead_is_a s t);
          });
        }

    given_none : OfA gives.Given → OfB gives.Given → r.led ≡ false → NobodyHolds at old r → new.who.known ≡ true → new.on ≡ false → Turned at new (λ after. (to_a ≡ to_a) × LeadsAnew r true after)
    given_none of_a of_b led held known off =
        let after : MirrorRegister = record { now = None; falls = r.falls; led = true } in
        record { after = after; rule = (refl, anew_none r true led); matches = match_led at new after known refl (record { one = part one_lost held.one; other = part other_lost held.other }) }
      where
        fall_by : (lost : List ℕ) (l : Bool) (s t : Standing) → FallTo at (falls_under lost r.falls) (candidates s) → FallTo at (falls_under lost r.falls) (candidates t) → FallTo at (falls_under lost r.falls) (candidates (of_lead l s t))
        fall_by lost true s t p q = p
        fall_by lost false s t p q = q

        part : (lost : List ℕ) → SidesFall lost at old r.falls → Held lost at new (record { now = None; falls = r.falls; led = true })
        part lost sides =
            held_given lost sides.a.standing sides.b.standing r.falls off (given_side to_a (side_a new) sides.a.standing (of_a sides.a.standing sides.a.stands))
            (given_side (not to_a) (side_b new) sides.b.standing (of_b sides.b.standing sides.b.stands)) (fall_by lost new.lead_is_a sides.a.standing sides.b.standing sides.a.fall sides.b.fall)

    refused_led : (out : GiveOut) → OfA out → OfB out → r.led ≡ true → old.who.known ≡ true → HeldBoth at old r → NotGiven → Turned at new (λ after. after ≡ has_none r)
    refused_led out of_a of_b led known held refuses = gone_led (record { one = part one_lost held.one; other = part other_lost held.other }) led (refuses.known ∙ known)
      where
        part : (lost : List ℕ) → Held lost at old r → Held lost at new (has_none r)
        part lost it =
            let sides = sides_of old it.standing it.stands in
            let s : Standing = of_lead old.lead_is_a sides.lead sides.other in
            let t : Standing = of_lead old.lead_is_a sides.other sides.lead in
            let names = named StandsFor old.lead_is_a old.lead old.other sides.lead sides.other sides.leads sides.follows in
            let roles = in_roles OrOff new.lead_is_a new.lead new.other s t (kept_or_off to_a (side_a new) s out (of_a s names.0)) (kept_or_off (not to_a) (side_b new) t out (of_b t names.1)) in
            let leads : OrOff new.lead sides.lead = subst (OrOff new.lead) (ap (λ (l : Bool). of_lead l s t) refuses.roles ∙ lead_again old.lead_is_a sides.lead sides.other) roles.0 in
            record {
              standing = Off (candidates sides.lead);
              stands = off_by new sides.lead refuses.off leads (somehow new.other (of_lead new.lead_is_a t s) roles.1);
              fits = record { now = refl; falls = subst (FallTo at (falls_under lost r.falls)) (sym sides.same) it.fits.falls };
            }

    side_kept : (lost : List ℕ) (meant : Bool) (side : Shown) (s : Standing) (out : GiveOut) → FallTo at (falls_under lost r.falls) (candidates s) → OrOff side s → SideFalls lost at side r.falls
    side_kept lost meant side s out fall (inl stands) = record { standing = s; stands = stands; fall = fall }
    side_kept lost meant side s out fall (inr stands) = record { standing = Off (candidates s); stands = stands; fall = fall }

    refused_none : (out : GiveOut) → OfA out → OfB out → r.led ≡ false → old.who.known ≡ false → NobodyHolds at old r → NotGiven → Turned at new (λ after. after ≡ has_none r)
    refused_none out of_a of_b led known held refuses = gone_none (part one_lost held.one, part other_lost held.other) led (refuses.known ∙ known) refuses.off
      where
        part : (lost : List ℕ) → SidesFall lost at old r.falls → SidesFall lost at new r.falls
        part lost sides = record {
          a = side_kept lost to_a (side_a new) sides.a.standing out sides.a.fall (kept_or_off to_a (side_a new) sides.a.standing out (of_a sides.a.standing sides.a.stands));
          b = side_kept lost (not to_a) (side_b new) sides.b.standing out sides.b.fall (kept_or_off (not to_a) (side_b new) sides.b.standing out (of_b sides.b.standing sides.b.stands));
        }

    refused : (out : GiveOut) → OfA out → OfB out → NotGiven → Turned at new (λ after. after ≡ has_none r)
    refused out of_a of_b refuses = by_known at old new r was (λ after. after ≡ has_none r)
        (λ known led held. refused_led out of_a of_b led known held refuses)
        (λ known led held. refused_none out of_a of_b led known held refuses)

    give_turn : (out : GiveOut) → Gives (is_to_turn old.lead_is_a to_a) old new out → OfA out → OfB out → Turned at new (λ after. OnGiven r to_a (give_told to_a out) after)
    give_turn gives.Given cause of_a of_b =
        let known = ap (λ (s : MirrorShown). s.who.known) cause.new_is in
        let off = ap (λ (s : MirrorShown). s.on) cause.new_is in
        by_known at old new r was (λ after. (to_a ≡ to_a) × LeadsAnew r true after)
        (λ was_known led held. given_led of_a of_b led held known off)
        (λ was_known led held. given_none of_a of_b led held known off)
    give_turn (gives.NoUpdate counter) cause of_a of_b = refused (gives.NoUpdate counter) of_a of_b (not_given (is_to_turn old.lead_is_a to_a) records.Lost cause.0)
    give_turn gives.Cut cause of_a of_b = refused gives.Cut of_a of_b (not_given (is_to_turn old.lead_is_a to_a) records.Cut cause)
    give_turn gives.Off cause of_a of_b = left_off at old new r was (λ after. after ≡ r) refl cause.1
    give_turn gives.Fault cause of_a of_b = refused gives.Fault of_a of_b (not_given (is_to_turn old.lead_is_a to_a) records.Fault cause)

    pub give_called : (told : MirrorEvent) → GiveCall old new to_a told → Turned at new (λ after. OnGiven r to_a told after)
    give_called told call =
        subst (λ (e : MirrorEvent). Turned at new (λ after. OnGiven r to_a e after)) (sym call.told_is)
        (give_turn call.out call.cause call.of_a call.of_b)
