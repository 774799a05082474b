-- Between two calls cells of both sides may die, and deaths and cuts may be armed.
use Rattle.std.specs.Prelude.{◌≡◌, ℕ, ◌<◌, ◌≤◌, not, if◌then◌else◌, Bool, true, false, IsTrue, List}
use Rattle.std.proofs.Common.{sym, ap, ◌∙◌, inl, inr, subst}
use Rattle.model_sectors.specs.Discs.{Standing, On, Off}
use Rattle.model_drive.specs.Shown.{Shown, StandsFor}
use Rattle.model_drive.proofs.Dying.{same_on, same_candidates}
use Rattle.model_mirror.specs.Shown.{MirrorShown}
use Rattle.model_mirror.specs.Leading.{Leading}
use Rattle.model_mirror.specs.Standing.{StandsSomehow, MirrorStands, MayBe}
use Rattle.model_mirror.proofs.Mapping.{stands_mapped}
use Rattle.model_mirror.specs.Sides.{named_side}
use Rattle.model_mirror_laws.specs.Ahead.{HoldsOfCopies, SideIsAhead, KnowsRecords}
use Rattle.model_mirror_laws.specs.Bytes.{Ages, SidesAge, HoldsSector, KeepsSector, IsKept}
use Rattle.model_mirror_laws.proofs.Numbers.{dying_copies}

module _ (old new : Shown) (ages : Ages old new) where
  ages_stands : (s : Standing) → StandsFor old s → StandsFor new s
  ages_stands (On disc) stands = same_on old new ages.leaves.same_shape ages.as_known ages.keeps ages.same_buffer (subst IsTrue (sym ages.same_power) stands.1) ages.same disc stands
  ages_stands (Off discs) stands = same_candidates old new ages.leaves.same_shape ages.as_known (λ on. stands.1 (subst IsTrue ages.same_power on)) ages.same discs stands

  ages_somehow : StandsSomehow (StandsFor old) → StandsSomehow (StandsFor new)
  ages_somehow some = record { standing = some.standing; stands = ages_stands some.standing some.stands }

  ages_holds : (at : ℕ) (bytes : List ℕ) → HoldsSector at bytes old → HoldsSector at bytes new
  ages_holds at bytes holds = record { standing = holds.standing; stands = ages_stands holds.standing holds.stands; each = holds.each }

  ages_copies : (P : ℕ → Type 0) → HoldsOfCopies P old → HoldsOfCopies P new
  ages_copies P holds = dying_copies P old new ages.leaves.same_shape holds ages.same

-- by the names of the sides
by_name : (p q : Bool) (x x' y y' : Shown) → q ≡ p → Ages x y → Ages x' y' → Ages (if p then x else x') (if q then y else y')
by_name true true x x' y y' e one two = one
by_name true false x x' y y' e one two = absurd (let w = e in cc)
by_name false true x x' y y' e one two = absurd (let w = e in cc)
by_name false false x x' y y' e one two = two

module _ (old new : MirrorShown) (ages : SidesAge old new) where
  same_side : new.lead_is_a ≡ old.lead_is_a
  same_side = ap (λ (s : MirrorShown). s.lead_is_a) ages.new_is

  same_who : new.who ≡ old.who
  same_who = ap (λ (s : MirrorShown). s.who) ages.new_is

  same_on_off : new.on ≡ old.on
  same_on_off = ap (λ (s : MirrorShown). s.on) ages.new_is

  -- what the mirror may stand for
  ages_may : (s : Standing) → MayBe old s → MayBe new s
  ages_may s stands = subst (λ (m : MirrorShown). MirrorStands m (StandsFor new.lead) (StandsFor new.other) s) (sym ages.new_is)
      (stands_again s (stands_mapped old (StandsFor old.lead) (StandsFor new.lead) (StandsFor old.other) (StandsFor new.other) (ages_stands old.lead new.lead ages.lead) (ages_stands old.other new.other ages.other) s stands))
    where
      stands_again : (s : Standing) → MirrorStands old (StandsFor new.lead) (StandsFor new.other) s → MirrorStands (record old { lead = new.lead; other = new.other }) (StandsFor new.lead) (StandsFor new.other) s
      stands_again (On disc) is = (is.0, is.1, record { some = is.2.some; copy = is.2.copy })
      stands_again (Off discs) is = elim is.0 [
        | inl off ↦ (inl off, is.1)
        | inr idle ↦ (inr (record { off = idle.off; disc = idle.disc; one = idle.one; stands = idle.stands }), is.1)
      ]

  pub ages_know : KnowsRecords old → KnowsRecords new
  ages_know knows = record {
    lead_known = ages.lead.as_known ∙ knows.lead_known;
    other_known = ages.other.as_known ∙ knows.other_known;
    not_by_hand = ap (λ (l : Leading). l.by_hand) same_who ∙ knows.not_by_hand;
    noted = λ seen. subst (λ (l : Leading). HoldsOfCopies (λ number. number ≤ l.other.most) new.other) (sym same_who)
        (ages_copies old.other new.other ages.other (λ number. number ≤ old.who.other.most) (knows.noted (sym (ap (λ (l : Leading). l.other.seen) same_who) ∙ seen)));
    leads = λ on. let leads = knows.leads (sym same_on_off ∙ on) in record {
      known = ap (λ (l : Leading). l.known) same_who ∙ leads.known;
      exact = subst (λ (l : Leading). HoldsOfCopies (λ number. number ≡ l.lead.most) new.lead) (sym same_who) (ages_copies old.lead new.lead ages.lead (λ number. number ≡ old.who.lead.most) leads.exact);
      lead_seen = ap (λ (l : Leading). l.lead.seen) same_who ∙ leads.lead_seen;
      other_seen = ap (λ (l : Leading). l.other.seen) same_who ∙ leads.other_seen;
      greater = subst (λ (l : Leading). l.other.most < l.lead.most) (sym same_who) leads.greater;
    };
  }

  -- each side, by its name
  side_ages : (on_a : Bool) → Ages (named_side on_a old) (named_side on_a new)
  side_ages true = by_name old.lead_is_a new.lead_is_a old.lead old.other new.lead new.other same_side ages.lead ages.other
  side_ages false = by_name old.lead_is_a new.lead_is_a old.other old.lead new.other new.lead same_side ages.other ages.lead

  ages_ahead : (on_a : Bool) → SideIsAhead on_a old → SideIsAhead on_a new
  ages_ahead on_a ahead = record {
    between = ahead.between;
    above = ages_copies (named_side on_a old) (named_side on_a new) (side_ages on_a) (λ number. ahead.between < number) ahead.above;
    below = ages_copies (named_side (not on_a) old) (named_side (not on_a) new) (side_ages (not on_a)) (λ number. number ≤ ahead.between) ahead.below;
  }

  ages_keep_by : (at : ℕ) (bytes : List ℕ) (on_a : Bool) → KeepsSector at bytes on_a old → KeepsSector at bytes on_a new
  ages_keep_by at bytes on_a keeps = record {
    holds = ages_holds (named_side on_a old) (named_side on_a new) (side_ages on_a) at bytes keeps.holds;
    rest = elim keeps.rest [
      | inl both ↦ inl (ages_holds (named_side (not on_a) old) (named_side (not on_a) new) (side_ages (not on_a)) at bytes both)
      | inr ahead ↦ inr (ages_ahead on_a ahead)
    ];
    leads = λ known. same_side ∙ keeps.leads (sym (ap (λ (l : Leading). l.known) same_who) ∙ known);
    other = ages_somehow (named_side (not on_a) old) (named_side (not on_a) new) (side_ages (not on_a)) keeps.other;
    shows = λ on. let shows = keeps.shows (sym same_on_off ∙ on) in record { standing = shows.standing; stands = ages_may shows.standing shows.stands; each = shows.each };
  }

pub ages_keep : (at : ℕ) (bytes : List ℕ) (old new : MirrorShown) → SidesAge old new → IsKept at bytes old → IsKept at bytes new
ages_keep at bytes old new ages (on_a, keeps) = (on_a, ages_keep_by old new ages at bytes on_a keeps)
