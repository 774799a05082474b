-- What a call of a mirror makes of what it shows and stands for, and of the bytes of both images.
use Rattle.std.specs.Prelude.{ℕ, not, Bool, true, false, Option, List}
use Rattle.std.proofs.Common.{refl, sym, subst}
use Rattle.model_geometry.specs.Geometry.{total}
use Rattle.model_sectors.specs.Discs.{Standing}
use Rattle.model_drive.specs.Shown.{Shown, StandsFor}
use Rattle.model_mirror.specs.declared.MirrorPowerOut.{MirrorPowerOut}
use Rattle.model_mirror.specs.declared.GiveOut.{GiveOut}
use Rattle.model_mirror.specs.Powers.{MirrorPowerCause, MirrorPowerStep}
use Rattle.model_mirror.specs.Giving.{GiveLeadCause, GiveStepOf}
use Rattle.model_mirror.proofs.Mapping.{mirror_power_mapped, give_of_mapped}
use Rattle.model_mirror.specs.Sides.{side_a, side_b}
use Rattle.model_mirror.specs.Standing.{MayBe}
use Rattle.ram_sectors.specs.declared.Sectors.{Ghosts as Drives}
use Rattle.ram_sectors.specs.Laws.{SectorsLaws}
use Rattle.ram_mirror.specs.Sides.{SidesUnderwent}
use Rattle.ram_mirror.specs.declared.following.Following.{Following}
use Rattle.ram_mirror.specs.declared.mirror.Mirror.{Mirror}
use Rattle.ram_mirror.specs.Mirrors.{roles, mirror_shows, mirror_stands}
use Rattle.ram_machine.specs.Underwent.{UnderwentEvents}
use Rattle.ram_side.specs.Side.{SideLaws}
use Rattle.ram_pair.specs.PairLines.{Leads, PowerCall, GiveCall}
use Rattle.ram_pair.specs.PairSteps.{BothUnderwent}
use Rattle.ram_pair.specs.Pairs.{lies_by}
use Rattle.ram_pair.specs.Calls.{BothTracked, SameShapes}
use Rattle.ram_pair.specs.Told.{power_told, give_told}
use Rattle.ram_pair.proofs.Sides.{shown_a, shown_b, may_be, it_stands}

module _ {S : Type 0} (sides : Drives S) where
  events_a : (lead lead' : Bool) (x y x' y' : S) (f f' : Following) (before after : Option (List ℕ)) → UnderwentEvents (total (sides.shows x).shape) (sides.shows x).medium before (sides.shows x').medium after
      → UnderwentEvents (total (side_a (roles sides sides lead x y f)).shape) (side_a (roles sides sides lead x y f)).medium before (side_a (roles sides sides lead' x' y' f')).medium after
  events_a true true x y x' y' f f' before after events = events
  events_a true false x y x' y' f f' before after events = events
  events_a false true x y x' y' f f' before after events = events
  events_a false false x y x' y' f f' before after events = events

  events_b : (lead lead' : Bool) (x y x' y' : S) (f f' : Following) (before after : Option (List ℕ)) → UnderwentEvents (total (sides.shows y).shape) (sides.shows y).medium before (sides.shows y').medium after
      → UnderwentEvents (total (side_b (roles sides sides lead x y f)).shape) (side_b (roles sides sides lead x y f)).medium before (side_b (roles sides sides lead' x' y' f')).medium after
  events_b true true x y x' y' f f' before after events = events
  events_b true false x y x' y' f f' before after events = events
  events_b false true x y x' y' f f' before after events = events
  events_b false false x y x' y' f f' before after events = events

  module _ (lies_in : S → Option (List ℕ)) (has_failed : S → Bool) (side_laws : SideLaws sides.shows sides.underwent lies_in has_failed) (old new : Mirror S S) (underwent : SidesUnderwent sides sides old.a old.b new.a new.b) where
    -- events alone happened to both
    pub both_underwent : BothUnderwent (lies_by sides lies_in old) (lies_by sides lies_in new)
    both_underwent = record {
      a = events_a old.lead_is_a new.lead_is_a old.a old.b new.a new.b old.following new.following (lies_in old.a) (lies_in new.a) (side_laws.by_events old.a new.a underwent.first);
      b = events_b old.lead_is_a new.lead_is_a old.a old.b new.a new.b old.following new.following (lies_in old.b) (lies_in new.b) (side_laws.by_events old.b new.b underwent.second);
    }

    pub both_tracked : BothTracked sides has_failed old new
    both_tracked = record { a = side_laws.tracks old.a new.a underwent.first; b = side_laws.tracks old.b new.b underwent.second }

    pub same_shapes : SameShapes sides old new
    same_shapes = record { a = side_laws.same_shape old.a new.a underwent.first; b = side_laws.same_shape old.b new.b underwent.second }

  module _ (laws : SectorsLaws sides.shows sides.stands) (old new : Mirror S S) where
    stand_a : (mirror : Mirror S S) (s : Standing) → StandsFor (side_a (mirror_shows sides sides mirror)) s → sides.stands mirror.a s
    stand_a mirror s is = (laws.as_shown mirror.a s).1 (subst (λ (x : Shown). StandsFor x s) (shown_a sides mirror) is)

    stand_b : (mirror : Mirror S S) (s : Standing) → StandsFor (side_b (mirror_shows sides sides mirror)) s → sides.stands mirror.b s
    stand_b mirror s is = (laws.as_shown mirror.b s).1 (subst (λ (x : Shown). StandsFor x s) (shown_b sides mirror) is)

    for_a : (mirror : Mirror S S) (s : Standing) → sides.stands mirror.a s → StandsFor (side_a (mirror_shows sides sides mirror)) s
    for_a mirror s is = subst (λ (x : Shown). StandsFor x s) (sym (shown_a sides mirror)) ((laws.as_shown mirror.a s).0 is)

    for_b : (mirror : Mirror S S) (s : Standing) → sides.stands mirror.b s → StandsFor (side_b (mirror_shows sides sides mirror)) s
    for_b mirror s is = subst (λ (x : Shown). StandsFor x s) (sym (shown_b sides mirror)) ((laws.as_shown mirror.b s).0 is)

    -- from each thing that it may stand for it comes to one, where a step of the mirror is found
    pub leads_on : (Steps : Standing → Standing → Type 0) → ((s : Standing) → mirror_stands sides sides old s → (t : Standing) × mirror_stands sides sides new t × Steps s t)
        → Leads (mirror_shows sides sides old) (mirror_shows sides sides new) Steps
    leads_on Steps found s may =
        let to = found s (it_stands sides laws old s may) in
        (to.0, may_be sides laws new to.0 to.1, to.2)

    pub keeps_all : ((s : Standing) → mirror_stands sides sides old s → mirror_stands sides sides new s) → (s : Standing) → MayBe (mirror_shows sides sides old) s → MayBe (mirror_shows sides sides new) s
    keeps_all keeps s may = may_be sides laws new s (keeps s (it_stands sides laws old s may))

    pub power_called : (out : MirrorPowerOut) → MirrorPowerCause (mirror_shows sides sides old) (mirror_shows sides sides new) out
        → ((s t : Standing) → sides.stands old.a s → sides.stands old.b t → MirrorPowerStep (mirror_shows sides sides new) (mirror_stands sides sides new) (sides.stands new.a) (sides.stands new.b) s t out)
        → PowerCall (mirror_shows sides sides old) (mirror_shows sides sides new) (power_told out)
    power_called out cause step = record {
      out = out;
      cause = cause;
      step = λ s t at_a at_b. mirror_power_mapped (mirror_shows sides sides new) _ _ _ _ _ _ (may_be sides laws new) (for_a new) (for_b new) s t out (step s t (stand_a old s at_a) (stand_b old t at_b));
      told_is = refl;
    }

    pub give_called : (to_a : Bool) (out : GiveOut) → GiveLeadCause (mirror_shows sides sides old) (mirror_shows sides sides new) to_a out
        → ((s : Standing) → sides.stands old.a s → GiveStepOf to_a (sides.stands new.a) s out)
        → ((s : Standing) → sides.stands old.b s → GiveStepOf (not to_a) (sides.stands new.b) s out)
        → GiveCall (mirror_shows sides sides old) (mirror_shows sides sides new) to_a (give_told to_a out)
    give_called to_a out cause step_a step_b = record {
      out = out;
      cause = cause;
      of_a = λ s at. give_of_mapped _ _ (for_a new) to_a s out (step_a s (stand_a old s at));
      of_b = λ s at. give_of_mapped _ _ (for_b new) (not to_a) s out (step_b s (stand_b old s at));
      told_is = refl;
    }
