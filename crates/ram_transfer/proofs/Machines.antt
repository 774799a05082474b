-- What a part of the work did to a controllable medium, with its arms and its armed cut.
use Rattle.std.proofs.Common.{◌≡◌, ℕ, Option, List, subst}
use Rattle.model_medium.specs.World.{World, Span}
use Rattle.model_medium.specs.Machine.{Machine}
use Rattle.model_medium.specs.Exact.{Event}
use Rattle.model_medium.specs.Reach.{ReachBy}
use Rattle.model_medium.specs.declared.WornBlock.{WornBlock}
use Rattle.model_medium.specs.declared.ArmedCut.{ArmedCut}
use Rattle.model_stops.specs.Stops.{Continues, Stops}
use Rattle.model_stops.specs.declared.Stop.{Stop}
use Rattle.model_stops.specs.declared.Stop.TheVariants as stops
use Rattle.ram_medium.specs.Laws.{ControlLaws, machine_shown}

module _ {M : Type 0} (world : M → World) (reaches : M → M → Span → Type 0) (takes : M → M → Event → Type 0) (arms : M → List WornBlock) (armed_cut : M → Option ArmedCut)
    (laws : ControlLaws world reaches takes arms armed_cut) (old new : M) where
  abbrev machine : M → Machine
  machine m = machine_shown world arms armed_cut m

  -- it went to its end
  pub machine_continues : (uses : ℕ) → Continues world reaches old new uses → Continues (λ (m : Machine). m.world) ReachBy (machine old) (machine new) uses
  machine_continues uses goes = record { reach = laws.reach old new uses goes.reach; is_on = goes.is_on }

  stops_there : (most : ℕ) (stop : Stop) → Stops world reaches old new most stop → Stops (λ (m : Machine). m.world) ReachBy (machine old) (machine new) most stop
  stops_there most stops.Cut s = record { uses = s.uses; few = s.few; reach = laws.reach old new s.uses s.reach; cut = s.cut }
  stops_there most stops.Off s = s
  stops_there most stops.Fault s = record {
    mid = machine s.mid;
    before = s.before;
    few = s.few;
    reach = laws.reach old s.mid s.before s.reach;
    block = s.block;
    fails = s.fails;
    failed = tt;
  }

  -- or it was stopped within n uses
  pub machine_stops : (most uses : ℕ) → most ≡ uses → (stop : Stop) → Stops world reaches old new most stop → Stops (λ (m : Machine). m.world) ReachBy (machine old) (machine new) uses stop
  machine_stops most uses same stop s =
      subst (λ (n : ℕ). Stops (λ (m : Machine). m.world) ReachBy (machine old) (machine new) n stop) same (stops_there most stop s)
