-- What turning the power on shows, by how the mount ended.
use Rattle.std.proofs.Common.{◌≡◌, ℕ, ◌+◌, IsTrue, Bool, true, Option, Some, None, List, [], refl, sym, ap, ◌∙◌, subst}
use Rattle.model_geometry.specs.Geometry.{Shape}
use Rattle.model_lists.specs.Values.{Dds, Sdl}
use Rattle.model_medium.specs.World.{World, Span, Uses}
use Rattle.model_medium.specs.Machine.{Machine}
use Rattle.model_medium.specs.Exact.{Event, PowerOn}
use Rattle.model_medium.specs.Reach.{Reach, ReachBy}
use Rattle.model_medium.specs.declared.WornBlock.{WornBlock}
use Rattle.model_medium.specs.declared.ArmedCut.{ArmedCut}
use Rattle.model_geometry.specs.Geometry.{dds_block}
use Rattle.model_lists.specs.Texts.{IsDdsText}
use Rattle.model_volume.specs.Given.{AreSeen}
use Rattle.model_survival.specs.Stops.{SdlCellsDie, StopsMounting}
use Rattle.model_stops.specs.Stops.{Stops}
use Rattle.model_stops.specs.declared.Stop.{Stop}
use Rattle.model_stops.specs.declared.Stop.TheVariants as stops
use Rattle.model_sectors.specs.declared.PowerOut.{PowerOut}
use Rattle.model_sectors.specs.declared.PowerOut.TheVariants as outs
use Rattle.model_places.specs.Places.{Lists}
use Rattle.model_drive.proofs.Ends.{stop_off}
use Rattle.model_drive.proofs.Powers.{power_step}
use Rattle.model_drive.specs.Shown.{Shown, capacity}
use Rattle.model_drive.specs.Repairs.{mount_most, RepairsList, RepairsSdl}
use Rattle.model_drive.specs.Power.{PowerCause, turned_on, MountsAny, MountsLists, MountsNone, RepairsChosenDds, StopsInMount}
use Rattle.ram_medium.specs.Laws.{ControlLaws, machine_shown}
use Rattle.ram_lists.specs.Mounts.{KeepsGiven, RepairsCopies, RepairsBothParts, RepairsChosen, EndsWithLists, EndsBare, WasStopped}
use Rattle.ram_transfer.specs.Shown.{shown_without, shown_unformatted, shown_under}
use Rattle.ram_transfer.proofs.Machines.{machine_stops}
use Rattle.ram_states.specs.Powers.{PowerSteps, StopsPower}
use Rattle.ram_states.proofs.Keeping.{off_right, under_right}

module _ {M : Type 0} (world : M → World) (reaches : M → M → Span → Type 0) (takes : M → M → Event → Type 0) (arms : M → List WornBlock) (armed_cut : M → Option ArmedCut)
    (laws : ControlLaws world reaches takes arms armed_cut) (shape : Shape) where
  abbrev machine : M → Machine
  machine m = machine_shown world arms armed_cut m

  abbrev before : M → Shown
  before off = shown_without shape (machine off)

  abbrev after : M → Option Lists → ℕ → Shown
  after new lists mark = record { shape = shape; medium = machine new; lists = lists; mark = mark; buffer = [] }

  module _ (off on : M) (turned : takes off on PowerOn) (powers : world on ≡ record (world off) { power = true }) where
    abbrev old : Shown
    old = before off

    reached : (new : M) (k : ℕ) → reaches on new (Uses k) → Reach (turned_on old).medium (machine new) k
    reached new k r = subst (λ (m : Machine). Reach m (machine new) k) (laws.exactly off on PowerOn turned) (laws.reach on new k r)

    any : (new : M) (lists : Option Lists) (mark : ℕ) → KeepsGiven shape (world on) (world new) → MountsAny old (after new lists mark)
    any new lists mark keeps =
        let k = subst (λ (w : World). KeepsGiven shape w (world new)) powers keeps in
        record { only = k.only; given = λ known. k.given; unbuffered = refl }

    repairs : {V : Type 0} (text : V → List ℕ → Type 0) (place : ℕ → ℕ) (new : M) (lists : Option Lists) (mark : ℕ) (value : V) (uses : ℕ)
        → RepairsCopies text place (world on) (world new) value uses → RepairsList text place old (after new lists mark) value uses
    repairs text place new lists mark value uses r =
        let k = subst (λ (w : World). RepairsCopies text place w (world new) value uses) powers r in
        record { rewritten = k.rewritten; few = k.few; uses_are = k.uses_are; rewrites = k.rewrites }

    repairs_parts : (new : M) (lists : Option Lists) (mark : ℕ) (sdl : Sdl) (uses : ℕ) → RepairsBothParts shape (world on) (world new) sdl uses → RepairsSdl old (after new lists mark) sdl uses
    repairs_parts new lists mark sdl uses r =
        let k = subst (λ (w : World). RepairsBothParts shape w (world new) sdl uses) powers r in
        record {
          firsts = k.firsts;
          seconds = k.seconds;
          few = k.few;
          few' = k.few';
          none = k.none;
          uses_are = k.uses_are;
          of_firsts = k.of_firsts;
          of_seconds = k.of_seconds;
        }

    known_on : (known : Bool) → (world off).known ≡ known → (world on).known ≡ known
    known_on known is = ap (λ (w : World). w.known) powers ∙ is

    pub mounted : (new : M) (lists : Lists) → EndsWithLists world reaches shape on new lists
        → MountsLists old (shown_under shape (machine new) lists []) (capacity (shown_under shape (machine new) lists []))
    mounted new lists ends = record {
      any = any new (Some lists) lists.dds.counter ends.ended.keeps;
      lists = lists;
      in_use = refl;
      mark_is = refl;
      known_is = refl;
      seen = ends.finds.seen;
      sees = λ known. (subst (λ (w : World). AreSeen shape w.cells ends.finds.seen (world new).cells) powers ends.finds.are_seen);
      chosen = λ known. ends.finds.chosen (known_on true known);
      dds_uses = ends.dds_uses;
      dds = repairs IsDdsText (dds_block shape) new (Some lists) lists.dds.counter lists.dds ends.dds_uses ends.dds;
      sdl_uses = ends.sdl_uses;
      sdl = repairs_parts new (Some lists) lists.dds.counter lists.sdl ends.sdl_uses ends.sdl;
      mores = ends.mores;
      few = ends.finds.few;
      mores_are = λ known. ends.finds.counted (known_on true known);
      ends = record { reach = reached new (8 + ends.mores + (ends.dds_uses + ends.sdl_uses)) ends.ended.continues.reach; is_on = ends.ended.continues.is_on };
    }

    pub ready_steps : (new : M) (found : Lists) → EndsWithLists world reaches shape on new found
        → PowerSteps old (shown_under shape (machine new) found []) (outs.Ready (capacity (shown_under shape (machine new) found [])))
    ready_steps new found ends s stood =
        power_step old (shown_under shape (machine new) found []) refl (under_right shape (machine new) found [] ends.finds.valid ends.finds.settled) s stood (outs.Ready _) (mounted new found ends)

    repaired_chosen : (new : M) (mark : ℕ) (chosen : Option Dds) (uses : ℕ) → RepairsChosen shape (world on) (world new) chosen uses → RepairsChosenDds old (after new None mark) chosen uses
    repaired_chosen new mark None uses r = r
    repaired_chosen new mark (Some dds) uses r = (repairs IsDdsText (dds_block shape) new None mark dds uses r.0, λ known. r.1)

    pub unformatted : (new : M) (mark : ℕ) → EndsBare world reaches shape on new mark → MountsNone old (shown_unformatted shape (machine new) mark)
    unformatted new mark ends = record {
      any = any new None mark ends.ended.keeps;
      no_lists = refl;
      seen = ends.finds.seen;
      sees = λ known. (subst (λ (w : World). AreSeen shape w.cells ends.finds.seen (world new).cells) powers ends.finds.are_seen);
      mark_is = λ known. ends.finds.mark_is (known_on true known);
      chosen = ends.dds;
      lacks = λ known. ends.finds.lacks (known_on true known);
      uses = ends.uses;
      repaired = repaired_chosen new mark ends.dds ends.uses ends.repaired;
      dies = λ known. (subst (λ (w : World). SdlCellsDie shape w.cells (world new).cells) powers ends.dies);
      mores = ends.mores;
      few = ends.finds.few;
      mores_are = λ known. ends.finds.counted (known_on true known);
      ends = record { reach = reached new (8 + ends.mores + ends.uses) ends.ended.continues.reach; is_on = ends.ended.continues.is_on };
    }

    stops_shown : (new : M) (stop : Stop) → Stops world reaches on new 48 stop → Stops (λ (m : Machine). m.world) ReachBy (turned_on old).medium (machine new) mount_most stop
    stops_shown new stop s =
        subst (λ (m : Machine). Stops (λ (m : Machine). m.world) ReachBy m (machine new) mount_most stop) (laws.exactly off on PowerOn turned) (machine_stops world reaches takes arms armed_cut laws on new 48 mount_most refl stop s)

    was_stopped : (new : M) (stop : Stop) → WasStopped world reaches shape on new stop → StopsInMount old (shown_without shape (machine new)) stop
    was_stopped new stop was = record {
      any = any new None 0 was.keeps;
      stopped = record { stops = stops_shown new stop was.stops; no_lists = refl; no_mark = refl; no_buffer = refl };
      left = subst (λ (w : World). w.known ≡ true → StopsMounting shape w.cells (world new).cells) powers was.left;
    }

    -- the power was on before, so that it was no call on a medium without
    pub was_on : (new : M) (stop : Stop) → WasStopped world reaches shape on new stop → ¬ (stop ≡ stops.Off)
    was_on new stop was is = (subst (λ (s : Stop). Stops world reaches on new 48 s) is was.stops).was_off was.was_on

    pub fell : (new : M) (stop : Stop) → WasStopped world reaches shape on new stop → ¬ IsTrue (world new).power
    fell new stop was = stop_off (turned_on old).medium (machine new) mount_most stop (stops_shown new stop was.stops)

    pub stopped : (new : M) (stop : Stop) (out : PowerOut) → StopsPower stop out → WasStopped world reaches shape on new stop
        → PowerCause old (shown_without shape (machine new)) out × PowerSteps old (shown_without shape (machine new)) out
    stopped new stops.Cut out is was = subst (λ (o : PowerOut). PowerCause old (before new) o × PowerSteps old (before new) o) (sym is)
        (was_stopped new stops.Cut was, λ s stood. power_step old (before new) refl (off_right shape (machine new) (fell new stops.Cut was)) s stood outs.Cut (was_stopped new stops.Cut was))
    stopped new stops.Off out is was = absurd is
    stopped new stops.Fault out is was = subst (λ (o : PowerOut). PowerCause old (before new) o × PowerSteps old (before new) o) (sym is)
        (was_stopped new stops.Fault was, λ s stood. power_step old (before new) refl (off_right shape (machine new) (fell new stops.Fault was)) s stood outs.Fault (was_stopped new stops.Fault was))
