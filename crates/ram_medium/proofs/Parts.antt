-- Parts of the work on a medium, one after another, and that nothing but events happened in them.
use Rattle.std.specs.Prelude.{◌≡◌, ℕ, ◌+◌, ◌≤◌, IsTrue, List}
use Rattle.std.proofs.Common.{sym, ap, ◌∙◌, inl, inr, subst, arith}
use Rattle.model_counts.specs.Counts.{counted}
use Rattle.model_medium.specs.World.{World, Span, Uses, FailedUse, HasFailed, FailsInRead, FailsInWrite}
use Rattle.model_medium.specs.Exact.{Event}
use Rattle.model_medium.specs.Happened.{Happened}
use Rattle.model_medium.proofs.Happening.{happened_none, happened_then}
use Rattle.ram_medium.specs.Laws.{MediumLaws}
use Rattle.model_stops.specs.Stops.{FailsInUse, Continues, Stops}
use Rattle.model_stops.specs.declared.Stop.{Stop}
use Rattle.model_stops.specs.declared.Stop.TheVariants as stops

-- a failed read and a failed write are failed uses
pub read_fails : (old new : World) (block : ℕ) (into into' : List ℕ) → FailsInRead old new block into into' → FailsInUse old new block
read_fails old new block into into' fails = inl (into, into', fails)

pub write_fails : (old new : World) (block : ℕ) (bytes : List ℕ) → FailsInWrite old new block bytes → FailsInUse old new block
write_fails old new block bytes fails = inr (bytes, fails)

-- what the medium lies on failed in a use that failed
pub use_failed : (old new : World) (block : ℕ) → FailsInUse old new block → HasFailed old new
use_failed old new block (inl read) = read.2.failed
use_failed old new block (inr write) = write.1.failed

module _ {M : Type 0} (world : M → World) (block_count : M → ℕ) (reaches : M → M → Span → Type 0) (laws : MediumLaws world block_count reaches) where
  -- no part at all
  pub continues_none : (m : M) → IsTrue (world m).power → Continues world reaches m m 0
  continues_none m on = record { reach = laws.none m; is_on = on }

  pub continues_then : (a b c : M) (j k : ℕ) → Continues world reaches a b j → Continues world reaches b c k → Continues world reaches a c (j + k)
  continues_then a b c j k one two = record { reach = laws.adds_up a b c j k one.reach two.reach; is_on = two.is_on }

  -- where the power is on afterwards it was on all the while, and no cut is counted
  pub continues_quiet : (a b : M) (k : ℕ) → Continues world reaches a b k → IsTrue (world a).power × ((world b).cuts ≡ (world a).cuts)
  continues_quiet a b k one = elim (laws.follows a b k one.reach).ends [
    | inl kept ↦ (sym kept.power_same ∙ one.is_on, kept.no_cut)
    | inr fell ↦ absurd (fell.turns_off one.is_on)
  ]

  -- a use that failed, with none before it
  pub stops_at_once : (a b : M) (block : ℕ) → FailsInUse (world a) (world b) block → reaches a b FailedUse → Stops world reaches a b 1 stops.Fault
  stops_at_once a b block fails failed = record { mid = a; before = 0; few = omega arith; reach = laws.none a; block = block; fails = fails; failed = failed }

  -- a stop after a part that went to its end
  pub stops_later : (a b c : M) (j most : ℕ) (why : Stop) → Continues world reaches a b j → Stops world reaches b c most why → Stops world reaches a c (j + most) why
  stops_later a b c j most stops.Cut one two = record {
    uses = j + two.uses;
    few = omega (arith, two.few);
    reach = laws.adds_up a b c j two.uses one.reach two.reach;
    cut = record { turns_off = two.cut.turns_off; one_cut = two.cut.one_cut ∙ ap (λ n. counted n 1) (continues_quiet a b j one).1; no_fault = two.cut.no_fault ∙ (laws.follows a b j one.reach).lasts.no_fault };
  }
  stops_later a b c j most stops.Off one two = absurd (two.was_off one.is_on)
  stops_later a b c j most stops.Fault one two = record {
    mid = two.mid;
    before = j + two.before;
    few = omega (arith, two.few);
    reach = laws.adds_up a b two.mid j two.before one.reach two.reach;
    block = two.block;
    fails = two.fails;
    failed = two.failed;
  }

  -- a stop within fewer uses is one within more
  pub stops_within : (a b : M) (most more : ℕ) (why : Stop) → most ≤ more → Stops world reaches a b most why → Stops world reaches a b more why
  stops_within a b most more stops.Cut le stop = record { uses = stop.uses; few = omega (arith, stop.few); reach = stop.reach; cut = stop.cut }
  stops_within a b most more stops.Off le stop = stop
  stops_within a b most more stops.Fault le stop = record { mid = stop.mid; before = stop.before; few = omega (arith, stop.few); reach = stop.reach; block = stop.block; fails = stop.fails; failed = stop.failed }

module _ {M : Type 0} (world : M → World) (reaches : M → M → Span → Type 0) (takes : M → M → Event → Type 0) (happens : (a b : M) (span : Span) → reaches a b span → Happened takes a b) where
  pub nothing_happened : (a b : M) → b ≡ a → Happened takes a b
  nothing_happened a b same = subst (Happened takes a) (sym same) (happened_none takes a)

  pub part_happened : (a b : M) (k : ℕ) → Continues world reaches a b k → Happened takes a b
  part_happened a b k part = happens a b (Uses k) part.reach

  pub stop_happened : (a b : M) (most : ℕ) (why : Stop) → IsTrue (world a).power → Stops world reaches a b most why → Happened takes a b
  stop_happened a b most stops.Cut on stop = happens a b (Uses stop.uses) stop.reach
  stop_happened a b most stops.Off on stop = absurd (stop.was_off on)
  stop_happened a b most stops.Fault on stop = happened_then takes a stop.mid b (happens a stop.mid (Uses stop.before) stop.reach) (happens stop.mid b FailedUse stop.failed)
