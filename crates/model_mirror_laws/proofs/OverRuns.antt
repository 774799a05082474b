-- A sector that was written good is kept, and stays so over all runs.
use Rattle.std.specs.Prelude.{◌≡◌, ℕ, zero, suc, ◌+◌, ◌*◌, ◌-◌, ◌≤◌, not, MatchBool, if◌then◌else◌, Bool, true, false, List, length, take, drop}
use Rattle.std.proofs.Common.{refl, sym, ◌∙◌, inl, inr, subst, arith}
use Rattle.std.proofs.lemmas.Bool.{false≢true}
use Rattle.model_geometry.specs.Geometry.{Shape}
use Rattle.model_sectors.specs.Discs.{Standing, On, Off}
use Rattle.model_sectors.specs.Requests.{block_with, blocks_covered}
use Rattle.model_sectors.proofs.Pieces.{sectors_replaced}
use Rattle.model_sectors.proofs.Covering.{covered_all}
use Rattle.model_drive.specs.declared.WriteOut.TheVariants as writes
use Rattle.model_drive.specs.Shown.{Shown, IsKnown}
use Rattle.model_drive.specs.Writes.{WriteStep}
use Rattle.model_cache.specs.Falling.{LiesIn}
use Rattle.model_mirror.specs.Shown.{MirrorShown}
use Rattle.model_mirror.specs.Writes.{WritesWithSides, MirrorWriteCause}
use Rattle.model_mirror.proofs.WriteSteps.{lies_in_range}
use Rattle.model_mirror.specs.Sides.{named_side, side_a, side_b}
use Rattle.model_mirror.specs.Standing.{MayBe}
use Rattle.model_mirror_laws.specs.Kept.{AreSides}
use Rattle.model_mirror_laws.specs.Ahead.{IsAhead, KnowsRecords}
use Rattle.model_mirror_laws.specs.Bytes.{ComesSo, AllHave, IsKept, SidesAge, IsReopened, BeginsAgain}
use Rattle.model_mirror_laws.specs.Runs.{StepOfRuns, StepsOfRuns}
use Rattle.model_mirror_laws.proofs.Soundness.{IsSide, side_left, lead_is, other_is, both_are, power_sides, read_sides, write_sides, format_sides, resync_sides}
use Rattle.model_mirror_laws.proofs.MirrorRecords.{writes_led}
use Rattle.model_mirror_laws.proofs.Knowing.{on_ahead, knows_lead, power_knows, read_knows, write_knows, resync_knows, format_knows, begins_knows}
use Rattle.model_mirror_laws.proofs.Comes.{power_keeps_sector, begins_again}
use Rattle.model_mirror_laws.proofs.Staying.{kept_ahead, lead_keeps, elsewhere_ahead, sides_range, resync_keeps, format_keeps, write_keeps}
use Rattle.model_mirror_laws.proofs.ReadStays.{read_keeps}
use Rattle.model_mirror_laws.proofs.Aging.{ages_know, ages_keep}

-- A sector of a good write.
module _ (shape : Shape) (old new : MirrorShown) (sides : AreSides shape old) (lba n : ℕ) (payload : List ℕ) (whole : length payload ≡ 2048 * n) (at : ℕ) (from : lba ≤ at) (within : at + 1 ≤ lba + n) where
  abbrev written : List ℕ
  written = take 2048 (drop (2048 * (at - lba)) payload)

  has_written : (s t : Standing) → ((disc : List ℕ) → s ≡ On disc → LiesIn disc lba n payload) → WriteStep new.lead (λ x. x ≡ t) s lba n payload writes.Good → AllHave at written t
  has_written (On disc) t lies step =
      let lie = lies disc refl in
      let end = covered_all lba n (omega (arith, from, within)) in
      subst (AllHave at written) step (inr (sectors_replaced disc lie.blocks lba n payload (block_with lba + blocks_covered lba n) at 1 whole lie.inside lie.as_long from (omega (arith, end, within)) within), tt)
  has_written (Off discs) t lies step = absurd step

  pub write_begins : MirrorWriteCause old new lba n writes.Good → ComesSo old new (λ s t. WriteStep new.lead (λ x. x ≡ t) s lba n payload writes.Good) → KnowsRecords old → (s : Standing) → MayBe old s → IsKept at written new
  write_begins cause comes knows s stands = go old.on refl cause
    where
      ahead : old.on ≡ true → WritesWithSides old new lba n writes.Good → IsAhead new.lead new.other
      ahead on (inl led) = kept_ahead old new (writes_led lba n shape old new sides writes.Good led.1) (on_ahead old knows on)
      ahead on (inr (inl e)) = elsewhere_ahead lba n payload whole shape old new sides knows on writes.Good e
      ahead on (inr (inr stop)) = absurd (false≢true stop.stopped)

      go : (b : Bool) → old.on ≡ b → MatchBool b (WritesWithSides old new lba n writes.Good) ((writes.Good ≡ writes.Off) × (new ≡ old)) → IsKept at written new
      go true on with_sides =
          let after = comes s stands in
          lead_keeps at written new after.0 after.1
          (has_written s after.0 (λ disc is. let on_disc : MayBe old (On disc) = subst (MayBe old) is stands in lies_in_range old.lead disc lba n payload on_disc.1 (sides_range lba n payload whole old new writes.Good tt with_sides) whole) after.2)
          (inr (ahead on with_sides))
      go false on p = absurd (let w = p.0 in cc)

-- cells are known of both sides, by their names or by their roles
known_by : (P : Shown → Type 0) (b : Bool) (x y : Shown) → P (if b then x else y) → P (if b then y else x) → P x × P y
known_by P true x y one two = (one, two)
known_by P false x y one two = (two, one)

by_known : (P : Shown → Type 0) (b : Bool) (x y : Shown) → P x → P y → P (if b then x else y) × P (if b then y else x)
by_known P true x y one two = (one, two)
by_known P false x y one two = (two, one)

begins_know : (turned : Bool) (old new : MirrorShown) → BeginsAgain turned old new → KnowsRecords old → KnowsRecords new
begins_know turned old new begins knows =
    let both = known_by IsKnown new.lead_is_a new.lead new.other (a_known turned begins.a.as_known) (b_known turned begins.b.as_known) in
    begins_knows new both.0 both.1 begins.off begins.not_by_hand begins.other_unseen
  where
    was : IsKnown (side_a old) × IsKnown (side_b old)
    was = by_known IsKnown old.lead_is_a old.lead old.other knows.lead_known knows.other_known

    a_known : (turned : Bool) → (side_a new).medium.world.known ≡ (named_side (not turned) old).medium.world.known → IsKnown (side_a new)
    a_known true same = same ∙ was.1
    a_known false same = same ∙ was.0

    b_known : (turned : Bool) → (side_b new).medium.world.known ≡ (named_side turned old).medium.world.known → IsKnown (side_b new)
    b_known true same = same ∙ was.0
    b_known false same = same ∙ was.1

-- the geometry of both sides stays, and what they show is sound, by their names or by their roles
ages_sides : (shape : Shape) (old new : MirrorShown) → SidesAge old new → AreSides shape old → AreSides shape new
ages_sides shape old new ages sides = both_are shape new (side_left shape old.lead new.lead ages.lead.leaves (lead_is shape old sides)) (side_left shape old.other new.other ages.other.leaves (other_is shape old sides))

begins_sides : (shape : Shape) (turned : Bool) (old new : MirrorShown) → BeginsAgain turned old new → AreSides shape old → AreSides shape new
begins_sides shape turned old new begins sides =
    let both = known_by (IsSide shape) new.lead_is_a new.lead new.other (a_side turned begins.a) (b_side turned begins.b) in
    both_are shape new both.0 both.1
  where
    was : IsSide shape (side_a old) × IsSide shape (side_b old)
    was = by_known (IsSide shape) old.lead_is_a old.lead old.other (lead_is shape old sides) (other_is shape old sides)

    a_side : (turned : Bool) → IsReopened (named_side (not turned) old) (side_a new) → IsSide shape (side_a new)
    a_side true opened = side_left shape (side_b old) (side_a new) opened.leaves was.1
    a_side false opened = side_left shape (side_a old) (side_a new) opened.leaves was.0

    b_side : (turned : Bool) → IsReopened (named_side turned old) (side_b new) → IsSide shape (side_b new)
    b_side true opened = side_left shape (side_a old) (side_b new) opened.leaves was.0
    b_side false opened = side_left shape (side_b old) (side_b new) opened.leaves was.1

module _ (shape : Shape) (at : ℕ) (bytes : List ℕ) where
  -- what every step keeps
  abbrev Kept : MirrorShown → Type 0
  Kept shown = AreSides shape shown × KnowsRecords shown × IsKept at bytes shown

  one_step : (old new : MirrorShown) → StepOfRuns old new at → Kept old → Kept new
  one_step old new step (sides, knows, kept) = go step
    where
      go : StepOfRuns old new at → Kept new
      go (inl p) = (
        power_sides shape old new sides p.out p.cause,
        power_knows old new p.out p.cause (knows_lead old knows),
        power_keeps_sector old new p.out p.cause p.copies p.so knows at bytes kept,
      )
      go (inr (inl r)) = (
        read_sides shape r.lba r.n old new sides r.out r.cause,
        read_knows old new knows shape sides r.lba r.n r.out r.cause,
        read_keeps r.lba r.n at bytes r.into shape old new sides r.out r.cause r.so knows kept,
      )
      go (inr (inr (inl w))) = (
        write_sides shape w.lba w.n old new sides w.out w.cause,
        write_knows old new knows shape sides w.lba w.n w.out w.cause,
        write_keeps w.lba w.n w.payload w.whole at bytes w.apart shape old new sides w.out w.cause w.so knows kept,
      )
      go (inr (inr (inr (inl r)))) = (
        resync_sides shape old new sides r.out r.cause,
        resync_knows old new knows shape sides r.out r.cause,
        resync_keeps at bytes shape old new sides knows kept r.out r.cause r.so,
      )
      go (inr (inr (inr (inr (inl f))))) = (
        format_sides shape old new sides f.out f.cause,
        format_knows old new knows f.out f.cause,
        format_keeps at bytes old new f.out f.refused f.cause f.so knows kept,
      )
      go (inr (inr (inr (inr (inr (inl a)))))) = (ages_sides shape old new a sides, ages_know old new a knows, ages_keep at bytes old new a kept)
      go (inr (inr (inr (inr (inr (inr b)))))) = (
        begins_sides shape b.turned old new b.begins sides,
        begins_know b.turned old new b.begins knows,
        begins_again b.turned old new b.begins at bytes kept,
      )

  pub all_steps : (old new : MirrorShown) (steps : ℕ) → StepsOfRuns at old new steps → Kept old → Kept new
  all_steps old new zero same kept = subst Kept (sym same) kept
  all_steps old new (suc k) (mid, steps, last) kept = one_step mid new last (all_steps old mid k steps kept)
