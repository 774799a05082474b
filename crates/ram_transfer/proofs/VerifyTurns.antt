-- A verification of a request, home after home.
use Rattle.std.specs.Prelude.{◌≡◌, ℕ, ◌+◌, ◌*◌, ◌<◌, ◌≤◌, true, IsTrue, List}
use Rattle.std.proofs.Common.{refl, sym, ◌∙◌, inl, inr, subst, arith}
use Rattle.std.proofs.lemmas.Bool.{cases_eq}
use Rattle.model_geometry.specs.Geometry.{Shape}
use Rattle.model_medium.specs.Cells.{Cell, Good, IsGood, cell_at}
use Rattle.model_medium.specs.World.{World, Span, ReadsCell, FindsNoBytes}
use Rattle.model_sectors.specs.Requests.{block_with, blocks_covered}
use Rattle.model_sectors.proofs.Covering.{covered_inside}
use Rattle.model_stops.specs.Stops.{Continues, Stops}
use Rattle.model_stops.specs.declared.Stop.{Stop}
use Rattle.model_stops.specs.declared.Stop.TheVariants as stops
use Rattle.model_places.specs.Places.{Lists, logical_count, home_of}
use Rattle.model_places.specs.Valid.{AreValid}
use Rattle.model_places.proofs.Homes.{home_differs}
use Rattle.ram_medium.specs.Laws.{MediumLaws}
use Rattle.ram_medium.specs.WholeBlocks.{StoppedRead}
use Rattle.ram_medium.proofs.Parts.{continues_none, continues_then, stops_later, stops_within}
use Rattle.ram_transfer.specs.Blocks.{DiesAtMost}
use Rattle.ram_transfer.specs.Verifying.{HaveWholeHomes, HasVerifiedUpTo, MeetsBadHome, StopsAtHome}
use Rattle.ram_transfer.proofs.Fetches.{use_dies, off_dies}
use Rattle.ram_transfer.proofs.ReadTurns.{where_known}

-- a read that was stopped left the other cells as they were
stopped_dies : (old new : World) (home : ℕ) (into into' : List ℕ) (stop : Stop) → StoppedRead old new home into into' stop → DiesAtMost old.cells new.cells home
stopped_dies old new home into into' stops.Cut rule = use_dies old new home rule.one rule.left
stopped_dies old new home into into' stops.Off rule = off_dies old new home rule.0
stopped_dies old new home into into' stops.Fault rule = use_dies old new home rule.one rule.left

module _ {M : Type 0} (world : M → World) (block_count : M → ℕ) (reaches : M → M → Span → Type 0) (laws : MediumLaws world block_count reaches) (shape : Shape) (lists : Lists) where
  -- none was read yet
  pub verified_none : (old : M) (lba : ℕ) → IsTrue (world old).power → HasVerifiedUpTo world reaches old old shape lists lba 0
  verified_none old lba on = record {
    continues = continues_none world block_count reaches laws old on;
    same_cells = refl;
    good = λ known k less. absurd (omega arith);
  }

  -- the home of a covered block is read
  module _ (old mid new : M) (lba n k : ℕ) (so_far : HasVerifiedUpTo world reaches old mid shape lists lba k) (covered : k < blocks_covered lba n)
      (home : ℕ) (home_is : home ≡ home_of shape lists (block_with lba + k)) (into into' : List ℕ) where
    -- it has whole bytes
    module _ (reads : ReadsCell (world mid) (world new) home into') where
      here : (world old).known ≡ true → IsGood (cell_at (world new).cells (home_of shape lists (block_with lba + k)))
      here known =
          let as_known = (laws.follows old mid k so_far.continues.reach).lasts.as_known in
          let gives : cell_at (world new).cells home ≡ Good into' =
          where_known (world mid).known (cell_at (world new).cells home ≡ Good into') (as_known ∙ known) reads.gives in
          subst (λ (p : ℕ). IsGood (cell_at (world new).cells p)) home_is (subst IsGood (sym gives) tt)

      good_next : HaveWholeHomes world reaches old new shape lists lba (k + 1)
      good_next known j less = elim (cases_eq j k) [
        | inl e ↦ subst (λ (m : ℕ). IsGood (cell_at (world new).cells (home_of shape lists (block_with lba + m)))) (sym e) (here known)
        | inr ne ↦ subst (λ (l : List Cell). IsGood (cell_at l (home_of shape lists (block_with lba + j)))) (sym reads.same) (so_far.good known j (omega arith))
      ]

      pub verified_more : Continues world reaches mid new 1 → HasVerifiedUpTo world reaches old new shape lists lba (k + 1)
      verified_more one = record {
        continues = continues_then world block_count reaches laws old mid new k 1 so_far.continues one;
        same_cells = reads.same ∙ so_far.same_cells;
        good = good_next;
      }

    dies_here : DiesAtMost (world mid).cells (world new).cells home → DiesAtMost (world old).cells (world new).cells (home_of shape lists (block_with lba + k))
    dies_here dies =
        subst (λ (p : ℕ). DiesAtMost (world old).cells (world new).cells p) home_is
        (subst (λ (l : List Cell). DiesAtMost l (world new).cells home) so_far.same_cells dies)

    -- it has none
    module _ (valid : AreValid shape lists) (inside : lba + n ≤ 16 * logical_count shape lists) (finds : FindsNoBytes (world mid) (world new) home into into') where
      -- the homes of the blocks before are other blocks
      same_home : (j : ℕ) → j < k → cell_at (world new).cells (home_of shape lists (block_with lba + j)) ≡ cell_at (world mid).cells (home_of shape lists (block_with lba + j))
      same_home j less = finds.one.others (home_of shape lists (block_with lba + j)) (λ same.
          let within : block_with lba + k < logical_count shape lists = covered_inside lba n k (logical_count shape lists) inside covered in
          let one : block_with lba + j ≡ block_with lba + k =
          home_differs shape lists valid.primary valid.together.secondary (block_with lba + j) (block_with lba + k) (omega (arith, within)) within (same ∙ home_is) in
          omega (arith, one))

      pub verify_meets : Continues world reaches mid new 1 → MeetsBadHome world reaches old new shape lists lba n k
      verify_meets one = record {
        covered = covered;
        continues = continues_then world block_count reaches laws old mid new k 1 so_far.continues one;
        good = λ known j less. subst IsGood (sym (same_home j less)) (so_far.good known j less);
        not_good = subst (λ (p : ℕ). ¬ IsGood (cell_at (world new).cells p)) home_is finds.not_good;
        dies = dies_here (use_dies (world mid) (world new) home finds.one finds.left);
      }

    -- or its read was stopped
    pub verify_stops : (stop : Stop) → StoppedRead (world mid) (world new) home into into' stop → Stops world reaches mid new 1 stop → StopsAtHome world reaches old new shape lists lba n stop
    verify_stops stop rule stopped = record {
      before = k;
      covered = covered;
      stops = stops_within world block_count reaches laws old new (k + 1) (blocks_covered lba n) stop (omega (arith, covered))
          (stops_later world block_count reaches laws old mid new k 1 stop so_far.continues stopped);
      dies = dies_here (stopped_dies (world mid) (world new) home into into' stop rule);
    }
