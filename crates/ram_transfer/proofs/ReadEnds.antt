-- How a read of all parts of a request ends.
use Rattle.std.specs.Prelude.{◌≡◌, ℕ, ◌+◌, ◌*◌, ◌<◌, ◌≤◌, ◌⊎◌, true, IsTrue, List, length}
use Rattle.std.proofs.Common.{sym, ap, ◌∙◌, subst, arith}
use Rattle.model_geometry.specs.Geometry.{Shape}
use Rattle.model_medium.specs.Cells.{Cell, IsGood, cell_at}
use Rattle.model_medium.specs.World.{World, Span}
use Rattle.model_buffer.specs.Buffer.{numbers_in}
use Rattle.model_buffer.specs.declared.TheConstants.{BUFFERED_BLOCKS}
use Rattle.model_sectors.specs.Requests.{block_with, blocks_covered}
use Rattle.model_sectors.specs.Uses.{is_buffered, is_at_hand, read_uses}
use Rattle.model_sectors.proofs.Covering.{covered_inside}
use Rattle.model_stops.specs.declared.Stop.{Stop}
use Rattle.model_places.specs.Places.{Lists, logical_count, home_of}
use Rattle.model_places.specs.Valid.{AreValid}
use Rattle.model_places.proofs.Homes.{home_differs}
use Rattle.model_drive.specs.Shown.{HoldsBlocksOf}
use Rattle.ram_medium.specs.Laws.{MediumLaws}
use Rattle.ram_medium.proofs.Parts.{continues_then, stops_later, stops_within}
use Rattle.ram_requests.proofs.ReadBytes.{prefix_all, one_more_use, few_before_uses}
use Rattle.ram_transfer.specs.Blocks.{DiesAtMost, CannotBeRead, FetchStopped}
use Rattle.ram_transfer.specs.Reading.{HaveBytes, ReadsParts, EndsInBlock, MeetsBlock, StopsInBlock}
use Rattle.ram_transfer.proofs.ReadTurns.{ReadSoFar, not_at_hand}

module _ {M : Type 0} (world : M → World) (block_count : M → ℕ) (reaches : M → M → Span → Type 0) (laws : MediumLaws world block_count reaches) (shape : Shape) (lists : Lists) where
  -- all blocks were read
  pub read_all : (old new : M) (held held' : List (ℕ × List ℕ)) (lba n k : ℕ) (into : List ℕ) → ReadSoFar world reaches shape lists old new held held' lba n k into
      → k ≡ blocks_covered lba n → ReadsParts world reaches old new held shape lists lba n held' into
  read_all old new held held' lba n k into so_far all =
      let ended : ReadSoFar world reaches shape lists old new held held' lba n (blocks_covered lba n) into =
      subst (λ (m : ℕ). ReadSoFar world reaches shape lists old new held held' lba n m into) all so_far in
      record { all = ended.read; gives = λ disc stood. prefix_all lba n disc into ended.long (ended.prefix disc stood) }

  -- a block was met that was not at hand
  module _ (old mid new : M) (held held' : List (ℕ × List ℕ)) (lba n k : ℕ) (into : List ℕ) (so_far : ReadSoFar world reaches shape lists old mid held held' lba n k into)
      (covered : k < blocks_covered lba n) where
    abbrev b : List ℕ
    b = numbers_in held

    abbrev i : ℕ
    i = block_with lba + k

    abbrev home : ℕ
    home = home_of shape lists i

    not_hand : ¬ IsTrue (is_buffered (numbers_in held') i) → ¬ IsTrue (is_at_hand b (block_with lba) k)
    not_hand not_buffered = not_at_hand world block_count reaches laws shape lists old mid held held' lba n k so_far.read not_buffered

    ends_here : ¬ IsTrue (is_buffered (numbers_in held') i) → length held' ≤ BUFFERED_BLOCKS → DiesAtMost (world mid).cells (world new).cells home
        → EndsInBlock world reaches old new held shape lists lba n k
    ends_here not_buffered few dies = record {
      covered = covered;
      not_at_hand = not_hand not_buffered;
      few = few_before_uses b (block_with lba) k held' so_far.read.touched so_far.read.few few;
      dies = subst (λ (l : List Cell). DiesAtMost l (world new).cells home) so_far.read.same_cells dies;
    }

    -- and its home has no whole bytes
    module _ (valid : AreValid shape lists) (inside : lba + n ≤ 16 * logical_count shape lists) (held'' : List (ℕ × List ℕ))
        (did : CannotBeRead world reaches mid new held' i home held'') where
      within : i < logical_count shape lists
      within = covered_inside lba n k (logical_count shape lists) inside covered

      -- the homes of the blocks before are other blocks
      same_home : (j : ℕ) → j < k → cell_at (world new).cells (home_of shape lists (block_with lba + j)) ≡ cell_at (world mid).cells (home_of shape lists (block_with lba + j))
      same_home j less = did.dies.others (home_of shape lists (block_with lba + j))
          (λ same. apart (home_differs shape lists valid.primary valid.together.secondary (block_with lba + j) i (let here = within in omega arith) within same))
        where
          apart : ¬ (block_with lba + j ≡ i)
          apart e = omega arith

      readable : (world old).known ≡ true → HaveBytes shape lists (world new).cells b (block_with lba) k
      readable known j less = subst (λ (c : Cell). IsGood c ⊎ IsTrue (is_buffered b (block_with lba + j))) (sym (same_home j less)) (so_far.read.readable known j less)

      pub read_meets : MeetsBlock world reaches old new held shape lists lba n held'' k
      read_meets = record {
        ended = ends_here did.not_buffered did.few did.dies;
        continues = continues_then world block_count reaches laws old mid new (read_uses b (block_with lba) k) 1 so_far.read.continues did.continues;
        touched = ap numbers_in did.buffer_is ∙ so_far.read.touched;
        readable = readable;
        not_good = did.not_good;
        holds = λ disc stood. subst (HoldsBlocksOf disc) (sym did.buffer_is) (so_far.read.holds disc stood);
      }

    -- or its fetch was stopped
    pub read_stops : (stop : Stop) → FetchStopped world reaches mid new held' i home stop → StopsInBlock world reaches old new held shape lists lba n stop
    read_stops stop did = record {
      before = k;
      ended = ends_here did.not_buffered did.few did.dies;
      stops = stops_within world block_count reaches laws old new (read_uses b (block_with lba) k + 1) (read_uses b (block_with lba) (blocks_covered lba n)) stop
          (one_more_use b (block_with lba) (blocks_covered lba n) k covered (not_hand did.not_buffered))
          (stops_later world block_count reaches laws old mid new (read_uses b (block_with lba) k) 1 stop so_far.read.continues did.stops);
    }
