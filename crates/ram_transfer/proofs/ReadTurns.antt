-- A read of a request, block after block.
use Rattle.std.specs.Prelude.{◌≡◌, ℕ, suc, ◌+◌, ◌*◌, ◌<◌, ◌≤◌, ◌⊎◌, true, IsTrue, List, length, take}
use Rattle.std.specs.Bool.{OnTrue}
use Rattle.std.proofs.Common.{Bool, refl, sym, ap, ◌∙◌, inl, inr, subst, arith}
use Rattle.std.proofs.lemmas.Bool.{cases_eq}
use Rattle.model_geometry.specs.Geometry.{Shape}
use Rattle.model_medium.specs.Cells.{Cell, Good, IsGood, cell_at}
use Rattle.model_medium.specs.World.{World, Span}
use Rattle.model_buffer.specs.Buffer.{numbers_in, touched_one}
use Rattle.model_sectors.specs.Discs.{Agrees, sectors_of, block_of}
use Rattle.model_sectors.specs.Requests.{block_with, blocks_covered}
use Rattle.model_sectors.specs.Uses.{is_buffered, is_at_hand, read_uses}
use Rattle.model_buffer.proofs.Numbers.{numbers_in-with_newest}
use Rattle.model_sectors.proofs.Covering.{covered_inside, at_hand_was_buffered, bytes_at_some}
use Rattle.model_stops.specs.Stops.{Continues}
use Rattle.model_places.specs.Places.{Lists, logical_count, home_of}
use Rattle.model_drive.specs.Shown.{HoldsBlocksOf}
use Rattle.ram_medium.specs.Laws.{MediumLaws}
use Rattle.ram_medium.proofs.Parts.{continues_none, continues_then}
use Rattle.ram_requests.proofs.ReadBytes.{done, prefix_none, prefix_more, no_use_at_hand, one_use_of_medium, few_before_uses}
use Rattle.ram_transfer.specs.Blocks.{FromBuffer, FromHome, IsFetched}
use Rattle.ram_transfer.specs.Reading.{IsCopied, StoodFor, HaveBytes, HasReadUpTo}
use Rattle.ram_transfer.proofs.Buffers.{holds_found, holds_newest}

-- one more is not none
not_none : (m k : ℕ) → m ≡ k + 1 → m ≡ 0 → ⊥
not_none m k more none = omega arith

-- what is so where the cells of a medium are known
pub where_known : (known : Bool) (P : Type 0) → known ≡ true → OnTrue known P → P
where_known known P e h = subst (λ (b : Bool). OnTrue b P) e h

module _ {M : Type 0} (world : M → World) (reaches : M → M → Span → Type 0) (shape : Shape) (lists : Lists) where
  -- So many blocks of a request were read, and their bytes stand at the front.
  pub record ReadSoFar (old new : M) (held held' : List (ℕ × List ℕ)) (lba n k : ℕ) (into : List ℕ) : Type 0 where
    pub read : HasReadUpTo world reaches old new held shape lists lba n held' k
    pub long : length into ≡ 2048 * n
    pub prefix : (disc : List ℕ) → StoodFor shape lists (world old) held disc → take (2048 * done lba n k) into ≡ sectors_of disc lba (done lba n k)

module _ {M : Type 0} (world : M → World) (block_count : M → ℕ) (reaches : M → M → Span → Type 0) (laws : MediumLaws world block_count reaches) (shape : Shape) (lists : Lists) where
  -- none was read yet
  pub read_none : (old : M) (held : List (ℕ × List ℕ)) (lba n : ℕ) (into : List ℕ) → IsTrue (world old).power → length into ≡ 2048 * n → ReadSoFar world reaches shape lists old old held held lba n 0 into
  read_none old held lba n into on long = record {
    read = record {
      continues = continues_none world block_count reaches laws old on;
      touched = refl;
      same_cells = refl;
      few = inl refl;
      unused = λ none. refl;
      readable = λ known j less. absurd (omega arith);
      holds = λ disc stood. stood.1.holds;
    };
    long = long;
    prefix = λ disc stood. prefix_none lba n disc into;
  }

  module _ (old mid : M) (held held' : List (ℕ × List ℕ)) (lba n k : ℕ) (so_far : HasReadUpTo world reaches old mid held shape lists lba n held' k) where
    abbrev b : List ℕ
    b = numbers_in held

    abbrev i : ℕ
    i = block_with lba + k

    abbrev home : ℕ
    home = home_of shape lists i

    -- whether it is buffered now is whether it is at hand
    hand_is : is_at_hand b (block_with lba) k ≡ is_buffered (numbers_in held') i
    hand_is = ap (λ (l : List ℕ). is_buffered l i) (sym so_far.touched)

    pub not_at_hand : ¬ IsTrue (is_buffered (numbers_in held') i) → ¬ IsTrue (is_at_hand b (block_with lba) k)
    not_at_hand not_buffered hand = not_buffered (sym hand_is ∙ hand)

    -- what is known stays known
    known_still : (world old).known ≡ true → (world mid).known ≡ true
    known_still known = (laws.follows old mid (read_uses b (block_with lba) k) so_far.continues.reach).lasts.as_known ∙ known

    module _ (new : M) (held'' : List (ℕ × List ℕ)) (bytes : List ℕ) where
      -- one more block was fetched
      record Turned : Type 0 where
        pub continues : Continues world reaches old new (read_uses b (block_with lba) (suc k))
        pub same_cells : (world new).cells ≡ (world mid).cells
        pub unused : read_uses b (block_with lba) (suc k) ≡ 0 → new ≡ old
        pub is_block : (disc : List ℕ) → StoodFor shape lists (world old) held disc → i < logical_count shape lists → bytes ≡ block_of disc i
        pub has_bytes : (world old).known ≡ true → IsGood (cell_at (world new).cells home) ⊎ IsTrue (is_buffered b i)

      turned_by_buffer : FromBuffer world reaches mid new held' i home bytes → Turned
      turned_by_buffer from =
          let hand : is_at_hand b (block_with lba) k ≡ true = hand_is ∙ bytes_at_some i held' bytes from.was_there in
          let same : read_uses b (block_with lba) (suc k) ≡ read_uses b (block_with lba) k = no_use_at_hand b (block_with lba) k hand in
          record {
            continues = subst (λ (m : M). Continues world reaches old m (read_uses b (block_with lba) (suc k))) (sym from.unused)
                (subst (λ (uses : ℕ). Continues world reaches old mid uses) (sym same) so_far.continues);
            same_cells = ap (λ (m : M). (world m).cells) from.unused;
            unused = λ none. from.unused ∙ so_far.unused (sym same ∙ none);
            is_block = λ disc stood within. holds_found disc i held' bytes (so_far.holds disc stood) from.was_there;
            has_bytes = λ known. inr (at_hand_was_buffered b (block_with lba) k hand);
          }

      turned_by_home : FromHome world reaches mid new held' i home bytes → Turned
      turned_by_home from =
          let one : read_uses b (block_with lba) (suc k) ≡ read_uses b (block_with lba) k + 1 = one_use_of_medium b (block_with lba) k (not_at_hand from.not_buffered) in
          let here : (world old).known ≡ true → cell_at (world new).cells home ≡ Good bytes =
          λ known. where_known (world mid).known (cell_at (world new).cells home ≡ Good bytes) (known_still known) from.gives in
          let before : cell_at (world new).cells home ≡ cell_at (world old).cells home = ap (λ (l : List Cell). cell_at l home) (from.same_cells ∙ so_far.same_cells) in
          record {
            continues = subst (λ (uses : ℕ). Continues world reaches old new uses) (sym one)
                (continues_then world block_count reaches laws old mid new (read_uses b (block_with lba) k) 1 so_far.continues from.continues);
            same_cells = from.same_cells;
            unused = λ none. absurd (not_none (read_uses b (block_with lba) (suc k)) (read_uses b (block_with lba) k) one none);
            is_block = λ disc stood within. subst (λ (c : Cell). Agrees c (block_of disc i)) (sym before ∙ here stood.0) (stood.1.fits.agrees i within);
            has_bytes = λ known. inl (subst IsGood (sym (here known)) tt);
          }

      turned : IsFetched world reaches mid new held' i home bytes held'' → Turned
      turned fetched = elim fetched.came [ inl from ↦ turned_by_buffer from | inr from ↦ turned_by_home from ]

      module _ (fetched : IsFetched world reaches mid new held' i home bytes held'') (within : i < logical_count shape lists) where
        turn : Turned
        turn = turned fetched

        readable_next : (world old).known ≡ true → HaveBytes shape lists (world new).cells b (block_with lba) (suc k)
        readable_next known j less = elim (cases_eq j k) [
          | inl e ↦ subst (λ (m : ℕ). IsGood (cell_at (world new).cells (home_of shape lists (block_with lba + m))) ⊎ IsTrue (is_buffered b (block_with lba + m))) (sym e) (turn.has_bytes known)
          | inr ne ↦ subst (λ (l : List Cell). IsGood (cell_at l (home_of shape lists (block_with lba + j))) ⊎ IsTrue (is_buffered b (block_with lba + j))) (sym turn.same_cells)
              (so_far.readable known j (omega arith))
        ]

        pub up_to_next : HasReadUpTo world reaches old new held shape lists lba n held'' (suc k)
        up_to_next = record {
          continues = turn.continues;
          touched = ap numbers_in fetched.buffer_is ∙ numbers_in-with_newest i bytes held' ∙ ap (λ (l : List ℕ). touched_one l i) so_far.touched;
          same_cells = turn.same_cells ∙ so_far.same_cells;
          few = inr (few_before_uses b (block_with lba) k held' so_far.touched so_far.few fetched.few);
          unused = turn.unused;
          readable = readable_next;
          holds = λ disc stood. subst (HoldsBlocksOf disc) (sym fetched.buffer_is) (holds_newest disc i bytes held' (turn.is_block disc stood within) (so_far.holds disc stood));
        }

        pub is_block_of : (disc : List ℕ) → StoodFor shape lists (world old) held disc → bytes ≡ block_of disc i
        is_block_of disc stood = turn.is_block disc stood within

  -- one block more was read
  pub read_more : (old mid new : M) (held held' held'' : List (ℕ × List ℕ)) (lba n k : ℕ) (into into' : List ℕ) → ReadSoFar world reaches shape lists old mid held held' lba n k into
      → lba + n ≤ 16 * logical_count shape lists → k < blocks_covered lba n
      → IsCopied world reaches mid new held' lba n (block_with lba + k) (home_of shape lists (block_with lba + k)) held'' into into' → length into' ≡ 2048 * n
      → ReadSoFar world reaches shape lists old new held held'' lba n (k + 1) into'
  read_more old mid new held held' held'' lba n k into into' so_far inside covered did long =
      let within : block_with lba + k < logical_count shape lists = covered_inside lba n k (logical_count shape lists) inside covered in
      let more : suc k ≡ k + 1 = omega arith in
      subst (λ (m : ℕ). ReadSoFar world reaches shape lists old new held held'' lba n m into') more (record {
        read = up_to_next old mid held held' lba n k so_far.read new held'' did.bytes did.fetched within;
        long = long;
        prefix = λ disc stood. (prefix_more lba n k (logical_count shape lists) disc did.bytes into into' covered inside stood.1.fits.as_long so_far.long
            (is_block_of old mid held held' lba n k so_far.read new held'' did.bytes did.fetched within disc stood) did.copied (so_far.prefix disc stood)).1;
      })
