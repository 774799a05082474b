-- A read of a request, some blocks of which may go past the buffer. The buffer is then behind the one that is due, into which
-- all blocks of the request were put.
use Rattle.std.specs.Prelude.{◌≡◌, ◌↔◌, ℕ, zero, suc, ◌+◌, ◌-◌, ◌*◌, ◌<◌, ◌≤◌, ◌⊎◌, ◌==◌, not, ◌∷◌, Bool, true, false, IsTrue, Some, None, List, length, take}
use Rattle.std.specs.List.{filter}
use Rattle.std.proofs.Common.{refl, sym, ap, ◌∙◌, inl, inr, subst, arith}
use Rattle.std.proofs.lemmas.Bool.{cases_Bool, cases_lt, cases_eq}
use Rattle.std.proofs.lemmas.List.{length-take, take-take}
use Rattle.model_geometry.specs.Geometry.{Shape}
use Rattle.model_medium.specs.World.{World, Span}
use Rattle.model_buffer.specs.Buffer.{numbers_in, bytes_at, with_newest, touched_one}
use Rattle.model_buffer.specs.declared.TheConstants.{BUFFERED_BLOCKS}
use Rattle.model_buffer.proofs.Numbers.{numbers_in-with_newest}
use Rattle.model_sectors.specs.Discs.{block_of, sectors_of}
use Rattle.model_sectors.specs.Requests.{block_with, blocks_covered, is_partly, merged_in}
use Rattle.model_sectors.specs.Uses.{is_buffered, touched_from}
use Rattle.model_sectors.proofs.Covering.{bytes_at_none, bytes_at_some, at_hand_was_buffered, covered_inside}
use Rattle.model_stops.specs.declared.Stop.{Stop}
use Rattle.model_places.specs.Places.{Lists, logical_count, home_of}
use Rattle.model_places.specs.Valid.{AreValid}
use Rattle.model_drive.specs.Shown.{HoldsBlocksOf}
use Rattle.ram_medium.specs.Laws.{MediumLaws}
use Rattle.ram_requests.proofs.ReadBytes.{done, done_before, whole_block_read}
use Rattle.ram_transfer.specs.Blocks.{FromBuffer, FromHome, IsFetched, CannotBeRead, FetchStopped}
use Rattle.ram_transfer.specs.Reading.{IsLong, MayPass, PutsNewest, PutsFrom, IsCopied, IsReadPart, IsUnreadPart, StoodFor, ReadsParts, MeetsBlock, StopsInBlock}
use Rattle.ram_transfer.proofs.Behind.{numbers_behind, behind_none, behind_front, behind_past, behind_first, behind_last, behind_all, behind_lacks, behind_put, between_whole, used_is_there, front_used}
use Rattle.ram_transfer.proofs.Buffers.{holds_found, holds_newest}
use Rattle.ram_transfer.proofs.ReadTurns.{ReadSoFar, read_none, read_more, is_block_of}
use Rattle.ram_transfer.proofs.ReadEnds.{read_all, read_meets, read_stops}

pub false_is_not : {b : Bool} → b ≡ false → ¬ IsTrue b
false_is_not e h = let none : true ≡ false = sym h ∙ e in cc

-- what the buffer has not it has no bytes of
none_there : (i : ℕ) (held : List (ℕ × List ℕ)) → ¬ IsTrue (is_buffered (numbers_in held) i) → bytes_at i held ≡ None
none_there i held lacks = of (bytes_at i held) refl
  where
    of : (found : _) → bytes_at i held ≡ found → bytes_at i held ≡ None
    of None is = is
    of (Some bytes) is = absurd (lacks (bytes_at_some i held bytes is))

-- when the block of a request after k others goes past the buffer
abbrev pub TellsPast : (lba n k : ℕ) → (long past : Bool) → Type 0
TellsPast lba n k long past = IsTrue past ↔ (IsTrue long × (k + 8 < blocks_covered lba n) × (is_partly lba n (block_with lba + k) ≡ false))

-- a buffer never has more blocks than it has room for
newest_few : (i : ℕ) (bytes : List ℕ) (held : List (ℕ × List ℕ)) → length (with_newest i bytes held) ≤ BUFFERED_BLOCKS
newest_few i bytes held = in_room BUFFERED_BLOCKS ((i, bytes) ∷ filter (λ other. not (other.0 == i)) held)
  where
    in_room : (room : ℕ) (all : List (ℕ × List ℕ)) → length (take room all) ≤ room
    in_room room all = omega (arith, length-take room all)

-- what was read of a request is there up to each place before
shorter : (disc into : List ℕ) (lba some all : ℕ) → some ≤ all → take (2048 * all) into ≡ sectors_of disc lba all → take (2048 * some) into ≡ sectors_of disc lba some
unfolding sectors_of
shorter disc into lba some all le prefix =
    sym (take-take (2048 * some) (2048 * all) into (omega (arith, le)))
    ∙ ap (take (2048 * some)) prefix
    ∙ take-take (2048 * some) (2048 * all) _ (omega (arith, le))

module _ {M : Type 0} (world : M → World) (reaches : M → M → Span → Type 0) (shape : Shape) (lists : Lists) where
  -- The request is long, and some of its first k blocks went past the buffer: `held` is what was buffered before them,
  -- `due` would be there if none had, and `held'` is.
  pub record IsBehind (old : M) (held due held' : List (ℕ × List ℕ)) (lba n k : ℕ) : Type 0 where
    pub long : IsLong lba n held
    pub numbers : numbers_in held' ≡ numbers_behind (numbers_in held) lba n k
    pub few : length held' ≤ BUFFERED_BLOCKS
    pub few_due : length due ≤ BUFFERED_BLOCKS
    pub holds : (disc : List ℕ) → StoodFor shape lists (world old) held disc → HoldsBlocksOf disc held'

  -- the buffer is the one that is due, or behind it where the request is long
  abbrev pub IsKept : Bool → M → (held due held' : List (ℕ × List ℕ)) → (lba n k : ℕ) → Type 0
  IsKept true old held due held' lba n k = IsBehind old held due held' lba n k
  IsKept false old held due held' lba n k = held' ≡ due

  -- So many blocks of a request were read, as with the buffer that is due.
  pub record ReadAhead (long : Bool) (old new : M) (held held' : List (ℕ × List ℕ)) (lba n k : ℕ) (into : List ℕ) : Type 0 where
    pub due : List (ℕ × List ℕ)
    pub so_far : ReadSoFar world reaches shape lists old new held due lba n k into
    pub kept : IsKept long old held due held' lba n k

module _ {M : Type 0} (world : M → World) (block_count : M → ℕ) (reaches : M → M → Span → Type 0) (laws : MediumLaws world block_count reaches) (shape : Shape) (lists : Lists) where
  -- none was read yet
  pub ahead_none : (long : Bool) (old : M) (held : List (ℕ × List ℕ)) (lba n : ℕ) (into : List ℕ) → (IsTrue long → IsLong lba n held) → length held ≤ BUFFERED_BLOCKS → IsTrue (world old).power → length into ≡ 2048 * n
      → ReadAhead world reaches shape lists long old old held held lba n 0 into
  ahead_none long old held lba n into is_long few on whole = record { due = held; so_far = read_none world block_count reaches laws shape lists old held lba n into on whole; kept = kept long is_long }
    where
      kept : (long : Bool) → (IsTrue long → IsLong lba n held) → IsKept world reaches shape lists long old held held held lba n 0
      kept true is_long = record { long = is_long refl; numbers = sym (behind_none (numbers_in held) lba n); few = few; few_due = few; holds = λ disc stood. stood.1.holds }
      kept false is_long = refl

  module _ (old mid : M) (held due held' : List (ℕ × List ℕ)) (lba n k : ℕ) (into : List ℕ) (so_far : ReadSoFar world reaches shape lists old mid held due lba n k into)
      (behind : IsBehind world reaches shape lists old held due held' lba n k) (covered : k < blocks_covered lba n) where
    abbrev i : ℕ
    i = block_with lba + k

    abbrev home : ℕ
    home = home_of shape lists i

    -- a block of a long request was not buffered at first
    lacked : ¬ IsTrue (is_buffered (numbers_in held) i)
    lacked = bytes_at_none i held (behind.long.none i (omega arith, omega (arith, covered)))

    -- so it is not in the buffer at its turn, nor in the one that is due
    not_there : ¬ IsTrue (is_buffered (numbers_in held') i)
    not_there here = behind_lacks (numbers_in held) lba n k lacked (subst (λ (l : List ℕ). IsTrue (is_buffered l i)) behind.numbers here)

    not_due : ¬ IsTrue (is_buffered (numbers_in due) i)
    not_due here = lacked (at_hand_was_buffered (numbers_in held) (block_with lba) k (subst (λ (l : List ℕ). IsTrue (is_buffered l i)) so_far.read.touched here))

    pub none_at_turn : bytes_at i held' ≡ None
    none_at_turn = none_there i held' not_there

    fetched_due : (new : M) (bytes : List ℕ) (held'' : List (ℕ × List ℕ)) → IsFetched world reaches mid new held' i home bytes held'' → IsFetched world reaches mid new due i home bytes (with_newest i bytes due)
    fetched_due new bytes held'' fetched = record { buffer_is = refl; came = came fetched.came; few = behind.few_due }
      where
        came : FromBuffer world reaches mid new held' i home bytes ⊎ FromHome world reaches mid new held' i home bytes → FromBuffer world reaches mid new due i home bytes ⊎ FromHome world reaches mid new due i home bytes
        came (inl from) = absurd (not_there (bytes_at_some i held' bytes from.was_there))
        came (inr from) = inr (record { continues = from.continues; not_buffered = not_due; same_cells = from.same_cells; gives = from.gives })

    unread_due : (new : M) (held'' : List (ℕ × List ℕ)) → CannotBeRead world reaches mid new held' i home held'' → CannotBeRead world reaches mid new due i home due
    unread_due new held'' unread = record { continues = unread.continues; not_buffered = not_due; buffer_is = refl; dies = unread.dies; not_good = unread.not_good; few = behind.few_due }

    stopped_due : (new : M) (stop : Stop) → FetchStopped world reaches mid new held' i home stop → FetchStopped world reaches mid new due i home stop
    stopped_due new stop stopped = record { stops = stopped.stops; not_buffered = not_due; dies = stopped.dies; few = behind.few_due }

  -- a block that goes past the buffer may do so
  pub ahead_may_pass : (long past : Bool) (old mid : M) (held held' : List (ℕ × List ℕ)) (lba n k : ℕ) (into : List ℕ) → ReadAhead world reaches shape lists long old mid held held' lba n k into → k < blocks_covered lba n
      → TellsPast lba n k long past → IsTrue past → MayPass lba n (block_with lba + k) held'
  ahead_may_pass true past old mid held held' lba n k into ahead covered tells goes = record {
    all = (tells.0 goes).2;
    none = none_at_turn old mid held ahead.due held' lba n k into ahead.so_far ahead.kept covered;
    few = ahead.kept.few;
  }
  ahead_may_pass false past old mid held held' lba n k into ahead covered tells goes = absurd (let e : false ≡ true = (tells.0 goes).0 in cc)

  -- all blocks were read
  pub ahead_all : (long : Bool) (old new : M) (held held' : List (ℕ × List ℕ)) (lba n k : ℕ) (into : List ℕ) → ReadAhead world reaches shape lists long old new held held' lba n k into
      → k ≡ blocks_covered lba n → ReadsParts world reaches old new held shape lists lba n held' into
  ahead_all true old new held held' lba n k into ahead all =
      let due = read_all world block_count reaches laws shape lists old new held ahead.due lba n k into ahead.so_far all in
      record {
        all = record {
          continues = due.all.continues;
          same_cells = due.all.same_cells;
          few = due.all.few;
          unused = due.all.unused;
          readable = due.all.readable;
          touched = ahead.kept.numbers ∙ ap (numbers_behind (numbers_in held) lba n) all ∙ behind_all (numbers_in held) lba n (let many = ahead.kept.long.many in omega arith);
          holds = ahead.kept.holds;
        };
        gives = due.gives;
      }
  ahead_all false old new held held' lba n k into ahead all =
      subst (λ (l : List (ℕ × List ℕ)). ReadsParts world reaches old new held shape lists lba n l into) (sym ahead.kept)
      (read_all world block_count reaches laws shape lists old new held ahead.due lba n k into ahead.so_far all)

  module _ (old mid new : M) (held held' : List (ℕ × List ℕ)) (lba n k : ℕ) (into : List ℕ) where
    -- a fetch was stopped
    pub ahead_stops : (long : Bool) → ReadAhead world reaches shape lists long old mid held held' lba n k into → k < blocks_covered lba n → (stop : Stop)
        → FetchStopped world reaches mid new held' (block_with lba + k) (home_of shape lists (block_with lba + k)) stop → StopsInBlock world reaches old new held shape lists lba n stop
    ahead_stops true ahead covered stop did = read_stops world block_count reaches laws shape lists old mid new held ahead.due lba n k into ahead.so_far covered stop
        (stopped_due old mid held ahead.due held' lba n k into ahead.so_far ahead.kept covered new stop did)
    ahead_stops false ahead covered stop did = read_stops world block_count reaches laws shape lists old mid new held ahead.due lba n k into ahead.so_far covered stop
        (subst (λ (l : List (ℕ × List ℕ)). FetchStopped world reaches mid new l (block_with lba + k) (home_of shape lists (block_with lba + k)) stop) ahead.kept did)

    -- one block more was read
    module _ (held'' : List (ℕ × List ℕ)) (into' : List ℕ) (inside : lba + n ≤ 16 * logical_count shape lists) (covered : k < blocks_covered lba n) (whole : length into' ≡ 2048 * n) where
      abbrev i' : ℕ
      i' = block_with lba + k

      abbrev place' : ℕ
      place' = home_of shape lists i'

      -- a block that does not go past it is the first, covered in part, or one of the last eight
      not_past : (past : Bool) → past ≡ false → TellsPast lba n k true past → 16 ≤ blocks_covered lba n → (b : List ℕ) → numbers_behind b lba n (k + 1) ≡ touched_one (numbers_behind b lba n k) i'
      not_past past stays tells many b = elim (cases_lt (k + 8) (blocks_covered lba n)) [
        | inr late ↦ behind_last b lba n k many late
        | inl early ↦ elim (cases_eq k 0) [
          | inl none ↦ at_first none early
          | inr some ↦ absurd (false_is_not stays (tells.1 (refl, early, between_whole lba n k (omega arith) (omega arith))))
        ]
      ]
        where
          at_first : k ≡ 0 → k + 8 < blocks_covered lba n → numbers_behind b lba n (k + 1) ≡ touched_one (numbers_behind b lba n k) i'
          at_first none early = elim (cases_Bool (is_partly lba n i')) [
            | inr all ↦ absurd (false_is_not stays (tells.1 (refl, early, all)))
            | inl partly ↦
                let same : i' ≡ block_with lba = omega (arith, none) in
                ap (numbers_behind b lba n) (let e : k + 1 ≡ 1 = omega (arith, none) in e)
                ∙ behind_first b lba n many (sym (ap (is_partly lba n) same) ∙ partly)
                ∙ ap (touched_one b) (sym same)
                ∙ ap (λ (l : List ℕ). touched_one l i') (sym (ap (numbers_behind b lba n) none ∙ behind_none b lba n))
          ]

      behind_more : (past : Bool) → (ahead : ReadAhead world reaches shape lists true old mid held held' lba n k into) → (did : IsReadPart world reaches mid new held' lba n i' place' past held'' into into')
          → TellsPast lba n k true past → ((disc : List ℕ) → StoodFor shape lists (world old) held disc → did.copied.bytes ≡ block_of disc i')
          → IsBehind world reaches shape lists old held (with_newest i' did.copied.bytes ahead.due) held'' lba n (k + 1)
      behind_more true ahead did tells is_block = record {
        long = ahead.kept.long;
        numbers = ap numbers_in did.kept ∙ ahead.kept.numbers ∙ sym (behind_past (numbers_in held) lba n k (tells.0 refl).1 (tells.0 refl).2);
        few = subst (λ (l : List (ℕ × List ℕ)). length l ≤ BUFFERED_BLOCKS) (sym did.kept) ahead.kept.few;
        few_due = newest_few i' did.copied.bytes ahead.due;
        holds = λ disc stood. subst (HoldsBlocksOf disc) (sym did.kept) (ahead.kept.holds disc stood);
      }
      behind_more false ahead did tells is_block =
          let buffer_is : held'' ≡ with_newest i' did.copied.bytes held' = did.kept ∙ did.copied.fetched.buffer_is in
          record {
            long = ahead.kept.long;
            numbers = ap numbers_in buffer_is ∙ numbers_in-with_newest i' did.copied.bytes held' ∙ ap (λ (l : List ℕ). touched_one l i') ahead.kept.numbers
                ∙ sym (not_past false refl tells ahead.kept.long.many (numbers_in held));
            few = subst (λ (l : List (ℕ × List ℕ)). length l ≤ BUFFERED_BLOCKS) (sym buffer_is) (newest_few i' did.copied.bytes held');
            few_due = newest_few i' did.copied.bytes ahead.due;
            holds = λ disc stood. subst (HoldsBlocksOf disc) (sym buffer_is) (holds_newest disc i' did.copied.bytes held' (is_block disc stood) (ahead.kept.holds disc stood));
          }

      pub ahead_more : (long past : Bool) → ReadAhead world reaches shape lists long old mid held held' lba n k into → IsReadPart world reaches mid new held' lba n i' place' past held'' into into'
          → TellsPast lba n k long past → ReadAhead world reaches shape lists long old new held held'' lba n (k + 1) into'
      ahead_more true past ahead did tells =
          let fetched = fetched_due old mid held ahead.due held' lba n k into ahead.so_far ahead.kept covered new did.copied.bytes did.due did.copied.fetched in
          record {
            due = with_newest i' did.copied.bytes ahead.due;
            so_far = read_more world block_count reaches laws shape lists old mid new held ahead.due (with_newest i' did.copied.bytes ahead.due) lba n k into into' ahead.so_far inside covered
                (record { bytes = did.copied.bytes; fetched = fetched; copied = did.copied.copied }) whole;
            kept = behind_more past ahead did tells
                (is_block_of world block_count reaches laws shape lists old mid held ahead.due lba n k ahead.so_far.read new (with_newest i' did.copied.bytes ahead.due) did.copied.bytes fetched
                (covered_inside lba n k (logical_count shape lists) inside covered));
          }
      ahead_more false true ahead did tells = absurd (let e : false ≡ true = (tells.0 refl).0 in cc)
      ahead_more false false ahead did tells = record {
        due = did.due;
        so_far = read_more world block_count reaches laws shape lists old mid new held ahead.due did.due lba n k into into' ahead.so_far inside covered
            (subst (λ (l : List (ℕ × List ℕ)). IsCopied world reaches mid new l lba n i' place' did.due into into') ahead.kept did.copied) whole;
        kept = did.kept;
      }

    -- a block cannot be read
    module _ (valid : AreValid shape lists) (inside : lba + n ≤ 16 * logical_count shape lists) (covered : k < blocks_covered lba n) (past : Bool) (held'' : List (ℕ × List ℕ)) (into' : List ℕ)
        (did : IsUnreadPart world reaches mid new held' lba n (block_with lba + k) (home_of shape lists (block_with lba + k)) past held'' into into') where
      pub ahead_meets : ReadAhead world reaches shape lists false old mid held held' lba n k into → MeetsBlock world reaches old new held shape lists lba n held'' k
      ahead_meets ahead = read_meets world block_count reaches laws shape lists old mid new held held' lba n k into
          (subst (λ (l : List (ℕ × List ℕ)). ReadSoFar world reaches shape lists old mid held l lba n k into) (sym ahead.kept) ahead.so_far) covered valid inside held'' did.unread

      -- and the blocks before it were put into the buffer
      module _ (ahead : ReadAhead world reaches shape lists true old mid held held' lba n k into) (whole : length into' ≡ 2048 * n) where
        abbrev from : ℕ
        from = block_with lba + (k - 8)

        -- the buffer has what it had before
        numbers_left : numbers_in held'' ≡ numbers_behind (numbers_in held) lba n k
        numbers_left = ap numbers_in did.unread.buffer_is ∙ ahead.kept.numbers

        prefix : (disc : List ℕ) → StoodFor shape lists (world old) held disc → take (2048 * done lba n k) into' ≡ sectors_of disc lba (done lba n k)
        prefix disc stood = ap (λ (m : ℕ). take (2048 * m) into') (done_before lba n k covered) ∙ did.before ∙ ap (λ (m : ℕ). take (2048 * m) into) (sym (done_before lba n k covered)) ∙ ahead.so_far.prefix disc stood

        -- the first block, where it is covered in part, is in the buffer still when it is put
        first_is_there : (mid' : List (ℕ × List ℕ)) → mid' ≡ held'' → 0 < k → k ≤ 8 → is_partly lba n (block_with lba) ≡ true → IsTrue (is_buffered (numbers_in mid') (block_with lba))
        first_is_there mid' same some few partly =
            let many = ahead.kept.long.many in
            subst (λ (l : List ℕ). IsTrue (is_buffered l (block_with lba)))
            (sym (ap numbers_in same ∙ numbers_left ∙ behind_front (numbers_in held) lba n k (omega arith) ∙ at_front k some)) (used_is_there (numbers_in held) (block_with lba))
          where
            at_front : (k : ℕ) → 0 < k → touched_from (numbers_in held) (block_with lba) (front_used (is_partly lba n (block_with lba)) k) ≡ touched_one (numbers_in held) (block_with lba)
            at_front zero some = absurd (omega (arith, some))
            at_front (suc j) some = ap (λ (p : Bool). touched_from (numbers_in held) (block_with lba) (front_used p (suc j))) partly
                ∙ ap (touched_one (numbers_in held)) (let e : block_with lba + 0 ≡ block_with lba = omega arith in e)

        -- a block that is put, and is not there, is covered whole
        whole_put : (t : ℕ) (mid' : List (ℕ × List ℕ)) → t < k - (k - 8) → PutsFrom lba n into' from t held'' mid' → bytes_at (from + t) mid' ≡ None → ¬ IsTrue (is_partly lba n (block_with lba + (k - 8 + t)))
        whole_put t mid' less puts none partly = elim (cases_eq (k - 8 + t) 0) [
          | inr some ↦ false_is_not (between_whole lba n (k - 8 + t) (omega arith) (omega arith)) partly
          | inl first ↦
              let same : mid' ≡ held'' = subst (λ (m : ℕ). PutsFrom lba n into' from m held'' mid') (let e : t ≡ 0 = omega (arith, first) in e) puts in
              let here : block_with lba + (k - 8 + t) ≡ block_with lba = omega (arith, first) in
              let there = first_is_there mid' same (omega arith) (omega arith) (sym (ap (is_partly lba n) here) ∙ partly) in
              bytes_at_none (from + t) mid' none (subst (λ (j : ℕ). IsTrue (is_buffered (numbers_in mid') j)) (let e : block_with lba ≡ from + t = omega (arith, first) in e) there)
        ]

        is_block : (disc : List ℕ) → StoodFor shape lists (world old) held disc → (t : ℕ) (mid' after room : List _) → t < k - (k - 8) → PutsFrom lba n into' from t held'' mid'
            → HoldsBlocksOf disc mid' → (newest : PutsNewest lba n (from + t) into' room mid' after) → newest.bytes ≡ block_of disc (from + t)
        is_block disc stood t mid' after room less puts holds newest = by newest.came
          where
            by : (bytes_at (from + t) mid' ≡ Some newest.bytes) ⊎ ((bytes_at (from + t) mid' ≡ None) × (length room ≡ 32768) × (newest.bytes ≡ merged_in lba n into' (from + t) room)) → newest.bytes ≡ block_of disc (from + t)
            by (inl there) = holds_found disc (from + t) mid' newest.bytes holds there
            by (inr out) =
                let home : from + t ≡ block_with lba + (k - 8 + t) = omega arith in
                let below : done lba n (suc (k - 8 + t)) ≤ done lba n k = omega arith in
                out.2 ∙ ap (λ (j : ℕ). merged_in lba n into' j room) home
                ∙ whole_block_read lba n (k - 8 + t) (logical_count shape lists) disc into' room (whole_put t mid' less puts out.0) (omega arith) inside stood.1.fits.as_long whole out.1
                (shorter disc into' lba (done lba n (suc (k - 8 + t))) (done lba n k) below (prefix disc stood))
                ∙ ap (block_of disc) (sym home)

        puts_hold : (disc : List ℕ) → StoodFor shape lists (world old) held disc → (t : ℕ) (after : List (ℕ × List ℕ)) → t ≤ k - (k - 8) → PutsFrom lba n into' from t held'' after → HoldsBlocksOf disc after
        puts_hold disc stood zero after le same = subst (HoldsBlocksOf disc) (sym (same ∙ did.unread.buffer_is)) (ahead.kept.holds disc stood)
        puts_hold disc stood (suc t) after le puts =
            let before = puts_hold disc stood t puts.0 (omega (arith, le)) puts.2 in
            subst (HoldsBlocksOf disc) (sym puts.3.buffer_is)
            (holds_newest disc (from + t) puts.3.bytes puts.0 (is_block disc stood t puts.0 after puts.1 (omega (arith, le)) puts.2 before puts.3) before)

        puts_numbers : (t : ℕ) (after : List (ℕ × List ℕ)) → PutsFrom lba n into' from t held'' after → numbers_in after ≡ touched_from (numbers_in held'') from t
        puts_numbers zero after same = ap numbers_in same
        puts_numbers (suc t) after puts =
            ap numbers_in puts.3.buffer_is ∙ numbers_in-with_newest (from + t) puts.3.bytes puts.0 ∙ ap (λ (l : List ℕ). touched_one l (from + t)) (puts_numbers t puts.0 puts.2)

        pub ahead_meets_long : (held3 : List (ℕ × List ℕ)) → PutsFrom lba n into' from (k - (k - 8)) held'' held3 → MeetsBlock world reaches old new held shape lists lba n held3 k
        ahead_meets_long held3 puts =
            let met = read_meets world block_count reaches laws shape lists old mid new held ahead.due lba n k into ahead.so_far covered valid inside ahead.due
            (unread_due old mid held ahead.due held' lba n k into ahead.so_far ahead.kept covered new held'' did.unread) in
            record {
              ended = met.ended;
              continues = met.continues;
              touched = puts_numbers (k - (k - 8)) held3 puts ∙ ap (λ (l : List ℕ). touched_from l from (k - (k - 8))) numbers_left ∙ behind_put (numbers_in held) lba n k ahead.kept.long.many covered;
              readable = met.readable;
              not_good = met.not_good;
              holds = λ disc stood. puts_hold disc stood (k - (k - 8)) held3 (omega arith) puts;
            }

-- one block more was put into the buffer
pub puts_more : (lba n first j block : ℕ) (into room : List ℕ) (held mid held' : List (ℕ × List ℕ)) → first ≤ j → block ≡ block_with lba + j
    → PutsFrom lba n into (block_with lba + first) (j - first) held mid → PutsNewest lba n block into room mid held' → PutsFrom lba n into (block_with lba + first) (j + 1 - first) held held'
puts_more lba n first j block into room held mid held' le is puts newest =
    subst (λ (m : ℕ). PutsFrom lba n into (block_with lba + first) m held held') (let e : suc (j - first) ≡ j + 1 - first = omega (arith, le) in e)
    (mid, room, puts, subst (λ (i : ℕ). PutsNewest lba n i into room mid held') (let e : block ≡ block_with lba + first + (j - first) = omega (arith, le, is) in e) newest)
