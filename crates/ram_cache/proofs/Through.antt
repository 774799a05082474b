-- A write through the cache: its causes, and what it makes of what the drive stands for.
use Rattle.std.proofs.Common.{◌≡◌, ◌≢◌, ℕ, ◌+◌, ◌*◌, ◌<◌, ◌≤◌, inl, inr, true, List, [], ◌∷◌, length, refl, sym, ap, ◌∙◌, subst, arith}
use Rattle.std.specs.List.{Contains}
use Rattle.std.proofs.lemmas.List.Elements.{Contains-append_right}
use Rattle.model_sectors.specs.Discs.{Standing, On, replaced}
use Rattle.model_sectors.specs.Requests.{block_with, blocks_covered, IsCovered, NamesBlock}
use Rattle.model_sectors.proofs.Covering.{block_with_start}
use Rattle.model_drive.specs.declared.WriteOut.{WriteOut}
use Rattle.model_drive.specs.declared.WriteOut.TheVariants as writes
use Rattle.model_drive.specs.Shown.{StandsFor, block_count, cells_in}
use Rattle.model_drive.specs.Parts.{IsInRange}
use Rattle.model_drive.specs.Writes.{WriteCause, WriteStep}
use Rattle.model_cache.specs.Values.{Values, Contents, Has, MayHave, IsPending, IsUnder, IsTaken, StandsCached, is_among, with_written}
use Rattle.model_cache.specs.Shown.{CacheShown, pending_in}
use Rattle.model_cache.specs.Steps.{ThroughContents, ThroughValues, SomePending}
use Rattle.model_cache.specs.Chains.{LeavesSound, leaves_pending}
use Rattle.model_cache.specs.Drains.{Tries, FallsShort, StopsTrying, DrainCause}
use Rattle.model_cache.specs.Causes.{DrainsCovered, ThroughCauseOf, WritesThrough}
use Rattle.model_cache.specs.Falling.{LiesIn}
use Rattle.model_cache.proofs.Members.{Contains-none, Contains-first, Contains-kept, Contains-passed}
use Rattle.ram_cache.specs.Flushes.{FlushContents, LacksSome, DrainsDue, due_of}
use Rattle.ram_cache.proofs.Entering.{long_by}
use Rattle.ram_cache.proofs.Numbers.{has_number, number_held}
use Rattle.ram_cache.proofs.Written.{among_parts, among_from, written_taken, written_under}

module _ (lba n : ℕ) where
  abbrev first : ℕ
  first = block_with lba

  abbrev count : ℕ
  count = blocks_covered lba n

  module _ (old mid new : CacheShown) (covered : ℕ) (covered_is : covered ≡ length (due_of true first count old)) (range : IsInRange old.drive lba n) where
    -- ---- some did not leave

    drains : (out : WriteOut) → DrainCause old new (due_of true first count old) covered out → DrainsCovered old new lba n out
    drains out cause = subst (λ (m : ℕ). DrainCause old new (due_of true first count old) m out) covered_is cause

    short : (out : WriteOut) → LacksSome old new true first count covered out → FallsShort old new (due_of true first count old) covered out
    short out lacks = record { short = lacks.missing; tried = lacks.drained.tried }

    pub refused_cause : (out : WriteOut) → DrainsDue old new true first count covered out → out ≢ writes.Good → ThroughCauseOf old new lba n out
    refused_cause writes.Good rule not_good = absurd (not_good refl)
    refused_cause writes.NotFormatted rule not_good = rule
    refused_cause (writes.Range known) rule not_good = absurd rule
    refused_cause (writes.Unread named block) rule not_good = absurd rule
    refused_cause (writes.NoSpare named) rule not_good = (range, inl (drains (writes.NoSpare named) (short (writes.NoSpare named) rule)))
    refused_cause (writes.NoUpdate counter) rule not_good = (range, inl (drains (writes.NoUpdate counter) (short (writes.NoUpdate counter) rule)))
    refused_cause writes.Cut rule not_good = (range, inl (drains writes.Cut rule))
    refused_cause writes.Off rule not_good = rule
    refused_cause writes.Fault rule not_good = (range, inl (drains writes.Fault rule))

    -- a covered block is due, so it is pending
    some_due : (shown : CacheShown) (i : ℕ) → Contains (due_of true first count shown) i → SomePending shown lba n
    some_due shown i has =
        let passed = Contains-passed (is_among first count) (pending_in shown) i has in
        record { block = i; covered = among_parts first count i passed.0; pending = number_held shown.pending i passed.1 }

    -- the block in which it was stopped is covered, and was pending
    some_before : (out : WriteOut) → StopsTrying old new (due_of true first count old) covered out → SomePending old lba n
    some_before out ends =
        some_due old ends.block
        (subst (λ (l : List ℕ). Contains l ends.block) (sym ends.due_is) (Contains-append_right ends.done (ends.block ∷ ends.rest) ends.block (Contains-first ends.block ends.rest)))

    first_in : (l : List ℕ) → 0 < length l → (i : ℕ) × Contains l i
    first_in [] some = absurd (omega (arith, some))
    first_in (i ∷ l) some = (i, Contains-first i l)

    -- as many as did not leave are pending still
    some_after : (out : WriteOut) → LacksSome old new true first count covered out → SomePending new lba n
    some_after out lacks =
        let left = lacks.drained.left in
        let found = first_in (due_of true first count new) (omega (arith, left, covered_is)) in
        some_due new found.0 found.1

    pub refused_contents : (after : Contents → Type 0) (bytes : List ℕ) (s : Contents) (out : WriteOut) → DrainsDue old new true first count covered out → out ≢ writes.Good
        → FlushContents after s out → ThroughContents old new after s lba n bytes out
    refused_contents after bytes (Has v) writes.Good rule not_good step = absurd (not_good refl)
    refused_contents after bytes (Has v) writes.NotFormatted rule not_good step = absurd step
    refused_contents after bytes (Has v) (writes.Range known) rule not_good step = absurd step
    refused_contents after bytes (Has v) (writes.Unread named block) rule not_good step = absurd step
    refused_contents after bytes (Has v) (writes.NoSpare named) rule not_good step = inl (some_after (writes.NoSpare named) rule, step)
    refused_contents after bytes (Has v) (writes.NoUpdate counter) rule not_good step = inl (some_after (writes.NoUpdate counter) rule, step)
    refused_contents after bytes (Has v) writes.Cut rule not_good step = inl (some_before writes.Cut rule, step)
    refused_contents after bytes (Has v) writes.Off rule not_good step = step
    refused_contents after bytes (Has v) writes.Fault rule not_good step = inl (some_before writes.Fault rule, step)
    refused_contents after bytes (MayHave all) out rule not_good step = absurd step

    -- ---- all left, and then the request was written

    module _ (rule : DrainsDue old mid true first count covered writes.Good) where
      none_due : (l : List ℕ) → length l ≡ 0 → l ≡ []
      none_due [] none = refl
      none_due (i ∷ l) none = absurd (omega (arith, none))

      none_left : (i : ℕ) → IsCovered lba n i → ¬ IsPending mid.pending i
      none_left i covered (held, has) =
          let left = rule.1.left in
          Contains-none i (subst (λ (l : List ℕ). Contains l i) (none_due (due_of true first count mid) (omega (arith, left, covered_is)))
          (Contains-kept (is_among first count) (pending_in mid) i (among_from first count i (covered.0) (covered.1)) (has_number mid.pending i held has)))

      in_range : lba + n ≤ 16 * block_count mid.drive
      in_range = let same = rule.1.same_count in let inside = range.inside in omega (arith, same, inside)

      module _ (mode : new.caches ≡ mid.caches) (leaves : LeavesSound mid.drive new.drive) where
        through : (out : WriteOut) → WriteCause mid.drive new.drive lba n out → new.pending ≡ leaves_pending out mid.pending → WritesThrough old new lba n out
        through out wrote left = record {
          mid = mid;
          drained = (rule.0, subst (λ (m : ℕ). Tries old (due_of true first count old) m mid 0 rule.0) covered_is rule.1.tried);
          wrote = wrote;
          leaves = leaves;
          left = left;
          same_mode = mode ∙ rule.1.same_mode;
        }

        pub written_cause : (out : WriteOut) → WriteCause mid.drive new.drive lba n out → new.pending ≡ leaves_pending out mid.pending → ThroughCauseOf old new lba n out
        written_cause writes.Good wrote left = (range, through writes.Good wrote left)
        written_cause writes.NotFormatted wrote left = wrote.unformatted rule.1.can.formatted
        written_cause (writes.Range known) wrote left = let past = wrote.past in let inside = in_range in absurd (omega (arith, past, inside))
        written_cause (writes.Unread named block) wrote left = (range, through (writes.Unread named block) wrote left)
        written_cause (writes.NoSpare named) wrote left = (range, inr (through (writes.NoSpare named) wrote left))
        written_cause (writes.NoUpdate counter) wrote left = (range, inr (through (writes.NoUpdate counter) wrote left))
        written_cause writes.Cut wrote left = (range, inr (through writes.Cut wrote left))
        written_cause writes.Off wrote left = wrote.off rule.1.can.on
        written_cause writes.Fault wrote left = (range, inr (through writes.Fault wrote left))

      module _ (amid after : Standing → Type 0) (shown : (s : Standing) → amid s → StandsFor mid.drive s) (bytes : List ℕ) (whole : length bytes ≡ 2048 * n) where
        lies_in : (d : List ℕ) → amid (On d) → LiesIn d lba n bytes
        lies_in d so = record {
          blocks = block_count mid.drive;
          as_long = long_by mid.drive.shape (cells_in mid.drive) mid.drive.lists mid.drive.buffer d ((shown (On d) so).2);
          inside = in_range;
          whole = whole;
        }

        keeps : (v : Values) (d : List ℕ) (p : List (ℕ × List ℕ)) (b : ℕ) → amid (On d) → IsUnder mid.pending d v → b ≤ first + count → p ≡ mid.pending → after (On (replaced d lba bytes b))
            → StandsCached after p (Has (with_written v lba bytes b))
        keeps v d p b so under few' same step = (
          replaced d lba bytes b,
          step,
          subst (λ (l : List (ℕ × List ℕ)). IsUnder l (replaced d lba bytes b) (with_written v lba bytes b)) (sym same)
              (written_under d v mid.pending under lba n bytes (lies_in d so) none_left b few'),
        )

        named_few : (named k : ℕ) → NamesBlock lba n named k → block_with named ≤ first + count
        named_few named k names =
            let covered = names.covered in
            let start : block_with named ≡ first + k = ap block_with names.first ∙ block_with_start lba n k covered in
            omega (arith, covered, start)

        none_after : (p : List (ℕ × List ℕ)) → p ≡ mid.pending → (i : ℕ) → IsCovered lba n i → ¬ IsPending p i
        none_after p same i covered pending = none_left i covered (subst (λ (l : List (ℕ × List ℕ)). IsPending l i) same pending)

        taken_at : (v : Values) (d : List ℕ) (b : ℕ) → amid (On d) → IsUnder mid.pending d v → b ≤ first + count → IsTaken (with_written v lba bytes b) (replaced d lba bytes b)
        taken_at v d b so under few' = written_taken d v mid.pending under lba n bytes (lies_in d so) none_left b few'

        pub written_values : (v : Values) (out : WriteOut) → WriteCause mid.drive new.drive lba n out → new.pending ≡ leaves_pending out mid.pending
            → ((t : Standing) → amid t → WriteStep new.drive after t lba n bytes out) → StandsCached amid mid.pending (Has v)
            → ThroughValues (StandsCached after new.pending) v lba n bytes old new out
        written_values v writes.Good wrote left step (d, so, under) = keeps v d new.pending (first + count) so under (omega arith) left (step (On d) so)
        written_values v writes.NotFormatted wrote left step (d, so, under) = absurd (wrote.unformatted rule.1.can.formatted)
        written_values v (writes.Range known) wrote left step (d, so, under) = let past = wrote.past in let inside = in_range in absurd (omega (arith, past, inside))
        written_values v (writes.Unread named block) wrote left step (d, so, under) =
            keeps v d new.pending (block_with named) so under (named_few named (length wrote.course) wrote.is_named) left (step (On d) so)
        written_values v (writes.NoSpare named) wrote left step (d, so, under) =
            inr (
              λ some. none_after new.pending left some.block some.covered some.pending,
              keeps v d new.pending (block_with named) so under (named_few named (length wrote.course) wrote.is_named) left (step (On d) so),
            )
        written_values v (writes.NoUpdate counter) wrote left step (d, so, under) =
            let ended = step (On d) so in
            let covered = ended.covered in
            inr (
              λ some. none_after new.pending left some.block some.covered some.pending,
              record {
                block = ended.block;
                covered = ended.covered;
                dead = ended.dead;
                first = ended.first;
                before = keeps v d new.pending (first + ended.block) so under (omega (arith, covered)) left ended.before;
              },
            )
        written_values v writes.Cut wrote left step (d, so, under) =
            let stopped = step (On d) so in
            let covered = stopped.covered in
            inr (record {
              block = stopped.block;
              covered = stopped.covered;
              either = (
                replaced d lba bytes (first + stopped.block) ∷ replaced d lba bytes (first + (stopped.block + 1)) ∷ [],
                stopped.either,
                (taken_at v d (first + stopped.block) so under (omega (arith, covered)), (taken_at v d (first + (stopped.block + 1)) so under (omega (arith, covered)), refl)),
              );
            })
        written_values v writes.Off wrote left step (d, so, under) = absurd (wrote.off rule.1.can.on)
        written_values v writes.Fault wrote left step (d, so, under) =
            let stopped = step (On d) so in
            let covered = stopped.covered in
            inr (record {
              block = stopped.block;
              covered = stopped.covered;
              either = (
                replaced d lba bytes (first + stopped.block) ∷ replaced d lba bytes (first + (stopped.block + 1)) ∷ [],
                stopped.either,
                (taken_at v d (first + stopped.block) so under (omega (arith, covered)), (taken_at v d (first + (stopped.block + 1)) so under (omega (arith, covered)), refl)),
              );
            })

        -- from what stood before the flushes
        pub written_contents : (before : Contents → Type 0) (s : Contents) (out : WriteOut) → WriteCause mid.drive new.drive lba n out → new.pending ≡ leaves_pending out mid.pending
            → ((t : Standing) → amid t → WriteStep new.drive after t lba n bytes out) → FlushContents (StandsCached amid mid.pending) s writes.Good
            → ThroughContents old new (StandsCached after new.pending) s lba n bytes out
        written_contents before (Has v) out wrote left step flushed = written_values v out wrote left step flushed
        written_contents before (MayHave all) out wrote left step flushed = absurd flushed
