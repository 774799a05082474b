-- A read block after block: the part of one block, and the turns of the loop.
use Rattle.std.proofs.Common.{◌≡◌, ◌≢◌, ℕ, zero, suc, ◌+◌, ◌-◌, ◌*◌, ◌<◌, Bool, true, false, not, ◌&&◌, ◌==◌, List, [], ◌∷◌, ◌++◌, Option, Some, None, length, take, drop, refl, sym, ap, ◌∙◌, subst, inl, inr, arith, append_assoc}
use Rattle.std.specs.Prelude.{nat_lt, IsSome}
use Rattle.std.specs.Option.{option_map}
use Rattle.std.specs.List.{Contains, find}
use Rattle.std.proofs.lemmas.Bool.{cases_eq, cases_lt, cond-true, cond-false, eq-eqb, ne_eqb, eqb-true, lt-ltb, le-ltb}
use Rattle.std.proofs.lemmas.List.{drop-drop}
use borrow.Rule.Slice.PartMut.{post_of}
use Rattle.model_bytes.specs.Bytes.{put_at}
use Rattle.model_buffer.specs.Buffer.{bytes_at}
use Rattle.model_sectors.specs.Discs.{Standing, On, Off, block_of, sectors_of}
use Rattle.model_sectors.specs.Requests.{block_with, blocks_covered, start_in, end_in, IsCovered, filled_by, taken_from}
use Rattle.model_sectors.specs.declared.ReadOut.{ReadOut}
use Rattle.model_sectors.specs.declared.ReadOut.TheVariants as reads
use Rattle.model_sectors.proofs.Pieces.{sectors_in_block, length_sectors}
use Rattle.model_sectors.proofs.Covering.{covered_part}
use Rattle.model_drive.specs.Shown.{Shown, IsOn, IsFormatted, StandsFor, block_count, cells_in}
use Rattle.model_drive.specs.Parts.{IsInRange}
use Rattle.model_drive.specs.Reads.{ReadCause, ReadStep}
use Rattle.model_cache.specs.Chains.{ReadsDisc}
use Rattle.model_cache.specs.Values.{Values, Contents, Has, MayHave, IsPending, IsUnder, StandsCached, is_among}
use Rattle.model_cache.specs.Shown.{CacheShown}
use Rattle.model_cache.specs.Steps.{ReadContents}
use Rattle.model_cache.specs.Causes.{ReadsPart, ReadsParts, EndsReading, ReadPartsCause, leaves_after_read}
use Rattle.model_cache.proofs.Members.{Contains-none, Contains-cases}
use Rattle.ram_requests.proofs.ReadBytes.{done, prefix_none, prefix_more, prefix_all}
use Rattle.ram_cache.specs.Rooms.{pending_at, FirstOf}
use Rattle.ram_cache.specs.Reading.{PartContents}
use Rattle.ram_cache.proofs.ReadSoFar.{ReadSoFar}
use Rattle.ram_cache.proofs.Indices.{Contains-held}
use Rattle.ram_cache.proofs.Entering.{long_by}

-- ---- one part, from the disc

-- the bytes that were put among those of the request fill the part of the block
filled_part : (lba n i at count : ℕ) (block written into : List ℕ) → at ≡ 2048 * (start_in lba i - lba) → count ≡ 2048 * (end_in lba n i - start_in lba i) → length written ≡ count
    → written ≡ take count (drop (2048 * (start_in lba i - 16 * i)) block) → take at into ++ (written ++ post_of at (at + count - at) into) ≡ filled_by lba n i block into
unfolding filled_by taken_from
filled_part lba n i at count block written into at_is count_is long is =
    let many : at + count - at ≡ length written = omega (arith, long) in
    ap (λ (m : ℕ). take at into ++ (written ++ drop m (drop at into))) many
    ∙ ap (λ (l : List ℕ). take at into ++ (written ++ l)) (drop-drop (length written) at into)
    ∙ sym (append_assoc (take at into) written (drop (at + length written) into))
    ∙ ap (λ (m : ℕ). put_at m written into) at_is
    ∙ ap (λ (l : List ℕ). put_at (2048 * (start_in lba i - lba)) l into) (is ∙ ap (λ (m : ℕ). take m (drop (2048 * (start_in lba i - 16 * i)) block)) count_is)

module _ (old new : Shown) (before after : Standing → Type 0) (p : List (ℕ × List ℕ)) (shown : (s : Standing) → before s → StandsFor old s) (lba n i : ℕ)
    (range : IsInRange old lba n) (covered : IsCovered lba n i) where
  some_part : start_in lba i < end_in lba n i
  some_part =
      let k : ℕ = i - block_with lba in
      let low = covered.0 in
      let high = covered.1 in
      let at : block_with lba + k ≡ i = omega (arith, low) in
      subst (λ (m : ℕ). start_in lba m < end_in lba n m) at (covered_part lba n k (omega (arith, low, high)))

  module _ (written into : List ℕ) (at start end : ℕ) (at_is : at ≡ 2048 * (start - lba)) (start_is : start ≡ start_in lba i) (end_is : end ≡ end_in lba n i)
      (v : Values) (not_pending : ¬ IsPending p i) where
    fills : (d : List ℕ) → StandsFor old (On d) → IsUnder p d v → written ≡ sectors_of d start (end - start)
        → take at into ++ (written ++ post_of at (at + 2048 * (end - start) - at) into) ≡ filled_by lba n i (block_of v.disc i) into
    fills d stands under is =
        let some = some_part in
        let inside = range.inside in
        let offset : ℕ = start_in lba i - 16 * i in
        let count : ℕ = end_in lba n i - start_in lba i in
        let there : start ≡ 16 * i + offset = omega (arith, start_is) in
        let many : end - start ≡ count = omega (arith, start_is, end_is) in
        let long = length_sectors d (block_count old) start (end - start) (omega (arith, some, inside, start_is, end_is))
        (long_by old.shape (cells_in old) old.lists old.buffer d (stands.2)) in
        filled_part lba n i at (2048 * (end - start)) (block_of v.disc i) written into (at_is ∙ ap (λ (s : ℕ). 2048 * (s - lba)) start_is) (ap (λ (m : ℕ). 2048 * m) many)
        (ap length is ∙ long)
        (is ∙ ap (λ (s : ℕ). sectors_of d s (end - start)) there
        ∙ ap (sectors_of d (16 * i + offset)) many
        ∙ sectors_in_block d i offset count (omega (arith, some))
        ∙ ap (λ (m : ℕ). take m (drop (2048 * offset) (block_of d i))) (ap (λ (m : ℕ). 2048 * m) (sym many))
        ∙ ap (λ (l : List ℕ). take (2048 * (end - start)) (drop (2048 * offset) l)) (sym (under.others i not_pending)))

    kept : (left : List (ℕ × List ℕ)) → left ≡ p → (d : List ℕ) → after (On d) → IsUnder p d v → StandsCached after left (Has v)
    kept left same d so under = (d, so, subst (λ (l : List (ℕ × List ℕ)). IsUnder l d v) (sym same) under)

    pub below_contents : (left : List (ℕ × List ℕ)) (out : ReadOut) → left ≡ leaves_after_read out p → ReadCause old new start (end - start) out
        → ((t : Standing) → before t → ReadStep after t start (end - start) written out) → StandsCached before p (Has v)
        → PartContents (StandsCached after left) v lba n i into (take at into ++ (written ++ post_of at (at + 2048 * (end - start) - at) into)) out
    below_contents left reads.Good same cause step (d, so, under) =
        let gives = step (On d) so in (kept left same d (gives.1) under, fills d (shown (On d) so) under (gives.0))
    below_contents left reads.NotFormatted same cause step (d, so, under) = absurd (cause.unformatted range.formatted)
    below_contents left (reads.Range known) same cause step (d, so, under) =
        let past = cause.past in let some = some_part in let inside = range.inside in absurd (omega (arith, past, some, inside, start_is, end_is))
    below_contents left (reads.Unread named home) same cause step (d, so, under) = kept left same d (step (On d) so) under
    below_contents left reads.Cut same cause step (d, so, under) = (d ∷ [], step (On d) so, (under.taken, refl))
    below_contents left reads.Off same cause step (d, so, under) = absurd (cause.off range.on)
    below_contents left reads.Fault same cause step (d, so, under) = (d ∷ [], step (On d) so, (under.taken, refl))

-- ---- one part, from the cache

among_one : (i x : ℕ) → is_among i 1 x ≡ (x == i)
among_one i x = elim (cases_eq x i) [
  | inl e ↦ both (nat_lt x i) (nat_lt x (i + 1)) (le-ltb x i (omega (arith, e))) (lt-ltb x (i + 1) (omega (arith, e))) ∙ sym (eq-eqb x i e)
  | inr ne ↦ elim (cases_lt x i) [
    | inl low ↦ first (nat_lt x i) (nat_lt x (i + 1)) (lt-ltb x i low) ∙ sym (ne_eqb x i ne)
    | inr high ↦ second (nat_lt x i) (nat_lt x (i + 1)) (le-ltb x (i + 1) (omega (arith, ne, high))) ∙ sym (ne_eqb x i ne)
  ]
]
  where
    both : (a b : Bool) → a ≡ false → b ≡ true → not a && b ≡ true
    both true b e f = absurd (let w = e in cc)
    both false b e f = f

    first : (a b : Bool) → a ≡ true → not a && b ≡ false
    first true b e = refl
    first false b e = absurd (let w = e in cc)

    second : (a b : Bool) → b ≡ false → not a && b ≡ false
    second true b e = refl
    second false b e = e

pub found_at : (p : List (ℕ × List ℕ)) (i k : ℕ) → FirstOf p true i 1 (Some k) → bytes_at i p ≡ Some ((pending_at p k).1)
found_at [] i k (within, is, before) = absurd (omega (arith, within))
found_at (held ∷ p) i zero (within, is, before) =
    ap (option_map (λ held. held.1)) (cond-true (held.0 == i) (Some held) (find (λ held. held.0 == i) p) (sym (among_one i held.0) ∙ is))
found_at (held ∷ p) i (suc k) (within, is, before) =
    ap (option_map (λ held. held.1)) (cond-false (held.0 == i) (Some held) (find (λ held. held.0 == i) p) (sym (among_one i held.0) ∙ before 0 (omega arith)))
    ∙ found_at p i k (omega (arith, within), is, λ j below. before (suc j) (omega arith))

pub found_none : (p : List (ℕ × List ℕ)) (i : ℕ) → FirstOf p true i 1 None → bytes_at i p ≡ None
found_none [] i none = refl
found_none (held ∷ p) i none =
    ap (option_map (λ held. held.1)) (cond-false (held.0 == i) (Some held) (find (λ held. held.0 == i) p) (sym (among_one i held.0) ∙ none 0 (omega arith)))
    ∙ found_none p i (λ j below. none (suc j) (omega arith))

pub none_pending : (p : List (ℕ × List ℕ)) (i : ℕ) → FirstOf p true i 1 None → ¬ IsPending p i
none_pending [] i none (bytes, has) = Contains-none (i, bytes) has
none_pending (held ∷ p) i none (bytes, has) = elim (Contains-cases held p (i, bytes) has) [
  | inl is ↦ differs (sym (sym (among_one i held.0) ∙ none 0 (omega arith)) ∙ eq-eqb held.0 i (ap (λ (x : ℕ × List ℕ). x.0) is))
  | inr more ↦ none_pending p i (λ j below. none (suc j) (omega arith)) (bytes, more)
]
  where
    differs : false ≡ true → ⊥
    differs e = cc

-- the number of the one that was found
found_number : (p : List (ℕ × List ℕ)) (i k : ℕ) → FirstOf p true i 1 (Some k) → (pending_at p k).0 ≡ i
found_number p i k (within, is, before) = eqb-true ((pending_at p k).0) i (sym (among_one i ((pending_at p k).0)) ∙ is)

pub found_block : (p : List (ℕ × List ℕ)) (i k : ℕ) (d : List ℕ) (v : Values) → FirstOf p true i 1 (Some k) → IsUnder p d v → (pending_at p k).1 ≡ block_of v.disc i
found_block p i k d v found under =
    sym (under.last i ((pending_at p k).1) (subst (λ (m : ℕ). Contains p (m, (pending_at p k).1)) (found_number p i k found) (Contains-held p k (found.0))))

-- ---- the turns

-- the disc that is shown has as many bytes as the lists say
pub long_values : (drive : Shown) (before : Standing → Type 0) (p : List (ℕ × List ℕ)) → ((s : Standing) → before s → StandsFor drive s) → (v : Values) → StandsCached before p (Has v)
    → length v.disc ≡ 32768 * block_count drive
long_values drive before p shown v (d, so, under) =
    under.taken.as_long ∙ long_by drive.shape (cells_in drive) drive.lists drive.buffer d ((shown (On d) so).2)

-- with the power on it stands for no candidates
pub never_off : (drive : Shown) (before : Standing → Type 0) (p : List (ℕ × List ℕ)) → ((s : Standing) → before s → StandsFor drive s) → IsOn drive → (all : List Values)
    → StandsCached before p (MayHave all) → ⊥
never_off drive before p shown on all (discs, so, taken) = (shown (Off discs) so).1 on

-- the answers of a read that come once it has begun, beside Good
abbrev ReadOutIsLate : ReadOut → Type 0
ReadOutIsLate (reads.Unread named home) = Unit {0}
ReadOutIsLate reads.Cut = Unit {0}
ReadOutIsLate reads.Fault = Unit {0}
ReadOutIsLate _ = ⊥

-- what a part that was read keeps
record KeepsMost (old new : CacheShown) : Type 0 where
  pub same_pending : new.pending ≡ old.pending
  pub on : IsOn new.drive
  pub formatted : IsFormatted new.drive
  pub same_count : block_count new.drive ≡ block_count old.drive

keeps_most : (old new : CacheShown) (lba n i : ℕ) (held : Option (List ℕ)) → IsOn old.drive → IsFormatted old.drive → new.drive.shape ≡ old.drive.shape
    → ReadsPart old new lba n i held reads.Good → KeepsMost old new
keeps_most old new lba n i (Some bytes) on formatted same part = record {
  same_pending = ap (λ (s : CacheShown). s.pending) (part.1);
  on = subst (λ (s : CacheShown). IsOn s.drive) (sym (part.1)) on;
  formatted = subst (λ (s : CacheShown). IsFormatted s.drive) (sym (part.1)) formatted;
  same_count = ap (λ (s : CacheShown). block_count s.drive) (part.1);
}
keeps_most old new lba n i None on formatted same part = record {
  same_pending = part.1;
  on = part.0.cause.ends.is_on;
  formatted = subst (λ l. IsSome l) (sym part.0.cause.keeps.same_lists) formatted;
  same_count = rw (same, part.0.cause.keeps.same_lists) refl;
}

module _ (start : CacheShown) (lba n : ℕ) (before : Contents → Type 0) (range : IsInRange start.drive lba n)
    (long : (v : Values) → before (Has v) → length v.disc ≡ 32768 * block_count start.drive) (only : (all : List Values) → before (MayHave all) → ⊥) where
  pub read_none : (into : List ℕ) → length into ≡ 2048 * n → ReadSoFar start start lba n 0 into before before
  read_none into whole = record {
    parts = refl;
    same_pending = refl;
    on = range.on;
    formatted = range.formatted;
    same_shape = refl;
    same_count = refl;
    long = whole;
    gives = λ v so. (so, prefix_none lba n v.disc into);
  }

  module _ (mid new : CacheShown) (k : ℕ) (covered : k < blocks_covered lba n) (into into' : List ℕ) (amid after : Contents → Type 0) (far : ReadSoFar start mid lba n k into before amid) where
    -- one part more
    pub read_more : ReadsPart mid new lba n (block_with lba + k) (bytes_at (block_with lba + k) mid.pending) reads.Good → new.drive.shape ≡ mid.drive.shape → length into' ≡ length into
        → ((v : Values) → amid (Has v) → PartContents after v lba n (block_with lba + k) into into' reads.Good) → ReadSoFar start new lba n (k + 1) into' before after
    read_more part same whole step =
        let keeps = keeps_most mid new lba n (block_with lba + k) (bytes_at (block_with lba + k) mid.pending) far.on far.formatted same part in
        let more : suc k ≡ k + 1 = omega arith in
        let inside = range.inside in
        subst (λ (m : ℕ). ReadSoFar start new lba n m into' before after) more (record {
          parts = (mid, far.parts, subst (λ (l : List (ℕ × List ℕ)). ReadsPart mid new lba n (block_with lba + k) (bytes_at (block_with lba + k) l) reads.Good) far.same_pending part);
          same_pending = keeps.same_pending ∙ far.same_pending;
          on = keeps.on;
          formatted = keeps.formatted;
          same_shape = same ∙ far.same_shape;
          same_count = keeps.same_count ∙ far.same_count;
          long = whole ∙ far.long;
          gives = λ v so.
              let was = far.gives v so in
              let gave = step v (was.0) in
              (gave.0, (prefix_more lba n k (block_count start.drive) v.disc (block_of v.disc (block_with lba + k)) into into' covered (omega (arith, inside)) (long v so) far.long refl (gave.1) (was.1)).1);
        })

    -- a part could not be read, or its read was stopped
    ends_by : (held : Option (List ℕ)) (out : ReadOut) → bytes_at (block_with lba + k) start.pending ≡ held → ReadsPart mid new lba n (block_with lba + k) held out → out ≢ reads.Good
        → EndsReading start new lba n out
    ends_by (Some bytes) out is part not_good = absurd (not_good (part.0))
    ends_by None out is part not_good = record {
      inside = range;
      before = k;
      covered = covered;
      mid = mid;
      parts = far.parts;
      not_pending = is;
      ends = part;
    }

    -- the answers that do not come
    not_these : (held : Option (List ℕ)) (out : ReadOut) → ReadsPart mid new lba n (block_with lba + k) held out → out ≢ reads.Good → ReadOutIsLate out
    not_these (Some bytes) out part not_good = absurd (not_good (part.0))
    not_these None reads.Good part not_good = absurd (not_good refl)
    not_these None reads.NotFormatted part not_good = part.0.cause.unformatted far.formatted
    not_these None (reads.Range known) part not_good =
        let past = part.0.cause.past in
        let some = covered_part lba n k covered in
        let inside = range.inside in
        let same = far.same_count in
        absurd (omega (arith, past, some, inside, same))
    not_these None (reads.Unread named home) part not_good = tt
    not_these None reads.Cut part not_good = tt
    not_these None reads.Off part not_good = part.0.cause.off far.on
    not_these None reads.Fault part not_good = tt

    pub part_ends : (out : ReadOut) → ReadsPart mid new lba n (block_with lba + k) (bytes_at (block_with lba + k) mid.pending) out → out ≢ reads.Good → ReadPartsCause start new lba n out
    part_ends out part not_good =
        cause_of out (not_these (bytes_at (block_with lba + k) mid.pending) out part not_good)
        (ends_by (bytes_at (block_with lba + k) start.pending) out refl
        (subst (λ (l : List (ℕ × List ℕ)). ReadsPart mid new lba n (block_with lba + k) (bytes_at (block_with lba + k) l) out) far.same_pending part) not_good)
      where
        cause_of : (out : ReadOut) → ReadOutIsLate out → EndsReading start new lba n out → ReadPartsCause start new lba n out
        cause_of reads.Good late ends = absurd late
        cause_of reads.NotFormatted late ends = late
        cause_of (reads.Range known) late ends = absurd late
        cause_of (reads.Unread named home) late ends = ends
        cause_of reads.Cut late ends = ends
        cause_of reads.Off late ends = late
        cause_of reads.Fault late ends = ends

    pub part_stops : (out : ReadOut) → out ≢ reads.Good → ((v : Values) → amid (Has v) → PartContents after v lba n (block_with lba + k) into into' out)
        → (s : Contents) → before s → ReadContents after s lba n into' out
    part_stops out not_good step (Has v) so = contents_of out v not_good (step v ((far.gives v so).0))
      where
        contents_of : (out : ReadOut) (v : Values) → out ≢ reads.Good → PartContents after v lba n (block_with lba + k) into into' out → ReadContents after (Has v) lba n into' out
        contents_of reads.Good v not_good p = absurd (not_good refl)
        contents_of reads.NotFormatted v not_good p = absurd p
        contents_of (reads.Range known) v not_good p = absurd p
        contents_of (reads.Unread named home) v not_good p = p
        contents_of reads.Cut v not_good p = p
        contents_of reads.Off v not_good p = p
        contents_of reads.Fault v not_good p = p
    part_stops out not_good step (MayHave all) so = absurd (only all so)

  -- all parts were read
  module _ (now : CacheShown) (k : ℕ) (into : List ℕ) (after : Contents → Type 0) (far : ReadSoFar start now lba n k into before after) (all : k ≡ blocks_covered lba n) where
    pub all_cause : ReadPartsCause start now lba n reads.Good
    all_cause = (range, subst (ReadsParts start now lba n) all far.parts)

    pub all_contents : (s : Contents) → before s → ReadContents after s lba n into reads.Good
    all_contents (Has v) so =
        let gave = far.gives v so in
        (prefix_all lba n v.disc into far.long (subst (λ (m : ℕ). take (2048 * done lba n m) into ≡ sectors_of v.disc lba (done lba n m)) all (gave.1)), gave.0)
    all_contents (MayHave every) so = absurd (only every so)

-- a read of the disc is the part of a request in a block
pub below_cause : (old new : CacheShown) (lba n i start end : ℕ) (out : ReadOut) → start ≡ start_in lba i → end ≡ end_in lba n i → ReadsDisc old.drive new.drive start (end - start) out
    → new.pending ≡ leaves_after_read out old.pending → new.caches ≡ old.caches → ReadsPart old new lba n i None out
below_cause old new lba n i start end out start_is end_is reads left mode =
    (subst (λ (s : ℕ). ReadsDisc old.drive new.drive s (end_in lba n i - s) out) start_is (subst (λ (e : ℕ). ReadsDisc old.drive new.drive start (e - start) out) end_is reads), left, mode)
