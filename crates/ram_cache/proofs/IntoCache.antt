-- A write into the cache: its causes, and what it makes of what the drive stands for.
use Rattle.std.proofs.Common.{◌≡◌, ◌≢◌, ℕ, ◌+◌, ◌-◌, ◌≤◌, inl, inr, Bool, true, false, not, List, length, refl, sym, ap, ◌∙◌, subst, arith}
use Rattle.std.specs.Prelude.{MatchBool, nat_lt, ◌&&◌, ◌<◌}
use Rattle.std.proofs.lemmas.Bool.{le-ltb}
use Rattle.model_cache.specs.declared.TheConstants.{CACHED_AT_ONCE}
use Rattle.std.specs.List.{Contains, filter}
use Rattle.std.proofs.lemmas.List.{length-map}
use Rattle.model_buffer.specs.Buffer.{numbers_in}
use Rattle.model_sectors.specs.Requests.{block_with, blocks_covered}
use Rattle.model_sectors.specs.declared.ReadOut.{ReadOut}
use Rattle.model_sectors.specs.declared.ReadOut.TheVariants as reads
use Rattle.model_drive.specs.declared.WriteOut.{WriteOut}
use Rattle.model_drive.specs.declared.WriteOut.TheVariants as writes
use Rattle.model_drive.specs.Shown.{block_count}
use Rattle.model_drive.specs.Parts.{IsInRange}
use Rattle.model_cache.specs.Values.{Values, Contents, Has, MayHave, is_among, cached}
use Rattle.model_cache.specs.Shown.{CacheShown, AreApart, dropped}
use Rattle.model_cache.specs.Steps.{CachedContents, ThroughContents, ThroughValues, SomePending}
use Rattle.model_cache.specs.Drains.{FallsShort, DrainCause}
use Rattle.model_cache.specs.Causes.{CachedCause, CachedCauseOf, LacksRestInCache, ThroughCause, ThroughCauseOf, EndsRest, MakesRoom, leave_first, fresh_blocks}
use Rattle.model_cache.proofs.Members.{Contains-passed}
use Rattle.ram_cache.specs.Flushes.{FlushContents, LacksSome, DrainsDue, due_of}
use Rattle.ram_cache.specs.Staging.{TakesIn, EndsComing, StoppedContents, HasRoomForBlocks}
use Rattle.ram_cache.specs.Calls.{goes_in, WritesOn, WritesBy, WritesContents}
use Rattle.ram_cache.proofs.Fresh.{fresh_total}

-- ---- a rest that could not be read

-- the answers of a write whose rest could not be read
abbrev IsRestOut : WriteOut → Type 0
IsRestOut (writes.Unread named home) = Unit {0}
IsRestOut writes.Cut = Unit {0}
IsRestOut writes.Fault = Unit {0}
IsRestOut _ = ⊥

is_rest : (lba i : ℕ) (read_out : ReadOut) (out : WriteOut) → EndsRest lba i read_out out → IsRestOut out
is_rest lba i reads.Good out tells = absurd tells
is_rest lba i reads.NotFormatted out tells = absurd tells
is_rest lba i (reads.Range known) out tells = absurd tells
is_rest lba i (reads.Unread named home) out tells = subst IsRestOut (sym tells) tt
is_rest lba i reads.Cut out tells = subst IsRestOut (sym tells) tt
is_rest lba i reads.Off out tells = absurd tells
is_rest lba i reads.Fault out tells = subst IsRestOut (sym tells) tt

stopped_by : (after : Contents → Type 0) (v : Values) (lba n : ℕ) (bytes : List ℕ) (out : WriteOut) → IsRestOut out → StoppedContents after v out → CachedContents after (Has v) lba n bytes out
stopped_by after v lba n bytes writes.Good none p = absurd none
stopped_by after v lba n bytes writes.NotFormatted none p = absurd none
stopped_by after v lba n bytes (writes.Range known) none p = absurd none
stopped_by after v lba n bytes (writes.Unread named home) some p = p
stopped_by after v lba n bytes (writes.NoSpare named) none p = absurd none
stopped_by after v lba n bytes (writes.NoUpdate counter) none p = absurd none
stopped_by after v lba n bytes writes.Cut some p = inl p
stopped_by after v lba n bytes writes.Off none p = absurd none
stopped_by after v lba n bytes writes.Fault some p = inl p

module _ (old new : CacheShown) (lba n : ℕ) (bytes : List ℕ) (before after : Contents → Type 0) (only : (all : List Values) → before (MayHave all) → ⊥) where
  pub stopped_cached : (out : WriteOut) → EndsComing old new lba n out → ((v : Values) → before (Has v) → StoppedContents after v out) → (s : Contents) → before s → CachedContents after s lba n bytes out
  stopped_cached out ends step (Has v) so =
      stopped_by after v lba n bytes out (is_rest lba (block_with lba + ends.before) ends.lacks.read_out out ends.lacks.tells) (step v so)
  stopped_cached out ends step (MayHave all) so = absurd (only all so)

  pub come_contents : ((v : Values) → before (Has v) → after (Has (cached v lba n bytes))) → (s : Contents) → before s → CachedContents after s lba n bytes writes.Good
  come_contents step (Has v) so = step v so
  come_contents step (MayHave all) so = absurd (only all so)

-- the answers of the write are these, with what was asked
pub taken_in : (old new : CacheShown) (lba n : ℕ) (bytes : List ℕ) (out : WriteOut) → EndsComing old new lba n out → TakesIn old new lba n bytes out
taken_in old new lba n bytes writes.Good ends = absurd (is_rest lba (block_with lba + ends.before) ends.lacks.read_out writes.Good ends.lacks.tells)
taken_in old new lba n bytes writes.NotFormatted ends = ends
taken_in old new lba n bytes (writes.Range known) ends = ends
taken_in old new lba n bytes (writes.Unread named home) ends = ends
taken_in old new lba n bytes (writes.NoSpare named) ends = ends
taken_in old new lba n bytes (writes.NoUpdate counter) ends = ends
taken_in old new lba n bytes writes.Cut ends = ends
taken_in old new lba n bytes writes.Off ends = ends
taken_in old new lba n bytes writes.Fault ends = ends

-- ---- those that leave first

module _ (old mid : CacheShown) (lba n leave : ℕ) (leave_is : leave ≡ leave_first old lba n) where
  abbrev first : ℕ
  first = block_with lba

  abbrev count : ℕ
  count = blocks_covered lba n

  -- then there is room
  pub has_room : AreApart mid.pending → count ≤ 32 → DrainsDue old mid false first count leave writes.Good → HasRoomForBlocks mid.pending lba n
  has_room apart few rule =
      let total = fresh_total mid.pending first count apart in
      let numbers = length-map mid.pending (λ (x : ℕ × List ℕ). x.0) in
      let left : length (filter (λ i. not (is_among first count i)) (numbers_in mid.pending)) + leave ≡ length (filter (λ i. not (is_among first count i)) (numbers_in old.pending)) + 0 = rule.1.left in
      let many : leave ≡ length (filter (λ i. not (is_among first count i)) (numbers_in old.pending)) + count - 32 = leave_is in
      room_of_numbers (length mid.pending) (length (numbers_in mid.pending)) (length (fresh_blocks mid.pending first count)) (length (filter (λ i. not (is_among first count i)) (numbers_in mid.pending)))
      (length (filter (λ i. not (is_among first count i)) (numbers_in old.pending))) count leave numbers total left many few
    where
      room_of_numbers : (p m f kept was c l : ℕ) → m ≡ p → m + f ≡ kept + c → kept + l ≡ was + 0 → l ≡ was + c - 32 → c ≤ 32 → p + f ≤ 32
      room_of_numbers p m f kept was c l a b d e g = omega arith

  makes_room : (new : CacheShown) (out : WriteOut) → DrainCause old new (due_of false first count old) leave out → MakesRoom old new lba n out
  makes_room new out cause = subst (λ (m : ℕ). DrainCause old new (due_of false first count old) m out) leave_is cause

  short : (new : CacheShown) (out : WriteOut) → LacksSome old new false first count leave out → FallsShort old new (due_of false first count old) leave out
  short new out lacks = record { short = lacks.missing; tried = lacks.drained.tried }

  module _ (new : CacheShown) (bytes : List ℕ) (range : IsInRange old.drive lba n) where
    pub refused_cached : (out : WriteOut) → DrainsDue old new false first count leave out → out ≢ writes.Good → CachedCauseOf old new lba n bytes out
    refused_cached writes.Good rule not_good = absurd (not_good refl)
    refused_cached writes.NotFormatted rule not_good = rule
    refused_cached (writes.Range known) rule not_good = absurd rule
    refused_cached (writes.Unread named block) rule not_good = absurd rule
    refused_cached (writes.NoSpare named) rule not_good = (range, makes_room new (writes.NoSpare named) (short new (writes.NoSpare named) rule))
    refused_cached (writes.NoUpdate counter) rule not_good = (range, makes_room new (writes.NoUpdate counter) (short new (writes.NoUpdate counter) rule))
    refused_cached writes.Cut rule not_good = (range, inl (makes_room new writes.Cut rule))
    refused_cached writes.Off rule not_good = rule
    refused_cached writes.Fault rule not_good = (range, inl (makes_room new writes.Fault rule))

    module _ (rule : DrainsDue old mid false first count leave writes.Good) where
      made : MakesRoom old mid lba n writes.Good
      made = makes_room mid writes.Good (rule.0, rule.1.tried)

      lacks : (out : WriteOut) → EndsComing mid new lba n out → LacksRestInCache old new lba n out
      lacks out ends = record {
        mid = mid;
        drained = made;
        before = ends.before;
        covered = ends.covered;
        late = ends.late;
        rests = ends.rests;
        partly = ends.lacks.partly;
        not_pending = ends.not_pending;
        read_out = ends.lacks.read_out;
        ends = ends.lacks.ends;
        tells = ends.lacks.tells;
        left = ends.lacks.left;
        same_mode = ends.lacks.same_mode ∙ ends.same_mode ∙ rule.1.same_mode;
      }

      not_this : (out : WriteOut) → EndsComing mid new lba n out → IsRestOut out
      not_this out ends = is_rest lba (block_with lba + ends.before) ends.lacks.read_out out ends.lacks.tells

      pub cached_cause : (out : WriteOut) → TakesIn mid new lba n bytes out → CachedCauseOf old new lba n bytes out
      cached_cause writes.Good all = record { inside = range; mid = mid; drained = made; late = all.late; rests = all.rests; comes = all.comes }
      cached_cause writes.NotFormatted ends = not_this writes.NotFormatted ends
      cached_cause (writes.Range known) ends = absurd (not_this (writes.Range known) ends)
      cached_cause (writes.Unread named home) ends = (range, lacks (writes.Unread named home) ends)
      cached_cause (writes.NoSpare named) ends = absurd (not_this (writes.NoSpare named) ends)
      cached_cause (writes.NoUpdate counter) ends = absurd (not_this (writes.NoUpdate counter) ends)
      cached_cause writes.Cut ends = (range, inr (lacks writes.Cut ends))
      cached_cause writes.Off ends = not_this writes.Off ends
      cached_cause writes.Fault ends = (range, inr (lacks writes.Fault ends))

pub refused_cached_contents : (after : Contents → Type 0) (lba n : ℕ) (bytes : List ℕ) (s : Contents) (out : WriteOut) → out ≢ writes.Good → FlushContents after s out → CachedContents after s lba n bytes out
refused_cached_contents after lba n bytes (Has v) writes.Good not_good p = absurd (not_good refl)
refused_cached_contents after lba n bytes (Has v) writes.NotFormatted not_good p = absurd p
refused_cached_contents after lba n bytes (Has v) (writes.Range known) not_good p = absurd p
refused_cached_contents after lba n bytes (Has v) (writes.Unread named home) not_good p = absurd p
refused_cached_contents after lba n bytes (Has v) (writes.NoSpare named) not_good p = p
refused_cached_contents after lba n bytes (Has v) (writes.NoUpdate counter) not_good p = p
refused_cached_contents after lba n bytes (Has v) writes.Cut not_good p = inr p
refused_cached_contents after lba n bytes (Has v) writes.Off not_good p = p
refused_cached_contents after lba n bytes (Has v) writes.Fault not_good p = inr p
refused_cached_contents after lba n bytes (MayHave all) out not_good p = absurd p

-- ---- the call as a whole

pub either_way : (b : Bool) (P : Type 0) → P → MatchBool b P P
either_way true P p = p
either_way false P p = p

-- a write that does not go in goes through
not_both : (a b : Bool) → b ≡ false → a && b ≡ false
not_both true b e = e
not_both false b e = refl

pub off_not : (into_cache : Bool) (lba n : ℕ) → into_cache ≡ false → goes_in into_cache lba n ≡ false
off_not true lba n e = absurd (let w = e in cc)
off_not false lba n e = refl

pub many_not : (into_cache : Bool) (lba n lba' n' blocks : ℕ) → blocks ≡ blocks_covered lba' n' → lba' ≡ lba → n' ≡ n → 16 < blocks → goes_in into_cache lba n ≡ false
many_not into_cache lba n lba' n' blocks is lba_is n_is many =
    let same : blocks ≡ blocks_covered lba n = is ∙ ap (λ (l : ℕ). blocks_covered l n') lba_is ∙ ap (blocks_covered lba) n_is in
    not_both into_cache (nat_lt (blocks_covered lba n) (CACHED_AT_ONCE + 1)) (le-ltb (blocks_covered lba n) (CACHED_AT_ONCE + 1) (omega (arith, same, many)))

pub through_on : (old new : CacheShown) (into_cache : Bool) (lba n lba' n' : ℕ) (bytes : List ℕ) (out : WriteOut) → lba' ≡ lba → n' ≡ n → goes_in into_cache lba n ≡ false → ThroughCauseOf old new lba' n' out
    → WritesOn old new into_cache lba n bytes out
through_on old new into_cache lba n lba' n' bytes out lba_is n_is not_in cause =
    subst (λ (b : Bool). MatchBool b (CachedCauseOf old new lba n bytes out) (ThroughCauseOf old new lba n out)) (sym not_in)
    (subst (λ (m : ℕ). ThroughCauseOf old new lba m out) n_is (subst (λ (l : ℕ). ThroughCauseOf old new l n' out) lba_is cause))

module _ (old mid new : CacheShown) (is : mid ≡ dropped old) (lba n : ℕ) (bytes : List ℕ) where
  cached_entered : (out : WriteOut) → CachedCauseOf mid new lba n bytes out → CachedCause old new lba n bytes out
  cached_entered writes.Good p = subst (λ (m : CacheShown). CachedCauseOf m new lba n bytes writes.Good) is p
  cached_entered writes.NotFormatted p = absurd p
  cached_entered (writes.Range known) p = subst (λ (m : CacheShown). CachedCauseOf m new lba n bytes (writes.Range known)) is p
  cached_entered (writes.Unread named home) p = subst (λ (m : CacheShown). CachedCauseOf m new lba n bytes (writes.Unread named home)) is p
  cached_entered (writes.NoSpare named) p = subst (λ (m : CacheShown). CachedCauseOf m new lba n bytes (writes.NoSpare named)) is p
  cached_entered (writes.NoUpdate counter) p = subst (λ (m : CacheShown). CachedCauseOf m new lba n bytes (writes.NoUpdate counter)) is p
  cached_entered writes.Cut p = subst (λ (m : CacheShown). CachedCauseOf m new lba n bytes writes.Cut) is p
  cached_entered writes.Off p = absurd p
  cached_entered writes.Fault p = subst (λ (m : CacheShown). CachedCauseOf m new lba n bytes writes.Fault) is p

  through_entered : (out : WriteOut) → ThroughCauseOf mid new lba n out → ThroughCause old new lba n out
  through_entered writes.Good p = subst (λ (m : CacheShown). ThroughCauseOf m new lba n writes.Good) is p
  through_entered writes.NotFormatted p = absurd p
  through_entered (writes.Range known) p = subst (λ (m : CacheShown). ThroughCauseOf m new lba n (writes.Range known)) is p
  through_entered (writes.Unread named home) p = subst (λ (m : CacheShown). ThroughCauseOf m new lba n (writes.Unread named home)) is p
  through_entered (writes.NoSpare named) p = subst (λ (m : CacheShown). ThroughCauseOf m new lba n (writes.NoSpare named)) is p
  through_entered (writes.NoUpdate counter) p = subst (λ (m : CacheShown). ThroughCauseOf m new lba n (writes.NoUpdate counter)) is p
  through_entered writes.Cut p = subst (λ (m : CacheShown). ThroughCauseOf m new lba n writes.Cut) is p
  through_entered writes.Off p = absurd p
  through_entered writes.Fault p = subst (λ (m : CacheShown). ThroughCauseOf m new lba n writes.Fault) is p

  pub write_entered : (into_cache : Bool) (out : WriteOut) → WritesOn mid new into_cache lba n bytes out → WritesBy old new into_cache lba n bytes out
  write_entered into_cache out p = by_way (goes_in into_cache lba n) p
    where
      by_way : (b : Bool) → MatchBool b (CachedCauseOf mid new lba n bytes out) (ThroughCauseOf mid new lba n out) → MatchBool b (CachedCause old new lba n bytes out) (ThroughCause old new lba n out)
      by_way true p = cached_entered out p
      by_way false p = through_entered out p

  some_old : SomePending mid lba n → SomePending old lba n
  some_old some = record {
    block = some.block;
    covered = some.covered;
    pending = (
      some.pending.0,
      (Contains-passed (λ (x : ℕ × List ℕ). nat_lt x.0 (block_count old.drive)) old.pending (some.block, some.pending.0)
          (subst (λ (m : CacheShown). Contains m.pending (some.block, some.pending.0)) is (some.pending.1))).1,
    );
  }

  module _ (after : Contents → Type 0) where
    through_values : (v : Values) (out : WriteOut) → ThroughValues after v lba n bytes mid new out → ThroughValues after v lba n bytes old new out
    through_values v writes.Good p = p
    through_values v writes.NotFormatted p = p
    through_values v (writes.Range known) p = p
    through_values v (writes.Unread named home) p = p
    through_values v (writes.NoSpare named) p = p
    through_values v (writes.NoUpdate counter) p = p
    through_values v writes.Cut (inl p) = inl (some_old (p.0), p.1)
    through_values v writes.Cut (inr p) = inr p
    through_values v writes.Off p = p
    through_values v writes.Fault (inl p) = inl (some_old (p.0), p.1)
    through_values v writes.Fault (inr p) = inr p

    through_old : (s : Contents) (out : WriteOut) → ThroughContents mid new after s lba n bytes out → ThroughContents old new after s lba n bytes out
    through_old (Has v) out p = through_values v out p
    through_old (MayHave all) writes.Off p = p
    through_old (MayHave all) writes.Good p = p
    through_old (MayHave all) writes.NotFormatted p = p
    through_old (MayHave all) (writes.Range known) p = p
    through_old (MayHave all) (writes.Unread named home) p = p
    through_old (MayHave all) (writes.NoSpare named) p = p
    through_old (MayHave all) (writes.NoUpdate counter) p = p
    through_old (MayHave all) writes.Cut p = p
    through_old (MayHave all) writes.Fault p = p

    pub contents_entered : (s : Contents) (into_cache : Bool) (out : WriteOut) → WritesContents mid new after s into_cache lba n bytes out → WritesContents old new after s into_cache lba n bytes out
    contents_entered s into_cache out p = by_way (goes_in into_cache lba n) p
      where
        by_way : (b : Bool) → MatchBool b (CachedContents after s lba n bytes out) (ThroughContents mid new after s lba n bytes out)
            → MatchBool b (CachedContents after s lba n bytes out) (ThroughContents old new after s lba n bytes out)
        by_way true p = p
        by_way false p = through_old s out p
