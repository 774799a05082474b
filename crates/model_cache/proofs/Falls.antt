-- To which of its values a block may fall back, over each call.
use Rattle.std.proofs.Common.{◌≡◌, ℕ, zero, suc, ◌+◌, ◌-◌, ◌*◌, ◌⊎◌, inl, inr, Bool, true, false, not, Option, Some, None, List, [], ◌∷◌, ◌++◌, take, drop, refl, sym, ap, ◌∙◌, subst, arith, length-take}
use Rattle.std.specs.Prelude.{nat_lt, MatchBool}
use Rattle.std.specs.List.{All, Contains}
use Rattle.std.proofs.lemmas.Bool.{cases_lt, and_from, not_from_false, lt-ltb, le-ltb, true≢false}
use Rattle.std.proofs.lemmas.List.Elements.{All-nil, All-cons, All-head, All-tail, Contains-append_cases}
use Rattle.model_sectors.specs.Discs.{block_of, replaced}
use Rattle.model_sectors.specs.Requests.{block_with, blocks_covered, IsCovered}
use Rattle.model_sectors.specs.declared.ReadOut.{ReadOut}
use Rattle.model_sectors.specs.declared.ReadOut.TheVariants as reads
use Rattle.model_sectors.specs.declared.PowerOut.{PowerOut}
use Rattle.model_sectors.specs.declared.PowerOut.TheVariants as powers
use Rattle.model_sectors.proofs.Pieces.{piece_of_piece}
use Rattle.model_places.specs.Places.{Lists}
use Rattle.model_medium.specs.Cells.{Cell}
use Rattle.model_geometry.specs.Geometry.{Shape}
use Rattle.model_drive.specs.declared.WriteOut.{WriteOut}
use Rattle.model_drive.specs.declared.WriteOut.TheVariants as writes
use Rattle.model_drive.specs.declared.FormatOut.{FormatOut}
use Rattle.model_drive.specs.declared.FormatOut.TheVariants as formats
use Rattle.model_drive.specs.declared.Kind.{Kind}
use Rattle.model_drive.specs.declared.Kind.TheVariants as kinds
use Rattle.model_formats.specs.Stopped.{zero_disc}
use Rattle.model_drive.specs.Rewriting.{RewriteStep}
use Rattle.model_drive.specs.declared.ExpandOut.{ExpandOut}
use Rattle.model_drive.specs.declared.ExpandOut.TheVariants as expands
use Rattle.model_drive.specs.Shown.{Shown, IsFirstUnder, cells_in}
use Rattle.model_drive.specs.Expands.{shortened}
use Rattle.model_cache.specs.declared.SyncOut.{SyncOut}
use Rattle.model_cache.specs.declared.SyncOut.TheVariants as syncs
use Rattle.model_cache.specs.declared.TickOut.{TickOut}
use Rattle.model_cache.specs.declared.TickOut.TheVariants as ticks
use Rattle.model_cache.specs.Values.{Values, Contents, Has, MayHave, HasValue, HasBlock, IsTaken, AreTaken, settled_values, settled_but, waits, no_values, with_older, lifted, candidates_of, with_written, cached, values_now, is_among}
use Rattle.model_cache.specs.Shown.{CacheShown, goes_into_cache}
use Rattle.model_cache.specs.Steps.{ReadContents, VerifyContents, ExpandContents, SyncContents, TickContents, PowerContents, ThroughContents, CachedContents, WriteContents, FormatContents, FormatValues, FullValues}
use Rattle.model_cache.specs.Falling.{EachValue, FallsTo, FallsWithin, value_written, LiesIn, Misses}
use Rattle.model_cache.proofs.Among.{AreAmong}
use Rattle.model_cache.proofs.Members.{Contains-none, Contains-first, Contains-later, Contains-cases, Contains-passed}
use Rattle.model_cache.proofs.ReplacedBlocks.{unreached_block, reached_block, missed_block, as_long_as}

-- the power is on, each block has one value, and this is so of the block's value, if the disc has it
pub record HasOneBy (P : List ℕ → Type 0) (i : ℕ) (s : Contents) : Type 0 where
  pub disc : List ℕ
  pub is : s ≡ Has (settled_values disc)
  pub one : HasBlock disc i → P (block_of disc i)

module _ (P : List ℕ → Type 0) (i : ℕ) where
  -- one and two candidates
  pub one : (v : Values) → EachValue P i v → All (EachValue P i) (v ∷ [])
  one v p = All-cons (EachValue P i) v [] p (All-nil (EachValue P i))

  pub two : (v w : Values) → EachValue P i v → EachValue P i w → All (EachValue P i) (v ∷ w ∷ [])
  two v w p q = All-cons (EachValue P i) v (w ∷ []) p (one w q)

  pub only : (v : Values) → FallsTo P i (Has v) → EachValue P i v
  only v p = All-head (EachValue P i) v [] p

  -- a disc that is taken from values has one of them
  taken_within : (v : Values) (disc : List ℕ) → IsTaken v disc → EachValue P i v → HasBlock disc i → P (block_of disc i)
  taken_within v disc taken p has = let long = taken.as_long in p (omega (arith, long, has)) (block_of disc i) (taken.each i)

  -- the first disc that fits, of those that are taken
  first_within : (shape : Shape) (cells : List Cell) (lists : Lists) (all : List Values) (discs : List (List ℕ)) (found : List ℕ) → AreTaken all discs
      → IsFirstUnder shape cells lists discs found → All (EachValue P i) all → HasBlock found i → P (block_of found i)
  first_within shape cells lists [] [] found taken first p has = absurd first
  first_within shape cells lists [] (disc ∷ discs) found taken first p has = absurd (let w = taken in cc)
  first_within shape cells lists (v ∷ all) [] found taken first p has = absurd taken
  first_within shape cells lists (v ∷ all) (disc ∷ discs) found taken (inl first) p has =
      subst (λ (d : List ℕ). HasBlock d i → P (block_of d i)) (sym first.1) (taken_within v disc (taken.0) (All-head (EachValue P i) v all p)) has
  first_within shape cells lists (v ∷ all) (disc ∷ discs) found taken (inr later) p has =
      first_within shape cells lists all discs found (taken.1) (later.1) (All-tail (EachValue P i) v all p) has

  pub settled_within : (disc : List ℕ) → (HasBlock disc i → P (block_of disc i)) → EachValue P i (settled_values disc)
  settled_within disc p has bytes (inl e) = subst P (sym e) (p has)
  settled_within disc p has bytes (inr older) = absurd (Contains-none (i, bytes) older)

  pub none_within : EachValue P i no_values
  none_within has = absurd (omega arith)

  -- after the power went off and on again the block has one of its values
  pub power_finds_one : (new : Shown) (s t : Contents) (known : ℕ) → PowerContents new (λ x. x ≡ t) s (powers.Ready known) → FallsTo P i s → HasOneBy P i t
  power_finds_one new s t known p within = record {
    disc = p.finds.disc;
    is = sym p.finds.found;
    one = first_within new.shape (cells_in new) p.finds.lists (candidates_of s) p.discs p.finds.disc p.taken p.finds.first within;
  }

  pub power_falls : (new : Shown) (s t : Contents) (out : PowerOut) → PowerContents new (λ x. x ≡ t) s out → FallsTo P i s → FallsTo P i t
  power_falls new s t (powers.Ready known) p within =
      let found = power_finds_one new s t known p within in
      subst (FallsTo P i) (sym found.is) (one (settled_values found.disc) (settled_within found.disc found.one))
  power_falls new s t powers.NotFormatted p within = subst (FallsTo P i) p (one no_values none_within)
  power_falls new s t powers.Cut p within = subst (FallsTo P i) p within
  power_falls new s t powers.Fault p within = subst (FallsTo P i) p within

  -- a read, a verification, a synchronisation and a tick add no value
  pub read_falls : (s t : Contents) (lba n : ℕ) (into : List ℕ) (out : ReadOut) → ReadContents (λ x. x ≡ t) s lba n into out → FallsTo P i s → FallsTo P i t
  read_falls (Has v) t lba n into reads.Good p within = subst (FallsTo P i) (p.1) within
  read_falls (Has v) t lba n into reads.NotFormatted p within = subst (FallsTo P i) (p.1) within
  read_falls (Has v) t lba n into (reads.Range known) p within = subst (FallsTo P i) p within
  read_falls (Has v) t lba n into (reads.Unread named block) p within = subst (FallsTo P i) p within
  read_falls (Has v) t lba n into reads.Cut p within = subst (FallsTo P i) p within
  read_falls (Has v) t lba n into reads.Off p within = absurd p
  read_falls (Has v) t lba n into reads.Fault p within = subst (FallsTo P i) p within
  read_falls (MayHave all) t lba n into reads.Off p within = subst (FallsTo P i) p within
  read_falls (MayHave all) t lba n into _ p within = absurd p

  pub verify_falls : (s t : Contents) (out : ReadOut) → VerifyContents (λ x. x ≡ t) s out → FallsTo P i s → FallsTo P i t
  verify_falls (Has v) t reads.Good p within = subst (FallsTo P i) p within
  verify_falls (Has v) t reads.NotFormatted p within = subst (FallsTo P i) p within
  verify_falls (Has v) t (reads.Range known) p within = subst (FallsTo P i) p within
  verify_falls (Has v) t (reads.Unread named block) p within = subst (FallsTo P i) p within
  verify_falls (Has v) t reads.Cut p within = subst (FallsTo P i) p within
  verify_falls (Has v) t reads.Off p within = absurd p
  verify_falls (Has v) t reads.Fault p within = subst (FallsTo P i) p within
  verify_falls (MayHave all) t reads.Off p within = subst (FallsTo P i) p within
  verify_falls (MayHave all) t _ p within = absurd p

  settled_too : (pending : List (ℕ × List ℕ)) (v : Values) → EachValue P i v → EachValue P i (settled_but pending v)
  settled_too pending v each has bytes (inl e) = each has bytes (inl e)
  settled_too pending v each has bytes (inr older) = each has bytes (inr (Contains-passed {X = ℕ × List ℕ} (λ (held : ℕ × List ℕ). waits pending held.0) v.older (i, bytes) older).1)

  pub sync_falls : (new : CacheShown) (s t : Contents) (out : SyncOut) → SyncContents new (λ x. x ≡ t) s out → FallsTo P i s → FallsTo P i t
  sync_falls new (Has v) t syncs.Good p within =
      subst (FallsTo P i) p (one (settled_values v.disc) (settled_within v.disc (λ has. only v within has (block_of v.disc i) (inl refl))))
  sync_falls new (Has v) t syncs.NotFormatted p within = subst (FallsTo P i) (p.1) within
  sync_falls new (Has v) t (syncs.NoSpare lba) p within = subst (FallsTo P i) p (one (settled_but new.pending v) (settled_too new.pending v (only v within)))
  sync_falls new (Has v) t (syncs.NoUpdate counter) p within = subst (FallsTo P i) p (one (settled_but new.pending v) (settled_too new.pending v (only v within)))
  sync_falls new (Has v) t syncs.Cut p within = subst (FallsTo P i) p (two v v (only v within) (only v within))
  sync_falls new (Has v) t syncs.Off p within = absurd p
  sync_falls new (Has v) t syncs.Fault p within = subst (FallsTo P i) p (two v v (only v within) (only v within))
  sync_falls new (MayHave all) t syncs.Off p within = subst (FallsTo P i) p within
  sync_falls new (MayHave all) t _ p within = absurd p

  pub tick_falls : (s t : Contents) (out : TickOut) → TickContents (λ x. x ≡ t) s out → FallsTo P i s → FallsTo P i t
  tick_falls (Has v) t ticks.Idle p within = subst (FallsTo P i) p within
  tick_falls (Has v) t (ticks.Written lba) p within = subst (FallsTo P i) p within
  tick_falls (Has v) t (ticks.NoSpare lba) p within = subst (FallsTo P i) p within
  tick_falls (Has v) t (ticks.NoUpdate counter) p within = subst (FallsTo P i) p within
  tick_falls (Has v) t ticks.Cut p within = subst (FallsTo P i) p (two v v (only v within) (only v within))
  tick_falls (Has v) t ticks.Off p within = absurd p
  tick_falls (Has v) t ticks.Fault p within = subst (FallsTo P i) p (two v v (only v within) (only v within))
  tick_falls (MayHave all) t ticks.Off p within = subst (FallsTo P i) p within
  tick_falls (MayHave all) t _ p within = absurd p

  -- what an expansion leaves
  left_block : (disc : List ℕ) (sectors : ℕ) → HasBlock (shortened sectors disc) i → block_of (shortened sectors disc) i ≡ block_of disc i
  unfolding block_of
  left_block disc sectors has =
      let front : 0 + 32768 * i ≡ 32768 * i = omega arith in
      piece_of_piece 0 (2048 * sectors) (32768 * i) 32768 disc (omega (arith, has, length-take (2048 * sectors) disc))
      ∙ ap (λ (m : ℕ). take 32768 (drop m disc)) front

  short_within : (v : Values) (sectors : ℕ) → EachValue P i v → EachValue P i (with_older v.older (shortened sectors v.disc))
  short_within v sectors p has bytes (inl e) = p (omega (arith, has, length-take (2048 * sectors) v.disc)) bytes (inl (e ∙ left_block v.disc sectors has))
  short_within v sectors p has bytes (inr older) = p (omega (arith, has, length-take (2048 * sectors) v.disc)) bytes (inr older)

  pub expand_falls : (s t : Contents) (sectors : ℕ) (out : ExpandOut) → ExpandContents (λ x. x ≡ t) s sectors out → FallsTo P i s → FallsTo P i t
  expand_falls (Has v) t sectors expands.Good p within = subst (FallsTo P i) p (one _ (short_within v sectors (only v within)))
  expand_falls (Has v) t sectors expands.NotFormatted p within = subst (FallsTo P i) (p.1) within
  expand_falls (Has v) t sectors (expands.Refused known) p within = subst (FallsTo P i) p within
  expand_falls (Has v) t sectors (expands.NoUpdate counter) p within = subst (FallsTo P i) p within
  expand_falls (Has v) t sectors expands.Cut p within = subst (FallsTo P i) p (two v _ (only v within) (short_within v sectors (only v within)))
  expand_falls (Has v) t sectors expands.Off p within = absurd p
  expand_falls (Has v) t sectors expands.Fault p within = subst (FallsTo P i) p (two v _ (only v within) (short_within v sectors (only v within)))
  expand_falls (MayHave all) t sectors expands.Off p within = subst (FallsTo P i) p within
  expand_falls (MayHave all) t sectors _ p within = absurd p

-- after a synchronisation each block has its last value alone
pub synchronised : (v : Values) (t : Contents) (i : ℕ) (new : CacheShown) → SyncContents new (λ x. x ≡ t) (Has v) syncs.Good → FallsWithin (block_of v.disc i ∷ []) i t
synchronised v t i new p =
    subst (FallsWithin (block_of v.disc i ∷ []) i) p (one (Contains (block_of v.disc i ∷ [])) i (settled_values v.disc)
    (settled_within (Contains (block_of v.disc i ∷ [])) i v.disc (λ has. Contains-first (block_of v.disc i) [])))

-- ---- writes

module _ (i : ℕ) (v : Values) (lba n : ℕ) where
  -- what the blocks had before a write into the cache they had
  now_within : (disc : List ℕ) (first count : ℕ) (held : List ℕ) → Contains (values_now disc first count) (i, held) → held ≡ block_of disc i
  now_within disc first zero held has = absurd (Contains-none (i, held) has)
  now_within disc first (suc k) held has = elim (Contains-cases (first + k, block_of disc (first + k)) (values_now disc first k) (i, held) has) [
    | inl is ↦ sym (ap (λ (x : ℕ × List ℕ). x.1) is) ∙ ap (block_of disc) (ap (λ (x : ℕ × List ℕ). x.0) is)
    | inr more ↦ now_within disc first k held more
  ]

  pub older_cached : (held : List ℕ) → Contains (values_now v.disc (block_with lba) (blocks_covered lba n) ++ v.older) (i, held) → HasValue v i held
  older_cached held has = elim (Contains-append_cases (values_now v.disc (block_with lba) (blocks_covered lba n)) v.older (i, held) has) [
    | inl now ↦ inl (now_within v.disc (block_with lba) (blocks_covered lba n) held now)
    | inr before ↦ inr before
  ]

-- the new value, or one of those before
module _ (choices : List (List ℕ)) (i : ℕ) (v : Values) (lba n : ℕ) (bytes : List ℕ) (lies : LiesIn v.disc lba n bytes) (p : AreAmong choices i v) where
  -- no value is added
  pub kept_within : AreAmong (value_written v lba bytes i ∷ choices) i v
  kept_within has held value = Contains-later (value_written v lba bytes i) choices held (p has held value)

  -- the block of the disc that is shown
  shown_within : (b : ℕ) (held : List ℕ) → HasBlock v.disc i → held ≡ block_of (replaced v.disc lba bytes b) i → Contains (value_written v lba bytes i ∷ choices) held
  shown_within b held has e = elim (cases_lt i b) [
    | inl after ↦ subst (Contains (value_written v lba bytes i ∷ choices)) (sym (e ∙ reached_block v.disc lba n bytes b i lies after)) (Contains-first (value_written v lba bytes i) choices)
    | inr before ↦ kept_within has held (inl (e ∙ unreached_block v.disc lba n bytes b i lies before))
  ]

  has_it : (b : ℕ) → HasBlock (replaced v.disc lba bytes b) i → HasBlock v.disc i
  has_it b has = let long = as_long_as v.disc lba n bytes b lies in omega (arith, has, long)

  pub written_within : (b : ℕ) → AreAmong (value_written v lba bytes i ∷ choices) i (with_written v lba bytes b)
  written_within b has held (inl e) = shown_within b held (has_it b has) e
  written_within b has held (inr older) =
      kept_within (has_it b has) held (inr ((Contains-passed (λ (x : ℕ × List ℕ). not (is_among (block_with lba) (b - block_with lba) x.0)) v.older (i, held) older).1))

  pub cached_within : AreAmong (value_written v lba bytes i ∷ choices) i (cached v lba n bytes)
  cached_within has held (inl e) = shown_within (block_with lba + blocks_covered lba n) held (has_it (block_with lba + blocks_covered lba n) has) e
  cached_within has held (inr older) = kept_within (has_it (block_with lba + blocks_covered lba n) has) held (older_cached i v lba n held older)

  -- a block in which no sector of the request lies
  module _ (misses : Misses lba n i) where
    pub written_misses : (b : ℕ) → AreAmong choices i (with_written v lba bytes b)
    written_misses b has held (inl e) = p (has_it b has) held (inl (e ∙ missed_block v.disc lba n bytes b i lies misses))
    written_misses b has held (inr older) =
        p (has_it b has) held (inr ((Contains-passed (λ (x : ℕ × List ℕ). not (is_among (block_with lba) (b - block_with lba) x.0)) v.older (i, held) older).1))

    pub cached_misses : AreAmong choices i (cached v lba n bytes)
    cached_misses has held (inl e) =
        p (has_it (block_with lba + blocks_covered lba n) has) held (inl (e ∙ missed_block v.disc lba n bytes (block_with lba + blocks_covered lba n) i lies misses))
    cached_misses has held (inr older) = p (has_it (block_with lba + blocks_covered lba n) has) held (older_cached i v lba n held older)

-- any write, by what its parts leave
module _ (P : List ℕ → Type 0) (i : ℕ) (v : Values) (lba n : ℕ) (bytes : List ℕ) (t : Contents)
    (kept : EachValue P i v) (through : (b : ℕ) → EachValue P i (with_written v lba bytes b)) (into : EachValue P i (cached v lba n bytes)) where
  falls : (w : Values) → EachValue P i w → Has w ≡ t → FallsTo P i t
  falls w within is = subst (FallsTo P i) is (one P i w within)

  falls_two : (w x : Values) → EachValue P i w → EachValue P i x → MayHave (w ∷ x ∷ []) ≡ t → FallsTo P i t
  falls_two w x within within' is = subst (FallsTo P i) is (two P i w x within within')

  through_falls : (old new : CacheShown) (out : WriteOut) → ThroughContents old new (λ x. x ≡ t) (Has v) lba n bytes out → FallsTo P i t
  through_falls old new writes.Good q = falls (with_written v lba bytes (block_with lba + blocks_covered lba n)) (through (block_with lba + blocks_covered lba n)) q
  through_falls old new writes.NotFormatted q = falls v kept (q.1)
  through_falls old new (writes.Range known) q = falls v kept q
  through_falls old new (writes.Unread named block) q = falls (with_written v lba bytes (block_with named)) (through (block_with named)) q
  through_falls old new (writes.NoSpare named) (inl q) = falls v kept (q.1)
  through_falls old new (writes.NoSpare named) (inr q) = falls (with_written v lba bytes (block_with named)) (through (block_with named)) (q.1)
  through_falls old new (writes.NoUpdate counter) (inl q) = falls v kept (q.1)
  through_falls old new (writes.NoUpdate counter) (inr q) = falls (with_written v lba bytes (block_with lba + q.1.block)) (through (block_with lba + q.1.block)) q.1.before
  through_falls old new writes.Cut (inl q) = falls_two v v kept kept (q.1)
  through_falls old new writes.Cut (inr q) = falls_two (with_written v lba bytes (block_with lba + q.block)) (with_written v lba bytes (block_with lba + (q.block + 1)))
      (through (block_with lba + q.block)) (through (block_with lba + (q.block + 1))) q.either
  through_falls old new writes.Off q = absurd q
  through_falls old new writes.Fault (inl q) = falls_two v v kept kept (q.1)
  through_falls old new writes.Fault (inr q) = falls_two (with_written v lba bytes (block_with lba + q.block)) (with_written v lba bytes (block_with lba + (q.block + 1)))
      (through (block_with lba + q.block)) (through (block_with lba + (q.block + 1))) q.either

  cached_falls : (out : WriteOut) → CachedContents (λ x. x ≡ t) (Has v) lba n bytes out → FallsTo P i t
  cached_falls writes.Good q = falls (cached v lba n bytes) into q
  cached_falls writes.NotFormatted q = falls v kept (q.1)
  cached_falls (writes.Range known) q = falls v kept q
  cached_falls (writes.Unread named block) q = falls v kept q
  cached_falls (writes.NoSpare named) q = falls v kept q
  cached_falls (writes.NoUpdate counter) q = falls v kept q
  cached_falls writes.Cut (inl q) = subst (FallsTo P i) q (one P i v kept)
  cached_falls writes.Cut (inr q) = falls_two v v kept kept q
  cached_falls writes.Off q = absurd q
  cached_falls writes.Fault (inl q) = subst (FallsTo P i) q (one P i v kept)
  cached_falls writes.Fault (inr q) = falls_two v v kept kept q

  pub write_falls : (old new : CacheShown) (into_cache : Bool) (out : WriteOut)
      → MatchBool into_cache (CachedContents (λ x. x ≡ t) (Has v) lba n bytes out) (ThroughContents old new (λ x. x ≡ t) (Has v) lba n bytes out) → FallsTo P i t
  write_falls old new true out q = cached_falls out q
  write_falls old new false out q = through_falls old new out q

-- a write adds one value to those of a block
pub a_write_adds : (choices : List (List ℕ)) (i : ℕ) (v : Values) (t : Contents) (lba n : ℕ) (bytes : List ℕ) (old new : CacheShown) (out : WriteOut)
    → WriteContents old new (λ x. x ≡ t) (Has v) lba n bytes out → LiesIn v.disc lba n bytes → FallsWithin choices i (Has v)
    → FallsWithin (value_written v lba bytes i ∷ choices) i t
a_write_adds choices i v t lba n bytes old new out q lies p =
    let within : AreAmong choices i v = only (Contains choices) i v p in
    write_falls (Contains (value_written v lba bytes i ∷ choices)) i v lba n bytes t (kept_within choices i v lba n bytes lies within)
    (written_within choices i v lba n bytes lies within) (cached_within choices i v lba n bytes lies within) old new (goes_into_cache old lba n) out q

-- and none to those of a block that it misses
pub a_write_misses : (choices : List (List ℕ)) (i : ℕ) (v : Values) (t : Contents) (lba n : ℕ) (bytes : List ℕ) (old new : CacheShown) (out : WriteOut)
    → WriteContents old new (λ x. x ≡ t) (Has v) lba n bytes out → LiesIn v.disc lba n bytes → Misses lba n i → FallsWithin choices i (Has v)
    → FallsWithin choices i t
a_write_misses choices i v t lba n bytes old new out q lies misses p =
    let within : AreAmong choices i v = only (Contains choices) i v p in
    write_falls (Contains choices) i v lba n bytes t within (written_misses choices i v lba n bytes lies within misses)
    (cached_misses choices i v lba n bytes lies within misses) old new (goes_into_cache old lba n) out q

-- a write through the cache leaves the new value alone
pub through_settles : (i : ℕ) (v : Values) (t : Contents) (lba n : ℕ) (bytes : List ℕ) (old new : CacheShown)
    → ThroughContents old new (λ x. x ≡ t) (Has v) lba n bytes writes.Good → LiesIn v.disc lba n bytes → IsCovered lba n i
    → FallsWithin (value_written v lba bytes i ∷ []) i t
through_settles i v t lba n bytes old new q lies covered =
    subst (FallsWithin (value_written v lba bytes i ∷ []) i) q (one (Contains (value_written v lba bytes i ∷ [])) i (with_written v lba bytes end) within)
  where
    end : ℕ
    end = block_with lba + blocks_covered lba n

    passes : not (is_among (block_with lba) (block_with lba + blocks_covered lba n - block_with lba) i) ≡ true → ⊥
    passes kept =
        let low = covered.0 in
        let high = covered.1 in
        let among : is_among (block_with lba) (block_with lba + blocks_covered lba n - block_with lba) i ≡ true =
        and_from (not (nat_lt i (block_with lba))) (nat_lt i (block_with lba + (block_with lba + blocks_covered lba n - block_with lba)))
        (not_from_false (nat_lt i (block_with lba)) (le-ltb i (block_with lba) low))
        (lt-ltb i (block_with lba + (block_with lba + blocks_covered lba n - block_with lba)) (omega (arith, high))) in
        true≢false (sym kept ∙ ap not among)

    within : AreAmong (value_written v lba bytes i ∷ []) i (with_written v lba bytes (block_with lba + blocks_covered lba n))
    within has held (inl e) =
        let high = covered.1 in
        subst (Contains (value_written v lba bytes i ∷ [])) (sym (e ∙ reached_block v.disc lba n bytes (block_with lba + blocks_covered lba n) i lies high))
        (Contains-first (value_written v lba bytes i) [])
    within has held (inr older) =
        absurd (passes ((Contains-passed (λ (x : ℕ × List ℕ). not (is_among (block_with lba) (block_with lba + blocks_covered lba n - block_with lba) x.0)) v.older (i, held) older).0))

-- ---- a format adds zeros
module _ (choices : List (List ℕ)) (i : ℕ) (shape : Shape) where
  abbrev zeros_too : List (List ℕ)
  zeros_too = block_of (zero_disc shape) i ∷ choices

  zero_within : AreAmong zeros_too i (settled_values (zero_disc shape))
  zero_within = settled_within (Contains zeros_too) i (zero_disc shape) (λ has. Contains-first (block_of (zero_disc shape) i) choices)

  with_zeros : (v : Values) → AreAmong choices i v → AreAmong zeros_too i v
  with_zeros v p has held value = Contains-later (block_of (zero_disc shape) i) choices held (p has held value)

  all_with_zeros : (all : List Values) → All (AreAmong choices i) all → All (AreAmong zeros_too i) all
  all_with_zeros [] p = All-nil (AreAmong zeros_too i)
  all_with_zeros (v ∷ all) p =
      All-cons (AreAmong zeros_too i) v all (with_zeros v (All-head (AreAmong choices i) v all p)) (all_with_zeros all (All-tail (AreAmong choices i) v all p))

module _ (choices : List (List ℕ)) (i : ℕ) (t : Contents) (old new : Shown) (v : Values) (p : AreAmong choices i v) where
  abbrev Zeroed : Type 0
  Zeroed = FallsWithin (zeros_too choices i old.shape) i t

  zeroed : (w : Values) → AreAmong (zeros_too choices i old.shape) i w → Has w ≡ t → Zeroed
  zeroed w within is = subst (FallsWithin (zeros_too choices i old.shape) i) is (one (Contains (zeros_too choices i old.shape)) i w within)

  zeroed_two : (w x : Values) → AreAmong (zeros_too choices i old.shape) i w → AreAmong (zeros_too choices i old.shape) i x → MayHave (w ∷ x ∷ []) ≡ t → Zeroed
  zeroed_two w x within within' is = subst (FallsWithin (zeros_too choices i old.shape) i) is (two (Contains (zeros_too choices i old.shape)) i w x within within')

  kept_too : AreAmong (zeros_too choices i old.shape) i v
  kept_too = with_zeros choices i old.shape v p

  none_too : AreAmong (zeros_too choices i old.shape) i no_values
  none_too = none_within (Contains (zeros_too choices i old.shape)) i

  stopped_full : (after : Contents) → (MayHave (v ∷ no_values ∷ []) ≡ t) ⊎ (MayHave (no_values ∷ []) ≡ t) ⊎ (MayHave (no_values ∷ settled_values (zero_disc old.shape) ∷ []) ≡ t) → Zeroed
  stopped_full after (inl q) = zeroed_two v no_values kept_too none_too q
  stopped_full after (inr (inl q)) = subst (FallsWithin (zeros_too choices i old.shape) i) q (one (Contains (zeros_too choices i old.shape)) i no_values none_too)
  stopped_full after (inr (inr q)) = zeroed_two no_values (settled_values (zero_disc old.shape)) none_too (zero_within choices i old.shape) q

  full_falls : (out : FormatOut) → FullValues (λ x. x ≡ t) v old new out → Zeroed
  full_falls formats.Good q = zeroed (settled_values (zero_disc old.shape)) (zero_within choices i old.shape) q
  full_falls (formats.TooMany found) q = zeroed no_values none_too q
  full_falls (formats.NoUpdate counter) (inl q) = zeroed v kept_too (q.1)
  full_falls (formats.NoUpdate counter) (inr q) = zeroed no_values none_too (q.1)
  full_falls formats.Cut q = stopped_full t q
  full_falls formats.Off q = absurd q
  full_falls formats.Fault q = stopped_full t q

  rewrite_falls : (out : FormatOut) → RewriteStep (λ u. lifted v.older u ≡ t) v.disc out → Zeroed
  rewrite_falls formats.Good q = zeroed v kept_too q
  rewrite_falls (formats.NoUpdate counter) q = zeroed v kept_too q
  rewrite_falls formats.Cut q = subst (FallsWithin (zeros_too choices i old.shape) i) q (one (Contains (zeros_too choices i old.shape)) i v kept_too)
  rewrite_falls formats.Fault q = subst (FallsWithin (zeros_too choices i old.shape) i) q (one (Contains (zeros_too choices i old.shape)) i v kept_too)
  rewrite_falls (formats.TooMany found) q = absurd q
  rewrite_falls formats.Off q = absurd q

  by_lists : (lists : Option Lists) (kind : Kind) (out : FormatOut) → FormatValues (λ x. x ≡ t) v old new lists kind out → Zeroed
  by_lists lists (kinds.Full drop_sdl) out q = full_falls out q
  by_lists None kinds.Rewrite out q = full_falls out q
  by_lists (Some lists) kinds.Rewrite out q = rewrite_falls out q

pub format_falls : (choices : List (List ℕ)) (i : ℕ) (s t : Contents) (old new : Shown) (kind : Kind) (out : FormatOut) → FormatContents old new (λ x. x ≡ t) s kind out
    → FallsWithin choices i s → FallsWithin (block_of (zero_disc old.shape) i ∷ choices) i t
format_falls choices i (Has v) t old new kind out q p = by_lists choices i t old new v (only (Contains choices) i v p) old.lists kind out q
format_falls choices i (MayHave all) t old new kind formats.Off q p =
    subst (FallsWithin (block_of (zero_disc old.shape) i ∷ choices) i) q (all_with_zeros choices i old.shape all p)
format_falls choices i (MayHave all) t old new kind _ q p = absurd q
