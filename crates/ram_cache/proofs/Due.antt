-- The drain of the pending blocks that are due: its turns, and its ends.
use Rattle.std.proofs.Common.{◌≡◌, ◌≢◌, ℕ, zero, suc, ◌+◌, ◌-◌, ◌*◌, ◌<◌, ◌≤◌, ◌⊎◌, inl, inr, Bool, true, false, not, List, [], ◌∷◌, ◌++◌, Option, Some, None, length, take, drop, refl, sym, ap, ◌∙◌, subst, arith, append_assoc, length-append}
use Rattle.std.specs.Option.{option_map_or}
use Rattle.std.specs.List.{All, remove, filter}
use Rattle.std.proofs.lemmas.Bool.{cond-true}
use Rattle.std.proofs.lemmas.List.{append-nil, map-append}
use Rattle.std.proofs.lemmas.List.Elements.{All-append, All-take, All-drop, All-cons, All-nil, filter-append}
use Rattle.model_geometry.specs.Geometry.{Shape}
use Rattle.model_buffer.specs.Buffer.{numbers_in}
use Rattle.model_places.specs.Places.{Lists, logical_count}
use Rattle.model_sectors.specs.Requests.{block_with}
use Rattle.model_drive.specs.declared.WriteOut.{WriteOut}
use Rattle.model_drive.specs.declared.WriteOut.TheVariants as writes
use Rattle.model_drive.specs.Shown.{Shown, IsOn, IsFormatted, block_count, buffered}
use Rattle.model_drive.specs.Course.{Placing, lists_reached}
use Rattle.model_drive.specs.Writes.{WriteCause}
use Rattle.model_drive.proofs.Courses.{placed_total}
use Rattle.model_cache.specs.Values.{Values, Contents, Has, MayHave, is_among}
use Rattle.model_cache.specs.Shown.{CacheShown, AreApart}
use Rattle.model_cache.specs.Chains.{WritesBack, Flushes}
use Rattle.model_cache.specs.Drains.{IsRefusal, Refuses, Tries, StopsTrying}
use Rattle.model_cache.proofs.Refusals.{tells_first}
use Rattle.ram_cache.specs.Rooms.{pending_at, due_in, FirstOf}
use Rattle.ram_cache.specs.Flushes.{CanFlush, FlushesAt, FlushContents, DrainedDue, DrainsDue, due_of, left_at, first_told, drain_out}
use Rattle.ram_cache.proofs.DrainedSoFar.{DrainedSoFar}
use Rattle.ram_cache.proofs.Indices.{Contains-held, but_removed, behind_removed, first_due, none_due, inside_at}
use Rattle.ram_cache.proofs.OneFlush.{not_partly}

-- ---- a write keeps the number of blocks

reached_total : (shape : Shape) (lists : Lists) (first : ℕ) (course : List Placing) → logical_count shape (lists_reached shape lists first course) ≡ logical_count shape lists
reached_total shape lists first [] = refl
reached_total shape lists first (p ∷ earlier) =
    placed_total shape (lists_reached shape lists first earlier) (first + length earlier) p ∙ reached_total shape lists first earlier

count_by : (shape shape' : Shape) (was now : Option Lists) (lists reached : Lists) → shape' ≡ shape → was ≡ Some lists → now ≡ Some reached
    → logical_count shape reached ≡ logical_count shape lists → option_map_or (logical_count shape') now 0 ≡ option_map_or (logical_count shape) was 0
count_by shape shape' was now lists reached same in_use now_is total = rw (same, in_use, now_is) total

pub good_count : (old new : Shown) (lba n : ℕ) → WriteCause old new lba n writes.Good → new.shape ≡ old.shape → block_count new ≡ block_count old
good_count old new lba n cause same =
    count_by old.shape new.shape old.lists new.lists cause.lists cause.reached same cause.ends.wrote.in_use cause.ends.now_in_use
    (ap (logical_count old.shape) cause.ends.wrote.reached_are ∙ reached_total old.shape cause.lists (block_with lba) cause.course)

good_formatted : (old new : Shown) (i : ℕ) → WriteCause old new (16 * i) 16 writes.Good → IsFormatted new
good_formatted old new i cause = rw cause.ends.now_in_use refl

refused_count : (old new : Shown) (i : ℕ) (out : WriteOut) → IsRefusal out → WriteCause old new (16 * i) 16 out → new.shape ≡ old.shape → block_count new ≡ block_count old
refused_count old new i (writes.NoSpare named) is cause same =
    count_by old.shape new.shape old.lists new.lists cause.lists cause.reached same cause.ends.wrote.in_use cause.ends.now_in_use
    (ap (logical_count old.shape) cause.ends.wrote.reached_are ∙ reached_total old.shape cause.lists (block_with (16 * i)) cause.course)
refused_count old new i (writes.NoUpdate counter) is cause same =
    count_by old.shape new.shape old.lists new.lists cause.lists cause.reached same cause.ends.wrote.in_use cause.ends.now_in_use
    (ap (logical_count old.shape) cause.ends.wrote.reached_are ∙ reached_total old.shape cause.lists (block_with (16 * i)) cause.course)
refused_count old new i _ is cause same = absurd is

-- the power is on, and the disc is formatted still
refused_ready : (old new : Shown) (i : ℕ) (out : WriteOut) → IsRefusal out → WriteCause old new (16 * i) 16 out → IsOn new × IsFormatted new
refused_ready old new i (writes.NoSpare named) is cause = (cause.ends.ends.is_on, rw cause.ends.now_in_use refl)
refused_ready old new i (writes.NoUpdate counter) is cause = (cause.ends.ends.is_on, rw cause.ends.now_in_use refl)
refused_ready old new i _ is cause = absurd is

-- ---- one block more was tried

ends_there : (enough missing : ℕ) (s : CacheShown) (told : Option WriteOut) → missing ≡ enough → told ≡ None → Tries s [] enough s missing told
ends_there zero missing s told is none = (refl, is, none)
ends_there (suc enough) missing s told is none = (refl, is, none)

tries_flush : (done : List ℕ) (enough missing i : ℕ) (start mid new : CacheShown) (told : Option WriteOut) → Tries start done enough mid (suc missing) told → Flushes mid new i
    → Tries start (done ++ i ∷ []) enough new missing told
tries_flush done zero missing i start mid new told tries flush = absurd (let none = tries.1 in omega (arith, none))
tries_flush [] (suc enough) missing i start mid new told tries flush =
    inl (new, subst (λ (s : CacheShown). Flushes s new i) tries.0 flush, ends_there enough missing new told (let is = tries.1 in omega (arith, is)) tries.2)
tries_flush (j ∷ done) (suc enough) missing i start mid new told (inl (next, flushed, later)) flush = inl (next, flushed, tries_flush done enough missing i next mid new told later flush)
tries_flush (j ∷ done) (suc enough) missing i start mid new told (inr (next, out, later_told, is, later, first_is)) flush =
    inr (next, out, later_told, is, tries_flush done (suc enough) missing i next mid new later_told later flush, first_is)

tries_refuse : (done : List ℕ) (enough missing i : ℕ) (start mid new : CacheShown) (told : Option WriteOut) (out : WriteOut) → Tries start done enough mid (suc missing) told → Refuses mid new i out
    → Tries start (done ++ i ∷ []) enough new (suc missing) (Some (first_told told out))
tries_refuse done zero missing i start mid new told out tries refuses = absurd (let none = tries.1 in omega (arith, none))
tries_refuse [] (suc enough) missing i start mid new told out tries refuses =
    inr (new, out, None, subst (λ (s : CacheShown). Refuses s new i out) tries.0 refuses, (refl, tries.1, refl), ap (λ (o : Option WriteOut). Some (first_told o out)) tries.2)
tries_refuse (j ∷ done) (suc enough) missing i start mid new told out (inl (next, flushed, later)) refuses =
    inl (next, flushed, tries_refuse done enough missing i next mid new told out later refuses)
tries_refuse (j ∷ done) (suc enough) missing i start mid new told out (inr (next, answer, later_told, is, later, first_is)) refuses =
    inr (next, answer, Some (first_told later_told out), is, tries_refuse done (suc enough) missing i next mid new later_told out later refuses, ap (λ (o : Option WriteOut). Some (first_told o out)) first_is)

-- where enough left the others are not tried
tries_enough : (done rest : List ℕ) (enough : ℕ) (start now : CacheShown) (told : Option WriteOut) → Tries start done enough now 0 told → Tries start (done ++ rest) enough now 0 told
tries_enough done rest zero start now told tries = tries
tries_enough [] rest (suc enough) start now told tries = absurd (let none = tries.1 in omega (arith, none))
tries_enough (j ∷ done) rest (suc enough) start now told (inl (next, flushed, later)) = inl (next, flushed, tries_enough done rest enough next now told later)
tries_enough (j ∷ done) rest (suc enough) start now told (inr (next, out, later_told, is, later, first_is)) =
    inr (next, out, later_told, is, tries_enough done rest (suc enough) next now later_told later, first_is)

-- what is told is a refusal
told_refusal : (due : List ℕ) (enough missing : ℕ) (start now : CacheShown) (out : WriteOut) → Tries start due enough now missing (Some out) → IsRefusal out
told_refusal due zero missing start now out tries = absurd (let none : Some out ≡ None = tries.2 in cc)
told_refusal [] (suc enough) missing start now out tries = absurd (let none : Some out ≡ None = tries.2 in cc)
told_refusal (j ∷ due) (suc enough) missing start now out (inl (next, flushed, later)) = told_refusal due enough missing next now out later
told_refusal (j ∷ due) (suc enough) missing start now out (inr (next, answer, later_told, is, later, first_is)) = subst IsRefusal (let same : Some out ≡ Some answer = first_is in let e : out ≡ answer = cc in sym e) is.refused

-- ---- what is due

module _ (first count : ℕ) where
  due_first : (among : Bool) (shown new : CacheShown) (k : ℕ) → FirstOf shown.pending among first count (Some k) → new.pending ≡ remove shown.pending k
      → due_of among first count shown ≡ (pending_at shown.pending k).0 ∷ due_of among first count new
  due_first true shown new k (within, is, before) left =
      first_due (is_among first count) shown.pending k within is before
      ∙ ap (λ (l : List (ℕ × List ℕ)). (pending_at shown.pending k).0 ∷ filter (is_among first count) (numbers_in l)) (sym left)
  due_first false shown new k (within, is, before) left =
      first_due (λ i. not (is_among first count i)) shown.pending k within (ap not is) (λ j below. ap not (before j below))
      ∙ ap (λ (l : List (ℕ × List ℕ)). (pending_at shown.pending k).0 ∷ filter (λ i. not (is_among first count i)) (numbers_in l)) (sym left)

  due_none : (among : Bool) (shown : CacheShown) → FirstOf shown.pending among first count None → due_of among first count shown ≡ []
  due_none true shown none = none_due (is_among first count) shown.pending none
  due_none false shown none = none_due (λ i. not (is_among first count i)) shown.pending (λ j within. ap not (none j within))

  -- one that was due and stands behind the others is due behind them
  due_behind : (among : Bool) (shown new : CacheShown) (k : ℕ) → FirstOf shown.pending among first count (Some k) → new.pending ≡ remove shown.pending k ++ pending_at shown.pending k ∷ []
      → due_of among first count new ≡ due_in among first count (remove shown.pending k) ++ (pending_at shown.pending k).0 ∷ []
  due_behind true shown new k (within, is, before) left =
      ap (λ (l : List (ℕ × List ℕ)). filter (is_among first count) (numbers_in l)) left
      ∙ ap (filter (is_among first count)) (map-append (λ (x : ℕ × List ℕ). x.0) (remove shown.pending k) (pending_at shown.pending k ∷ []))
      ∙ filter-append (is_among first count) (numbers_in (remove shown.pending k)) ((pending_at shown.pending k).0 ∷ [])
      ∙ ap (λ (l : List ℕ). filter (is_among first count) (numbers_in (remove shown.pending k)) ++ l)
      (cond-true (is_among first count (pending_at shown.pending k).0) ((pending_at shown.pending k).0 ∷ []) [] is)
  due_behind false shown new k (within, is, before) left =
      ap (λ (l : List (ℕ × List ℕ)). filter (λ i. not (is_among first count i)) (numbers_in l)) left
      ∙ ap (filter (λ i. not (is_among first count i))) (map-append (λ (x : ℕ × List ℕ). x.0) (remove shown.pending k) (pending_at shown.pending k ∷ []))
      ∙ filter-append (λ i. not (is_among first count i)) (numbers_in (remove shown.pending k)) ((pending_at shown.pending k).0 ∷ [])
      ∙ ap (λ (l : List ℕ). filter (λ i. not (is_among first count i)) (numbers_in (remove shown.pending k)) ++ l)
      (cond-true (not (is_among first count (pending_at shown.pending k).0)) ((pending_at shown.pending k).0 ∷ []) [] (ap not is))

All-removed : (P : (ℕ × List ℕ) → Type 0) (p : List (ℕ × List ℕ)) (k : ℕ) → All P p → All P (remove p k)
All-removed P p k all = All-append P (take k p) (drop (suc k) p) (All-take P k p all) (All-drop P (suc k) p all)

All-behind : (P : (ℕ × List ℕ) → Type 0) (p : List (ℕ × List ℕ)) (k : ℕ) → k < length p → All P p → All P (remove p k ++ pending_at p k ∷ [])
All-behind P p k within all = All-append P (remove p k) (pending_at p k ∷ []) (All-removed P p k all) (All-cons P (pending_at p k) [] (all k (0, []) within) (All-nil P))

pub back : (mid new : CacheShown) (k : ℕ) (out : WriteOut) → k < length mid.pending → FlushesAt mid new k out → WritesBack mid new ((pending_at mid.pending k).0) out
back mid new k out within (wrote, left, mode) = record {
  bytes = (pending_at mid.pending k).1;
  was_pending = Contains-held mid.pending k within;
  wrote = wrote.0;
  leaves = wrote.1;
  same_mode = mode;
}

-- a refusal, and what it leaves
pub refuses : (mid new : CacheShown) (k : ℕ) (out : WriteOut) → AreApart mid.pending → k < length mid.pending → IsRefusal out → FlushesAt mid new k out → Refuses mid new ((pending_at mid.pending k).0) out
refuses mid new k out apart within is flushes = record { back = back mid new k out within flushes; refused = is; left = flushes.1 ∙ left_is out is ∙ sym (behind_removed mid.pending k apart within) }
  where
    left_is : (out : WriteOut) → IsRefusal out → left_at out k mid.pending ≡ remove mid.pending k ++ pending_at mid.pending k ∷ []
    left_is (writes.NoSpare named) is = refl
    left_is (writes.NoUpdate counter) is = refl
    left_is _ is = absurd is

-- each other end is none of a whole pending block
pub is_flush : (mid new : CacheShown) (k : ℕ) (out : WriteOut) → CanFlush mid → k < length mid.pending → FlushesAt mid new k out → (out ≡ writes.Good) ⊎ IsRefusal out ⊎ (out ≡ writes.Cut) ⊎ (out ≡ writes.Fault)
is_flush mid new k writes.Good can within flushes = inl refl
is_flush mid new k writes.NotFormatted can within flushes = absurd (flushes.0.0.unformatted can.formatted)
is_flush mid new k (writes.Range known) can within flushes = let past = flushes.0.0.past in let here = inside_at mid.pending k within can.inside in absurd (omega (arith, here, past))
is_flush mid new k (writes.Unread named block) can within flushes =
    absurd (not_partly ((pending_at mid.pending k).0) (length flushes.0.0.course) (buffered mid.drive) flushes.0.0.is_named.covered flushes.0.0.partly)
is_flush mid new k (writes.NoSpare named) can within flushes = inr (inl tt)
is_flush mid new k (writes.NoUpdate counter) can within flushes = inr (inl tt)
is_flush mid new k writes.Cut can within flushes = inr (inr (inl refl))
is_flush mid new k writes.Off can within flushes = absurd (flushes.0.0.off can.on)
is_flush mid new k writes.Fault can within flushes = inr (inr (inr refl))

-- the drain went to its end
abbrev pub IsGoodOrRefusal : WriteOut → Type 0
IsGoodOrRefusal writes.Good = Unit {0}
IsGoodOrRefusal (writes.NoSpare named) = Unit {0}
IsGoodOrRefusal (writes.NoUpdate counter) = Unit {0}
IsGoodOrRefusal _ = ⊥

-- the first of some
record Split (l : List ℕ) : Type 0 where
  first : ℕ
  others : List ℕ
  is : l ≡ first ∷ others

split : (l : List ℕ) → 0 < length l → Split l
split [] some = absurd (omega arith)
split (i ∷ l) some = record { first = i; others = l; is = refl }

-- ---- the turns

module _ (start : CacheShown) (among : Bool) (first count : ℕ) (before : Contents → Type 0) where
  pub drained_none : (enough : ℕ) → CanFlush start → DrainedSoFar start start among first count 0 enough enough None before before
  drained_none enough can = record {
    done = [];
    rest = due_of among first count start;
    behind = [];
    many = refl;
    due_is = refl;
    now_due = sym (append-nil (due_of among first count start));
    counted = refl;
    tried = ends_there enough enough start None refl refl;
    can = can;
    same_shape = refl;
    same_count = refl;
    same_mode = refl;
    stands = λ s so. so;
  }

  module _ (enough missing : ℕ) (told : Option WriteOut) (mid new : CacheShown) (amid after : Contents → Type 0) (turns k : ℕ)
      (far : DrainedSoFar start mid among first count turns enough (suc missing) told before amid)
      (fewer : turns < length (due_of among first count start)) (is_first : FirstOf mid.pending among first count (Some k)) where
    abbrev i : ℕ
    i = (pending_at mid.pending k).0

    abbrev others : List ℕ
    others = due_in among first count (remove mid.pending k)

    some_left : 0 < length far.rest
    some_left = let many = far.many in let long : length (due_of among first count start) ≡ length (far.done ++ far.rest) = ap length far.due_is in omega (arith, fewer, many, long, length-append far.done far.rest)

    -- the first that is left is the one at the index, and these are left then
    left : Split far.rest
    left = split far.rest some_left

    heads : i ∷ others ≡ left.first ∷ (left.others ++ far.behind)
    heads = sym (due_first first count among mid (record mid { pending = remove mid.pending k }) k is_first refl) ∙ far.now_due ∙ ap (λ (l : List ℕ). l ++ far.behind) left.is

    same_first : left.first ≡ i
    same_first = let h = heads in cc

    same_others : others ≡ left.others ++ far.behind
    same_others = let h = heads in cc

    rest_is : far.rest ≡ i ∷ left.others
    rest_is = left.is ∙ ap (λ (n : ℕ). n ∷ left.others) same_first

    due_now : due_of among first count start ≡ (far.done ++ i ∷ []) ++ left.others
    due_now = far.due_is ∙ ap (λ (l : List ℕ). far.done ++ l) rest_is ∙ sym (append_assoc far.done (i ∷ []) left.others)

    many_now : length (far.done ++ i ∷ []) ≡ turns + 1
    many_now = let many = far.many in length-append far.done (i ∷ []) ∙ omega (arith, many)

    -- it left
    pub drained_more : AreApart mid.pending → FlushesAt mid new k writes.Good → new.drive.shape ≡ mid.drive.shape
        → ((s : Contents) → amid s → FlushContents after s writes.Good) → DrainedSoFar start new among first count (turns + 1) enough missing told before after
    drained_more apart flushes same step =
        let same_blocks = good_count mid.drive new.drive (16 * i) 16 (flushes.0.0) same in
        let counted = far.counted in
        record {
          done = far.done ++ i ∷ [];
          rest = left.others;
          behind = far.behind;
          many = many_now;
          due_is = due_now;
          now_due = ap (due_in among first count) (flushes.1) ∙ same_others;
          counted = omega (arith, counted);
          tried = tries_flush far.done enough missing i start mid new told far.tried (record {
            back = back mid new k writes.Good (is_first.0) flushes;
            left = flushes.1 ∙ sym (but_removed mid.pending k apart (is_first.0));
          });
          can = record {
            on = flushes.0.0.ends.ends.is_on;
            formatted = good_formatted mid.drive new.drive i (flushes.0.0);
            inside = subst (λ (l : List (ℕ × List ℕ)). All (λ (x : ℕ × List ℕ). x.0 < block_count new.drive) l) (sym (flushes.1))
                (subst (λ (n : ℕ). All (λ (x : ℕ × List ℕ). x.0 < n) (remove mid.pending k)) (sym same_blocks)
                (All-removed (λ (x : ℕ × List ℕ). x.0 < block_count mid.drive) mid.pending k far.can.inside));
          };
          same_shape = same ∙ far.same_shape;
          same_count = same_blocks ∙ far.same_count;
          same_mode = flushes.2 ∙ far.same_mode;
          stands = λ s so. shows_on s (step s (far.stands s so));
        }
      where
        shows_on : (s : Contents) → FlushContents after s writes.Good → after s
        shows_on (Has v) p = p
        shows_on (MayHave all) p = absurd p

    -- it was refused, and goes behind the others
    pub drained_past : (out : WriteOut) → IsRefusal out → AreApart mid.pending → FlushesAt mid new k out → new.drive.shape ≡ mid.drive.shape
        → ((s : Contents) → amid s → FlushContents after s out) → DrainedSoFar start new among first count (turns + 1) enough (suc missing) (Some (first_told told out)) before after
    drained_past out is apart flushes same step =
        let same_blocks = refused_count mid.drive new.drive i out is (flushes.0.0) same in
        let refused = refuses mid new k out apart (is_first.0) is flushes in
        let put : new.pending ≡ remove mid.pending k ++ pending_at mid.pending k ∷ [] = refused.left ∙ behind_removed mid.pending k apart (is_first.0) in
        let ready = refused_ready mid.drive new.drive i out is (flushes.0.0) in
        let counted = far.counted in
        record {
          done = far.done ++ i ∷ [];
          rest = left.others;
          behind = far.behind ++ i ∷ [];
          many = many_now;
          due_is = due_now;
          now_due = due_behind first count among mid new k is_first put ∙ ap (λ (l : List ℕ). l ++ i ∷ []) same_others ∙ append_assoc left.others far.behind (i ∷ []);
          counted = ap (λ (n : ℕ). n + enough) (length-append far.behind (i ∷ [])) ∙ omega (arith, counted);
          tried = tries_refuse far.done enough missing i start mid new told out far.tried refused;
          can = record {
            on = ready.0;
            formatted = ready.1;
            inside = subst (λ (l : List (ℕ × List ℕ)). All (λ (x : ℕ × List ℕ). x.0 < block_count new.drive) l) (sym put)
                (subst (λ (n : ℕ). All (λ (x : ℕ × List ℕ). x.0 < n) (remove mid.pending k ++ pending_at mid.pending k ∷ [])) (sym same_blocks)
                (All-behind (λ (x : ℕ × List ℕ). x.0 < block_count mid.drive) mid.pending k (is_first.0) far.can.inside));
          };
          same_shape = same ∙ far.same_shape;
          same_count = same_blocks ∙ far.same_count;
          same_mode = flushes.2 ∙ far.same_mode;
          stands = λ s so. shows_on out is s (step s (far.stands s so));
        }
      where
        shows_on : (out : WriteOut) → IsRefusal out → (s : Contents) → FlushContents after s out → after s
        shows_on (writes.NoSpare named) is (Has v) p = p
        shows_on (writes.NoUpdate counter) is (Has v) p = p
        shows_on _ is (Has v) p = absurd is
        shows_on out is (MayHave all) p = absurd p

    -- its write was stopped
    pub drain_stopped : (out : WriteOut) → FlushesAt mid new k out → left_at out k mid.pending ≡ [] → StopsTrying start new (due_of among first count start) enough out
    drain_stopped out flushes none = record {
      done = far.done;
      block = i;
      rest = left.others;
      due_is = far.due_is ∙ ap (λ (l : List ℕ). far.done ++ l) rest_is;
      mid = mid;
      short = missing;
      first = told;
      tried = far.tried;
      stops = back mid new k out (is_first.0) flushes;
      none_left = flushes.1 ∙ none;
    }

  -- the same, by what the loop counts
  module _ (enough missing : ℕ) where
    turn_stopped_by : (missing : ℕ) (told : Option WriteOut) (mid new : CacheShown) (amid : Contents → Type 0) (turns k : ℕ) → DrainedSoFar start mid among first count turns enough missing told before amid
        → 0 < missing → turns < length (due_of among first count start) → FirstOf mid.pending among first count (Some k) → (out : WriteOut) → FlushesAt mid new k out → left_at out k mid.pending ≡ []
        → StopsTrying start new (due_of among first count start) enough out
    turn_stopped_by zero told mid new amid turns k far some fewer is_first out flushes none = absurd (omega (arith, some))
    turn_stopped_by (suc m) told mid new amid turns k far some fewer is_first out flushes none = drain_stopped enough m told mid new amid amid turns k far fewer is_first out flushes none

    pub turn_stopped : (told : Option WriteOut) (mid new : CacheShown) (amid : Contents → Type 0) (turns k : ℕ) → DrainedSoFar start mid among first count turns enough missing told before amid
        → 0 < missing → turns < length (due_of among first count start) → FirstOf mid.pending among first count (Some k) → (out : WriteOut) → FlushesAt mid new k out → left_at out k mid.pending ≡ []
        → StopsTrying start new (due_of among first count start) enough out
    turn_stopped told mid new amid turns k far some fewer is_first out flushes none = turn_stopped_by missing told mid new amid turns k far some fewer is_first out flushes none

    module _ (missing' : ℕ) (told told' : Option WriteOut) (mid new : CacheShown) (amid after : Contents → Type 0) (turns k : ℕ) where
      left_by : (missing : ℕ) → DrainedSoFar start mid among first count turns enough missing told before amid → 0 < missing → missing' ≡ missing - 1 → told' ≡ told
          → turns < length (due_of among first count start) → FirstOf mid.pending among first count (Some k) → AreApart mid.pending → FlushesAt mid new k writes.Good → new.drive.shape ≡ mid.drive.shape
          → ((s : Contents) → amid s → FlushContents after s writes.Good) → DrainedSoFar start new among first count (turns + 1) enough missing' told' before after
      left_by zero far some less same_told fewer is_first apart flushes same step = absurd (omega (arith, some))
      left_by (suc m) far some less same_told fewer is_first apart flushes same step =
          subst (λ (o : Option WriteOut). DrainedSoFar start new among first count (turns + 1) enough missing' o before after) (sym same_told)
          (subst (λ (n : ℕ). DrainedSoFar start new among first count (turns + 1) enough n told before after) (let e : m ≡ missing' = omega (arith, less) in e)
          (drained_more enough m told mid new amid after turns k far fewer is_first apart flushes same step))

      pub turn_left : DrainedSoFar start mid among first count turns enough missing told before amid → 0 < missing → missing' ≡ missing - 1 → told' ≡ told
          → turns < length (due_of among first count start) → FirstOf mid.pending among first count (Some k) → AreApart mid.pending → FlushesAt mid new k writes.Good → new.drive.shape ≡ mid.drive.shape
          → ((s : Contents) → amid s → FlushContents after s writes.Good) → DrainedSoFar start new among first count (turns + 1) enough missing' told' before after
      turn_left far some less same_told fewer is_first apart flushes same step = left_by missing far some less same_told fewer is_first apart flushes same step

      refused_by : (missing : ℕ) → DrainedSoFar start mid among first count turns enough missing told before amid → 0 < missing → missing' ≡ missing → (out : WriteOut) → IsRefusal out → told' ≡ Some (first_told told out)
          → turns < length (due_of among first count start) → FirstOf mid.pending among first count (Some k) → AreApart mid.pending → FlushesAt mid new k out → new.drive.shape ≡ mid.drive.shape
          → ((s : Contents) → amid s → FlushContents after s out) → DrainedSoFar start new among first count (turns + 1) enough missing' told' before after
      refused_by zero far some same_missing out is told_is fewer is_first apart flushes same step = absurd (omega (arith, some))
      refused_by (suc m) far some same_missing out is told_is fewer is_first apart flushes same step =
          subst (λ (o : Option WriteOut). DrainedSoFar start new among first count (turns + 1) enough missing' o before after) (sym told_is)
          (subst (λ (n : ℕ). DrainedSoFar start new among first count (turns + 1) enough n (Some (first_told told out)) before after) (sym same_missing)
          (drained_past enough m told mid new amid after turns k far fewer is_first out is apart flushes same step))

      pub turn_refused : DrainedSoFar start mid among first count turns enough missing told before amid → 0 < missing → missing' ≡ missing → (out : WriteOut)
          → out ≢ writes.Good → out ≢ writes.Cut → out ≢ writes.Fault → told' ≡ Some (first_told told out)
          → turns < length (due_of among first count start) → FirstOf mid.pending among first count (Some k) → AreApart mid.pending → FlushesAt mid new k out → new.drive.shape ≡ mid.drive.shape
          → ((s : Contents) → amid s → FlushContents after s out) → DrainedSoFar start new among first count (turns + 1) enough missing' told' before after
      turn_refused far some same_missing out not_good not_cut not_fault told_is fewer is_first apart flushes same step =
          refused_by missing far some same_missing out (elim (is_flush mid new k out far.can (is_first.0) flushes) [
            | inl good ↦ absurd (not_good good)
            | inr (inl is) ↦ is
            | inr (inr (inl cut)) ↦ absurd (not_cut cut)
            | inr (inr (inr fault)) ↦ absurd (not_fault fault)
          ]) told_is fewer is_first apart flushes same step

  -- one is left where not all were tried
  pub some_first : (enough missing : ℕ) (told : Option WriteOut) (now : CacheShown) (anow : Contents → Type 0) (turns : ℕ) → DrainedSoFar start now among first count turns enough missing told before anow
      → turns < length (due_of among first count start) → FirstOf now.pending among first count None → ⊥
  some_first enough missing told now anow turns far fewer none =
      let many = far.many in
      let long : length (due_of among first count start) ≡ length (far.done ++ far.rest) = ap length far.due_is in
      let nothing : length (far.rest ++ far.behind) ≡ 0 = ap length (sym far.now_due ∙ due_none first count among now none) in
      omega (arith, many, long, nothing, fewer, length-append far.done far.rest, length-append far.rest far.behind)

  module _ (enough : ℕ) (told : Option WriteOut) (now : CacheShown) (anow : Contents → Type 0) (turns : ℕ) where
    drained_by : (missing : ℕ) (far : DrainedSoFar start now among first count turns enough missing told before anow) → Tries start (due_of among first count start) enough now missing told
        → DrainedDue start now among first count enough missing told
    drained_by missing far tried = record {
      tried = tried;
      left = (
          let many = far.many in
          let counted = far.counted in
          let long : length (due_of among first count start) ≡ length (far.done ++ far.rest) = ap length far.due_is in
          let now_long : length (due_of among first count now) ≡ length (far.rest ++ far.behind) = ap length far.now_due in
          omega (arith, many, counted, long, now_long, length-append far.done far.rest, length-append far.rest far.behind)
          );
      can = far.can;
      same_count = far.same_count;
      same_mode = far.same_mode;
    }

    -- enough left
    pub drained_enough : DrainedSoFar start now among first count turns enough 0 told before anow → DrainsDue start now among first count enough writes.Good
    drained_enough far = (told, drained_by 0 far (subst (λ (l : List ℕ). Tries start l enough now 0 told) (sym far.due_is) (tries_enough far.done far.rest enough start now told far.tried)))

    -- all were tried
    all_tried : (missing : ℕ) (far : DrainedSoFar start now among first count turns enough missing told before anow) → length (due_of among first count start) ≤ turns
        → Tries start (due_of among first count start) enough now missing told
    all_tried missing far all =
        let many = far.many in
        let long : length (due_of among first count start) ≡ length (far.done ++ far.rest) = ap length far.due_is in
        let nothing : far.rest ≡ [] = none_of far.rest (omega (arith, many, long, all, length-append far.done far.rest)) in
        subst (λ (l : List ℕ). Tries start l enough now missing told) (sym (far.due_is ∙ ap (λ (l : List ℕ). far.done ++ l) nothing ∙ append-nil far.done)) far.tried
      where
        none_of : (l : List ℕ) → length l ≡ 0 → l ≡ []
        none_of [] none = refl
        none_of (x ∷ l) none = absurd (omega (arith, none))

  told_by : (enough missing : ℕ) (out : WriteOut) (now : CacheShown) → IsRefusal out → DrainedDue start now among first count enough (suc missing) (Some out) → DrainsDue start now among first count enough out
  told_by enough missing (writes.NoSpare named) now is drained = record { missing = missing; drained = drained }
  told_by enough missing (writes.NoUpdate counter) now is drained = record { missing = missing; drained = drained }
  told_by enough missing _ now is drained = absurd is

  ends_well : (enough missing : ℕ) (told : Option WriteOut) (now : CacheShown) (done : List ℕ) → Tries start done enough now missing told → IsGoodOrRefusal (drain_out missing told)
  ends_well enough zero told now done tries = tt
  ends_well enough (suc missing) None now done tries = tt
  ends_well enough (suc missing) (Some out) now done tries = by_refusal out (told_refusal done enough (suc missing) start now out tries)
    where
      by_refusal : (out : WriteOut) → IsRefusal out → IsGoodOrRefusal out
      by_refusal (writes.NoSpare named) is = tt
      by_refusal (writes.NoUpdate counter) is = tt
      by_refusal _ is = absurd is

  pub drained_all : (enough missing : ℕ) (told : Option WriteOut) (now : CacheShown) (anow : Contents → Type 0) (turns : ℕ) → DrainedSoFar start now among first count turns enough missing told before anow
      → length (due_of among first count start) ≤ turns → enough ≤ length (due_of among first count start) → DrainsDue start now among first count enough (drain_out missing told)
  drained_all enough zero told now anow turns far all few = drained_enough enough told now anow turns far
  drained_all enough (suc missing) None now anow turns far all few =
      absurd (tells_first (due_of among first count start) enough missing start now None (all_tried enough None now anow turns (suc missing) far all) few refl)
  drained_all enough (suc missing) (Some out) now anow turns far all few =
      let tried = all_tried enough (Some out) now anow turns (suc missing) far all in
      told_by enough missing out now (told_refusal (due_of among first count start) enough (suc missing) start now out tried) (drained_by enough (Some out) now anow turns (suc missing) far tried)

  -- what is shown after a drain that went to its end
  pub drain_shows : (enough missing : ℕ) (told : Option WriteOut) (now : CacheShown) (anow : Contents → Type 0) (turns : ℕ) → DrainedSoFar start now among first count turns enough missing told before anow
      → ((all : List Values) → anow (MayHave all) → ⊥) → (s : Contents) → before s → FlushContents anow s (drain_out missing told)
  drain_shows enough missing told now anow turns far only s so = shows_on (drain_out missing told) (ends_well enough missing told now far.done far.tried) s (far.stands s so)
    where
      shows_on : (out : WriteOut) → IsGoodOrRefusal out → (s : Contents) → anow s → FlushContents anow s out
      shows_on writes.Good end (Has v) p = p
      shows_on (writes.NoSpare named) end (Has v) p = p
      shows_on (writes.NoUpdate counter) end (Has v) p = p
      shows_on _ end (Has v) p = absurd end
      shows_on out end (MayHave all) p = absurd (only all p)
