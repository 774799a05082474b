-- A block that cannot leave stays so while others are tried; one that was tried has left, or is pending and cannot leave.
use Rattle.std.specs.Prelude.{◌≡◌, ◌≢◌, ℕ, zero, suc, ◌+◌, ◌*◌, ◌<◌, ◌≤◌, ◌⊎◌, if◌then◌else◌, true, false, Bool, Option, Some, List, [], ◌∷◌, length, slice_index}
use Rattle.std.specs.Option.{option_map_or}
use Rattle.std.specs.List.{Contains, filter}
use Rattle.std.proofs.Common.{arith, refl, sym, ap, ◌∙◌, inl, inr, subst}
use Rattle.std.proofs.lemmas.Bool.{cases_eq}
use Rattle.std.proofs.lemmas.List.Elements.{Contains-get_or}
use Rattle.model_geometry.specs.Geometry.{Shape, sdl_block, sdl_second_block}
use Rattle.model_medium.specs.Cells.{Cell, Dead, IsGood, cell_at}
use Rattle.model_sectors.specs.Requests.{block_with}
use Rattle.model_lists.specs.Values.{Sdl}
use Rattle.model_copies.specs.Parts.{SdlIsLost}
use Rattle.model_places.specs.Places.{Lists, home_of, free_spares}
use Rattle.model_drive.specs.declared.TheConstants.{LAST_COUNTER}
use Rattle.model_drive.specs.declared.WriteOut.{WriteOut}
use Rattle.model_drive.specs.declared.WriteOut.TheVariants as writes
use Rattle.model_drive.specs.Shown.{Shown, IsKnown, block_count, cells_in, home_cell}
use Rattle.model_drive.specs.Sound.{IsSound}
use Rattle.model_drive.specs.Course.{Placing, ToHome, ToSpare, IsUsable, free_for, lists_reached, CanTakeCourse, TookCourse, HasCopyOfMoves}
use Rattle.model_drive.specs.Writes.{EndsWriting, WritesAll}
use Rattle.model_cache.specs.Values.{IsPending}
use Rattle.model_cache.specs.Shown.{CacheShown, dropped}
use Rattle.model_cache.specs.Chains.{WritesBack, Flushes}
use Rattle.model_cache.specs.Drains.{IsRefusal, Refuses, Tries}
use Rattle.model_cache.proofs.Members.{Contains-none, Contains-cases, Contains-first, Contains-later}
use Rattle.model_cache.proofs.FlushedHomes.{home_is, one_covered, its_block, flushed_good, flush_leaves, flush_counts, flush_known, flush_inside}
use Rattle.model_cache.proofs.Spareless.{back_spareless}
use Rattle.model_cache.proofs.Refusals.{refuses}
use Rattle.model_drains.specs.Leaving.{CannotList, CannotLeave, HasLeft, HasLeftOrIsHeldBack}
use Rattle.model_drains.proofs.Staying.{itself_left, other_was, other_stays, behind_was, behind_stays, below_was, below_stays}

-- ---- what a write of one block makes of a list that cannot be updated

lost_stays : (shape : Shape) (old new : List Cell) (v : Sdl) → ((block : ℕ) → cell_at old block ≡ Dead → cell_at new block ≡ Dead) → SdlIsLost shape old v → SdlIsLost shape new v
lost_stays shape old new v dies lost area is = elim (lost area is) [
  | inl first ↦ inl (dies (sdl_block shape area) first)
  | inr second ↦ inr (second.0, dies (sdl_second_block shape area) second.1)
]

-- one that lacks a copy, or room for its counter
abbrev IsFull : Shape → List Cell → Sdl → Type 0
IsFull shape cells sdl = SdlIsLost shape cells sdl ⊎ (sdl.counter ≡ LAST_COUNTER)

reached_same : (shape : Shape) (cells : List Cell) (lists : Lists) (first : ℕ) (course : List Placing) → length course ≤ 1 → CanTakeCourse shape lists first course
    → HasCopyOfMoves shape cells lists.sdl course → IsFull shape cells lists.sdl → lists_reached shape lists first course ≡ lists
reached_same shape cells lists first [] few can copy full = refl
reached_same shape cells lists first (ToHome ∷ []) few can copy full = refl
reached_same shape cells lists first (ToSpare t ∷ []) few can copy (inl lost) = absurd (copy lost)
reached_same shape cells lists first (ToSpare t ∷ []) few can copy (inr last) = absurd (let room = can.0.1 in omega (arith, room, last))
reached_same shape cells lists first (a ∷ b ∷ more) few can copy full = absurd (omega (arith, few))

module _ (old new : Shown) (same_shape : new.shape ≡ old.shape) (lists : Lists) (course : List Placing) (more : ℕ) (reached : Lists) (i uses : ℕ) (buffered_now : List ℕ)
    (ends : EndsWriting old new lists (16 * i) 16 course more reached uses buffered_now) (few : length course ≤ 1) where
  full_now : (held : Lists) → old.lists ≡ Some held → IsFull old.shape (cells_in old) held.sdl → IsFull old.shape (cells_in new) lists.sdl
  full_now held in_use full = elim (subst (λ (l : Lists). IsFull old.shape (cells_in old) l.sdl) same full) [
    | inl lost ↦ inl (lost_stays old.shape (cells_in old) (cells_in new) lists.sdl ends.ends.reach.lasts.stays_dead lost)
    | inr last ↦ inr last
  ]
    where
      same : held ≡ lists
      same = let e : Some held ≡ Some lists = sym in_use ∙ ends.wrote.in_use in cc

  still_full : CannotList old → HasCopyOfMoves old.shape (cells_in new) lists.sdl course → CannotList new
  still_full cannot copy =
      let full = full_now cannot.lists cannot.in_use cannot.cause in
      record {
        lists = lists;
        in_use = ends.now_in_use ∙ ap Some (ends.wrote.reached_are ∙ reached_same old.shape (cells_in new) lists (block_with (16 * i)) course few ends.wrote.can copy full);
        cause = subst (λ (s : Shape). IsFull s (cells_in new) lists.sdl) (sym same_shape) full;
      }

empty_copy : (shape : Shape) (cells : List Cell) (sdl : Sdl) (course : List Placing) → length course ≡ 0 → HasCopyOfMoves shape cells sdl course
empty_copy shape cells sdl [] none = tt
empty_copy shape cells sdl (p ∷ course) none = absurd (omega (arith, none))

back_full : (old new : CacheShown) (i : ℕ) (out : WriteOut) → WritesBack old new i out → (out ≡ writes.Good) ⊎ IsRefusal out → IsKnown old.drive → CannotList old.drive → CannotList new.drive
back_full old new i writes.Good back why known cannot =
    let p = back.wrote in
    still_full old.drive new.drive back.leaves.same_shape p.lists p.course 0 p.reached i _ _ p.ends (let one = one_covered i in let all = p.all in omega (arith, one, all)) cannot (p.has_copy known)
back_full old new i (writes.NoSpare named) back why known cannot =
    let p = back.wrote in
    let one = one_covered i in
    let few = p.is_named.covered in
    still_full old.drive new.drive back.leaves.same_shape p.lists p.course 1 p.reached i _ _ p.ends (omega (arith, one, few)) cannot (empty_copy old.drive.shape (cells_in new.drive) p.lists.sdl p.course (omega (arith, one, few)))
back_full old new i (writes.NoUpdate counter) back why known cannot =
    let p = back.wrote in
    let one = one_covered i in
    let few = p.covered in
    still_full old.drive new.drive back.leaves.same_shape p.lists p.course 1 p.reached i _ _ p.ends (omega (arith, one, few)) cannot (empty_copy old.drive.shape (cells_in new.drive) p.lists.sdl p.course (omega (arith, one, few)))
back_full old new i writes.NotFormatted back (inl is) known cannot = absurd (let h : writes.NotFormatted ≡ writes.Good = is in cc)
back_full old new i writes.NotFormatted back (inr is) known cannot = absurd is
back_full old new i (writes.Range k) back (inl is) known cannot = absurd (let h : writes.Range k ≡ writes.Good = is in cc)
back_full old new i (writes.Range k) back (inr is) known cannot = absurd is
back_full old new i (writes.Unread n b) back (inl is) known cannot = absurd (let h : writes.Unread n b ≡ writes.Good = is in cc)
back_full old new i (writes.Unread n b) back (inr is) known cannot = absurd is
back_full old new i writes.Cut back (inl is) known cannot = absurd (let h : writes.Cut ≡ writes.Good = is in cc)
back_full old new i writes.Cut back (inr is) known cannot = absurd is
back_full old new i writes.Off back (inl is) known cannot = absurd (let h : writes.Off ≡ writes.Good = is in cc)
back_full old new i writes.Off back (inr is) known cannot = absurd is
back_full old new i writes.Fault back (inl is) known cannot = absurd (let h : writes.Fault ≡ writes.Good = is in cc)
back_full old new i writes.Fault back (inr is) known cannot = absurd is

-- ---- a block that cannot leave is not written

not_taken : (shape : Shape) (cells : List Cell) (lists : Lists) (first : ℕ) (course : List Placing) → length course ≡ 1 → CanTakeCourse shape lists first course → TookCourse shape cells lists first course
    → HasCopyOfMoves shape cells lists.sdl course → cell_at cells (home_of shape lists (first + 0)) ≡ Dead
    → ((spare : ℕ) → Contains (free_spares shape lists (first + 0)) spare → ¬ (cell_at cells spare ≢ Dead)) ⊎ IsFull shape cells lists.sdl → ⊥
not_taken shape cells lists first [] one can took copy dead why = (omega (arith, one))
not_taken shape cells lists first (ToHome ∷ []) one can took copy dead why = subst IsGood dead took.0
not_taken shape cells lists first (ToSpare t ∷ []) one can took copy dead (inl none) =
    none (slice_index (free_spares shape lists (first + 0)) t) (Contains-get_or (free_spares shape lists (first + 0)) t 0 can.0.0) (λ dead. subst IsGood dead took.0.2)
not_taken shape cells lists first (ToSpare t ∷ []) one can took copy dead (inr (inl lost)) = copy lost
not_taken shape cells lists first (ToSpare t ∷ []) one can took copy dead (inr (inr last)) = (let room = can.0.1 in omega (arith, room, last))
not_taken shape cells lists first (a ∷ b ∷ more) one can took copy dead why = (omega (arith, one))

module _ (old new : CacheShown) (i : ℕ) (flush : Flushes old new i) (known : IsKnown old.drive) (cannot : CannotLeave old.drive i) where
  cause : WritesAll old.drive new.drive (16 * i) 16
  cause = flush.back.wrote

  is_first : block_with (16 * i) + 0 ≡ i
  is_first = its_block i

  stays_dead : (block : ℕ) → cell_at (cells_in old.drive) block ≡ Dead → cell_at (cells_in new.drive) block ≡ Dead
  stays_dead = cause.ends.ends.reach.lasts.stays_dead

  dead_home : cell_at (cells_in new.drive) (home_of old.drive.shape cause.lists (block_with (16 * i) + 0)) ≡ Dead
  dead_home = stays_dead (home_of old.drive.shape cause.lists (block_with (16 * i) + 0))
      (ap (λ (b : ℕ). cell_at (cells_in old.drive) (home_of old.drive.shape cause.lists b)) is_first
      ∙ ap (cell_at (cells_in old.drive)) (sym (home_is old.drive cause.lists i cause.ends.wrote.in_use)) ∙ cannot.dead)

  free_is : free_for old.drive i ≡ free_spares old.drive.shape cause.lists i
  free_is = ap (λ (o : Option Lists). option_map_or (λ lists. free_spares old.drive.shape lists i) o []) cause.ends.wrote.in_use

  why : ((spare : ℕ) → ¬ IsUsable old.drive i spare) ⊎ CannotList old.drive
      → ((spare : ℕ) → Contains (free_spares old.drive.shape cause.lists (block_with (16 * i) + 0)) spare → ¬ (cell_at (cells_in new.drive) spare ≢ Dead)) ⊎ IsFull old.drive.shape (cells_in new.drive) cause.lists.sdl
  why (inl none) = inl (λ spare has lives. none spare (record {
    free = subst (λ (l : List ℕ). Contains l spare) (sym free_is) (subst (λ (b : ℕ). Contains (free_spares old.drive.shape cause.lists b) spare) is_first has);
    lives = λ dead. lives (stays_dead spare dead);
  }))
  why (inr full) = inr (full_now old.drive new.drive flush.back.leaves.same_shape cause.lists cause.course 0 cause.reached i _ _ cause.ends (let one = one_covered i in let all = cause.all in omega (arith, one, all)) full.lists full.in_use full.cause)

  pub not_written : ⊥
  not_written = not_taken old.drive.shape (cells_in new.drive) cause.lists (block_with (16 * i)) cause.course (let one = one_covered i in let all = cause.all in omega (arith, one, all)) cause.ends.wrote.can (cause.ends.wrote.took known) (cause.has_copy known) dead_home (why cannot.cause)

-- ---- it stays so, and what was tried has left or is so

-- a logical block of the disc that cannot leave
pub record IsStuck (shown : Shown) (j : ℕ) : Type 0 where
  pub inside : j < block_count shown
  pub cannot : CannotLeave shown j

kept_cause : (old new : CacheShown) (i : ℕ) (out : WriteOut) → WritesBack old new i out → (out ≡ writes.Good) ⊎ IsRefusal out → IsSound old.drive → IsKnown old.drive → (j : ℕ)
    → ((spare : ℕ) → ¬ IsUsable old.drive j spare) ⊎ CannotList old.drive → ((spare : ℕ) → ¬ IsUsable new.drive j spare) ⊎ CannotList new.drive
kept_cause old new i out back ends sound known j (inl none) = inl (back_spareless old new i out back ends sound j none)
kept_cause old new i out back ends sound known j (inr full) = inr (back_full old new i out back ends known full)

stuck_flush : (old mid : CacheShown) (i : ℕ) → Flushes old mid i → IsSound old.drive → IsKnown old.drive → (j : ℕ) → IsStuck old.drive j → (j ≢ i) × IsStuck mid.drive j
stuck_flush old mid i flush sound known j stuck = (
  apart,
  record {
    inside = subst (λ (c : ℕ). j < c) (sym (flush_counts old mid i flush sound)) stuck.inside;
    cannot = record {
      dead = flush_leaves old mid i flush sound j stuck.inside apart ∙ stuck.cannot.dead;
      cause = kept_cause old mid i writes.Good flush.back (inl refl) sound known j stuck.cannot.cause;
    };
  },
) where
  apart : j ≢ i
  apart same = not_written old mid i flush known (subst (CannotLeave old.drive) same stuck.cannot)

-- the block of a refusal
refusal_cause : (old mid : CacheShown) (i : ℕ) (out : WriteOut) → Refuses old mid i out → IsSound old.drive → ((spare : ℕ) → ¬ IsUsable mid.drive i spare) ⊎ CannotList mid.drive
refusal_cause old mid i (writes.NoSpare named) is sound =
    let p = is.back.wrote in
    let one = one_covered i in
    let few = p.is_named.covered in
    inl (subst (λ (b : ℕ). (spare : ℕ) → ¬ IsUsable mid.drive b spare) (let b = its_block i in omega (arith, b, one, few)) p.none)
refusal_cause old mid i (writes.NoUpdate counter) is sound =
    let p = is.back.wrote in
    inr (record {
      lists = p.reached;
      in_use = p.ends.now_in_use;
      cause = elim p.cause [ inl lost ↦ inl lost | inr last ↦ inr (sym p.counter_is ∙ last) ];
    })
refusal_cause old mid i writes.Good is sound = absurd is.refused
refusal_cause old mid i writes.NotFormatted is sound = absurd is.refused
refusal_cause old mid i (writes.Range known) is sound = absurd is.refused
refusal_cause old mid i (writes.Unread named block) is sound = absurd is.refused
refusal_cause old mid i writes.Cut is sound = absurd is.refused
refusal_cause old mid i writes.Off is sound = absurd is.refused
refusal_cause old mid i writes.Fault is sound = absurd is.refused

refused_stuck : (old mid : CacheShown) (i : ℕ) (out : WriteOut) → Refuses old mid i out → IsSound old.drive → IsStuck mid.drive i
refused_stuck old mid i out is sound =
    let r = refuses old mid i out is sound in
    record {
      inside = subst (λ (c : ℕ). i < c) (sym r.counts) r.in_range;
      cannot = record { dead = r.dead; cause = refusal_cause old mid i out is sound };
    }

stuck_refusal : (old mid : CacheShown) (i : ℕ) (out : WriteOut) → Refuses old mid i out → IsSound old.drive → IsKnown old.drive → (j : ℕ) → IsStuck old.drive j → IsStuck mid.drive j
stuck_refusal old mid i out is sound known j stuck =
    let r = refuses old mid i out is sound in
    record {
      inside = subst (λ (c : ℕ). j < c) (sym r.counts) stuck.inside;
      cannot = record {
        dead = elim (cases_eq j i) [
          | inl same ↦ subst (λ (b : ℕ). home_cell mid.drive b ≡ Dead) (sym same) r.dead
          | inr ne ↦ r.leaves j stuck.inside ne ∙ stuck.cannot.dead
        ];
        cause = kept_cause old mid i out is.back (inr is.refused) sound known j stuck.cannot.cause;
      };
    }

pub refusal_known : (old mid : CacheShown) (i : ℕ) (out : WriteOut) → Refuses old mid i out → IsSound old.drive → IsKnown old.drive → IsKnown mid.drive
refusal_known old mid i out is sound known = (refuses old mid i out is sound).as_known ∙ known

stays_stuck : (due : List ℕ) (enough short : ℕ) (old new : CacheShown) (first : Option WriteOut) → IsSound old.drive → IsKnown old.drive → Tries old due enough new short first
    → (j : ℕ) → IsStuck old.drive j → IsStuck new.drive j
stays_stuck due zero short old new first sound known tries j stuck = subst (λ (s : CacheShown). IsStuck s.drive j) (sym tries.0) stuck
stays_stuck [] (suc enough) short old new first sound known tries j stuck = subst (λ (s : CacheShown). IsStuck s.drive j) (sym tries.0) stuck
stays_stuck (i ∷ due) (suc enough) short old new first sound known (inl (mid, flush, later)) j stuck =
    stays_stuck due enough short mid new first flush.back.leaves.sound (flush_known old mid i flush sound known) later j (stuck_flush old mid i flush sound known j stuck).1
stays_stuck (i ∷ due) (suc enough) short old new first sound known (inr (mid, out, told, is, later, first_is)) j stuck =
    stays_stuck due (suc enough) short mid new told is.back.leaves.sound (refusal_known old mid i out is sound known) later j (stuck_refusal old mid i out is sound known j stuck)

-- a block that has left, or is pending and stuck
abbrev pub IsEnded : CacheShown → ℕ → Type 0
IsEnded shown j = HasLeft shown j ⊎ (IsPending shown.pending j × IsStuck shown.drive j)

pub ended_so : (shown : CacheShown) (j : ℕ) → IsEnded shown j → HasLeftOrIsHeldBack shown j
ended_so shown j (inl left) = inl left
ended_so shown j (inr (waits, stuck)) = inr (record { pending = waits; cannot = stuck.cannot })

-- without the pending blocks that the disc has not
pub dropped_ended : (shown : CacheShown) (j : ℕ) → IsEnded shown j → IsEnded (dropped shown) j
dropped_ended shown j (inl left) = inl (record {
  on_disc = left.on_disc;
  gone = λ waits. left.gone (below_was shown.pending (block_count shown.drive) j waits);
  whole = left.whole;
})
dropped_ended shown j (inr (waits, stuck)) = inr (below_stays shown.pending (block_count shown.drive) j stuck.inside waits, stuck)

module _ (old mid : CacheShown) (i : ℕ) (flush : Flushes old mid i) (sound : IsSound old.drive) (known : IsKnown old.drive) where
  flushed_ended : IsEnded mid i
  flushed_ended = inl (record {
    on_disc = subst (λ (c : ℕ). i < c) (sym (flush_counts old mid i flush sound)) (flush_inside old mid i flush sound);
    gone = λ waits. itself_left i old.pending (subst (λ (l : List (ℕ × List ℕ)). IsPending l i) flush.left waits);
    whole = flushed_good old mid i flush sound known;
  })

  ended_flush : (j : ℕ) → IsEnded old j → IsEnded mid j
  ended_flush j (inl left) = elim (cases_eq j i) [
    | inl same ↦ subst (IsEnded mid) (sym same) flushed_ended
    | inr ne ↦ inl (record {
      on_disc = subst (λ (c : ℕ). j < c) (sym (flush_counts old mid i flush sound)) left.on_disc;
      gone = λ waits. left.gone (other_was i old.pending j (subst (λ (l : List (ℕ × List ℕ)). IsPending l j) flush.left waits));
      whole = subst IsGood (sym (flush_leaves old mid i flush sound j left.on_disc ne)) left.whole;
    })
  ]
  ended_flush j (inr (waits, stuck)) =
      let later = stuck_flush old mid i flush sound known j stuck in
      inr (subst (λ (l : List (ℕ × List ℕ)). IsPending l j) (sym flush.left) (other_stays i old.pending j later.0 waits), later.1)

module _ (old mid : CacheShown) (i : ℕ) (out : WriteOut) (is : Refuses old mid i out) (sound : IsSound old.drive) where
  stays_pending : (j : ℕ) → IsPending old.pending j → IsPending mid.pending j
  stays_pending j waits = subst (λ (l : List (ℕ × List ℕ)). IsPending l j) (sym is.left) (behind_stays i old.pending j waits)

  refused_ended : IsEnded mid i
  refused_ended = inr (stays_pending i (is.back.bytes, is.back.was_pending), refused_stuck old mid i out is sound)

  ended_refusal : IsKnown old.drive → (j : ℕ) → IsEnded old j → IsEnded mid j
  ended_refusal known j (inl left) =
      let r = refuses old mid i out is sound in
      inl (record {
        on_disc = subst (λ (c : ℕ). j < c) (sym r.counts) left.on_disc;
        gone = λ waits. left.gone (behind_was i old.pending j (subst (λ (l : List (ℕ × List ℕ)). IsPending l j) is.left waits));
        whole = subst IsGood (sym (r.leaves j left.on_disc apart)) left.whole;
      })
    where
      apart : j ≢ i
      apart same = left.gone (is.back.bytes, subst (λ (b : ℕ). Contains old.pending (b, is.back.bytes)) (sym same) is.back.was_pending)
  ended_refusal known j (inr (waits, stuck)) = inr (stays_pending j waits, stuck_refusal old mid i out is sound known j stuck)

pub stays_ended : (due : List ℕ) (enough short : ℕ) (old new : CacheShown) (first : Option WriteOut) → IsSound old.drive → IsKnown old.drive → Tries old due enough new short first
    → (j : ℕ) → IsEnded old j → IsEnded new j
stays_ended due zero short old new first sound known tries j ended = subst (λ (s : CacheShown). IsEnded s j) (sym tries.0) ended
stays_ended [] (suc enough) short old new first sound known tries j ended = subst (λ (s : CacheShown). IsEnded s j) (sym tries.0) ended
stays_ended (i ∷ due) (suc enough) short old new first sound known (inl (mid, flush, later)) j ended =
    stays_ended due enough short mid new first flush.back.leaves.sound (flush_known old mid i flush sound known) later j (ended_flush old mid i flush sound known j ended)
stays_ended (i ∷ due) (suc enough) short old new first sound known (inr (mid, out, told, is, later, first_is)) j ended =
    stays_ended due (suc enough) short mid new told is.back.leaves.sound (refusal_known old mid i out is sound known) later j (ended_refusal old mid i out is sound known j ended)

pub all_ended : (due : List ℕ) (enough short : ℕ) (old new : CacheShown) (first : Option WriteOut) → length due ≤ enough → IsSound old.drive → IsKnown old.drive
    → Tries old due enough new short first → (j : ℕ) → Contains due j → IsEnded new j
all_ended [] enough short old new first all sound known tries j has = absurd (Contains-none j has)
all_ended (i ∷ due) zero short old new first all sound known tries j has = absurd (omega (arith, all))
all_ended (i ∷ due) (suc enough) short old new first all sound known (inl (mid, flush, later)) j has =
    let known' = flush_known old mid i flush sound known in
    elim (Contains-cases i due j has) [
      | inl same ↦ stays_ended due enough short mid new first flush.back.leaves.sound known' later j (subst (IsEnded mid) same (flushed_ended old mid i flush sound known))
      | inr more ↦ all_ended due enough short mid new first (omega (arith, all)) flush.back.leaves.sound known' later j more
    ]
all_ended (i ∷ due) (suc enough) short old new first all sound known (inr (mid, out, told, is, later, first_is)) j has =
    let known' = refusal_known old mid i out is sound known in
    elim (Contains-cases i due j has) [
      | inl same ↦ stays_ended due (suc enough) short mid new told is.back.leaves.sound known' later j (subst (IsEnded mid) same (refused_ended old mid i out is sound))
      | inr more ↦ all_ended due (suc enough) short mid new told (omega (arith, all)) is.back.leaves.sound known' later j more
    ]

pub all_left_or_held : (due : List ℕ) (enough short : ℕ) (old new : CacheShown) (first : Option WriteOut) → length due ≤ enough → IsSound old.drive → IsKnown old.drive
    → Tries old due enough new short first → (j : ℕ) → Contains due j → HasLeftOrIsHeldBack new j
all_left_or_held due enough short old new first all sound known tries j has = ended_so new j (all_ended due enough short old new first all sound known tries j has)

-- ---- how many leave

module _ (can : ℕ → Bool) where
  counted : (i : ℕ) (due : List ℕ) (b : Bool) → can i ≡ b → length (filter can (i ∷ due)) ≡ length (if b then i ∷ filter can due else filter can due)
  counted i due b is = ap (λ (c : Bool). length (if c then i ∷ filter can due else filter can due)) is

  leave_one : (i : ℕ) (due : List ℕ) → length (filter can (i ∷ due)) ≤ suc (length (filter can due))
  leave_one i due = by (can i) refl
    where
      by : (b : Bool) → can i ≡ b → length (filter can (i ∷ due)) ≤ suc (length (filter can due))
      by true is = let same = counted i due true is in omega (arith, same)
      by false is = let same = counted i due false is in omega (arith, same)

  pub enough_leave : (due : List ℕ) (enough short : ℕ) (old new : CacheShown) (first : Option WriteOut) → IsSound old.drive → IsKnown old.drive → Tries old due enough new short first
      → ((i : ℕ) → Contains due i → can i ≡ true → ¬ CannotLeave new.drive i) → (length (filter can due) + short ≤ enough) ⊎ (short ≡ 0)
  enough_leave due zero short old new first sound known tries leaves = inr tries.1
  enough_leave [] (suc enough) short old new first sound known tries leaves = inl (let h = tries.1 in omega (arith, h))
  enough_leave (i ∷ due) (suc enough) short old new first sound known (inl (mid, flush, later)) leaves =
      let one = leave_one i due in
      elim (enough_leave due enough short mid new first flush.back.leaves.sound (flush_known old mid i flush sound known) later (λ j has. leaves j (Contains-later i due j has))) [
        | inl few ↦ inl (omega (arith, few, one))
        | inr none ↦ inr none
      ]
  enough_leave (i ∷ due) (suc enough) short old new first sound known (inr (mid, out, told, is, later, first_is)) leaves =
      let known' = refusal_known old mid i out is sound known in
      let same = counted i due false cannot in
      elim (enough_leave due (suc enough) short mid new told is.back.leaves.sound known' later (λ j has. leaves j (Contains-later i due j has))) [
        | inl few ↦ inl (omega (arith, few, same))
        | inr none ↦ inr none
      ]
    where
      stuck : IsStuck new.drive i
      stuck = stays_stuck due (suc enough) short mid new told is.back.leaves.sound (refusal_known old mid i out is sound known) later i (refused_stuck old mid i out is sound)

      cannot : can i ≡ false
      cannot = by (can i) refl
        where
          by : (b : Bool) → can i ≡ b → can i ≡ false
          by true passes = absurd (leaves i (Contains-first i due) passes stuck.cannot)
          by false fails = fails
