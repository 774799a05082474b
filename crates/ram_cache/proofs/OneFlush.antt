-- The write of a pending block to the disc.
use Rattle.std.proofs.Common.{◌≡◌, ◌≢◌, ℕ, ◌+◌, ◌-◌, ◌*◌, ◌<◌, ◌≤◌, ◌⊎◌, inl, inr, not, ◌==◌, List, [], ◌∷◌, ◌++◌, Option, Some, None, length, take, drop, refl, sym, ap, ◌∙◌, subst, arith}
use Rattle.std.specs.List.{Contains, remove}
use Rattle.std.specs.Prelude.{IsSome, IsTrue}
use Rattle.std.specs.Option.{option_map_or}
use Rattle.std.proofs.lemmas.Bool.{cases_eq, cases_lt, and_parts, ltb-true, ne_eqb}
use Rattle.std.proofs.lemmas.List.{take_all}
use Rattle.model_sectors.specs.Discs.{Standing, On, Off, block_of, replaced}
use Rattle.model_sectors.specs.Requests.{block_with, blocks_covered, start_in, end_in, is_partly, NamesBlock}
use Rattle.model_sectors.specs.Uses.{is_at_hand, reads_rest}
use Rattle.model_geometry.specs.Geometry.{Shape}
use Rattle.model_medium.specs.Cells.{Cell}
use Rattle.model_places.specs.Places.{Lists, logical_count}
use Rattle.model_sectors.proofs.Pieces.{sectors_replaced, replaced_none}
use Rattle.model_drive.specs.declared.WriteOut.{WriteOut}
use Rattle.model_drive.specs.declared.WriteOut.TheVariants as writes
use Rattle.model_drive.specs.Shown.{Shown, IsOn, StandsFor, StandsBy, block_count, cells_in, buffered}
use Rattle.model_drive.specs.Writes.{WriteCause, WriteStep, StopsInBlock}
use Rattle.model_cache.specs.Chains.{LeavesSound}
use Rattle.model_cache.specs.Values.{Values, Contents, Has, MayHave, HasValue, IsTaken, IsPending, IsUnder, StandsCached}
use Rattle.model_cache.specs.Falling.{LiesIn}
use Rattle.model_cache.specs.Shown.{AreApart, pending_but}
use Rattle.ram_cache.specs.Rooms.{pending_at}
use Rattle.ram_cache.specs.Flushes.{FlushContents, left_at}
use Rattle.ram_cache.proofs.Indices.{Contains-held, but_removed, behind_removed}
use Rattle.model_cache.proofs.Behind.{under_behind}
use Rattle.model_cache.proofs.Members.{Contains-kept, Contains-passed}
use Rattle.model_cache.proofs.ReplacedBlocks.{missed_block, as_long_as, as_sectors}

-- ---- the disc with one block written

module _ (d : List ℕ) (i : ℕ) (b : List ℕ) (lies : LiesIn d (16 * i) 16 b) where
  abbrev put : List ℕ
  put = replaced d (16 * i) b (i + 1)

  pub put_block : block_of put i ≡ b
  put_block =
      let none : 2048 * (16 * i - 16 * i) ≡ 0 = omega arith in
      let whole = lies.whole in
      sym (as_sectors put i)
      ∙ sectors_replaced d lies.blocks (16 * i) 16 b (i + 1) (16 * i) 16 lies.whole lies.inside lies.as_long (omega arith) (omega arith) (omega arith)
      ∙ ap (λ (m : ℕ). take 32768 (drop m b)) none
      ∙ take_all 32768 b (omega (arith, whole))

  pub other_than_put : (j : ℕ) → j ≢ i → block_of put j ≡ block_of d j
  other_than_put j ne = missed_block d (16 * i) 16 b (i + 1) j lies (apart j ne)
    where
      apart : (j : ℕ) → j ≢ i → (16 * j + 16 ≤ 16 * i) ⊎ (16 * i + 16 ≤ 16 * j)
      apart j ne = elim (cases_lt j i) [
        | inl low ↦ inl (omega (arith, low))
        | inr high ↦ inr (omega (arith, high, ne))
      ]

  module _ (v : Values) (p : List (ℕ × List ℕ)) (held : Contains p (i, b)) (under : IsUnder p d v) where
    last_is : block_of v.disc i ≡ b
    last_is = under.last i b held

    pub put_taken : IsTaken v put
    put_taken = record {
      as_long = under.taken.as_long ∙ sym (as_long_as d (16 * i) 16 b (i + 1) lies);
      each = λ j. elim (cases_eq j i) [
        | inl e ↦ inl (ap (block_of put) e ∙ put_block ∙ sym last_is ∙ sym (ap (block_of v.disc) e))
        | inr ne ↦ subst (HasValue v j) (sym (other_than_put j ne)) (under.taken.each j)
      ];
    }

    -- those that are left were there, and have other numbers
    was_left : (j : ℕ) (bytes : List ℕ) → Contains (pending_but i p) (j, bytes) → Contains p (j, bytes)
    was_left j bytes has = (Contains-passed (λ (x : ℕ × List ℕ). not (x.0 == i)) p (j, bytes) has).1

    pub flushed_under : IsUnder (pending_but i p) put v
    flushed_under = record {
      taken = put_taken;
      inside = λ j bytes has. let long = as_long_as d (16 * i) 16 b (i + 1) lies in
          let it = under.inside j bytes (was_left j bytes has) in omega (arith, long, it);
      last = λ j bytes has. under.last j bytes (was_left j bytes has);
      others = λ j none. elim (cases_eq j i) [
        | inl e ↦ ap (block_of v.disc) e ∙ last_is ∙ sym put_block ∙ sym (ap (block_of put) e)
        | inr ne ↦ under.others j (still_none j ne none) ∙ sym (other_than_put j ne)
      ];
    }
      where
        still_none : (j : ℕ) → j ≢ i → ¬ IsPending (pending_but i p) j → ¬ IsPending p j
        still_none j ne none (bytes, has) =
            none (bytes, Contains-kept (λ (x : ℕ × List ℕ). not (x.0 == i)) p (j, bytes) (ap not (ne_eqb j i ne)) has)

-- ---- a write of one whole block

-- one block is covered
one_covered : (i : ℕ) → blocks_covered (16 * i) 16 ≡ 1
one_covered i = omega arith

its_block : (i : ℕ) → block_with (16 * i) ≡ i
its_block i = omega arith

first_alone : (i k : ℕ) → k < blocks_covered (16 * i) 16 → k ≡ 0
first_alone i k covered = let count = one_covered i in omega (arith, count, covered)

named_is : (i named k : ℕ) → NamesBlock (16 * i) 16 named k → block_with named ≡ i
named_is i named k names =
    let none = first_alone i k names.covered in
    let start = names.first in
    let with : block_with (16 * i) + k ≡ i = ap (λ (m : ℕ). m + k) (its_block i) ∙ ap (λ (m : ℕ). i + m) none ∙ add_none i in
    ap block_with (start ∙ ap (start_in (16 * i)) with) ∙ starts i
  where
    add_none : (i : ℕ) → i + 0 ≡ i
    add_none i = omega arith

    starts : (i : ℕ) → block_with (start_in (16 * i) i) ≡ i
    starts i = omega arith

-- as many bytes as the lists say
lies_by : (shape : Shape) (cells : List Cell) (lists : Option Lists) (buffer : List (ℕ × List ℕ)) (d : List ℕ) (i : ℕ) → StandsBy shape cells lists buffer d
    → i < option_map_or (logical_count shape) lists 0 → length d ≡ 32768 * option_map_or (logical_count shape) lists 0
lies_by shape cells None buffer d i stands inside = absurd (omega (arith, inside))
lies_by shape cells (Some lists) buffer d i stands inside = stands.fits.as_long

formatted_by : (shape : Shape) (lists : Option Lists) (i : ℕ) → i < option_map_or (logical_count shape) lists 0 → IsSome lists
formatted_by shape None i inside = absurd (omega (arith, inside))
formatted_by shape (Some lists) i inside = refl

-- no part of a whole block is partly covered
pub not_partly : (i k : ℕ) (buffered : List ℕ) → k < blocks_covered (16 * i) 16 → IsTrue (reads_rest buffered (16 * i) 16 k) → ⊥
not_partly i k buffered covered reads =
    let none = first_alone i k covered in
    let partly = (and_parts (is_partly (16 * i) 16 (block_with (16 * i) + k)) (not (is_at_hand buffered (block_with (16 * i)) k)) reads).0 in
    let few = ltb-true (end_in (16 * i) 16 (block_with (16 * i) + k) - start_in (16 * i) (block_with (16 * i) + k)) 16 partly in
    omega (arith, none, few)

-- What the write of a pending block makes of what the drive stands for.
module _ (old new : Shown) (before after : Standing → Type 0) (p : List (ℕ × List ℕ)) (k : ℕ) (b : List ℕ)
    (shown : (s : Standing) → before s → StandsFor old s) (on : IsOn old) (there : k < length p) (inside : (pending_at p k).0 < block_count old)
    (apart : AreApart p) (is_block : b ≡ (pending_at p k).1) (whole : length b ≡ 32768) where
  abbrev i : ℕ
  i = (pending_at p k).0

  is_held : Contains p (i, b)
  is_held = subst (λ (l : List ℕ). Contains p (i, l)) (sym is_block) (Contains-held p k there)

  lies_in : (d : List ℕ) → StandsFor old (On d) → LiesIn d (16 * i) 16 b
  lies_in d stands = record {
    blocks = block_count old;
    as_long = lies_by old.shape (cells_in old) old.lists old.buffer d i (stands.2) inside;
    inside = omega (arith, inside);
    whole = whole;
  }

  -- nothing is replaced before the block, and all of it with it
  none_put : (d : List ℕ) (at : ℕ) → at ≡ i → replaced d (16 * i) b at ≡ d
  none_put d at is = ap (replaced d (16 * i) b) is ∙ replaced_none d (16 * i) b i (omega arith)

  first_at : (m : ℕ) → m < blocks_covered (16 * i) 16 → block_with (16 * i) + m ≡ i
  first_at m covered = let none = first_alone i m covered in omega (arith, none)

  then_at : (m : ℕ) → m < blocks_covered (16 * i) 16 → block_with (16 * i) + (m + 1) ≡ i + 1
  then_at m covered = let none = first_alone i m covered in omega (arith, none)

  stays : (d : List ℕ) (v : Values) (at : ℕ) → at ≡ i → IsUnder p d v → after (On (replaced d (16 * i) b at)) → StandsCached after (remove p k ++ pending_at p k ∷ []) (Has v)
  stays d v at is under step = (
    d,
    subst (λ (x : List ℕ). after (On x)) (none_put d at is) step,
    subst (λ (l : List (ℕ × List ℕ)). IsUnder l d v) (behind_removed p k apart there) (under_behind i p d v under),
  )

  stopped : (d : List ℕ) (v : Values) → LiesIn d (16 * i) 16 b → IsUnder p d v → StopsInBlock d (16 * i) 16 b after → StandsCached after [] (MayHave (v ∷ v ∷ []))
  stopped d v lies under step = (
    replaced d (16 * i) b (block_with (16 * i) + step.block) ∷ replaced d (16 * i) b (block_with (16 * i) + (step.block + 1)) ∷ [],
    step.either,
    (
      subst (IsTaken v) (sym (none_put d (block_with (16 * i) + step.block) (first_at step.block step.covered))) under.taken,
      (subst (λ (m : ℕ). IsTaken v (replaced d (16 * i) b m)) (sym (then_at step.block step.covered)) (put_taken d i b lies v p is_held under), refl),
    ),
  )

  flush_on : (d : List ℕ) (v : Values) → StandsFor old (On d) → IsUnder p d v → (out : WriteOut) → WriteCause old new (16 * i) 16 out
      → WriteStep new after (On d) (16 * i) 16 b out → FlushContents (StandsCached after (left_at out k p)) (Has v) out
  flush_on d v stands under writes.Good cause step =
      let lies : LiesIn d (16 * i) 16 b = lies_in d stands in
      let count = one_covered i in
      let end : block_with (16 * i) + blocks_covered (16 * i) 16 ≡ i + 1 = omega (arith, count) in (
        replaced d (16 * i) b (i + 1),
        subst (λ (m : ℕ). after (On (replaced d (16 * i) b m))) end step,
        subst (λ (l : List (ℕ × List ℕ)). IsUnder l (replaced d (16 * i) b (i + 1)) v) (but_removed p k apart there) (flushed_under d i b lies v p is_held under),
      )
  flush_on d v stands under writes.NotFormatted cause step = absurd (cause.unformatted (formatted_by old.shape old.lists i inside))
  flush_on d v stands under (writes.Range known) cause step = let past = cause.past in absurd (omega (arith, past, inside))
  flush_on d v stands under (writes.Unread named block) cause step = absurd (not_partly i (length cause.course) (buffered old) cause.is_named.covered cause.partly)
  flush_on d v stands under (writes.NoSpare named) cause step = stays d v (block_with named) (named_is i named (length cause.course) cause.is_named) under step
  flush_on d v stands under (writes.NoUpdate counter) cause step = stays d v (block_with (16 * i) + step.block) (first_at step.block step.covered) under step.before
  flush_on d v stands under writes.Cut cause step = stopped d v (lies_in d stands) under step
  flush_on d v stands under writes.Off cause step = absurd step
  flush_on d v stands under writes.Fault cause step = stopped d v (lies_in d stands) under step

  -- by the list that is left
  pub flush_step : (number : ℕ) (left : List (ℕ × List ℕ)) (out : WriteOut) → number ≡ i → left ≡ left_at out k p → WriteCause old new (16 * number) 16 out
      → ((t : Standing) → before t → WriteStep new after t (16 * number) 16 b out) → (s : Contents) → StandsCached before p s → FlushContents (StandsCached after left) s out
  flush_step number left out is e cause step (Has v) (d, so, under) =
      subst (λ (l : List (ℕ × List ℕ)). FlushContents (StandsCached after l) (Has v) out) (sym e)
      (flush_on d v (shown (On d) so) under out (subst (λ (n : ℕ). WriteCause old new (16 * n) 16 out) is cause)
      (subst (λ (n : ℕ). WriteStep new after (On d) (16 * n) 16 b out) is (step (On d) so)))
  flush_step number left out is e cause step (MayHave all) (ds, so, taken) = absurd ((shown (Off ds) so).1 on)

-- A good write, after which the disc changed to one that stands for all that it stood for.
pub good_stays : (before after : Standing → Type 0) (left : List (ℕ × List ℕ)) (out : WriteOut) → ((t : Standing) → before t → after t) → out ≡ writes.Good
    → (s : Contents) → FlushContents (StandsCached before left) s out → FlushContents (StandsCached after left) s out
good_stays before after left out same is s did =
    subst (FlushContents (StandsCached after left) s) (sym is) (moved s (subst (FlushContents (StandsCached before left) s) is did))
  where
    moved : (s : Contents) → FlushContents (StandsCached before left) s writes.Good → FlushContents (StandsCached after left) s writes.Good
    moved (Has v) (d, stands, under) = (d, same (On d) stands, under)
    moved (MayHave all) none = none

-- ---- what is left

pub left_default : (out : WriteOut) (k : ℕ) (p : List (ℕ × List ℕ)) → out ≢ writes.Good → out ≢ writes.Cut → out ≢ writes.Fault → remove p k ++ pending_at p k ∷ [] ≡ left_at out k p
left_default writes.Good k p a b c = absurd (a refl)
left_default writes.Cut k p a b c = absurd (b refl)
left_default writes.Fault k p a b c = absurd (c refl)
left_default writes.NotFormatted k p a b c = refl
left_default (writes.Range known) k p a b c = refl
left_default (writes.Unread named block) k p a b c = refl
left_default (writes.NoSpare named) k p a b c = refl
left_default (writes.NoUpdate counter) k p a b c = refl
left_default writes.Off k p a b c = refl

pub left_stopped : (out : WriteOut) (k : ℕ) (p : List (ℕ × List ℕ)) → (out ≡ writes.Cut) ⊎ (out ≡ writes.Fault) → [] ≡ left_at out k p
left_stopped out k p (inl e) = ap (λ o. left_at o k p) (sym e)
left_stopped out k p (inr e) = ap (λ o. left_at o k p) (sym e)

pub flush_rule : (old new : Shown) (p : List (ℕ × List ℕ)) (k number : ℕ) (out : WriteOut) → number ≡ (pending_at p k).0 → LeavesSound old new → WriteCause old new (16 * number) 16 out
    → WriteCause old new (16 * (pending_at p k).0) 16 out × LeavesSound old new
flush_rule old new p k number out is leaves cause = (subst (λ (n : ℕ). WriteCause old new (16 * n) 16 out) is cause, leaves)
