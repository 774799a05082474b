-- The replacements of a list, sorted and found by halving; the first free spare of a pool; the cursors, one pool after another.
use Rattle.std.proofs.Common.{◌≡◌, ℕ, ◌+◌, ◌<◌, ◌≤◌, inl, inr, Bool, true, false, List, [], ◌∷◌, ◌++◌, append_assoc, length, get_or, drop, drop_of_length-le, eqb, Option, Some, None, Result, Ok, Err, refl, sym, ap, ◌∙◌, arith}
use Rattle.std.specs.Prelude.{is_ok, slice_get, slice_index, slice_set}
use Rattle.std.specs.List.{Contains, cons_option, position_or_len}
use Rattle.std.specs.List.Sorted.{IsNonDecreasing, IsBinarySearchResult}
use Rattle.std.specs.Ordering.{nat_cmp}
use Rattle.std.proofs.lemmas.Bool.{cases_lt, true≢false}
use Rattle.std.proofs.lemmas.Grind.{get_or_default_zero}
use Rattle.std.proofs.lemmas.List.{append-nil, length-append, length-set, get_or-set_same, get_or-set_other}
use Rattle.std.proofs.lemmas.List.Sorted.{searched, list_any-IsPermutation}
use Rattle.std.proofs.lemmas.List.Sums.{position_or_len_is, fails_before_first}
use Rattle.std.proofs.lemmas.Option.{slice_get-get_or, slice_get_within, get_or_from_slice_get}
use Rattle.model_lists.specs.declared.sdl.SdlEntry.{SdlEntry}
use Rattle.model_pools.specs.Listed.{is_listed, replacements}
use Rattle.model_pools.specs.Pools.{Pool, spares_at, is_unnamed, CursorsFit}
use Rattle.ram_spare.specs.Turns.{AreUsed, AreSortedReplacements, first_free_turn, AreAtFirstFree}
use Rattle.ram_spare.proofs.Naming.{listed_by, from_here}
use Rattle.ram_spare.proofs.Walks.{used_more, past_none}

-- ---- the replacements, one entry after another

-- those of the first k entries are there
pub record HasPut (entries : List SdlEntry) (k : ℕ) (blocks : List ℕ) : Type 0 where
  pub so_far : blocks ++ replacements (drop k entries) ≡ replacements entries
  pub few : length blocks ≤ k

module _ (entries : List SdlEntry) (k : ℕ) (blocks : List ℕ) (put : HasPut entries k blocks) where
  module _ (d : SdlEntry) (below : k < length entries) where
    next_is : (replacement : Option ℕ) → (get_or entries k d).replacement ≡ replacement → replacements (drop k entries) ≡ cons_option replacement (replacements (drop (k + 1) entries))
    next_is replacement is = from_here entries k 0 d below ∙ ap (λ (o : Option ℕ). cons_option o (replacements (drop (k + 1) entries))) is

    pub put_one : (spare : ℕ) (now : List ℕ) → (get_or entries k d).replacement ≡ Some spare → now ≡ blocks ++ spare ∷ [] → HasPut entries (k + 1) now
    put_one spare now is then = record {
      so_far = ap (λ (bs : List ℕ). bs ++ replacements (drop (k + 1) entries)) then ∙ append_assoc blocks (spare ∷ []) (replacements (drop (k + 1) entries)) ∙ ap (λ (bs : List ℕ). blocks ++ bs) (sym (next_is (Some spare) is)) ∙ put.so_far;
      few = let before = put.few in omega (arith, before, ap length then, length-append blocks (spare ∷ []));
    }

    pub put_none : (get_or entries k d).replacement ≡ None → HasPut entries (k + 1) blocks
    put_none is = record {
      so_far = ap (λ (bs : List ℕ). blocks ++ bs) (sym (next_is None is)) ∙ put.so_far;
      few = let before = put.few in omega (arith, before);
    }

  pub put_all : length entries ≤ k → blocks ≡ replacements entries
  put_all past = sym (ap (λ (es : List SdlEntry). blocks ++ replacements es) (drop_of_length-le entries past) ∙ append-nil blocks) ∙ put.so_far

-- ---- a block among blocks that rise

-- what a search by halving says of a block
pub found_by : (blocks : List ℕ) (block : ℕ) (found : Result ℕ ℕ) → IsNonDecreasing blocks → IsBinarySearchResult (λ b. nat_cmp b block) blocks found → is_ok found ≡ is_listed blocks block
found_by blocks block (Ok i) rise found =
    let at = searched blocks block (Ok i) found (λ j k from within. rise j k 0 from within) in
    listed_by blocks block true (λ _. (i, at.0, get_or_default_zero blocks i block at.0 ∙ at.1), λ _. refl)
found_by blocks block (Err i) rise found =
    let at = searched blocks block (Err i) found (λ j k from within. rise j k 0 from within) in
    listed_by blocks block false (λ t. absurd (true≢false (sym t)), λ has. absurd (none at has))
  where
    none : (i ≤ length blocks) × ((k : ℕ) → k < i → get_or blocks k 0 < block) × ((k : ℕ) → i ≤ k → k < length blocks → block < get_or blocks k 0) → Contains blocks block → ⊥
    none at (k, within, is) =
        let here : get_or blocks k 0 ≡ block = sym (get_or_default_zero blocks k block within) ∙ is in
        elim (cases_lt k i) [
          | inl less ↦ omega (arith, here, at.1 k less)
          | inr from ↦ omega (arith, here, at.2 k from within)
        ]

-- a replacement is found among those that are sorted
pub sorted_tell : (entries : List SdlEntry) (sorted : List ℕ) (block : ℕ) → AreSortedReplacements entries sorted → is_listed sorted block ≡ is_listed (replacements entries) block
sorted_tell entries sorted block are = sym (list_any-IsPermutation (λ b. eqb b block) (replacements entries) sorted are.all)

-- ---- the first free spare of a pool

-- the spares before this turn, of which there are as many, are used
pub record IsBeforeFirst (is_free : ℕ → Bool) (spares : List ℕ) (turn : ℕ) : Type 0 where
  pub within : turn ≤ length spares
  pub used : AreUsed is_free spares 0 turn

module _ (p : ℕ → Bool) (spares : List ℕ) (turn : ℕ) (before : IsBeforeFirst p spares turn) where
  first_at : (turn < length spares → p (get_or spares turn 0) ≡ true) → turn ≡ position_or_len p spares
  first_at passes =
      let within = before.within in
      sym (position_or_len_is p spares turn 0 within (λ k less. before.used k (get_or spares k 0) (omega arith) less (slice_get-get_or spares k 0 (omega (arith, less, within)))) passes)

  pub first_here : (block : ℕ) → slice_get spares turn ≡ Some block → p block ≡ true → turn ≡ position_or_len p spares
  first_here block at passes = first_at (λ _. ap p (get_or_from_slice_get spares turn block 0 at) ∙ passes)

  pub first_nowhere : length spares ≤ turn → turn ≡ position_or_len p spares
  first_nowhere past = first_at (λ within. absurd (omega (arith, within, past)))

  pub first_none : slice_get spares turn ≡ None → turn ≡ position_or_len p spares
  first_none none = first_nowhere (past_none p spares turn none)

  pub first_later : (block : ℕ) → slice_get spares turn ≡ Some block → p block ≡ false → IsBeforeFirst p spares (turn + 1)
  first_later block at fails = record {
    within = let inside = slice_get_within spares turn block at in omega (arith, inside);
    used = used_more p spares 0 turn block before.used at fails;
  }

-- ---- the cursors, one pool after another

-- those of the first n pools are at their first free spares
pub record AreSet (pools : List Pool) (entries : List SdlEntry) (many count : ℕ) (cursors : List ℕ) : Type 0 where
  pub one_each : length cursors ≡ many
  pub set : (pool : ℕ) → pool < count → slice_index cursors pool ≡ first_free_turn pools entries pool

module _ (pools : List Pool) (entries : List SdlEntry) (many count : ℕ) (cursors : List ℕ) (are : AreSet pools entries many count cursors) where
  pub set_more : (turn : ℕ) (now : List ℕ) → count < many → turn ≡ first_free_turn pools entries count → now ≡ slice_set cursors count turn → AreSet pools entries many (count + 1) now
  set_more turn now below is then = record {
    one_each = ap length then ∙ length-set cursors count turn ∙ are.one_each;
    set = λ pool less. elim (cases_lt pool count) [
      | inl before ↦ ap (λ (cs : List ℕ). slice_index cs pool) then ∙ get_or-set_other cursors count pool turn 0 (λ same. omega (arith, same, before)) ∙ are.set pool before
      | inr from ↦
          (let same : pool ≡ count = omega (arith, less, from) in
          let long = are.one_each in
          ap (λ (cs : List ℕ). slice_index cs pool) then ∙ ap (slice_index (slice_set cursors count turn)) same ∙ get_or-set_same cursors count turn 0 (omega (arith, below, long)) ∙ is ∙ ap (first_free_turn pools entries) (sym same))
    ];
  }

  pub all_set : many ≤ count → AreAtFirstFree pools entries cursors
  all_set past pool within = let long = are.one_each in are.set pool (omega (arith, within, long, past))

-- cursors at the first free spares fit
pub first_free_fit : (pools : List Pool) (entries : List SdlEntry) (cursors : List ℕ) → AreAtFirstFree pools entries cursors → CursorsFit pools entries cursors
first_free_fit pools entries cursors are pool k spare within below at =
    let xs = spares_at pools pool in
    let before : k < position_or_len (is_unnamed entries) xs = omega (arith, below, are pool within) in
    ap (is_unnamed entries) (sym (get_or_from_slice_get xs k spare 0 at)) ∙ fails_before_first (is_unnamed entries) xs k 0 before
