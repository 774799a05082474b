-- The blocks that a request covers, and the blocks of a buffer.
use Rattle.std.proofs.Common.{◌≡◌, ℕ, zero, suc, ◌+◌, ◌-◌, ◌*◌, ◌<◌, ◌≤◌, ◌⊎◌, inl, inr, List, [], ◌∷◌, length, take, refl, sym, ◌∙◌, ap, subst, arith}
use Rattle.std.specs.Prelude.{◌/◌, ◌==◌, ◌||◌, if◌then◌else◌, cond, not, Bool, true, false, IsTrue, Option, Some, None}
use Rattle.std.specs.Option.{option_map, is_some}
use Rattle.std.specs.List.{filter, find, list_any}
use Rattle.std.proofs.lemmas.Bool.{cases_eq, cases_Bool, both_ways, ltb-false, eqb-true, eq-eqb, ne_eqb, cond-true, cond-false, or_cases, or_left, or_right, not_from_false, false_from_ne_true}
use Rattle.std.proofs.lemmas.List.{take_all, length-take}
use Rattle.model_buffer.specs.Buffer.{bytes_at, numbers_in, touched_one}
use Rattle.model_buffer.specs.declared.TheConstants.{BUFFERED_BLOCKS}
use Rattle.model_sectors.specs.Discs.{replaced}
use Rattle.model_sectors.specs.Requests.{block_with, blocks_covered, start_in, end_in, is_partly, HoldsSector}
use Rattle.model_sectors.specs.Uses.{touched_from, is_buffered, is_at_hand, read_uses}
use Rattle.model_sectors.proofs.Pieces.{replaced_none}

-- a request for something covers the blocks from its first sector's to its last one's
pub covers_some : (lba n : ℕ) → 0 < n → blocks_covered lba n ≡ (lba + n - 1) / 16 + 1 - lba / 16
covers_some lba n some = cond-false (n == 0) 0 ((lba + n - 1) / 16 + 1 - lba / 16) (ne_eqb n 0 (λ e. omega arith))

-- a request that covers a block is for something
pub some_covered : (lba n k : ℕ) → k < blocks_covered lba n → 0 < n
some_covered lba n k covered = elim (cases_eq n 0) [
  | inl e ↦ absurd (none (subst (λ (m : ℕ). k < blocks_covered lba m) e covered))
  | inr ne ↦ omega arith
]
  where
    none : k < 0 → ⊥
    none h = omega arith

-- the block of the first sector begins at it or before it
pub block_with_before : (lba : ℕ) → 16 * block_with lba ≤ lba
block_with_before lba = omega arith

-- a covered block begins before the end of the request
pub covered_before : (lba n k : ℕ) → k < blocks_covered lba n → 16 * (block_with lba + k) < lba + n
covered_before lba n k covered =
    let some = some_covered lba n k covered in
    let count = covers_some lba n some in
    let within : k < (lba + n - 1) / 16 + 1 - lba / 16 = omega arith in
    omega arith

-- a covered block ends behind the start of the request
pub covered_after : (lba n k : ℕ) → k < blocks_covered lba n → lba < 16 * (block_with lba + k) + 16
covered_after lba n k covered = omega arith

-- some of the request lies in a covered block
pub covered_part : (lba n k : ℕ) → k < blocks_covered lba n → start_in lba (block_with lba + k) < end_in lba n (block_with lba + k)
covered_part lba n k covered =
    let some = some_covered lba n k covered in
    let before = covered_before lba n k covered in
    let after = covered_after lba n k covered in
    omega arith

-- the request ends where the covered blocks do, or before
pub covered_all : (lba n : ℕ) → 0 < n → lba + n ≤ 16 * (block_with lba + blocks_covered lba n)
covered_all lba n some =
    let count = covers_some lba n some in
    omega arith

-- a covered block is a block of the disc, if the request's sectors are the disc's
pub covered_inside : (lba n k blocks : ℕ) → lba + n ≤ 16 * blocks → k < blocks_covered lba n → block_with lba + k < blocks
covered_inside lba n k blocks inside covered =
    let before = covered_before lba n k covered in omega arith

-- the first sector of the request in a covered block lies in it
pub block_with_start : (lba n k : ℕ) → k < blocks_covered lba n → block_with (start_in lba (block_with lba + k)) ≡ block_with lba + k
block_with_start lba n k covered =
    let after = covered_after lba n k covered in omega arith

-- and is a sector of the request
pub covered_holds : (lba n k : ℕ) → k < blocks_covered lba n → HoldsSector lba n (block_with lba + k)
covered_holds lba n k covered =
    let some = covered_part lba n k covered in
    (start_in lba (block_with lba + k), omega arith, omega arith, block_with_start lba n k covered)

-- a block that is not covered in part begins and ends in the request
pub wholly_start : (lba n block : ℕ) → ¬ IsTrue (is_partly lba n block) → start_in lba block ≡ 16 * block
wholly_start lba n block whole =
    let all : 16 ≤ end_in lba n block - start_in lba block = ltb-false (end_in lba n block - start_in lba block) 16 (false_from_ne_true (is_partly lba n block) whole) in
    omega arith

-- and it ends in the request too
pub wholly_end : (lba n block : ℕ) → ¬ IsTrue (is_partly lba n block) → end_in lba n block ≡ 16 * block + 16
wholly_end lba n block whole =
    let all : 16 ≤ end_in lba n block - start_in lba block = ltb-false (end_in lba n block - start_in lba block) 16 (false_from_ne_true (is_partly lba n block) whole) in
    omega arith

-- an element that passes a test among the first ones is one of all
pub list_any-take : {X : Type 0} (p : X → Bool) (n : ℕ) (xs : List X) → list_any p (take n xs) ≡ true → list_any p xs ≡ true
list_any-take p zero xs h = absurd (both_ways false refl h)
list_any-take p (suc n) [] h = h
list_any-take p (suc n) (x ∷ xs) h = elim (or_cases (p x) (list_any p (take n xs)) h) [
  | inl first ↦ or_left (p x) (list_any p xs) first
  | inr later ↦ or_right (p x) (list_any p xs) (list_any-take p n xs later)
]

-- an element that passes a test among those that pass another is one of all
pub list_any-filter : {X : Type 0} (p q : X → Bool) (xs : List X) → list_any p (filter q xs) ≡ true → list_any p xs ≡ true
list_any-filter p q [] h = h
list_any-filter p q (x ∷ xs) h = elim (cases_Bool (q x)) [
  | inl passes ↦ elim (or_cases (p x) (list_any p (filter q xs)) (sym (ap (list_any p) (cond-true (q x) (x ∷ filter q xs) (filter q xs) passes)) ∙ h)) [
    | inl first ↦ or_left (p x) (list_any p xs) first
    | inr later ↦ or_right (p x) (list_any p xs) (list_any-filter p q xs later)
  ]
  | inr fails ↦ or_right (p x) (list_any p xs) (list_any-filter p q xs (sym (ap (list_any p) (cond-false (q x) (x ∷ filter q xs) (filter q xs) fails)) ∙ h))
]

-- an element that passes a test and another is one of those that pass the other
pub list_any-kept : {X : Type 0} (p q : X → Bool) (xs : List X) → ((x : X) → p x ≡ true → q x ≡ true) → list_any p xs ≡ true → list_any p (filter q xs) ≡ true
list_any-kept p q [] both h = h
list_any-kept p q (x ∷ xs) both h = elim (cases_Bool (q x)) [
  | inl passes ↦ ap (list_any p) (cond-true (q x) (x ∷ filter q xs) (filter q xs) passes)
      ∙ elim (or_cases (p x) (list_any p xs) h) [
        | inl first ↦ or_left (p x) (list_any p (filter q xs)) first
        | inr later ↦ or_right (p x) (list_any p (filter q xs)) (list_any-kept p q xs both later)
      ]
  | inr fails ↦ ap (list_any p) (cond-false (q x) (x ∷ filter q xs) (filter q xs) fails)
      ∙ elim (or_cases (p x) (list_any p xs) h) [
        | inl first ↦ absurd (both_ways (q x) fails (both x first))
        | inr later ↦ list_any-kept p q xs both later
      ]
]

-- a filter makes no list longer
pub length-filter-le : {X : Type 0} (q : X → Bool) (xs : List X) → length (filter q xs) ≤ length xs
length-filter-le q [] = omega arith
length-filter-le q (x ∷ xs) =
    let later : length (filter q xs) ≤ length xs = length-filter-le q xs in
    elim (cases_Bool (q x)) [
      | inl passes ↦ let here = ap length (cond-true (q x) (x ∷ filter q xs) (filter q xs) passes) in omega arith
      | inr fails ↦ let here = ap length (cond-false (q x) (x ∷ filter q xs) (filter q xs) fails) in omega arith
    ]

-- a filter that some element fails makes the list shorter
pub length-filter-lt : {X : Type 0} (p q : X → Bool) (xs : List X) → ((x : X) → p x ≡ true → q x ≡ false) → list_any p xs ≡ true → length (filter q xs) < length xs
length-filter-lt p q [] fails h = absurd (both_ways false refl h)
length-filter-lt p q (x ∷ xs) fails h =
    elim (cases_Bool (q x)) [
      | inl passes ↦
          let here = ap length (cond-true (q x) (x ∷ filter q xs) (filter q xs) passes) in
          elim (or_cases (p x) (list_any p xs) h) [
            | inl first ↦ absurd (both_ways (q x) (fails x first) passes)
            | inr later ↦ let rest : length (filter q xs) < length xs = length-filter-lt p q xs fails later in omega arith
          ]
      | inr other ↦
          let here = ap length (cond-false (q x) (x ∷ filter q xs) (filter q xs) other) in
          let rest : length (filter q xs) ≤ length xs = length-filter-le q xs in
          omega arith
    ]

-- what is buffered after a use of a block is that block or was buffered before
pub buffered_in_room : (room : ℕ) (b : List ℕ) (i j : ℕ) → IsTrue (is_buffered (take room (i ∷ filter (λ other. not (other == i)) b)) j) → (j ≡ i) ⊎ IsTrue (is_buffered b j)
buffered_in_room room b i j h =
    elim (or_cases (i == j) (is_buffered (filter (λ other. not (other == i)) b) j) (list_any-take (λ other. other == j) room (i ∷ filter (λ other. not (other == i)) b) h)) [
      | inl same ↦ inl (sym (eqb-true i j same))
      | inr later ↦ inr (list_any-filter (λ other. other == j) (λ other. not (other == i)) b later)
    ]

-- the same of a buffer with its own room
pub buffered_after_use : (b : List ℕ) (i j : ℕ) → IsTrue (is_buffered (touched_one b i) j) → (j ≡ i) ⊎ IsTrue (is_buffered b j)
buffered_after_use b i j h = buffered_in_room BUFFERED_BLOCKS b i j h

-- what is buffered after uses of k blocks is one of them or was buffered before
pub buffered_after_uses : (b : List ℕ) (first k j : ℕ) → first + k ≤ j → IsTrue (is_buffered (touched_from b first k) j) → IsTrue (is_buffered b j)
buffered_after_uses b first zero j past h = h
buffered_after_uses b first (suc k) j past h = elim (buffered_after_use (touched_from b first k) (first + k) j h) [
  | inl same ↦ absurd (omega arith)
  | inr before ↦ buffered_after_uses b first k j (omega arith) before
]

-- a block that is at hand when its turn comes was buffered before
pub at_hand_was_buffered : (b : List ℕ) (first k : ℕ) → IsTrue (is_at_hand b first k) → IsTrue (is_buffered b (first + k))
at_hand_was_buffered b first k h = buffered_after_uses b first k (first + k) (omega arith) h

-- after a use of a buffered block the same blocks are buffered, and no more of them
pub record StaysBuffered (room : ℕ) (before after : List ℕ) : Type 0 where
  pub few : length after ≤ room
  pub kept : (j : ℕ) → IsTrue (is_buffered before j) → IsTrue (is_buffered after j)

-- a use of a buffered block is such a step, in any room
pub use_in_room : (room : ℕ) (b : List ℕ) (i : ℕ) → length b ≤ room → IsTrue (is_buffered b i) → StaysBuffered room b (take room (i ∷ filter (λ other. not (other == i)) b))
use_in_room room b i few here = record {
  few = few_left;
  kept = λ j h. (ap (λ (l : List ℕ). is_buffered l j) whole ∙ moved j h);
}
  where
    few_left : length (take room (i ∷ filter (λ other. not (other == i)) b)) ≤ room
    few_left = omega (arith, length-take room (i ∷ filter (λ other. not (other == i)) b))

    shorter : length (filter (λ other. not (other == i)) b) < length b
    shorter = length-filter-lt (λ other. other == i) (λ other. not (other == i)) b (λ x same. ap not same) here

    whole : take room (i ∷ filter (λ other. not (other == i)) b) ≡ i ∷ filter (λ other. not (other == i)) b
    whole = let less = shorter in take_all room (i ∷ filter (λ other. not (other == i)) b) (omega arith)

    moved : (j : ℕ) → IsTrue (is_buffered b j) → IsTrue (is_buffered (i ∷ filter (λ other. not (other == i)) b) j)
    moved j h = elim (cases_eq i j) [
      | inl e ↦ or_left (i == j) (is_buffered (filter (λ other. not (other == i)) b) j) (eq-eqb i j e)
      | inr ne ↦ or_right (i == j) (is_buffered (filter (λ other. not (other == i)) b) j)
          (list_any-kept (λ other. other == j) (λ other. not (other == i)) b (λ x e. not_from_false (x == i) (ne_eqb x i (λ d. ne (sym d ∙ eqb-true x j e)))) h)
    ]

-- the same of a buffer with its own room
pub use_stays_buffered : (b : List ℕ) (i : ℕ) → length b ≤ BUFFERED_BLOCKS → IsTrue (is_buffered b i) → StaysBuffered BUFFERED_BLOCKS b (touched_one b i)
use_stays_buffered b i few here = use_in_room BUFFERED_BLOCKS b i few here

-- after uses of buffered blocks the same blocks are buffered, and no more of them
pub uses_stay_buffered : (b : List ℕ) (first count k : ℕ) → ((j : ℕ) → j < count → IsTrue (is_buffered b (first + j))) → length b ≤ BUFFERED_BLOCKS → k ≤ count
    → StaysBuffered BUFFERED_BLOCKS b (touched_from b first k)
uses_stay_buffered b first count zero all few within = record { few = few; kept = λ j h. h }
uses_stay_buffered b first count (suc k) all few within =
    let so_far : StaysBuffered BUFFERED_BLOCKS b (touched_from b first k) = uses_stay_buffered b first count k all few (omega arith) in
    let one : StaysBuffered BUFFERED_BLOCKS (touched_from b first k) (touched_one (touched_from b first k) (first + k)) =
    use_stays_buffered (touched_from b first k) (first + k) so_far.few (so_far.kept (first + k) (all k (omega arith))) in
    record { few = one.few; kept = λ j h. one.kept j (so_far.kept j h) }

-- blocks that are all buffered are at hand when their turn comes
pub all_at_hand : (b : List ℕ) (first count : ℕ) → ((k : ℕ) → k < count → IsTrue (is_buffered b (first + k))) → length b ≤ BUFFERED_BLOCKS
    → (k : ℕ) → k < count → IsTrue (is_at_hand b first k)
all_at_hand b first count all few k h = (uses_stay_buffered b first count k all few (omega arith)).kept (first + k) (all k h)

-- a sum of nothing and nothing
none_in_sum : (a b : ℕ) → a ≡ 0 → b ≡ 0 → a + b ≡ 0
none_in_sum a b p q = omega arith

-- a read of blocks that are at hand takes no use
pub no_uses_at_hand : (b : List ℕ) (first count k : ℕ) → ((j : ℕ) → j < count → IsTrue (is_at_hand b first j)) → k ≤ count → read_uses b first k ≡ 0
no_uses_at_hand b first count zero all within = refl
no_uses_at_hand b first count (suc k) all within =
    none_in_sum (read_uses b first k) (if is_at_hand b first k then 0 else 1) (no_uses_at_hand b first count k all (omega arith)) (cond-true (is_at_hand b first k) 0 1 (all k (omega arith)))

-- a read of blocks that are all buffered takes no use
pub no_uses_buffered : (b : List ℕ) (first count : ℕ) → ((k : ℕ) → k < count → IsTrue (is_buffered b (first + k))) → length b ≤ BUFFERED_BLOCKS → read_uses b first count ≡ 0
no_uses_buffered b first count all few = no_uses_at_hand b first count count (λ j h. all_at_hand b first count all few j h) (omega arith)

-- one more of a buffer, found or not
found_step : {X : Type 0} (b : Bool) (x : X) (o : Option X) (r : Bool) → is_some o ≡ r → is_some (cond b (Some x) o) ≡ (b || r)
found_step true x o r h = refl
found_step false x o r h = h

-- a block is found in a buffer where its number is there
pub is_some-found : (i : ℕ) (buffer : List (ℕ × List ℕ)) → is_some (find (λ held. held.0 == i) buffer) ≡ is_buffered (numbers_in buffer) i
is_some-found i [] = refl
is_some-found i (x ∷ xs) = found_step (x.0 == i) x (find (λ held. held.0 == i) xs) (is_buffered (numbers_in xs) i) (is_some-found i xs)

-- nothing is not something
none_is_not_some : {X : Type 0} {x : X} → None ≡ Some x → ⊥
none_is_not_some h = cc

-- the same something is the same inside
same_in_some : {X : Type 0} {x y : X} → Some x ≡ Some y → x ≡ y
same_in_some h = cc

-- what was something after a change was something before
some_mapped : {X Y : Type 0} (f : X → Y) (o : Option X) (y : Y) → option_map f o ≡ Some y → (x : X) × (o ≡ Some x) × (f x ≡ y)
some_mapped f None y h = absurd (none_is_not_some h)
some_mapped f (Some x) y h = (x, refl, same_in_some h)

-- what was nothing after a change was nothing before
none_mapped : {X Y : Type 0} (f : X → Y) (o : Option X) → option_map f o ≡ None → o ≡ None
none_mapped f None h = refl
none_mapped f (Some x) h = absurd (none_is_not_some (sym h))

-- a block whose bytes the buffer has is buffered
pub bytes_at_some : (i : ℕ) (buffer : List (ℕ × List ℕ)) (bytes : List ℕ) → bytes_at i buffer ≡ Some bytes → IsTrue (is_buffered (numbers_in buffer) i)
bytes_at_some i buffer bytes h =
    let found = some_mapped (λ (held : ℕ × List ℕ). held.1) (find (λ held. held.0 == i) buffer) bytes h in
    sym (is_some-found i buffer) ∙ ap is_some found.1

-- a block whose bytes the buffer has not is not buffered
pub bytes_at_none : (i : ℕ) (buffer : List (ℕ × List ℕ)) → bytes_at i buffer ≡ None → ¬ IsTrue (is_buffered (numbers_in buffer) i)
bytes_at_none i buffer h = λ here. both_ways (is_buffered (numbers_in buffer) i)
    (sym (is_some-found i buffer) ∙ ap is_some (none_mapped (λ (held : ℕ × List ℕ). held.1) (find (λ held. held.0 == i) buffer) h)) here

-- before the first covered block nothing is replaced
pub replaced_first : (d : List ℕ) (lba : ℕ) (bytes : List ℕ) → replaced d lba bytes (block_with lba) ≡ d
replaced_first d lba bytes = replaced_none d lba bytes (block_with lba) (block_with_before lba)
