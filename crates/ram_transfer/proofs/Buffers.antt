-- The blocks that a buffer has after a use of one, and those of a disc.
use Rattle.std.proofs.Common.{◌≡◌, ◌≢◌, ℕ, zero, suc, ◌<◌, ◌⊎◌, inl, inr, Bool, true, false, IsTrue, Some, None, List, [], ◌∷◌, take, sym, ap, ◌∙◌, subst, arith, refl}
use Rattle.std.specs.Prelude.{◌==◌, not, cond}
use Rattle.std.specs.Option.{option_map}
use Rattle.std.specs.List.{Contains, filter, find}
use Rattle.std.proofs.lemmas.Bool.{cases_Bool, cond-true, cond-false, eqb-true, eq-eqb}
use Rattle.std.proofs.lemmas.List.{take-take}
use Rattle.model_buffer.specs.Buffer.{bytes_at, with_newest}
use Rattle.model_buffer.specs.declared.TheConstants.{BUFFERED_BLOCKS}
use Rattle.model_buffer.proofs.Touched.{filter-take}
use Rattle.model_sectors.specs.Discs.{block_of}
use Rattle.model_pools.proofs.Replacements.{Contains-first, Contains-later}
use Rattle.model_drive.specs.Shown.{HoldsBlocksOf}

-- an element is the first, or one of the others
contains_cases : {X : Type 0} (y : X) (ys : List X) (x : X) → Contains (y ∷ ys) x → (x ≡ y) ⊎ Contains ys x
contains_cases y ys x (zero, within, is) = inl (sym is)
contains_cases y ys x (suc k, within, is) = inr (k, omega arith, is)

none_contained : {X : Type 0} (x : X) → ¬ Contains [] x
none_contained x (k, within, is) = omega arith

-- an element of the first ones is one of all
contains_taken : {X : Type 0} (n : ℕ) (xs : List X) (x : X) → Contains (take n xs) x → Contains xs x
contains_taken zero xs x has = absurd (none_contained x has)
contains_taken (suc n) [] x has = has
contains_taken (suc n) (y ∷ ys) x has = elim (contains_cases y (take n ys) x has) [
  | inl same ↦ subst (Contains (y ∷ ys)) (sym same) (Contains-first y ys)
  | inr later ↦ Contains-later y ys x (contains_taken n ys x later)
]

-- and so is one of those that pass a test
contains_kept : {X : Type 0} (p : X → Bool) (xs : List X) (x : X) → Contains (filter p xs) x → Contains xs x
contains_kept p [] x has = has
contains_kept p (y ∷ ys) x has = elim (cases_Bool (p y)) [
  | inl passes ↦ elim (contains_cases y (filter p ys) x (subst (λ l. Contains l x) (cond-true (p y) (y ∷ filter p ys) (filter p ys) passes) has)) [
    | inl same ↦ subst (Contains (y ∷ ys)) (sym same) (Contains-first y ys)
    | inr later ↦ Contains-later y ys x (contains_kept p ys x later)
  ]
  | inr fails ↦ Contains-later y ys x (contains_kept p ys x (subst (λ l. Contains l x) (cond-false (p y) (y ∷ filter p ys) (filter p ys) fails) has))
]

pub same_in_some : {X : Type 0} {x y : X} → Some x ≡ Some y → x ≡ y
same_in_some h = cc

-- what the buffer has for a number is one of its blocks
contains_found : (i : ℕ) (buffer : List (ℕ × List ℕ)) (bytes : List ℕ) → bytes_at i buffer ≡ Some bytes → Contains buffer (i, bytes)
contains_found i [] bytes h = absurd (let e : None ≡ Some bytes = h in cc)
contains_found i (x ∷ xs) bytes h = elim (cases_Bool (x.0 == i)) [
  | inl here ↦
      let first : option_map (λ (held : ℕ × List ℕ). held.1) (cond (x.0 == i) (Some x) (find (λ held. held.0 == i) xs)) ≡ Some x.1 =
      ap (option_map (λ (held : ℕ × List ℕ). held.1)) (cond-true (x.0 == i) (Some x) (find (λ held. held.0 == i) xs) here) in
      let same : x.1 ≡ bytes = same_in_some (sym first ∙ h) in
      subst (λ (b : List ℕ). Contains (x ∷ xs) (i, b)) same (subst (λ (j : ℕ). Contains (x ∷ xs) (j, x.1)) (eqb-true x.0 i here) (Contains-first x xs))
  | inr other ↦ Contains-later x xs (i, bytes)
      (contains_found i xs bytes (sym (ap (option_map (λ (held : ℕ × List ℕ). held.1)) (cond-false (x.0 == i) (Some x) (find (λ held. held.0 == i) xs) other)) ∙ h))
]

-- what a buffer of a disc's blocks has for a number is that block of the disc
pub holds_found : (disc : List ℕ) (i : ℕ) (buffer : List (ℕ × List ℕ)) (bytes : List ℕ) → HoldsBlocksOf disc buffer → bytes_at i buffer ≡ Some bytes → bytes ≡ block_of disc i
holds_found disc i buffer bytes holds found = holds i bytes (contains_found i buffer bytes found)

holds_in_room : (room : ℕ) (disc : List ℕ) (i : ℕ) (bytes : List ℕ) (buffer : List (ℕ × List ℕ)) → bytes ≡ block_of disc i → HoldsBlocksOf disc buffer
    → HoldsBlocksOf disc (take room ((i, bytes) ∷ filter (λ held. not (held.0 == i)) buffer))
holds_in_room room disc i bytes buffer is holds j found has =
    elim (contains_cases (i, bytes) (filter (λ held. not (held.0 == i)) buffer) (j, found) (contains_taken room ((i, bytes) ∷ filter (λ held. not (held.0 == i)) buffer) (j, found) has)) [
      | inl same ↦ ap (λ (p : ℕ × List ℕ). p.1) same ∙ is ∙ ap (λ (p : ℕ × List ℕ). block_of disc p.0) (sym same)
      | inr later ↦ holds j found (contains_kept (λ held. not (held.0 == i)) buffer (j, found) later)
    ]

-- after a use of a block of the disc a buffer has blocks of the disc still
pub holds_newest : (disc : List ℕ) (i : ℕ) (bytes : List ℕ) (buffer : List (ℕ × List ℕ)) → bytes ≡ block_of disc i → HoldsBlocksOf disc buffer → HoldsBlocksOf disc (with_newest i bytes buffer)
holds_newest disc i bytes buffer is holds = holds_in_room BUFFERED_BLOCKS disc i bytes buffer is holds

-- those that pass a test pass it
contains_passes : {X : Type 0} (p : X → Bool) (xs : List X) (x : X) → Contains (filter p xs) x → IsTrue (p x)
contains_passes p [] x has = absurd (none_contained x has)
contains_passes p (y ∷ ys) x has = elim (cases_Bool (p y)) [
  | inl passes ↦ elim (contains_cases y (filter p ys) x (subst (λ l. Contains l x) (cond-true (p y) (y ∷ filter p ys) (filter p ys) passes) has)) [
    | inl same ↦ subst (λ z. IsTrue (p z)) (sym same) passes
    | inr later ↦ contains_passes p ys x later
  ]
  | inr fails ↦ contains_passes p ys x (subst (λ l. Contains l x) (cond-false (p y) (y ∷ filter p ys) (filter p ys) fails) has)
]

apart_by : (p : Bool) → p ≡ true → ¬ IsTrue (not p)
apart_by true is h = let e : false ≡ true = h in cc
apart_by false is h = cc

not_same : (j i : ℕ) → IsTrue (not (j == i)) → j ≢ i
not_same j i passes same = apart_by (j == i) (eq-eqb j i same) passes

put_in_room : (room : ℕ) (disc disc' : List ℕ) (i : ℕ) (bytes : List ℕ) (buffer : List (ℕ × List ℕ)) → bytes ≡ block_of disc' i → ((j : ℕ) → j ≢ i → block_of disc' j ≡ block_of disc j) → HoldsBlocksOf disc buffer
    → HoldsBlocksOf disc' (take room ((i, bytes) ∷ filter (λ held. not (held.0 == i)) buffer))
put_in_room room disc disc' i bytes buffer is others holds j found has =
    elim (contains_cases (i, bytes) (filter (λ held. not (held.0 == i)) buffer) (j, found) (contains_taken room ((i, bytes) ∷ filter (λ held. not (held.0 == i)) buffer) (j, found) has)) [
      | inl same ↦ ap (λ (p : ℕ × List ℕ). p.1) same ∙ is ∙ ap (λ (p : ℕ × List ℕ). block_of disc' p.0) (sym same)
      | inr later ↦ holds j found (contains_kept (λ held. not (held.0 == i)) buffer (j, found) later)
          ∙ sym (others j (not_same j i (contains_passes (λ (held : ℕ × List ℕ). not (held.0 == i)) buffer (j, found) later)))
    ]

-- where a block of the disc was replaced, a buffer that has its bytes now as the newest has blocks of the disc still
pub holds_put : (disc disc' : List ℕ) (i : ℕ) (bytes : List ℕ) (buffer : List (ℕ × List ℕ)) → bytes ≡ block_of disc' i → ((j : ℕ) → j ≢ i → block_of disc' j ≡ block_of disc j) → HoldsBlocksOf disc buffer
    → HoldsBlocksOf disc' (with_newest i bytes buffer)
holds_put disc disc' i bytes buffer is others holds = put_in_room BUFFERED_BLOCKS disc disc' i bytes buffer is others holds

newest_twice_in_room : (room i : ℕ) (bytes : List ℕ) (buffer : List (ℕ × List ℕ))
    → take room ((i, bytes) ∷ filter (λ held. not (held.0 == i)) (take room ((i, bytes) ∷ filter (λ held. not (held.0 == i)) buffer))) ≡ take room ((i, bytes) ∷ filter (λ held. not (held.0 == i)) buffer)
newest_twice_in_room zero i bytes buffer = refl
newest_twice_in_room (suc room) i bytes buffer =
    let p : (ℕ × List ℕ) → Bool = λ held. not (held.0 == i) in
    let out : p (i, bytes) ≡ false = ap not (eq-eqb i i refl) in
    ap (λ l. (i, bytes) ∷ take room l) (cond-false (p (i, bytes)) ((i, bytes) ∷ filter p (take room (filter p buffer))) (filter p (take room (filter p buffer))) out ∙ filter-take p room buffer)
    ∙ ap (λ l. (i, bytes) ∷ l) (take-take room room (filter p buffer) (omega arith))

-- a block that is used twice in a row is buffered as if it were used once
pub newest_twice : (i : ℕ) (bytes : List ℕ) (buffer : List (ℕ × List ℕ)) → with_newest i bytes (with_newest i bytes buffer) ≡ with_newest i bytes buffer
newest_twice i bytes buffer = newest_twice_in_room BUFFERED_BLOCKS i bytes buffer

-- the block that was used last is there, in any room
used_in_room : (room i : ℕ) (bytes : List ℕ) (buffer : List (ℕ × List ℕ)) → 0 < room → bytes_at i (take room ((i, bytes) ∷ filter (λ held. not (held.0 == i)) buffer)) ≡ Some bytes
used_in_room zero i bytes buffer some = absurd (omega arith)
used_in_room (suc room) i bytes buffer some =
    ap (option_map (λ (held : ℕ × List ℕ). held.1))
    (cond-true (i == i) (Some (i, bytes)) (find (λ held. held.0 == i) (take room (filter (λ held. not (held.0 == i)) buffer))) (eq-eqb i i refl))

-- the buffer has the bytes of the block that was used last
pub bytes_at_used : (i : ℕ) (bytes : List ℕ) (buffer : List (ℕ × List ℕ)) → bytes_at i (with_newest i bytes buffer) ≡ Some bytes
bytes_at_used i bytes buffer = used_in_room BUFFERED_BLOCKS i bytes buffer (omega arith)
