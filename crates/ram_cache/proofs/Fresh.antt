-- The covered blocks that are not pending: how many, and which they are.
use Rattle.std.proofs.Common.{◌≡◌, ℕ, zero, suc, ◌+◌, ◌<◌, ◌≤◌, ◌⊎◌, inl, inr, Bool, true, false, not, ◌&&◌, ◌==◌, List, [], ◌∷◌, ◌++◌, Option, Some, None, length, refl, sym, ap, ◌∙◌, subst, arith, length-append}
use Rattle.std.specs.Prelude.{is_some, cond, if◌then◌else◌, nat_lt}
use Rattle.std.specs.Option.{option_map}
use Rattle.std.specs.List.{Contains, filter, find}
use Rattle.std.proofs.lemmas.Bool.{cases_Bool, cases_lt, cases_eq, cond-true, cond-false, eqb-true, eq-eqb, ne_eqb, lt-ltb, le-ltb}
use Rattle.std.proofs.lemmas.List.{append-nil}
use Rattle.std.proofs.lemmas.List.Elements.{Contains-append_left, Contains-append_right, Contains-append_cases}
use Rattle.model_buffer.specs.Buffer.{bytes_at, numbers_in}
use Rattle.model_cache.specs.Values.{IsPending, is_among}
use Rattle.model_cache.specs.Shown.{AreApart}
use Rattle.model_cache.specs.Causes.{fresh_blocks}
use Rattle.model_cache.proofs.Held.{none_at, some_at}
use Rattle.model_cache.proofs.Members.{Contains-none, Contains-first, Contains-later, Contains-cases}

-- ---- the fresh blocks

module _ (p : List (ℕ × List ℕ)) (first : ℕ) where
  pub fresh_some : (k : ℕ) (bytes : List ℕ) → bytes_at (first + k) p ≡ Some bytes → fresh_blocks p first (suc k) ≡ fresh_blocks p first k
  fresh_some k bytes is = ap (λ (o : Option (List ℕ)). fresh_blocks p first k ++ (if is_some o then [] else (first + k) ∷ [])) is ∙ append-nil (fresh_blocks p first k)

  pub fresh_none : (k : ℕ) → bytes_at (first + k) p ≡ None → fresh_blocks p first (suc k) ≡ fresh_blocks p first k ++ (first + k) ∷ []
  fresh_none k is = ap (λ (o : Option (List ℕ)). fresh_blocks p first k ++ (if is_some o then [] else (first + k) ∷ [])) is

  pub fresh_grows : (k : ℕ) → length (fresh_blocks p first k) ≤ length (fresh_blocks p first (suc k))
  fresh_grows k = omega (arith, length-append (fresh_blocks p first k) (if is_some (bytes_at (first + k) p) then [] else (first + k) ∷ []))

  pub fresh_rise : (j k : ℕ) → j ≤ k → length (fresh_blocks p first j) ≤ length (fresh_blocks p first k)
  fresh_rise j zero le = let none : j ≡ 0 = omega arith in subst (λ (m : ℕ). length (fresh_blocks p first m) ≤ 0) (sym none) (omega arith)
  fresh_rise j (suc k) le = elim (cases_eq j (suc k)) [
    | inl e ↦ subst (λ (m : ℕ). length (fresh_blocks p first m) ≤ length (fresh_blocks p first (suc k))) (sym e) (omega arith)
    | inr ne ↦ let before = fresh_rise j k (omega arith) in let grows = fresh_grows k in omega (arith, before, grows)
  ]

  pub fresh_below : (k j : ℕ) → Contains (fresh_blocks p first k) j → (first ≤ j) × (j < first + k)
  fresh_below zero j has = absurd (Contains-none j has)
  fresh_below (suc k) j has = elim (Contains-append_cases (fresh_blocks p first k) (if is_some (bytes_at (first + k) p) then [] else (first + k) ∷ []) j has) [
    | inl before ↦ let was = fresh_below k j before in let a = was.0 in let b = was.1 in (omega arith, omega arith)
    | inr here ↦ one (is_some (bytes_at (first + k) p)) here
  ]
    where
      one : (b : Bool) → Contains (if b then [] else (first + k) ∷ []) j → (first ≤ j) × (j < first + suc k)
      one true has = absurd (Contains-none j has)
      one false has = elim (Contains-cases (first + k) [] j has) [ inl e ↦ (omega (arith, e), omega (arith, e)) | inr none ↦ absurd (Contains-none j none) ]

  pub fresh_has : (k j : ℕ) → j < k → bytes_at (first + j) p ≡ None → Contains (fresh_blocks p first k) (first + j)
  fresh_has zero j below none = absurd (omega arith)
  fresh_has (suc k) j below none = elim (cases_eq j k) [
    | inl e ↦ subst (λ (m : ℕ). Contains (fresh_blocks p first (suc k)) (first + m)) (sym e)
        (subst (λ (l : List ℕ). Contains l (first + k)) (sym (fresh_none k (subst (λ (m : ℕ). bytes_at (first + m) p ≡ None) e none)))
        (Contains-append_right (fresh_blocks p first k) ((first + k) ∷ []) (first + k) (Contains-first (first + k) [])))
    | inr ne ↦ Contains-append_left (fresh_blocks p first k) (if is_some (bytes_at (first + k) p) then [] else (first + k) ∷ []) (first + j) (fresh_has k j (omega arith) none)
  ]

-- ---- how many there are

both_parts : (t : ℕ → Bool) (xs : List ℕ) → length (filter t xs) + length (filter (λ i. not (t i)) xs) ≡ length xs
both_parts t [] = refl
both_parts t (i ∷ xs) = one (t i) (both_parts t xs)
  where
    one : (b : Bool) → length (filter t xs) + length (filter (λ i. not (t i)) xs) ≡ length xs
        → length (cond b (i ∷ filter t xs) (filter t xs)) + length (cond (not b) (i ∷ filter (λ i. not (t i)) xs) (filter (λ i. not (t i)) xs)) ≡ suc (length xs)
    one true e = omega (arith, e)
    one false e = omega (arith, e)

-- a number that comes once
one_of : (m : ℕ) (p : List (ℕ × List ℕ)) → AreApart p → length (filter (λ i. i == m) (numbers_in p)) ≡ (if is_some (bytes_at m p) then 1 else 0)
one_of m [] apart = refl
one_of m (held ∷ p) apart = elim (cases_Bool (held.0 == m)) [
  | inl same ↦
      ap length (cond-true (held.0 == m) (held.0 ∷ filter (λ i. i == m) (numbers_in p)) (filter (λ i. i == m) (numbers_in p)) same)
      ∙ ap suc (one_of m p (apart.1) ∙ ap (λ (o : Option (List ℕ)). if is_some o then 1 else 0) (absent (bytes_at m p) refl (eqb-true held.0 m same)))
      ∙ sym (ap (λ (o : Option (ℕ × List ℕ)). if is_some (option_map (λ held. held.1) o) then 1 else 0) (cond-true (held.0 == m) (Some held) (find (λ held. held.0 == m) p) same))
  | inr other ↦
      ap length (cond-false (held.0 == m) (held.0 ∷ filter (λ i. i == m) (numbers_in p)) (filter (λ i. i == m) (numbers_in p)) other)
      ∙ one_of m p (apart.1)
      ∙ sym (ap (λ (o : Option (ℕ × List ℕ)). if is_some (option_map (λ held. held.1) o) then 1 else 0) (cond-false (held.0 == m) (Some held) (find (λ held. held.0 == m) p) other))
]
  where
    absent : (o : Option (List ℕ)) → bytes_at m p ≡ o → held.0 ≡ m → bytes_at m p ≡ None
    absent None is at = is
    absent (Some bytes) is at = absurd (apart.0 bytes (subst (λ (n : ℕ). Contains p (n, bytes)) (sym at) (some_at p m bytes is)))

-- one block more is among k
among_more : (first k : ℕ) (xs : List ℕ) → length (filter (is_among first (suc k)) xs) ≡ length (filter (is_among first k) xs) + length (filter (λ i. i == first + k) xs)
among_more first k [] = refl
among_more first k (x ∷ xs) = three (among_more first k xs) (cases_lt x first)
  where
    count : length (filter (is_among first (suc k)) xs) ≡ length (filter (is_among first k) xs) + length (filter (λ i. i == first + k) xs)
        → (a b c : Bool) → is_among first (suc k) x ≡ a → is_among first k x ≡ b → (x == first + k) ≡ c → (if a then 1 else 0) ≡ (if b then 1 else 0) + (if c then 1 else 0)
        → length (filter (is_among first (suc k)) (x ∷ xs)) ≡ length (filter (is_among first k) (x ∷ xs)) + length (filter (λ i. i == first + k) (x ∷ xs))
    count rest a b c ea eb ec sum = rw (ea, eb, ec) (by_cases a b c sum rest)
      where
        by_cases : (a b c : Bool) → (if a then 1 else 0) ≡ (if b then 1 else 0) + (if c then 1 else 0)
            → length (filter (is_among first (suc k)) xs) ≡ length (filter (is_among first k) xs) + length (filter (λ i. i == first + k) xs)
            → length (cond a (x ∷ filter (is_among first (suc k)) xs) (filter (is_among first (suc k)) xs))
            ≡ length (cond b (x ∷ filter (is_among first k) xs) (filter (is_among first k) xs)) + length (cond c (x ∷ filter (λ i. i == first + k) xs) (filter (λ i. i == first + k) xs))
        by_cases true true true sum rest = absurd (omega (arith, sum))
        by_cases true true false sum rest = omega (arith, rest)
        by_cases true false true sum rest = omega (arith, rest)
        by_cases true false false sum rest = absurd (omega (arith, sum))
        by_cases false true true sum rest = absurd (omega (arith, sum))
        by_cases false true false sum rest = absurd (omega (arith, sum))
        by_cases false false true sum rest = absurd (omega (arith, sum))
        by_cases false false false sum rest = rest

    low : (a b : Bool) → a ≡ true → not a && b ≡ false
    low true b e = refl
    low false b e = absurd (let w = e in cc)

    in_or_out : (a b c : Bool) → a ≡ false → b ≡ c → not a && b ≡ c
    in_or_out true b c e f = absurd (let w = e in cc)
    in_or_out false b c e f = f

    three : length (filter (is_among first (suc k)) xs) ≡ length (filter (is_among first k) xs) + length (filter (λ i. i == first + k) xs) → (x < first) ⊎ (first ≤ x) → length (filter (is_among first (suc k)) (x ∷ xs)) ≡ length (filter (is_among first k) (x ∷ xs)) + length (filter (λ i. i == first + k) (x ∷ xs))
    three rest (inl below) =
        count rest false false false (low (nat_lt x first) (nat_lt x (first + suc k)) (lt-ltb x first below)) (low (nat_lt x first) (nat_lt x (first + k)) (lt-ltb x first below))
        (ne_eqb x (first + k) (λ e. omega (arith, e, below))) refl
    three rest (inr from) = elim (cases_lt x (first + k)) [
      | inl inside ↦ count rest true true false (in_or_out (nat_lt x first) (nat_lt x (first + suc k)) true (le-ltb x first from) (lt-ltb x (first + suc k) (omega (arith, inside))))
          (in_or_out (nat_lt x first) (nat_lt x (first + k)) true (le-ltb x first from) (lt-ltb x (first + k) inside)) (ne_eqb x (first + k) (λ e. omega (arith, e, inside))) refl
      | inr past ↦ elim (cases_eq x (first + k)) [
        | inl e ↦ count rest true false true (in_or_out (nat_lt x first) (nat_lt x (first + suc k)) true (le-ltb x first from) (lt-ltb x (first + suc k) (omega (arith, e))))
            (in_or_out (nat_lt x first) (nat_lt x (first + k)) false (le-ltb x first from) (le-ltb x (first + k) past)) (eq-eqb x (first + k) e) refl
        | inr ne ↦ count rest false false false (in_or_out (nat_lt x first) (nat_lt x (first + suc k)) false (le-ltb x first from) (le-ltb x (first + suc k) (omega (arith, ne, past))))
            (in_or_out (nat_lt x first) (nat_lt x (first + k)) false (le-ltb x first from) (le-ltb x (first + k) past)) (ne_eqb x (first + k) ne) refl
      ]
    ]

none_among : (first : ℕ) (xs : List ℕ) → length (filter (is_among first 0) xs) ≡ 0
none_among first [] = refl
none_among first (x ∷ xs) = ap length (cond-false (is_among first 0 x) (x ∷ filter (is_among first 0) xs) (filter (is_among first 0) xs) (out (cases_lt x first))) ∙ none_among first xs
  where
    low : (a b : Bool) → a ≡ true → not a && b ≡ false
    low true b e = refl
    low false b e = absurd (let w = e in cc)

    high : (a b : Bool) → b ≡ false → not a && b ≡ false
    high true b e = refl
    high false b e = e

    out : (x < first) ⊎ (first ≤ x) → is_among first 0 x ≡ false
    out (inl below) = low (nat_lt x first) (nat_lt x (first + 0)) (lt-ltb x first below)
    out (inr from) = high (nat_lt x first) (nat_lt x (first + 0)) (le-ltb x (first + 0) (omega (arith, from)))

-- those among k, and the fresh ones, are all of these
among_fresh : (p : List (ℕ × List ℕ)) (first k : ℕ) → AreApart p → length (filter (is_among first k) (numbers_in p)) + length (fresh_blocks p first k) ≡ k
among_fresh p first zero apart = let none = none_among first (numbers_in p) in omega (arith, none)
among_fresh p first (suc k) apart =
    let before = among_fresh p first k apart in
    let more = among_more first k (numbers_in p) in
    let one = one_of (first + k) p apart in
    let grown = length-append (fresh_blocks p first k) (if is_some (bytes_at (first + k) p) then [] else (first + k) ∷ []) in
    sum (is_some (bytes_at (first + k) p)) before more one grown
  where
    sum : (b : Bool) → length (filter (is_among first k) (numbers_in p)) + length (fresh_blocks p first k) ≡ k
        → length (filter (is_among first (suc k)) (numbers_in p)) ≡ length (filter (is_among first k) (numbers_in p)) + length (filter (λ i. i == first + k) (numbers_in p))
        → length (filter (λ i. i == first + k) (numbers_in p)) ≡ (if b then 1 else 0)
        → length (fresh_blocks p first k ++ (if b then [] else (first + k) ∷ [])) ≡ length (fresh_blocks p first k) + length (if b then [] else (first + k) ∷ [])
        → length (filter (is_among first (suc k)) (numbers_in p)) + length (fresh_blocks p first k ++ (if b then [] else (first + k) ∷ [])) ≡ suc k
    sum true before more one grown = omega (arith, before, more, one, grown)
    sum false before more one grown = omega (arith, before, more, one, grown)

-- so the pending blocks and the fresh ones are those that are not covered and all that are
pub fresh_total : (p : List (ℕ × List ℕ)) (first count : ℕ) → AreApart p
    → length (numbers_in p) + length (fresh_blocks p first count) ≡ length (filter (λ i. not (is_among first count i)) (numbers_in p)) + count
fresh_total p first count apart =
    let parts = both_parts (is_among first count) (numbers_in p) in
    let all = among_fresh p first count apart in
    omega (arith, parts, all)
