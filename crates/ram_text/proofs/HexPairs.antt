-- Pairs of hexadecimal digits that are all decoded, whatever they are: which bytes they are, and what shows that one is none.
use Rattle.std.proofs.Common.{◌≡◌, ℕ, ◌+◌, ◌*◌, ◌%◌, ◌<◌, ◌≤◌, inl, inr, Bool, true, false, Option, Some, None, unwrap_or, Ok, Err, List, length, take, drop, max, slice_index, slice_set, refl, sym, ◌∙◌, ap, arith}
use Rattle.std.specs.Result.{result_ok}
use Rattle.std.specs.Prelude.{MatchBool, nat_lt}
use Rattle.std.proofs.lemmas.Bool.{cases_lt, ltb-true, ltb-false}
use Rattle.hex.specs.declared.error.FromHexError.{FromHexError}
use Rattle.hex.specs.declared.error.FromHexError.TheVariants.{InvalidHexCharacter}
use Rattle.hex.specs.Hex.{hex_digit_value, digit_or_error, value_at, pair_value, decode_pairs}
use Rattle.hex.proofs.HexLemmas.{decode_of-even, decode_of-odd}
use Rattle.hex.proofs.Pairs.{prepend, decode_step, decode_err, decode_done}
use Rattle.ram_text.specs.ScriptReading.{hex_of}

-- a digit's value is below 16
small : (c v : ℕ) → hex_digit_value c ≡ Some v → v < 16
small c v h = grind (arith)

some_of : (o : Option ℕ) (v : ℕ) → v ≡ unwrap_or o 255 → v < 16 → o ≡ Some v
some_of (Some w) v is lt = ap Some (sym is)
some_of None v is lt = absurd (omega (arith, is))

none_of : (o : Option ℕ) (v : ℕ) → ((w : ℕ) → o ≡ Some w → w < 16) → v ≡ unwrap_or o 255 → 16 ≤ v → o ≡ None
none_of (Some w) v fits is ge = absurd (let lt = fits w refl in omega (arith, is, lt))
none_of None v fits is ge = refl

-- what a byte reads as, by its value
reads : (c i v : ℕ) → v ≡ unwrap_or (hex_digit_value c) 255 → v < 16 → value_at c i ≡ Ok v
reads c i v is lt = ap (digit_or_error c i) (some_of (hex_digit_value c) v is lt)

reads_none : (c i v : ℕ) → v ≡ unwrap_or (hex_digit_value c) 255 → 16 ≤ v → value_at c i ≡ digit_or_error c i None
reads_none c i v is ge = ap (digit_or_error c i) (none_of (hex_digit_value c) v (small c) is ge)

-- two digits
pair_read : (a b i high low : ℕ) → high ≡ unwrap_or (hex_digit_value a) 255 → low ≡ unwrap_or (hex_digit_value b) 255 → high < 16 → low < 16 → pair_value a b i ≡ Ok (high % 16 * 16 + low % 16)
pair_read a b i high low is_high is_low lt lt' =
    let first = reads a i high is_high lt in
    let second = reads b (i + 1) low is_low lt' in
    let same : high * 16 + low ≡ high % 16 * 16 + low % 16 = omega arith in
    rw (first, second) (ap Ok same)

-- two bytes of which one is no digit
pair_refused : (a b i high low : ℕ) → high ≡ unwrap_or (hex_digit_value a) 255 → low ≡ unwrap_or (hex_digit_value b) 255 → 16 ≤ max high low → (e : FromHexError) × (pair_value a b i ≡ Err e)
pair_refused a b i high low is_high is_low ge =
    elim (cases_lt high 16) [
      | inl lt ↦
          let first = reads a i high is_high lt in
          let second = reads_none b (i + 1) low is_low (omega arith) in
          (InvalidHexCharacter b (i + 1), rw (first, second) refl)
      | inr more ↦
          let first = reads_none a i high is_high (omega arith) in
          (InvalidHexCharacter a i, rw first refl)
    ]

-- one pair more
pub pair_decoded : (s out : List ℕ) (i high low : ℕ) → 2 * i + 1 < length s → i < length out → high ≡ unwrap_or (hex_digit_value (slice_index s (2 * i))) 255 → low ≡ unwrap_or (hex_digit_value (slice_index s (2 * i + 1))) 255 → high < 16 → low < 16
    → decode_pairs 0 s ≡ prepend (take i out) (decode_pairs (2 * i) (drop (2 * i) s))
    → decode_pairs 0 s ≡ prepend (take (i + 1) (slice_set out i (high % 16 * 16 + low % 16))) (decode_pairs (2 * (i + 1)) (drop (2 * (i + 1)) s))
pair_decoded s out i high low fits room is_high is_low lt lt' so_far =
    decode_step s out i _ fits room (pair_read (slice_index s (2 * i)) (slice_index s (2 * i + 1)) (2 * i) high low is_high is_low lt lt') so_far

-- one pair that is none
pair_is_none : (s out : List ℕ) (i high low : ℕ) → 2 * i + 1 < length s → high ≡ unwrap_or (hex_digit_value (slice_index s (2 * i))) 255 → low ≡ unwrap_or (hex_digit_value (slice_index s (2 * i + 1))) 255 → 16 ≤ max high low
    → decode_pairs 0 s ≡ prepend (take i out) (decode_pairs (2 * i) (drop (2 * i) s))
    → result_ok (decode_pairs 0 s) ≡ None
pair_is_none s out i high low fits is_high is_low ge so_far =
    let bad = pair_refused (slice_index s (2 * i)) (slice_index s (2 * i + 1)) (2 * i) high low is_high is_low ge in
    ap result_ok (decode_err s out i bad.0 fits bad.1 so_far)

-- a pair with a byte that is no digit, or one before it
pub none_so_far : (s out : List ℕ) (i most high low : ℕ) → 2 * i + 1 < length s → high ≡ unwrap_or (hex_digit_value (slice_index s (2 * i))) 255 → low ≡ unwrap_or (hex_digit_value (slice_index s (2 * i + 1))) 255 → 16 ≤ max (max most high) low
    → (most < 16 → decode_pairs 0 s ≡ prepend (take i out) (decode_pairs (2 * i) (drop (2 * i) s)))
    → (16 ≤ most → result_ok (decode_pairs 0 s) ≡ None)
    → result_ok (decode_pairs 0 s) ≡ None
none_so_far s out i most high low fits is_high is_low ge good bad =
    elim (cases_lt most 16) [
      | inl lt ↦ pair_is_none s out i high low fits is_high is_low (omega arith) (good lt)
      | inr more ↦ bad (omega arith)
    ]

-- an odd number of digits spells nothing
pub odd_spells_none : (s : List ℕ) → length s % 2 ≡ 1 → hex_of s ≡ None
unfolding hex_of
odd_spells_none s odd = ap result_ok (decode_of-odd s odd)

-- all pairs were decoded
all_decoded : (s out : List ℕ) (i : ℕ) → length s % 2 ≡ 0 → length out ≤ i → length s ≤ 2 * i → decode_pairs 0 s ≡ prepend (take i out) (decode_pairs (2 * i) (drop (2 * i) s)) → hex_of s ≡ Some out
unfolding hex_of
all_decoded s out i even long fits so_far = ap result_ok (decode_of-even s even ∙ decode_done s out i long fits so_far)

-- some pair was none
some_is_none : (s : List ℕ) → length s % 2 ≡ 0 → result_ok (decode_pairs 0 s) ≡ None → hex_of s ≡ None
unfolding hex_of
some_is_none s even bad = ap result_ok (decode_of-even s even) ∙ bad

by_test : (b : Bool) (A B : Type 0) → (b ≡ true → A) → (b ≡ false → B) → MatchBool b A B
by_test true A B f g = f refl
by_test false A B f g = g refl

-- at the end the greatest value tells whether all were digits
pub all_looked_at : (s out : List ℕ) (most i : ℕ) → length s % 2 ≡ 0 → length out ≤ i → length s ≤ 2 * i
    → (most < 16 → decode_pairs 0 s ≡ prepend (take i out) (decode_pairs (2 * i) (drop (2 * i) s)))
    → (16 ≤ most → result_ok (decode_pairs 0 s) ≡ None)
    → MatchBool (nat_lt most 16) (hex_of s ≡ Some out) (hex_of s ≡ None)
all_looked_at s out most i even long fits good bad =
    by_test (nat_lt most 16) (hex_of s ≡ Some out) (hex_of s ≡ None)
    (λ lt. all_decoded s out i even long fits (good (ltb-true most 16 lt)))
    (λ ge. some_is_none s even (bad (ltb-false most 16 ge)))
