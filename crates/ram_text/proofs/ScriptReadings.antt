-- What the words of a line are read as is what the language says, and nothing else.
use Rattle.std.proofs.Common.{◌≡◌, ℕ, ◌+◌, ◌*◌, ◌&&◌, ◌⊎◌, inl, inr, Bool, true, false, ltb, leb, cond, Option, Some, None, Result, Ok, Err, List, [], ◌∷◌, length, refl, sym, ◌∙◌, ap, subst, arith}
use Rattle.std.specs.List.{list_all}
use Rattle.std.specs.Option.{option_map}
use Rattle.std.specs.Result.{result_ok}
use Rattle.std.specs.Char.{is_ascii_digit}
use Rattle.std.proofs.lemmas.Bool.Decides.{nat_tests}
use Rattle.std.proofs.lemmas.List.Sums.{AllPass-from_list_all, list_all-from_AllPass}
use Rattle.hex.specs.declared.error.FromHexError.{FromHexError}
use Rattle.hex.specs.Hex.{◌>>=◌ as bind_result, decode_of, decode_pairs, digit_or_error, hex_digit_value}
use Rattle.hex.proofs.HexLemmas.{decode_of-ok, decode_of-even, decode_pairs-ok}
use Rattle.ram_text.specs.ScriptWords.{decimal_value, IsNumber, IsHex}
use Rattle.ram_text.specs.Script.{IsCommandBlock}
use Rattle.ram_text.specs.ScriptReading.{◌>>=◌, number_of, hex_of, hex_byte_of, command_block_of, one_byte}

-- the step before gave a value
pub bind_some : {A B : Type 0} (o : Option A) (f : A → Option B) (y : B) → (o >>= f) ≡ Some y → (x : A) × (o ≡ Some x) × (f x ≡ Some y)
bind_some None f y h = cc
bind_some (Some x) f y h = (x, refl, h)

-- a value that is given where a test holds
pub tested_some : {A : Type 0} (b : Bool) (x y : A) → cond b (Some x) None ≡ Some y → (b ≡ true) × (x ≡ y)
tested_some true x y h = (refl, cc)
tested_some false x y h = cc

-- which way a test went
pub chosen : {A : Type 0} (b : Bool) (x : A) (o : Option A) (y : A) → cond b (Some x) o ≡ Some y → ((b ≡ true) × (x ≡ y)) ⊎ ((b ≡ false) × (o ≡ Some y))
chosen true x o y h = inl (refl, cc)
chosen false x o y h = inr (refl, h)

pub both : (a b : Bool) → (a && b) ≡ true → (a ≡ true) × (b ≡ true)
both true true h = (refl, refl)
both true false h = cc
both false b h = cc

pub some_map : {A B : Type 0} (f : A → B) (o : Option A) (y : B) → option_map f o ≡ Some y → (x : A) × (o ≡ Some x) × (f x ≡ y)
some_map f None y h = cc
some_map f (Some x) y h = (x, refl, cc)

-- numbers
pub number_found : (word : List ℕ) (n : ℕ) → number_of word ≡ Some n → IsNumber word n
unfolding number_of
number_found word n h =
    let t = tested_some (ltb 0 (length word) && leb (length word) 10 && list_all is_ascii_digit word && leb (decimal_value word) 4294967295) (decimal_value word) n h in
    let c = both (ltb 0 (length word) && leb (length word) 10 && list_all is_ascii_digit word) (leb (decimal_value word) 4294967295) t.0 in
    let b = both (ltb 0 (length word) && leb (length word) 10) (list_all is_ascii_digit word) c.0 in
    let a = both (ltb 0 (length word)) (leb (length word) 10) b.0 in
    record {
      digits = AllPass-from_list_all is_ascii_digit word b.1;
      some = let e = a.0 in grind (arith, nat_tests);
      short = let e = a.1 in grind (arith, nat_tests);
      value = t.1;
      fits = let e = c.1 in let same = t.1 in grind (arith, nat_tests);
    }

pub number_given : (word : List ℕ) (n : ℕ) → IsNumber word n → number_of word ≡ Some n
unfolding number_of
number_given word n is =
    let some : ltb 0 (length word) ≡ true = let f = is.some in grind (arith, nat_tests) in
    let short : leb (length word) 10 ≡ true = let f = is.short in grind (arith, nat_tests) in
    let digits : list_all is_ascii_digit word ≡ true = list_all-from_AllPass is_ascii_digit word is.digits in
    let fits : leb (decimal_value word) 4294967295 ≡ true = let f = is.fits in let v = is.value in grind (arith, nat_tests) in
    rw (some, short, digits, fits) (ap Some is.value)

-- hexadecimal digits
pair_found : (a b i : ℕ) (high low : Option ℕ) (rest : Result (List ℕ) FromHexError) (bytes : List ℕ)
    → bind_result (bind_result (digit_or_error a i high) (λ h. bind_result (digit_or_error b (i + 1) low) (λ l. Ok (h * 16 + l)))) (λ byte. bind_result rest (λ bs. Ok (byte ∷ bs))) ≡ Ok bytes
    → (h : ℕ) × (l : ℕ) × (bs : List ℕ) × (high ≡ Some h) × (low ≡ Some l) × (rest ≡ Ok bs) × (bytes ≡ (h * 16 + l) ∷ bs)
pair_found a b i None low rest bytes h = cc
pair_found a b i (Some x) None rest bytes h = cc
pair_found a b i (Some x) (Some y) (Err e) bytes h = cc
pair_found a b i (Some x) (Some y) (Ok bs) bytes h = (x, y, bs, refl, refl, refl, cc)

pairs_found : (i : ℕ) (digits bytes : List ℕ) → decode_pairs i digits ≡ Ok bytes → IsHex digits bytes
unfolding decode_pairs
pairs_found i [] bytes h = let e : [] ≡ bytes = cc in subst (IsHex []) e tt
pairs_found i (a ∷ []) bytes h = cc
pairs_found i (a ∷ b ∷ digits) bytes h =
    let f = pair_found a b i (hex_digit_value a) (hex_digit_value b) (decode_pairs (i + 2) digits) bytes h in
    subst (IsHex (a ∷ b ∷ digits)) (sym f.6)
    (record { high_value = f.0; low_value = f.1; high_digit = f.3; low_digit = f.4; byte_is = refl }, pairs_found (i + 2) digits f.2 f.5)

pairs_given : (i : ℕ) (digits bytes : List ℕ) → IsHex digits bytes → decode_pairs i digits ≡ Ok bytes
unfolding decode_pairs
pairs_given i [] [] h = refl
pairs_given i [] (y ∷ bytes) h = absurd h
pairs_given i (a ∷ []) [] h = absurd h
pairs_given i (a ∷ []) (y ∷ bytes) h = absurd h
pairs_given i (a ∷ b ∷ digits) [] h = absurd h
pairs_given i (a ∷ b ∷ digits) (y ∷ bytes) h =
    rw (h.0.high_digit, h.0.low_digit, pairs_given (i + 2) digits bytes h.1) (ap (λ x. Ok (x ∷ bytes)) (sym h.0.byte_is))

-- what was found is what the decoding answered
pub ok_of : (d : Result (List ℕ) FromHexError) (bytes : List ℕ) → result_ok d ≡ Some bytes → d ≡ Ok bytes
ok_of (Ok x) bytes h = cc
ok_of (Err e) bytes h = cc

pub hex_found : (word bytes : List ℕ) → hex_of word ≡ Some bytes → IsHex word bytes
unfolding hex_of
hex_found word bytes h =
    let done = ok_of (decode_of word) bytes h in
    pairs_found 0 word bytes (sym (decode_of-even word (decode_of-ok word bytes done).0) ∙ done)

pub hex_given : (word bytes : List ℕ) → IsHex word bytes → hex_of word ≡ Some bytes
unfolding hex_of
hex_given word bytes h =
    let pairs = pairs_given 0 word bytes h in
    let long : length word ≡ 2 * length bytes = (decode_pairs-ok 0 word bytes pairs).1 in
    ap result_ok (decode_of-even word (omega arith) ∙ pairs)

one_found : (bytes : List ℕ) (byte : ℕ) → one_byte bytes ≡ Some byte → bytes ≡ byte ∷ []
one_found [] byte h = cc
one_found (x ∷ []) byte h = cc
one_found (x ∷ y ∷ bytes) byte h = cc

pub byte_found : (word : List ℕ) (byte : ℕ) → hex_byte_of word ≡ Some byte → IsHex word (byte ∷ [])
unfolding hex_byte_of
byte_found word byte h =
    let f = bind_some (hex_of word) one_byte byte h in
    subst (IsHex word) (one_found f.0 byte f.2) (hex_found word f.0 f.1)

pub byte_given : (word : List ℕ) (byte : ℕ) → IsHex word (byte ∷ []) → hex_byte_of word ≡ Some byte
unfolding hex_byte_of
byte_given word byte h = rw (hex_given word (byte ∷ []) h) refl

pub block_found : (word cdb : List ℕ) → command_block_of word ≡ Some cdb → IsCommandBlock word cdb
unfolding command_block_of
block_found word cdb h =
    let f = bind_some (hex_of word) (λ cdb. cond (ltb 0 (length cdb) && leb (length cdb) 16) (Some cdb) None) cdb h in
    let t = tested_some (ltb 0 (length f.0) && leb (length f.0) 16) f.0 cdb f.2 in
    let a = both (ltb 0 (length f.0)) (leb (length f.0) 16) t.0 in
    subst (IsCommandBlock word) t.1 (record {
      digits_are = hex_found word f.0 f.1;
      some = let e = a.0 in grind (arith, nat_tests);
      short = let e = a.1 in grind (arith, nat_tests);
    })

pub block_given : (word cdb : List ℕ) → IsCommandBlock word cdb → command_block_of word ≡ Some cdb
unfolding command_block_of
block_given word cdb is =
    let some : ltb 0 (length cdb) ≡ true = let f = is.some in grind (arith, nat_tests) in
    let short : leb (length cdb) 16 ≡ true = let f = is.short in grind (arith, nat_tests) in
    rw (hex_given word cdb is.digits_are) (rw (some, short) refl)
