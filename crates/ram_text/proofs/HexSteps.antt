-- What hexadecimal digits spell, by what the decoding of a slice answers; and how counted bytes grow.
use Rattle.std.proofs.Common.{◌≡◌, ◌≢◌, ℕ, ◌+◌, ◌-◌, ◌*◌, ◌/◌, ◌%◌, ◌<◌, ◌≤◌, Bool, eqb, cond, Option, Some, None, Result, Ok, Err, List, [], ◌∷◌, ◌++◌, length, get_or, map, replicate, min, suc, zero, refl, sym, ◌∙◌, ap, arith, add-zero, append_assoc}
use Rattle.std.specs.List.{range_with_len}
use Rattle.std.specs.Option.{SomeIff}
use Rattle.std.specs.Result.{MatchResult, result_ok}
use Rattle.std.proofs.lemmas.Bool.{eq-eqb}
use Rattle.std.proofs.lemmas.Bool.Decides.{nat_tests}
use Rattle.std.proofs.lemmas.List.{append-nil}
use Rattle.std.proofs.lemmas.List.FromFn.{map-range_with_len_more}
use Rattle.hex.specs.declared.error.FromHexError.{FromHexError}
use Rattle.hex.specs.declared.error.FromHexError.TheVariants.{OddLength, InvalidStringLength}
use Rattle.hex.specs.Hex.{decode_of, decode_sized, decode_pairs}
use Rattle.hex.proofs.HexLemmas.{decode_of-ok}
use Rattle.ram_text.specs.Script.{counted_up}
use Rattle.ram_text.specs.ScriptReading.{hex_of, hex_byte_of, command_block_of, one_byte}
use Rattle.ram_text.proofs.ScriptReadings.{ok_of}

-- into room for half as many bytes
half_sized : (word : List ℕ) → decode_sized word (length word / 2) ≡ decode_of word
half_sized word =
    ap (λ (same : Bool). cond (eqb (length word % 2) 1) (Err OddLength) (cond same (decode_pairs 0 word) (Err InvalidStringLength))) (eq-eqb (length word / 2) (length word / 2) refl)

-- what the decoding of a slice answers
abbrev Written : Result (List ℕ) FromHexError → Result (Unit {0}) FromHexError → List ℕ → Type 0
Written d r out = MatchResult d (λ bytes. (r ≡ Ok tt) × (out ≡ bytes)) (λ e. r ≡ Err e)

was_done : (d : Result (List ℕ) FromHexError) (u : Unit {0}) (out : List ℕ) → Written d (Ok u) out → result_ok d ≡ Some out
was_done (Ok bytes) u out h = ap Some (sym h.1)
was_done (Err e) u out h = cc

was_refused : (d : Result (List ℕ) FromHexError) (e : FromHexError) (out : List ℕ) → Written d (Err e) out → result_ok d ≡ None
was_refused (Ok bytes) e out h = let same = h.0 in cc
was_refused (Err e') e out h = refl

-- the decoding of a slice was done
pub decoded : (word into out : List ℕ) (u : Unit {0}) → length into ≡ length word / 2 → Written (decode_sized word (length into)) (Ok u) out → hex_of word ≡ Some out
unfolding hex_of
decoded word into out u long h =
    ap result_ok (sym (ap (decode_sized word) long ∙ half_sized word)) ∙ was_done (decode_sized word (length into)) u out h

-- the decoding of a slice was refused
pub refused : (word into out : List ℕ) (e : FromHexError) → length into ≡ length word / 2 → Written (decode_sized word (length into)) (Err e) out → hex_of word ≡ None
unfolding hex_of
refused word into out e long h =
    ap result_ok (sym (ap (decode_sized word) long ∙ half_sized word)) ∙ was_refused (decode_sized word (length into)) e out h

-- the digits are two for each byte
pub length-hex_of : (word bytes : List ℕ) → hex_of word ≡ Some bytes → length word ≡ 2 * length bytes
unfolding hex_of
length-hex_of word bytes h = (decode_of-ok word bytes (ok_of (decode_of word) bytes h)).2

one_byte-other : (bytes : List ℕ) → length bytes ≢ 1 → one_byte bytes ≡ None
one_byte-other [] ne = refl
one_byte-other (b ∷ []) ne = absurd (ne refl)
one_byte-other (b ∷ c ∷ bytes) ne = refl

one_byte-one : (bytes : List ℕ) → length bytes ≡ 1 → one_byte bytes ≡ Some (get_or bytes 0 0)
one_byte-one [] one = absurd (omega arith)
one_byte-one (b ∷ []) one = refl
one_byte-one (b ∷ c ∷ bytes) one = absurd (omega arith)

-- other than two digits spell no byte
hex_byte-by : (word : List ℕ) (o : Option (List ℕ)) → hex_of word ≡ o → length word ≢ 2 → hex_byte_of word ≡ None
unfolding hex_byte_of
hex_byte-by word None h ne = rw h refl
hex_byte-by word (Some bytes) h ne =
    rw h (one_byte-other bytes (λ one. ne (omega (arith, length-hex_of word bytes h))))

pub hex_byte_of-other : (word : List ℕ) → length word ≢ 2 → hex_byte_of word ≡ None
hex_byte_of-other word ne = hex_byte-by word (hex_of word) refl ne

pub hex_byte_of-some : (word bytes : List ℕ) → hex_of word ≡ Some bytes → length bytes ≡ 1 → Some (get_or bytes 0 0) ≡ hex_byte_of word
unfolding hex_byte_of
hex_byte_of-some word bytes h one = rw h (sym (one_byte-one bytes one))

pub hex_byte_of-none : (word : List ℕ) → hex_of word ≡ None → None ≡ hex_byte_of word
unfolding hex_byte_of
hex_byte_of-none word h = rw h refl

-- more than 33 digits spell no command block
block-by : (word : List ℕ) (o : Option (List ℕ)) → hex_of word ≡ o → 16 < length word / 2 → None ≡ command_block_of word
unfolding command_block_of
block-by word None h long = rw h refl
block-by word (Some bytes) h long =
    let twice : length word ≡ 2 * length bytes = length-hex_of word bytes h in
    rw h (let n : ℕ = length bytes in let more : 16 < length bytes = omega arith in grind (arith, nat_tests))

pub command_block_of-long : (word : List ℕ) → 16 < length word / 2 → None ≡ command_block_of word
command_block_of-long word long = block-by word (hex_of word) refl long

pub command_block_of-none : (word : List ℕ) → hex_of word ≡ None → None ≡ command_block_of word
unfolding command_block_of
command_block_of-none word h = rw h refl

pub command_block_of-some : (word bytes : List ℕ) (r : Option (List ℕ)) → hex_of word ≡ Some bytes → SomeIff r ((0 < length bytes) × (length bytes ≤ 16)) bytes → r ≡ command_block_of word
unfolding command_block_of
command_block_of-some word bytes None h none = rw h (grind (arith, nat_tests))
command_block_of-some word bytes (Some cdb) h some = rw h (grind (arith, nat_tests))

-- as many more of one value as a function gives
constant_more : (f : ℕ → ℕ) (v a n : ℕ) → ((k : ℕ) → a ≤ k → k < a + n → f k ≡ v) → map f (range_with_len 0 a) ++ replicate n v ≡ map f (range_with_len 0 (a + n))
constant_more f v a zero same = append-nil (map f (range_with_len 0 a)) ∙ ap (λ m. map f (range_with_len 0 m)) (sym (add-zero a))
constant_more f v a (suc n) same =
    ap (λ x. map f (range_with_len 0 a) ++ (x ∷ replicate n v)) (sym (same a (omega arith) (omega arith)))
    ∙ sym (append_assoc (map f (range_with_len 0 a)) (f a ∷ []) (replicate n v))
    ∙ ap (λ xs. xs ++ replicate n v) (sym (map-range_with_len_more f 0 a a (let e : 0 + a ≡ a = omega arith in e)))
    ∙ constant_more f v (a + 1) n (λ k low high. same k (omega arith) (omega arith))
    ∙ ap (λ m. map f (range_with_len 0 m)) (let e : a + 1 + n ≡ a + suc n = omega arith in e)

-- one sector more is counted
pub counted_up_more : (byte due sector : ℕ) → counted_up byte (min due (2048 * sector)) ++ replicate (min due (2048 * (sector + 1)) - min due (2048 * sector)) ((byte + sector) % 256) ≡ counted_up byte (min due (2048 * (sector + 1)))
counted_up_more byte due sector =
    let a : ℕ = min due (2048 * sector) in
    let n : ℕ = min due (2048 * (sector + 1)) - min due (2048 * sector) in
    constant_more (λ offset. (byte + offset / 2048) % 256) ((byte + sector) % 256) (min due (2048 * sector)) (min due (2048 * (sector + 1)) - min due (2048 * sector)) (λ k low high.
    let here : k / 2048 ≡ sector = omega arith in
    ap (λ q. (byte + q) % 256) here)
    ∙ ap (counted_up byte) (let e : min due (2048 * sector) + (min due (2048 * (sector + 1)) - min due (2048 * sector)) ≡ min due (2048 * (sector + 1)) = omega arith in e)

-- the bytes so far, and those of one sector more
pub counted_grown : (old new : List ℕ) (len end byte due sector value : ℕ) → new ≡ old ++ replicate (end - len) value → end ≡ min due (2048 * (sector + 1)) → len ≡ min due (2048 * sector) → old ≡ counted_up byte (min due (2048 * sector)) → value ≡ (byte + sector) % 256 → new ≡ counted_up byte (min due (2048 * (sector + 1)))
counted_grown old new len end byte due sector value grown ends long so_far is =
    grown ∙ ap (λ n. old ++ replicate (n - len) value) ends
    ∙ ap (λ n. old ++ replicate (min due (2048 * (sector + 1)) - n) value) long
    ∙ ap (λ xs. xs ++ replicate (min due (2048 * (sector + 1)) - min due (2048 * sector)) value) so_far
    ∙ ap (λ v. counted_up byte (min due (2048 * sector)) ++ replicate (min due (2048 * (sector + 1)) - min due (2048 * sector)) v) is
    ∙ counted_up_more byte due sector
