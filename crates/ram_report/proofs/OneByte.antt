-- Whether all bytes are as the first, by what a fold of their differences finds.
use Rattle.std.proofs.Common.{◌≡◌, ℕ, Bool, true, false, List, [], ◌∷◌, bit_or, bit_xor, refl, sym, ap, ◌∙◌, arith}
use Rattle.std.specs.Prelude.{◌==◌, ◌&&◌}
use Rattle.std.specs.List.{list_all, fold}
use Rattle.std.specs.Cmp.{both_ways}
use Rattle.std.specs.Int.Bits.{xor_self, xor_assoc, xor_zero_r}
use Rattle.std.proofs.lemmas.Bool.{and_parts, and_from, eqb-true, eq-eqb}
use Rattle.std.proofs.lemmas.Nat.{le_or_l, le_or_r}

same_from_xor : (a b : ℕ) → bit_xor a b ≡ 0 → a ≡ b
same_from_xor a b none =
    sym (xor_zero_r a) ∙ ap (λ (n : ℕ). bit_xor a n) (sym (xor_self b)) ∙ sym (xor_assoc a b b) ∙ ap (λ (n : ℕ). bit_xor n b) none

-- none is found by then just where none was found before and the byte is the first
none_more : (found byte first : ℕ) → (bit_or found (bit_xor byte first) == 0) ≡ ((found == 0) && (byte == first))
none_more found byte first =
    both_ways (bit_or found (bit_xor byte first) == 0) ((found == 0) && (byte == first))
    (λ none.
    let is : bit_or found (bit_xor byte first) ≡ 0 = eqb-true (bit_or found (bit_xor byte first)) 0 none in
    and_from (found == 0) (byte == first)
    (eq-eqb found 0 (omega (arith, is, le_or_l found (bit_xor byte first))))
    (eq-eqb byte first (same_from_xor byte first (omega (arith, is, le_or_r found (bit_xor byte first))))))
    (λ both.
    let p = and_parts (found == 0) (byte == first) both in
    eq-eqb (bit_or found (bit_xor byte first)) 0 (rw (eqb-true found 0 p.0, eqb-true byte first p.1) (xor_self first)))

and_true : (b : Bool) → (b && true) ≡ b
and_true true = refl
and_true false = refl

and_assoc : (a b c : Bool) → ((a && b) && c) ≡ (a && (b && c))
and_assoc true b c = refl
and_assoc false b c = refl

pub none_found : (first : ℕ) (bytes : List ℕ) (found : ℕ)
    → (fold (λ (n byte : ℕ). bit_or n (bit_xor byte first)) found bytes == 0) ≡ ((found == 0) && list_all (λ byte. byte == first) bytes)
none_found first [] found = sym (and_true (found == 0))
none_found first (byte ∷ bytes) found =
    none_found first bytes (bit_or found (bit_xor byte first))
    ∙ ap (λ (b : Bool). b && list_all (λ byte. byte == first) bytes) (none_more found byte first)
    ∙ and_assoc (found == 0) (byte == first) (list_all (λ byte. byte == first) bytes)
