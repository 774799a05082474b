-- The first word of a line, by where its first space is.
use Rattle.std.proofs.Common.{◌≡◌, ◌≢◌, ℕ, ◌+◌, ◌<◌, true, false, eqb, Some, None, suc, zero, List, [], ◌∷◌, ◌++◌, length, take, drop, get_or, refl, sym, ◌∙◌, ap, arith, take_all, length-take, add-one}
use Rattle.std.proofs.lemmas.Bool.{eq-eqb}
use Rattle.std.proofs.lemmas.Bool.Decides.{nat_tests}
use Rattle.std.proofs.lemmas.List.{take-append-drop, drop_more, get_or-take, drop_all}
use Rattle.memchr.specs.Find.{IsFirstByte, is_byte}
use Rattle.ram_text.specs.ScriptWords.{pieces, words_of, lengthened}

-- no byte is a space
abbrev pub HasNoSpace : List ℕ → Type 0
HasNoSpace word = (k : ℕ) → k < length word → get_or word k 0 ≢ 32

no_space : (byte : ℕ) → byte ≢ 32 → eqb byte 32 ≡ false
no_space byte ne = grind (arith, nat_tests)

pieces-word_then : (word rest : List ℕ) → HasNoSpace word → pieces (word ++ (32 ∷ rest)) ≡ word ∷ pieces rest
unfolding pieces
pieces-word_then [] rest clear = refl
pieces-word_then (byte ∷ word) rest clear =
    rw (no_space byte (clear 0 (omega arith))) (ap (lengthened byte) (pieces-word_then word rest (λ k lt is. clear (k + 1) (omega arith) (rw add-one is))))

pieces-word : (word : List ℕ) → HasNoSpace word → pieces word ≡ word ∷ []
unfolding pieces
pieces-word [] clear = refl
pieces-word (byte ∷ word) clear =
    rw (no_space byte (clear 0 (omega arith))) (ap (lengthened byte) (pieces-word word (λ k lt is. clear (k + 1) (omega arith) (rw add-one is))))

-- a space at the front is none of the words
pub words_of-space : (rest : List ℕ) → words_of (32 ∷ rest) ≡ words_of rest
unfolding words_of pieces
words_of-space rest = refl

pub words_of-nil : words_of [] ≡ []
unfolding words_of pieces
words_of-nil = refl

pub words_of-word_then : (word rest : List ℕ) → 0 < length word → HasNoSpace word → words_of (word ++ (32 ∷ rest)) ≡ word ∷ words_of (32 ∷ rest)
unfolding words_of pieces
words_of-word_then [] rest some clear = absurd (omega arith)
words_of-word_then (byte ∷ word) rest some clear = rw (pieces-word_then (byte ∷ word) rest clear) refl

pub words_of-word : (word : List ℕ) → 0 < length word → HasNoSpace word → words_of word ≡ word ∷ []
unfolding words_of pieces
words_of-word [] some clear = absurd (omega arith)
words_of-word (byte ∷ word) some clear = rw (pieces-word (byte ∷ word) clear) refl

-- up to the first space lies a word
pub word_found : (line : List ℕ) (end : ℕ) → 0 < length line → get_or line 0 0 ≢ 32 → IsFirstByte (is_byte 32) line (Some end) → words_of line ≡ take end line ∷ words_of (drop end line)
word_found line end some first found =
    let inside : end < length line = found.0.high in
    let here : get_or line end 0 ≡ 32 = eqb-true' (get_or line end 0) found.1 in
    let behind : drop end line ≡ 32 ∷ drop (end + 1) line = drop_more line end 0 inside ∙ ap (λ x. x ∷ drop (end + 1) line) here in
    let later : 0 < end = not_first line end first here in
    let clear : HasNoSpace (take end line) = λ k lt is.
    let below : k < end = omega (arith, length-take end line) in
    found.0.before k (omega arith) below (eq-eqb (get_or line k 0) 32 (sym (get_or-take end line k 0 below) ∙ is)) in
    ap words_of (sym (take-append-drop end line) ∙ ap (λ xs. take end line ++ xs) behind)
    ∙ words_of-word_then (take end line) (drop (end + 1) line) (omega (arith, length-take end line)) clear
    ∙ ap (λ xs. take end line ∷ words_of xs) (sym behind)
  where
    eqb-true' : (x : ℕ) → eqb x 32 ≡ true → x ≡ 32
    eqb-true' x is = grind (arith, nat_tests)

    not_first : (line : List ℕ) (end : ℕ) → get_or line 0 0 ≢ 32 → get_or line end 0 ≡ 32 → 0 < end
    not_first line zero first here = absurd (first here)
    not_first line (suc end) first here = omega arith

-- a line without a space is a word
pub word_alone : (line : List ℕ) → 0 < length line → IsFirstByte (is_byte 32) line None → words_of line ≡ take (length line) line ∷ words_of (drop (length line) line)
word_alone line some nowhere =
    words_of-word line some (λ k lt is. nowhere k (omega arith) lt (eq-eqb (get_or line k 0) 32 is))
    ∙ ap (λ xs. xs ∷ []) (sym (take_all (length line) line (omega arith)))
    ∙ ap (λ xs. take (length line) line ∷ xs) (sym (ap words_of (drop_all (length line) line (omega arith)) ∙ words_of-nil))

-- behind a space are the same words
pub words_behind : (line : List ℕ) (offset : ℕ) → offset < length line → get_or line offset 0 ≡ 32 → words_of (drop offset line) ≡ words_of line → words_of (drop (offset + 1) line) ≡ words_of line
words_behind line offset inside here same =
    sym (words_of-space (drop (offset + 1) line))
    ∙ ap words_of (sym (drop_more line offset 0 inside ∙ ap (λ x. x ∷ drop (offset + 1) line) here)) ∙ same
