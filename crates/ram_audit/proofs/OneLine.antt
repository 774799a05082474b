-- Bytes first differ from a text in one line alone.
use Rattle.std.proofs.Common.{◌≡◌, ◌≢◌, ℕ, ◌+◌, ◌<◌, inl, inr, List, [], ◌∷◌, length, take, drop, get_or, refl, sym, ap, ◌∙◌, subst, arith, length-drop}
use Rattle.std.proofs.lemmas.Bool.{cases_lt}
use Rattle.std.proofs.lemmas.List.{get_or-drop, get_or-take}
use Rattle.ram_audit.specs.Comparing.{DifferAtOnce, FirstDiffer, feeds}

no_self : (xs : List ℕ) → DifferAtOnce xs xs → ⊥
no_self [] h = h
no_self (x ∷ xs) h = h refl

pub not_same : (bytes text : List ℕ) (line : ℕ) → FirstDiffer bytes text line → bytes ≢ text
not_same bytes text line first same =
    no_self (drop first.common text) (subst (λ (b : List ℕ). DifferAtOnce (drop first.common b) (drop first.common text)) same first.apart)

-- where both have a next byte, these differ
heads_differ : (xs ys : List ℕ) → 0 < length xs → 0 < length ys → DifferAtOnce xs ys → get_or xs 0 0 ≢ get_or ys 0 0
heads_differ [] ys some some' h e = omega (arith, some)
heads_differ (x ∷ xs) [] some some' h e = omega (arith, some')
heads_differ (x ∷ xs) (y ∷ ys) some some' h e = h e

-- a common front ends no earlier than another
not_earlier : (bytes text : List ℕ) (a b : ℕ) (one : FirstDiffer bytes text a) (two : FirstDiffer bytes text b) → one.common < two.common → ⊥
not_earlier bytes text a b one two less =
    let n = one.common in
    let left : get_or (drop n bytes) 0 0 ≡ get_or (take two.common bytes) n 0 =
    get_or-drop n bytes 0 0 ∙ ap (λ (k : ℕ). get_or bytes k 0) (omega arith) ∙ sym (get_or-take two.common bytes n 0 less) in
    let right : get_or (take two.common text) n 0 ≡ get_or (drop n text) 0 0 =
    get_or-take two.common text n 0 less ∙ ap (λ (k : ℕ). get_or text k 0) (omega arith) ∙ sym (get_or-drop n text 0 0) in
    heads_differ (drop n bytes) (drop n text)
    (let l = length-drop n bytes in let i = two.in_bytes in omega (arith, l, i, less))
    (let l = length-drop n text in let i = two.in_text in omega (arith, l, i, less))
    one.apart
    (left ∙ ap (λ (l : List ℕ). get_or l n 0) two.same ∙ right)

pub one_line : (bytes text : List ℕ) (a b : ℕ) → FirstDiffer bytes text a → FirstDiffer bytes text b → a ≡ b
one_line bytes text a b one two = elim (cases_lt one.common two.common) [
  | inl less ↦ absurd (not_earlier bytes text a b one two less)
  | inr most ↦ elim (cases_lt two.common one.common) [
    | inl less ↦ absurd (not_earlier bytes text b a two one less)
    | inr most' ↦ one.line_is ∙ ap (λ (k : ℕ). feeds (take k text) + 1) (omega (arith, most, most')) ∙ sym two.line_is
  ]
]
