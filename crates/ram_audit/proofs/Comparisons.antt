-- One piece of a source beside the text: the same as far as it goes, or different in it.
use Rattle.std.proofs.Common.{◌≡◌, ◌≢◌, ℕ, ◌+◌, ◌-◌, ◌<◌, ◌≤◌, Option, Some, None, List, [], ◌∷◌, ◌++◌, length, take, drop, get_or, sym, ap, ap₂, ◌∙◌, subst, arith, length-drop}
use Rattle.std.specs.Option.{IfSome}
use Rattle.std.specs.Io.KnownBytes.{Consumes}
use Rattle.std.proofs.Math.Seq.{take-add}
use Rattle.std.proofs.lemmas.List.{get_or-drop, get_or_append_left, take-take, take-append-le, length-take-le, take_at, take_all, drop_at, append_assoc, length-append}
use Rattle.ram_audit.specs.Comparing.{IsMatch, DifferAtOnce, FirstDiffer, feeds}

-- ---- what was consumed

consumes_then : (a b c : Option (List ℕ)) (xs ys : List ℕ) → Consumes a b xs → Consumes b c ys → Consumes a c (xs ++ ys)
consumes_then None b c xs ys p q = tt
consumes_then (Some held) None c xs ys p q = absurd p
consumes_then (Some held) (Some rest) None xs ys p q = absurd q
consumes_then (Some held) (Some rest) (Some more) xs ys p q = p ∙ ap (λ (l : List ℕ). xs ++ l) q ∙ sym (append_assoc xs ys more)

-- the piece is what comes next in the text
same_piece : (rest into : List ℕ) (n same : ℕ) → n ≤ length into → IsMatch rest (take n into) same → n ≤ same → take n into ≡ take n rest
same_piece rest into n same fits match all =
    let few : same ≤ n = (let h = match.within' in let l = length-take-le n into fits in omega (arith, h, l)) in
    let is : same ≡ n = omega (arith, few, all) in
    sym (take-take n n into (omega arith)) ∙ subst (λ (k : ℕ). take k (take n into) ≡ take k rest) is match.same

pub goes_on : (a b c : Option (List ℕ)) (text into : List ℕ) (at n same : ℕ) → Consumes a b (take at text) → Consumes b c (take n into) → n ≤ length into
    → IsMatch (drop at text) (take n into) same → n ≤ same → Consumes a c (take (at + n) text)
goes_on a b c text into at n same before next fits match all =
    subst (Consumes a c) (ap (λ (l : List ℕ). take at text ++ l) (same_piece (drop at text) into n same fits match all) ∙ sym (take-add at n text))
    (consumes_then a b c (take at text) (take n into) before next)

pub stays_within : (text into : List ℕ) (at n same : ℕ) → at ≤ length text → n ≤ length into → IsMatch (drop at text) (take n into) same → n ≤ same → at + n ≤ length text
stays_within text into at n same inside fits match all = (let h = match.within in let l = length-drop at text in omega (arith, h, l, all, inside))

-- ---- where it differs

differ_from : (xs ys : List ℕ) → 0 < length xs → (0 < length ys → get_or xs 0 0 ≢ get_or ys 0 0) → DifferAtOnce xs ys
differ_from [] ys some apart = absurd (omega (arith, some))
differ_from (x ∷ xs) [] some apart = tt
differ_from (x ∷ xs) (y ∷ ys) some apart = apart (omega arith)

module _ (text into : List ℕ) (at n same line : ℕ) (inside : at ≤ length text) (fits : n ≤ length into) (match : IsMatch (drop at text) (take n into) same) (less : same < n)
    (line_is : line ≡ feeds (take (at + same) text) + 1) (rest : List ℕ) where
  front : List ℕ
  front = take at text

  piece : List ℕ
  piece = take n into

  all : List ℕ
  all = front ++ (piece ++ rest)

  long_front : length front ≡ at
  unfolding front
  long_front = length-take-le at text inside

  long_piece : length piece ≡ n
  unfolding piece
  long_piece = length-take-le n into fits

  long_all : length all ≡ at + (n + length rest)
  unfolding all
  long_all = length-append front (piece ++ rest) ∙ (let a = long_front in let b = long_piece in let c = length-append piece rest in omega (arith, a, b, c))

  same_front : take (at + same) all ≡ take (at + same) text
  unfolding all piece front
  same_front =
      take-add at same all
      ∙ ap₂ (λ (u v : List ℕ). u ++ take same v) (take_at front (piece ++ rest) at long_front) (drop_at front (piece ++ rest) at long_front)
      ∙ ap (λ (l : List ℕ). front ++ l) (take-append-le same piece rest (let p = long_piece in omega (arith, less, p)) ∙ match.same)
      ∙ sym (take-add at same text)

  in_piece : get_or (drop (at + same) all) 0 0 ≡ get_or piece same 0
  unfolding all
  in_piece =
      get_or-drop (at + same) all 0 0
      ∙ ap (λ (k : ℕ). get_or all k 0) (omega arith)
      ∙ sym (get_or-drop at all same 0)
      ∙ ap (λ (l : List ℕ). get_or l same 0) (drop_at front (piece ++ rest) at long_front)
      ∙ get_or_append_left piece rest 0 same (let p = long_piece in omega (arith, less, p))

  in_text : get_or (drop (at + same) text) 0 0 ≡ get_or (drop at text) same 0
  in_text = get_or-drop (at + same) text 0 0 ∙ ap (λ (k : ℕ). get_or text k 0) (omega arith) ∙ sym (get_or-drop at text same 0)

  differs : FirstDiffer all text line
  unfolding piece
  differs = record {
    common = at + same;
    in_bytes = (let l = long_all in omega (arith, l, less));
    in_text = (let h = match.within in let l = length-drop at text in omega (arith, h, l, inside));
    same = same_front;
    apart = differ_from (drop (at + same) all) (drop (at + same) text)
        (let l = long_all in let d = length-drop (at + same) all in omega (arith, l, d, less))
        (λ some e. match.ends
        (let d = length-drop (at + same) text in let d' = length-drop at text in omega (arith, d, d', some))
        (let p = long_piece in omega (arith, p, less))
        (sym in_piece ∙ e ∙ in_text));
    line_is = line_is;
  }

pub differs_here : (a b c : Option (List ℕ)) (text into : List ℕ) (at n same line : ℕ) → Consumes a b (take at text) → Consumes b c (take n into) → at ≤ length text → n ≤ length into
    → IsMatch (drop at text) (take n into) same → same < n → line ≡ feeds (take (at + same) text) + 1 → IfSome a (λ bytes. FirstDiffer bytes text line)
unfolding all front piece
differs_here None b c text into at n same line before next inside fits match less line_is = tt
differs_here (Some held) None c text into at n same line before next inside fits match less line_is = absurd before
differs_here (Some held) (Some mid) None text into at n same line before next inside fits match less line_is = absurd next
differs_here (Some held) (Some mid) (Some rest) text into at n same line before next inside fits match less line_is =
    by_all (differs text into at n same line inside fits match less line_is rest)
  where
    by_all : FirstDiffer (all text into at n same line inside fits match less line_is rest) text line → FirstDiffer held text line
    by_all here = subst (λ (bytes : List ℕ). FirstDiffer bytes text line) (sym (before ∙ ap (λ (l : List ℕ). take at text ++ l) next)) here

-- a slice to the end of the text is what it has from there on
pub to_end : (text into : List ℕ) (at n same : ℕ) → IsMatch (take (length text - at) (drop at text)) (take n into) same → IsMatch (drop at text) (take n into) same
to_end text into at n same match =
    subst (λ (xs : List ℕ). IsMatch xs (take n into) same) (take_all (length text - at) (drop at text) (let l = length-drop at text in omega (arith, l))) match
