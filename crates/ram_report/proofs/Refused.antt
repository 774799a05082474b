-- What is due, and what the sink refused, where it failed while a text was put.
use Rattle.std.proofs.Common.{◌≡◌, ℕ, ◌+◌, ◌-◌, ◌<◌, ◌≤◌, ◌⊎◌, Option, None, Some, List, [], ◌++◌, length, take, drop, min, sym, ap, refl, inl, inr, ◌∙◌, arith, append-nil, length-append, length-take, length-drop, take-add}
use Rattle.std.proofs.lemmas.Bool.{cases_lt}
use Rattle.std.proofs.lemmas.List.{take_rest, take-take, take-append-drop, take-append-le, drop-drop, drop_min, drop_all, drop-append-le}
use Rattle.std.proofs.Math.Seq.{take-append-add, take-append_seam}
use Rattle.std.specs.Io.KnownBytes.{append_known}
use Rattle.model_counts.specs.Counts.{counted}
use Rattle.ram_outside.specs.Sink.{FailsOnce, length_with}
use Rattle.ram_report.specs.Writer.{IsPut, IsCutShort}
use Rattle.ram_report.proofs.Puts.{append_known-twice, length_with-append}

-- the sink refused what is gathered, or its end: all that is due was offered
pub refused_due : (refused : Option ℕ) (written : Option (List ℕ)) (bytes gathered : List ℕ) (sent : ℕ) → drop sent bytes ≡ gathered
    → refused ≡ length_with written (length (take (length bytes - sent) (drop sent bytes))) → refused ≡ length_with (append_known written gathered) 0
refused_due refused written bytes gathered sent is rule =
    rule ∙ ap (length_with written) (ap length (take_rest bytes sent ∙ is) ∙ let e : length gathered ≡ length gathered + 0 = omega arith in e) ∙ sym (length_with-append written gathered 0)

-- the first n of what was gathered and of a text behind it, and what is gathered still
split_at : (held text : List ℕ) (n : ℕ) → take n (held ++ text) ++ drop n held ≡ held ++ take (n - length held) text
split_at held text n = cases (cases_lt n (length held))
  where
    cases : (n < length held) ⊎ (length held ≤ n) → take n (held ++ text) ++ drop n held ≡ held ++ take (n - length held) text
    cases (inl lt) =
        ap (λ (xs : List ℕ). xs ++ drop n held) (take-append-le n held text (omega (arith, lt))) ∙ take-append-drop n held
        ∙ sym (ap (λ (k : ℕ). held ++ take k text) (let e : n - length held ≡ 0 = omega (arith, lt) in e) ∙ append-nil held)
    cases (inr le) =
        ap (λ (xs : List ℕ). take n (held ++ text) ++ xs) (drop_all n held le) ∙ append-nil (take n (held ++ text))
        ∙ ap (λ (k : ℕ). take k (held ++ text)) (let e : n ≡ length held + (n - length held) = omega (arith, le) in e) ∙ take-append-add held text (n - length held)

-- The room was filled with the first bytes of the text, and the sink took n of all that: what it did not take of the text is taken back.
module _ (written written' : Option (List ℕ)) (bytes text : List ℕ) (sent first n : ℕ) (within : sent ≤ length bytes) where
  abbrev whole : List ℕ
  whole = bytes ++ take first text

  abbrev offered_bytes : List ℕ
  offered_bytes = take (length whole - sent) (drop sent whole)

  offered_is : offered_bytes ≡ drop sent bytes ++ take first text
  offered_is = take_rest whole sent ∙ drop-append-le sent bytes (take first text) within

  left_is : drop (min (length bytes) (sent + n)) (take (length bytes) whole) ≡ drop n (drop sent bytes)
  left_is =
      ap (drop (min (length bytes) (sent + n))) (take-append_seam bytes (take first text))
      ∙ ap (λ (k : ℕ). drop k bytes) (let e : min (length bytes) (sent + n) ≡ min (sent + n) (length bytes) = omega arith in e)
      ∙ drop_min (sent + n) bytes ∙ sym (drop-drop n sent bytes)

  pub cut_full : (refused : Option ℕ) (f f' : ℕ) → 0 < first → first ≤ length text → n < length offered_bytes → written' ≡ append_known written (take n offered_bytes)
      → refused ≡ length_with written (length offered_bytes) → FailsOnce f f'
      → IsCutShort refused (append_known written (drop sent bytes)) (append_known written' (drop (min (length bytes) (sent + n)) (take (length bytes) whole))) f f' text
  cut_full refused f f' some fits below is refuses count = record {
    n = n - length (drop sent bytes);
    grew = ap (append_known written') left_is
        ∙ ap (λ (a : Option (List ℕ)). append_known a (drop n (drop sent bytes))) (is ∙ ap (λ (xs : List ℕ). append_known written (take n xs)) offered_is)
        ∙ append_known-twice written (take n (drop sent bytes ++ take first text)) (drop n (drop sent bytes))
        ∙ ap (append_known written) (split_at (drop sent bytes) (take first text) n)
        ∙ sym (append_known-twice written (drop sent bytes) (take (n - length (drop sent bytes)) (take first text)))
        ∙ ap (append_known (append_known written (drop sent bytes))) (take-take (n - length (drop sent bytes)) first text few);
    offered = first;
    some = some;
    within = fits;
    refused_is = refuses ∙ ap (length_with written) sizes ∙ sym (length_with-append written (drop sent bytes) first);
    count = count;
  }
    where
      sizes : length offered_bytes ≡ length (drop sent bytes) + first
      sizes = ap length offered_is ∙ omega (arith, length-append (drop sent bytes) (take first text), length-take first text, fits)

      few : n - length (drop sent bytes) ≤ first
      few = omega (arith, below, sizes)

-- The room was filled with the first bytes of the text, and all of it was taken; the sink failed at the rest of the text.
module _ (refused : Option ℕ) (before written written' : Option (List ℕ)) (text gathered gathered' : List ℕ) (first n f g h : ℕ) where
  abbrev rest : List ℕ
  rest = take (length text - first) (drop first text)

  nothing_gathered : (a : Option (List ℕ)) → append_known a [] ≡ a
  nothing_gathered None = refl
  nothing_gathered (Some bytes) = ap Some (append-nil bytes)

  pub cut_rest : first ≤ length text → gathered ≡ [] → gathered' ≡ gathered → IsPut before (append_known written gathered) f g (take first text) → n < length rest
      → written' ≡ append_known written (take n rest) → refused ≡ length_with written (length rest) → FailsOnce g h → IsCutShort refused before (append_known written' gathered') f h text
  cut_rest fits none still put below is refuses count = record {
    n = first + n;
    grew = ap (append_known written') (still ∙ none) ∙ nothing_gathered written' ∙ is ∙ ap (λ (a : Option (List ℕ)). append_known a (take n rest)) sent
        ∙ append_known-twice before (take first text) (take n rest)
        ∙ ap (λ (xs : List ℕ). append_known before (take first text ++ take n xs)) (take_rest text first) ∙ ap (append_known before) (sym (take-add first n text));
    offered = length text;
    some = omega (arith, below, length-take (length text - first) (drop first text), length-drop first text);
    within = omega arith;
    refused_is = refuses ∙ ap (λ (a : Option (List ℕ)). length_with a (length rest)) sent ∙ length_with-append before (take first text) (length rest)
        ∙ ap (length_with before) (omega (arith, fits, length-take first text, length-take (length text - first) (drop first text), length-drop first text));
    count = count ∙ ap (λ k. counted k 1) put.count;
  }
    where
      sent : written ≡ append_known before (take first text)
      sent = sym (ap (append_known written) none ∙ nothing_gathered written) ∙ put.grew
