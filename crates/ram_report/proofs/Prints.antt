-- One printed text after another.
use Rattle.std.proofs.Common.{ℕ, ◌+◌, Option, List, Result, Ok, Err, ◌++◌, length, take, min, sym, ap, ◌∙◌, arith, length-append}
use Rattle.std.proofs.lemmas.List.{take-append-le, take_min}
use Rattle.std.proofs.Math.Seq.{take-append-add}
use Rattle.std.specs.Io.KnownBytes.{append_known}
use Rattle.model_counts.specs.Counts.{counted}
use Rattle.ram_outside.specs.Sink.{length_with}
use Rattle.ram_report.specs.declared.gathered.SinkFailed.{SinkFailed}
use Rattle.ram_report.specs.Writer.{IsPut, IsCutShort, TextRule}
use Rattle.ram_report.proofs.Puts.{append_known-twice, length_with-append}

-- both texts were put
pub put_both : (a b c : Option (List ℕ)) (f g h : ℕ) (s t : List ℕ) → IsPut a b f g s → IsPut b c g h t → IsPut a c f h (s ++ t)
put_both a b c f g h s t first second = record {
  grew = second.grew ∙ ap (λ (x : Option (List ℕ)). append_known x t) first.grew ∙ append_known-twice a s t;
  count = omega (arith, first.count, second.count);
}

-- the first was put, and the second was cut off
pub put_cut : {o : Option ℕ} (a b c : Option (List ℕ)) (f g h : ℕ) (s t : List ℕ) → IsPut a b f g s → IsCutShort o b c g h t → IsCutShort o a c f h (s ++ t)
put_cut a b c f g h s t first second = record {
  n = length s + second.n;
  grew = second.grew ∙ ap (λ (x : Option (List ℕ)). append_known x (take second.n t)) first.grew ∙ append_known-twice a s (take second.n t) ∙ ap (append_known a) (sym (take-append-add s t second.n));
  offered = length s + second.offered;
  some = omega (arith, second.some);
  within = omega (arith, second.within, length-append s t);
  refused_is = second.refused_is ∙ ap (λ (x : Option (List ℕ)). length_with x second.offered) first.grew ∙ length_with-append a s second.offered;
  count = second.count ∙ ap (λ n. counted n 1) first.count;
}

-- the first was cut off, and nothing of the second came
pub cut_first : {o : Option ℕ} (a b : Option (List ℕ)) (f g : ℕ) (s t : List ℕ) → IsCutShort o a b f g s → IsCutShort o a b f g (s ++ t)
cut_first a b f g s t first = record {
  n = min first.n (length s);
  grew = first.grew ∙ ap (append_known a) (sym (take_min first.n s) ∙ sym (take-append-le (min first.n (length s)) s t (omega arith)));
  offered = first.offered;
  some = first.some;
  within = omega (arith, first.within, length-append s t);
  refused_is = first.refused_is;
  count = first.count;
}

-- the first was put, and the second ended so
pub put_then : (o : Option ℕ) (a b c : Option (List ℕ)) (f g h : ℕ) (s t : List ℕ) → IsPut a b f g s → (answer : Result (Unit {0}) SinkFailed) → TextRule o b c g h t answer → TextRule o a c f h (s ++ t) answer
put_then o a b c f g h s t first (Ok done) second = put_both a b c f g h s t first second
put_then o a b c f g h s t first (Err failed) second = put_cut a b c f g h s t first second

-- a sector's line: its words, its digits and its end
pub put_four : (o : Option ℕ) (a b c d e : Option (List ℕ)) (f g h i j : ℕ) (s t u v : List ℕ) → IsPut a b f g s → IsPut b c g h t → IsPut c d h i u → (answer : Result (Unit {0}) SinkFailed) → TextRule o d e i j v answer → TextRule o a e f j (s ++ t ++ u ++ v) answer
put_four o a b c d e f g h i j s t u v first second third answer last =
    put_then o a d e f i j (s ++ t ++ u) v (put_both a c d f h i (s ++ t) u (put_both a b c f g h s t first second) third) answer last
