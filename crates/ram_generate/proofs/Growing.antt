-- A script that grows by steps: what stands so far, and what is still to come.
use Rattle.std.proofs.Common.{◌≡◌, ℕ, suc, ◌+◌, ◌-◌, ◌<◌, ◌≤◌, List, [], ◌++◌, Bool, true, false, refl, sym, ap, ◌∙◌, subst, arith, length, decimal, append_assoc, append-nil, length-append}
use Rattle.std.specs.Prelude.{nat_le, ◌==◌, if◌then◌else◌}
use Rattle.std.proofs.lemmas.Fmt.{length-decimal-le}
use Rattle.std.proofs.lemmas.Bool.{le-leb, lt-leb, eqb-true, false_from_ne_true}
use Rattle.rand_pcg.specs.Lcg.{Lcg}
use Rattle.ram_generate.specs.Drawing.{draw}
use Rattle.ram_generate.specs.Script.{Drawn, AddsStep, write_step, read_step, fail_step, wear_step, cut_step, power_step, step_by, one_step, steps_text}

-- nothing is drawn yet
pub to_come : (script : List ℕ) (count : ℕ) (words : Lcg) → script ++ steps_text (count - 0) words ≡ script ++ steps_text count words
to_come script count words = ap (λ (n : ℕ). script ++ steps_text n words) (omega arith)

first_step : (n : ℕ) (words : Lcg) → steps_text (suc n) words ≡ (one_step words).0 ++ steps_text n (one_step words).1
unfolding steps_text
first_step n words = refl

no_step : (words : Lcg) → steps_text 0 words ≡ []
unfolding steps_text
no_step words = refl

-- one more
pub grown : (script whole : List ℕ) (count k : ℕ) (words : Lcg) → k < count → script ++ steps_text (count - k) words ≡ whole
    → (script ++ (one_step words).0) ++ steps_text (count - (k + 1)) (one_step words).1 ≡ whole
grown script whole count k words more so_far =
    append_assoc script (one_step words).0 (steps_text (count - (k + 1)) (one_step words).1)
    ∙ ap (λ (l : List ℕ). script ++ l) (sym (first_step (count - (k + 1)) words))
    ∙ ap (λ (n : ℕ). script ++ steps_text n words) (omega (arith, more))
    ∙ so_far

-- all
pub whole_script : (script whole : List ℕ) (count k : ℕ) (words : Lcg) → count ≤ k → script ++ steps_text (count - k) words ≡ whole → script ≡ whole
whole_script script whole count k words done so_far =
    sym (append-nil script)
    ∙ ap (λ (l : List ℕ). script ++ l) (sym (no_step words))
    ∙ ap (λ (n : ℕ). script ++ steps_text n words) (omega (arith, done))
    ∙ so_far

-- the last kinds of step are power lines
pub step_power : (kind : ℕ) (words : Lcg) → 98 ≤ kind → step_by kind words ≡ power_step words
step_power kind words many =
    by_tests (nat_le kind 44) (nat_le kind 94) (kind == 95) (kind == 96) (kind == 97)
    (lt-leb kind 44 (omega (arith, many)))
    (lt-leb kind 94 (omega (arith, many)))
    (false_from_ne_true (kind == 95) (λ e. let same = eqb-true kind 95 e in absurd (omega (arith, same, many))))
    (false_from_ne_true (kind == 96) (λ e. let same = eqb-true kind 96 e in absurd (omega (arith, same, many))))
    (false_from_ne_true (kind == 97) (λ e. let same = eqb-true kind 97 e in absurd (omega (arith, same, many))))
  where
    by_tests : (a b c d e : Bool) → a ≡ false → b ≡ false → c ≡ false → d ≡ false → e ≡ false
        → (if a then write_step words else if b then read_step words else if c then fail_step words else if d then wear_step words else if e then cut_step words else power_step words) ≡ power_step words
    by_tests false false false false false ea eb ec ed ee = refl
    by_tests true b c d e ea eb ec ed ee = absurd cc
    by_tests false true c d e ea eb ec ed ee = absurd cc
    by_tests false false true d e ea eb ec ed ee = absurd cc
    by_tests false false false true e ea eb ec ed ee = absurd cc
    by_tests false false false false true ea eb ec ed ee = absurd cc

-- the first kinds of step are writes
pub step_write : (kind : ℕ) (words : Lcg) → kind ≤ 44 → step_by kind words ≡ write_step words
step_write kind words few = by_test (nat_le kind 44) (le-leb kind 44 few)
  where
    by_test : (a : Bool) → a ≡ true
        → (if a then write_step words else if nat_le kind 94 then read_step words else if kind == 95 then fail_step words else if kind == 96 then wear_step words else if kind == 97 then cut_step words else power_step words) ≡ write_step words
    by_test true ea = refl
    by_test false ea = absurd cc

-- the next kinds are reads
pub step_read : (kind : ℕ) (words : Lcg) → 44 < kind → kind ≤ 94 → step_by kind words ≡ read_step words
step_read kind words more few = by_tests (nat_le kind 44) (nat_le kind 94) (lt-leb kind 44 more) (le-leb kind 94 few)
  where
    by_tests : (a b : Bool) → a ≡ false → b ≡ true
        → (if a then write_step words else if b then read_step words else if kind == 95 then fail_step words else if kind == 96 then wear_step words else if kind == 97 then cut_step words else power_step words) ≡ read_step words
    by_tests false true ea eb = refl
    by_tests false false ea eb = absurd cc
    by_tests true b ea eb = absurd cc

-- the script grew by a step of the kind that was drawn
pub grown_by : (old new : List ℕ) (words next after : Lcg) (kind : ℕ) (step : Drawn) → step_by kind next ≡ step → kind ≡ (draw 100 words).0 → next ≡ (draw 100 words).1
    → AddsStep old new after step → AddsStep old new after (one_step words)
grown_by old new words next after kind step same kind_is next_is added =
    subst (λ (drawn : Drawn). AddsStep old new after drawn)
    (sym same ∙ ap (λ (k : ℕ). step_by k next) kind_is ∙ ap (λ (w : Lcg). step_by (draw 100 words).0 w) next_is)
    added

-- a number below a thousand adds three digits at most
pub short_number : (old new : List ℕ) (n : ℕ) → n < 1000 → new ≡ old ++ decimal n → length new ≤ length old + 3
short_number old new n small grew =
    let digits = length-decimal-le 3 n (omega arith) (omega (arith, small)) (omega (arith, small)) in
    let added = ap (λ (l : List ℕ). length l) grew ∙ length-append old (decimal n) in
    omega (arith, digits, added)
