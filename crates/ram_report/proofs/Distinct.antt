-- Answers to commands that read the same are the same.
use Rattle.std.proofs.Common.{◌≡◌, ℕ, ◌/◌, ◌%◌, ◌^◌, ◌<◌, Option, Some, None, List, ◌++◌, length, get_or, take, drop, codes, decimal, refl, sym, ◌∙◌, ap, arith}
use Rattle.std.specs.Option.{IfSome}
use Rattle.std.proofs.lemmas.Fmt.{decimal_injective}
use Rattle.std.proofs.lemmas.List.{append_cancel_left, take_at, drop_at}
use Rattle.hex.specs.Hex.{encode_with, lower_digits, hex_digit_value}
use Rattle.hex.proofs.HexLemmas.{IsDigits-lower_digits}
use Rattle.model_sense.specs.declared.sense.Sense.{Sense}
use Rattle.model_sense.specs.declared.answer.Answer.{Answer}
use Rattle.model_sense.specs.declared.answer.Answer.TheVariants.{Good, Check, Cut, Off, Fault}
use Rattle.ram_report.specs.ReportLines.{answer_words, sense_code, info_words, SenseFits, HasWords}

digit_same : (a b : ℕ) → a < 16 → b < 16 → get_or lower_digits a 0 ≡ get_or lower_digits b 0 → a ≡ b
digit_same a b low low' h =
    let e : Some a ≡ Some b = sym (IsDigits-lower_digits a low) ∙ ap hex_digit_value h ∙ IsDigits-lower_digits b low' in
    cc

length-sense_code : (s : Sense) → length (sense_code s) ≡ 7
unfolding encode_with
length-sense_code s = refl

-- the three numbers
pub record SameCode (s t : Sense) : Type 0 where
  pub key : s.key ≡ t.key
  pub asc : s.asc ≡ t.asc
  pub ascq : s.ascq ≡ t.ascq

code_same : (s t : Sense) → SenseFits s → SenseFits t → sense_code s ≡ sense_code t → SameCode s t
unfolding encode_with
code_same s t r q h =
    let key : s.key % 16 ≡ t.key % 16 = digit_same (s.key % 16) (t.key % 16) (omega arith) (omega arith) (ap (λ xs. get_or xs 0 0) h) in
    let asc_high : s.asc / 16 ≡ t.asc / 16 = digit_same (s.asc / 16) (t.asc / 16) (omega (arith, r.asc)) (omega (arith, q.asc)) (ap (λ xs. get_or xs 2 0) h) in
    let asc_low : s.asc % 16 ≡ t.asc % 16 = digit_same (s.asc % 16) (t.asc % 16) (omega arith) (omega arith) (ap (λ xs. get_or xs 3 0) h) in
    let ascq_high : s.ascq / 16 ≡ t.ascq / 16 = digit_same (s.ascq / 16) (t.ascq / 16) (omega (arith, r.ascq)) (omega (arith, q.ascq)) (ap (λ xs. get_or xs 5 0) h) in
    let ascq_low : s.ascq % 16 ≡ t.ascq % 16 = digit_same (s.ascq % 16) (t.ascq % 16) (omega arith) (omega arith) (ap (λ xs. get_or xs 6 0) h) in
    record {
      key = omega (arith, r.key, q.key);
      asc = omega arith;
      ascq = omega arith;
    }

info_same : (i j : Option ℕ) → IfSome i (λ n. n < 2 ^ 32) → IfSome j (λ n. n < 2 ^ 32) → info_words i ≡ info_words j → i ≡ j
info_same None None r q h = refl
info_same None (Some m) r q h = cc
info_same (Some n) None r q h = cc
info_same (Some n) (Some m) r q h =
    ap Some (decimal_injective n m (omega (arith, r)) (omega (arith, q)) (append_cancel_left (codes " info ") (decimal n) (decimal m) h))

sense_same : (s t : Sense) → SameCode s t → s.info ≡ t.info → s ≡ t
sense_same s t code info =
    let a : Sense = s in
    let make : ℕ → ℕ → ℕ → Option ℕ → Sense = λ k c q i. record { key = k; asc = c; ascq = q; info = i } in
    ap (λ k. make k s.asc s.ascq s.info) code.key ∙ ap (λ c. make t.key c s.ascq s.info) code.asc
    ∙ ap (λ q. make t.key t.asc q s.info) code.ascq ∙ ap (λ i. make t.key t.asc t.ascq i) info

check_same : (s t : Sense) → SenseFits s → SenseFits t → answer_words (Check s) ≡ answer_words (Check t) → s ≡ t
check_same s t r q h =
    let behind : sense_code s ++ info_words s.info ≡ sense_code t ++ info_words t.info = append_cancel_left (codes "check ") (sense_code s ++ info_words s.info) (sense_code t ++ info_words t.info) h in
    let code : sense_code s ≡ sense_code t =
    sym (take_at (sense_code s) (info_words s.info) 7 (length-sense_code s)) ∙ ap (take 7) behind ∙ take_at (sense_code t) (info_words t.info) 7 (length-sense_code t) in
    let info : info_words s.info ≡ info_words t.info =
    sym (drop_at (sense_code s) (info_words s.info) 7 (length-sense_code s)) ∙ ap (drop 7) behind ∙ drop_at (sense_code t) (info_words t.info) 7 (length-sense_code t) in
    sense_same s t (code_same s t r q code) (info_same s.info t.info r.info q.info info)

-- two lists that differ at a place
differ : {A : Type 0} (xs ys : List ℕ) (k x y : ℕ) → xs ≡ ys → get_or xs k 0 ≡ x → get_or ys k 0 ≡ y → (x ≡ y → ⊥) → A
differ xs ys k x y h at_x at_y ne = absurd (ne (sym at_x ∙ ap (λ zs. get_or zs k 0) h ∙ at_y))

pub answers_same : (a b : Answer) → HasWords a → HasWords b → answer_words a ≡ answer_words b → a ≡ b
answers_same Good Good r q h = refl
answers_same Good (Check t) r q h = differ _ _ 0 103 99 h refl refl (λ e. omega arith)
answers_same Good Cut r q h = differ _ _ 0 103 99 h refl refl (λ e. omega arith)
answers_same Good Off r q h = differ _ _ 0 103 111 h refl refl (λ e. omega arith)
answers_same (Check s) Good r q h = differ _ _ 0 99 103 h refl refl (λ e. omega arith)
answers_same (Check s) (Check t) r q h = ap Check (check_same s t r q h)
answers_same (Check s) Cut r q h = differ _ _ 1 104 117 h refl refl (λ e. omega arith)
answers_same (Check s) Off r q h = differ _ _ 0 99 111 h refl refl (λ e. omega arith)
answers_same Cut Good r q h = differ _ _ 0 99 103 h refl refl (λ e. omega arith)
answers_same Cut (Check t) r q h = differ _ _ 1 117 104 h refl refl (λ e. omega arith)
answers_same Cut Cut r q h = refl
answers_same Cut Off r q h = differ _ _ 0 99 111 h refl refl (λ e. omega arith)
answers_same Off Good r q h = differ _ _ 0 111 103 h refl refl (λ e. omega arith)
answers_same Off (Check t) r q h = differ _ _ 0 111 99 h refl refl (λ e. omega arith)
answers_same Off Cut r q h = differ _ _ 0 111 99 h refl refl (λ e. omega arith)
answers_same Off Off r q h = refl
answers_same Good Fault r q h = absurd q
answers_same (Check s) Fault r q h = absurd q
answers_same Cut Fault r q h = absurd q
answers_same Off Fault r q h = absurd q
answers_same Fault b r q h = absurd r
