-- In any language of lines: what a line reads as is what it means, where that holds of its words.
use Rattle.std.proofs.Common.{◌≡◌, ℕ, inl, inr, false, eqb, Option, Some, None, Result, List, [], get_or, sym, ◌∙◌, ap, subst, arith}
use Rattle.std.specs.Option.{ok_or}
use Rattle.std.specs.Result.{MatchResult}
use Rattle.std.proofs.lemmas.Bool.{eq-eqb, eqb-true}
use Rattle.std.proofs.lemmas.Bool.Decides.{nat_tests}
use Rattle.ram_text.specs.ScriptWords.{words_of, without_return}
use Rattle.ram_text.specs.Script.{ReadsBy}
use Rattle.ram_text.specs.ScriptReading.{reading_by, Puts}
use Rattle.ram_text.specs.declared.script.Unread.{Unread}
use Rattle.ram_text.proofs.ScriptReadings.{chosen}

-- what the same pairs have
pub some_same : {A : Type 0} (x y : A) → Some x ≡ Some y → x ≡ y
some_same x y h = cc

pub pair_same : {L : Type 0} (a b : L) (p q : List ℕ) → ◌≡◌ {A = Option (L × List ℕ)} (Some (a, p)) (Some (b, q)) → (a ≡ b) × (p ≡ q)
pair_same {L = L} a b p q h =
    let x : L × List ℕ = (a, p) in
    let y : L × List ℕ = (b, q) in
    let e : x ≡ y = some_same x y h in
    (ap (λ (t : L × List ℕ). t.0) e, ap (λ (t : L × List ℕ). t.1) e)

module _ {L : Type 0} (empty : L) (Forms : List (List ℕ) → L → List ℕ → Type 0) (by_words : List (List ℕ) → Option (L × List ℕ))
    (found : (words : List (List ℕ)) (read : L) (payload : List ℕ) → by_words words ≡ Some (read, payload) → Forms words read payload)
    (given : (words : List (List ℕ)) (read : L) (payload : List ℕ) → Forms words read payload → by_words words ≡ Some (read, payload)) where
  pub reads_found : (line : List ℕ) (read : L) (payload : List ℕ) → reading_by empty by_words (without_return line) ≡ Some (read, payload) → ReadsBy empty Forms line read payload
  reads_found line read payload h =
      elim (chosen (eqb (get_or (without_return line) 0 0) 35) (empty, []) (by_words (words_of (without_return line))) (read, payload) h) [
        | inl t ↦
            inl (record { sign = eqb-true _ 35 t.0; nothing = sym (ap (λ (p : L × List ℕ). p.0) t.1); no_payload = sym (ap (λ (p : L × List ℕ). p.1) t.1) })
        | inr t ↦ inr (record { no_sign = λ is. let e = eq-eqb _ 35 is in cc (t.0); form = found (words_of (without_return line)) read payload t.1 })
      ]

  pub reads_given : (line : List ℕ) (read : L) (payload : List ℕ) → ReadsBy empty Forms line read payload → reading_by empty by_words (without_return line) ≡ Some (read, payload)
  reads_given line read payload (inl is) =
      rw (eq-eqb (get_or (without_return line) 0 0) 35 is.sign) (let l = is.nothing in let p = is.no_payload in cc)
  reads_given line read payload (inr is) =
      rw (sign_missed (get_or (without_return line) 0 0) is.no_sign) (given (words_of (without_return line)) read payload is.form)
    where
      sign_missed : (byte : ℕ) → (byte ≡ 35 → ⊥) → eqb byte 35 ≡ false
      sign_missed byte ne = grind (arith, nat_tests)

  -- a line has at most one reading
  pub one_by : (line : List ℕ) (a b : L) (p q : List ℕ) → ReadsBy empty Forms line a p → ReadsBy empty Forms line b q → (a ≡ b) × (p ≡ q)
  one_by line a b p q first second =
      pair_same a b p q (sym (reads_given line a p first) ∙ reads_given line b q second)

  -- what was read is what the line means, and a line that was not read means nothing
  pub parsed_by : (o : Option L) (line body payload : List ℕ) (r : Result L Unread) (unread : Unread) → body ≡ without_return line → Puts (reading_by empty by_words body) o payload → r ≡ ok_or o unread
      → MatchResult r (λ read. ReadsBy empty Forms line read payload) (λ _. ((read : L) (bytes : List ℕ) → ¬ ReadsBy empty Forms line read bytes) × (payload ≡ []))
  parsed_by None line body payload r unread is puts same =
      let nothing : reading_by empty by_words (without_return line) ≡ None = ap (reading_by empty by_words) (sym is) ∙ puts.0 in
      subst (λ (x : Result L Unread). MatchResult x (λ read. ReadsBy empty Forms line read payload) (λ _. ((read : L) (bytes : List ℕ) → ¬ ReadsBy empty Forms line read bytes) × (payload ≡ []))) (sym same)
      (λ read bytes reads. let e = sym nothing ∙ reads_given line read bytes reads in cc (e), puts.1)
  parsed_by (Some read) line body payload r unread is puts same =
      subst (λ (x : Result L Unread). MatchResult x (λ read. ReadsBy empty Forms line read payload) (λ _. ((read : L) (bytes : List ℕ) → ¬ ReadsBy empty Forms line read bytes) × (payload ≡ []))) (sym same)
      (reads_found line read payload (ap (reading_by empty by_words) (sym is) ∙ puts))
