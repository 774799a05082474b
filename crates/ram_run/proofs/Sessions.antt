-- Which words ask for a session: those of which each behind the name reads as a fault.
use Rattle.std.specs.Prelude.{◌≡◌, ℕ, suc, ◌-◌, ◌≤◌, ◌&&◌, true, Bool, Option, Some, None, is_some, List, [], ◌∷◌, length, map, get_or, take, drop, codes}
use Rattle.std.specs.List.{list_all}
use Rattle.std.specs.Borrow.{Bor}
use Rattle.std.proofs.Common.{arith, refl, sym, ap, ◌∙◌, subst}
use Rattle.std.proofs.lemmas.Bool.{and_parts}
use Rattle.ram_text.specs.declared.script.Line.{Line}
use Rattle.ram_text.specs.Faults.{AreFaultWords, fault_word}
use Rattle.ram_text.proofs.Faults.{found_word, given_word}
use Rattle.ram_run.specs.declared.form.Form.{Form}
use Rattle.ram_run.specs.declared.form.Form.TheVariants as forms
use Rattle.ram_run.specs.Words.{IsNbd, IsMirror, IsWordForm, AsksForSession, SessionRule, MirrorRule, LongerRule, FormRule}

-- words that all read as faults
faults_found : (asked : List (Bor (List ℕ))) → list_all (λ (word : Bor (List ℕ)). is_some (fault_word word.now)) asked ≡ true
    → (faults : List Line) × AreFaultWords (map (λ (word : Bor (List ℕ)). word.now) asked) faults
faults_found [] all = ([], refl)
faults_found (word ∷ asked) all =
    let parts = and_parts (is_some (fault_word word.now)) (list_all (λ (w : Bor (List ℕ)). is_some (fault_word w.now)) asked) all in
    let later = faults_found asked parts.1 in
    one (fault_word word.now) refl parts.0 later
  where
    one : (found : Option Line) → fault_word word.now ≡ found → is_some found ≡ true
        → (faults : List Line) × AreFaultWords (map (λ (w : Bor (List ℕ)). w.now) asked) faults
        → (faults : List Line) × AreFaultWords (word.now ∷ map (λ (w : Bor (List ℕ)). w.now) asked) faults
    one None is some later = cc
    one (Some line) is some later = (line ∷ later.0, (found_word word.now line is, later.1))

-- and the other way round
all_read : (asked : List (Bor (List ℕ))) (faults : List Line) → AreFaultWords (map (λ (word : Bor (List ℕ)). word.now) asked) faults
    → list_all (λ (word : Bor (List ℕ)). is_some (fault_word word.now)) asked ≡ true
all_read [] faults are = refl
all_read (word ∷ asked) [] are = absurd are
all_read (word ∷ asked) (line ∷ faults) are =
    both (is_some (fault_word word.now)) (list_all (λ (w : Bor (List ℕ)). is_some (fault_word w.now)) asked)
    (ap is_some (given_word word.now line are.0)) (all_read asked faults are.1)
  where
    both : (a b : Bool) → a ≡ true → b ≡ true → (a && b) ≡ true
    both a b x y = cc

-- all of a list
take_all : (l : List (Bor (List ℕ))) → take (length l) l ≡ l
take_all [] = refl
take_all (x ∷ l) = ap (λ (m : List (Bor (List ℕ))). x ∷ m) (take_all l)

less_two : (l : List (Bor (List ℕ))) → take (suc (suc (length l)) - 2) l ≡ l
less_two l = ap (λ (n : ℕ). take n l) (omega arith) ∙ take_all l

-- the words behind the first two
behind_two : (words : List (Bor (List ℕ))) (none : Bor (List ℕ)) → 2 ≤ length words
    → map (λ (word : Bor (List ℕ)). word.now) words ≡ (get_or words 0 none).now ∷ (get_or words 1 none).now
    ∷ map (λ (word : Bor (List ℕ)). word.now) (take (length words - 2) (drop 2 words))
behind_two [] none two = absurd (omega (arith, two))
behind_two (a ∷ []) none two = absurd (omega (arith, two))
behind_two (a ∷ b ∷ words) none two =
    ap (λ (l : List (Bor (List ℕ))). a.now ∷ b.now ∷ map (λ (word : Bor (List ℕ)). word.now) l) (sym (less_two words))

module _ (words : List (Bor (List ℕ))) (none : Bor (List ℕ)) where
  pub asks_for_session : 2 ≤ length words → (get_or words 0 none).now ≡ codes "nbd"
      → list_all (λ (word : Bor (List ℕ)). is_some (fault_word word.now)) (take (length words - 2) (drop 2 words)) ≡ true
      → AsksForSession (get_or words 1 none).now (map (λ (word : Bor (List ℕ)). word.now) (take (length words - 2) (drop 2 words)))
      (map (λ (word : Bor (List ℕ)). word.now) words)
  asks_for_session two named all =
      let found = faults_found (take (length words - 2) (drop 2 words)) all in
      record {
        faults = found.0;
        read = found.1;
        words_are = behind_two words none two
            ∙ ap (λ (first : List ℕ). first ∷ (get_or words 1 none).now ∷ map (λ (word : Bor (List ℕ)). word.now) (take (length words - 2) (drop 2 words))) named;
      }

-- what words of a session are
pub record IsSession (words : List (Bor (List ℕ))) (none : Bor (List ℕ)) : Type 0 where
  pub two : 2 ≤ length words
  pub named : (get_or words 0 none).now ≡ codes "nbd"
  pub all : list_all (λ (word : Bor (List ℕ)). is_some (fault_word word.now)) (take (length words - 2) (drop 2 words)) ≡ true

pub session_words : (words : List (Bor (List ℕ))) (none : Bor (List ℕ)) → IsNbd (map (λ (word : Bor (List ℕ)). word.now) words)
    → IsSession words none
session_words [] none (name, faults, (asked, is, are)) = absurd (omega (arith, ap length is))
session_words (a ∷ []) none (name, faults, (asked, is, are)) = absurd (omega (arith, ap length is))
session_words (a ∷ b ∷ rest) none (name, faults, (asked, is, are)) = record {
  two = omega arith;
  named = ap (λ (l : List (List ℕ)). get_or l 0 []) is;
  all = ap (list_all (λ (word : Bor (List ℕ)). is_some (fault_word word.now))) (less_two rest)
      ∙ all_read rest faults (subst (λ (l : List (List ℕ)). AreFaultWords l faults) (sym (ap (λ (l : List (List ℕ)). drop 2 l) is)) are);
}

-- what words of a mirror are
pub record IsPair (words : List (Bor (List ℕ))) (none : Bor (List ℕ)) : Type 0 where
  pub three : length words ≡ 3
  pub named : (get_or words 0 none).now ≡ codes "mirror"
  pub differ : (get_or words 1 none).now ≡ (get_or words 2 none).now → ⊥

pub pair_words : (words : List (Bor (List ℕ))) (none : Bor (List ℕ)) → IsMirror (map (λ (word : Bor (List ℕ)). word.now) words) → IsPair words none
pair_words [] none (a, b, is) = absurd (omega (arith, ap length is.0))
pair_words (u ∷ []) none (a, b, is) = absurd (omega (arith, ap length is.0))
pair_words (u ∷ v ∷ []) none (a, b, is) = absurd (omega (arith, ap length is.0))
pair_words (u ∷ v ∷ w ∷ []) none (a, b, is) = record {
  three = refl;
  named = ap (λ (l : List (List ℕ)). get_or l 0 []) is.0;
  differ = λ same. is.1 (sym (ap (λ (l : List (List ℕ)). get_or l 1 []) is.0) ∙ same ∙ ap (λ (l : List (List ℕ)). get_or l 2 []) is.0);
}
pair_words (u ∷ v ∷ w ∷ x ∷ rest) none (a, b, is) = absurd (omega (arith, ap length is.0))

-- words that ask for a session, and else for a mirror
pub session_longer : (words : List (List ℕ)) (form : Form) → SessionRule words (Some form) → LongerRule words (Some form)
session_longer words (forms.Nbd name asked) rule = rule
session_longer words (forms.Run kind name) rule = absurd rule
session_longer words (forms.Generate name seed) rule = absurd rule
session_longer words (forms.Audit name) rule = absurd rule
session_longer words (forms.Check name) rule = absurd rule
session_longer words (forms.Mirror a b) rule = absurd rule
session_longer words forms.Help rule = absurd rule
session_longer words forms.Version rule = absurd rule

pub mirror_longer : (words : List (List ℕ)) (result : Option Form) → ¬ IsNbd words → MirrorRule words result → LongerRule words result
mirror_longer words None none rule = (none, rule)
mirror_longer words (Some (forms.Mirror a b)) none rule = rule
mirror_longer words (Some (forms.Nbd name asked)) none rule = absurd rule
mirror_longer words (Some (forms.Run kind name)) none rule = absurd rule
mirror_longer words (Some (forms.Generate name seed)) none rule = absurd rule
mirror_longer words (Some (forms.Audit name)) none rule = absurd rule
mirror_longer words (Some (forms.Check name)) none rule = absurd rule
mirror_longer words (Some forms.Help) none rule = absurd rule
mirror_longer words (Some forms.Version) none rule = absurd rule

-- words of no other form
pub longer_form : (words : List (List ℕ)) (result : Option Form) → LongerRule words result
    → (¬ IsNbd words → ¬ IsMirror words → ¬ IsWordForm words) → FormRule words result
longer_form words None rule others = others rule.0 rule.1
longer_form words (Some (forms.Nbd name asked)) rule others = rule
longer_form words (Some (forms.Mirror a b)) rule others = rule
longer_form words (Some (forms.Run kind name)) rule others = absurd rule
longer_form words (Some (forms.Generate name seed)) rule others = absurd rule
longer_form words (Some (forms.Audit name)) rule others = absurd rule
longer_form words (Some (forms.Check name)) rule others = absurd rule
longer_form words (Some forms.Help) rule others = absurd rule
longer_form words (Some forms.Version) rule others = absurd rule
