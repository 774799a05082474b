-- Numbers of one digit and of two, as texts.
use Rattle.std.proofs.Common.{◌≡◌, ℕ, List, [], ◌∷◌, ◌++◌, codes, decimal, ap, ◌∙◌, arith}
use Rattle.std.proofs.lemmas.Fmt.{decimal_digit, decimal_step}

pub zero_text : decimal 0 ≡ codes "0"
zero_text = decimal_digit 0 (omega arith)

pub one_text : decimal 1 ≡ codes "1"
one_text = decimal_digit 1 (omega arith)

pub two_text : decimal 2 ≡ codes "2"
two_text = decimal_digit 2 (omega arith)

pub three_text : decimal 3 ≡ codes "3"
three_text = decimal_digit 3 (omega arith)

pub four_text : decimal 4 ≡ codes "4"
four_text = decimal_digit 4 (omega arith)

pub nine_text : decimal 9 ≡ codes "9"
nine_text = decimal_digit 9 (omega arith)

pub twelve_text : decimal 12 ≡ codes "12"
twelve_text = decimal_step 12 (omega arith) (omega arith) ∙ ap (λ (l : List ℕ). l ++ (50 ∷ [])) one_text

pub thirteen_text : decimal 13 ≡ codes "13"
thirteen_text = decimal_step 13 (omega arith) (omega arith) ∙ ap (λ (l : List ℕ). l ++ (51 ∷ [])) one_text

pub sixteen_text : decimal 16 ≡ codes "16"
sixteen_text = decimal_step 16 (omega arith) (omega arith) ∙ ap (λ (l : List ℕ). l ++ (54 ∷ [])) one_text

pub thirty_three_text : decimal 33 ≡ codes "33"
thirty_three_text = decimal_step 33 (omega arith) (omega arith) ∙ ap (λ (l : List ℕ). l ++ (51 ∷ [])) three_text
