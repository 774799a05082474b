-- Bytes that were put one after another.
use Rattle.std.proofs.Common.{◌≡◌, ap, ap₂, ◌∙◌, List, [], ◌++◌}
use Rattle.std.specs.Prelude.{ℕ}
use Rattle.std.proofs.lemmas.List.{append_assoc}
use Rattle.model_nbd.specs.Messages.{option_reply}

-- a head and what follows it, behind others
pub put_headed : (reply head two is a b : List ℕ) → head ≡ is → a ≡ reply ++ head → b ≡ a ++ two → b ≡ reply ++ (is ++ two)
put_headed reply head two is a b same first second =
    second ∙ ap (λ (l : List ℕ). l ++ two) first ∙ append_assoc reply head two ∙ ap (λ (l : List ℕ). reply ++ (l ++ two)) same

-- the three replies to a client that asks about the disc, behind others
pub put_facts : (number : ℕ) (reply export export' sizes sizes' a b c : List ℕ) → export ≡ export' → sizes ≡ sizes'
    → a ≡ reply ++ option_reply number 3 export → b ≡ a ++ option_reply number 3 sizes → c ≡ b ++ option_reply number 1 []
    → c ≡ reply ++ (option_reply number 3 export' ++ option_reply number 3 sizes' ++ option_reply number 1 [])
put_facts number reply export export' sizes sizes' a b c same same' first second third =
    third ∙ ap (λ (l : List ℕ). l ++ option_reply number 1 []) (second ∙ ap (λ (l : List ℕ). l ++ option_reply number 3 sizes) first)
    ∙ ap (λ (l : List ℕ). l ++ option_reply number 1 []) (append_assoc reply (option_reply number 3 export) (option_reply number 3 sizes))
    ∙ append_assoc reply (option_reply number 3 export ++ option_reply number 3 sizes) (option_reply number 1 [])
    ∙ ap₂ (λ (x y : List ℕ). reply ++ (option_reply number 3 x ++ option_reply number 3 y ++ option_reply number 1 [])) same same'
