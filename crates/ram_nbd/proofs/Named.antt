-- The answer to EXPORT_NAME.
use Rattle.std.proofs.Common.{◌≡◌, ap, ◌∙◌, true, false, List, [], ◌∷◌, ◌++◌, length, arith}
use Rattle.std.specs.Prelude.{ℕ, replicate}
use Rattle.byteorder.specs.Endian.{big_bytes}
use Rattle.model_nbd.specs.Handshake.{Serving, OptionAnswer, export_name_answer}
use Rattle.model_nbd.specs.declared.NextPhase.TheVariants.{Transmission}
use Rattle.model_nbd.specs.declared.TheConstants.{EXPORT_FLAGS}

abbrev answer : List ℕ → OptionAnswer
answer bytes = record { bytes = bytes; next = Transmission }

module _ (size : ℕ) (reply head : List ℕ) (empty : reply ≡ []) (is : head ≡ big_bytes 8 size ++ big_bytes 2 EXPORT_FLAGS) where
  pub padded : (name bytes : List ℕ) (a : List ℕ) → length name ≡ 0 → a ≡ reply ++ head → bytes ≡ a ++ replicate 124 0
      → answer bytes ≡ export_name_answer (Serving size) true name
  padded [] bytes a none first second =
      ap answer (second ∙ ap (λ (l : List ℕ). l ++ replicate 124 0) (first ∙ ap (λ (l : List ℕ). l ++ head) empty ∙ is))
  padded (x ∷ name) bytes a none first second = absurd (omega (arith, none))

  pub bare : (name bytes : List ℕ) → length name ≡ 0 → bytes ≡ reply ++ head → answer bytes ≡ export_name_answer (Serving size) false name
  bare [] bytes none first = ap answer (first ∙ ap (λ (l : List ℕ). l ++ head) empty ∙ is)
  bare (x ∷ name) bytes none first = absurd (omega (arith, none))
