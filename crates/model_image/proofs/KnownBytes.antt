-- Steps on bytes that may not be known, one after another.
use Rattle.std.specs.Prelude.{◌≡◌, Option, Some, None, MatchOption, List, ℕ}
use Rattle.std.specs.Option.{option_map, ForSome}
use Rattle.std.proofs.Common.{refl, sym, subst}
use Rattle.model_bytes.specs.Bytes.{PartlyPut}
use Rattle.model_bytes.specs.Known.{WhereKnown}

-- one step after another
pub known_then : (R Q S : List ℕ → List ℕ → Type 0) → ((a b c : List ℕ) → R a b → Q b c → S a c) → (o p q : Option (List ℕ)) → WhereKnown o p R → WhereKnown p q Q → WhereKnown o q S
known_then R Q S step None None None one two = tt
known_then R Q S step None None (Some c) one two = absurd two
known_then R Q S step None (Some b) q one two = absurd one
known_then R Q S step (Some a) None q one two = absurd one
known_then R Q S step (Some a) (Some b) None one two = absurd two
known_then R Q S step (Some a) (Some b) (Some c) one two = step a b c one two

-- a whole change
pub known_change : (change : List ℕ → List ℕ) (o p : Option (List ℕ)) → p ≡ option_map change o → WhereKnown o p (λ held held'. held' ≡ change held)
known_change change o p e = subst (λ q. WhereKnown o q (λ held held'. held' ≡ change held)) (sym e) (cases o)
  where
    cases : (o : Option (List ℕ)) → WhereKnown o (option_map change o) (λ held held'. held' ≡ change held)
    cases None = tt
    cases (Some held) = refl

-- a change of a part, as the trait of images says it
pub known_part : (at : ℕ) (from : List ℕ) (o p : Option (List ℕ)) → MatchOption o (p ≡ o) (λ held. MatchOption p ⊥ (λ held'. PartlyPut at from held held')) → WhereKnown o p (λ held held'. PartlyPut at from held held')
known_part at from None None s = tt
known_part at from None (Some held') s = absurd (let clash : Some held' ≡ None = s in cc)
known_part at from (Some held) None s = absurd s
known_part at from (Some held) (Some held') s = s

-- what is so of the first bytes wherever they are known
pub known_with : (P : List ℕ → Type 0) (R S : List ℕ → List ℕ → Type 0) → ((a b : List ℕ) → P a → R a b → S a b) → (o p : Option (List ℕ)) → ForSome o P → WhereKnown o p R → WhereKnown o p S
known_with P R S step None None h r = tt
known_with P R S step None (Some b) h r = absurd r
known_with P R S step (Some a) None h r = absurd r
known_with P R S step (Some a) (Some b) h r = step a b (h a refl) r

-- the bytes are as before
pub known_same : (R : List ℕ → List ℕ → Type 0) → ((held : List ℕ) → R held held) → (o p : Option (List ℕ)) → p ≡ o → WhereKnown o p R
known_same R here o p e = subst (λ q. WhereKnown o q R) (sym e) (cases o)
  where
    cases : (o : Option (List ℕ)) → WhereKnown o o R
    cases None = tt
    cases (Some held) = here held

-- what is said less of them
pub known_weaker : (R S : List ℕ → List ℕ → Type 0) → ((a b : List ℕ) → R a b → S a b) → (o p : Option (List ℕ)) → WhereKnown o p R → WhereKnown o p S
known_weaker R S step None None r = tt
known_weaker R S step None (Some b) r = absurd r
known_weaker R S step (Some a) None r = absurd r
known_weaker R S step (Some a) (Some b) r = step a b r
