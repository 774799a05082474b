-- What replaces a block, by the entries of a secondary list; and that no two blocks have one replacement.
use Rattle.std.proofs.Common.{◌≡◌, ℕ, suc, true, false, eqb, List, [], ◌∷◌, Option, Some, None, ◌⊎◌, inl, inr, ⊎_elim, refl, sym, ap, ◌∙◌, arith}
use Rattle.std.specs.Prelude.{option_and_then}
use Rattle.std.specs.List.{Contains, IsDistinct, find, cons_option}
use Rattle.std.proofs.lemmas.Bool.{cases_Bool, eqb-true, eq-eqb, cond-true, cond-false, true≢false}
use Rattle.std.proofs.lemmas.List.Elements.{All-contains, All-from_recursion}
use Rattle.std.proofs.lemmas.Map.Keys.{IsDistinct-head, IsDistinct-tail}
use Rattle.model_lists.specs.declared.sdl.SdlEntry.{SdlEntry}
use Rattle.model_pools.specs.Listed.{replacements, replacement_of}

pub Contains-first : {X : Type 0} (x : X) (xs : List X) → Contains (x ∷ xs) x
Contains-first x xs = (0, omega arith, refl)

pub Contains-later : {X : Type 0} (x : X) (xs : List X) (q : X) → Contains xs q → Contains (x ∷ xs) q
Contains-later x xs q (k, within, is) = (suc k, omega arith, is)

pub Contains-cons_option : (o : Option ℕ) (xs : List ℕ) (q : ℕ) → Contains xs q → Contains (cons_option o xs) q
Contains-cons_option None xs q has = has
Contains-cons_option (Some x) xs q has = Contains-later x xs q has

pub Contains-cons_option_first : (o : Option ℕ) (xs : List ℕ) (q : ℕ) → o ≡ Some q → Contains (cons_option o xs) q
Contains-cons_option_first o xs q is = rw is (Contains-first q xs)

-- an entry of the block decides
pub replacement_of_here : (e : SdlEntry) (es : List SdlEntry) (b : ℕ) → eqb e.defective b ≡ true → replacement_of (e ∷ es) b ≡ e.replacement
replacement_of_here e es b t = ap (option_and_then (λ (f : SdlEntry). f.replacement)) (cond-true (eqb e.defective b) (Some e) (find (λ (f : SdlEntry). eqb f.defective b) es) t)

-- an entry of another block does not matter
pub replacement_of_later : (e : SdlEntry) (es : List SdlEntry) (b : ℕ) → eqb e.defective b ≡ false → replacement_of (e ∷ es) b ≡ replacement_of es b
replacement_of_later e es b f = ap (option_and_then (λ (g : SdlEntry). g.replacement)) (cond-false (eqb e.defective b) (Some e) (find (λ (g : SdlEntry). eqb g.defective b) es) f)

-- what replaces a block is one of the replacements
pub Contains-replacement : (entries : List SdlEntry) (b r : ℕ) → replacement_of entries b ≡ Some r → Contains (replacements entries) r
Contains-replacement [] b r is = absurd cc
Contains-replacement (e ∷ es) b r is =
    ⊎_elim
    (λ t. Contains-cons_option_first e.replacement (replacements es) r (sym (replacement_of_here e es b t) ∙ is))
    (λ f. Contains-cons_option e.replacement (replacements es) r (Contains-replacement es b r (sym (replacement_of_later e es b f) ∙ is)))
    (cases_Bool (eqb e.defective b))

-- the first of numbers that differ is not among the others
pub first_is_alone : (x : ℕ) (xs : List ℕ) → IsDistinct eqb (x ∷ xs) → ¬ Contains xs x
first_is_alone x xs apart has =
    let others = All-from_recursion (λ y. eqb x y ≡ false) xs (IsDistinct-head eqb x xs apart) in
    true≢false (sym (eq-eqb x x refl) ∙ All-contains (λ y. eqb x y ≡ false) xs x others has)

pub IsDistinct-cons_option : (o : Option ℕ) (xs : List ℕ) → IsDistinct eqb (cons_option o xs) → IsDistinct eqb xs
IsDistinct-cons_option None xs apart = apart
IsDistinct-cons_option (Some x) xs apart = IsDistinct-tail eqb x xs apart

pub alone_in_cons_option : (o : Option ℕ) (xs : List ℕ) (x : ℕ) → o ≡ Some x → IsDistinct eqb (cons_option o xs) → ¬ Contains xs x
alone_in_cons_option None xs x is apart = absurd cc
alone_in_cons_option (Some y) xs x is apart = let e : y ≡ x = grind arith in rw (← e) (first_is_alone y xs apart)

-- no two blocks have one replacement
pub replaced_block_same : (entries : List SdlEntry) (a b r : ℕ) → IsDistinct eqb (replacements entries) → replacement_of entries a ≡ Some r → replacement_of entries b ≡ Some r → a ≡ b
replaced_block_same [] a b r apart is is' = absurd cc
replaced_block_same (e ∷ es) a b r apart is is' =
    ⊎_elim
    (λ t. ⊎_elim
    (λ t'. sym (eqb-true e.defective a t) ∙ eqb-true e.defective b t')
    (λ f'. absurd (alone_in_cons_option e.replacement (replacements es) r (sym (replacement_of_here e es a t) ∙ is) apart
    (Contains-replacement es b r (sym (replacement_of_later e es b f') ∙ is'))))
    (cases_Bool (eqb e.defective b)))
    (λ f. ⊎_elim
    (λ t'. absurd (alone_in_cons_option e.replacement (replacements es) r (sym (replacement_of_here e es b t') ∙ is') apart
    (Contains-replacement es a r (sym (replacement_of_later e es a f) ∙ is))))
    (λ f'. replaced_block_same es a b r (IsDistinct-cons_option e.replacement (replacements es) apart)
    (sym (replacement_of_later e es a f) ∙ is) (sym (replacement_of_later e es b f') ∙ is'))
    (cases_Bool (eqb e.defective b)))
    (cases_Bool (eqb e.defective a))

-- a replacement is there or not
pub replacement_cases : (o : Option ℕ) → ((r : ℕ) × (o ≡ Some r)) ⊎ (o ≡ None)
replacement_cases None = inr refl
replacement_cases (Some r) = inl (r, refl)
