-- A list of one, two or three; what the words of the program are.
use Rattle.std.specs.Prelude.{◌≡◌, ℕ, Some, List, [], ◌∷◌, length, map, get_or, codes}
use Rattle.std.specs.Borrow.{Bor}
use Rattle.std.proofs.Common.{arith, refl, sym, ap, ◌∙◌, inl, inr}
use Rattle.std.proofs.lemmas.List.{length-map}
use Rattle.model_geometry.specs.declared.kinds.LayoutKind.{LayoutKind}
use Rattle.model_geometry.specs.declared.kinds.LayoutKind.TheVariants.{OneGroup, EachZone}
use Rattle.ram_run.specs.Words.{seed_of, served_word, IsServedOf, IsGenerateOf, IsNbd, IsMirror, IsWordForm}

pub map_of_two : {X Y : Type 0} (f : X → Y) (xs : List X) (d : X) → length xs ≡ 2 → map f xs ≡ f (get_or xs 0 d) ∷ f (get_or xs 1 d) ∷ []
map_of_two f [] d two = absurd (omega arith)
map_of_two f (x ∷ []) d two = absurd (omega arith)
map_of_two f (x ∷ y ∷ []) d two = refl
map_of_two f (x ∷ y ∷ z ∷ zs) d two = absurd (omega arith)

pub map_of_one : {X Y : Type 0} (f : X → Y) (xs : List X) (d : X) → length xs ≡ 1 → map f xs ≡ f (get_or xs 0 d) ∷ []
map_of_one f [] d one = absurd (omega arith)
map_of_one f (x ∷ []) d one = refl
map_of_one f (x ∷ y ∷ xs) d one = absurd (omega arith)

pub map_of_three : {X Y : Type 0} (f : X → Y) (xs : List X) (d : X) → length xs ≡ 3 → map f xs ≡ f (get_or xs 0 d) ∷ f (get_or xs 1 d) ∷ f (get_or xs 2 d) ∷ []
map_of_three f [] d three = absurd (omega arith)
map_of_three f (x ∷ []) d three = absurd (omega arith)
map_of_three f (x ∷ y ∷ []) d three = absurd (omega arith)
map_of_three f (x ∷ y ∷ z ∷ []) d three = refl
map_of_three f (x ∷ y ∷ z ∷ u ∷ zs) d three = absurd (omega arith)

-- the words of a form, by their number
module _ (words : List (Bor (List ℕ))) (none : Bor (List ℕ)) (empty : none.now ≡ []) where
  first_text : (of : List (Bor (List ℕ))) → get_or (map (λ (word : Bor (List ℕ)). word.now) of) 0 [] ≡ (get_or of 0 none).now
  first_text [] = sym empty
  first_text (word ∷ of) = refl

  how_many : (texts : List (List ℕ)) → map (λ (word : Bor (List ℕ)). word.now) words ≡ texts → length words ≡ length texts
  how_many texts is = sym (length-map words (λ (word : Bor (List ℕ)). word.now)) ∙ ap length is

  which : (texts : List (List ℕ)) → map (λ (word : Bor (List ℕ)). word.now) words ≡ texts → (get_or words 0 none).now ≡ get_or texts 0 []
  which texts is = sym (first_text words) ∙ ap (λ (l : List (List ℕ)). get_or l 0 []) is

  pub by_number : IsWordForm (map (λ (word : Bor (List ℕ)). word.now) words) → ((kind : LayoutKind) → length words ≡ 2 → (get_or words 0 none).now ≡ served_word kind → ⊥) → (length words ≡ 3 → (get_or words 0 none).now ≡ codes "generate" → ⊥)
      → (length words ≡ 1 → (get_or words 0 none).now ≡ codes "--help" → ⊥) → (length words ≡ 1 → (get_or words 0 none).now ≡ codes "--version" → ⊥)
      → (length words ≡ 2 → (get_or words 0 none).now ≡ codes "audit" → ⊥) → (length words ≡ 2 → (get_or words 0 none).now ≡ codes "check" → ⊥)
      → ¬ IsNbd (map (λ (word : Bor (List ℕ)). word.now) words) → ¬ IsMirror (map (λ (word : Bor (List ℕ)). word.now) words) → ⊥
  by_number (inl (kind, served)) two three help version audit check nbd mirror = two kind (how_many _ served.1) (which _ served.1)
  by_number (inr (inl (name, seed, of))) two three help version audit check nbd mirror = three (how_many _ of.1) (which _ of.1)
  by_number (inr (inr (inl is))) two three help version audit check nbd mirror = help (how_many _ is) (which _ is)
  by_number (inr (inr (inr (inl is)))) two three help version audit check nbd mirror = version (how_many _ is) (which _ is)
  by_number (inr (inr (inr (inr (inl (name, inl is)))))) two three help version audit check nbd mirror = audit (how_many _ is) (which _ is)
  by_number (inr (inr (inr (inr (inl (name, inr is)))))) two three help version audit check nbd mirror = check (how_many _ is) (which _ is)
  by_number (inr (inr (inr (inr (inr (inl session)))))) two three help version audit check nbd mirror = nbd session
  by_number (inr (inr (inr (inr (inr (inr pair)))))) two three help version audit check nbd mirror = mirror pair

-- the word tells one kind of layout
by_word : (a b : LayoutKind) → served_word a ≡ served_word b → a ≡ b
by_word OneGroup OneGroup same = refl
by_word OneGroup EachZone same = absurd cc
by_word EachZone OneGroup same = absurd cc
by_word EachZone EachZone same = refl

-- a word that runs no script over a disc of either kind
pub not_served : (word : List ℕ) → (word ≡ codes "run" → ⊥) → (word ≡ codes "groups" → ⊥) → (kind : LayoutKind) → word ≡ served_word kind → ⊥
not_served word one each OneGroup is = one is
not_served word one each EachZone is = each is

-- the words tell one kind of layout and one name
pub one_served : (words : List (List ℕ)) (kind kind' : LayoutKind) (name name' : List ℕ) → IsServedOf kind name words → IsServedOf kind' name' words → (kind ≡ kind') × (name ≡ name')
one_served words kind kind' name name' a b = (
  by_word kind kind' (ap (λ (l : List (List ℕ)). get_or l 0 []) (sym a ∙ b)),
  ap (λ (l : List (List ℕ)). get_or l 1 []) (sym a ∙ b),
)

-- the words tell one name and one number
pub one_generate : (words : List (List ℕ)) (name name' : List ℕ) (seed seed' : ℕ) → IsGenerateOf name seed words → IsGenerateOf name' seed' words → (name ≡ name') × (seed ≡ seed')
one_generate words name name' seed seed' a b = (
  ap (λ (l : List (List ℕ)). get_or l 1 []) (sym a.1 ∙ b.1),
  let digits : a.0 ≡ b.0 = ap (λ (l : List (List ℕ)). get_or l 2 []) (sym a.1 ∙ b.1) in
      let same : Some seed ≡ Some seed' = sym a.2 ∙ ap seed_of digits ∙ b.2 in
      cc,
)

-- two words tell one name
pub one_name : (words : List (List ℕ)) (a b name name' : List ℕ) → words ≡ a ∷ name ∷ [] → words ≡ b ∷ name' ∷ [] → name ≡ name'
one_name words a b name name' p q = ap (λ (l : List (List ℕ)). get_or l 1 []) (sym p ∙ q)
