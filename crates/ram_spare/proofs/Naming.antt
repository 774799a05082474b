-- Which blocks the entries of a secondary defect list name.
use Rattle.std.proofs.Common.{◌≡◌, ℕ, suc, ◌+◌, ◌<◌, ◌≤◌, Bool, true, false, ◌||◌, List, length, get_or, drop, drop-cons, drop_of_length-le, Option, Some, None, refl, sym, ap, ◌∙◌, arith}
use Rattle.std.specs.List.{Contains, cons_option}
use Rattle.std.proofs.lemmas.Bool.{false_from_ne_true, eq-eqb, ne_eqb}
use Rattle.model_lists.specs.declared.sdl.SdlEntry.{SdlEntry}
use Rattle.model_pools.specs.Listed.{is_listed, replacements}
use Rattle.model_pools.proofs.Listed.{Decides-is_listed}

-- ---- as defective

-- a test that is true just of a listed block
pub listed_by : (xs : List ℕ) (b : ℕ) (test : Bool) → (test ≡ true → Contains xs b) × (Contains xs b → test ≡ true) → test ≡ is_listed xs b
listed_by xs b true both = sym ((Decides-is_listed xs b).1 (both.0 refl))
listed_by xs b false both = sym (false_from_ne_true (is_listed xs b) (λ t. let e : false ≡ true = both.1 ((Decides-is_listed xs b).0 t) in cc))

-- ---- as a replacement

listed_here : (o : Option ℕ) (xs : List ℕ) (b : ℕ) → o ≡ Some b → is_listed (cons_option o xs) b ≡ true
listed_here None xs b is = absurd cc
listed_here (Some x) xs b is = let e : x ≡ b = grind arith in ap (λ t. t || is_listed xs b) (eq-eqb x b e)

listed_later : (o : Option ℕ) (xs : List ℕ) (b : ℕ) → (o ≡ Some b → ⊥) → is_listed (cons_option o xs) b ≡ is_listed xs b
listed_later None xs b differs = refl
listed_later (Some x) xs b differs = ap (λ t. t || is_listed xs b) (ne_eqb x b (λ e. differs (ap Some e)))

module _ (entries : List SdlEntry) (k b : ℕ) (d : SdlEntry) (below : k < length entries) where
  pub from_here : replacements (drop k entries) ≡ cons_option (get_or entries k d).replacement (replacements (drop (k + 1) entries))
  from_here =
      let next : suc k ≡ k + 1 = omega arith in
      ap replacements (drop-cons entries k d below) ∙ ap (λ n. cons_option (get_or entries k d).replacement (replacements (drop n entries))) next

  -- the entry at the place has this replacement
  pub replaced_here : (whole : Bool) → whole ≡ is_listed (replacements (drop k entries)) b → (get_or entries k d).replacement ≡ Some b → true ≡ whole
  replaced_here whole same is = sym (same ∙ ap (λ xs. is_listed xs b) from_here ∙ listed_here (get_or entries k d).replacement (replacements (drop (k + 1) entries)) b is)

  -- it has another, or none
  pub replaced_later : (whole : Bool) → whole ≡ is_listed (replacements (drop k entries)) b → ((get_or entries k d).replacement ≡ Some b → ⊥) → whole ≡ is_listed (replacements (drop (k + 1) entries)) b
  replaced_later whole same differs = same ∙ ap (λ xs. is_listed xs b) from_here ∙ listed_later (get_or entries k d).replacement (replacements (drop (k + 1) entries)) b differs

-- none has it
pub replaced_nowhere : (entries : List SdlEntry) (k b : ℕ) (whole : Bool) → length entries ≤ k → whole ≡ is_listed (replacements (drop k entries)) b → false ≡ whole
replaced_nowhere entries k b whole past same = sym (same ∙ ap (λ es. is_listed (replacements es) b) (drop_of_length-le entries past))
