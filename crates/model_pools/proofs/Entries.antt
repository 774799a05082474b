-- The entries use up different spares, so there are no more of them than spares.
use Rattle.std.proofs.Common.{◌≡◌, ℕ, zero, suc, ◌≤◌, ◌⊎◌, false, eqb, List, [], ◌∷◌, length, Some, None, unwrap_or, inl, inr, ⊎_elim, sym, ap, ◌∙◌, subst, arith}
use Rattle.std.specs.Prelude.{IsSome, map}
use Rattle.std.specs.List.{AllByRecursion, Contains, IsDistinct}
use Rattle.std.proofs.lemmas.Bool.{ne_eqb}
use Rattle.std.proofs.lemmas.Cmp.{nat_eq_equiv}
use Rattle.std.proofs.lemmas.List.{length-map, get_or-map, get_or_default}
use Rattle.std.proofs.lemmas.List.Elements.{All-contains, recursion_from_All, Contains-append_cases}
use Rattle.std.proofs.lemmas.Map.Keys.{IsDistinct-tail, IsDistinct-cons}
use Rattle.std.proofs.lemmas.Map.Made.{length-le_from_is_member}
use Rattle.model_lists.specs.declared.sdl.SdlEntry.{SdlEntry}
use Rattle.model_lists.specs.Values.{defectives}
use Rattle.model_pools.specs.Listed.{replacements}
use Rattle.model_pools.specs.Pools.{Pool, AreValidUnder, logical_in, spares_in, all_in}
use Rattle.model_pools.proofs.Listed.{Decides-is_listed, one_listed, is_member_is, IsDistinct-from_increasing}
use Rattle.model_pools.proofs.Replacements.{Contains-first, Contains-later, Contains-cons_option, Contains-cons_option_first, first_is_alone, IsDistinct-cons_option, alone_in_cons_option, replacement_cases}

-- the spare that an entry uses up: the replacement, or else the block itself
abbrev pub used : SdlEntry → ℕ
used e = unwrap_or e.replacement e.defective

-- an entry of the block has no replacement
pub record IsRetired (entries : List SdlEntry) (block : ℕ) : Type 0 where
  pub entry : SdlEntry
  pub has : Contains entries entry
  pub block_is : entry.defective ≡ block
  pub alone : entry.replacement ≡ None

-- what an entry uses up is its replacement, or it is its own block and there is no replacement
used_first : (e : SdlEntry) (es : List SdlEntry) (x : ℕ) → used e ≡ x → Contains (replacements (e ∷ es)) x ⊎ IsRetired (e ∷ es) x
used_first e es x is =
    ⊎_elim
    (λ some.
    let same : used e ≡ some.0 = ap (λ o. unwrap_or o e.defective) some.1 in
    inl (Contains-cons_option_first e.replacement (replacements es) x (some.1 ∙ ap Some (sym same ∙ is))))
    (λ none.
    let same : used e ≡ e.defective = ap (λ o. unwrap_or o e.defective) none in
    inr (record { entry = e; has = Contains-first e es; block_is = sym same ∙ is; alone = none }))
    (replacement_cases e.replacement)

-- what an entry uses up is one of the replacements, or it is a block that has none
used_cases : (entries : List SdlEntry) (x : ℕ) → Contains (map used entries) x → Contains (replacements entries) x ⊎ IsRetired entries x
used_cases [] x (k, within, is) = absurd (omega arith)
used_cases (e ∷ es) x (zero, within, is) = used_first e es x is
used_cases (e ∷ es) x (suc k, within, is) =
    ⊎_elim
    (λ l. inl (Contains-cons_option e.replacement (replacements es) x l))
    (λ r. inr (record { entry = r.entry; has = Contains-later e es r.entry r.has; block_is = r.block_is; alone = r.alone }))
    (used_cases es x (k, omega arith, is))

-- the block of an entry is one of the defective blocks
pub Contains-defectives : (entries : List SdlEntry) (e : SdlEntry) → Contains entries e → Contains (defectives entries) e.defective
Contains-defectives entries e (k, within, is) =
    (k, omega (arith, length-map entries (λ (f : SdlEntry). f.defective)), get_or-map (λ (f : SdlEntry). f.defective) entries k e e.defective within ∙ ap (λ (f : SdlEntry). f.defective) is)

-- a number that is not among others differs from each
pub differs_from_all : (x : ℕ) (ys : List ℕ) → ¬ Contains ys x → AllByRecursion (λ y. eqb x y ≡ false) ys
differs_from_all x ys alone =
    recursion_from_All (λ y. eqb x y ≡ false) ys
    (λ k d within. ne_eqb x _ (λ e. alone (k, within, get_or_default ys k x d within ∙ sym e)))

-- what the first entry uses up no other does
used_once : (e : SdlEntry) (es : List SdlEntry) → IsDistinct eqb (replacements (e ∷ es)) → IsDistinct eqb (defectives (e ∷ es))
    → ((x : ℕ) → Contains (replacements (e ∷ es)) x → ¬ Contains (defectives (e ∷ es)) x) → ¬ Contains (map used es) (used e)
used_once e es apart apart' sound has =
    ⊎_elim
    (λ l. ⊎_elim
    (λ some. alone_in_cons_option e.replacement (replacements es) some.0 some.1 apart (subst (Contains (replacements es)) (used_some some) l))
    (λ none. sound (used e) (Contains-cons_option e.replacement (replacements es) (used e) l) (subst (Contains (defectives (e ∷ es))) (sym (used_none none)) (Contains-first e.defective (defectives es))))
    (replacement_cases e.replacement))
    (λ r.
    let other : Contains (defectives es) (used e) = subst (Contains (defectives es)) r.block_is (Contains-defectives es r.entry r.has) in
    ⊎_elim
    (λ some. sound (used e) (Contains-cons_option_first e.replacement (replacements es) (used e) (some.1 ∙ ap Some (sym (used_some some)))) (Contains-later e.defective (defectives es) (used e) other))
    (λ none. first_is_alone e.defective (defectives es) apart' (subst (Contains (defectives es)) (used_none none) other))
    (replacement_cases e.replacement))
    (used_cases es (used e) has)
  where
    used_some : (some : (r : ℕ) × (e.replacement ≡ Some r)) → used e ≡ some.0
    used_some some = ap (λ o. unwrap_or o e.defective) some.1

    used_none : e.replacement ≡ None → used e ≡ e.defective
    used_none none = ap (λ o. unwrap_or o e.defective) none

-- no two entries use up one spare
pub used_differ : (entries : List SdlEntry) → IsDistinct eqb (replacements entries) → IsDistinct eqb (defectives entries)
    → ((x : ℕ) → Contains (replacements entries) x → ¬ Contains (defectives entries) x) → IsDistinct eqb (map used entries)
used_differ [] apart apart' sound = apart'
used_differ (e ∷ es) apart apart' sound =
    IsDistinct-cons eqb (used e) (map used es)
    (differs_from_all (used e) (map used es) (used_once e es apart apart' sound))
    (used_differ es (IsDistinct-cons_option e.replacement (replacements es) apart) (IsDistinct-tail eqb e.defective (defectives es) apart')
    (λ x h h'. sound x (Contains-cons_option e.replacement (replacements es) x h) (Contains-later e.defective (defectives es) x h')))

-- each entry uses up a spare
used_are_spares : (pools : List Pool) (entries : List SdlEntry) → AreValidUnder pools entries → (x : ℕ) → Contains (map used entries) x → Contains (spares_in pools) x
used_are_spares pools entries valid x has =
    ⊎_elim
    (λ l. one_listed (spares_in pools) (replacements entries) valid.from_spares x l)
    (λ r.
    let block = subst (Contains (all_in pools)) r.block_is
    (one_listed (all_in pools) (defectives entries) valid.within r.entry.defective (Contains-defectives entries r.entry r.has)) in
    let replaced = All-contains (λ (e : SdlEntry). Contains (logical_in pools) e.defective → IsSome e.replacement) entries r.entry valid.logical_replaced r.has in
    ⊎_elim
    (λ logical. absurd (let some = replaced (subst (Contains (logical_in pools)) (sym r.block_is) logical) in let none = r.alone in cc))
    (λ s. s)
    (Contains-append_cases (logical_in pools) (spares_in pools) x block))
    (used_cases entries x has)

-- Valid entries are no more than there are spares.
pub length-entries_in : (pools : List Pool) (entries : List SdlEntry) → AreValidUnder pools entries → length entries ≤ length (spares_in pools)
length-entries_in pools entries valid =
    let all = spares_in pools in
    let apart = used_differ entries valid.different (IsDistinct-from_increasing (defectives entries) valid.rising)
    (λ x h. All-contains (λ b. ¬ Contains (defectives entries) b) (replacements entries) x valid.sound h) in
    let few = length-le_from_is_member nat_eq_equiv (map used entries) all apart
    (λ q h. is_member_is all q ∙ (Decides-is_listed all q).1
    (used_are_spares pools entries valid q
    ((Decides-is_listed (map used entries) q).0 (sym (is_member_is (map used entries) q) ∙ h)))) in
    omega (arith, length-map entries used)
