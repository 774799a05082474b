-- The entry of a block, and the home that it gives.
use Rattle.std.proofs.Common.{◌≡◌, ℕ, zero, suc, ◌+◌, inl, inr, eqb, List, [], ◌∷◌, Option, Some, None, unwrap_or, refl, sym, ap, ◌∙◌, subst, arith}
use Rattle.std.specs.Prelude.{option_and_then}
use Rattle.std.specs.List.{find}
use Rattle.std.specs.List.Sorted.{IsStrictlyIncreasing}
use Rattle.std.proofs.lemmas.Bool.{cases_Bool, cond-true, cond-false, eqb-true, eq-eqb}
use Rattle.std.proofs.lemmas.List.{length-map, get_or-map}
use Rattle.std.proofs.lemmas.List.Kept.{AllPairs-from_increasing}
use Rattle.model_lists.specs.declared.sdl.SdlEntry.{SdlEntry}
use Rattle.model_lists.specs.Values.{defectives, IsEntryOf}
use Rattle.model_pools.specs.Listed.{replacement_of}
use Rattle.model_pools.specs.Pools.{Pool, block_in, home_in}

later_rise : (f : SdlEntry) (fs : List SdlEntry) → IsStrictlyIncreasing (defectives (f ∷ fs)) → IsStrictlyIncreasing (defectives fs)
later_rise f fs rise j inside = AllPairs-from_increasing (defectives (f ∷ fs)) rise (suc j) (suc (j + 1)) 0 (omega arith) (omega (arith, inside))

found_is : (entries : List SdlEntry) (b : ℕ) (e : SdlEntry) → IsStrictlyIncreasing (defectives entries) → IsEntryOf entries b (Some e) → find (λ (x : SdlEntry). eqb x.defective b) entries ≡ Some e
found_is [] b e rise (is, (k, below, at)) = absurd (omega (arith, below))
found_is (f ∷ fs) b e rise (is, (zero, below, at)) =
    cond-true (eqb f.defective b) (Some f) (find (λ (x : SdlEntry). eqb x.defective b) fs) (eq-eqb f.defective b (ap (λ (x : SdlEntry). x.defective) at ∙ is)) ∙ ap Some at
found_is (f ∷ fs) b e rise (is, (suc k, below, at)) = elim (cases_Bool (eqb f.defective b)) [
  | inl same ↦ absurd (let up = AllPairs-from_increasing (defectives (f ∷ fs)) rise 0 (suc k) 0 (omega arith) (omega (arith, below, length-map (f ∷ fs) (λ (x : SdlEntry). x.defective))) in
      let here = get_or-map (λ (x : SdlEntry). x.defective) fs k e 0 (omega (arith, below)) in
      let there = ap (λ (x : SdlEntry). x.defective) at in
      let first = eqb-true f.defective b same in
      omega (arith, up, here, there, first, is))
  | inr other ↦ cond-false (eqb f.defective b) (Some f) (find (λ (x : SdlEntry). eqb x.defective b) fs) other
      ∙ found_is fs b e (later_rise f fs rise) (is, (k, omega (arith, below), at))
]

none_is : (entries : List SdlEntry) (b : ℕ) → IsEntryOf entries b None → find (λ (x : SdlEntry). eqb x.defective b) entries ≡ None
none_is [] b none = refl
none_is (f ∷ fs) b none = elim (cases_Bool (eqb f.defective b)) [
  | inl same ↦ absurd (none 0 f (omega arith) (eqb-true f.defective b same))
  | inr other ↦ cond-false (eqb f.defective b) (Some f) (find (λ (x : SdlEntry). eqb x.defective b) fs) other ∙ none_is fs b (λ k d below. none (suc k) d (omega (arith, below)))
]

module _ (pools : List Pool) (entries : List SdlEntry) (i own : ℕ) (own_is : own ≡ block_in pools i) where
  by_found : (o : Option SdlEntry) → find (λ (x : SdlEntry). eqb x.defective own) entries ≡ o → home_in pools entries i ≡ unwrap_or (option_and_then (λ (e : SdlEntry). e.replacement) o) own
  by_found o is = subst (λ (b : ℕ). unwrap_or (replacement_of entries b) b ≡ unwrap_or (option_and_then (λ (e : SdlEntry). e.replacement) o) own) own_is
      (ap (λ (x : Option SdlEntry). unwrap_or (option_and_then (λ (e : SdlEntry). e.replacement) x) own) is)

  pub home_none : IsEntryOf entries own None → own ≡ home_in pools entries i
  home_none none = sym (by_found None (none_is entries own none))

  pub home_kept : (e : SdlEntry) → IsStrictlyIncreasing (defectives entries) → IsEntryOf entries own (Some e) → e.replacement ≡ None → own ≡ home_in pools entries i
  home_kept e rise has alone = sym (by_found (Some e) (found_is entries own e rise has) ∙ ap (λ (o : Option ℕ). unwrap_or o own) alone)

  pub home_replaced : (e : SdlEntry) (spare : ℕ) → IsStrictlyIncreasing (defectives entries) → IsEntryOf entries own (Some e) → e.replacement ≡ Some spare → spare ≡ home_in pools entries i
  home_replaced e spare rise has to = sym (by_found (Some e) (found_is entries own e rise has) ∙ ap (λ (o : Option ℕ). unwrap_or o own) to)
