-- How the secondary list of an expansion is made, entry after entry.
use Rattle.std.proofs.Common.{◌≡◌, ℕ, zero, suc, ◌+◌, ◌<◌, true, false, List, [], ◌∷◌, ◌++◌, map, length, get_or, take, drop, set, refl, sym, ap, ◌∙◌, inl, inr, subst, arith}
use Rattle.std.specs.List.Sorted.{IsStrictlyIncreasing}
use Rattle.std.proofs.lemmas.Bool.{cases_Bool, cond-true, cond-false}
use Rattle.model_geometry.specs.Geometry.{Shape}
use Rattle.model_lists.specs.declared.sdl.SdlEntry.{SdlEntry}
use Rattle.model_lists.specs.Values.{Dds, Sdl, defectives, with_entry, retired}
use Rattle.model_pools.specs.Listed.{is_listed}
use Rattle.model_pools.specs.Pools.{spares_in}
use Rattle.model_places.specs.Places.{Lists, pools_of}
use Rattle.model_volume.specs.Expansions.{entry_expanded, lists_expanded}
use Rattle.ram_sdl.proofs.Gaps.{defective_at, set_there}

module _ (shape : Shape) (dds : Dds) (ssa : ℕ) where
  same_block : (e : SdlEntry) → (entry_expanded shape dds ssa e).defective ≡ e.defective
  same_block e = elim (cases_Bool (is_listed (spares_in (pools_of shape dds ssa)) e.defective)) [
    | inl spare ↦ ap (λ (x : SdlEntry). x.defective) (cond-true (is_listed (spares_in (pools_of shape dds ssa)) e.defective) (retired e.defective) e spare)
    | inr other ↦ ap (λ (x : SdlEntry). x.defective) (cond-false (is_listed (spares_in (pools_of shape dds ssa)) e.defective) (retired e.defective) e other)
  ]

  -- the entries, of which the first n are those of the expansion
  abbrev pub expanded_until : ℕ → List SdlEntry → List SdlEntry
  expanded_until k es = map (entry_expanded shape dds ssa) (take k es) ++ drop k es

  same_blocks : (k : ℕ) (es : List SdlEntry) → defectives (expanded_until k es) ≡ defectives es
  same_blocks zero es = refl
  same_blocks (suc k) [] = refl
  same_blocks (suc k) (e ∷ es) =
      ap (λ (b : ℕ). b ∷ defectives (expanded_until k es)) (same_block e) ∙ ap (λ (bs : List ℕ). e.defective ∷ bs) (same_blocks k es)

  same_length : (k : ℕ) (es : List SdlEntry) → length (expanded_until k es) ≡ length es
  same_length zero es = refl
  same_length (suc k) [] = refl
  same_length (suc k) (e ∷ es) = ap suc (same_length k es)

  -- one more
  set_next : (k : ℕ) (es : List SdlEntry) (d : SdlEntry) → k < length es → set (expanded_until k es) k (entry_expanded shape dds ssa (get_or es k d)) ≡ expanded_until (suc k) es
  set_next k [] d h = absurd (omega (arith, h))
  set_next zero (e ∷ es) d h = refl
  set_next (suc k) (e ∷ es) d h = ap (λ (xs : List SdlEntry). entry_expanded shape dds ssa e ∷ xs) (set_next k es d (omega (arith, h)))

  keep_next : (k : ℕ) (es : List SdlEntry) (d : SdlEntry) → k < length es → entry_expanded shape dds ssa (get_or es k d) ≡ get_or es k d → expanded_until k es ≡ expanded_until (suc k) es
  keep_next k [] d h same = absurd (omega (arith, h))
  keep_next zero (e ∷ es) d h same = ap (λ (x : SdlEntry). x ∷ es) (sym same)
  keep_next (suc k) (e ∷ es) d h same = ap (λ (xs : List SdlEntry). entry_expanded shape dds ssa e ∷ xs) (keep_next k es d (omega (arith, h)) same)

  -- ---- one turn

  module _ (es : List SdlEntry) (rise : IsStrictlyIncreasing (defectives es)) (k : ℕ) where
    pub until_rises : (held : List SdlEntry) → held ≡ expanded_until k es → IsStrictlyIncreasing (defectives held)
    until_rises held is = subst IsStrictlyIncreasing (sym (ap defectives is ∙ same_blocks k es)) rise

    module _ (d : SdlEntry) (inside : k < length es) where
      pub turn_spare : is_listed (spares_in (pools_of shape dds ssa)) (get_or es k d).defective ≡ true → with_entry (retired (get_or es k d).defective) (expanded_until k es) ≡ expanded_until (k + 1) es
      turn_spare spare =
          let e = get_or es k d in
          let there : get_or (defectives (expanded_until k es)) k 0 ≡ e.defective = ap (λ (bs : List ℕ). get_or bs k 0) (same_blocks k es) ∙ defective_at es k d inside in
          let long = same_length k es in
          let next : suc k ≡ k + 1 = omega arith in
          sym (set_there (expanded_until k es) k (retired e.defective) (until_rises (expanded_until k es) refl) (omega (arith, inside, long)) there)
          ∙ ap (λ (x : SdlEntry). set (expanded_until k es) k x) (sym (cond-true (is_listed (spares_in (pools_of shape dds ssa)) e.defective) (retired e.defective) e spare))
          ∙ set_next k es d inside
          ∙ ap (λ (n : ℕ). expanded_until n es) next

      pub turn_other : is_listed (spares_in (pools_of shape dds ssa)) (get_or es k d).defective ≡ false → expanded_until k es ≡ expanded_until (k + 1) es
      turn_other other =
          let e = get_or es k d in
          let next : suc k ≡ k + 1 = omega arith in
          keep_next k es d inside (cond-false (is_listed (spares_in (pools_of shape dds ssa)) e.defective) (retired e.defective) e other)
          ∙ ap (λ (n : ℕ). expanded_until n es) next

  -- ---- the list after one turn

  module _ (a b : Sdl) (es : List SdlEntry) (rise : IsStrictlyIncreasing (defectives es)) (k : ℕ) (d : SdlEntry) (inside : k < length es) (so_far : b ≡ record a { entries = expanded_until k es }) where
    pub list_spare : (c : Sdl) → is_listed (spares_in (pools_of shape dds ssa)) (get_or es k d).defective ≡ true → c ≡ record b { entries = with_entry (retired (get_or es k d).defective) b.entries }
        → c ≡ record a { entries = expanded_until (k + 1) es }
    list_spare c spare put =
        put ∙ ap (λ (x : Sdl). record x { entries = with_entry (retired (get_or es k d).defective) x.entries }) so_far
        ∙ ap (λ (xs : List SdlEntry). record a { entries = xs }) (turn_spare es rise k d inside spare)

    pub list_other : is_listed (spares_in (pools_of shape dds ssa)) (get_or es k d).defective ≡ false → b ≡ record a { entries = expanded_until (k + 1) es }
    list_other other = so_far ∙ ap (λ (xs : List SdlEntry). record a { entries = xs }) (turn_other es rise k d inside other)

-- ---- the list of the expansion

pub draft_is : (shape : Shape) (lists : Lists) (ssa : ℕ) (a b : Sdl) → a ≡ lists.sdl
    → b ≡ record a { counter = a.counter + 1; ssa = ssa; entries = map (entry_expanded shape lists.dds ssa) lists.sdl.entries }
    → b ≡ (lists_expanded shape lists ssa).sdl
draft_is shape lists ssa a b copied made =
    made ∙ ap (λ (x : Sdl). record x { counter = x.counter + 1; ssa = ssa; entries = map (entry_expanded shape lists.dds ssa) lists.sdl.entries }) copied
