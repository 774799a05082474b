-- The home of a logical block is its own block, or a spare that replaces it; and two logical blocks have two homes.
use Rattle.std.proofs.Common.{◌≡◌, ℕ, ◌<◌, List, length, Option, Some, None, unwrap_or, ◌⊎◌, inl, inr, ⊎_elim, sym, ap, ◌∙◌}
use Rattle.std.specs.List.{Contains}
use Rattle.std.proofs.lemmas.List.Elements.{Contains-append_left, Contains-append_right}
use Rattle.model_lists.specs.declared.sdl.SdlEntry.{SdlEntry}
use Rattle.model_pools.specs.Listed.{replacements, replacement_of}
use Rattle.model_pools.specs.Pools.{Pool, ArePools, AreValidUnder, logical_in, spares_in, all_in, block_in, home_in, free_in}
use Rattle.model_pools.proofs.Free.{Contains-from_free_in}
use Rattle.model_pools.proofs.Listed.{one_listed}
use Rattle.model_pools.proofs.Pooled.{Contains-block_in, own_no_spare}
use Rattle.model_pools.proofs.Replacements.{Contains-replacement, replaced_block_same, replacement_cases}

home_replaced : (pools : List Pool) (entries : List SdlEntry) (i r : ℕ) → replacement_of entries (block_in pools i) ≡ Some r → home_in pools entries i ≡ r
home_replaced pools entries i r is = ap (λ (o : Option ℕ). unwrap_or o (block_in pools i)) is

home_own : (pools : List Pool) (entries : List SdlEntry) (i : ℕ) → replacement_of entries (block_in pools i) ≡ None → home_in pools entries i ≡ block_in pools i
home_own pools entries i is = ap (λ (o : Option ℕ). unwrap_or o (block_in pools i)) is

module _ (pools : List Pool) (entries : List SdlEntry) (valid : AreValidUnder pools entries) where
  -- a replacement is a spare
  replacement_is_spare : (b r : ℕ) → replacement_of entries b ≡ Some r → Contains (spares_in pools) r
  replacement_is_spare b r is = one_listed (spares_in pools) (replacements entries) valid.from_spares r (Contains-replacement entries b r is)

  -- a home is the block itself, or a spare that is a replacement
  pub home_cases_in : (i : ℕ) → (home_in pools entries i ≡ block_in pools i) ⊎ (Contains (replacements entries) (home_in pools entries i) × Contains (spares_in pools) (home_in pools entries i))
  home_cases_in i =
      ⊎_elim
      (λ some. rw (home_replaced pools entries i some.0 some.1)
      (inr (Contains-replacement entries (block_in pools i) some.0 some.1, replacement_is_spare (block_in pools i) some.0 some.1)))
      (λ none. inl (home_own pools entries i none))
      (replacement_cases (replacement_of entries (block_in pools i)))

  -- so it is one of the pools' blocks
  pub home_within : (i : ℕ) → i < length (logical_in pools) → Contains (all_in pools) (home_in pools entries i)
  home_within i inside =
      ⊎_elim
      (λ own. rw own (Contains-append_left (logical_in pools) (spares_in pools) (block_in pools i) (Contains-block_in pools i inside)))
      (λ spare. Contains-append_right (logical_in pools) (spares_in pools) (home_in pools entries i) spare.1)
      (home_cases_in i)

  module _ (lawful : ArePools pools) where
    clash : (k : ℕ) → k < length (logical_in pools) → (b r : ℕ) → replacement_of entries b ≡ Some r → block_in pools k ≡ r → ⊥
    clash k inside b r is e = own_no_spare pools lawful k inside r (replacement_is_spare b r is) (sym e)

    -- two logical blocks have two homes
    pub home_differs_in : (i j : ℕ) → i < length (logical_in pools) → j < length (logical_in pools) → home_in pools entries i ≡ home_in pools entries j → i ≡ j
    home_differs_in i j within within' same =
        ⊎_elim
        (λ some. ⊎_elim
        (λ some'.
        let e : some.0 ≡ some'.0 = sym (home_replaced pools entries i some.0 some.1) ∙ same ∙ home_replaced pools entries j some'.0 some'.1 in
        lawful.blocks i j within within'
        (replaced_block_same entries (block_in pools i) (block_in pools j) some'.0 valid.different (some.1 ∙ ap Some e) some'.1))
        (λ none'.
        let e : block_in pools j ≡ some.0 = sym (home_own pools entries j none') ∙ sym same ∙ home_replaced pools entries i some.0 some.1 in
        absurd (clash j within' (block_in pools i) some.0 some.1 e))
        (replacement_cases (replacement_of entries (block_in pools j))))
        (λ none. ⊎_elim
        (λ some'.
        let e : block_in pools i ≡ some'.0 = sym (home_own pools entries i none) ∙ same ∙ home_replaced pools entries j some'.0 some'.1 in
        absurd (clash i within (block_in pools j) some'.0 some'.1 e))
        (λ none'. lawful.blocks i j within within' (sym (home_own pools entries i none) ∙ same ∙ home_own pools entries j none'))
        (replacement_cases (replacement_of entries (block_in pools j))))
        (replacement_cases (replacement_of entries (block_in pools i)))

    -- a home is free for no logical block
    pub home_not_free_in : (i j : ℕ) → j < length (logical_in pools) → ¬ Contains (free_in pools entries i) (home_in pools entries j)
    home_not_free_in i j h has =
        let free = Contains-from_free_in pools entries i (home_in pools entries j) has in
        ⊎_elim
        (λ own. own_no_spare pools lawful j h (home_in pools entries j) free.0 own)
        (λ taken. free.2 taken.0)
        (home_cases_in j)
