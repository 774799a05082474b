-- The homes after a logical block went to a spare.
use Rattle.std.proofs.Common.{◌≡◌, ◌≢◌, ℕ, zero, suc, ◌<◌, eqb, Option, unwrap_or, List, [], ◌∷◌, inl, inr, sym, ap, ◌∙◌, subst, arith, length}
use Rattle.std.specs.List.{Contains}
use Rattle.std.proofs.lemmas.Bool.{cases_eq, cond-true, cond-false, eq-eqb, ne_eqb}
use Rattle.std.proofs.lemmas.List.Elements.{Contains-get_or}
use Rattle.model_lists.specs.declared.sdl.SdlEntry.{SdlEntry}
use Rattle.model_lists.specs.Values.{with_entry, pair}
use Rattle.model_pools.specs.Pools.{Pool, ArePools, AreValidUnder, logical_in, spares_in, block_in, home_in, free_in}
use Rattle.model_pools.specs.Moves.{with_retired, former, entries_moved_in, tried_of, IsNextOf}
use Rattle.model_pools.proofs.Free.{Contains-from_free_in}
use Rattle.model_pools.proofs.Homes.{home_cases_in}
use Rattle.model_pools.proofs.LookUps.{replaces_put, replaces_other, replaces_retired}
use Rattle.model_pools.proofs.Pooled.{own_no_spare}

-- those that were tried are of the list
pub tried_are : (free : List ℕ) (k s : ℕ) → k < length free → Contains (tried_of free k) s → Contains free s
tried_are free zero s h (n, within, is) = absurd (omega arith)
tried_are free (suc k) s h (zero, within, is) = subst (Contains free) is (Contains-get_or free k 0 (omega arith))
tried_are free (suc k) s h (suc n, within, is) = tried_are free k s (omega arith) (n, omega arith, is)

module _ (pools : List Pool) (entries : List SdlEntry) (lawful : ArePools pools) (valid : AreValidUnder pools entries) (i : ℕ) where
  abbrev own : ℕ
  own = block_in pools i

  abbrev home : ℕ
  home = home_in pools entries i

  -- the former replacement is a spare
  pub former_is_spare : (s : ℕ) → Contains (former own home) s → Contains (spares_in pools) s
  former_is_spare s has = elim (cases_eq home own) [
    | inl is_own ↦
        let none : former own home ≡ [] = cond-true (eqb home own) [] (home ∷ []) (eq-eqb home own is_own) in
        let h = subst (λ (xs : List ℕ). Contains xs s) none has in absurd (omega (arith, h.1))
    | inr apart ↦
        let one : former own home ≡ home ∷ [] = cond-false (eqb home own) [] (home ∷ []) (ne_eqb home own apart) in
        elim (home_cases_in pools entries valid i) [
          | inl is_own ↦ absurd (apart is_own)
          | inr taken ↦ subst (Contains (spares_in pools)) (only home s (subst (λ (xs : List ℕ). Contains xs s) one has)) taken.1
        ]
  ]
    where
      only : (x s : ℕ) → Contains (x ∷ []) s → x ≡ s
      only x s (zero, within, is) = is
      only x s (suc k, within, is) = absurd (omega arith)

  module _ (inside : i < length (logical_in pools)) (failed : List ℕ) (spare : ℕ) (next : IsNextOf (free_in pools entries i) failed spare) where
    -- the spares that failed are free
    pub failed_are_free : (s : ℕ) → Contains failed s → Contains (free_in pools entries i) s
    failed_are_free s has = tried_are (free_in pools entries i) next.tried s next.inside (subst (λ (xs : List ℕ). Contains xs s) next.failed_are has)

    failed_apart : (j : ℕ) → j < length (logical_in pools) → (s : ℕ) → Contains failed s → s ≢ block_in pools j
    failed_apart j h s has = own_no_spare pools lawful j h s (Contains-from_free_in pools entries i s (failed_are_free s has)).0

    former_apart : (j : ℕ) → j < length (logical_in pools) → (s : ℕ) → Contains (former own home) s → s ≢ block_in pools j
    former_apart j h s has = own_no_spare pools lawful j h s (former_is_spare s has)

    -- the block is in the spare then
    pub home_moved_in : home_in pools (entries_moved_in pools entries i failed spare) i ≡ spare
    home_moved_in = ap (λ (o : Option ℕ). unwrap_or o own)
        (replaces_retired (former own home) (with_entry (pair own spare) (with_retired failed entries)) own (former_apart i inside)
        ∙ replaces_put (pair own spare) (with_retired failed entries))

    -- and every other one is where it was
    pub home_stays_in : (j : ℕ) → j < length (logical_in pools) → j ≢ i → home_in pools (entries_moved_in pools entries i failed spare) j ≡ home_in pools entries j
    home_stays_in j h ne = ap (λ (o : Option ℕ). unwrap_or o (block_in pools j))
        (replaces_retired (former own home) (with_entry (pair own spare) (with_retired failed entries)) (block_in pools j) (former_apart j h)
        ∙ replaces_other (pair own spare) (with_retired failed entries) (block_in pools j) (λ same. ne (sym (lawful.blocks i j inside h same)))
        ∙ replaces_retired failed entries (block_in pools j) (failed_apart j h))
