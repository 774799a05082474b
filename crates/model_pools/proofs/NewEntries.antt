-- The entries after a logical block went to a spare are valid.
use Rattle.std.proofs.Common.{◌≡◌, ◌≢◌, ℕ, zero, suc, ◌<◌, ◌≤◌, nat_lt, eqb, true, Bool, Option, Some, None, unwrap_or, List, [], ◌∷◌, ◌⊎◌, inl, inr, refl, sym, ap, ◌∙◌, subst, arith, length, filter}
use Rattle.std.specs.Prelude.{slice_index}
use Rattle.std.specs.List.{Contains}
use Rattle.std.proofs.lemmas.Bool.{cases_eq, cases_Bool, cond-true, cond-false, lt-ltb, eq-eqb, ne_eqb, cases_order}
use Rattle.std.proofs.lemmas.List.Elements.{Contains-append_left, Contains-append_right, Contains-get_or}
use Rattle.model_lists.specs.declared.sdl.SdlEntry.{SdlEntry}
use Rattle.model_lists.specs.Values.{with_entry, pair, retired}
use Rattle.model_pools.specs.Pools.{Pool, ArePools, AreValidUnder, logical_in, spares_in, spares_for, block_in, home_in, free_in}
use Rattle.model_pools.specs.Moves.{with_retired, former, entries_moved_in, tried_of, IsNextOf}
use Rattle.model_pools.proofs.Apart.{free_apart_in}
use Rattle.model_pools.proofs.Free.{free_is_own}
use Rattle.model_pools.proofs.LookUps.{replaces}
use Rattle.model_pools.proofs.Members.{ByMembers, IsUnnamed, by_members, from_members, free_unnamed, retire_valid, retire_free, pair_valid, former_free, replaced_pair}
use Rattle.model_pools.proofs.Pooled.{own_no_spare}
use Rattle.model_pools.proofs.Replacements.{Contains-later}

-- members of a filter
pub filter_member : (p : SdlEntry → Bool) (xs : List SdlEntry) (y : SdlEntry) → p y ≡ true → Contains xs y → Contains (filter p xs) y
filter_member p [] y pass (k, within, is) = absurd (omega arith)
filter_member p (x ∷ xs) y pass (zero, within, is) =
    let here : p x ≡ true = ap p is ∙ pass in
    subst (λ (zs : List SdlEntry). Contains zs y) (sym (cond-true (p x) (x ∷ filter p xs) (filter p xs) here)) (0, omega arith, is)
filter_member p (x ∷ xs) y pass (suc k, within, is) = elim (cases_Bool (p x)) [
  | inl t ↦ subst (λ (zs : List SdlEntry). Contains zs y) (sym (cond-true (p x) (x ∷ filter p xs) (filter p xs) t)) (Contains-later x (filter p xs) y (filter_member p xs y pass (k, omega arith, is)))
  | inr f ↦ subst (λ (zs : List SdlEntry). Contains zs y) (sym (cond-false (p x) (x ∷ filter p xs) (filter p xs) f)) (filter_member p xs y pass (k, omega arith, is))
]

-- an entry of another block stays
pub put_keeps : (new : SdlEntry) (es : List SdlEntry) (e : SdlEntry) → e.defective ≢ new.defective → Contains es e → Contains (with_entry new es) e
put_keeps new es e ne has = elim (cases_order e.defective new.defective) [
  | inl same ↦ absurd (ne same)
  | inr order ↦ elim order [
    | inl low ↦ Contains-append_left (filter (λ (x : SdlEntry). nat_lt x.defective new.defective) es) (new ∷ filter (λ (x : SdlEntry). nat_lt new.defective x.defective) es) e
        (filter_member (λ (x : SdlEntry). nat_lt x.defective new.defective) es e (lt-ltb e.defective new.defective low) has)
    | inr high ↦ Contains-append_right (filter (λ (x : SdlEntry). nat_lt x.defective new.defective) es) (new ∷ filter (λ (x : SdlEntry). nat_lt new.defective x.defective) es) e
        (Contains-later new (filter (λ (x : SdlEntry). nat_lt new.defective x.defective) es) e (filter_member (λ (x : SdlEntry). nat_lt new.defective x.defective) es e (lt-ltb new.defective e.defective high) has))
  ]
]

module _ (pools : List Pool) (entries : List SdlEntry) (lawful : ArePools pools) (valid : AreValidUnder pools entries) (i : ℕ) where
  abbrev free : List ℕ
  free = free_in pools entries i

  abbrev own : ℕ
  own = block_in pools i

  -- the entries once n spares are retired
  abbrev retired_by : ℕ → List SdlEntry
  retired_by k = with_retired (tried_of free k) entries

  pub record HasRetired (k : ℕ) : Type 0 where
    pub es_valid : ByMembers pools (retired_by k)
    pub others : (j : ℕ) → k ≤ j → j < length free → IsUnnamed pools (retired_by k) (slice_index free j)
    pub keeps : (e : SdlEntry) → ((s : ℕ) → Contains (spares_in pools) s → e.defective ≢ s) → Contains entries e → Contains (retired_by k) e

  pub retire_all : (k : ℕ) → k ≤ length free → HasRetired k
  retire_all zero le = record {
    es_valid = by_members pools entries valid;
    others = λ j low h. free_unnamed pools entries i (slice_index free j) (Contains-get_or free j 0 h);
    keeps = λ e away has. has;
  }
  retire_all (suc k) le =
      let before = retire_all k (omega arith) in
      let s = slice_index free k in
      let one = before.others k (omega arith) (omega arith) in
      record {
        es_valid = retire_valid pools lawful (retired_by k) s before.es_valid one;
        others = λ j low h. retire_free pools lawful (retired_by k) s before.es_valid one (slice_index free j)
            (λ same. free_apart_in pools entries lawful i k j (omega arith) h (sym same)) (before.others j (omega arith) h);
        keeps = λ e away has. put_keeps (retired s) (retired_by k) e (away s one.spare) (before.keeps e away has);
      }

  module _ (inside : i < length (logical_in pools)) (failed : List ℕ) (spare : ℕ) (next : IsNextOf free failed spare) where
    own_apart : (s : ℕ) → Contains (spares_in pools) s → own ≢ s
    own_apart s has same = own_no_spare pools lawful i inside s has (sym same)

    so_far : HasRetired next.tried
    so_far = retire_all next.tried (omega (arith, next.inside))

    spare_free : IsUnnamed pools (retired_by next.tried) spare
    spare_free = subst (IsUnnamed pools (retired_by next.tried)) (sym next.spare_is) (so_far.others next.tried (omega arith) next.inside)

    its_spare : Contains (spares_for pools i) spare
    its_spare = subst (Contains (spares_for pools i)) (sym next.spare_is) (free_is_own pools entries i (slice_index free next.tried) (Contains-get_or free next.tried 0 next.inside))

    -- the entries with the pair
    abbrev paired : List SdlEntry
    paired = with_entry (pair own spare) (retired_by next.tried)

    pub with_pair : ByMembers pools paired
    with_pair = pair_valid pools lawful (retired_by next.tried) i spare so_far.es_valid spare_free inside its_spare

    with_former : (home : ℕ) → (home ≡ own) ⊎ Contains entries (pair own home) → ByMembers pools (with_retired (former own home) paired)
    with_former home was = elim (cases_eq home own) [
      | inl same ↦
          let none : former own home ≡ [] = cond-true (eqb home own) [] (home ∷ []) (eq-eqb home own same) in
          subst (λ (ss : List ℕ). ByMembers pools (with_retired ss paired)) (sym none) with_pair
      | inr ne ↦
          let one : former own home ≡ home ∷ [] = cond-false (eqb home own) [] (home ∷ []) (ne_eqb home own ne) in
          subst (λ (ss : List ℕ). ByMembers pools (with_retired ss paired)) (sym one) (moved ne)
    ]
      where
        moved : home ≢ own → ByMembers pools (with_entry (retired home) paired)
        moved ne = elim was [
          | inl is_own ↦ absurd (ne is_own)
          | inr has ↦
              let there = so_far.keeps (pair own home) (λ s is. own_apart s is) has in
              retire_valid pools lawful paired home with_pair
              (former_free pools lawful (retired_by next.tried) i spare so_far.es_valid spare_free inside its_spare home there)
        ]

    -- what the home is: the block itself, or a pair says so
    pub home_was : (home_in pools entries i ≡ own) ⊎ Contains entries (pair own (home_in pools entries i))
    home_was = by_cases (replaces entries own) refl
      where
        by_cases : (o : Option ℕ) → replaces entries own ≡ o → (home_in pools entries i ≡ own) ⊎ Contains entries (pair own (home_in pools entries i))
        by_cases None is = inl (ap (λ (o : Option ℕ). unwrap_or o own) is)
        by_cases (Some r) is =
            let home_is : home_in pools entries i ≡ r = ap (λ (o : Option ℕ). unwrap_or o own) is in
            inr (subst (λ (n : ℕ). Contains entries (pair own n)) (sym home_is) (replaced_pair entries own r is))

    -- So the new entries are valid.
    pub moved_valid_in : AreValidUnder pools (entries_moved_in pools entries i failed spare)
    moved_valid_in =
        from_members pools (entries_moved_in pools entries i failed spare)
        (subst (λ (fs : List ℕ). ByMembers pools (with_retired (former own (home_in pools entries i)) (with_entry (pair own spare) (with_retired fs entries)))) (sym next.failed_are)
        (with_former (home_in pools entries i) home_was))
