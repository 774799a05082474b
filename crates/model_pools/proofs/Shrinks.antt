-- After a move no other spare is free.
use Rattle.std.proofs.Common.{◌≡◌, ◌≢◌, ℕ, zero, suc, ◌<◌, inl, inr, nat_lt, eqb, false, Option, Some, IsNone, unwrap_or, List, [], ◌∷◌, sym, ap, ◌∙◌, subst, arith, length, filter}
use Rattle.std.specs.List.{Contains}
use Rattle.std.proofs.lemmas.Bool.{cases_eq, cases_Bool, true≢false, cond-false, ne_eqb}
use Rattle.std.proofs.lemmas.List.Elements.{Contains-append_right}
use Rattle.model_lists.specs.declared.sdl.SdlEntry.{SdlEntry}
use Rattle.model_lists.specs.Values.{defectives, with_entry, pair, retired}
use Rattle.model_pools.specs.Listed.{replacements}
use Rattle.model_pools.specs.Pools.{Pool, ArePools, AreValidUnder, logical_in, spares_in, block_in, home_in, is_unnamed, free_in}
use Rattle.model_pools.specs.Moves.{with_retired, former, entries_moved_in, tried_of}
use Rattle.model_pools.proofs.Entries.{Contains-defectives}
use Rattle.model_pools.proofs.Free.{Contains-free_in, Contains-from_free_in, free_is_own, free_from_unnamed, unnamed_from_free}
use Rattle.model_pools.proofs.Listed.{same_index}
use Rattle.model_pools.proofs.Members.{by_members, defective_member, rep_pair, pair_rep, pair_replaces}
use Rattle.model_pools.proofs.Moved.{former_is_spare}
use Rattle.model_pools.proofs.NewEntries.{put_keeps, retire_all}
use Rattle.model_pools.proofs.Pooled.{own_no_spare}
use Rattle.model_pools.proofs.Replacements.{Contains-first, Contains-later}

-- the entry that is put is there
pub put_new : (new : SdlEntry) (es : List SdlEntry) → Contains (with_entry new es) new
put_new new es = Contains-append_right (filter (λ (x : SdlEntry). nat_lt x.defective new.defective) es) (new ∷ filter (λ (x : SdlEntry). nat_lt new.defective x.defective) es) new
    (Contains-first new (filter (λ (x : SdlEntry). nat_lt new.defective x.defective) es))

-- a block that is named as defective stays so
pub put_defective : (new : SdlEntry) (es : List SdlEntry) (b : ℕ) → Contains (defectives es) b → Contains (defectives (with_entry new es)) b
put_defective new es b has =
    let e = defective_member es b has in
    elim (cases_eq b new.defective) [
      | inl same ↦ subst (Contains (defectives (with_entry new es))) (sym same) (Contains-defectives (with_entry new es) new (put_new new es))
      | inr ne ↦ Contains-defectives (with_entry new es) (record { defective = b; replacement = e.0 }) (put_keeps new es (record { defective = b; replacement = e.0 }) ne e.1)
    ]

pub retired_defective : (ss : List ℕ) (es : List SdlEntry) (b : ℕ) → Contains (defectives es) b → Contains (defectives (with_retired ss es)) b
retired_defective [] es b has = has
retired_defective (s ∷ ss) es b has = put_defective (retired s) (with_retired ss es) b (retired_defective ss es b has)

module _ (pools : List Pool) (entries : List SdlEntry) (lawful : ArePools pools) (valid : AreValidUnder pools entries) (i : ℕ) (inside : i < length (logical_in pools)) where
  abbrev own : ℕ
  own = block_in pools i

  abbrev home : ℕ
  home = home_in pools entries i

  module _ (tried spare : ℕ) (few : tried < length (free_in pools entries i)) where
    abbrev failed : List ℕ
    failed = tried_of (free_in pools entries i) tried

    abbrev paired : List SdlEntry
    paired = with_entry (pair own spare) (with_retired failed entries)

    abbrev moved : List SdlEntry
    moved = entries_moved_in pools entries i failed spare

    pub defective_stays : (b : ℕ) → Contains (defectives entries) b → Contains (defectives moved) b
    defective_stays b has =
        retired_defective (former own home) paired b
        (put_defective (pair own spare) (with_retired failed entries) b (retired_defective failed entries b has))

    module _ (d b : ℕ) (has : Contains entries (pair d b)) where
      b_spare : Contains (spares_in pools) b
      b_spare = (by_members pools entries valid).from d b has

      -- a block that has a replacement is no spare
      d_no_spare : (s : ℕ) → Contains (spares_in pools) s → d ≢ s
      d_no_spare s is same = none ((by_members pools entries valid).is_retired (pair d b) has (subst (Contains (spares_in pools)) (sym same) is))
        where
          none : IsNone (Some b) → ⊥
          none h = cc

      in_one : Contains (with_retired failed entries) (pair d b)
      in_one = (retire_all pools entries lawful valid i tried (omega (arith, few))).keeps (pair d b) d_no_spare has

      -- the pair of this very block: the replacement was the home, and is retired
      is_home : d ≡ own → home ≡ b
      is_home its = ap (λ (o : Option ℕ). unwrap_or o own)
          (pair_replaces entries (same_index (defectives entries) valid.rising) own b (subst (λ (n : ℕ). Contains entries (pair n b)) its has))

      was_former : d ≡ own → Contains (defectives moved) b
      was_former its =
          let home_is = is_home its in
          let apart : home ≢ own = λ same. own_no_spare pools lawful i inside b b_spare (sym home_is ∙ same) in
          let is_one : former own home ≡ home ∷ [] = cond-false (eqb home own) [] (home ∷ []) (ne_eqb home own apart) in
          subst (λ (fs : List ℕ). Contains (defectives (with_retired fs paired)) b) (sym is_one)
          (subst (Contains (defectives (with_entry (retired home) paired))) home_is (Contains-defectives (with_entry (retired home) paired) (retired home) (put_new (retired home) paired)))

      keep_retired : (ss : List ℕ) (es : List SdlEntry) → ((s : ℕ) → Contains ss s → d ≢ s) → Contains es (pair d b) → Contains (with_retired ss es) (pair d b)
      keep_retired [] es away there = there
      keep_retired (s ∷ ss) es away there = put_keeps (retired s) (with_retired ss es) (pair d b) (away s (Contains-first s ss)) (keep_retired ss es (λ t is. away t (Contains-later s ss t is)) there)

      stays_pair : d ≢ own → Contains moved (pair d b)
      stays_pair ne = keep_retired (former own home) paired (λ s is. d_no_spare s (former_is_spare pools entries lawful valid i s is))
          (put_keeps (pair own spare) (with_retired failed entries) (pair d b) ne in_one)

    -- so what is named was named by neither before, where it is named by neither then
    pub replacement_stays : (b : ℕ) → (¬ Contains (defectives moved) b) → (¬ Contains (replacements moved) b) → ¬ Contains (replacements entries) b
    replacement_stays b defect replace h =
        let r = rep_pair entries b h in
        elim (cases_eq r.0 own) [
          | inl its ↦ defect (was_former r.0 b r.1 its)
          | inr ne ↦ replace (pair_rep moved r.0 b (stays_pair r.0 b r.1 ne))
        ]

    -- and what is free then, for any logical block, was free before
    pub moved_free_in : (j b : ℕ) → Contains (free_in pools moved j) b → Contains (free_in pools entries j) b
    moved_free_in j b free =
        let f = Contains-from_free_in pools moved j b free in
        Contains-free_in pools entries j b (free_is_own pools moved j b free) (λ h. f.1 (defective_stays b h)) (replacement_stays b f.1 f.2)

    -- ---- what a move names

    -- each block that was named is named still,
    pub named_stays : (b : ℕ) → is_unnamed entries b ≡ false → is_unnamed moved b ≡ false
    named_stays b named = elim (cases_Bool (is_unnamed moved b)) [
      | inl free ↦
          (let apart = unnamed_from_free moved b free in
          absurd (true≢false (sym (free_from_unnamed entries b (λ h. apart.0 (defective_stays b h)) (replacement_stays b apart.0 apart.1)) ∙ named)))
      | inr is ↦ is
    ]

    -- so is each spare that failed,
    pub failed_named : (s : ℕ) → Contains failed s → is_unnamed moved s ≡ false
    failed_named s has = elim (cases_Bool (is_unnamed moved s)) [
      | inl free ↦ absurd ((unnamed_from_free moved s free).0
          (retired_defective (former own home) paired s (put_defective (pair own spare) (with_retired failed entries) s (retired_there failed s has))))
      | inr is ↦ is
    ]
      where
        retired_there : (ss : List ℕ) (s : ℕ) → Contains ss s → Contains (defectives (with_retired ss entries)) s
        retired_there [] s (k, within, is) = absurd (omega (arith, within))
        retired_there (x ∷ xs) s (zero, within, is) =
            subst (Contains (defectives (with_entry (retired x) (with_retired xs entries)))) is
            (Contains-defectives (with_entry (retired x) (with_retired xs entries)) (retired x) (put_new (retired x) (with_retired xs entries)))
        retired_there (x ∷ xs) s (suc k, within, is) = put_defective (retired x) (with_retired xs entries) s (retired_there xs s (k, omega (arith, within), is))

    -- and the spare that the block went to.
    pub spare_named : is_unnamed moved spare ≡ false
    spare_named = elim (cases_Bool (is_unnamed moved spare)) [
      | inl free ↦ absurd ((unnamed_from_free moved spare free).1 (pair_rep moved own spare there))
      | inr is ↦ is
    ]
      where
        keep_pair : (ss : List ℕ) → ((s : ℕ) → Contains ss s → Contains (spares_in pools) s) → Contains (with_retired ss paired) (pair own spare)
        keep_pair [] are = put_new (pair own spare) (with_retired failed entries)
        keep_pair (s ∷ ss) are =
            put_keeps (retired s) (with_retired ss paired) (pair own spare)
            (λ same. own_no_spare pools lawful i inside s (are s (Contains-first s ss)) (sym same)) (keep_pair ss (λ u has. are u (Contains-later s ss u has)))

        there : Contains moved (pair own spare)
        there = keep_pair (former own home) (former_is_spare pools entries lawful valid i)
