-- Which entries are valid under pools, by their members; and entries that are put one after another stay valid.
use Rattle.std.proofs.Common.{◌≡◌, ◌≢◌, ℕ, zero, suc, ◌<◌, nat_lt, eqb, true, Option, Some, None, IsSome, IsNone, List, [], ◌∷◌, length, ◌⊎◌, inl, inr, refl, sym, ap, ◌∙◌, subst, arith, get_or, filter}
use Rattle.std.specs.List.{Contains, All, IsDistinct, cons_option}
use Rattle.std.specs.List.Sorted.{IsStrictlyIncreasing}
use Rattle.std.proofs.lemmas.Bool.{ltb-true, cases_eq, eq-eqb}
use Rattle.std.proofs.lemmas.List.{get_or_default}
use Rattle.std.proofs.lemmas.List.Elements.{All-filter, All-contains, filter_passes, Contains-append_cases, Contains-append_left, Contains-append_right, Contains-get_or}
use Rattle.std.proofs.lemmas.Map.Keys.{IsDistinct-cons, IsDistinct-tail}
use Rattle.model_lists.specs.declared.sdl.SdlEntry.{SdlEntry}
use Rattle.model_lists.specs.Values.{defectives, with_entry, pair, retired}
use Rattle.model_lists.proofs.Entries.{rises-with_entry}
use Rattle.model_pools.specs.Listed.{replacements}
use Rattle.model_pools.specs.Pools.{Pool, ArePools, AreValidUnder, logical_in, spares_in, all_in, spares_for, block_in, free_in}
use Rattle.model_pools.proofs.Entries.{Contains-defectives, differs_from_all}
use Rattle.model_pools.proofs.Free.{Contains-from_free_in}
use Rattle.model_pools.proofs.Listed.{Decides-is_listed, IsDistinct-from_increasing, listed-All, one_listed, same_index}
use Rattle.model_pools.proofs.LookUps.{replaces, here, later}
use Rattle.model_pools.proofs.Pooled.{logical_apart}
use Rattle.model_pools.proofs.Replacements.{Contains-later, Contains-cons_option, Contains-cons_option_first, first_is_alone, IsDistinct-cons_option, alone_in_cons_option}

-- ---- members

-- what holds of each member holds of all
pub all_from : {X : Type 0} (P : X → Type 0) (xs : List X) → ((x : X) → Contains xs x → P x) → All P xs
all_from P xs each k d h = each (get_or xs k d) (k, h, get_or_default xs k (get_or xs k d) d h)

contains_all : {X : Type 0} (xs : List X) → All (Contains xs) xs
contains_all xs = all_from (Contains xs) xs (λ x h. h)

-- a member of entries with one put among them is that one, or was there and names another block
pub put_members : (new : SdlEntry) (es : List SdlEntry) (e : SdlEntry) → Contains (with_entry new es) e → (e ≡ new) ⊎ (Contains es e × (e.defective ≢ new.defective))
put_members new es e has =
    elim (Contains-append_cases (filter (λ (x : SdlEntry). nat_lt x.defective new.defective) es) (new ∷ filter (λ (x : SdlEntry). nat_lt new.defective x.defective) es) e has) [
      | inl low ↦
          let less = ltb-true e.defective new.defective (All-contains (λ (x : SdlEntry). nat_lt x.defective new.defective ≡ true) (filter (λ (x : SdlEntry). nat_lt x.defective new.defective) es) e (filter_passes (λ (x : SdlEntry). nat_lt x.defective new.defective) es) low) in
          inr (All-contains (Contains es) (filter (λ (x : SdlEntry). nat_lt x.defective new.defective) es) e (All-filter (λ (x : SdlEntry). nat_lt x.defective new.defective) (Contains es) es (contains_all es)) low, λ same. (omega (arith, less, same)))
      | inr rest ↦ first_or_later rest
    ]
  where
    high : Contains (filter (λ (x : SdlEntry). nat_lt new.defective x.defective) es) e → (e ≡ new) ⊎ (Contains es e × (e.defective ≢ new.defective))
    high h =
        let more = ltb-true new.defective e.defective (All-contains (λ (x : SdlEntry). nat_lt new.defective x.defective ≡ true) (filter (λ (x : SdlEntry). nat_lt new.defective x.defective) es) e (filter_passes (λ (x : SdlEntry). nat_lt new.defective x.defective) es) h) in
        inr (All-contains (Contains es) (filter (λ (x : SdlEntry). nat_lt new.defective x.defective) es) e (All-filter (λ (x : SdlEntry). nat_lt new.defective x.defective) (Contains es) es (contains_all es)) h, λ same. (omega (arith, more, same)))

    first_or_later : Contains (new ∷ filter (λ (x : SdlEntry). nat_lt new.defective x.defective) es) e → (e ≡ new) ⊎ (Contains es e × (e.defective ≢ new.defective))
    first_or_later (zero, within, is) = inl (sym is)
    first_or_later (suc k, within, is) = high (k, omega arith, is)

-- the entry of a defective block
pub defective_member : (es : List SdlEntry) (b : ℕ) → Contains (defectives es) b → (o : Option ℕ) × Contains es (record { defective = b; replacement = o })
defective_member [] b (k, within, is) = absurd (omega arith)
defective_member (e ∷ es) b (zero, within, is) = (e.replacement, (0, omega arith, ap (λ (n : ℕ). record { defective = n; replacement = e.replacement }) is))
defective_member (e ∷ es) b (suc k, within, is) =
    let later = defective_member es b (k, omega arith, is) in
    (later.0, Contains-later e es (record { defective = b; replacement = later.0 }) later.1)

-- what is there beside an optional first
cons_option_cases : (o : Option ℕ) (xs : List ℕ) (q : ℕ) → Contains (cons_option o xs) q → (o ≡ Some q) ⊎ Contains xs q
cons_option_cases None xs q has = inr has
cons_option_cases (Some x) xs q (zero, within, is) = inl (ap Some is)
cons_option_cases (Some x) xs q (suc k, within, is) = inr (k, omega arith, is)

-- a replacement is that of a pair, and that of a pair is a replacement
pub rep_pair : (es : List SdlEntry) (r : ℕ) → Contains (replacements es) r → (b : ℕ) × Contains es (pair b r)
rep_pair [] r (k, within, is) = absurd (omega arith)
rep_pair (e ∷ es) r has = elim (cons_option_cases e.replacement (replacements es) r has) [
  | inl is ↦ (e.defective, (0, omega arith, ap (λ (o : Option ℕ). record { defective = e.defective; replacement = o }) is))
  | inr rest ↦ let later = rep_pair es r rest in (later.0, Contains-later e es (pair later.0 r) later.1)
]

pub pair_rep : (es : List SdlEntry) (b r : ℕ) → Contains es (pair b r) → Contains (replacements es) r
pair_rep [] b r (k, within, is) = absurd (omega arith)
pair_rep (e ∷ es) b r (zero, within, is) = Contains-cons_option_first e.replacement (replacements es) r (ap (λ (x : SdlEntry). x.replacement) is)
pair_rep (e ∷ es) b r (suc k, within, is) = Contains-cons_option e.replacement (replacements es) r (pair_rep es b r (k, omega arith, is))

distinct_cons_option : (o : Option ℕ) (xs : List ℕ) → IsDistinct eqb xs → ((x : ℕ) → o ≡ Some x → ¬ Contains xs x) → IsDistinct eqb (cons_option o xs)
distinct_cons_option None xs apart alone = apart
distinct_cons_option (Some x) xs apart alone = IsDistinct-cons eqb x xs (differs_from_all x xs (alone x refl)) apart

-- replacements differ where none is of two pairs
distinct_reps : (es : List SdlEntry) → IsDistinct eqb (defectives es) → ((a b r : ℕ) → Contains es (pair a r) → Contains es (pair b r) → a ≡ b) → IsDistinct eqb (replacements es)
distinct_reps [] apart single = apart
distinct_reps (e ∷ es) apart single =
    distinct_cons_option e.replacement (replacements es)
    (distinct_reps es (IsDistinct-tail eqb e.defective (defectives es) apart) (λ a c r h h'. single a c r (Contains-later e es (pair a r) h) (Contains-later e es (pair c r) h')))
    (λ x is has.
    let other = rep_pair es x has in
    let first : Contains (e ∷ es) (pair e.defective x) = (0, omega arith, ap (λ (o : Option ℕ). record { defective = e.defective; replacement = o }) is) in
    let same = single e.defective other.0 x first (Contains-later e es (pair other.0 x) other.1) in
    first_is_alone e.defective (defectives es) apart (subst (Contains (defectives es)) (sym same) (Contains-defectives es (pair other.0 x) other.1)))

-- with different replacements, a replacement is of one pair
single_rep : (es : List SdlEntry) → IsDistinct eqb (replacements es) → (a b r : ℕ) → Contains es (pair a r) → Contains es (pair b r) → a ≡ b
single_rep [] apart a b r (k, within, is) h' = absurd (omega arith)
single_rep (e ∷ es) apart a b r (zero, within, is) (zero, within', is') = sym (ap (λ (x : SdlEntry). x.defective) is) ∙ ap (λ (x : SdlEntry). x.defective) is'
single_rep (e ∷ es) apart a b r (zero, within, is) (suc k', within', is') =
    absurd (alone_in_cons_option e.replacement (replacements es) r (ap (λ (x : SdlEntry). x.replacement) is) apart (pair_rep es b r (k', omega arith, is')))
single_rep (e ∷ es) apart a b r (suc k, within, is) (zero, within', is') =
    absurd (alone_in_cons_option e.replacement (replacements es) r (ap (λ (x : SdlEntry). x.replacement) is') apart (pair_rep es a r (k, omega arith, is)))
single_rep (e ∷ es) apart a b r (suc k, within, is) (suc k', within', is') =
    single_rep es (IsDistinct-cons_option e.replacement (replacements es) apart) a b r (k, omega arith, is) (k', omega arith, is')

-- where no two entries name one block, a pair is what replaces its block
pub pair_replaces : (es : List SdlEntry) → ((n k d : ℕ) → n < length (defectives es) → k < length (defectives es) → get_or (defectives es) n d ≡ get_or (defectives es) k d → n ≡ k)
    → (b r : ℕ) → Contains es (pair b r) → replaces es b ≡ Some r
pair_replaces [] apart b r (k, within, is) = absurd (omega arith)
pair_replaces (e ∷ es) apart b r (zero, within, is) =
    here e es b (eq-eqb e.defective b (ap (λ (x : SdlEntry). x.defective) is)) ∙ ap (λ (x : SdlEntry). x.replacement) is
pair_replaces (e ∷ es) apart b r (suc k, within, is) = elim (cases_eq e.defective b) [
  | inl same ↦
      let there = Contains-defectives es (pair b r) (k, omega arith, is) in
      let bad = apart 0 (suc there.0) b (omega arith) (omega (arith, there.1)) (same ∙ sym there.2) in
      absurd (omega (arith, bad))
  | inr ne ↦ later e es b ne ∙ pair_replaces es (λ n m d h h' is'. let s = apart (suc n) (suc m) d (omega (arith, h)) (omega (arith, h')) is' in omega (arith, s)) b r (k, omega arith, is)
]

-- what replaces a block is that of a pair
pub replaced_pair : (es : List SdlEntry) (b r : ℕ) → replaces es b ≡ Some r → Contains es (pair b r)
replaced_pair [] b r is = absurd cc
replaced_pair (e ∷ es) b r is = elim (cases_eq e.defective b) [
  | inl same ↦
      let says : e.replacement ≡ Some r = sym (here e es b (eq-eqb e.defective b same)) ∙ is in
      let whole : e ≡ pair b r = ap (λ (n : ℕ). record { defective = n; replacement = e.replacement }) same ∙ ap (λ (o : Option ℕ). record { defective = b; replacement = o }) says in
      (0, omega arith, whole)
  | inr ne ↦ Contains-later e es (pair b r) (replaced_pair es b r (sym (later e es b ne) ∙ is))
]

-- ---- validity by members

module _ (pools : List Pool) where
  pub record ByMembers (es : List SdlEntry) : Type 0 where
    pub rising : IsStrictlyIncreasing (defectives es)
    pub within : (e : SdlEntry) → Contains es e → Contains (all_in pools) e.defective
    pub replaced : (e : SdlEntry) → Contains es e → Contains (logical_in pools) e.defective → IsSome e.replacement
    pub is_retired : (e : SdlEntry) → Contains es e → Contains (spares_in pools) e.defective → IsNone e.replacement
    pub from_own : (i r : ℕ) → i < length (logical_in pools) → Contains es (pair (block_in pools i) r) → Contains (spares_for pools i) r
    pub from : (b r : ℕ) → Contains es (pair b r) → Contains (spares_in pools) r
    pub single : (a b r : ℕ) → Contains es (pair a r) → Contains es (pair b r) → a ≡ b
    pub sound : (b r : ℕ) (o : Option ℕ) → Contains es (pair b r) → ¬ Contains es (record { defective = r; replacement = o })

  -- no entry names the spare
  pub record IsUnnamed (es : List SdlEntry) (s : ℕ) : Type 0 where
    pub spare : Contains (spares_in pools) s
    pub not_defective : (o : Option ℕ) → ¬ Contains es (record { defective = s; replacement = o })
    pub not_replacement : (b : ℕ) → ¬ Contains es (pair b s)

-- validity by members and by lists are the same
pub by_members : (pools : List Pool) (entries : List SdlEntry) → AreValidUnder pools entries → ByMembers pools entries
by_members pools entries v = record {
  rising = v.rising;
  within = λ e has. one_listed (all_in pools) (defectives entries) v.within e.defective (Contains-defectives entries e has);
  replaced = λ e has logical. All-contains (λ (x : SdlEntry). Contains (logical_in pools) x.defective → IsSome x.replacement) entries e v.logical_replaced has logical;
  is_retired = λ e has spare. All-contains (λ (x : SdlEntry). Contains (spares_in pools) x.defective → IsNone x.replacement) entries e v.spares_retired has spare;
  from_own = λ i r inside has. (Decides-is_listed (spares_for pools i) r).0 (v.from_own_pool i r inside (pair_replaces entries (same_index (defectives entries) v.rising) (block_in pools i) r has));
  from = λ b r has. one_listed (spares_in pools) (replacements entries) v.from_spares r (pair_rep entries b r has);
  single = λ a b r has has'. single_rep entries v.different a b r has has';
  sound = λ b r o has other. All-contains (λ (x : ℕ). ¬ Contains (defectives entries) x) (replacements entries) r v.sound (pair_rep entries b r has)
      (Contains-defectives entries (record { defective = r; replacement = o }) other);
}

pub from_members : (pools : List Pool) (entries : List SdlEntry) → ByMembers pools entries → AreValidUnder pools entries
from_members pools entries m = record {
  within = listed-All (all_in pools) (defectives entries) (all_from (Contains (all_in pools)) (defectives entries) (λ b has. let e = defective_member entries b has in m.within (record { defective = b; replacement = e.0 }) e.1));
  rising = m.rising;
  logical_replaced = all_from (λ (x : SdlEntry). Contains (logical_in pools) x.defective → IsSome x.replacement) entries (λ e has logical. m.replaced e has logical);
  spares_retired = all_from (λ (x : SdlEntry). Contains (spares_in pools) x.defective → IsNone x.replacement) entries (λ e has spare. m.is_retired e has spare);
  from_own_pool = λ i spare inside is. (Decides-is_listed (spares_for pools i) spare).1 (m.from_own i spare inside (replaced_pair entries (block_in pools i) spare is));
  from_spares = listed-All (spares_in pools) (replacements entries) (all_from (Contains (spares_in pools)) (replacements entries) (λ r has. let p = rep_pair entries r has in m.from p.0 r p.1));
  different = distinct_reps entries (IsDistinct-from_increasing (defectives entries) m.rising) m.single;
  sound = all_from (λ (x : ℕ). ¬ Contains (defectives entries) x) (replacements entries) (λ r has named.
      let p = rep_pair entries r has in
      let e = defective_member entries r named in
      m.sound p.0 r e.0 p.1 e.1);
}

-- a free spare is named by no entry
pub free_unnamed : (pools : List Pool) (entries : List SdlEntry) (i s : ℕ) → Contains (free_in pools entries i) s → IsUnnamed pools entries s
free_unnamed pools entries i s has =
    let free = Contains-from_free_in pools entries i s has in
    record {
      spare = free.0;
      not_defective = λ o named. free.1 (Contains-defectives entries (record { defective = s; replacement = o }) named);
      not_replacement = λ b named. free.2 (pair_rep entries b s named);
    }

module _ (pools : List Pool) (lawful : ArePools pools) where
  no_spare : (b : ℕ) → Contains (logical_in pools) b → Contains (spares_in pools) b → ⊥
  no_spare b logical spare = logical_apart pools lawful b logical spare

  rises : (new : SdlEntry) (es : List SdlEntry) → IsStrictlyIncreasing (defectives es) → IsStrictlyIncreasing (defectives (with_entry new es))
  rises new es rising = rises-with_entry new es rising

  pair_not_retired : (b r s : ℕ) → pair b r ≡ retired s → ⊥
  pair_not_retired b r s same = let e : Some r ≡ None = ap (λ (x : SdlEntry). x.replacement) same in cc

  -- a free spare is retired
  module _ (es : List SdlEntry) (s : ℕ) (valid : ByMembers pools es) (free : IsUnnamed pools es s) where
    pub retire_valid : ByMembers pools (with_entry (retired s) es)
    retire_valid = record {
      rising = rises (retired s) es valid.rising;
      within = λ e has. elim (put_members (retired s) es e has) [
        | inl new ↦ subst (λ (x : SdlEntry). Contains (all_in pools) x.defective) (sym new) (Contains-append_right (logical_in pools) (spares_in pools) s free.spare)
        | inr old ↦ valid.within e old.0
      ];
      replaced = λ e has logical. elim (put_members (retired s) es e has) [
        | inl new ↦ absurd (no_spare s (subst (λ (x : SdlEntry). Contains (logical_in pools) x.defective) new logical) free.spare)
        | inr old ↦ valid.replaced e old.0 logical
      ];
      is_retired = λ e has spare. elim (put_members (retired s) es e has) [
        | inl new ↦ subst (λ (x : SdlEntry). IsNone x.replacement) (sym new) refl
        | inr old ↦ valid.is_retired e old.0 spare
      ];
      from_own = λ i r inside has. valid.from_own i r inside (old_pair (block_in pools i) r has);
      from = λ b r has. valid.from b r (old_pair b r has);
      single = λ a b r has has'. valid.single a b r (old_pair a r has) (old_pair b r has');
      sound = λ b r o has other. elim (put_members (retired s) es (record { defective = r; replacement = o }) other) [
        | inl new ↦ free.not_replacement b (subst (λ (n : ℕ). Contains es (pair b n)) (ap (λ (x : SdlEntry). x.defective) new) (old_pair b r has))
        | inr old ↦ valid.sound b r o (old_pair b r has) old.0
      ];
    }
      where
        old_pair : (b r : ℕ) → Contains (with_entry (retired s) es) (pair b r) → Contains es (pair b r)
        old_pair b r has = elim (put_members (retired s) es (pair b r) has) [
          | inl new ↦ absurd (pair_not_retired b r s new)
          | inr old ↦ old.0
        ]

    -- every other free spare stays free
    pub retire_free : (t : ℕ) → t ≢ s → IsUnnamed pools es t → IsUnnamed pools (with_entry (retired s) es) t
    retire_free t ne other = record {
      spare = other.spare;
      not_defective = λ o has. elim (put_members (retired s) es (record { defective = t; replacement = o }) has) [
        | inl new ↦ ne (ap (λ (x : SdlEntry). x.defective) new)
        | inr old ↦ other.not_defective o old.0
      ];
      not_replacement = λ b has. elim (put_members (retired s) es (pair b t) has) [
        | inl new ↦ pair_not_retired b t s new
        | inr old ↦ other.not_replacement b old.0
      ];
    }

  -- a logical block goes to a free spare
  module _ (es : List SdlEntry) (i s : ℕ) (valid : ByMembers pools es) (free : IsUnnamed pools es s) (inside : i < length (logical_in pools)) (its : Contains (spares_for pools i) s) where
    abbrev own : ℕ
    own = block_in pools i

    logical : Contains (logical_in pools) own
    logical = Contains-get_or (logical_in pools) i 0 inside

    whole : Contains (all_in pools) own
    whole = Contains-append_left (logical_in pools) (spares_in pools) own logical

    pub pair_valid : ByMembers pools (with_entry (pair own s) es)
    pair_valid = record {
      rising = rises (pair own s) es valid.rising;
      within = λ e has. elim (put_members (pair own s) es e has) [
        | inl new ↦ subst (λ (x : SdlEntry). Contains (all_in pools) x.defective) (sym new) whole
        | inr old ↦ valid.within e old.0
      ];
      replaced = λ e has is. elim (put_members (pair own s) es e has) [
        | inl new ↦ subst (λ (x : SdlEntry). IsSome x.replacement) (sym new) refl
        | inr old ↦ valid.replaced e old.0 is
      ];
      is_retired = λ e has spare. elim (put_members (pair own s) es e has) [
        | inl new ↦ absurd (no_spare own logical (subst (λ (x : SdlEntry). Contains (spares_in pools) x.defective) new spare))
        | inr old ↦ valid.is_retired e old.0 spare
      ];
      from_own = λ j r within has. elim (put_members (pair own s) es (pair (block_in pools j) r) has) [
        | inl new ↦
            let at : j ≡ i = lawful.blocks j i within inside (first (block_in pools j) r new) in
            subst (Contains (spares_for pools j)) (sym (second (block_in pools j) r new)) (subst (λ (k : ℕ). Contains (spares_for pools k) s) (sym at) its)
        | inr old ↦ valid.from_own j r within old.0
      ];
      from = λ b r has. elim (put_members (pair own s) es (pair b r) has) [
        | inl new ↦ subst (Contains (spares_in pools)) (sym (second b r new)) free.spare
        | inr old ↦ valid.from b r old.0
      ];
      single = λ a b r has has'. elim (put_members (pair own s) es (pair a r) has) [
        | inl new ↦ elim (put_members (pair own s) es (pair b r) has') [
          | inl new' ↦ first a r new ∙ sym (first b r new')
          | inr old' ↦ absurd (free.not_replacement b (subst (λ (n : ℕ). Contains es (pair b n)) (second a r new) old'.0))
        ]
        | inr old ↦ elim (put_members (pair own s) es (pair b r) has') [
          | inl new' ↦ absurd (free.not_replacement a (subst (λ (n : ℕ). Contains es (pair a n)) (second b r new') old.0))
          | inr old' ↦ valid.single a b r old.0 old'.0
        ]
      ];
      sound = λ b r o has other. elim (put_members (pair own s) es (pair b r) has) [
        | inl new ↦ elim (put_members (pair own s) es (record { defective = r; replacement = o }) other) [
          | inl new' ↦ no_spare own logical (subst (Contains (spares_in pools)) (sym (second b r new) ∙ ap (λ (x : SdlEntry). x.defective) new') free.spare)
          | inr old' ↦ free.not_defective o (subst (λ (n : ℕ). Contains es (record { defective = n; replacement = o })) (second b r new) old'.0)
        ]
        | inr old ↦ elim (put_members (pair own s) es (record { defective = r; replacement = o }) other) [
          | inl new' ↦ no_spare own logical (subst (Contains (spares_in pools)) (ap (λ (x : SdlEntry). x.defective) new') (valid.from b r old.0))
          | inr old' ↦ valid.sound b r o old.0 old'.0
        ]
      ];
    }
      where
        first : (b r : ℕ) → pair b r ≡ pair own s → b ≡ own
        first b r same = ap (λ (x : SdlEntry). x.defective) same

        second : (b r : ℕ) → pair b r ≡ pair own s → r ≡ s
        second b r same = let e : Some r ≡ Some s = ap (λ (x : SdlEntry). x.replacement) same in cc

    -- what replaced the block before is free then
    pub former_free : (f : ℕ) → Contains es (pair own f) → IsUnnamed pools (with_entry (pair own s) es) f
    former_free f was = record {
      spare = valid.from own f was;
      not_defective = λ o has. elim (put_members (pair own s) es (record { defective = f; replacement = o }) has) [
        | inl new ↦ no_spare own logical (subst (Contains (spares_in pools)) (ap (λ (x : SdlEntry). x.defective) new) (valid.from own f was))
        | inr old ↦ valid.sound own f o was old.0
      ];
      not_replacement = λ b has. elim (put_members (pair own s) es (pair b f) has) [
        | inl new ↦ free.not_replacement own (subst (λ (n : ℕ). Contains es (pair own n)) (second_of b f new) was)
        | inr old ↦ old.1 (valid.single b own f old.0 was)
      ];
    }
      where
        second_of : (b r : ℕ) → pair b r ≡ pair own s → r ≡ s
        second_of b r same = let e : Some r ≡ Some s = ap (λ (x : SdlEntry). x.replacement) same in cc
