-- How the secondary list of a move is made, entry after entry.
use Rattle.std.specs.Prelude.{◌≡◌, ◌≢◌, ℕ, suc, ◌+◌, ◌≤◌, ◌<◌, ◌^◌, nat_lt, ◌⊎◌, Option, Some, None, List, [], ◌∷◌, length, slice_index}
use Rattle.std.proofs.Common.{refl, sym, ap, ◌∙◌, inl, inr, subst, arith, eqb, filter, length-append}
use Rattle.std.specs.List.{All, Contains}
use Rattle.std.specs.List.Sorted.{IsStrictlyIncreasing}
use Rattle.std.proofs.lemmas.Bool.{cond-true, cond-false, lt-ltb, le-ltb, ne_eqb, cases_order}
use Rattle.std.proofs.lemmas.List.Elements.{Contains-append_right}
use Rattle.model_lists.specs.declared.sdl.SdlEntry.{SdlEntry}
use Rattle.model_lists.specs.Values.{Sdl, IsBlockNumber, HasNumbers, IsLawfulSdl, most_of, defectives, with_entry, pair, retired}
use Rattle.model_pools.specs.Pools.{Pool, ArePools, AreValidUnder, all_in, logical_in, spares_in, block_in, home_in, free_in}
use Rattle.model_pools.specs.Moves.{with_retired, former, sdl_moved_in, entries_moved_in, tried_of, IsNextOf}
use Rattle.model_pools.proofs.Entries.{length-entries_in}
use Rattle.model_pools.proofs.Members.{ByMembers, all_from, by_members, from_members}
use Rattle.model_pools.proofs.NewEntries.{retire_all, with_pair, moved_valid_in}
use Rattle.model_pools.proofs.Replacements.{Contains-later}
use Rattle.model_volume.proofs.ValidDecided.{contains_decided}
use Rattle.ram_replace.specs.declared.spares.Found.{Found}
use Rattle.ram_replace.specs.Spares.{StandsAt}

-- ---- room

-- the entries of lower and of higher blocks are all, where none is of the block
low_and_high : (b : ℕ) (es : List SdlEntry) → ¬ Contains (defectives es) b
    → length (filter (λ (e : SdlEntry). nat_lt e.defective b) es) + length (filter (λ (e : SdlEntry). nat_lt b e.defective) es) ≡ length es
low_and_high b [] none = refl
low_and_high b (e ∷ es) none =
    let rest = low_and_high b es (λ has. none (Contains-later e.defective (defectives es) b has)) in
    elim (cases_order e.defective b) [
      | inl same ↦ absurd (none (0, omega arith, same))
      | inr (inl low) ↦
          let first = ap length (cond-true (nat_lt e.defective b) (e ∷ filter (λ (x : SdlEntry). nat_lt x.defective b) es) (filter (λ (x : SdlEntry). nat_lt x.defective b) es) (lt-ltb e.defective b low)) in
          let last = ap length (cond-false (nat_lt b e.defective) (e ∷ filter (λ (x : SdlEntry). nat_lt b x.defective) es) (filter (λ (x : SdlEntry). nat_lt b x.defective) es) (le-ltb b e.defective (omega (arith, low)))) in
          omega (arith, first, last, rest)
      | inr (inr high) ↦
          let first = ap length (cond-false (nat_lt e.defective b) (e ∷ filter (λ (x : SdlEntry). nat_lt x.defective b) es) (filter (λ (x : SdlEntry). nat_lt x.defective b) es) (le-ltb e.defective b (omega (arith, high)))) in
          let last = ap length (cond-true (nat_lt b e.defective) (e ∷ filter (λ (x : SdlEntry). nat_lt b x.defective) es) (filter (λ (x : SdlEntry). nat_lt b x.defective) es) (lt-ltb b e.defective high)) in
          omega (arith, first, last, rest)
    ]

-- So the entry has room where the list with it does.
pub room_for : (new : SdlEntry) (held : List SdlEntry) → length (with_entry new held) ≤ 8184
    → (length held < 8184) ⊎ Contains (defectives held) new.defective
room_for new held fits = elim (contains_decided (defectives held) new.defective) [
  | inl has ↦ inr has
  | inr none ↦
      let parts = low_and_high new.defective held none in
      let all = length-append (filter (λ (e : SdlEntry). nat_lt e.defective new.defective) held) (new ∷ filter (λ (e : SdlEntry). nat_lt new.defective e.defective) held) in
      inl (omega (arith, fits, parts, all))
]

-- ---- one entry after another

-- one more entry in a list of which the rest is as before
pub one_more_entry : (a b c : Sdl) (es : List SdlEntry) (e : SdlEntry) → b ≡ record a { entries = es } → c ≡ record b { entries = with_entry e b.entries } → c ≡ record a { entries = with_entry e es }
one_more_entry a b c es e was is = is ∙ ap (λ (x : Sdl). record x { entries = with_entry e x.entries }) was

-- ---- the entries at each step are few

module _ (pools : List Pool) (entries : List SdlEntry) (lawful : ArePools pools) (valid : AreValidUnder pools entries) (most : ℕ) (few_spares : length (spares_in pools) ≤ most) (i : ℕ) where
  few_of : (es : List SdlEntry) → ByMembers pools es → length es ≤ most
  few_of es members = let few = length-entries_in pools es (from_members pools es members) in omega (arith, few, few_spares)

  pub retired_few : (k : ℕ) → k ≤ length (free_in pools entries i) → length (with_retired (tried_of (free_in pools entries i) k) entries) ≤ most
  retired_few k few = few_of (with_retired (tried_of (free_in pools entries i) k) entries) (retire_all pools entries lawful valid i k few).es_valid

  module _ (inside : i < length (logical_in pools)) (found : Found) (at : StandsAt (free_in pools entries i) found) where
    pub next : IsNextOf (free_in pools entries i) (tried_of (free_in pools entries i) found.tried) found.spare
    next = record { tried = found.tried; failed_are = refl; inside = at.inside; spare_is = at.spare_is }

    pub pair_few : length (with_entry (pair (block_in pools i) found.spare) (with_retired (tried_of (free_in pools entries i) found.tried) entries)) ≤ most
    unfolding next
    pair_few = few_of (with_entry (pair (block_in pools i) found.spare) (with_retired (tried_of (free_in pools entries i) found.tried) entries))
        (with_pair pools entries lawful valid i inside (tried_of (free_in pools entries i) found.tried) found.spare next)

    -- the entries of the move are valid
    pub entries_valid : AreValidUnder pools (entries_moved_in pools entries i (tried_of (free_in pools entries i) found.tried) found.spare)
    entries_valid = moved_valid_in pools entries lawful valid i inside (tried_of (free_in pools entries i) found.tried) found.spare next

    pub moved_few : length (entries_moved_in pools entries i (tried_of (free_in pools entries i) found.tried) found.spare) ≤ most
    moved_few = let few = length-entries_in pools (entries_moved_in pools entries i (tried_of (free_in pools entries i) found.tried) found.spare) entries_valid in omega (arith, few, few_spares)

    module _ (held : List SdlEntry) (room : most ≤ 8184) (own : ℕ) (own_is : own ≡ block_in pools i) where
      pub room_for_pair : held ≡ with_retired (tried_of (free_in pools entries i) found.tried) entries → (length held < 8184) ⊎ Contains (defectives held) own
      room_for_pair list_is =
          let after : with_entry (pair own found.spare) held ≡ with_entry (pair (block_in pools i) found.spare) (with_retired (tried_of (free_in pools entries i) found.tried) entries) =
          ap (with_entry (pair own found.spare)) list_is
          ∙ ap (λ (o : ℕ). with_entry (pair o found.spare) (with_retired (tried_of (free_in pools entries i) found.tried) entries)) own_is in
          let fits = subst (λ (es : List SdlEntry). length es ≤ most) (sym after) pair_few in
          room_for (pair own found.spare) held (omega (arith, fits, room))

      pub room_for_former : (home : ℕ) → home ≡ home_in pools entries i → held ≡ with_entry (pair own found.spare) (with_retired (tried_of (free_in pools entries i) found.tried) entries)
          → length (with_retired (former own home) held) ≤ 8184
      room_for_former home home_is list_is =
          let after : with_retired (former own home) held ≡ entries_moved_in pools entries i (tried_of (free_in pools entries i) found.tried) found.spare =
          ap (with_retired (former own home)) list_is
          ∙ ap (λ (h : ℕ). with_retired (former own h) (with_entry (pair own found.spare) (with_retired (tried_of (free_in pools entries i) found.tried) entries))) home_is
          ∙ ap (λ (o : ℕ). with_retired (former o (home_in pools entries i)) (with_entry (pair o found.spare) (with_retired (tried_of (free_in pools entries i) found.tried) entries))) own_is in
          let fits = subst (λ (es : List SdlEntry). length es ≤ most) (sym after) moved_few in
          omega (arith, fits, room)

-- ---- room for each step

-- one more spare retired
pub retired_next : (free : List ℕ) (es : List SdlEntry) (k spare : ℕ) → spare ≡ slice_index free k → with_entry (retired spare) (with_retired (tried_of free k) es) ≡ with_retired (tried_of free (k + 1)) es
retired_next free es k spare is =
    let next : suc k ≡ k + 1 = omega arith in
    ap (λ (s : ℕ). with_entry (retired s) (with_retired (tried_of free k) es)) is ∙ ap (λ (n : ℕ). with_retired (tried_of free n) es) next

pub room_for_other : (own home : ℕ) (held : List SdlEntry) → home ≢ own → length (with_retired (former own home) held) ≤ 8184
    → (length held < 8184) ⊎ Contains (defectives held) home
room_for_other own home held apart fits =
    let one : former own home ≡ home ∷ [] = cond-false (eqb home own) [] (home ∷ []) (ne_eqb home own apart) in
    room_for (retired home) held (subst (λ (ss : List ℕ). length (with_retired ss held) ≤ 8184) one fits)

-- room for one more spare that is retired
pub room_for_spare : (free : List ℕ) (entries : List SdlEntry) (held : List SdlEntry) (k spare : ℕ) → spare ≡ slice_index free k → length (with_retired (tried_of free (k + 1)) entries) ≤ 8184
    → held ≡ with_retired (tried_of free k) entries → (length held < 8184) ⊎ Contains (defectives held) spare
room_for_spare free entries held k spare is fits list_is =
    let after : with_entry (retired spare) held ≡ with_retired (tried_of free (k + 1)) entries = ap (with_entry (retired spare)) list_is ∙ retired_next free entries k spare is in
    room_for (retired spare) held (subst (λ (es : List SdlEntry). length es ≤ 8184) (sym after) fits)

-- ---- the list of the move

pub draft_is : (pools : List Pool) (sdl : Sdl) (i : ℕ) (failed : List ℕ) (spare : ℕ) (a b c d : Sdl) (own home : ℕ) → a ≡ sdl
    → b ≡ record a { counter = a.counter + 1; entries = with_retired failed sdl.entries }
    → c ≡ record b { entries = with_entry (pair own spare) b.entries } → d ≡ record c { entries = with_retired (former own home) c.entries }
    → own ≡ block_in pools i → home ≡ home_in pools sdl.entries i → d ≡ sdl_moved_in pools sdl i failed spare
draft_is pools sdl i failed spare a b c d own home copied retired_is paired former_is own_is home_is =
    former_is
    ∙ ap (λ (x : Sdl). record x { entries = with_retired (former own home) x.entries }) (paired
    ∙ ap (λ (x : Sdl). record x { entries = with_entry (pair own spare) x.entries }) (retired_is
    ∙ ap (λ (x : Sdl). record x { counter = x.counter + 1; entries = with_retired failed sdl.entries }) copied))
    ∙ ap (λ (h : ℕ). record sdl { counter = sdl.counter + 1; entries = with_retired (former own h) (with_entry (pair own spare) (with_retired failed sdl.entries)) }) home_is
    ∙ ap (λ (o : ℕ). record sdl { counter = sdl.counter + 1; entries = with_retired (former o (home_in pools sdl.entries i)) (with_entry (pair o spare) (with_retired failed sdl.entries)) }) own_is

-- ---- a list with valid entries is lawful where its counters are

module _ (pools : List Pool) (entries : List SdlEntry) (valid : AreValidUnder pools entries) (numbers : (b : ℕ) → Contains (all_in pools) b → IsBlockNumber b) where
  has_numbers : (d : ℕ) (o : Option ℕ) → Contains entries (record { defective = d; replacement = o }) → HasNumbers (record { defective = d; replacement = o })
  has_numbers d None has = record { defective_fits = numbers d ((by_members pools entries valid).within (record { defective = d; replacement = None }) has); replacement_fits = tt }
  has_numbers d (Some r) has = record {
    defective_fits = numbers d ((by_members pools entries valid).within (record { defective = d; replacement = Some r }) has);
    replacement_fits = numbers r (Contains-append_right (logical_in pools) (spares_in pools) r ((by_members pools entries valid).from d r has));
  }

  pub lawful_in : (old new : Sdl) → IsLawfulSdl old → new.entries ≡ entries → new.counter < 2 ^ 32 → new.dds_counter ≡ old.dds_counter → new.version ≡ old.version → new.ssa ≡ old.ssa
      → length (spares_in pools) ≤ most_of old.version → IsLawfulSdl new
  lawful_in old new lawful are counted dds_counter version ssa few_spares = record {
    counted = counted;
    dds_counted = (let was = lawful.dds_counted in omega (arith, was, dds_counter));
    limits = record {
      most = (let most = lawful.limits.most in omega (arith, most, ssa, ap most_of version));
      few = (let few = length-entries_in pools entries valid in omega (arith, few, few_spares, ap (λ (es : List SdlEntry). length es) are, ap most_of version));
    };
    list = record {
      rise = subst (λ (es : List SdlEntry). IsStrictlyIncreasing (defectives es)) (sym are) valid.rising;
      numbers = subst (All HasNumbers) (sym are) (all_from HasNumbers entries (λ e has. has_numbers e.defective e.replacement has));
    };
  }
