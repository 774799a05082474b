-- The free spares are the spares that no entry names.
use Rattle.std.proofs.Common.{All, not, Bool, ◌≡◌, ℕ, ◌-◌, true, false, ◌||◌, List, length, get_or, sym, ap, ◌∙◌, arith}
use Rattle.std.specs.Prelude.{reverse}
use Rattle.std.specs.List.{Contains}
use Rattle.std.proofs.lemmas.Bool.{not-true, or_parts, or_from, not_from_false, false_from_ne_true, true≢false}
use Rattle.std.proofs.lemmas.List.{length-reverse, get_or-reverse, reverse-reverse}
use Rattle.std.proofs.lemmas.List.Elements.{All-contains}
use Rattle.model_lists.specs.declared.sdl.SdlEntry.{SdlEntry}
use Rattle.model_lists.specs.Values.{defectives}
use Rattle.model_pools.specs.Listed.{is_listed, replacements}
use Rattle.model_pools.specs.Pools.{Pool, spares_in, spares_for, pool_of, is_unnamed, free_in, usable_in}
use Rattle.model_pools.proofs.Listed.{Decides-is_listed, Contains-filter, Contains-from_filter}
use Rattle.model_pools.proofs.Pooled.{pool_spares_among}

-- a list turned round has the same elements
pub Contains-reverse : (xs : List ℕ) (x : ℕ) → Contains xs x → Contains (reverse xs) x
Contains-reverse xs x (k, within, is) =
    let long = length-reverse xs in
    let back : length xs - 1 - (length xs - 1 - k) ≡ k = omega arith in
    (length xs - 1 - k, omega arith, get_or-reverse xs (length xs - 1 - k) x (omega arith) ∙ ap (λ i. get_or xs i x) back ∙ is)

pub Contains-from_reverse : (xs : List ℕ) (x : ℕ) → Contains (reverse xs) x → Contains xs x
Contains-from_reverse xs x has = rw (← reverse-reverse xs) (Contains-reverse (reverse xs) x has)

-- free is what no entry names
pub free_from_unnamed : (entries : List SdlEntry) (b : ℕ) → ¬ Contains (defectives entries) b → ¬ Contains (replacements entries) b → is_unnamed entries b ≡ true
free_from_unnamed entries b defect replace =
    let d : is_listed (defectives entries) b ≡ false = false_from_ne_true (is_listed (defectives entries) b) (λ t. defect ((Decides-is_listed (defectives entries) b).0 t)) in
    let r : is_listed (replacements entries) b ≡ false = false_from_ne_true (is_listed (replacements entries) b) (λ t. replace ((Decides-is_listed (replacements entries) b).0 t)) in
    not_from_false (is_listed (defectives entries) b || is_listed (replacements entries) b) (or_from (is_listed (defectives entries) b) (is_listed (replacements entries) b) d r)

pub unnamed_from_free : (entries : List SdlEntry) (b : ℕ) → is_unnamed entries b ≡ true → (¬ Contains (defectives entries) b) × (¬ Contains (replacements entries) b)
unnamed_from_free entries b free =
    let parts = or_parts (is_listed (defectives entries) b) (is_listed (replacements entries) b) (not-true (is_listed (defectives entries) b || is_listed (replacements entries) b) free) in (
      λ has. true≢false (sym ((Decides-is_listed (defectives entries) b).1 has) ∙ parts.0),
      λ has. true≢false (sym ((Decides-is_listed (replacements entries) b).1 has) ∙ parts.1),
    )

-- the free spares of a logical block are the spares that it may go to and that no entry names
pub Contains-free_in : (pools : List Pool) (entries : List SdlEntry) (i b : ℕ) → Contains (spares_for pools i) b
    → ¬ Contains (defectives entries) b → ¬ Contains (replacements entries) b → Contains (free_in pools entries i) b
Contains-free_in pools entries i b spare defect replace =
    Contains-filter (is_unnamed entries) (spares_for pools i) b (free_from_unnamed entries b defect replace) spare

-- a free spare of a logical block is one that it may go to
pub free_is_own : (pools : List Pool) (entries : List SdlEntry) (i b : ℕ) → Contains (free_in pools entries i) b → Contains (spares_for pools i) b
free_is_own pools entries i b has = (Contains-from_filter (is_unnamed entries) (spares_for pools i) b has).1

pub Contains-from_free_in : (pools : List Pool) (entries : List SdlEntry) (i b : ℕ) → Contains (free_in pools entries i) b
    → Contains (spares_in pools) b × (¬ Contains (defectives entries) b) × (¬ Contains (replacements entries) b)
Contains-from_free_in pools entries i b has =
    let parts = Contains-from_filter (is_unnamed entries) (spares_for pools i) b has in
    let named = unnamed_from_free entries b parts.0 in
    (pool_spares_among pools (pool_of pools i) b parts.1, named.0, named.1)

-- where each listed block is dead, a spare is usable that replaces none and is not dead
pub Contains-usable_in : (is_dead : ℕ → Bool) (pools : List Pool) (entries : List SdlEntry) (i : ℕ) → All (λ d. is_dead d ≡ true) (defectives entries) → (b : ℕ) → Contains (spares_for pools i) b
    → ¬ Contains (replacements entries) b → is_dead b ≡ false → Contains (usable_in is_dead pools entries i) b
Contains-usable_in is_dead pools entries i dead b spare replace alive =
    let sound : ¬ Contains (defectives entries) b = λ has. true≢false (sym (All-contains (λ d. is_dead d ≡ true) (defectives entries) b dead has) ∙ alive) in
    Contains-filter (λ x. not (is_dead x)) (free_in pools entries i) b (not_from_false (is_dead b) alive) (Contains-free_in pools entries i b spare sound replace)

-- and no other
pub Contains-from_usable_in : (is_dead : ℕ → Bool) (pools : List Pool) (entries : List SdlEntry) (i b : ℕ) → Contains (usable_in is_dead pools entries i) b
    → Contains (spares_for pools i) b × (¬ Contains (replacements entries) b) × (is_dead b ≡ false)
Contains-from_usable_in is_dead pools entries i b has =
    let parts = Contains-from_filter (λ x. not (is_dead x)) (free_in pools entries i) b has in
    (free_is_own pools entries i b parts.1, (Contains-from_free_in pools entries i b parts.1).2, not-true (is_dead b) parts.0)
