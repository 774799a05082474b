-- What a write makes of a disc below and of the values of the disc that is shown.
use Rattle.std.proofs.Common.{◌≡◌, ℕ, ◌+◌, ◌-◌, ◌<◌, ◌≤◌, ◌⊎◌, inl, inr, Bool, true, false, not, List, length, refl, sym, ap, ◌∙◌, subst, arith}
use Rattle.std.specs.Prelude.{nat_lt}
use Rattle.std.specs.List.{Contains}
use Rattle.std.proofs.lemmas.Bool.{cases_lt, cases_Bool, and_from, and_parts, not_from_false, lt-ltb, le-ltb, ltb-true, ltb-false}
use Rattle.model_sectors.specs.Discs.{block_of, replaced}
use Rattle.model_sectors.specs.Requests.{block_with, blocks_covered, start_in, end_in, merged_in, IsCovered}
use Rattle.model_sectors.proofs.Merges.{block_of-with_part, replaced-with_part}
use Rattle.model_sectors.proofs.Covering.{covered_part}
use Rattle.model_cache.specs.Values.{Values, HasValue, IsPending, IsTaken, IsUnder, is_among, older_but, with_written}
use Rattle.model_cache.specs.Falling.{LiesIn}
use Rattle.model_cache.proofs.Members.{Contains-kept}
use Rattle.model_cache.proofs.ReplacedBlocks.{unreached_block, reached_block, missed_block, as_long_as}

-- whether a block is among some
pub among_parts : (first count i : ℕ) → is_among first count i ≡ true → (first ≤ i) × (i < first + count)
among_parts first count i e =
    let both = and_parts (not (nat_lt i first)) (nat_lt i (first + count)) e in
    (not_low (nat_lt i first) refl (both.0), ltb-true i (first + count) (both.1))
  where
    not_low : (b : Bool) → nat_lt i first ≡ b → not b ≡ true → first ≤ i
    not_low true is e = absurd (let w = e in cc)
    not_low false is e = ltb-false i first is

pub among_from : (first count i : ℕ) → first ≤ i → i < first + count → is_among first count i ≡ true
among_from first count i low high = and_from (not (nat_lt i first)) (nat_lt i (first + count)) (not_from_false (nat_lt i first) (le-ltb i first low)) (lt-ltb i (first + count) high)

pub not_among : (first count i : ℕ) → (i < first) ⊎ (first + count ≤ i) → not (is_among first count i) ≡ true
not_among first count i out = elim (cases_Bool (is_among first count i)) [
  | inl yes' ↦ let parts = among_parts first count i yes' in absurd (outside out parts)
  | inr no' ↦ ap not no'
]
  where
    outside : (i < first) ⊎ (first + count ≤ i) → (first ≤ i) × (i < first + count) → ⊥
    outside (inl low) (a, b) = omega arith
    outside (inr high) (a, b) = omega arith

module _ (d : List ℕ) (lba n : ℕ) (bytes : List ℕ) (lies : LiesIn d lba n bytes) where
  -- a covered block that was reached has the bytes of the request over its own
  pub written_block : (b i : ℕ) → IsCovered lba n i → i < b → block_of (replaced d lba bytes b) i ≡ merged_in lba n bytes i (block_of d i)
  written_block b i covered reached =
      let k : ℕ = i - block_with lba in
      let low = covered.0 in
      let high = covered.1 in
      let at : block_with lba + k ≡ i = omega (arith, low) in
      let some : start_in lba i < end_in lba n i = subst (λ (m : ℕ). start_in lba m < end_in lba n m) at (covered_part lba n k (omega (arith, low, high))) in
      let inside = lies.inside in
      let same = as_long_as d lba n bytes i lies in
      reached_block d lba n bytes b i lies reached
      ∙ ap (λ (l : List ℕ). block_of l i) (replaced-with_part d lies.blocks lba n bytes i some lies.whole lies.inside lies.as_long)
      ∙ block_of-with_part (replaced d lba bytes i) lies.blocks lba n bytes i some lies.whole lies.inside (same ∙ lies.as_long)
      ∙ ap (merged_in lba n bytes i) (unreached_block d lba n bytes i i lies (omega arith))

  -- another one is as it was
  pub other_written : (b i : ℕ) → (i < block_with lba) ⊎ (b ≤ i) → block_of (replaced d lba bytes b) i ≡ block_of d i
  other_written b i (inl low) = missed_block d lba n bytes b i lies (inl (omega (arith, low)))
  other_written b i (inr high) = unreached_block d lba n bytes b i lies high

-- the disc that is shown is as long as the one below
pub lies_shown : (d shown : List ℕ) (lba n : ℕ) (bytes : List ℕ) → length shown ≡ length d → LiesIn d lba n bytes → LiesIn shown lba n bytes
lies_shown d shown lba n bytes same lies = record { blocks = lies.blocks; as_long = same ∙ lies.as_long; inside = lies.inside; whole = lies.whole }

-- A write through the cache, up to a block: of the covered blocks none is pending.
module _ (d : List ℕ) (v : Values) (p : List (ℕ × List ℕ)) (under : IsUnder p d v) (lba n : ℕ) (bytes : List ℕ) (lies : LiesIn d lba n bytes)
    (none : (i : ℕ) → IsCovered lba n i → ¬ IsPending p i) (b : ℕ) (few : b ≤ block_with lba + blocks_covered lba n) where
  lies' : LiesIn v.disc lba n bytes
  lies' = lies_shown d v.disc lba n bytes under.taken.as_long lies

  abbrev past : ℕ → Type 0
  past i = (i < block_with lba) ⊎ (b ≤ i)

  reached_or : (i : ℕ) → ((block_with lba ≤ i) × (i < b)) ⊎ past i
  reached_or i = elim (cases_lt i (block_with lba)) [
    | inl low ↦ inr (inl low)
    | inr from ↦ elim (cases_lt i b) [ inl below ↦ inl (from, below) | inr high ↦ inr (inr high) ]
  ]

  covered_by : (i : ℕ) → block_with lba ≤ i → i < b → IsCovered lba n i
  covered_by i from below = (from, omega (arith, below, few))

  -- a block that was reached is the same in both
  alike : (i : ℕ) → block_with lba ≤ i → i < b → block_of (replaced v.disc lba bytes b) i ≡ block_of (replaced d lba bytes b) i
  alike i from below =
      written_block v.disc lba n bytes lies' b i (covered_by i from below) below
      ∙ ap (merged_in lba n bytes i) (under.others i (none i (covered_by i from below)))
      ∙ sym (written_block d lba n bytes lies b i (covered_by i from below) below)

  -- the older values of one that was not stay
  older_stays : (i : ℕ) (held : List ℕ) → past i → Contains v.older (i, held) → Contains (older_but (block_with lba) (b - block_with lba) v.older) (i, held)
  older_stays i held out has =
      Contains-kept (λ (x : ℕ × List ℕ). not (is_among (block_with lba) (b - block_with lba) x.0)) v.older (i, held) (not_among (block_with lba) (b - block_with lba) i (away out)) has
    where
      away : past i → (i < block_with lba) ⊎ (block_with lba + (b - block_with lba) ≤ i)
      away (inl low) = inl low
      away (inr high) = elim (cases_lt i (block_with lba)) [ inl low ↦ inl low | inr from ↦ inr (omega (arith, high, from)) ]

  pub written_taken : IsTaken (with_written v lba bytes b) (replaced d lba bytes b)
  written_taken = record {
    as_long = as_long_as v.disc lba n bytes b lies' ∙ under.taken.as_long ∙ sym (as_long_as d lba n bytes b lies);
    each = λ i. elim (reached_or i) [
      | inl (from, below) ↦ inl (sym (alike i from below))
      | inr out ↦ subst (HasValue (with_written v lba bytes b) i) (sym (other_written d lba n bytes lies b i out)) (still i out (under.taken.each i))
    ];
  }
    where
      still : (i : ℕ) → past i → HasValue v i (block_of d i) → HasValue (with_written v lba bytes b) i (block_of d i)
      still i out (inl e) = inl (e ∙ sym (other_written v.disc lba n bytes lies' b i out))
      still i out (inr older) = inr (older_stays i (block_of d i) out older)

  pub written_under : IsUnder p (replaced d lba bytes b) (with_written v lba bytes b)
  written_under = record {
    taken = written_taken;
    inside = λ i held has. let it = under.inside i held has in let long = as_long_as d lba n bytes b lies in omega (arith, it, long);
    last = λ i held has. other_written v.disc lba n bytes lies' b i (missed i held has) ∙ under.last i held has;
    others = λ i not_one. elim (reached_or i) [
      | inl (from, below) ↦ alike i from below
      | inr out ↦ other_written v.disc lba n bytes lies' b i out ∙ under.others i not_one ∙ sym (other_written d lba n bytes lies b i out)
    ];
  }
    where
      missed : (i : ℕ) (held : List ℕ) → Contains p (i, held) → past i
      missed i held has = elim (reached_or i) [
        | inl (from, below) ↦ absurd (none i (covered_by i from below) (held, has))
        | inr out ↦ out
      ]
