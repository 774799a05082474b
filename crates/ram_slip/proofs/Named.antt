-- Where a block stands among the entries of a primary defect list, which rise.
use Rattle.std.proofs.Common.{◌≡◌, ℕ, ◌<◌, ◌≤◌, inl, inr, true, false, nat_lt, nat_eq, IsTrue, List, length, get_or, sym, ◌∙◌, ap, arith}
use Rattle.std.specs.List.{Contains}
use Rattle.std.specs.List.Sorted.{IsStrictlyIncreasing, IsNonDecreasingBy, IsPartitionPoint}
use Rattle.std.proofs.lemmas.Bool.{cases_eq, cases_lt, lt-ltb, ltb-true, ltb-false, eqb-true, eq-eqb}
use Rattle.std.proofs.lemmas.List.{get_or-map, length-map, get_or_default}
use Rattle.std.proofs.lemmas.List.Kept.{AllPairs-from_increasing}
use Rattle.model_lists.specs.declared.dds.PdlEntry.{PdlEntry}
use Rattle.model_lists.specs.declared.dds.PdlKind.TheVariants.{P}
use Rattle.model_lists.specs.Values.{pdl_blocks}
use Rattle.ram_slip.specs.Counts.{IsCountBefore}

abbrev block_of : PdlEntry → ℕ
block_of entry = entry.block

-- the block of an entry
pub block_at : (entries : List PdlEntry) (k : ℕ) (d : PdlEntry) → k < length entries → get_or (pdl_blocks entries) k 0 ≡ (get_or entries k d).block
block_at entries k d below = get_or-map block_of entries k d 0 below

-- rising blocks, by their places
pub rising : (entries : List PdlEntry) (j k : ℕ) → IsStrictlyIncreasing (pdl_blocks entries) → j < k → k < length entries → get_or (pdl_blocks entries) j 0 < get_or (pdl_blocks entries) k 0
rising entries j k rise low below =
    AllPairs-from_increasing (pdl_blocks entries) rise j k 0 low (omega (arith, length-map entries block_of))

pub never_falls : (entries : List PdlEntry) → IsStrictlyIncreasing (pdl_blocks entries) → IsNonDecreasingBy (λ (entry : PdlEntry). entry.block) entries
never_falls entries rise i j d low below =
    elim (cases_eq i j) [
      | inl same ↦ (let h : (get_or entries i d).block ≡ (get_or entries j d).block = ap (λ (k : ℕ). (get_or entries k d).block) same in omega (arith, h))
      | inr other ↦ (let h = rising entries i j rise (omega arith) below in
          omega (arith, h, block_at entries i d (omega arith), block_at entries j d below))
    ]

-- a block that is named stands where the earlier ones end
pub named_there : (entries : List PdlEntry) (before block : ℕ) → IsStrictlyIncreasing (pdl_blocks entries) → IsCountBefore entries block before → Contains (pdl_blocks entries) block
    → (before < length entries) × (get_or (pdl_blocks entries) before 0 ≡ block)
named_there entries before block rise count (k, within, is) =
    let below : k < length entries = omega (arith, length-map entries block_of) in
    let here : get_or (pdl_blocks entries) k 0 ≡ block = get_or_default (pdl_blocks entries) k 0 block within ∙ is in
    elim (cases_lt k before) [
      | inl low ↦ absurd (let less = count.lower k low in omega (arith, less, here))
      | inr from ↦
          elim (cases_eq k before) [
            | inl same ↦ (omega (arith, same, below), ap (λ (m : ℕ). get_or (pdl_blocks entries) m 0) (sym same) ∙ here)
            | inr apart ↦ absurd (let less = rising entries before k rise (omega (arith, from, apart)) below in
                let least = count.others before (omega arith) (omega (arith, from, below)) in
                omega (arith, less, least, here))
          ]
    ]

-- the entry there tells whether the block is named
pub named_if_equal : (entries : List PdlEntry) (before block : ℕ) (d : PdlEntry) → IsStrictlyIncreasing (pdl_blocks entries) → IsCountBefore entries block before → before < length entries
    → (IsTrue (nat_eq (get_or entries before d).block block) → Contains (pdl_blocks entries) block) × (Contains (pdl_blocks entries) block → IsTrue (nat_eq (get_or entries before d).block block))
named_if_equal entries before block d rise count below =
    let here = block_at entries before d below in
    let long = length-map entries block_of in (
      λ t. (before, omega (arith, long, below), get_or_default (pdl_blocks entries) before block 0 (omega (arith, long, below)) ∙ here ∙ eqb-true (get_or entries before d).block block t),
      λ has. eq-eqb (get_or entries before d).block block (sym here ∙ (named_there entries before block rise count has).1),
    )

-- where the entries end before it, it is not named
pub named_if_inside : (entries : List PdlEntry) (before block : ℕ) → IsStrictlyIncreasing (pdl_blocks entries) → IsCountBefore entries block before → length entries ≤ before
    → (IsTrue (nat_lt before (length entries)) → Contains (pdl_blocks entries) block) × (Contains (pdl_blocks entries) block → IsTrue (nat_lt before (length entries)))
named_if_inside entries before block rise count past = (
  λ t. absurd (let less = ltb-true before (length entries) t in omega (arith, less, past)),
  λ has. lt-ltb before (length entries) (named_there entries before block rise count has).0,
)

-- what the search by halving finds is how many are named before
pub count_from_point : (entries : List PdlEntry) (block count : ℕ) → count ≤ length entries → IsPartitionPoint (λ (e : PdlEntry). nat_lt e.block block ≡ true) (λ (e : PdlEntry). nat_lt e.block block ≡ false) entries count → IsCountBefore entries block count
count_from_point entries block count within point = record {
  within = within;
  lower = λ k before.
      let d : PdlEntry = record { kind = P; block = 0 } in
      let low = ltb-true (get_or entries k d).block block (point.0 k d (omega arith) before) in
      omega (arith, low, block_at entries k d (omega arith));
  others = λ k from below.
      let d : PdlEntry = record { kind = P; block = 0 } in
      let high = ltb-false (get_or entries k d).block block (point.1 k d from below) in
      omega (arith, high, block_at entries k d below);
}
