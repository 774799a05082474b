-- A table of runs with one more run, and the blocks of a range that are not slipped.
use Rattle.std.proofs.Common.{◌≡◌, ◌≢◌, ℕ, ◌+◌, ◌-◌, ◌<◌, ◌≤◌, ◌⊎◌, inl, inr, ⊎_elim, Bool, true, false, nat_lt, List, [], ◌∷◌, ◌++◌, length, get_or, refl, sym, ap, ◌∙◌, subst, arith}
use Rattle.std.specs.Prelude.{◌==◌, not, slice_index, if◌then◌else◌}
use Rattle.std.specs.List.{range_with_len, filter}
use Rattle.std.specs.List.Sorted.{IsNonDecreasingBy, IsPartitionPoint}
use Rattle.std.specs.List.Sorted.{IsStrictlyIncreasing}
use Rattle.std.proofs.lemmas.Bool.{cases_eq, cases_lt, cond-true, eq-eqb, ne_eqb, ltb-true, ltb-false}
use Rattle.std.proofs.lemmas.Grind.{get_or_default_zero}
use Rattle.std.proofs.lemmas.List.{append-nil, append_assoc, length-append, length-map, get_or-map}
use Rattle.std.proofs.lemmas.List.Elements.{filter-append}
use Rattle.std.proofs.lemmas.List.Folds.{list_any_none, list_any_at}
use Rattle.std.proofs.lemmas.List.FromFn.{length-range_with_len}
use Rattle.std.proofs.lemmas.List.Kept.{AllPairs-from_increasing}
use Rattle.model_lists.specs.declared.dds.PdlEntry.{PdlEntry}
use Rattle.model_lists.specs.declared.dds.PdlKind.TheVariants.{P}
use Rattle.model_lists.specs.Values.{pdl_blocks}
use Rattle.model_pools.specs.Listed.{is_listed}
use Rattle.ram_runs.specs.declared.Run.{Run}
use Rattle.ram_runs.specs.Runs.{blocks_in, AreRunsFrom, IsTable, IsCountBelow, end_of, kept_of}
use Rattle.model_geometry.proofs.Ranges.{range_with_len-append, filter-range_none, filter-range_all}

-- ---- one more run

table_more : (b i : ℕ) (runs : List Run) (r : Run) → AreRunsFrom b i runs → end_of b runs ≤ r.first → r.index ≡ i + length (blocks_in runs) → 1 ≤ r.len → AreRunsFrom b i (runs ++ r ∷ [])
table_more b i [] r t behind index some = (behind, index ∙ omega arith, some, tt)
table_more b i (q ∷ qs) r t behind index some = (
  t.0,
  t.1,
  t.2,
  table_more (q.first + q.len + 1) (i + q.len) qs r t.3 behind
      (omega (arith, index, length-append (range_with_len q.first q.len) (blocks_in qs), length-range_with_len q.first q.len)) some,
)

blocks_more : (runs : List Run) (r : Run) → blocks_in (runs ++ r ∷ []) ≡ blocks_in runs ++ range_with_len r.first r.len
blocks_more [] r = append-nil (range_with_len r.first r.len)
blocks_more (q ∷ qs) r =
    ap (λ (l : List ℕ). range_with_len q.first q.len ++ l) (blocks_more qs r)
    ∙ sym (append_assoc (range_with_len q.first q.len) (blocks_in qs) (range_with_len r.first r.len))

end_more : (b : ℕ) (runs : List Run) (r : Run) → end_of b (runs ++ r ∷ []) ≡ r.first + r.len + 1
end_more b [] r = refl
end_more b (q ∷ qs) r = end_more (q.first + q.len + 1) qs r

module _ (old new : List Run) (from end : ℕ) (r : Run) (is : new ≡ old ++ r ∷ []) (first : r.first ≡ from) (len : r.len ≡ end - from) (ordered : from ≤ end) where
  pub pushed_blocks : blocks_in new ≡ blocks_in old ++ range_with_len from (end - from)
  pushed_blocks = ap blocks_in is ∙ blocks_more old r
      ∙ ap (λ (n : ℕ). blocks_in old ++ range_with_len n r.len) first ∙ ap (λ (n : ℕ). blocks_in old ++ range_with_len from n) len

  pub pushed_end : end_of 0 new ≤ end + 1
  pushed_end = omega (arith, ap (end_of 0) is ∙ end_more 0 old r, first, len, ordered)

  pub pushed_table : IsTable old → end_of 0 old ≤ from → r.index ≡ length (blocks_in old) → from ≢ end → IsTable new
  pushed_table table behind index some = subst IsTable (sym is)
      (table_more 0 0 old r table (omega (arith, behind, first)) (index ∙ omega arith) (omega (arith, len, ordered, some)))

pub nothing_pushed : (runs : List Run) (from end : ℕ) → from ≡ end → blocks_in runs ≡ blocks_in runs ++ range_with_len from (end - from)
nothing_pushed runs from end same =
    let none : 0 ≡ end - from = omega (arith, same) in
    sym (append-nil (blocks_in runs)) ∙ ap (λ (n : ℕ). blocks_in runs ++ range_with_len from n) none

-- ---- what is kept of a range

kept_split : (slipped : List ℕ) (a n m : ℕ) → kept_of slipped a (n + m) ≡ kept_of slipped a n ++ kept_of slipped (a + n) m
kept_split slipped a n m =
    ap (filter (λ block. not (is_listed slipped block))) (range_with_len-append a n m)
    ∙ filter-append (λ block. not (is_listed slipped block)) (range_with_len a n) (range_with_len (a + n) m)

not_listed : (slipped : List ℕ) (block : ℕ) → ((j : ℕ) → j < length slipped → slice_index slipped j ≢ block) → is_listed slipped block ≡ false
not_listed slipped block apart =
    list_any_none (λ b. b == block) slipped
    (λ k d below. ne_eqb (get_or slipped k d) block (λ same. apart k below (sym (get_or_default_zero slipped k d below) ∙ same)))

-- a range in which no block is slipped is kept whole
kept_all : (slipped : List ℕ) (from n : ℕ) → ((j : ℕ) → j < length slipped → (slice_index slipped j < from) ⊎ (from + n ≤ slice_index slipped j)) → kept_of slipped from n ≡ range_with_len from n
kept_all slipped from n out =
    filter-range_all (λ block. not (is_listed slipped block)) from n
    (λ k least below. ap not (not_listed slipped k (λ j inside same. ⊎_elim (λ l. absurd (omega (arith, l, least, same))) (λ r. absurd (omega (arith, r, below, same))) (out j inside))))

-- a slipped block is not kept
kept_none : (slipped : List ℕ) (k : ℕ) → k < length slipped → kept_of slipped (slice_index slipped k) 1 ≡ []
kept_none slipped k below =
    filter-range_none (λ block. not (is_listed slipped block)) (slice_index slipped k) 1
    (λ block least past. ap not (ap (is_listed slipped) (omega (arith, least, past)) ∙ list_any_at (λ b. b == slice_index slipped k) slipped k 0 below (eq-eqb (slice_index slipped k) (slice_index slipped k) refl)))

-- ---- a range is pushed piece by piece

-- so much of a range was pushed: all before `from`, and the slipped blocks before the k-th were passed
pub record IsPushed (old runs : List Run) (slipped : List ℕ) (first end from k : ℕ) : Type 0 where
  pub table : IsTable runs
  pub blocks : blocks_in runs ≡ blocks_in old ++ kept_of slipped first (from - first)
  pub behind : end_of 0 runs ≤ from
  pub after : first ≤ from
  pub inside : from ≤ end
  pub passed : (j : ℕ) → j < k → slice_index slipped j < from
  pub next : (j : ℕ) → k ≤ j → j < length slipped → from ≤ slice_index slipped j

pub pushed_none : (old : List Run) (slipped : List ℕ) (first end before : ℕ) → IsTable old → IsCountBelow slipped first before → end_of 0 old ≤ first → first ≤ end → IsPushed old old slipped first end first before
pushed_none old slipped first end before table count behind ordered = record {
  table = table;
  blocks = (let none : 0 ≡ first - first = omega arith in sym (append-nil (blocks_in old)) ∙ ap (λ (n : ℕ). blocks_in old ++ kept_of slipped first n) none);
  behind = behind;
  after = omega arith;
  inside = ordered;
  passed = count.lower;
  next = count.others;
}

module _ (old runs runs' : List Run) (slipped : List ℕ) (first end from k : ℕ) (so_far : IsPushed old runs slipped first end from k) where
  -- what comes next is a range without slipped blocks
  more_blocks : (to : ℕ) → from ≤ to → ((j : ℕ) → k ≤ j → j < length slipped → to ≤ slice_index slipped j) → blocks_in runs' ≡ blocks_in runs ++ range_with_len from (to - from)
      → blocks_in runs' ≡ blocks_in old ++ kept_of slipped first (to - first)
  more_blocks to ordered others is =
      let after = so_far.after in
      let out : (j : ℕ) → j < length slipped → (slice_index slipped j < from) ⊎ (from + (to - from) ≤ slice_index slipped j) =
      λ j below. elim (cases_lt j k) [
        | inl low ↦ inl (so_far.passed j low)
        | inr high ↦ inr (let far = others j high below in omega (arith, far, ordered))
      ] in
      let here : from ≡ first + (from - first) = omega (arith, after) in
      let both : (from - first) + (to - from) ≡ to - first = omega (arith, after, ordered) in
      is ∙ ap (λ (l : List ℕ). l ++ range_with_len from (to - from)) so_far.blocks
      ∙ append_assoc (blocks_in old) (kept_of slipped first (from - first)) (range_with_len from (to - from))
      ∙ ap (λ (l : List ℕ). blocks_in old ++ (kept_of slipped first (from - first) ++ l)) (sym (kept_all slipped from (to - from) out))
      ∙ ap (λ (l : List ℕ). blocks_in old ++ l)
      (ap (λ (n : ℕ). kept_of slipped first (from - first) ++ kept_of slipped n (to - from)) here
      ∙ sym (kept_split slipped first (from - first) (to - from))
      ∙ ap (kept_of slipped first) both)

  -- the range before the next slipped block was pushed
  pub pushed_more : (until : ℕ) → IsStrictlyIncreasing slipped → IsCountBelow slipped end until → k < until → IsTable runs'
      → blocks_in runs' ≡ blocks_in runs ++ range_with_len from (slice_index slipped k - from) → end_of 0 runs' ≤ slice_index slipped k + 1
      → IsPushed old runs' slipped first end (slice_index slipped k + 1) (k + 1)
  pushed_more until rise count low table is behind =
      let within = count.within in
      let below : k < length slipped = omega (arith, low, within) in
      let here : from ≤ slice_index slipped k = so_far.next k (omega arith) below in
      let after = so_far.after in
      let inside = count.lower k low in
      let at : slice_index slipped k ≡ first + (slice_index slipped k - first) = omega (arith, after, here) in
      let one : slice_index slipped k - first + 1 ≡ slice_index slipped k + 1 - first = omega (arith, after, here) in
      record {
        table = table;
        blocks = more_blocks (slice_index slipped k) here (λ j from' below'. rises j from' below') is
            ∙ ap (λ (l : List ℕ). blocks_in old ++ l)
            (sym (append-nil (kept_of slipped first (slice_index slipped k - first)))
            ∙ ap (λ (l : List ℕ). kept_of slipped first (slice_index slipped k - first) ++ l) (sym (kept_none slipped k below))
            ∙ ap (λ (n : ℕ). kept_of slipped first (slice_index slipped k - first) ++ kept_of slipped n 1) at
            ∙ sym (kept_split slipped first (slice_index slipped k - first) 1)
            ∙ ap (kept_of slipped first) one);
        behind = behind;
        after = omega (arith, after, here);
        inside = omega (arith, inside);
        passed = λ j low'. elim (cases_eq j k) [
          | inl same ↦ omega (arith, ap (slice_index slipped) same)
          | inr apart ↦ (let less = so_far.passed j (omega (arith, low', apart)) in omega (arith, less, here))
        ];
        next = λ j past below'. (let more = AllPairs-from_increasing slipped rise k j 0 (omega (arith, past)) below' in omega (arith, more));
      }
    where
      rises : (j : ℕ) → k ≤ j → j < length slipped → slice_index slipped k ≤ slice_index slipped j
      rises j past below' = elim (cases_eq k j) [
        | inl same ↦ omega (arith, ap (slice_index slipped) same)
        | inr apart ↦ (let more = AllPairs-from_increasing slipped rise k j 0 (omega (arith, past, apart)) below' in omega (arith, more))
      ]

  -- the rest was pushed
  pub pushed_all : (until : ℕ) → IsCountBelow slipped end until → until ≤ k → blocks_in runs' ≡ blocks_in runs ++ range_with_len from (end - from) → blocks_in runs' ≡ blocks_in old ++ kept_of slipped first (end - first)
  pushed_all until count past is = more_blocks end so_far.inside (λ j from' below. count.others j (omega (arith, past, from')) below) is

-- a push for which there is room appends
pub appended : (b : Bool) (xs zs : List Run) (r : Run) → zs ≡ (if b then xs ++ r ∷ [] else xs) → b ≡ true → zs ≡ xs ++ r ∷ []
appended b xs zs r is done = is ∙ cond-true b (xs ++ r ∷ []) xs done

-- the range before the next slipped block, as the code has that block
pub pushed_next : (old runs runs' : List Run) (slipped : List ℕ) (first end from k block : ℕ) → IsPushed old runs slipped first end from k → block ≡ slice_index slipped k → (until : ℕ) → IsStrictlyIncreasing slipped
    → IsCountBelow slipped end until → k < until → IsTable runs' → blocks_in runs' ≡ blocks_in runs ++ range_with_len from (block - from) → end_of 0 runs' ≤ block + 1 → IsPushed old runs' slipped first end (block + 1) (k + 1)
pushed_next old runs runs' slipped first end from k block so_far is until rise count low table blocks behind =
    subst (λ (b : ℕ). IsPushed old runs' slipped first end (b + 1) (k + 1)) (sym is)
    (pushed_more old runs runs' slipped first end from k so_far until rise count low table (subst (λ (b : ℕ). blocks_in runs' ≡ blocks_in runs ++ range_with_len from (b - from)) is blocks) (subst (λ (b : ℕ). end_of 0 runs' ≤ b + 1) is behind))

-- ---- where a block stands among the entries

abbrev block_in : PdlEntry → ℕ
block_in entry = entry.block

pub entry_at : (entries : List PdlEntry) (k : ℕ) (d : PdlEntry) → k < length entries → (get_or entries k d).block ≡ slice_index (pdl_blocks entries) k
entry_at entries k d below = sym (get_or-map block_in entries k d 0 below)

pub entries_rise : (entries : List PdlEntry) → IsStrictlyIncreasing (pdl_blocks entries) → IsNonDecreasingBy (λ (entry : PdlEntry). entry.block) entries
entries_rise entries rise i j d low below =
    elim (cases_eq i j) [
      | inl same ↦ (let h : (get_or entries i d).block ≡ (get_or entries j d).block = ap (λ (k : ℕ). (get_or entries k d).block) same in omega (arith, h))
      | inr other ↦ (let h = AllPairs-from_increasing (pdl_blocks entries) rise i j 0 (omega (arith, low, other)) (omega (arith, below, length-map entries block_in)) in
          omega (arith, h, entry_at entries i d (omega (arith, low, below)), entry_at entries j d below))
    ]

pub below_from_point : (entries : List PdlEntry) (block count : ℕ) → count ≤ length entries → IsPartitionPoint (λ (e : PdlEntry). nat_lt e.block block ≡ true) (λ (e : PdlEntry). nat_lt e.block block ≡ false) entries count → IsCountBelow (pdl_blocks entries) block count
below_from_point entries block count within point = record {
  within = omega (arith, within, length-map entries block_in);
  lower = λ k before.
      let d : PdlEntry = record { kind = P; block = 0 } in
      let low = ltb-true (get_or entries k d).block block (point.0 k d (omega arith) before) in
      omega (arith, low, entry_at entries k d (omega (arith, before, within)));
  others = λ k from below.
      let d : PdlEntry = record { kind = P; block = 0 } in
      let inside : k < length entries = omega (arith, below, length-map entries block_in) in
      let high = ltb-false (get_or entries k d).block block (point.1 k d from inside) in
      omega (arith, high, entry_at entries k d inside);
}
