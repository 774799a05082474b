-- How many blocks of a list each zone has, and what follows for all of them together.
use Rattle.std.proofs.Common.{◌≡◌, ℕ, zero, suc, ◌+◌, ◌-◌, ◌*◌, ◌<◌, ◌≤◌, ◌⊎◌, inl, inr, Bool, true, false, not, cond, nat_lt, List, [], ◌∷◌, length, take, drop, get_or, refl, sym, ap, ◌∙◌, subst, arith}
use Rattle.std.specs.Prelude.{slice_index}
use Rattle.std.specs.List.{All, Contains, filter}
use Rattle.std.specs.List.Sorted.{IsStrictlyIncreasing}
use Rattle.std.proofs.Math.Nat.{suc-mul}
use Rattle.std.proofs.lemmas.Bool.{cases_Bool, cases_eq, cases_lt, cond-true, cond-false, true≢false, not-true, not_from_false, false_from_ne_true, and_parts, ltb-true}
use Rattle.std.proofs.lemmas.Cmp.{nat_eq_equiv}
use Rattle.std.proofs.lemmas.List.{length-append, length-take, length-drop, length-map, get_or-map, get_or-take, get_or-drop, get_or_default, take-append-drop, take_all}
use Rattle.std.proofs.lemmas.List.Elements.{filter-append, Contains-get_or}
use Rattle.std.proofs.lemmas.List.Filters.{length-filter_both, length-filter_more}
use Rattle.std.proofs.lemmas.List.Kept.{AllPairs-from_increasing, IsStrictlyIncreasing-filter}
use Rattle.std.proofs.lemmas.Map.Made.{length-le_from_is_member}
use Rattle.model_geometry.specs.Geometry.{Shape, zone_start, zone_blocks, is_inside}
use Rattle.model_geometry.proofs.Zones.{zone_end_rises}
use Rattle.model_lists.specs.declared.dds.PdlEntry.{PdlEntry}
use Rattle.model_lists.specs.declared.dds.PdlKind.{PdlKind}
use Rattle.model_lists.specs.Values.{pdl_blocks}
use Rattle.model_places.specs.Valid.{slipped_in}
use Rattle.model_pools.specs.Listed.{is_listed}
use Rattle.model_pools.proofs.Listed.{Decides-is_listed, Contains-filter, Contains-from_filter, IsDistinct-from_increasing, is_member_is}
use Rattle.model_pools.proofs.Zoned.{take_rises}
use Rattle.ram_format.specs.Merging.{found_entry, CanMerge, AreMerged}

-- ---- counting a loop's way

abbrev pub CountsBlocks : Shape → List ℕ → ℕ → ℕ → ℕ → Type 0
CountsBlocks shape blocks zone k count = count ≡ length (filter (λ block. is_inside shape block zone) (take k blocks))

module _ (shape : Shape) (blocks : List ℕ) (zone k count d : ℕ) (within : k < length blocks) (so_far : CountsBlocks shape blocks zone k count × (count ≤ k)) (told : Bool) (is : told ≡ is_inside shape (get_or blocks k d) zone) where
  pub counts_on : told ≡ true → CountsBlocks shape blocks zone (k + 1) (count + 1) × (count + 1 ≤ k + 1)
  counts_on lies_in =
      let here = ap {B = ℕ} (λ (b : Bool). cond b 1 0) (sym is ∙ lies_in) in
      let low = so_far.1 in
      (omega (arith, so_far.0, length-filter_more (λ block. is_inside shape block zone) blocks k d within, here), omega (arith, low))

  pub counts_still : told ≡ false → CountsBlocks shape blocks zone (k + 1) count × (count ≤ k + 1)
  counts_still lies_out =
      let here = ap {B = ℕ} (λ (b : Bool). cond b 1 0) (sym is ∙ lies_out) in
      let low = so_far.1 in
      (omega (arith, so_far.0, length-filter_more (λ block. is_inside shape block zone) blocks k d within, here), omega (arith, low))

pub counts_all : (shape : Shape) (blocks : List ℕ) (zone k count : ℕ) → length blocks ≤ k → CountsBlocks shape blocks zone k count → count ≡ slipped_in shape blocks zone
counts_all shape blocks zone k count past so_far = so_far ∙ ap (λ (l : List ℕ). length (filter (λ block. is_inside shape block zone) l)) (take_all k blocks past)

-- no more lie in a zone than there are, nor than the zone has
pub slipped_most : (shape : Shape) (xs : List ℕ) (z : ℕ) → slipped_in shape xs z ≤ length xs
slipped_most shape xs z = omega (arith, length-filter_both (λ block. is_inside shape block z) (λ block. not (is_inside shape block z)) (λ _. refl) xs)

-- ---- all zones together

module _ (shape : Shape) where
  abbrev total_in : List ℕ → ℕ → ℕ
  total_in xs zero = 0
  total_in xs (suc n) = total_in xs n + slipped_in shape xs n

  -- each block lies in one of the first n zones
  abbrev pub AreZoned : ℕ → List ℕ → Type 0
  AreZoned n xs = All (λ b. (v : ℕ) × (v < n) × (is_inside shape b v ≡ true)) xs

  slipped_cons : (b : ℕ) (xs : List ℕ) (v : ℕ) → slipped_in shape xs v ≤ slipped_in shape (b ∷ xs) v
  slipped_cons b xs v = elim (cases_Bool (is_inside shape b v)) [
    | inl lies_in ↦ omega (arith, ap length (cond-true (is_inside shape b v) (b ∷ filter (λ x. is_inside shape x v) xs) (filter (λ x. is_inside shape x v) xs) lies_in))
    | inr lies_out ↦ omega (arith, ap length (cond-false (is_inside shape b v) (b ∷ filter (λ x. is_inside shape x v) xs) (filter (λ x. is_inside shape x v) xs) lies_out))
  ]

  total_cons : (b : ℕ) (xs : List ℕ) (n : ℕ) → total_in xs n ≤ total_in (b ∷ xs) n
  total_cons b xs zero = omega arith
  total_cons b xs (suc n) = omega (arith, total_cons b xs n, slipped_cons b xs n)

  total_more : (b : ℕ) (xs : List ℕ) (n v : ℕ) → v < n → is_inside shape b v ≡ true → total_in xs n + 1 ≤ total_in (b ∷ xs) n
  total_more b xs zero v less lies_in = absurd (omega (arith, less))
  total_more b xs (suc n) v less lies_in = elim (cases_eq v n) [
    | inl same ↦ (let here : is_inside shape b n ≡ true = subst (λ (w : ℕ). is_inside shape b w ≡ true) same lies_in in
        omega (arith, total_cons b xs n, ap length (cond-true (is_inside shape b n) (b ∷ filter (λ x. is_inside shape x n) xs) (filter (λ x. is_inside shape x n) xs) here)))
    | inr other ↦ omega (arith, total_more b xs n v (omega (arith, less, other)) lies_in, slipped_cons b xs n)
  ]

  counted : (xs : List ℕ) (n : ℕ) → AreZoned n xs → length xs ≤ total_in xs n
  counted [] n zoned = omega arith
  counted (b ∷ xs) n zoned =
      let first = zoned 0 b (omega arith) in
      omega (arith, counted xs n (λ k d below. zoned (suc k) d (omega (arith, below))), total_more b xs n first.0 first.1 first.2)

  total_both : (xs ys : List ℕ) (q n : ℕ) → ((v : ℕ) → v < n → slipped_in shape xs v + slipped_in shape ys v ≤ q) → total_in xs n + total_in ys n ≤ n * q
  total_both xs ys q zero few = omega arith
  total_both xs ys q (suc n) few = (let here = few n (omega arith) in omega (arith, total_both xs ys q n (λ v less. few v (omega (arith, less))), here, suc-mul n q))

  -- where each zone has no more of both than a number, they are no more than that for each zone
  pub both_few : (xs ys : List ℕ) (q n : ℕ) → AreZoned n xs → AreZoned n ys → ((v : ℕ) → v < n → slipped_in shape xs v + slipped_in shape ys v ≤ q) → length xs + length ys ≤ n * q
  both_few xs ys q n zoned zoned' few = omega (arith, counted xs n zoned, counted ys n zoned', total_both xs ys q n few)

  -- and where the last zone has any number
  pub one_few : (xs : List ℕ) (q n : ℕ) → AreZoned (suc n) xs → ((v : ℕ) → v < n → slipped_in shape xs v ≤ q) → length xs ≤ n * q + slipped_in shape xs n
  one_few xs q n zoned few =
      omega (arith, counted xs (suc n) zoned, total_both xs [] q n (λ v less. let h = few v less in omega (arith, h)))

  -- ---- a zone has no more blocks than numbers

  rising_span : (xs : List ℕ) → IsStrictlyIncreasing xs → (k : ℕ) → k < length xs → slice_index xs 0 + k ≤ slice_index xs k
  rising_span xs rise zero inside = omega arith
  rising_span xs rise (suc k) inside =
      let next : k + 1 ≡ suc k = omega arith in
      let up = rise k (omega (arith, inside)) in
      omega (arith, rising_span xs rise k (omega (arith, inside)), up, ap (slice_index xs) next)

  pub zone_few : (xs : List ℕ) → IsStrictlyIncreasing xs → (z : ℕ) → slipped_in shape xs z ≤ zone_blocks shape z
  zone_few xs rise z =
      let here = filter (λ block. is_inside shape block z) xs in
      elim (cases_lt 0 (length here)) [
        | inr none ↦ omega (arith, none)
        | inl some ↦ (let last = length here - 1 in
            let span = rising_span here (IsStrictlyIncreasing-filter (λ block. is_inside shape block z) xs rise) last (omega (arith, some)) in
            let lies : (k : ℕ) → k < length here → is_inside shape (slice_index here k) z ≡ true =
            λ k inside. (Contains-from_filter (λ block. is_inside shape block z) xs (slice_index here k) (Contains-get_or here k 0 inside)).0 in
            let first = ltb-true (zone_start shape z) (slice_index here 0) (and_parts (nat_lt (zone_start shape z) (slice_index here 0)) (nat_lt (slice_index here 0 + 1) (zone_start shape z + zone_blocks shape z)) (lies 0 some)).0 in
            let end = ltb-true (slice_index here last + 1) (zone_start shape z + zone_blocks shape z) (and_parts (nat_lt (zone_start shape z) (slice_index here last)) (nat_lt (slice_index here last + 1) (zone_start shape z + zone_blocks shape z)) (lies last (omega (arith, some)))).1 in
            omega (arith, span, first, end, some))
      ]

  -- ---- the first of a rising list

  -- a block before one of a zone lies in no later zone
  no_later : (a b v w : ℕ) → a < b → is_inside shape a v ≡ true → is_inside shape b w ≡ true → v ≤ w
  no_later a b v w less lies_in lies_in' = elim (cases_lt w v) [
    | inr within ↦ omega (arith, within)
    | inl later ↦ (let low = ltb-true (zone_start shape v) a (and_parts (nat_lt (zone_start shape v) a) (nat_lt (a + 1) (zone_start shape v + zone_blocks shape v)) lies_in).0 in
        let high = ltb-true (b + 1) (zone_start shape w + zone_blocks shape w) (and_parts (nat_lt (zone_start shape w) b) (nat_lt (b + 1) (zone_start shape w + zone_blocks shape w)) lies_in').1 in
        absurd (omega (arith, low, high, less, zone_end_rises shape w v later)))
  ]

  -- where a later block of a rising list lies in one of the first zones, so do all before it
  front_zoned : (xs : List ℕ) (room n k w : ℕ) → IsStrictlyIncreasing xs → AreZoned n xs → room ≤ k → k < length xs → is_inside shape (slice_index xs k) w ≡ true → AreZoned (suc w) (take room xs)
  front_zoned xs room n k w rise zoned from inside lies i d below =
      let short = length-take room xs in
      let i_in : i < room = omega (arith, below, short) in
      let i_all : i < length xs = omega (arith, below, short) in
      let at = get_or-take room xs i d i_in ∙ get_or_default xs i d 0 i_all in
      let its = zoned i 0 i_all in
      let less = AllPairs-from_increasing xs rise i k 0 (omega (arith, i_in, from)) inside in
      (its.0, omega (arith, no_later (slice_index xs i) (slice_index xs k) its.0 w less its.2 lies), subst (λ (b : ℕ). is_inside shape b its.0 ≡ true) (sym at) its.2)

  empty_is : (xs : List ℕ) → length xs ≡ 0 → xs ≡ []
  empty_is [] none = refl
  empty_is (x ∷ xs) none = absurd (omega (arith, none))

  -- Of a rising list that has many, the first ones tell of a zone what all do, where the zones before have few and there is
  -- room for these, for all blocks of the zone, and for one more.
  pub front_tells : (xs : List ℕ) (room n q z : ℕ) → IsStrictlyIncreasing xs → AreZoned n xs → ((v : ℕ) → v < z → slipped_in shape (take room xs) v ≤ q)
      → z * q + zone_blocks shape z < room → (w : ℕ) → w ≤ z → slipped_in shape (take room xs) w ≡ slipped_in shape xs w
  front_tells xs room n q z rise zoned few enough w within =
      let p : ℕ → Bool = λ block. is_inside shape block w in
      let rest = filter p (drop room xs) in
      let all = ap (λ (l : List ℕ). length (filter p l)) (take-append-drop room xs) in
      let parts = ap length (filter-append p (take room xs) (drop room xs)) in
      elim (cases_lt 0 (length rest)) [
        | inr none ↦ omega (arith, none, all, parts, length-append (filter p (take room xs)) rest)
        | inl some ↦ (let found = Contains-from_filter p (drop room xs) (slice_index rest 0) (Contains-get_or rest 0 0 some) in
            let j = found.1.0 in
            let short = length-drop room xs in
            let j_in = found.1.1 in
            let k_in : room + j < length xs = omega (arith, j_in, short) in
            let at : slice_index xs (room + j) ≡ slice_index rest 0 = sym (get_or-drop room xs j 0) ∙ get_or_default (drop room xs) j 0 (slice_index rest 0) j_in ∙ found.1.2 in
            let lies : is_inside shape (slice_index xs (room + j)) w ≡ true = subst (λ (b : ℕ). is_inside shape b w ≡ true) (sym at) found.0 in
            let front = front_zoned xs room n (room + j) w rise zoned (omega arith) k_in lies in
            let wide : AreZoned (suc z) (take room xs) = λ i d below. (let f = front i d below in (f.0, (let less = f.1 in omega (arith, less, within)), f.2)) in
            let most = one_few (take room xs) q z wide few in
            let full = length-take room xs in
            absurd (omega (arith, most, zone_few (take room xs) (take_rises xs room rise) z, full, k_in, enough)))
      ]

-- ---- of two lists that were merged

same_many : (xs ys : List ℕ) → IsStrictlyIncreasing xs → IsStrictlyIncreasing ys → ((q : ℕ) → Contains xs q → Contains ys q) → ((q : ℕ) → Contains ys q → Contains xs q) → length xs ≡ length ys
same_many xs ys rise rise' there back =
    let few = length-le_from_is_member nat_eq_equiv xs ys (IsDistinct-from_increasing xs rise) (λ q t. is_member_is ys q ∙ (Decides-is_listed ys q).1 (there q ((Decides-is_listed xs q).0 (sym (is_member_is xs q) ∙ t)))) in
    let many = length-le_from_is_member nat_eq_equiv ys xs (IsDistinct-from_increasing ys rise') (λ q t. is_member_is xs q ∙ (Decides-is_listed xs q).1 (back q ((Decides-is_listed ys q).0 (sym (is_member_is ys q) ∙ t)))) in
    omega (arith, few, many)

-- the entry of a block, and the block of an entry
from_blocks : (es : List PdlEntry) (q : ℕ) → PdlEntry → Contains (pdl_blocks es) q → (e : PdlEntry) × Contains es e × (e.block ≡ q)
from_blocks es q d (k, within, is) =
    let below : k < length es = omega (arith, within, length-map es (λ (e : PdlEntry). e.block)) in
    (get_or es k d, Contains-get_or es k d below, sym (get_or-map (λ (e : PdlEntry). e.block) es k d q below) ∙ is)

to_blocks : (es : List PdlEntry) (e : PdlEntry) → Contains es e → Contains (pdl_blocks es) e.block
to_blocks es e (k, within, is) =
    (k, omega (arith, within, length-map es (λ (x : PdlEntry). x.block)), get_or-map (λ (x : PdlEntry). x.block) es k e e.block within ∙ ap (λ (x : PdlEntry). x.block) is)

module _ (shape : Shape) (kept : List PdlEntry) (found : List ℕ) (kind : PdlKind) (entries : List PdlEntry) (can : CanMerge kept found) (merged : AreMerged kept found kind entries) where
  kept_there : (q : ℕ) → Contains (pdl_blocks kept) q → Contains (pdl_blocks entries) q
  kept_there q has =
      let at = from_blocks kept q (found_entry kind q) has in
      let k = at.1.0 in
      subst (Contains (pdl_blocks entries)) at.2 (to_blocks entries at.0 (merged.kept_in at.0 k at.1.1 at.1.2))

  found_there : (q : ℕ) → Contains found q → Contains (pdl_blocks entries) q
  found_there q (k, within, is) =
      subst (Contains (pdl_blocks entries)) (get_or_default found k 0 q within ∙ is) (to_blocks entries (found_entry kind (slice_index found k)) (merged.found_in k within))

  apart : (q : ℕ) → Contains found q → ¬ Contains (pdl_blocks kept) q
  apart q has has' = (let at = from_blocks kept q (found_entry kind q) has' in can.apart q at.0 has at.1 at.2)

  from_either : (q : ℕ) → Contains (pdl_blocks entries) q → Contains (pdl_blocks kept) q ⊎ Contains found q
  from_either q has =
      let at = from_blocks entries q (found_entry kind q) has in
      elim (merged.each at.0 at.1) [
        | inl is_kept ↦ inl (subst (Contains (pdl_blocks kept)) at.2 (to_blocks kept at.0 is_kept))
        | inr is_found ↦ inr (subst (Contains found) at.2 is_found.1)
      ]

  -- of a zone it has the blocks of both
  pub merged_in : (z : ℕ) → slipped_in shape (pdl_blocks entries) z ≡ slipped_in shape (pdl_blocks kept) z + slipped_in shape found z
  merged_in z =
      let p : ℕ → Bool = λ block. is_inside shape block z in
      let listed : ℕ → Bool = is_listed (pdl_blocks kept) in
      let all = filter p (pdl_blocks entries) in
      let rises = IsStrictlyIncreasing-filter p (pdl_blocks entries) merged.rise in
      let first = same_many (filter listed all) (filter p (pdl_blocks kept)) (IsStrictlyIncreasing-filter listed all rises) (IsStrictlyIncreasing-filter p (pdl_blocks kept) can.kept_rise)
      (λ q has. let a = Contains-from_filter listed all q has in Contains-filter p (pdl_blocks kept) q (Contains-from_filter p (pdl_blocks entries) q a.1).0 ((Decides-is_listed (pdl_blocks kept) q).0 a.0))
      (λ q has. let a = Contains-from_filter p (pdl_blocks kept) q has in Contains-filter listed all q ((Decides-is_listed (pdl_blocks kept) q).1 a.1) (Contains-filter p (pdl_blocks entries) q a.0 (kept_there q a.1))) in
      let second = same_many (filter (λ q. not (listed q)) all) (filter p found) (IsStrictlyIncreasing-filter (λ q. not (listed q)) all rises) (IsStrictlyIncreasing-filter p found can.found_rise)
      (λ q has. let a = Contains-from_filter (λ q. not (listed q)) all q has in
      let b = Contains-from_filter p (pdl_blocks entries) q a.1 in
      elim (from_either q b.1) [
        | inl is_kept ↦ absurd (true≢false (sym ((Decides-is_listed (pdl_blocks kept) q).1 is_kept) ∙ not-true (listed q) a.0))
        | inr is_found ↦ Contains-filter p found q b.0 is_found
      ])
      (λ q has. let a = Contains-from_filter p found q has in
      Contains-filter (λ q. not (listed q)) all q (not_from_false (listed q) (false_from_ne_true (listed q) (λ t. apart q a.1 ((Decides-is_listed (pdl_blocks kept) q).0 t)))) (Contains-filter p (pdl_blocks entries) q a.0 (found_there q a.1))) in
      omega (arith, first, second, length-filter_both listed (λ q. not (listed q)) (λ _. refl) all)
