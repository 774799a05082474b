-- Which of the kept blocks lie among the first data blocks.
use Rattle.std.specs.Prelude.{◌≡◌, ◌≢◌, ℕ, zero, suc, ◌+◌, ◌-◌, ◌<◌, ◌≤◌, List, length, slice_index, get_or}
use Rattle.std.proofs.Common.{refl, sym, ap, ◌∙◌, inl, inr, arith}
use Rattle.std.specs.List.{Contains}
use Rattle.std.specs.List.Sorted.{IsStrictlyIncreasing}
use Rattle.std.proofs.lemmas.Bool.{cases_eq, cases_lt}
use Rattle.std.proofs.lemmas.List.{get_or_default, get_or-map, length-map}
use Rattle.std.proofs.lemmas.List.Elements.{Contains-get_or}
use Rattle.std.proofs.lemmas.List.Kept.{AllPairs-from_increasing}
use Rattle.model_geometry.specs.Geometry.{Shape, data_blocks}
use Rattle.model_geometry.proofs.DataBlocks.{data_blocks_rise}
use Rattle.model_lists.specs.declared.dds.PdlEntry.{PdlEntry}
use Rattle.model_lists.specs.declared.dds.PdlKind.TheVariants as kinds
use Rattle.model_lists.specs.Values.{pdl_blocks}
use Rattle.model_pools.proofs.Listed.{same_index}
use Rattle.model_formats.specs.Defects.{AreKept, IsCertified}
use Rattle.ram_certify.specs.Blocks.{IsNextKept}
use Rattle.ram_certify.proofs.CertifiedUpTo.{IsReached, ArePassed}

-- in a rising list the place of a lower number is a lower one
lower_place : (xs : List ℕ) → IsStrictlyIncreasing xs → (i j : ℕ) → i < length xs → slice_index xs i < slice_index xs j → i < j
lower_place xs rise i j i_in less = elim (cases_lt i j) [
  | inl below ↦ below
  | inr above ↦ elim (cases_eq i j) [
    | inl same ↦ absurd (let e : slice_index xs i ≡ slice_index xs j = ap (slice_index xs) same in omega (arith, e))
    | inr differ ↦ absurd (let more = AllPairs-from_increasing xs rise j i 0 (omega (arith, above, differ)) i_in in omega (arith, more, less))
  ]
]

-- in the end all data blocks are reached
pub reached_all : (shape : Shape) (block : ℕ) → IsReached shape (length (data_blocks shape)) block
reached_all shape block d within is = within

module _ (shape : Shape) (kept : List PdlEntry) (are : AreKept shape kept) where
  data_place : (k : ℕ) → k < length kept → (d : ℕ) × (d < length (data_blocks shape)) × (slice_index (data_blocks shape) d ≡ slice_index (pdl_blocks kept) k)
  data_place k k_in =
      let has = are.data_only k 0 (omega (arith, k_in, length-map kept (λ (entry : PdlEntry). entry.block))) in
      (has.0, has.1, get_or_default (data_blocks shape) has.0 0 (slice_index (pdl_blocks kept) k) has.1 ∙ has.2)

  -- in the end all kept blocks are passed
  pub passed_all : (passed : ℕ) → passed ≤ length kept → ArePassed shape kept (length (data_blocks shape)) passed → passed ≡ length kept
  passed_all passed most so_far = elim (cases_lt passed (length kept)) [
    | inl less ↦ absurd (let place = data_place passed less in let h = (so_far passed place.0 less place.1 place.2).1 place.1 in omega (arith, h))
    | inr more ↦ omega (arith, more, most)
  ]

  module _ (n passed : ℕ) (so_far : ArePassed shape kept n passed) (n_in : n < length (data_blocks shape)) where
    -- where the next kept block is not this one, none is
    none_here : ¬ IsNextKept kept passed (slice_index (data_blocks shape) n) → (k : ℕ) → k < length kept → slice_index (pdl_blocks kept) k ≢ slice_index (data_blocks shape) n
    none_here other k k_in same = elim (cases_lt k passed) [
      | inl before ↦ (let h = (so_far k n k_in n_in (sym same)).0 before in omega (arith, h))
      | inr not_before ↦ elim (cases_eq k passed) [
        | inl here ↦ other (omega (arith, here, k_in), ap (slice_index (pdl_blocks kept)) (sym here) ∙ same)
        | inr later ↦
            let p_in : passed < length kept = omega (arith, not_before, later, k_in) in
            let place = data_place passed p_in in
            let rise = AllPairs-from_increasing (pdl_blocks kept) are.rise passed k 0 (omega (arith, not_before, later)) (omega (arith, k_in, length-map kept (λ (entry : PdlEntry). entry.block))) in
            let e = place.2 in
            let less : slice_index (data_blocks shape) place.0 < slice_index (data_blocks shape) n = omega (arith, rise, e, same) in
            let d_less = lower_place (data_blocks shape) (data_blocks_rise shape) place.0 n place.1 less in
            let h = (so_far passed place.0 p_in place.1 e).1 d_less in
            omega (arith, h)
      ]
    ]

    pub not_kept : ¬ IsNextKept kept passed (slice_index (data_blocks shape) n) → (entry : PdlEntry) → Contains kept entry → entry.block ≢ slice_index (data_blocks shape) n
    not_kept other entry has same =
        let at : slice_index (pdl_blocks kept) has.0 ≡ entry.block = get_or-map (λ (e : PdlEntry). e.block) kept has.0 entry 0 has.1 ∙ ap (λ (e : PdlEntry). e.block) has.2 in
        none_here other has.0 has.1 (at ∙ same)

    -- so it is certified
    pub is_certified : ¬ IsNextKept kept passed (slice_index (data_blocks shape) n) → IsCertified shape (Contains kept) (slice_index (data_blocks shape) n)
    is_certified other = record { data_block = Contains-get_or (data_blocks shape) n 0 n_in; not_kept = not_kept other }

    pub passed_by : ¬ IsNextKept kept passed (slice_index (data_blocks shape) n) → ArePassed shape kept (n + 1) passed
    passed_by other k d k_in d_in same = (
      λ early. (let h = (so_far k d k_in d_in same).0 early in omega (arith, h)),
      λ low. elim (cases_eq d n) [
        | inl here ↦ absurd (none_here other k k_in (sym same ∙ ap (slice_index (data_blocks shape)) here))
        | inr lower ↦ (so_far k d k_in d_in same).1 (omega (arith, low, lower))
      ],
    )

    -- the kept blocks that are not passed lie behind it, each at a place of its own
    place_after : ¬ IsNextKept kept passed (slice_index (data_blocks shape) n) → (j : ℕ) (j_in : passed + j < length kept) → n + 1 + j ≤ (data_place (passed + j) j_in).0
    place_after other zero j_in =
        let place = data_place (passed + 0) j_in in
        elim (cases_lt place.0 n) [
          | inl low ↦ absurd (let h = (so_far (passed + 0) place.0 j_in place.1 place.2).1 low in omega (arith, h))
          | inr high ↦ elim (cases_eq place.0 n) [
            | inl here ↦ absurd (none_here other (passed + 0) j_in (sym place.2 ∙ ap (slice_index (data_blocks shape)) here))
            | inr differ ↦ omega (arith, high, differ)
          ]
        ]
    place_after other (suc j) j_in =
        let before : passed + j < length kept = omega (arith, j_in) in
        let one = data_place (passed + j) before in
        let two = data_place (passed + suc j) j_in in
        let h = place_after other j before in
        let rise = AllPairs-from_increasing (pdl_blocks kept) are.rise (passed + j) (passed + suc j) 0 (omega arith) (omega (arith, j_in, length-map kept (λ (entry : PdlEntry). entry.block))) in
        let e = one.2 in
        let f = two.2 in
        let less = lower_place (data_blocks shape) (data_blocks_rise shape) one.0 two.0 one.1 (omega (arith, rise, e, f)) in
        omega (arith, h, less)

    pub rest_is_room : ¬ IsNextKept kept passed (slice_index (data_blocks shape) n) → passed ≤ length kept → n + 1 + (length kept - passed) ≤ length (data_blocks shape)
    rest_is_room other most = elim (cases_eq passed (length kept)) [
      | inl all ↦ omega (arith, all, n_in)
      | inr some ↦
          let j_in : passed + (length kept - passed - 1) < length kept = omega (arith, some, most) in
          let h = place_after other (length kept - passed - 1) j_in in
          let place = data_place (passed + (length kept - passed - 1)) j_in in
          let within = place.1 in
          omega (arith, h, within, some, most)
    ]

    -- a kept block is passed
    pub passed_on : IsNextKept kept passed (slice_index (data_blocks shape) n) → ArePassed shape kept (n + 1) (passed + 1)
    passed_on next k d k_in d_in same = (
      λ early. elim (cases_eq k passed) [
        | inl here ↦
            let e : slice_index (data_blocks shape) d ≡ slice_index (data_blocks shape) n = same ∙ ap (slice_index (pdl_blocks kept)) here ∙ next.1 in
            let d_is = same_index (data_blocks shape) (data_blocks_rise shape) d n 0 d_in n_in e in
            omega (arith, d_is)
        | inr lower ↦ (let h = (so_far k d k_in d_in same).0 (omega (arith, early, lower)) in omega (arith, h))
      ],
      λ low. elim (cases_eq d n) [
        | inl here ↦
            let e : slice_index (pdl_blocks kept) k ≡ slice_index (pdl_blocks kept) passed = sym same ∙ ap (slice_index (data_blocks shape)) here ∙ sym next.1 in
            let long = length-map kept (λ (entry : PdlEntry). entry.block) in
            let k_is = same_index (pdl_blocks kept) are.rise k passed 0 (omega (arith, k_in, long)) (omega (arith, next.0, long)) e in
            omega (arith, k_is)
        | inr lower ↦ (let h = (so_far k d k_in d_in same).1 (omega (arith, low, lower)) in omega (arith, h))
      ],
    )

    -- a kept block is not certified
    pub kept_is_not_certified : IsNextKept kept passed (slice_index (data_blocks shape) n) → ¬ IsCertified shape (Contains kept) (slice_index (data_blocks shape) n)
    kept_is_not_certified next certified =
        let long = length-map kept (λ (entry : PdlEntry). entry.block) in
        let d : PdlEntry = record { kind = kinds.P; block = 0 } in
        let at : slice_index (pdl_blocks kept) passed ≡ (get_or kept passed d).block = get_or-map (λ (e : PdlEntry). e.block) kept passed d 0 next.0 in
        certified.not_kept (get_or kept passed d) (Contains-get_or kept passed d next.0) (sym at ∙ next.1)

module _ (shape : Shape) (n : ℕ) (n_in : n < length (data_blocks shape)) where
  -- this data block is reached, and is the only one that was not before
  pub reached_here : IsReached shape (n + 1) (slice_index (data_blocks shape) n)
  reached_here d d_in same = let d_is = same_index (data_blocks shape) (data_blocks_rise shape) d n 0 d_in n_in same in omega (arith, d_is)

  pub reached_more : (block : ℕ) → IsReached shape n block → IsReached shape (n + 1) block
  reached_more block reached d d_in same = let h = reached d d_in same in omega (arith, h)

  pub reached_before : (block : ℕ) → block ≢ slice_index (data_blocks shape) n → IsReached shape (n + 1) block → IsReached shape n block
  reached_before block other reached d d_in same = elim (cases_eq d n) [
    | inl here ↦ absurd (other (sym same ∙ ap (slice_index (data_blocks shape)) here))
    | inr lower ↦ (let h = reached d d_in same in omega (arith, h, lower))
  ]

  pub not_reached : ¬ IsReached shape n (slice_index (data_blocks shape) n)
  not_reached reached = let h = reached n n_in refl in omega (arith, h)

  -- a data block that was reached before lies below it
  pub reached_below : (block : ℕ) → Contains (data_blocks shape) block → IsReached shape n block → block < slice_index (data_blocks shape) n
  reached_below block has reached =
      let e = get_or_default (data_blocks shape) has.0 0 block has.1 ∙ has.2 in
      let low = reached has.0 has.1 e in
      let less = AllPairs-from_increasing (data_blocks shape) (data_blocks_rise shape) has.0 n 0 low n_in in
      omega (arith, less, e)
