-- The row of blocks that are known to be good, behind a write of one of them.
use Rattle.std.specs.Prelude.{◌≡◌, ℕ, ◌+◌, ◌<◌, ◌≤◌, Bool, true, false, IsTrue, if◌then◌else◌, Option, Some, None, List, [], ◌∷◌, ◌++◌, length, take, drop, slice_index}
use Rattle.std.specs.Option.{ForSome}
use Rattle.std.proofs.Common.{refl, sym, ap, ◌∙◌, inl, inr, subst, arith}
use Rattle.std.proofs.lemmas.Bool.{cases_eq, cases_lt}
use Rattle.std.proofs.lemmas.List.{length-append, length-take-le}
use Rattle.model_bytes.specs.Bytes.{put_at}
use Rattle.model_bytes.specs.Known.{WhereKnown}
use Rattle.model_bytes.proofs.Laws.{get_or-put_at-below, get_or-put_at-past, get_or-put_at-inside}
use Rattle.model_medium.specs.declared.Fate.{Fate}
use Rattle.model_medium.specs.declared.Fate.TheVariants as fates
use Rattle.model_image.specs.Cells.{state_offset, data_offset, image_len}
use Rattle.model_image.specs.Writes.{with_block, bytes_by, bytes_left, dead_state}
use Rattle.model_image.proofs.ByteWrites.{bytes_left-alive}
use Rattle.ram_image.specs.CellCalls.{HaveGoodStates}

-- bytes that were written at a place reach to it
put_at-reaches : (at : ℕ) (from held : List ℕ) → at ≤ length held → at ≤ length (put_at at from held)
put_at-reaches at from held inside = omega (
  arith,
  length-take-le at held inside,
  length-append (take at held ++ from) (drop (at + length from) held),
  length-append (take at held) from,
)

-- the state byte of each block of the row is that of a good one after a write of the whole bytes of one of them
good_with_block : (total block from to : ℕ) (bytes held : List ℕ) → block < total → to ≤ total → length held ≡ image_len total → HaveGoodStates held from to → HaveGoodStates (with_block total block bytes held) from to
good_with_block total block from to bytes held inside within whole good k low high =
    let as_long : data_offset total block ≤ length (put_at (data_offset total block) bytes held) = put_at-reaches (data_offset total block) bytes held (omega (arith, whole, inside)) in
    let data_stays : slice_index (put_at (data_offset total block) bytes held) (16 + k) ≡ 1 =
    get_or-put_at-below (16 + k) (data_offset total block) bytes held 0 (omega (arith, high, within)) (omega (arith, whole, inside)) ∙ good k low high in
    elim (cases_eq k block) [
      | inl same ↦ let here : 16 + k ≡ state_offset block + 0 = omega (arith, same) in ap (slice_index (with_block total block bytes held)) here
          ∙ get_or-put_at-inside 0 (state_offset block) (1 ∷ []) (put_at (data_offset total block) bytes held) 0 (omega arith) (omega (arith, as_long))
      | inr other ↦ elim (cases_lt k block) [
        | inl before ↦ get_or-put_at-below (16 + k) (state_offset block) (1 ∷ []) (put_at (data_offset total block) bytes held) 0 (omega (arith, before)) (omega (arith, as_long)) ∙ data_stays
        | inr behind ↦ get_or-put_at-past (16 + k) (state_offset block) (1 ∷ []) (put_at (data_offset total block) bytes held) 0 (omega (arith, behind, other)) (omega (arith, as_long)) ∙ data_stays
      ]
    ]

-- the same of a write that ends by a fate, behind which the row stays only where the block is one of it and the fate is new
pub good_after_write : (total block from to end : ℕ) (bytes : List ℕ) (fate : Fate) (stays : Bool) (before after : Option (List ℕ)) → block < total → to ≤ total
    → ForSome before (λ held. length held ≡ image_len total) → (IsTrue stays → (from ≤ block) × (block < to) × (fate ≡ fates.New)) → end ≡ (if stays then to else 0) → ForSome before (λ held. HaveGoodStates held from to)
    → WhereKnown before after (λ held held'. held' ≡ bytes_left fate total block bytes held) → ForSome after (λ held. HaveGoodStates held from end)
good_after_write total block from to end bytes fate false before after inside within whole of end_is good known = λ held is k low high. absurd (omega (arith, end_is, high))
good_after_write total block from to end bytes fate true None None inside within whole of end_is good known = λ held is. absurd (let none : None ≡ Some held = is in cc)
good_after_write total block from to end bytes fate true None (Some held') inside within whole of end_is good known = absurd known
good_after_write total block from to end bytes fate true (Some held) None inside within whole of end_is good known = absurd known
good_after_write total block from to end bytes fate true (Some held) (Some held') inside within whole of end_is good known = λ x is.
    let p = of refl in
    let alive : ¬ (slice_index held (state_offset block) ≡ dead_state) = λ dead. absurd (omega (arith, dead, good held refl block p.0 p.1)) in
    let written : held' ≡ with_block total block bytes held = known ∙ sym (bytes_left-alive fate total block bytes held alive) ∙ ap (λ (f : Fate). bytes_by f total block bytes held) p.2 in
    subst (λ (l : List ℕ). HaveGoodStates l from end) (let both : Some held' ≡ Some x = is in cc)
    (subst (λ (m : ℕ). HaveGoodStates held' from m) (sym end_is)
    (subst (λ (l : List ℕ). HaveGoodStates l from to) (sym written) (good_with_block total block from to bytes held inside within (whole held refl) (good held refl))))
