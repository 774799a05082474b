-- The bytes of a part of a request, by the numbers that the code has.
use Rattle.std.specs.Prelude.{◌≡◌, ℕ, ◌+◌, ◌-◌, ◌*◌, ◌≤◌, List, ◌++◌, length, take, drop}
use Rattle.std.proofs.Common.{sym, ap, ◌∙◌, arith}
use Rattle.std.proofs.Math.Seq.{take-append_seam}
use Rattle.model_bytes.specs.Bytes.{put_at}
use Rattle.model_sectors.specs.Requests.{start_in, end_in, part_of, merged_in, taken_from, filled_by}
use Rattle.model_sectors.proofs.Pieces.{put_at-whole, length_part_of}

module _ (lba n block start end : ℕ) (start_is : start ≡ start_in lba block) (end_is : end ≡ end_in lba n block)
    (offset skipped len : ℕ) (offset_is : offset ≡ 2048 * (start - 16 * block)) (skipped_is : skipped ≡ 2048 * (start - lba)) (len_is : len ≡ 2048 * (end - start)) where
  -- the three numbers, by the request and the block
  offset_in : offset ≡ 2048 * (start_in lba block - 16 * block)
  offset_in = offset_is ∙ ap (λ (s : ℕ). 2048 * (s - 16 * block)) start_is

  skipped_in : skipped ≡ 2048 * (start_in lba block - lba)
  skipped_in = skipped_is ∙ ap (λ (s : ℕ). 2048 * (s - lba)) start_is

  len_in : (before : ℕ) → before + len - before ≡ 2048 * (end_in lba n block - start_in lba block)
  len_in before =
      let many : before + len - before ≡ len = omega arith in
      many ∙ len_is ∙ ap (λ (e : ℕ). 2048 * (e - start)) end_is ∙ ap (λ (s : ℕ). 2048 * (end_in lba n block - s)) start_is

  -- what was copied out is what the request covers of the block
  pub filled : (held bytes into into' : List ℕ) → held ≡ bytes → into' ≡ put_at skipped (take (offset + len - offset) (drop offset held)) into → into' ≡ filled_by lba n block bytes into
  unfolding filled_by taken_from
  filled held bytes into into' same put =
      put
      ∙ ap (λ (m : ℕ). put_at skipped (take m (drop offset held)) into) (len_in offset)
      ∙ ap (λ (l : List ℕ). put_at skipped (take (2048 * (end_in lba n block - start_in lba block)) (drop offset l)) into) same
      ∙ ap (λ (m : ℕ). put_at skipped (take (2048 * (end_in lba n block - start_in lba block)) (drop m bytes)) into) offset_in
      ∙ ap (λ (m : ℕ). put_at m (take (2048 * (end_in lba n block - start_in lba block)) (drop (2048 * (start_in lba block - 16 * block)) bytes)) into) skipped_in

  -- and what was merged into the block are the bytes of the request in their places
  pub merged : (bytes held new : List ℕ) → new ≡ put_at offset (take (skipped + len - skipped) (drop skipped bytes)) held → new ≡ merged_in lba n bytes block held
  unfolding merged_in part_of
  merged bytes held new put =
      put
      ∙ ap (λ (m : ℕ). put_at offset (take m (drop skipped bytes)) held) (len_in skipped)
      ∙ ap (λ (m : ℕ). put_at offset (take (2048 * (end_in lba n block - start_in lba block)) (drop m bytes)) held) skipped_in
      ∙ ap (λ (m : ℕ). put_at m (take (2048 * (end_in lba n block - start_in lba block)) (drop (2048 * (start_in lba block - lba)) bytes)) held) offset_in

  -- the bytes of the request that are all of the block are what is merged into it
  pub merged_whole : (bytes held : List ℕ) → length bytes ≡ 2048 * n → length held ≡ 32768 → 32768 ≤ len → take (skipped + 32768 - skipped) (drop skipped bytes) ≡ merged_in lba n bytes block held
  unfolding merged_in part_of
  merged_whole bytes held whole full all =
      let none : 2048 * (start_in lba block - 16 * block) ≡ 0 = omega (arith, start_is, end_is, len_is, all) in
      let count : skipped + 32768 - skipped ≡ 2048 * (end_in lba n block - start_in lba block) = omega (arith, start_is, end_is, len_is, all) in
      let long : length (part_of lba n bytes block) ≡ length held = length_part_of lba n bytes block whole ∙ sym count ∙ omega (arith, full) in
      ap (λ (m : ℕ). take m (drop skipped bytes)) count
      ∙ ap (λ (m : ℕ). take (2048 * (end_in lba n block - start_in lba block)) (drop m bytes)) skipped_in
      ∙ sym (put_at-whole (part_of lba n bytes block) held (omega (arith, long)))
      ∙ ap (λ (m : ℕ). put_at m (part_of lba n bytes block) held) (sym none)

-- bytes as many as a list has, written over it, are what it has then
pub written_back : (held written : List ℕ) → length written ≡ length held → take (length held) (written ++ drop (length written) held) ≡ written
written_back held written whole =
    ap (λ (n : ℕ). take n (written ++ drop (length written) held)) (sym whole) ∙ take-append_seam written (drop (length written) held)
