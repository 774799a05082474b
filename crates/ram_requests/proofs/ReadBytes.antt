-- A read of a request, block after block: how many of its sectors were read before a block, that their bytes are the
-- disc's, and how many uses of a medium the blocks take. All is over numbers and lists, and knows no drive.
use Rattle.std.specs.Prelude.{◌≡◌, ℕ, zero, suc, ◌+◌, ◌-◌, ◌*◌, ◌<◌, ◌≤◌, ◌⊎◌, min, true, IsTrue, if◌then◌else◌, List, ◌++◌, length, take, drop}
use Rattle.std.proofs.Common.{sym, ap, ◌∙◌, inl, inr, subst, arith, append_assoc}
use Rattle.std.proofs.lemmas.Bool.{cases_eq, cond-true, cond-false, false_from_ne_true}
use Rattle.std.proofs.lemmas.List.{length-map, take_all, drop-take, drop-drop}
use Rattle.std.proofs.Math.Seq.{drop-append_seam}
use Rattle.model_bytes.specs.Bytes.{put_at}
use Rattle.model_bytes.proofs.Laws.{length-put_at, take-put_at-end}
use Rattle.model_buffer.specs.Buffer.{numbers_in}
use Rattle.model_buffer.specs.declared.TheConstants.{BUFFERED_BLOCKS}
use Rattle.model_sectors.specs.Discs.{sectors_of, block_of}
use Rattle.model_sectors.specs.Requests.{block_with, blocks_covered, start_in, end_in, is_partly, part_of, merged_in, taken_from, filled_by}
use Rattle.model_sectors.specs.Uses.{touched_from, is_at_hand, read_uses}
use Rattle.model_sectors.proofs.Pieces.{put_at-whole, sectors_in_block, sectors_more, sectors_none, length_sectors}
use Rattle.model_sectors.proofs.Covering.{covered_part, covered_after, covered_all, wholly_start, wholly_end}
use Rattle.model_sectors.proofs.Pieces.{length_part_of}

-- how many sectors of a request lie before the block after k others
abbrev pub done : (lba n k : ℕ) → ℕ
done lba n k = min n (start_in lba (block_with lba + k) - lba)

-- none lie before the first block
pub done_none : (lba n : ℕ) → done lba n 0 ≡ 0
done_none lba n = omega arith

-- before a covered block lie those up to the request's first sector in it
pub done_before : (lba n k : ℕ) → k < blocks_covered lba n → done lba n k ≡ start_in lba (block_with lba + k) - lba
done_before lba n k covered =
    let part = covered_part lba n k covered in
    omega arith

-- and before the next one those of the block too
pub done_after : (lba n k : ℕ) → k < blocks_covered lba n
    → done lba n (suc k) ≡ (start_in lba (block_with lba + k) - lba) + (end_in lba n (block_with lba + k) - start_in lba (block_with lba + k))
done_after lba n k covered =
    let part = covered_part lba n k covered in
    let after = covered_after lba n k covered in
    omega arith

-- all lie before the end of the last block
pub done_all : (lba n : ℕ) → done lba n (blocks_covered lba n) ≡ n
done_all lba n = elim (cases_eq n 0) [
  | inl none ↦ omega arith
  | inr some ↦ let all = covered_all lba n (omega arith) in omega arith
]

-- what is read goes on by the bytes of a block
pub prefix_more : (lba n k blocks : ℕ) (disc block into into' : List ℕ) → k < blocks_covered lba n → lba + n ≤ 16 * blocks → length disc ≡ 32768 * blocks → length into ≡ 2048 * n
    → block ≡ block_of disc (block_with lba + k) → into' ≡ filled_by lba n (block_with lba + k) block into → take (2048 * done lba n k) into ≡ sectors_of disc lba (done lba n k)
    → (length into' ≡ 2048 * n) × (take (2048 * done lba n (suc k)) into' ≡ sectors_of disc lba (done lba n (suc k)))
unfolding filled_by taken_from
prefix_more lba n k blocks disc block into into' covered inside long whole is put prefix =
    let i : ℕ = block_with lba + k in
    let start : ℕ = start_in lba i in
    let end : ℕ = end_in lba n i in
    let at : ℕ = start - lba in
    let count : ℕ = end - start in
    let offset : ℕ = start - 16 * i in
    let some = covered_part lba n k covered in
    let after = covered_after lba n k covered in
    let there : 16 * i + offset ≡ lba + at = omega arith in
    let part : take (2048 * count) (drop (2048 * offset) block) ≡ sectors_of disc (lba + at) count =
    ap (λ (l : List ℕ). take (2048 * count) (drop (2048 * offset) l)) is ∙ sym (sectors_in_block disc i offset count (omega arith)) ∙ ap (λ (m : ℕ). sectors_of disc m count) there in
    let written : into' ≡ put_at (2048 * at) (sectors_of disc (lba + at) count) into = put ∙ ap (λ (l : List ℕ). put_at (2048 * at) l into) part in
    let part_long : length (sectors_of disc (lba + at) count) ≡ 2048 * count = length_sectors disc blocks (lba + at) count (omega arith) long in
    let before : done lba n k ≡ at = done_before lba n k covered in
    let next : done lba n (suc k) ≡ at + count = done_after lba n k covered in
    let end_at : 2048 * (at + count) ≡ 2048 * at + length (sectors_of disc (lba + at) count) = omega arith in
    let prefix_at : take (2048 * at) into ≡ sectors_of disc lba at = ap (λ (m : ℕ). take (2048 * m) into) (sym before) ∙ prefix ∙ ap (λ (m : ℕ). sectors_of disc lba m) before in (
      ap length written ∙ length-put_at (2048 * at) (sectors_of disc (lba + at) count) into (omega arith) ∙ whole,
      ap (λ (m : ℕ). take (2048 * m) into') next
          ∙ ap (take (2048 * (at + count))) written
          ∙ take-put_at-end (2048 * (at + count)) (2048 * at) (sectors_of disc (lba + at) count) into end_at (omega arith)
          ∙ ap (λ (l : List ℕ). l ++ sectors_of disc (lba + at) count) prefix_at
          ∙ sym (sectors_more disc lba at count)
          ∙ ap (λ (m : ℕ). sectors_of disc lba m) (sym next),
    )

-- a block that the request covers wholly has its bytes among those that were read before the next one
pub whole_block_read : (lba n j blocks : ℕ) (disc into room : List ℕ) → ¬ IsTrue (is_partly lba n (block_with lba + j)) → j < blocks_covered lba n → lba + n ≤ 16 * blocks → length disc ≡ 32768 * blocks
    → length into ≡ 2048 * n → length room ≡ 32768 → take (2048 * done lba n (suc j)) into ≡ sectors_of disc lba (done lba n (suc j))
    → merged_in lba n into (block_with lba + j) room ≡ block_of disc (block_with lba + j)
unfolding merged_in part_of sectors_of block_of
whole_block_read lba n j blocks disc into room wholly covered inside long whole room_whole prefix =
    let i : ℕ = block_with lba + j in
    let start = wholly_start lba n i wholly in
    let end = wholly_end lba n i wholly in
    let at : ℕ = 16 * i - lba in
    let none : 2048 * (start_in lba i - 16 * i) ≡ 0 = omega arith in
    let count : 2048 * (end_in lba n i - start_in lba i) ≡ 32768 = omega arith in
    let offset : 2048 * (start_in lba i - lba) ≡ 2048 * at = omega arith in
    let after = done_after lba n j covered in
    let next : done lba n (suc j) ≡ at + 16 = omega arith in
    let up_to : 2048 * at + 32768 ≡ 2048 * done lba n (suc j) = omega arith in
    let there : 2048 * (lba + at) ≡ 32768 * i = omega arith in
    let part_long : length (part_of lba n into i) ≡ length room = length_part_of lba n into i whole ∙ count ∙ sym room_whole in
    let before_long : length (sectors_of disc lba at) ≡ 2048 * at = length_sectors disc blocks lba at (omega arith) long in
    ap (λ (m : ℕ). put_at m (part_of lba n into i) room) none
    ∙ put_at-whole (part_of lba n into i) room (omega (arith, part_long))
    ∙ ap (λ (m : ℕ). take m (drop (2048 * (start_in lba i - lba)) into)) count
    ∙ ap (λ (m : ℕ). take 32768 (drop m into)) offset
    ∙ sym (drop-take (2048 * at) 32768 into)
    ∙ ap (λ (m : ℕ). drop (2048 * at) (take m into)) up_to
    ∙ ap (drop (2048 * at)) prefix
    ∙ ap (λ (m : ℕ). drop (2048 * at) (sectors_of disc lba m)) next
    ∙ ap (drop (2048 * at)) (sectors_more disc lba at 16)
    ∙ ap (λ (m : ℕ). drop m (sectors_of disc lba at ++ sectors_of disc (lba + at) 16)) (sym before_long)
    ∙ drop-append_seam (sectors_of disc lba at) (sectors_of disc (lba + at) 16)
    ∙ ap (λ (m : ℕ). take 32768 (drop m disc)) there

-- a whole block's bytes that were put among those of the request fill its place there
pub filled_whole : (lba n i at : ℕ) (block into : List ℕ) → ¬ IsTrue (is_partly lba n i) → at ≡ 2048 * (start_in lba i - lba) → length block ≡ 32768
    → take at into ++ (block ++ drop (at + 32768 - at) (drop at into)) ≡ filled_by lba n i block into
unfolding filled_by taken_from
filled_whole lba n i at block into wholly at_is long =
    let start = wholly_start lba n i wholly in
    let end = wholly_end lba n i wholly in
    let many : at + 32768 - at ≡ length block = omega (arith, long) in
    let first : 2048 * (start_in lba i - 16 * i) ≡ 0 = omega arith in
    let count : 2048 * (end_in lba n i - start_in lba i) ≡ length block = omega (arith, long) in
    let all : block ≡ take (2048 * (end_in lba n i - start_in lba i)) (drop (2048 * (start_in lba i - 16 * i)) block) =
    sym (ap (λ (m : ℕ). take m (drop (2048 * (start_in lba i - 16 * i)) block)) count ∙ ap (λ (m : ℕ). take (length block) (drop m block)) first ∙ take_all (length block) block (omega arith)) in
    ap (λ (m : ℕ). take at into ++ (block ++ drop m (drop at into))) many
    ∙ ap (λ (l : List ℕ). take at into ++ (block ++ l)) (drop-drop (length block) at into)
    ∙ sym (append_assoc (take at into) block (drop (at + length block) into))
    ∙ ap (λ (m : ℕ). put_at m block into) at_is
    ∙ ap (λ (l : List ℕ). put_at (2048 * (start_in lba i - lba)) l into) all

-- before the first block nothing is to be read
pub prefix_none : (lba n : ℕ) (disc into : List ℕ) → take (2048 * done lba n 0) into ≡ sectors_of disc lba (done lba n 0)
prefix_none lba n disc into =
    ap (λ (m : ℕ). take (2048 * m) into) (done_none lba n) ∙ sym (sectors_none disc lba) ∙ ap (λ (m : ℕ). sectors_of disc lba m) (sym (done_none lba n))

-- and after the last one all is read
pub prefix_all : (lba n : ℕ) (disc into : List ℕ) → length into ≡ 2048 * n → take (2048 * done lba n (blocks_covered lba n)) into ≡ sectors_of disc lba (done lba n (blocks_covered lba n))
    → into ≡ sectors_of disc lba n
prefix_all lba n disc into long prefix =
    sym (take_all (2048 * n) into (omega (arith, long)))
    ∙ ap (λ (m : ℕ). take (2048 * m) into) (sym (done_all lba n))
    ∙ prefix
    ∙ ap (λ (m : ℕ). sectors_of disc lba m) (done_all lba n)

-- a block that is at hand takes no use
pub no_use_at_hand : (b : List ℕ) (first k : ℕ) → is_at_hand b first k ≡ true → read_uses b first (suc k) ≡ read_uses b first k
no_use_at_hand b first k hand = none_more (read_uses b first k) (if is_at_hand b first k then 0 else 1) (cond-true (is_at_hand b first k) 0 1 hand)
  where
    none_more : (m more : ℕ) → more ≡ 0 → m + more ≡ m
    none_more m more e = omega arith

-- another one takes one
pub one_use_of_medium : (b : List ℕ) (first k : ℕ) → ¬ IsTrue (is_at_hand b first k) → read_uses b first (suc k) ≡ read_uses b first k + 1
one_use_of_medium b first k not_hand =
    ap (λ (more : ℕ). read_uses b first k + more) (cond-false (is_at_hand b first k) 0 1 (false_from_ne_true (is_at_hand b first k) not_hand))

-- more blocks take no fewer uses
pub read_uses_rise : (b : List ℕ) (first j k : ℕ) → j ≤ k → read_uses b first j ≤ read_uses b first k
read_uses_rise b first j zero le = let none : j ≡ 0 = omega arith in subst (λ (m : ℕ). read_uses b first m ≤ 0) (sym none) (omega arith)
read_uses_rise b first j (suc k) le = elim (cases_eq j (suc k)) [
  | inl e ↦ subst (λ (m : ℕ). read_uses b first m ≤ read_uses b first (suc k)) (sym e) (omega arith)
  | inr ne ↦ let before = read_uses_rise b first j k (omega arith) in omega (arith, before)
]

-- so a block that is not at hand takes one of those of all blocks
pub one_more_use : (b : List ℕ) (first count k : ℕ) → k < count → ¬ IsTrue (is_at_hand b first k) → read_uses b first k + 1 ≤ read_uses b first count
one_more_use b first count k covered not_hand =
    let rise : read_uses b first (suc k) ≤ read_uses b first count = read_uses_rise b first (suc k) count (omega arith) in
    subst (λ (m : ℕ). m ≤ read_uses b first count) (one_use_of_medium b first k not_hand) rise

-- a buffer that has few blocks after k uses had few before
pub few_before_uses : (b : List ℕ) (first k : ℕ) (held : List (ℕ × List ℕ)) → numbers_in held ≡ touched_from b first k → (k ≡ 0) ⊎ (length b ≤ BUFFERED_BLOCKS) → length held ≤ BUFFERED_BLOCKS
    → length b ≤ BUFFERED_BLOCKS
few_before_uses b first k held touched (inl none) few =
    let same : numbers_in held ≡ b = touched ∙ ap (touched_from b first) none in
    subst (λ (m : ℕ). m ≤ BUFFERED_BLOCKS) (sym (length-map held (λ held. held.0)) ∙ ap length same) few
few_before_uses b first k held touched (inr few') few = few'
