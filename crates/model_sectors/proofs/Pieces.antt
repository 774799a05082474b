-- Sectors and logical blocks as pieces of a disc, and what a write leaves of them.
use Rattle.std.proofs.Common.{◌≡◌, ℕ, ◌+◌, ◌-◌, ◌*◌, ◌<◌, ◌≤◌, ◌⊎◌, inl, inr, List, [], ◌++◌, length, take, drop, min, refl, sym, ◌∙◌, ap, arith, append_assoc, length-append, length-drop, length-take}
use Rattle.std.proofs.lemmas.Bool.{cases_lt}
use Rattle.std.proofs.lemmas.List.{length-take-le, take-take, drop-drop, drop-take, take_min, drop_all, take-append-le, append-nil, take-append-drop, drop-append-le}
use Rattle.model_bytes.specs.Bytes.{put_at}
use Rattle.model_bytes.proofs.Laws.{length-put_at, drop-put_at, other_range-put_at, take-put_at-end, drop-put_at-start}
use Rattle.model_sectors.specs.Discs.{sectors_of, block_of, replaced}
use Rattle.model_sectors.specs.Requests.{start_in, end_in, part_of}

-- a piece of a piece is a piece
pub piece_of_piece : (place many low n : ℕ) (d : List ℕ) → low + n ≤ many → take n (drop low (take many (drop place d))) ≡ take n (drop (place + low) d)
piece_of_piece place many low n d inside =
    let rest : many ≡ low + (many - low) = omega arith in
    ap (λ (m : ℕ). take n (drop low (take m (drop place d)))) rest
    ∙ ap (take n) (drop-take low (many - low) (drop place d))
    ∙ take-take n (many - low) (drop low (drop place d)) (omega arith)
    ∙ ap (take n) (drop-drop low place d)

-- a longer front is the front and what follows
pub take-more : (j k : ℕ) (d : List ℕ) → take (j + k) d ≡ take j d ++ take k (drop j d)
take-more j k d =
    sym (take-append-drop j (take (j + k) d))
    ∙ ap (λ (l : List ℕ). l ++ drop j (take (j + k) d)) (take-take j (j + k) d (omega arith))
    ∙ ap (λ (l : List ℕ). take j d ++ l) (drop-take j k d)

-- a write of nothing changes nothing
pub put_at-none : (at : ℕ) (d : List ℕ) → put_at at [] d ≡ d
put_at-none at d =
    let none : at + 0 ≡ at = omega arith in
    ap (λ (l : List ℕ). l ++ drop (at + 0) d) (append-nil (take at d)) ∙ ap (λ (m : ℕ). take at d ++ drop m d) none ∙ take-append-drop at d

-- what a front takes of a write into it is the write into the start
pub take-put_at-within : (n at : ℕ) (from d : List ℕ) → at + length from ≤ n → n ≤ length d → take n (put_at at from d) ≡ put_at at from (take n d)
take-put_at-within n at from d inside long =
    let last : ℕ = at + length from in
    let rest : n ≡ last + (n - last) = omega arith in
    ap (λ (m : ℕ). take m (put_at at from d)) rest
    ∙ take-more last (n - last) (put_at at from d)
    ∙ ap (λ (l : List ℕ). l ++ take (n - last) (drop last (put_at at from d))) (take-put_at-end last at from d refl (omega arith))
    ∙ ap (λ (l : List ℕ). take at d ++ from ++ take (n - last) l) (drop-put_at last at from d (omega arith) (omega arith))
    ∙ ap (λ (l : List ℕ). take at d ++ from ++ l) (sym (drop-take last (n - last) d))
    ∙ ap (λ (m : ℕ). take at d ++ from ++ drop last (take m d)) (sym rest)
    ∙ ap (λ (l : List ℕ). l ++ from ++ drop last (take n d)) (sym (take-take at n d (omega arith)))

-- past a place, a write behind it is the write into what lies past it
pub drop-put_at-within : (place at : ℕ) (from d : List ℕ) → place + at ≤ length d → drop place (put_at (place + at) from d) ≡ put_at at from (drop place d)
drop-put_at-within place at from d long =
    let prefix : length (take (place + at) d) ≡ place + at = length-take-le (place + at) d long in
    let end : place + at + length from ≡ place + (at + length from) = omega arith in
    drop-append-le place (take (place + at) d ++ from) (drop (place + at + length from) d) (omega (arith, length-append (take (place + at) d) from))
    ∙ ap (λ (l : List ℕ). l ++ drop (place + at + length from) d) (drop-append-le place (take (place + at) d) from (omega arith))
    ∙ ap (λ (l : List ℕ). l ++ from ++ drop (place + at + length from) d) (drop-take place at d)
    ∙ ap (λ (m : ℕ). take at (drop place d) ++ from ++ drop m d) end
    ∙ ap (λ (l : List ℕ). take at (drop place d) ++ from ++ l) (sym (drop-drop (at + length from) place d))

-- a piece of a disc after a write inside the piece is the piece with the bytes put
pub piece-put_at : (place n at : ℕ) (from d : List ℕ) → at + length from ≤ n → place + n ≤ length d
    → take n (drop place (put_at (place + at) from d)) ≡ put_at at from (take n (drop place d))
piece-put_at place n at from d inside long =
    ap (take n) (drop-put_at-within place at from d (omega arith))
    ∙ take-put_at-within n at from (drop place d) inside (omega (arith, length-drop place d))

-- a longer write is the write of its front and then of what follows
pub put_at-more : (at j k : ℕ) (from d : List ℕ) → j ≤ length from → at + length from ≤ length d
    → put_at at (take (j + k) from) d ≡ put_at (at + j) (take k (drop j from)) (put_at at (take j from) d)
put_at-more at j k from d inside long =
    let more : List ℕ = take k (drop j from) in
    let prefix : List ℕ = take j from in
    let prefix_long : length prefix ≡ j = length-take-le j from inside in
    let all : take (j + k) from ≡ prefix ++ more = take-more j k from in
    let few : length more ≤ length from - j = omega (arith, length-take k (drop j from), length-drop j from) in
    let begins : take (at + j) (put_at at prefix d) ≡ take at d ++ prefix = take-put_at-end (at + j) at prefix d (omega arith) (omega arith) in
    let ends : drop (at + j + length more) (put_at at prefix d) ≡ drop (at + j + length more) d = drop-put_at (at + j + length more) at prefix d (omega arith) (omega arith) in
    let end : at + length (prefix ++ more) ≡ at + j + length more = omega (arith, length-append prefix more) in
    ap (λ (l : List ℕ). put_at at l d) all
    ∙ ap (λ (m : ℕ). take at d ++ (prefix ++ more) ++ drop m d) end
    ∙ ap (λ (l : List ℕ). l ++ drop (at + j + length more) d) (sym (append_assoc (take at d) prefix more))
    ∙ ap (λ (l : List ℕ). l ++ more ++ drop (at + j + length more) d) (sym begins)
    ∙ ap (λ (l : List ℕ). take (at + j) (put_at at prefix d) ++ more ++ l) (sym ends)

-- sectors of one block are a piece of it
pub sectors_in_block : (d : List ℕ) (i place count : ℕ) → place + count ≤ 16 → sectors_of d (16 * i + place) count ≡ take (2048 * count) (drop (2048 * place) (block_of d i))
unfolding sectors_of block_of
sectors_in_block d i place count inside =
    let there : 2048 * (16 * i + place) ≡ 32768 * i + 2048 * place = omega arith in
    ap (λ (m : ℕ). take (2048 * count) (drop m d)) there
    ∙ sym (piece_of_piece (32768 * i) 32768 (2048 * place) (2048 * count) d (omega arith))

-- sectors and those that follow
pub sectors_more : (d : List ℕ) (lba j k : ℕ) → sectors_of d lba (j + k) ≡ sectors_of d lba j ++ sectors_of d (lba + j) k
unfolding sectors_of
sectors_more d lba j k =
    let parts : 2048 * (j + k) ≡ 2048 * j + 2048 * k = omega arith in
    let there : 2048 * lba + 2048 * j ≡ 2048 * (lba + j) = omega arith in
    ap (λ (m : ℕ). take m (drop (2048 * lba) d)) parts
    ∙ take-more (2048 * j) (2048 * k) (drop (2048 * lba) d)
    ∙ ap (λ (l : List ℕ). take (2048 * j) (drop (2048 * lba) d) ++ take (2048 * k) l) (drop-drop (2048 * j) (2048 * lba) d)
    ∙ ap (λ (m : ℕ). take (2048 * j) (drop (2048 * lba) d) ++ take (2048 * k) (drop m d)) there

-- no sectors have no bytes
pub sectors_none : (d : List ℕ) (lba : ℕ) → sectors_of d lba 0 ≡ []
unfolding sectors_of
sectors_none d lba = refl

-- sectors of the disc have 2,048 bytes each
pub length_sectors : (d : List ℕ) (blocks lba n : ℕ) → lba + n ≤ 16 * blocks → length d ≡ 32768 * blocks → length (sectors_of d lba n) ≡ 2048 * n
unfolding sectors_of
length_sectors d blocks lba n inside long = length-take-le (2048 * n) (drop (2048 * lba) d) (omega (arith, length-drop (2048 * lba) d))

-- a logical block of the disc has 32,768 bytes
pub length_block : (d : List ℕ) (blocks i : ℕ) → i < blocks → length d ≡ 32768 * blocks → length (block_of d i) ≡ 32768
unfolding block_of
length_block d blocks i inside long = length-take-le 32768 (drop (32768 * i) d) (omega (arith, length-drop (32768 * i) d))

-- before the first block of the request nothing is replaced
pub replaced_none : (d : List ℕ) (lba : ℕ) (bytes : List ℕ) (block : ℕ) → 16 * block ≤ lba → replaced d lba bytes block ≡ d
unfolding replaced
replaced_none d lba bytes block before =
    let none : 2048 * (16 * block - lba) ≡ 0 = omega arith in
    ap (λ (m : ℕ). put_at (2048 * lba) (take m bytes) d) none ∙ put_at-none (2048 * lba) d

-- what is replaced leaves the length of the disc
pub length_replaced : (d : List ℕ) (blocks lba n : ℕ) (bytes : List ℕ) (block : ℕ) → length bytes ≡ 2048 * n → lba + n ≤ 16 * blocks → length d ≡ 32768 * blocks
    → length (replaced d lba bytes block) ≡ length d
unfolding replaced
length_replaced d blocks lba n bytes block whole inside long =
    length-put_at (2048 * lba) (take (2048 * (16 * block - lba)) bytes) d (omega (arith, length-take (2048 * (16 * block - lba)) bytes))

-- the bytes of the request in a block are as many as its sectors there
pub length_part_of : (lba n : ℕ) (bytes : List ℕ) (block : ℕ) → length bytes ≡ 2048 * n
    → length (part_of lba n bytes block) ≡ 2048 * (end_in lba n block - start_in lba block)
unfolding part_of
length_part_of lba n bytes block whole =
    length-take-le (2048 * (end_in lba n block - start_in lba block)) (drop (2048 * (start_in lba block - lba)) bytes)
    (omega (arith, length-drop (2048 * (start_in lba block - lba)) bytes))

-- a block that the request covers replaces the bytes of the request in it
pub replaced_step : (d : List ℕ) (blocks lba n : ℕ) (bytes : List ℕ) (block : ℕ) → start_in lba block < end_in lba n block → length bytes ≡ 2048 * n → lba + n ≤ 16 * blocks
    → length d ≡ 32768 * blocks → replaced d lba bytes (block + 1) ≡ put_at (2048 * start_in lba block) (part_of lba n bytes block) (replaced d lba bytes block)
unfolding replaced part_of
replaced_step d blocks lba n bytes block covered whole inside long =
    let prefix : ℕ = 2048 * (16 * block - lba) in
    let more : ℕ = 2048 * (16 * (block + 1) - start_in lba block) in
    let both : 2048 * (16 * (block + 1) - lba) ≡ prefix + more = omega arith in
    let behind : 2048 * lba + prefix ≡ 2048 * start_in lba block = omega arith in
    let same : prefix ≡ 2048 * (start_in lba block - lba) = omega arith in
    let few : min more (length (drop prefix bytes)) ≡ 2048 * (end_in lba n block - start_in lba block) = omega (arith, length-drop prefix bytes) in
    ap (λ (m : ℕ). put_at (2048 * lba) (take m bytes) d) both
    ∙ put_at-more (2048 * lba) prefix more bytes d (omega arith) (omega arith)
    ∙ ap (λ (m : ℕ). put_at m (take more (drop prefix bytes)) (put_at (2048 * lba) (take prefix bytes) d)) behind
    ∙ ap (λ (l : List ℕ). put_at (2048 * start_in lba block) l (put_at (2048 * lba) (take prefix bytes) d)) (sym (take_min more (drop prefix bytes)))
    ∙ ap (λ (m : ℕ). put_at (2048 * start_in lba block) (take m (drop prefix bytes)) (put_at (2048 * lba) (take prefix bytes) d)) few
    ∙ ap (λ (m : ℕ). put_at (2048 * start_in lba block) (take (2048 * (end_in lba n block - start_in lba block)) (drop m bytes)) (put_at (2048 * lba) (take prefix bytes) d)) same

-- a write over the whole of a list is what was written
pub put_at-whole : (from held : List ℕ) → length held ≤ length from → put_at 0 from held ≡ from
put_at-whole from held over =
    let start : 0 + length from ≡ length from = omega arith in
    ap (λ (m : ℕ). from ++ drop m held) start ∙ ap (λ (l : List ℕ). from ++ l) (drop_all (length from) held over) ∙ append-nil from

-- sectors of the request before the block read as those bytes of the request
pub sectors_replaced : (d : List ℕ) (blocks lba n : ℕ) (bytes : List ℕ) (block at m : ℕ) → length bytes ≡ 2048 * n → lba + n ≤ 16 * blocks → length d ≡ 32768 * blocks
    → lba ≤ at → at + m ≤ 16 * block → at + m ≤ lba + n → sectors_of (replaced d lba bytes block) at m ≡ take (2048 * m) (drop (2048 * (at - lba)) bytes)
unfolding sectors_of replaced
sectors_replaced d blocks lba n bytes block at m whole inside long from before within =
    let prefix : ℕ = 2048 * (16 * block - lba) in
    let there : 2048 * at ≡ 2048 * lba + 2048 * (at - lba) = omega arith in
    let rest : prefix ≡ 2048 * (at - lba) + (prefix - 2048 * (at - lba)) = omega arith in
    let put : List ℕ = take prefix bytes in
    let put_long : length put ≡ min prefix (length bytes) = length-take prefix bytes in
    ap (λ (k : ℕ). take (2048 * m) (drop k (put_at (2048 * lba) put d))) there
    ∙ ap (take (2048 * m)) (sym (drop-drop (2048 * (at - lba)) (2048 * lba) (put_at (2048 * lba) put d)))
    ∙ ap (λ (l : List ℕ). take (2048 * m) (drop (2048 * (at - lba)) l)) (drop-put_at-start (2048 * lba) put d (omega arith))
    ∙ ap (take (2048 * m)) (drop-append-le (2048 * (at - lba)) put (drop (2048 * lba + length put) d) (omega arith))
    ∙ take-append-le (2048 * m) (drop (2048 * (at - lba)) put) (drop (2048 * lba + length put) d) (omega (arith, length-drop (2048 * (at - lba)) put))
    ∙ ap (λ (k : ℕ). take (2048 * m) (drop (2048 * (at - lba)) (take k bytes))) rest
    ∙ ap (take (2048 * m)) (drop-take (2048 * (at - lba)) (prefix - 2048 * (at - lba)) bytes)
    ∙ take-take (2048 * m) (prefix - 2048 * (at - lba)) (drop (2048 * (at - lba)) bytes) (omega arith)

-- sectors outside the request, or past the block, read as before
pub other_sectors_replaced : (d : List ℕ) (blocks lba n : ℕ) (bytes : List ℕ) (block at m : ℕ) → length bytes ≡ 2048 * n → lba + n ≤ 16 * blocks → length d ≡ 32768 * blocks
    → (at + m ≤ lba) ⊎ (lba + n ≤ at) ⊎ (16 * block ≤ at) → sectors_of (replaced d lba bytes block) at m ≡ sectors_of d at m
unfolding sectors_of replaced
other_sectors_replaced d blocks lba n bytes block at m whole inside long apart =
    elim (cases_lt lba (16 * block)) [
      | inl after ↦
          other_range-put_at (2048 * at) (2048 * m) (2048 * lba) (take (2048 * (16 * block - lba)) bytes) d (omega arith)
          (elim apart [
            | inl before ↦ inl (omega arith)
            | inr more ↦ elim more [
              | inl past ↦ inr (omega (arith, length-take (2048 * (16 * block - lba)) bytes))
              | inr beyond ↦ inr (omega (arith, length-take (2048 * (16 * block - lba)) bytes))
            ]
          ])
      | inr none ↦ ap (λ (l : List ℕ). take (2048 * m) (drop (2048 * at) l)) (replaced_none d lba bytes block none)
    ]
