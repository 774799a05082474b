-- What a write into a list of bytes makes of it and leaves.
use Rattle.std.proofs.Common.{◌≡◌, ℕ, ◌+◌, ◌-◌, ◌<◌, ◌≤◌, ◌⊎◌, inl, inr, List, ◌++◌, length, get_or, take, drop, sym, ◌∙◌, ap, arith, append_assoc, length-append, length-drop}
use Rattle.std.proofs.lemmas.List.{length-take-le, take_at, drop_at, take-append-le, take-take, drop-drop, get_or_append_left, get_or-take, get_or-drop, drop-take}
use Rattle.model_bytes.specs.Bytes.{put_at}

-- a write inside a list leaves its length
pub length-put_at : (at : ℕ) (from held : List ℕ) → at + length from ≤ length held → length (put_at at from held) ≡ length held
length-put_at at from held inside =
    let prefix = length-take-le at held (omega arith) in
    omega (arith, length-append (take at held ++ from) (drop (at + length from) held), length-append (take at held) from, length-drop (at + length from) held)

-- below the range, the bytes are those that were there
pub take-put_at : (n at : ℕ) (from held : List ℕ) → n ≤ at → at ≤ length held → take n (put_at at from held) ≡ take n held
take-put_at n at from held below inside =
    let prefix = length-take-le at held inside in
    rw append_assoc (take-append-le n (take at held) (from ++ drop (at + length from) held) (omega arith) ∙ take-take n at held below)

-- past the range, the bytes are those that were there
pub drop-put_at : (n at : ℕ) (from held : List ℕ) → at + length from ≤ n → at ≤ length held → drop n (put_at at from held) ≡ drop n held
drop-put_at n at from held past inside =
    let prefix = length-take-le at held inside in
    let last : ℕ = at + length from in
    let rest : n ≡ last + (n - last) = omega arith in
    let seam : drop last (put_at at from held) ≡ drop last held =
    drop_at (take at held ++ from) (drop last held) last (omega (arith, length-append (take at held) from)) in
    ap (λ (m : ℕ). drop m (put_at at from held)) rest
    ∙ sym (drop-drop (n - last) last (put_at at from held))
    ∙ ap (drop (n - last)) seam
    ∙ drop-drop (n - last) last held
    ∙ ap (λ (m : ℕ). drop m held) (sym rest)

-- from the range on, the bytes are those written, and then those that were there
pub drop-put_at-start : (at : ℕ) (from held : List ℕ) → at ≤ length held → drop at (put_at at from held) ≡ from ++ drop (at + length from) held
drop-put_at-start at from held inside =
    ap (drop at) (append_assoc (take at held) from (drop (at + length from) held))
    ∙ drop_at (take at held) (from ++ drop (at + length from) held) at (length-take-le at held inside)

-- a range apart from the written one has the bytes that were there
pub other_range-put_at : (low n at : ℕ) (from held : List ℕ) → at ≤ length held → (low + n ≤ at) ⊎ (at + length from ≤ low) → take n (drop low (put_at at from held)) ≡ take n (drop low held)
other_range-put_at low n at from held inside (inl below) =
    sym (drop-take low n (put_at at from held)) ∙ ap (drop low) (take-put_at (low + n) at from held below inside) ∙ drop-take low n held
other_range-put_at low n at from held inside (inr past) = ap (take n) (drop-put_at low at from held past inside)

-- a byte below the range
pub get_or-put_at-below : (k at : ℕ) (from held : List ℕ) (d : ℕ) → k < at → at ≤ length held → get_or (put_at at from held) k d ≡ get_or held k d
get_or-put_at-below k at from held d below inside =
    sym (get_or-take at (put_at at from held) k d below) ∙ ap (λ (l : List ℕ). get_or l k d) (take-put_at at at from held (omega arith) inside) ∙ get_or-take at held k d below

-- a byte past the range
pub get_or-put_at-past : (k at : ℕ) (from held : List ℕ) (d : ℕ) → at + length from ≤ k → at ≤ length held → get_or (put_at at from held) k d ≡ get_or held k d
get_or-put_at-past k at from held d past inside =
    let last : ℕ = at + length from in
    let rest : k ≡ last + (k - last) = omega arith in
    ap (λ (m : ℕ). get_or (put_at at from held) m d) rest
    ∙ sym (get_or-drop last (put_at at from held) (k - last) d)
    ∙ ap (λ (l : List ℕ). get_or l (k - last) d) (drop-put_at last at from held (omega arith) inside)
    ∙ get_or-drop last held (k - last) d
    ∙ ap (λ (m : ℕ). get_or held m d) (sym rest)

-- a byte of the range
pub get_or-put_at-inside : (k at : ℕ) (from held : List ℕ) (d : ℕ) → k < length from → at ≤ length held → get_or (put_at at from held) (at + k) d ≡ get_or from k d
get_or-put_at-inside k at from held d within inside =
    sym (get_or-drop at (put_at at from held) k d)
    ∙ ap (λ (l : List ℕ). get_or l k d) (drop-put_at-start at from held inside)
    ∙ get_or_append_left from (drop (at + length from) held) d k within

-- a list written over its whole length, as by what `bytes_mut` of a block lends
pub written_whole : (written held : List ℕ) → length written ≡ length held → take (length held) (written ++ drop (length written) held) ≡ written
written_whole written held same =
    take_at written (drop (length written) held) (length held) same

-- a write at the end of a front makes the front longer
pub take-put_at-end : (n at : ℕ) (from held : List ℕ) → n ≡ at + length from → at ≤ length held → take n (put_at at from held) ≡ take at held ++ from
take-put_at-end n at from held end inside =
    let prefix = length-take-le at held inside in
    take_at (take at held ++ from) (drop (at + length from) held) n (omega (arith, length-append (take at held) from))
