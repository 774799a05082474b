-- A number written at the start of `bytes[at..]`, and parts of a block, over plain variables.
use Rattle.std.proofs.Common.{◌≡◌, ℕ, ◌+◌, ◌-◌, ◌*◌, ◌≤◌, List, [], ◌++◌, length, take, drop, replicate, refl, sym, ◌∙◌, ap, arith, append_assoc, length-drop}
use Rattle.std.proofs.lemmas.List.{drop-drop, drop_all, take_all, append-nil}
use borrow.Rule.Slice.PartMut.{put_mid}
use Rattle.model_bytes.specs.Bytes.{put_at}

-- where the front of what lies from `at` on was written, and the rest of it kept
pub put_mid-put_at : (at n : ℕ) (held from tail : List ℕ) → length from ≡ n → at + n ≤ length held → tail ≡ from ++ drop n (take (length held - at) (drop at held)) → put_mid at (length held - at) held tail ≡ put_at at from held
put_mid-put_at at n held from tail long inside written =
    let rest : drop (length held - at) (drop at held) ≡ [] = drop_all (length held - at) (drop at held) (omega (arith, length-drop at held)) in
    let all : take (length held - at) (drop at held) ≡ drop at held = take_all (length held - at) (drop at held) (omega (arith, length-drop at held)) in
    rw (rest, written, all, long) (ap (λ (l : List ℕ). take at held ++ l) (append-nil (from ++ drop n (drop at held)) ∙ ap (λ (l : List ℕ). from ++ l) (drop-drop n at held)) ∙ sym (append_assoc (take at held) from (drop (at + n) held)))

-- the part of the k-th piece of n bytes
pub piece : (n k : ℕ) (held now : List ℕ) → held ≡ now → take (n * (k + 1) - n * k) (drop (n * k) held) ≡ take n (drop (n * k) now)
piece n k held now same =
    let one : n * (k + 1) - n * k ≡ n = omega arith in
    rw (one, same) refl

-- each of n bytes
pub as_many : (n m byte : ℕ) (held : List ℕ) → n ≡ m → held ≡ replicate n byte → held ≡ replicate m byte
as_many n m byte held same all = all ∙ ap (λ k. replicate k byte) same
