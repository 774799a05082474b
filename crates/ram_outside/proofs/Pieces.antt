-- A piece of what lies in memory, and what is left behind it.
use Rattle.std.proofs.Common.{◌≡◌, ℕ, ◌+◌, List, ◌++◌, length, take, drop, sym, ap, ◌∙◌}
use Rattle.std.proofs.lemmas.List.{take_at, take-append-drop, drop-drop}

-- a prefix of what was left, at the start of a slice, and what is left after it are what was left
pub prefix_and_rest : (prefix others bytes : List ℕ) (n given : ℕ) → prefix ≡ take n (drop given bytes) → length prefix ≡ n → take n (prefix ++ others) ++ drop (given + n) bytes ≡ drop given bytes
prefix_and_rest prefix others bytes n given is_prefix long =
    ap (λ xs. xs ++ drop (given + n) bytes) (take_at prefix others n long ∙ is_prefix) ∙ ap (λ xs. take n (drop given bytes) ++ xs) (sym (drop-drop n given bytes)) ∙ take-append-drop n (drop given bytes)
