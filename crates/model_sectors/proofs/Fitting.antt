-- When a cell agrees with the bytes of a block, and what the disc that a drive begins with has in each block.
use Rattle.std.proofs.Common.{◌≡◌, ℕ, zero, suc, ◌+◌, ◌*◌, ◌<◌, ◌⊎◌, inl, inr, List, [], ◌∷◌, ◌++◌, length, take, drop, slice_index, refl, sym, ◌∙◌, ap, subst, arith, length-append}
use Rattle.std.specs.Prelude.{flat_map, bytes_eq}
use Rattle.std.proofs.lemmas.Bool.{cases_eq, cases_Bool, both_ways}
use Rattle.std.proofs.lemmas.Slice.Eq.{bytes_eq-Decides}
use Rattle.std.proofs.lemmas.List.{take_at, drop_at, drop-drop, length-replicate}
use Rattle.std.proofs.Math.Nat.{mul-suc}
use Rattle.model_medium.specs.Cells.{Cell, Blank, Good, Torn, Dead, IsGood, cell_at}
use Rattle.model_sectors.specs.Discs.{Agrees, block_of, zeros, bytes_or_zeros, first_disc}

-- what can be decided at each number can be decided of all below one
pub decided_below : (P : ℕ → Type 0) → ((i : ℕ) → P i ⊎ ¬ P i) → (n : ℕ) → ((i : ℕ) → i < n → P i) ⊎ ¬ ((i : ℕ) → i < n → P i)
decided_below P decided zero = inl (λ i h. absurd (omega arith))
decided_below P decided (suc n) = elim (decided_below P decided n) [
  | inl all ↦ elim (decided n) [
    | inl last ↦ inl (λ i h. elim (cases_eq i n) [ inl e ↦ subst P (sym e) last | inr ne ↦ all i (omega arith) ])
    | inr fails ↦ inr (λ every. fails (every n (omega arith)))
  ]
  | inr fails ↦ inr (λ every. fails (λ i h. every i (omega arith)))
]

-- two lists of bytes are the same or not
pub same_decided : (xs ys : List ℕ) → (xs ≡ ys) ⊎ ¬ (xs ≡ ys)
same_decided xs ys = elim (cases_Bool (bytes_eq xs ys)) [
  | inl same ↦ inl ((bytes_eq-Decides xs ys).0 same)
  | inr other ↦ inr (λ e. both_ways (bytes_eq xs ys) other ((bytes_eq-Decides xs ys).1 e))
]

-- whether a cell agrees with bytes can be decided
pub agrees_decided : (cell : Cell) (bytes : List ℕ) → Agrees cell bytes ⊎ ¬ Agrees cell bytes
agrees_decided Blank bytes = inl tt
agrees_decided (Good held) bytes = same_decided held bytes
agrees_decided Torn bytes = inl tt
agrees_decided Dead bytes = inl tt

-- a cell without whole bytes agrees with any
pub agrees_not_good : (cell : Cell) (bytes : List ℕ) → ¬ IsGood cell → Agrees cell bytes
agrees_not_good Blank bytes bad = tt
agrees_not_good (Good held) bytes bad = absurd (bad tt)
agrees_not_good Torn bytes bad = tt
agrees_not_good Dead bytes bad = tt

-- n zeros are as many bytes
pub length-zeros : (n : ℕ) → length (zeros n) ≡ n
unfolding zeros
length-zeros n = length-replicate n 0

-- as many bytes as a block has, where the whole bytes of the cell are as many
pub length_bytes_or_zeros : (cell : Cell) → ((bytes : List ℕ) → cell ≡ Good bytes → length bytes ≡ 32768) → length (bytes_or_zeros cell) ≡ 32768
length_bytes_or_zeros Blank whole = length-zeros 32768
length_bytes_or_zeros (Good bytes) whole = whole bytes refl
length_bytes_or_zeros Torn whole = length-zeros 32768
length_bytes_or_zeros Dead whole = length-zeros 32768

-- a cell agrees with its own bytes
pub agrees_own : (cell : Cell) → Agrees cell (bytes_or_zeros cell)
agrees_own Blank = tt
agrees_own (Good bytes) = refl
agrees_own Torn = tt
agrees_own Dead = tt

-- pieces of one length, end to end, are as long as all of them
pub length_pieces : (f : ℕ → List ℕ) (size : ℕ) (xs : List ℕ) → ((i : ℕ) → i < length xs → length (f (slice_index xs i)) ≡ size) → length (flat_map f xs) ≡ size * length xs
length_pieces f size [] each = omega arith
length_pieces f size (x ∷ xs) each =
    let first : length (f x) ≡ size = each 0 (omega arith) in
    let later : length (flat_map f xs) ≡ size * length xs = length_pieces f size xs (λ i h. each (suc i) (omega arith)) in
    omega (arith, length-append (f x) (flat_map f xs), mul-suc size (length xs))

-- of pieces of one length, end to end, each stands at its place
pub piece_at : (f : ℕ → List ℕ) (size : ℕ) (xs : List ℕ) (i : ℕ) → ((j : ℕ) → j < length xs → length (f (slice_index xs j)) ≡ size) → i < length xs
    → take size (drop (size * i) (flat_map f xs)) ≡ f (slice_index xs i)
piece_at f size [] i each h = absurd (omega arith)
piece_at f size (x ∷ xs) zero each h =
    let start : size * 0 ≡ 0 = omega arith in
    ap (λ (m : ℕ). take size (drop m (f x ++ flat_map f xs))) start ∙ take_at (f x) (flat_map f xs) size (each 0 h)
piece_at f size (x ∷ xs) (suc i) each h =
    ap (λ (m : ℕ). take size (drop m (f x ++ flat_map f xs))) (mul-suc size i ∙ turned)
    ∙ ap (take size) (sym (drop-drop (size * i) size (f x ++ flat_map f xs)))
    ∙ ap (λ (l : List ℕ). take size (drop (size * i) l)) (drop_at (f x) (flat_map f xs) size (each 0 (omega arith)))
    ∙ piece_at f size xs i (λ j k. each (suc j) (omega arith)) (omega arith)
  where
    turned : size * i + size ≡ size + size * i
    turned = omega arith

-- the disc that a drive begins with has the length of its blocks
pub length_first_disc : (homes : List ℕ) (cells : List Cell) → ((i : ℕ) (bytes : List ℕ) → i < length homes → cell_at cells (slice_index homes i) ≡ Good bytes → length bytes ≡ 32768)
    → length (first_disc homes cells) ≡ 32768 * length homes
unfolding first_disc
length_first_disc homes cells whole =
    length_pieces (λ block. bytes_or_zeros (cell_at cells block)) 32768 homes
    (λ i h. length_bytes_or_zeros (cell_at cells (slice_index homes i)) (λ bytes e. whole i bytes h e))

-- a block of the disc that a drive begins with is that of its home
pub block_of_first_disc : (homes : List ℕ) (cells : List Cell) (i : ℕ) → ((j : ℕ) (bytes : List ℕ) → j < length homes → cell_at cells (slice_index homes j) ≡ Good bytes → length bytes ≡ 32768)
    → i < length homes → block_of (first_disc homes cells) i ≡ bytes_or_zeros (cell_at cells (slice_index homes i))
unfolding first_disc block_of
block_of_first_disc homes cells i whole h =
    piece_at (λ block. bytes_or_zeros (cell_at cells block)) 32768 homes i
    (λ j k. length_bytes_or_zeros (cell_at cells (slice_index homes j)) (λ bytes e. whole j bytes k e)) h
