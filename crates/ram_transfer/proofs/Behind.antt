-- The numbers of the blocks in a buffer that is behind: the request is long, and its blocks go past the buffer but for its last
-- eight, and for the first where that is covered in part.
use Rattle.std.specs.Prelude.{◌≡◌, ℕ, zero, suc, ◌+◌, ◌-◌, ◌<◌, ◌≤◌, ◌==◌, Bool, true, false, IsTrue, List}
use Rattle.std.proofs.Common.{refl, sym, ap, ◌∙◌, inl, inr, subst, arith}
use Rattle.std.proofs.lemmas.Bool.{cases_eq, cases_lt, cases_Bool, ltb-true, eq-eqb, or_left}
use Rattle.model_buffer.specs.Buffer.{touched_one}
use Rattle.model_buffer.proofs.Touched.{touched_twice}
use Rattle.model_sectors.specs.Requests.{block_with, blocks_covered, start_in, end_in, is_partly}
use Rattle.model_sectors.specs.Uses.{is_buffered, touched_from}
use Rattle.model_sectors.proofs.Covering.{covered_before, buffered_after_uses}
use Rattle.model_sectors.proofs.Fronts.{before_does_not_matter}

-- how many of the first blocks were put into the buffer before those that went past it
abbrev pub front_used : Bool → ℕ → ℕ
front_used true zero = 0
front_used true (suc k) = 1
front_used false k = 0

pub front_low : (partly : Bool) (k : ℕ) → front_used partly k ≤ k
front_low true zero = omega arith
front_low true (suc k) = omega arith
front_low false k = omega arith

pub front_same : (partly : Bool) (k : ℕ) → 0 < k → front_used partly (k + 1) ≡ front_used partly k
front_same true zero some = absurd (omega (arith, some))
front_same true (suc k) some = subst (λ (m : ℕ). front_used true m ≡ 1) next refl
  where
    next : suc (suc k) ≡ suc k + 1
    next = omega arith
front_same false k some = refl

front_none : (partly : Bool) (k : ℕ) → partly ≡ false → front_used partly k ≡ 0
front_none true k h = absurd (let e : true ≡ false = h in cc)
front_none false k h = refl

-- a block between the first and the last of a request is covered whole
pub between_whole : (lba n k : ℕ) → 0 < k → k + 1 < blocks_covered lba n → is_partly lba n (block_with lba + k) ≡ false
between_whole lba n k some more =
    let before = covered_before lba n (k + 1) more in
    elim (cases_Bool (is_partly lba n (block_with lba + k))) [
      | inl partly ↦ absurd (let less : end_in lba n (block_with lba + k) - start_in lba (block_with lba + k) < 16 = ltb-true (end_in lba n (block_with lba + k) - start_in lba (block_with lba + k)) 16 partly in omega arith)
      | inr whole ↦ whole
    ]

module _ (b : List ℕ) (lba n : ℕ) where
  abbrev first : ℕ
  first = block_with lba

  abbrev last : ℕ
  last = blocks_covered lba n - 8

  -- the blocks that were buffered before the last eight
  abbrev front_numbers : ℕ → List ℕ
  front_numbers k = touched_from b first (front_used (is_partly lba n first) k)

  -- the blocks of the buffer after n of the request
  abbrev pub numbers_behind : ℕ → List ℕ
  numbers_behind k = touched_from (front_numbers k) (first + last) (k - last)

  pub behind_none : numbers_behind 0 ≡ b
  behind_none = ap (λ (j : ℕ). touched_from (front_numbers 0) (first + last) j) none ∙ front (is_partly lba n first)
    where
      none : 0 - last ≡ 0
      none = omega arith

      front : (partly : Bool) → touched_from b first (front_used partly 0) ≡ b
      front true = refl
      front false = refl

  -- before the last eight
  pub behind_front : (k : ℕ) → k ≤ last → numbers_behind k ≡ front_numbers k
  behind_front k low = ap (λ (j : ℕ). touched_from (front_numbers k) (first + last) j) (let none : k - last ≡ 0 = omega arith in none)

  -- a block went past
  pub behind_past : (k : ℕ) → k + 8 < blocks_covered lba n → is_partly lba n (first + k) ≡ false → numbers_behind (k + 1) ≡ numbers_behind k
  behind_past k early whole =
      behind_front (k + 1) (omega arith) ∙ ap (λ (j : ℕ). touched_from b first j) same ∙ sym (behind_front k (omega arith))
    where
      same : front_used (is_partly lba n first) (k + 1) ≡ front_used (is_partly lba n first) k
      same = elim (cases_eq k 0) [
        | inl zero_is ↦
            let here : is_partly lba n first ≡ false = ap (λ (i : ℕ). is_partly lba n i) (let e : first ≡ first + k = omega arith in e) ∙ whole in
            front_none (is_partly lba n first) (k + 1) here ∙ sym (front_none (is_partly lba n first) k here)
        | inr other ↦ front_same (is_partly lba n first) k (omega arith)
      ]

  -- the first block was put, as it is covered in part
  pub behind_first : 16 ≤ blocks_covered lba n → is_partly lba n first ≡ true → numbers_behind 1 ≡ touched_one b first
  behind_first many partly =
      behind_front 1 (omega arith)
      ∙ ap (λ (p : Bool). touched_from b first (front_used p 1)) partly
      ∙ ap (touched_one b) (let e : first + 0 ≡ first = omega arith in e)

  -- one of the last eight was put
  pub behind_last : (k : ℕ) → 16 ≤ blocks_covered lba n → blocks_covered lba n ≤ k + 8 → numbers_behind (k + 1) ≡ touched_one (numbers_behind k) (first + k)
  behind_last k many late =
      ap (λ (j : ℕ). touched_from (touched_from b first j) (first + last) (k + 1 - last)) (front_same (is_partly lba n first) k (omega arith))
      ∙ ap (λ (j : ℕ). touched_from (front_numbers k) (first + last) j) next
      ∙ ap (touched_one (numbers_behind k)) home
    where
      next : k + 1 - last ≡ suc (k - last)
      next = omega arith

      home : first + last + (k - last) ≡ first + k
      home = omega arith

  -- after all blocks the buffer has those that it would have if none had gone past it
  pub behind_all : 8 ≤ blocks_covered lba n → numbers_behind (blocks_covered lba n) ≡ touched_from b first (blocks_covered lba n)
  behind_all many =
      ap (λ (j : ℕ). touched_from (front_numbers (blocks_covered lba n)) (first + last) j) eight
      ∙ sym (before_does_not_matter b (front_numbers (blocks_covered lba n)) first last)
      ∙ ap (touched_from b first) all
    where
      eight : blocks_covered lba n - last ≡ 8
      eight = omega arith

      all : last + 8 ≡ blocks_covered lba n
      all = omega arith

  -- a block of the request that was not buffered at first is not there before its turn
  pub behind_lacks : (k : ℕ) → ¬ IsTrue (is_buffered b (first + k)) → ¬ IsTrue (is_buffered (numbers_behind k) (first + k))
  behind_lacks k lacks here = elim (cases_lt last k) [
    | inl late ↦ front (buffered_after_uses (front_numbers k) (first + last) (k - last) (first + k) (omega arith) here)
    | inr early ↦ front (subst (λ (l : List ℕ). IsTrue (is_buffered l (first + k))) (behind_front k (omega arith)) here)
  ]
    where
      front : IsTrue (is_buffered (front_numbers k) (first + k)) → ⊥
      front h = lacks (buffered_after_uses b first (front_used (is_partly lba n first) k) (first + k) (let low = front_low (is_partly lba n first) k in omega arith) h)

  -- the first uses of all are those of one that was used before
  first_again : (c : List ℕ) (k : ℕ) → touched_from (touched_one c first) first (suc k) ≡ touched_from c first (suc k)
  first_again c zero =
      subst (λ (i : ℕ). touched_one (touched_one c first) i ≡ touched_one c i) (let e : first ≡ first + 0 = omega arith in e) (touched_twice c first)
  first_again c (suc k) = ap (λ (l : List ℕ). touched_one l (first + suc k)) (first_again c k)

  -- the last blocks that were read, put into the buffer, make it the one that it would be
  pub behind_put : (k : ℕ) → 16 ≤ blocks_covered lba n → k < blocks_covered lba n → touched_from (numbers_behind k) (first + (k - 8)) (k - (k - 8)) ≡ touched_from b first k
  behind_put k many covered = elim (cases_lt k 8) [
    | inl few ↦
        ap (λ (i : ℕ). touched_from (numbers_behind k) i (k - (k - 8))) (let e : first + (k - 8) ≡ first = omega arith in e)
        ∙ ap (touched_from (numbers_behind k) first) (let e : k - (k - 8) ≡ k = omega arith in e)
        ∙ ap (λ (l : List ℕ). touched_from l first k) (behind_front k (omega arith))
        ∙ again (is_partly lba n first) k
    | inr more ↦
        ap (touched_from (numbers_behind k) (first + (k - 8))) (let e : k - (k - 8) ≡ 8 = omega arith in e)
        ∙ sym (before_does_not_matter b (numbers_behind k) first (k - 8))
        ∙ ap (touched_from b first) (let e : k - 8 + 8 ≡ k = omega arith in e)
  ]
    where
      again : (partly : Bool) (k : ℕ) → touched_from (touched_from b first (front_used partly k)) first k ≡ touched_from b first k
      again true zero = refl
      again true (suc k) = ap (λ (i : ℕ). touched_from (touched_one b i) first (suc k)) (let e : first + 0 ≡ first = omega arith in e) ∙ first_again b k
      again false k = refl

-- a block that was used last is buffered
pub used_is_there : (b : List ℕ) (i : ℕ) → IsTrue (is_buffered (touched_one b i) i)
used_is_there b i = or_left (i == i) _ (eq-eqb i i refl)
