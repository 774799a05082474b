-- How many entries of a table are apart, counted one after another.
use Rattle.std.proofs.Common.{◌≡◌, ℕ, zero, suc, ◌+◌, ◌<◌, ◌≤◌, Bool, true, false, List, [], ◌∷◌, length, take, sym, ap, ◌∙◌, arith}
use Rattle.std.specs.Prelude.{get_or}
use Rattle.model_mirror.specs.Table.{one_if, count_apart}

counted : (table : List Bool) (k : ℕ) (d : Bool) → k < length table → count_apart (take (suc k) table) ≡ count_apart (take k table) + one_if (get_or table k d)
counted [] k d inside = absurd (omega (arith, inside))
counted (apart ∷ table) zero d inside = omega arith
counted (apart ∷ table) (suc k) d inside = let e = counted table k d (omega (arith, inside)) in omega (arith, e)

counted_next : (table : List Bool) (k : ℕ) (d : Bool) → k < length table → count_apart (take (k + 1) table) ≡ count_apart (take k table) + one_if (get_or table k d)
counted_next table k d inside =
    let more : suc k ≡ k + 1 = omega arith in
    ap (λ (n : ℕ). count_apart (take n table)) (sym more) ∙ counted table k d inside

one_at_most : (apart : Bool) → one_if apart ≤ 1
one_at_most true = omega arith
one_at_most false = omega arith

-- one entry more was counted
pub counted_more : (table : List Bool) (k count one : ℕ) (apart d : Bool) → k < length table → get_or table k d ≡ apart → count ≡ count_apart (take k table) → one ≡ one_if apart → count + one ≡ count_apart (take (k + 1) table)
counted_more table k count one apart d inside is so_far told =
    let e = counted_next table k d inside in
    let same = ap one_if is in
    omega (arith, e, same, so_far, told)

pub few_more : (k count one : ℕ) (apart : Bool) → count ≤ k → one ≡ one_if apart → count + one ≤ k + 1
few_more k count one apart few told = let most = one_at_most apart in omega (arith, few, told, most)
