-- Discs with the same blocks are the same; and of values without older ones one disc alone is taken.
use Rattle.std.proofs.Common.{◌≡◌, ℕ, zero, suc, ◌+◌, ◌*◌, ◌≤◌, List, [], ◌∷◌, ◌++◌, length, take, drop, inl, inr, refl, sym, ap, ◌∙◌, subst, ◌-◌, arith, map, length-drop}
use Rattle.std.specs.List.{Contains}
use Rattle.std.proofs.lemmas.List.{drop-drop, take-append-drop}
use Rattle.model_sectors.specs.Discs.{Standing, On, Off, block_of}
use Rattle.model_cache.specs.Values.{HasValue, IsTaken, AreTaken, with_older, settled_values, plain, StandsCached, IsUnder, IsPending}

empty : (a : List ℕ) → length a ≤ 0 → a ≡ []
empty [] short = refl
empty (x ∷ a) short = absurd (omega arith)

first_block : (a : List ℕ) → block_of a 0 ≡ take 32768 a
unfolding block_of
first_block a = refl

later_block : (a : List ℕ) (i : ℕ) → block_of (drop 32768 a) i ≡ block_of a (i + 1)
unfolding block_of
later_block a i =
    let there : 32768 + 32768 * i ≡ 32768 * (i + 1) = omega arith in
    ap (take 32768) (drop-drop (32768 * i) 32768 a) ∙ ap (λ (m : ℕ). take 32768 (drop m a)) there

-- lists of bytes with the same blocks are the same
pub same_blocks : (k : ℕ) (a b : List ℕ) → length a ≤ 32768 * k → length a ≡ length b
    → ((i : ℕ) → block_of a i ≡ block_of b i) → a ≡ b
same_blocks zero a b short as_long same = empty a (omega arith) ∙ sym (empty b (omega arith))
same_blocks (suc k) a b short as_long same =
    let front : take 32768 a ≡ take 32768 b = sym (first_block a) ∙ same 0 ∙ first_block b in
    let rest : drop 32768 a ≡ drop 32768 b =
    same_blocks k (drop 32768 a) (drop 32768 b) (omega (arith, length-drop 32768 a)) (length-drop 32768 a ∙ ap (λ (m : ℕ). m - 32768) as_long ∙ sym (length-drop 32768 b))
    (λ i. later_block a i ∙ same (i + 1) ∙ sym (later_block b i)) in
    sym (take-append-drop 32768 a) ∙ ap (λ (l : List ℕ). l ++ drop 32768 a) front ∙ ap (λ (l : List ℕ). take 32768 b ++ l) rest ∙ take-append-drop 32768 b

none_contained : {X : Type 0} (q : X) → Contains [] q → ⊥
none_contained q (k, within, is) = omega arith

-- of a disc without older values that disc is taken
pub one_taken : (disc other : List ℕ) → IsTaken (settled_values disc) other → disc ≡ other
one_taken disc other taken = same_blocks (length disc) disc other (omega arith) taken.as_long (λ i. only i (taken.each i))
  where
    only : (i : ℕ) → HasValue (settled_values disc) i (block_of other i) → block_of disc i ≡ block_of other i
    only i (inl e) = sym e
    only i (inr older) = absurd (none_contained (i, block_of other i) older)

pub takes_itself : (disc : List ℕ) → IsTaken (settled_values disc) disc
takes_itself disc = record { as_long = refl; each = λ i. inl refl }

-- of discs without older values those discs are taken
pub same_taken : (discs others : List (List ℕ)) → AreTaken (map (with_older []) discs) others → discs ≡ others
same_taken [] others taken = sym taken
same_taken (disc ∷ discs) [] taken = absurd taken
same_taken (disc ∷ discs) (other ∷ others) taken =
    ap (λ (l : List (List ℕ)). disc ∷ l) (same_taken discs others (taken.1)) ∙ ap (λ (d : List ℕ). d ∷ others) (one_taken disc other (taken.0))

pub take_themselves : (discs : List (List ℕ)) → AreTaken (map (with_older []) discs) discs
take_themselves [] = refl
take_themselves (disc ∷ discs) = (takes_itself disc, take_themselves discs)

none_pending : (i : ℕ) → IsPending [] i → ⊥
none_pending i (bytes, has) = none_contained (i, bytes) has

under_itself : (disc : List ℕ) → IsUnder [] disc (settled_values disc)
under_itself disc = record {
  taken = takes_itself disc;
  inside = λ i bytes has. absurd (none_contained (i, bytes) has);
  last = λ i bytes has. absurd (none_contained (i, bytes) has);
  others = λ i not. refl;
}

-- With nothing pending a drive stands plainly for just what its disc stands for.
pub stands_plainly : (stands : Standing → Type 0) (s : Standing) → stands s → StandsCached stands [] (plain s)
stands_plainly stands (On disc) so = (disc, so, under_itself disc)
stands_plainly stands (Off discs) so = (discs, so, take_themselves discs)

pub stands_for_it : (stands : Standing → Type 0) (s : Standing) → StandsCached stands [] (plain s) → stands s
stands_for_it stands (On disc) (other, so, under) = subst (λ (d : List ℕ). stands (On d)) (sym (one_taken disc other under.taken)) so
stands_for_it stands (Off discs) (others, so, taken) = subst (λ (l : List (List ℕ)). stands (Off l)) (sym (same_taken discs others taken)) so
