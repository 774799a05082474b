-- How arms count down: at one use, over no use, and over one part after another.
use Rattle.std.specs.Prelude.{◌≡◌, ℕ, ◌+◌, ◌-◌, ◌<◌, ◌≤◌, ◌==◌, nat_le, Bool, true, false, if◌then◌else◌, Option, Some, None, List, [], ◌∷◌}
use Rattle.std.specs.List.{cons_option}
use Rattle.std.proofs.Common.{refl, sym, ap, ◌∙◌, inl, inr, subst, arith}
use Rattle.std.proofs.lemmas.Bool.{and_parts, or_cases, or_left, or_right, eqb-true, leb-true, leb-false, false≢true}
use Rattle.model_medium.specs.Cells.{Cell, Dead, cell_at}
use Rattle.model_medium.specs.Machine.{runs_out, arms_after, is_killed, fate_due, cut_after, IsToCome}
use Rattle.model_medium.specs.Reach.{IsWornWithin, IsDropped, IsLowered, WornBy, CutStands, CutFell}
use Rattle.model_medium.specs.declared.WornBlock.{WornBlock}
use Rattle.model_medium.specs.declared.ArmedCut.{ArmedCut}
use Rattle.model_medium.specs.declared.Fate.{Fate}

-- an arm that is dropped stands before any list of those that are left
pub worn_by-dropped : (k : ℕ) (cells : List Cell) (arm : WornBlock) (arms left : List WornBlock) → IsDropped k cells arm → WornBy k cells arms left → WornBy k cells (arm ∷ arms) left
worn_by-dropped k cells arm arms [] gone rest = (gone, rest)
worn_by-dropped k cells arm arms (arm' ∷ arms') gone rest = inl (gone, rest)

-- no use changes no arm
pub worn_by-none : (cells : List Cell) (arms : List WornBlock) → WornBy 0 cells arms arms
worn_by-none cells [] = tt
worn_by-none cells (arm ∷ arms) = inr (record { same_block = refl; not_raised = omega arith; lowered = omega arith }, worn_by-none cells arms)

pub worn_by-nil : (k : ℕ) (cells : List Cell) (left : List WornBlock) → WornBy k cells [] left → left ≡ []
worn_by-nil k cells [] h = refl
worn_by-nil k cells (arm' ∷ arms') h = absurd h

-- one part after another
dropped_later : (j k : ℕ) (mid new : List Cell) (arm : WornBlock) → ((block : ℕ) → cell_at mid block ≡ Dead → cell_at new block ≡ Dead) → IsDropped j mid arm → IsDropped (j + k) new arm
dropped_later j k mid new arm stays gone = record { few_left = omega (arith, gone.few_left); dead = stays arm.block gone.dead }

lowered_twice : (j k : ℕ) (a b c : WornBlock) → IsLowered j a b → IsLowered k b c → IsLowered (j + k) a c
lowered_twice j k a b c one two = record {
  same_block = two.same_block ∙ one.same_block;
  not_raised = omega (arith, one.not_raised, two.not_raised);
  lowered = omega (arith, one.lowered, two.lowered);
}

dropped_second : (j k : ℕ) (new : List Cell) (a b : WornBlock) → IsLowered j a b → IsDropped k new b → IsDropped (j + k) new a
dropped_second j k new a b low gone = record { few_left = omega (arith, low.lowered, gone.few_left); dead = ap (cell_at new) (sym low.same_block) ∙ gone.dead }

module _ (j k : ℕ) (mid new : List Cell) (stays : (block : ℕ) → cell_at mid block ≡ Dead → cell_at new block ≡ Dead) where
  pub worn_by-then : (xs ys zs : List WornBlock) → WornBy j mid xs ys → WornBy k new ys zs → WornBy (j + k) new xs zs
  worn_by-then [] [] zs one two = subst (WornBy (j + k) new []) (sym (worn_by-nil k new zs two)) tt
  worn_by-then [] (b ∷ ys) zs one two = absurd one
  worn_by-then (a ∷ xs) [] zs one two = worn_by-dropped (j + k) new a xs zs (dropped_later j k mid new a stays one.0) (worn_by-then xs [] zs one.1 two)
  worn_by-then (a ∷ xs) (b ∷ ys) zs (inl one) two = worn_by-dropped (j + k) new a xs zs (dropped_later j k mid new a stays one.0) (worn_by-then xs (b ∷ ys) zs one.1 two)
  worn_by-then (a ∷ xs) (b ∷ ys) [] (inr one) two = (dropped_second j k new a b one.0 two.0, worn_by-then xs ys [] one.1 two.1)
  worn_by-then (a ∷ xs) (b ∷ ys) (c ∷ zs) (inr one) (inl two) = inl (dropped_second j k new a b one.0 two.0, worn_by-then xs ys (c ∷ zs) one.1 two.1)
  worn_by-then (a ∷ xs) (b ∷ ys) (c ∷ zs) (inr one) (inr two) = inr (lowered_twice j k a b c one.0 two.0, worn_by-then xs ys zs one.1 two.1)

-- a block that is worn is worn before too
pub worn_within-before : (j k block : ℕ) (mid : List Cell) (xs ys : List WornBlock) → WornBy j mid xs ys → IsWornWithin k block ys → IsWornWithin (j + k) block xs
worn_within-before j k block mid [] [] one two = absurd two
worn_within-before j k block mid [] (b ∷ ys) one two = absurd one
worn_within-before j k block mid (a ∷ xs) [] one two = absurd two
worn_within-before j k block mid (a ∷ xs) (b ∷ ys) (inl one) two = inr (worn_within-before j k block mid xs (b ∷ ys) one.1 two)
worn_within-before j k block mid (a ∷ xs) (b ∷ ys) (inr one) (inl two) = inl (sym one.0.same_block ∙ two.0, omega (arith, one.0.lowered, two.1))
worn_within-before j k block mid (a ∷ xs) (b ∷ ys) (inr one) (inr two) = inr (worn_within-before j k block mid xs ys one.1 two)

pub worn_within-more : (j k block : ℕ) (arms : List WornBlock) → j ≤ k → IsWornWithin j block arms → IsWornWithin k block arms
worn_within-more j k block [] le h = h
worn_within-more j k block (arm ∷ arms) le (inl h) = inl (h.0, omega (arith, h.1))
worn_within-more j k block (arm ∷ arms) le (inr h) = inr (worn_within-more j k block arms le h)

-- One use of a block.
module _ (block : ℕ) where
  pub worn_within-killed : (arms : List WornBlock) → is_killed block arms ≡ true → IsWornWithin 1 block arms
  worn_within-killed [] e = absurd (false≢true e)
  worn_within-killed (arm ∷ arms) e = elim (or_cases (runs_out block arm) (is_killed block arms) e) [
    | inl here ↦ inl (eqb-true arm.block block (and_parts (arm.block == block) (nat_le arm.left 1) here).0, leb-true arm.left 1 (and_parts (arm.block == block) (nat_le arm.left 1) here).1)
    | inr later ↦ inr (worn_within-killed arms later)
  ]

  module _ (cells : List Cell) where
    -- an arm that does not run out stands, lowered by one at most
    stands : (arm : WornBlock) → runs_out block arm ≡ false → IsLowered 1 arm (if arm.block == block then record arm { left = arm.left - 1 } else arm)
    stands arm e = by_block (arm.block == block)
      where
        by_block : (b : Bool) → IsLowered 1 arm (if b then record arm { left = arm.left - 1 } else arm)
        by_block true = record { same_block = refl; not_raised = omega arith; lowered = omega arith }
        by_block false = record { same_block = refl; not_raised = omega arith; lowered = omega arith }

    one_more : (arm : WornBlock) (arms : List WornBlock) → (is_killed block (arm ∷ arms) ≡ true → cell_at cells block ≡ Dead) → WornBy 1 cells arms (arms_after block arms) → (b : Bool) → runs_out block arm ≡ b
        → WornBy 1 cells (arm ∷ arms) (cons_option (if b then None else Some (if arm.block == block then record arm { left = arm.left - 1 } else arm)) (arms_after block arms))
    one_more arm arms dead rest true e =
        let both = and_parts (arm.block == block) (nat_le arm.left 1) e in
        worn_by-dropped 1 cells arm arms (arms_after block arms)
        (record { few_left = leb-true arm.left 1 both.1; dead = ap (cell_at cells) (eqb-true arm.block block both.0) ∙ dead (or_left (runs_out block arm) (is_killed block arms) e) }) rest
    one_more arm arms dead rest false e = inr (stands arm e, rest)

    pub worn_by-one : (arms : List WornBlock) → (is_killed block arms ≡ true → cell_at cells block ≡ Dead) → WornBy 1 cells arms (arms_after block arms)
    worn_by-one [] dead = tt
    worn_by-one (arm ∷ arms) dead =
        one_more arm arms dead (worn_by-one arms (λ e. dead (or_right (runs_out block arm) (is_killed block arms) e))) (runs_out block arm) refl

-- The armed cut at one use.
pub cut_stands-one : (cut : Option ArmedCut) → fate_due cut ≡ None → CutStands 1 cut (cut_after cut)
cut_stands-one None e = tt
cut_stands-one (Some armed) e = step (nat_le armed.left 1) refl e
  where
    step : (b : Bool) → nat_le armed.left 1 ≡ b → (if b then Some armed.fate else None) ≡ None → CutStands 1 (Some armed) (if b then None else Some (record armed { left = armed.left - 1 }))
    step true h e = absurd (let clash : Some armed.fate ≡ None = e in cc)
    step false h e = let above : 1 < armed.left = leb-false armed.left 1 h in (refl, omega arith, omega arith)

pub cut_fell-one : (cut : Option ArmedCut) (fate : Fate) → IsToCome cut → fate_due cut ≡ Some fate → CutFell 1 cut (cut_after cut)
cut_fell-one None fate stands e = absurd (let clash : None ≡ Some fate = e in cc)
cut_fell-one (Some armed) fate stands e = step (nat_le armed.left 1) refl e
  where
    step : (b : Bool) → nat_le armed.left 1 ≡ b → (if b then Some armed.fate else None) ≡ Some fate → CutFell 1 (Some armed) (if b then None else Some (record armed { left = armed.left - 1 }))
    step true h e = (omega (arith, leb-true armed.left 1 h, stands armed refl), refl)
    step false h e = absurd (let clash : None ≡ Some fate = e in cc)

pub cut_stands-none : (cut : Option ArmedCut) → IsToCome cut → CutStands 0 cut cut
cut_stands-none None stands = tt
cut_stands-none (Some armed) stands = (refl, omega arith, stands armed refl)

pub cut_stands-then : (j k : ℕ) (a b c : Option ArmedCut) → CutStands j a b → CutStands k b c → CutStands (j + k) a c
cut_stands-then j k None None None one two = tt
cut_stands-then j k None None (Some c) one two = absurd two
cut_stands-then j k None (Some b) c one two = absurd one
cut_stands-then j k (Some a) None c one two = absurd one
cut_stands-then j k (Some a) (Some b) None one two = absurd two
cut_stands-then j k (Some a) (Some b) (Some c) one two = (two.0 ∙ one.0, omega (arith, one.1, two.1), two.2)

pub cut_fell-then : (j k : ℕ) (a b c : Option ArmedCut) → CutStands j a b → CutFell k b c → CutFell (j + k) a c
cut_fell-then j k None None c one two = absurd two
cut_fell-then j k None (Some b) c one two = absurd one
cut_fell-then j k (Some a) None c one two = absurd one
cut_fell-then j k (Some a) (Some b) c one two = (omega (arith, one.1, two.0), two.1)
