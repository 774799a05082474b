-- What arming a block does to the whole medium, of what it does to the arms.
use Rattle.std.specs.Prelude.{◌≡◌, ℕ, ◌-◌, ◌<◌, ◌≤◌, ◌==◌, ◌&&◌, nat_le, Bool, true, false, if◌then◌else◌, Option, Some, None, List, [], ◌∷◌}
use Rattle.std.specs.List.{cons_option}
use Rattle.std.proofs.Common.{arith, refl, ap, ◌∙◌}
use Rattle.std.proofs.lemmas.Bool.{leb-false}
use Rattle.std.proofs.lemmas.List.Elements.{All-cons, All-head, All-tail}
use Rattle.model_medium.specs.Machine.{AreToCome, arms_after}
use Rattle.model_medium.specs.World.{World}
use Rattle.model_medium.specs.declared.WornBlock.{WornBlock}
use Rattle.model_medium.specs.declared.ArmedCut.{ArmedCut}
use Rattle.ram_medium.specs.Laws.{machine_of}
use Rattle.ram_medium.specs.Control.{ArmsRule, WearRule}
use Rattle.ram_medium.specs.declared.control.Arm.{Arm}
use Rattle.ram_medium.specs.declared.control.Arm.TheVariants as arming

pub wears_by_arms : (total : ℕ) (world : World) (a b : List WornBlock) (cut cut' : Option ArmedCut) (worn : WornBlock) (end : Arm) → cut' ≡ cut → ArmsRule total a b worn end
    → WearRule total (machine_of world a cut) (machine_of world b cut') worn end
wears_by_arms total world a b cut cut' worn arming.Set same rule = (rule.0, rule.1, ap (λ c. machine_of world b c) same ∙ ap (λ arms. machine_of world arms cut) rule.2)
wears_by_arms total world a b cut cut' worn (arming.NoBlock blocks) same rule = (rule.0, rule.1, ap (λ c. machine_of world b c) same ∙ ap (λ arms. machine_of world arms cut) rule.2)
wears_by_arms total world a b cut cut' worn arming.Full same rule = (rule.0, rule.1, ap (λ c. machine_of world b c) same ∙ ap (λ arms. machine_of world arms cut) rule.2)

-- after a use of a block its arms are still to come
module _ (block : ℕ) where
  one_lowered : (arm : WornBlock) (rest : List WornBlock) → 1 ≤ arm.left → AreToCome rest → (same last : Bool) → nat_le arm.left 1 ≡ last
      → AreToCome (cons_option (if same && last then None else Some (if same then record arm { left = arm.left - 1 } else arm)) rest)
  one_lowered arm rest some all true true e = all
  one_lowered arm rest some all true false e =
      let above : 1 < arm.left = leb-false arm.left 1 e in
      All-cons (λ (a : WornBlock). 1 ≤ a.left) (record arm { left = arm.left - 1 }) rest (omega (arith, above)) all
  one_lowered arm rest some all false last e = All-cons (λ (a : WornBlock). 1 ≤ a.left) arm rest some all

  pub arms_to_come_after : (arms : List WornBlock) → AreToCome arms → AreToCome (arms_after block arms)
  arms_to_come_after [] all = all
  arms_to_come_after (arm ∷ arms) all =
      one_lowered arm (arms_after block arms) (All-head (λ (a : WornBlock). 1 ≤ a.left) arm arms all)
      (arms_to_come_after arms (All-tail (λ (a : WornBlock). 1 ≤ a.left) arm arms all)) (arm.block == block) (nat_le arm.left 1) refl
