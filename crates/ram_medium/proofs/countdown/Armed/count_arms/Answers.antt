use Rattle.std.proofs.Common.{rules, subst, sym}
use Rattle.model_medium.specs.Machine.{AreToCome, worn_down}
use Rattle.ram_medium.proofs.Arming.{arms_to_come_after}
use Rattle.ram_medium.proofs.Retained.{filter_map-retain}
use Rattle.ram_medium.proofs.countdown.Armed.count_arms.Goals as goal

pub returns-clause-arms : goal.returns-clause-arms
returns-clause-arms c = filter_map-retain _ (worn_down c.args.block) _ (λ x b f' y k. (search rules, search rules)) _ _ c.retain.ensures.filtered

pub invariant_of-self-clause-arms_to_come : goal.invariant_of-self-clause-arms_to_come
invariant_of-self-clause-arms_to_come c =
    subst (λ arms. AreToCome arms)
    (sym (filter_map-retain _ (worn_down c.args.block) _ (λ x b f' y k. (search rules, search rules)) _ _ c.retain.ensures.filtered))
    (arms_to_come_after c.args.block c.args.self.now.worn.items c.args.self.now.arms_to_come)
