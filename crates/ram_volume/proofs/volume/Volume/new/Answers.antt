use Rattle.std.proofs.Common.{refl, ◌∙◌, subst, Bool, length, ◌≡◌}
use Rattle.std.specs.Bool.{OnTrue}
use Rattle.ram_medium.specs.Laws.{machine_shown}
use Rattle.ram_volume.proofs.Somes.{new_some}
use Rattle.ram_volume.proofs.volume.Volume.new.Goals as goal

pub invariant_of-result : goal.invariant_of-result
invariant_of-result g c = record {
  held = refl;
  some = new_some c.new.result.geometry (machine_shown g.M.Medium.world g.M.MediumControl.arms g.M.MediumControl.armed_cut c.new.result.medium) c.new.result.off
      (g.met.M.Medium.laws.whole c.new.result.medium)
      (λ known. subst (λ (b : Bool). OnTrue b (length (g.M.Medium.world c.new.result.medium).cells ≡ g.M.Medium.block_count c.new.result.medium)) known
      (g.met.M.Medium.laws.as_many c.new.result.medium) ∙ c.new.result.size);
}
