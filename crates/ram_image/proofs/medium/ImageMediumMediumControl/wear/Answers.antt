use Rattle.std.proofs.Common.{ap, ◌∙◌}
use Rattle.model_geometry.specs.Geometry.{total}
use Rattle.ram_image.specs.Medium.{world_of}
use Rattle.ram_medium.specs.Countdown.{arms_of, armed_cut_of}
use Rattle.ram_medium.proofs.Arming.{wears_by_arms}
use Rattle.ram_image.proofs.medium.ImageMediumMediumControl.wear.Goals as goal

pub returns-clause-rule : goal.returns-clause-rule
returns-clause-rule g c =
    wears_by_arms (total c.args.self.now.geometry) (world_of c.args.self.now) (arms_of c.args.self.now.armed.value) (arms_of c.wear.new.self) (armed_cut_of c.args.self.now.armed.value) (armed_cut_of c.wear.new.self) _ c.wear.result
    (c.wear.ensures.cut ∙ ap armed_cut_of c.deref_mut.ensures.value) (rw (c.total-blocks.ensures.blocks, c.deref_mut.ensures.value) at c.wear.ensures.arms)
