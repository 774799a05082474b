use Rattle.std.specs.Prelude.{vec_len}
use Rattle.ram_medium.specs.Memory.{mem_world}
use Rattle.ram_medium.specs.Countdown.{arms_of, armed_cut_of}
use Rattle.ram_medium.proofs.Arming.{wears_by_arms}
use Rattle.ram_medium.proofs.memory.MemMediumMediumControl.wear.Goals as goal

pub returns-clause-rule : goal.returns-clause-rule
returns-clause-rule c =
    wears_by_arms (vec_len c.args.self.now.slots) (mem_world c.args.self.now) (arms_of c.args.self.now.armed) (arms_of c.wear.new.self) (armed_cut_of c.args.self.now.armed) (armed_cut_of c.wear.new.self) _ c.wear.result
    c.wear.ensures.cut (rw c.blocks-blocks.ensures at c.wear.ensures.arms)
