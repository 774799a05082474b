use Rattle.model_medium.proofs.Rules.{read_rule, read_continues}
use Rattle.ram_medium.specs.Memory.{mem_machine, MemTakes}
use Rattle.model_medium.proofs.Happening.{read_by}
use Rattle.ram_medium.proofs.memory.MemMediumMedium.read.Goals as goal

pub returns-clause-rule : goal.returns-clause-rule
returns-clause-rule c =
    read_rule (mem_machine c.args.self.now) (mem_machine c.read_block.new.self) c.args.block c.args.into.now c.read_block.new.into c.read_block.result tt c.read_block.ensures.event.exactly

pub returns-clause-continues : goal.returns-clause-continues
returns-clause-continues c =
    read_by MemTakes mem_machine c.args.self.now c.read_block.new.self _ c.read_block.ensures.event c.read_block.result
    (read_continues (mem_machine c.args.self.now) (mem_machine c.read_block.new.self) c.args.block c.args.into.now c.read_block.new.into c.read_block.result c.args.self.now.armed.to_come c.read_block.ensures.event.exactly)
