use Rattle.model_medium.proofs.Rules.{read_continues}
use Rattle.ram_medium.specs.Memory.{mem_machine, MemTakes}
use Rattle.model_medium.proofs.Happening.{read_by}
use Rattle.ram_medium.proofs.memory.MemMediumMedium.read_into.Goals as goal

pub returns-clause-continues : goal.returns-clause-continues
returns-clause-continues c =
    read_by MemTakes mem_machine c.args.self.now c.read_bytes.new.self _ c.read_bytes.ensures.event c.read_bytes.result
    (read_continues (mem_machine c.args.self.now) (mem_machine c.read_bytes.new.self) c.args.block c.args.into.now c.read_bytes.new.into c.read_bytes.result c.args.self.now.armed.to_come c.read_bytes.ensures.event.exactly)
