use Rattle.model_medium.proofs.Rules.{write_rule, write_continues}
use Rattle.ram_medium.specs.Memory.{mem_machine, MemTakes}
use Rattle.model_medium.proofs.Happening.{write_by}
use Rattle.ram_medium.proofs.memory.MemMediumMedium.write_from.Goals as goal

pub returns-clause-rule : goal.returns-clause-rule
returns-clause-rule c = write_rule (mem_machine c.args.self.now) (mem_machine c.write_bytes.new.self) c.args.block c.args.from.now c.write_bytes.result c.write_bytes.ensures.event.exactly

pub returns-clause-continues : goal.returns-clause-continues
returns-clause-continues c =
    write_by MemTakes mem_machine c.args.self.now c.write_bytes.new.self _ c.write_bytes.ensures.event c.write_bytes.result
    (write_continues (mem_machine c.args.self.now) (mem_machine c.write_bytes.new.self) c.args.block c.args.from.now c.write_bytes.result c.args.self.now.armed.to_come c.write_bytes.ensures.event.exactly)
