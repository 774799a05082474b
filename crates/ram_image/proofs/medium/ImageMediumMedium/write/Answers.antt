use Rattle.model_medium.proofs.Happening.{write_by}
use Rattle.model_medium.proofs.Rules.{write_rule, write_continues}
use Rattle.ram_image.specs.Medium.{machine_in, ImageTakes}
use Rattle.ram_image.proofs.medium.ImageMediumMedium.write.Goals as goal

pub returns-clause-rule : goal.returns-clause-rule
returns-clause-rule g c = write_rule (machine_in c.args.self.now) (machine_in c.write_bytes.new.self) c.args.block c.args.from.now c.write_bytes.result (rw c.bytes.ensures.same at c.write_bytes.ensures.exactly)

pub returns-clause-continues : goal.returns-clause-continues
returns-clause-continues g c =
    write_by ImageTakes machine_in c.args.self.now c.write_bytes.new.self _ c.write_bytes.ensures c.write_bytes.result
    (write_continues (machine_in c.args.self.now) (machine_in c.write_bytes.new.self) c.args.block c.args.from.now c.write_bytes.result c.args.self.now.armed.value.to_come (rw c.bytes.ensures.same at c.write_bytes.ensures.exactly))
