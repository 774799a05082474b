use Rattle.std.specs.Prelude.{[]}
use Rattle.std.proofs.Common.{◌∙◌}
use Rattle.ram_medium.specs.ReadInto.{bytes_read}
use Rattle.ram_image.specs.Medium.{machine_in, past_in}
use Rattle.ram_image.proofs.Events.{event_read}
use Rattle.ram_image.proofs.EventSteps.{read_bytes, read_past}
use Rattle.ram_image.proofs.medium.ImageMedium.read_bytes.Goals as goal

pub returns-in-On-clause-event : goal.returns-in-On-clause-event
returns-in-On-clause-event g c = record {
  lawful = c.requires.inside;
  exactly = event_read (machine_in c.args.self.now) (machine_in c.begin.new.self) (machine_in c.read_on.new.self) c.args.block c.if-not-self.false c.in-On.ensures.rule.1 c.in-On.ensures.rule.0 []
      (bytes_read c.read_on.result c.read_on.new.into) c.read_on.result c.read_on.ensures.rule;
  same_shape = c.read_on.ensures.same_shape ∙ c.in-On.ensures.same_shape;
  bytes = read_bytes _ c.args.block _ _ _ c.in-On.ensures.bytes (machine_in c.begin.new.self) (machine_in c.read_on.new.self) [] (bytes_read c.read_on.result c.read_on.new.into) c.read_on.result
      c.read_on.ensures.rule c.read_on.ensures.bytes;
  past = read_past _ c.args.block _ _ c.in-On.ensures.bytes (past_in c.args.self.now) (past_in c.begin.new.self) (past_in c.read_on.new.self) c.in-On.ensures.past c.read_on.ensures.past;
}
