use Rattle.std.proofs.Common.{◌≡◌, ◌∙◌, sym}
use Rattle.model_medium.specs.declared.ReadEnd.TheVariants as reads
use Rattle.ram_medium.specs.ReadInto.{bytes_read}
use Rattle.ram_image.specs.Medium.{machine_in}
use Rattle.ram_image.proofs.Events.{event_left}
use Rattle.ram_image.proofs.medium.ImageMedium.read_block.Goals as goal

pub returns-in-Unreadable : goal.returns-in-Unreadable
returns-in-Unreadable g c = record {
  lawful = c.read_bytes-end.ensures.event.lawful;
  exactly = event_left (machine_in c.args.self.now) (machine_in c.read_bytes-end.new.self) c.args.block (bytes_read c.read_bytes-end.result c.read_bytes-end.new.into) c.args.into.now c.swap-in-Unreadable.new.y
      c.read_bytes-end.result (λ e. let both : reads.Unreadable ≡ reads.Done = sym c.in-Unreadable.is ∙ e in cc) (c.swap-in-Unreadable.ensures.y_after ∙ c.read_bytes-end.ensures.same_room ∙ c.swap.ensures.x_after) c.read_bytes-end.ensures.event.exactly;
  same_shape = c.read_bytes-end.ensures.event.same_shape;
  bytes = c.read_bytes-end.ensures.event.bytes;
  past = c.read_bytes-end.ensures.event.past;
}

pub returns-in-Cut : goal.returns-in-Cut
returns-in-Cut g c = record {
  lawful = c.read_bytes-end.ensures.event.lawful;
  exactly = event_left (machine_in c.args.self.now) (machine_in c.read_bytes-end.new.self) c.args.block (bytes_read c.read_bytes-end.result c.read_bytes-end.new.into) c.args.into.now c.swap-in-Cut.new.y
      c.read_bytes-end.result (λ e. let both : reads.Cut ≡ reads.Done = sym c.in-Cut.is ∙ e in cc) (c.swap-in-Cut.ensures.y_after ∙ c.read_bytes-end.ensures.same_room ∙ c.swap.ensures.x_after) c.read_bytes-end.ensures.event.exactly;
  same_shape = c.read_bytes-end.ensures.event.same_shape;
  bytes = c.read_bytes-end.ensures.event.bytes;
  past = c.read_bytes-end.ensures.event.past;
}

pub returns-in-Off : goal.returns-in-Off
returns-in-Off g c = record {
  lawful = c.read_bytes-end.ensures.event.lawful;
  exactly = event_left (machine_in c.args.self.now) (machine_in c.read_bytes-end.new.self) c.args.block (bytes_read c.read_bytes-end.result c.read_bytes-end.new.into) c.args.into.now c.swap-in-Off.new.y
      c.read_bytes-end.result (λ e. let both : reads.Off ≡ reads.Done = sym c.in-Off.is ∙ e in cc) (c.swap-in-Off.ensures.y_after ∙ c.read_bytes-end.ensures.same_room ∙ c.swap.ensures.x_after) c.read_bytes-end.ensures.event.exactly;
  same_shape = c.read_bytes-end.ensures.event.same_shape;
  bytes = c.read_bytes-end.ensures.event.bytes;
  past = c.read_bytes-end.ensures.event.past;
}

pub returns-in-Failed : goal.returns-in-Failed
returns-in-Failed g c = record {
  lawful = c.read_bytes-end.ensures.event.lawful;
  exactly = event_left (machine_in c.args.self.now) (machine_in c.read_bytes-end.new.self) c.args.block (bytes_read c.read_bytes-end.result c.read_bytes-end.new.into) c.args.into.now c.swap-in-Failed.new.y
      c.read_bytes-end.result (λ e. let both : reads.Failed ≡ reads.Done = sym c.in-Failed.is ∙ e in cc) (c.swap-in-Failed.ensures.y_after ∙ c.read_bytes-end.ensures.same_room ∙ c.swap.ensures.x_after) c.read_bytes-end.ensures.event.exactly;
  same_shape = c.read_bytes-end.ensures.event.same_shape;
  bytes = c.read_bytes-end.ensures.event.bytes;
  past = c.read_bytes-end.ensures.event.past;
}
