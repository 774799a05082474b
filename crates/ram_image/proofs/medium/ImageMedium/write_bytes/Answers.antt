use Rattle.std.proofs.Common.{◌≡◌, ◌∙◌, subst, rules}
use Rattle.model_geometry.specs.Geometry.{Shape, total}
use Rattle.model_medium.specs.declared.Fate.TheVariants as fates
use Rattle.model_bytes.specs.Known.{WhereKnown}
use Rattle.model_image.specs.Writes.{bytes_left, StopsInBytes}
use Rattle.ram_image.specs.Medium.{machine_in, bytes_in, past_in}
use Rattle.ram_image.specs.Moments.{PassesOnly}
use Rattle.ram_image.specs.Begun.{WriteCutBytes}
use Rattle.ram_image.proofs.Events.{event_cut_write, failed_write}
use Rattle.ram_image.proofs.EventSteps.{cut_bytes, left_then, stops_then, begun_bytes, begun_past, write_past}
use Rattle.ram_image.proofs.medium.ImageMedium.write_bytes.Goals as goal

pub returns-in-Cut : goal.returns-in-Cut
returns-in-Cut g c = record {
  lawful = (c.requires.inside, c.requires.whole);
  exactly = event_cut_write (machine_in c.args.self.now) (machine_in c.begin.new.self) (machine_in c.write_cut.new.self) c.args.block c.if-not-self.false c.in-Cut.ensures.rule.1 c.args.from.now c.in-Cut.fate
      c.in-Cut.ensures.rule.0 c.write_cut.result c.write_cut.ensures.rule;
  same_shape = c.write_cut.ensures.same_shape ∙ c.in-Cut.ensures.same_shape;
  bytes = cut_bytes _ c.args.block _ _ _ c.in-Cut.ensures.bytes (total c.args.self.now.geometry) c.args.from.now _ c.in-Cut.fate c.in-Cut.ensures.rule.0 (machine_in c.begin.new.self)
      (machine_in c.write_cut.new.self) c.write_cut.result c.write_cut.ensures.rule
      (subst (λ (s : Shape). WriteCutBytes (total s) c.args.block c.args.from.now c.in-Cut.fate (bytes_in c.begin.new.self) (bytes_in c.write_cut.new.self) c.write_cut.result) c.in-Cut.ensures.same_shape
      c.write_cut.ensures.bytes);
  past = write_past _ c.args.block _ _ c.in-Cut.ensures.bytes (past_in c.args.self.now) (past_in c.begin.new.self) (past_in c.write_cut.new.self) c.in-Cut.ensures.past (total c.args.self.now.geometry) c.args.from.now
      (subst (λ (s : Shape). PassesOnly (StopsInBytes (total s) c.args.block c.args.from.now) (bytes_in c.begin.new.self) (past_in c.begin.new.self) (past_in c.write_cut.new.self)) c.in-Cut.ensures.same_shape c.write_cut.ensures.past);
}

pub returns-in-Failed-leave : goal.returns-in-Failed-leave
returns-in-Failed-leave g c = record {
  lawful = (c.requires.inside, c.requires.whole);
  exactly = failed_write (machine_in c.args.self.now) (machine_in c.begin.new.self) (machine_in c.leave.new.self) c.args.block c.if-not-self.false c.in-On.ensures.rule.1 c.args.from.now
      c.in-Failed-leave.ensures.rule;
  same_shape = c.in-Failed-leave.ensures.same_shape ∙ c.in-On.ensures.same_shape;
  bytes = stops_then _ c.args.block _ _ _ c.in-On.ensures.bytes (total c.args.self.now.geometry) c.args.from.now (subst (λ (s : Shape). WhereKnown (bytes_in c.begin.new.self) (bytes_in c.leave.new.self) (StopsInBytes (total s) c.args.block c.args.from.now)) c.in-On.ensures.same_shape
      c.in-Failed-leave.ensures.bytes);
  past = write_past _ c.args.block _ _ c.in-On.ensures.bytes (past_in c.args.self.now) (past_in c.begin.new.self) (past_in c.leave.new.self) c.in-On.ensures.past (total c.args.self.now.geometry) c.args.from.now
      (subst (λ (s : Shape). PassesOnly (StopsInBytes (total s) c.args.block c.args.from.now) (bytes_in c.begin.new.self) (past_in c.begin.new.self) (past_in c.leave.new.self)) c.in-On.ensures.same_shape c.in-Failed-leave.ensures.past);
}

pub returns-in-Failed : goal.returns-in-Failed
returns-in-Failed g c = record {
  lawful = (c.requires.inside, c.requires.whole);
  exactly = search rules;
  same_shape = c.in-Failed.ensures.same_shape;
  bytes = begun_bytes _ c.args.block (bytes_in c.args.self.now) (bytes_in c.begin.new.self) c.in-Failed.ensures.bytes (total c.args.self.now.geometry) c.args.from.now;
  past = begun_past _ c.args.block (bytes_in c.args.self.now) (past_in c.args.self.now) (past_in c.begin.new.self) c.in-Failed.ensures.past (total c.args.self.now.geometry) c.args.from.now;
}

pub returns-in-Done : goal.returns-in-Done
returns-in-Done g c = record {
  lawful = (c.requires.inside, c.requires.whole);
  exactly = search rules;
  same_shape = c.in-Done.ensures.same_shape ∙ c.in-On.ensures.same_shape;
  bytes = left_then _ c.args.block _ _ _ c.in-On.ensures.bytes (total c.args.self.now.geometry) c.args.from.now fates.New
      (subst (λ (s : Shape). WhereKnown (bytes_in c.begin.new.self) (bytes_in c.leave.new.self) (λ held held'. held' ≡ bytes_left fates.New (total s) c.args.block c.args.from.now held)) c.in-On.ensures.same_shape c.in-Done.ensures.bytes);
  past = write_past _ c.args.block _ _ c.in-On.ensures.bytes (past_in c.args.self.now) (past_in c.begin.new.self) (past_in c.leave.new.self) c.in-On.ensures.past (total c.args.self.now.geometry) c.args.from.now
      (subst (λ (s : Shape). PassesOnly (StopsInBytes (total s) c.args.block c.args.from.now) (bytes_in c.begin.new.self) (past_in c.begin.new.self) (past_in c.leave.new.self)) c.in-On.ensures.same_shape c.in-Done.ensures.past);
}
