use Rattle.std.proofs.Common.{refl}
use Rattle.model_mirror.proofs.Watching.{tracks_none}
use Rattle.model_drive.specs.Faults.{faults}
use Rattle.ram_pair.proofs.SideCalls.{armed_a, armed_b, tracks_armed}
use Rattle.ram_pair.proofs.calling.cut.Goals as goal

pub returns-then-on_a : goal.returns-then-on_a
returns-then-on_a g c =
    let mirror = c.args.mirror.now in
    let armed = c.arm_cut in
    rw c.if-on_a.true (record {
      rule = armed_a g.S.Sectors g.met.S.Sectors.laws mirror.a armed.new.self mirror.b mirror.following c.args.n c.args.fate armed.ensures.rule armed.ensures.keeps armed.ensures.stands mirror.lead_is_a;
      images = record { a = armed.ensures.bytes; b = refl };
      tracks = record {
        a = tracks_armed g.S.Sectors g.met.S.Sectors.laws mirror.a armed.new.self mirror.b mirror.following c.args.n c.args.fate armed.ensures.rule armed.ensures.keeps armed.ensures.stands (g.S.Side.has_failed mirror.a) (g.S.Side.has_failed armed.new.self) armed.ensures.failed;
        b = tracks_none (faults (g.S.Sectors.shows mirror.b)) (g.S.Side.has_failed mirror.b);
      };
      lost = λ lost. absurd lost;
      shapes = record { a = armed.ensures.keeps.same_shape; b = refl };
    })

pub returns-else-on_a : goal.returns-else-on_a
returns-else-on_a g c =
    let mirror = c.args.mirror.now in
    let armed = c.arm_cut-else-on_a in
    rw c.if-on_a.false (record {
      rule = armed_b g.S.Sectors g.met.S.Sectors.laws mirror.b armed.new.self mirror.a mirror.following c.args.n c.args.fate armed.ensures.rule armed.ensures.keeps armed.ensures.stands mirror.lead_is_a;
      images = record { a = refl; b = armed.ensures.bytes };
      tracks = record {
        a = tracks_none (faults (g.S.Sectors.shows mirror.a)) (g.S.Side.has_failed mirror.a);
        b = tracks_armed g.S.Sectors g.met.S.Sectors.laws mirror.b armed.new.self mirror.a mirror.following c.args.n c.args.fate armed.ensures.rule armed.ensures.keeps armed.ensures.stands (g.S.Side.has_failed mirror.b) (g.S.Side.has_failed armed.new.self) armed.ensures.failed;
      };
      lost = λ lost. absurd lost;
      shapes = record { a = refl; b = armed.ensures.keeps.same_shape };
    })
