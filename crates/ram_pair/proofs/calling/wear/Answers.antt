use Rattle.std.proofs.Common.{refl}
use Rattle.model_mirror.proofs.Watching.{tracks_none}
use Rattle.model_drive.specs.Faults.{faults}
use Rattle.ram_pair.proofs.SideCalls.{worn_a, worn_b, tracks_wear}
use Rattle.ram_pair.proofs.calling.wear.Goals as goal

pub returns-then-on_a : goal.returns-then-on_a
returns-then-on_a g c =
    let mirror = c.args.mirror.now in
    rw (c.if-on_a.true, c.wear_told.ensures) (record {
      rule = worn_a g.S.Sectors g.met.S.Sectors.laws mirror.a c.wear.new.self mirror.b mirror.following c.args.block c.args.n c.wear.result c.wear.ensures.rule c.wear.ensures.keeps c.wear.ensures.stands mirror.lead_is_a;
      images = record { a = c.wear.ensures.bytes; b = refl };
      tracks = record { a = tracks_wear g.S.Sectors g.met.S.Sectors.laws mirror.a c.wear.new.self c.args.block c.args.n c.wear.result (g.S.Side.has_failed mirror.a) (g.S.Side.has_failed c.wear.new.self) c.wear.ensures.rule c.wear.ensures.failed; b = tracks_none (faults (g.S.Sectors.shows mirror.b)) (g.S.Side.has_failed mirror.b) };
      lost = λ lost. absurd lost;
      shapes = record { a = c.wear.ensures.keeps.same_shape; b = refl };
    })

pub returns-else-on_a : goal.returns-else-on_a
returns-else-on_a g c =
    let mirror = c.args.mirror.now in
    let wear = c.wear-else-on_a in
    rw (c.if-on_a.false, c.wear_told-else-on_a.ensures) (record {
      rule = worn_b g.S.Sectors g.met.S.Sectors.laws mirror.b wear.new.self mirror.a mirror.following c.args.block c.args.n wear.result wear.ensures.rule wear.ensures.keeps wear.ensures.stands mirror.lead_is_a;
      images = record { a = refl; b = wear.ensures.bytes };
      tracks = record { a = tracks_none (faults (g.S.Sectors.shows mirror.a)) (g.S.Side.has_failed mirror.a); b = tracks_wear g.S.Sectors g.met.S.Sectors.laws mirror.b wear.new.self c.args.block c.args.n wear.result (g.S.Side.has_failed mirror.b) (g.S.Side.has_failed wear.new.self) wear.ensures.rule wear.ensures.failed };
      lost = λ lost. absurd lost;
      shapes = record { a = refl; b = wear.ensures.keeps.same_shape };
    })
