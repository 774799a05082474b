use Rattle.std.proofs.Common.{refl, inl, inr, true, false}
use Rattle.model_mirror.proofs.Watching.{tracks_none}
use Rattle.model_drive.specs.Faults.{faults}
use Rattle.ram_pair.proofs.SideCalls.{failed_a, failed_b, shape_after_fail, lost_failed}
use Rattle.ram_pair.proofs.calling.fail.Goals as goal

pub returns-then-on_a : goal.returns-then-on_a
returns-then-on_a g c =
    let mirror = c.args.mirror.now in
    rw (c.if-on_a.true, c.fail_told.ensures) (record {
      rule = failed_a g.S.Sectors g.met.S.Sectors.laws mirror.a c.fail.new.self mirror.b mirror.following c.args.block c.fail.result c.fail.ensures.rule c.fail.ensures.stands mirror.lead_is_a;
      images = (c.fail.result, refl, (c.fail.ensures.bytes, refl));
      tracks = record { a = c.fail.ensures.failed; b = tracks_none (faults (g.S.Sectors.shows mirror.b)) (g.S.Side.has_failed mirror.b) };
      lost = λ lost. inl (c.fail.ensures.lost (lost_failed true c.args.block c.fail.result lost));
      shapes = record { a = shape_after_fail g.S.Sectors g.met.S.Sectors.laws mirror.a c.fail.new.self c.args.block c.fail.result c.fail.ensures.rule; b = refl };
    })

pub returns-else-on_a : goal.returns-else-on_a
returns-else-on_a g c =
    let mirror = c.args.mirror.now in
    let fail = c.fail-else-on_a in
    rw (c.if-on_a.false, c.fail_told-else-on_a.ensures) (record {
      rule = failed_b g.S.Sectors g.met.S.Sectors.laws mirror.b fail.new.self mirror.a mirror.following c.args.block fail.result fail.ensures.rule fail.ensures.stands mirror.lead_is_a;
      images = (fail.result, refl, (fail.ensures.bytes, refl));
      tracks = record { a = tracks_none (faults (g.S.Sectors.shows mirror.a)) (g.S.Side.has_failed mirror.a); b = fail.ensures.failed };
      lost = λ lost. inr (fail.ensures.lost (lost_failed false c.args.block fail.result lost));
      shapes = record { a = refl; b = shape_after_fail g.S.Sectors g.met.S.Sectors.laws mirror.b fail.new.self c.args.block fail.result fail.ensures.rule };
    })
