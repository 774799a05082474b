use Rattle.ram_cache.specs.Rooms.{pending_of}
use Rattle.ram_cache.proofs.Entering.{ready, unformatted, stands_ready, stands_unformatted, not_false}
use Rattle.ram_cache.proofs.cached.Cached.enter.Goals as goal

pub returns-in-None-clause-rule : goal.returns-in-None-clause-rule
returns-in-None-clause-rule g c =
    unformatted (g.D.Sectors.shows c.args.self.now.disc) (pending_of c.args.self.now.pending) (pending_of c.drop_all.new.self) c.args.self.now.on
    (c.counts.ensures.powered.0 (not_false c.counts.result.powered c.if-not-counts.false)) c.in-None.ensures.rule c.drop_all.ensures

pub returns-in-None-clause-step : goal.returns-in-None-clause-step
returns-in-None-clause-step g c =
    stands_unformatted (g.D.Sectors.shows c.args.self.now.disc) (pending_of c.args.self.now.pending) (pending_of c.drop_all.new.self) (g.D.Sectors.stands c.args.self.now.disc)
    (λ t so. (g.met.D.Sectors.laws.as_shown c.args.self.now.disc t).0 so)
    (c.counts.ensures.powered.0 (not_false c.counts.result.powered c.if-not-counts.false)) c.in-None.ensures.rule c.drop_all.ensures

pub returns-in-Some-clause-rule : goal.returns-in-Some-clause-rule
returns-in-Some-clause-rule g c =
    ready (g.D.Sectors.shows c.args.self.now.disc) (pending_of c.args.self.now.pending) (pending_of c.keep_below.new.self) c.args.self.now.on c.in-Some.sectors c.in-Some.ensures.rule c.keep_below.ensures

pub returns-in-Some-clause-step : goal.returns-in-Some-clause-step
returns-in-Some-clause-step g c =
    stands_ready (g.D.Sectors.shows c.args.self.now.disc) (pending_of c.args.self.now.pending) (pending_of c.keep_below.new.self) (g.D.Sectors.stands c.args.self.now.disc)
    (λ t so. (g.met.D.Sectors.laws.as_shown c.args.self.now.disc t).0 so) c.in-Some.sectors c.in-Some.ensures.rule c.keep_below.ensures
