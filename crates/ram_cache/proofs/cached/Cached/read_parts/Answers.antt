use Rattle.std.proofs.Common.{◌∙◌, arith}
use Rattle.ram_cache.specs.Caches.{shown_by, stands_by}
use Rattle.ram_cache.specs.Rooms.{pending_of}
use Rattle.ram_cache.proofs.ReadParts.{long_values, never_off, read_none, read_more, part_ends, part_stops, all_contents}
use Rattle.ram_cache.proofs.cached.Cached.read_parts.Goals as goal

pub loop-k-init : goal.loop-k-init
loop-k-init g c =
    let d = c.args.self.now.disc in
    record {
      far = read_none (shown_by g.D.Sectors c.args.self.now) c.args.request.lba c.args.request.n (stands_by g.D.Sectors c.args.self.now) c.requires.inside
          (long_values (g.D.Sectors.shows d) (g.D.Sectors.stands d) (pending_of c.args.self.now.pending) (λ t so. (g.met.D.Sectors.laws.as_shown d t).0 so))
          (never_off (g.D.Sectors.shows d) (g.D.Sectors.stands d) (pending_of c.args.self.now.pending) (λ t so. (g.met.D.Sectors.laws.as_shown d t).0 so) c.requires.inside.on)
          c.args.into.now c.requires.whole;
      underwent = g.met.D.Sectors.underwent_laws.none d;
    }

pub returns-in_default : goal.returns-in_default
returns-in_default g c =
    let d = c.args.self.now.disc in
    let p = pending_of c.args.self.now.pending in
    record {
      cause = part_ends (shown_by g.D.Sectors c.args.self.now) c.args.request.lba c.args.request.n (stands_by g.D.Sectors c.args.self.now) c.requires.inside
          (long_values (g.D.Sectors.shows d) (g.D.Sectors.stands d) p (λ t so. (g.met.D.Sectors.laws.as_shown d t).0 so))
          (never_off (g.D.Sectors.shows d) (g.D.Sectors.stands d) p (λ t so. (g.met.D.Sectors.laws.as_shown d t).0 so) c.requires.inside.on)
          (shown_by g.D.Sectors c.loop-k.self) (shown_by g.D.Sectors c.read_part.new.self) c.loop-k.k (omega (arith, c.blocks-k-end.ensures, c.loop-k-test.true)) c.loop-k.into c.read_part.new.into
          (stands_by g.D.Sectors c.loop-k.self) (stands_by g.D.Sectors c.read_part.new.self) c.loop-k.invariant.far c.read_part.result c.read_part.ensures.cause c.in_default.not-Good;
      step = part_stops (shown_by g.D.Sectors c.args.self.now) c.args.request.lba c.args.request.n (stands_by g.D.Sectors c.args.self.now) c.requires.inside
          (long_values (g.D.Sectors.shows d) (g.D.Sectors.stands d) p (λ t so. (g.met.D.Sectors.laws.as_shown d t).0 so))
          (never_off (g.D.Sectors.shows d) (g.D.Sectors.stands d) p (λ t so. (g.met.D.Sectors.laws.as_shown d t).0 so) c.requires.inside.on)
          (shown_by g.D.Sectors c.loop-k.self) (shown_by g.D.Sectors c.read_part.new.self) c.loop-k.k (omega (arith, c.blocks-k-end.ensures, c.loop-k-test.true)) c.loop-k.into c.read_part.new.into
          (stands_by g.D.Sectors c.loop-k.self) (stands_by g.D.Sectors c.read_part.new.self) c.loop-k.invariant.far c.read_part.result c.in_default.not-Good c.read_part.ensures.step;
      same_shape = c.read_part.ensures.same_shape ∙ c.loop-k.invariant.far.same_shape;
      underwent = g.met.D.Sectors.underwent_laws.adds_up c.args.self.now.disc c.loop-k.self.disc c.read_part.new.self.disc c.loop-k.invariant.underwent c.read_part.ensures.underwent;
    }

pub loop-k-preserved : goal.loop-k-preserved
loop-k-preserved g c =
    let d = c.args.self.now.disc in
    let p = pending_of c.args.self.now.pending in
    record {
      far = read_more (shown_by g.D.Sectors c.args.self.now) c.args.request.lba c.args.request.n (stands_by g.D.Sectors c.args.self.now) c.requires.inside
          (long_values (g.D.Sectors.shows d) (g.D.Sectors.stands d) p (λ t so. (g.met.D.Sectors.laws.as_shown d t).0 so))
          (never_off (g.D.Sectors.shows d) (g.D.Sectors.stands d) p (λ t so. (g.met.D.Sectors.laws.as_shown d t).0 so) c.requires.inside.on)
          (shown_by g.D.Sectors c.loop-k.self) (shown_by g.D.Sectors c.read_part.new.self) c.loop-k.k (omega (arith, c.blocks-k-end.ensures, c.loop-k-test.true)) c.loop-k.into c.read_part.new.into
          (stands_by g.D.Sectors c.loop-k.self) (stands_by g.D.Sectors c.read_part.new.self) c.loop-k.invariant.far c.in-Good.ensures.cause c.read_part.ensures.same_shape c.read_part.auto.into
          c.in-Good.ensures.step;
      underwent = g.met.D.Sectors.underwent_laws.adds_up c.args.self.now.disc c.loop-k.self.disc c.read_part.new.self.disc c.loop-k.invariant.underwent c.read_part.ensures.underwent;
    }

pub returns-clause-step : goal.returns-clause-step
returns-clause-step g c =
    let d = c.args.self.now.disc in
    let p = pending_of c.args.self.now.pending in
    all_contents (shown_by g.D.Sectors c.args.self.now) c.args.request.lba c.args.request.n (stands_by g.D.Sectors c.args.self.now) c.requires.inside
    (long_values (g.D.Sectors.shows d) (g.D.Sectors.stands d) p (λ t so. (g.met.D.Sectors.laws.as_shown d t).0 so))
    (never_off (g.D.Sectors.shows d) (g.D.Sectors.stands d) p (λ t so. (g.met.D.Sectors.laws.as_shown d t).0 so) c.requires.inside.on)
    (shown_by g.D.Sectors c.loop-k.self) c.loop-k.k c.loop-k.into (stands_by g.D.Sectors c.loop-k.self) c.loop-k.invariant.far (omega (arith, c.blocks-k-end.ensures, c.loop-k-test.false, c.loop-k.auto.k-end))
