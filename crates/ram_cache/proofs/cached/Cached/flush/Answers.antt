use Rattle.std.proofs.Common.{refl, sym, ap, ◌∙◌}
use Rattle.model_sectors.specs.Discs.{Standing}
use Rattle.ram_cache.specs.Rooms.{pending_of}
use Rattle.ram_cache.specs.Flushes.{left_at}
use Rattle.ram_cache.proofs.OneFlush.{good_stays, flush_rule, flush_step, left_default, left_stopped}
use Rattle.ram_cache.proofs.Indices.{inside_at}
use Rattle.ram_cache.proofs.cached.Cached.flush.Goals as goal

pub returns-in-Good-clause-step : goal.returns-in-Good-clause-step
returns-in-Good-clause-step g c =
    let p = pending_of c.args.self.now.pending in
    let laws = g.met.D.Sectors.laws in
    let same : (t : Standing) → g.D.Sectors.stands c.write-out.new.self t → g.D.Sectors.stands c.exchange_room.new.disc t = λ t so. (laws.as_shown c.exchange_room.new.disc t).1 (rw c.exchange_room.ensures.same ((laws.as_shown c.write-out.new.self t).0 so)) in
    λ s so. good_stays (g.D.Sectors.stands c.write-out.new.self) (g.D.Sectors.stands c.exchange_room.new.disc) (pending_of c.exchange_room.new.self) c.write-out.result
    same c.in-Good.is s
    (flush_step (g.D.Sectors.shows c.args.self.now.disc) (g.D.Sectors.shows c.write-out.new.self) (g.D.Sectors.stands c.args.self.now.disc) (g.D.Sectors.stands c.write-out.new.self)
    p c.args.k c.bytes.result.now (λ t so. (g.met.D.Sectors.laws.as_shown c.args.self.now.disc t).0 so) c.requires.can.on c.requires.there
    (inside_at p c.args.k c.requires.there c.requires.can.inside) c.args.self.now.pending.apart (c.bytes.ensures.same ∙ c.block.ensures) c.bytes.ensures.len
    c.number-number.result (pending_of c.exchange_room.new.self) c.write-out.result c.number-number.ensures
    (c.exchange_room.ensures.pending ∙ c.remove.ensures ∙ ap (λ o. left_at o c.args.k p) (sym c.in-Good.is)) c.write-out.ensures.cause c.write-out.ensures.step s so)

pub returns-in-Cut-clause-step : goal.returns-in-Cut-clause-step
returns-in-Cut-clause-step g c =
    let p = pending_of c.args.self.now.pending in
    flush_step (g.D.Sectors.shows c.args.self.now.disc) (g.D.Sectors.shows c.write-out.new.self) (g.D.Sectors.stands c.args.self.now.disc) (g.D.Sectors.stands c.write-out.new.self)
    p c.args.k c.bytes.result.now (λ t so. (g.met.D.Sectors.laws.as_shown c.args.self.now.disc t).0 so) c.requires.can.on c.requires.there
    (inside_at p c.args.k c.requires.there c.requires.can.inside) c.args.self.now.pending.apart (c.bytes.ensures.same ∙ c.block.ensures) c.bytes.ensures.len
    c.number-number.result (pending_of c.drop_all.new.self) c.write-out.result c.number-number.ensures
    (c.drop_all.ensures ∙ left_stopped c.write-out.result c.args.k p c.in-Cut.is) c.write-out.ensures.cause c.write-out.ensures.step

pub returns-in_default : goal.returns-in_default
returns-in_default g c =
    let p = pending_of c.args.self.now.pending in
    let left = left_default c.write-out.result c.args.k p c.in_default.not-Good c.in_default.not-Cut c.in_default.not-Fault in
    record {
      rule = (
        flush_rule (g.D.Sectors.shows c.args.self.now.disc) (g.D.Sectors.shows c.write-out.new.self) p c.args.k c.number-number.result c.write-out.result c.number-number.ensures
            (record { same_shape = c.write-out.ensures.same_shape; sound = g.met.D.Sectors.laws.sound c.write-out.new.self }) c.write-out.ensures.cause,
        c.put_behind.ensures ∙ left,
        refl,
      );
      step = flush_step (g.D.Sectors.shows c.args.self.now.disc) (g.D.Sectors.shows c.write-out.new.self) (g.D.Sectors.stands c.args.self.now.disc) (g.D.Sectors.stands c.write-out.new.self)
          p c.args.k c.bytes.result.now (λ t so. (g.met.D.Sectors.laws.as_shown c.args.self.now.disc t).0 so) c.requires.can.on c.requires.there
          (inside_at p c.args.k c.requires.there c.requires.can.inside) c.args.self.now.pending.apart (c.bytes.ensures.same ∙ c.block.ensures) c.bytes.ensures.len
          c.number-number.result (pending_of c.put_behind.new.self) c.write-out.result c.number-number.ensures (c.put_behind.ensures ∙ left) c.write-out.ensures.cause c.write-out.ensures.step;
      same_shape = c.write-out.ensures.same_shape;
      underwent = c.write-out.ensures.underwent;
    }

pub returns-in-Good-clause-rule : goal.returns-in-Good-clause-rule
returns-in-Good-clause-rule g c =
    let p = pending_of c.args.self.now.pending in (
      rw c.exchange_room.ensures.same (flush_rule (g.D.Sectors.shows c.args.self.now.disc) (g.D.Sectors.shows c.write-out.new.self) p c.args.k c.number-number.result c.write-out.result c.number-number.ensures
          (record { same_shape = c.write-out.ensures.same_shape; sound = g.met.D.Sectors.laws.sound c.write-out.new.self }) c.write-out.ensures.cause),
      c.exchange_room.ensures.pending ∙ c.remove.ensures ∙ ap (λ o. left_at o c.args.k p) (sym c.in-Good.is),
      refl,
    )

pub returns-in-Good-clause-same_shape : goal.returns-in-Good-clause-same_shape
returns-in-Good-clause-same_shape g c = rw c.exchange_room.ensures.same c.write-out.ensures.same_shape

pub returns-in-Good-clause-underwent : goal.returns-in-Good-clause-underwent
returns-in-Good-clause-underwent g c =
    g.met.D.Sectors.underwent_laws.adds_up c.args.self.now.disc c.write-out.new.self c.exchange_room.new.disc c.write-out.ensures.underwent c.exchange_room.ensures.underwent

pub returns-in-Cut-clause-rule : goal.returns-in-Cut-clause-rule
returns-in-Cut-clause-rule g c =
    let p = pending_of c.args.self.now.pending in (
      flush_rule (g.D.Sectors.shows c.args.self.now.disc) (g.D.Sectors.shows c.write-out.new.self) p c.args.k c.number-number.result c.write-out.result c.number-number.ensures
          (record { same_shape = c.write-out.ensures.same_shape; sound = g.met.D.Sectors.laws.sound c.write-out.new.self }) c.write-out.ensures.cause,
      c.drop_all.ensures ∙ left_stopped c.write-out.result c.args.k p c.in-Cut.is,
      refl,
    )
