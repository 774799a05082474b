use Rattle.std.proofs.Common.{ℕ, subst, sym, ◌∙◌, arith, refl}
use Rattle.model_sectors.specs.Discs.{Off}
use Rattle.model_drive.specs.declared.WriteOut.{WriteOut}
use Rattle.model_drive.specs.declared.WriteOut.TheVariants as writes
use Rattle.ram_cache.specs.Caches.{shown_by, stands_by}
use Rattle.ram_cache.specs.Flushes.{DrainsDue, FlushContents}
use Rattle.ram_cache.proofs.DrainedSoFar.{DrainedSoFar}
use Rattle.ram_cache.proofs.Due.{drained_none, some_first, drained_enough, drained_all, turn_left, turn_refused, turn_stopped, drain_shows}
use Rattle.ram_cache.proofs.cached.Cached.drain.Goals.{in-Good, in_default-flush}
use Rattle.ram_cache.proofs.cached.Cached.drain.Goals as goal

pub loop-turn-init : goal.loop-turn-init
loop-turn-init g c = record {
  far = drained_none (shown_by g.D.Sectors c.args.self.now) c.args.among c.args.first c.args.count (stands_by g.D.Sectors c.args.self.now) c.args.enough c.requires.can;
  underwent = g.met.D.Sectors.underwent_laws.none c.args.self.now.disc;
}

pub returns-then-missing-eq0-clause-rule : goal.returns-then-missing-eq0-clause-rule
returns-then-missing-eq0-clause-rule g c =
    drained_enough (shown_by g.D.Sectors c.args.self.now) c.args.among c.args.first c.args.count (stands_by g.D.Sectors c.args.self.now) c.args.enough c.loop-turn.told
    (shown_by g.D.Sectors c.loop-turn.self) (stands_by g.D.Sectors c.loop-turn.self) c.loop-turn._turn
    (subst (λ (m : ℕ). DrainedSoFar (shown_by g.D.Sectors c.args.self.now) (shown_by g.D.Sectors c.loop-turn.self) c.args.among c.args.first c.args.count c.loop-turn._turn c.args.enough m c.loop-turn.told
    (stands_by g.D.Sectors c.args.self.now) (stands_by g.D.Sectors c.loop-turn.self)) c.if-missing-eq0.true c.loop-turn.invariant.far)

pub unreachable-requires : goal.unreachable-requires
unreachable-requires g c =
    some_first (shown_by g.D.Sectors c.args.self.now) c.args.among c.args.first c.args.count (stands_by g.D.Sectors c.args.self.now) c.args.enough c.loop-turn.missing c.loop-turn.told
    (shown_by g.D.Sectors c.loop-turn.self) (stands_by g.D.Sectors c.loop-turn.self) c.loop-turn._turn c.loop-turn.invariant.far
    (omega (arith, c.loop-turn-test.true, c.count_of-turn-end.ensures)) c.in_default.ensures

pub returns-in-Cut-clause-rule : goal.returns-in-Cut-clause-rule
returns-in-Cut-clause-rule g c =
    turn_stopped (shown_by g.D.Sectors c.args.self.now) c.args.among c.args.first c.args.count (stands_by g.D.Sectors c.args.self.now) c.args.enough c.loop-turn.missing c.loop-turn.told
    (shown_by g.D.Sectors c.loop-turn.self) (shown_by g.D.Sectors c.flush.new.self) (stands_by g.D.Sectors c.loop-turn.self) c.loop-turn._turn c.in-Some.k c.loop-turn.invariant.far
    (omega (arith, c.if-missing-eq0.false)) (omega (arith, c.loop-turn-test.true, c.count_of-turn-end.ensures)) c.in-Some.ensures writes.Cut c.in-Cut.ensures.rule refl

pub returns-in-Fault-clause-rule : goal.returns-in-Fault-clause-rule
returns-in-Fault-clause-rule g c =
    turn_stopped (shown_by g.D.Sectors c.args.self.now) c.args.among c.args.first c.args.count (stands_by g.D.Sectors c.args.self.now) c.args.enough c.loop-turn.missing c.loop-turn.told
    (shown_by g.D.Sectors c.loop-turn.self) (shown_by g.D.Sectors c.flush.new.self) (stands_by g.D.Sectors c.loop-turn.self) c.loop-turn._turn c.in-Some.k c.loop-turn.invariant.far
    (omega (arith, c.if-missing-eq0.false)) (omega (arith, c.loop-turn-test.true, c.count_of-turn-end.ensures)) c.in-Some.ensures writes.Fault c.in-Fault.ensures.rule refl

pub loop-turn-preserved : goal.loop-turn-preserved
loop-turn-preserved g c = record {
  far = elim c.match-flush.branch [
    | in-Good w ↦ turn_left (shown_by g.D.Sectors c.args.self.now) c.args.among c.args.first c.args.count (stands_by g.D.Sectors c.args.self.now) c.args.enough c.loop-turn.missing c.match-flush.missing
        c.loop-turn.told c.match-flush.told (shown_by g.D.Sectors c.loop-turn.self) (shown_by g.D.Sectors c.flush.new.self) (stands_by g.D.Sectors c.loop-turn.self) (stands_by g.D.Sectors c.flush.new.self)
        c.loop-turn._turn c.in-Some.k c.loop-turn.invariant.far (omega (arith, c.if-missing-eq0.false)) w.missing-is w.told-is
        (omega (arith, c.loop-turn-test.true, c.count_of-turn-end.ensures)) c.in-Some.ensures c.loop-turn.self.pending.apart w.in-Good.ensures.rule c.flush.ensures.same_shape w.in-Good.ensures.step
    | in_default-flush w ↦ turn_refused (shown_by g.D.Sectors c.args.self.now) c.args.among c.args.first c.args.count (stands_by g.D.Sectors c.args.self.now) c.args.enough c.loop-turn.missing c.match-flush.missing
        c.loop-turn.told c.match-flush.told (shown_by g.D.Sectors c.loop-turn.self) (shown_by g.D.Sectors c.flush.new.self) (stands_by g.D.Sectors c.loop-turn.self) (stands_by g.D.Sectors c.flush.new.self)
        c.loop-turn._turn c.in-Some.k c.loop-turn.invariant.far (omega (arith, c.if-missing-eq0.false)) w.missing-is c.flush.result
        w.in_default-flush.not-Good w.in_default-flush.not-Cut w.in_default-flush.not-Fault
        (w.told-is ∙ w.first_told-told.ensures)
        (omega (arith, c.loop-turn-test.true, c.count_of-turn-end.ensures)) c.in-Some.ensures c.loop-turn.self.pending.apart c.flush.ensures.rule c.flush.ensures.same_shape c.flush.ensures.step
  ];
  underwent = g.met.D.Sectors.underwent_laws.adds_up c.args.self.now.disc c.loop-turn.self.disc c.flush.new.self.disc c.loop-turn.invariant.underwent c.flush.ensures.underwent;
}

pub returns-clause-rule : goal.returns-clause-rule
returns-clause-rule g c =
    subst (λ (out : WriteOut). DrainsDue (shown_by g.D.Sectors c.args.self.now) (shown_by g.D.Sectors c.loop-turn.self) c.args.among c.args.first c.args.count c.args.enough out) (sym c.drain_out.ensures)
    (drained_all (shown_by g.D.Sectors c.args.self.now) c.args.among c.args.first c.args.count (stands_by g.D.Sectors c.args.self.now) c.args.enough c.loop-turn.missing c.loop-turn.told
    (shown_by g.D.Sectors c.loop-turn.self) (stands_by g.D.Sectors c.loop-turn.self) c.loop-turn._turn c.loop-turn.invariant.far
    (omega (arith, c.loop-turn-test.false, c.count_of-turn-end.ensures)) c.requires.enough)

pub returns-clause-step : goal.returns-clause-step
returns-clause-step g c = λ s so.
    let now = shown_by g.D.Sectors c.loop-turn.self in
    subst (λ (out : WriteOut). FlushContents (stands_by g.D.Sectors c.loop-turn.self) s out) (sym c.drain_out.ensures)
    (drain_shows (shown_by g.D.Sectors c.args.self.now) c.args.among c.args.first c.args.count (stands_by g.D.Sectors c.args.self.now) c.args.enough c.loop-turn.missing c.loop-turn.told
    now (stands_by g.D.Sectors c.loop-turn.self) c.loop-turn._turn c.loop-turn.invariant.far
    (λ all stands. ((g.met.D.Sectors.laws.as_shown c.loop-turn.self.disc (Off stands.0)).0 stands.1).1 c.loop-turn.invariant.far.can.on) s so)
