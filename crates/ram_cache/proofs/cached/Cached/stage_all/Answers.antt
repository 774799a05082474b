use Rattle.std.proofs.Common.{arith}
use Rattle.ram_cache.specs.Caches.{shown_by, stands_by}
use Rattle.ram_cache.specs.Rooms.{staged_of}
use Rattle.ram_cache.proofs.Staged.{room_next, staged_more, staged_ends, stopped_contents}
use Rattle.ram_cache.proofs.cached.Cached.stage_all.Goals as goal

pub stage_next-requires-clause-room : goal.stage_next-requires-clause-room
stage_next-requires-clause-room g c =
    room_next (shown_by g.D.Sectors c.args.self.now) c.args.request.lba c.args.request.n c.args.from.now (stands_by g.D.Sectors c.args.self.now)
    (shown_by g.D.Sectors c.loop-k.self) (shown_by g.D.Sectors c.loop-k.self) c.loop-k.k (omega (arith, c.blocks-k-end.ensures, c.loop-k-test.true)) (staged_of c.loop-k.self.pending c.loop-k.staged) c.loop-k.staged
    (stands_by g.D.Sectors c.loop-k.self) (stands_by g.D.Sectors c.loop-k.self) c.loop-k.invariant.far c.requires.room

pub returns-in-Err-clause-rule : goal.returns-in-Err-clause-rule
returns-in-Err-clause-rule g c = (
  staged_ends (shown_by g.D.Sectors c.args.self.now) c.args.request.lba c.args.request.n c.args.from.now (stands_by g.D.Sectors c.args.self.now)
      (shown_by g.D.Sectors c.loop-k.self) (shown_by g.D.Sectors c.stage_next.new.self) c.loop-k.k (omega (arith, c.blocks-k-end.ensures, c.loop-k-test.true)) (staged_of c.loop-k.self.pending c.loop-k.staged) c.loop-k.staged
      (stands_by g.D.Sectors c.loop-k.self) (stands_by g.D.Sectors c.stage_next.new.self) c.loop-k.invariant.far c.in-Err.out c.in-Err.ensures.rule,
  stopped_contents (shown_by g.D.Sectors c.args.self.now) c.args.request.lba c.args.request.n c.args.from.now (stands_by g.D.Sectors c.args.self.now)
      (shown_by g.D.Sectors c.loop-k.self) (shown_by g.D.Sectors c.stage_next.new.self) c.loop-k.k (omega (arith, c.blocks-k-end.ensures, c.loop-k-test.true)) (staged_of c.loop-k.self.pending c.loop-k.staged) c.loop-k.staged
      (stands_by g.D.Sectors c.loop-k.self) (stands_by g.D.Sectors c.stage_next.new.self) c.loop-k.invariant.far c.in-Err.out (staged_of c.stage_next.new.self.pending) c.in-Err.ensures.step,
)

pub loop-k-preserved : goal.loop-k-preserved
loop-k-preserved g c = record {
  far = staged_more (shown_by g.D.Sectors c.args.self.now) c.args.request.lba c.args.request.n c.args.from.now (stands_by g.D.Sectors c.args.self.now)
      (shown_by g.D.Sectors c.loop-k.self) (shown_by g.D.Sectors c.stage_next.new.self) c.loop-k.k (omega (arith, c.blocks-k-end.ensures, c.loop-k-test.true)) (staged_of c.loop-k.self.pending c.loop-k.staged) c.loop-k.staged
      (stands_by g.D.Sectors c.loop-k.self) (stands_by g.D.Sectors c.stage_next.new.self) c.loop-k.invariant.far (staged_of c.stage_next.new.self.pending) c.in-Ok.more c.stage_next.ensures.same_shape
      c.in-Ok.ensures.rule c.in-Ok.ensures.step;
  underwent = g.met.D.Sectors.underwent_laws.adds_up c.args.self.now.disc c.loop-k.self.disc c.stage_next.new.self.disc c.loop-k.invariant.underwent c.stage_next.ensures.underwent;
}
