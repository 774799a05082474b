use Rattle.std.specs.Prelude.{◌≡◌, Bool, length}
use Rattle.ram_mirror.specs.Sides.{shown_by, SidesUnderwent}
use Rattle.ram_mirror.proofs.Passing.{HasPassed}
use Rattle.ram_mirror.proofs.resync.go_through.Given as goal

abbrev pub invariant-loop-block : goal.invariant-loop-block
invariant-loop-block g l = record {
  room : length l.room ≡ 32768;
  passed : (side : Bool) → HasPassed (shown_by g.L.Sectors g.O.Sectors side l.fn.lead l.fn.other l.fn.following) (shown_by g.L.Sectors g.O.Sectors side l.lead l.other l.following) l.block
      (g.L.Sectors.stands l.fn.lead) (g.O.Sectors.stands l.fn.other) (g.L.Sectors.stands l.lead) (g.O.Sectors.stands l.other);
  underwent : SidesUnderwent g.L.Sectors g.O.Sectors l.fn.lead l.fn.other l.lead l.other;
}
