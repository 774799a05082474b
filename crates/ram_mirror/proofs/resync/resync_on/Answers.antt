use Rattle.std.proofs.Common.{true, refl, subst}
use Rattle.model_sectors.specs.declared.ReadOut.{ReadOut}
use Rattle.model_drive.specs.Reads.{VerifyStep}
use Rattle.ram_mirror.specs.Resyncs.{HasGoneThrough, ThroughAll}
use Rattle.ram_mirror.specs.Sides.{shown_by, stands_by}
use Rattle.ram_mirror.proofs.Ends.{unflipped}
use Rattle.ram_mirror.proofs.Passing.{all_good, resynced}
use Rattle.ram_mirror.proofs.resync.resync_on.Goals as goal

pub left_in-requires : goal.left_in-requires
left_in-requires g c =
    let gone : HasGoneThrough (shown_by g.L.Sectors g.O.Sectors true c.args.lead.now c.args.other.now c.args.following.now) (shown_by g.L.Sectors g.O.Sectors true c.go_through.new.lead c.go_through.new.other c.go_through.new.following) = subst (ThroughAll (shown_by g.L.Sectors g.O.Sectors true c.args.lead.now c.args.other.now c.args.following.now) (shown_by g.L.Sectors g.O.Sectors true c.go_through.new.lead c.go_through.new.other c.go_through.new.following)) (all_good (shown_by g.L.Sectors g.O.Sectors true c.args.lead.now c.args.other.now c.args.following.now) (shown_by g.L.Sectors g.O.Sectors true c.go_through.new.lead c.go_through.new.other c.go_through.new.following) c.go_through.result (c.go_through.ensures.cause true) c.in_default.not-Cut c.in_default.not-Fault) (c.go_through.ensures.cause true) in
    record { disc = gone.disc }

pub returns-in_default : goal.returns-in_default
returns-in_default g c = record {
  cause = λ side.
      let gone : HasGoneThrough (shown_by g.L.Sectors g.O.Sectors side c.args.lead.now c.args.other.now c.args.following.now) (shown_by g.L.Sectors g.O.Sectors side c.go_through.new.lead c.go_through.new.other c.go_through.new.following) = subst (ThroughAll (shown_by g.L.Sectors g.O.Sectors side c.args.lead.now c.args.other.now c.args.following.now) (shown_by g.L.Sectors g.O.Sectors side c.go_through.new.lead c.go_through.new.other c.go_through.new.following)) (all_good (shown_by g.L.Sectors g.O.Sectors side c.args.lead.now c.args.other.now c.args.following.now) (shown_by g.L.Sectors g.O.Sectors side c.go_through.new.lead c.go_through.new.other c.go_through.new.following) c.go_through.result (c.go_through.ensures.cause side) c.in_default.not-Cut c.in_default.not-Fault) (c.go_through.ensures.cause side) in
      record { on = (c.counts-counts.ensures.formatted.0 (unflipped c.counts-counts.result.formatted c.counts-counts.result.formatted c.if-not-counts-2.false refl)).0; formatted = (c.counts-counts.ensures.formatted.0 (unflipped c.counts-counts.result.formatted c.counts-counts.result.formatted c.if-not-counts-2.false refl)).1; through = gone.through; left_is = c.left_in.ensures side (g.O.Sectors.shows c.go_through.new.other) };
  step = λ side s so.
      resynced (stands_by g.L.Sectors g.O.Sectors side c.go_through.new.lead c.go_through.new.other c.go_through.new.following) s c.left_in.result
      (subst (λ (o : ReadOut). VerifyStep (stands_by g.L.Sectors g.O.Sectors side c.go_through.new.lead c.go_through.new.other c.go_through.new.following) s o) (all_good (shown_by g.L.Sectors g.O.Sectors side c.args.lead.now c.args.other.now c.args.following.now) (shown_by g.L.Sectors g.O.Sectors side c.go_through.new.lead c.go_through.new.other c.go_through.new.following) c.go_through.result (c.go_through.ensures.cause side) c.in_default.not-Cut c.in_default.not-Fault) (c.go_through.ensures.step side s so));
  underwent = c.go_through.ensures.underwent;
}
