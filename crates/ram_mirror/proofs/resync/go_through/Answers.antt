use Rattle.std.proofs.Common.{true, refl, arith}
use Rattle.model_sectors.specs.Discs.{Off}
use Rattle.model_sectors.specs.declared.ReadOut.TheVariants as reads
use Rattle.ram_mirror.specs.Sides.{shown_by}
use Rattle.ram_mirror.proofs.Events.{and_more}
use Rattle.ram_mirror.proofs.Passing.{next_inside, goes_on, passed_more, passing_stopped, passing_step, all_passed, all_stand}
use Rattle.ram_mirror.proofs.resync.go_through.Goals as goal

pub pass_block-requires-clause-inside : goal.pass_block-requires-clause-inside
pass_block-requires-clause-inside g c =
    next_inside (shown_by g.L.Sectors g.O.Sectors true c.args.lead.now c.args.other.now c.args.following.now) (shown_by g.L.Sectors g.O.Sectors true c.loop-block.lead c.loop-block.other c.loop-block.following) c.loop-block.block (g.L.Sectors.stands c.args.lead.now) (g.O.Sectors.stands c.args.other.now) (g.L.Sectors.stands c.loop-block.lead) (g.O.Sectors.stands c.loop-block.other) (c.loop-block.invariant.passed true)
    (omega (arith, c.blocks_of-block-end.ensures.count, c.loop-block-test.true))

pub pass_block-requires-clause-on : goal.pass_block-requires-clause-on
pass_block-requires-clause-on g c = (c.loop-block.invariant.passed true).on

pub returns-in-Cut-clause-cause : goal.returns-in-Cut-clause-cause
returns-in-Cut-clause-cause g c = λ side. passing_stopped (shown_by g.L.Sectors g.O.Sectors side c.args.lead.now c.args.other.now c.args.following.now) (shown_by g.L.Sectors g.O.Sectors side c.loop-block.lead c.loop-block.other c.loop-block.following) (shown_by g.L.Sectors g.O.Sectors side c.pass_block.new.lead c.pass_block.new.other c.pass_block.new.following) c.loop-block.block (g.L.Sectors.stands c.args.lead.now) (g.O.Sectors.stands c.args.other.now) (g.L.Sectors.stands c.loop-block.lead) (g.O.Sectors.stands c.loop-block.other) (g.L.Sectors.stands c.pass_block.new.lead) (g.O.Sectors.stands c.pass_block.new.other) (c.loop-block.invariant.passed side) (omega (arith, c.blocks_of-block-end.ensures.count, c.loop-block-test.true)) reads.Cut refl (c.in-Cut.ensures.cause side)

pub returns-in-Cut-clause-step : goal.returns-in-Cut-clause-step
returns-in-Cut-clause-step g c = λ side. passing_step (shown_by g.L.Sectors g.O.Sectors side c.args.lead.now c.args.other.now c.args.following.now) (shown_by g.L.Sectors g.O.Sectors side c.loop-block.lead c.loop-block.other c.loop-block.following) (shown_by g.L.Sectors g.O.Sectors side c.pass_block.new.lead c.pass_block.new.other c.pass_block.new.following) c.loop-block.block (g.L.Sectors.stands c.args.lead.now) (g.O.Sectors.stands c.args.other.now) (g.L.Sectors.stands c.loop-block.lead) (g.O.Sectors.stands c.loop-block.other) (g.L.Sectors.stands c.pass_block.new.lead) (g.O.Sectors.stands c.pass_block.new.other) (c.loop-block.invariant.passed side) (omega (arith, c.blocks_of-block-end.ensures.count, c.loop-block-test.true)) c.requires.on c.requires.disc.0 (λ discs so is_on. ((g.met.L.Sectors.laws.as_shown c.args.lead.now (Off discs)).0 so).1 is_on) reads.Cut (c.in-Cut.ensures.step side)

pub returns-in-Fault-clause-cause : goal.returns-in-Fault-clause-cause
returns-in-Fault-clause-cause g c = λ side. passing_stopped (shown_by g.L.Sectors g.O.Sectors side c.args.lead.now c.args.other.now c.args.following.now) (shown_by g.L.Sectors g.O.Sectors side c.loop-block.lead c.loop-block.other c.loop-block.following) (shown_by g.L.Sectors g.O.Sectors side c.pass_block.new.lead c.pass_block.new.other c.pass_block.new.following) c.loop-block.block (g.L.Sectors.stands c.args.lead.now) (g.O.Sectors.stands c.args.other.now) (g.L.Sectors.stands c.loop-block.lead) (g.O.Sectors.stands c.loop-block.other) (g.L.Sectors.stands c.pass_block.new.lead) (g.O.Sectors.stands c.pass_block.new.other) (c.loop-block.invariant.passed side) (omega (arith, c.blocks_of-block-end.ensures.count, c.loop-block-test.true)) reads.Fault refl (c.in-Fault.ensures.cause side)

pub returns-in-Fault-clause-step : goal.returns-in-Fault-clause-step
returns-in-Fault-clause-step g c = λ side. passing_step (shown_by g.L.Sectors g.O.Sectors side c.args.lead.now c.args.other.now c.args.following.now) (shown_by g.L.Sectors g.O.Sectors side c.loop-block.lead c.loop-block.other c.loop-block.following) (shown_by g.L.Sectors g.O.Sectors side c.pass_block.new.lead c.pass_block.new.other c.pass_block.new.following) c.loop-block.block (g.L.Sectors.stands c.args.lead.now) (g.O.Sectors.stands c.args.other.now) (g.L.Sectors.stands c.loop-block.lead) (g.O.Sectors.stands c.loop-block.other) (g.L.Sectors.stands c.pass_block.new.lead) (g.O.Sectors.stands c.pass_block.new.other) (c.loop-block.invariant.passed side) (omega (arith, c.blocks_of-block-end.ensures.count, c.loop-block-test.true)) c.requires.on c.requires.disc.0 (λ discs so is_on. ((g.met.L.Sectors.laws.as_shown c.args.lead.now (Off discs)).0 so).1 is_on) reads.Fault (c.in-Fault.ensures.step side)

pub returns-in-Cut-clause-underwent : goal.returns-in-Cut-clause-underwent
returns-in-Cut-clause-underwent g c =
    and_more g.L.Sectors g.O.Sectors g.met.L.Sectors.underwent_laws g.met.O.Sectors.underwent_laws c.args.lead.now c.loop-block.lead c.pass_block.new.lead
    c.args.other.now c.loop-block.other c.pass_block.new.other c.loop-block.invariant.underwent c.pass_block.ensures.underwent

pub returns-in-Fault-clause-underwent : goal.returns-in-Fault-clause-underwent
returns-in-Fault-clause-underwent g c =
    and_more g.L.Sectors g.O.Sectors g.met.L.Sectors.underwent_laws g.met.O.Sectors.underwent_laws c.args.lead.now c.loop-block.lead c.pass_block.new.lead
    c.args.other.now c.loop-block.other c.pass_block.new.other c.loop-block.invariant.underwent c.pass_block.ensures.underwent

pub loop-block-preserved : goal.loop-block-preserved
loop-block-preserved g c = record {
  room = c.pass_block.ensures.room;
  passed = λ side. passed_more (shown_by g.L.Sectors g.O.Sectors side c.args.lead.now c.args.other.now c.args.following.now) (shown_by g.L.Sectors g.O.Sectors side c.loop-block.lead c.loop-block.other c.loop-block.following) (shown_by g.L.Sectors g.O.Sectors side c.pass_block.new.lead c.pass_block.new.other c.pass_block.new.following) c.loop-block.block (g.L.Sectors.stands c.args.lead.now) (g.O.Sectors.stands c.args.other.now) (g.L.Sectors.stands c.loop-block.lead) (g.O.Sectors.stands c.loop-block.other) (g.L.Sectors.stands c.pass_block.new.lead) (g.O.Sectors.stands c.pass_block.new.other) (c.loop-block.invariant.passed side) (omega (arith, c.blocks_of-block-end.ensures.count, c.loop-block-test.true)) c.pass_block.result (goes_on c.pass_block.result c.in_default.not-Cut c.in_default.not-Fault) (c.pass_block.ensures.cause side) (c.pass_block.ensures.step side);
  underwent = and_more g.L.Sectors g.O.Sectors g.met.L.Sectors.underwent_laws g.met.O.Sectors.underwent_laws c.args.lead.now c.loop-block.lead c.pass_block.new.lead
      c.args.other.now c.loop-block.other c.pass_block.new.other c.loop-block.invariant.underwent c.pass_block.ensures.underwent;
}

pub returns-clause-cause : goal.returns-clause-cause
returns-clause-cause g c = λ side. all_passed (shown_by g.L.Sectors g.O.Sectors side c.args.lead.now c.args.other.now c.args.following.now) (shown_by g.L.Sectors g.O.Sectors side c.loop-block.lead c.loop-block.other c.loop-block.following) c.loop-block.block (g.L.Sectors.stands c.args.lead.now) (g.O.Sectors.stands c.args.other.now) (g.L.Sectors.stands c.loop-block.lead) (g.O.Sectors.stands c.loop-block.other) (c.loop-block.invariant.passed side) (omega (arith, c.blocks_of-block-end.ensures.count, c.loop-block-test.false, c.loop-block.auto.block-end))

pub returns-clause-step : goal.returns-clause-step
returns-clause-step g c = λ side. all_stand (shown_by g.L.Sectors g.O.Sectors side c.args.lead.now c.args.other.now c.args.following.now) (shown_by g.L.Sectors g.O.Sectors side c.loop-block.lead c.loop-block.other c.loop-block.following) c.loop-block.block (g.L.Sectors.stands c.args.lead.now) (g.O.Sectors.stands c.args.other.now) (g.L.Sectors.stands c.loop-block.lead) (g.O.Sectors.stands c.loop-block.other) (c.loop-block.invariant.passed side) c.requires.on c.requires.disc.0 (λ discs so is_on. ((g.met.L.Sectors.laws.as_shown c.args.lead.now (Off discs)).0 so).1 is_on)
