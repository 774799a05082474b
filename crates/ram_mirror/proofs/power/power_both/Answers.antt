use Rattle.std.proofs.Common.{Bool, false, not, refl, sym, ◌∙◌, subst}
use Rattle.std.specs.Prelude.{MatchBool}
use Rattle.model_mirror.specs.Leading.{Leading}
use Rattle.model_mirror.specs.Shown.{exchanged}
use Rattle.model_mirror.specs.Powers.{Starts}
use Rattle.ram_mirror.specs.Notes.{noted_of}
use Rattle.ram_mirror.specs.Sides.{shown_by}
use Rattle.ram_mirror.proofs.Powered.{powered}
use Rattle.ram_mirror.proofs.power.power_both.Goals as goal

pub returns-clause-cause : goal.returns-clause-cause
returns-clause-cause g c = record {
  mid = (shown_by g.L.Sectors g.O.Sectors c.args.lead_is_a c.wake-here.new.side c.wake-there.new.side (record c.args.following.now { on = false; up = false; who = record c.args.following.now.who { lead = c.wake-here.new.noted; other = c.wake-there.new.noted } }));
  lead = c.wake-here.result;
  other = c.wake-there.result;
  wakes = record { led = c.wake-here.ensures.wakes.cause; followed = c.wake-there.ensures.wakes.cause; new_is = refl };
  starts = subst (λ (b : Bool). MatchBool b (Starts (exchanged (shown_by g.L.Sectors g.O.Sectors c.args.lead_is_a c.wake-here.new.side c.wake-there.new.side (record c.args.following.now { on = false; up = false; who = record c.args.following.now.who { lead = c.wake-here.new.noted; other = c.wake-there.new.noted } }))) (shown_by g.L.Sectors g.O.Sectors c.args.lead_is_a c.start-2.new.lead c.start-2.new.other c.start-2.new.following) c.wake-there.result c.wake-here.result c.start-2.result c.wake-there.result.record) (Starts (shown_by g.L.Sectors g.O.Sectors c.args.lead_is_a c.wake-here.new.side c.wake-there.new.side (record c.args.following.now { on = false; up = false; who = record c.args.following.now.who { lead = c.wake-here.new.noted; other = c.wake-there.new.noted } })) (shown_by g.L.Sectors g.O.Sectors c.args.lead_is_a c.start-2.new.lead c.start-2.new.other c.start-2.new.following) c.wake-here.result c.wake-there.result c.start-2.result c.wake-here.result.record)) (sym (sym c.is_to_lead.ensures ∙ c.if-is_to_lead.false)) (c.start-2.ensures.cause c.args.lead_is_a);
}

pub returns-clause-step : goal.returns-clause-step
returns-clause-step g c = powered (shown_by g.L.Sectors g.O.Sectors c.args.lead_is_a c.wake-here.new.side c.wake-there.new.side (record c.args.following.now { on = false; up = false; who = record c.args.following.now.who { lead = c.wake-here.new.noted; other = c.wake-there.new.noted } })) (shown_by g.L.Sectors g.O.Sectors c.args.lead_is_a c.start-2.new.lead c.start-2.new.other c.start-2.new.following) c.wake-here.result c.wake-there.result
    (g.L.Sectors.stands c.args.lead.now) (g.L.Sectors.stands c.wake-here.new.side) (g.L.Sectors.stands c.start-2.new.lead) (g.O.Sectors.stands c.args.other.now) (g.O.Sectors.stands c.wake-there.new.side) (g.O.Sectors.stands c.start-2.new.other)
    (λ t b. (g.met.L.Sectors.laws.as_shown c.start-2.new.lead t).0 b) (λ t b. (g.met.O.Sectors.laws.as_shown c.start-2.new.other t).0 b)
    (noted_of c.args.following.now.who.lead) (noted_of c.wake-here.new.noted) (noted_of c.args.following.now.who.other) (noted_of c.wake-there.new.noted) (g.L.Sectors.shows c.args.lead.now) (g.O.Sectors.shows c.args.other.now)
    c.wake-here.ensures.wakes c.wake-there.ensures.wakes c.start-2.result (c.start-2.ensures.step c.args.lead_is_a)

pub returns-then-is_to_lead-clause-cause : goal.returns-then-is_to_lead-clause-cause
returns-then-is_to_lead-clause-cause g c = record {
  mid = (shown_by g.L.Sectors g.O.Sectors c.args.lead_is_a c.wake-here.new.side c.wake-there.new.side (record c.args.following.now { on = false; up = false; who = record c.args.following.now.who { lead = c.wake-here.new.noted; other = c.wake-there.new.noted } }));
  lead = c.wake-here.result;
  other = c.wake-there.result;
  wakes = record { led = c.wake-here.ensures.wakes.cause; followed = c.wake-there.ensures.wakes.cause; new_is = refl };
  starts = subst (λ (b : Bool). MatchBool b (Starts (exchanged (shown_by g.L.Sectors g.O.Sectors c.args.lead_is_a c.wake-here.new.side c.wake-there.new.side (record c.args.following.now { on = false; up = false; who = record c.args.following.now.who { lead = c.wake-here.new.noted; other = c.wake-there.new.noted } }))) (shown_by g.O.Sectors g.L.Sectors (not c.args.lead_is_a) c.start.new.lead c.start.new.other c.start.new.following) c.wake-there.result c.wake-here.result c.start.result c.wake-there.result.record) (Starts (shown_by g.L.Sectors g.O.Sectors c.args.lead_is_a c.wake-here.new.side c.wake-there.new.side (record c.args.following.now { on = false; up = false; who = record c.args.following.now.who { lead = c.wake-here.new.noted; other = c.wake-there.new.noted } })) (shown_by g.O.Sectors g.L.Sectors (not c.args.lead_is_a) c.start.new.lead c.start.new.other c.start.new.following) c.wake-here.result c.wake-there.result c.start.result c.wake-here.result.record)) (sym (sym c.is_to_lead.ensures ∙ c.if-is_to_lead.true))
      (subst (λ (w : Leading). Starts (record (exchanged (shown_by g.L.Sectors g.O.Sectors c.args.lead_is_a c.wake-here.new.side c.wake-there.new.side (record c.args.following.now { on = false; up = false; who = record c.args.following.now.who { lead = c.wake-here.new.noted; other = c.wake-there.new.noted } }))) { who = w }) (shown_by g.O.Sectors g.L.Sectors (not c.args.lead_is_a) c.start.new.lead c.start.new.other c.start.new.following) c.wake-there.result c.wake-here.result c.start.result c.wake-there.result.record) c.exchange.ensures (c.start.ensures.cause (not c.args.lead_is_a)));
}

pub returns-then-is_to_lead-clause-step : goal.returns-then-is_to_lead-clause-step
returns-then-is_to_lead-clause-step g c = λ s t so to.
    let it = powered (shown_by g.O.Sectors g.L.Sectors (not c.args.lead_is_a) c.wake-there.new.side c.wake-here.new.side (record c.args.following.now { on = false; up = false; who = c.exchange.new.self })) (shown_by g.O.Sectors g.L.Sectors (not c.args.lead_is_a) c.start.new.lead c.start.new.other c.start.new.following) c.wake-there.result c.wake-here.result
    (g.O.Sectors.stands c.args.other.now) (g.O.Sectors.stands c.wake-there.new.side) (g.O.Sectors.stands c.start.new.lead) (g.L.Sectors.stands c.args.lead.now) (g.L.Sectors.stands c.wake-here.new.side) (g.L.Sectors.stands c.start.new.other)
    (λ x b. (g.met.O.Sectors.laws.as_shown c.start.new.lead x).0 b) (λ x b. (g.met.L.Sectors.laws.as_shown c.start.new.other x).0 b)
    (noted_of c.args.following.now.who.other) (noted_of c.wake-there.new.noted) (noted_of c.args.following.now.who.lead) (noted_of c.wake-here.new.noted) (g.O.Sectors.shows c.args.other.now) (g.L.Sectors.shows c.args.lead.now)
    c.wake-there.ensures.wakes c.wake-here.ensures.wakes c.start.result (c.start.ensures.step (not c.args.lead_is_a)) t s to so in
    record { leads = it.leads; of_lead = it.of_other; of_other = it.of_lead }
