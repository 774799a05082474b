use Rattle.std.proofs.Common.{Bool, refl, sym, ap, ◌∙◌, subst}
use Rattle.std.specs.Prelude.{MatchBool, ◌&&◌}
use Rattle.model_mirror.specs.Powers.{stays_on, was_read, NobodyLeads, Finishes}
use Rattle.ram_mirror.specs.Tables.{entries_of}
use Rattle.ram_mirror.specs.Notes.{leading_of}
use Rattle.ram_mirror.specs.Sides.{shown_by}
use Rattle.ram_mirror.proofs.Started.{nobody, first_since, finished}
use Rattle.ram_mirror.proofs.starting.follow.Goals as goal

pub returns-then-not-still_tells-clause-cause : goal.returns-then-not-still_tells-clause-cause
returns-then-not-still_tells-clause-cause g c = λ side. record {
  late = (shown_by g.L.Sectors g.O.Sectors side c.args.lead.now c.raise_first-raised.new.other c.raise_first-raised.new.following);
  raised = c.raise_first-raised.result;
  raises = c.raise_first-raised.ensures.raises side (g.L.Sectors.shows c.args.lead.now);
  ends = subst (λ (b : Bool). MatchBool b (Finishes (shown_by g.L.Sectors g.O.Sectors side c.args.lead.now c.raise_first-raised.new.other c.raise_first-raised.new.following) (shown_by g.L.Sectors g.O.Sectors side c.args.lead.now c.raise_first-raised.new.other c.forget.new.self) c.args.there.power (stays_on c.args.there.record && stays_on c.raise_first-raised.result) c.args.here.power c.forget.result)
      (NobodyLeads (shown_by g.L.Sectors g.O.Sectors side c.args.lead.now c.raise_first-raised.new.other c.raise_first-raised.new.following) (shown_by g.L.Sectors g.O.Sectors side c.args.lead.now c.raise_first-raised.new.other c.forget.new.self) c.forget.result)) (sym (sym c.still_tells.ensures ∙ c.if-not-still_tells.true))
      (nobody (shown_by g.L.Sectors g.O.Sectors side c.args.lead.now c.raise_first-raised.new.other c.raise_first-raised.new.following) c.forget.new.self.on c.forget.new.self.up (entries_of c.forget.new.self.table) (leading_of c.forget.new.self.who) c.forget.result c.forget.ensures.unknown c.forget.ensures.on c.forget.ensures.up (ap entries_of c.forget.ensures.table) c.forget.ensures.who);
}

pub returns-clause-cause : goal.returns-clause-cause
returns-clause-cause g c = λ side. record {
  late = (shown_by g.L.Sectors g.O.Sectors side c.args.lead.now c.raise_first-raised.new.other c.raise_first-raised.new.following);
  raised = c.raise_first-raised.result;
  raises = c.raise_first-raised.ensures.raises side (g.L.Sectors.shows c.args.lead.now);
  ends = subst (λ (b : Bool). MatchBool b (Finishes (shown_by g.L.Sectors g.O.Sectors side c.args.lead.now c.raise_first-raised.new.other c.raise_first-raised.new.following) (shown_by g.L.Sectors g.O.Sectors side c.args.lead.now c.raise_first-raised.new.other c.finish.new.following) c.args.there.power (stays_on c.args.there.record && stays_on c.raise_first-raised.result) c.args.here.power c.finish.result)
      (NobodyLeads (shown_by g.L.Sectors g.O.Sectors side c.args.lead.now c.raise_first-raised.new.other c.raise_first-raised.new.following) (shown_by g.L.Sectors g.O.Sectors side c.args.lead.now c.raise_first-raised.new.other c.finish.new.following) c.finish.result)) (sym (sym c.still_tells.ensures ∙ c.if-not-still_tells.false))
      (subst (λ (b : Bool). Finishes (shown_by g.L.Sectors g.O.Sectors side c.args.lead.now c.raise_first-raised.new.other c.raise_first-raised.new.following) (shown_by g.L.Sectors g.O.Sectors side c.args.lead.now c.raise_first-raised.new.other c.finish.new.following) c.args.there.power b c.args.here.power c.finish.result) c.both_stay_on-on.ensures (c.finish.ensures.cause side));
}

pub returns-clause-step : goal.returns-clause-step
returns-clause-step g c = λ side read.
    finished (g.L.Sectors.stands c.args.lead.now) (g.O.Sectors.stands c.args.other.now) (g.O.Sectors.stands c.raise_first-raised.new.other) (shown_by g.L.Sectors g.O.Sectors side c.args.lead.now c.args.other.now c.args.following.now) (shown_by g.L.Sectors g.O.Sectors side c.args.lead.now c.raise_first-raised.new.other c.raise_first-raised.new.following) (shown_by g.L.Sectors g.O.Sectors side c.args.lead.now c.raise_first-raised.new.other c.finish.new.following) c.args.here c.args.there refl (c.raise_first-raised.ensures.up ∙ c.requires.down) c.raise_first-raised.result
    (first_since (shown_by g.L.Sectors g.O.Sectors side c.args.lead.now c.args.other.now c.args.following.now) (shown_by g.L.Sectors g.O.Sectors side c.args.lead.now c.raise_first-raised.new.other c.raise_first-raised.new.following) (was_read c.args.there.record) c.raise_first-raised.result (c.raise_first-raised.ensures.raises side (g.L.Sectors.shows c.args.lead.now)) c.raise_first-raised.ensures.same_shape) c.raise_first-raised.ensures.step
    c.args.here.power refl read c.both_stay_on-on.result c.both_stay_on-on.ensures c.finish.result (c.finish.ensures.cause side)
