use Rattle.std.proofs.Common.{ℕ, refl, ap, subst}
use Rattle.model_drive.specs.declared.RecordOut.TheVariants as records
use Rattle.model_mirror.specs.Leading.{Raises}
use Rattle.ram_mirror.specs.Tables.{entries_of}
use Rattle.ram_mirror.specs.Notes.{noted_of, leading_of}
use Rattle.ram_mirror.specs.Sides.{shown_by}
use Rattle.ram_mirror.proofs.Woken.{raised_since}
use Rattle.ram_mirror.proofs.Started.{nobody, starts_after}
use Rattle.ram_mirror.proofs.starting.lead_on.Goals as goal

pub returns-in-Good-clause-cause : goal.returns-in-Good-clause-cause
returns-in-Good-clause-cause g c = λ side. record {
  late = (shown_by g.L.Sectors g.O.Sectors side c.raise.new.side c.args.other.now (record c.args.following.now { who = record c.args.following.now.who { lead = c.raise.new.noted } }));
  raised = records.Good;
  raises = record { raises = subst (λ (k : ℕ). Raises (g.L.Sectors.shows c.args.lead.now) (g.L.Sectors.shows c.raise.new.side) (noted_of c.args.following.now.who.lead) (noted_of c.raise.new.noted) k records.Good) c.floor-above.ensures c.in-Good.ensures.raises; new_is = refl };
  ends = c.follow.ensures.cause side;
}

pub returns-in-Lost-clause-cause : goal.returns-in-Lost-clause-cause
returns-in-Lost-clause-cause g c = λ side. record {
  late = (shown_by g.L.Sectors g.O.Sectors side c.raise.new.side c.args.other.now (record c.args.following.now { who = record c.args.following.now.who { lead = c.raise.new.noted } }));
  raised = records.Lost;
  raises = record { raises = subst (λ (k : ℕ). Raises (g.L.Sectors.shows c.args.lead.now) (g.L.Sectors.shows c.raise.new.side) (noted_of c.args.following.now.who.lead) (noted_of c.raise.new.noted) k records.Lost) c.floor-above.ensures c.in-Lost.ensures.raises; new_is = refl };
  ends = nobody (shown_by g.L.Sectors g.O.Sectors side c.raise.new.side c.args.other.now (record c.args.following.now { who = record c.args.following.now.who { lead = c.raise.new.noted } })) c.forget.new.self.on c.forget.new.self.up (entries_of c.forget.new.self.table) (leading_of c.forget.new.self.who) c.forget.result c.forget.ensures.unknown c.forget.ensures.on c.forget.ensures.up (ap entries_of c.forget.ensures.table) c.forget.ensures.who;
}

pub returns-in-Cut-clause-cause : goal.returns-in-Cut-clause-cause
returns-in-Cut-clause-cause g c = λ side. record {
  late = (shown_by g.L.Sectors g.O.Sectors side c.raise.new.side c.args.other.now (record c.args.following.now { who = record c.args.following.now.who { lead = c.raise.new.noted } }));
  raised = records.Cut;
  raises = record { raises = subst (λ (k : ℕ). Raises (g.L.Sectors.shows c.args.lead.now) (g.L.Sectors.shows c.raise.new.side) (noted_of c.args.following.now.who.lead) (noted_of c.raise.new.noted) k records.Cut) c.floor-above.ensures c.in-Cut.ensures.raises; new_is = refl };
  ends = (refl, refl);
}

pub returns-in-Off-clause-cause : goal.returns-in-Off-clause-cause
returns-in-Off-clause-cause g c = λ side. record {
  late = (shown_by g.L.Sectors g.O.Sectors side c.raise.new.side c.args.other.now (record c.args.following.now { who = record c.args.following.now.who { lead = c.raise.new.noted } }));
  raised = records.Off;
  raises = record { raises = subst (λ (k : ℕ). Raises (g.L.Sectors.shows c.args.lead.now) (g.L.Sectors.shows c.raise.new.side) (noted_of c.args.following.now.who.lead) (noted_of c.raise.new.noted) k records.Off) c.floor-above.ensures c.in-Off.ensures.raises; new_is = refl };
  ends = nobody (shown_by g.L.Sectors g.O.Sectors side c.raise.new.side c.args.other.now (record c.args.following.now { who = record c.args.following.now.who { lead = c.raise.new.noted } })) c.forget-in-Off.new.self.on c.forget-in-Off.new.self.up (entries_of c.forget-in-Off.new.self.table) (leading_of c.forget-in-Off.new.self.who) c.forget-in-Off.result c.forget-in-Off.ensures.unknown c.forget-in-Off.ensures.on c.forget-in-Off.ensures.up (ap entries_of c.forget-in-Off.ensures.table) c.forget-in-Off.ensures.who;
}

pub returns-in-Fault-clause-cause : goal.returns-in-Fault-clause-cause
returns-in-Fault-clause-cause g c = λ side. record {
  late = (shown_by g.L.Sectors g.O.Sectors side c.raise.new.side c.args.other.now (record c.args.following.now { who = record c.args.following.now.who { lead = c.raise.new.noted } }));
  raised = records.Fault;
  raises = record { raises = subst (λ (k : ℕ). Raises (g.L.Sectors.shows c.args.lead.now) (g.L.Sectors.shows c.raise.new.side) (noted_of c.args.following.now.who.lead) (noted_of c.raise.new.noted) k records.Fault) c.floor-above.ensures c.in-Fault.ensures.raises; new_is = refl };
  ends = (refl, refl);
}

pub returns-in-Good-clause-step : goal.returns-in-Good-clause-step
returns-in-Good-clause-step g c = λ side read.
    starts_after (g.L.Sectors.stands c.args.lead.now) (g.L.Sectors.stands c.raise.new.side) (g.L.Sectors.stands c.raise.new.side) (g.O.Sectors.stands c.args.other.now) (g.O.Sectors.stands c.follow.new.other) (shown_by g.L.Sectors g.O.Sectors side c.args.lead.now c.args.other.now c.args.following.now) (shown_by g.L.Sectors g.O.Sectors side c.raise.new.side c.args.other.now (record c.args.following.now { who = record c.args.following.now.who { lead = c.raise.new.noted } }))
    (shown_by g.L.Sectors g.O.Sectors side c.raise.new.side c.follow.new.other c.follow.new.following) c.args.here c.args.there refl
    (raised_since (g.L.Sectors.shows c.args.lead.now) (g.L.Sectors.shows c.raise.new.side) (noted_of c.args.following.now.who.lead) (noted_of c.raise.new.noted) c.floor-above.result records.Good c.in-Good.ensures.raises c.raise.ensures.same_shape refl)
    c.in-Good.ensures.step c.follow.result (c.follow.ensures.step side read)
