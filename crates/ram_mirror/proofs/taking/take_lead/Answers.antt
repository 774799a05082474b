use Rattle.std.proofs.Common.{refl, sym, ap, ◌∙◌}
use Rattle.model_drive.specs.declared.RecordOut.TheVariants as outs
use Rattle.ram_mirror.specs.Tables.{entries_of}
use Rattle.ram_mirror.specs.Notes.{leading_of}
use Rattle.ram_mirror.specs.Sides.{shown_as}
use Rattle.ram_mirror.proofs.Handover.{may_not, not_taken, was_taken}
use Rattle.ram_mirror.proofs.taking.take_lead.Goals as goal

pub returns-then-not-may_lead-clause-takes : goal.returns-then-not-may_lead-clause-takes
returns-then-not-may_lead-clause-takes g c = λ side lead. may_not (shown_as side lead (g.O.Sectors.shows c.args.other.now) c.args.following.now)
    c.turn_off.new.self.on c.turn_off.new.self.up (entries_of c.turn_off.new.self.table) (leading_of c.turn_off.new.self.who) (sym c.may_lead.ensures ∙ c.if-not-may_lead.true)
    c.turn_off.ensures.on c.turn_off.ensures.up (ap entries_of c.turn_off.ensures.table) (ap leading_of c.turn_off.ensures.who)

pub returns-in-Good-clause-takes : goal.returns-in-Good-clause-takes
returns-in-Good-clause-takes g c = λ side lead. was_taken (shown_as side lead (g.O.Sectors.shows c.args.other.now) c.args.following.now)
    (shown_as side lead (g.O.Sectors.shows c.raise.new.side) (record c.args.following.now { who = record c.args.following.now.who { other = c.raise.new.noted } }))
    c.hand_over.new.self.on c.hand_over.new.self.up (entries_of c.hand_over.new.self.table) (leading_of c.hand_over.new.self.who) (sym c.may_lead.ensures ∙ c.if-not-may_lead.false)
    (record { raises = c.in-Good.ensures.raises; new_is = refl })
    c.hand_over.ensures.on c.hand_over.ensures.up (ap entries_of c.hand_over.ensures.table) c.hand_over.ensures.who

pub returns-in-Lost-clause-takes : goal.returns-in-Lost-clause-takes
returns-in-Lost-clause-takes g c = λ side lead. not_taken (shown_as side lead (g.O.Sectors.shows c.args.other.now) c.args.following.now)
    (shown_as side lead (g.O.Sectors.shows c.raise.new.side) (record c.args.following.now { who = record c.args.following.now.who { other = c.raise.new.noted } }))
    c.turn_off-in-Lost.new.self.on c.turn_off-in-Lost.new.self.up (entries_of c.turn_off-in-Lost.new.self.table) (leading_of c.turn_off-in-Lost.new.self.who) (sym c.may_lead.ensures ∙ c.if-not-may_lead.false)
    outs.Lost (record { raises = c.in-Lost.ensures.raises; new_is = refl }) (λ e. let w = e in cc)
    c.turn_off-in-Lost.ensures.on c.turn_off-in-Lost.ensures.up (ap entries_of c.turn_off-in-Lost.ensures.table) (ap leading_of c.turn_off-in-Lost.ensures.who)

pub returns-in-Cut-clause-takes : goal.returns-in-Cut-clause-takes
returns-in-Cut-clause-takes g c = λ side lead. not_taken (shown_as side lead (g.O.Sectors.shows c.args.other.now) c.args.following.now)
    (shown_as side lead (g.O.Sectors.shows c.raise.new.side) (record c.args.following.now { who = record c.args.following.now.who { other = c.raise.new.noted } }))
    c.turn_off-in-Cut.new.self.on c.turn_off-in-Cut.new.self.up (entries_of c.turn_off-in-Cut.new.self.table) (leading_of c.turn_off-in-Cut.new.self.who) (sym c.may_lead.ensures ∙ c.if-not-may_lead.false)
    outs.Cut (record { raises = c.in-Cut.ensures.raises; new_is = refl }) (λ e. let w = e in cc)
    c.turn_off-in-Cut.ensures.on c.turn_off-in-Cut.ensures.up (ap entries_of c.turn_off-in-Cut.ensures.table) (ap leading_of c.turn_off-in-Cut.ensures.who)

pub returns-in-Off-clause-takes : goal.returns-in-Off-clause-takes
returns-in-Off-clause-takes g c = λ side lead. not_taken (shown_as side lead (g.O.Sectors.shows c.args.other.now) c.args.following.now)
    (shown_as side lead (g.O.Sectors.shows c.raise.new.side) (record c.args.following.now { who = record c.args.following.now.who { other = c.raise.new.noted } }))
    c.turn_off-in-Off.new.self.on c.turn_off-in-Off.new.self.up (entries_of c.turn_off-in-Off.new.self.table) (leading_of c.turn_off-in-Off.new.self.who) (sym c.may_lead.ensures ∙ c.if-not-may_lead.false)
    outs.Off (record { raises = c.in-Off.ensures.raises; new_is = refl }) (λ e. let w = e in cc)
    c.turn_off-in-Off.ensures.on c.turn_off-in-Off.ensures.up (ap entries_of c.turn_off-in-Off.ensures.table) (ap leading_of c.turn_off-in-Off.ensures.who)

pub returns-in-Fault-clause-takes : goal.returns-in-Fault-clause-takes
returns-in-Fault-clause-takes g c = λ side lead. not_taken (shown_as side lead (g.O.Sectors.shows c.args.other.now) c.args.following.now)
    (shown_as side lead (g.O.Sectors.shows c.raise.new.side) (record c.args.following.now { who = record c.args.following.now.who { other = c.raise.new.noted } }))
    c.turn_off-in-Fault.new.self.on c.turn_off-in-Fault.new.self.up (entries_of c.turn_off-in-Fault.new.self.table) (leading_of c.turn_off-in-Fault.new.self.who) (sym c.may_lead.ensures ∙ c.if-not-may_lead.false)
    outs.Fault (record { raises = c.in-Fault.ensures.raises; new_is = refl }) (λ e. let w = e in cc)
    c.turn_off-in-Fault.ensures.on c.turn_off-in-Fault.ensures.up (ap entries_of c.turn_off-in-Fault.ensures.table) (ap leading_of c.turn_off-in-Fault.ensures.who)
