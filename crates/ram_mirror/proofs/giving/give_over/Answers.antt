use Rattle.std.proofs.Common.{not, sym, ap, subst}
use Rattle.model_drive.specs.declared.RecordOut.TheVariants as records
use Rattle.model_mirror.specs.Leading.{Leading}
use Rattle.model_mirror.specs.Shown.{exchanged}
use Rattle.ram_mirror.specs.Sides.{shown_as}
use Rattle.ram_mirror.specs.Giving.{GivesOver}
use Rattle.ram_mirror.proofs.ByHand.{over_given, over_not_given, over_off, over_counter}
use Rattle.ram_mirror.proofs.TurnedBack.{last_turned}
use Rattle.ram_mirror.proofs.giving.give_over.Goals as goal

pub returns-in-Given-clause-cause : goal.returns-in-Given-clause-cause
returns-in-Given-clause-cause g c = λ side lead.
    subst (GivesOver side lead (g.D.Sectors.shows c.args.side.now) c.args.following.now (g.D.Sectors.shows c.give_to-out.new.side) c.give_to-out.new.following) (sym c.in-Given.is)
    (over_given (shown_as side lead (g.D.Sectors.shows c.args.side.now) c.args.following.now) (shown_as (not side) (g.D.Sectors.shows c.args.side.now) lead (record c.args.following.now { who = c.exchange.new.self })) (shown_as (not side) (g.D.Sectors.shows c.give_to-out.new.side) lead c.give_to-out.new.following) (ap (λ (w : Leading). record (exchanged (shown_as side lead (g.D.Sectors.shows c.args.side.now) c.args.following.now)) { who = w }) c.exchange.ensures) (c.in-Given.ensures.cause (not side) lead))

pub returns-in-NoUpdate-clause-cause : goal.returns-in-NoUpdate-clause-cause
returns-in-NoUpdate-clause-cause g c = λ side lead.
    subst (GivesOver side lead (g.D.Sectors.shows c.args.side.now) c.args.following.now (g.D.Sectors.shows c.give_to-out.new.side) (record c.give_to-out.new.following { who = c.exchange-in-NoUpdate.new.self })) (sym c.in-NoUpdate.is)
    (over_not_given (shown_as side lead (g.D.Sectors.shows c.args.side.now) c.args.following.now) (shown_as (not side) (g.D.Sectors.shows c.args.side.now) lead (record c.args.following.now { who = c.exchange.new.self })) (shown_as (not side) (g.D.Sectors.shows c.give_to-out.new.side) lead c.give_to-out.new.following) (ap (λ (w : Leading). record (exchanged (shown_as side lead (g.D.Sectors.shows c.args.side.now) c.args.following.now)) { who = w }) c.exchange.ensures) (shown_as side lead (g.D.Sectors.shows c.give_to-out.new.side) (record c.give_to-out.new.following { who = c.exchange-in-NoUpdate.new.self })) (last_turned side lead (g.D.Sectors.shows c.give_to-out.new.side) c.give_to-out.new.following c.exchange-in-NoUpdate.new.self c.exchange-in-NoUpdate.ensures) records.Lost (c.in-NoUpdate.ensures.cause (not side) lead).0, over_counter (shown_as side lead (g.D.Sectors.shows c.args.side.now) c.args.following.now) (shown_as (not side) (g.D.Sectors.shows c.args.side.now) lead (record c.args.following.now { who = c.exchange.new.self })) (ap (λ (w : Leading). record (exchanged (shown_as side lead (g.D.Sectors.shows c.args.side.now) c.args.following.now)) { who = w }) c.exchange.ensures) c.in-NoUpdate.counter (c.in-NoUpdate.ensures.cause (not side) lead).1)

pub returns-in-Cut-clause-cause : goal.returns-in-Cut-clause-cause
returns-in-Cut-clause-cause g c = λ side lead.
    subst (GivesOver side lead (g.D.Sectors.shows c.args.side.now) c.args.following.now (g.D.Sectors.shows c.give_to-out.new.side) (record c.give_to-out.new.following { who = c.exchange-in-Cut.new.self })) (sym c.in-Cut.is)
    (over_not_given (shown_as side lead (g.D.Sectors.shows c.args.side.now) c.args.following.now) (shown_as (not side) (g.D.Sectors.shows c.args.side.now) lead (record c.args.following.now { who = c.exchange.new.self })) (shown_as (not side) (g.D.Sectors.shows c.give_to-out.new.side) lead c.give_to-out.new.following) (ap (λ (w : Leading). record (exchanged (shown_as side lead (g.D.Sectors.shows c.args.side.now) c.args.following.now)) { who = w }) c.exchange.ensures) (shown_as side lead (g.D.Sectors.shows c.give_to-out.new.side) (record c.give_to-out.new.following { who = c.exchange-in-Cut.new.self })) (last_turned side lead (g.D.Sectors.shows c.give_to-out.new.side) c.give_to-out.new.following c.exchange-in-Cut.new.self c.exchange-in-Cut.ensures) records.Cut (c.in-Cut.ensures.cause (not side) lead))

pub returns-in-Fault-clause-cause : goal.returns-in-Fault-clause-cause
returns-in-Fault-clause-cause g c = λ side lead.
    subst (GivesOver side lead (g.D.Sectors.shows c.args.side.now) c.args.following.now (g.D.Sectors.shows c.give_to-out.new.side) (record c.give_to-out.new.following { who = c.exchange-in-Fault.new.self })) (sym c.in-Fault.is)
    (over_not_given (shown_as side lead (g.D.Sectors.shows c.args.side.now) c.args.following.now) (shown_as (not side) (g.D.Sectors.shows c.args.side.now) lead (record c.args.following.now { who = c.exchange.new.self })) (shown_as (not side) (g.D.Sectors.shows c.give_to-out.new.side) lead c.give_to-out.new.following) (ap (λ (w : Leading). record (exchanged (shown_as side lead (g.D.Sectors.shows c.args.side.now) c.args.following.now)) { who = w }) c.exchange.ensures) (shown_as side lead (g.D.Sectors.shows c.give_to-out.new.side) (record c.give_to-out.new.following { who = c.exchange-in-Fault.new.self })) (last_turned side lead (g.D.Sectors.shows c.give_to-out.new.side) c.give_to-out.new.following c.exchange-in-Fault.new.self c.exchange-in-Fault.ensures) records.Fault (c.in-Fault.ensures.cause (not side) lead))

pub returns-in-Off-clause-cause : goal.returns-in-Off-clause-cause
returns-in-Off-clause-cause g c = λ side lead.
    subst (GivesOver side lead (g.D.Sectors.shows c.args.side.now) c.args.following.now (g.D.Sectors.shows c.give_to-out.new.side) (record c.give_to-out.new.following { who = c.exchange-in-Off.new.self })) (sym c.in-Off.is)
    (over_off (shown_as side lead (g.D.Sectors.shows c.args.side.now) c.args.following.now) (shown_as (not side) (g.D.Sectors.shows c.args.side.now) lead (record c.args.following.now { who = c.exchange.new.self })) (shown_as (not side) (g.D.Sectors.shows c.give_to-out.new.side) lead c.give_to-out.new.following) (ap (λ (w : Leading). record (exchanged (shown_as side lead (g.D.Sectors.shows c.args.side.now) c.args.following.now)) { who = w }) c.exchange.ensures) (shown_as side lead (g.D.Sectors.shows c.give_to-out.new.side) (record c.give_to-out.new.following { who = c.exchange-in-Off.new.self })) (last_turned side lead (g.D.Sectors.shows c.give_to-out.new.side) c.give_to-out.new.following c.exchange-in-Off.new.self c.exchange-in-Off.ensures) (c.in-Off.ensures.cause (not side) lead))
