use Rattle.std.proofs.Common.{ℕ, refl, ap, ◌∙◌, subst}
use Rattle.model_drive.specs.declared.RecordOut.TheVariants as outs
use Rattle.model_mirror.specs.Leading.{Raises, next_number}
use Rattle.ram_mirror.specs.Tables.{entries_of}
use Rattle.ram_mirror.specs.Notes.{leading_of, noted_of}
use Rattle.ram_mirror.specs.Sides.{shown_as}
use Rattle.ram_mirror.proofs.Ends.{unflipped}
use Rattle.ram_mirror.proofs.ByHand.{was_given, not_given}
use Rattle.ram_mirror.proofs.giving.give_to.Goals as goal

pub returns-in-Good-clause-cause : goal.returns-in-Good-clause-cause
returns-in-Good-clause-cause g c = λ is_a other. was_given (shown_as is_a (g.D.Sectors.shows c.args.side.now) other c.args.following.now)
    (shown_as is_a (g.D.Sectors.shows c.raise-told.new.side) other (record c.args.following.now { who = record c.args.following.now.who { lead = c.raise-told.new.noted } }))
    c.turn_off.new.self.on c.turn_off.new.self.up (entries_of c.turn_off.new.self.table) (leading_of c.turn_off.new.self.who) (c.counts.ensures.powered.0 (unflipped c.counts.result.powered c.counts.result.powered c.if-not-counts.false refl))
    (record { raises = subst (λ (k : ℕ). Raises (g.D.Sectors.shows c.args.side.now) (g.D.Sectors.shows c.raise-told.new.side) (noted_of c.args.following.now.who.lead) (noted_of c.raise-told.new.noted) k outs.Good) c.floor-above.ensures c.in-Good.ensures.raises; new_is = refl })
    c.turn_off.ensures.on c.turn_off.ensures.up (ap entries_of c.turn_off.ensures.table) (ap leading_of c.turn_off.ensures.who)

pub returns-in-Lost-clause-cause : goal.returns-in-Lost-clause-cause
returns-in-Lost-clause-cause g c = λ is_a other. (
  not_given (shown_as is_a (g.D.Sectors.shows c.args.side.now) other c.args.following.now)
      (shown_as is_a (g.D.Sectors.shows c.raise-told.new.side) other (record c.args.following.now { who = record c.args.following.now.who { lead = c.raise-told.new.noted } }))
      outs.Lost c.turn_off.new.self.on c.turn_off.new.self.up (entries_of c.turn_off.new.self.table) (leading_of c.turn_off.new.self.who) (c.counts.ensures.powered.0 (unflipped c.counts.result.powered c.counts.result.powered c.if-not-counts.false refl))
      (record { raises = subst (λ (k : ℕ). Raises (g.D.Sectors.shows c.args.side.now) (g.D.Sectors.shows c.raise-told.new.side) (noted_of c.args.following.now.who.lead) (noted_of c.raise-told.new.noted) k outs.Lost) c.floor-above.ensures c.in-Lost.ensures.raises; new_is = refl })
      c.turn_off.ensures.on c.turn_off.ensures.up (ap entries_of c.turn_off.ensures.table) (ap leading_of c.turn_off.ensures.who),
  c.next_number.ensures ∙ ap next_number c.floor-above.ensures,
)

pub returns-in-Cut-clause-cause : goal.returns-in-Cut-clause-cause
returns-in-Cut-clause-cause g c = λ is_a other. not_given (shown_as is_a (g.D.Sectors.shows c.args.side.now) other c.args.following.now)
    (shown_as is_a (g.D.Sectors.shows c.raise-told.new.side) other (record c.args.following.now { who = record c.args.following.now.who { lead = c.raise-told.new.noted } }))
    outs.Cut c.turn_off.new.self.on c.turn_off.new.self.up (entries_of c.turn_off.new.self.table) (leading_of c.turn_off.new.self.who) (c.counts.ensures.powered.0 (unflipped c.counts.result.powered c.counts.result.powered c.if-not-counts.false refl))
    (record { raises = subst (λ (k : ℕ). Raises (g.D.Sectors.shows c.args.side.now) (g.D.Sectors.shows c.raise-told.new.side) (noted_of c.args.following.now.who.lead) (noted_of c.raise-told.new.noted) k outs.Cut) c.floor-above.ensures c.in-Cut.ensures.raises; new_is = refl })
    c.turn_off.ensures.on c.turn_off.ensures.up (ap entries_of c.turn_off.ensures.table) (ap leading_of c.turn_off.ensures.who)

pub returns-in-Fault-clause-cause : goal.returns-in-Fault-clause-cause
returns-in-Fault-clause-cause g c = λ is_a other. not_given (shown_as is_a (g.D.Sectors.shows c.args.side.now) other c.args.following.now)
    (shown_as is_a (g.D.Sectors.shows c.raise-told.new.side) other (record c.args.following.now { who = record c.args.following.now.who { lead = c.raise-told.new.noted } }))
    outs.Fault c.turn_off.new.self.on c.turn_off.new.self.up (entries_of c.turn_off.new.self.table) (leading_of c.turn_off.new.self.who) (c.counts.ensures.powered.0 (unflipped c.counts.result.powered c.counts.result.powered c.if-not-counts.false refl))
    (record { raises = subst (λ (k : ℕ). Raises (g.D.Sectors.shows c.args.side.now) (g.D.Sectors.shows c.raise-told.new.side) (noted_of c.args.following.now.who.lead) (noted_of c.raise-told.new.noted) k outs.Fault) c.floor-above.ensures c.in-Fault.ensures.raises; new_is = refl })
    c.turn_off.ensures.on c.turn_off.ensures.up (ap entries_of c.turn_off.ensures.table) (ap leading_of c.turn_off.ensures.who)
