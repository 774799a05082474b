use Rattle.std.proofs.lemmas.Bool.{false≢true}
use Rattle.std.proofs.Common.{ℕ, Bool, true, false, List, inr, refl, sym, ap, ◌∙◌, subst}
use Rattle.std.specs.Prelude.{IsSome, replicate}
use Rattle.model_drive.specs.declared.FormatOut.{FormatOut}
use Rattle.model_drive.specs.declared.FormatOut.TheVariants as formats
use Rattle.model_drive.specs.declared.Kind.TheVariants as kinds
use Rattle.model_drive.specs.Formats.{FormatStep}
use Rattle.model_drive.specs.Shown.{block_count}
use Rattle.model_mirror.specs.Leading.{Leading}
use Rattle.model_mirror.specs.Shown.{MirrorShown}
use Rattle.model_mirror.specs.Whole.{FormatsOn, up_after_format}
use Rattle.model_mirror.proofs.WholeSteps.{good_format}
use Rattle.ram_mirror.specs.Tables.{entries_of}
use Rattle.ram_mirror.specs.Notes.{leading_of}
use Rattle.ram_mirror.specs.Sides.{shown_by, stands_by}
use Rattle.ram_mirror.proofs.Ends.{all_off}
use Rattle.ram_mirror.proofs.Formats.{unlisted_cause, failed_format}
use Rattle.ram_mirror.proofs.formatting.format_on.Goals as goal

pub returns-in-Good-clause-cause : goal.returns-in-Good-clause-cause
returns-in-Good-clause-cause g c = λ side.
    subst (FormatsOn (shown_by g.L.Sectors g.O.Sectors side c.args.lead.now c.args.other.now c.args.following.now) (shown_by g.L.Sectors g.O.Sectors side c.format-out.new.self c.format-told.new.self (record { on = c.args.following.now.on; up = c.is_alike-following.result; table = c.renew.new.self; who = c.args.following.now.who }))) (sym c.in-Good.is)
    (record {
      mid = shown_by g.L.Sectors g.O.Sectors side c.format-out.new.self c.args.other.now c.args.following.now;
      lead = (record { formatted = c.in-Good.ensures.cause; leaves = record { same_shape = c.format-out.ensures.same_shape; sound = g.met.L.Sectors.laws.sound c.format-out.new.self } }, refl);
      told = c.format-told.result;
      other = record { formatted = c.format-told.ensures.cause; leaves = record { same_shape = c.format-told.ensures.same_shape; sound = g.met.O.Sectors.laws.sound c.format-told.new.self } };
      new_is = ap (λ (b : Bool). record (shown_by g.L.Sectors g.O.Sectors side c.format-out.new.self c.format-told.new.self (record { on = c.args.following.now.on; up = c.is_alike-following.result; table = c.renew.new.self; who = c.args.following.now.who })) { up = b }) (c.is_alike-following.ensures ∙ ap (λ (k : ℕ). up_after_format formats.Good c.format-told.result k (block_count (g.O.Sectors.shows c.format-told.new.self))) c.blocks_of-blocks.ensures.count);
      table = (c.renew.ensures ∙ ap (λ (k : ℕ). replicate k false) c.blocks_of-blocks.ensures.count);
    })

pub returns-in-Good-clause-step : goal.returns-in-Good-clause-step
returns-in-Good-clause-step g c = λ side s so.
    subst (λ (o : FormatOut). FormatStep (g.L.Sectors.shows c.args.lead.now) (g.L.Sectors.shows c.format-out.new.self) (stands_by g.L.Sectors g.O.Sectors side c.format-out.new.self c.format-told.new.self (record { on = c.args.following.now.on; up = c.is_alike-following.result; table = c.renew.new.self; who = c.args.following.now.who })) s (kinds.Full true) o) (sym c.in-Good.is)
    (good_format (shown_by g.L.Sectors g.O.Sectors side c.args.lead.now c.args.other.now c.args.following.now) (shown_by g.L.Sectors g.O.Sectors side c.format-out.new.self c.args.other.now c.args.following.now) (shown_by g.L.Sectors g.O.Sectors side c.format-out.new.self c.format-told.new.self (record { on = c.args.following.now.on; up = c.is_alike-following.result; table = c.renew.new.self; who = c.args.following.now.who }))
    (g.L.Sectors.stands c.args.lead.now) (g.L.Sectors.stands c.format-out.new.self) (g.O.Sectors.stands c.args.other.now) (g.O.Sectors.stands c.format-told.new.self)
    (λ t b. (g.met.L.Sectors.laws.as_shown c.format-out.new.self t).0 b) (λ t b. (g.met.O.Sectors.laws.as_shown c.format-told.new.self t).0 b)
    c.requires.on refl (c.renew.ensures ∙ ap (λ (k : ℕ). replicate k false) c.blocks_of-blocks.ensures.count) c.format-told.result (c.is_alike-following.ensures ∙ ap (λ (k : ℕ). up_after_format formats.Good c.format-told.result k (block_count (g.O.Sectors.shows c.format-told.new.self))) c.blocks_of-blocks.ensures.count) c.in-Good.ensures.step c.format-told.ensures.step s so)

pub returns-in-TooMany-clause-cause : goal.returns-in-TooMany-clause-cause
returns-in-TooMany-clause-cause g c = λ side.
    subst (FormatsOn (shown_by g.L.Sectors g.O.Sectors side c.args.lead.now c.args.other.now c.args.following.now) (record (shown_by g.L.Sectors g.O.Sectors side c.format-out.new.self c.args.other.now c.args.following.now) { up = false })) (sym c.in-TooMany.is)
    (record {
      mid = shown_by g.L.Sectors g.O.Sectors side c.format-out.new.self c.args.other.now c.args.following.now;
      lead = (record { formatted = c.in-TooMany.ensures.cause; leaves = record { same_shape = c.format-out.ensures.same_shape; sound = g.met.L.Sectors.laws.sound c.format-out.new.self } }, refl);
      ends = inr ((λ formatted. false≢true (subst (λ l. IsSome l) c.in-TooMany.ensures.cause.no_lists formatted)), refl);
    })

pub returns-in-NoUpdate-clause-cause : goal.returns-in-NoUpdate-clause-cause
returns-in-NoUpdate-clause-cause g c = λ side.
    subst (λ (x : MirrorShown). FormatsOn (shown_by g.L.Sectors g.O.Sectors side c.args.lead.now c.args.other.now c.args.following.now) x c.format-out.result)
    (ap (λ (b : Bool). record (shown_by g.L.Sectors g.O.Sectors side c.format-out.new.self c.args.other.now c.args.following.now) { on = b; up = c.after_unformatted.new.self.up }) (sym c.after_unformatted.ensures.on)
    ∙ ap (λ (t : List Bool). record (shown_by g.L.Sectors g.O.Sectors side c.format-out.new.self c.args.other.now c.args.following.now) { on = c.after_unformatted.new.self.on; up = c.after_unformatted.new.self.up; table = t }) (ap entries_of (sym c.after_unformatted.ensures.table))
    ∙ ap (λ (w : Leading). record (shown_by g.L.Sectors g.O.Sectors side c.format-out.new.self c.args.other.now c.args.following.now) { on = c.after_unformatted.new.self.on; up = c.after_unformatted.new.self.up; table = entries_of c.after_unformatted.new.self.table; who = w }) (ap leading_of (sym c.after_unformatted.ensures.who)))
    (subst (FormatsOn (shown_by g.L.Sectors g.O.Sectors side c.args.lead.now c.args.other.now c.args.following.now) (record (shown_by g.L.Sectors g.O.Sectors side c.format-out.new.self c.args.other.now c.args.following.now) { up = c.after_unformatted.new.self.up })) (sym c.in-NoUpdate.is)
    (unlisted_cause (shown_by g.L.Sectors g.O.Sectors side c.args.lead.now c.args.other.now c.args.following.now) (shown_by g.L.Sectors g.O.Sectors side c.format-out.new.self c.args.other.now c.args.following.now) c.after_unformatted.new.self.up c.in-NoUpdate.counter c.capacity.result refl (record { formatted = c.in-NoUpdate.ensures.cause; leaves = record { same_shape = c.format-out.ensures.same_shape; sound = g.met.L.Sectors.laws.sound c.format-out.new.self } }) c.capacity.ensures.rule c.after_unformatted.ensures.up))

pub returns-in-Cut-clause-cause : goal.returns-in-Cut-clause-cause
returns-in-Cut-clause-cause g c = λ side.
    subst (FormatsOn (shown_by g.L.Sectors g.O.Sectors side c.args.lead.now c.args.other.now c.args.following.now) (shown_by g.L.Sectors g.O.Sectors side c.format-out.new.self c.args.other.now c.turn_off.new.self)) (sym c.in-Cut.is)
    (record {
      mid = shown_by g.L.Sectors g.O.Sectors side c.format-out.new.self c.args.other.now c.args.following.now;
      lead = (record { formatted = c.in-Cut.ensures.cause; leaves = record { same_shape = c.format-out.ensures.same_shape; sound = g.met.L.Sectors.laws.sound c.format-out.new.self } }, refl);
      new_is = all_off (shown_by g.L.Sectors g.O.Sectors side c.format-out.new.self c.args.other.now c.args.following.now) c.turn_off.new.self.on c.turn_off.new.self.up (entries_of c.turn_off.new.self.table) (leading_of c.turn_off.new.self.who) c.turn_off.ensures.on c.turn_off.ensures.up (ap entries_of c.turn_off.ensures.table) (ap leading_of c.turn_off.ensures.who);
    })

pub returns-in-Fault-clause-cause : goal.returns-in-Fault-clause-cause
returns-in-Fault-clause-cause g c = λ side.
    subst (FormatsOn (shown_by g.L.Sectors g.O.Sectors side c.args.lead.now c.args.other.now c.args.following.now) (shown_by g.L.Sectors g.O.Sectors side c.format-out.new.self c.args.other.now c.turn_off-in-Fault.new.self)) (sym c.in-Fault.is)
    (record {
      mid = shown_by g.L.Sectors g.O.Sectors side c.format-out.new.self c.args.other.now c.args.following.now;
      lead = (record { formatted = c.in-Fault.ensures.cause; leaves = record { same_shape = c.format-out.ensures.same_shape; sound = g.met.L.Sectors.laws.sound c.format-out.new.self } }, refl);
      new_is = all_off (shown_by g.L.Sectors g.O.Sectors side c.format-out.new.self c.args.other.now c.args.following.now) c.turn_off-in-Fault.new.self.on c.turn_off-in-Fault.new.self.up (entries_of c.turn_off-in-Fault.new.self.table) (leading_of c.turn_off-in-Fault.new.self.who) c.turn_off-in-Fault.ensures.on c.turn_off-in-Fault.ensures.up (ap entries_of c.turn_off-in-Fault.ensures.table) (ap leading_of c.turn_off-in-Fault.ensures.who);
    })

pub returns-in-Fault-clause-step : goal.returns-in-Fault-clause-step
returns-in-Fault-clause-step g c = λ side s so.
    subst (λ (o : FormatOut). FormatStep (g.L.Sectors.shows c.args.lead.now) (g.L.Sectors.shows c.format-out.new.self) (stands_by g.L.Sectors g.O.Sectors side c.format-out.new.self c.args.other.now c.turn_off-in-Fault.new.self) s (kinds.Full true) o) (sym c.in-Fault.is)
    (failed_format (shown_by g.L.Sectors g.O.Sectors side c.args.lead.now c.args.other.now c.args.following.now) (shown_by g.L.Sectors g.O.Sectors side c.format-out.new.self c.args.other.now c.turn_off-in-Fault.new.self) (g.L.Sectors.stands c.args.lead.now) (g.L.Sectors.stands c.format-out.new.self) (g.O.Sectors.stands c.args.other.now)
    c.requires.on c.in-Fault.ensures.step s so)
