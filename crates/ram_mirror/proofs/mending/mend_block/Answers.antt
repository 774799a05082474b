use Rattle.std.proofs.Common.{◌*◌, refl, sym, ap, subst}
use Rattle.model_sectors.specs.declared.ReadOut.{ReadOut}
use Rattle.model_sectors.specs.declared.ReadOut.TheVariants as reads
use Rattle.model_drive.specs.Reads.{VerifyStep}
use Rattle.model_mirror.specs.Whole.{MendsBlock}
use Rattle.ram_mirror.specs.Tables.{entries_of}
use Rattle.ram_mirror.specs.Notes.{leading_of}
use Rattle.ram_mirror.specs.Sides.{shown_by, stands_by}
use Rattle.ram_mirror.proofs.Ends.{all_off}
use Rattle.ram_mirror.proofs.Events.{and_more}
use Rattle.ram_mirror.proofs.Copies.{fault_step}
use Rattle.ram_mirror.proofs.Mends.{mended_step}
use Rattle.ram_mirror.proofs.mending.mend_block.Goals as goal

pub returns-in-Good-clause-cause : goal.returns-in-Good-clause-cause
returns-in-Good-clause-cause g c = λ side.
    subst (λ (o : ReadOut). MendsBlock (shown_by g.L.Sectors g.O.Sectors side c.args.lead.now c.args.other.now c.args.following.now) (shown_by g.L.Sectors g.O.Sectors side c.read-out.new.self c.args.other.now c.args.following.now) c.args.block o) (sym c.in-Good.is)
    (record { mid = shown_by g.L.Sectors g.O.Sectors side c.read-out.new.self c.args.other.now c.args.following.now; told = reads.Good; reads = (record { cause = c.in-Good.ensures.cause; quiet = c.in-Good.ensures.quiet; leaves = record { same_shape = c.read-out.ensures.same_shape; sound = g.met.L.Sectors.laws.sound c.read-out.new.self } }, refl); goes_on = (refl, refl) })

pub returns-in-Unread-clause-cause : goal.returns-in-Unread-clause-cause
returns-in-Unread-clause-cause g c = λ side. record {
  mid = shown_by g.L.Sectors g.O.Sectors side c.read-out.new.self c.args.other.now c.args.following.now;
  told = reads.Unread c.in-Unread.lba c.in-Unread.block;
  reads = (record { cause = c.in-Unread.ensures.cause; quiet = c.in-Unread.ensures.quiet; leaves = record { same_shape = c.read-out.ensures.same_shape; sound = g.met.L.Sectors.laws.sound c.read-out.new.self } }, refl);
  goes_on = c.mend_lack.ensures.cause side;
}

pub returns-in-Unread-clause-step : goal.returns-in-Unread-clause-step
returns-in-Unread-clause-step g c = λ side.
    mended_step (shown_by g.L.Sectors g.O.Sectors side c.args.lead.now c.args.other.now c.args.following.now) (shown_by g.L.Sectors g.O.Sectors side c.read-out.new.self c.args.other.now c.args.following.now) (shown_by g.L.Sectors g.O.Sectors side c.mend_lack.new.lead c.mend_lack.new.other c.mend_lack.new.following) c.requires.on refl
    (g.L.Sectors.stands c.args.lead.now) (g.L.Sectors.stands c.read-out.new.self) (g.L.Sectors.stands c.mend_lack.new.lead) (g.O.Sectors.stands c.args.other.now) (g.O.Sectors.stands c.mend_lack.new.other)
    (16 * c.args.block) 16 c.read-out.new.into c.in-Unread.lba c.in-Unread.block c.in-Unread.ensures.step c.mend_lack.result (c.mend_lack.ensures.step side)

pub returns-in-Unread-clause-underwent : goal.returns-in-Unread-clause-underwent
returns-in-Unread-clause-underwent g c =
    and_more g.L.Sectors g.O.Sectors g.met.L.Sectors.underwent_laws g.met.O.Sectors.underwent_laws c.args.lead.now c.read-out.new.self c.mend_lack.new.lead
    c.args.other.now c.args.other.now c.mend_lack.new.other (record { first = c.read-out.ensures.underwent; second = g.met.O.Sectors.underwent_laws.none c.args.other.now }) c.mend_lack.ensures.underwent

pub returns-in-Cut-clause-cause : goal.returns-in-Cut-clause-cause
returns-in-Cut-clause-cause g c = λ side.
    subst (λ (o : ReadOut). MendsBlock (shown_by g.L.Sectors g.O.Sectors side c.args.lead.now c.args.other.now c.args.following.now) (shown_by g.L.Sectors g.O.Sectors side c.read-out.new.self c.args.other.now c.turn_off.new.self) c.args.block o) (sym c.in-Cut.is)
    (record {
      mid = shown_by g.L.Sectors g.O.Sectors side c.read-out.new.self c.args.other.now c.args.following.now;
      told = reads.Cut;
      reads = (record { cause = c.in-Cut.ensures.cause; quiet = c.in-Cut.ensures.quiet; leaves = record { same_shape = c.read-out.ensures.same_shape; sound = g.met.L.Sectors.laws.sound c.read-out.new.self } }, refl);
      goes_on = (all_off (shown_by g.L.Sectors g.O.Sectors side c.read-out.new.self c.args.other.now c.args.following.now) c.turn_off.new.self.on c.turn_off.new.self.up (entries_of c.turn_off.new.self.table) (leading_of c.turn_off.new.self.who) c.turn_off.ensures.on c.turn_off.ensures.up (ap entries_of c.turn_off.ensures.table) (ap leading_of c.turn_off.ensures.who), refl);
    })

pub returns-in-Fault-clause-cause : goal.returns-in-Fault-clause-cause
returns-in-Fault-clause-cause g c = λ side.
    subst (λ (o : ReadOut). MendsBlock (shown_by g.L.Sectors g.O.Sectors side c.args.lead.now c.args.other.now c.args.following.now) (shown_by g.L.Sectors g.O.Sectors side c.read-out.new.self c.args.other.now c.turn_off-in-Fault.new.self) c.args.block o) (sym c.in-Fault.is)
    (record {
      mid = shown_by g.L.Sectors g.O.Sectors side c.read-out.new.self c.args.other.now c.args.following.now;
      told = reads.Fault;
      reads = (record { cause = c.in-Fault.ensures.cause; quiet = c.in-Fault.ensures.quiet; leaves = record { same_shape = c.read-out.ensures.same_shape; sound = g.met.L.Sectors.laws.sound c.read-out.new.self } }, refl);
      goes_on = (all_off (shown_by g.L.Sectors g.O.Sectors side c.read-out.new.self c.args.other.now c.args.following.now) c.turn_off-in-Fault.new.self.on c.turn_off-in-Fault.new.self.up (entries_of c.turn_off-in-Fault.new.self.table) (leading_of c.turn_off-in-Fault.new.self.who) c.turn_off-in-Fault.ensures.on c.turn_off-in-Fault.ensures.up (ap entries_of c.turn_off-in-Fault.ensures.table) (ap leading_of c.turn_off-in-Fault.ensures.who), refl);
    })

pub returns-in-Fault-clause-step : goal.returns-in-Fault-clause-step
returns-in-Fault-clause-step g c = λ side s so.
    subst (λ (r : ReadOut). VerifyStep (stands_by g.L.Sectors g.O.Sectors side c.read-out.new.self c.args.other.now c.turn_off-in-Fault.new.self) s r) (sym c.in-Fault.is)
    (fault_step (shown_by g.L.Sectors g.O.Sectors side c.args.lead.now c.args.other.now c.args.following.now) (shown_by g.L.Sectors g.O.Sectors side c.read-out.new.self c.args.other.now c.turn_off-in-Fault.new.self) c.requires.on (g.L.Sectors.stands c.args.lead.now) (g.L.Sectors.stands c.read-out.new.self) (g.O.Sectors.stands c.args.other.now)
    (16 * c.args.block) 16 c.read-out.new.into c.in-Fault.ensures.step s so)

pub returns-in-Fault-clause-underwent : goal.returns-in-Fault-clause-underwent
returns-in-Fault-clause-underwent g c = record { first = c.read-out.ensures.underwent; second = g.met.O.Sectors.underwent_laws.none c.args.other.now }
