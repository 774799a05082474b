use Rattle.std.proofs.Common.{◌*◌, sym, ap, ◌∙◌}
use Rattle.model_sectors.specs.declared.ReadOut.TheVariants as reads
use Rattle.model_mirror.specs.Reads.{up_after_read}
use Rattle.model_mirror.proofs.Mends.{asked_followed, gave_block, back_stands}
use Rattle.ram_mirror.specs.Tables.{entries_of}
use Rattle.ram_mirror.specs.Notes.{leading_of}
use Rattle.ram_mirror.specs.Sides.{shown_by}
use Rattle.ram_mirror.proofs.Mends.{asked_as, other_lacks}
use Rattle.ram_mirror.proofs.mending.mend_lack.Goals as goal

pub returns-in-Good-clause-cause : goal.returns-in-Good-clause-cause
returns-in-Good-clause-cause g c = λ side. record {
  late = shown_by g.L.Sectors g.O.Sectors side c.args.lead.now c.read-told.new.self c.after_read.new.self;
  told = reads.Good;
  reads = record { cause = c.in-Good.ensures.cause; quiet = c.in-Good.ensures.quiet; leaves = record { same_shape = c.read-told.ensures.same_shape; sound = g.met.O.Sectors.laws.sound c.read-told.new.self } };
  late_is = asked_as (shown_by g.L.Sectors g.O.Sectors side c.args.lead.now c.args.other.now c.args.following.now) (g.O.Sectors.shows c.read-told.new.self) c.after_read.new.self.on c.after_read.new.self.up (entries_of c.after_read.new.self.table) (leading_of c.after_read.new.self.who) reads.Good
      c.after_read.ensures.on (c.after_read.ensures.up ∙ ap up_after_read c.in-Good.is) (ap entries_of c.after_read.ensures.table) (ap leading_of c.after_read.ensures.who);
  ends = c.write_back.ensures.cause side (g.O.Sectors.shows c.read-told.new.self);
}

pub returns-in-Good-clause-step : goal.returns-in-Good-clause-step
returns-in-Good-clause-step g c = λ side disc so followed.
    back_stands (shown_by g.L.Sectors g.O.Sectors side c.args.lead.now c.read-told.new.self c.after_read.new.self) (shown_by g.L.Sectors g.O.Sectors side c.write_back.new.lead c.read-told.new.self c.write_back.new.following) c.args.block
    (g.L.Sectors.stands c.write_back.new.lead) (g.O.Sectors.stands c.read-told.new.self) disc (c.after_read.ensures.on ∙ c.requires.on)
    (asked_followed (shown_by g.L.Sectors g.O.Sectors side c.args.lead.now c.args.other.now c.args.following.now) (shown_by g.L.Sectors g.O.Sectors side c.args.lead.now c.read-told.new.self c.after_read.new.self) (g.O.Sectors.stands c.args.other.now) (g.O.Sectors.stands c.read-told.new.self) disc (16 * c.args.block) 16 c.read-told.new.into reads.Good
    (asked_as (shown_by g.L.Sectors g.O.Sectors side c.args.lead.now c.args.other.now c.args.following.now) (g.O.Sectors.shows c.read-told.new.self) c.after_read.new.self.on c.after_read.new.self.up (entries_of c.after_read.new.self.table) (leading_of c.after_read.new.self.who) reads.Good
    c.after_read.ensures.on (c.after_read.ensures.up ∙ ap up_after_read c.in-Good.is) (ap entries_of c.after_read.ensures.table) (ap leading_of c.after_read.ensures.who))
    c.in-Good.ensures.step c.requires.up followed)
    c.write_back.result (c.write_back.ensures.cause side (g.O.Sectors.shows c.read-told.new.self))
    (c.write_back.ensures.step disc so (gave_block (shown_by g.L.Sectors g.O.Sectors side c.args.lead.now c.args.other.now c.args.following.now) (g.O.Sectors.stands c.args.other.now) (g.O.Sectors.stands c.read-told.new.self) disc c.args.block c.read-told.new.into c.in-Good.ensures.step c.requires.up c.requires.together followed))

pub returns-in-NotFormatted-clause-cause : goal.returns-in-NotFormatted-clause-cause
returns-in-NotFormatted-clause-cause g c = λ side. other_lacks (shown_by g.L.Sectors g.O.Sectors side c.args.lead.now c.args.other.now c.args.following.now) (shown_by g.L.Sectors g.O.Sectors side c.args.lead.now c.read-told.new.self c.after_read.new.self) c.args.block c.read-told.result (λ e. let w = sym e ∙ c.in-NotFormatted.is in cc)
    (record { cause = c.read-told.ensures.cause; quiet = c.read-told.ensures.quiet; leaves = record { same_shape = c.read-told.ensures.same_shape; sound = g.met.O.Sectors.laws.sound c.read-told.new.self } })
    (asked_as (shown_by g.L.Sectors g.O.Sectors side c.args.lead.now c.args.other.now c.args.following.now) (g.O.Sectors.shows c.read-told.new.self) c.after_read.new.self.on c.after_read.new.self.up (entries_of c.after_read.new.self.table) (leading_of c.after_read.new.self.who) c.read-told.result
    c.after_read.ensures.on c.after_read.ensures.up (ap entries_of c.after_read.ensures.table) (ap leading_of c.after_read.ensures.who))

pub returns-in-Range-clause-cause : goal.returns-in-Range-clause-cause
returns-in-Range-clause-cause g c = λ side. other_lacks (shown_by g.L.Sectors g.O.Sectors side c.args.lead.now c.args.other.now c.args.following.now) (shown_by g.L.Sectors g.O.Sectors side c.args.lead.now c.read-told.new.self c.after_read.new.self) c.args.block c.read-told.result (λ e. let w = sym e ∙ c.in-Range.is in cc)
    (record { cause = c.read-told.ensures.cause; quiet = c.read-told.ensures.quiet; leaves = record { same_shape = c.read-told.ensures.same_shape; sound = g.met.O.Sectors.laws.sound c.read-told.new.self } })
    (asked_as (shown_by g.L.Sectors g.O.Sectors side c.args.lead.now c.args.other.now c.args.following.now) (g.O.Sectors.shows c.read-told.new.self) c.after_read.new.self.on c.after_read.new.self.up (entries_of c.after_read.new.self.table) (leading_of c.after_read.new.self.who) c.read-told.result
    c.after_read.ensures.on c.after_read.ensures.up (ap entries_of c.after_read.ensures.table) (ap leading_of c.after_read.ensures.who))

pub returns-in-Unread-clause-cause : goal.returns-in-Unread-clause-cause
returns-in-Unread-clause-cause g c = λ side. other_lacks (shown_by g.L.Sectors g.O.Sectors side c.args.lead.now c.args.other.now c.args.following.now) (shown_by g.L.Sectors g.O.Sectors side c.args.lead.now c.read-told.new.self c.after_read.new.self) c.args.block c.read-told.result (λ e. let w = sym e ∙ c.in-Unread.is in cc)
    (record { cause = c.read-told.ensures.cause; quiet = c.read-told.ensures.quiet; leaves = record { same_shape = c.read-told.ensures.same_shape; sound = g.met.O.Sectors.laws.sound c.read-told.new.self } })
    (asked_as (shown_by g.L.Sectors g.O.Sectors side c.args.lead.now c.args.other.now c.args.following.now) (g.O.Sectors.shows c.read-told.new.self) c.after_read.new.self.on c.after_read.new.self.up (entries_of c.after_read.new.self.table) (leading_of c.after_read.new.self.who) c.read-told.result
    c.after_read.ensures.on c.after_read.ensures.up (ap entries_of c.after_read.ensures.table) (ap leading_of c.after_read.ensures.who))

pub returns-in-Cut-clause-cause : goal.returns-in-Cut-clause-cause
returns-in-Cut-clause-cause g c = λ side. other_lacks (shown_by g.L.Sectors g.O.Sectors side c.args.lead.now c.args.other.now c.args.following.now) (shown_by g.L.Sectors g.O.Sectors side c.args.lead.now c.read-told.new.self c.after_read.new.self) c.args.block c.read-told.result (λ e. let w = sym e ∙ c.in-Cut.is in cc)
    (record { cause = c.read-told.ensures.cause; quiet = c.read-told.ensures.quiet; leaves = record { same_shape = c.read-told.ensures.same_shape; sound = g.met.O.Sectors.laws.sound c.read-told.new.self } })
    (asked_as (shown_by g.L.Sectors g.O.Sectors side c.args.lead.now c.args.other.now c.args.following.now) (g.O.Sectors.shows c.read-told.new.self) c.after_read.new.self.on c.after_read.new.self.up (entries_of c.after_read.new.self.table) (leading_of c.after_read.new.self.who) c.read-told.result
    c.after_read.ensures.on c.after_read.ensures.up (ap entries_of c.after_read.ensures.table) (ap leading_of c.after_read.ensures.who))

pub returns-in-Off-clause-cause : goal.returns-in-Off-clause-cause
returns-in-Off-clause-cause g c = λ side. other_lacks (shown_by g.L.Sectors g.O.Sectors side c.args.lead.now c.args.other.now c.args.following.now) (shown_by g.L.Sectors g.O.Sectors side c.args.lead.now c.read-told.new.self c.after_read.new.self) c.args.block c.read-told.result (λ e. let w = sym e ∙ c.in-Off.is in cc)
    (record { cause = c.read-told.ensures.cause; quiet = c.read-told.ensures.quiet; leaves = record { same_shape = c.read-told.ensures.same_shape; sound = g.met.O.Sectors.laws.sound c.read-told.new.self } })
    (asked_as (shown_by g.L.Sectors g.O.Sectors side c.args.lead.now c.args.other.now c.args.following.now) (g.O.Sectors.shows c.read-told.new.self) c.after_read.new.self.on c.after_read.new.self.up (entries_of c.after_read.new.self.table) (leading_of c.after_read.new.self.who) c.read-told.result
    c.after_read.ensures.on c.after_read.ensures.up (ap entries_of c.after_read.ensures.table) (ap leading_of c.after_read.ensures.who))

pub returns-in-Fault-clause-cause : goal.returns-in-Fault-clause-cause
returns-in-Fault-clause-cause g c = λ side. other_lacks (shown_by g.L.Sectors g.O.Sectors side c.args.lead.now c.args.other.now c.args.following.now) (shown_by g.L.Sectors g.O.Sectors side c.args.lead.now c.read-told.new.self c.after_read.new.self) c.args.block c.read-told.result (λ e. let w = sym e ∙ c.in-Fault.is in cc)
    (record { cause = c.read-told.ensures.cause; quiet = c.read-told.ensures.quiet; leaves = record { same_shape = c.read-told.ensures.same_shape; sound = g.met.O.Sectors.laws.sound c.read-told.new.self } })
    (asked_as (shown_by g.L.Sectors g.O.Sectors side c.args.lead.now c.args.other.now c.args.following.now) (g.O.Sectors.shows c.read-told.new.self) c.after_read.new.self.on c.after_read.new.self.up (entries_of c.after_read.new.self.table) (leading_of c.after_read.new.self.who) c.read-told.result
    c.after_read.ensures.on c.after_read.ensures.up (ap entries_of c.after_read.ensures.table) (ap leading_of c.after_read.ensures.who))

pub returns-in-Fault-clause-underwent : goal.returns-in-Fault-clause-underwent
returns-in-Fault-clause-underwent g c = record { first = g.met.L.Sectors.underwent_laws.none c.args.lead.now; second = c.read-told.ensures.underwent }
