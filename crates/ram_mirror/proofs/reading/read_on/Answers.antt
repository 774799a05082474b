use Rattle.std.proofs.Common.{not, inl, inr, ap, subst}
use Rattle.model_mirror.specs.Reads.{read_is_stopped}
use Rattle.model_mirror.specs.Taking.{TakeStep}
use Rattle.ram_mirror.specs.Sides.{shown_by, TakesAs}
use Rattle.ram_mirror.proofs.ReadKept.{read_stops, kept_read, stopped_read, given_read}
use Rattle.ram_mirror.proofs.reading.read_on.Goals as goal

pub returns-in-Good-clause-cause : goal.returns-in-Good-clause-cause
returns-in-Good-clause-cause g c = λ side. inl (ap read_is_stopped c.in-Good.is, c.read_led-out.ensures.cause side)

pub returns-in-Good-clause-step : goal.returns-in-Good-clause-step
returns-in-Good-clause-step g c = λ side. kept_read (shown_by g.L.Sectors g.O.Sectors side c.args.lead.now c.args.other.now c.args.following.now) (shown_by g.L.Sectors g.O.Sectors side c.read_led-out.new.lead c.read_led-out.new.other c.read_led-out.new.following) (g.L.Sectors.stands c.args.lead.now) (g.L.Sectors.stands c.read_led-out.new.lead) (g.O.Sectors.stands c.args.other.now) (g.O.Sectors.stands c.read_led-out.new.other) c.args.lba c.args.n c.read_led-out.new.into c.requires.on c.read_led-out.ensures.on c.read_led-out.result (c.read_led-out.ensures.gives side) c.read_led-out.ensures.off (ap read_is_stopped c.in-Good.is)

pub returns-in-NotFormatted-clause-cause : goal.returns-in-NotFormatted-clause-cause
returns-in-NotFormatted-clause-cause g c = λ side. inl (ap read_is_stopped c.in-NotFormatted.is, c.read_led-out.ensures.cause side)

pub returns-in-NotFormatted-clause-step : goal.returns-in-NotFormatted-clause-step
returns-in-NotFormatted-clause-step g c = λ side. kept_read (shown_by g.L.Sectors g.O.Sectors side c.args.lead.now c.args.other.now c.args.following.now) (shown_by g.L.Sectors g.O.Sectors side c.read_led-out.new.lead c.read_led-out.new.other c.read_led-out.new.following) (g.L.Sectors.stands c.args.lead.now) (g.L.Sectors.stands c.read_led-out.new.lead) (g.O.Sectors.stands c.args.other.now) (g.O.Sectors.stands c.read_led-out.new.other) c.args.lba c.args.n c.read_led-out.new.into c.requires.on c.read_led-out.ensures.on c.read_led-out.result (c.read_led-out.ensures.gives side) c.read_led-out.ensures.off (ap read_is_stopped c.in-NotFormatted.is)

pub returns-in-Range-clause-cause : goal.returns-in-Range-clause-cause
returns-in-Range-clause-cause g c = λ side. inl (ap read_is_stopped c.in-Range.is, c.read_led-out.ensures.cause side)

pub returns-in-Range-clause-step : goal.returns-in-Range-clause-step
returns-in-Range-clause-step g c = λ side. kept_read (shown_by g.L.Sectors g.O.Sectors side c.args.lead.now c.args.other.now c.args.following.now) (shown_by g.L.Sectors g.O.Sectors side c.read_led-out.new.lead c.read_led-out.new.other c.read_led-out.new.following) (g.L.Sectors.stands c.args.lead.now) (g.L.Sectors.stands c.read_led-out.new.lead) (g.O.Sectors.stands c.args.other.now) (g.O.Sectors.stands c.read_led-out.new.other) c.args.lba c.args.n c.read_led-out.new.into c.requires.on c.read_led-out.ensures.on c.read_led-out.result (c.read_led-out.ensures.gives side) c.read_led-out.ensures.off (ap read_is_stopped c.in-Range.is)

pub returns-in-Unread-clause-cause : goal.returns-in-Unread-clause-cause
returns-in-Unread-clause-cause g c = λ side. inl (ap read_is_stopped c.in-Unread.is, c.read_led-out.ensures.cause side)

pub returns-in-Unread-clause-step : goal.returns-in-Unread-clause-step
returns-in-Unread-clause-step g c = λ side. kept_read (shown_by g.L.Sectors g.O.Sectors side c.args.lead.now c.args.other.now c.args.following.now) (shown_by g.L.Sectors g.O.Sectors side c.read_led-out.new.lead c.read_led-out.new.other c.read_led-out.new.following) (g.L.Sectors.stands c.args.lead.now) (g.L.Sectors.stands c.read_led-out.new.lead) (g.O.Sectors.stands c.args.other.now) (g.O.Sectors.stands c.read_led-out.new.other) c.args.lba c.args.n c.read_led-out.new.into c.requires.on c.read_led-out.ensures.on c.read_led-out.result (c.read_led-out.ensures.gives side) c.read_led-out.ensures.off (ap read_is_stopped c.in-Unread.is)

pub returns-in-Off-clause-cause : goal.returns-in-Off-clause-cause
returns-in-Off-clause-cause g c = λ side. inl (ap read_is_stopped c.in-Off.is, c.read_led-out.ensures.cause side)

pub returns-in-Off-clause-step : goal.returns-in-Off-clause-step
returns-in-Off-clause-step g c = λ side. kept_read (shown_by g.L.Sectors g.O.Sectors side c.args.lead.now c.args.other.now c.args.following.now) (shown_by g.L.Sectors g.O.Sectors side c.read_led-out.new.lead c.read_led-out.new.other c.read_led-out.new.following) (g.L.Sectors.stands c.args.lead.now) (g.L.Sectors.stands c.read_led-out.new.lead) (g.O.Sectors.stands c.args.other.now) (g.O.Sectors.stands c.read_led-out.new.other) c.args.lba c.args.n c.read_led-out.new.into c.requires.on c.read_led-out.ensures.on c.read_led-out.result (c.read_led-out.ensures.gives side) c.read_led-out.ensures.off (ap read_is_stopped c.in-Off.is)

pub returns-then-not-take_lead-clause-cause : goal.returns-then-not-take_lead-clause-cause
returns-then-not-take_lead-clause-cause g c = λ side.
    inr (inr (record {
      mid = (shown_by g.L.Sectors g.O.Sectors side c.read_led-out.new.lead c.read_led-out.new.other c.read_led-out.new.following);
      stopped = read_stops c.read_led-out.result c.in-Cut.is;
      led = c.read_led-out.ensures.cause side;
      takes = (subst (TakesAs side (g.L.Sectors.shows c.read_led-out.new.lead) (g.O.Sectors.shows c.read_led-out.new.other) c.read_led-out.new.following (g.O.Sectors.shows c.take_lead.new.other) c.take_lead.new.following) c.if-not-take_lead.true (c.take_lead.ensures.takes side (g.L.Sectors.shows c.read_led-out.new.lead)));
    }))

pub returns-then-not-take_lead-clause-step : goal.returns-then-not-take_lead-clause-step
returns-then-not-take_lead-clause-step g c = λ side.
    stopped_read (shown_by g.L.Sectors g.O.Sectors side c.args.lead.now c.args.other.now c.args.following.now) (shown_by g.L.Sectors g.O.Sectors side c.read_led-out.new.lead c.read_led-out.new.other c.read_led-out.new.following) (g.L.Sectors.stands c.args.lead.now) (g.L.Sectors.stands c.read_led-out.new.lead) (g.O.Sectors.stands c.args.other.now) (g.O.Sectors.stands c.read_led-out.new.other) c.args.lba c.args.n c.read_led-out.new.into c.requires.on c.read_led-out.ensures.on c.read_led-out.result (c.read_led-out.ensures.gives side) c.read_led-out.ensures.off
    (shown_by g.L.Sectors g.O.Sectors side c.read_led-out.new.lead c.take_lead.new.other c.take_lead.new.following) (g.O.Sectors.stands c.take_lead.new.other) (subst (TakeStep (g.O.Sectors.stands c.read_led-out.new.other) (g.O.Sectors.stands c.take_lead.new.other)) c.if-not-take_lead.true c.take_lead.ensures.step) (read_stops c.read_led-out.result c.in-Cut.is)

pub returns-else-not-take_lead-clause-cause : goal.returns-else-not-take_lead-clause-cause
returns-else-not-take_lead-clause-cause g c = λ side.
    inr (inl (record {
      mid = (shown_by g.L.Sectors g.O.Sectors side c.read_led-out.new.lead c.read_led-out.new.other c.read_led-out.new.following);
      lost = c.read_led-out.result;
      stopped = read_stops c.read_led-out.result c.in-Cut.is;
      led = c.read_led-out.ensures.cause side;
      late = (shown_by g.O.Sectors g.L.Sectors (not side) c.take_lead.new.other c.read_led-out.new.lead c.take_lead.new.following);
      takes = (subst (TakesAs side (g.L.Sectors.shows c.read_led-out.new.lead) (g.O.Sectors.shows c.read_led-out.new.other) c.read_led-out.new.following (g.O.Sectors.shows c.take_lead.new.other) c.take_lead.new.following) c.if-not-take_lead.false (c.take_lead.ensures.takes side (g.L.Sectors.shows c.read_led-out.new.lead)));
      reads = c.read_alone.ensures.reads;
      new_is = c.read_alone.ensures.now (not side) (g.L.Sectors.shows c.read_led-out.new.lead);
    }))

pub returns-else-not-take_lead-clause-step : goal.returns-else-not-take_lead-clause-step
returns-else-not-take_lead-clause-step g c = λ side.
    given_read (shown_by g.L.Sectors g.O.Sectors side c.args.lead.now c.args.other.now c.args.following.now) (shown_by g.L.Sectors g.O.Sectors side c.read_led-out.new.lead c.read_led-out.new.other c.read_led-out.new.following) (g.L.Sectors.stands c.args.lead.now) (g.L.Sectors.stands c.read_led-out.new.lead) (g.O.Sectors.stands c.args.other.now) (g.O.Sectors.stands c.read_led-out.new.other) c.args.lba c.args.n c.read_led-out.new.into c.requires.on c.read_led-out.ensures.on c.read_led-out.result (c.read_led-out.ensures.gives side) c.read_led-out.ensures.off
    (shown_by g.O.Sectors g.L.Sectors (not side) c.take_lead.new.other c.read_led-out.new.lead c.take_lead.new.following) (shown_by g.O.Sectors g.L.Sectors (not side) c.read_alone.new.lead c.read_led-out.new.lead c.read_alone.new.following) c.read_alone.new.into c.read_alone.result (g.O.Sectors.stands c.take_lead.new.other) (g.O.Sectors.stands c.read_alone.new.lead)
    (read_stops c.read_led-out.result c.in-Cut.is) (subst (TakesAs side (g.L.Sectors.shows c.read_led-out.new.lead) (g.O.Sectors.shows c.read_led-out.new.other) c.read_led-out.new.following (g.O.Sectors.shows c.take_lead.new.other) c.take_lead.new.following) c.if-not-take_lead.false (c.take_lead.ensures.takes side (g.L.Sectors.shows c.read_led-out.new.lead))) (subst (TakeStep (g.O.Sectors.stands c.read_led-out.new.other) (g.O.Sectors.stands c.take_lead.new.other)) c.if-not-take_lead.false c.take_lead.ensures.step) c.read_alone.ensures.step (c.read_alone.ensures.now (not side) (g.L.Sectors.shows c.read_led-out.new.lead))
