use Rattle.std.proofs.Common.{Bool, true, false, not, sym, subst}
use Rattle.model_mirror.specs.Giving.{GiveLeadCause}
use Rattle.ram_mirror.specs.Mirrors.{roles}
use Rattle.ram_mirror.proofs.TurnedBack.{over_a, over_b}
use Rattle.ram_mirror.proofs.mirror.Mirror.give_lead.Goals as goal

pub returns-then-self-clause-cause : goal.returns-then-self-clause-cause
returns-then-self-clause-cause g c =
    subst (λ (t : Bool). GiveLeadCause (roles g.A.Sectors g.B.Sectors c.args.self.now.lead_is_a c.args.self.now.a c.args.self.now.b c.args.self.now.following) (roles g.A.Sectors g.B.Sectors c.args.self.now.lead_is_a c.give_to.new.side c.args.self.now.b c.give_to.new.following) t c.give_to.result) (sym c.if-to_a.true)
    (subst (λ (l : Bool). GiveLeadCause (roles g.A.Sectors g.B.Sectors l c.args.self.now.a c.args.self.now.b c.args.self.now.following) (roles g.A.Sectors g.B.Sectors l c.give_to.new.side c.args.self.now.b c.give_to.new.following) true c.give_to.result) (sym c.if-self.true) (c.give_to.ensures.cause true (g.B.Sectors.shows c.args.self.now.b)))

pub returns-then-to_a-clause-cause : goal.returns-then-to_a-clause-cause
returns-then-to_a-clause-cause g c =
    subst (λ (t : Bool). GiveLeadCause (roles g.A.Sectors g.B.Sectors c.args.self.now.lead_is_a c.args.self.now.a c.args.self.now.b c.args.self.now.following) (roles g.A.Sectors g.B.Sectors c.is_given-self.result c.give_over-out.new.side c.args.self.now.b c.give_over-out.new.following) t c.give_over-out.result) (sym c.if-to_a.true)
    (subst (λ (l : Bool). GiveLeadCause (roles g.A.Sectors g.B.Sectors l c.args.self.now.a c.args.self.now.b c.args.self.now.following) (roles g.A.Sectors g.B.Sectors c.is_given-self.result c.give_over-out.new.side c.args.self.now.b c.give_over-out.new.following) true c.give_over-out.result) (sym c.if-self.false)
    (subst (λ (l : Bool). GiveLeadCause (roles g.A.Sectors g.B.Sectors false c.args.self.now.a c.args.self.now.b c.args.self.now.following) (roles g.A.Sectors g.B.Sectors l c.give_over-out.new.side c.args.self.now.b c.give_over-out.new.following) true c.give_over-out.result) (sym c.is_given-self.ensures) (over_a g.A.Sectors g.B.Sectors c.args.self.now.a c.give_over-out.new.side c.args.self.now.b c.args.self.now.following c.give_over-out.new.following c.give_over-out.result (c.give_over-out.ensures.cause false (g.B.Sectors.shows c.args.self.now.b)))))

pub returns-then-not-self-clause-cause : goal.returns-then-not-self-clause-cause
returns-then-not-self-clause-cause g c =
    subst (λ (t : Bool). GiveLeadCause (roles g.A.Sectors g.B.Sectors c.args.self.now.lead_is_a c.args.self.now.a c.args.self.now.b c.args.self.now.following) (roles g.A.Sectors g.B.Sectors c.args.self.now.lead_is_a c.args.self.now.a c.give_to-then-not-self.new.side c.give_to-then-not-self.new.following) t c.give_to-then-not-self.result) (sym c.if-to_a.false)
    (subst (λ (l : Bool). GiveLeadCause (roles g.A.Sectors g.B.Sectors l c.args.self.now.a c.args.self.now.b c.args.self.now.following) (roles g.A.Sectors g.B.Sectors l c.args.self.now.a c.give_to-then-not-self.new.side c.give_to-then-not-self.new.following) false c.give_to-then-not-self.result) (sym c.if-not-self.true) (c.give_to-then-not-self.ensures.cause false (g.A.Sectors.shows c.args.self.now.a)))

pub returns-clause-cause : goal.returns-clause-cause
returns-clause-cause g c =
    subst (λ (t : Bool). GiveLeadCause (roles g.A.Sectors g.B.Sectors c.args.self.now.lead_is_a c.args.self.now.a c.args.self.now.b c.args.self.now.following) (roles g.A.Sectors g.B.Sectors (not c.is_given.result) c.args.self.now.a c.give_over-out-2.new.side c.give_over-out-2.new.following) t c.give_over-out-2.result) (sym c.if-to_a.false)
    (subst (λ (l : Bool). GiveLeadCause (roles g.A.Sectors g.B.Sectors l c.args.self.now.a c.args.self.now.b c.args.self.now.following) (roles g.A.Sectors g.B.Sectors (not c.is_given.result) c.args.self.now.a c.give_over-out-2.new.side c.give_over-out-2.new.following) false c.give_over-out-2.result) (sym c.if-not-self.false)
    (subst (λ (l : Bool). GiveLeadCause (roles g.A.Sectors g.B.Sectors true c.args.self.now.a c.args.self.now.b c.args.self.now.following) (roles g.A.Sectors g.B.Sectors (not l) c.args.self.now.a c.give_over-out-2.new.side c.give_over-out-2.new.following) false c.give_over-out-2.result) (sym (c.is_given.ensures)) (over_b g.A.Sectors g.B.Sectors c.args.self.now.a c.args.self.now.b c.give_over-out-2.new.side c.args.self.now.following c.give_over-out-2.new.following c.give_over-out-2.result (c.give_over-out-2.ensures.cause true (g.A.Sectors.shows c.args.self.now.a)))))
