use Rattle.std.proofs.Common.{◌≡◌, Bool, true, false, sym, subst}
use Rattle.std.specs.Prelude.{MatchBool}
use Rattle.model_mirror.specs.declared.Resync.TheVariants as resyncs
use Rattle.model_mirror.specs.Whole.{ResyncsOn, ResyncCause}
use Rattle.ram_mirror.specs.Sides.{shown_by}
use Rattle.ram_mirror.specs.Mirrors.{roles}
use Rattle.ram_mirror.proofs.mirror.Mirror.resync.Goals as goal

pub returns-then-self-clause-cause : goal.returns-then-self-clause-cause
returns-then-self-clause-cause g c =
    let old = shown_by g.A.Sectors g.B.Sectors true c.args.self.now.a c.args.self.now.b c.args.self.now.following in
    let new = shown_by g.A.Sectors g.B.Sectors true c.resync_on.new.lead c.resync_on.new.other c.resync_on.new.following in
    let out = c.resync_on.result in
    subst (λ (l : Bool). ResyncCause (roles g.A.Sectors g.B.Sectors l c.args.self.now.a c.args.self.now.b c.args.self.now.following) (roles g.A.Sectors g.B.Sectors l c.resync_on.new.lead c.resync_on.new.other c.resync_on.new.following) out) (sym c.if-self.true)
    (subst (λ (b : Bool). MatchBool b (ResyncsOn old new out) ((out ≡ resyncs.Off) × (new ≡ old))) (sym c.if-not-self.false) (c.resync_on.ensures.cause true))

pub returns-else-self-clause-cause : goal.returns-else-self-clause-cause
returns-else-self-clause-cause g c =
    let old = shown_by g.B.Sectors g.A.Sectors false c.args.self.now.b c.args.self.now.a c.args.self.now.following in
    let new = shown_by g.B.Sectors g.A.Sectors false c.resync_on-else-self.new.lead c.resync_on-else-self.new.other c.resync_on-else-self.new.following in
    let out = c.resync_on-else-self.result in
    subst (λ (l : Bool). ResyncCause (roles g.A.Sectors g.B.Sectors l c.args.self.now.a c.args.self.now.b c.args.self.now.following) (roles g.A.Sectors g.B.Sectors l c.resync_on-else-self.new.other c.resync_on-else-self.new.lead c.resync_on-else-self.new.following) out) (sym c.if-self.false)
    (subst (λ (b : Bool). MatchBool b (ResyncsOn old new out) ((out ≡ resyncs.Off) × (new ≡ old))) (sym c.if-not-self.false) (c.resync_on-else-self.ensures.cause false))
