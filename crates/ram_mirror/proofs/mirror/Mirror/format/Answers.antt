use Rattle.std.proofs.Common.{◌≡◌, Bool, true, false, sym, subst}
use Rattle.std.specs.Prelude.{MatchBool}
use Rattle.model_drive.specs.declared.FormatOut.TheVariants as formats
use Rattle.model_mirror.specs.Whole.{FormatsOn, MirrorFormatCause}
use Rattle.ram_mirror.specs.Sides.{shown_by}
use Rattle.ram_mirror.specs.Mirrors.{roles}
use Rattle.ram_mirror.proofs.mirror.Mirror.format.Goals as goal

pub returns-then-self-clause-cause : goal.returns-then-self-clause-cause
returns-then-self-clause-cause g c =
    let old = shown_by g.A.Sectors g.B.Sectors true c.args.self.now.a c.args.self.now.b c.args.self.now.following in
    let new = shown_by g.A.Sectors g.B.Sectors true c.format_on.new.lead c.format_on.new.other c.format_on.new.following in
    let out = c.format_on.result in
    subst (λ (l : Bool). MirrorFormatCause (roles g.A.Sectors g.B.Sectors l c.args.self.now.a c.args.self.now.b c.args.self.now.following) (roles g.A.Sectors g.B.Sectors l c.format_on.new.lead c.format_on.new.other c.format_on.new.following) out) (sym c.if-self.true)
    (subst (λ (b : Bool). MatchBool b (FormatsOn old new out) ((out ≡ formats.Off) × (new ≡ old))) (sym c.if-not-self.false) (c.format_on.ensures.cause true))

pub returns-else-self-clause-cause : goal.returns-else-self-clause-cause
returns-else-self-clause-cause g c =
    let old = shown_by g.B.Sectors g.A.Sectors false c.args.self.now.b c.args.self.now.a c.args.self.now.following in
    let new = shown_by g.B.Sectors g.A.Sectors false c.format_on-else-self.new.lead c.format_on-else-self.new.other c.format_on-else-self.new.following in
    let out = c.format_on-else-self.result in
    subst (λ (l : Bool). MirrorFormatCause (roles g.A.Sectors g.B.Sectors l c.args.self.now.a c.args.self.now.b c.args.self.now.following) (roles g.A.Sectors g.B.Sectors l c.format_on-else-self.new.other c.format_on-else-self.new.lead c.format_on-else-self.new.following) out) (sym c.if-self.false)
    (subst (λ (b : Bool). MatchBool b (FormatsOn old new out) ((out ≡ formats.Off) × (new ≡ old))) (sym c.if-not-self.false) (c.format_on-else-self.ensures.cause false))
