use Rattle.std.proofs.Common.{◌≡◌, Bool, true, false, sym, subst}
use Rattle.std.specs.Prelude.{MatchBool}
use Rattle.model_sectors.specs.declared.ReadOut.TheVariants as reads
use Rattle.model_mirror.specs.Reads.{ReadsWithSides, MirrorReadCause}
use Rattle.ram_mirror.specs.Sides.{shown_by}
use Rattle.ram_mirror.specs.Mirrors.{roles}
use Rattle.ram_mirror.proofs.mirror.Mirror.read.Goals as goal

pub returns-in-Given-read_on-clause-cause : goal.returns-in-Given-read_on-clause-cause
returns-in-Given-read_on-clause-cause g c =
    let old = shown_by g.B.Sectors g.A.Sectors false c.args.self.now.b c.args.self.now.a c.args.self.now.following in
    let new = shown_by g.A.Sectors g.B.Sectors true c.read_on-else-self.new.other c.read_on-else-self.new.lead c.read_on-else-self.new.following in
    let out = c.in-Given-read_on.out in
    subst (λ (l : Bool). MirrorReadCause (roles g.A.Sectors g.B.Sectors l c.args.self.now.a c.args.self.now.b c.args.self.now.following) new c.args.lba c.args.n out) (sym c.if-self.false)
    (subst (λ (b : Bool). MatchBool b (ReadsWithSides old new c.args.lba c.args.n out) ((out ≡ reads.Off) × (new ≡ old))) (sym c.if-not-self.false) (c.in-Given-read_on.ensures.cause false))
