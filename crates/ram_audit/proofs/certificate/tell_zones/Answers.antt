use Rattle.std.specs.Prelude.{Option, List, ℕ}
use Rattle.std.proofs.Common.{sym, ap, ◌∙◌, subst}
use Rattle.std.proofs.lemmas.Bool.{true≢false}
use Rattle.model_geometry.specs.declared.kinds.LayoutKind.TheVariants.{EachZone}
use Rattle.model_geometry.specs.Geometry.{Shape, total}
use Rattle.ram_image.specs.Medium.{bytes_in}
use Rattle.ram_audit.specs.Telling.{NoneFound, AreToldOf}
use Rattle.ram_audit.proofs.Leaving.{looks_none, looks_then, fails_then}
use Rattle.ram_audit.proofs.Adding.{by_cases}
use Rattle.ram_audit.proofs.Certifying.{same_total, zones_certify, bare_certify, bare_in_zones_certify}
use Rattle.ram_audit.proofs.certificate.tell_zones.Goals as goal

pub returns-then-not-fits_zones : goal.returns-then-not-fits_zones
returns-then-not-fits_zones g c = (
  looks_none c.args.medium.now c.requires.unarmed,
  bare_certify c.tell_bare.new.lines c.args.geometry.now (bytes_in c.args.medium.now) c.args.mark c.requires.kind c.requires.nothing c.tell_bare.ensures
      (λ fit. true≢false (sym (c.fits_zones.ensures.1 fit) ∙ c.if-not-fits_zones.true)),
)

pub find_here-requires-clause-size : goal.find_here-requires-clause-size
find_here-requires-clause-size g c = c.requires.size ∙ sym (same_total EachZone c.args.geometry.now) ∙ ap total (sym c.in_zones-zoned.ensures.kind)

pub tell_lists-requires-clause-size : goal.tell_lists-requires-clause-size
tell_lists-requires-clause-size g c =
    ap total c.in_ok-find_here.ensures.0.left.same_shape ∙ c.requires.size ∙ sym (same_total EachZone c.args.geometry.now) ∙ ap total (sym c.in_zones-zoned.ensures.kind)

pub returns-in-Bare : goal.returns-in-Bare
returns-in-Bare g c = (
  c.in_ok-find_here.ensures.0,
  bare_in_zones_certify c.tell_bare-in-Bare.new.lines c.args.geometry.now (bytes_in c.args.medium.now) c.args.mark c.requires.kind c.requires.nothing c.tell_bare-in-Bare.ensures c.in-Bare.mark
      (subst (λ (s : Shape). NoneFound s (bytes_in c.args.medium.now) c.in-Bare.mark) c.in_zones-zoned.ensures.kind (rw c.in-Bare.is at c.in_ok-find_here.ensures.1)),
)

pub returns-in-Lists : goal.returns-in-Lists
returns-in-Lists g c =
    by_cases c.tell_lists.result
    (λ done did. (
      looks_then c.args.medium.now c.find_here.new.medium c.tell_lists.new.medium c.in_ok-find_here.ensures.0 did.0,
      zones_certify c.tell_lists.new.lines c.args.geometry.now (bytes_in c.args.medium.now) c.args.mark c.requires.kind c.requires.nothing (c.fits_zones.ensures.0 c.if-not-fits_zones.false)
          (subst (λ (s : Shape). AreToldOf c.tell_lists.new.lines s (bytes_in c.args.medium.now)) c.in_zones-zoned.ensures.kind
          (subst (λ (o : Option (List ℕ)). AreToldOf c.tell_lists.new.lines c.in_zones-zoned.result o) c.in_ok-find_here.ensures.0.left.same_bytes did.1)),
    ))
    (λ failed did. fails_then c.args.medium.now c.find_here.new.medium c.tell_lists.new.medium c.in_ok-find_here.ensures.0 did)
    c.tell_lists.ensures
