use Rattle.std.specs.Prelude.{Option, List, ℕ}
use Rattle.std.proofs.Common.{subst}
use Rattle.ram_image.specs.Medium.{bytes_in}
use Rattle.ram_audit.specs.Telling.{AreToldOf}
use Rattle.ram_audit.proofs.Leaving.{looks_then, fails_then}
use Rattle.ram_audit.proofs.Adding.{by_cases}
use Rattle.ram_audit.proofs.Certifying.{lists_certify}
use Rattle.ram_audit.proofs.certificate.tell_all.Goals as goal

pub returns-in-Lists : goal.returns-in-Lists
returns-in-Lists g c =
    by_cases c.tell_lists.result
    (λ done did. (
      looks_then c.args.medium.now c.find_here.new.medium c.tell_lists.new.medium c.in_ok-found.ensures.0 did.0,
      lists_certify c.tell_lists.new.lines c.args.geometry.now (bytes_in c.args.medium.now) c.requires.kind
          (subst (λ (o : Option (List ℕ)). AreToldOf c.tell_lists.new.lines c.args.geometry.now o) c.in_ok-found.ensures.0.left.same_bytes did.1),
    ))
    (λ failed did. fails_then c.args.medium.now c.find_here.new.medium c.tell_lists.new.medium c.in_ok-found.ensures.0 did)
    c.tell_lists.ensures
