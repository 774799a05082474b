use Rattle.std.specs.Prelude.{◌*◌, [], ◌∷◌}
use Rattle.ram_image.specs.Medium.{shape_of_medium, bytes_in}
use Rattle.model_audit.specs.declared.lines.CertificateLine.TheVariants as lines
use Rattle.ram_audit.proofs.Adding.{home_lost}
use Rattle.ram_audit.proofs.homes.tell_home.Goals as goal

pub returns-then-not-branch-clause-rule : goal.returns-then-not-branch-clause-rule
returns-then-not-branch-clause-rule g c = (
  c.in_ok-is_good_here.ensures.0,
  record {
    lost = lines.Lost (16 * c.args.i) ∷ [];
    adds = c.push.ensures.lines;
    are = home_lost (shape_of_medium c.args.medium.now) (bytes_in c.args.medium.now) c.args.home c.args.i (rw c.if-not-branch.true at c.in_ok-is_good_here.ensures.1);
  },
)
