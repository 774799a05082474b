use Rattle.std.specs.Prelude.{◌≡◌, ◌≤◌, ◌<◌, ℕ, ◌+◌, Option, List}
use Rattle.std.proofs.Common.{sym, ap, ◌∙◌, subst, arith}
use Rattle.model_geometry.specs.Geometry.{Shape, total}
use Rattle.ram_groups.specs.Layouts.{layout_pools}
use Rattle.ram_image.specs.Medium.{shape_of_medium, bytes_in}
use Rattle.ram_lists.specs.Lists.{lists_of}
use Rattle.ram_audit.specs.Telling.{AddsHome, AddsLost}
use Rattle.ram_audit.proofs.Leaving.{looks_then, looks_none}
use Rattle.ram_audit.proofs.Adding.{lost_none, lost_after}
use Rattle.ram_audit.proofs.Numbers.{logical_long, logical_few, its_home, home_there}
use Rattle.ram_audit.proofs.homes.tell_homes.Goals as goal

pub loop-i-init : goal.loop-i-init
loop-i-init g c = record {
  looks = looks_none c.args.medium.now c.requires.unarmed;
  adds = lost_none c.args.geometry.now (bytes_in c.args.medium.now) (lists_of c.args.lists.now) c.args.lines.now;
  len = omega arith;
}

pub tell_home-requires-clause-fits : goal.tell_home-requires-clause-fits
tell_home-requires-clause-fits g c =
    let few = logical_few c.args.geometry.now (lists_of c.args.lists.now) c.requires.valid (layout_pools c.args.layout.now) c.requires.pools c.logical-i-end.result c.data_blocks-most.result c.logical-i-end.ensures.count c.data_blocks-most.ensures.count c.data_blocks-most.ensures.most in
    omega (arith, c.loop-i-test.true, few, c.loop-i.invariant.len, c.requires.fits)

pub tell_home-requires-clause-number : goal.tell_home-requires-clause-number
tell_home-requires-clause-number g c =
    let few = logical_few c.args.geometry.now (lists_of c.args.lists.now) c.requires.valid (layout_pools c.args.layout.now) c.requires.pools c.logical-i-end.result c.data_blocks-most.result c.logical-i-end.ensures.count c.data_blocks-most.ensures.count c.data_blocks-most.ensures.most in
    omega (arith, c.loop-i-test.true, few)

pub tell_home-requires-clause-inside : goal.tell_home-requires-clause-inside
tell_home-requires-clause-inside g c =
    home_there c.args.geometry.now (lists_of c.args.lists.now) c.requires.valid (layout_pools c.args.layout.now) c.requires.pools c.logical-i-end.result c.home-home.result c.loop-i.i (total (shape_of_medium c.loop-i.medium))
    c.logical-i-end.ensures.count c.loop-i-test.true c.home-home.ensures (ap total c.loop-i.invariant.looks.left.same_shape ∙ c.requires.size)

pub returns-in_err-tell_home-clause-len : goal.returns-in_err-tell_home-clause-len
returns-in_err-tell_home-clause-len g c =
    let few = logical_few c.args.geometry.now (lists_of c.args.lists.now) c.requires.valid (layout_pools c.args.layout.now) c.requires.pools c.logical-i-end.result c.data_blocks-most.result c.logical-i-end.ensures.count c.data_blocks-most.ensures.count c.data_blocks-most.ensures.most in
    omega (arith, c.loop-i-test.true, few, c.loop-i.invariant.len, c.tell_home.ensures.len)

pub loop-i-preserved : goal.loop-i-preserved
loop-i-preserved g c = record {
  looks = looks_then c.args.medium.now c.loop-i.medium c.tell_home.new.medium c.loop-i.invariant.looks c.in_ok-tell_home.ensures.rule.0;
  adds = lost_after c.args.geometry.now (bytes_in c.args.medium.now) (lists_of c.args.lists.now) c.args.lines.now c.loop-i.lines c.tell_home.new.lines (shape_of_medium c.loop-i.medium) c.loop-i.i c.home-home.result
      (ap total c.loop-i.invariant.looks.left.same_shape ∙ c.requires.size)
      (its_home c.args.geometry.now (lists_of c.args.lists.now) c.requires.valid (layout_pools c.args.layout.now) c.requires.pools c.home-home.result c.loop-i.i c.home-home.ensures)
      c.loop-i.invariant.adds
      (subst (λ (o : Option (List ℕ)). AddsHome c.loop-i.lines c.tell_home.new.lines (shape_of_medium c.loop-i.medium) o c.home-home.result c.loop-i.i) c.loop-i.invariant.looks.left.same_bytes c.in_ok-tell_home.ensures.rule.1);
  len = omega (arith, c.loop-i.invariant.len, c.tell_home.ensures.len);
}

pub returns-clause-rule : goal.returns-clause-rule
returns-clause-rule g c =
    let last : c.loop-i.i ≡ c.logical-i-end.result = omega (arith, c.loop-i-test.false, c.loop-i.auto.i-end) in (
      c.loop-i.invariant.looks,
      subst (AddsLost c.args.lines.now c.loop-i.lines c.args.geometry.now (bytes_in c.args.medium.now) (lists_of c.args.lists.now))
          (last ∙ logical_long c.args.geometry.now (lists_of c.args.lists.now) c.requires.valid (layout_pools c.args.layout.now) c.requires.pools c.logical-i-end.result c.logical-i-end.ensures.count)
          c.loop-i.invariant.adds,
    )

pub returns-clause-len : goal.returns-clause-len
returns-clause-len g c =
    let few = logical_few c.args.geometry.now (lists_of c.args.lists.now) c.requires.valid (layout_pools c.args.layout.now) c.requires.pools c.logical-i-end.result c.data_blocks-most.result c.logical-i-end.ensures.count c.data_blocks-most.ensures.count c.data_blocks-most.ensures.most in
    omega (arith, c.loop-i.auto.i-end, few, c.loop-i.invariant.len)
