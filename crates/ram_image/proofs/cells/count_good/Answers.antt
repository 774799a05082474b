use Rattle.std.specs.Prelude.{◌≡◌, ◌-◌, min, length}
use Rattle.std.proofs.Common.{arith, rules}
use Rattle.ram_image.proofs.CellReads.{row_good, row_leads, row_not_good}
use Rattle.ram_outside.specs.declared.image.Moved.TheVariants as moves
use Rattle.ram_image.proofs.Moments.{reads_pass}
use Rattle.ram_image.proofs.cells.count_good.Goals as goal

pub returns-in-Done-clause-rule : goal.returns-in-Done-clause-rule
returns-in-Done-clause-rule g c =
    let many : length c.read_at.new.into ≡ min 64 (c.args.total - c.args.block) = search (rules, c.read_at.auto.into, c.min-count.ensures) in (
      c.in-Done.ensures.rule.0,
      omega (arith, many, c.leading_good.ensures.inside, c.requires.inside),
      row_good c.state_offset.result c.args.block c.leading_good.result c.read_at.new.into c.state_offset.ensures c.leading_good.ensures (g.I.Image.bytes c.args.image.now) c.in-Done.ensures.rule.1,
      row_not_good c.args.total c.state_offset.result c.args.block c.leading_good.result c.read_at.new.into c.state_offset.ensures (omega (arith, many, c.requires.inside)) c.leading_good.ensures
          (g.I.Image.bytes c.args.image.now) c.in-Done.ensures.rule.1,
      row_leads c.state_offset.result c.args.block (min 64 (c.args.total - c.args.block)) c.leading_good.result c.read_at.new.into c.state_offset.ensures many c.leading_good.ensures
          (g.I.Image.bytes c.args.image.now) c.in-Done.ensures.rule.1,
    )

pub returns-in-Failed-clause-past : goal.returns-in-Failed-clause-past
returns-in-Failed-clause-past g c = reads_pass (g.I.Image.bytes c.args.image.now) (g.I.Image.bytes c.read_at.new.self) (g.I.Image.past c.args.image.now) (g.I.Image.past c.read_at.new.self) moves.Failed c.in-Failed.ensures.rule.same c.in-Failed.ensures.past
