use Rattle.ram_medium.proofs.Parts.{write_fails, stops_at_once}
use Rattle.ram_medium.proofs.whole_blocks.write_whole.Goals as goal

pub returns-in-Failed-clause-continues : goal.returns-in-Failed-clause-continues
returns-in-Failed-clause-continues g c =
    stops_at_once g.M.Medium.world g.M.Medium.block_count g.M.Medium.reaches g.met.M.Medium.laws c.args.medium.now c.write_from.new.self c.args.block
    (write_fails (g.M.Medium.world c.args.medium.now) (g.M.Medium.world c.write_from.new.self) c.args.block c.args.from.now c.in-Failed.ensures.rule) c.in-Failed.ensures.continues
