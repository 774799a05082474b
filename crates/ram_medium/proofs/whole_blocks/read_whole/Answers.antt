use Rattle.ram_medium.proofs.Parts.{read_fails, stops_at_once}
use Rattle.ram_medium.proofs.whole_blocks.read_whole.Goals as goal

pub returns-in-Failed-clause-continues : goal.returns-in-Failed-clause-continues
returns-in-Failed-clause-continues g c =
    stops_at_once g.M.Medium.world g.M.Medium.block_count g.M.Medium.reaches g.met.M.Medium.laws c.args.medium.now c.read.new.self c.args.block
    (read_fails (g.M.Medium.world c.args.medium.now) (g.M.Medium.world c.read.new.self) c.args.block c.args.into.now c.read.new.into c.in-Failed.ensures.rule) c.in-Failed.ensures.continues
