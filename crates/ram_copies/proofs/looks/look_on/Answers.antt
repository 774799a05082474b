use Rattle.ram_copies.proofs.ReadingAlone.{read_one}
use Rattle.ram_copies.proofs.looks.look_on.Goals as goal

pub returns-in_err-read_whole-clause-reads : goal.returns-in_err-read_whole-clause-reads
returns-in_err-read_whole-clause-reads g c = read_one g.M.Medium.takes c.args.medium.now c.read_whole.new.medium _ _ _ _ c.read_whole.ensures.event

pub returns-then-not-branch-clause-reads : goal.returns-then-not-branch-clause-reads
returns-then-not-branch-clause-reads g c = read_one g.M.Medium.takes c.args.medium.now c.read_whole.new.medium _ _ _ _ c.read_whole.ensures.event

pub returns-clause-reads : goal.returns-clause-reads
returns-clause-reads g c = read_one g.M.Medium.takes c.args.medium.now c.read_whole.new.medium _ _ _ _ c.read_whole.ensures.event
