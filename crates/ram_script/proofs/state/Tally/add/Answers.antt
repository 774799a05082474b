use Rattle.ram_script.proofs.Counted.{at_most_more}
use Rattle.ram_script.proofs.state.Tally.add.Goals as goal

pub returns-clause-counts : goal.returns-clause-counts
returns-clause-counts c = rw c.count.ensures (at_most_more c.args.self.now.counts c.args.reply.now c.args.self.now.lines c.requires.counts)
