use Rattle.ram_script.specs.declared.counts.SenseCount.{SenseCount}
use Rattle.std.proofs.Common.{None, arith}
use Rattle.ram_script.proofs.Counted.{row_fits, one_raised, all_raised}
use Rattle.ram_script.proofs.counts.raise.Goals as goal

abbrev nothing : SenseCount
nothing = record { sense = record { key = 0; asc = 0; ascq = 0; info = None }; times = 0 }

pub raised_by-requires : goal.raised_by-requires
raised_by-requires c = row_fits c.args.sense.now c.args.rows.now c.loop-row.rows c.loop-row.row-index c.loop-row.invariant nothing c.loop-row-test.true c.requires

pub loop-row-preserved : goal.loop-row-preserved
loop-row-preserved c =
    one_raised c.args.sense.now c.args.rows.now c.loop-row.rows c.loop-row.row-index c.loop-row.invariant nothing c.raised_by.result c.loop-row-test.true c.raised_by.ensures

pub returns : goal.returns
returns c = all_raised c.args.sense.now c.args.rows.now c.loop-row.rows c.loop-row.row-index c.loop-row.invariant (omega (arith, c.loop-row-test.false))
