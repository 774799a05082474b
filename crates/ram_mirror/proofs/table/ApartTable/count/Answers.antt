use Rattle.std.proofs.Common.{rules, sym}
use Rattle.ram_mirror.specs.Tables.{entries_of}
use Rattle.ram_mirror.proofs.Counts.{counted_more, few_more}
use Rattle.ram_mirror.proofs.table.ApartTable.count.Goals as goal

pub loop-k-preserved : goal.loop-k-preserved
loop-k-preserved c = record {
  so_far = counted_more (entries_of c.args.self.now) c.loop-k.k c.loop-k.count c.one_if-count.result c.index.result.now c.index.result.now (search rules) (sym c.index.ensures) c.loop-k.invariant.so_far c.one_if-count.ensures;
  few = few_more c.loop-k.k c.loop-k.count c.one_if-count.result c.index.result.now c.loop-k.invariant.few c.one_if-count.ensures;
}
