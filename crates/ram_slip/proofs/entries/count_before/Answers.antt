use Rattle.std.proofs.Common.{nat_lt, rules}
use Rattle.std.proofs.lemmas.List.Sorted.{IsPartitionPoint-from_clause, IsPartitionedBy-ltb}
use Rattle.model_lists.specs.declared.dds.PdlEntry.{PdlEntry}
use Rattle.ram_slip.proofs.Named.{never_falls, count_from_point}
use Rattle.ram_slip.proofs.entries.count_before.Goals as goal

pub returns : goal.returns
returns c =
    let entries = c.args.entries.now in
    let block = c.args.block in
    let count = c.partition_point.result in
    count_from_point entries block count c.partition_point.ensures.bound (IsPartitionPoint-from_clause (λ (e : PdlEntry). nat_lt e.block block) entries count c.partition_point.ensures.partitioned (IsPartitionedBy-ltb (λ (e : PdlEntry). e.block) entries block (never_falls entries c.requires)) (λ a r q k. search rules))
