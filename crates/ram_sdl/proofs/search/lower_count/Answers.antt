-- The test is passed by lower blocks alone, which come first.
use Rattle.std.proofs.Common.{nat_lt, rules}
use Rattle.std.proofs.lemmas.List.Sorted.{IsPartitionPoint-from_clause, IsPartitionedBy-ltb}
use Rattle.model_lists.specs.declared.sdl.SdlEntry.{SdlEntry}
use Rattle.ram_sdl.proofs.Gaps.{never_falls, split_from_point}
use Rattle.ram_sdl.proofs.search.lower_count.Goals as goal

pub returns : goal.returns
returns c =
    let entries = c.args.entries.now in
    let block = c.args.defective in
    let index = c.partition_point.result in
    split_from_point entries block index c.partition_point.ensures.bound (IsPartitionPoint-from_clause (λ (e : SdlEntry). nat_lt e.defective block) entries index c.partition_point.ensures.partitioned (IsPartitionedBy-ltb (λ (e : SdlEntry). e.defective) entries block (never_falls entries c.requires)) (λ a r q k. search rules))
