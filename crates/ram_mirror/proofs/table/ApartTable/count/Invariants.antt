use Rattle.std.specs.Prelude.{◌≡◌, ◌≤◌, take}
use Rattle.model_mirror.specs.Table.{count_apart}
use Rattle.ram_mirror.specs.Tables.{entries_of}
use Rattle.ram_mirror.proofs.table.ApartTable.count.Given as goal

abbrev pub invariant-loop-k : goal.invariant-loop-k
invariant-loop-k l = record {
  so_far : l.count ≡ count_apart (take l.k (entries_of l.self));
  few : l.count ≤ l.k;
}
