use Rattle.std.proofs.Common.{subst}
use Rattle.std.specs.Prelude.{ℕ, List}
use Rattle.std.specs.List.Sorted.{IsPermutation}
use Rattle.std.proofs.lemmas.List.Sorted.{IsNonDecreasingBy-from_sort}
use Rattle.ram_spare.proofs.first_free.sort_replacements.Goals as goal

pub returns-clause-sorted : goal.returns-clause-sorted
returns-clause-sorted c = record {
  rise = IsNonDecreasingBy-from_sort (λ block. block) _ c.sort_unstable.ensures.sorted;
  all = subst (λ (blocks : List ℕ). IsPermutation blocks c.sort_unstable.new.self.items) c.put_replacements.ensures.blocks c.sort_unstable.ensures.permutation;
}
