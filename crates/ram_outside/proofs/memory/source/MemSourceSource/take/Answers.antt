use Rattle.std.proofs.Common.{arith, refl}
use Rattle.std.proofs.lemmas.Grind.{common_steps}
use Rattle.ram_outside.proofs.Pieces.{prefix_and_rest}
use Rattle.ram_outside.proofs.memory.source.MemSourceSource.take.Goals as goal

pub returns-clause-rule : goal.returns-clause-rule
returns-clause-rule c = record {
  some = omega arith;
  within = grind (arith, common_steps);
  next = grind (arith, common_steps, prefix_and_rest);
  known = refl;
  count = grind (arith, common_steps);
}
