use Rattle.std.proofs.Common.{arith, refl}
use Rattle.std.proofs.lemmas.Grind.{common_steps}
use Rattle.ram_outside.proofs.Pieces.{prefix_and_rest}
use Rattle.ram_summary.proofs.kept.KeptScriptSource.take.Goals as goal

pub returns : goal.returns
returns c = record {
  some = omega arith;
  within = grind (arith, common_steps);
  next = grind (arith, common_steps, prefix_and_rest);
  known = refl;
  count = refl;
}
