use Rattle.std.specs.Prelude.{◌≡◌, drop}
use Rattle.model_pools.specs.Listed.{is_listed, replacements}
use Rattle.ram_spare.proofs.spare.is_replacement.Given as goal

abbrev pub invariant-loop-entry : goal.invariant-loop-entry
invariant-loop-entry l = is_listed (replacements l.entries) l.block ≡ is_listed (replacements (drop l.entry-index l.entries)) l.block
