-- What stands and what is still to come is the whole, and there is room for it.
use Rattle.std.proofs.Common.{◌≡◌, ◌++◌, ◌+◌, ◌-◌, ◌*◌, ◌≤◌, length, vec_capacity}
use Rattle.ram_generate.specs.Script.{steps_text}
use Rattle.ram_generate.specs.declared.steps.TheConstants.{LONGEST_STEP}
use Rattle.ram_generate.proofs.steps.add_steps.Given as goal

abbrev pub invariant-loop : goal.invariant-loop
invariant-loop l = record {
  so_far : l.script.items ++ steps_text (l.fn.count - l.counter) l.words ≡ l.fn.script.items ++ steps_text l.fn.count l.fn.words;
  room : length l.script.items + LONGEST_STEP * (l.fn.count - l.counter) ≤ vec_capacity l.script;
  kept : vec_capacity l.fn.script ≤ vec_capacity l.script;
}
