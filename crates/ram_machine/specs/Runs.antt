-- A run of the machine: from which state its lines lead to which. This is what a script means.
use Rattle.std.specs.Prelude.{◌≡◌, Ok, List, [], ◌∷◌}
use Rattle.ram_machine.specs.Answered.{AnsweredStep}
use Rattle.ram_machine.specs.States.{State}
use Rattle.ram_machine.specs.LineSteps.{Step}

-- from the state before, the line leads to the state after (this project's own, as all here)
abbrev pub IsStep : State → AnsweredStep → State → Type 0
IsStep before event after = Step before event.line event.payload (Ok event.reply) event.data_in after

-- The lines, the newest first, lead from the first state to the last.
abbrev pub Run : State → List AnsweredStep → State → Type 0
Run first [] last = last ≡ first
Run first (event ∷ events) last = (before : State) × Run first events before × IsStep before event last
