-- A run of lines: each of them is of the script's language, and their steps are a run of the machine.
use Rattle.std.specs.Prelude.{◌≡◌, List, [], ◌∷◌}
use Rattle.ram_machine.specs.States.{State}
use Rattle.ram_machine.specs.Runs.{IsStep}
use Rattle.ram_script.specs.Answered.{AnsweredLine, IsRead}

-- the line is one of the language, and its step leads from the state before to the state after (this project's own, as all here)
pub record IsLineStep (before : State) (event : AnsweredLine) (after : State) : Type 0 where
  pub read : IsRead event
  pub step : IsStep before event.step after

-- The lines, the newest first, lead from the first state to the last.
abbrev pub LineRun : State → List AnsweredLine → State → Type 0
LineRun first [] last = last ≡ first
LineRun first (event ∷ events) last = (before : State) × LineRun first events before × IsLineStep before event last
