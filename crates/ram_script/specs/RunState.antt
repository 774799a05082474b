-- What holds of the state of a run as a thing with room of its own. For the calls of the run.
use Rattle.std.specs.Prelude.{◌≡◌, ◌+◌, ◌≤◌, Result, Ok, Err, [], vec_capacity}
use Rattle.ram_text.specs.declared.payload.TheConstants.{PAYLOAD_ROOM}
use Rattle.ram_script.specs.declared.state.RunState.{RunState}
use Rattle.ram_script.specs.declared.state.Tally.{Tally}
use Rattle.ram_machine.specs.declared.stopped.Stopped.{Stopped}
use Rattle.ram_script.specs.Counting.{AreAtMost, counts_in}

-- no line came yet (this project's own, as all here)
pub record IsFresh (state : RunState) : Type 0 where
  pub tally : state.tally ≡ record { lines = 0; answered = 0; counts = counts_in [] }

-- there is room for the data of any line, both ways
pub record HasRoom (state : RunState) : Type 0 where
  pub payload : PAYLOAD_ROOM ≤ vec_capacity state.payload
  pub data_in : PAYLOAD_ROOM ≤ vec_capacity state.data_in

-- a line that was told counts, and one that ends the run does not
abbrev pub TallyRule : Tally → Tally → Result (Unit {0}) Stopped → Type 0
TallyRule old new (Ok done) =
    (new.lines ≡ old.lines + 1) × (new.answered ≤ old.answered + 1) × AreAtMost new.counts new.lines
TallyRule old new (Err why) = new ≡ old
