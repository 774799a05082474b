-- What one command makes of the disc in the drive, and what some of them do, one after another. For the calls that do the commands of
-- a request. (This project's own, as all here.)
use Rattle.std.specs.Prelude.{◌≡◌, ℕ, Result, Ok, Err, List, [], ◌∷◌, ◌++◌}
use Rattle.model_counts.specs.Counts.{Rose}
use Rattle.model_sense.specs.declared.answer.Answer.{Answer}
use Rattle.model_sense.specs.declared.answer.Answer.TheVariants as answers
use Rattle.model_nbd.specs.Commands.{Command}
use Rattle.ram_text.specs.declared.script.Line.TheVariants as lines
use Rattle.ram_machine.specs.declared.reply.Reply.TheVariants as replies
use Rattle.ram_machine.specs.declared.stopped.Stopped.{Stopped}
use Rattle.ram_machine.specs.declared.stopped.Stopped.TheVariants as stopped
use Rattle.ram_machine.specs.States.{State, Served, Disc}
use Rattle.ram_machine.specs.LineSteps.{Step}
use Rattle.ram_session.specs.Doing.{Did, Doing, WereGood, AreDone, commands_in, data_from}

-- the image's count, by what became of a command or of some: it rose exactly where the image failed
abbrev pub ImageCount : {X : Type 0} → ℕ → ℕ → Result X Stopped → Type 0
ImageCount faults faults' (Ok x) = faults' ≡ faults
ImageCount faults faults' (Err stopped.NotADisc) = faults' ≡ faults
ImageCount faults faults' (Err stopped.ImageFault) = Rose faults faults'
ImageCount faults faults' (Err why) = ⊥

-- The image failed: what the drive then stands for is told by `after`.
module _ (after : State → Type 0) where
  -- in this command
  pub record CommandFails (s : Served) (command : Command) : Type 0 where
    pub data_in : List ℕ
    pub now : Served
    pub step : Step (Disc s) (lines.Command command.cdb) command.payload (Err stopped.ImageFault) data_in (Disc now)
    pub stands : after (Disc now)

  -- in one of these commands, and those before it were good
  pub record ChainFails (s : Served) (commands : List Command) : Type 0 where
    pub dids : List Did
    pub good : WereGood dids
    pub mid : Served
    pub does : Doing (Disc s) dids (Disc mid)
    pub command : Command
    pub undone : List Command
    pub commands_are : commands ≡ commands_in dids ++ (command ∷ undone)
    pub fails : CommandFails mid command

-- the newest of these was answered so
abbrev pub EndsWith : List Did → Answer → Type 0
EndsWith [] answer = ⊥
EndsWith (did ∷ before) answer = did.answer ≡ answer

-- What the drive then stands for is told by `after`, and which data an answer comes with by `gives`.
module _ (gives : Answer → List ℕ → Type 0) (after : State → Type 0) where
  -- the command was answered so
  pub record CommandDone (s : Served) (command : Command) (answer : Answer) : Type 0 where
    pub data_in : List ℕ
    pub given : gives answer data_in
    pub now : Served
    pub step : Step (Disc s) (lines.Command command.cdb) command.payload (Ok (replies.Command command.cdb answer)) data_in (Disc now)
    pub stands : after (Disc now)

  -- What a command makes of a disc, by what became of it.
  abbrev pub CommandRule : Served → Command → Result Answer Stopped → Type 0
  CommandRule s command (Ok answer) = CommandDone s command answer
  CommandRule s command (Err stopped.ImageFault) = CommandFails after s command
  CommandRule s command (Err why) = ⊥

  -- The commands were done, up to the first that is not good. The last one was answered so, and their data come with that answer.
  pub record ChainDone (s : Served) (commands : List Command) (answer : Answer) : Type 0 where
    pub dids : List Did
    pub done : AreDone commands dids
    pub ends : EndsWith dids answer
    pub given : gives answer (data_from dids)
    pub now : Served
    pub does : Doing (Disc s) dids (Disc now)
    pub stands : after (Disc now)

  -- What some commands make of a disc, by what became of them.
  abbrev pub ChainRule : Served → List Command → Result Answer Stopped → Type 0
  ChainRule s commands (Ok answer) = ChainDone s commands answer
  ChainRule s commands (Err stopped.ImageFault) = ChainFails after s commands
  ChainRule s commands (Err why) = ⊥

-- any data may come
abbrev pub AnyData : Answer → List ℕ → Type 0
AnyData answer bytes = Unit {0}

-- the data of a command that was good went behind a reply
abbrev pub GoesBehind : (reply reply' : List ℕ) → Answer → List ℕ → Type 0
GoesBehind reply reply' answers.Good bytes = reply' ≡ reply ++ bytes
GoesBehind reply reply' answer bytes = Unit {0}
