-- What the requests of a client do: each is done by commands, and a command does what a line of a script with it does. For the talk
-- of a client and a drive, and for the code that does a request. (This project's own, as all here.)
use Rattle.std.specs.Prelude.{◌≡◌, ℕ, ◌⊎◌, ◌==◌, if◌then◌else◌, IsTrue, Err, List, [], ◌∷◌, ◌++◌, map}
use Rattle.model_sense.specs.declared.answer.Answer.{Answer}
use Rattle.model_sense.specs.declared.answer.Answer.TheVariants as answers
use Rattle.model_nbd.specs.declared.NbdOperation.{NbdOperation}
use Rattle.model_nbd.specs.declared.NbdOperation.TheVariants as operations
use Rattle.model_nbd.specs.Messages.{reply_bytes}
use Rattle.model_nbd.specs.Commands.{Command, error_of}
use Rattle.ram_medium.specs.declared.control.SyncEnd.TheVariants as syncs
use Rattle.ram_text.specs.declared.script.Line.TheVariants as lines
use Rattle.ram_machine.specs.declared.reply.Reply.TheVariants as replies
use Rattle.ram_machine.specs.declared.stopped.Stopped.TheVariants as stopped
use Rattle.ram_machine.specs.Answered.{AnsweredStep}
use Rattle.ram_machine.specs.Control.{SyncStep}
use Rattle.ram_machine.specs.LineSteps.{Step}
use Rattle.ram_machine.specs.States.{State}
use Rattle.ram_machine.specs.Runs.{Run}

-- A command that was done: its block and its data, how it was answered, and the data that it gave.
pub record Did : Type 0 where
  pub command : Command
  pub answer : Answer
  pub data_in : List ℕ

-- the same as a line of a script that was answered
abbrev pub step_of : Did → AnsweredStep
step_of did = record {
  line = lines.Command did.command.cdb;
  payload = did.command.payload;
  reply = replies.Command did.command.cdb did.answer;
  data_in = did.data_in;
}

-- The commands, the newest first, lead from the first state to the last: they are a run of the machine that answers a script.
abbrev pub Doing : State → List Did → State → Type 0
Doing first dids last = Run first (map step_of dids) last

-- the commands that were done, the oldest first
abbrev pub commands_in : List Did → List Command
commands_in [] = []
commands_in (did ∷ before) = commands_in before ++ did.command ∷ []

-- each of them was good
abbrev pub WereGood : List Did → Type 0
WereGood [] = Unit {0}
WereGood (did ∷ before) = (did.answer ≡ answers.Good) × WereGood before

-- all of these commands were done, and each was good
pub record WereAllGood (commands : List Command) (dids : List Did) : Type 0 where
  pub good : WereGood dids
  pub all_done : commands ≡ commands_in dids

-- these commands were done up to the first that was not good
pub record StoppedAtOne (commands : List Command) (dids : List Did) : Type 0 where
  pub last : Did
  pub before : List Did
  pub dids_are : dids ≡ last ∷ before
  pub good : WereGood before
  pub not_good : ¬ (last.answer ≡ answers.Good)
  pub undone : List Command
  pub some_done : commands ≡ commands_in (last ∷ before) ++ undone

-- The commands were done one after another: all of them, each good; or up to the first that was not.
abbrev pub AreDone : List Command → List Did → Type 0
AreDone commands dids = WereAllGood commands dids ⊎ StoppedAtOne commands dids

-- All that was written is to last before the client is told: a flush, a write with FUA, and a client that leaves.
abbrev pub AsksToLast : NbdOperation → Type 0
AsksToLast (operations.Write lba n fua) = IsTrue fua
AsksToLast (operations.WriteZeroes lba n fua) = IsTrue fua
AsksToLast operations.Flush = Unit {0}
AsksToLast operations.Disconnect = Unit {0}
AsksToLast _ = ⊥

-- The image failed in the command after those that were done, as which this state is left.
pub record FailsInNext (commands : List Command) (dids : List Did) (mid state : State) : Type 0 where
  pub command : Command
  pub undone : List Command
  pub commands_are : commands ≡ commands_in dids ++ (command ∷ undone)
  pub data_in : List ℕ
  pub step : Step mid (lines.Command command.cdb) command.payload (Err stopped.ImageFault) data_in state

-- All commands were done, and the image failed as all was to last. It has the bytes that they left.
pub record FailsBeforeReply (operation : NbdOperation) (commands : List Command) (dids : List Did)
    (mid state : State) : Type 0 where
  pub asks : AsksToLast operation
  pub all_done : commands ≡ commands_in dids
  pub step : SyncStep mid syncs.Failed state

-- the data that they gave, in their order
abbrev pub data_from : List Did → List ℕ
data_from [] = []
data_from (did ∷ before) = data_from before ++ did.data_in

-- the error that they are told as: that of the newest, and 0 where nothing was to be done
abbrev pub error_after : List Did → ℕ
error_after [] = 0
error_after (last ∷ before) = error_of last.answer

-- The reply to a request for which these commands were done: a read that is told without an error has their data. A client that
-- leaves gets none.
abbrev pub reply_to : (cookie : ℕ) → NbdOperation → List Did → List ℕ
reply_to cookie (operations.Refused error) dids = reply_bytes error cookie []
reply_to cookie operations.Disconnect dids = []
reply_to cookie (operations.Read lba n) dids =
    reply_bytes (error_after dids) cookie (if error_after dids == 0 then data_from dids else [])
reply_to cookie _ dids = reply_bytes (error_after dids) cookie []
