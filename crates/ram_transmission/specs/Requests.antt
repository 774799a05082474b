-- What a request makes of the disc in the drive, and its reply. For the call that does a request. (This project's own, as all here.)
use Rattle.std.specs.Prelude.{◌≡◌, ℕ, ◌+◌, ◌*◌, ◌<◌, ◌≤◌, ◌^◌, ◌⊎◌, Bool, IsTrue, Result, Ok, Err, List, length}
use Rattle.model_sense.specs.declared.answer.Answer.{Answer}
use Rattle.model_sense.specs.declared.answer.Answer.TheVariants as answers
use Rattle.model_nbd.specs.declared.NbdOperation.{NbdOperation}
use Rattle.model_nbd.specs.declared.NbdOperation.TheVariants as operations
use Rattle.model_nbd.specs.Commands.{commands_of}
use Rattle.ram_machine.specs.declared.stopped.Stopped.{Stopped}
use Rattle.ram_machine.specs.declared.stopped.Stopped.TheVariants as stopped
use Rattle.ram_machine.specs.Control.{FailsToLast}
use Rattle.ram_machine.specs.States.{State, Served, Disc}
use Rattle.ram_session.specs.Doing.{Did, Doing, WereAllGood, AreDone, AsksToLast, reply_to}
use Rattle.ram_transmission.specs.Chains.{ChainFails}

-- the sectors of a request have numbers of four bytes, one room holds what it moves, and a write has its data
abbrev pub Fits : NbdOperation → (payload : List ℕ) → Type 0
Fits (operations.Read lba n) payload = (lba + n < 2 ^ 32) × (n ≤ 16384)
Fits (operations.Write lba n fua) payload = (lba + n < 2 ^ 32) × (length payload ≡ 2048 * n)
Fits (operations.WriteZeroes lba n fua) payload = lba + n < 2 ^ 32
Fits _ payload = Unit {0}

module _ (after : State → Type 0) where
  -- the commands of the request were done, and this is its reply
  pub record RequestDone (s : Served) (operation : NbdOperation) (payload : List ℕ) (cookie : ℕ) (reply : List ℕ) : Type 0 where
    pub dids : List Did
    pub done : AreDone (commands_of operation payload) dids
    pub reply_is : reply ≡ reply_to cookie operation dids
    pub now : Served
    pub does : Doing (Disc s) dids (Disc now)
    pub stands : after (Disc now)

  -- the image of this disc failed as all was to last
  pub record DiscFailsToLast (s : Served) : Type 0 where
    pub now : Served
    pub step : FailsToLast s now
    pub stands : after (Disc now)

  -- What becomes of a disc whose commands ended so, where all is to last if they were good and it was asked.
  abbrev pub LastingRule : Served → Answer → (asked : Bool) → Result (Unit {0}) Stopped → Type 0
  LastingRule s answer asked (Ok done) = after (Disc s)
  LastingRule s answer asked (Err stopped.ImageFault) = IsTrue asked × (answer ≡ answers.Good) × DiscFailsToLast s
  LastingRule s answer asked (Err why) = ⊥

  -- all commands of a request were good, it asks that all lasts, and in that the image failed
  pub record LastingFails (s : Served) (operation : NbdOperation) (payload : List ℕ) : Type 0 where
    pub asks : AsksToLast operation
    pub dids : List Did
    pub good : WereAllGood (commands_of operation payload) dids
    pub mid : Served
    pub does : Doing (Disc s) dids (Disc mid)
    pub fails : DiscFailsToLast mid

  -- the image failed in a command of the request, or as all was to last
  abbrev pub RequestFails : Served → NbdOperation → (payload : List ℕ) → Type 0
  RequestFails s operation payload =
      ChainFails after s (commands_of operation payload) ⊎ LastingFails s operation payload

  -- What a request makes of a disc, by what became of it.
  abbrev pub RequestRule : Served → NbdOperation → (payload : List ℕ) → (cookie : ℕ) → (reply : List ℕ) → Result (Unit {0}) Stopped → Type 0
  RequestRule s operation payload cookie reply (Ok done) = RequestDone s operation payload cookie reply
  RequestRule s operation payload cookie reply (Err stopped.ImageFault) = RequestFails s operation payload
  RequestRule s operation payload cookie reply (Err why) = ⊥
