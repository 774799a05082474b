-- What a session begins with, and how it ends, by its status. For the calls that serve a client. (This project's own, as all here.)
use Rattle.std.specs.Prelude.{◌≡◌, ℕ, ◌⊎◌, Option, Some, List}
use Rattle.ram_text.specs.Faults.{AreFaultWords}
use Rattle.ram_text.specs.declared.script.Line.{Line}
use Rattle.ram_machine.specs.declared.status.Status.{Status}
use Rattle.ram_machine.specs.declared.status.Status.TheVariants as statuses
use Rattle.ram_machine.specs.States.{State, kind_of, IsFirst}
use Rattle.ram_script.specs.Progress.{Beginning}
use Rattle.ram_session.specs.Session.{TalkEnds, EndsAtFault, EndsInOpening}

-- nothing came yet, and nothing was told
pub record IsBeforeTalk (first : Beginning) (left written : Option (List ℕ)) : Type 0 where
  pub left_is : left ≡ Some first.script
  pub written_is : written ≡ Some first.report

-- A session is to begin, in which the words ask for these faults: the drive stands for what the image holds, and nothing came or was told.
pub record IsToBegin (first : Beginning) (faults : List Line) (words : List (List ℕ)) (stands : State → Type 0)
    (left written : Option (List ℕ)) : Type 0 where
  pub read : AreFaultWords words faults
  pub start : State
  pub starts : IsFirst first.image start
  pub kind_is : kind_of start ≡ first.kind
  pub stands_start : stands start
  pub before : IsBeforeTalk first left written

-- How a session over an image that was looked at ends, by its status: before a client was greeted, so that nothing came and nothing was
-- told; or behind that. (`leaves` tells which states may be left.)
abbrev pub SessionEnds : Beginning → (faults : List Line) → (leaves : State → Type 0) → (left written : Option (List ℕ))
    → Status → Type 0
SessionEnds first faults leaves left written statuses.Script =
    (EndsAtFault first faults leaves × IsBeforeTalk first left written)
    ⊎ TalkEnds first faults leaves left written statuses.Script
SessionEnds first faults leaves left written statuses.ImageFault =
    (EndsInOpening first faults leaves × IsBeforeTalk first left written)
    ⊎ TalkEnds first faults leaves left written statuses.ImageFault
SessionEnds first faults leaves left written status = TalkEnds first faults leaves left written status

-- The status is one that a session may end with, whatever is known. (Where the bytes are known, `NotADisc` is none.)
abbrev pub IsOfSession : Status → Type 0
IsOfSession statuses.Differs = ⊥
IsOfSession statuses.Usage = ⊥
IsOfSession statuses.NoMemory = ⊥
IsOfSession _ = Unit {0}
