-- What is promised of a client that is served the disc in an image: the contract of the call that opens the image. (This project's own,
-- as all here.)
use Rattle.std.specs.Prelude.{◌≡◌, ℕ, ◌⊎◌, Bool, true, Option, List}
use Rattle.model_geometry.specs.declared.kinds.LayoutKind.TheVariants.{OneGroup}
use Rattle.ram_outside.specs.Conversation.{AsksOnly}
use Rattle.ram_outside.specs.Past.{Moment}
use Rattle.ram_outside.specs.declared.opener.Access.TheVariants.{ReadWrite}
use Rattle.ram_text.specs.declared.script.Line.{Line}
use Rattle.ram_machine.specs.declared.status.Status.{Status}
use Rattle.ram_machine.specs.declared.status.Status.TheVariants as statuses
use Rattle.ram_script.specs.Around.{Surroundings, IsNotOpened, AsksOnce}
use Rattle.ram_script.specs.Endings.{IsUnopened}
use Rattle.ram_script.specs.Opened.{IsBeginning, EndsAtFailure, aftermath_of}
use Rattle.ram_script.specs.Progress.{Beginning}
use Rattle.ram_session.specs.Session.{IsToldBy, SessionStands, SessionCounts}
use Rattle.ram_session.specs.Promise.{KeepsSession}

-- By what is known before and after, where the opener tells what is handed back or not, and by the status.
module _ {I : Type 0} (bytes_of : I → Option (List ℕ)) (past_of : I → Option (List Moment)) (knows : Bool)
    (old new : Surroundings I) (status : Status) where
  -- What is promised of a client that is served the disc in the image of this name, after these faults: the opener is asked for that image,
  -- once, to be read and written. Where the bytes of client, replies and image are known, the session stands as its status says (`session`),
  -- or no image was opened; each sector is a register (`promise`); and whenever more was asked for, all that was due was told (`talks`). The
  -- count that the status tells of rose, and no other (`counts`); and an image that failed has the bytes right after the first of its calls
  -- that failed, or none was opened (`fails`).
  pub record ServesClient (name : List ℕ) (faults : List Line) : Type 0 where
    pub asks : AsksOnce old new ReadWrite name status
    pub session : (first : Beginning) → first.kind ≡ OneGroup → IsBeginning bytes_of first old knows
        → SessionStands first faults (aftermath_of bytes_of new) status ⊎ (IsUnopened status × IsNotOpened old new)
    pub promise : (first : Beginning) → first.kind ≡ OneGroup → IsBeginning bytes_of first old knows
        → KeepsSession faults first.script first.report first.image new.written
    pub counts : SessionCounts old.counts new.counts status
    pub talks : (first : Beginning) → first.kind ≡ OneGroup → IsBeginning bytes_of first old knows
        → AsksOnly (IsToldBy first faults) old.asked new.asked
    pub fails : knows ≡ true → status ≡ statuses.ImageFault → EndsAtFailure bytes_of past_of new ⊎ IsNotOpened old new
