-- What the program tells of an image, and how it checks a text against one. For the clauses of the run on these words. (This
-- project's own, as all here.)
use Rattle.std.specs.Prelude.{◌≡◌, ℕ, ◌⊎◌, Bool, true, Option, Some, List, [], take, codes}
use Rattle.std.specs.Io.KnownBytes.{append_known}
use Rattle.model_audit.specs.declared.lines.CertificateLine.{CertificateLine}
use Rattle.model_audit.specs.Text.{text_of}
use Rattle.ram_audit.specs.Bytes.{difference_text}
use Rattle.ram_audit.specs.Comparing.{FirstDiffer}
use Rattle.ram_audit.specs.Discs.{AreCertificateOf, IsNoDisc}
use Rattle.ram_outside.specs.Sink.{FailsOnce}
use Rattle.ram_outside.specs.declared.opener.Access.TheVariants.{ReadOnly}
use Rattle.ram_machine.specs.declared.status.Status.{Status}
use Rattle.ram_machine.specs.declared.status.Status.TheVariants as statuses
use Rattle.ram_script.specs.Endings.{IsUnopened}
use Rattle.ram_script.specs.Opened.{bytes_returned}
use Rattle.ram_script.specs.Around.{Surroundings, IsNotOpened, AsksOnce}
use Rattle.ram_summary.specs.Generating.{AsksUnread}

-- what is written of an image that is no disc's
abbrev pub no_disc_text : List ℕ
no_disc_text = codes "not a disc\n"

-- What an audit of an image with these bytes writes, by the status that is due.
abbrev pub AuditAnswers : (held text : List ℕ) → Status → Type 0
AuditAnswers held text statuses.Done = (told : List CertificateLine) × AreCertificateOf held told × (text ≡ text_of told)
AuditAnswers held text statuses.NotADisc = IsNoDisc held × (text ≡ no_disc_text)
AuditAnswers held text statuses.ImageFault = text ≡ []
AuditAnswers held text _ = ⊥

-- the bytes that were left are the text of the certificate of an image with these bytes
abbrev pub IsItsText : (held left : List ℕ) → Type 0
IsItsText held left = (told : List CertificateLine) × AreCertificateOf held told × (left ≡ text_of told)

-- they are not, and first differ from it in this line
abbrev pub DiffersFromIt : (held left : List ℕ) (line : ℕ) → Type 0
DiffersFromIt held left line = (told : List CertificateLine) × AreCertificateOf held told × FirstDiffer left (text_of told) line

-- What a check of the bytes that were left against such an image writes, by the status that is due.
abbrev pub CheckAnswers : (held left text : List ℕ) → Status → Type 0
CheckAnswers held left text statuses.Done = IsItsText held left × (text ≡ codes "yes\n")
CheckAnswers held left text statuses.Differs = (line : ℕ) × DiffersFromIt held left line × (text ≡ difference_text line)
CheckAnswers held left text statuses.NotADisc = IsNoDisc held × (text ≡ no_disc_text)
CheckAnswers held left text statuses.ImageFault = text ≡ []
CheckAnswers held left text statuses.SourceFault = text ≡ []
CheckAnswers held left text _ = ⊥

-- What is due is written, by the status: all of it, or the beginning of what was due where the sink failed.
abbrev pub Tells : (answers : List ℕ → Status → Type 0) → (before after : Option (List ℕ)) → Status → Type 0
Tells answers before after statuses.SinkFault =
    (due : Status) × (text : List ℕ) × (n : ℕ) × answers text due × (after ≡ append_known before (take n text))
Tells answers before after status = (text : List ℕ) × answers text status × (after ≡ append_known before text)

-- The text was written, and the status is the one that was due; or the sink failed, and a beginning was written.
abbrev pub AnswersBy : (due : Status) (text : List ℕ) → (before after : Option (List ℕ)) → (faults faults' : ℕ) → Status → Type 0
AnswersBy due text before after faults faults' status =
    ((status ≡ due) × (after ≡ append_known before text) × (faults' ≡ faults))
    ⊎ ((status ≡ statuses.SinkFault) × ((n : ℕ) × (after ≡ append_known before (take n text)))
    × FailsOnce faults faults')

-- The image that is opened next has these bytes, and the opener tells what is handed back.
pub record OpensKnown {I : Type 0} (bytes_of : I → Option (List ℕ)) (held : List ℕ) (before : Surroundings I) (returned_known : Bool) : Type 0 where
  pub image : I
  pub next_is : before.opener.next ≡ Some image
  pub image_is : bytes_of image ≡ Some held
  pub returned_known_is : returned_known ≡ true

-- what was due is written, and the image is handed back with the bytes that it had; or no image was opened
abbrev pub TellsOf : {I : Type 0} (bytes_of : I → Option (List ℕ)) (held : List ℕ) (answers : List ℕ → Status → Type 0) → (old new : Surroundings I) → Status → Type 0
TellsOf bytes_of held answers old new status =
    (Tells answers old.written new.written status × (bytes_returned bytes_of new.opener.returned ≡ Some held))
    ⊎ (IsUnopened status × IsNotOpened old new)

-- What an audit does: the opener is asked for the image once, to be read alone, and nothing is read from the source.
pub record Audits {I : Type 0} (bytes_of : I → Option (List ℕ)) (old new : Surroundings I) (returned_known : Bool) (name : List ℕ) (status : Status) : Type 0 where
  pub asks : AsksUnread old new ReadOnly name status
  pub tells : (held : List ℕ) → OpensKnown bytes_of held old returned_known → TellsOf bytes_of held (AuditAnswers held) old new status

-- What a check does: the opener is asked for the image once, to be read alone.
pub record Checks {I : Type 0} (bytes_of : I → Option (List ℕ)) (old new : Surroundings I) (returned_known : Bool) (name : List ℕ) (status : Status) : Type 0 where
  pub asks : AsksOnce old new ReadOnly name status
  pub tells : (held left : List ℕ) → OpensKnown bytes_of held old returned_known → old.left ≡ Some left
      → TellsOf bytes_of held (CheckAnswers held left) old new status
