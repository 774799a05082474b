-- What an audit of an image says, and a check of a text against one. (This project's own, as all here.)
use Rattle.std.specs.Prelude.{◌≡◌, ℕ, Option, IfSome, List}
use Rattle.model_counts.specs.Counts.{Rose}
use Rattle.model_geometry.specs.declared.kinds.LayoutKind.TheVariants.{OneGroup}
use Rattle.model_geometry.specs.Geometry.{Shape, total}
use Rattle.model_image.specs.Cells.{cells_of}
use Rattle.model_image.specs.Image.{IsDiscImage}
use Rattle.model_audit.specs.declared.lines.CertificateLine.{CertificateLine}
use Rattle.model_audit.specs.Text.{text_of}
use Rattle.model_audit.specs.Certificate.{IsCertificate}
use Rattle.ram_outside.specs.Image.{IsUnchanged, ImageFails}
use Rattle.ram_audit.specs.declared.discs.Audited.{Audited}
use Rattle.ram_audit.specs.declared.discs.Audited.TheVariants as audits
use Rattle.ram_audit.specs.declared.discs.Checked.{Checked}
use Rattle.ram_audit.specs.declared.discs.Checked.TheVariants as checks
use Rattle.ram_audit.specs.declared.lines.Lines.{Lines}
use Rattle.ram_audit.specs.Comparing.{FirstDiffer}
use Rattle.ram_audit.specs.Telling.{AreLines}

-- The bytes are the image of a disc, and these lines are its certificate.
pub record AreCertificateOf (held : List ℕ) (told : List CertificateLine) : Type 0 where
  pub shape : Shape
  pub one : shape.layout ≡ OneGroup
  pub disc : IsDiscImage shape held
  pub certifies : IsCertificate shape (cells_of (total shape) held) told

-- The bytes are no disc's.
abbrev pub IsNoDisc : List ℕ → Type 0
IsNoDisc held = (shape : Shape) → shape.layout ≡ OneGroup → ¬ IsDiscImage shape held

-- The lines that were told are those of an image with these bytes, where they are known.
pub record AreLinesOf (lines : Lines) (bytes : Option (List ℕ)) : Type 0 where
  pub told : List CertificateLine
  pub are : AreLines lines told
  pub of : IfSome bytes (λ held. AreCertificateOf held told)

-- What an audit of an image does, by its answer: its bytes, where they are known, and its count of failures, before and after.
abbrev pub AuditRule : (before after : Option (List ℕ)) → (faults faults' : ℕ) → Lines → Audited → Type 0
AuditRule before after faults faults' lines audits.Told = IsUnchanged before after faults faults' × AreLinesOf lines before
AuditRule before after faults faults' lines audits.NotADisc = IsUnchanged before after faults faults' × IfSome before IsNoDisc
AuditRule before after faults faults' lines audits.Failed = ImageFails before after faults faults'

-- the bytes that a source had left are the text of the certificate of an image with these bytes, where both are known
pub record IsCertificateText (bytes left : Option (List ℕ)) : Type 0 where
  pub told : List CertificateLine
  pub of : IfSome bytes (λ held. AreCertificateOf held told)
  pub same : IfSome left (λ text. text ≡ text_of told)

-- they are not, and first differ from it in this line
pub record DiffersFirst (bytes left : Option (List ℕ)) (line : ℕ) : Type 0 where
  pub told : List CertificateLine
  pub of : IfSome bytes (λ held. AreCertificateOf held told)
  pub differ : IfSome left (λ text. FirstDiffer text (text_of told) line)

-- what a source has left, and its count of failures, stay
pub record IsUnread (left left' : Option (List ℕ)) (faults faults' : ℕ) : Type 0 where
  pub left_same : left' ≡ left
  pub no_fault : faults' ≡ faults

-- What a check does, by its answer: the same of the image, and what the source has left and its count, before and after.
abbrev pub CheckRule : (before after : Option (List ℕ)) → (faults faults' : ℕ) → (left left' : Option (List ℕ)) → (source source' : ℕ) → Checked → Type 0
CheckRule before after faults faults' left left' source source' checks.Yes =
    IsUnchanged before after faults faults' × IsCertificateText before left × (source' ≡ source)
CheckRule before after faults faults' left left' source source' (checks.No line) =
    IsUnchanged before after faults faults' × DiffersFirst before left line × (source' ≡ source)
CheckRule before after faults faults' left left' source source' checks.NotADisc =
    IsUnchanged before after faults faults' × IfSome before IsNoDisc × IsUnread left left' source source'
CheckRule before after faults faults' left left' source source' checks.ImageFailed =
    ImageFails before after faults faults' × IsUnread left left' source source'
CheckRule before after faults faults' left left' source source' checks.SourceFailed =
    IsUnchanged before after faults faults' × Rose source source'
