-- The rooms that a certificate is told or checked in. For who takes them, and for the calls that work in them.
use Rattle.std.specs.Prelude.{◌≤◌, vec_capacity}
use Rattle.ram_audit.specs.Rooms.{AreReadyToAudit}
use Rattle.ram_certificate.specs.declared.rooms.CertificateRooms.{CertificateRooms}
use Rattle.ram_certificate.specs.declared.rooms.TheConstants.{ANSWER_ROOM}

-- The memory of an audit is ready, and there is room for the answer of a check. (This project's own.)
pub record AreReadyToTell (rooms : CertificateRooms) : Type 0 where
  pub audit : AreReadyToAudit rooms.audit
  pub answer : ANSWER_ROOM ≤ vec_capacity rooms.answer
