-- The rooms that a run takes before it asks for anything else. For the public call of the run, and for who takes them.
use Rattle.std.specs.Prelude.{List, ℕ}
use Rattle.model_geometry.specs.declared.kinds.LayoutKind.{LayoutKind}
use Rattle.model_geometry.specs.declared.kinds.LayoutKind.TheVariants.{OneGroup}
use Rattle.ram_run.specs.declared.rooms.Rooms.{Rooms}
use Rattle.ram_run.specs.declared.rooms.Rooms.TheVariants as taken
use Rattle.ram_script.specs.Rooms.{AreReady}
use Rattle.ram_summary.specs.Rooms.{AreReadyFor}
use Rattle.ram_certificate.specs.Rooms.{AreReadyToTell}
use Rattle.ram_serve.specs.Rooms.{AreReadyToServe}
use Rattle.ram_mirrored.specs.Rooms.{AreReadyToMirror}
use Rattle.ram_run.specs.Words.{IsServedImage, IsGenerate, IsOfCertificate, IsNbd, IsMirror}

-- they are those for the lines of a script (this project's own, as all here)
abbrev pub AreOfScript : LayoutKind → Rooms → Type 0
AreOfScript kind (taken.Script rooms) = AreReady kind rooms
AreOfScript kind _ = ⊥

-- they are those for a script that is drawn from a number
abbrev pub AreOfNumber : Rooms → Type 0
AreOfNumber (taken.Generate rooms) = AreReadyFor rooms
AreOfNumber _ = ⊥

-- they are those for a certificate
abbrev pub AreOfCertificate : Rooms → Type 0
AreOfCertificate (taken.Certificate rooms) = AreReadyToTell rooms
AreOfCertificate _ = ⊥

-- they are those for a session of a client
abbrev pub AreOfSession : Rooms → Type 0
AreOfSession (taken.Session rooms) = AreReadyToServe OneGroup rooms
AreOfSession _ = ⊥

-- they are those for a mirror
abbrev pub AreOfMirror : Rooms → Type 0
AreOfMirror (taken.Mirror rooms) = AreReadyToMirror rooms
AreOfMirror _ = ⊥

-- The words need no rooms: they neither run the lines of a script, nor one that is drawn from a number, nor tell or check a certificate,
-- nor serve a client, nor ask for a mirror.
pub record NeedNoRooms (words : List (List ℕ)) : Type 0 where
  pub served : (kind : LayoutKind) → ¬ IsServedImage kind words
  pub generate : ¬ IsGenerate words
  pub certificate : ¬ IsOfCertificate words
  pub session : ¬ IsNbd words
  pub mirror : ¬ IsMirror words

-- They are those that the words ask for.
pub record AreRoomsFor (words : List (List ℕ)) (rooms : Rooms) : Type 0 where
  pub served : (kind : LayoutKind) → IsServedImage kind words → AreOfScript kind rooms
  pub generate : IsGenerate words → AreOfNumber rooms
  pub certificate : IsOfCertificate words → AreOfCertificate rooms
  pub session : IsNbd words → AreOfSession rooms
  pub mirror : IsMirror words → AreOfMirror rooms
