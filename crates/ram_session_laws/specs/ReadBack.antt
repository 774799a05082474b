-- What a client may rely on of a sector: which messages wrote it and which read it, by what they ask and how they were told. For the laws
-- of what is read back. (This project's own, as all here.)
use Rattle.std.specs.Prelude.{◌≡◌, ◌⊎◌, ℕ, List, [], ◌∷◌, ◌++◌}
use Rattle.model_nbd.specs.declared.NbdOperation.{NbdOperation}
use Rattle.model_nbd.specs.declared.NbdOperation.TheVariants as operations
use Rattle.model_nbd.specs.Messages.{Request, reply_bytes}
use Rattle.model_nbd.specs.Operations.{request_asks}
use Rattle.model_sectors.specs.Discs.{zeros}
use Rattle.ram_text.specs.declared.script.Line.{Line}
use Rattle.ram_machine.specs.Acknowledged.{IsAmong, LeavesSector}
use Rattle.ram_machine.specs.SectorBytes.{bytes_of_sector}
use Rattle.ram_session.specs.Doing.{AsksToLast, WereGood}
use Rattle.ram_session.specs.Kept.{LeaveByMessages}
use Rattle.ram_session.specs.Talk.{Asks, Turned}

-- The message is this request, and it was told without an error, with these data.
pub record WasToldGood (turned : Turned) (request : Request) (told : List ℕ) : Type 0 where
  pub message_is : turned.message ≡ Asks request
  pub told_is : turned.bytes ≡ reply_bytes 0 request.header.cookie told

-- what is asked writes these bytes to the sector
abbrev pub SendsToSector : (at : ℕ) → NbdOperation → (payload bytes : List ℕ) → Type 0
SendsToSector at (operations.Write lba n fua) payload bytes = IsAmong lba n at × (bytes ≡ bytes_of_sector lba payload at)
SendsToSector at (operations.WriteZeroes lba n fua) payload bytes = IsAmong lba n at × (bytes ≡ zeros 2048)
SendsToSector at _ payload bytes = ⊥

-- The message wrote these bytes to the sector of a disc of this many bytes, and was told without an error.
pub record WroteSector (size at : ℕ) (turned : Turned) (bytes : List ℕ) : Type 0 where
  pub request : Request
  pub told : WasToldGood turned request []
  pub sends : SendsToSector at (request_asks size request.header) request.payload bytes

-- The message read these bytes of the sector: it was told without an error, and they are the sector's among the data.
pub record ReadSector (size at : ℕ) (turned : Turned) (bytes : List ℕ) : Type 0 where
  pub request : Request
  pub data_told : List ℕ
  pub told : WasToldGood turned request data_told
  pub lba : ℕ
  pub n : ℕ
  pub asks : request_asks size request.header ≡ operations.Read lba n
  pub among : IsAmong lba n at
  pub bytes_are : bytes ≡ bytes_of_sector lba data_told at

-- The message asked for all that was written to last, and was told without an error.
pub record WasFlushed (size : ℕ) (turned : Turned) : Type 0 where
  pub request : Request
  pub told : WasToldGood turned request []
  pub asks : request_asks size request.header ≡ operations.Flush

-- The client left by this message, and the drive made all that was written last. (It is not told of that.)
pub record LeftSynchronised (size : ℕ) (turned : Turned) : Type 0 where
  pub request : Request
  pub message_is : turned.message ≡ Asks request
  pub asks : request_asks size request.header ≡ operations.Disconnect
  pub good : WereGood turned.dids

-- The newest message but some that leave the sector wrote it with FUA, with these bytes.
pub record WroteThrough (size at : ℕ) (turns : List Turned) (bytes : List ℕ) : Type 0 where
  pub after : List Turned
  pub wrote : Turned
  pub before : List Turned
  pub turns_are : turns ≡ after ++ (wrote ∷ before)
  pub written : WroteSector size at wrote bytes
  pub with_fua : AsksToLast (request_asks size written.request.header)
  pub leave : LeaveByMessages size at after

-- A message wrote these bytes to the sector or read them of it, and a later one made all last; no other from the first one on wrote the
-- sector.
pub record HadAndFlushed (size at : ℕ) (turns : List Turned) (bytes : List ℕ) : Type 0 where
  pub after : List Turned
  pub flushed : Turned
  pub between : List Turned
  pub told : Turned
  pub before : List Turned
  pub turns_are : turns ≡ after ++ (flushed ∷ (between ++ (told ∷ before)))
  pub had : WroteSector size at told bytes ⊎ ReadSector size at told bytes
  pub lasts : WasFlushed size flushed ⊎ LeftSynchronised size flushed
  pub leave_between : LeaveByMessages size at between
  pub leave : LeaveByMessages size at after

-- the sector has these bytes, and was made to last
abbrev pub SettledSector : (size at : ℕ) → List Turned → List ℕ → Type 0
SettledSector size at turns bytes = WroteThrough size at turns bytes ⊎ HadAndFlushed size at turns bytes

-- None of the faults that the words ask for writes the sector.
abbrev pub FaultsLeave : (at : ℕ) → List Line → Type 0
FaultsLeave at [] = Unit {0}
FaultsLeave at (line ∷ rest) = LeavesSector at line [] × FaultsLeave at rest
