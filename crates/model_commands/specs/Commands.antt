-- The table of the drive's commands, and how many bytes of data go with each: for the parser of lines and the drive.
use Rattle.std.specs.Prelude.{ℕ, ◌*◌, nat_lt, nat_le, ◌==◌, if◌then◌else◌, Option, Some, None, List, [], ◌∷◌, length, drop, slice_index, find}
use Rattle.byteorder.specs.Endian.{big_number}
use Rattle.model_commands.specs.declared.TheConstants.{TRANSFER_LIMIT}
use Rattle.model_commands.specs.declared.Operation.{Operation}
use Rattle.model_commands.specs.declared.Operation.TheVariants.{TestUnitReady, RequestSense, FormatUnit, Inquiry, ModeSense6, StartStopUnit, PreventAllowMediumRemoval, ReadFormatCapacities, ReadCapacity10, Read10, Write10, WriteAndVerify10, Verify10, SynchronizeCache, GetConfiguration, GetEventStatusNotification, ReadDiscInformation, ModeSelect10, ModeSense10, Read12, Write12, ReadDvdStructure, SetStreaming}

-- The data that go with a command: none; n bytes; n sectors of 2,048 bytes, or n bytes, as a field
-- of the command block tells, which lies at this byte and has n bytes. (After INCITS MMC and SPC.)
pub data Data : Type 0 where
  NoData : Data
  Bytes : ℕ → Data
  Sectors : (at width : ℕ) → Data
  Listed : (at width : ℕ) → Data

-- a row of the table: the operation code, the number of bytes of the command block, and the data
pub record Row : Type 0 where
  pub code : ℕ
  pub bytes : ℕ
  pub taken : Data

-- the row of these three (this project's own)
abbrev pub row : ℕ → ℕ → Data → Row
row code bytes taken = record { code = code; bytes = bytes; taken = taken }

-- the table of the drive's commands (after INCITS MMC and SPC)
abbrev pub command : Operation → Row
command TestUnitReady = row 0x00 6 NoData
command RequestSense = row 0x03 6 NoData
command FormatUnit = row 0x04 6 (Bytes 12)
command Inquiry = row 0x12 6 NoData
command ModeSense6 = row 0x1a 6 NoData
command StartStopUnit = row 0x1b 6 NoData
command PreventAllowMediumRemoval = row 0x1e 6 NoData
command ReadFormatCapacities = row 0x23 10 NoData
command ReadCapacity10 = row 0x25 10 NoData
command Read10 = row 0x28 10 NoData
command Write10 = row 0x2a 10 (Sectors 7 2)
command WriteAndVerify10 = row 0x2e 10 (Sectors 7 2)
command Verify10 = row 0x2f 10 NoData
command SynchronizeCache = row 0x35 10 NoData
command GetConfiguration = row 0x46 10 NoData
command GetEventStatusNotification = row 0x4a 10 NoData
command ReadDiscInformation = row 0x51 10 NoData
command ModeSelect10 = row 0x55 10 (Listed 7 2)
command ModeSense10 = row 0x5a 10 NoData
command Read12 = row 0xa8 12 NoData
command Write12 = row 0xaa 12 (Sectors 6 4)
command ReadDvdStructure = row 0xad 12 NoData
command SetStreaming = row 0xb6 12 (Bytes 28)

-- all of the table's commands
abbrev pub operations : List Operation
operations =
    TestUnitReady ∷ RequestSense ∷ FormatUnit ∷ Inquiry ∷ ModeSense6 ∷ StartStopUnit ∷ PreventAllowMediumRemoval
    ∷ ReadFormatCapacities ∷ ReadCapacity10 ∷ Read10 ∷ Write10 ∷ WriteAndVerify10 ∷ Verify10 ∷ SynchronizeCache
    ∷ GetConfiguration ∷ GetEventStatusNotification ∷ ReadDiscInformation ∷ ModeSelect10 ∷ ModeSense10 ∷ Read12
    ∷ Write12 ∷ ReadDvdStructure ∷ SetStreaming ∷ []

-- the command with this operation code, if the table has one
abbrev pub operation_with : ℕ → Option Operation
operation_with code = find (λ operation. (command operation).code == code) operations

-- the command of a command block, whose first byte is the operation code
abbrev pub operation_of : List ℕ → Option Operation
operation_of cdb = operation_with (slice_index cdb 0)

-- the number in this field of a command block: n bytes from at on, the highest first
abbrev pub field : (at width : ℕ) → List ℕ → ℕ
field at width cdb = big_number width (drop at cdb)

-- how many bytes of data that are; none where the sectors are more than a command writes
abbrev pub data_length : Data → List ℕ → ℕ
data_length NoData cdb = 0
data_length (Bytes n) cdb = n
data_length (Sectors at width) cdb = if nat_le (field at width cdb) TRANSFER_LIMIT then field at width cdb * 2048 else 0
data_length (Listed at width) cdb = field at width cdb

-- The same for a command; none where the command block is shorter than the table says. Further bytes are not looked
-- at.
abbrev pub length_for : Option Operation → List ℕ → ℕ
length_for None cdb = 0
length_for (Some operation) cdb =
    if nat_lt (length cdb) (command operation).bytes then 0 else data_length (command operation).taken cdb

-- how many bytes of data a command block takes, none for an unknown operation code
abbrev pub out_length_of : List ℕ → ℕ
out_length_of cdb = length_for (operation_of cdb) cdb
