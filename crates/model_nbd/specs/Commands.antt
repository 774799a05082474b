-- The command blocks that do a request, and the errors that their answers are told as. (After INCITS MMC and the NBD protocol; which
-- answer is told as which error is this project's own.)
use Rattle.std.specs.Prelude.{◌≡◌, ◌≤◌, ℕ, zero, suc, ◌+◌, ◌-◌, ◌*◌, ◌/◌, ◌==◌, ◌&&◌, if◌then◌else◌, Bool, List, [], ◌∷◌, ◌++◌, map, take, drop, replicate}
use Rattle.byteorder.specs.Endian.{big_bytes}
use Rattle.model_sense.specs.declared.answer.Answer.{Answer}
use Rattle.model_sense.specs.declared.answer.Answer.TheVariants as answers
use Rattle.model_sense.specs.declared.sense.Sense.{Sense}
use Rattle.model_nbd.specs.declared.NbdOperation.{NbdOperation}
use Rattle.model_nbd.specs.declared.NbdOperation.TheVariants as operations
use Rattle.model_nbd.specs.declared.TheConstants.{EIO, ENOSPC, ESHUTDOWN}

-- n sectors from `lba` on
pub record Sectors : Type 0 where
  pub lba : ℕ
  pub n : ℕ

-- n sectors in parts of 1,024, as many as are counted, and one last part with the rest
abbrev pub parts_before : (before lba n : ℕ) → List Sectors
parts_before zero lba n = record { lba = lba; n = n } ∷ []
parts_before (suc k) lba n = record { lba = lba; n = 1024 } ∷ parts_before k (lba + 1024) (n - 1024)

-- The fewest parts for n sectors, and at least one: a command moves at most 1,024.
abbrev pub parts : (lba n : ℕ) → List Sectors
parts lba n = parts_before ((n - 1) / 1024) lba n

-- The parts follow one another from the first sector to the end, and none has more than 1,024.
abbrev pub Covers : (first : ℕ) → List Sectors → (end : ℕ) → Type 0
Covers first [] end = first ≡ end
Covers first (part ∷ rest) end = (part.lba ≡ first) × (part.n ≤ 1024) × Covers (first + part.n) rest end

-- READ(12)
abbrev pub read_cdb : Sectors → List ℕ
read_cdb part = 0xa8 ∷ 0 ∷ big_bytes 4 part.lba ++ big_bytes 4 part.n ++ 0 ∷ 0 ∷ []

-- WRITE(12), with FUA or without
abbrev pub write_cdb : Bool → Sectors → List ℕ
write_cdb fua part = 0xaa ∷ (if fua then 8 else 0) ∷ big_bytes 4 part.lba ++ big_bytes 4 part.n ++ 0 ∷ 0 ∷ []

-- SYNCHRONIZE CACHE(10)
abbrev pub sync_cdb : List ℕ
sync_cdb = 0x35 ∷ replicate 9 0

-- a command: its block, and its data
pub record Command : Type 0 where
  pub cdb : List ℕ
  pub payload : List ℕ

-- a command without data
abbrev pub bare : List ℕ → Command
bare cdb = record { cdb = cdb; payload = [] }

-- a write of a part, with the data of the request that belong to it
abbrev pub write_of : Bool → (first : ℕ) → List ℕ → Sectors → Command
write_of fua first payload part =
    record { cdb = write_cdb fua part; payload = take (2048 * part.n) (drop (2048 * (part.lba - first)) payload) }

-- n zeros
unfoldable pub zeroes_for : ℕ → List ℕ
zeroes_for n = replicate n 0

-- a write of zeros to a part
abbrev pub zero_of : Bool → Sectors → Command
zero_of fua part = record { cdb = write_cdb fua part; payload = zeroes_for (2048 * part.n) }

-- The commands that do a request, in their order. They are done up to the first that is not good.
abbrev pub commands_of : NbdOperation → List ℕ → List Command
commands_of (operations.Refused error) payload = []
commands_of (operations.Read lba n) payload = map (λ part. bare (read_cdb part)) (parts lba n)
commands_of (operations.Write lba n fua) payload = map (write_of fua lba payload) (parts lba n)
commands_of (operations.WriteZeroes lba n fua) payload = map (zero_of fua) (parts lba n)
commands_of operations.Flush payload = bare sync_cdb ∷ []
commands_of operations.Disconnect payload = bare sync_cdb ∷ []

-- no spare is left: 3/32/00
abbrev pub lacks_spare : Sense → Bool
lacks_spare sense = (sense.key == 3) && (sense.asc == 0x32) && (sense.ascq == 0)

-- The error that the answer to the last command is told as. A Fault ends the session instead.
abbrev pub error_of : Answer → ℕ
error_of answers.Good = 0
error_of (answers.Check sense) = if lacks_spare sense then ENOSPC else EIO
error_of answers.Cut = ESHUTDOWN
error_of answers.Off = ESHUTDOWN
error_of answers.Fault = EIO

-- the data of these commands, one after another
abbrev pub payload_in : List Command → List ℕ
payload_in [] = []
payload_in (command ∷ rest) = command.payload ++ payload_in rest
