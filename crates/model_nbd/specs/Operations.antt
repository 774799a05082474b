-- What a request asks of a disc of `size` bytes. (After the NBD protocol; which requests are taken is this project's own.)
use Rattle.std.specs.Prelude.{ℕ, ◌+◌, ◌/◌, ◌%◌, ◌==◌, ◌&&◌, nat_lt, nat_le, if◌then◌else◌, Bool}
use Rattle.model_nbd.specs.declared.Header.{Header}
use Rattle.model_nbd.specs.declared.NbdOperation.{NbdOperation}
use Rattle.model_nbd.specs.declared.NbdOperation.TheVariants.{Refused, Read, Write, WriteZeroes, Flush, Disconnect}
use Rattle.model_nbd.specs.declared.TheConstants.{READ, WRITE, DISCONNECT, FLUSH, WRITE_ZEROES, MOST_BYTES, EINVAL, ENOSPC}

-- bit 0 of the command flags, FUA: the bytes are on the disc before the reply
abbrev pub has_fua : Header → Bool
has_fua header = header.flags % 2 == 1

-- The request begins and ends with a sector.
abbrev pub has_whole_sectors : Header → Bool
has_whole_sectors header = (header.offset % 2048 == 0) && (header.len % 2048 == 0)

-- It moves no more bytes than one request may.
abbrev pub is_short : Header → Bool
is_short header = nat_le header.len MOST_BYTES

-- A read or a write that is well formed: no flag but FUA, whole sectors, and no more bytes than one request may move
abbrev pub is_moved : Header → Bool
is_moved header = nat_lt header.flags 2 && has_whole_sectors header && is_short header

-- It ends on the disc.
abbrev pub ends_on_disc : (size : ℕ) → Header → Bool
ends_on_disc size header = nat_le (header.offset + header.len) size

-- A well-formed request on the disc asks this. One that is not well formed is refused with EINVAL, one past the end with this error.
abbrev pub if_taken : (well inside : Bool) → (error : ℕ) → NbdOperation → NbdOperation
if_taken well inside error operations = if well then (if inside then operations else Refused error) else Refused EINVAL

-- NBD_CMD_READ: whole sectors, with FUA or no flag
abbrev pub read_asked : (size : ℕ) → Header → NbdOperation
read_asked size header =
    if_taken (is_moved header) (ends_on_disc size header) EINVAL
    (Read (header.offset / 2048) (header.len / 2048))

-- NBD_CMD_WRITE: the same
abbrev pub write_asked : (size : ℕ) → Header → NbdOperation
write_asked size header =
    if_taken (is_moved header) (ends_on_disc size header) ENOSPC
    (Write (header.offset / 2048) (header.len / 2048) (has_fua header))

-- NBD_CMD_FLUSH: no offset and no length
abbrev pub flush_asked : Header → NbdOperation
flush_asked header =
    if nat_lt header.flags 2 && (header.offset == 0) && (header.len == 0) then Flush else Refused EINVAL

-- NBD_CMD_WRITE_ZEROES: whole sectors, of any length, with FUA, NO_HOLE or both
abbrev pub zeroes_asked : (size : ℕ) → Header → NbdOperation
zeroes_asked size header =
    if_taken (nat_lt header.flags 4 && has_whole_sectors header) (ends_on_disc size header) ENOSPC
    (WriteZeroes (header.offset / 2048) (header.len / 2048) (has_fua header))

-- What a request asks. Any other command is refused.
abbrev pub request_asks : (size : ℕ) → Header → NbdOperation
request_asks size header =
    if header.kind == READ then read_asked size header
    else if header.kind == WRITE then write_asked size header
    else if header.kind == DISCONNECT then Disconnect
    else if header.kind == FLUSH then flush_asked header
    else if header.kind == WRITE_ZEROES then zeroes_asked size header
    else Refused EINVAL
