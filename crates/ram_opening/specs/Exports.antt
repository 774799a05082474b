-- What a client is served, as the code has it. For the call that opens a session, and the answers of the handshake. (This project's own,
-- as all here.)
use Rattle.std.specs.Prelude.{ℕ, ◌*◌, ◌<◌, ◌^◌, IfSome, Option, Some, None, List, [], codes}
use Rattle.model_nbd.specs.Handshake.{Export as Told}
use Rattle.ram_nbd.specs.Replies.{export_of}
use Rattle.ram_opening.specs.declared.opening.Export.{Export}
use Rattle.ram_opening.specs.declared.opening.Export.TheVariants as exports

-- how many bytes the disc has
abbrev pub export_size : Export → Option ℕ
export_size (exports.Disc size) = Some size
export_size export = None

-- why no disc is served
abbrev pub export_reason : Export → List ℕ
export_reason (exports.Disc size) = []
export_reason exports.NoDisc = codes "the image holds no disc"
export_reason exports.NotFormatted = codes "the disc is not formatted"
export_reason exports.Off = codes "the power is off"

-- the same as the protocol has it
abbrev pub told_export : Export → Told
told_export export = export_of (export_size export) (export_reason export)

-- a disc that is served has fewer than 2^32 sectors
abbrev pub FitsSectors : Export → Type 0
FitsSectors export = IfSome (export_size export) (λ size. size < 2048 * 2 ^ 32)
