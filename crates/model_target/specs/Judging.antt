-- Whether a target does a command, or the first reason that applies why not. (After INCITS MMC and SPC; the order is this
-- project's own, as is all here.)
use Rattle.std.specs.Prelude.{◌≡◌, ℕ, Bool, true, false, ◌&&◌, not, Option, Some, None, Result, Ok, Err, List, [], ◌∷◌}
use Rattle.std.specs.List.{find}
use Rattle.model_commands.specs.declared.Operation.{Operation}
use Rattle.model_commands.specs.Commands.{operation_of}
use Rattle.model_modes.specs.ParameterLists.{IsTakenList}
use Rattle.model_sense.specs.Sense.{sense}
use Rattle.model_sense.specs.declared.sense.Sense.{Sense}
use Rattle.model_cdb.specs.declared.commands.Command.{Command}
use Rattle.model_cdb.specs.declared.commands.Command.TheVariants as commands
use Rattle.model_cdb.specs.Decoding.{Refusal, refusal, unless, decoded_as}
use Rattle.model_target.specs.declared.host.Host.{Host}
use Rattle.model_target.specs.Host.{is_told}

-- What is asked for, or the first reason against it that needs no look at the disc: an unknown code, the attention, and then
-- those of the command block and its data.
abbrev pub asked_in : (told : Bool) → Operation → (cdb payload : List ℕ) → Result Command Sense
asked_in true operation cdb payload = Err (sense 0x6 0x29 0x00)
asked_in false operation cdb payload = decoded_as operation cdb payload

-- the same where the table may have no command with this code
abbrev pub asked_by : Host → Option Operation → (cdb payload : List ℕ) → Result Command Sense
asked_by host None cdb payload = Err (sense 0x5 0x20 0x00)
asked_by host (Some operation) cdb payload = asked_in (is_told host operation) operation cdb payload

-- the same of a whole command block
abbrev pub asked : Host → (cdb payload : List ℕ) → Result Command Sense
asked host cdb payload = asked_by host (operation_of cdb) cdb payload

-- the disc is to be taken out
abbrev pub ejects : Command → Bool
ejects (commands.StartStop start eject) = eject && not start
ejects _ = false

-- the command needs a disc
abbrev pub needs_disc : Command → Bool
needs_disc commands.TestUnitReady = true
needs_disc (commands.Format kind) = true
needs_disc (commands.Expand capacity) = true
needs_disc commands.ReadCapacity = true
needs_disc (commands.Read lba n) = true
needs_disc (commands.Write lba n fua) = true
needs_disc (commands.Verify lba n) = true
needs_disc commands.Synchronize = true
needs_disc (commands.DiscInformation alloc) = true
needs_disc (commands.Structure format alloc) = true
needs_disc _ = false

-- the command needs a formatted disc: each that needs a disc, but a format, and one that asks what kind of disc it is
abbrev pub needs_format : Command → Bool
needs_format (commands.Format kind) = false
needs_format (commands.DiscInformation alloc) = false
needs_format command = needs_disc command

-- the reasons against a command that is asked for, in their order: 5/53/02, 2/3A/00, 3/31/00
abbrev pub hindrances : Host → (formatted : Bool) → Command → List Refusal
hindrances host formatted command =
    refusal (host.prevented && ejects command) (sense 0x5 0x53 0x02)
    ∷ refusal (host.out && needs_disc command) (sense 0x2 0x3a 0x00)
    ∷ refusal (needs_format command && not formatted) (sense 0x3 0x31 0x00)
    ∷ []

-- The same as a relation, where a list of mode pages is looked at too. It is 5/26/00 where it is not taken.
abbrev pub IsAllowed : Host → (formatted : Bool) → (payload : List ℕ) → Command → Result Command Sense → Type 0
IsAllowed host formatted payload commands.ModeSelect (Ok command) = (command ≡ commands.ModeSelect)
    × IsTakenList payload
IsAllowed host formatted payload commands.ModeSelect (Err why) = (why ≡ sense 0x5 0x26 0x00) × ¬ IsTakenList payload
IsAllowed host formatted payload asked_for result =
    result ≡ unless (find (λ r. r.applies) (hindrances host formatted asked_for)) asked_for

-- What a target makes of a command block with these data while the power is on: a command that is to be done, or the first
-- reason against it.
abbrev pub IsJudgedBy : Host → (formatted : Bool) → (payload : List ℕ)
    → Result Command Sense → Result Command Sense → Type 0
IsJudgedBy host formatted payload (Err why) result = result ≡ Err why
IsJudgedBy host formatted payload (Ok asked_for) result = IsAllowed host formatted payload asked_for result

-- the same of a whole command block and its data
abbrev pub IsJudged : Host → (formatted : Bool) → (cdb payload : List ℕ) → Result Command Sense → Type 0
IsJudged host formatted cdb payload result = IsJudgedBy host formatted payload (asked host cdb payload) result
