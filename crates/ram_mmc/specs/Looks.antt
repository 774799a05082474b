-- What the parts of a target do: for the calls under `execute`. (This project's own, as all here.)
use Rattle.std.specs.Prelude.{◌≡◌, ℕ, ⊤, Bool, IsTrue, if◌then◌else◌, Option, Some, None, List, []}
use Rattle.model_drive.specs.Shown.{Shown, IsOn, IsFormatted, capacity}
use Rattle.model_modes.specs.ParameterLists.{IsTakenList}
use Rattle.model_cdb.specs.declared.commands.Command.{Command}
use Rattle.model_cdb.specs.declared.commands.Command.TheVariants as commands
use Rattle.model_target.specs.Replies.{Feature, is_asked, feature_bytes}
use Rattle.ram_mmc.specs.declared.target.Look.{Look}
use Rattle.ram_mmc.specs.declared.target.Look.TheVariants as looks

-- A command that gives what the disc says of itself has a formatted disc, and one that sets mode pages has a list that is taken.
abbrev pub CanBeDone : (formatted : Bool) → (payload : List ℕ) → Command → Type 0
CanBeDone formatted payload (commands.Structure format alloc) = IsTrue formatted
CanBeDone formatted payload commands.ModeSelect = IsTakenList payload
CanBeDone formatted payload _ = ⊤

-- the power is on, and the disc has n sectors, or is not formatted
abbrev pub IsFormattedAs : Shown → Option ℕ → Type 0
IsFormattedAs shown None = IsOn shown × (shown.lists ≡ None)
IsFormattedAs shown (Some sectors) = IsOn shown × IsFormatted shown × (sectors ≡ capacity shown)

-- what a look at a disc finds
abbrev pub DiscLookRule : Shown → Look → Type 0
DiscLookRule shown looks.Off = ¬ IsOn shown
DiscLookRule shown looks.NotFormatted = IsFormattedAs shown None
DiscLookRule shown (looks.Formatted sectors) = IsFormattedAs shown (Some sectors)

-- the bytes of a feature where it is asked for, and none where it is not
abbrev pub feature_told : (kind first : ℕ) → Feature → List ℕ
feature_told kind first one = if is_asked kind first one then feature_bytes one else []
