-- What a call costs of what can be read, for the laws of drives with a write cache. (This project's own, as all here.)
use Rattle.std.specs.Prelude.{◌≢◌, ℕ, Bool, true, false}
use Rattle.model_drive.specs.declared.WriteOut.{WriteOut}
use Rattle.model_drive.specs.declared.WriteOut.TheVariants as writes
use Rattle.model_drive.specs.Shown.{Shown}
use Rattle.model_costs.specs.Costs.{Lives}
use Rattle.model_cache.specs.declared.TickOut.{TickOut}
use Rattle.model_cache.specs.declared.TickOut.TheVariants as ticks

-- Each logical block that could be read until it dies still can: but for one at most, where the call was stopped.
abbrev pub CostsAtMost : (stopped : Bool) → Shown → Shown → Type 0
CostsAtMost false old new = (i : ℕ) → Lives old i → Lives new i
CostsAtMost true old new = (at : ℕ) × ((i : ℕ) → i ≢ at → Lives old i → Lives new i)

-- a write was stopped: the power was cut in it, or what the medium lies on failed
abbrev pub is_stopped : WriteOut → Bool
is_stopped writes.Cut = true
is_stopped writes.Fault = true
is_stopped _ = false

-- so was a tick
abbrev pub is_stopped_tick : TickOut → Bool
is_stopped_tick ticks.Cut = true
is_stopped_tick ticks.Fault = true
is_stopped_tick _ = false
