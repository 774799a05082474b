-- That a drive stands for something, and what it shows by the state that it holds: for `Volume` and the calls under it.
-- (This project's own, as all here.)
use Rattle.std.specs.Prelude.{IsSome, Option, Some, None}
use Rattle.std.proofs.lemmas.Bool.{false≢true}
use Rattle.model_sectors.specs.Discs.{Standing}
use Rattle.model_drive.specs.Shown.{Shown, IsKnown, StandsFor}
use Rattle.ram_medium.specs.declared.blocks.Medium.{Ghosts}
use Rattle.ram_medium.specs.declared.control.MediumControl.{Ghosts as ControlGhosts}
use Rattle.ram_states.specs.Shown.{shown_state}
use Rattle.ram_states.specs.declared.states.State.{State}

-- Where the cells of its medium are known, a drive does not stand for nothing.
abbrev pub StandsForSome : Shown → Type 0
StandsForSome shown = IsKnown shown → ¬ ((s : Standing) → ¬ StandsFor shown s)

module _ {M : Type 0} {c : ControlGhosts M} {d : Ghosts M} where
  -- the state that a drive holds between two calls
  abbrev pub state_in : (held : Option (State M c d)) → IsSome held → State M c d
  state_in None none = absurd (false≢true none)
  state_in (Some state) some = state

  -- what the drive shows
  abbrev pub shown_in : (held : Option (State M c d)) → IsSome held → Shown
  shown_in held some = shown_state (state_in held some)
