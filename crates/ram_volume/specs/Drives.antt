-- What a drive shows, and its medium: for the clauses of `Volume`. (This project's own, as all here.)
use Rattle.model_drive.specs.Shown.{Shown}
use Rattle.ram_medium.specs.declared.blocks.Medium.{Ghosts}
use Rattle.ram_medium.specs.declared.control.MediumControl.{Ghosts as ControlGhosts}
use Rattle.ram_states.specs.Shown.{medium_under}
use Rattle.ram_volume.specs.Volume.{shown_in, state_in}
use Rattle.ram_volume.specs.declared.volume.Volume.{Volume}

-- what a drive shows, by the state that it holds
abbrev pub shown_by : {M : Type 0} {c : ControlGhosts M} {d : Ghosts M} → Volume M c d → Shown
shown_by volume = shown_in volume.state volume.held

-- its medium
abbrev pub medium_by : {M : Type 0} {c : ControlGhosts M} {d : Ghosts M} → Volume M c d → M
medium_by volume = medium_under (state_in volume.state volume.held)
