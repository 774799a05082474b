-- What a drive shows in each of its states: for the contracts of its calls. (This project's own, as all here.)
use Rattle.model_drive.specs.Shown.{Shown}
use Rattle.ram_medium.specs.Laws.{machine_shown}
use Rattle.ram_medium.specs.declared.blocks.Medium.{Ghosts}
use Rattle.ram_medium.specs.declared.control.MediumControl.{Ghosts as ControlGhosts}
use Rattle.ram_lists.specs.Lists.{lists_of}
use Rattle.ram_transfer.specs.Shown.{shown_without, shown_unformatted, shown_under}
use Rattle.ram_states.specs.declared.states.PoweredOff.{PoweredOff}
use Rattle.ram_states.specs.declared.states.Ready.{Ready}
use Rattle.ram_states.specs.declared.states.NotFormatted.{NotFormatted}
use Rattle.ram_states.specs.declared.states.State.{State}
use Rattle.ram_states.specs.declared.states.State.TheVariants as states

module _ {M : Type 0} {c : ControlGhosts M} {d : Ghosts M} where
  -- what each state shows
  abbrev pub shown_off : PoweredOff M c d → Shown
  shown_off off = shown_without off.geometry (machine_shown d.world c.arms c.armed_cut off.medium)

  abbrev pub shown_bare : NotFormatted M c d → Shown
  shown_bare bare = shown_unformatted bare.geometry (machine_shown d.world c.arms c.armed_cut bare.medium) bare.mark

  abbrev pub shown_ready : Ready M c d → Shown
  shown_ready ready =
      shown_under ready.geometry (machine_shown d.world c.arms c.armed_cut ready.medium) (lists_of ready.memory.lists) ready.memory.workspace.buffer

  abbrev pub shown_state : State M c d → Shown
  shown_state (states.Off off) = shown_off off
  shown_state (states.Ready ready) = shown_ready ready
  shown_state (states.NotFormatted bare) = shown_bare bare

  -- the medium under each state
  abbrev pub medium_under : State M c d → M
  medium_under (states.Off off) = off.medium
  medium_under (states.Ready ready) = ready.medium
  medium_under (states.NotFormatted bare) = bare.medium
