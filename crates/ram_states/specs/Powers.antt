-- What turning the power on and off does: for `power_on` and `power_off`. (This project's own, as all here.)
use Rattle.std.specs.Prelude.{◌≡◌, false, None, []}
use Rattle.model_stops.specs.declared.Stop.{Stop}
use Rattle.model_stops.specs.declared.Stop.TheVariants as stops
use Rattle.model_sectors.specs.Discs.{Standing}
use Rattle.model_sectors.specs.declared.PowerOut.{PowerOut}
use Rattle.model_sectors.specs.declared.PowerOut.TheVariants as outs
use Rattle.model_drive.specs.Shown.{Shown, StandsFor, capacity}
use Rattle.model_drive.specs.Power.{PowerStep}
use Rattle.ram_medium.specs.declared.blocks.Medium.{Ghosts}
use Rattle.ram_medium.specs.declared.control.MediumControl.{Ghosts as ControlGhosts}
use Rattle.ram_states.specs.Shown.{shown_off, shown_bare, shown_ready}
use Rattle.ram_states.specs.declared.states.PowerOn.{PowerOn}
use Rattle.ram_states.specs.declared.states.PowerOn.TheVariants as powers

-- the drive with its power turned off: nothing in memory is kept
abbrev pub turned_off : Shown → Shown
turned_off shown = record {
  shape = shown.shape;
  medium = record shown.medium { world = record shown.medium.world { power = false } };
  lists = None;
  mark = 0;
  buffer = [];
}

module _ {M : Type 0} {c : ControlGhosts M} {d : Ghosts M} where
  -- what the drive shows after its power went on
  abbrev pub shown_after : PowerOn M c d → Shown
  shown_after (powers.Ready ready) = shown_ready ready
  shown_after (powers.NotFormatted bare) = shown_bare bare
  shown_after (powers.Cut off) = shown_off off
  shown_after (powers.Fault off) = shown_off off

  -- its medium then
  abbrev pub medium_after : PowerOn M c d → M
  medium_after (powers.Ready ready) = ready.medium
  medium_after (powers.NotFormatted bare) = bare.medium
  medium_after (powers.Cut off) = off.medium
  medium_after (powers.Fault off) = off.medium

  -- how that ended
  abbrev pub power_out : PowerOn M c d → PowerOut
  power_out (powers.Ready ready) = outs.Ready (capacity (shown_ready ready))
  power_out (powers.NotFormatted bare) = outs.NotFormatted
  power_out (powers.Cut off) = outs.Cut
  power_out (powers.Fault off) = outs.Fault

-- how the turning on ends whose mount was stopped for this cause
abbrev pub StopsPower : Stop → PowerOut → Type 0
StopsPower stops.Cut out = out ≡ outs.Cut
StopsPower stops.Off out = ⊥
StopsPower stops.Fault out = out ≡ outs.Fault

-- What the drive stands for after that, for each thing that it stood for.
abbrev pub PowerSteps : Shown → Shown → PowerOut → Type 0
PowerSteps old new out = (s : Standing) → StandsFor old s → PowerStep new (StandsFor new) s out
