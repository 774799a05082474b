-- A write that could end well does.
use Rattle.std.proofs.Common.{◌≡◌, ℕ, Option, ap, subst}
use Rattle.std.specs.Option.{option_map_or}
use Rattle.model_places.specs.Places.{Lists}
use Rattle.model_places.specs.Valid.{AreValid}
use Rattle.model_drive.specs.declared.WriteOut.{WriteOut}
use Rattle.model_drive.specs.Shown.{Shown}
use Rattle.model_drive.specs.Writes.{WriteCause, WriteCompletes}
use Rattle.model_drive.proofs.WriteCompleting.{write_completes}
use Rattle.ram_medium.specs.declared.blocks.Medium.{Ghosts}
use Rattle.ram_medium.specs.declared.control.MediumControl.{Ghosts as ControlGhosts}
use Rattle.ram_lists.specs.Lists.{lists_of}
use Rattle.ram_states.specs.Shown.{shown_ready}
use Rattle.ram_states.specs.declared.states.Ready.{Ready}

-- its lists are valid, and the geometry stays
pub completes_write : {M : Type 0} {c : ControlGhosts M} {d : Ghosts M} (ready : Ready M c d) (new : Shown) → new.shape ≡ ready.geometry → (lba n : ℕ) (out : WriteOut) → WriteCause (shown_ready ready) new lba n out
    → WriteCompletes (shown_ready ready) new lba n out
completes_write ready new same lba n out cause =
    write_completes (shown_ready ready) new lba n
    (λ lists is. subst (AreValid ready.geometry) (ap (λ (o : Option Lists). option_map_or (λ (l : Lists). l) o (lists_of ready.memory.lists)) is) ready.valid) same out cause
