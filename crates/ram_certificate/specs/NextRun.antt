-- What the first `power` line is answered of a run over an image that was checked. For the law of certificates. (This project's own, as
-- all here.)
use Rattle.std.specs.Prelude.{◌≡◌, ◌⊎◌, Some, Err}
use Rattle.model_places.specs.Places.{Lists, capacity_of}
use Rattle.ram_report.specs.declared.printing.Event.TheVariants as events
use Rattle.ram_machine.specs.declared.stopped.Stopped.TheVariants as stopped
use Rattle.ram_machine.specs.Replies.{Outcome, event}
use Rattle.ram_machine.specs.States.{State, Unopened, Disc}

-- These lists are in use, and the line was answered `ready` with the capacity that they give.
abbrev pub IsMountedWith : Lists → State → Outcome → Type 0
IsMountedWith lists (Unopened image) outcome = ⊥
IsMountedWith lists (Disc s) outcome = (s.disc.shown.drive.lists ≡ Some lists)
    × (outcome ≡ event (events.Ready (capacity_of s.disc.shown.drive.shape lists)))

-- That, or the image failed.
abbrev pub MountsOrFails : Lists → State → Outcome → Type 0
MountsOrFails lists t outcome = IsMountedWith lists t outcome ⊎ (outcome ≡ Err stopped.ImageFault)
