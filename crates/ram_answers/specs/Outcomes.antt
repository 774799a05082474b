-- Why a line may end a run, and what failed then. (This project's own, as all here.)
use Rattle.std.specs.Prelude.{◌≡◌, ℕ, Result, Ok, Err}
use Rattle.model_counts.specs.Counts.{Rose}
use Rattle.ram_machine.specs.declared.stopped.Stopped.{Stopped}
use Rattle.ram_machine.specs.declared.stopped.Stopped.TheVariants as stopped

-- the images' count after a line that came out so: it rose exactly where a failure of an image ends the run
abbrev pub LineStops : {R : Type 0} → (faults faults' : ℕ) → Result R Stopped → Type 0
LineStops faults faults' (Ok reply) = faults' ≡ faults
LineStops faults faults' (Err stopped.NotInLanguage) = faults' ≡ faults
LineStops faults faults' (Err stopped.NotADisc) = faults' ≡ faults
LineStops faults faults' (Err stopped.ImageFault) = Rose faults faults'
LineStops faults faults' (Err why) = ⊥
