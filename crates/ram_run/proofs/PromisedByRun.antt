-- That a run of the program's words keeps the promise, also where no image was opened.
use Rattle.std.specs.Prelude.{ℕ, ◌⊎◌, Bool, Option, List}
use Rattle.std.proofs.Common.{◌∙◌, inl, inr}
use Rattle.ram_machine.specs.declared.status.Status.{Status}
use Rattle.ram_script.specs.Around.{Surroundings, IsNotOpened}
use Rattle.ram_script.specs.Opened.{IsBeginning, aftermath_of}
use Rattle.ram_script.specs.Progress.{Beginning}
use Rattle.ram_script.specs.Endings.{IsUnopened, StandsWith}
use Rattle.ram_script.specs.Promise.{KeepsBytes}
use Rattle.ram_script.proofs.Promised.{promised, not_begun}

-- and so does a run of the words `run IMAGE`, also where no image was opened
pub promised_by_run : {I : Type 0} (bytes_of : I → Option (List ℕ)) (first : Beginning) (before after : Surroundings I) (known : Bool) (status : Status) → IsBeginning bytes_of first before known
    → StandsWith first (aftermath_of bytes_of after) before.counts after.counts status ⊎ (IsUnopened status × IsNotOpened before after) → KeepsBytes first.script first.report first.image after.written
promised_by_run bytes_of first before after known status begins (inl stands) = promised first (aftermath_of bytes_of after) before.counts after.counts status stands
promised_by_run bytes_of first before after known status begins (inr (unopened, nothing)) = not_begun first after.written (nothing.unwritten ∙ begins.begins.written_is)
