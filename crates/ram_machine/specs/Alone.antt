-- A drive whose write cache is off and empty, between the lines of a run: it is a drive without a cache. For the law of runs.
-- (This project's own, as all here.)
use Rattle.std.specs.Prelude.{◌≡◌, ℕ, false, Result, Ok, List, All}
use Rattle.model_modes.specs.ParameterLists.{caches_after}
use Rattle.model_sectors.specs.Discs.{Standing}
use Rattle.model_cache.specs.Values.{Contents, plain}
use Rattle.model_cache.specs.Shown.{CacheShown}
use Rattle.model_cache.specs.Plain.{uncached}
use Rattle.model_sense.specs.declared.sense.Sense.{Sense}
use Rattle.model_cdb.specs.declared.commands.Command.{Command}
use Rattle.model_cdb.specs.declared.commands.Command.TheVariants as commands
use Rattle.model_cdb.specs.Decoding.{decoded}
use Rattle.ram_text.specs.declared.script.Line.{Line}
use Rattle.ram_text.specs.declared.script.Line.TheVariants as lines
use Rattle.ram_machine.specs.States.{State, Unopened, Disc}
use Rattle.ram_machine.specs.Answered.{AnsweredStep}

-- the cache is off and empty, and each block has one value
pub record StandsAlone (shown : CacheShown) (contents : Contents) : Type 0 where
  pub uncached_is : shown ≡ uncached shown.drive
  pub standing : Standing
  pub contents_is : contents ≡ plain standing

-- So it is of the disc in the drive. An image that is no disc's has no cache.
abbrev pub IsAlone : State → Type 0
IsAlone (Unopened image) = Unit {0}
IsAlone (Disc s) = StandsAlone s.disc.shown s.disc.contents

-- a command does not turn the cache on: its list of mode pages, if it is one that sets them, does not ask for it
abbrev pub LeavesAloneAsDecoded : Result Command Sense → (payload : List ℕ) → Type 0
LeavesAloneAsDecoded (Ok commands.ModeSelect) payload = caches_after payload false ≡ false
LeavesAloneAsDecoded _ payload = Unit {0}

-- the same of a line, with its data
abbrev pub LeavesAlone : Line → (payload : List ℕ) → Type 0
LeavesAlone (lines.Command cdb) payload = LeavesAloneAsDecoded (decoded cdb payload) payload
LeavesAlone _ payload = Unit {0}

-- and of each of these lines
abbrev pub LeaveAlone : List AnsweredStep → Type 0
LeaveAlone events = All (λ (event : AnsweredStep). LeavesAlone event.line event.payload) events
