-- That nothing waits in the write cache where it does not serve. For the laws of runs. (This project's own, as all here.)
use Rattle.std.specs.Prelude.{◌≡◌, ◌⊎◌, true, false, []}
use Rattle.model_cache.specs.Shown.{CacheShown}
use Rattle.model_target.specs.declared.host.Host.{Host}
use Rattle.ram_machine.specs.States.{State, Unopened, Disc}

-- the write cache is off, or the disc is out
abbrev pub IsCacheIdle : CacheShown → Host → Type 0
IsCacheIdle shown host = (shown.caches ≡ false) ⊎ (host.out ≡ true)

-- nothing is pending where the write cache of this drive is off, or its disc is out
abbrev pub PendsNothingIdle : State → Type 0
PendsNothingIdle (Unopened image) = Unit {0}
PendsNothingIdle (Disc s) = IsCacheIdle s.disc.shown s.host → s.disc.shown.pending ≡ []
