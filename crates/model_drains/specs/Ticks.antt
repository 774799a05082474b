-- Ticks one after another, for the law of what they write. (This project's own, as all here.)
use Rattle.std.specs.Prelude.{◌≡◌, ℕ, zero, suc}
use Rattle.model_cache.specs.declared.TickOut.{TickOut}
use Rattle.model_cache.specs.declared.TickOut.TheVariants as ticks
use Rattle.model_cache.specs.Shown.{CacheShown}
use Rattle.model_cache.specs.Causes.{TickCause}

-- a tick was neither stopped nor made with the power off
abbrev pub TickGoesOn : TickOut → Type 0
TickGoesOn ticks.Cut = ⊥
TickGoesOn ticks.Off = ⊥
TickGoesOn ticks.Fault = ⊥
TickGoesOn _ = Unit {0}

-- n ticks were made with nothing between them, and each of them went on
abbrev pub Ticks : CacheShown → ℕ → CacheShown → Type 0
Ticks old zero new = new ≡ old
Ticks old (suc n) new = (mid : CacheShown) × (out : TickOut) × TickCause old mid out × TickGoesOn out × Ticks mid n new
