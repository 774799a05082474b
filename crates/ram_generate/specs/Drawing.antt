-- Numbers drawn one after another from the words of a generator. (This project's own, as all here.)
use Rattle.std.specs.Prelude.{ℕ, ◌%◌}
use Rattle.rand_pcg.specs.Lcg.{Lcg, started, increment_of}
use Rattle.rand_pcg.specs.Pcg.{multiplier_64, pcg32}

-- the generator that begins with this number
abbrev pub generator : ℕ → Lcg
generator seed = started 64 multiplier_64 seed (increment_of 64 330)

-- the next word modulo a bound, and the generator after it
abbrev pub draw : (bound : ℕ) → Lcg → ℕ × Lcg
draw bound words = ((pcg32 words).0 % bound, (pcg32 words).1)
