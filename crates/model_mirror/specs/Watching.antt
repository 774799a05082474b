-- Whether an image failed since one began to watch it, beside the count of its failures. (This project's own, as all here.)
use Rattle.std.specs.Prelude.{◌≡◌, ◌⊎◌, ℕ, Bool, true}
use Rattle.model_counts.specs.Counts.{Rose}

-- The count of failures before and after, and whether one is told: none was counted, and what is told stays; or the count rose, and
-- a failure is told.
abbrev pub TracksFaults : (faults faults' : ℕ) → (failed failed' : Bool) → Type 0
TracksFaults faults faults' failed failed' =
    ((faults' ≡ faults) × (failed' ≡ failed)) ⊎ (Rose faults faults' × (failed' ≡ true))
