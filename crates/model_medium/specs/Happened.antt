-- What happened to a medium between two times, as a list of events: for the law `happened` of the trait `Medium`, and for
-- all whose contracts say that nothing else happened.
use Rattle.std.specs.Prelude.{◌≡◌, ℕ, ◌<◌, List, [], ◌∷◌, length}
use Rattle.model_medium.specs.World.{Span}
use Rattle.model_medium.specs.Machine.{Machine}
use Rattle.model_medium.specs.Exact.{Event, Read, Write, PowerOn, PowerOff}
use Rattle.model_medium.specs.Reach.{ReachBy}

-- An event of a medium of n blocks: it uses one of them, and what is written is as long as a block. (This project's
-- own, as all here.)
abbrev pub IsEventOf : ℕ → Event → Type 0
IsEventOf blocks (Read block into into' how) = block < blocks
IsEventOf blocks (Write block bytes how) = (block < blocks) × (length bytes ≡ 32768)
IsEventOf blocks PowerOn = Unit {0}
IsEventOf blocks PowerOff = Unit {0}

-- The events happened one after another, the newest first, and nothing besides: each did what `takes` says of it.
abbrev pub Happens : {M : Type 0} → (M → M → Event → Type 0) → M → List Event → M → Type 0
Happens takes first [] last = last ≡ first
Happens {M} takes first (event ∷ events) last = (mid : M) × Happens takes first events mid × takes mid last event

-- nothing but events happened in between
abbrev pub Happened : {M : Type 0} → (M → M → Event → Type 0) → M → M → Type 0
Happened takes first last = (events : List Event) × Happens takes first events last

-- What can follow on a controllable medium by so much work, where nothing but events happened.
pub record FollowsByEvents {M : Type 0} (machine : M → Machine) (takes : M → M → Event → Type 0) (old new : M)
    (span : Span) : Type 0 where
  pub reach : ReachBy (machine old) (machine new) span
  pub happened : Happened takes old new
