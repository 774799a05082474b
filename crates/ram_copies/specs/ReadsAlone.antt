-- That nothing but reads happened to a medium: for the looks at copies, and for all that leaves a medium as it is. (This
-- project's own, as all here.)
use Rattle.std.specs.Prelude.{List, [], ◌∷◌}
use Rattle.model_medium.specs.Exact.{Event, Read, Write, PowerOn, PowerOff}
use Rattle.model_medium.specs.Happened.{Happens}

-- the event is a read, however it ended
abbrev pub AsksRead : Event → Type 0
AsksRead (Read block into into' how) = Unit {0}
AsksRead (Write block bytes how) = ⊥
AsksRead PowerOn = ⊥
AsksRead PowerOff = ⊥

-- the events are reads
abbrev pub AreReads : List Event → Type 0
AreReads [] = Unit {0}
AreReads (event ∷ events) = AsksRead event × AreReads events

-- Reads happened in between, and nothing else.
pub record ReadsAlone {M : Type 0} (takes : M → M → Event → Type 0) (first last : M) : Type 0 where
  pub events : List Event
  pub reads : AreReads events
  pub happens : Happens takes first events last
