-- What happened to a medium and to the image that it lies in, as a list of events: for the law of drives, and for the lines
-- that use the medium. (This project's own, as all here.)
use Rattle.std.specs.Prelude.{◌≢◌, ℕ, Option, List, [], ◌∷◌}
use Rattle.model_medium.specs.Machine.{Machine}
use Rattle.model_medium.specs.Exact.{Event, Read, Write, PowerOn, PowerOff, Exactly}
use Rattle.model_medium.specs.Happened.{IsEventOf, Happened}
use Rattle.ram_image.specs.EventBytes.{BytesAt}

-- a medium with the bytes of the image that it lies in, where they are known
pub record InImage : Type 0 where
  pub machine : Machine
  pub bytes : Option (List ℕ)

-- An event does to a medium of n blocks exactly what it is to do, with its arms and its armed cut, and to the bytes of
-- the image what the medium's rule says, and changes no other byte.
pub record DoesInImage (blocks : ℕ) (old new : InImage) (event : Event) : Type 0 where
  pub lawful : IsEventOf blocks event
  pub exactly : Exactly old.machine new.machine event
  pub bytes : BytesAt old.machine blocks old.bytes new.bytes event

-- nothing but such events happened in between, one after another
abbrev pub UnderwentEvents : ℕ → Machine → Option (List ℕ) → Machine → Option (List ℕ) → Type 0
UnderwentEvents blocks old before new after =
    Happened (DoesInImage blocks) (record { machine = old; bytes = before }) (record { machine = new; bytes = after })

-- it is no write of this block
abbrev pub IsNoWrite : (block : ℕ) → Event → Type 0
IsNoWrite block (Read used into into' end) = Unit {0}
IsNoWrite block (Write used bytes end) = used ≢ block
IsNoWrite block PowerOn = Unit {0}
IsNoWrite block PowerOff = Unit {0}

-- none of the events writes this block
abbrev pub WritesNone : (block : ℕ) → List Event → Type 0
WritesNone block [] = Unit {0}
WritesNone block (event ∷ events) = IsNoWrite block event × WritesNone block events
