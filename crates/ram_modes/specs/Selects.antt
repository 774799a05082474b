-- How MODE SELECT(10) is answered: for taking its parameter list.
use Rattle.std.specs.Prelude.{◌≡◌, ℕ, Bool, Result, Ok, Err, List}
use Rattle.model_sense.specs.Sense.{sense}
use Rattle.model_sense.specs.declared.sense.Sense.{Sense}
use Rattle.model_modes.specs.ParameterLists.{IsTakenList, caches_after}

-- A list that is taken is answered Ok, and sets whether the write cache is on; every other one is answered 5/26/00, and
-- changes nothing. (After INCITS SPC.)
abbrev pub Selects : List ℕ → (was now : Bool) → Result (Unit {0}) Sense → Type 0
Selects bytes was now (Ok done) = IsTakenList bytes × (now ≡ caches_after bytes was)
Selects bytes was now (Err why) = (why ≡ sense 0x5 0x26 0x00) × (¬ IsTakenList bytes) × (now ≡ was)
