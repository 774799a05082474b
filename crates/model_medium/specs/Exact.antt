-- What each event does exactly on a controllable medium: for `MediumControl` and the media that exist.
use Rattle.std.specs.Prelude.{◌≡◌, ℕ, true, false, IsTrue, None, IsSome, List}
use Rattle.std.specs.Bool.{OnTrue}
use Rattle.model_medium.specs.Cells.{Good, IsGood, cell_at}
use Rattle.model_medium.specs.World.{FailsInRead, FailsInWrite}
use Rattle.model_medium.specs.Machine.{Machine, arms_after, fate_due, cut_after, after_read, after_write}
use Rattle.model_medium.specs.declared.ReadEnd.{ReadEnd}
use Rattle.model_medium.specs.declared.ReadEnd.TheVariants as reads
use Rattle.model_medium.specs.declared.WriteEnd.{WriteEnd}
use Rattle.model_medium.specs.declared.WriteEnd.TheVariants as writes

-- the arms and the armed cut have counted down at a use of the block
pub record HasCountedDown (old new : Machine) (block : ℕ) : Type 0 where
  pub arms : new.arms ≡ arms_after block old.arms
  pub cut : new.cut ≡ cut_after old.cut

-- the power was on, no cut was due, and the cell is good with these bytes
pub record ReadsCellExactly (old new : Machine) (block : ℕ) (into' : List ℕ) : Type 0 where
  pub was_on : IsTrue old.world.power
  pub not_due : fate_due old.cut ≡ None
  pub exactly : new ≡ after_read block old
  pub gives : OnTrue old.world.known (cell_at new.world.cells block ≡ Good into')

-- the power was on, no cut was due, and the cell is not good
pub record FindsNothingExactly (old new : Machine) (block : ℕ) (into into' : List ℕ) : Type 0 where
  pub was_on : IsTrue old.world.power
  pub not_due : fate_due old.cut ≡ None
  pub exactly : new ≡ after_read block old
  pub not_good : ¬ IsGood (cell_at new.world.cells block)
  pub kept : into' ≡ into

-- the power was on, and a cut was due
pub record IsCutExactly (old after new : Machine) : Type 0 where
  pub was_on : IsTrue old.world.power
  pub due : IsSome (fate_due old.cut)
  pub exactly : new ≡ after

-- the power was off, and nothing changed
pub record IsOffExactly (old new : Machine) : Type 0 where
  pub was_off : ¬ IsTrue old.world.power
  pub nothing : new ≡ old

-- What a read does on a controllable medium, by its answer. (This project's own.)
abbrev pub ReadExactly : Machine → Machine → ℕ → List ℕ → List ℕ → ReadEnd → Type 0
ReadExactly old new block into into' reads.Done = ReadsCellExactly old new block into'
ReadExactly old new block into into' reads.Unreadable = FindsNothingExactly old new block into into'
ReadExactly old new block into into' reads.Cut = IsCutExactly old (after_read block old) new × (into' ≡ into)
ReadExactly old new block into into' reads.Off = IsOffExactly old new × (into' ≡ into)
ReadExactly old new block into into' reads.Failed = FailsInRead old.world new.world block into into'
    × HasCountedDown old new block

-- the power was on, no cut was due, and the bytes were written
pub record WritesCellExactly (old new : Machine) (block : ℕ) (bytes : List ℕ) : Type 0 where
  pub was_on : IsTrue old.world.power
  pub not_due : fate_due old.cut ≡ None
  pub exactly : new ≡ after_write block bytes old

-- What a write does on a controllable medium, by its answer. (This project's own.)
abbrev pub WriteExactly : Machine → Machine → ℕ → List ℕ → WriteEnd → Type 0
WriteExactly old new block bytes writes.Done = WritesCellExactly old new block bytes
WriteExactly old new block bytes writes.Cut = IsCutExactly old (after_write block bytes old) new
WriteExactly old new block bytes writes.Off = IsOffExactly old new
WriteExactly old new block bytes writes.Failed = FailsInWrite old.world new.world block bytes
    × HasCountedDown old new block

-- What is done to a medium, with its answer: a block is read, where these are the bytes behind `into` before and
-- after, or written with these bytes, or the power is turned on or off.
pub data Event : Type 0 where
  Read : ℕ → List ℕ → List ℕ → ReadEnd → Event
  Write : ℕ → List ℕ → WriteEnd → Event
  PowerOn : Event
  PowerOff : Event

-- What an event does on a controllable medium. (This project's own.)
abbrev pub Exactly : Machine → Machine → Event → Type 0
Exactly old new (Read block into into' end) = ReadExactly old new block into into' end
Exactly old new (Write block bytes end) = WriteExactly old new block bytes end
Exactly old new PowerOn = new ≡ record old { world = record old.world { power = true } }
Exactly old new PowerOff = new ≡ record old { world = record old.world { power = false } }
