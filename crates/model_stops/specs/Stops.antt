-- What a part of the work on a medium did: it continued, or was stopped by a cut, by a power that was off, or by a fault.
use Rattle.std.specs.Prelude.{ℕ, ◌<◌, ◌≤◌, ◌⊎◌, IsTrue, List}
use Rattle.model_medium.specs.World.{World, Span, Uses, FailedUse, IsCut, IsOff, FailsInRead, FailsInWrite}
use Rattle.model_stops.specs.declared.Stop.{Stop}
use Rattle.model_stops.specs.declared.Stop.TheVariants as stops

-- A use of a block failed, by the medium's rule for it: a read of the block, or a write of some bytes. (This project's
-- own, as all here.)
abbrev pub FailsInUse : World → World → ℕ → Type 0
FailsInUse old new block = ((into : List ℕ) × (into' : List ℕ) × FailsInRead old new block into into')
    ⊎ ((bytes : List ℕ) × FailsInWrite old new block bytes)

-- What a part of the work on a medium did, where `reaches` says what can follow by n uses that did not
-- fail, or by one that did.
module _ {M : Type 0} (world : M → World) (reaches : M → M → Span → Type 0) where
  -- it went to its end by k uses, and the power is on
  pub record Continues (old new : M) (k : ℕ) : Type 0 where
    pub reach : reaches old new (Uses k)
    pub is_on : IsTrue (world new).power

  -- the power was cut in the last of at most n uses, and no fault is counted
  pub record StopsByCut (old new : M) (most : ℕ) : Type 0 where
    pub uses : ℕ
    pub few : uses ≤ most
    pub reach : reaches old new (Uses uses)
    pub cut : IsCut (world old) (world new)

  -- the last of at most n uses failed and counted it, and those before did not
  pub record StopsByFault (old new : M) (most : ℕ) : Type 0 where
    pub mid : M
    pub before : ℕ
    pub few : before < most
    pub reach : reaches old mid (Uses before)
    pub block : ℕ
    pub fails : FailsInUse (world mid) (world new) block
    pub failed : reaches mid new FailedUse

  -- it was stopped within n uses, for this cause
  abbrev pub Stops : M → M → ℕ → Stop → Type 0
  Stops old new most stops.Cut = StopsByCut old new most
  Stops old new most stops.Off = IsOff (world old) (world new)
  Stops old new most stops.Fault = StopsByFault old new most
