-- A drain of pending blocks: each of some is written to the disc once, in turn, until enough have left; one that is refused goes behind
-- all others, and the drain goes on. For the causes of the calls that flush. (This project's own, as all here.)
use Rattle.std.specs.Prelude.{◌≡◌, ℕ, zero, suc, ◌==◌, ◌⊎◌, Option, Some, None, List, [], ◌∷◌, ◌++◌}
use Rattle.std.specs.List.{filter}
use Rattle.model_drive.specs.declared.WriteOut.{WriteOut}
use Rattle.model_drive.specs.declared.WriteOut.TheVariants as writes
use Rattle.model_cache.specs.Shown.{CacheShown, pending_but}
use Rattle.model_cache.specs.Chains.{WritesBack, Flushes}

-- a write of a pending block was refused
abbrev pub IsRefusal : WriteOut → Type 0
IsRefusal (writes.NoSpare named) = Unit {0}
IsRefusal (writes.NoUpdate counter) = Unit {0}
IsRefusal _ = ⊥

-- the pending blocks with this one behind the others
abbrev pub put_behind : ℕ → List (ℕ × List ℕ) → List (ℕ × List ℕ)
put_behind i pending = pending_but i pending ++ filter (λ held. held.0 == i) pending

-- A pending block was written to the disc, and that was refused: it stands behind the others.
pub record Refuses (old new : CacheShown) (i : ℕ) (out : WriteOut) : Type 0 where
  pub back : WritesBack old new i out
  pub refused : IsRefusal out
  pub left : new.pending ≡ put_behind i old.pending

-- The due blocks were tried in turn until enough had left, or all were tried: then `short` more should have left, and `first` is the
-- first refusal, if there was one.
abbrev pub Tries : CacheShown → (due : List ℕ) → (enough : ℕ) → CacheShown → (short : ℕ) → Option WriteOut → Type 0
Tries old due zero new short first = (new ≡ old) × (short ≡ 0) × (first ≡ None)
Tries old [] (suc enough) new short first = (new ≡ old) × (short ≡ suc enough) × (first ≡ None)
Tries old (i ∷ due) (suc enough) new short first =
    ((mid : CacheShown) × Flushes old mid i × Tries mid due enough new short first)
    ⊎ ((mid : CacheShown) × (out : WriteOut) × (later : Option WriteOut) × Refuses old mid i out
    × Tries mid due (suc enough) new short later × (first ≡ Some out))

-- The drain fell short: all were tried, too few left, and the first refusal is told.
pub record FallsShort (old new : CacheShown) (due : List ℕ) (enough : ℕ) (out : WriteOut) : Type 0 where
  pub short : ℕ
  pub tried : Tries old due enough new (suc short) (Some out)

-- The drain was stopped: some of these blocks were tried, not enough left, and the write of the next one was stopped. Nothing stays
-- pending.
pub record StopsTrying (old new : CacheShown) (due : List ℕ) (enough : ℕ) (out : WriteOut) : Type 0 where
  pub done : List ℕ
  pub block : ℕ
  pub rest : List ℕ
  pub due_is : due ≡ done ++ block ∷ rest
  pub mid : CacheShown
  pub short : ℕ
  pub first : Option WriteOut
  pub tried : Tries old done enough mid (suc short) first
  pub stops : WritesBack mid new block out
  pub none_left : new.pending ≡ []

-- The cause of each end of a drain: it is good where enough left, whatever was refused on the way.
abbrev pub DrainCause : CacheShown → CacheShown → (due : List ℕ) → (enough : ℕ) → WriteOut → Type 0
DrainCause old new due enough writes.Good = (first : Option WriteOut) × Tries old due enough new 0 first
DrainCause old new due enough (writes.NoSpare named) = FallsShort old new due enough (writes.NoSpare named)
DrainCause old new due enough (writes.NoUpdate counter) = FallsShort old new due enough (writes.NoUpdate counter)
DrainCause old new due enough writes.Cut = StopsTrying old new due enough writes.Cut
DrainCause old new due enough writes.Fault = StopsTrying old new due enough writes.Fault
DrainCause old new due enough _ = ⊥
