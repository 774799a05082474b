-- What a read or write of a whole block did, by how it ended: for `read_whole` and `write_whole`.
use Rattle.std.specs.Prelude.{◌≡◌, ℕ, Bool, true, false, MatchBool, Result, Ok, Err, List}
use Rattle.model_medium.specs.World.{World, IsOff, ReadsCell, FindsNoBytes, IsCutInRead, FailsInRead, IsCutInWrite, FailsInWrite}
use Rattle.model_medium.specs.declared.ReadEnd.{ReadEnd}
use Rattle.model_medium.specs.declared.ReadEnd.TheVariants as reads
use Rattle.model_medium.specs.declared.WriteEnd.{WriteEnd}
use Rattle.model_medium.specs.declared.WriteEnd.TheVariants as writes
use Rattle.model_stops.specs.declared.Stop.{Stop}
use Rattle.model_stops.specs.declared.Stop.TheVariants as stops

-- What a stopped read did by itself. (This project's own, as all here.)
abbrev pub StoppedRead : World → World → ℕ → List ℕ → List ℕ → Stop → Type 0
StoppedRead old new block into into' stops.Cut = IsCutInRead old new block into into'
StoppedRead old new block into into' stops.Off = IsOff old new × (into' ≡ into)
StoppedRead old new block into into' stops.Fault = FailsInRead old new block into into'

-- What a read that was not stopped did: whether the block has whole bytes.
abbrev pub EndedRead : World → World → ℕ → List ℕ → List ℕ → Bool → Type 0
EndedRead old new block into into' whole = MatchBool whole (ReadsCell old new block into') (FindsNoBytes old new block into into')

-- What a stopped write did by itself.
abbrev pub StoppedWrite : World → World → ℕ → List ℕ → Stop → Type 0
StoppedWrite old new block bytes stops.Cut = IsCutInWrite old new block bytes
StoppedWrite old new block bytes stops.Off = IsOff old new
StoppedWrite old new block bytes stops.Fault = FailsInWrite old new block bytes

-- how a read ended, by whether the block has whole bytes or why it was stopped
abbrev pub read_end : Result Bool Stop → ReadEnd
read_end (Ok true) = reads.Done
read_end (Ok false) = reads.Unreadable
read_end (Err stops.Cut) = reads.Cut
read_end (Err stops.Off) = reads.Off
read_end (Err stops.Fault) = reads.Failed

-- how a write ended, by why it was stopped, if it was
abbrev pub write_end : Result (Unit {0}) Stop → WriteEnd
write_end (Ok done) = writes.Done
write_end (Err stops.Cut) = writes.Cut
write_end (Err stops.Off) = writes.Off
write_end (Err stops.Fault) = writes.Failed
