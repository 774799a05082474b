-- What stands with each status of a run of a mirror, over its states. (This project's own, as all here.)
use Rattle.std.specs.Prelude.{◌≡◌, ℕ, ◌⊎◌, Option, Some, Err, List, ◌++◌}
use Rattle.ram_outside.specs.Conversation.{Asked}
use Rattle.ram_text.specs.Lines.{IsOpenAsk}
use Rattle.ram_machine.specs.declared.stopped.Stopped.{Stopped}
use Rattle.ram_machine.specs.declared.status.Status.{Status}
use Rattle.ram_machine.specs.declared.status.Status.TheVariants as statuses
use Rattle.ram_script.specs.RunCounts.{Counts}
use Rattle.ram_answers.specs.Texts.{told_text}
use Rattle.ram_answers.specs.Reports.{Heard, RunSoFar, ToldWith}
use Rattle.ram_pair.specs.PairStates.{TwoImages, PairState, IsFirstPair}
use Rattle.ram_pair.specs.PairSteps.{RawStep}
use Rattle.ram_pair.specs.PairTexts.{IsPairStep}
use Rattle.ram_pair.specs.Pairs.{LeavesPair}

-- What a run of a mirror begins with: the bytes of both images, the script, and what was written before.
pub record MirrorBeginning : Type 0 where
  pub images : TwoImages
  pub script : List ℕ
  pub report : List ℕ

-- A line of these bytes is not answered, for this reason, and leads from the one state to the other.
pub record StopsPair (before : PairState) (raw : List ℕ) (why : Stopped) (after : PairState) : Type 0 where
  pub bytes : List ℕ
  pub step : RawStep before raw (Err why) bytes after

-- The lines so far lead from what the run begins with to a state.
abbrev pub MirrorSoFar : MirrorBeginning → Type 0
MirrorSoFar first = RunSoFar (IsFirstPair first.images) IsPairStep StopsPair first.script first.report

-- What stands with each status: what was written, and which state the lines leave.
abbrev pub MirrorToldWith : MirrorBeginning → Heard → (after : PairState) → (old new : Counts) → Status → Type 0
MirrorToldWith first = ToldWith (IsFirstPair first.images) IsPairStep StopsPair first.script first.report

-- More was asked for when these lines were answered: all their answers, and no more, were written, and of what follows these lines no whole
-- line had come.
pub record IsMirrorToldBy (first : MirrorBeginning) (ask : Asked) : Type 0 where
  pub far : MirrorSoFar first
  pub shown : IsOpenAsk (Some far.rest) (Some (first.report ++ told_text far.events)) ask

-- Nothing was written, and both images have the bytes that they had.
pub record IsNeverBegun (first : MirrorBeginning) (heard : Heard) (a b : Option (List ℕ)) : Type 0 where
  pub written_is : heard.written ≡ Some first.report
  pub a_is : a ≡ Some first.images.a
  pub b_is : b ≡ Some first.images.b

-- The run ended with the lines, and both images are as these leave them.
pub record EndsMirror (first : MirrorBeginning) (heard : Heard) (a b : Option (List ℕ)) (old new : Counts) (status : Status) : Type 0 where
  pub after : PairState
  pub told : MirrorToldWith first heard after old new status
  pub left : LeavesPair after a b

-- What stands with each status, where the bytes of source, sink and both images are known. An image that failed before the first line ends
-- the run too.
abbrev pub MirrorStandsWith : MirrorBeginning → Heard → (a b : Option (List ℕ)) → (old new : Counts) → Status → Type 0
MirrorStandsWith first heard a b old new statuses.ImageFault =
    IsNeverBegun first heard a b ⊎ EndsMirror first heard a b old new statuses.ImageFault
MirrorStandsWith first heard a b old new status = EndsMirror first heard a b old new status
