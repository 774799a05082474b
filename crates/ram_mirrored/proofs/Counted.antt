-- What stands with a status is told with the opener's count, where two images that had not failed were taken back.
use Rattle.std.specs.Prelude.{◌≡◌, ℕ, ◌+◌}
use Rattle.std.proofs.Common.{arith, inl, inr}
use Rattle.model_counts.specs.Counts.{Rose, counted}
use Rattle.ram_machine.specs.declared.status.Status.{Status}
use Rattle.ram_machine.specs.declared.status.Status.TheVariants as statuses
use Rattle.ram_script.specs.Endings.{StatusCounts, SinkRose}
use Rattle.ram_script.specs.RunCounts.{Counts, counts_of, SameCounts, OnlySourceRose, OnlySinkRose, OnlyImageRose, SourceAndSinkRose, ImageAndSinkRose}
use Rattle.ram_answers.specs.Reports.{Heard, FailedBefore}
use Rattle.ram_pair.specs.PairStates.{PairState, IsFirstPair}
use Rattle.ram_pair.specs.PairTexts.{IsPairStep}
use Rattle.ram_mirrored.specs.MirrorRuns.{MirrorBeginning, MirrorSoFar, StopsPair, MirrorToldWith}

module _ (source source' sink sink' faults a b : ℕ) where
  abbrev inside : Counts
  inside = counts_of source sink 0

  abbrev inside' : Counts
  inside' = counts_of source' sink' (a + b)

  abbrev outside : Counts
  outside = counts_of source sink faults

  abbrev outside' : Counts
  outside' = counts_of source' sink' (counted (counted faults a) b)

  same : SameCounts inside inside' → SameCounts outside outside'
  same rose = record { source = rose.source; sink = rose.sink; image = omega (arith, rose.image) }

  source_alone : OnlySourceRose inside inside' → OnlySourceRose outside outside'
  source_alone rose = record { source = rose.source; sink = rose.sink; image = omega (arith, rose.image) }

  sink_alone : OnlySinkRose inside inside' → OnlySinkRose outside outside'
  sink_alone rose = record { source = rose.source; sink = rose.sink; image = omega (arith, rose.image) }

  image_alone : OnlyImageRose inside inside' → OnlyImageRose outside outside'
  image_alone rose = record { source = rose.source; sink = rose.sink; image = omega (arith, rose.image) }

  source_too : SourceAndSinkRose inside inside' → SourceAndSinkRose outside outside'
  source_too rose = record { source = rose.source; sink = rose.sink; image = omega (arith, rose.image) }

  image_too : ImageAndSinkRose inside inside' → ImageAndSinkRose outside outside'
  image_too rose = record { source = rose.source; sink = rose.sink; image = omega (arith, rose.image) }

  sink_rose : SinkRose inside inside' → SinkRose outside outside'
  sink_rose (inl alone) = inl (sink_alone alone)
  sink_rose (inr (inl source)) = inr (inl (source_too source))
  sink_rose (inr (inr image)) = inr (inr (image_too image))

  pub counts_there : (status : Status) → StatusCounts inside inside' status → StatusCounts outside outside' status
  counts_there statuses.Done rose = same rose
  counts_there statuses.Differs rose = same rose
  counts_there statuses.Usage rose = same rose
  counts_there statuses.Script rose = same rose
  counts_there statuses.ImageFault rose = image_alone rose
  counts_there statuses.SourceFault rose = source_alone rose
  counts_there statuses.SinkFault rose = sink_rose rose
  counts_there statuses.NoMemory rose = same rose
  counts_there statuses.NotADisc rose = same rose

  module _ (first : MirrorBeginning) (heard : Heard) (after : PairState) where
    behind_there : (far : MirrorSoFar first)
        → FailedBefore (IsFirstPair first.images) IsPairStep StopsPair first.script first.report far heard after inside inside'
        → FailedBefore (IsFirstPair first.images) IsPairStep StopsPair first.script first.report far heard after outside outside'
    behind_there far (inl alone) = inl (sink_alone alone.0, alone.1)
    behind_there far (inr (inl source)) = inr (inl (source_too source.0, source.1))
    behind_there far (inr (inr image)) = inr (inr (image_too image.0, image.1))

    pub told_there : (status : Status) → MirrorToldWith first heard after inside inside' status → MirrorToldWith first heard after outside outside' status
    told_there statuses.Done told = told
    told_there statuses.Differs told = told
    told_there statuses.Usage told = told
    told_there statuses.Script told = told
    told_there statuses.ImageFault told = told
    told_there statuses.SourceFault told = told
    told_there statuses.SinkFault told = record { far = told.far; told = told.told; behind = behind_there told.far told.behind }
    told_there statuses.NoMemory told = told
    told_there statuses.NotADisc told = told

-- the second image was not opened, and the first was closed as it was
pub second_count : (before opened failed closed image : ℕ) → opened ≡ before → image ≡ 0 → Rose opened failed → closed ≡ counted failed image → Rose before closed
second_count before opened failed closed image same unfailed rose adds = omega (arith, same, unfailed, rose, adds)
