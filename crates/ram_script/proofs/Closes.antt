-- What opening and closing an image make of a run over it.
use Rattle.std.specs.Prelude.{◌≡◌, ℕ, zero, suc, ◌≤◌, Bool, true, Option, Some, None, IfSome, List, [], ◌∷◌}
use Rattle.std.specs.Bool.{OnTrue}
use Rattle.std.proofs.Common.{arith, inl, inr, sym, ap, subst}
use Rattle.model_counts.specs.Counts.{counted}
use Rattle.ram_outside.specs.Past.{Moment, OnlyNewestFailed, IsFailStop}
use Rattle.ram_machine.specs.declared.status.Status.{Status}
use Rattle.ram_machine.specs.declared.status.Status.TheVariants as statuses
use Rattle.ram_script.specs.RunCounts.{Counts, counts_of, OnlySinkRose, SourceAndSinkRose, ImageAndSinkRose}
use Rattle.ram_script.specs.Around.{Surroundings}
use Rattle.ram_script.specs.Progress.{Beginning, SoFar}
use Rattle.ram_script.specs.Endings.{Aftermath, Begins, StandsWith, StoodBehind, aftermath}
use Rattle.ram_script.specs.Opened.{IsBeginning, EndsAtFailure, bytes_returned}

-- an image that had not failed was taken back: its failures are the opener's
module _ (source source' sink sink' faults failed : ℕ) where
  abbrev inside : Counts
  inside = counts_of source sink 0

  abbrev inside' : Counts
  inside' = counts_of source' sink' failed

  abbrev outside : Counts
  outside = counts_of source sink faults

  abbrev outside' : Counts
  outside' = counts_of source' sink' (counted faults failed)

  sink_alone : OnlySinkRose inside inside' → OnlySinkRose outside outside'
  sink_alone rose = record { source = rose.source; sink = rose.sink; image = omega (arith, rose.image) }

  source_too : SourceAndSinkRose inside inside' → SourceAndSinkRose outside outside'
  source_too rose = record { source = rose.source; sink = rose.sink; image = omega (arith, rose.image) }

  image_too : ImageAndSinkRose inside inside' → ImageAndSinkRose outside outside'
  image_too rose = record { source = rose.source; sink = rose.sink; image = omega (arith, rose.image) }

  module _ (first : Beginning) (after : Aftermath) where
    behind_there : (far : SoFar first) → StoodBehind far after inside inside' → StoodBehind far after outside outside'
    behind_there far (inl alone) = inl (sink_alone alone.0, alone.1)
    behind_there far (inr (inl source)) = inr (inl (source_too source.0, source.1))
    behind_there far (inr (inr image)) = inr (inr (image_too image.0, image.1))

    -- what stands with a status is told with the opener's count
    pub stands_there : (status : Status) → StandsWith first after inside inside' status → StandsWith first after outside outside' status
    stands_there statuses.Done stands = stands
    stands_there statuses.Differs stands = stands
    stands_there statuses.Usage stands = stands
    stands_there statuses.Script stands = stands
    stands_there statuses.ImageFault stands = stands
    stands_there statuses.SourceFault stands = stands
    stands_there statuses.SinkFault stands = record { far = stands.far; written_is = stands.written_is; behind = behind_there stands.far stands.behind }
    stands_there statuses.NoMemory stands = stands
    stands_there statuses.NotADisc stands = stands

-- the same, where what is known before and afterwards has other names
pub renamed : (first : Beginning) (left left' written written' image image' : Option (List ℕ)) (refused refused' : Option ℕ) (old old' new new' : Counts) (status : Status) → left' ≡ left → written' ≡ written → refused' ≡ refused → image' ≡ image → old' ≡ old → new' ≡ new
    → StandsWith first (aftermath left written refused image) old new status → StandsWith first (aftermath left' written' refused' image') old' new' status
renamed first left left' written written' image image' refused refused' old old' new new' status l w r i o n stands =
    subst (λ x. StandsWith first (aftermath x written' refused' image') old' new' status) (sym l)
    (subst (λ x. StandsWith first (aftermath left x refused' image') old' new' status) (sym w)
    (subst (λ x. StandsWith first (aftermath left written x image') old' new' status) (sym r)
    (subst (λ x. StandsWith first (aftermath left written refused x) old' new' status) (sym i)
    (subst (λ x. StandsWith first (aftermath left written refused image) x new' status) (sym o)
    (subst (λ x. StandsWith first (aftermath left written refused image) old x status) (sym n) stands)))))

-- what is known, of the image that was opened
pub begins_known : {I : Type 0} (bytes_of : I → Option (List ℕ)) (first : Beginning) (before : Surroundings I) (returned_known : Bool) (image : I) → IsBeginning bytes_of first before returned_known → IfSome before.opener.next (λ known. image ≡ known)
    → Begins first before.left before.written (bytes_of image)
begins_known bytes_of first before returned_known image known is =
    subst (λ i. Begins first before.left before.written (bytes_of i)) (sym (subst (λ o. IfSome o (λ due. image ≡ due)) known.next_is is)) known.begins

-- the image that was handed back
pub handed_back : {I : Type 0} (bytes_of : I → Option (List ℕ)) (returned_known : Bool) (image : I) (returned : Option I) → returned_known ≡ true → OnTrue returned_known (returned ≡ Some image) → bytes_returned bytes_of returned ≡ bytes_of image
handed_back bytes_of returned_known image returned is back = ap (bytes_returned bytes_of) (subst (λ b. OnTrue b (returned ≡ Some image)) is back)

-- the image that was handed back had failed
fails_once : (faults : ℕ) → 1 ≤ faults → (past : Option (List Moment)) → IfSome past (OnlyNewestFailed faults) → IfSome past (OnlyNewestFailed 1)
fails_once zero one past only = absurd (omega (arith, one))
fails_once (suc more) one None only = tt
fails_once (suc more) one (Some []) only = only
fails_once (suc more) one (Some (newest ∷ earlier)) only = only

pub ends_at_failure : {I : Type 0} (bytes_of : I → Option (List ℕ)) (faults_of : I → ℕ) (past_of : I → Option (List Moment)) → IsFailStop bytes_of faults_of past_of → (knows : Bool) (image : I) (after : Surroundings I) → knows ≡ true
    → OnTrue knows (after.opener.returned ≡ Some image) → 1 ≤ faults_of image → EndsAtFailure bytes_of past_of after
ends_at_failure bytes_of faults_of past_of stops knows image after known back failed = record {
  image = image;
  returned_is = subst (λ b. OnTrue b (after.opener.returned ≡ Some image)) known back;
  only_last = fails_once (faults_of image) failed (past_of image) (stops.failed image);
  bytes_are = stops.newest image;
}
