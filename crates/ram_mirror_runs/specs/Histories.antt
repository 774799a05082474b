-- Runs of a mirror on the same two images, one after another, which nothing else writes in between. (This project's own, as
-- all here.)
use Rattle.std.specs.Prelude.{◌≡◌, ℕ, zero, suc, Bool, true, false, Option, Some, List, [], ◌∷◌}
use Rattle.ram_text.specs.MirrorScript.{MirrorReads}
use Rattle.ram_text.specs.declared.mirror.MirrorLine.{MirrorLine}
use Rattle.ram_text.specs.declared.mirror.MirrorLine.TheVariants as lines
use Rattle.ram_report.specs.declared.printing.MirrorEvent.{MirrorEvent}
use Rattle.ram_machine.specs.declared.stopped.Stopped.{Stopped}
use Rattle.ram_answers.specs.Texts.{AnsweredText}
use Rattle.ram_pair.specs.Told.{answered}
use Rattle.ram_pair.specs.PairStates.{TwoImages, PairState, images_of, IsFirstPair}
use Rattle.ram_pair.specs.PairSteps.{PairStep}
use Rattle.ram_pair.specs.PairTexts.{IsPairStep}
use Rattle.ram_pair.specs.Pairs.{LeavesPair}
use Rattle.ram_mirrored.specs.MirrorRuns.{StopsPair}

-- the images in this order, or in the other one
abbrev pub in_order : (turned : Bool) → TwoImages → TwoImages
in_order false images = images
in_order true images = record { a = images.b; b = images.a }

-- What may happen next to a pair of images.
module _ (s t : PairState) where
  -- a line of a run is answered
  pub record IsAnswered : Type 0 where
    pub number : ℕ
    pub event : AnsweredText
    pub step : IsPairStep s number event t

  -- a line is not, and ends the run
  pub record EndsRun : Type 0 where
    pub raw : List ℕ
    pub why : Stopped
    pub stops : StopsPair s raw why t

  -- another run begins, on the images as they were left, in this order or in the other one
  pub record BeginsRun : Type 0 where
    pub turned : Bool
    pub begins : IsFirstPair (in_order turned (images_of s)) t

-- one of these
pub data HappensNext (s t : PairState) : Type 0 where
  Answered : IsAnswered s t → HappensNext s t
  Ended : EndsRun s t → HappensNext s t
  Begun : BeginsRun s t → HappensNext s t

-- n of these, one after another
abbrev pub History : PairState → PairState → ℕ → Type 0
History first last zero = last ≡ first
History first last (suc k) = (mid : PairState) × History first mid k × HappensNext mid last

-- From images with these bytes a history leads to a state in which both images have those.
pub record IsHistoryOf (images : TwoImages) (a b : Option (List ℕ)) : Type 0 where
  pub start : PairState
  pub begins : IsFirstPair images start
  pub last : PairState
  pub steps : ℕ
  pub history : History start last steps
  pub left : LeavesPair last a b

-- Nothing happened to them.
pub record StayAsTheyWere (images : TwoImages) (a b : Option (List ℕ)) : Type 0 where
  pub a_is : a ≡ Some images.a
  pub b_is : b ≡ Some images.b

-- A line of these bytes says this, with these data, and was answered so; a read gave these bytes.
pub record AnswersSo (s : PairState) (line : MirrorLine) (payload : List ℕ) (told : MirrorEvent) (bytes : List ℕ)
    (t : PairState) : Type 0 where
  pub raw : List ℕ
  pub reads : MirrorReads raw line payload
  pub step : PairStep s line payload (answered told) bytes t

-- none of the lines asks for the lead to be given by hand
abbrev pub GiveNoLead : List AnsweredText → Type 0
GiveNoLead [] = Unit {0}
GiveNoLead (event ∷ events) =
    GiveNoLead events × ((to_a : Bool) (payload : List ℕ) → ¬ MirrorReads event.raw (lines.GiveLead to_a) payload)
