-- What one line does: the steps between the states of a run of a mirror. (This project's own, as all here.)
use Rattle.std.specs.Prelude.{◌≡◌, ℕ, ◌⊎◌, Bool, true, false, Ok, Err, Option, Some, List}
use Rattle.model_geometry.specs.declared.kinds.LayoutKind.TheVariants.{OneGroup}
use Rattle.model_geometry.specs.Geometry.{Shape, IsLawful, shape_in, total}
use Rattle.model_mirror.specs.Shown.{MirrorShown}
use Rattle.model_mirror.specs.Sides.{OneFailed, side_a, side_b}
use Rattle.ram_image.specs.EventBytes.{FailBytes}
use Rattle.ram_medium.specs.declared.control.FailEnd.{FailEnd}
use Rattle.ram_report.specs.declared.printing.Event.TheVariants as events
use Rattle.ram_report.specs.declared.printing.MirrorEvent.{MirrorEvent}
use Rattle.ram_report.specs.declared.printing.MirrorEvent.TheVariants as mirrors
use Rattle.ram_text.specs.MirrorScript.{MirrorReads}
use Rattle.ram_text.specs.declared.mirror.MirrorLine.{MirrorLine}
use Rattle.ram_text.specs.declared.mirror.MirrorLine.TheVariants as lines
use Rattle.ram_machine.specs.declared.stopped.Stopped.TheVariants as stopped
use Rattle.ram_machine.specs.Drive.{HasCells}
use Rattle.ram_machine.specs.Underwent.{UnderwentEvents}
use Rattle.ram_pair.specs.declared.told.Told.TheVariants as told
use Rattle.ram_pair.specs.Told.{PairOutcome, answered, image_failed, fail_told}
use Rattle.ram_pair.specs.PairStates.{Mirrored, PairState, Unpaired, Paired, IsPressedPair, IsHalfPressedPair, NoneFailed}
use Rattle.ram_pair.specs.PairLines.{CallRule}

-- What became of a press of two discs of this geometry.
abbrev pub PressPair : PairState → Shape → PairOutcome → PairState → Type 0
PressPair s shape (Ok (told.Event (mirrors.OfDisc events.Pressed))) t = IsLawful shape × IsPressedPair shape t
PressPair s shape (Ok (told.Event (mirrors.OfDisc events.NotPressed))) t = ¬ IsLawful shape × (t ≡ s)
PressPair s shape (Err stopped.ImageFault) t = IsLawful shape × IsHalfPressedPair shape s t
PressPair s shape _ t = ⊥

-- A mirror as it lies in two images: what it shows, and the bytes of both, where they are known.
pub record Lying : Type 0 where
  pub shown : MirrorShown
  pub a : Option (List ℕ)
  pub b : Option (List ℕ)

-- that of a state
abbrev pub lying : Mirrored → Lying
lying s = record { shown = s.shown; a = Some s.images.a; b = Some s.images.b }

-- events alone happened to the media of both sides, and each of them changed the bytes of its image by the medium's rule
pub record BothUnderwent (old new : Lying) : Type 0 where
  pub a : UnderwentEvents (total (side_a old.shown).shape) (side_a old.shown).medium old.a (side_a new.shown).medium new.a
  pub b : UnderwentEvents (total (side_b old.shown).shape) (side_b old.shown).medium old.b (side_b new.shown).medium new.b

-- the bytes of both images are as before
pub record SameImages (old new : Lying) : Type 0 where
  pub a : new.a ≡ old.a
  pub b : new.b ≡ old.b

-- the state byte of one block of this side's image changed, where there is such a block, and the other image is as before
abbrev pub FailsBlock : (on_a : Bool) → (block : ℕ) → Lying → Lying → FailEnd → Type 0
FailsBlock true block old new end = FailBytes block old.a new.a end × (new.b ≡ old.b)
FailsBlock false block old new end = FailBytes block old.b new.b end × (new.a ≡ old.a)

-- What a line makes of the bytes of both images, also under cells that are not good.
abbrev pub LineImages : MirrorLine → (called : MirrorEvent) → Lying → Lying → Type 0
LineImages (lines.Fail on_a block) called old new =
    (end : FailEnd) × (called ≡ fail_told end) × FailsBlock on_a block old new end
LineImages (lines.Wear on_a block n) called old new = SameImages old new
LineImages (lines.Cut on_a n fate) called old new = SameImages old new
LineImages lines.Lead called old new = SameImages old new
LineImages line called old new = BothUnderwent old new

-- the bytes of both images have the cells of their sides, however the line ended
pub record HaveCells (s : Mirrored) : Type 0 where
  pub a : HasCells (side_a s.shown).medium.world (Some s.images.a)
  pub b : HasCells (side_b s.shown).medium.world (Some s.images.b)

-- A call of the mirror is told, unless an image failed in it: then the run ends, also where the other side went on.
abbrev pub ComesOut : (old new : MirrorShown) → (called : MirrorEvent) → (outcome : PairOutcome) → Type 0
ComesOut old new called outcome =
    (NoneFailed old new × (outcome ≡ answered called)) ⊎ (OneFailed old new × (outcome ≡ image_failed))

-- a block was to fail, and the image failed in that
abbrev pub IsImageFailure : MirrorLine → MirrorEvent → Type 0
IsImageFailure (lines.Fail on_a block) (mirrors.OfDisc events.Cut) = Unit {0}
IsImageFailure line called = ⊥

-- A line was done with a mirror. An image that fails while a block is to fail ends the run, also where its count stands at its end.
pub record MirrorStep (s t : Mirrored) (line : MirrorLine) (payload : List ℕ) (outcome : PairOutcome) (bytes : List ℕ) : Type 0 where
  pub called : MirrorEvent
  pub rule : CallRule s.shown t.shown line payload bytes called
  pub images : LineImages line called (lying s) (lying t)
  pub ends : ComesOut s.shown t.shown called outcome
  pub lost : IsImageFailure line called → outcome ≡ image_failed
  pub cells : HaveCells t

-- the same in any state: without a mirror the line cannot be answered
abbrev pub OnMirror : PairState → MirrorLine → List ℕ → PairOutcome → List ℕ → PairState → Type 0
OnMirror (Unpaired images) line payload outcome bytes t = (outcome ≡ Err stopped.NotADisc) × (t ≡ Unpaired images)
OnMirror (Paired s) line payload outcome bytes (Unpaired images) = ⊥
OnMirror (Paired s) line payload outcome bytes (Paired t) = MirrorStep s t line payload outcome bytes

-- From s a line with these data may have this outcome, leave t, and give these bytes where it reads.
abbrev pub PairStep : PairState → MirrorLine → List ℕ → PairOutcome → List ℕ → PairState → Type 0
PairStep s lines.Empty payload outcome bytes t = (outcome ≡ Ok told.Nothing) × (t ≡ s)
PairStep s (lines.Press zones scale psa) payload outcome bytes t =
    PressPair s (shape_in OneGroup zones scale psa) outcome t
PairStep s line payload outcome bytes t = OnMirror s line payload outcome bytes t

-- a line of these bytes is one of the language, and this is its step
pub record ReadsStep (s : PairState) (raw : List ℕ) (outcome : PairOutcome) (bytes : List ℕ) (t : PairState) : Type 0 where
  pub line : MirrorLine
  pub payload : List ℕ
  pub reads : MirrorReads raw line payload
  pub step : PairStep s line payload outcome bytes t

-- What the bytes of a line make of a state.
abbrev pub RawStep : PairState → List ℕ → PairOutcome → (bytes : List ℕ) → PairState → Type 0
RawStep s raw (Err stopped.NotInLanguage) bytes t =
    ((line : MirrorLine) (payload : List ℕ) → ¬ MirrorReads raw line payload) × (t ≡ s)
RawStep s raw outcome bytes t = ReadsStep s raw outcome bytes t
