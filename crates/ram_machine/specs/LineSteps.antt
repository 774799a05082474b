-- What one line does: the steps between the states of a run. For the run of a script, and the code that answers a line.
use Rattle.std.specs.Prelude.{◌≡◌, ℕ, ◌≤◌, ◌⊎◌, true, false, Ok, Err, Option, Some, List, [], length}
use Rattle.model_geometry.specs.Geometry.{Shape, IsLawful, shape_in, total}
use Rattle.model_medium.specs.declared.Fate.{Fate}
use Rattle.model_sectors.specs.declared.PowerOut.{PowerOut}
use Rattle.model_drive.specs.Shown.{Shown}
use Rattle.model_cache.specs.declared.TickOut.{TickOut}
use Rattle.model_cache.specs.Values.{Contents}
use Rattle.model_cache.specs.Shown.{CacheShown, CacheStandsFor}
use Rattle.model_cache.specs.Causes.{TickCause, KeepsCache}
use Rattle.model_cache.specs.Steps.{TickContents}
use Rattle.model_scrub.specs.declared.ends.StepEnd.{StepEnd}
use Rattle.model_scrub.specs.declared.ends.PassEnd.{PassEnd}
use Rattle.model_scrub.specs.Scrubs.{Scrubber, fresh}
use Rattle.model_scrub.specs.Asks.{StepRule, StepContents, PassRule, PassContents}
use Rattle.model_target.specs.declared.host.Host.{Host}
use Rattle.model_target.specs.Steps.{IsPoweredAgain, IsStep}
use Rattle.ram_image.specs.EventBytes.{FailBytes}
use Rattle.ram_medium.specs.Control.{WearRule, with_armed_cut}
use Rattle.ram_medium.specs.declared.control.FailEnd.{FailEnd}
use Rattle.ram_medium.specs.declared.control.Arm.{Arm}
use Rattle.model_sense.specs.declared.answer.Answer.{Answer}
use Rattle.ram_report.specs.declared.printing.Event.TheVariants as events
use Rattle.ram_states.specs.Control.{KeepsMemory, FailOnDrive}
use Rattle.ram_text.specs.declared.script.Line.{Line}
use Rattle.ram_text.specs.declared.script.Line.TheVariants as lines
use Rattle.ram_machine.specs.declared.reply.Reply.TheVariants as replies
use Rattle.ram_machine.specs.declared.stopped.Stopped.TheVariants as stopped
use Rattle.ram_machine.specs.Control.{contents_after_fail}
use Rattle.ram_machine.specs.Replies.{Outcome, event, power_outcome, fail_outcome, wear_outcome, tick_outcome, step_outcome, pass_outcome, command_outcome, data_told}
use Rattle.ram_machine.specs.Underwent.{UnderwentEvents}
use Rattle.ram_machine.specs.States.{Served, State, Unopened, Disc, IsPressedDisc, IsPressedUnopened, IsHalfPressed, kind_of, renewed}

-- an arm or a cut that the line sets falls at a use from the next one on (this project's own, as all here)
abbrev pub CountsUses : Line → Type 0
CountsUses (lines.Wear block n) = 1 ≤ n
CountsUses (lines.Cut n fate) = 1 ≤ n
CountsUses _ = Unit {0}

-- What became of a press of this geometry.
abbrev pub PressStep : State → Shape → Outcome → State → Type 0
PressStep s shape (Ok (replies.Event events.Pressed)) t = IsLawful shape × IsPressedDisc shape t
PressStep s shape (Ok (replies.Event events.NotPressed)) t = ¬ IsLawful shape × (t ≡ renewed s)
PressStep s shape (Err stopped.ImageFault) t = IsLawful shape × (IsHalfPressed s t ⊎ IsPressedUnopened shape t)
PressStep s shape _ t = ⊥

-- What a line does on a disc: what the drive shows, may stand for, and remembers for its host, before and after.
module _ (old new : CacheShown) (before after : Contents → Type 0) (host later : Host) where
  -- nothing changed but the medium: what it stood for it still stands for
  pub record KeepsRest : Type 0 where
    pub memory : KeepsMemory old.drive new.drive
    pub cache : KeepsCache old new
    pub stands : (s : Contents) → before s → after s
    pub same_host : later ≡ host

  -- the power went off and on again, and it ended so
  pub record PowerLine (outcome : Outcome) : Type 0 where
    pub out : PowerOut
    pub powered : IsPoweredAgain old new before after later out
    pub outcome_is : outcome ≡ power_outcome out

  -- a block was to fail, and it ended so
  pub record FailLine (block : ℕ) (outcome : Outcome) : Type 0 where
    pub end : FailEnd
    pub rule : FailOnDrive old.drive new.drive block end
    pub cache : KeepsCache old new
    pub stands : (s : Contents) → before s → after (contents_after_fail s end)
    pub same_host : later ≡ host
    pub outcome_is : outcome ≡ fail_outcome end

  -- a block was to be armed, and it ended so
  pub record WearLine (block n : ℕ) (outcome : Outcome) : Type 0 where
    pub end : Arm
    pub rule : WearRule (total old.drive.shape) old.drive.medium new.drive.medium (record { block = block; left = n }) end
    pub keeps : KeepsRest
    pub outcome_is : outcome ≡ wear_outcome end

  -- a cut was armed
  pub record CutLine (n : ℕ) (fate : Fate) (outcome : Outcome) : Type 0 where
    pub armed : new.drive.medium ≡ with_armed_cut n fate old.drive.medium
    pub keeps : KeepsRest
    pub outcome_is : outcome ≡ event events.Armed

  -- the oldest pending block was to be written to the disc, and it ended so
  pub record TickLine (outcome : Outcome) : Type 0 where
    pub out : TickOut
    pub cause : TickCause old new out
    pub step : (s : Contents) → before s → TickContents after s out
    pub same_host : later ≡ host
    pub outcome_is : outcome ≡ tick_outcome out

  -- a scrubber made a step, and it ended so; which scrubber, `ScrubberRule` says
  pub record StepLine (outcome : Outcome) : Type 0 where
    pub end : StepEnd
    pub from : Scrubber
    pub to : Scrubber
    pub rule : StepRule old new from end to
    pub step : (s : Contents) → before s → StepContents after s end
    pub same_host : later ≡ host
    pub outcome_is : outcome ≡ step_outcome end

  -- it made a pass, and it ended so
  pub record PassLine (outcome : Outcome) : Type 0 where
    pub end : PassEnd
    pub from : Scrubber
    pub to : Scrubber
    pub rule : PassRule old new from end to
    pub step : (s : Contents) → before s → PassContents after s end
    pub same_host : later ≡ host
    pub outcome_is : outcome ≡ pass_outcome end (length to.found)

  -- a command was executed, and answered so
  pub record CommandLine (cdb payload : List ℕ) (outcome : Outcome) (data_in : List ℕ) : Type 0 where
    pub answer : Answer
    pub step : IsStep old new before after host later cdb payload answer data_in
    pub outcome_is : outcome ≡ command_outcome cdb answer

  -- What a line does that needs a disc, with its data and the data that it gives; no other line does any of this.
  abbrev pub DiscRule : Line → List ℕ → Outcome → List ℕ → Type 0
  DiscRule lines.Power payload outcome data_in = PowerLine outcome × (data_in ≡ [])
  DiscRule (lines.Fail block) payload outcome data_in = FailLine block outcome × (data_in ≡ [])
  DiscRule (lines.Wear block n) payload outcome data_in = WearLine block n outcome × (data_in ≡ [])
  DiscRule (lines.Cut n fate) payload outcome data_in = CutLine n fate outcome × (data_in ≡ [])
  DiscRule lines.Tick payload outcome data_in = TickLine outcome × (data_in ≡ [])
  DiscRule (lines.Scrub false) payload outcome data_in = StepLine outcome
  DiscRule (lines.Scrub true) payload outcome data_in = PassLine outcome
  DiscRule (lines.Command cdb) payload outcome data_in = CommandLine cdb payload outcome data_in
  DiscRule _ payload outcome data_in = ⊥

-- What a line makes of the scrubber, and the data that a scrub gives: the found blocks, where a pass is done. After a `power` line it
-- is a new one; only a scrub uses it.
abbrev pub ScrubberRule : CacheShown → CacheShown → Scrubber → Scrubber → Line → Outcome → (data_in : List ℕ) → Type 0
ScrubberRule old new s t lines.Power outcome data_in = t ≡ fresh
ScrubberRule old new s t (lines.Scrub false) outcome data_in =
    (end : StepEnd) × StepRule old new s end t × (outcome ≡ step_outcome end) × (data_in ≡ [])
ScrubberRule old new s t (lines.Scrub true) outcome data_in =
    (end : PassEnd) × PassRule old new s end t × (outcome ≡ pass_outcome end (length t.found))
    × (data_in ≡ data_told outcome [] t.found)
ScrubberRule old new s t line outcome data_in = t ≡ s

-- What a line makes of the bytes of an image, also under cells that are not good. A command, a tick, a scrub and a power line change
-- them by events of the medium alone, each by the medium's rule, however the line ended; the failure of a block changes its state
-- byte alone, and nothing that is armed changes any.
abbrev pub LineBytes : Line → Outcome → Shown → Option (List ℕ) → Shown → Option (List ℕ) → Type 0
LineBytes lines.Power outcome old before new after =
    UnderwentEvents (total old.shape) old.medium before new.medium after
LineBytes (lines.Command cdb) outcome old before new after =
    UnderwentEvents (total old.shape) old.medium before new.medium after
LineBytes lines.Tick outcome old before new after =
    UnderwentEvents (total old.shape) old.medium before new.medium after
LineBytes (lines.Scrub all) outcome old before new after =
    UnderwentEvents (total old.shape) old.medium before new.medium after
LineBytes (lines.Fail block) outcome old before new after =
    (end : FailEnd) × (outcome ≡ fail_outcome end) × FailBytes block before after end
LineBytes (lines.Wear block n) outcome old before new after = after ≡ before
LineBytes (lines.Cut n fate) outcome old before new after = after ≡ before
LineBytes _ outcome old before new after = ⊥

-- From this the line leads by its rule to something that the drive stands for afterwards.
pub record LeadsOn (s t : Served) (line : Line) (payload : List ℕ) (outcome : Outcome) (data_in : List ℕ)
    (before : Contents) : Type 0 where
  pub after : Contents
  pub stands : CacheStandsFor t.disc.shown after
  pub rule : DiscRule s.disc.shown t.disc.shown (λ x. x ≡ before) (λ x. x ≡ after) s.host t.host line payload outcome data_in

-- The same between two discs of one geometry, with their scrubbers and the bytes of their images; and so from each other thing that
-- the drive may stand for.
pub record DiscStep (s t : Served) (line : Line) (payload : List ℕ) (outcome : Outcome)
    (data_in : List ℕ) : Type 0 where
  pub same_shape : t.disc.shown.drive.shape ≡ s.disc.shown.drive.shape
  pub rule : DiscRule s.disc.shown t.disc.shown (λ x. x ≡ s.disc.contents) (λ x. x ≡ t.disc.contents) s.host t.host
      line payload outcome data_in
  pub scrubber : ScrubberRule s.disc.shown t.disc.shown s.scrub t.scrub line outcome data_in
  pub bytes : LineBytes line outcome s.disc.shown.drive (Some s.bytes)
      t.disc.shown.drive (Some t.bytes)
  pub each : (before : Contents) → CacheStandsFor s.disc.shown before → LeadsOn s t line payload outcome data_in before

-- the same in any state: without a disc the line cannot be answered
abbrev pub OnDisc : State → Line → List ℕ → Outcome → List ℕ → State → Type 0
OnDisc (Unopened image) line payload outcome data_in t =
    (outcome ≡ Err stopped.NotADisc) × (data_in ≡ []) × (t ≡ Unopened image)
OnDisc (Disc s) line payload outcome data_in (Unopened image) = ⊥
OnDisc (Disc s) line payload outcome data_in (Disc t) = DiscStep s t line payload outcome data_in

-- From s a line with these data may have this outcome, give these data, and leave t.
abbrev pub Step : State → Line → List ℕ → Outcome → List ℕ → State → Type 0
Step s lines.Empty payload outcome data_in t = (outcome ≡ Ok replies.Nothing) × (data_in ≡ []) × (t ≡ s)
Step s (lines.Press zones scale psa) payload outcome data_in t =
    PressStep s (shape_in (kind_of s) zones scale psa) outcome t × (data_in ≡ [])
Step s line payload outcome data_in t = OnDisc s line payload outcome data_in t
