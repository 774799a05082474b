-- Runs of a drive without a write cache, line by line: the causes and steps are those of the disc (`model_drive`), and nothing
-- here speaks of a cache but how such a state is shown by a drive whose cache is off. For the law of runs in which the cache
-- stays off. (This project's own, as all here.)
use Rattle.std.specs.Prelude.{◌≡◌, ℕ, ◌⊎◌, true, false, Ok, Err, Some, List, [], ◌∷◌, length}
use Rattle.model_geometry.specs.declared.kinds.LayoutKind.{LayoutKind}
use Rattle.model_geometry.specs.Geometry.{Shape, IsLawful, shape_in, total}
use Rattle.model_medium.specs.Cells.{Cell}
use Rattle.model_medium.specs.declared.Fate.{Fate}
use Rattle.model_image.specs.Cells.{cells_of}
use Rattle.model_image.specs.Image.{IsDiscImage, IsImageOf, IsStoppedPress, blank_cells, pressed_image}
use Rattle.model_sectors.specs.Discs.{Standing, Off, candidates}
use Rattle.model_sectors.specs.declared.PowerOut.{PowerOut}
use Rattle.model_drive.specs.Shown.{Shown, IsOn, cells_in}
use Rattle.model_drive.specs.Power.{PowerCause, PowerStep}
use Rattle.model_drive.specs.Runs.{Loaded, IsOpenedOn}
use Rattle.model_cache.specs.declared.TickOut.TheVariants as ticks
use Rattle.model_cache.specs.Values.{plain}
use Rattle.model_cache.specs.Plain.{uncached}
use Rattle.model_scrub.specs.declared.ends.StepEnd.{StepEnd}
use Rattle.model_scrub.specs.declared.ends.StepEnd.TheVariants as steps
use Rattle.model_scrub.specs.declared.ends.PassEnd.{PassEnd}
use Rattle.model_scrub.specs.declared.ends.PassEnd.TheVariants as passes
use Rattle.model_scrub.specs.Scrubs.{Scrubber, fresh}
use Rattle.model_scrub.specs.Asks.{StepRule, PassRule}
use Rattle.model_sense.specs.declared.answer.Answer.{Answer}
use Rattle.model_target.specs.declared.host.Host.{Host}
use Rattle.model_target.specs.Host.{powered_on}
use Rattle.ram_medium.specs.Control.{WearRule, with_armed_cut}
use Rattle.ram_medium.specs.declared.control.FailEnd.{FailEnd}
use Rattle.ram_medium.specs.declared.control.FailEnd.TheVariants as fails
use Rattle.ram_medium.specs.declared.control.Arm.{Arm}
use Rattle.ram_states.specs.Control.{KeepsMemory, FailOnDrive}
use Rattle.ram_report.specs.declared.printing.Event.TheVariants as events
use Rattle.ram_text.specs.declared.script.Line.{Line}
use Rattle.ram_text.specs.declared.script.Line.TheVariants as lines
use Rattle.ram_machine.specs.declared.reply.Reply.TheVariants as replies
use Rattle.ram_machine.specs.declared.stopped.Stopped.TheVariants as stopped
use Rattle.ram_machine.specs.Replies.{Outcome, event, power_outcome, fail_outcome, wear_outcome, tick_outcome, step_outcome, pass_outcome, command_outcome}
use Rattle.ram_machine.specs.States.{BareImage, State, Served, Unopened, Disc, IsLabelled}
use Rattle.ram_machine.specs.LineSteps.{ScrubberRule, LineBytes}
use Rattle.ram_machine.specs.Answered.{AnsweredStep}
use Rattle.ram_machine.specs.PlainCommands.{PlainCommand}

-- ---- states

-- A disc in a drive without a write cache: what it shows and one thing that it stands for, what is remembered for its host, the
-- scrubber of its blocks, and the bytes of its image.
pub record PlainServed : Type 0 where
  pub disc : Loaded
  pub host : Host
  pub scrub : Scrubber
  pub labelled : IsLabelled disc.shown
  pub bytes : List ℕ
  pub image : IsImageOf disc.shown.shape (cells_in disc.shown) bytes

-- What lies in such a drive: an image that was not opened as a disc, or a disc.
pub data PlainState : Type 0 where
  PlainImage : BareImage → PlainState
  PlainDisc : PlainServed → PlainState

-- the same state, with a scrubber that has found nothing
abbrev pub plainly_renewed : PlainState → PlainState
plainly_renewed (PlainImage image) = PlainImage image
plainly_renewed (PlainDisc p) = PlainDisc (record p { scrub = fresh })

-- the kind of the layout that the run's discs have
abbrev pub plain_kind : PlainState → LayoutKind
plain_kind (PlainImage image) = image.kind
plain_kind (PlainDisc p) = p.disc.shown.shape.layout

-- an image that is left in this state
abbrev pub IsPlainlyLeft : PlainState → List ℕ → Type 0
IsPlainlyLeft (PlainImage image) bytes = bytes ≡ image.bytes
IsPlainlyLeft (PlainDisc p) bytes = bytes ≡ p.bytes

-- a disc of this geometry with these cells, in an image of these bytes, was just inserted
pub record IsPlainlyInserted (shape : Shape) (cells : List Cell) (bytes : List ℕ) (p : PlainServed) : Type 0 where
  pub opened : IsOpenedOn shape cells p.disc
  pub host_is : p.host ≡ powered_on
  pub scrub_is : p.scrub ≡ fresh
  pub bytes_are : p.bytes ≡ bytes

-- what a run over an image of these bytes begins with
abbrev pub IsPlainlyFirst : List ℕ → PlainState → Type 0
IsPlainlyFirst bytes (PlainImage image) =
    (image.bytes ≡ bytes) × ((shape : Shape) → shape.layout ≡ image.kind → ¬ IsDiscImage shape bytes)
IsPlainlyFirst bytes (PlainDisc p) =
    (shape : Shape) × IsDiscImage shape bytes × IsPlainlyInserted shape (cells_of (total shape) bytes) bytes p

-- A drive with a cache is in such a state: its cache is off and empty, and it shows and stands for just this, each block with
-- one value.
pub record IsServedPlainly (s : Served) (p : PlainServed) : Type 0 where
  pub shown_is : s.disc.shown ≡ uncached p.disc.shown
  pub contents_is : s.disc.contents ≡ plain p.disc.standing
  pub host_is : s.host ≡ p.host
  pub scrub_is : s.scrub ≡ p.scrub
  pub bytes_are : s.bytes ≡ p.bytes

-- the same of any state; an image that was not opened is the same one
abbrev pub IsInPlainly : State → PlainState → Type 0
IsInPlainly (Unopened image) (PlainImage held) = image ≡ held
IsInPlainly (Unopened image) (PlainDisc p) = ⊥
IsInPlainly (Disc s) (PlainImage held) = ⊥
IsInPlainly (Disc s) (PlainDisc p) = IsServedPlainly s p

-- ---- lines

-- what a drive stands for after a block was made dead: the same, but with the power off where it went off
abbrev pub stands_after_fail : Standing → FailEnd → Standing
stands_after_fail standing fails.Done = standing
stands_after_fail standing (fails.NoBlock blocks) = standing
stands_after_fail standing fails.Failed = Off (candidates standing)

-- what it stands for after a step of a scrubber: the same, but with the power off where it went off
abbrev pub stands_after_step : Standing → StepEnd → Standing
stands_after_step standing steps.Cut = Off (candidates standing)
stands_after_step standing steps.Fault = Off (candidates standing)
stands_after_step standing end = standing

-- the same after a pass
abbrev pub stands_after_pass : Standing → PassEnd → Standing
stands_after_pass standing passes.Cut = Off (candidates standing)
stands_after_pass standing passes.Fault = Off (candidates standing)
stands_after_pass standing end = standing

-- What a line does on a disc: what the drive shows, stands for, and remembers for its host, before and after.
module _ (old new : Shown) (s t : Standing) (host later : Host) where
  -- nothing changed but the medium
  pub record KeepsPlainly : Type 0 where
    pub memory : KeepsMemory old new
    pub stands : t ≡ s
    pub same_host : later ≡ host

  -- the power went off and on again, and it ended so
  pub record PlainPower (outcome : Outcome) : Type 0 where
    pub out : PowerOut
    pub cause : PowerCause old new out
    pub step : PowerStep new (λ u. u ≡ t) s out
    pub later_is : later ≡ powered_on
    pub outcome_is : outcome ≡ power_outcome out

  -- a block was to fail, and it ended so
  pub record PlainFail (block : ℕ) (outcome : Outcome) : Type 0 where
    pub end : FailEnd
    pub rule : FailOnDrive old new block end
    pub stands : t ≡ stands_after_fail s end
    pub same_host : later ≡ host
    pub outcome_is : outcome ≡ fail_outcome end

  -- a block was to be armed, and it ended so
  pub record PlainWear (block n : ℕ) (outcome : Outcome) : Type 0 where
    pub end : Arm
    pub rule : WearRule (total old.shape) old.medium new.medium (record { block = block; left = n }) end
    pub keeps : KeepsPlainly
    pub outcome_is : outcome ≡ wear_outcome end

  -- a cut was armed
  pub record PlainCut (n : ℕ) (fate : Fate) (outcome : Outcome) : Type 0 where
    pub armed : new.medium ≡ with_armed_cut n fate old.medium
    pub keeps : KeepsPlainly
    pub outcome_is : outcome ≡ event events.Armed

  -- nothing is ever due to be written
  pub record PlainTick (outcome : Outcome) : Type 0 where
    pub same : new ≡ old
    pub stands : t ≡ s
    pub same_host : later ≡ host
    pub outcome_is : (IsOn old × (outcome ≡ tick_outcome ticks.Idle)) ⊎ (¬ IsOn old × (outcome ≡ tick_outcome ticks.Off))

  -- a scrubber made a step, and it ended so
  pub record PlainScrubStep (outcome : Outcome) : Type 0 where
    pub end : StepEnd
    pub from : Scrubber
    pub to : Scrubber
    pub rule : StepRule (uncached old) (uncached new) from end to
    pub stands : t ≡ stands_after_step s end
    pub same_host : later ≡ host
    pub outcome_is : outcome ≡ step_outcome end

  -- it made a pass, and it ended so
  pub record PlainScrubPass (outcome : Outcome) : Type 0 where
    pub end : PassEnd
    pub from : Scrubber
    pub to : Scrubber
    pub rule : PassRule (uncached old) (uncached new) from end to
    pub stands : t ≡ stands_after_pass s end
    pub same_host : later ≡ host
    pub outcome_is : outcome ≡ pass_outcome end (length to.found)

  -- a command was executed, and answered so
  pub record PlainCommandLine (cdb payload : List ℕ) (outcome : Outcome) (data_in : List ℕ) : Type 0 where
    pub answer : Answer
    pub step : PlainCommand old new s t host later cdb payload answer data_in
    pub outcome_is : outcome ≡ command_outcome cdb answer

  -- What a line does that needs a disc, with its data and the data that it gives; no other line does any of this.
  abbrev pub PlainRule : Line → List ℕ → Outcome → List ℕ → Type 0
  PlainRule lines.Power payload outcome data_in = PlainPower outcome × (data_in ≡ [])
  PlainRule (lines.Fail block) payload outcome data_in = PlainFail block outcome × (data_in ≡ [])
  PlainRule (lines.Wear block n) payload outcome data_in = PlainWear block n outcome × (data_in ≡ [])
  PlainRule (lines.Cut n fate) payload outcome data_in = PlainCut n fate outcome × (data_in ≡ [])
  PlainRule lines.Tick payload outcome data_in = PlainTick outcome × (data_in ≡ [])
  PlainRule (lines.Scrub false) payload outcome data_in = PlainScrubStep outcome
  PlainRule (lines.Scrub true) payload outcome data_in = PlainScrubPass outcome
  PlainRule (lines.Command cdb) payload outcome data_in = PlainCommandLine cdb payload outcome data_in
  PlainRule _ payload outcome data_in = ⊥

-- the same between two discs of one geometry, with their scrubbers and the bytes of their images
pub record PlainDiscStep (p q : PlainServed) (line : Line) (payload : List ℕ) (outcome : Outcome)
    (data_in : List ℕ) : Type 0 where
  pub same_shape : q.disc.shown.shape ≡ p.disc.shown.shape
  pub rule : PlainRule p.disc.shown q.disc.shown p.disc.standing q.disc.standing p.host q.host line payload outcome data_in
  pub scrubber : ScrubberRule (uncached p.disc.shown) (uncached q.disc.shown) p.scrub q.scrub line outcome data_in
  pub bytes : LineBytes line outcome p.disc.shown (Some p.bytes) q.disc.shown (Some q.bytes)

-- the same in any state: without a disc the line cannot be answered
abbrev pub OnPlainDisc : PlainState → Line → List ℕ → Outcome → List ℕ → PlainState → Type 0
OnPlainDisc (PlainImage image) line payload outcome data_in q =
    (outcome ≡ Err stopped.NotADisc) × (data_in ≡ []) × (q ≡ PlainImage image)
OnPlainDisc (PlainDisc p) line payload outcome data_in (PlainImage image) = ⊥
OnPlainDisc (PlainDisc p) line payload outcome data_in (PlainDisc q) = PlainDiscStep p q line payload outcome data_in

-- a disc of this geometry was pressed, and inserted
abbrev pub IsPlainlyPressed : Shape → PlainState → Type 0
IsPlainlyPressed shape (PlainImage image) = ⊥
IsPlainlyPressed shape (PlainDisc p) = IsPlainlyInserted shape (blank_cells shape) (pressed_image shape) p

-- an image that was not opened, which is this
abbrev pub IsUnopenedPlainly : (BareImage → Type 0) → PlainState → Type 0
IsUnopenedPlainly is (PlainImage image) = is image
IsUnopenedPlainly is (PlainDisc p) = ⊥

-- what a press that the image stopped leaves
abbrev pub IsHalfPlainly : PlainState → BareImage → Type 0
IsHalfPlainly p image =
    (before : List ℕ) × IsPlainlyLeft p before × IsStoppedPress before image.bytes × (image.kind ≡ plain_kind p)

-- the image of a disc of this geometry, with blank cells, that was not opened
abbrev pub IsUnopenedPress : Shape → BareImage → Type 0
IsUnopenedPress shape image = IsImageOf shape (blank_cells shape) image.bytes × (image.kind ≡ shape.layout)

-- What became of a press of this geometry.
abbrev pub PlainPress : PlainState → Shape → Outcome → PlainState → Type 0
PlainPress p shape (Ok (replies.Event events.Pressed)) q = IsLawful shape × IsPlainlyPressed shape q
PlainPress p shape (Ok (replies.Event events.NotPressed)) q = ¬ IsLawful shape × (q ≡ plainly_renewed p)
PlainPress p shape (Err stopped.ImageFault) q = IsLawful shape
    × (IsUnopenedPlainly (IsHalfPlainly p) q ⊎ IsUnopenedPlainly (IsUnopenedPress shape) q)
PlainPress p shape _ q = ⊥

-- From p a line with these data may have this outcome, give these data, and leave q.
abbrev pub PlainStep : PlainState → Line → List ℕ → Outcome → List ℕ → PlainState → Type 0
PlainStep p lines.Empty payload outcome data_in q = (outcome ≡ Ok replies.Nothing) × (data_in ≡ []) × (q ≡ p)
PlainStep p (lines.Press zones scale psa) payload outcome data_in q =
    PlainPress p (shape_in (plain_kind p) zones scale psa) outcome q × (data_in ≡ [])
PlainStep p line payload outcome data_in q = OnPlainDisc p line payload outcome data_in q

-- ---- runs

-- from the state before, the line leads to the state after
abbrev pub IsPlainStep : PlainState → AnsweredStep → PlainState → Type 0
IsPlainStep before event after = PlainStep before event.line event.payload (Ok event.reply) event.data_in after

-- The lines, the newest first, lead from the first state to the last.
abbrev pub PlainRun : PlainState → List AnsweredStep → PlainState → Type 0
PlainRun first [] last = last ≡ first
PlainRun first (event ∷ events) last = (before : PlainState) × PlainRun first events before × IsPlainStep before event last
