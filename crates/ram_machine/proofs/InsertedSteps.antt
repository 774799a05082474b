-- What a line leaves of the inserted disc.
use Rattle.std.specs.Prelude.{◌≡◌, ℕ, Option, Some, Ok, Err, List, []}
use Rattle.std.proofs.Common.{refl, sym, ap, ◌∙◌, subst}
use Rattle.model_geometry.specs.declared.kinds.LayoutKind.{LayoutKind}
use Rattle.model_geometry.specs.Geometry.{Shape, IsLawful, shape_in}
use Rattle.model_drive.specs.Shown.{Shown}
use Rattle.model_cache.specs.declared.TickOut.{TickOut}
use Rattle.model_cache.specs.declared.TickOut.TheVariants as ticks
use Rattle.model_sectors.specs.declared.PowerOut.{PowerOut}
use Rattle.model_sectors.specs.declared.PowerOut.TheVariants as powers
use Rattle.model_scrub.specs.declared.ends.StepEnd.{StepEnd}
use Rattle.model_scrub.specs.declared.ends.StepEnd.TheVariants as steps
use Rattle.model_scrub.specs.Scrubs.{Scrubber}
use Rattle.model_sense.specs.declared.answer.Answer.{Answer}
use Rattle.model_sense.specs.declared.answer.Answer.TheVariants as answers
use Rattle.model_target.specs.declared.host.Host.{Host}
use Rattle.ram_outside.specs.declared.image.Image.{Ghosts as Images}
use Rattle.ram_sectors.specs.Laws.{CachingLaws}
use Rattle.model_cache.specs.Values.{Contents}
use Rattle.model_cache.specs.Shown.{CacheShown, CacheStandsFor}
use Rattle.ram_sectors.specs.declared.caching.Caching.{Ghosts as Drives}
use Rattle.ram_medium.specs.declared.control.Arm.{Arm}
use Rattle.ram_medium.specs.declared.control.Arm.TheVariants as arming
use Rattle.ram_medium.specs.declared.control.FailEnd.{FailEnd}
use Rattle.ram_medium.specs.declared.control.FailEnd.TheVariants as fails
use Rattle.ram_mmc.specs.declared.target.Target.{Target}
use Rattle.ram_report.specs.declared.printing.Event.TheVariants as events
use Rattle.ram_machine.specs.declared.inserted.Inserted.TheVariants as inserts
use Rattle.ram_machine.specs.declared.reply.Reply.TheVariants as replies
use Rattle.ram_machine.specs.declared.stopped.Stopped.TheVariants as stopped
use Rattle.ram_scrub.specs.Scrub.{scrubber_of}
use Rattle.ram_scrub.specs.declared.scrub.Scrub.{Scrub}
use Rattle.ram_text.specs.declared.script.Line.{Line}
use Rattle.ram_states.specs.Control.{FailOnDrive}
use Rattle.ram_text.specs.declared.script.Line.TheVariants as lines
use Rattle.ram_machine.specs.Replies.{Outcome, power_outcome, fail_outcome, wear_outcome, tick_outcome, step_outcome, command_outcome, data_told}
use Rattle.ram_machine.specs.States.{State, Served, Unopened, Disc, kind_of, IsIn, IsLabelled}
use Rattle.ram_machine.specs.Drive.{DriveLaws}
use Rattle.ram_machine.specs.LineSteps.{PressStep, DiscRule, DiscStep, LeadsOn, ScrubberRule, LineBytes, Step}
use Rattle.ram_machine.specs.Inserted.{Stands, IsAnswered, IsPressAnswered}
use Rattle.ram_machine.proofs.Images.{lies_there}
use Rattle.ram_machine.proofs.SoundChains.{contents_known}
use Rattle.ram_machine.proofs.StatesAfter.{rule_found}
use Rattle.ram_machine.proofs.Labels.{stays_labelled}

-- the failure of a block leaves the geometry
pub fail_shape : (old new : Shown) (block : ℕ) (end : FailEnd) → FailOnDrive old new block end → new.shape ≡ old.shape
fail_shape old new block fails.Done p = p.1.same_shape
fail_shape old new block (fails.NoBlock blocks) p = p.1.same_shape
fail_shape old new block fails.Failed p = p.1.same_shape

-- what a line does on a disc is its step
disc_step : (s t : Served) (line : Line) (payload : List ℕ) (outcome : Outcome) (data_in : List ℕ) → DiscStep s t line payload outcome data_in → Step (Disc s) line payload outcome data_in (Disc t)
disc_step s t lines.Empty payload outcome data_in step = absurd step.rule
disc_step s t (lines.Press zones scale psa) payload outcome data_in step = absurd step.rule
disc_step s t _ payload outcome data_in step = step

module _ {D I : Type 0} (drives : Drives D) (lies_in : D → Option (List ℕ)) (images : Images I) (laws : CachingLaws drives.shows drives.stands) (lying : DriveLaws drives.shows drives.underwent lies_in) (old new : Target D) (scrub scrub' : Scrub) (line : Line) (payload : List ℕ) (outcome : Outcome) (data_in : List ℕ)
    (rule : DiscRule (drives.shows old.disc) (drives.shows new.disc) (drives.stands old.disc) (drives.stands new.disc) old.host new.host line payload outcome data_in)
    (same_shape : (drives.shows new.disc).drive.shape ≡ (drives.shows old.disc).drive.shape) (bytes : LineBytes line outcome (drives.shows old.disc).drive (lies_in old.disc) (drives.shows new.disc).drive (lies_in new.disc))
    (scrubbed : ScrubberRule (drives.shows old.disc) (drives.shows new.disc) (scrubber_of scrub) (scrubber_of scrub') line outcome data_in) where
  -- from whatever it stood for
  leads_on : (s t : Served) → IsIn (drives.shows old.disc) (drives.stands old.disc) old.host (lies_in old.disc) s → drives.shows new.disc ≡ t.disc.shown → new.host ≡ t.host
      → (before : Contents) → CacheStandsFor s.disc.shown before → LeadsOn s t line payload outcome data_in before
  leads_on s t is shown_is host_is before stood =
      let held = (laws.as_shown old.disc before).1 (subst (λ (shown : CacheShown). CacheStandsFor shown before) (sym is.shown_is) stood) in
      let found = rule_found (drives.shows old.disc) (drives.shows new.disc) (drives.stands old.disc) (drives.stands new.disc) old.host new.host before held line payload outcome data_in rule in
      record {
        after = found.0;
        stands = subst (λ (shown : CacheShown). CacheStandsFor shown found.0) shown_is ((laws.as_shown new.disc found.0).0 found.1);
        rule = subst (λ (shown : CacheShown). DiscRule shown t.disc.shown (λ x. x ≡ before) (λ x. x ≡ found.0) s.host t.host line payload outcome data_in) is.shown_is
            (subst (λ (shown : CacheShown). DiscRule (drives.shows old.disc) shown (λ x. x ≡ before) (λ x. x ≡ found.0) s.host t.host line payload outcome data_in) shown_is
            (subst (λ (host : Host). DiscRule (drives.shows old.disc) (drives.shows new.disc) (λ x. x ≡ before) (λ x. x ≡ found.0) host t.host line payload outcome data_in) is.host_is
            (subst (λ (host : Host). DiscRule (drives.shows old.disc) (drives.shows new.disc) (λ x. x ≡ before) (λ x. x ≡ found.0) old.host host line payload outcome data_in) host_is found.2)));
      }

  -- the disc that a line leaves
  disc_left : (s : Served) → IsIn (drives.shows old.disc) (drives.stands old.disc) old.host (lies_in old.disc) s → scrubber_of scrub ≡ s.scrub
      → (t : Served) × DiscStep s t line payload outcome data_in × IsIn (drives.shows new.disc) (drives.stands new.disc) new.host (lies_in new.disc) t × (scrubber_of scrub' ≡ t.scrub)
  disc_left s is scrub_is =
      let found = rule_found (drives.shows old.disc) (drives.shows new.disc) (drives.stands old.disc) (drives.stands new.disc) old.host new.host s.disc.contents is.contents_is line payload outcome data_in rule in
      let labelled : IsLabelled (drives.shows new.disc).drive =
      stays_labelled (drives.shows old.disc) (drives.shows new.disc) (drives.stands old.disc) (drives.stands new.disc) old.host new.host line payload outcome data_in rule same_shape
      (subst (λ (shown : CacheShown). IsLabelled shown.drive) (sym is.shown_is) s.labelled) in
      let stands = (laws.as_shown new.disc found.0).0 found.1 in
      let shape : (drives.shows new.disc).drive.shape ≡ s.disc.shown.drive.shape = same_shape ∙ ap (λ (shown : CacheShown). shown.drive.shape) is.shown_is in
      let lawful = subst IsLawful (sym shape) s.image.disc.has_header.lawful in
      let there = lies_there (drives.shows new.disc).drive (lies_in new.disc) (contents_known (drives.shows new.disc) found.0 stands) labelled lawful (lying.has_cells new.disc) in
      let t : Served = record {
        disc = record { shown = drives.shows new.disc; contents = found.0; sound = laws.drive_sound new.disc; cache_sound = laws.sound new.disc; stands = stands };
        host = new.host;
        scrub = scrubber_of scrub';
        labelled = labelled;
        bytes = there.bytes;
        image = there.image_is;
      } in (
        t,
        record {
          same_shape = shape;
          rule = subst (λ (host : Host). DiscRule s.disc.shown (drives.shows new.disc) (λ x. x ≡ s.disc.contents) (λ x. x ≡ found.0) host new.host line payload outcome data_in) is.host_is
              (subst (λ (shown : CacheShown). DiscRule shown (drives.shows new.disc) (λ x. x ≡ s.disc.contents) (λ x. x ≡ found.0) old.host new.host line payload outcome data_in) is.shown_is found.2);
          scrubber = subst (λ (shown : CacheShown). ScrubberRule shown (drives.shows new.disc) s.scrub (scrubber_of scrub') line outcome data_in) is.shown_is
              (subst (λ (from : Scrubber). ScrubberRule (drives.shows old.disc) (drives.shows new.disc) from (scrubber_of scrub') line outcome data_in) scrub_is scrubbed);
          bytes = subst (λ (shown : CacheShown). LineBytes line outcome shown.drive (Some s.bytes) (drives.shows new.disc).drive (Some there.bytes)) is.shown_is
              (subst (λ (o : Option (List ℕ)). LineBytes line outcome (drives.shows old.disc).drive o (drives.shows new.disc).drive (Some there.bytes)) is.bytes_are
              (subst (LineBytes line outcome (drives.shows old.disc).drive (lies_in old.disc) (drives.shows new.disc).drive) there.known bytes));
          each = λ before stood. leads_on s t is refl refl before stood;
        },
        record { shown_is = refl; contents_is = found.1; host_is = refl; bytes_are = there.known },
        refl,
      )

  -- the same of the inserted disc
  pub inserted_left : (kind : LayoutKind) (s : State) → Stands drives lies_in images (inserts.Disc old kind scrub) s → IsAnswered s line payload data_in (Stands drives lies_in images (inserts.Disc new kind scrub')) outcome
  inserted_left kind (Unopened bare) stands = absurd stands
  inserted_left kind (Disc s) stands =
      let left = disc_left s stands.0 stands.2 in
      record { state = Disc left.0; step = disc_step s left.0 line payload outcome data_in left.1; stands = (left.2, stands.1 ∙ sym (ap (λ (z : Shape). z.layout) left.1.same_shape), left.3) }

  -- and the data that it gives
  pub inserted_told : (kind : LayoutKind) (bytes found : List ℕ) → data_told outcome bytes found ≡ data_in
      → (s : State) → Stands drives lies_in images (inserts.Disc old kind scrub) s → IsAnswered s line payload (data_told outcome bytes found) (Stands drives lies_in images (inserts.Disc new kind scrub')) outcome
  inserted_told kind bytes found told s stands =
      subst (λ (d : List ℕ). IsAnswered s line payload d (Stands drives lies_in images (inserts.Disc new kind scrub')) outcome) (sym told) (inserted_left kind s stands)

-- ---- the data of a line that tells no found blocks

module _ (bytes found : List ℕ) where
  -- so it is of an outcome, if it is of what it is
  pub told_by : (outcome due : Outcome) → outcome ≡ due → data_told due bytes found ≡ bytes → data_told outcome bytes found ≡ bytes
  told_by outcome due is told = ap (λ (o : Outcome). data_told o bytes found) is ∙ told

  pub power_told : (out : PowerOut) → data_told (power_outcome out) bytes found ≡ bytes
  power_told (powers.Ready capacity) = refl
  power_told powers.NotFormatted = refl
  power_told powers.Cut = refl
  power_told powers.Fault = refl

  pub fail_told : (end : FailEnd) → data_told (fail_outcome end) bytes found ≡ bytes
  fail_told fails.Done = refl
  fail_told (fails.NoBlock blocks) = refl
  fail_told fails.Failed = refl

  pub wear_told : (end : Arm) → data_told (wear_outcome end) bytes found ≡ bytes
  wear_told arming.Set = refl
  wear_told (arming.NoBlock blocks) = refl
  wear_told arming.Full = refl

  pub tick_told : (out : TickOut) → data_told (tick_outcome out) bytes found ≡ bytes
  tick_told ticks.Idle = refl
  tick_told (ticks.Written lba) = refl
  tick_told (ticks.NoSpare lba) = refl
  tick_told (ticks.NoUpdate counter) = refl
  tick_told ticks.Cut = refl
  tick_told ticks.Off = refl
  tick_told ticks.Fault = refl

  pub step_told : (end : StepEnd) → data_told (step_outcome end) bytes found ≡ bytes
  step_told (steps.Readable i) = refl
  step_told (steps.Unreadable i) = refl
  step_told steps.NotFormatted = refl
  step_told steps.Cut = refl
  step_told steps.Off = refl
  step_told steps.Fault = refl

  pub command_told : (cdb : List ℕ) (answer : Answer) → data_told (command_outcome cdb answer) bytes found ≡ bytes
  command_told cdb answers.Good = refl
  command_told cdb (answers.Check sense) = refl
  command_told cdb answers.Cut = refl
  command_told cdb answers.Off = refl
  command_told cdb answers.Fault = refl

  press_told : (s t : State) (shape : Shape) (outcome : Outcome) → PressStep s shape outcome t → data_told outcome bytes found ≡ bytes
  press_told s t shape (Ok (replies.Event events.Pressed)) step = refl
  press_told s t shape (Ok (replies.Event events.NotPressed)) step = refl
  press_told s t shape (Err stopped.ImageFault) step = refl
  press_told s t shape _ step = absurd step

  -- a press that was answered
  pub press_answered : (s : State) (zones scale psa : ℕ) (payload : List ℕ) (after : State → Type 0) (outcome : Outcome) → bytes ≡ [] → IsPressAnswered s (shape_in (kind_of s) zones scale psa) after outcome
      → IsAnswered s (lines.Press zones scale psa) payload (data_told outcome bytes found) after outcome
  press_answered s zones scale psa payload after outcome none is =
      record { state = is.state; step = (is.step, press_told s is.state (shape_in (kind_of s) zones scale psa) outcome is.step ∙ none); stands = is.stands }
