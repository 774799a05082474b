-- A sector that is kept stays so in all that keeps it.
use Rattle.std.specs.Prelude.{◌≡◌, ◌⊎◌, ℕ, zero, suc, ◌+◌, ◌*◌, ◌<◌, ◌≤◌, Bool, false, Ok, Err, List, [], ◌∷◌, length}
use Rattle.std.proofs.Common.{arith, refl, sym, inl, inr, subst}
use Rattle.model_geometry.specs.Geometry.{Shape}
use Rattle.model_mirror.specs.Shown.{MirrorShown}
use Rattle.model_mirror_laws.specs.Kept.{AreSides}
use Rattle.model_mirror_laws.specs.Bytes.{IsKept, SidesAge}
use Rattle.model_mirror_laws.specs.Runs.{StepOfRuns, StepsOfRuns}
use Rattle.model_mirror_laws.proofs.OverRuns.{all_steps}
use Rattle.ram_report.specs.declared.printing.MirrorEvent.{MirrorEvent}
use Rattle.ram_text.specs.ScriptWords.{words_of, without_return}
use Rattle.ram_text.specs.MirrorScript.{IsMirrorForm, MirrorReads}
use Rattle.ram_text.specs.declared.mirror.MirrorLine.{MirrorLine}
use Rattle.ram_text.specs.declared.mirror.MirrorLine.TheVariants as lines
use Rattle.ram_machine.specs.declared.stopped.Stopped.TheVariants as stopped
use Rattle.ram_machine.specs.SectorBytes.{is_sector_among}
use Rattle.ram_pair.specs.Told.{PairOutcome}
use Rattle.ram_pair.specs.PairStates.{PairState, Paired, Unpaired, Mirrored, images_of, IsFirstPair}
use Rattle.ram_pair.specs.PairLines.{CallRule}
use Rattle.ram_pair.specs.PairSteps.{OnMirror, PairStep, RawStep}
use Rattle.ram_mirrored.proofs.MirrorSectors.{is_beside}
use Rattle.ram_mirror_runs.specs.Histories.{in_order, HappensNext, Answered, Ended, Begun, History}
use Rattle.ram_mirror_runs.specs.Keeping.{KeepsInCall, KeepsOnMirror, KeepsInStep, KeepsInRaw, KeepsNext, KeepsOver}
use Rattle.ram_mirror_runs.proofs.Aging.{fail_call_ages, wear_call_ages, cut_call_ages}
use Rattle.ram_mirror_runs.proofs.Lying.{IsUpright, lie_again, began_again, still_paired}

-- a write sends whole sectors
written_whole : (lba n : ℕ) (words : List (List ℕ)) (payload : List ℕ) → IsMirrorForm (lines.Write lba n) words payload → length payload ≡ 2048 * n
written_whole lba n [] payload form = absurd form
written_whole lba n (a ∷ []) payload form = absurd form
written_whole lba n (a ∷ b ∷ []) payload form = absurd form
written_whole lba n (a ∷ b ∷ c ∷ []) payload form = absurd form
written_whole lba n (a ∷ b ∷ c ∷ d ∷ []) payload form = absurd form
written_whole lba n (a ∷ b ∷ c ∷ d ∷ e ∷ []) payload form = form.3.whole
written_whole lba n (a ∷ b ∷ c ∷ d ∷ e ∷ f ∷ words) payload form = absurd form

pub write_whole : (raw : List ℕ) (lba n : ℕ) (payload : List ℕ) → MirrorReads raw (lines.Write lba n) payload → length payload ≡ 2048 * n
write_whole raw lba n payload (inl comment) = absurd (let clash : lines.Write lba n ≡ lines.Empty = comment.nothing in cc)
write_whole raw lba n payload (inr other) = written_whole lba n (words_of (without_return raw)) payload other.form

module _ (at : ℕ) (old new : MirrorShown) where
  -- what a line does, as steps of the model's runs
  record SomeSteps : Type 0 where
    pub count : ℕ
    pub steps : StepsOfRuns at old new count

  one : StepOfRuns old new at → SomeSteps
  one step = record { count = 1; steps = (old, refl, step) }

  beside : (lba n : ℕ) → is_sector_among lba n at ≡ false → (at + 1 ≤ lba) ⊎ (lba + n ≤ at)
  beside lba n apart = elim (is_beside lba n at apart) [
    | inl before ↦ inl (let before : at < lba = before in omega (arith, before))
    | inr behind ↦ inr behind
  ]

  ages : SidesAge old new → SomeSteps
  ages is = one (inr (inr (inr (inr (inr (inl is))))))

  line_steps : (shape : Shape) → AreSides shape old → (raw : List ℕ) (line : MirrorLine) (payload gave : List ℕ) (called : MirrorEvent) → MirrorReads raw line payload
      → (rule : CallRule old new line payload gave called) → KeepsInCall at old new line payload gave called rule → SomeSteps
  line_steps shape sides raw lines.Power payload gave called reads rule keeps = one (inl (record { out = rule.out; cause = rule.cause; copies = keeps; so = rule.step }))
  line_steps shape sides raw (lines.Read lba n) payload gave called reads rule keeps = one (inr (inl (record { lba = lba; n = n; into = gave; out = rule.out; cause = rule.cause; so = rule.step })))
  line_steps shape sides raw (lines.Write lba n) payload gave called reads rule keeps = one (inr (inr (inl (record {
    lba = lba;
    n = n;
    payload = payload;
    whole = write_whole raw lba n payload reads;
    apart = beside lba n keeps;
    out = rule.out;
    cause = rule.cause;
    so = rule.step;
  }))))
  line_steps shape sides raw lines.Format payload gave called reads rule keeps = one (inr (inr (inr (inr (inl (record { out = rule.out; refused = keeps; cause = rule.cause; so = rule.step }))))))
  line_steps shape sides raw lines.Resync payload gave called reads rule keeps = one (inr (inr (inr (inl (record { out = rule.out; cause = rule.cause; so = rule.step })))))
  line_steps shape sides raw lines.Lead payload gave called reads rule keeps = record { count = 0; steps = rule.same }
  line_steps shape sides raw (lines.GiveLead to_a) payload gave called reads rule keeps = absurd keeps
  line_steps shape sides raw (lines.Fail on_a block) payload gave called reads rule keeps = ages (fail_call_ages old sides.lead_sound sides.other_sound new on_a block called rule keeps)
  line_steps shape sides raw (lines.Wear on_a block n) payload gave called reads rule keeps = ages (wear_call_ages old sides.lead_sound sides.other_sound new on_a block n called rule)
  line_steps shape sides raw (lines.Cut on_a n fate) payload gave called reads rule keeps = ages (cut_call_ages old sides.lead_sound sides.other_sound new on_a n fate called rule)
  line_steps shape sides raw lines.Empty payload gave called reads rule keeps = absurd rule
  line_steps shape sides raw (lines.Press zones scale psa) payload gave called reads rule keeps = absurd rule

pub record IsKeptIn (at : ℕ) (bytes : List ℕ) (shape : Shape) (s : Mirrored) : Type 0 where
  pub up : IsUpright shape s
  pub kept : IsKept at bytes s.shown

-- a mirror that is upright keeps the sector
abbrev pub KeptPair : (at : ℕ) (bytes : List ℕ) → PairState → Type 0
KeptPair at bytes (Unpaired images) = ⊥
KeptPair at bytes (Paired s) = (shape : Shape) × IsKeptIn at bytes shape s

module _ (at : ℕ) (bytes : List ℕ) where
  mirror_kept : (s t : PairState) (raw : List ℕ) (line : MirrorLine) (payload : List ℕ) (outcome : PairOutcome) (gave : List ℕ) → MirrorReads raw line payload
      → (step : OnMirror s line payload outcome gave t) → KeepsOnMirror at s line payload outcome gave t step → KeptPair at bytes s → KeptPair at bytes t
  mirror_kept (Unpaired images) t raw line payload outcome gave reads step keeps kept = absurd kept
  mirror_kept (Paired s) (Unpaired images) raw line payload outcome gave reads step keeps kept = absurd step
  mirror_kept (Paired s) (Paired t) raw line payload outcome gave reads step keeps (shape, kept) =
      let up = kept.up in
      let runs = line_steps at s.shown t.shown shape up.well.sides raw line payload gave step.called reads step.rule keeps in
      let after = all_steps shape at bytes s.shown t.shown runs.count runs.steps (up.well.sides, up.well.knows, kept.kept) in
      (shape, record { up = record { well = record { sides = after.0; knows = after.1 }; lie = lie_again shape s t line payload outcome gave step up.lie }; kept = after.2 })

  step_kept : (s t : PairState) (raw : List ℕ) (line : MirrorLine) (payload : List ℕ) (outcome : PairOutcome) (gave : List ℕ) → MirrorReads raw line payload
      → (step : PairStep s line payload outcome gave t) → KeepsInStep at s line payload outcome gave t step → KeptPair at bytes s → KeptPair at bytes t
  step_kept s t raw lines.Empty payload outcome gave reads step keeps kept = subst (KeptPair at bytes) (sym step.1) kept
  step_kept s t raw (lines.Press zones scale psa) payload outcome gave reads step keeps kept = absurd keeps
  step_kept s t raw line payload outcome gave reads step keeps kept = mirror_kept s t raw line payload outcome gave reads step keeps kept

  raw_kept : (s t : PairState) (raw : List ℕ) (outcome : PairOutcome) (gave : List ℕ) (step : RawStep s raw outcome gave t) → KeepsInRaw at s raw outcome gave t step
      → KeptPair at bytes s → KeptPair at bytes t
  raw_kept s t raw (Err stopped.NotInLanguage) gave step keeps kept = subst (KeptPair at bytes) (sym step.1) kept
  raw_kept s t raw outcome gave step keeps kept = step_kept s t raw step.line step.payload outcome gave step.reads step.step keeps kept

  begun_kept : (s t : PairState) (turned : Bool) → IsFirstPair (in_order turned (images_of s)) t → KeptPair at bytes s → KeptPair at bytes t
  begun_kept (Unpaired images) t turned first kept = absurd kept
  begun_kept (Paired s) (Unpaired images) turned first (shape, kept) = absurd (still_paired shape s kept.up turned images first)
  begun_kept (Paired s) (Paired t) turned first (shape, kept) =
      let up = kept.up in
      let again = began_again shape s up t turned first in
      let run = one at s.shown t.shown (inr (inr (inr (inr (inr (inr (record { turned = turned; begins = again.begins }))))))) in
      let after = all_steps shape at bytes s.shown t.shown run.count run.steps (up.well.sides, up.well.knows, kept.kept) in
      (shape, record { up = record { well = record { sides = after.0; knows = after.1 }; lie = again.lie }; kept = after.2 })

  next_kept : (s t : PairState) (next : HappensNext s t) → KeepsNext at s t next → KeptPair at bytes s → KeptPair at bytes t
  next_kept s t (Answered is) keeps kept = raw_kept s t is.event.raw (Ok is.step.told) is.step.bytes is.step.step keeps kept
  next_kept s t (Ended ends) keeps kept = raw_kept s t ends.raw (Err ends.why) ends.stops.bytes ends.stops.step keeps kept
  next_kept s t (Begun begins) keeps kept = begun_kept s t begins.turned begins.begins kept

  pub history_kept : (first last : PairState) (steps : ℕ) (history : History first last steps) → KeepsOver at first last steps history → KeptPair at bytes first → KeptPair at bytes last
  history_kept first last zero same keeps kept = subst (KeptPair at bytes) (sym same) kept
  history_kept first last (suc k) (mid, before, next) keeps kept = next_kept mid last next keeps.1 (history_kept first mid k before keeps.0 kept)
