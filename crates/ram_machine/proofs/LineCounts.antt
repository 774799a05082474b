-- What a line makes of the image's count: it rises exactly where the image failed.
use Rattle.std.specs.Prelude.{◌≡◌, ℕ, true, false, List, length}
use Rattle.std.proofs.Common.{sym, ap, subst}
use Rattle.model_medium.specs.Machine.{Machine}
use Rattle.model_medium.specs.declared.WornBlock.{WornBlock}
use Rattle.model_sectors.specs.declared.PowerOut.{PowerOut}
use Rattle.model_sectors.specs.declared.PowerOut.TheVariants as powers
use Rattle.model_drive.specs.Shown.{Shown}
use Rattle.model_drive.specs.Faults.{faults, PowerFaults}
use Rattle.model_drive.proofs.Faults.{power_faults}
use Rattle.model_cache.specs.Values.{Contents}
use Rattle.model_cache.specs.Shown.{CacheShown}
use Rattle.model_cache.specs.declared.TickOut.{TickOut}
use Rattle.model_cache.specs.declared.TickOut.TheVariants as ticks
use Rattle.model_cache.proofs.Chained.{tick_faulted, of_tick}
use Rattle.model_scrub.specs.declared.ends.StepEnd.{StepEnd}
use Rattle.model_scrub.specs.declared.ends.StepEnd.TheVariants as steps
use Rattle.model_scrub.specs.declared.ends.PassEnd.{PassEnd}
use Rattle.model_scrub.specs.declared.ends.PassEnd.TheVariants as passes
use Rattle.model_scrub.proofs.Chained.{step_faulted, pass_faulted, of_step, of_pass}
use Rattle.model_target.specs.declared.host.Host.{Host}
use Rattle.model_target.specs.Steps.{AnswerFaults}
use Rattle.model_target.proofs.Counted.{CountsFaults, counts_faults, step_counted}
use Rattle.ram_medium.specs.Control.{WearRule}
use Rattle.ram_medium.specs.declared.control.FailEnd.{FailEnd}
use Rattle.ram_medium.specs.declared.control.FailEnd.TheVariants as fails
use Rattle.ram_medium.specs.declared.control.Arm.{Arm}
use Rattle.ram_medium.specs.declared.control.Arm.TheVariants as arming
use Rattle.model_sense.specs.declared.answer.Answer.{Answer}
use Rattle.model_sense.specs.declared.answer.Answer.TheVariants as answers
use Rattle.ram_states.specs.Control.{FailOnDrive}
use Rattle.ram_text.specs.declared.script.Line.{Line}
use Rattle.ram_text.specs.declared.script.Line.TheVariants as lines
use Rattle.ram_machine.specs.Replies.{Outcome, power_outcome, fail_outcome, wear_outcome, tick_outcome, step_outcome, pass_outcome, command_outcome}
use Rattle.ram_machine.specs.LineSteps.{DiscRule}
use Rattle.ram_machine.specs.LineFaults.{LineCount}
use Rattle.ram_machine.proofs.Scrubbed.{scrub_counts}

module _ (old new : Shown) where
  -- the count after a line that came out so
  abbrev Counts : Outcome → Type 0
  Counts outcome = LineCount (faults old) (faults new) outcome

  told : (outcome due : Outcome) → outcome ≡ due → Counts due → Counts outcome
  told outcome due is p = subst Counts (sym is) p

  power_counts : (out : PowerOut) → PowerFaults old new out → Counts (power_outcome out)
  power_counts (powers.Ready known) p = p
  power_counts powers.NotFormatted p = p
  power_counts powers.Cut p = p
  power_counts powers.Fault p = p

  fail_counts : (block : ℕ) (end : FailEnd) → FailOnDrive old new block end → Counts (fail_outcome end)
  fail_counts block fails.Done p = ap (λ (m : Machine). m.world.faults) p.0.1
  fail_counts block (fails.NoBlock blocks) p = ap (λ (m : Machine). m.world.faults) p.0.2
  fail_counts block fails.Failed p = p.0.1.fault

  wear_counts : (total : ℕ) (worn : WornBlock) (end : Arm) → WearRule total old.medium new.medium worn end → Counts (wear_outcome end)
  wear_counts total worn arming.Set p = ap (λ (m : Machine). m.world.faults) p.2
  wear_counts total worn (arming.NoBlock blocks) p = ap (λ (m : Machine). m.world.faults) p.2
  wear_counts total worn arming.Full p = ap (λ (m : Machine). m.world.faults) p.2

  tick_counts : (out : TickOut) → CountsFaults (tick_faulted out) old new → Counts (tick_outcome out)
  tick_counts ticks.Idle p = p
  tick_counts (ticks.Written lba) p = p
  tick_counts (ticks.NoSpare lba) p = p
  tick_counts (ticks.NoUpdate counter) p = p
  tick_counts ticks.Cut p = p
  tick_counts ticks.Off p = p
  tick_counts ticks.Fault p = p

  step_counts : (end : StepEnd) → CountsFaults (step_faulted end) old new → Counts (step_outcome end)
  step_counts (steps.Readable i) p = p
  step_counts (steps.Unreadable i) p = p
  step_counts steps.NotFormatted p = p
  step_counts steps.Cut p = p
  step_counts steps.Off p = p
  step_counts steps.Fault p = p

  pass_counts : (end : PassEnd) (count : ℕ) → CountsFaults (pass_faulted end) old new → Counts (pass_outcome end count)
  pass_counts passes.Done count p = p
  pass_counts passes.NotFormatted count p = p
  pass_counts passes.Cut count p = p
  pass_counts passes.Off count p = p
  pass_counts passes.Fault count p = p

  answer_counts : (cdb : List ℕ) (answer : Answer) → AnswerFaults old new answer → Counts (command_outcome cdb answer)
  answer_counts cdb answers.Good p = p
  answer_counts cdb (answers.Check sense) p = p
  answer_counts cdb answers.Cut p = p
  answer_counts cdb answers.Off p = p
  answer_counts cdb answers.Fault p = p

-- the count of a line
pub rule_counts : (old new : CacheShown) (before after : Contents → Type 0) (host later : Host) (line : Line) (payload : List ℕ) (outcome : Outcome) (data_in : List ℕ) → DiscRule old new before after host later line payload outcome data_in → Counts old.drive new.drive outcome
rule_counts old new before after host later lines.Power payload outcome data_in p =
    told old.drive new.drive outcome (power_outcome p.0.out) p.0.outcome_is (power_counts old.drive new.drive p.0.out (power_faults old.drive new.drive p.0.out p.0.powered.cause.0))
rule_counts old new before after host later (lines.Fail block) payload outcome data_in p =
    told old.drive new.drive outcome (fail_outcome p.0.end) p.0.outcome_is (fail_counts old.drive new.drive block p.0.end p.0.rule)
rule_counts old new before after host later (lines.Wear block n) payload outcome data_in p =
    told old.drive new.drive outcome (wear_outcome p.0.end) p.0.outcome_is (wear_counts old.drive new.drive _ (record { block = block; left = n }) p.0.end p.0.rule)
rule_counts old new before after host later (lines.Cut n fate) payload outcome data_in p =
    told old.drive new.drive outcome _ p.0.outcome_is (ap (λ (m : Machine). m.world.faults) p.0.armed)
rule_counts old new before after host later lines.Tick payload outcome data_in p =
    told old.drive new.drive outcome (tick_outcome p.0.out) p.0.outcome_is (tick_counts old.drive new.drive p.0.out (of_tick CountsFaults counts_faults old new p.0.out p.0.cause))
rule_counts old new before after host later (lines.Scrub false) payload outcome data_in p =
    told old.drive new.drive outcome (step_outcome p.end) p.outcome_is
    (step_counts old.drive new.drive p.end (of_step (λ faulted a b. CountsFaults faulted a.drive b.drive) scrub_counts old new p.from p.to p.end p.rule))
rule_counts old new before after host later (lines.Scrub true) payload outcome data_in p =
    told old.drive new.drive outcome (pass_outcome p.end (length p.to.found)) p.outcome_is
    (pass_counts old.drive new.drive p.end (length p.to.found) (of_pass (λ faulted a b. CountsFaults faulted a.drive b.drive) scrub_counts old new p.from p.to p.end p.rule))
rule_counts old new before after host later (lines.Command cdb) payload outcome data_in p =
    told old.drive new.drive outcome (command_outcome cdb p.answer) p.outcome_is (answer_counts old.drive new.drive cdb p.answer (step_counted old new before after host later cdb payload p.answer data_in p.step))
rule_counts old new before after host later _ payload outcome data_in p = absurd p
