-- Which lines lack a disc: none where there is one.
use Rattle.std.specs.Prelude.{◌≡◌, ℕ, true, false, Ok, Err, List, length}
use Rattle.model_cache.specs.Values.{Contents}
use Rattle.model_cache.specs.Shown.{CacheShown}
use Rattle.model_cache.specs.declared.TickOut.{TickOut}
use Rattle.model_cache.specs.declared.TickOut.TheVariants as ticks
use Rattle.model_scrub.specs.declared.ends.StepEnd.{StepEnd}
use Rattle.model_scrub.specs.declared.ends.StepEnd.TheVariants as steps
use Rattle.model_scrub.specs.declared.ends.PassEnd.{PassEnd}
use Rattle.model_scrub.specs.declared.ends.PassEnd.TheVariants as passes
use Rattle.model_target.specs.declared.host.Host.{Host}
use Rattle.model_sectors.specs.declared.PowerOut.{PowerOut}
use Rattle.model_sectors.specs.declared.PowerOut.TheVariants as powers
use Rattle.ram_medium.specs.declared.control.FailEnd.{FailEnd}
use Rattle.ram_medium.specs.declared.control.FailEnd.TheVariants as fails
use Rattle.ram_medium.specs.declared.control.Arm.{Arm}
use Rattle.ram_medium.specs.declared.control.Arm.TheVariants as arming
use Rattle.model_sense.specs.declared.answer.Answer.{Answer}
use Rattle.model_sense.specs.declared.answer.Answer.TheVariants as answers
use Rattle.ram_report.specs.declared.printing.Event.TheVariants as events
use Rattle.ram_text.specs.declared.script.Line.{Line}
use Rattle.ram_text.specs.declared.script.Line.TheVariants as lines
use Rattle.ram_machine.specs.declared.reply.Reply.{Reply}
use Rattle.ram_machine.specs.declared.reply.Reply.TheVariants as replies
use Rattle.ram_machine.specs.declared.stopped.Stopped.TheVariants as stopped
use Rattle.ram_machine.specs.Replies.{Outcome, power_outcome, fail_outcome, wear_outcome, tick_outcome, step_outcome, pass_outcome, command_outcome}
use Rattle.ram_machine.specs.States.{State, Served, Unopened, Disc}
use Rattle.ram_machine.specs.LineSteps.{DiscRule, OnDisc, Step}

-- what a line has that lacks a disc
abbrev lacks : Outcome
lacks = Err stopped.NotADisc

-- what is done on a disc is not answered as if there were none
power_answers : (out : PowerOut) → lacks ≡ power_outcome out → ⊥
power_answers (powers.Ready capacity) same = cc
power_answers powers.NotFormatted same = cc
power_answers powers.Cut same = cc
power_answers powers.Fault same = cc

fail_answers : (end : FailEnd) → lacks ≡ fail_outcome end → ⊥
fail_answers fails.Done same = cc
fail_answers (fails.NoBlock blocks) same = cc
fail_answers fails.Failed same = cc

wear_answers : (end : Arm) → lacks ≡ wear_outcome end → ⊥
wear_answers arming.Set same = cc
wear_answers (arming.NoBlock blocks) same = cc
wear_answers arming.Full same = cc

tick_answers : (out : TickOut) → lacks ≡ tick_outcome out → ⊥
tick_answers ticks.Idle same = cc
tick_answers (ticks.Written lba) same = cc
tick_answers (ticks.NoSpare lba) same = cc
tick_answers (ticks.NoUpdate counter) same = cc
tick_answers ticks.Cut same = cc
tick_answers ticks.Off same = cc
tick_answers ticks.Fault same = cc

step_answers : (end : StepEnd) → lacks ≡ step_outcome end → ⊥
step_answers (steps.Readable i) same = cc
step_answers (steps.Unreadable i) same = cc
step_answers steps.NotFormatted same = cc
step_answers steps.Cut same = cc
step_answers steps.Off same = cc
step_answers steps.Fault same = cc

pass_answers : (end : PassEnd) (count : ℕ) → lacks ≡ pass_outcome end count → ⊥
pass_answers passes.Done count same = cc
pass_answers passes.NotFormatted count same = cc
pass_answers passes.Cut count same = cc
pass_answers passes.Off count same = cc
pass_answers passes.Fault count same = cc

command_answers : (cdb : List ℕ) (answer : Answer) → lacks ≡ command_outcome cdb answer → ⊥
command_answers cdb answers.Good same = cc
command_answers cdb (answers.Check sense) same = cc
command_answers cdb answers.Cut same = cc
command_answers cdb answers.Off same = cc
command_answers cdb answers.Fault same = cc

pub distinct : (reply : Reply) → lacks ≡ Ok reply → ⊥
distinct reply same = cc

rule_answers : (old new : CacheShown) (before after : Contents → Type 0) (host later : Host) (line : Line) (payload data_in : List ℕ) → DiscRule old new before after host later line payload lacks data_in → ⊥
rule_answers old new before after host later lines.Power payload data_in rule = power_answers rule.0.out rule.0.outcome_is
rule_answers old new before after host later (lines.Fail block) payload data_in rule = fail_answers rule.0.end rule.0.outcome_is
rule_answers old new before after host later (lines.Wear block n) payload data_in rule = wear_answers rule.0.end rule.0.outcome_is
rule_answers old new before after host later (lines.Cut n fate) payload data_in rule = distinct (replies.Event events.Armed) rule.0.outcome_is
rule_answers old new before after host later lines.Tick payload data_in rule = tick_answers rule.0.out rule.0.outcome_is
rule_answers old new before after host later (lines.Scrub false) payload data_in rule = step_answers rule.end rule.outcome_is
rule_answers old new before after host later (lines.Scrub true) payload data_in rule = pass_answers rule.end (length rule.to.found) rule.outcome_is
rule_answers old new before after host later (lines.Command cdb) payload data_in rule = command_answers cdb rule.answer rule.outcome_is
rule_answers old new before after host later _ payload data_in rule = rule

on_disc_answers : (s : Served) (line : Line) (payload data_in : List ℕ) (t : State) → OnDisc (Disc s) line payload lacks data_in t → ⊥
on_disc_answers s line payload data_in (Unopened bytes) on = on
on_disc_answers s line payload data_in (Disc t) on = rule_answers s.disc.shown t.disc.shown (λ x. x ≡ s.disc.contents) (λ x. x ≡ t.disc.contents) s.host t.host line payload data_in on.rule

-- no line lacks a disc where there is one
pub disc_answers : (s : Served) (line : Line) (payload data_in : List ℕ) (t : State) → Step (Disc s) line payload (Err stopped.NotADisc) data_in t → ⊥
disc_answers s lines.Empty payload data_in t step = distinct replies.Nothing step.0
disc_answers s (lines.Press zones scale psa) payload data_in t step = step.0
disc_answers s line payload data_in t step = on_disc_answers s line payload data_in t step

-- a line that lacks a disc leaves all as it is
pub lacks_same : (s : State) (line : Line) (payload data_in : List ℕ) (t : State) → Step s line payload (Err stopped.NotADisc) data_in t → t ≡ s
lacks_same (Disc s) line payload data_in t step = absurd (disc_answers s line payload data_in t step)
lacks_same (Unopened bytes) lines.Empty payload data_in t step = absurd (distinct replies.Nothing step.0)
lacks_same (Unopened bytes) (lines.Press zones scale psa) payload data_in t step = absurd step.0
lacks_same (Unopened bytes) line payload data_in t step = step.2
