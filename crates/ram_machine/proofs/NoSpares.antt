-- Where a line is told that no spare is left, none is.
use Rattle.std.specs.Prelude.{◌≡◌, ℕ, Ok, Err, List}
use Rattle.std.proofs.Common.{inl, inr, sym, ap, subst}
use Rattle.model_cache.specs.declared.TickOut.{TickOut}
use Rattle.model_cache.specs.declared.TickOut.TheVariants as ticks
use Rattle.model_cache.specs.Causes.{TickCause}
use Rattle.model_cache.proofs.Lacking.{tick_lacks}
use Rattle.ram_report.specs.declared.printing.Event.TheVariants as events
use Rattle.model_sectors.specs.Requests.{block_with}
use Rattle.model_fairness.proofs.Calls.{none_left}
use Rattle.model_target.proofs.Sensed.{step_lacks}
use Rattle.model_sense.specs.Sense.{sense_at}
use Rattle.model_sense.specs.declared.sense.Sense.{Sense}
use Rattle.model_sense.specs.declared.answer.Answer.{Answer}
use Rattle.model_sense.specs.declared.answer.Answer.TheVariants as answers
use Rattle.model_target.specs.Steps.{IsStep as ExecutesTo}
use Rattle.ram_text.specs.declared.script.Line.{Line}
use Rattle.ram_text.specs.declared.script.Line.TheVariants as lines
use Rattle.ram_machine.specs.declared.reply.Reply.{Reply}
use Rattle.ram_machine.specs.declared.reply.Reply.TheVariants as replies
use Rattle.ram_machine.specs.declared.stopped.Stopped.TheVariants as stopped
use Rattle.ram_machine.specs.Replies.{tick_outcome, command_outcome}
use Rattle.ram_machine.specs.States.{State, Unopened, Disc}
use Rattle.ram_machine.specs.LineSteps.{OnDisc, Step}
use Rattle.ram_machine.specs.Runs.{IsStep}
use Rattle.ram_machine.specs.Answered.{AnsweredStep}
use Rattle.ram_machine.specs.Fairness.{FairNow, WasToldNoSpare, HasNoSpareLeft}
use Rattle.ram_machine.proofs.FairRuns.{step_fair}

-- the answer that tells it
pub checked_outcome : (cdb : List ℕ) (why : Sense) (answer : Answer) → Ok (replies.Command cdb (answers.Check why)) ≡ command_outcome cdb answer → answer ≡ answers.Check why
checked_outcome cdb why answers.Good is = absurd cc
checked_outcome cdb why (answers.Check other) is = cc
checked_outcome cdb why answers.Cut is = absurd cc
checked_outcome cdb why answers.Off is = absurd cc
checked_outcome cdb why answers.Fault is = absurd cc

no_disc : (reply : Reply) → Ok reply ≡ Err stopped.NotADisc → ⊥
no_disc reply is = cc

on_disc : (s t : State) (cdb payload data_in : List ℕ) (named : ℕ) → FairNow t → OnDisc s (lines.Command cdb) payload (Ok (replies.Command cdb (answers.Check (sense_at 0x3 0x32 0x00 named)))) data_in t → HasNoSpareLeft t named
on_disc (Unopened image) t cdb payload data_in named fair step = absurd (no_disc (replies.Command cdb (answers.Check (sense_at 0x3 0x32 0x00 named))) step.0)
on_disc (Disc s) (Unopened image) cdb payload data_in named fair step = absurd step
on_disc (Disc s) (Disc t) cdb payload data_in named fair step =
    let lacks = step_lacks s.disc.shown t.disc.shown (λ x. x ≡ s.disc.contents) (λ x. x ≡ t.disc.contents) s.host t.host cdb payload data_in named
    (subst (λ (a : Answer). ExecutesTo s.disc.shown t.disc.shown (λ x. x ≡ s.disc.contents) (λ x. x ≡ t.disc.contents) s.host t.host cdb payload a data_in)
    (checked_outcome cdb (sense_at 0x3 0x32 0x00 named) step.rule.answer step.rule.outcome_is) step.rule.step) in
    λ lists is spare has replaces. none_left t.disc.shown.drive (block_with named) lists fair lacks.none is spare has replaces

-- the same of a tick
told_by_tick : (named : ℕ) (out : TickOut) → Ok (replies.Event (events.NoSpare named)) ≡ tick_outcome out → out ≡ ticks.NoSpare named
told_by_tick named ticks.Idle is = absurd cc
told_by_tick named (ticks.Written lba) is = absurd cc
told_by_tick named (ticks.NoSpare lba) is = ap ticks.NoSpare (let same : events.NoSpare named ≡ events.NoSpare lba = cc in let e : named ≡ lba = cc in sym e)
told_by_tick named (ticks.NoUpdate counter) is = absurd cc
told_by_tick named ticks.Cut is = absurd cc
told_by_tick named ticks.Off is = absurd cc
told_by_tick named ticks.Fault is = absurd cc

tick_on_disc : (s t : State) (payload data_in : List ℕ) (named : ℕ) → FairNow t → OnDisc s lines.Tick payload (Ok (replies.Event (events.NoSpare named))) data_in t → HasNoSpareLeft t named
tick_on_disc (Unopened image) t payload data_in named fair step = absurd (no_disc (replies.Event (events.NoSpare named)) step.0)
tick_on_disc (Disc s) (Unopened image) payload data_in named fair step = absurd step
tick_on_disc (Disc s) (Disc t) payload data_in named fair step =
    let tick = step.rule.0 in
    let lacks = tick_lacks s.disc.shown t.disc.shown named (subst (λ (o : TickOut). TickCause s.disc.shown t.disc.shown o) (told_by_tick named tick.out tick.outcome_is) tick.cause) in
    λ lists is spare has replaces. none_left t.disc.shown.drive (block_with named) lists fair lacks.none is spare has replaces

pub none_left_now : (s t : State) (event : AnsweredStep) → FairNow s → IsStep s event t → (named : ℕ) → WasToldNoSpare event named → HasNoSpareLeft t named
none_left_now s t event fair step named (inl told) =
    on_disc s t told.cdb event.payload event.data_in named (step_fair s t event.line event.payload event.data_in (Ok event.reply) step fair)
    (subst (λ (l : Line). Step s l event.payload (Ok (replies.Command told.cdb (answers.Check (sense_at 0x3 0x32 0x00 named)))) event.data_in t) told.line_is
    (subst (λ (r : Reply). Step s event.line event.payload (Ok r) event.data_in t) told.reply_is step))
none_left_now s t event fair step named (inr told) =
    tick_on_disc s t event.payload event.data_in named (step_fair s t event.line event.payload event.data_in (Ok event.reply) step fair)
    (subst (λ (l : Line). Step s l event.payload (Ok (replies.Event (events.NoSpare named))) event.data_in t) told.line_is
    (subst (λ (r : Reply). Step s event.line event.payload (Ok r) event.data_in t) told.reply_is step))
