-- Each cut of a run costs one block at most.
use Rattle.std.specs.Prelude.{◌≡◌, ◌≢◌, ◌⊎◌, ◌&&◌, ◌==◌, not, ℕ, ◌+◌, ◌≤◌, if◌then◌else◌, Bool, true, false, is_some, IsSome, MatchBool, Option, Some, None, Result, Ok, Err, List, [], ◌∷◌, ◌++◌, length}
use Rattle.std.specs.List.{Contains}
use Rattle.std.proofs.Common.{arith, refl, sym, ap, ◌∙◌, inl, inr, subst, length-append}
use Rattle.std.proofs.lemmas.List.Elements.{All-head, All-tail, Contains-append_left, Contains-append_right}
use Rattle.model_geometry.specs.Geometry.{Shape, total}
use Rattle.model_medium.specs.Cells.{cell_at}
use Rattle.model_medium.specs.World.{World}
use Rattle.model_medium.specs.Machine.{Machine}
use Rattle.model_places.specs.Places.{Lists}
use Rattle.model_drive.specs.declared.WriteOut.{WriteOut}
use Rattle.model_drive.specs.declared.WriteOut.TheVariants as writes
use Rattle.model_drive.specs.declared.FormatOut.{FormatOut}
use Rattle.model_drive.specs.declared.Kind.TheVariants as kinds
use Rattle.model_drive.specs.Shown.{Shown, IsKnown, IsOn, cells_in}
use Rattle.model_drive.specs.Sound.{IsSound}
use Rattle.model_drive.specs.Parts.{AreSameOrDead}
use Rattle.model_drive.specs.Formats.{FormatCauseBy}
use Rattle.model_costs.specs.Costs.{Lives}
use Rattle.model_costs.proofs.Living.{dies_living, off_living, verify_living, power_living}
use Rattle.model_costs.proofs.Staying.{expand_living, rewrite_living}
use Rattle.model_cache.specs.declared.SyncOut.{SyncOut}
use Rattle.model_cache.specs.declared.SyncOut.TheVariants as syncs
use Rattle.model_cache.specs.declared.TickOut.{TickOut}
use Rattle.model_cache.specs.declared.TickOut.TheVariants as ticks
use Rattle.model_cache.specs.Values.{Contents}
use Rattle.model_cache.specs.Shown.{CacheShown}
use Rattle.model_cache.specs.Causes.{as_write}
use Rattle.model_cache.proofs.Members.{Contains-first}
use Rattle.model_drains.specs.Costing.{CostsAtMost, is_stopped, is_stopped_tick}
use Rattle.model_drains.proofs.Chains.{at_most_one, read_costs, cache_costs, through_costs, sync_costs, tick_costs}
use Rattle.model_scrub.proofs.Chained.{of_step, of_pass}
use Rattle.model_modes.specs.ParameterLists.{caches_after}
use Rattle.model_sense.specs.declared.sense.Sense.{Sense}
use Rattle.model_sense.specs.declared.answer.Answer.{Answer}
use Rattle.model_sense.specs.declared.answer.Answer.TheVariants as answers
use Rattle.model_cdb.specs.declared.commands.Command.{Command}
use Rattle.model_cdb.specs.declared.commands.Command.TheVariants as commands
use Rattle.model_cdb.specs.Decoding.{decoded}
use Rattle.model_target.specs.declared.host.Host.{Host}
use Rattle.model_target.specs.Judging.{IsJudged}
use Rattle.model_target.specs.Steps.{WrittenCause, sync_answer, settle_answer, write_answer, TellsStructure, TellsSpares, IsDone, IsAnsweredBy, IsStep as ExecutesTo}
use Rattle.model_target.proofs.Settling.{Settles, started, selected}
use Rattle.ram_medium.specs.declared.control.FailEnd.{FailEnd}
use Rattle.ram_medium.specs.declared.control.FailEnd.TheVariants as fails
use Rattle.ram_states.specs.Control.{FailOnDrive}
use Rattle.ram_report.specs.declared.printing.Event.TheVariants as told
use Rattle.ram_text.specs.declared.script.Line.{Line}
use Rattle.ram_text.specs.declared.script.Line.TheVariants as lines
use Rattle.ram_machine.specs.declared.reply.Reply.{Reply}
use Rattle.ram_machine.specs.declared.reply.Reply.TheVariants as replies
use Rattle.ram_machine.specs.declared.stopped.Stopped.TheVariants as stopped
use Rattle.ram_machine.specs.Replies.{tick_outcome, command_outcome}
use Rattle.ram_machine.specs.States.{State, Served, Unopened, Disc, renewed}
use Rattle.ram_machine.specs.LineSteps.{DiscRule, OnDisc, Step}
use Rattle.ram_machine.specs.Runs.{IsStep, Run}
use Rattle.ram_machine.specs.Answered.{AnsweredStep}
use Rattle.ram_machine.specs.OnlyTold.{WasOnlyTold}
use Rattle.ram_machine.proofs.Decoded.{asks_for}
use Rattle.ram_machine.proofs.Acknowledged.{not_pressed_by}
use Rattle.ram_machine.proofs.FairRuns.{cells_die, worn_world}
use Rattle.ram_machine.proofs.OnlyTold.{IsUnchangedIn, told_same}
use Rattle.ram_machine.proofs.Scrubbed.{AtMostDies, at_most_dies}
use Rattle.ram_machine.proofs.SoundChains.{contents_known}
use Rattle.ram_survival.specs.Survival.{KeepsAsAsked, KeepsAsDecoded, KeepsDisc}
use Rattle.ram_survival.specs.Living.{LeavesBlockAsAsked, LeavesBlockAsDecoded, LeavesBlock}
use Rattle.ram_survival.specs.Counted.{tells_cut, cuts_told, KeepsBlocks, KeepBlocks, IsFormattedOn, HasLiving}
use Rattle.ram_survival.proofs.FormattedLines.{FormattedOn, line_formatted}
use Rattle.ram_survival.proofs.LivingRuns.{some_lists, by_lists}

-- the command was stopped
abbrev is_stopped_answer : Answer → Bool
is_stopped_answer answers.Cut = true
is_stopped_answer answers.Fault = true
is_stopped_answer _ = false

module _ (old new : CacheShown) (same : new.drive.shape ≡ old.drive.shape) (was_sound : IsSound old.drive) (sound : IsSound new.drive) (was_known : IsKnown old.drive) (is_known : IsKnown new.drive)
    (formatted : FormattedOn old.drive) (before after : Contents → Type 0) where
  none : (stopped : Bool) → CostsAtMost false old.drive new.drive → CostsAtMost stopped old.drive new.drive
  none stopped costs = at_most_one stopped old.drive new.drive costs

  untouched : new ≡ old → CostsAtMost false old.drive new.drive
  untouched is = λ i lives. subst (λ (s : CacheShown). Lives s.drive i) (sym is) lives

  dying : (new.drive.lists ≡ old.drive.lists) ⊎ (new.drive.lists ≡ None) → AreSameOrDead (cells_in old.drive) (cells_in new.drive) → CostsAtMost false old.drive new.drive
  dying (inl kept) dies = λ i lives. dies_living i old.drive new.drive same kept dies lives
  dying (inr gone) dies = λ i lives. off_living i old.drive new.drive same gone dies lives

  at_most : AtMostDies old.drive new.drive → CostsAtMost false old.drive new.drive
  at_most p = dying (elim p.lists [ inl kept_lists ↦ inl kept_lists | inr off ↦ inr off.0 ]) p.dies

  failed : (block : ℕ) (end : FailEnd) → FailOnDrive old.drive new.drive block end → CostsAtMost false old.drive new.drive
  failed block fails.Done p = dying (inl p.1.same_lists) (cells_die (total old.drive.shape) old.drive.medium new.drive.medium block fails.Done p.0)
  failed block (fails.NoBlock blocks) p = dying (inl p.1.same_lists) (cells_die (total old.drive.shape) old.drive.medium new.drive.medium block (fails.NoBlock blocks) p.0)
  failed block fails.Failed p = dying (inr p.1.no_lists) (cells_die (total old.drive.shape) old.drive.medium new.drive.medium block fails.Failed p.0)

  still : new.drive.lists ≡ old.drive.lists → new.drive.medium.world ≡ old.drive.medium.world → CostsAtMost false old.drive new.drive
  still lists world = dying (inl lists) (λ block. inl (ap (λ (w : World). cell_at w.cells block) world))

  -- ---- commands

  written : (lba n : ℕ) (fua : Bool) (bytes : List ℕ) (out : WriteOut) → WrittenCause old new lba n bytes fua out → CostsAtMost (is_stopped out) old.drive new.drive
  written lba n true bytes out cause = through_costs lba n old new out was_sound was_known cause
  written lba n false bytes out cause = cache_costs lba n old new bytes out was_sound was_known cause

  write_stops : (out : WriteOut) → is_stopped out ≡ is_stopped_answer (write_answer out)
  write_stops writes.Good = refl
  write_stops writes.NotFormatted = refl
  write_stops (writes.Range known) = refl
  write_stops (writes.Unread named block) = refl
  write_stops (writes.NoSpare lba) = refl
  write_stops (writes.NoUpdate counter) = refl
  write_stops writes.Cut = refl
  write_stops writes.Off = refl
  write_stops writes.Fault = refl

  sync_stops : (out : SyncOut) → is_stopped (as_write out) ≡ is_stopped_answer (sync_answer out)
  sync_stops syncs.Good = refl
  sync_stops syncs.NotFormatted = refl
  sync_stops (syncs.NoSpare lba) = refl
  sync_stops (syncs.NoUpdate counter) = refl
  sync_stops syncs.Cut = refl
  sync_stops syncs.Off = refl
  sync_stops syncs.Fault = refl

  settle_stops : (out : SyncOut) → is_stopped (as_write out) ≡ is_stopped_answer (settle_answer out)
  settle_stops syncs.Good = refl
  settle_stops syncs.NotFormatted = refl
  settle_stops (syncs.NoSpare lba) = refl
  settle_stops (syncs.NoUpdate counter) = refl
  settle_stops syncs.Cut = refl
  settle_stops syncs.Off = refl
  settle_stops syncs.Fault = refl

  settled : (answer : Answer) (data_in : List ℕ) → Settles old new before after answer data_in → CostsAtMost (is_stopped_answer answer) old.drive new.drive
  settled answer data_in p =
      subst (λ (b : Bool). CostsAtMost b old.drive new.drive) (settle_stops p.out ∙ ap is_stopped_answer (sym p.answer_is))
      (subst (CostsAtMost (is_stopped (as_write p.out)) old.drive) (sym p.same_drive) (sync_costs old p.mid was_sound was_known p.out p.cause))

  rewritten : IsOn old.drive → (out : FormatOut) → FormatCauseBy old.drive new.drive old.drive.lists kinds.Rewrite out → CostsAtMost false old.drive new.drive
  rewritten on out cause =
      let found = some_lists old.drive.lists (formatted on) in
      λ i lives. rewrite_living i old.drive new.drive same was_sound sound was_known is_known lives found.0 found.1 out (by_lists old.drive new.drive old.drive.lists found.0 out found.1 cause)

  tells : (structure : Bool) (alloc : ℕ) (answer : Answer) (data_in : List ℕ)
      → MatchBool structure (TellsStructure old new before after alloc answer data_in) (TellsSpares old new before after alloc answer data_in) → CostsAtMost false old.drive new.drive
  tells true alloc answer data_in p = untouched p.is_answered.untouched.same
  tells false alloc answer data_in p = untouched p.untouched.same

  done : IsOn old.drive → (host : Host) (payload : List ℕ) (command : Command) (answer : Answer) (data_in : List ℕ) → KeepsAsAsked command → IsDone old new before after host payload command answer data_in
      → CostsAtMost (is_stopped_answer answer) old.drive new.drive
  done on host payload (commands.Format (kinds.Full drop_sdl)) answer data_in keeps p = absurd keeps
  done on host payload (commands.Format kinds.Rewrite) answer data_in keeps p = none (is_stopped_answer answer) (rewritten on p.out p.cause.0)
  done on host payload (commands.Expand sectors) answer data_in keeps p =
      none (is_stopped_answer answer) (λ i lives. expand_living i old.drive new.drive same was_sound sound was_known is_known lives sectors p.out p.cause.0)
  done on host payload (commands.Read lba n) answer data_in keeps p = none (is_stopped_answer answer) (read_costs lba n old new p.out was_sound was_known p.cause)
  done on host payload (commands.Write lba n fua) answer data_in keeps p =
      subst (λ (b : Bool). CostsAtMost b old.drive new.drive) (write_stops p.out ∙ ap is_stopped_answer (sym p.answer_is)) (written lba n fua payload p.out p.cause)
  done on host payload (commands.Verify lba n) answer data_in keeps p =
      none (is_stopped_answer answer) (λ i lives. verify_living i old.drive new.drive same sound is_known lba n p.out lives p.cause.0)
  done on host payload commands.Synchronize answer data_in keeps p =
      subst (λ (b : Bool). CostsAtMost b old.drive new.drive) (sync_stops p.out ∙ ap is_stopped_answer (sym p.answer_is)) (sync_costs old new was_sound was_known p.out p.cause)
  done on host payload (commands.StartStop start eject) answer data_in keeps p =
      elim (started old new before after (eject && not start) answer data_in p) [ inl settles ↦ settled answer data_in settles | inr q ↦ none (is_stopped_answer answer) (untouched q.untouched.same) ]
  done on host payload commands.ModeSelect answer data_in keeps p =
      elim (selected old new before after (old.caches && not (caches_after payload old.caches)) payload answer data_in p) [
        | inl settles ↦ settled answer data_in settles
        | inr q ↦ none (is_stopped_answer answer) (λ i lives. subst (λ (s : CacheShown). Lives s.drive i) (sym q.mode) lives)
      ]
  done on host payload (commands.Structure format alloc) answer data_in keeps p = none (is_stopped_answer answer) (tells (format == 0x08) alloc answer data_in p)
  done on host payload command answer data_in keeps p = none (is_stopped_answer answer) (untouched p.untouched.same)

  judged : IsOn old.drive → (host : Host) (is_formatted : Bool) (cdb payload : List ℕ) (result : Result Command Sense) (answer : Answer) (data_in : List ℕ) → IsJudged host is_formatted cdb payload result
      → IsAnsweredBy old new before after host payload result answer data_in → KeepsAsDecoded (decoded cdb payload) → CostsAtMost (is_stopped_answer answer) old.drive new.drive
  judged on host is_formatted cdb payload (Err why) answer data_in is p keeps = none (is_stopped_answer answer) (untouched p.untouched.same)
  judged on host is_formatted cdb payload (Ok command) answer data_in is p keeps =
      done on host payload command answer data_in (subst KeepsAsDecoded (asks_for host is_formatted cdb payload command is) keeps) p

  command_costs : (host later : Host) (cdb payload : List ℕ) (answer : Answer) (data_in : List ℕ) → ExecutesTo old new before after host later cdb payload answer data_in → KeepsAsDecoded (decoded cdb payload)
      → CostsAtMost (is_stopped_answer answer) old.drive new.drive
  command_costs host later cdb payload answer data_in (inl off) keeps = none (is_stopped_answer answer) (untouched off.1.is_answered.untouched.same)
  command_costs host later cdb payload answer data_in (inr on) keeps =
      judged on.0 host (is_some old.drive.lists) cdb payload on.1.judged answer data_in on.1.is_judged on.1.is_answered keeps

  -- ---- lines

  command_told : (cdb : List ℕ) (reply : Reply) (answer : Answer) → Ok reply ≡ command_outcome cdb answer → is_stopped_answer answer ≡ tells_cut reply
  command_told cdb reply answers.Good is = (let same : reply ≡ replies.Command cdb answers.Good = cc in sym (ap tells_cut same))
  command_told cdb reply (answers.Check why) is = (let same : reply ≡ replies.Command cdb (answers.Check why) = cc in sym (ap tells_cut same))
  command_told cdb reply answers.Cut is = (let same : reply ≡ replies.Command cdb answers.Cut = cc in sym (ap tells_cut same))
  command_told cdb reply answers.Off is = (let same : reply ≡ replies.Command cdb answers.Off = cc in sym (ap tells_cut same))
  command_told cdb reply answers.Fault is = absurd cc

  tick_told : (reply : Reply) (out : TickOut) → Ok reply ≡ tick_outcome out → is_stopped_tick out ≡ tells_cut reply
  tick_told reply ticks.Idle is = (let same : reply ≡ replies.Event told.Idle = cc in sym (ap tells_cut same))
  tick_told reply (ticks.Written lba) is = (let same : reply ≡ replies.Event (told.Written lba) = cc in sym (ap tells_cut same))
  tick_told reply (ticks.NoSpare lba) is = (let same : reply ≡ replies.Event (told.NoSpare lba) = cc in sym (ap tells_cut same))
  tick_told reply (ticks.NoUpdate counter) is = (let same : reply ≡ replies.Event told.NoUpdate = cc in sym (ap tells_cut same))
  tick_told reply ticks.Cut is = (let same : reply ≡ replies.Event told.Cut = cc in sym (ap tells_cut same))
  tick_told reply ticks.Off is = (let same : reply ≡ replies.Event told.Off = cc in sym (ap tells_cut same))
  tick_told reply ticks.Fault is = absurd cc

  line_costs : (host later : Host) (line : Line) (payload : List ℕ) (reply : Reply) (data_in : List ℕ) → DiscRule old new before after host later line payload (Ok reply) data_in → KeepsBlocks line payload reply
      → CostsAtMost (tells_cut reply) old.drive new.drive
  line_costs host later lines.Power payload reply data_in p keeps =
      none (tells_cut reply) (λ i lives. power_living i old.drive new.drive same sound is_known was_known lives p.0.out p.0.powered.cause.0)
  line_costs host later (lines.Fail block) payload reply data_in p keeps = none (tells_cut reply) (failed block p.0.end p.0.rule)
  line_costs host later (lines.Wear block n) payload reply data_in p keeps =
      none (tells_cut reply) (still p.0.keeps.memory.same_lists (worn_world _ old.drive.medium new.drive.medium (record { block = block; left = n }) p.0.end p.0.rule))
  line_costs host later (lines.Cut n fate) payload reply data_in p keeps = none (tells_cut reply) (still p.0.keeps.memory.same_lists (ap (λ (m : Machine). m.world) p.0.armed))
  line_costs host later lines.Tick payload reply data_in p keeps =
      subst (λ (b : Bool). CostsAtMost b old.drive new.drive) (tick_told reply p.0.out p.0.outcome_is) (tick_costs old new was_sound was_known p.0.out p.0.cause)
  line_costs host later (lines.Scrub false) payload reply data_in p keeps =
      none (tells_cut reply) (at_most (of_step (λ faulted a b. AtMostDies a.drive b.drive) at_most_dies old new p.from p.to p.end p.rule))
  line_costs host later (lines.Scrub true) payload reply data_in p keeps =
      none (tells_cut reply) (at_most (of_pass (λ faulted a b. AtMostDies a.drive b.drive) at_most_dies old new p.from p.to p.end p.rule))
  line_costs host later (lines.Command cdb) payload reply data_in p keeps =
      subst (λ (b : Bool). CostsAtMost b old.drive new.drive) (command_told cdb reply p.answer p.outcome_is) (command_costs host later cdb payload p.answer data_in p.step keeps)
  line_costs host later _ payload reply data_in p keeps = absurd p

-- ---- some block that the line leaves, so that the disc stays formatted

far_asked : (command : Command) → KeepsAsAsked command → (i : ℕ) × LeavesBlockAsAsked i command
far_asked (commands.Write lba n fua) keeps = (lba + n, inr (omega arith))
far_asked (commands.Format (kinds.Full drop_sdl)) keeps = absurd keeps
far_asked (commands.Format kinds.Rewrite) keeps = (0, tt)
far_asked command keeps = (0, tt)

far_decoded : (asked : Result Command Sense) → KeepsAsDecoded asked → (i : ℕ) × LeavesBlockAsDecoded i asked
far_decoded (Ok command) keeps = far_asked command keeps
far_decoded (Err why) keeps = (0, tt)

far : (line : Line) (payload : List ℕ) (reply : Reply) → KeepsBlocks line payload reply → (i : ℕ) × LeavesBlock i line payload (Ok reply)
far lines.Power payload reply keeps = (0, λ is. keeps (let same : reply ≡ replies.Event told.NotFormatted = cc in same))
far (lines.Press zones scale psa) payload reply keeps = (0, keeps)
far (lines.Command cdb) payload reply keeps = far_decoded (decoded cdb payload) keeps
far line payload reply keeps = (0, tt)

-- ---- states

-- what a line leaves of a state: its disc is formatted while the power is on, and so many blocks are lost
record Counted (cut : Bool) (s t : State) : Type 0 where
  formatted : IsFormattedOn t
  costs : List ℕ
  few : length costs ≤ (if cut then 1 else 0)
  lives : (i : ℕ) → ¬ Contains costs i → HasLiving s i → HasLiving t i

by_cost : (cut : Bool) (s t : Served) → IsFormattedOn (Disc t) → CostsAtMost cut s.disc.shown.drive t.disc.shown.drive → Counted cut (Disc s) (Disc t)
by_cost false s t formatted costs = record { formatted = formatted; costs = []; few = omega arith; lives = λ i away lives. costs i lives }
by_cost true s t formatted costs = record {
  formatted = formatted;
  costs = costs.0 ∷ [];
  few = omega arith;
  lives = λ i away lives. costs.1 i (λ same. away (subst (Contains (costs.0 ∷ [])) (sym same) (Contains-first costs.0 []))) lives;
}

stays : (cut : Bool) (s u t : State) → t ≡ u → IsFormattedOn u → ((i : ℕ) → HasLiving s i → HasLiving u i) → Counted cut s t
stays cut s u t is formatted same = record {
  formatted = subst IsFormattedOn (sym is) formatted;
  costs = [];
  few = omega arith;
  lives = λ i away lives. subst (λ (x : State). HasLiving x i) (sym is) (same i lives);
}

on_disc : (s : Served) (t : State) (line : Line) (payload : List ℕ) (reply : Reply) (data_in : List ℕ) → OnDisc (Disc s) line payload (Ok reply) data_in t → KeepsBlocks line payload reply → IsFormattedOn (Disc s)
    → Counted (tells_cut reply) (Disc s) t
on_disc s (Unopened image) line payload reply data_in step keeps formatted = absurd step
on_disc s (Disc t) line payload reply data_in step keeps formatted =
    let some = far line payload reply keeps in
    by_cost (tells_cut reply) s t
    (line_formatted some.0 s.disc.shown t.disc.shown formatted (λ x. x ≡ s.disc.contents) (λ x. x ≡ t.disc.contents) s.host t.host line payload (Ok reply) data_in step.rule some.1)
    (line_costs s.disc.shown t.disc.shown step.same_shape s.disc.sound t.disc.sound (contents_known s.disc.shown s.disc.contents s.disc.stands) (contents_known t.disc.shown t.disc.contents t.disc.stands) formatted
    (λ x. x ≡ s.disc.contents) (λ x. x ≡ t.disc.contents) s.host t.host line payload reply data_in step.rule keeps)

step_counted : (s t : State) (line : Line) (payload data_in : List ℕ) (reply : Reply) → Step s line payload (Ok reply) data_in t → KeepsBlocks line payload reply → IsFormattedOn s → Counted (tells_cut reply) s t
step_counted (Unopened image) t line payload data_in reply step keeps formatted = absurd formatted
step_counted (Disc s) t lines.Empty payload data_in reply step keeps formatted = stays (tells_cut reply) (Disc s) (Disc s) t step.2 formatted (λ i lives. lives)
step_counted (Disc s) t (lines.Press zones scale psa) payload data_in reply step keeps formatted =
    stays (tells_cut reply) (Disc s) (renewed (Disc s)) t (not_pressed_by (Disc s) t zones scale psa (Ok reply) step.0 keeps) formatted (λ i lives. lives)
step_counted (Disc s) t line payload data_in reply step keeps formatted = on_disc s t line payload reply data_in step keeps formatted

told_counted : (cut : Bool) (s t : State) → IsUnchangedIn s t → IsFormattedOn s → Counted cut s t
told_counted cut (Unopened image) t is formatted = absurd formatted
told_counted cut (Disc s) (Unopened image) is formatted = absurd is
told_counted cut (Disc s) (Disc t) is formatted = record {
  formatted = subst FormattedOn (sym is.same_drive) formatted;
  costs = [];
  few = omega arith;
  lives = λ i away lives. subst (λ (x : Shown). Lives x i) (sym is.same_drive) lives;
}

abbrev Keeps : AnsweredStep → Type 0
Keeps event = WasOnlyTold event.reply ⊎ KeepsBlocks event.line event.payload event.reply

event_counted : (s t : State) (event : AnsweredStep) → IsStep s event t → Keeps event → IsFormattedOn s → Counted (tells_cut event.reply) s t
event_counted s t event step (inl only) formatted = told_counted (tells_cut event.reply) s t (told_same s t event.line event.payload event.data_in event.reply step only) formatted
event_counted s t event step (inr keeps) formatted = step_counted s t event.line event.payload event.data_in event.reply step keeps formatted

-- what a run leaves
record CountedRun (events : List AnsweredStep) (s t : State) : Type 0 where
  formatted : IsFormattedOn t
  costs : List ℕ
  few : length costs ≤ cuts_told events
  lives : (i : ℕ) → ¬ Contains costs i → HasLiving s i → HasLiving t i

run_counted : (s t : State) (events : List AnsweredStep) → Run s events t → KeepBlocks events → IsFormattedOn s → CountedRun events s t
run_counted s t [] run keep formatted = record {
  formatted = subst IsFormattedOn (sym run) formatted;
  costs = [];
  few = omega arith;
  lives = λ i away lives. subst (λ (x : State). HasLiving x i) (sym run) lives;
}
run_counted s t (event ∷ events) run keep formatted =
    let before = run_counted s run.0 events run.1 (All-tail Keeps event events keep) formatted in
    let last = event_counted run.0 t event run.2 (All-head Keeps event events keep) before.formatted in
    record {
      formatted = last.formatted;
      costs = last.costs ++ before.costs;
      few = (let a = last.few in let b = before.few in let long = length-append last.costs before.costs in omega (arith, a, b, long));
      lives = λ i away lives. last.lives i (λ has. away (Contains-append_left last.costs before.costs i has)) (before.lives i (λ has. away (Contains-append_right last.costs before.costs i has)) lives);
    }

pub run_costs : (s t : State) (events : List AnsweredStep) → Run s events t → KeepBlocks events → IsFormattedOn s
    → (costs : List ℕ) × (length costs ≤ cuts_told events) × ((i : ℕ) → ¬ Contains costs i → HasLiving s i → HasLiving t i)
run_costs s t events run keep formatted = let counted = run_counted s t events run keep formatted in (counted.costs, counted.few, counted.lives)
