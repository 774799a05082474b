-- With the power on a disc stays formatted over each line but a press, a full format, and a `power` line that found it not formatted.
use Rattle.std.specs.Prelude.{◌&&◌, not, ◌≡◌, ℕ, ◌==◌, Bool, true, false, is_some, IsSome, IsTrue, MatchBool, Option, Some, None, Result, Ok, Err, List}
use Rattle.std.proofs.Common.{refl, sym, ap, inl, inr, subst}
use Rattle.std.proofs.lemmas.Bool.{true≢false}
use Rattle.model_medium.specs.World.{World}
use Rattle.model_medium.specs.Machine.{Machine}
use Rattle.model_stops.specs.declared.Stop.TheVariants as stops
use Rattle.model_sectors.specs.declared.ReadOut.{ReadOut}
use Rattle.model_sectors.specs.declared.ReadOut.TheVariants as reads
use Rattle.model_sectors.specs.declared.PowerOut.{PowerOut}
use Rattle.model_sectors.specs.declared.PowerOut.TheVariants as powers
use Rattle.model_places.specs.Places.{Lists}
use Rattle.model_drive.specs.declared.WriteOut.{WriteOut}
use Rattle.model_drive.specs.declared.WriteOut.TheVariants as writes
use Rattle.model_drive.specs.declared.FormatOut.{FormatOut}
use Rattle.model_drive.specs.declared.FormatOut.TheVariants as formats
use Rattle.model_drive.specs.declared.ExpandOut.{ExpandOut}
use Rattle.model_drive.specs.declared.ExpandOut.TheVariants as expands
use Rattle.model_drive.specs.declared.Kind.TheVariants as kinds
use Rattle.model_drive.specs.Shown.{Shown, IsOn, IsFormatted}
use Rattle.model_drive.specs.Reads.{ReadCause, VerifyCause}
use Rattle.model_drive.specs.Writes.{WriteCause}
use Rattle.model_drive.specs.Expands.{ExpandCause}
use Rattle.model_drive.specs.Rewriting.{RewriteCause}
use Rattle.model_drive.specs.Formats.{FormatCauseBy}
use Rattle.model_drive.specs.Power.{PowerCause}
use Rattle.model_drive.proofs.Ends.{stop_off}
use Rattle.model_cache.specs.Values.{Contents}
use Rattle.model_cache.specs.Shown.{CacheShown}
use Rattle.model_cache.proofs.Chained.{HoldsOfChains, of_read, of_write, of_through, of_sync, of_tick}
use Rattle.model_scrub.proofs.Chained.{of_step, of_pass}
use Rattle.model_sense.specs.declared.sense.Sense.{Sense}
use Rattle.model_sense.specs.declared.answer.Answer.{Answer}
use Rattle.model_cdb.specs.declared.commands.Command.{Command}
use Rattle.model_cdb.specs.declared.commands.Command.TheVariants as commands
use Rattle.model_cdb.specs.Decoding.{decoded}
use Rattle.model_target.specs.declared.host.Host.{Host}
use Rattle.model_target.specs.Judging.{IsJudged}
use Rattle.model_target.specs.Steps.{WrittenCause, TellsStructure, TellsSpares, IsDone, IsAnsweredBy, IsStep as ExecutesTo}
use Rattle.model_modes.specs.ParameterLists.{caches_after}
use Rattle.model_target.proofs.Settling.{Settles, started, selected}
use Rattle.ram_medium.specs.declared.control.FailEnd.{FailEnd}
use Rattle.ram_medium.specs.declared.control.FailEnd.TheVariants as fails
use Rattle.ram_states.specs.Control.{FailOnDrive}
use Rattle.ram_report.specs.declared.printing.Event.TheVariants as events
use Rattle.ram_text.specs.declared.script.Line.{Line}
use Rattle.ram_text.specs.declared.script.Line.TheVariants as lines
use Rattle.ram_machine.specs.declared.reply.Reply.TheVariants as replies
use Rattle.ram_machine.specs.Replies.{Outcome, power_outcome}
use Rattle.ram_machine.specs.LineSteps.{DiscRule}
use Rattle.ram_machine.proofs.Decoded.{asks_for}
use Rattle.ram_machine.proofs.Scrubbed.{AtMostDies, at_most_dies}
use Rattle.ram_machine.proofs.FairRuns.{worn_world}
use Rattle.ram_survival.specs.Living.{LeavesBlockAsAsked, LeavesBlockAsDecoded, LeavesBlock}

abbrev pub FormattedOn : Shown → Type 0
FormattedOn shown = IsOn shown → IsFormatted shown

module _ (old new : Shown) (was : FormattedOn old) where
  same_formatted : new ≡ old → FormattedOn new
  same_formatted is = subst FormattedOn (sym is) was

  kept_formatted : IsOn old → new.lists ≡ old.lists → FormattedOn new
  kept_formatted on same = λ _. subst IsSome (sym same) (was on)

  some_formatted : (lists : Lists) → new.lists ≡ Some lists → FormattedOn new
  some_formatted lists is = λ _. subst IsSome (sym is) refl

  off_formatted : ¬ IsOn new → FormattedOn new
  off_formatted off = λ on. absurd (off on)

  -- ---- the calls of a disc

  read_formatted : (lba n : ℕ) (out : ReadOut) → ReadCause old new lba n out → FormattedOn new
  read_formatted lba n reads.Good cause = kept_formatted cause.inside.on cause.keeps.same_lists
  read_formatted lba n reads.NotFormatted cause = same_formatted cause.nothing
  read_formatted lba n (reads.Range known) cause = same_formatted cause.nothing
  read_formatted lba n (reads.Unread named block) cause = kept_formatted cause.inside.on cause.keeps.same_lists
  read_formatted lba n reads.Cut cause = off_formatted (stop_off old.medium new.medium _ stops.Cut cause.stopped.stops)
  read_formatted lba n reads.Off cause = same_formatted cause.nothing
  read_formatted lba n reads.Fault cause = off_formatted (stop_off old.medium new.medium _ stops.Fault cause.stopped.stops)

  verify_formatted : (lba n : ℕ) (out : ReadOut) → VerifyCause old new lba n out → FormattedOn new
  verify_formatted lba n reads.Good cause = kept_formatted cause.inside.on cause.keeps.same_lists
  verify_formatted lba n reads.NotFormatted cause = same_formatted cause.nothing
  verify_formatted lba n (reads.Range known) cause = same_formatted cause.nothing
  verify_formatted lba n (reads.Unread named block) cause = kept_formatted cause.inside.on cause.keeps.same_lists
  verify_formatted lba n reads.Cut cause = off_formatted (stop_off old.medium new.medium _ stops.Cut cause.stopped.stops)
  verify_formatted lba n reads.Off cause = same_formatted cause.nothing
  verify_formatted lba n reads.Fault cause = off_formatted (stop_off old.medium new.medium _ stops.Fault cause.stopped.stops)

  write_formatted : (lba n : ℕ) (out : WriteOut) → WriteCause old new lba n out → FormattedOn new
  write_formatted lba n writes.Good cause = some_formatted cause.reached cause.ends.now_in_use
  write_formatted lba n writes.NotFormatted cause = same_formatted cause.nothing
  write_formatted lba n (writes.Range known) cause = same_formatted cause.nothing
  write_formatted lba n (writes.Unread named block) cause = some_formatted cause.reached cause.ends.now_in_use
  write_formatted lba n (writes.NoSpare named) cause = some_formatted cause.reached cause.ends.now_in_use
  write_formatted lba n (writes.NoUpdate counter) cause = some_formatted cause.reached cause.ends.now_in_use
  write_formatted lba n writes.Cut cause = off_formatted (stop_off old.medium new.medium _ stops.Cut cause.stopped.stops)
  write_formatted lba n writes.Off cause = same_formatted cause.nothing
  write_formatted lba n writes.Fault cause = off_formatted (stop_off old.medium new.medium _ stops.Fault cause.stopped.stops)

  expand_formatted : (sectors : ℕ) (out : ExpandOut) → ExpandCause old new sectors out → FormattedOn new
  expand_formatted sectors expands.Good (inl stays) = kept_formatted stays.any.was_on stays.keeps.same_lists
  expand_formatted sectors expands.Good (inr grows) = some_formatted _ grows.now_in_use
  expand_formatted sectors expands.NotFormatted cause = same_formatted cause.nothing
  expand_formatted sectors (expands.Refused known) cause = same_formatted cause.nothing
  expand_formatted sectors (expands.NoUpdate counter) cause = kept_formatted cause.any.was_on cause.keeps.same_lists
  expand_formatted sectors expands.Cut cause = off_formatted (stop_off old.medium new.medium _ stops.Cut cause.stopped.stops)
  expand_formatted sectors expands.Off cause = same_formatted cause.nothing
  expand_formatted sectors expands.Fault cause = off_formatted (stop_off old.medium new.medium _ stops.Fault cause.stopped.stops)

  rewrite_formatted : (lists : Lists) (out : FormatOut) → RewriteCause old new lists out → FormattedOn new
  rewrite_formatted lists formats.Good cause = kept_formatted cause.both.was_on cause.both.keeps.same_lists
  rewrite_formatted lists (formats.TooMany found) cause = absurd cause
  rewrite_formatted lists (formats.NoUpdate counter) cause = kept_formatted cause.both.was_on cause.both.keeps.same_lists
  rewrite_formatted lists formats.Cut cause = off_formatted (stop_off old.medium new.medium _ stops.Cut cause.stopped.stops)
  rewrite_formatted lists formats.Off cause = same_formatted cause.nothing
  rewrite_formatted lists formats.Fault cause = off_formatted (stop_off old.medium new.medium _ stops.Fault cause.stopped.stops)

  -- while the power is on there are lists
  format_formatted : IsOn old → (lists : Option Lists) → old.lists ≡ lists → (out : FormatOut) → FormatCauseBy old new lists kinds.Rewrite out → FormattedOn new
  format_formatted on None is out cause = absurd (true≢false (sym (subst IsSome is (was on))))
  format_formatted on (Some lists) is out cause = rewrite_formatted lists out cause

  power_formatted : (out : PowerOut) (outcome : Outcome) → outcome ≡ power_outcome out → ¬ (outcome ≡ Ok (replies.Event events.NotFormatted)) → PowerCause old new out → FormattedOn new
  power_formatted (powers.Ready known) outcome is found cause = some_formatted cause.lists cause.in_use
  power_formatted powers.NotFormatted outcome is found cause = absurd (found is)
  power_formatted powers.Cut outcome is found cause = off_formatted (stop_off _ _ _ stops.Cut cause.stopped.stops)
  power_formatted powers.Fault outcome is found cause = off_formatted (stop_off _ _ _ stops.Fault cause.stopped.stops)

  fail_formatted : (block : ℕ) (end : FailEnd) → FailOnDrive old new block end → FormattedOn new
  fail_formatted block fails.Done p = λ on. subst IsSome (sym p.1.same_lists) (was (subst (λ (m : Machine). IsTrue m.world.power) p.0.1 on))
  fail_formatted block (fails.NoBlock blocks) p = λ on. subst IsSome (sym p.1.same_lists) (was (subst (λ (m : Machine). IsTrue m.world.power) p.0.2 on))
  fail_formatted block fails.Failed p = λ on. absurd (p.0.1.turns_off on)

  still_formatted : new.lists ≡ old.lists → new.medium.world ≡ old.medium.world → FormattedOn new
  still_formatted same world = λ on. subst IsSome (sym same) (was (subst (λ (w : World). IsTrue w.power) world on))

  dying_formatted : AtMostDies old new → FormattedOn new
  dying_formatted p = λ on. elim p.lists [ inl same ↦ subst IsSome (sym same) (was (p.was_on on)) | inr off ↦ absurd (off.1 on) ]

-- over calls of the disc, one after another
stays_formatted : HoldsOfChains (λ faulted a b. FormattedOn a → FormattedOn b)
stays_formatted = record {
  none = λ s was. was;
  join = λ faulted a b c first then was. then (first was);
  read = λ a b lba n out leaves cause was. read_formatted a b was lba n out cause;
  write = λ a b lba n out leaves cause was. write_formatted a b was lba n out cause;
}

-- ---- lines

module _ (i : ℕ) (old new : CacheShown) (was : FormattedOn old.drive) (before after : Contents → Type 0) where
  abbrev Chain : Bool → Shown → Shown → Type 0
  Chain faulted a b = FormattedOn a → FormattedOn b

  untouched : new ≡ old → FormattedOn new.drive
  untouched is = subst (λ (x : CacheShown). FormattedOn x.drive) (sym is) was

  written : (lba n : ℕ) (payload : List ℕ) (fua : Bool) (out : WriteOut) → WrittenCause old new lba n payload fua out → FormattedOn new.drive
  written lba n payload true out cause = of_through Chain stays_formatted lba n old new out cause was
  written lba n payload false out cause = of_write Chain stays_formatted lba n payload old new out cause was

  told : (structure : Bool) (alloc : ℕ) (answer : Answer) (data_in : List ℕ)
      → MatchBool structure (TellsStructure old new before after alloc answer data_in) (TellsSpares old new before after alloc answer data_in) → FormattedOn new.drive
  told true alloc answer data_in p = untouched p.is_answered.untouched.same
  told false alloc answer data_in p = untouched p.untouched.same

  settles_formatted : (answer : Answer) (data_in : List ℕ) → Settles old new before after answer data_in → FormattedOn new.drive
  settles_formatted answer data_in p = subst FormattedOn (sym p.same_drive) (of_sync Chain stays_formatted old p.mid p.out p.cause was)

  done_formatted : IsOn old.drive → (host : Host) (payload : List ℕ) (command : Command) (answer : Answer) (data_in : List ℕ) → LeavesBlockAsAsked i command
      → IsDone old new before after host payload command answer data_in → FormattedOn new.drive
  done_formatted on host payload (commands.Format (kinds.Full drop_sdl)) answer data_in leaves p = absurd leaves
  done_formatted on host payload (commands.Format kinds.Rewrite) answer data_in leaves p = format_formatted old.drive new.drive was on old.drive.lists refl p.out p.cause.0
  done_formatted on host payload (commands.Expand sectors) answer data_in leaves p = expand_formatted old.drive new.drive was sectors p.out p.cause.0
  done_formatted on host payload (commands.Read lba n) answer data_in leaves p = of_read Chain stays_formatted lba n old new p.out p.cause was
  done_formatted on host payload (commands.Write lba n fua) answer data_in leaves p = written lba n payload fua p.out p.cause
  done_formatted on host payload (commands.Verify lba n) answer data_in leaves p = verify_formatted old.drive new.drive was lba n p.out p.cause.0
  done_formatted on host payload commands.Synchronize answer data_in leaves p = of_sync Chain stays_formatted old new p.out p.cause was
  done_formatted on host payload (commands.StartStop start eject) answer data_in leaves p =
      elim (started old new before after (eject && not start) answer data_in p) [ inl settles ↦ settles_formatted answer data_in settles | inr q ↦ untouched q.untouched.same ]
  done_formatted on host payload commands.ModeSelect answer data_in leaves p =
      elim (selected old new before after (old.caches && not (caches_after payload old.caches)) payload answer data_in p) [
        | inl settles ↦ settles_formatted answer data_in settles
        | inr q ↦ subst (λ (x : CacheShown). FormattedOn x.drive) (sym q.mode) was
      ]
  done_formatted on host payload (commands.Structure format alloc) answer data_in leaves p = told (format == 0x08) alloc answer data_in p
  done_formatted on host payload command answer data_in leaves p = untouched p.untouched.same

  judged_formatted : IsOn old.drive → (host : Host) (formatted : Bool) (cdb payload : List ℕ) (judged : Result Command Sense) (answer : Answer) (data_in : List ℕ) → IsJudged host formatted cdb payload judged
      → IsAnsweredBy old new before after host payload judged answer data_in → LeavesBlockAsDecoded i (decoded cdb payload) → FormattedOn new.drive
  judged_formatted on host formatted cdb payload (Err why) answer data_in judged p leaves = untouched p.untouched.same
  judged_formatted on host formatted cdb payload (Ok command) answer data_in judged p leaves =
      done_formatted on host payload command answer data_in (subst (LeavesBlockAsDecoded i) (asks_for host formatted cdb payload command judged) leaves) p

  command_formatted : (host later : Host) (cdb payload : List ℕ) (answer : Answer) (data_in : List ℕ) → ExecutesTo old new before after host later cdb payload answer data_in
      → LeavesBlockAsDecoded i (decoded cdb payload) → FormattedOn new.drive
  command_formatted host later cdb payload answer data_in (inl off) leaves = untouched off.1.is_answered.untouched.same
  command_formatted host later cdb payload answer data_in (inr on) leaves =
      judged_formatted on.0 host (is_some old.drive.lists) cdb payload on.1.judged answer data_in on.1.is_judged on.1.is_answered leaves

  pub line_formatted : (host later : Host) (line : Line) (payload : List ℕ) (outcome : Outcome) (data_in : List ℕ) → DiscRule old new before after host later line payload outcome data_in
      → LeavesBlock i line payload outcome → FormattedOn new.drive
  line_formatted host later lines.Power payload outcome data_in p leaves = power_formatted old.drive new.drive was p.0.out outcome p.0.outcome_is leaves p.0.powered.cause.0
  line_formatted host later (lines.Fail block) payload outcome data_in p leaves = fail_formatted old.drive new.drive was block p.0.end p.0.rule
  line_formatted host later (lines.Wear block n) payload outcome data_in p leaves =
      still_formatted old.drive new.drive was p.0.keeps.memory.same_lists (worn_world _ old.drive.medium new.drive.medium (record { block = block; left = n }) p.0.end p.0.rule)
  line_formatted host later (lines.Cut n fate) payload outcome data_in p leaves = still_formatted old.drive new.drive was p.0.keeps.memory.same_lists (ap (λ (m : Machine). m.world) p.0.armed)
  line_formatted host later lines.Tick payload outcome data_in p leaves = of_tick Chain stays_formatted old new p.0.out p.0.cause was
  line_formatted host later (lines.Scrub false) payload outcome data_in p leaves =
      dying_formatted old.drive new.drive was (of_step (λ faulted a b. AtMostDies a.drive b.drive) at_most_dies old new p.from p.to p.end p.rule)
  line_formatted host later (lines.Scrub true) payload outcome data_in p leaves =
      dying_formatted old.drive new.drive was (of_pass (λ faulted a b. AtMostDies a.drive b.drive) at_most_dies old new p.from p.to p.end p.rule)
  line_formatted host later (lines.Command cdb) payload outcome data_in p leaves = command_formatted host later cdb payload p.answer data_in p.step leaves
  line_formatted host later _ payload outcome data_in p leaves = absurd p
