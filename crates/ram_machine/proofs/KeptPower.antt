-- What a disc has in a sector it still has after a line that does not write the sector, while no power is lost.
use Rattle.std.specs.Prelude.{◌&&◌, not, ◌≡◌, ℕ, ◌+◌, ◌*◌, ◌<◌, ◌≤◌, ◌==◌, ◌⊎◌, Bool, true, false, is_some, MatchBool, Result, Ok, Err, List, [], ◌∷◌, length}
use Rattle.std.proofs.Common.{arith, refl, sym, ◌∙◌, inl, inr, subst}
use Rattle.std.proofs.lemmas.List.Elements.{All-head, All-tail}
use Rattle.model_sectors.specs.Discs.{sectors_of, replaced}
use Rattle.model_sectors.specs.Requests.{block_with, blocks_covered}
use Rattle.model_sectors.specs.declared.ReadOut.{ReadOut}
use Rattle.model_sectors.specs.declared.ReadOut.TheVariants as reads
use Rattle.model_drive.specs.declared.WriteOut.{WriteOut}
use Rattle.model_drive.specs.declared.WriteOut.TheVariants as writes
use Rattle.model_drive.specs.declared.ExpandOut.{ExpandOut}
use Rattle.model_drive.specs.declared.ExpandOut.TheVariants as expands
use Rattle.model_drive.specs.Expands.{shortened}
use Rattle.model_drive.specs.Parts.{IsInRange}
use Rattle.model_cache.specs.declared.SyncOut.{SyncOut}
use Rattle.model_cache.specs.declared.SyncOut.TheVariants as syncs
use Rattle.model_cache.specs.declared.TickOut.{TickOut}
use Rattle.model_cache.specs.declared.TickOut.TheVariants as ticks
use Rattle.model_cache.specs.Values.{Values, Contents, Has, MayHave}
use Rattle.model_cache.specs.Shown.{CacheShown, CacheStandsFor, goes_into_cache}
use Rattle.model_cache.specs.Causes.{CachedCause, ThroughCause}
use Rattle.model_cache.specs.Steps.{ReadContents, VerifyContents, CachedContents, ThroughContents, ExpandContents, SyncContents, TickContents}
use Rattle.model_sense.specs.declared.sense.Sense.{Sense}
use Rattle.model_sense.specs.declared.answer.Answer.{Answer}
use Rattle.model_sense.specs.declared.answer.Answer.TheVariants as answers
use Rattle.model_cdb.specs.declared.commands.Command.{Command}
use Rattle.model_cdb.specs.declared.commands.Command.TheVariants as commands
use Rattle.model_cdb.specs.Decoding.{decoded}
use Rattle.model_target.specs.declared.host.Host.{Host}
use Rattle.model_target.specs.Judging.{IsJudged}
use Rattle.model_target.specs.Steps.{settle_answer, WrittenCause, WrittenContents, Untouched, TellsStructure, TellsSpares, IsDone, IsAnsweredBy, IsStep as ExecutesTo, read_answer, write_answer, expand_answer, sync_answer}
use Rattle.ram_medium.specs.declared.control.FailEnd.{FailEnd}
use Rattle.ram_medium.specs.declared.control.FailEnd.TheVariants as fails
use Rattle.ram_report.specs.declared.printing.Event.TheVariants as events
use Rattle.ram_text.specs.declared.script.Line.{Line}
use Rattle.ram_text.specs.declared.script.Line.TheVariants as lines
use Rattle.model_modes.specs.ParameterLists.{caches_after}
use Rattle.model_target.proofs.Settling.{Settles, started, selected}
use Rattle.ram_machine.specs.declared.reply.Reply.{Reply}
use Rattle.ram_machine.specs.declared.reply.Reply.TheVariants as replies
use Rattle.ram_machine.specs.declared.stopped.Stopped.TheVariants as stopped
use Rattle.ram_machine.specs.Control.{contents_after_fail}
use Rattle.ram_machine.specs.Replies.{event, fail_outcome, tick_outcome, command_outcome}
use Rattle.ram_machine.specs.States.{State, Served, Unopened, Disc}
use Rattle.ram_machine.specs.LineSteps.{DiscRule, OnDisc, Step}
use Rattle.ram_machine.specs.Runs.{IsStep, Run}
use Rattle.ram_machine.specs.Answered.{AnsweredStep}
use Rattle.ram_machine.specs.Acknowledged.{StandsWithSector, HasNow, WasDone, IsAmong, LeavesAsAsked, LeavesAsDecoded, LeavesSector, LeaveSector, KeepsPower, KeepPower}
use Rattle.ram_machine.specs.SectorBytes.{bytes_of_sector}
use Rattle.ram_machine.specs.OnlyTold.{UnlessTold}
use Rattle.ram_machine.proofs.OnlyTold.{IsUnchangedIn, told_same}
use Rattle.ram_machine.proofs.Decoded.{HasItsData, asks_for, its_data}
use Rattle.ram_machine.proofs.Acknowledged.{not_pressed_by, sector_left}
use Rattle.ram_machine.proofs.Scrubbed.{ScrubLeaves, step_leaves, pass_leaves}
use Rattle.ram_machine.proofs.Shortened.{front_sector, front_long}
use Rattle.ram_machine.proofs.WrittenDiscs.{lies}
use Rattle.ram_machine.proofs.DoneLines.{ShowsSector, ShowsNow, line_gives}
use Rattle.model_sectors.proofs.Pieces.{length_replaced}

-- the power was not lost with this answer
abbrev pub PowerStays : Answer → Type 0
PowerStays answers.Cut = ⊥
PowerStays answers.Fault = ⊥
PowerStays _ = Unit {0}

-- a command that has a reply by which no power is lost
pub stays_of : (cdb : List ℕ) (reply : Reply) (answer : Answer) → Ok reply ≡ command_outcome cdb answer → KeepsPower (lines.Command cdb) reply → PowerStays answer
stays_of cdb reply answers.Good is keeps = tt
stays_of cdb reply (answers.Check why) is keeps = tt
stays_of cdb reply answers.Cut is keeps = subst (KeepsPower (lines.Command cdb)) (let same : reply ≡ replies.Command cdb answers.Cut = cc in same) keeps
stays_of cdb reply answers.Off is keeps = tt
stays_of cdb reply answers.Fault is keeps = absurd cc

module _ (at : ℕ) (bytes : List ℕ) where
  abbrev Keeps : List ℕ → Type 0
  Keeps disc = 2048 * (at + 1) ≤ length disc → sectors_of disc at 1 ≡ bytes

  abbrev KeepsShown : Contents → Type 0
  KeepsShown s = ShowsSector at bytes s

  carry : (v : Values) (t : Contents) → Has v ≡ t → Keeps v.disc → KeepsShown t
  carry v t is keeps = subst KeepsShown is keeps

  module _ (t : Contents) where
    read_shows : (s : Contents) (lba n : ℕ) (into : List ℕ) (out : ReadOut) → ReadContents (λ x. x ≡ t) s lba n into out → PowerStays (read_answer out) → KeepsShown s → KeepsShown t
    read_shows (Has v) lba n into reads.Good step power keeps = carry v t step.1 keeps
    read_shows (Has v) lba n into reads.NotFormatted step power keeps = carry v t step.1 keeps
    read_shows (Has v) lba n into (reads.Range known) step power keeps = carry v t step keeps
    read_shows (Has v) lba n into (reads.Unread named block) step power keeps = carry v t step keeps
    read_shows (Has v) lba n into reads.Cut step power keeps = absurd power
    read_shows (Has v) lba n into reads.Off step power keeps = absurd step
    read_shows (Has v) lba n into reads.Fault step power keeps = absurd power
    read_shows (MayHave all) lba n into out step power keeps = absurd keeps

    verify_shows : (s : Contents) (out : ReadOut) → VerifyContents (λ x. x ≡ t) s out → PowerStays (read_answer out) → KeepsShown s → KeepsShown t
    verify_shows (Has v) reads.Good step power keeps = carry v t step keeps
    verify_shows (Has v) reads.NotFormatted step power keeps = carry v t step keeps
    verify_shows (Has v) (reads.Range known) step power keeps = carry v t step keeps
    verify_shows (Has v) (reads.Unread named block) step power keeps = carry v t step keeps
    verify_shows (Has v) reads.Cut step power keeps = absurd power
    verify_shows (Has v) reads.Off step power keeps = absurd step
    verify_shows (Has v) reads.Fault step power keeps = absurd power
    verify_shows (MayHave all) out step power keeps = absurd keeps

    sync_shows : (new : CacheShown) (s : Contents) (out : SyncOut) → SyncContents new (λ x. x ≡ t) s out → PowerStays (sync_answer out) → KeepsShown s → KeepsShown t
    sync_shows new (Has v) syncs.Good step power keeps = subst KeepsShown step keeps
    sync_shows new (Has v) syncs.NotFormatted step power keeps = carry v t step.1 keeps
    sync_shows new (Has v) (syncs.NoSpare lba) step power keeps = subst KeepsShown step keeps
    sync_shows new (Has v) (syncs.NoUpdate counter) step power keeps = subst KeepsShown step keeps
    sync_shows new (Has v) syncs.Cut step power keeps = absurd power
    sync_shows new (Has v) syncs.Off step power keeps = absurd step
    sync_shows new (Has v) syncs.Fault step power keeps = absurd power
    sync_shows new (MayHave all) out step power keeps = absurd keeps

    settle_shows : (new : CacheShown) (s : Contents) (out : SyncOut) → SyncContents new (λ x. x ≡ t) s out → PowerStays (settle_answer out) → KeepsShown s → KeepsShown t
    settle_shows new s syncs.Good step power keeps = sync_shows new s syncs.Good step tt keeps
    settle_shows new s syncs.NotFormatted step power keeps = sync_shows new s syncs.NotFormatted step tt keeps
    settle_shows new s (syncs.NoSpare lba) step power keeps = sync_shows new s (syncs.NoSpare lba) step tt keeps
    settle_shows new s (syncs.NoUpdate counter) step power keeps = sync_shows new s (syncs.NoUpdate counter) step tt keeps
    settle_shows new s syncs.Cut step power keeps = absurd power
    settle_shows new s syncs.Off step power keeps = sync_shows new s syncs.Off step power keeps
    settle_shows new s syncs.Fault step power keeps = absurd power

    tick_shows : (s : Contents) (out : TickOut) (reply : Reply) → TickContents (λ x. x ≡ t) s out → Ok reply ≡ tick_outcome out → KeepsPower lines.Tick reply → KeepsShown s → KeepsShown t
    tick_shows (Has v) ticks.Idle reply step is power keeps = carry v t step keeps
    tick_shows (Has v) (ticks.Written lba) reply step is power keeps = carry v t step keeps
    tick_shows (Has v) (ticks.NoSpare lba) reply step is power keeps = carry v t step keeps
    tick_shows (Has v) (ticks.NoUpdate counter) reply step is power keeps = carry v t step keeps
    tick_shows (Has v) ticks.Cut reply step is power keeps = absurd (subst (KeepsPower lines.Tick) (let same : reply ≡ replies.Event events.Cut = cc in same) power)
    tick_shows (Has v) ticks.Off reply step is power keeps = absurd step
    tick_shows (Has v) ticks.Fault reply step is power keeps = absurd cc
    tick_shows (MayHave all) out reply step is power keeps = absurd keeps

    short_shows : (v : Values) (sectors : ℕ) → Keeps v.disc → Keeps (shortened sectors v.disc)
    short_shows v sectors keeps within = front_sector v.disc sectors at within ∙ keeps (front_long v.disc sectors at within)

    expand_shows : (s : Contents) (sectors : ℕ) (out : ExpandOut) → ExpandContents (λ x. x ≡ t) s sectors out → PowerStays (expand_answer out) → KeepsShown s → KeepsShown t
    expand_shows (Has v) sectors expands.Good step power keeps = subst KeepsShown step (short_shows v sectors keeps)
    expand_shows (Has v) sectors expands.NotFormatted step power keeps = carry v t step.1 keeps
    expand_shows (Has v) sectors (expands.Refused known) step power keeps = carry v t step keeps
    expand_shows (Has v) sectors (expands.NoUpdate counter) step power keeps = carry v t step keeps
    expand_shows (Has v) sectors expands.Cut step power keeps = absurd power
    expand_shows (Has v) sectors expands.Off step power keeps = absurd step
    expand_shows (Has v) sectors expands.Fault step power keeps = absurd power
    expand_shows (MayHave all) sectors out step power keeps = absurd keeps

    module _ (old new : CacheShown) (v : Values) (lba n : ℕ) (payload : List ℕ) (stood : CacheStandsFor old (Has v)) (whole : length payload ≡ 2048 * n) (apart : (at < lba) ⊎ (lba + n ≤ at)) (keeps : Keeps v.disc) where
      replaced_shows : IsInRange old.drive lba n → (b : ℕ) → Keeps (replaced v.disc lba payload b)
      replaced_shows inside b within =
          let r = lies old v lba n stood inside in
          let same = length_replaced v.disc r.blocks lba n payload b whole r.inside r.long in
          sector_left v lba n at payload whole apart r b ∙ keeps (omega (arith, within, same))

      through_shows : (out : WriteOut) → ThroughCause old new lba n out → ThroughContents old new (λ x. x ≡ t) (Has v) lba n payload out → PowerStays (write_answer out) → KeepsShown t
      through_shows writes.Good cause step power = subst KeepsShown step (replaced_shows cause.0 (block_with lba + blocks_covered lba n))
      through_shows writes.NotFormatted cause step power = carry v t step.1 keeps
      through_shows (writes.Range known) cause step power = carry v t step keeps
      through_shows (writes.Unread named block) cause step power = subst KeepsShown step (replaced_shows cause.0 (block_with named))
      through_shows (writes.NoSpare named) cause (inl step) power = carry v t step.1 keeps
      through_shows (writes.NoSpare named) cause (inr step) power = subst KeepsShown step.1 (replaced_shows cause.0 (block_with named))
      through_shows (writes.NoUpdate counter) cause (inl step) power = carry v t step.1 keeps
      through_shows (writes.NoUpdate counter) cause (inr step) power = subst KeepsShown step.1.before (replaced_shows cause.0 (block_with lba + step.1.block))
      through_shows writes.Cut cause step power = absurd power
      through_shows writes.Off cause step power = absurd step
      through_shows writes.Fault cause step power = absurd power

      cached_shows : (out : WriteOut) → CachedCause old new lba n payload out → CachedContents (λ x. x ≡ t) (Has v) lba n payload out → PowerStays (write_answer out) → KeepsShown t
      cached_shows writes.Good cause step power = subst KeepsShown step (replaced_shows cause.inside (block_with lba + blocks_covered lba n))
      cached_shows writes.NotFormatted cause step power = carry v t step.1 keeps
      cached_shows (writes.Range known) cause step power = carry v t step keeps
      cached_shows (writes.Unread named block) cause step power = carry v t step keeps
      cached_shows (writes.NoSpare named) cause step power = carry v t step keeps
      cached_shows (writes.NoUpdate counter) cause step power = carry v t step keeps
      cached_shows writes.Cut cause step power = absurd power
      cached_shows writes.Off cause step power = absurd step
      cached_shows writes.Fault cause step power = absurd power

      write_by : (into_cache : Bool) (out : WriteOut) → MatchBool into_cache (CachedCause old new lba n payload out) (ThroughCause old new lba n out)
          → MatchBool into_cache (CachedContents (λ x. x ≡ t) (Has v) lba n payload out) (ThroughContents old new (λ x. x ≡ t) (Has v) lba n payload out) → PowerStays (write_answer out) → KeepsShown t
      write_by true out cause step power = cached_shows out cause step power
      write_by false out cause step power = through_shows out cause step power

      written_shows : (fua : Bool) (out : WriteOut) → WrittenCause old new lba n payload fua out → WrittenContents old new lba n payload (λ x. x ≡ t) (Has v) fua out → PowerStays (write_answer out) → KeepsShown t
      written_shows true out cause step power = through_shows out cause step power
      written_shows false out cause step power = write_by (goes_into_cache old lba n) out cause step power

    write_shows : (old new : CacheShown) (s : Contents) (lba n : ℕ) (fua : Bool) (payload : List ℕ) (out : WriteOut) → CacheStandsFor old s → length payload ≡ 2048 * n → (at < lba) ⊎ (lba + n ≤ at)
        → WrittenCause old new lba n payload fua out → WrittenContents old new lba n payload (λ x. x ≡ t) s fua out → PowerStays (write_answer out) → KeepsShown s → KeepsShown t
    write_shows old new (Has v) lba n fua payload out stood whole apart cause step power keeps = written_shows old new v lba n payload stood whole apart keeps fua out cause step power
    write_shows old new (MayHave all) lba n fua payload out stood whole apart cause step power keeps = absurd keeps

    scrub_shows : (s : Contents) (all : Bool) (reply : Reply) → ScrubLeaves s t (Ok reply) → KeepsPower (lines.Scrub all) reply → KeepsShown s → KeepsShown t
    scrub_shows s all reply (inl same) power keeps = subst KeepsShown same.0 keeps
    scrub_shows s all reply (inr (inl cut)) power keeps = absurd (subst (KeepsPower (lines.Scrub all)) (let is : Ok reply ≡ event events.Cut = cut.1 in let same : reply ≡ replies.Event events.Cut = cc in same) power)
    scrub_shows s all reply (inr (inr fault)) power keeps = absurd (let is : Ok reply ≡ Err stopped.ImageFault = fault.1 in cc)

    fail_shows : (s : Contents) (end : FailEnd) (reply : Reply) → contents_after_fail s end ≡ t → Ok reply ≡ fail_outcome end → KeepsShown s → KeepsShown t
    fail_shows s fails.Done reply is outcome keeps = subst KeepsShown is keeps
    fail_shows s (fails.NoBlock blocks) reply is outcome keeps = subst KeepsShown is keeps
    fail_shows s fails.Failed reply is outcome keeps = absurd cc

  module _ (old new : CacheShown) (s t : Contents) (stood : CacheStandsFor old s) (keeps : KeepsShown s) where
    untouched_shows : Untouched old new (λ x. x ≡ s) (λ x. x ≡ t) → KeepsShown t
    untouched_shows p = subst KeepsShown (p.stands s refl) keeps

    told_shows : (structure : Bool) (alloc : ℕ) (answer : Answer) (data_in : List ℕ)
        → MatchBool structure (TellsStructure old new (λ x. x ≡ s) (λ x. x ≡ t) alloc answer data_in) (TellsSpares old new (λ x. x ≡ s) (λ x. x ≡ t) alloc answer data_in) → KeepsShown t
    told_shows true alloc answer data_in p = untouched_shows p.is_answered.untouched
    told_shows false alloc answer data_in p = untouched_shows p.untouched

    settles_shows : (answer : Answer) (data_in : List ℕ) → Settles old new (λ x. x ≡ s) (λ x. x ≡ t) answer data_in → PowerStays answer → KeepsShown t
    settles_shows answer data_in p power = settle_shows t p.mid s p.out (p.step s refl) (subst PowerStays p.answer_is power) keeps

    done_shows : (host : Host) (payload : List ℕ) (command : Command) (answer : Answer) (data_in : List ℕ) → IsDone old new (λ x. x ≡ s) (λ x. x ≡ t) host payload command answer data_in → PowerStays answer
        → LeavesAsAsked at command → HasItsData payload command → KeepsShown t
    done_shows host payload commands.TestUnitReady answer data_in p power leaves given = untouched_shows p.untouched
    done_shows host payload (commands.RequestSense alloc) answer data_in p power leaves given = untouched_shows p.untouched
    done_shows host payload (commands.Format kind) answer data_in p power leaves given = absurd leaves
    done_shows host payload (commands.Expand sectors) answer data_in p power leaves given = expand_shows t s sectors p.out (p.step s refl) (subst PowerStays p.answer_is power) keeps
    done_shows host payload (commands.Inquiry vital alloc) answer data_in p power leaves given = untouched_shows p.untouched
    done_shows host payload (commands.StartStop start eject) answer data_in p power leaves given =
        elim (started old new (λ x. x ≡ s) (λ x. x ≡ t) (eject && not start) answer data_in p) [ inl settles ↦ settles_shows answer data_in settles power | inr q ↦ untouched_shows q.untouched ]
    done_shows host payload (commands.Prevent on) answer data_in p power leaves given = untouched_shows p.untouched
    done_shows host payload (commands.FormatCapacities alloc) answer data_in p power leaves given = untouched_shows p.untouched
    done_shows host payload commands.ReadCapacity answer data_in p power leaves given = untouched_shows p.untouched
    done_shows host payload (commands.Read lba n) answer data_in p power leaves given = read_shows t s lba n p.bytes p.out (p.step s refl) (subst PowerStays p.answer_is power) keeps
    done_shows host payload (commands.Write lba n fua) answer data_in p power leaves given = write_shows t old new s lba n fua payload p.out stood given leaves p.cause (p.step s refl) (subst PowerStays p.answer_is power) keeps
    done_shows host payload (commands.Verify lba n) answer data_in p power leaves given = verify_shows t s p.out (p.step s refl) (subst PowerStays p.answer_is power) keeps
    done_shows host payload commands.Synchronize answer data_in p power leaves given = sync_shows t new s p.out (p.step s refl) (subst PowerStays p.answer_is power) keeps
    done_shows host payload (commands.Configuration rt start alloc) answer data_in p power leaves given = untouched_shows p.untouched
    done_shows host payload (commands.Events media alloc) answer data_in p power leaves given = untouched_shows p.untouched
    done_shows host payload (commands.DiscInformation alloc) answer data_in p power leaves given = untouched_shows p.untouched
    done_shows host payload commands.ModeSelect answer data_in p power leaves given =
        elim (selected old new (λ x. x ≡ s) (λ x. x ≡ t) (old.caches && not (caches_after payload old.caches)) payload answer data_in p) [
          | inl settles ↦ settles_shows answer data_in settles power
          | inr q ↦ subst KeepsShown (q.stands s refl) keeps
        ]
    done_shows host payload (commands.ModeSense short control page alloc) answer data_in p power leaves given = untouched_shows p.untouched
    done_shows host payload (commands.Structure format alloc) answer data_in p power leaves given = told_shows (format == 0x08) alloc answer data_in p
    done_shows host payload commands.Streaming answer data_in p power leaves given = untouched_shows p.untouched

    by_shows : (host : Host) (formatted : Bool) (cdb payload : List ℕ) (judged : Result Command Sense) (answer : Answer) (data_in : List ℕ) → IsJudged host formatted cdb payload judged
        → IsAnsweredBy old new (λ x. x ≡ s) (λ x. x ≡ t) host payload judged answer data_in → PowerStays answer → LeavesAsDecoded at (decoded cdb payload) → KeepsShown t
    by_shows host formatted cdb payload (Err why) answer data_in judged p power leaves = untouched_shows p.untouched
    by_shows host formatted cdb payload (Ok command) answer data_in judged p power leaves =
        let asks : decoded cdb payload ≡ Ok command = asks_for host formatted cdb payload command judged in
        done_shows host payload command answer data_in p power (subst (LeavesAsDecoded at) asks leaves) (its_data cdb payload command asks)

    command_shows : (host later : Host) (cdb payload : List ℕ) (answer : Answer) (data_in : List ℕ) → ExecutesTo old new (λ x. x ≡ s) (λ x. x ≡ t) host later cdb payload answer data_in → PowerStays answer
        → LeavesAsDecoded at (decoded cdb payload) → KeepsShown t
    command_shows host later cdb payload answer data_in (inl off) power leaves = untouched_shows off.1.is_answered.untouched
    command_shows host later cdb payload answer data_in (inr on) power leaves =
        by_shows host (is_some old.drive.lists) cdb payload on.1.judged answer data_in on.1.is_judged on.1.is_answered power leaves

    rule_shows : (host later : Host) (line : Line) (payload : List ℕ) (reply : Reply) (data_in : List ℕ) → DiscRule old new (λ x. x ≡ s) (λ x. x ≡ t) host later line payload (Ok reply) data_in
        → KeepsPower line reply → LeavesSector at line payload → KeepsShown t
    rule_shows host later lines.Power payload reply data_in p power leaves = absurd power
    rule_shows host later (lines.Fail block) payload reply data_in p power leaves = fail_shows t s p.0.end reply (p.0.stands s refl) p.0.outcome_is keeps
    rule_shows host later (lines.Wear block n) payload reply data_in p power leaves = subst KeepsShown (p.0.keeps.stands s refl) keeps
    rule_shows host later (lines.Cut n fate) payload reply data_in p power leaves = subst KeepsShown (p.0.keeps.stands s refl) keeps
    rule_shows host later lines.Tick payload reply data_in p power leaves = tick_shows t s p.0.out reply (p.0.step s refl) p.0.outcome_is power keeps
    rule_shows host later (lines.Scrub false) payload reply data_in p power leaves = scrub_shows t s false reply (step_leaves s t old new host later (Ok reply) p) power keeps
    rule_shows host later (lines.Scrub true) payload reply data_in p power leaves = scrub_shows t s true reply (pass_leaves s t old new host later (Ok reply) p) power keeps
    rule_shows host later (lines.Command cdb) payload reply data_in p power leaves = command_shows host later cdb payload p.answer data_in p.step (stays_of cdb reply p.answer p.outcome_is power) leaves
    rule_shows host later _ payload reply data_in p power leaves = absurd p

  abbrev KeepsNow : State → Type 0
  KeepsNow s = ShowsNow at bytes s

  on_disc_shows : (s : Served) (line : Line) (payload : List ℕ) (reply : Reply) (data_in : List ℕ) (t : State) → OnDisc (Disc s) line payload (Ok reply) data_in t → KeepsPower line reply
      → LeavesSector at line payload → KeepsShown s.disc.contents → KeepsNow t
  on_disc_shows s line payload reply data_in (Unopened image) step power leaves keeps = absurd step
  on_disc_shows s line payload reply data_in (Disc t) step power leaves keeps =
      rule_shows s.disc.shown t.disc.shown s.disc.contents t.disc.contents s.disc.stands keeps s.host t.host line payload reply data_in step.rule power leaves

  step_shows : (s t : State) (line : Line) (payload data_in : List ℕ) (reply : Reply) → Step s line payload (Ok reply) data_in t → KeepsPower line reply → LeavesSector at line payload → KeepsNow s → KeepsNow t
  step_shows (Unopened image) t line payload data_in reply step power leaves keeps = absurd keeps
  step_shows (Disc s) t lines.Empty payload data_in reply step power leaves keeps = subst KeepsNow (sym step.2) keeps
  step_shows (Disc s) t (lines.Press zones scale psa) payload data_in reply step power leaves keeps =
      subst KeepsNow (sym (not_pressed_by (Disc s) t zones scale psa (Ok reply) step.0 leaves)) keeps
  step_shows (Disc s) t line payload data_in reply step power leaves keeps = on_disc_shows s line payload reply data_in t step power leaves keeps

  shows_unchanged : (s t : State) → IsUnchangedIn s t → KeepsNow s → KeepsNow t
  shows_unchanged (Unopened image) t is keeps = absurd keeps
  shows_unchanged (Disc s) (Unopened image) is keeps = absurd is
  shows_unchanged (Disc s) (Disc t) is keeps = subst KeepsShown is.same_contents keeps

  event_shows : (s t : State) (event : AnsweredStep) → IsStep s event t → KeepsPower event.line event.reply → UnlessTold (LeavesSector at) event → KeepsNow s → KeepsNow t
  event_shows s t event step power (inl told) keeps = shows_unchanged s t (told_same s t event.line event.payload event.data_in event.reply step told) keeps
  event_shows s t event step power (inr leaves) keeps = step_shows s t event.line event.payload event.data_in event.reply step power leaves keeps

  pub run_shows : (s t : State) (answered : List AnsweredStep) → Run s answered t → KeepPower answered → LeaveSector at answered → KeepsNow s → KeepsNow t
  run_shows s t [] run power leaves keeps = subst KeepsNow (sym run) keeps
  run_shows s t (event ∷ answered) run power leaves keeps =
      event_shows run.0 t event run.2 (All-head (λ (e : AnsweredStep). KeepsPower e.line e.reply) event answered power)
      (All-head (UnlessTold (LeavesSector at)) event answered leaves)
      (run_shows s run.0 answered run.1 (All-tail (λ (e : AnsweredStep). KeepsPower e.line e.reply) event answered power) (All-tail (UnlessTold (LeavesSector at)) event answered leaves) keeps)

  stands_keeps : (c : Contents) → StandsWithSector c at bytes → KeepsShown c
  stands_keeps (Has v) is = λ within. is.bytes_are
  stands_keeps (MayHave all) is = absurd is

  pub now_keeps : (s : State) → HasNow s at bytes → KeepsNow s
  now_keeps (Unopened image) has = absurd has
  now_keeps (Disc s) has = stands_keeps s.disc.contents has

-- so a read gives it
pub read_on : (t u v : State) (read : AnsweredStep) (between : List AnsweredStep) (first count at : ℕ) (bytes : List ℕ) → HasNow t at bytes → Run t between u → KeepPower between → LeaveSector at between
    → IsStep u read v → WasDone read (commands.Read first count) → IsAmong first count at → bytes_of_sector first read.data_in at ≡ bytes
read_on t u v read between first count at bytes has run power leaves step done among =
    line_gives u v read first count at bytes step done among (run_shows at bytes t u between run power leaves (now_keeps at bytes t has))
