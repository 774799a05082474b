-- What is so of a sector in each value of its block stays so over a line that does not write it, by what the line does.
use Rattle.std.specs.Prelude.{◌&&◌, not, ◌≡◌, ℕ, ◌+◌, ◌*◌, ◌<◌, ◌≤◌, ◌==◌, ◌⊎◌, Bool, true, false, is_some, Result, Ok, Err, List, [], ◌∷◌, length}
use Rattle.std.specs.Bool.{MatchBool}
use Rattle.std.proofs.Common.{ℕ, arith, refl, sym, inl, inr, subst}
use Rattle.std.proofs.lemmas.List.Elements.{All-head, All-tail}
use Rattle.model_geometry.specs.declared.kinds.LayoutKind.{LayoutKind}
use Rattle.model_geometry.specs.Geometry.{Shape, IsLawful, shape_in, shape_of}
use Rattle.model_geometry.proofs.DataBlocks.{length-data_blocks_closed}
use Rattle.model_sectors.specs.Discs.{sectors_of, replaced}
use Rattle.model_sectors.specs.Requests.{block_with}
use Rattle.model_sectors.proofs.Pieces.{other_sectors_replaced}
use Rattle.model_drive.specs.declared.WriteOut.{WriteOut}
use Rattle.model_cache.specs.Values.{Values, Contents, Has, MayHave}
use Rattle.model_cache.specs.Shown.{CacheShown, CacheStandsFor}
use Rattle.model_cache.proofs.Falls.{only, read_falls, verify_falls, expand_falls, sync_falls, tick_falls, power_falls}
use Rattle.model_sectors.specs.declared.ReadOut.TheVariants as reads
use Rattle.model_sense.specs.declared.sense.Sense.{Sense}
use Rattle.model_sense.specs.declared.answer.Answer.{Answer}
use Rattle.model_cdb.specs.declared.commands.Command.{Command}
use Rattle.model_cdb.specs.declared.commands.Command.TheVariants as commands
use Rattle.model_cdb.specs.Decoding.{decoded}
use Rattle.model_target.specs.declared.host.Host.{Host}
use Rattle.model_target.specs.Judging.{IsJudged}
use Rattle.model_target.specs.Steps.{WrittenCause, WrittenContents, Untouched, TellsStructure, TellsSpares, IsDone, IsAnsweredBy, IsStep}
use Rattle.ram_medium.specs.declared.control.FailEnd.{FailEnd}
use Rattle.ram_medium.specs.declared.control.FailEnd.TheVariants as fails
use Rattle.ram_report.specs.declared.printing.Event.TheVariants as events
use Rattle.ram_text.specs.declared.script.Line.{Line}
use Rattle.ram_text.specs.declared.script.Line.TheVariants as lines
use Rattle.model_modes.specs.ParameterLists.{caches_after}
use Rattle.model_target.proofs.Settling.{Settles, started, selected}
use Rattle.ram_machine.specs.declared.reply.Reply.TheVariants as replies
use Rattle.ram_machine.specs.declared.stopped.Stopped.TheVariants as stopped
use Rattle.ram_machine.specs.Control.{contents_after_fail}
use Rattle.ram_machine.specs.Replies.{Outcome}
use Rattle.ram_machine.specs.States.{State, Served, Unopened, Disc, renewed, kind_of}
use Rattle.ram_machine.specs.LineSteps.{PressStep, DiscRule, OnDisc, Step}
use Rattle.ram_machine.specs.Runs.{Run}
use Rattle.ram_machine.specs.Answered.{AnsweredStep}
use Rattle.ram_machine.specs.Acknowledged.{Acknowledged, LeavesAsAsked, LeavesAsDecoded, LeavesSector, LeaveSector}
use Rattle.ram_machine.specs.OnlyTold.{UnlessTold}
use Rattle.ram_machine.proofs.OnlyTold.{IsUnchangedIn, told_same}
use Rattle.ram_machine.proofs.Decoded.{HasItsData, asks_for, its_data}
use Rattle.ram_machine.proofs.Scrubbed.{ScrubLeaves, step_leaves, pass_leaves}
use Rattle.ram_machine.proofs.WrittenDiscs.{Lies, SoInBlock, SoInValues, SoInContents, so_shown, written_left, written_off}

-- a press of no lawful geometry makes the scrubber new, and does nothing else
not_pressed : (s t : State) (shape : Shape) (outcome : Outcome) → PressStep s shape outcome t → ¬ IsLawful shape → t ≡ renewed s
not_pressed s t shape (Ok (replies.Event events.Pressed)) step unlawful = absurd (unlawful step.0)
not_pressed s t shape (Ok (replies.Event events.NotPressed)) step unlawful = step.1
not_pressed s t shape (Err stopped.ImageFault) step unlawful = absurd (unlawful step.0)
not_pressed s t shape _ step unlawful = absurd step

-- a geometry that is lawful with a layout of some kind is so with one group of spares
pub one_lawful : (kind : LayoutKind) (zones scale psa : ℕ) → IsLawful (shape_in kind zones scale psa) → IsLawful (shape_of zones scale psa)
one_lawful kind zones scale psa lawful = record {
  some_zones = lawful.some_zones;
  most_zones = lawful.most_zones;
  some_scale = lawful.some_scale;
  most_scale = lawful.most_scale;
  some_spares = lawful.some_spares;
  most_spares = lawful.most_spares;
  spares_within = omega (arith, lawful.spares_within, length-data_blocks_closed (shape_in kind zones scale psa) lawful.some_scale, length-data_blocks_closed (shape_of zones scale psa) lawful.some_scale);
  layout_fits = tt;
}

-- so does a press that is lawful with none
pub not_pressed_by : (s t : State) (zones scale psa : ℕ) (outcome : Outcome) → PressStep s (shape_in (kind_of s) zones scale psa) outcome t → ¬ IsLawful (shape_of zones scale psa) → t ≡ renewed s
not_pressed_by s t zones scale psa outcome step unlawful = not_pressed s t (shape_in (kind_of s) zones scale psa) outcome step (λ lawful. unlawful (one_lawful (kind_of s) zones scale psa lawful))

-- what is replaced elsewhere leaves the sector
pub sector_left : (v : Values) (lba n at : ℕ) (payload : List ℕ) → length payload ≡ 2048 * n → (at < lba) ⊎ (lba + n ≤ at) → (r : Lies v.disc lba n) (b : ℕ)
    → sectors_of (replaced v.disc lba payload b) at 1 ≡ sectors_of v.disc at 1
sector_left v lba n at payload whole apart r b =
    other_sectors_replaced v.disc r.blocks lba n payload b at 1 whole r.inside r.long (elim apart [
      | inl before ↦ inl (omega (arith, before))
      | inr past ↦ inr (inl past)
    ])

module _ (S : List ℕ → Type 0) (at : ℕ) where
  -- a write of other sectors
  pub write_keeps : (old new : CacheShown) (s t : Contents) (lba n : ℕ) (fua : Bool) (payload : List ℕ) (out : WriteOut) → CacheStandsFor old s → length payload ≡ 2048 * n → (at < lba) ⊎ (lba + n ≤ at)
      → WrittenCause old new lba n payload fua out → WrittenContents old new lba n payload (λ x. x ≡ t) s fua out → SoInContents S at s → SoInContents S at t
  write_keeps old new (Has v) t lba n fua payload out stood whole apart cause step so =
      let kept : SoInValues S at v = only (SoInBlock S at) (block_with at) v so in
      written_left S at old new v t lba n payload stood whole kept
      (λ r b has. subst S (sym (sector_left v lba n at payload whole apart r b)) (so_shown S at v has kept)) fua out cause step
  write_keeps old new (MayHave all) t lba n fua payload out stood whole apart cause step so = written_off S at old new all t lba n payload fua out so step

  -- a block that fails
  fail_keeps : (s t : Contents) (end : FailEnd) → contents_after_fail s end ≡ t → SoInContents S at s → SoInContents S at t
  fail_keeps s t fails.Done is so = subst (SoInContents S at) is so
  fail_keeps s t (fails.NoBlock blocks) is so = subst (SoInContents S at) is so
  fail_keeps s t fails.Failed is so = subst (SoInContents S at) is so

  -- a scrub
  scrub_keeps : (s t : Contents) (outcome : Outcome) → ScrubLeaves s t outcome → SoInContents S at s → SoInContents S at t
  scrub_keeps s t outcome (inl same) so = subst (SoInContents S at) same.0 so
  scrub_keeps s t outcome (inr (inl cut)) so = verify_falls (SoInBlock S at) (block_with at) s t reads.Cut cut.0 so
  scrub_keeps s t outcome (inr (inr fault)) so = verify_falls (SoInBlock S at) (block_with at) s t reads.Fault fault.0 so

  -- any line on a disc
  module _ (old new : CacheShown) (s t : Contents) (stood : CacheStandsFor old s) (so : SoInContents S at s) where
    untouched_keeps : Untouched old new (λ x. x ≡ s) (λ x. x ≡ t) → SoInContents S at t
    untouched_keeps p = subst (SoInContents S at) (p.stands s refl) so

    told_keeps : (structure : Bool) (alloc : ℕ) (answer : Answer) (data_in : List ℕ)
        → MatchBool structure (TellsStructure old new (λ x. x ≡ s) (λ x. x ≡ t) alloc answer data_in) (TellsSpares old new (λ x. x ≡ s) (λ x. x ≡ t) alloc answer data_in) → SoInContents S at t
    told_keeps true alloc answer data_in p = untouched_keeps p.is_answered.untouched
    told_keeps false alloc answer data_in p = untouched_keeps p.untouched

    settles_keeps : (answer : Answer) (data_in : List ℕ) → Settles old new (λ x. x ≡ s) (λ x. x ≡ t) answer data_in → SoInContents S at t
    settles_keeps answer data_in p = sync_falls (SoInBlock S at) (block_with at) p.mid s t p.out (p.step s refl) so

    done_keeps : (host : Host) (payload : List ℕ) (command : Command) (answer : Answer) (data_in : List ℕ) → IsDone old new (λ x. x ≡ s) (λ x. x ≡ t) host payload command answer data_in
        → LeavesAsAsked at command → HasItsData payload command → SoInContents S at t
    done_keeps host payload commands.TestUnitReady answer data_in p leaves given = untouched_keeps p.untouched
    done_keeps host payload (commands.RequestSense alloc) answer data_in p leaves given = untouched_keeps p.untouched
    done_keeps host payload (commands.Format kind) answer data_in p leaves given = absurd leaves
    done_keeps host payload (commands.Expand sectors) answer data_in p leaves given = expand_falls (SoInBlock S at) (block_with at) s t sectors p.out (p.step s refl) so
    done_keeps host payload (commands.Inquiry vital alloc) answer data_in p leaves given = untouched_keeps p.untouched
    done_keeps host payload (commands.StartStop start eject) answer data_in p leaves given =
        elim (started old new (λ x. x ≡ s) (λ x. x ≡ t) (eject && not start) answer data_in p) [ inl settles ↦ settles_keeps answer data_in settles | inr q ↦ untouched_keeps q.untouched ]
    done_keeps host payload (commands.Prevent on) answer data_in p leaves given = untouched_keeps p.untouched
    done_keeps host payload (commands.FormatCapacities alloc) answer data_in p leaves given = untouched_keeps p.untouched
    done_keeps host payload commands.ReadCapacity answer data_in p leaves given = untouched_keeps p.untouched
    done_keeps host payload (commands.Read lba n) answer data_in p leaves given = read_falls (SoInBlock S at) (block_with at) s t lba n p.bytes p.out (p.step s refl) so
    done_keeps host payload (commands.Write lba n fua) answer data_in p leaves given = write_keeps old new s t lba n fua payload p.out stood given leaves p.cause (p.step s refl) so
    done_keeps host payload (commands.Verify lba n) answer data_in p leaves given = verify_falls (SoInBlock S at) (block_with at) s t p.out (p.step s refl) so
    done_keeps host payload commands.Synchronize answer data_in p leaves given = sync_falls (SoInBlock S at) (block_with at) new s t p.out (p.step s refl) so
    done_keeps host payload (commands.Configuration rt start alloc) answer data_in p leaves given = untouched_keeps p.untouched
    done_keeps host payload (commands.Events media alloc) answer data_in p leaves given = untouched_keeps p.untouched
    done_keeps host payload (commands.DiscInformation alloc) answer data_in p leaves given = untouched_keeps p.untouched
    done_keeps host payload commands.ModeSelect answer data_in p leaves given =
        elim (selected old new (λ x. x ≡ s) (λ x. x ≡ t) (old.caches && not (caches_after payload old.caches)) payload answer data_in p) [
          | inl settles ↦ settles_keeps answer data_in settles
          | inr q ↦ subst (SoInContents S at) (q.stands s refl) so
        ]
    done_keeps host payload (commands.ModeSense short control page alloc) answer data_in p leaves given = untouched_keeps p.untouched
    done_keeps host payload (commands.Structure format alloc) answer data_in p leaves given = told_keeps (format == 0x08) alloc answer data_in p
    done_keeps host payload commands.Streaming answer data_in p leaves given = untouched_keeps p.untouched

    by_keeps : (host : Host) (formatted : Bool) (cdb payload : List ℕ) (judged : Result Command Sense) (answer : Answer) (data_in : List ℕ) → IsJudged host formatted cdb payload judged
        → IsAnsweredBy old new (λ x. x ≡ s) (λ x. x ≡ t) host payload judged answer data_in → LeavesAsDecoded at (decoded cdb payload) → SoInContents S at t
    by_keeps host formatted cdb payload (Err why) answer data_in judged p leaves = untouched_keeps p.untouched
    by_keeps host formatted cdb payload (Ok command) answer data_in judged p leaves =
        let asks : decoded cdb payload ≡ Ok command = asks_for host formatted cdb payload command judged in
        done_keeps host payload command answer data_in p (subst (LeavesAsDecoded at) asks leaves) (its_data cdb payload command asks)

    command_keeps : (host later : Host) (cdb payload : List ℕ) (answer : Answer) (data_in : List ℕ) → IsStep old new (λ x. x ≡ s) (λ x. x ≡ t) host later cdb payload answer data_in
        → LeavesAsDecoded at (decoded cdb payload) → SoInContents S at t
    command_keeps host later cdb payload answer data_in (inl off) leaves = untouched_keeps off.1.is_answered.untouched
    command_keeps host later cdb payload answer data_in (inr on) leaves =
        by_keeps host (is_some old.drive.lists) cdb payload on.1.judged answer data_in on.1.is_judged on.1.is_answered leaves

    rule_keeps : (host later : Host) (line : Line) (payload : List ℕ) (outcome : Outcome) (data_in : List ℕ) → DiscRule old new (λ x. x ≡ s) (λ x. x ≡ t) host later line payload outcome data_in
        → LeavesSector at line payload → SoInContents S at t
    rule_keeps host later lines.Power payload outcome data_in p leaves = power_falls (SoInBlock S at) (block_with at) new.drive s t p.0.out (p.0.powered.step s refl) so
    rule_keeps host later (lines.Fail block) payload outcome data_in p leaves = fail_keeps s t p.0.end (p.0.stands s refl) so
    rule_keeps host later (lines.Wear block n) payload outcome data_in p leaves = subst (SoInContents S at) (p.0.keeps.stands s refl) so
    rule_keeps host later (lines.Cut n fate) payload outcome data_in p leaves = subst (SoInContents S at) (p.0.keeps.stands s refl) so
    rule_keeps host later lines.Tick payload outcome data_in p leaves = tick_falls (SoInBlock S at) (block_with at) s t p.0.out (p.0.step s refl) so
    rule_keeps host later (lines.Scrub false) payload outcome data_in p leaves = scrub_keeps s t outcome (step_leaves s t old new host later outcome p) so
    rule_keeps host later (lines.Scrub true) payload outcome data_in p leaves = scrub_keeps s t outcome (pass_leaves s t old new host later outcome p) so
    rule_keeps host later (lines.Command cdb) payload outcome data_in p leaves = command_keeps host later cdb payload p.answer data_in p.step leaves
    rule_keeps host later _ payload outcome data_in p leaves = absurd p

  -- it is so in what a state stands for
  abbrev pub SoInState : State → Type 0
  SoInState (Unopened image) = ⊥
  SoInState (Disc s) = SoInContents S at s.disc.contents

  on_disc_keeps : (s : Served) (line : Line) (payload : List ℕ) (outcome : Outcome) (data_in : List ℕ) (t : State) → OnDisc (Disc s) line payload outcome data_in t
      → LeavesSector at line payload → SoInContents S at s.disc.contents → SoInState t
  on_disc_keeps s line payload outcome data_in (Unopened image) step leaves so = absurd step
  on_disc_keeps s line payload outcome data_in (Disc t) step leaves so =
      rule_keeps s.disc.shown t.disc.shown s.disc.contents t.disc.contents s.disc.stands so s.host t.host line payload outcome data_in step.rule leaves

  -- one line
  pub step_keeps : (s t : State) (line : Line) (payload data_in : List ℕ) (outcome : Outcome) → Step s line payload outcome data_in t → LeavesSector at line payload → SoInState s → SoInState t
  step_keeps (Unopened image) t line payload data_in outcome step leaves so = absurd so
  step_keeps (Disc s) t lines.Empty payload data_in outcome step leaves so = subst SoInState (sym step.2) so
  step_keeps (Disc s) t (lines.Press zones scale psa) payload data_in outcome step leaves so =
      subst SoInState (sym (not_pressed_by (Disc s) t zones scale psa outcome step.0 leaves)) so
  step_keeps (Disc s) t line payload data_in outcome step leaves so = on_disc_keeps s line payload outcome data_in t step leaves so

  pub so_unchanged : (s t : State) → IsUnchangedIn s t → SoInState s → SoInState t
  so_unchanged (Unopened image) t is so = absurd so
  so_unchanged (Disc s) (Unopened image) is so = absurd is
  so_unchanged (Disc s) (Disc t) is so = subst (SoInContents S at) is.same_contents so

  event_keeps : (s t : State) (event : AnsweredStep) → Step s event.line event.payload (Ok event.reply) event.data_in t → UnlessTold (LeavesSector at) event → SoInState s → SoInState t
  event_keeps s t event step (inl told) so = so_unchanged s t (told_same s t event.line event.payload event.data_in event.reply step told) so
  event_keeps s t event step (inr leaves) so = step_keeps s t event.line event.payload event.data_in (Ok event.reply) step leaves so

  -- and a run
  pub run_keeps : (s t : State) (answered : List AnsweredStep) → Run s answered t → LeaveSector at answered → SoInState s → SoInState t
  run_keeps s t [] run leaves so = subst SoInState (sym run) so
  run_keeps s t (event ∷ answered) run leaves so =
      event_keeps run.0 t event run.2 (All-head (UnlessTold (LeavesSector at)) event answered leaves)
      (run_keeps s run.0 answered run.1 (All-tail (UnlessTold (LeavesSector at)) event answered leaves) so)

-- what is acknowledged
pub as_so : (s : State) (at : ℕ) (bytes : List ℕ) → Acknowledged s at bytes → SoInState (λ found. found ≡ bytes) at s
as_so (Unopened image) at bytes is = is
as_so (Disc s) at bytes is = is

pub so_acknowledged : (s : State) (at : ℕ) (bytes : List ℕ) → SoInState (λ found. found ≡ bytes) at s → Acknowledged s at bytes
so_acknowledged (Unopened image) at bytes is = is
so_acknowledged (Disc s) at bytes is = is
