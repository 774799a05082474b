-- That a block can be read until it dies, over the lines of a run.
use Rattle.std.specs.Prelude.{◌&&◌, not, ◌≡◌, ℕ, ◌+◌, ◌-◌, ◌<◌, ◌==◌, ◌⊎◌, Bool, true, false, is_some, IsSome, MatchBool, Option, Some, None, Result, Ok, Err, List, [], ◌∷◌}
use Rattle.std.proofs.Common.{arith, refl, sym, ap, ◌∙◌, inl, inr, subst}
use Rattle.std.proofs.lemmas.Bool.{true≢false}
use Rattle.std.proofs.lemmas.List.Elements.{All-head, All-tail}
use Rattle.model_geometry.specs.Geometry.{Shape, total}
use Rattle.model_medium.specs.Cells.{Cell, Blank, Good, Torn, Dead, IsGood, IsGoodOrDead, cell_at}
use Rattle.model_medium.specs.World.{World}
use Rattle.model_medium.specs.Machine.{Machine}
use Rattle.model_sectors.specs.Requests.{block_with, start_in, end_in}
use Rattle.model_sectors.specs.declared.ReadOut.TheVariants as reads
use Rattle.std.specs.Option.{option_map_or}
use Rattle.model_sectors.proofs.Covering.{covered_inside}
use Rattle.model_places.specs.Places.{Lists, logical_count, home_of}
use Rattle.model_drive.specs.declared.FormatOut.{FormatOut}
use Rattle.model_drive.specs.declared.Kind.TheVariants as kinds
use Rattle.model_drive.specs.Shown.{Shown, IsKnown, IsOn, cells_in, block_count, home, home_cell}
use Rattle.model_drive.specs.Reads.{MeetsUnread}
use Rattle.model_drive.specs.Sound.{IsSound}
use Rattle.model_drive.specs.Parts.{AreSameOrDead}
use Rattle.model_drive.specs.Formats.{FormatCauseBy}
use Rattle.model_costs.specs.Costs.{Lives}
use Rattle.model_costs.proofs.Living.{begins_living, dies_living, off_living, verify_living, power_living}
use Rattle.model_costs.proofs.Staying.{expand_living, rewrite_living}
use Rattle.model_cache.specs.Values.{Contents, IsPending}
use Rattle.model_cache.specs.Shown.{CacheShown, dropped}
use Rattle.model_cache.specs.Chains.{LeavesSound}
use Rattle.model_cache.specs.Causes.{CacheReadBy, leaves_after_format}
use Rattle.model_cache.specs.Falling.{Misses}
use Rattle.model_scrub.proofs.Chained.{HoldsOfVerifications, of_step, of_pass}
use Rattle.model_scrub.proofs.Meeting.{Meets, meets}
use Rattle.model_sense.specs.Sense.{sense_at}
use Rattle.model_sense.specs.declared.sense.Sense.{Sense}
use Rattle.model_sense.specs.declared.answer.Answer.{Answer}
use Rattle.model_sense.specs.declared.answer.Answer.TheVariants as answers
use Rattle.model_cdb.specs.declared.commands.Command.{Command}
use Rattle.model_cdb.specs.declared.commands.Command.TheVariants as commands
use Rattle.model_cdb.specs.Decoding.{decoded}
use Rattle.model_target.specs.declared.host.Host.{Host}
use Rattle.model_target.specs.Judging.{IsJudged}
use Rattle.model_target.specs.Steps.{TellsStructure, TellsSpares, IsDone, IsAnsweredBy, IsStep as ExecutesTo}
use Rattle.model_modes.specs.ParameterLists.{caches_after}
use Rattle.model_target.proofs.Settling.{Settles, started, selected}
use Rattle.ram_medium.specs.declared.control.FailEnd.{FailEnd}
use Rattle.ram_medium.specs.declared.control.FailEnd.TheVariants as fails
use Rattle.ram_states.specs.Control.{FailOnDrive}
use Rattle.ram_text.specs.declared.script.Line.{Line}
use Rattle.ram_text.specs.declared.script.Line.TheVariants as lines
use Rattle.ram_machine.specs.declared.reply.Reply.{Reply}
use Rattle.ram_machine.specs.declared.reply.Reply.TheVariants as replies
use Rattle.ram_machine.specs.declared.stopped.Stopped.TheVariants as stopped
use Rattle.ram_machine.specs.Replies.{Outcome}
use Rattle.ram_machine.specs.Scrubs.{WasToldUnreadable}
use Rattle.ram_machine.specs.States.{State, Served, Unopened, Disc, kind_of, IsLeft, IsFirst}
use Rattle.ram_machine.specs.LineSteps.{DiscRule, OnDisc, Step}
use Rattle.ram_machine.specs.Runs.{IsStep, Run}
use Rattle.ram_machine.specs.Answered.{AnsweredStep}
use Rattle.ram_machine.specs.OnlyTold.{WasOnlyTold}
use Rattle.ram_machine.proofs.Images.{image_left}
use Rattle.ram_machine.proofs.NoSpares.{checked_outcome}
use Rattle.ram_machine.proofs.ScrubbedLines.{executed}
use Rattle.ram_machine.proofs.Decoded.{asks_for}
use Rattle.ram_machine.proofs.Acknowledged.{not_pressed_by}
use Rattle.ram_machine.proofs.FairRuns.{cells_die, worn_world}
use Rattle.ram_machine.proofs.OnlyTold.{IsUnchangedIn, told_same}
use Rattle.ram_machine.proofs.Scrubbed.{AtMostDies, at_most_dies}
use Rattle.ram_machine.proofs.SoundChains.{contents_known}
use Rattle.ram_survival.specs.Living.{LeavesBlockAsAsked, LeavesBlockAsDecoded, LeavesBlock, LeaveBlock, IsSafe, StaysReadable, LivesNow, HasDied}
use Rattle.ram_survival.proofs.LastingRuns.{same_cells}
use Rattle.ram_survival.proofs.FormattedLines.{FormattedOn, line_formatted}
use Rattle.ram_survival.proofs.LivingFlushes.{none_pending, as_was, IsApart, IsKept, same_kept, sync_kept, tick_kept}
use Rattle.ram_survival.proofs.LivingCalls.{read_left, rewrite_left, expand_left, read_kept_alive, written_kept}

-- a request that misses the block comes to no sector of it
misses_apart : (i lba n : ℕ) → Misses lba n i → IsApart i lba n
misses_apart i lba n (inl before) k covered is = absurd (omega (arith, before, covered, is))
misses_apart i lba n (inr past) k covered is = let below = covered_inside lba n k i past covered in absurd (omega (arith, below, is))

-- pending blocks over verifications
over_verifications : (i : ℕ) → HoldsOfVerifications (λ faulted a b. IsPending b.pending i → IsPending a.pending i)
over_verifications i = record {
  none = λ s held. held;
  join = λ faulted a b c first then held. first (then held);
  verify = λ a b lba n out cause held. read_left out a.pending b.pending i cause.1 held;
}

-- what a rewriting format of a formatted disc leaves pending
format_left : (was now : Option Lists) (lists : Lists) (out : FormatOut) (pending after : List (ℕ × List ℕ)) (i : ℕ) → was ≡ Some lists → after ≡ leaves_after_format was now kinds.Rewrite out pending
    → IsPending after i → IsPending pending i
format_left None now lists out pending after i is left held = absurd (let clash : None ≡ Some lists = is in cc)
format_left (Some other) now lists out pending after i is left held = rewrite_left out pending after i left held

pub some_lists : (o : Option Lists) → IsSome o → (lists : Lists) × (o ≡ Some lists)
some_lists None some = absurd (true≢false (sym some))
some_lists (Some lists) some = (lists, refl)

pub by_lists : (old new : Shown) (was : Option Lists) (lists : Lists) (out : FormatOut) → was ≡ Some lists → FormatCauseBy old new was kinds.Rewrite out → FormatCauseBy old new (Some lists) kinds.Rewrite out
by_lists old new was lists out is cause = subst (λ (o : Option Lists). FormatCauseBy old new o kinds.Rewrite out) is cause

module _ (i : ℕ) (old new : CacheShown) (same : new.drive.shape ≡ old.drive.shape) (was_sound : IsSound old.drive) (sound : IsSound new.drive) (was_known : IsKnown old.drive) (is_known : IsKnown new.drive)
    (kept : StaysReadable old i) (before after : Contents → Type 0) where
  -- what a call of the disc leaves, and what it leaves pending
  pub record Leaves : Type 0 where
    pub lives : Lives new.drive i
    pub settled : ¬ IsPending new.pending i

  on_disc : IsKept old.drive.shape i old
  on_disc = record { on = record { well = record { sound = was_sound; known = was_known; same_shape = refl }; lives = kept.lives }; settled = kept.settled }

  from_kept : IsKept old.drive.shape i new → Leaves
  from_kept k = record { lives = k.on.lives; settled = k.settled }

  with_pending : Lives new.drive i → (IsPending new.pending i → IsPending old.pending i) → Leaves
  with_pending lives left = record { lives = lives; settled = λ held. kept.settled (left held) }

  untouched : new ≡ old → Leaves
  untouched is = from_kept (same_kept old.drive.shape i old new is on_disc)

  told : (structure : Bool) (alloc : ℕ) (answer : Answer) (data_in : List ℕ)
      → MatchBool structure (TellsStructure old new before after alloc answer data_in) (TellsSpares old new before after alloc answer data_in) → Leaves
  told true alloc answer data_in p = untouched p.is_answered.untouched.same
  told false alloc answer data_in p = untouched p.untouched.same

  rewritten : IsOn old.drive → (out : FormatOut) → FormatCauseBy old.drive new.drive old.drive.lists kinds.Rewrite out → new.pending ≡ leaves_after_format old.drive.lists new.drive.lists kinds.Rewrite out old.pending → Leaves
  rewritten on out cause left =
      let found = some_lists old.drive.lists (kept.formatted on) in
      with_pending (rewrite_living i old.drive new.drive same was_sound sound was_known is_known kept.lives found.0 found.1 out (by_lists old.drive new.drive old.drive.lists found.0 out found.1 cause))
      (format_left old.drive.lists new.drive.lists found.0 out old.pending new.pending i found.1 left)

  settles_leaves : (answer : Answer) (data_in : List ℕ) → Settles old new before after answer data_in → Leaves
  settles_leaves answer data_in p =
      let k = sync_kept old.drive.shape i old p.mid p.out p.cause on_disc in
      record { lives = subst (λ (x : Shown). Lives x i) (sym p.same_drive) k.on.lives; settled = λ held. k.settled (as_was p.mid.pending new.pending i p.same_pending held) }

  done_leaves : IsOn old.drive → (host : Host) (payload : List ℕ) (command : Command) (answer : Answer) (data_in : List ℕ) → LeavesBlockAsAsked i command
      → IsDone old new before after host payload command answer data_in → Leaves
  done_leaves on host payload (commands.Format (kinds.Full drop_sdl)) answer data_in leaves p = absurd leaves
  done_leaves on host payload (commands.Format kinds.Rewrite) answer data_in leaves p = rewritten on p.out p.cause.0 p.cause.1
  done_leaves on host payload (commands.Expand sectors) answer data_in leaves p =
      with_pending (expand_living i old.drive new.drive same was_sound sound was_known is_known kept.lives sectors p.out p.cause.0) (expand_left p.out new old.pending new.pending i p.cause.1)
  done_leaves on host payload (commands.Read lba n) answer data_in leaves p = from_kept (read_kept_alive old.drive.shape i lba n old new p.out p.cause on_disc)
  done_leaves on host payload (commands.Write lba n fua) answer data_in leaves p =
      from_kept (written_kept old.drive.shape i lba n (misses_apart i lba n leaves) fua payload old new p.out p.cause on_disc)
  done_leaves on host payload (commands.Verify lba n) answer data_in leaves p =
      with_pending (verify_living i old.drive new.drive same sound is_known lba n p.out kept.lives p.cause.0) (read_left p.out old.pending new.pending i p.cause.1)
  done_leaves on host payload commands.Synchronize answer data_in leaves p = from_kept (sync_kept old.drive.shape i old new p.out p.cause on_disc)
  done_leaves on host payload (commands.StartStop start eject) answer data_in leaves p =
      elim (started old new before after (eject && not start) answer data_in p) [ inl settles ↦ settles_leaves answer data_in settles | inr q ↦ untouched q.untouched.same ]
  done_leaves on host payload commands.ModeSelect answer data_in leaves p =
      elim (selected old new before after (old.caches && not (caches_after payload old.caches)) payload answer data_in p) [
        | inl settles ↦ settles_leaves answer data_in settles
        | inr q ↦ from_kept (subst (IsKept old.drive.shape i) (sym q.mode) (record { on = on_disc.on; settled = on_disc.settled }))
      ]
  done_leaves on host payload (commands.Structure format alloc) answer data_in leaves p = told (format == 0x08) alloc answer data_in p
  done_leaves on host payload command answer data_in leaves p = untouched p.untouched.same

  judged_leaves : IsOn old.drive → (host : Host) (formatted : Bool) (cdb payload : List ℕ) (judged : Result Command Sense) (answer : Answer) (data_in : List ℕ) → IsJudged host formatted cdb payload judged
      → IsAnsweredBy old new before after host payload judged answer data_in → LeavesBlockAsDecoded i (decoded cdb payload) → Leaves
  judged_leaves on host formatted cdb payload (Err why) answer data_in judged p leaves = untouched p.untouched.same
  judged_leaves on host formatted cdb payload (Ok command) answer data_in judged p leaves =
      done_leaves on host payload command answer data_in (subst (LeavesBlockAsDecoded i) (asks_for host formatted cdb payload command judged) leaves) p

  command_leaves : (host later : Host) (cdb payload : List ℕ) (answer : Answer) (data_in : List ℕ) → ExecutesTo old new before after host later cdb payload answer data_in
      → LeavesBlockAsDecoded i (decoded cdb payload) → Leaves
  command_leaves host later cdb payload answer data_in (inl off) leaves = untouched off.1.is_answered.untouched.same
  command_leaves host later cdb payload answer data_in (inr on) leaves =
      judged_leaves on.0 host (is_some old.drive.lists) cdb payload on.1.judged answer data_in on.1.is_judged on.1.is_answered leaves

  dying : (new.drive.lists ≡ old.drive.lists) ⊎ (new.drive.lists ≡ None) → AreSameOrDead (cells_in old.drive) (cells_in new.drive) → Lives new.drive i
  dying (inl kept_lists) dies = dies_living i old.drive new.drive same kept_lists dies kept.lives
  dying (inr none) dies = off_living i old.drive new.drive same none dies kept.lives

  at_most : AtMostDies old.drive new.drive → Lives new.drive i
  at_most p = dying (elim p.lists [ inl kept_lists ↦ inl kept_lists | inr off ↦ inr off.0 ]) p.dies

  failed : (block : ℕ) (end : FailEnd) → FailOnDrive old.drive new.drive block end → Lives new.drive i
  failed block fails.Done p = dying (inl p.1.same_lists) (cells_die (total old.drive.shape) old.drive.medium new.drive.medium block fails.Done p.0)
  failed block (fails.NoBlock blocks) p = dying (inl p.1.same_lists) (cells_die (total old.drive.shape) old.drive.medium new.drive.medium block (fails.NoBlock blocks) p.0)
  failed block fails.Failed p = dying (inr p.1.no_lists) (cells_die (total old.drive.shape) old.drive.medium new.drive.medium block fails.Failed p.0)

  still : new.drive.lists ≡ old.drive.lists → new.drive.medium.world ≡ old.drive.medium.world → Lives new.drive i
  still lists world = dying (inl lists) (λ block. inl (ap (λ (w : World). cell_at w.cells block) world))

  line_leaves : (host later : Host) (line : Line) (payload : List ℕ) (outcome : Outcome) (data_in : List ℕ) → DiscRule old new before after host later line payload outcome data_in
      → LeavesBlock i line payload outcome → Leaves
  line_leaves host later lines.Power payload outcome data_in p leaves = record {
    lives = power_living i old.drive new.drive same sound is_known was_known kept.lives p.0.out p.0.powered.cause.0;
    settled = none_pending new.pending i p.0.powered.cause.1.0;
  }
  line_leaves host later (lines.Fail block) payload outcome data_in p leaves = with_pending (failed block p.0.end p.0.rule) (as_was old.pending new.pending i p.0.cache.0)
  line_leaves host later (lines.Wear block n) payload outcome data_in p leaves =
      with_pending (still p.0.keeps.memory.same_lists (worn_world _ old.drive.medium new.drive.medium (record { block = block; left = n }) p.0.end p.0.rule)) (as_was old.pending new.pending i p.0.keeps.cache.0)
  line_leaves host later (lines.Cut n fate) payload outcome data_in p leaves =
      with_pending (still p.0.keeps.memory.same_lists (ap (λ (m : Machine). m.world) p.0.armed)) (as_was old.pending new.pending i p.0.keeps.cache.0)
  line_leaves host later lines.Tick payload outcome data_in p leaves = from_kept (tick_kept old.drive.shape i old new p.0.out p.0.cause on_disc)
  line_leaves host later (lines.Scrub false) payload outcome data_in p leaves =
      with_pending (at_most (of_step (λ faulted a b. AtMostDies a.drive b.drive) at_most_dies old new p.from p.to p.end p.rule))
      (of_step (λ faulted a b. IsPending b.pending i → IsPending a.pending i) (over_verifications i) old new p.from p.to p.end p.rule)
  line_leaves host later (lines.Scrub true) payload outcome data_in p leaves =
      with_pending (at_most (of_pass (λ faulted a b. AtMostDies a.drive b.drive) at_most_dies old new p.from p.to p.end p.rule))
      (of_pass (λ faulted a b. IsPending b.pending i → IsPending a.pending i) (over_verifications i) old new p.from p.to p.end p.rule)
  line_leaves host later (lines.Command cdb) payload outcome data_in p leaves = command_leaves host later cdb payload p.answer data_in p.step leaves
  line_leaves host later _ payload outcome data_in p leaves = absurd p

-- ---- states

module _ (i : ℕ) where
  on_disc_lives : (s : Served) (t : State) (line : Line) (payload : List ℕ) (outcome : Outcome) (data_in : List ℕ) → OnDisc (Disc s) line payload outcome data_in t → LeavesBlock i line payload outcome
      → LivesNow (Disc s) i → LivesNow t i
  on_disc_lives s (Unopened image) line payload outcome data_in step leaves lives = absurd step
  on_disc_lives s (Disc t) line payload outcome data_in step leaves lives =
      let left = line_leaves i s.disc.shown t.disc.shown step.same_shape s.disc.sound t.disc.sound (contents_known s.disc.shown s.disc.contents s.disc.stands) (contents_known t.disc.shown t.disc.contents t.disc.stands) lives
      (λ x. x ≡ s.disc.contents) (λ x. x ≡ t.disc.contents) s.host t.host line payload outcome data_in step.rule leaves in
      record {
        lives = left.lives;
        settled = left.settled;
        formatted = line_formatted i s.disc.shown t.disc.shown lives.formatted (λ x. x ≡ s.disc.contents) (λ x. x ≡ t.disc.contents) s.host t.host line payload outcome data_in step.rule leaves;
      }

  pub step_lives : (s t : State) (line : Line) (payload data_in : List ℕ) (outcome : Outcome) → Step s line payload outcome data_in t → LeavesBlock i line payload outcome → LivesNow s i → LivesNow t i
  step_lives (Unopened image) t line payload data_in outcome step leaves lives = absurd lives
  step_lives (Disc s) t lines.Empty payload data_in outcome step leaves lives = subst (λ (x : State). LivesNow x i) (sym step.2) lives
  step_lives (Disc s) t (lines.Press zones scale psa) payload data_in outcome step leaves lives =
      subst (λ (x : State). LivesNow x i) (sym (not_pressed_by (Disc s) t zones scale psa outcome step.0 leaves)) lives
  step_lives (Disc s) t line payload data_in outcome step leaves lives = on_disc_lives s t line payload outcome data_in step leaves lives

  told_lives : (s t : State) → IsUnchangedIn s t → LivesNow s i → LivesNow t i
  told_lives (Unopened image) t is lives = absurd lives
  told_lives (Disc s) (Unopened image) is lives = absurd is
  told_lives (Disc s) (Disc t) is lives = record {
    lives = subst (λ (x : Shown). Lives x i) (sym is.same_drive) lives.lives;
    settled = λ held. lives.settled (held.0, is.pending i held.0 held.1);
    formatted = subst FormattedOn (sym is.same_drive) lives.formatted;
  }

  abbrev Left : AnsweredStep → Type 0
  Left event = WasOnlyTold event.reply ⊎ LeavesBlock i event.line event.payload (Ok event.reply)

  event_lives : (s t : State) (event : AnsweredStep) → IsStep s event t → Left event → LivesNow s i → LivesNow t i
  event_lives s t event step (inl only) lives = told_lives s t (told_same s t event.line event.payload event.data_in event.reply step only) lives
  event_lives s t event step (inr leaves) lives = step_lives s t event.line event.payload event.data_in (Ok event.reply) step leaves lives

  pub run_lives : (s t : State) (events : List AnsweredStep) → Run s events t → LeaveBlock i events → LivesNow s i → LivesNow t i
  run_lives s t [] run leave lives = subst (λ (x : State). LivesNow x i) (sym run) lives
  run_lives s t (event ∷ events) run leave lives =
      event_lives run.0 t event run.2 (All-head Left event events leave) (run_lives s run.0 events run.1 (All-tail Left event events leave) lives)

  -- what is safe lives
  pub safe_lives : (s : State) → IsSafe s i → LivesNow s i
  safe_lives (Unopened image) safe = absurd safe
  safe_lives (Disc s) safe =
      let found = some_lists s.disc.shown.drive.lists safe.formatted in
      record {
        lives = begins_living i s.disc.shown.drive found.0 s.disc.sound (contents_known s.disc.shown s.disc.contents s.disc.stands) found.1 safe.good;
        settled = safe.settled;
        formatted = λ on. safe.formatted;
      }

  -- an image that is opened again
  pub image_lives : (s t : State) (bytes : List ℕ) → LivesNow s i → IsLeft s bytes → IsFirst bytes t → kind_of t ≡ kind_of s → LivesNow t i
  image_lives (Unopened held) t bytes lives left first kind = absurd lives
  image_lives (Disc s) (Unopened held) bytes lives left first kind = absurd (first.1 s.disc.shown.drive.shape (sym kind) (image_left s bytes left).disc)
  image_lives (Disc s) (Disc t) bytes lives left first kind =
      let same = same_cells s t bytes left first kind in
      record {
        lives = off_living i s.disc.shown.drive t.disc.shown.drive same.0 (ap (λ (x : CacheShown). x.drive.lists) first.2.opened.shown_is)
            (λ block. inl (ap (λ (cells : List Cell). cell_at cells block) same.1)) lives.lives;
        settled = none_pending t.disc.shown.pending i (ap (λ (x : CacheShown). x.pending) first.2.opened.shown_is);
        formatted = λ on. absurd (same.2 on);
      }

-- ---- a read that cannot read the block

-- of a cell that is good or dead
dead_one : (cell : Cell) → IsGoodOrDead cell → ¬ IsGood cell → cell ≡ Dead
dead_one Blank lives unread = absurd lives
dead_one (Good bytes) lives unread = absurd (unread tt)
dead_one Torn lives unread = absurd lives
dead_one Dead lives unread = refl

module _ (a b : Shown) (lba n named block : ℕ) (leaves : LeavesSound a b) (cause : MeetsUnread a b lba n named block) (lives : Lives b (block_with named)) where
  found : Meets a b named
  found = meets a b lba n named block cause

  by_these : (lists : Lists) → a.lists ≡ Some lists → home_cell b (block_with named) ≡ Dead
  by_these lists is =
      let now : b.lists ≡ Some lists = cause.keeps.same_lists ∙ is in
      let there : home b (block_with named) ≡ home_of b.shape lists (block_with named) = ap (λ (o : Option Lists). option_map_or (λ l. home_of b.shape l (block_with named)) o 0) now in
      let count : block_count a ≡ logical_count b.shape lists = ap (λ (o : Option Lists). option_map_or (logical_count a.shape) o 0) is ∙ ap (λ (z : Shape). logical_count z lists) (sym leaves.same_shape) in
      let inside : block_with named < logical_count b.shape lists = subst (λ (c : ℕ). block_with named < c) count found.inside in
      dead_one (home_cell b (block_with named)) (subst (λ (at : ℕ). IsGoodOrDead (cell_at (cells_in b) at)) (sym there) (lives.in_use lists now inside)) found.unread

  unread_dead : home_cell b (block_with named) ≡ Dead
  unread_dead = let all = some_lists a.lists cause.inside.formatted in by_these all.0 all.1

dead_by : (pending : List (ℕ × List ℕ)) (old new : CacheShown) (lba n named block : ℕ) → CacheReadBy pending old new lba n (reads.Unread named block) → Lives new.drive (block_with named)
    → home_cell new.drive (block_with named) ≡ Dead
dead_by [] old new lba n named block p lives = unread_dead old.drive new.drive lba n named block p.0.leaves p.0.cause lives
dead_by (held ∷ pending) old new lba n named block p lives =
    let at : ℕ = block_with lba + p.before in
    unread_dead p.mid.drive new.drive (start_in lba at) (end_in lba n at - start_in lba at) named block p.ends.0.leaves p.ends.0.cause lives

module _ (cdb payload data_in : List ℕ) (lba n named : ℕ) (asks : decoded cdb payload ≡ Ok (commands.Read lba n)) where
  dies_on : (t u : State) → OnDisc t (lines.Command cdb) payload (Ok (replies.Command cdb (answers.Check (sense_at 0x3 0x11 0x00 named)))) data_in u
      → LivesNow u (block_with named) → HasDied u (block_with named)
  dies_on (Unopened image) u step lives = absurd (let clash : Ok (replies.Command cdb (answers.Check (sense_at 0x3 0x11 0x00 named))) ≡ Err stopped.NotADisc = step.0 in cc)
  dies_on (Disc t) (Unopened image) step lives = absurd step
  dies_on (Disc t) (Disc u) step lives =
      let answer : step.rule.answer ≡ answers.Check (sense_at 0x3 0x11 0x00 named) = checked_outcome cdb (sense_at 0x3 0x11 0x00 named) step.rule.answer step.rule.outcome_is in
      let unread = executed t.disc.shown u.disc.shown (λ x. x ≡ t.disc.contents) (λ x. x ≡ u.disc.contents) t.host u.host cdb payload data_in lba n named asks
      (subst (λ (a : Answer). ExecutesTo t.disc.shown u.disc.shown (λ x. x ≡ t.disc.contents) (λ x. x ≡ u.disc.contents) t.host u.host cdb payload a data_in) answer step.rule.step) in
      dead_by (dropped t.disc.shown).pending (dropped t.disc.shown) u.disc.shown lba n named unread.block unread.cause lives.lives

pub read_dies : (t u : State) (event : AnsweredStep) (lba n named : ℕ) → LivesNow t (block_with named) → IsStep t event u → WasToldUnreadable event lba n named → HasDied u (block_with named)
read_dies t u event lba n named lives step unread =
    let asked = subst (LeavesBlockAsDecoded (block_with named)) (sym unread.asks) tt in
    let by_line = subst (λ (l : Line). Step t l event.payload (Ok (replies.Command unread.cdb (answers.Check (sense_at 0x3 0x11 0x00 named)))) event.data_in u) unread.line_is
    (subst (λ (r : Reply). Step t event.line event.payload (Ok r) event.data_in u) unread.reply_is step) in
    dies_on unread.cdb event.payload event.data_in lba n named unread.asks t u by_line
    (step_lives (block_with named) t u (lines.Command unread.cdb) event.payload event.data_in (Ok (replies.Command unread.cdb (answers.Check (sense_at 0x3 0x11 0x00 named)))) by_line asked lives)
