-- No line but a press and a full format makes a formatted disc unformatted.
use Rattle.std.specs.Prelude.{◌&&◌, not, ◌≡◌, ℕ, ◌==◌, ◌*◌, ◌⊎◌, Bool, true, false, IsTrue, is_some, Option, Some, None, Result, Ok, Err, List, [], ◌∷◌}
use Rattle.std.specs.Bool.{MatchBool}
use Rattle.std.specs.List.{Contains}
use Rattle.std.proofs.Common.{arith, zero, suc, refl, sym, ap, ◌∙◌, inl, inr, subst}
use Rattle.std.proofs.lemmas.Bool.{false≢true}
use Rattle.std.proofs.lemmas.List.Elements.{All-head, All-tail}
use Rattle.model_geometry.specs.Geometry.{Shape, total}
use Rattle.model_lists.specs.declared.versions.Version.{Version}
use Rattle.model_medium.specs.Cells.{Cell, Dead, cell_at}
use Rattle.model_medium.specs.World.{World}
use Rattle.model_medium.specs.Machine.{Machine}
use Rattle.model_drive.specs.declared.WriteOut.{WriteOut}
use Rattle.model_cache.specs.Values.{Contents}
use Rattle.model_cache.specs.Shown.{CacheShown}
use Rattle.model_cache.proofs.Chained.{HoldsOfChains, of_read, of_write, of_through, of_sync, of_tick}
use Rattle.model_drive.proofs.Kept.{read_kept, write_kept}
use Rattle.model_sectors.specs.declared.PowerOut.{PowerOut}
use Rattle.model_sectors.specs.declared.PowerOut.TheVariants as powers
use Rattle.model_places.specs.Places.{Lists, count_of, capacity_of}
use Rattle.model_lists.specs.Values.{Dds, Sdl}
use Rattle.model_pools.proofs.Replacements.{Contains-first, Contains-later}
use Rattle.model_pools.proofs.Listed.{Contains-from_filter}
use Rattle.model_survival.specs.Findable.{SdlLives, HaveTwoCopies, IsFindable}
use Rattle.model_image.specs.Cells.{cells_of}
use Rattle.model_image.proofs.Headers.{one_header}
use Rattle.model_drive.specs.declared.Kind.TheVariants as kinds
use Rattle.model_drive.specs.Shown.{Shown, IsKnown, IsOn, cells_in}
use Rattle.model_drive.specs.Sound.{IsSound}
use Rattle.model_drive.specs.Parts.{AreSameOrDead}
use Rattle.model_drive.specs.declared.ExpandOut.{ExpandOut}
use Rattle.model_drive.specs.declared.ExpandOut.TheVariants as expands
use Rattle.model_lasting.specs.Lasting.{KeepsTwoCopies, StaysFormatted, TellsSize, DeadStay, sizes_found, sizes_expanded as by_out}
use Rattle.model_lasting.proofs.Staying.{begins, power_stays, read_stays, verify_stays, write_stays, expand_stays, format_stays, dies_stays}
use Rattle.model_lasting.proofs.DeadCells.{power_dead, read_dead, verify_dead, write_dead, expand_dead, format_dead}
use Rattle.model_scrub.proofs.Chained.{of_step, of_pass}
use Rattle.model_sense.specs.declared.sense.Sense.{Sense}
use Rattle.model_sense.specs.declared.answer.Answer.{Answer}
use Rattle.model_sense.specs.declared.answer.Answer.TheVariants as answers
use Rattle.model_cdb.specs.declared.commands.Command.{Command}
use Rattle.model_cdb.specs.declared.commands.Command.TheVariants as commands
use Rattle.model_cdb.specs.Decoding.{decoded}
use Rattle.model_target.specs.declared.host.Host.{Host}
use Rattle.model_target.specs.Judging.{IsJudged}
use Rattle.model_target.specs.Steps.{WrittenCause, TellsStructure, TellsSpares, IsExpanded, expand_answer, IsDone, IsAnsweredBy, IsStep as ExecutesTo}
use Rattle.ram_medium.specs.declared.control.FailEnd.{FailEnd}
use Rattle.ram_medium.specs.declared.control.FailEnd.TheVariants as fails
use Rattle.ram_states.specs.Control.{FailOnDrive}
use Rattle.ram_report.specs.declared.printing.Event.TheVariants as events
use Rattle.ram_text.specs.declared.script.Line.{Line}
use Rattle.ram_text.specs.declared.script.Line.TheVariants as lines
use Rattle.model_modes.specs.ParameterLists.{caches_after}
use Rattle.model_target.proofs.Settling.{Settles, started, selected}
use Rattle.ram_machine.specs.declared.reply.Reply.{Reply}
use Rattle.ram_machine.specs.declared.reply.Reply.TheVariants as replies
use Rattle.ram_machine.specs.declared.stopped.Stopped.TheVariants as stopped
use Rattle.ram_machine.specs.Replies.{Outcome, power_outcome, command_outcome}
use Rattle.ram_machine.specs.States.{State, Served, Unopened, Disc, renewed, kind_of, IsLeft, IsFirst}
use Rattle.ram_machine.specs.LineSteps.{DiscRule, OnDisc, Step}
use Rattle.ram_machine.specs.Runs.{IsStep, Run}
use Rattle.ram_machine.specs.Answered.{AnsweredStep}
use Rattle.ram_machine.specs.OnlyTold.{WasOnlyTold, UnlessTold}
use Rattle.ram_machine.proofs.OnlyTold.{IsUnchangedIn, told_same}
use Rattle.ram_survival.specs.Survival.{KeepsAsAsked, KeepsAsDecoded, KeepsDisc, KeepDisc, AsksNoExpansion, LeavesCapacity, LeaveCapacity, sizes_outcome, sizes_asked, sizes_powered, sizes_with, sizes_after, sizes_left, IsCapacityBy, HasShape, HasInUse, HasTwoCopies, LastsNow, IsReadyOrCut, RunLeaves}
use Rattle.ram_machine.proofs.Images.{image_left, kind_again}
use Rattle.ram_machine.proofs.Scrubbed.{AtMostDies, at_most_dies}
use Rattle.ram_machine.proofs.SoundChains.{contents_known, IsWell}
use Rattle.ram_machine.proofs.Decoded.{asks_for}
use Rattle.ram_machine.proofs.Acknowledged.{not_pressed_by}
use Rattle.ram_machine.proofs.FairRuns.{cells_die, worn_world}

-- ---- dead cells stay dead

die_dead : (old new : List Cell) → AreSameOrDead old new → (block : ℕ) → cell_at old block ≡ Dead → cell_at new block ≡ Dead
die_dead old new dies block dead = elim (dies block) [ inl same ↦ same ∙ dead | inr is ↦ is ]

module _ (old new : Shown) where
  same_dead : new ≡ old → DeadStay old new
  same_dead is block dead = ap (λ (s : Shown). cell_at (cells_in s) block) is ∙ dead

  world_dead : new.medium.world ≡ old.medium.world → DeadStay old new
  world_dead is block dead = ap (λ (w : World). cell_at w.cells block) is ∙ dead

  fail_dead : (block : ℕ) (end : FailEnd) → FailOnDrive old new block end → DeadStay old new
  fail_dead block fails.Done p = die_dead (cells_in old) (cells_in new) (cells_die (total old.shape) old.medium new.medium block fails.Done p.0)
  fail_dead block (fails.NoBlock blocks) p = die_dead (cells_in old) (cells_in new) (cells_die (total old.shape) old.medium new.medium block (fails.NoBlock blocks) p.0)
  fail_dead block fails.Failed p = die_dead (cells_in old) (cells_in new) (cells_die (total old.shape) old.medium new.medium block fails.Failed p.0)

-- over calls of the disc, one after another
stays_dead : HoldsOfChains (λ faulted a b. DeadStay a b)
stays_dead = record {
  none = λ s block dead. dead;
  join = λ faulted a b c first then block dead. then block (first block dead);
  read = λ a b lba n out leaves cause. read_dead a b lba n out cause;
  write = λ a b lba n out leaves cause. write_dead a b lba n out cause;
}

module _ (old new : CacheShown) (before after : Contents → Type 0) where
  cache_dead : new ≡ old → DeadStay old.drive new.drive
  cache_dead is block dead = ap (λ (s : CacheShown). cell_at (cells_in s.drive) block) is ∙ dead

  written_dead : (lba n : ℕ) (payload : List ℕ) (fua : Bool) (out : WriteOut) → WrittenCause old new lba n payload fua out → DeadStay old.drive new.drive
  written_dead lba n payload true out cause = of_through (λ faulted a b. DeadStay a b) stays_dead lba n old new out cause
  written_dead lba n payload false out cause = of_write (λ faulted a b. DeadStay a b) stays_dead lba n payload old new out cause

  told_dead : (structure : Bool) (alloc : ℕ) (answer : Answer) (data_in : List ℕ)
      → MatchBool structure (TellsStructure old new before after alloc answer data_in) (TellsSpares old new before after alloc answer data_in) → DeadStay old.drive new.drive
  told_dead true alloc answer data_in p = cache_dead p.is_answered.untouched.same
  told_dead false alloc answer data_in p = cache_dead p.untouched.same

  settles_dead : (answer : Answer) (data_in : List ℕ) → Settles old new before after answer data_in → DeadStay old.drive new.drive
  settles_dead answer data_in p = subst (DeadStay old.drive) (sym p.same_drive) (of_sync (λ faulted a b. DeadStay a b) stays_dead old p.mid p.out p.cause)

  done_dead : (host : Host) (payload : List ℕ) (command : Command) (answer : Answer) (data_in : List ℕ) → IsDone old new before after host payload command answer data_in → DeadStay old.drive new.drive
  done_dead host payload commands.TestUnitReady answer data_in p = cache_dead p.untouched.same
  done_dead host payload (commands.RequestSense alloc) answer data_in p = cache_dead p.untouched.same
  done_dead host payload (commands.Format kind) answer data_in p = format_dead old.drive new.drive kind p.out p.cause.0
  done_dead host payload (commands.Expand sectors) answer data_in p = expand_dead old.drive new.drive sectors p.out p.cause.0
  done_dead host payload (commands.Inquiry vital alloc) answer data_in p = cache_dead p.untouched.same
  done_dead host payload (commands.StartStop start eject) answer data_in p =
      elim (started old new before after (eject && not start) answer data_in p) [ inl settles ↦ settles_dead answer data_in settles | inr q ↦ cache_dead q.untouched.same ]
  done_dead host payload (commands.Prevent on) answer data_in p = cache_dead p.untouched.same
  done_dead host payload (commands.FormatCapacities alloc) answer data_in p = cache_dead p.untouched.same
  done_dead host payload commands.ReadCapacity answer data_in p = cache_dead p.untouched.same
  done_dead host payload (commands.Read lba n) answer data_in p = of_read (λ faulted a b. DeadStay a b) stays_dead lba n old new p.out p.cause
  done_dead host payload (commands.Write lba n fua) answer data_in p = written_dead lba n payload fua p.out p.cause
  done_dead host payload (commands.Verify lba n) answer data_in p = verify_dead old.drive new.drive lba n p.out p.cause.0
  done_dead host payload commands.Synchronize answer data_in p = of_sync (λ faulted a b. DeadStay a b) stays_dead old new p.out p.cause
  done_dead host payload (commands.Configuration rt start alloc) answer data_in p = cache_dead p.untouched.same
  done_dead host payload (commands.Events media alloc) answer data_in p = cache_dead p.untouched.same
  done_dead host payload (commands.DiscInformation alloc) answer data_in p = cache_dead p.untouched.same
  done_dead host payload commands.ModeSelect answer data_in p =
      elim (selected old new before after (old.caches && not (caches_after payload old.caches)) payload answer data_in p) [
        | inl settles ↦ settles_dead answer data_in settles
        | inr q ↦ (λ block dead. ap (λ (s : CacheShown). cell_at (cells_in s.drive) block) q.mode ∙ dead)
      ]
  done_dead host payload (commands.ModeSense short control page alloc) answer data_in p = cache_dead p.untouched.same
  done_dead host payload (commands.Structure format alloc) answer data_in p = told_dead (format == 0x08) alloc answer data_in p
  done_dead host payload commands.Streaming answer data_in p = cache_dead p.untouched.same

  judged_dead : (host : Host) (payload : List ℕ) (judged : Result Command Sense) (answer : Answer) (data_in : List ℕ) → IsAnsweredBy old new before after host payload judged answer data_in → DeadStay old.drive new.drive
  judged_dead host payload (Err why) answer data_in p = cache_dead p.untouched.same
  judged_dead host payload (Ok command) answer data_in p = done_dead host payload command answer data_in p

  command_dead : (host later : Host) (cdb payload : List ℕ) (answer : Answer) (data_in : List ℕ) → ExecutesTo old new before after host later cdb payload answer data_in → DeadStay old.drive new.drive
  command_dead host later cdb payload answer data_in (inl off) = cache_dead off.1.is_answered.untouched.same
  command_dead host later cdb payload answer data_in (inr on) = judged_dead host payload on.1.judged answer data_in on.1.is_answered

  line_dead : (host later : Host) (line : Line) (payload : List ℕ) (outcome : Outcome) (data_in : List ℕ) → DiscRule old new before after host later line payload outcome data_in → DeadStay old.drive new.drive
  line_dead host later lines.Power payload outcome data_in p = power_dead old.drive new.drive p.0.out p.0.powered.cause.0
  line_dead host later (lines.Fail block) payload outcome data_in p = fail_dead old.drive new.drive block p.0.end p.0.rule
  line_dead host later (lines.Wear block n) payload outcome data_in p = world_dead old.drive new.drive (worn_world _ old.drive.medium new.drive.medium (record { block = block; left = n }) p.0.end p.0.rule)
  line_dead host later (lines.Cut n fate) payload outcome data_in p = world_dead old.drive new.drive (ap (λ (m : Machine). m.world) p.0.armed)
  line_dead host later lines.Tick payload outcome data_in p = of_tick (λ faulted a b. DeadStay a b) stays_dead old new p.0.out p.0.cause
  line_dead host later (lines.Scrub false) payload outcome data_in p =
      die_dead (cells_in old.drive) (cells_in new.drive) (of_step (λ faulted a b. AtMostDies a.drive b.drive) at_most_dies old new p.from p.to p.end p.rule).dies
  line_dead host later (lines.Scrub true) payload outcome data_in p =
      die_dead (cells_in old.drive) (cells_in new.drive) (of_pass (λ faulted a b. AtMostDies a.drive b.drive) at_most_dies old new p.from p.to p.end p.rule).dies
  line_dead host later (lines.Command cdb) payload outcome data_in p = command_dead host later cdb payload p.answer data_in p.step
  line_dead host later _ payload outcome data_in p = absurd p

-- so what has two copies had them before
two_before : (old new : Shown) (version : Version) → new.shape ≡ old.shape → DeadStay old new → KeepsTwoCopies new version → KeepsTwoCopies old version
two_before old new version same stay two = by_shape (subst (λ (s : Shape). HaveTwoCopies s (cells_in new) version) same two)
  where
    alive : (block : ℕ) → ¬ (cell_at (cells_in new) block ≡ Dead) → ¬ (cell_at (cells_in old) block ≡ Dead)
    alive block lives dead = lives (stay block dead)

    lives_before : (area : ℕ) → SdlLives old.shape (cells_in new) version area → SdlLives old.shape (cells_in old) version area
    lives_before area lives = record { first = alive _ lives.first; second = λ two'. alive _ (lives.second two') }

    by_shape : HaveTwoCopies old.shape (cells_in new) version → HaveTwoCopies old.shape (cells_in old) version
    by_shape h = record {
      of_dds = record {
        lower = h.of_dds.lower;
        upper = h.of_dds.upper;
        differ = h.of_dds.differ;
        is_lower = h.of_dds.is_lower;
        is_upper = h.of_dds.is_upper;
        in_lower = alive _ h.of_dds.in_lower;
        in_upper = alive _ h.of_dds.in_upper;
      };
      of_sdl = record {
        lower = h.of_sdl.lower;
        upper = h.of_sdl.upper;
        differ = h.of_sdl.differ;
        is_lower = h.of_sdl.is_lower;
        is_upper = h.of_sdl.is_upper;
        in_lower = lives_before h.of_sdl.lower h.of_sdl.in_lower;
        in_upper = lives_before h.of_sdl.upper h.of_sdl.in_upper;
      };
    }

-- ---- a line on a formatted disc

module _ (old new : Shown) (same : new.shape ≡ old.shape) (version : Version) (sizes : List ℕ) (s : StaysFormatted old version sizes) where
  fail_lasts : (block : ℕ) (end : FailEnd) → FailOnDrive old new block end → StaysFormatted new version sizes
  fail_lasts block fails.Done p = dies_stays old new version sizes same s (λ on. subst (λ (m : Machine). IsTrue m.world.power) p.0.1 on) (λ on. p.1.same_lists) (cells_die (total old.shape) old.medium new.medium block fails.Done p.0)
  fail_lasts block (fails.NoBlock blocks) p = dies_stays old new version sizes same s (λ on. subst (λ (m : Machine). IsTrue m.world.power) p.0.2 on) (λ on. p.1.same_lists) (cells_die (total old.shape) old.medium new.medium block (fails.NoBlock blocks) p.0)
  fail_lasts block fails.Failed p = dies_stays old new version sizes same s (λ on. absurd (p.0.1.turns_off on)) (λ on. absurd (p.0.1.turns_off on)) (cells_die (total old.shape) old.medium new.medium block fails.Failed p.0)

  -- where at most blocks died
  dead_lasts : AtMostDies old new → StaysFormatted new version sizes
  dead_lasts p = dies_stays old new version sizes same s p.was_on (λ on. kept on p.lists) p.dies
    where
      kept : IsOn new → (new.lists ≡ old.lists) ⊎ ((new.lists ≡ None) × ¬ IsOn new) → new.lists ≡ old.lists
      kept on (inl is) = is
      kept on (inr off) = absurd (off.1 on)

  still_lasts : new.lists ≡ old.lists → new.medium.world ≡ old.medium.world → StaysFormatted new version sizes
  still_lasts kept world = dies_stays old new version sizes same s (λ on. subst (λ (w : World). IsTrue w.power) world on) (λ on. kept) (λ block. inl (ap (λ (w : World). cell_at w.cells block) world))

-- over calls of the disc, one after another
abbrev StaysOn : Version → List ℕ → Bool → Shown → Shown → Type 0
StaysOn version sizes faulted a b = (shape : Shape) → IsWell shape a × StaysFormatted a version sizes → IsWell shape b × StaysFormatted b version sizes

stays_on : (version : Version) (sizes : List ℕ) → HoldsOfChains (StaysOn version sizes)
stays_on version sizes = record {
  none = λ s shape on. on;
  join = λ faulted a b c first then shape on. then shape (first shape on);
  read = λ a b lba n out leaves cause shape on.
      let known = (read_kept a b lba n out cause).as_known ∙ on.0.known in (
        record { sound = leaves.sound; known = known; same_shape = leaves.same_shape ∙ on.0.same_shape },
        read_stays a b version sizes leaves.same_shape on.1 leaves.sound known lba n out cause,
      );
  write = λ a b lba n out leaves cause shape on.
      let known = (write_kept a b lba n out cause).as_known ∙ on.0.known in (
        record { sound = leaves.sound; known = known; same_shape = leaves.same_shape ∙ on.0.same_shape },
        write_stays a b version sizes leaves.same_shape on.1 leaves.sound known on.0.sound on.0.known lba n out cause,
      );
}

module _ (old new : CacheShown) (same : new.drive.shape ≡ old.drive.shape) (was_sound : IsSound old.drive) (sound : IsSound new.drive) (was_known : IsKnown old.drive) (is_known : IsKnown new.drive)
    (version : Version) (sizes : List ℕ) (s : StaysFormatted old.drive version sizes) (before after : Contents → Type 0) where
  was_on : IsWell old.drive.shape old.drive × StaysFormatted old.drive version sizes
  was_on = (record { sound = was_sound; known = was_known; same_shape = refl }, s)

  untouched_lasts : new ≡ old → StaysFormatted new.drive version sizes
  untouched_lasts is = subst (λ (x : CacheShown). StaysFormatted x.drive version sizes) (sym is) s

  written_lasts : (lba n : ℕ) (payload : List ℕ) (fua : Bool) (out : WriteOut) → WrittenCause old new lba n payload fua out → StaysFormatted new.drive version sizes
  written_lasts lba n payload true out cause = (of_through (StaysOn version sizes) (stays_on version sizes) lba n old new out cause old.drive.shape was_on).1
  written_lasts lba n payload false out cause = (of_write (StaysOn version sizes) (stays_on version sizes) lba n payload old new out cause old.drive.shape was_on).1

  told_lasts : (structure : Bool) (alloc : ℕ) (answer : Answer) (data_in : List ℕ)
      → MatchBool structure (TellsStructure old new before after alloc answer data_in) (TellsSpares old new before after alloc answer data_in) → StaysFormatted new.drive version sizes
  told_lasts true alloc answer data_in p = untouched_lasts p.is_answered.untouched.same
  told_lasts false alloc answer data_in p = untouched_lasts p.untouched.same

  -- an expansion, by how it comes out
  sizes_by : (cdb : List ℕ) (sectors : ℕ) (out : ExpandOut) → by_out old.drive.shape sectors out sizes ≡ sizes_outcome old.drive.shape sectors (command_outcome cdb (expand_answer out)) sizes
  sizes_by cdb sectors expands.Good = refl
  sizes_by cdb sectors expands.NotFormatted = refl
  sizes_by cdb sectors (expands.Refused known) = refl
  sizes_by cdb sectors (expands.NoUpdate counter) = refl
  sizes_by cdb sectors expands.Cut = refl
  sizes_by cdb sectors expands.Off = refl
  sizes_by cdb sectors expands.Fault = refl

  expanded_lasts : (cdb : List ℕ) (sectors : ℕ) (answer : Answer) (data_in : List ℕ) → IsExpanded old new before after sectors answer data_in
      → StaysFormatted new.drive version (sizes_outcome old.drive.shape sectors (command_outcome cdb answer) sizes)
  expanded_lasts cdb sectors answer data_in p =
      subst (λ (a : Answer). StaysFormatted new.drive version (sizes_outcome old.drive.shape sectors (command_outcome cdb a) sizes)) (sym p.answer_is)
      (subst (StaysFormatted new.drive version) (sizes_by cdb sectors p.out)
      (expand_stays old.drive new.drive version sizes same s sound is_known was_sound was_known sectors p.out p.cause.0))

  settles_lasts : (answer : Answer) (data_in : List ℕ) → Settles old new before after answer data_in → StaysFormatted new.drive version sizes
  settles_lasts answer data_in p =
      subst (λ (d : Shown). StaysFormatted d version sizes) (sym p.same_drive) (of_sync (StaysOn version sizes) (stays_on version sizes) old p.mid p.out p.cause old.drive.shape was_on).1

  done_lasts : (host : Host) (cdb payload : List ℕ) (command : Command) (answer : Answer) (data_in : List ℕ) → KeepsAsAsked command → IsDone old new before after host payload command answer data_in
      → StaysFormatted new.drive version (sizes_asked old.drive.shape (Ok command) (command_outcome cdb answer) sizes)
  done_lasts host cdb payload (commands.Format (kinds.Full drop_sdl)) answer data_in keeps p = absurd keeps
  done_lasts host cdb payload (commands.Format kinds.Rewrite) answer data_in keeps p = format_stays old.drive new.drive version sizes same s sound is_known was_sound was_known p.out p.cause.0
  done_lasts host cdb payload (commands.Expand sectors) answer data_in keeps p = expanded_lasts cdb sectors answer data_in p
  done_lasts host cdb payload (commands.Read lba n) answer data_in keeps p = (of_read (StaysOn version sizes) (stays_on version sizes) lba n old new p.out p.cause old.drive.shape was_on).1
  done_lasts host cdb payload (commands.Write lba n fua) answer data_in keeps p = written_lasts lba n payload fua p.out p.cause
  done_lasts host cdb payload (commands.Verify lba n) answer data_in keeps p = verify_stays old.drive new.drive version sizes same s sound is_known lba n p.out p.cause.0
  done_lasts host cdb payload commands.Synchronize answer data_in keeps p = (of_sync (StaysOn version sizes) (stays_on version sizes) old new p.out p.cause old.drive.shape was_on).1
  done_lasts host cdb payload (commands.StartStop start eject) answer data_in keeps p =
      elim (started old new before after (eject && not start) answer data_in p) [ inl settles ↦ settles_lasts answer data_in settles | inr q ↦ untouched_lasts q.untouched.same ]
  done_lasts host cdb payload commands.ModeSelect answer data_in keeps p =
      elim (selected old new before after (old.caches && not (caches_after payload old.caches)) payload answer data_in p) [
        | inl settles ↦ settles_lasts answer data_in settles
        | inr q ↦ subst (λ (x : CacheShown). StaysFormatted x.drive version sizes) (sym q.mode) s
      ]
  done_lasts host cdb payload (commands.Structure format alloc) answer data_in keeps p = told_lasts (format == 0x08) alloc answer data_in p
  done_lasts host cdb payload command answer data_in keeps p = untouched_lasts p.untouched.same

  -- a refusal leaves the sizes, whatever was asked for
  refused_sizes : (cdb : List ℕ) (d : Result Command Sense) (why : Sense) → sizes_asked old.drive.shape d (command_outcome cdb (answers.Check why)) sizes ≡ sizes
  refused_sizes cdb (Ok (commands.Expand sectors)) why = refl
  refused_sizes cdb (Ok command) why = refl
  refused_sizes cdb (Err other) why = refl

  off_sizes : (cdb : List ℕ) (d : Result Command Sense) → sizes_asked old.drive.shape d (command_outcome cdb answers.Off) sizes ≡ sizes
  off_sizes cdb (Ok (commands.Expand sectors)) = refl
  off_sizes cdb (Ok command) = refl
  off_sizes cdb (Err other) = refl

  left_lasts : (cdb : List ℕ) (d : Result Command Sense) (answer due : Answer) → answer ≡ due → sizes_asked old.drive.shape d (command_outcome cdb due) sizes ≡ sizes → new ≡ old
      → StaysFormatted new.drive version (sizes_asked old.drive.shape d (command_outcome cdb answer) sizes)
  left_lasts cdb d answer due is leaves nothing =
      subst (λ (a : Answer). StaysFormatted new.drive version (sizes_asked old.drive.shape d (command_outcome cdb a) sizes)) (sym is)
      (subst (StaysFormatted new.drive version) (sym leaves) (untouched_lasts nothing))

  judged_lasts : (host : Host) (formatted : Bool) (cdb payload : List ℕ) (judged : Result Command Sense) (answer : Answer) (data_in : List ℕ) → IsJudged host formatted cdb payload judged
      → IsAnsweredBy old new before after host payload judged answer data_in → KeepsAsDecoded (decoded cdb payload)
      → StaysFormatted new.drive version (sizes_asked old.drive.shape (decoded cdb payload) (command_outcome cdb answer) sizes)
  judged_lasts host formatted cdb payload (Err why) answer data_in judged p keeps =
      left_lasts cdb (decoded cdb payload) answer (answers.Check why) p.answer_is (refused_sizes cdb (decoded cdb payload) why) p.untouched.same
  judged_lasts host formatted cdb payload (Ok command) answer data_in judged p keeps =
      let asks : decoded cdb payload ≡ Ok command = asks_for host formatted cdb payload command judged in
      subst (λ (d : Result Command Sense). StaysFormatted new.drive version (sizes_asked old.drive.shape d (command_outcome cdb answer) sizes)) (sym asks)
      (done_lasts host cdb payload command answer data_in (subst KeepsAsDecoded asks keeps) p)

  command_lasts : (host later : Host) (cdb payload : List ℕ) (answer : Answer) (data_in : List ℕ) → ExecutesTo old new before after host later cdb payload answer data_in
      → KeepsAsDecoded (decoded cdb payload) → StaysFormatted new.drive version (sizes_asked old.drive.shape (decoded cdb payload) (command_outcome cdb answer) sizes)
  command_lasts host later cdb payload answer data_in (inl off) keeps =
      left_lasts cdb (decoded cdb payload) answer answers.Off off.1.is_answered.answer_is (off_sizes cdb (decoded cdb payload)) off.1.is_answered.untouched.same
  command_lasts host later cdb payload answer data_in (inr on) keeps =
      judged_lasts host (is_some old.drive.lists) cdb payload on.1.judged answer data_in on.1.is_judged on.1.is_answered keeps

  -- a `power` line, by how it comes out
  powered_lasts : (outcome : Outcome) (out : PowerOut) → outcome ≡ power_outcome out → StaysFormatted new.drive version (sizes_found old.drive.shape out sizes)
      → StaysFormatted new.drive version (sizes_powered old.drive.shape outcome sizes)
  powered_lasts outcome (powers.Ready known) is stays = subst (λ (o : Outcome). StaysFormatted new.drive version (sizes_powered old.drive.shape o sizes)) (sym is) stays
  powered_lasts outcome powers.NotFormatted is stays = subst (λ (o : Outcome). StaysFormatted new.drive version (sizes_powered old.drive.shape o sizes)) (sym is) stays
  powered_lasts outcome powers.Cut is stays = subst (λ (o : Outcome). StaysFormatted new.drive version (sizes_powered old.drive.shape o sizes)) (sym is) stays
  powered_lasts outcome powers.Fault is stays = subst (λ (o : Outcome). StaysFormatted new.drive version (sizes_powered old.drive.shape o sizes)) (sym is) stays

  line_lasts : (host later : Host) (line : Line) (payload : List ℕ) (outcome : Outcome) (data_in : List ℕ) → DiscRule old new before after host later line payload outcome data_in
      → KeepsDisc line payload → KeepsTwoCopies new.drive version → StaysFormatted new.drive version (sizes_with old.drive.shape line payload outcome sizes)
  line_lasts host later lines.Power payload outcome data_in p keeps two =
      powered_lasts outcome p.0.out p.0.outcome_is (power_stays old.drive new.drive version sizes same s sound is_known was_known p.0.out p.0.powered.cause.0 two).0
  line_lasts host later (lines.Fail block) payload outcome data_in p keeps two = fail_lasts old.drive new.drive same version sizes s block p.0.end p.0.rule
  line_lasts host later (lines.Wear block n) payload outcome data_in p keeps two =
      still_lasts old.drive new.drive same version sizes s p.0.keeps.memory.same_lists (worn_world _ old.drive.medium new.drive.medium (record { block = block; left = n }) p.0.end p.0.rule)
  line_lasts host later (lines.Cut n fate) payload outcome data_in p keeps two = still_lasts old.drive new.drive same version sizes s p.0.keeps.memory.same_lists (ap (λ (m : Machine). m.world) p.0.armed)
  line_lasts host later lines.Tick payload outcome data_in p keeps two = (of_tick (StaysOn version sizes) (stays_on version sizes) old new p.0.out p.0.cause old.drive.shape was_on).1
  line_lasts host later (lines.Scrub false) payload outcome data_in p keeps two =
      dead_lasts old.drive new.drive same version sizes s (of_step (λ faulted a b. AtMostDies a.drive b.drive) at_most_dies old new p.from p.to p.end p.rule)
  line_lasts host later (lines.Scrub true) payload outcome data_in p keeps two =
      dead_lasts old.drive new.drive same version sizes s (of_pass (λ faulted a b. AtMostDies a.drive b.drive) at_most_dies old new p.from p.to p.end p.rule)
  line_lasts host later (lines.Command cdb) payload outcome data_in p keeps two =
      subst (λ (o : Outcome). StaysFormatted new.drive version (sizes_asked old.drive.shape (decoded cdb payload) o sizes)) (sym p.outcome_is)
      (command_lasts host later cdb payload p.answer data_in p.step keeps)
  line_lasts host later _ payload outcome data_in p keeps two = absurd p

-- ---- states

stays_same : (s t : State) (version : Version) (sizes : List ℕ) → t ≡ s → LastsNow s version sizes → LastsNow t version sizes
stays_same s t version sizes is lasts = subst (λ (x : State). LastsNow x version sizes) (sym is) lasts

module _ (shape : Shape) where
  on_disc_lasts : (s : Served) (t : State) (line : Line) (payload : List ℕ) (outcome : Outcome) (data_in : List ℕ) (version : Version) (sizes : List ℕ) → OnDisc (Disc s) line payload outcome data_in t
      → KeepsDisc line payload → HasTwoCopies t version → HasShape shape (Disc s) → LastsNow (Disc s) version sizes → LastsNow t version (sizes_with shape line payload outcome sizes)
  on_disc_lasts s (Unopened bytes) line payload outcome data_in version sizes step keeps two has lasts = absurd step
  on_disc_lasts s (Disc t) line payload outcome data_in version sizes step keeps two has lasts =
      subst (λ (z : Shape). StaysFormatted t.disc.shown.drive version (sizes_with z line payload outcome sizes)) has
      (line_lasts s.disc.shown t.disc.shown step.same_shape s.disc.sound t.disc.sound (contents_known s.disc.shown s.disc.contents s.disc.stands) (contents_known t.disc.shown t.disc.contents t.disc.stands) version sizes lasts
      (λ x. x ≡ s.disc.contents) (λ x. x ≡ t.disc.contents) s.host t.host line payload outcome data_in step.rule keeps two)

  pub step_lasts : (s t : State) (line : Line) (payload data_in : List ℕ) (outcome : Outcome) (version : Version) (sizes : List ℕ) → HasShape shape s → Step s line payload outcome data_in t
      → KeepsDisc line payload → HasTwoCopies t version → LastsNow s version sizes → LastsNow t version (sizes_with shape line payload outcome sizes)
  step_lasts (Unopened bytes) t line payload data_in outcome version sizes has step keeps two lasts = absurd lasts
  step_lasts (Disc s) t lines.Empty payload data_in outcome version sizes has step keeps two lasts = stays_same (Disc s) t version sizes step.2 lasts
  step_lasts (Disc s) t (lines.Press zones scale psa) payload data_in outcome version sizes has step keeps two lasts =
      stays_same (renewed (Disc s)) t version sizes (not_pressed_by (Disc s) t zones scale psa outcome step.0 keeps) lasts
  step_lasts (Disc s) t line payload data_in outcome version sizes has step keeps two lasts = on_disc_lasts s t line payload outcome data_in version sizes step keeps two has lasts

on_disc_two : (s t : State) (line : Line) (payload : List ℕ) (outcome : Outcome) (data_in : List ℕ) (version : Version) → OnDisc s line payload outcome data_in t
    → HasTwoCopies t version → HasTwoCopies s version
on_disc_two (Unopened bytes) t line payload outcome data_in version step two = subst (λ (x : State). HasTwoCopies x version) step.2 two
on_disc_two (Disc s) (Unopened bytes) line payload outcome data_in version step two = absurd two
on_disc_two (Disc s) (Disc t) line payload outcome data_in version step two = two_before s.disc.shown.drive t.disc.shown.drive version step.same_shape
    (line_dead s.disc.shown t.disc.shown (λ x. x ≡ s.disc.contents) (λ x. x ≡ t.disc.contents) s.host t.host line payload outcome data_in step.rule) two

renewed_two : (s : State) (version : Version) → HasTwoCopies (renewed s) version → HasTwoCopies s version
renewed_two (Unopened image) version two = two
renewed_two (Disc s) version two = two

-- what has two copies after a line had them before it
step_two : (s t : State) (line : Line) (payload data_in : List ℕ) (outcome : Outcome) (version : Version) → Step s line payload outcome data_in t → KeepsDisc line payload
    → HasTwoCopies t version → HasTwoCopies s version
step_two s t lines.Empty payload data_in outcome version step keeps two = subst (λ (x : State). HasTwoCopies x version) step.2 two
step_two s t (lines.Press zones scale psa) payload data_in outcome version step keeps two =
    renewed_two s version (subst (λ (x : State). HasTwoCopies x version) (not_pressed_by s t zones scale psa outcome step.0 keeps) two)
step_two s t line payload data_in outcome version step keeps two = on_disc_two s t line payload outcome data_in version step two

-- ---- a disc of its geometry stays in the drive

module _ (shape : Shape) where
  on_disc_shape : (s : Served) (t : State) (line : Line) (payload : List ℕ) (outcome : Outcome) (data_in : List ℕ) → OnDisc (Disc s) line payload outcome data_in t → s.disc.shown.drive.shape ≡ shape → HasShape shape t
  on_disc_shape s (Unopened bytes) line payload outcome data_in step has = absurd step
  on_disc_shape s (Disc t) line payload outcome data_in step has = step.same_shape ∙ has

  step_shape : (s t : State) (line : Line) (payload data_in : List ℕ) (outcome : Outcome) → Step s line payload outcome data_in t → KeepsDisc line payload → HasShape shape s → HasShape shape t
  step_shape (Unopened bytes) t line payload data_in outcome step keeps has = absurd has
  step_shape (Disc s) t lines.Empty payload data_in outcome step keeps has = subst (HasShape shape) (sym step.2) has
  step_shape (Disc s) t (lines.Press zones scale psa) payload data_in outcome step keeps has = subst (HasShape shape) (sym (not_pressed_by (Disc s) t zones scale psa outcome step.0 keeps)) has
  step_shape (Disc s) t line payload data_in outcome step keeps has = on_disc_shape s t line payload outcome data_in step has

-- ---- a line that was only told that it is not done

told_two : (s t : State) (version : Version) → IsUnchangedIn s t → HasTwoCopies t version → HasTwoCopies s version
told_two (Unopened image) t version is two = subst (λ (x : State). HasTwoCopies x version) is two
told_two (Disc s) (Unopened image) version is two = absurd is
told_two (Disc s) (Disc t) version is two = subst (λ (x : Shown). KeepsTwoCopies x version) is.same_drive two

told_lasts_on : (s t : State) (version : Version) (sizes : List ℕ) → IsUnchangedIn s t → LastsNow s version sizes → LastsNow t version sizes
told_lasts_on (Unopened image) t version sizes is lasts = absurd lasts
told_lasts_on (Disc s) (Unopened image) version sizes is lasts = absurd is
told_lasts_on (Disc s) (Disc t) version sizes is lasts = subst (λ (x : Shown). StaysFormatted x version sizes) (sym is.same_drive) lasts

told_shape : (shape : Shape) (s t : State) → IsUnchangedIn s t → HasShape shape s → HasShape shape t
told_shape shape (Unopened image) t is has = absurd has
told_shape shape (Disc s) (Unopened image) is has = absurd is
told_shape shape (Disc s) (Disc t) is has = ap (λ (x : Shown). x.shape) is.same_drive ∙ has

-- it leaves the sizes
told_expanded : (shape : Shape) (sectors : ℕ) (reply : Reply) (sizes : List ℕ) → WasOnlyTold reply → sizes_outcome shape sectors (Ok reply) sizes ≡ sizes
told_expanded shape sectors (replies.Command cdb answers.Good) sizes told = absurd (false≢true told)
told_expanded shape sectors (replies.Command cdb answers.Cut) sizes told = absurd (false≢true told)
told_expanded shape sectors (replies.Command cdb (answers.Check why)) sizes told = refl
told_expanded shape sectors (replies.Command cdb answers.Off) sizes told = refl
told_expanded shape sectors (replies.Command cdb answers.Fault) sizes told = refl
told_expanded shape sectors (replies.Event event) sizes told = refl
told_expanded shape sectors replies.Nothing sizes told = refl

told_asked : (shape : Shape) (d : Result Command Sense) (reply : Reply) (sizes : List ℕ) → WasOnlyTold reply → sizes_asked shape d (Ok reply) sizes ≡ sizes
told_asked shape (Ok (commands.Expand sectors)) reply sizes told = told_expanded shape sectors reply sizes told
told_asked shape (Ok command) reply sizes told = refl
told_asked shape (Err why) reply sizes told = refl

told_powered : (shape : Shape) (reply : Reply) (sizes : List ℕ) → WasOnlyTold reply → sizes_powered shape (Ok reply) sizes ≡ sizes
told_powered shape (replies.Event event) sizes told = absurd (false≢true told)
told_powered shape (replies.Command cdb answer) sizes told = refl
told_powered shape replies.Nothing sizes told = refl

told_sizes : (shape : Shape) (line : Line) (payload : List ℕ) (reply : Reply) (sizes : List ℕ) → WasOnlyTold reply → sizes_with shape line payload (Ok reply) sizes ≡ sizes
told_sizes shape lines.Power payload reply sizes told = told_powered shape reply sizes told
told_sizes shape (lines.Command cdb) payload reply sizes told = told_asked shape (decoded cdb payload) reply sizes told
told_sizes shape line payload reply sizes told = refl

-- ---- a run

module _ (s t : State) (event : AnsweredStep) (step : IsStep s event t) where
  told : WasOnlyTold event.reply → IsUnchangedIn s t
  told only = told_same s t event.line event.payload event.data_in event.reply step only

  event_two : (version : Version) → UnlessTold KeepsDisc event → HasTwoCopies t version → HasTwoCopies s version
  event_two version (inl only) two = told_two s t version (told only) two
  event_two version (inr keeps) two = step_two s t event.line event.payload event.data_in (Ok event.reply) version step keeps two

  event_shape : (shape : Shape) → UnlessTold KeepsDisc event → HasShape shape s → HasShape shape t
  event_shape shape (inl only) has = told_shape shape s t (told only) has
  event_shape shape (inr keeps) has = step_shape shape s t event.line event.payload event.data_in (Ok event.reply) step keeps has

  event_lasts : (shape : Shape) (version : Version) (sizes : List ℕ) → HasShape shape s → UnlessTold KeepsDisc event → HasTwoCopies t version → LastsNow s version sizes
      → LastsNow t version (sizes_with shape event.line event.payload (Ok event.reply) sizes)
  event_lasts shape version sizes has (inl only) two lasts =
      subst (LastsNow t version) (sym (told_sizes shape event.line event.payload event.reply sizes only)) (told_lasts_on s t version sizes (told only) lasts)
  event_lasts shape version sizes has (inr keeps) two lasts = step_lasts shape s t event.line event.payload event.data_in (Ok event.reply) version sizes has step keeps two lasts

run_two : (s t : State) (events : List AnsweredStep) (version : Version) → Run s events t → KeepDisc events → HasTwoCopies t version → HasTwoCopies s version
run_two s t [] version run keeps two = subst (λ (x : State). HasTwoCopies x version) run two
run_two s t (event ∷ events) version run keeps two =
    run_two s run.0 events version run.1 (All-tail (UnlessTold KeepsDisc) event events keeps)
    (event_two run.0 t event run.2 version (All-head (UnlessTold KeepsDisc) event events keeps) two)

run_shape : (shape : Shape) (s t : State) (events : List AnsweredStep) → Run s events t → KeepDisc events → HasShape shape s → HasShape shape t
run_shape shape s t [] run keeps has = subst (HasShape shape) (sym run) has
run_shape shape s t (event ∷ events) run keeps has =
    event_shape run.0 t event run.2 shape (All-head (UnlessTold KeepsDisc) event events keeps) (run_shape shape s run.0 events run.1 (All-tail (UnlessTold KeepsDisc) event events keeps) has)

pub run_lasts : (shape : Shape) (s t : State) (events : List AnsweredStep) (version : Version) (sizes : List ℕ) → HasShape shape s → Run s events t → KeepDisc events → HasTwoCopies t version → LastsNow s version sizes
    → LastsNow t version (sizes_after shape events sizes)
run_lasts shape s t [] version sizes has run keeps two lasts = stays_same s t version sizes run lasts
run_lasts shape s t (event ∷ events) version sizes has run keeps two lasts =
    let first = All-head (UnlessTold KeepsDisc) event events keeps in
    let rest = All-tail (UnlessTold KeepsDisc) event events keeps in
    event_lasts run.0 t event run.2 shape version (sizes_after shape events sizes) (run_shape shape s run.0 events run.1 rest has) first two
    (run_lasts shape s run.0 events version sizes has run.1 rest (event_two run.0 t event run.2 version first two) lasts)

-- ---- how a run leaves its image

left_two : (s t : State) (events : List AnsweredStep) (last : Option (Line × List ℕ)) (version : Version) → RunLeaves s events last t → KeepDisc events → HasTwoCopies t version → HasTwoCopies s version
left_two s t events None version leaves keeps two = run_two s t events version leaves keeps two
left_two s t events (Some last) version leaves keeps two =
    run_two s leaves.0 events version leaves.1 keeps (step_two leaves.0 t last.0 last.1 leaves.2.data_in (Err stopped.ImageFault) version leaves.2.step leaves.2.keeps two)

left_shape : (shape : Shape) (s t : State) (events : List AnsweredStep) (last : Option (Line × List ℕ)) → RunLeaves s events last t → KeepDisc events → HasShape shape s → HasShape shape t
left_shape shape s t events None leaves keeps has = run_shape shape s t events leaves keeps has
left_shape shape s t events (Some last) leaves keeps has =
    step_shape shape leaves.0 t last.0 last.1 leaves.2.data_in (Err stopped.ImageFault) leaves.2.step leaves.2.keeps (run_shape shape s leaves.0 events leaves.1 keeps has)

left_lasts_on : (shape : Shape) (s t : State) (events : List AnsweredStep) (last : Option (Line × List ℕ)) (version : Version) (sizes : List ℕ) → HasShape shape s → RunLeaves s events last t → KeepDisc events → HasTwoCopies t version
    → LastsNow s version sizes → LastsNow t version (sizes_left shape events last sizes)
left_lasts_on shape s t events None version sizes has leaves keeps two lasts = run_lasts shape s t events version sizes has leaves keeps two lasts
left_lasts_on shape s t events (Some last) version sizes has leaves keeps two lasts =
    let two' = step_two leaves.0 t last.0 last.1 leaves.2.data_in (Err stopped.ImageFault) version leaves.2.step leaves.2.keeps two in
    step_lasts shape leaves.0 t last.0 last.1 leaves.2.data_in (Err stopped.ImageFault) version (sizes_after shape events sizes) (run_shape shape s leaves.0 events leaves.1 keeps has) leaves.2.step leaves.2.keeps two
    (run_lasts shape s leaves.0 events version sizes has leaves.1 keeps two' lasts)

-- ---- the beginning, and the image that is handed back

pub now_begins : (s : State) (lists : Lists) → HasInUse s lists → LastsNow s lists.sdl.version (lists.sdl.ssa ∷ [])
now_begins (Unopened bytes) lists is = absurd is
now_begins (Disc s) lists is = begins s.disc.shown.drive lists s.disc.sound (contents_known s.disc.shown s.disc.contents s.disc.stands) is

-- an image of these cells, opened
pub same_cells : (s t : Served) (bytes : List ℕ) → IsLeft (Disc s) bytes → IsFirst bytes (Disc t) → kind_of (Disc t) ≡ kind_of (Disc s) → (t.disc.shown.drive.shape ≡ s.disc.shown.drive.shape) × (cells_in t.disc.shown.drive ≡ cells_in s.disc.shown.drive) × ¬ IsOn t.disc.shown.drive
same_cells s t bytes left first kind =
    let image = image_left s bytes left in
    let shape : first.0 ≡ s.disc.shown.drive.shape = one_header first.0 s.disc.shown.drive.shape bytes (kind_again first.0 (cells_of (total first.0) bytes) bytes s t first.2 kind) first.1.has_header image.disc.has_header in (
      ap (λ (x : CacheShown). x.drive.shape) first.2.opened.shown_is ∙ shape,
      ap (λ (x : CacheShown). cells_in x.drive) first.2.opened.shown_is ∙ ap (λ (z : Shape). cells_of (total z) bytes) shape ∙ image.cells_are,
      λ on. (let off : false ≡ true = subst (λ (x : CacheShown). IsOn x.drive) first.2.opened.shown_is on in cc),
    )

-- an image whose lists can be found, opened
pub opened_lasts : (s : State) (shape : Shape) (bytes : List ℕ) (dds : Dds) (older newer : Sdl) → HasShape shape s → IsFirst bytes s → IsFindable shape (cells_of (total shape) bytes) dds older newer
    → LastsNow s older.version (older.ssa ∷ newer.ssa ∷ [])
opened_lasts (Unopened image) shape bytes dds older newer has first found = absurd has
opened_lasts (Disc s) shape bytes dds older newer has first found = record {
  dds = dds;
  older = older;
  newer = newer;
  found = can_be_found;
  of_version = refl;
  size = Contains-first older.ssa (newer.ssa ∷ []);
  size' = Contains-later older.ssa (newer.ssa ∷ []) newer.ssa (Contains-first newer.ssa []);
  in_use = λ on. absurd (let off : false ≡ true = subst (λ (x : CacheShown). IsOn x.drive) first.2.opened.shown_is on in cc);
}
  where
    shape_is : first.0 ≡ shape
    shape_is = sym (ap (λ (x : CacheShown). x.drive.shape) first.2.opened.shown_is) ∙ has

    cells_are : cells_in s.disc.shown.drive ≡ cells_of (total shape) bytes
    cells_are = ap (λ (x : CacheShown). cells_in x.drive) first.2.opened.shown_is ∙ ap (λ (z : Shape). cells_of (total z) bytes) shape_is

    can_be_found : IsFindable s.disc.shown.drive.shape (cells_in s.disc.shown.drive) dds older newer
    can_be_found = subst (λ (cells : List Cell). IsFindable s.disc.shown.drive.shape cells dds older newer) (sym cells_are)
        (subst (λ (z : Shape). IsFindable z (cells_of (total shape) bytes) dds older newer) (sym has) found)

pub image_lasts : (s t : State) (bytes : List ℕ) (version : Version) (sizes : List ℕ) → LastsNow s version sizes → IsLeft s bytes → IsFirst bytes t → kind_of t ≡ kind_of s → LastsNow t version sizes
image_lasts (Unopened held) t bytes version sizes lasts left first kind = absurd lasts
image_lasts (Disc s) (Unopened held) bytes version sizes lasts left first kind = absurd (first.1 s.disc.shown.drive.shape (sym kind) (image_left s bytes left).disc)
image_lasts (Disc s) (Disc t) bytes version sizes lasts left first kind =
    let same = same_cells s t bytes left first kind in
    dies_stays s.disc.shown.drive t.disc.shown.drive version sizes same.0 lasts (λ on. absurd (same.2 on)) (λ on. absurd (same.2 on)) (λ block. inl (ap (λ (cells : List Cell). cell_at cells block) same.1))

image_shape : (shape : Shape) (s t : State) (bytes : List ℕ) → HasShape shape s → IsLeft s bytes → IsFirst bytes t → kind_of t ≡ kind_of s → HasShape shape t
image_shape shape (Unopened held) t bytes has left first kind = absurd has
image_shape shape (Disc s) (Unopened held) bytes has left first kind = absurd (first.1 s.disc.shown.drive.shape (sym kind) (image_left s bytes left).disc)
image_shape shape (Disc s) (Disc t) bytes has left first kind = (same_cells s t bytes left first kind).0 ∙ has

image_two : (shape : Shape) (s t : State) (bytes : List ℕ) (version : Version) → HasShape shape s → IsLeft s bytes → IsFirst bytes t → kind_of t ≡ kind_of s → HasTwoCopies t version → HasTwoCopies s version
image_two shape (Unopened held) t bytes version has left first kind two = absurd has
image_two shape (Disc s) (Unopened held) bytes version has left first kind two = absurd two
image_two shape (Disc s) (Disc t) bytes version has left first kind two =
    let same = same_cells s t bytes left first kind in
    two_before s.disc.shown.drive t.disc.shown.drive version same.0 (λ block dead. ap (λ (cells : List Cell). cell_at cells block) same.1 ∙ dead) two

-- ---- a `power` line

ready_or_cut : (shape : Shape) (sizes : List ℕ) (out : PowerOut) (reply : Reply) → TellsSize shape sizes out → Ok reply ≡ power_outcome out → IsReadyOrCut reply
ready_or_cut shape sizes (powers.Ready known) reply tells is = subst IsReadyOrCut (let same : replies.Event (events.Ready known) ≡ reply = cc in same) tt
ready_or_cut shape sizes powers.NotFormatted reply tells is = absurd tells
ready_or_cut shape sizes powers.Cut reply tells is = subst IsReadyOrCut (let same : replies.Event events.Cut ≡ reply = cc in same) tt
ready_or_cut shape sizes powers.Fault reply tells is = absurd cc

-- what it told of the sizes, and its answer
pub record PowersOn (shape : Shape) (sizes : List ℕ) (reply : Reply) : Type 0 where
  pub out : PowerOut
  pub tells : TellsSize shape sizes out
  pub outcome_is : Ok reply ≡ power_outcome out

power_on_disc : (s : Served) (t : State) (reply : Reply) (payload data_in : List ℕ) (version : Version) (sizes : List ℕ) → OnDisc (Disc s) lines.Power payload (Ok reply) data_in t
    → HasTwoCopies t version → StaysFormatted s.disc.shown.drive version sizes → PowersOn s.disc.shown.drive.shape sizes reply
power_on_disc s (Unopened bytes) reply payload data_in version sizes step two lasts = absurd step
power_on_disc s (Disc t) reply payload data_in version sizes step two lasts = record {
  out = step.rule.0.out;
  tells = (power_stays s.disc.shown.drive t.disc.shown.drive version sizes step.same_shape lasts t.disc.sound (contents_known t.disc.shown t.disc.contents t.disc.stands)
      (contents_known s.disc.shown s.disc.contents s.disc.stands) step.rule.0.out step.rule.0.powered.cause.0 two).1;
  outcome_is = step.rule.0.outcome_is;
}

power_line : (s : Served) (t : State) (event : AnsweredStep) (version : Version) (sizes : List ℕ) → StaysFormatted s.disc.shown.drive version sizes → IsStep (Disc s) event t → event.line ≡ lines.Power
    → HasTwoCopies t version → PowersOn s.disc.shown.drive.shape sizes event.reply
power_line s t event version sizes lasts step is two =
    power_on_disc s t event.reply event.payload event.data_in version sizes (subst (λ (line : Line). Step (Disc s) line event.payload (Ok event.reply) event.data_in t) is step) two lasts

pub power_lasts : (s t : State) (event : AnsweredStep) (version : Version) (sizes : List ℕ) → LastsNow s version sizes → IsStep s event t → event.line ≡ lines.Power → HasTwoCopies t version → IsReadyOrCut event.reply
power_lasts (Unopened bytes) t event version sizes lasts step is two = absurd lasts
power_lasts (Disc s) t event version sizes lasts step is two =
    let on = power_line s t event version sizes lasts step is two in
    ready_or_cut s.disc.shown.drive.shape sizes on.out event.reply on.tells on.outcome_is

-- ---- whole runs

some_shape : (s : State) (version : Version) (sizes : List ℕ) → LastsNow s version sizes → (shape : Shape) × HasShape shape s
some_shape (Unopened image) version sizes lasts = absurd lasts
some_shape (Disc s) version sizes lasts = (s.disc.shown.drive.shape, refl)

power_two : (t u : State) (event : AnsweredStep) (version : Version) → IsStep t event u → event.line ≡ lines.Power → HasTwoCopies u version → HasTwoCopies t version
power_two t u event version step is two =
    step_two t u event.line event.payload event.data_in (Ok event.reply) version step (subst (λ (line : Line). KeepsDisc line event.payload) (sym is) tt) two

pub ready_at_the_end : (s t u : State) (events : List AnsweredStep) (event : AnsweredStep) (version : Version) (sizes : List ℕ) → LastsNow s version sizes → Run s events t → KeepDisc events → IsStep t event u
    → event.line ≡ lines.Power → HasTwoCopies u version → IsReadyOrCut event.reply
ready_at_the_end s t u events event version sizes lasts run keeps step is two =
    let of_shape = some_shape s version sizes lasts in
    power_lasts t u event version (sizes_after of_shape.0 events sizes) (run_lasts of_shape.0 s t events version sizes of_shape.1 run keeps (power_two t u event version step is two) lasts) step is two

told_size : (shape : Shape) (sizes : List ℕ) (out : PowerOut) (known : ℕ) → TellsSize shape sizes out → Ok (replies.Event (events.Ready known)) ≡ power_outcome out → IsCapacityBy shape sizes known
told_size shape sizes (powers.Ready told) known tells is = let same : known ≡ told = cc in (tells.0, tells.1, same ∙ tells.2)
told_size shape sizes powers.NotFormatted known tells is = absurd tells
told_size shape sizes powers.Cut known tells is = absurd cc
told_size shape sizes powers.Fault known tells is = absurd cc

power_size : (shape : Shape) (s u : State) (event : AnsweredStep) (version : Version) (sizes : List ℕ) (known : ℕ) → HasShape shape s → LastsNow s version sizes → IsStep s event u → event.line ≡ lines.Power
    → HasTwoCopies u version → event.reply ≡ replies.Event (events.Ready known) → IsCapacityBy shape sizes known
power_size shape (Unopened bytes) u event version sizes known has lasts step is two told = absurd has
power_size shape (Disc s) u event version sizes known has lasts step is two told =
    let on = power_line s u event version sizes lasts step is two in
    told_size shape sizes on.out known (subst (λ (z : Shape). TellsSize z sizes on.out) has on.tells) (ap Ok (sym told) ∙ on.outcome_is)

pub capacity_at_the_end : (s t u : State) (shape : Shape) (between : List AnsweredStep) (event : AnsweredStep) (version : Version) (sizes : List ℕ) (known : ℕ) → HasShape shape s → LastsNow s version sizes → Run s between t
    → KeepDisc between → IsStep t event u → event.line ≡ lines.Power → HasTwoCopies u version → event.reply ≡ replies.Event (events.Ready known) → IsCapacityBy shape (sizes_after shape between sizes) known
capacity_at_the_end s t u shape between event version sizes known has lasts run keeps step is two is_told =
    power_size shape t u event version (sizes_after shape between sizes) known (run_shape shape s t between run keeps has)
    (run_lasts shape s t between version sizes has run keeps (power_two t u event version step is two) lasts) step is two is_told

-- the state before the last `power` line of a second run
module _ (s t u v w : State) (shape : Shape) (earlier later : List AnsweredStep) (last : Option (Line × List ℕ)) (event : AnsweredStep) (image : List ℕ) (version : Version) (sizes : List ℕ) (has : HasShape shape s)
    (lasts : LastsNow s version sizes) (run : RunLeaves s earlier last t) (keeps : KeepDisc earlier) (left : IsLeft t image) (first : IsFirst image u) (kind : kind_of u ≡ kind_of t) (run' : Run u later v) (keeps' : KeepDisc later)
    (step : IsStep v event w) (is : event.line ≡ lines.Power) (two : HasTwoCopies w version) where
  has_t : HasShape shape t
  has_t = left_shape shape s t earlier last run keeps has

  two_v : HasTwoCopies v version
  two_v = power_two v w event version step is two

  two_u : HasTwoCopies u version
  two_u = run_two u v later version run' keeps' two_v

  two_t : HasTwoCopies t version
  two_t = image_two shape t u image version has_t left first kind two_u

  opened : LastsNow u version (sizes_left shape earlier last sizes)
  opened = image_lasts t u image version (sizes_left shape earlier last sizes) (left_lasts_on shape s t earlier last version sizes has run keeps two_t lasts) left first kind

  has_u : HasShape shape u
  has_u = image_shape shape t u image has_t left first kind

  before_power : LastsNow v version (sizes_after shape later (sizes_left shape earlier last sizes))
  before_power = run_lasts shape u v later version (sizes_left shape earlier last sizes) has_u run' keeps' two_v opened

  pub capacity_again : (known : ℕ) → event.reply ≡ replies.Event (events.Ready known) → IsCapacityBy shape (sizes_after shape later (sizes_left shape earlier last sizes)) known
  capacity_again known told =
      power_size shape v w event version (sizes_after shape later (sizes_left shape earlier last sizes)) known (run_shape shape u v later run' keeps' has_u) before_power step is two told

  pub ready_by : IsReadyOrCut event.reply
  ready_by = power_lasts v w event version (sizes_after shape later (sizes_left shape earlier last sizes)) before_power step is two

pub ready_again : (s t u v w : State) (earlier later : List AnsweredStep) (last : Option (Line × List ℕ)) (event : AnsweredStep) (image : List ℕ) (version : Version) (sizes : List ℕ) → LastsNow s version sizes
    → RunLeaves s earlier last t → KeepDisc earlier → IsLeft t image → IsFirst image u → kind_of u ≡ kind_of t → Run u later v → KeepDisc later → IsStep v event w → event.line ≡ lines.Power
    → HasTwoCopies w version → IsReadyOrCut event.reply
ready_again s t u v w earlier later last event image version sizes lasts run keeps left first kind run' keeps' step is two =
    let of_shape = some_shape s version sizes lasts in
    ready_by s t u v w of_shape.0 earlier later last event image version sizes of_shape.1 lasts run keeps left first kind run' keeps' step is two

-- ---- without an expansion

not_expanded : (shape : Shape) (d : Result Command Sense) (outcome : Outcome) (sizes : List ℕ) → AsksNoExpansion d → sizes_asked shape d outcome sizes ≡ sizes
not_expanded shape (Ok (commands.Expand sectors)) outcome sizes none = absurd none
not_expanded shape (Ok command) outcome sizes none = refl
not_expanded shape (Err why) outcome sizes none = refl

fewer_powered : (shape : Shape) (reply : Reply) (sizes : List ℕ) (ssa : ℕ) → Contains (sizes_powered shape (Ok reply) sizes) ssa → Contains sizes ssa
fewer_powered shape (replies.Event (events.Ready known)) sizes ssa has = (Contains-from_filter (λ x. count_of shape x * 16 == known) sizes ssa has).1
fewer_powered shape (replies.Event event) sizes ssa has = has
fewer_powered shape (replies.Command cdb answer) sizes ssa has = has
fewer_powered shape replies.Nothing sizes ssa has = has

fewer_line : (shape : Shape) (line : Line) (payload : List ℕ) (reply : Reply) (sizes : List ℕ) (ssa : ℕ) → LeavesCapacity line payload → Contains (sizes_with shape line payload (Ok reply) sizes) ssa → Contains sizes ssa
fewer_line shape lines.Power payload reply sizes ssa leaves has = fewer_powered shape reply sizes ssa has
fewer_line shape (lines.Command cdb) payload reply sizes ssa leaves has = subst (λ (all : List ℕ). Contains all ssa) (not_expanded shape (decoded cdb payload) (Ok reply) sizes leaves) has
fewer_line shape line payload reply sizes ssa leaves has = has

fewer_event : (shape : Shape) (event : AnsweredStep) (sizes : List ℕ) (ssa : ℕ) → UnlessTold LeavesCapacity event → Contains (sizes_with shape event.line event.payload (Ok event.reply) sizes) ssa → Contains sizes ssa
fewer_event shape event sizes ssa (inl only) has = subst (λ (all : List ℕ). Contains all ssa) (told_sizes shape event.line event.payload event.reply sizes only) has
fewer_event shape event sizes ssa (inr leaves) has = fewer_line shape event.line event.payload event.reply sizes ssa leaves has

fewer : (shape : Shape) (events : List AnsweredStep) (sizes : List ℕ) (ssa : ℕ) → LeaveCapacity events → Contains (sizes_after shape events sizes) ssa → Contains sizes ssa
fewer shape [] sizes ssa leave has = has
fewer shape (event ∷ events) sizes ssa leave has =
    fewer shape events sizes ssa (All-tail (UnlessTold LeavesCapacity) event events leave)
    (fewer_event shape event (sizes_after shape events sizes) ssa (All-head (UnlessTold LeavesCapacity) event events leave) has)

-- the capacity that is told is that of one size
only_one : (one other : ℕ) → Contains (one ∷ []) other → other ≡ one
only_one one other (zero, within, is) = sym is
only_one one other (suc k, within, is) = absurd (omega (arith, within))

pub capacity_stays : (s t u : State) (shape : Shape) (lists : Lists) (between : List AnsweredStep) (event : AnsweredStep) (known : ℕ) → HasShape shape s → HasInUse s lists → Run s between t → KeepDisc between
    → LeaveCapacity between → IsStep t event u → event.line ≡ lines.Power → HasTwoCopies u lists.sdl.version → event.reply ≡ replies.Event (events.Ready known) → known ≡ capacity_of shape lists
capacity_stays s t u shape lists between event known has in_use run keeps leave step is two is_told =
    let found = capacity_at_the_end s t u shape between event lists.sdl.version (lists.sdl.ssa ∷ []) known has (now_begins s lists in_use) run keeps step is two is_told in
    found.2 ∙ ap (λ (ssa : ℕ). count_of shape ssa * 16) (only_one lists.sdl.ssa found.0 (fewer shape between (lists.sdl.ssa ∷ []) found.0 leave found.1))
