-- No line makes a drive give up a block that is not dead.
use Rattle.std.specs.Prelude.{◌&&◌, not, ◌≡◌, ℕ, ◌==◌, ◌≢◌, ◌⊎◌, Bool, true, false, None, Result, Ok, Err, List, [], ◌∷◌, replicate}
use Rattle.std.specs.Bool.{MatchBool}
use Rattle.std.proofs.Common.{refl, sym, ap, ◌∙◌, inl, inr, subst, arith}
use Rattle.std.proofs.lemmas.List.{get_or-replicate, get_or_past, length-replicate}
use Rattle.std.proofs.lemmas.Bool.{cases_lt, cases_eq}
use Rattle.model_geometry.specs.Geometry.{Shape, shape_in, total, dds_block}
use Rattle.model_lists.specs.Texts.{IsDdsText}
use Rattle.model_medium.specs.Cells.{Cell, Blank, Dead, cell_at}
use Rattle.model_medium.specs.World.{World}
use Rattle.model_medium.specs.Machine.{Machine}
use Rattle.model_medium.specs.declared.WornBlock.{WornBlock}
use Rattle.model_drive.specs.declared.WriteOut.{WriteOut}
use Rattle.model_cache.specs.Values.{Contents}
use Rattle.model_cache.specs.Shown.{CacheShown}
use Rattle.model_cache.proofs.Chained.{HoldsOfChains, of_read, of_write, of_through, of_sync, of_tick}
use Rattle.model_drive.proofs.Kept.{read_kept, write_kept}
use Rattle.model_copies.specs.Copies.{Holds}
use Rattle.model_places.specs.Places.{Lists}
use Rattle.model_volume.specs.Given.{IsGiven, GivesNone}
use Rattle.model_image.specs.Image.{IsDiscImage, blank_cells, pressed_image}
use Rattle.model_image.specs.Cells.{cells_of}
use Rattle.model_drive.specs.Shown.{Shown, IsKnown, IsOn}
use Rattle.model_drive.specs.Sound.{IsSound}
use Rattle.model_drive.specs.Parts.{AreSameOrDead}
use Rattle.model_fairness.specs.Fair.{IsFair, GivesUpDeadAlone}
use Rattle.model_fairness.proofs.Calls.{none_some, no_others_fair, die_given, dead_of_dies, dies_fair, power_fair, read_fair, verify_fair, write_fair, expand_fair, format_fair}
use Rattle.model_scrub.proofs.Chained.{of_step, of_pass}
use Rattle.model_sense.specs.declared.sense.Sense.{Sense}
use Rattle.model_sense.specs.declared.answer.Answer.{Answer}
use Rattle.model_cdb.specs.declared.commands.Command.{Command}
use Rattle.model_cdb.specs.declared.commands.Command.TheVariants as commands
use Rattle.model_target.specs.declared.host.Host.{Host}
use Rattle.model_target.specs.Steps.{WrittenCause, Untouched, TellsStructure, TellsSpares, IsDone, IsAnsweredBy, IsStep}
use Rattle.ram_medium.specs.declared.control.FailEnd.{FailEnd}
use Rattle.ram_medium.specs.declared.control.FailEnd.TheVariants as fails
use Rattle.ram_states.specs.Control.{FailOnDrive}
use Rattle.model_medium.proofs.CellFacts.{cell_at-set_other, cell_at-set_dead}
use Rattle.ram_medium.specs.Control.{FailRule, WearRule}
use Rattle.ram_medium.specs.declared.control.Arm.{Arm}
use Rattle.ram_medium.specs.declared.control.Arm.TheVariants as arming
use Rattle.ram_report.specs.declared.printing.Event.TheVariants as events
use Rattle.ram_text.specs.declared.script.Line.{Line}
use Rattle.ram_text.specs.declared.script.Line.TheVariants as lines
use Rattle.model_modes.specs.ParameterLists.{caches_after}
use Rattle.model_target.proofs.Settling.{Settles, started, selected}
use Rattle.ram_machine.specs.declared.reply.Reply.TheVariants as replies
use Rattle.ram_machine.specs.declared.stopped.Stopped.TheVariants as stopped
use Rattle.ram_machine.specs.Replies.{Outcome}
use Rattle.ram_machine.specs.States.{State, Served, Unopened, Disc, kind_of, renewed, IsFirst, IsInserted, IsPressedDisc, IsHalfPressed, IsPressedUnopened}
use Rattle.ram_machine.specs.LineSteps.{PressStep, DiscRule, OnDisc, Step}
use Rattle.ram_machine.specs.Runs.{Run}
use Rattle.ram_machine.specs.Answered.{AnsweredStep}
use Rattle.ram_machine.specs.Fairness.{FairNow}
use Rattle.ram_machine.proofs.Scrubbed.{AtMostDies, at_most_dies}
use Rattle.ram_machine.proofs.SoundChains.{contents_known}

one_cell : (old new : List Cell) (at : ℕ) → ((other : ℕ) → other ≢ at → cell_at new other ≡ cell_at old other) → (cell_at new at ≡ cell_at old at) ⊎ (cell_at new at ≡ Dead) → AreSameOrDead old new
one_cell old new at others left block = elim (cases_eq block at) [
  | inl here ↦ subst (λ (b : ℕ). (cell_at new b ≡ cell_at old b) ⊎ (cell_at new b ≡ Dead)) (sym here) left
  | inr other ↦ inl (others block other)
]

-- by the failure of a block no cell changes but that one, which dies
pub cells_die : (total : ℕ) (old new : Machine) (block : ℕ) (end : FailEnd) → FailRule total old new block end → AreSameOrDead old.world.cells new.world.cells
cells_die total old new block fails.Done rule =
    let is = ap (λ (m : Machine). m.world.cells) rule.1 in
    one_cell old.world.cells new.world.cells block (λ other ne. ap (λ (l : List Cell). cell_at l other) is ∙ cell_at-set_other old.world.cells block other Dead ne)
    (inr (ap (λ (l : List Cell). cell_at l block) is ∙ cell_at-set_dead old.world.cells block))
cells_die total old new block (fails.NoBlock blocks) rule = λ other. inl (ap (λ (m : Machine). cell_at m.world.cells other) rule.2)
cells_die total old new block fails.Failed rule = one_cell old.world.cells new.world.cells block rule.1.others rule.1.left

-- the arming of a block changes nothing but the arms
pub worn_world : (total : ℕ) (old new : Machine) (worn : WornBlock) (end : Arm) → WearRule total old new worn end → new.world ≡ old.world
worn_world total old new worn arming.Set rule = ap (λ (m : Machine). m.world) rule.2
worn_world total old new worn (arming.NoBlock blocks) rule = ap (λ (m : Machine). m.world) rule.2
worn_world total old new worn arming.Full rule = ap (λ (m : Machine). m.world) rule.2

module _ (old new : Shown) (same : new.shape ≡ old.shape) (fair : GivesUpDeadAlone old) where
  fail_fair : (block : ℕ) (end : FailEnd) → FailOnDrive old new block end → GivesUpDeadAlone new
  fail_fair block fails.Done p = dies_fair old new same p.1.same_lists (cells_die (total old.shape) old.medium new.medium block fails.Done p.0) fair
  fail_fair block (fails.NoBlock blocks) p = dies_fair old new same p.1.same_lists (cells_die (total old.shape) old.medium new.medium block (fails.NoBlock blocks) p.0) fair
  fail_fair block fails.Failed p =
      let dies = cells_die (total old.shape) old.medium new.medium block fails.Failed p.0 in
      no_others_fair old new same (die_given old new same dies) (dead_of_dies old new dies) (λ lists is. absurd (none_some lists new.lists p.1.no_lists is)) fair

  -- where at most blocks died
  dead_fair : AtMostDies old new → GivesUpDeadAlone new
  dead_fair p = by_lists p.lists
    where
      by_lists : (new.lists ≡ old.lists) ⊎ ((new.lists ≡ None) × ¬ IsOn new) → GivesUpDeadAlone new
      by_lists (inl kept) = dies_fair old new same kept p.dies fair
      by_lists (inr off) = no_others_fair old new same (die_given old new same p.dies) (dead_of_dies old new p.dies) (λ lists is. absurd (none_some lists new.lists off.0 is)) fair

  still_fair : new.lists ≡ old.lists → new.medium.world ≡ old.medium.world → GivesUpDeadAlone new
  still_fair kept world = dies_fair old new same kept (λ block. inl (ap (λ (w : World). cell_at w.cells block) world)) fair

-- over calls of the disc, one after another
abbrev StaysFair : Bool → Shown → Shown → Type 0
StaysFair faulted a b = IsKnown a × GivesUpDeadAlone a → IsKnown b × GivesUpDeadAlone b

stays_fair : HoldsOfChains StaysFair
stays_fair = record {
  none = λ s fair. fair;
  join = λ faulted a b c first then fair. then (first fair);
  read = λ a b lba n out leaves cause fair.
      let known = (read_kept a b lba n out cause).as_known ∙ fair.0 in (known, read_fair a b leaves.same_shape leaves.sound known lba n out fair.1 cause);
  write = λ a b lba n out leaves cause fair.
      let known = (write_kept a b lba n out cause).as_known ∙ fair.0 in (known, write_fair a b leaves.same_shape leaves.sound known fair.0 fair.1 lba n out cause);
}

module _ (old new : CacheShown) (same : new.drive.shape ≡ old.drive.shape) (sound : IsSound new.drive) (was_known : IsKnown old.drive) (is_known : IsKnown new.drive) (fair : GivesUpDeadAlone old.drive)
    (before after : Contents → Type 0) where
  untouched_fair : Untouched old new before after → GivesUpDeadAlone new.drive
  untouched_fair p = subst (λ (s : CacheShown). GivesUpDeadAlone s.drive) (sym p.same) fair

  told_fair : (structure : Bool) (alloc : ℕ) (answer : Answer) (data_in : List ℕ)
      → MatchBool structure (TellsStructure old new before after alloc answer data_in) (TellsSpares old new before after alloc answer data_in) → GivesUpDeadAlone new.drive
  told_fair true alloc answer data_in p = untouched_fair p.is_answered.untouched
  told_fair false alloc answer data_in p = untouched_fair p.untouched

  written_fair : (lba n : ℕ) (payload : List ℕ) (fua : Bool) (out : WriteOut) → WrittenCause old new lba n payload fua out → GivesUpDeadAlone new.drive
  written_fair lba n payload true out cause = (of_through StaysFair stays_fair lba n old new out cause (was_known, fair)).1
  written_fair lba n payload false out cause = (of_write StaysFair stays_fair lba n payload old new out cause (was_known, fair)).1

  settles_fair : (answer : Answer) (data_in : List ℕ) → Settles old new before after answer data_in → GivesUpDeadAlone new.drive
  settles_fair answer data_in p = subst GivesUpDeadAlone (sym p.same_drive) (of_sync StaysFair stays_fair old p.mid p.out p.cause (was_known, fair)).1

  done_fair : (host : Host) (payload : List ℕ) (command : Command) (answer : Answer) (data_in : List ℕ) → IsDone old new before after host payload command answer data_in → GivesUpDeadAlone new.drive
  done_fair host payload commands.TestUnitReady answer data_in p = untouched_fair p.untouched
  done_fair host payload (commands.RequestSense alloc) answer data_in p = untouched_fair p.untouched
  done_fair host payload (commands.Format kind) answer data_in p = format_fair old.drive new.drive same sound is_known was_known fair kind p.out p.cause.0
  done_fair host payload (commands.Expand sectors) answer data_in p = expand_fair old.drive new.drive same sound is_known was_known fair sectors p.out p.cause.0
  done_fair host payload (commands.Inquiry vital alloc) answer data_in p = untouched_fair p.untouched
  done_fair host payload (commands.StartStop start eject) answer data_in p =
      elim (started old new before after (eject && not start) answer data_in p) [ inl settles ↦ settles_fair answer data_in settles | inr q ↦ untouched_fair q.untouched ]
  done_fair host payload (commands.Prevent on) answer data_in p = untouched_fair p.untouched
  done_fair host payload (commands.FormatCapacities alloc) answer data_in p = untouched_fair p.untouched
  done_fair host payload commands.ReadCapacity answer data_in p = untouched_fair p.untouched
  done_fair host payload (commands.Read lba n) answer data_in p = (of_read StaysFair stays_fair lba n old new p.out p.cause (was_known, fair)).1
  done_fair host payload (commands.Write lba n fua) answer data_in p = written_fair lba n payload fua p.out p.cause
  done_fair host payload (commands.Verify lba n) answer data_in p = verify_fair old.drive new.drive same sound is_known lba n p.out fair p.cause.0
  done_fair host payload commands.Synchronize answer data_in p = (of_sync StaysFair stays_fair old new p.out p.cause (was_known, fair)).1
  done_fair host payload (commands.Configuration rt start alloc) answer data_in p = untouched_fair p.untouched
  done_fair host payload (commands.Events media alloc) answer data_in p = untouched_fair p.untouched
  done_fair host payload (commands.DiscInformation alloc) answer data_in p = untouched_fair p.untouched
  done_fair host payload commands.ModeSelect answer data_in p =
      elim (selected old new before after (old.caches && not (caches_after payload old.caches)) payload answer data_in p) [
        | inl settles ↦ settles_fair answer data_in settles
        | inr q ↦ subst (λ (s : CacheShown). GivesUpDeadAlone s.drive) (sym q.mode) fair
      ]
  done_fair host payload (commands.ModeSense short control page alloc) answer data_in p = untouched_fair p.untouched
  done_fair host payload (commands.Structure format alloc) answer data_in p = told_fair (format == 0x08) alloc answer data_in p
  done_fair host payload commands.Streaming answer data_in p = untouched_fair p.untouched

  judged_fair : (host : Host) (payload : List ℕ) (judged : Result Command Sense) (answer : Answer) (data_in : List ℕ) → IsAnsweredBy old new before after host payload judged answer data_in → GivesUpDeadAlone new.drive
  judged_fair host payload (Err why) answer data_in p = untouched_fair p.untouched
  judged_fair host payload (Ok command) answer data_in p = done_fair host payload command answer data_in p

  command_fair : (host later : Host) (cdb payload : List ℕ) (answer : Answer) (data_in : List ℕ) → IsStep old new before after host later cdb payload answer data_in → GivesUpDeadAlone new.drive
  command_fair host later cdb payload answer data_in (inl off) = untouched_fair off.1.is_answered.untouched
  command_fair host later cdb payload answer data_in (inr on) = judged_fair host payload on.1.judged answer data_in on.1.is_answered

  line_fair : (host later : Host) (line : Line) (payload : List ℕ) (outcome : Outcome) (data_in : List ℕ) → DiscRule old new before after host later line payload outcome data_in → GivesUpDeadAlone new.drive
  line_fair host later lines.Power payload outcome data_in p = power_fair old.drive new.drive same sound is_known was_known fair p.0.out p.0.powered.cause.0
  line_fair host later (lines.Fail block) payload outcome data_in p = fail_fair old.drive new.drive same fair block p.0.end p.0.rule
  line_fair host later (lines.Wear block n) payload outcome data_in p = still_fair old.drive new.drive same fair p.0.keeps.memory.same_lists (worn_world _ old.drive.medium new.drive.medium (record { block = block; left = n }) p.0.end p.0.rule)
  line_fair host later (lines.Cut n fate) payload outcome data_in p = still_fair old.drive new.drive same fair p.0.keeps.memory.same_lists (ap (λ (m : Machine). m.world) p.0.armed)
  line_fair host later lines.Tick payload outcome data_in p = (of_tick StaysFair stays_fair old new p.0.out p.0.cause (was_known, fair)).1
  line_fair host later (lines.Scrub false) payload outcome data_in p = dead_fair old.drive new.drive same fair (of_step (λ faulted a b. AtMostDies a.drive b.drive) at_most_dies old new p.from p.to p.end p.rule)
  line_fair host later (lines.Scrub true) payload outcome data_in p = dead_fair old.drive new.drive same fair (of_pass (λ faulted a b. AtMostDies a.drive b.drive) at_most_dies old new p.from p.to p.end p.rule)
  line_fair host later (lines.Command cdb) payload outcome data_in p = command_fair host later cdb payload p.answer data_in p.step
  line_fair host later _ payload outcome data_in p = absurd p

-- ---- what a run begins with

blank_or_dead : (n block : ℕ) → (cell_at (replicate n Blank) block ≡ Blank) ⊎ (cell_at (replicate n Blank) block ≡ Dead)
blank_or_dead n block = elim (cases_lt block n) [
  | inl h ↦ inl (get_or-replicate n block Blank Dead h)
  | inr h ↦ inr (get_or_past (replicate n Blank) block Dead (omega (arith, h, length-replicate {A = Cell} n Blank)))
]

no_text : (cell : Cell) {V : Type 0} (text : V → List ℕ → Type 0) (v : V) → (cell ≡ Blank) ⊎ (cell ≡ Dead) → Holds text cell v → ⊥
no_text cell text v (inl blank) holds = subst (λ (c : Cell). Holds text c v) blank holds
no_text cell text v (inr dead) holds = subst (λ (c : Cell). Holds text c v) dead holds

blank_gives_none : (shape : Shape) → GivesNone shape (blank_cells shape)
blank_gives_none shape lists given = no_text (cell_at (blank_cells shape) (dds_block shape given.dds_area)) IsDdsText lists.dds (blank_or_dead (total shape) (dds_block shape given.dds_area)) given.dds_copy.holds

opened_fair : (shape : Shape) (cells : List Cell) (bytes : List ℕ) (s : Served) → IsInserted shape cells bytes s → ((lists : Lists) → IsGiven shape cells lists → IsFair cells lists) → GivesUpDeadAlone s.disc.shown.drive
opened_fair shape cells bytes s is fair = subst (λ (x : CacheShown). GivesUpDeadAlone x.drive) (sym is.opened.shown_is) (record { given = fair; in_use = λ lists none. absurd (none_some lists None refl none) })

pub pressed_fair : (shape : Shape) (s : State) → IsPressedDisc shape s → FairNow s
pressed_fair shape (Unopened image) is = tt
pressed_fair shape (Disc s) is = opened_fair shape (blank_cells shape) (pressed_image shape) s is (λ lists given. absurd (blank_gives_none shape lists given))

pub image_fair : (bytes : List ℕ) (s : State) → IsFirst bytes s → ((shape : Shape) → IsDiscImage shape bytes → (lists : Lists) → IsGiven shape (cells_of (total shape) bytes) lists → IsFair (cells_of (total shape) bytes) lists) → FairNow s
image_fair bytes (Unopened image) is fair = tt
image_fair bytes (Disc s) is fair = opened_fair is.0 (cells_of (total is.0) bytes) bytes s is.2 (fair is.0 is.1)

-- ---- a line, and a run

half_fair : (s t : State) → IsHalfPressed s t → FairNow t
half_fair s (Unopened bytes) is = tt
half_fair s (Disc t) is = absurd is

unopened_fair : (shape : Shape) (t : State) → IsPressedUnopened shape t → FairNow t
unopened_fair shape (Unopened bytes) is = tt
unopened_fair shape (Disc t) is = absurd is

renewed_fair : (s : State) → FairNow s → FairNow (renewed s)
renewed_fair (Unopened image) fair = fair
renewed_fair (Disc s) fair = fair

press_fair : (s t : State) (shape : Shape) (outcome : Outcome) → PressStep s shape outcome t → FairNow s → FairNow t
press_fair s t shape (Ok (replies.Event events.Pressed)) step fair = pressed_fair shape t step.1
press_fair s t shape (Ok (replies.Event events.NotPressed)) step fair = subst FairNow (sym step.1) (renewed_fair s fair)
press_fair s t shape (Err stopped.ImageFault) (lawful, inl half) fair = half_fair s t half
press_fair s t shape (Err stopped.ImageFault) (lawful, inr unopened) fair = unopened_fair shape t unopened
press_fair s t shape _ step fair = absurd step

on_disc_fair : (s t : State) (line : Line) (payload : List ℕ) (outcome : Outcome) (data_in : List ℕ) → OnDisc s line payload outcome data_in t → FairNow s → FairNow t
on_disc_fair (Unopened bytes) t line payload outcome data_in step fair = subst FairNow (sym step.2) tt
on_disc_fair (Disc s) (Unopened bytes) line payload outcome data_in step fair = absurd step
on_disc_fair (Disc s) (Disc t) line payload outcome data_in step fair =
    line_fair s.disc.shown t.disc.shown step.same_shape t.disc.sound (contents_known s.disc.shown s.disc.contents s.disc.stands) (contents_known t.disc.shown t.disc.contents t.disc.stands) fair
    (λ x. x ≡ s.disc.contents) (λ x. x ≡ t.disc.contents) s.host t.host line payload outcome data_in step.rule

pub step_fair : (s t : State) (line : Line) (payload data_in : List ℕ) (outcome : Outcome) → Step s line payload outcome data_in t → FairNow s → FairNow t
step_fair s t lines.Empty payload data_in outcome step fair = subst FairNow (sym step.2) fair
step_fair s t (lines.Press zones scale psa) payload data_in outcome step fair = press_fair s t (shape_in (kind_of s) zones scale psa) outcome step.0 fair
step_fair s t line payload data_in outcome step fair = on_disc_fair s t line payload outcome data_in step fair

pub run_fair : (s t : State) (answered : List AnsweredStep) → Run s answered t → FairNow s → FairNow t
run_fair s t [] run fair = subst FairNow (sym run) fair
run_fair s t (event ∷ answered) run fair = step_fair run.0 t event.line event.payload event.data_in (Ok event.reply) run.2 (run_fair s run.0 answered run.1 fair)
