-- The register of a sector over the lines of a run.
use Rattle.std.specs.Prelude.{◌≡◌, ℕ, ◌*◌, ◌⊎◌, Option, None, Some, Ok, Err, List, [], ◌∷◌, length, replicate}
use Rattle.std.specs.List.{Contains}
use Rattle.std.specs.Option.{option_map_or}
use Rattle.std.proofs.Common.{arith, refl, sym, ap, ◌∙◌, inl, inr, subst}
use Rattle.std.proofs.lemmas.Bool.{cases_lt}
use Rattle.std.proofs.lemmas.List.Elements.{All-nil}
use Rattle.std.proofs.lemmas.List.{get_or-replicate, get_or_past, length-replicate}
use Rattle.model_geometry.specs.Geometry.{Shape, shape_in, total, dds_block}
use Rattle.model_medium.specs.Cells.{Cell, Blank, Dead, cell_at}
use Rattle.model_copies.specs.Copies.{Holds}
use Rattle.model_lists.specs.Texts.{IsDdsText}
use Rattle.model_places.specs.Places.{Lists, logical_count}
use Rattle.model_image.specs.Image.{IsDiscImage, blank_cells}
use Rattle.model_sectors.specs.Discs.{Standing}
use Rattle.model_volume.specs.Starts.{Found, IsFound, IsDiscStart}
use Rattle.model_drive.specs.Shown.{StandsBy, cells_in, block_count}
use Rattle.model_cache.specs.Values.{Contents, Has, MayHave, settled_values, plain}
use Rattle.model_cache.specs.Shown.{CacheShown, CacheStandsFor}
use Rattle.model_cache.proofs.Members.{Contains-first}
use Rattle.ram_report.specs.declared.printing.Event.TheVariants as events
use Rattle.ram_text.specs.declared.script.Line.{Line}
use Rattle.ram_text.specs.declared.script.Line.TheVariants as lines
use Rattle.ram_machine.specs.declared.reply.Reply.{Reply}
use Rattle.ram_machine.specs.declared.reply.Reply.TheVariants as replies
use Rattle.ram_machine.specs.declared.stopped.Stopped.TheVariants as stopped
use Rattle.ram_machine.specs.States.{State, Served, Unopened, Disc, renewed, kind_of, IsPressedDisc}
use Rattle.ram_machine.specs.LineSteps.{PressStep, LeadsOn, OnDisc, Step}
use Rattle.ram_machine.specs.Runs.{Run}
use Rattle.ram_machine.specs.Answered.{AnsweredStep}
use Rattle.ram_machine.proofs.WrittenDiscs.{SoInValues, SoInContents}
use Rattle.ram_machine.specs.Register.{Register, left_in, powered, AfterPress, Turn, Turns}
use Rattle.ram_machine.proofs.SectorNow.{now_in}
use Rattle.ram_machine.proofs.SectorMatching.{Matches, Turned}
use Rattle.ram_machine.proofs.SectorFormatted.{none_now as no_lists}
use Rattle.ram_machine.proofs.SectorTurns.{done, same_reply, TurnUnder, rule_turn}
use Rattle.ram_machine.proofs.SectorBoth.{one_lost, other_lost, Held, HeldBoth, none_now, line_both}

-- the register is that of a state
abbrev pub MatchesState : (at : ℕ) → State → Register → Type 0
MatchesState at (Unopened image) r = (shape : Shape) → shape.layout ≡ image.kind → ¬ IsDiscImage shape image.bytes
MatchesState at (Disc s) r = HeldBoth at s.disc.shown r

-- a line turns it, and it is that of the state then
pub record TurnedTo (at : ℕ) (t : State) (Rule : Register → Type 0) : Type 0 where
  pub after : Register
  pub rule : Rule after
  pub matches : MatchesState at t after

-- a disc has as many blocks as its lists say
whole_long : (c : CacheShown) (disc : List ℕ) → CacheStandsFor c (Has (settled_values disc)) → length disc ≡ 32768 * block_count c.drive
whole_long c disc stood = stood.2.taken.as_long ∙ by_lists c.drive.lists stood.1.2
  where
    by_lists : (lists : Option Lists) → StandsBy c.drive.shape (cells_in c.drive) lists c.drive.buffer stood.0 → length stood.0 ≡ 32768 * option_map_or (logical_count c.drive.shape) lists 0
    by_lists None stands = ap length stands.0
    by_lists (Some lists) stands = stands.fits.as_long

-- ---- a press
blank_or_dead : (n block : ℕ) → (cell_at (replicate n Blank) block ≡ Blank) ⊎ (cell_at (replicate n Blank) block ≡ Dead)
blank_or_dead n block = elim (cases_lt block n) [
  | inl h ↦ inl (get_or-replicate n block Blank Dead h)
  | inr h ↦ inr (get_or_past (replicate n Blank) block Dead (omega (arith, h, length-replicate {A = Cell} n Blank)))
]

no_text : (cell : Cell) {V : Type 0} (text : V → List ℕ → Type 0) (v : V) → (cell ≡ Blank) ⊎ (cell ≡ Dead) → Holds text cell v → ⊥
no_text cell text v (inl blank) holds = subst (λ (c : Cell). Holds text c v) blank holds
no_text cell text v (inr dead) holds = subst (λ (c : Cell). Holds text c v) dead holds

blank_found : (shape : Shape) (found : Found) → IsFound shape (blank_cells shape) found → ⊥
blank_found shape found is =
    no_text (cell_at (blank_cells shape) (dds_block shape found.dds_area)) IsDdsText found.lists.dds (blank_or_dead (total shape) (dds_block shape found.dds_area)) is.dds_copy.holds

no_candidates : (at : ℕ) (S : List ℕ → Type 0) (shape : Shape) (all : List Found) (standing : Standing) → IsDiscStart shape (blank_cells shape) all standing → SoInContents S at (plain standing)
no_candidates at S shape [] standing start = subst (λ (x : Standing). SoInContents S at (plain x)) (sym start.standing_is) (All-nil (SoInValues S at))
no_candidates at S shape (found ∷ all) standing start = absurd (blank_found shape found (start.each found (Contains-first found all)))

off_none : (at : ℕ) (shape : Shape) (cells : List Cell) (all : List Found) (standing : Standing) → IsDiscStart shape cells all standing → now_in at (plain standing) ≡ None
off_none at shape cells all standing start = ap (λ (x : Standing). now_in at (plain x)) start.standing_is

pressed_matches : (at : ℕ) (r : Register) (shape : Shape) (t : State) → IsPressedDisc shape t → MatchesState at t (powered r None [])
pressed_matches at r shape (Unopened bytes) is = absurd is
pressed_matches at r shape (Disc s) is = record { one = held one_lost; other = held other_lost }
  where
    held : (lost : List ℕ) → Held lost at s.disc.shown (powered r None [])
    held lost = record {
      contents = s.disc.contents;
      stands = s.disc.stands;
      matches = record {
        now = sym (ap (now_in at) is.opened.contents_is ∙ off_none at shape (blank_cells shape) is.opened.all is.opened.standing is.opened.starts);
        falls = subst (SoInContents (Contains []) at) (sym is.opened.contents_is) (no_candidates at (Contains []) shape is.opened.all is.opened.standing is.opened.starts);
        caches = sym (ap (λ (x : CacheShown). x.caches) is.opened.shown_is);
      };
    }

module _ (at : ℕ) (r : Register) where
  renewed_matches : (s : State) → MatchesState at s r → MatchesState at (renewed s) r
  renewed_matches (Unopened image) was = was
  renewed_matches (Disc s) was = was

  press_turn : (s t : State) (shape : Shape) (reply : Reply) → PressStep s shape (Ok reply) t → MatchesState at s r → TurnedTo at t (λ after. AfterPress r reply after)
  press_turn s t shape (replies.Event events.Pressed) step was = record { after = powered r None []; rule = refl; matches = pressed_matches at r shape t step.1 }
  press_turn s t shape (replies.Event events.NotPressed) step was = record { after = r; rule = refl; matches = subst (λ (x : State). MatchesState at x r) (sym step.1) (renewed_matches s was) }
  press_turn s t shape _ step was = absurd step

  -- ---- a line
  -- where no lists are in use it has nothing
  nothing_now : (lost : List ℕ) (old : CacheShown) (c : Contents) → CacheStandsFor old c → Matches lost at old c r → old.drive.lists ≡ None → r.now ≡ None
  nothing_now lost old (Has v) stands was none = none_now lost r.now (was.now ∙ no_lists at old v stands none)
  nothing_now lost old (MayHave all) stands was none = none_now lost r.now was.now

  -- what one of the things that the drive stood for says of the line
  turned_by : (lost : List ℕ) (s t : Served) (line : Line) (payload data_in : List ℕ) (reply : Reply) (before : Contents) (stood : CacheStandsFor s.disc.shown before) → Matches lost at s.disc.shown before r
      → (leads : LeadsOn s t line payload (Ok reply) data_in before) → Turned lost at t.disc.shown leads.after (λ a. TurnUnder lost at s.disc.shown.drive.lists leads.after r line payload reply data_in a)
  turned_by lost s t line payload data_in reply before stood was leads =
      rule_turn lost at s.disc.shown t.disc.shown before leads.after r stood was s.host t.host line payload reply data_in leads.stands
      (λ disc is. whole_long t.disc.shown disc (subst (CacheStandsFor t.disc.shown) is leads.stands))
      leads.rule

  disc_turn : (s : Served) (t : State) (line : Line) (payload data_in : List ℕ) (reply : Reply) → MatchesState at (Disc s) r → OnDisc (Disc s) line payload (Ok reply) data_in t
      → TurnedTo at t (λ after. Turn at r line payload reply data_in after)
  disc_turn s (Unopened image) line payload data_in reply was step = absurd step
  disc_turn s (Disc t) line payload data_in reply was step =
      let one = step.each was.one.contents was.one.stands in
      let other = step.each was.other.contents was.other.stands in
      let turned = line_both at t.disc.shown one.after other.after one.stands other.stands r s.disc.shown.drive.lists line payload reply data_in
      (nothing_now one_lost s.disc.shown was.one.contents was.one.stands was.one.matches)
      (turned_by one_lost s t line payload data_in reply was.one.contents was.one.stands was.one.matches one)
      (turned_by other_lost s t line payload data_in reply was.other.contents was.other.stands was.other.matches other) in
      record { after = turned.after; rule = turned.rule; matches = turned.held }

  other_turn : (s t : State) (line : Line) (payload data_in : List ℕ) (reply : Reply) → MatchesState at s r → OnDisc s line payload (Ok reply) data_in t → TurnedTo at t (λ after. Turn at r line payload reply data_in after)
  other_turn (Unopened image) t line payload data_in reply was step = absurd (let clash : Ok reply ≡ Err stopped.NotADisc = step.0 in cc)
  other_turn (Disc s) t line payload data_in reply was step = disc_turn s t line payload data_in reply was step

  empty_left : (reply : Reply) → done reply ≡ done replies.Nothing → r ≡ left_in reply r
  empty_left reply is = subst (λ (x : Reply). r ≡ left_in x r) (same_reply reply replies.Nothing is) refl

  pub step_turn : (s t : State) (line : Line) (payload data_in : List ℕ) (reply : Reply) → MatchesState at s r → Step s line payload (Ok reply) data_in t → TurnedTo at t (λ after. Turn at r line payload reply data_in after)
  step_turn s t lines.Empty payload data_in reply was step = record { after = r; rule = (step.1, empty_left reply step.0); matches = subst (λ (x : State). MatchesState at x r) (sym step.2) was }
  step_turn s t (lines.Press zones scale psa) payload data_in reply was step =
      let turned = press_turn s t (shape_in (kind_of s) zones scale psa) reply step.0 was in record { after = turned.after; rule = (step.1, turned.rule); matches = turned.matches }
  step_turn s t lines.Power payload data_in reply was step = other_turn s t lines.Power payload data_in reply was step
  step_turn s t (lines.Fail block) payload data_in reply was step = other_turn s t (lines.Fail block) payload data_in reply was step
  step_turn s t (lines.Wear block n) payload data_in reply was step = other_turn s t (lines.Wear block n) payload data_in reply was step
  step_turn s t (lines.Cut n fate) payload data_in reply was step = other_turn s t (lines.Cut n fate) payload data_in reply was step
  step_turn s t lines.Tick payload data_in reply was step = other_turn s t lines.Tick payload data_in reply was step
  step_turn s t (lines.Scrub all) payload data_in reply was step = other_turn s t (lines.Scrub all) payload data_in reply was step
  step_turn s t (lines.Command cdb) payload data_in reply was step = other_turn s t (lines.Command cdb) payload data_in reply was step

-- ---- a run
pub run_turns : (at : ℕ) (first last : State) (events : List AnsweredStep) (r : Register) → MatchesState at first r → Run first events last → TurnedTo at last (λ after. Turns at r events after)
run_turns at first last [] r was run = record { after = r; rule = refl; matches = subst (λ (x : State). MatchesState at x r) (sym run) was }
run_turns at first last (event ∷ events) r was run =
    let before = run_turns at first run.0 events r was run.1 in
    let turned = step_turn at before.after run.0 last event.line event.payload event.data_in event.reply before.matches run.2 in
    record { after = turned.after; rule = (before.after, before.rule, turned.rule); matches = turned.matches }
