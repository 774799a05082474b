-- To what a sector may fall back when power is lost, over the lines of a run.
use Rattle.std.specs.Prelude.{◌≡◌, ℕ, ◌+◌, ◌*◌, ◌<◌, ◌≤◌, ◌⊎◌, Bool, true, false, ◌&&◌, not, nat_lt, if◌then◌else◌, IsTrue, Option, Some, None, Result, Ok, Err, List, [], ◌∷◌, length, All}
use Rattle.std.specs.List.{Contains}
use Rattle.std.proofs.Common.{arith, refl, sym, ap, ◌∙◌, inl, inr, subst}
use Rattle.std.proofs.lemmas.Bool.{cases_lt, lt-ltb, le-ltb, true≢false, false≢true}
use Rattle.std.proofs.lemmas.List.Elements.{All-head, All-tail}
use Rattle.model_geometry.specs.Geometry.{Shape}
use Rattle.model_medium.specs.Cells.{Cell}
use Rattle.model_places.specs.Places.{Lists, logical_count}
use Rattle.model_drive.specs.Shown.{StandsBy, cells_in}
use Rattle.model_cache.specs.Shown.{CacheShown, CacheStandsFor}
use Rattle.model_sectors.specs.Requests.{block_with}
use Rattle.model_cache.specs.Values.{Contents, Has, MayHave}
use Rattle.model_cache.proofs.Falls.{only}
use Rattle.model_cache.proofs.Members.{Contains-first, Contains-later}
use Rattle.model_sense.specs.declared.sense.Sense.{Sense}
use Rattle.model_cdb.specs.declared.commands.Command.{Command}
use Rattle.model_cdb.specs.declared.commands.Command.TheVariants as commands
use Rattle.model_cdb.specs.Decoding.{decoded}
use Rattle.ram_text.specs.declared.script.Line.{Line}
use Rattle.ram_text.specs.declared.script.Line.TheVariants as lines
use Rattle.ram_machine.specs.Replies.{Outcome}
use Rattle.ram_machine.specs.States.{State, Unopened, Disc}
use Rattle.ram_machine.specs.LineSteps.{Step}
use Rattle.ram_machine.specs.Runs.{Run}
use Rattle.ram_machine.specs.Answered.{AnsweredStep}
use Rattle.ram_machine.specs.Acknowledged.{Acknowledged, FallsBackTo, StandsWithSector, HasNow, IsAmong, LeavesAsDecoded, LeavesSector, WritesAsDecoded, NeitherPressesNorFormats, choices_asked, choices_with, choices_after}
use Rattle.ram_machine.specs.SectorBytes.{bytes_of_sector, is_sector_among}
use Rattle.ram_machine.specs.OnlyTold.{was_only_told, UnlessTold}
use Rattle.ram_machine.proofs.OnlyTold.{IsUnchangedIn, told_same}
use Rattle.ram_machine.proofs.Acknowledged.{SoInState, step_keeps, so_unchanged}
use Rattle.ram_machine.proofs.WrittenDiscs.{SoInBlock, SoInContents, so_shown}
use Rattle.ram_machine.proofs.OldOrNew.{so_weaker, line_writes}

-- it falls back to these where each value of its block has one of them
as_so : (s : State) (at : ℕ) (choices : List (List ℕ)) → FallsBackTo s at choices → SoInState (Contains choices) at s
as_so (Unopened image) at choices is = is
as_so (Disc s) at choices is = is

so_falls : (s : State) (at : ℕ) (choices : List (List ℕ)) → SoInState (Contains choices) at s → FallsBackTo s at choices
so_falls (Unopened image) at choices is = is
so_falls (Disc s) at choices is = is

acknowledged_so : (s : State) (at : ℕ) (bytes : List ℕ) → Acknowledged s at bytes → SoInState (λ found. found ≡ bytes) at s
acknowledged_so (Unopened image) at bytes is = is
acknowledged_so (Disc s) at bytes is = is

pub begins_back : (s : State) (at : ℕ) (bytes : List ℕ) → Acknowledged s at bytes → FallsBackTo s at (bytes ∷ [])
begins_back s at bytes keeps =
    so_falls s at (bytes ∷ []) (so_weaker (λ found. found ≡ bytes) (Contains (bytes ∷ [])) at
    (λ found is. subst (Contains (bytes ∷ [])) (sym is) (Contains-first bytes [])) s (acknowledged_so s at bytes keeps))

-- a line that does not write the sector
leaves_back : (s t : State) (line : Line) (payload data_in : List ℕ) (outcome : Outcome) (at : ℕ) (choices : List (List ℕ)) → Step s line payload outcome data_in t → LeavesSector at line payload
    → FallsBackTo s at choices → FallsBackTo t at choices
leaves_back s t line payload data_in outcome at choices step leaves back =
    so_falls t at choices (step_keeps (Contains choices) at s t line payload data_in outcome step leaves (as_so s at choices back))

-- the test, both ways
before_all : (lba n at : ℕ) → at < lba → is_sector_among lba n at ≡ false
before_all lba n at before = ap (λ (b : Bool). not b && nat_lt at (lba + n)) (lt-ltb at lba before)

behind_first : (lba n at : ℕ) → lba ≤ at → is_sector_among lba n at ≡ nat_lt at (lba + n)
behind_first lba n at from = ap (λ (b : Bool). not b && nat_lt at (lba + n)) (le-ltb at lba from)

is_among : (lba n at : ℕ) → is_sector_among lba n at ≡ true → IsAmong lba n at
is_among lba n at is = elim (cases_lt at lba) [
  | inl before ↦ absurd (true≢false (sym is ∙ before_all lba n at before))
  | inr from ↦ elim (cases_lt at (lba + n)) [
    | inl inside ↦ (from, inside)
    | inr past ↦ absurd (true≢false (sym is ∙ behind_first lba n at from ∙ le-ltb at (lba + n) past))
  ]
]

is_apart : (lba n at : ℕ) → is_sector_among lba n at ≡ false → (at < lba) ⊎ (lba + n ≤ at)
is_apart lba n at is = elim (cases_lt at lba) [
  | inl before ↦ inl before
  | inr from ↦ elim (cases_lt at (lba + n)) [
    | inl inside ↦ absurd (true≢false (sym (behind_first lba n at from ∙ lt-ltb at (lba + n) inside) ∙ is))
    | inr past ↦ inr past
  ]
]

module _ (s t : State) (cdb payload data_in : List ℕ) (outcome : Outcome) (at : ℕ) (choices : List (List ℕ)) (step : Step s (lines.Command cdb) payload outcome data_in t) (back : FallsBackTo s at choices) where
  -- a write, which may write the sector
  write_back : (lba n : ℕ) (fua : Bool) (among : Bool) → is_sector_among lba n at ≡ among → decoded cdb payload ≡ Ok (commands.Write lba n fua)
      → FallsBackTo t at (if among then bytes_of_sector lba payload at ∷ choices else choices)
  write_back lba n fua true is asks =
      let sent = bytes_of_sector lba payload at in
      let there = is_among lba n at is in
      so_falls t at (sent ∷ choices)
      (line_writes (Contains (sent ∷ choices)) at lba n payload there (Contains-first sent choices) s t cdb data_in outcome fua step asks
      (so_weaker (Contains choices) (Contains (sent ∷ choices)) at (λ found has. Contains-later sent choices found has) s (as_so s at choices back)))
  write_back lba n fua false is asks =
      leaves_back s t (lines.Command cdb) payload data_in outcome at choices step
      (subst (λ (d : Result Command Sense). LeavesAsDecoded at d) (sym asks) (is_apart lba n at is)) back

  leave_back : (d : Result Command Sense) → decoded cdb payload ≡ d → LeavesAsDecoded at d → FallsBackTo t at choices
  leave_back d asks leaves =
      leaves_back s t (lines.Command cdb) payload data_in outcome at choices step (subst (λ (x : Result Command Sense). LeavesAsDecoded at x) (sym asks) leaves) back

  decoded_back : (d : Result Command Sense) → decoded cdb payload ≡ d → WritesAsDecoded d → FallsBackTo t at (choices_asked at d payload choices)
  decoded_back (Err why) asks writes = leave_back (Err why) asks tt
  decoded_back (Ok commands.TestUnitReady) asks writes = leave_back (Ok commands.TestUnitReady) asks tt
  decoded_back (Ok (commands.RequestSense alloc)) asks writes = leave_back (Ok (commands.RequestSense alloc)) asks tt
  decoded_back (Ok (commands.Format kind)) asks writes = absurd writes
  decoded_back (Ok (commands.Expand sectors)) asks writes = leave_back (Ok (commands.Expand sectors)) asks tt
  decoded_back (Ok (commands.Inquiry vital alloc)) asks writes = leave_back (Ok (commands.Inquiry vital alloc)) asks tt
  decoded_back (Ok (commands.StartStop start eject)) asks writes = leave_back (Ok (commands.StartStop start eject)) asks tt
  decoded_back (Ok (commands.Prevent on)) asks writes = leave_back (Ok (commands.Prevent on)) asks tt
  decoded_back (Ok (commands.FormatCapacities alloc)) asks writes = leave_back (Ok (commands.FormatCapacities alloc)) asks tt
  decoded_back (Ok commands.ReadCapacity) asks writes = leave_back (Ok commands.ReadCapacity) asks tt
  decoded_back (Ok (commands.Read lba n)) asks writes = leave_back (Ok (commands.Read lba n)) asks tt
  decoded_back (Ok (commands.Write lba n fua)) asks writes = write_back lba n fua (is_sector_among lba n at) refl asks
  decoded_back (Ok (commands.Verify lba n)) asks writes = leave_back (Ok (commands.Verify lba n)) asks tt
  decoded_back (Ok commands.Synchronize) asks writes = leave_back (Ok commands.Synchronize) asks tt
  decoded_back (Ok (commands.Configuration rt start alloc)) asks writes = leave_back (Ok (commands.Configuration rt start alloc)) asks tt
  decoded_back (Ok (commands.Events media alloc)) asks writes = leave_back (Ok (commands.Events media alloc)) asks tt
  decoded_back (Ok (commands.DiscInformation alloc)) asks writes = leave_back (Ok (commands.DiscInformation alloc)) asks tt
  decoded_back (Ok commands.ModeSelect) asks writes = leave_back (Ok commands.ModeSelect) asks tt
  decoded_back (Ok (commands.ModeSense short control page alloc)) asks writes = leave_back (Ok (commands.ModeSense short control page alloc)) asks tt
  decoded_back (Ok (commands.Structure format alloc)) asks writes = leave_back (Ok (commands.Structure format alloc)) asks tt
  decoded_back (Ok commands.Streaming) asks writes = leave_back (Ok commands.Streaming) asks tt

pub step_back : (s t : State) (line : Line) (payload data_in : List ℕ) (outcome : Outcome) (at : ℕ) (choices : List (List ℕ)) → Step s line payload outcome data_in t → NeitherPressesNorFormats line payload
    → FallsBackTo s at choices → FallsBackTo t at (choices_with at line payload choices)
step_back s t (lines.Command cdb) payload data_in outcome at choices step writes back = decoded_back s t cdb payload data_in outcome at choices step back (decoded cdb payload) refl writes
step_back s t lines.Empty payload data_in outcome at choices step writes back = leaves_back s t lines.Empty payload data_in outcome at choices step tt back
step_back s t (lines.Press zones scale psa) payload data_in outcome at choices step writes back = leaves_back s t (lines.Press zones scale psa) payload data_in outcome at choices step writes back
step_back s t lines.Power payload data_in outcome at choices step writes back = leaves_back s t lines.Power payload data_in outcome at choices step tt back
step_back s t (lines.Fail block) payload data_in outcome at choices step writes back = leaves_back s t (lines.Fail block) payload data_in outcome at choices step tt back
step_back s t (lines.Wear block n) payload data_in outcome at choices step writes back = leaves_back s t (lines.Wear block n) payload data_in outcome at choices step tt back
step_back s t (lines.Cut n fate) payload data_in outcome at choices step writes back = leaves_back s t (lines.Cut n fate) payload data_in outcome at choices step tt back
step_back s t (lines.Scrub all) payload data_in outcome at choices step writes back = leaves_back s t (lines.Scrub all) payload data_in outcome at choices step tt back
step_back s t lines.Tick payload data_in outcome at choices step writes back = leaves_back s t lines.Tick payload data_in outcome at choices step tt back

-- a line that was only told that it is not done
told_back : (s t : State) (at : ℕ) (choices : List (List ℕ)) → IsUnchangedIn s t → FallsBackTo s at choices → FallsBackTo t at choices
told_back s t at choices is back = so_falls t at choices (so_unchanged (Contains choices) at s t is (as_so s at choices back))

-- a step of a run, which tells only or does not
event_back : (s t : State) (event : AnsweredStep) (at : ℕ) (choices : List (List ℕ)) (told : Bool) → was_only_told event.reply ≡ told → Step s event.line event.payload (Ok event.reply) event.data_in t
    → UnlessTold NeitherPressesNorFormats event → FallsBackTo s at choices → FallsBackTo t at (if told then choices else choices_with at event.line event.payload choices)
event_back s t event at choices true is step writes back =
    told_back s t at choices (told_same s t event.line event.payload event.data_in event.reply step (subst IsTrue (sym is) refl)) back
event_back s t event at choices false is step (inl told) back = absurd (false≢true (subst IsTrue is told))
event_back s t event at choices false is step (inr writes) back = step_back s t event.line event.payload event.data_in (Ok event.reply) at choices step writes back

pub run_back : (s t : State) (events : List AnsweredStep) (at : ℕ) (choices : List (List ℕ)) → Run s events t → All (UnlessTold NeitherPressesNorFormats) events → FallsBackTo s at choices → FallsBackTo t at (choices_after at events choices)
run_back s t [] at choices run writes back = subst (λ (x : State). FallsBackTo x at choices) (sym run) back
run_back s t (event ∷ events) at choices run writes back =
    event_back run.0 t event at (choices_after at events choices) (was_only_told event.reply) refl run.2
    (All-head (UnlessTold NeitherPressesNorFormats) event events writes)
    (run_back s run.0 events at choices run.1 (All-tail (UnlessTold NeitherPressesNorFormats) event events writes) back)

-- a disc has whole blocks
whole_by : (shape : Shape) (cells : List Cell) (lists : Option Lists) (buffer : List (ℕ × List ℕ)) (disc : List ℕ) → StandsBy shape cells lists buffer disc → (blocks : ℕ) × (length disc ≡ 32768 * blocks)
whole_by shape cells None buffer disc stands = (0, ap length stands.0)
whole_by shape cells (Some lists) buffer disc stands = (logical_count shape lists, stands.fits.as_long)

sector_block : (at blocks long : ℕ) → long ≡ 32768 * blocks → 2048 * (at + 1) ≤ long → 32768 * (block_with at + 1) ≤ long
sector_block at blocks long is inside = omega (arith, is, inside)

found_in : (shown : CacheShown) (c : Contents) (at : ℕ) (choices : List (List ℕ)) (bytes : List ℕ) → CacheStandsFor shown c → SoInContents (Contains choices) at c → StandsWithSector c at bytes → Contains choices bytes
found_in shown (Has v) at choices bytes stood so has =
    let whole = whole_by shown.drive.shape (cells_in shown.drive) shown.drive.lists shown.drive.buffer stood.0 stood.1.2 in
    subst (Contains choices) has.bytes_are
    (so_shown (Contains choices) at v (sector_block at whole.0 (length v.disc) (stood.2.taken.as_long ∙ whole.1) has.inside) (only (SoInBlock (Contains choices) at) (block_with at) v so))
found_in shown (MayHave all) at choices bytes stood so has = absurd has

-- what the disc has of it is one of these
pub found_back : (s : State) (at : ℕ) (choices : List (List ℕ)) (bytes : List ℕ) → FallsBackTo s at choices → HasNow s at bytes → Contains choices bytes
found_back (Unopened image) at choices bytes back has = absurd back
found_back (Disc s) at choices bytes back has = found_in s.disc.shown s.disc.contents at choices bytes s.disc.stands back has
