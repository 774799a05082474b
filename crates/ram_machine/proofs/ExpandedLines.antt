-- What an expansion that was answered Good leaves of the disc.
use Rattle.std.specs.Prelude.{◌≡◌, ℕ, ◌+◌, ◌*◌, ◌<◌, ◌≤◌, List, length}
use Rattle.std.proofs.Common.{arith, refl, sym, ◌∙◌, subst, length-take}
use Rattle.model_cache.specs.Values.{Contents, Has, MayHave}
use Rattle.model_cache.specs.Shown.{CacheShown}
use Rattle.model_cache.specs.Steps.{ExpandContents}
use Rattle.model_drive.specs.declared.ExpandOut.{ExpandOut}
use Rattle.model_drive.specs.declared.ExpandOut.TheVariants as expands
use Rattle.model_drive.specs.Expands.{shortened}
use Rattle.model_sense.specs.declared.answer.Answer.TheVariants as answers
use Rattle.model_cdb.specs.declared.commands.Command.TheVariants as commands
use Rattle.model_target.specs.Steps.{IsExpanded, expand_answer}
use Rattle.ram_machine.specs.States.{State, Unopened, Disc}
use Rattle.ram_machine.specs.Runs.{IsStep}
use Rattle.ram_machine.specs.Answered.{AnsweredStep}
use Rattle.ram_machine.specs.Acknowledged.{HasSector, StandsWithSector, HasNow, WasDone}
use Rattle.ram_machine.proofs.DoneLines.{Done, line_done}
use Rattle.ram_machine.proofs.Shortened.{front_sector}

good_expand : (out : ExpandOut) → answers.Good ≡ expand_answer out → out ≡ expands.Good
good_expand expands.Good is = refl
good_expand expands.NotFormatted is = absurd cc
good_expand (expands.Refused known) is = absurd cc
good_expand (expands.NoUpdate counter) is = absurd cc
good_expand expands.Cut is = absurd cc
good_expand expands.Off is = absurd cc
good_expand expands.Fault is = absurd cc

expand_good : (old new : CacheShown) (s t : Contents) (sectors : ℕ) (data_in : List ℕ) → IsExpanded old new (λ x. x ≡ s) (λ x. x ≡ t) sectors answers.Good data_in → ExpandContents (λ x. x ≡ t) s sectors expands.Good
expand_good old new s t sectors data_in p =
    subst (λ (o : ExpandOut). ExpandContents (λ x. x ≡ t) s sectors o) (good_expand p.out p.answer_is) (p.step s refl)

-- a sector below the new capacity is left, with its bytes
short_has : (disc : List ℕ) (sectors at : ℕ) (bytes : List ℕ) → at < sectors → HasSector disc at bytes → HasSector (shortened sectors disc) at bytes
short_has disc sectors at bytes below has =
    let inside : 2048 * (at + 1) ≤ length disc = has.inside in
    let within : 2048 * (at + 1) ≤ length (shortened sectors disc) = omega (arith, below, inside, length-take (2048 * sectors) disc) in
    record { inside = within; bytes_are = front_sector disc sectors at within ∙ has.bytes_are }

-- and no other
short_lacks : (disc : List ℕ) (sectors at : ℕ) (bytes : List ℕ) → sectors ≤ at → HasSector (shortened sectors disc) at bytes → ⊥
short_lacks disc sectors at bytes past has =
    let inside : 2048 * (at + 1) ≤ length (shortened sectors disc) = has.inside in absurd (omega (arith, past, inside, length-take (2048 * sectors) disc))

module _ (t : Contents) (sectors at : ℕ) (bytes : List ℕ) where
  stays : (s : Contents) → ExpandContents (λ x. x ≡ t) s sectors expands.Good → at < sectors → StandsWithSector s at bytes → StandsWithSector t at bytes
  stays (Has v) step below has = subst (λ (x : Contents). StandsWithSector x at bytes) step (short_has v.disc sectors at bytes below has)
  stays (MayHave all) step below has = absurd has

  gone : (s : Contents) → ExpandContents (λ x. x ≡ t) s sectors expands.Good → sectors ≤ at → StandsWithSector t at bytes → ⊥
  gone (Has v) step past has = short_lacks v.disc sectors at bytes past (subst (λ (x : Contents). StandsWithSector x at bytes) (sym step) has)
  gone (MayHave all) step past has = absurd step

pub line_leaves : (s t : State) (event : AnsweredStep) (sectors at : ℕ) (bytes : List ℕ) → IsStep s event t → WasDone event (commands.Expand sectors) → at < sectors → HasNow s at bytes → HasNow t at bytes
line_leaves s t event sectors at bytes step done below has = by_states s t (line_done s t event (commands.Expand sectors) step done) has
  where
    by_states : (s t : State) → Done s t (commands.Expand sectors) event.payload event.data_in → HasNow s at bytes → HasNow t at bytes
    by_states (Unopened image) t is has = absurd is
    by_states (Disc s) (Unopened image) is has = absurd is
    by_states (Disc s) (Disc t) is has =
        stays t.disc.contents sectors at bytes s.disc.contents (expand_good s.disc.shown t.disc.shown s.disc.contents t.disc.contents sectors event.data_in is.done) below has

pub line_takes : (s t : State) (event : AnsweredStep) (sectors at : ℕ) (bytes : List ℕ) → IsStep s event t → WasDone event (commands.Expand sectors) → sectors ≤ at → HasNow t at bytes → ⊥
line_takes s t event sectors at bytes step done past has = by_states s t (line_done s t event (commands.Expand sectors) step done) has
  where
    by_states : (s t : State) → Done s t (commands.Expand sectors) event.payload event.data_in → HasNow t at bytes → ⊥
    by_states (Unopened image) t is has = absurd is
    by_states (Disc s) (Unopened image) is has = absurd is
    by_states (Disc s) (Disc t) is has =
        gone t.disc.contents sectors at bytes s.disc.contents (expand_good s.disc.shown t.disc.shown s.disc.contents t.disc.contents sectors event.data_in is.done) past has
