-- A block that was pending is safe after an ejection, and after the write cache was turned off.
use Rattle.std.specs.Prelude.{◌≡◌, ◌&&◌, not, ℕ, ◌<◌, Bool, true, false, MatchBool, IsSome, Option, Some, None, List, length}
use Rattle.std.specs.Option.{option_map_or}
use Rattle.std.specs.List.{Contains}
use Rattle.std.proofs.Common.{arith, refl, sym, ap, ◌∙◌, subst}
use Rattle.model_drive.specs.Shown.{Shown, IsFormatted, block_count, home_cell}
use Rattle.model_drive.specs.Sound.{IsSound}
use Rattle.model_medium.specs.Cells.{IsGood}
use Rattle.model_places.specs.Places.{Lists, logical_count}
use Rattle.model_cache.specs.declared.SyncOut.{SyncOut}
use Rattle.model_cache.specs.declared.SyncOut.TheVariants as syncs
use Rattle.model_cache.specs.Values.{Values, Contents, Has, MayHave, IsPending}
use Rattle.model_cache.specs.Shown.{CacheShown, CacheStandsFor, dropped, pending_in}
use Rattle.model_cache.specs.Steps.{SyncContents}
use Rattle.model_cache.specs.Causes.{SyncCause}
use Rattle.model_cache.proofs.FlushedHomes.{synced_good}
use Rattle.model_cache.proofs.Completing.{tries_leave}
use Rattle.model_modes.specs.ParameterLists.{caches_after}
use Rattle.model_sense.specs.declared.answer.Answer.TheVariants as answers
use Rattle.model_cdb.specs.declared.commands.Command.TheVariants as commands
use Rattle.model_target.specs.Steps.{settle_answer, TurnsOff, SetsCache}
use Rattle.model_target.proofs.Settling.{Settles, settled_by, turned_by}
use Rattle.ram_machine.specs.States.{State, Served, Unopened, Disc}
use Rattle.ram_machine.specs.Runs.{IsStep}
use Rattle.ram_machine.specs.Answered.{AnsweredStep}
use Rattle.ram_machine.specs.Acknowledged.{WasDone, IsPendingIn}
use Rattle.ram_machine.proofs.DoneLines.{Done, line_done}
use Rattle.ram_machine.proofs.SyncedImage.{inside_by}
use Rattle.ram_survival.specs.Living.{IsSafe, IsSafeOn, CachesIn}
use Rattle.ram_survival.proofs.SafeBlocks.{synced_out}

-- the disc has each pending block
has_block : (shown : CacheShown) (v : Values) → CacheStandsFor shown (Has v) → (i : ℕ) (bytes : List ℕ) → Contains {X = ℕ × List ℕ} shown.pending (i, bytes) → i < block_count shown.drive
has_block shown v stands i bytes has = inside_by shown.drive shown.drive.lists stands.0 i stands.1.2 (stands.2.inside i bytes has)

-- with a block the disc is formatted
formatted_by : (lists : Option Lists) (count : Lists → ℕ) (i : ℕ) → i < option_map_or count lists 0 → IsSome lists
formatted_by None count i inside = absurd (omega (arith, inside))
formatted_by (Some lists) count i inside = refl

module _ (old new : CacheShown) (sound : IsSound old.drive) (i : ℕ) (bytes : List ℕ) (has : Contains {X = ℕ × List ℕ} old.pending (i, bytes)) where
  module _ (v : Values) (stands : CacheStandsFor old (Has v)) where
    inside : i < block_count old.drive
    inside = has_block old v stands i bytes has

    -- a synchronisation that was good
    good_safe : SyncCause old new syncs.Good → IsSafeOn new i
    good_safe cause =
        let due : List ℕ = pending_in (dropped old) in
        let left = tries_leave due (length due) 0 (dropped old) new cause.drained.0 cause.on cause.formatted sound stands.1.0 cause.drained.1 in
        record {
          formatted = left.formatted;
          settled = λ held. synced_out i old new cause held;
          good = synced_good old new cause sound stands.1.0 i bytes has inside;
        }

    by_out : (out : SyncOut) → settle_answer out ≡ answers.Good → SyncCause old new out → IsSafeOn new i
    by_out syncs.Good good cause = good_safe cause
    by_out syncs.NotFormatted good cause = absurd (cause.unformatted (formatted_by old.drive.lists (logical_count old.drive.shape) i inside))
    by_out (syncs.NoSpare lba) good cause = absurd cc
    by_out (syncs.NoUpdate counter) good cause = absurd cc
    by_out syncs.Cut good cause = absurd cc
    by_out syncs.Off good cause = absurd cc
    by_out syncs.Fault good cause = absurd cc

  -- what the drive stands for has values while the power is on
  with_values : (c : Contents) → CacheStandsFor old c → (after : Contents → Type 0) (out : SyncOut) → SyncContents new after c out → settle_answer out ≡ answers.Good → SyncCause old new out → IsSafeOn new i
  with_values (Has v) stands after out step good cause = by_out v stands out good cause
  with_values (MayHave all) stands after syncs.Off step good cause = absurd cc
  with_values (MayHave all) stands after syncs.Good step good cause = absurd step
  with_values (MayHave all) stands after syncs.NotFormatted step good cause = absurd step
  with_values (MayHave all) stands after (syncs.NoSpare lba) step good cause = absurd step
  with_values (MayHave all) stands after (syncs.NoUpdate counter) step good cause = absurd step
  with_values (MayHave all) stands after syncs.Cut step good cause = absurd step
  with_values (MayHave all) stands after syncs.Fault step good cause = absurd step

module _ (s t : Served) (i : ℕ) (bytes data_in : List ℕ) (has : Contains {X = ℕ × List ℕ} s.disc.shown.pending (i, bytes)) where
  settled_safe : Settles s.disc.shown t.disc.shown (λ x. x ≡ s.disc.contents) (λ x. x ≡ t.disc.contents) answers.Good data_in → IsSafe (Disc t) i
  settled_safe p =
      let safe = with_values s.disc.shown p.mid s.disc.sound i bytes has s.disc.contents s.disc.stands (λ x. x ≡ t.disc.contents) p.out (p.step s.disc.contents refl) (sym p.answer_is) p.cause in
      record {
        formatted = subst IsFormatted (sym p.same_drive) safe.formatted;
        settled = λ held. safe.settled (subst (λ (l : List (ℕ × List ℕ)). IsPending l i) p.same_pending held);
        good = subst (λ (d : Shown). IsGood (home_cell d i)) (sym p.same_drive) safe.good;
      }

  -- a list of mode pages that turned the cache off
  selected_safe : (flag : Bool) (payload : List ℕ) → (s.disc.shown.caches && not (caches_after payload s.disc.shown.caches)) ≡ flag → s.disc.shown.caches ≡ true → t.disc.shown.caches ≡ false
      → MatchBool flag (TurnsOff s.disc.shown t.disc.shown (λ x. x ≡ s.disc.contents) (λ x. x ≡ t.disc.contents) answers.Good data_in)
      (SetsCache s.disc.shown t.disc.shown (λ x. x ≡ s.disc.contents) (λ x. x ≡ t.disc.contents) payload answers.Good data_in) → IsSafe (Disc t) i
  selected_safe true payload flag was now p = settled_safe (turned_by s.disc.shown t.disc.shown (λ x. x ≡ s.disc.contents) (λ x. x ≡ t.disc.contents) answers.Good data_in p)
  selected_safe false payload flag was now p = absurd (both s.disc.shown.caches (caches_after payload s.disc.shown.caches) was (sym (ap (λ (x : CacheShown). x.caches) p.mode) ∙ now) flag)
    where
      both : (a b : Bool) → a ≡ true → b ≡ false → (a && not b) ≡ false → ⊥
      both true false was now flag = (let e : true ≡ false = flag in cc)
      both true true was now flag = (let e : true ≡ false = now in cc)
      both false b was now flag = (let e : false ≡ true = was in cc)

pub ejected_safe : (s t : State) (event : AnsweredStep) (i : ℕ) (bytes : List ℕ) → IsStep s event t → WasDone event (commands.StartStop false true) → IsPendingIn s i bytes → IsSafe t i
ejected_safe s t event i bytes step done pending = by_states s t (line_done s t event (commands.StartStop false true) step done) pending
  where
    by_states : (s t : State) → Done s t (commands.StartStop false true) event.payload event.data_in → IsPendingIn s i bytes → IsSafe t i
    by_states (Unopened image) t is pending = absurd pending
    by_states (Disc s) (Unopened image) is pending = absurd is
    by_states (Disc s) (Disc t) is pending =
        settled_safe s t i bytes event.data_in pending (settled_by s.disc.shown t.disc.shown (λ x. x ≡ s.disc.contents) (λ x. x ≡ t.disc.contents) answers.Good event.data_in is.done)

pub turned_off_safe : (s t : State) (event : AnsweredStep) (i : ℕ) (bytes : List ℕ) → IsStep s event t → WasDone event commands.ModeSelect → CachesIn s true → CachesIn t false → IsPendingIn s i bytes → IsSafe t i
turned_off_safe s t event i bytes step done was now pending = by_states s t (line_done s t event commands.ModeSelect step done) was now pending
  where
    by_states : (s t : State) → Done s t commands.ModeSelect event.payload event.data_in → CachesIn s true → CachesIn t false → IsPendingIn s i bytes → IsSafe t i
    by_states (Unopened image) t is was now pending = absurd pending
    by_states (Disc s) (Unopened image) is was now pending = absurd is
    by_states (Disc s) (Disc t) is was now pending = selected_safe s t i bytes event.data_in pending _ event.payload refl was now is.done
