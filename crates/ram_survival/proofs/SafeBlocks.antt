-- What is safe: each block of a write through the cache that was good, each block that was pending before a synchronisation that was
-- good, and each that a tick wrote.
use Rattle.std.specs.Prelude.{◌≡◌, ℕ, ◌*◌, Bool, true, IsSome, Some, Ok, List, [], ◌∷◌, length}
use Rattle.std.specs.List.{Contains}
use Rattle.std.specs.Option.{option_map_or}
use Rattle.std.proofs.Common.{arith, refl, sym, ap, ◌∙◌, inl, inr, subst}
use Rattle.model_medium.specs.Cells.{Cell, Good, IsGood, cell_at}
use Rattle.model_image.specs.Cells.{cells_of}
use Rattle.model_geometry.specs.Geometry.{total}
use Rattle.model_sectors.specs.Requests.{block_with, blocks_covered, IsCovered}
use Rattle.model_places.specs.Places.{Lists, home_of}
use Rattle.model_drive.specs.declared.WriteOut.TheVariants as writes
use Rattle.model_drive.specs.Shown.{cells_in, home_cell}
use Rattle.model_cache.specs.declared.SyncOut.TheVariants as syncs
use Rattle.model_cache.specs.Values.{IsPending, is_among}
use Rattle.model_cache.specs.Shown.{CacheShown, dropped, pending_in, pending_but, pending_covered, goes_into_cache}
use Rattle.model_cache.specs.Causes.{CachedCause, ThroughCause, SyncCause}
use Rattle.model_cache.proofs.Members.{Contains-kept, Contains-cases}
use Rattle.model_cache.proofs.FlushedHomes.{FlushesAll, all_flushed, numbered}
use Rattle.ram_cache.proofs.Written.{among_from}
use Rattle.model_cdb.specs.declared.commands.Command.TheVariants as commands
use Rattle.ram_report.specs.declared.printing.Event.TheVariants as events
use Rattle.ram_text.specs.declared.script.Line.{Line}
use Rattle.ram_text.specs.declared.script.Line.TheVariants as lines
use Rattle.ram_machine.specs.declared.reply.Reply.{Reply}
use Rattle.ram_machine.specs.declared.reply.Reply.TheVariants as replies
use Rattle.ram_machine.specs.States.{State, Served, Unopened, Disc}
use Rattle.ram_machine.specs.LineSteps.{Step}
use Rattle.ram_machine.specs.Runs.{IsStep}
use Rattle.ram_machine.specs.Answered.{AnsweredStep}
use Rattle.ram_machine.specs.Acknowledged.{WasDone, IsAmong, GoesThrough, HasInImage, HasBlockInImage, IsPendingIn}
use Rattle.ram_machine.specs.SectorBytes.{bytes_of_sector}
use Rattle.ram_machine.proofs.Images.{image_left}
use Rattle.ram_machine.proofs.DoneLines.{Done, line_done, write_good, through_by, in_covered}
use Rattle.ram_machine.proofs.InImage.{line_in_image}
use Rattle.ram_machine.proofs.Synced.{good_sync}
use Rattle.ram_machine.proofs.SyncedImage.{block_in_image, ticked_in_image, tick_wrote, not_there}
use Rattle.ram_survival.specs.Living.{IsSafe}
use Rattle.ram_survival.proofs.LivingFlushes.{taken_out, as_was}

-- ---- what was flushed is not pending

flushed_out : (due : List ℕ) (old new : CacheShown) → FlushesAll old due new → (i : ℕ) → IsPending new.pending i → IsPending old.pending i
flushed_out [] old new is i held = subst (λ (x : CacheShown). IsPending x.pending i) is held
flushed_out (j ∷ due) old new is i held = taken_out old.pending is.0.pending i j is.1.left (flushed_out due is.0 new is.2 i held)

none_due : (due : List ℕ) (old new : CacheShown) → FlushesAll old due new → (i : ℕ) → Contains due i → ¬ IsPending new.pending i
none_due [] old new is i (k, within, at) held = absurd (omega (arith, within))
none_due (j ∷ due) old new is i has held = elim (Contains-cases j due i has) [
  | inl same ↦ not_there old.pending j (subst (IsPending (pending_but j old.pending)) (sym same) (subst (λ (p : List (ℕ × List ℕ)). IsPending p i) is.1.left (flushed_out due is.0 new is.2 i held)))
  | inr later ↦ none_due due is.0 new is.2 i later held
]

module _ (i : ℕ) where
  -- after a synchronisation nothing is pending
  pub synced_out : (old new : CacheShown) → SyncCause old new syncs.Good → ¬ IsPending new.pending i
  synced_out old new cause held =
      let flushed = all_flushed (pending_in (dropped old)) (length (pending_in (dropped old))) (dropped old) new cause.drained.0 (omega arith) cause.drained.1 in
      let before = flushed_out (pending_in (dropped old)) (dropped old) new flushed i held in
      none_due (pending_in (dropped old)) (dropped old) new flushed i (numbered (dropped old).pending i before.0 before.1) held

  -- after a write through the cache no covered block is
  among_covered : (lba n : ℕ) → IsCovered lba n i → is_among (block_with lba) (blocks_covered lba n) i ≡ true
  among_covered lba n covered = among_from (block_with lba) (blocks_covered lba n) i covered.0 covered.1

  written_out : (old new : CacheShown) (lba n : ℕ) → ThroughCause old new lba n writes.Good → IsCovered lba n i → ¬ IsPending new.pending i
  written_out old new lba n cause covered held =
      let p = cause.1 in
      let due : List ℕ = pending_covered true (dropped old) lba n in
      let flushed = all_flushed due (length due) (dropped old) p.mid p.drained.0 (omega arith) p.drained.1 in
      let at_mid = as_was p.mid.pending new.pending i p.left held in
      let before = flushed_out due (dropped old) p.mid flushed i at_mid in
      none_due due (dropped old) p.mid flushed i
      (Contains-kept (is_among (block_with lba) (blocks_covered lba n)) (pending_in (dropped old)) i (among_covered lba n covered) (numbered (dropped old).pending i before.0 before.1)) at_mid

-- ---- the image has it, so its home is good

in_cells_good : (s : Served) (lists : Lists) (i : ℕ) (held : List ℕ) → s.disc.shown.drive.lists ≡ Some lists → cell_at (cells_of (total s.disc.shown.drive.shape) s.bytes) (home_of s.disc.shown.drive.shape lists i) ≡ Good held
    → IsGood (home_cell s.disc.shown.drive i)
in_cells_good s lists i held is has =
    let there : option_map_or (λ l. home_of s.disc.shown.drive.shape l i) s.disc.shown.drive.lists 0 ≡ home_of s.disc.shown.drive.shape lists i =
    ap (λ o. option_map_or (λ l. home_of s.disc.shown.drive.shape l i) o 0) is in
    let cell : cell_at (cells_in s.disc.shown.drive) (home_of s.disc.shown.drive.shape lists i) ≡ Good held =
    ap (λ (cells : List Cell). cell_at cells (home_of s.disc.shown.drive.shape lists i)) (sym (image_left s s.bytes refl).cells_are) ∙ has in
    subst (λ (at : ℕ). IsGood (cell_at (cells_in s.disc.shown.drive) at)) (sym there) (subst IsGood (sym cell) tt)

block_safe : (s : Served) (i : ℕ) (bytes : List ℕ) → HasBlockInImage (Disc s) s.bytes i bytes → ¬ IsPending s.disc.shown.pending i → IsSafe (Disc s) i
block_safe s i bytes has settled = record { formatted = subst IsSome (sym has.in_use) refl; settled = settled; good = in_cells_good s has.lists i bytes has.in_use has.has }

sector_safe : (s : Served) (at : ℕ) (bytes : List ℕ) → HasInImage (Disc s) s.bytes at bytes → ¬ IsPending s.disc.shown.pending (block_with at) → IsSafe (Disc s) (block_with at)
sector_safe s at bytes has settled =
    record { formatted = subst IsSome (sym has.in_use) refl; settled = settled; good = in_cells_good s has.lists (block_with at) has.held has.in_use has.has }

-- ---- the laws

pub synced_safe : (s t : State) (event : AnsweredStep) (i : ℕ) (bytes : List ℕ) → IsStep s event t → WasDone event commands.Synchronize → IsPendingIn s i bytes → IsSafe t i
synced_safe s t event i bytes step done pending = by_states s t step (line_done s t event commands.Synchronize step done) pending
  where
    by_states : (s t : State) → IsStep s event t → Done s t commands.Synchronize event.payload event.data_in → IsPendingIn s i bytes → IsSafe t i
    by_states (Unopened image) t step is pending = absurd pending
    by_states (Disc s) (Unopened image) step is pending = absurd is
    by_states (Disc s) (Disc t) step is pending =
        block_safe t i bytes (block_in_image i bytes t.bytes (Disc s) (Disc t) event step done pending refl)
        (synced_out i s.disc.shown t.disc.shown (subst (SyncCause s.disc.shown t.disc.shown) (good_sync is.done.out is.done.answer_is) is.done.cause))

pub written_safe : (s t : State) (event : AnsweredStep) (lba n at : ℕ) (fua : Bool) → IsStep s event t → WasDone event (commands.Write lba n fua) → IsAmong lba n at → GoesThrough s lba n fua → IsSafe t (block_with at)
written_safe s t event lba n at fua step done among goes = by_states s t step (line_done s t event (commands.Write lba n fua) step done) goes
  where
    by_states : (s t : State) → IsStep s event t → Done s t (commands.Write lba n fua) event.payload event.data_in → GoesThrough s lba n fua → IsSafe t (block_with at)
    by_states (Unopened image) t step is goes = absurd is
    by_states (Disc s) (Unopened image) step is goes = absurd is
    by_states (Disc s) (Disc t) step is goes =
        let good = write_good s.disc.shown t.disc.shown s.disc.contents t.disc.contents lba n fua event.payload event.data_in is.done in
        let through = through_by fua (goes_into_cache s.disc.shown lba n) (ThroughCause s.disc.shown t.disc.shown lba n writes.Good) (CachedCause s.disc.shown t.disc.shown lba n event.payload writes.Good) goes good.cause in
        let c = in_covered lba n at among in
        let there = c.there in
        let below = c.covered in
        sector_safe t at (bytes_of_sector lba event.payload at) (line_in_image (Disc s) (Disc t) event lba n at fua t.bytes step done among goes refl)
        (written_out (block_with at) s.disc.shown t.disc.shown lba n through (omega (arith, there), omega (arith, there, below)))

pub ticked_safe : (s t : State) (event : AnsweredStep) (i : ℕ) (bytes : List ℕ) → IsStep s event t → event.line ≡ lines.Tick → event.reply ≡ replies.Event (events.Written (16 * i)) → IsPendingIn s i bytes → IsSafe t i
ticked_safe s t event i bytes step is_tick written pending =
    by_states s t step
    (subst (λ (l : Line). Step s l event.payload (Ok (replies.Event (events.Written (16 * i)))) event.data_in t) is_tick
    (subst (λ (r : Reply). Step s event.line event.payload (Ok r) event.data_in t) written step)) pending
  where
    by_states : (s t : State) → IsStep s event t → Step s lines.Tick event.payload (Ok (replies.Event (events.Written (16 * i)))) event.data_in t → IsPendingIn s i bytes → IsSafe t i
    by_states (Unopened image) t step ticked pending = absurd pending
    by_states (Disc s) (Unopened image) step ticked pending = absurd ticked
    by_states (Disc s) (Disc t) step ticked pending =
        let wrote = tick_wrote s.disc.shown t.disc.shown s.disc.contents t.disc.contents s.host t.host i ticked.rule.0 in
        block_safe t i bytes (ticked_in_image i bytes t.bytes (Disc s) (Disc t) event step is_tick written pending refl)
        (λ held. not_there (dropped s.disc.shown).pending i (as_was (pending_but i (dropped s.disc.shown).pending) t.disc.shown.pending i wrote.flushed.left held))
