-- After a synchronisation that was answered Good the image has each block that was pending, in its home; after a tick the one that it
-- wrote.
use Rattle.std.specs.Prelude.{◌≡◌, ℕ, ◌+◌, ◌*◌, ◌<◌, ◌≤◌, ◌==◌, true, false, not, Ok, Option, Some, None, List, [], ◌∷◌, length}
use Rattle.std.specs.Option.{option_map_or}
use Rattle.std.specs.List.{Contains}
use Rattle.std.proofs.Common.{arith, refl, sym, ap, ◌∙◌, inl, inr, subst}
use Rattle.std.proofs.lemmas.Bool.{eq-eqb}
use Rattle.model_geometry.specs.Geometry.{total}
use Rattle.model_medium.specs.Cells.{Cell, IsGood, cell_at}
use Rattle.model_image.specs.Cells.{cells_of}
use Rattle.model_sectors.specs.Discs.{block_of}
use Rattle.model_sectors.specs.Requests.{block_with}
use Rattle.model_places.specs.Places.{Lists, logical_count, home_of}
use Rattle.model_drive.specs.Shown.{Shown, StandsBy, cells_in}
use Rattle.model_cache.specs.declared.SyncOut.TheVariants as syncs
use Rattle.model_cache.specs.declared.TickOut.{TickOut}
use Rattle.model_cache.specs.declared.TickOut.TheVariants as ticks
use Rattle.model_cache.specs.Values.{Values, Contents, Has, MayHave, HasBlock, HasValue, IsPending, settled_values}
use Rattle.model_cache.specs.Shown.{CacheShown, CacheStandsFor, dropped, pending_but}
use Rattle.model_cache.specs.Chains.{Flushes}
use Rattle.model_cache.specs.Drains.{DrainCause}
use Rattle.model_drive.specs.declared.WriteOut.TheVariants as writes
use Rattle.model_cache.specs.Causes.{SyncCause, TickCause, TickCauseOf}
use Rattle.model_cache.proofs.FlushedHomes.{all_flushed}
use Rattle.model_cache.specs.Steps.{SyncContents, TickContents}
use Rattle.model_cache.proofs.FlushedHomes.{flushed_good, synced_good}
use Rattle.model_cache.proofs.Members.{Contains-none, Contains-passed}
use Rattle.model_cdb.specs.declared.commands.Command.TheVariants as commands
use Rattle.model_target.specs.declared.host.Host.{Host}
use Rattle.ram_report.specs.declared.printing.Event.TheVariants as events
use Rattle.ram_text.specs.declared.script.Line.{Line}
use Rattle.ram_text.specs.declared.script.Line.TheVariants as lines
use Rattle.ram_machine.specs.declared.reply.Reply.{Reply}
use Rattle.ram_machine.specs.declared.reply.Reply.TheVariants as replies
use Rattle.ram_machine.specs.Replies.{tick_outcome}
use Rattle.ram_machine.specs.States.{State, Served, Unopened, Disc, IsLeft}
use Rattle.ram_machine.specs.LineSteps.{TickLine, Step}
use Rattle.ram_machine.specs.Runs.{IsStep}
use Rattle.ram_machine.specs.Answered.{AnsweredStep}
use Rattle.ram_machine.specs.Acknowledged.{HasSector, StandsWithSector, HasNow, WasDone, HasInImage, HasHomeInCells, HasBlockInImage, IsPendingIn}
use Rattle.ram_machine.specs.SectorBytes.{bytes_of_sector}
use Rattle.ram_machine.proofs.Images.{image_left}
use Rattle.ram_machine.proofs.InImage.{agreed_cell}
use Rattle.ram_machine.proofs.WrittenDiscs.{block_sector}
use Rattle.ram_machine.proofs.DoneLines.{Done, line_done}
use Rattle.ram_machine.proofs.Synced.{good_sync, sync_step}

-- a block of the disc is one of n
pub inside_by : (shown : Shown) (lists : Option Lists) (d : List ℕ) (i : ℕ) → StandsBy shown.shape (cells_in shown) lists shown.buffer d → HasBlock d i
    → i < option_map_or (logical_count shown.shape) lists 0
inside_by shown None d i stands has = absurd (none_in d stands.0 has)
  where
    none_in : (d : List ℕ) → d ≡ [] → 32768 * (i + 1) ≤ length d → ⊥
    none_in d is has = let none : length d ≡ 0 = ap length is in omega (arith, none, has)
inside_by shown (Some lists) d i stands has =
    let long : length d ≡ 32768 * logical_count shown.shape lists = stands.fits.as_long in omega (arith, long, has)

-- a block of the disc whose home has whole bytes is in its home
home_by : (shown : Shown) (lists : Option Lists) (d : List ℕ) (i : ℕ) → shown.lists ≡ lists → StandsBy shown.shape (cells_in shown) lists shown.buffer d → HasBlock d i
    → IsGood (cell_at (cells_in shown) (option_map_or (λ l. home_of shown.shape l i) lists 0)) → HasHomeInCells shown (cells_in shown) i (block_of d i)
home_by shown None d i is stands has good = absurd (let inside : i < 0 = inside_by shown None d i stands has in omega (arith, inside))
home_by shown (Some lists) d i is stands has good = record {
  lists = lists;
  in_use = is;
  has = agreed_cell (cell_at (cells_in shown) (home_of shown.shape lists i)) (block_of d i) good (stands.fits.agrees i (inside_by shown (Some lists) d i stands has));
}

module _ (i : ℕ) (bytes : List ℕ) (s t : Served) (has : Contains {X = ℕ × List ℕ} s.disc.shown.pending (i, bytes)) (cause : SyncCause s.disc.shown t.disc.shown syncs.Good) where
  -- after it the disc below has the block, which is that of the disc that was shown
  record HasItNow (v : Values) : Type 0 where
    last : block_of v.disc i ≡ bytes
    in_home : HasHomeInCells t.disc.shown.drive (cells_in t.disc.shown.drive) i bytes

  one_value : (v : Values) (d : List ℕ) → HasValue (settled_values v.disc) i (block_of d i) → block_of d i ≡ block_of v.disc i
  one_value v d (inl is) = is
  one_value v d (inr older) = absurd (Contains-none {X = ℕ × List ℕ} (i, block_of d i) older)

  values_synced : (v : Values) → CacheStandsFor s.disc.shown (Has v) → CacheStandsFor t.disc.shown (Has (settled_values v.disc)) → HasItNow v
  values_synced v before after =
      let d : List ℕ = before.0 in
      let d' : List ℕ = after.0 in
      let there : 32768 * (i + 1) ≤ length d = before.2.inside i bytes has in
      let long : length v.disc ≡ length d = before.2.taken.as_long in
      let long' : length v.disc ≡ length d' = after.2.taken.as_long in
      let there' : 32768 * (i + 1) ≤ length d' = omega (arith, there, long, long') in
      let last : block_of v.disc i ≡ bytes = before.2.last i bytes has in
      let good = synced_good s.disc.shown t.disc.shown cause s.disc.sound before.1.0 i bytes has (inside_by s.disc.shown.drive s.disc.shown.drive.lists d i before.1.2 there) in
      record {
        last = last;
        in_home = subst (HasHomeInCells t.disc.shown.drive (cells_in t.disc.shown.drive) i) (one_value v d' (after.2.taken.each i) ∙ last)
            (home_by t.disc.shown.drive t.disc.shown.drive.lists d' i refl after.1.2 there' good);
      }

  contents_synced : (c : Contents) → c ≡ s.disc.contents → SyncContents t.disc.shown (λ x. x ≡ t.disc.contents) c syncs.Good → (v : Values) × (Has v ≡ s.disc.contents) × HasItNow v
  contents_synced (Has v) is step = (
    v,
    is,
    values_synced v (subst (CacheStandsFor s.disc.shown) (sym is) s.disc.stands) (subst (CacheStandsFor t.disc.shown) (sym step) t.disc.stands),
  )
  contents_synced (MayHave all) is step = absurd step

  module _ (image : List ℕ) (left : IsLeft (Disc t) image) (step : SyncContents t.disc.shown (λ x. x ≡ t.disc.contents) s.disc.contents syncs.Good) where
    block_synced : HasBlockInImage (Disc t) image i bytes
    block_synced =
        subst (λ (cells : List Cell). HasHomeInCells t.disc.shown.drive cells i bytes) (sym (image_left t image left).cells_are)
        (contents_synced s.disc.contents refl step).2.in_home

    sector_synced : (at : ℕ) (held : List ℕ) → block_with at ≡ i → HasNow (Disc s) at held → HasInImage (Disc t) image at held
    sector_synced at held is now =
        let found = contents_synced s.disc.contents refl step in
        let shows : HasSector found.0.disc at held = subst (λ (c : Contents). StandsWithSector c at held) (sym found.1) now in
        let block = block_synced in
        record {
          lists = block.lists;
          in_use = block.in_use;
          held = bytes;
          has = ap (λ (b : ℕ). cell_at (cells_of (total t.disc.shown.drive.shape) image) (home_of t.disc.shown.drive.shape block.lists b)) is ∙ block.has;
          bytes_are = ap (λ (b : List ℕ). bytes_of_sector (16 * block_with at) b at) (sym found.2.last ∙ ap (block_of found.0.disc) (sym is))
              ∙ block_sector found.0.disc at ∙ shows.bytes_are;
        }

module _ (i : ℕ) (bytes image : List ℕ) where
  by_done : (s t : State) (payload data_in : List ℕ) → Done s t commands.Synchronize payload data_in → IsPendingIn s i bytes → IsLeft t image
      → HasBlockInImage t image i bytes × ((at : ℕ) (held : List ℕ) → block_with at ≡ i → HasNow s at held → HasInImage t image at held)
  by_done (Unopened first) t payload data_in is pending left = absurd is
  by_done (Disc s) (Unopened first) payload data_in is pending left = absurd is
  by_done (Disc s) (Disc t) payload data_in is pending left =
      let step = sync_step 0 [] s.disc.shown t.disc.shown s.disc.contents t.disc.contents data_in is.done in
      let cause = subst (SyncCause s.disc.shown t.disc.shown) (good_sync is.done.out is.done.answer_is) is.done.cause in
      (block_synced i bytes s t pending cause image left step, sector_synced i bytes s t pending cause image left step)

  pub block_in_image : (s t : State) (event : AnsweredStep) → IsStep s event t → WasDone event commands.Synchronize → IsPendingIn s i bytes → IsLeft t image → HasBlockInImage t image i bytes
  block_in_image s t event step done pending left = (by_done s t event.payload event.data_in (line_done s t event commands.Synchronize step done) pending left).0

  pub sector_in_image : (s t : State) (event : AnsweredStep) (at : ℕ) (held : List ℕ) → IsStep s event t → WasDone event commands.Synchronize → IsPendingIn s i bytes → block_with at ≡ i → HasNow s at held → IsLeft t image
      → HasInImage t image at held
  sector_in_image s t event at held step done pending is now left = (by_done s t event.payload event.data_in (line_done s t event commands.Synchronize step done) pending left).1 at held is now

-- ---- a tick

-- what a tick did that wrote this block
pub record WroteBlock (old new : CacheShown) (s t : Contents) (i : ℕ) : Type 0 where
  pub flushed : Flushes (dropped old) new i
  pub step : TickContents (λ x. x ≡ t) s (ticks.Written (16 * i))

written_tick : (i : ℕ) (out : TickOut) → Ok (replies.Event (events.Written (16 * i))) ≡ tick_outcome out → out ≡ ticks.Written (16 * i)
written_tick i ticks.Idle is = absurd cc
written_tick i (ticks.Written lba) is = ap ticks.Written (same_block (16 * i) lba is)
  where
    same_block : (a b : ℕ) → Ok (replies.Event (events.Written a)) ≡ tick_outcome (ticks.Written b) → b ≡ a
    same_block a b same = cc
written_tick i (ticks.NoSpare lba) is = absurd cc
written_tick i (ticks.NoUpdate counter) is = absurd cc
written_tick i ticks.Cut is = absurd cc
written_tick i ticks.Off is = absurd cc
written_tick i ticks.Fault is = absurd cc

same_number : (i j : ℕ) → 16 * i ≡ 16 * j → j ≡ i
same_number i j same = omega (arith, same)

-- a drain of one block that was good flushed it
flushed_one : (old new : CacheShown) (block : ℕ) → DrainCause old new (block ∷ []) 1 writes.Good → Flushes old new block
flushed_one old new block p =
    let all = all_flushed (block ∷ []) 1 old new p.0 (omega arith) p.1 in
    subst (λ (s : CacheShown). Flushes old s block) (sym all.2) all.1

pub tick_wrote : (old new : CacheShown) (s t : Contents) (host later : Host) (i : ℕ) → TickLine old new (λ x. x ≡ s) (λ x. x ≡ t) host later (Ok (replies.Event (events.Written (16 * i)))) → WroteBlock old new s t i
tick_wrote old new s t host later i p =
    let is = written_tick i p.out p.outcome_is in
    let cause : TickCauseOf (dropped old) new (ticks.Written (16 * i)) = subst (TickCause old new) is p.cause in
    record {
      flushed = subst (Flushes (dropped old) new) (same_number i cause.0.block cause.1) (flushed_one (dropped old) new cause.0.block cause.0.drained);
      step = subst (λ (o : TickOut). TickContents (λ x. x ≡ t) s o) is (p.step s refl);
    }

-- a block is not pending once it is taken out
pub not_there : (pending : List (ℕ × List ℕ)) (i : ℕ) → ¬ IsPending (pending_but i pending) i
not_there pending i (bytes, has) =
    by_test i (Contains-passed {X = ℕ × List ℕ} (λ (held : ℕ × List ℕ). not (held.0 == i)) pending (i, bytes) has).0
  where
    by_test : (i : ℕ) → not (i == i) ≡ true → ⊥
    by_test i is = absurd (let out : not (i == i) ≡ false = ap not (eq-eqb i i refl) in let clash : true ≡ false = sym is ∙ out in cc)

module _ (i : ℕ) (bytes : List ℕ) (s t : Served) (has : Contains {X = ℕ × List ℕ} s.disc.shown.pending (i, bytes)) where
  values_ticked : (v : Values) → CacheStandsFor s.disc.shown (Has v) → CacheStandsFor t.disc.shown (Has v) → Flushes (dropped s.disc.shown) t.disc.shown i
      → HasHomeInCells t.disc.shown.drive (cells_in t.disc.shown.drive) i bytes
  values_ticked v before after flushed =
      let d : List ℕ = before.0 in
      let d' : List ℕ = after.0 in
      let there : 32768 * (i + 1) ≤ length d = before.2.inside i bytes has in
      let long : length v.disc ≡ length d = before.2.taken.as_long in
      let long' : length v.disc ≡ length d' = after.2.taken.as_long in
      let there' : 32768 * (i + 1) ≤ length d' = omega (arith, there, long, long') in
      let none = subst (λ (p : List (ℕ × List ℕ)). ¬ IsPending p i) (sym flushed.left) (not_there (dropped s.disc.shown).pending i) in
      subst (HasHomeInCells t.disc.shown.drive (cells_in t.disc.shown.drive) i) (sym (after.2.others i none) ∙ before.2.last i bytes has)
      (home_by t.disc.shown.drive t.disc.shown.drive.lists d' i refl after.1.2 there' (flushed_good (dropped s.disc.shown) t.disc.shown i flushed s.disc.sound before.1.0))

  contents_ticked : (c : Contents) → c ≡ s.disc.contents → WroteBlock s.disc.shown t.disc.shown c t.disc.contents i → HasHomeInCells t.disc.shown.drive (cells_in t.disc.shown.drive) i bytes
  contents_ticked (Has v) is wrote =
      values_ticked v (subst (CacheStandsFor s.disc.shown) (sym is) s.disc.stands) (subst (CacheStandsFor t.disc.shown) (sym wrote.step) t.disc.stands) wrote.flushed
  contents_ticked (MayHave all) is wrote = absurd wrote.step

module _ (i : ℕ) (bytes image : List ℕ) where
  by_tick : (s t : State) (payload data_in : List ℕ) → Step s lines.Tick payload (Ok (replies.Event (events.Written (16 * i)))) data_in t → IsPendingIn s i bytes → IsLeft t image → HasBlockInImage t image i bytes
  by_tick (Unopened first) t payload data_in step pending left = absurd pending
  by_tick (Disc s) (Unopened first) payload data_in step pending left = absurd step
  by_tick (Disc s) (Disc t) payload data_in step pending left =
      subst (λ (cells : List Cell). HasHomeInCells t.disc.shown.drive cells i bytes) (sym (image_left t image left).cells_are)
      (contents_ticked i bytes s t pending s.disc.contents refl (tick_wrote s.disc.shown t.disc.shown s.disc.contents t.disc.contents s.host t.host i step.rule.0))

  pub ticked_in_image : (s t : State) (event : AnsweredStep) → IsStep s event t → event.line ≡ lines.Tick → event.reply ≡ replies.Event (events.Written (16 * i)) → IsPendingIn s i bytes → IsLeft t image
      → HasBlockInImage t image i bytes
  ticked_in_image s t event step is_tick written pending left =
      by_tick s t event.payload event.data_in
      (subst (λ (l : Line). Step s l event.payload (Ok (replies.Event (events.Written (16 * i)))) event.data_in t) is_tick
      (subst (λ (r : Reply). Step s event.line event.payload (Ok r) event.data_in t) written step)) pending left
