-- What was synchronised is acknowledged.
use Rattle.std.specs.Prelude.{◌≡◌, ℕ, List}
use Rattle.std.proofs.Common.{refl, inl, inr, subst}
use Rattle.model_sectors.specs.Requests.{block_with}
use Rattle.model_cache.specs.declared.SyncOut.{SyncOut}
use Rattle.model_cache.specs.declared.SyncOut.TheVariants as syncs
use Rattle.model_cache.specs.Values.{Contents, Has, MayHave, settled_values}
use Rattle.model_cache.specs.Shown.{CacheShown}
use Rattle.model_cache.specs.Steps.{SyncContents}
use Rattle.model_cache.specs.Falling.{EachValue}
use Rattle.model_cache.proofs.Falls.{one}
use Rattle.model_cache.proofs.Members.{Contains-none}
use Rattle.model_sense.specs.declared.answer.Answer.TheVariants as answers
use Rattle.model_cdb.specs.declared.commands.Command.TheVariants as commands
use Rattle.model_target.specs.Steps.{IsSynchronised, sync_answer}
use Rattle.ram_machine.specs.States.{State, Unopened, Disc}
use Rattle.ram_machine.specs.Runs.{IsStep}
use Rattle.ram_machine.specs.Answered.{AnsweredStep}
use Rattle.ram_machine.specs.Acknowledged.{Acknowledged, StandsWithSector, HasNow, WasDone}
use Rattle.ram_machine.proofs.WrittenDiscs.{SoInBlock, SoInContents, so_of_block}
use Rattle.ram_machine.proofs.DoneLines.{Done, line_done}

pub good_sync : (out : SyncOut) → answers.Good ≡ sync_answer out → out ≡ syncs.Good
good_sync syncs.Good is = refl
good_sync syncs.NotFormatted is = absurd cc
good_sync (syncs.NoSpare lba) is = absurd cc
good_sync (syncs.NoUpdate counter) is = absurd cc
good_sync syncs.Cut is = absurd cc
good_sync syncs.Off is = absurd cc
good_sync syncs.Fault is = absurd cc

module _ (at : ℕ) (bytes : List ℕ) where
  -- a synchronisation keeps what is shown
  sync_has : (new : CacheShown) (s t : Contents) → SyncContents new (λ x. x ≡ t) s syncs.Good → StandsWithSector s at bytes → StandsWithSector t at bytes
  sync_has new (Has v) t step has = subst (λ (x : Contents). StandsWithSector x at bytes) step has
  sync_has new (MayHave all) t step has = absurd has

  -- and leaves nothing older
  sync_settles : (new : CacheShown) (s t : Contents) → SyncContents new (λ x. x ≡ t) s syncs.Good → StandsWithSector s at bytes → SoInContents (λ found. found ≡ bytes) at t
  sync_settles new (Has v) t step has =
      subst (SoInContents (λ found. found ≡ bytes) at) step (one (SoInBlock (λ found. found ≡ bytes) at) (block_with at) (settled_values v.disc) within)
    where
      within : EachValue (SoInBlock (λ found. found ≡ bytes) at) (block_with at) (settled_values v.disc)
      within there held (inl is) = so_of_block (λ found. found ≡ bytes) at v.disc held is has.bytes_are
      within there held (inr older) = absurd (Contains-none (block_with at, held) older)
  sync_settles new (MayHave all) t step has = absurd has

  pub sync_step : (old new : CacheShown) (s t : Contents) (data_in : List ℕ) → IsSynchronised old new (λ x. x ≡ s) (λ x. x ≡ t) answers.Good data_in → SyncContents new (λ x. x ≡ t) s syncs.Good
  sync_step old new s t data_in p = subst (λ (o : SyncOut). SyncContents new (λ x. x ≡ t) s o) (good_sync p.out p.answer_is) (p.step s refl)

  by_done : (s t : State) (event : AnsweredStep) → Done s t commands.Synchronize event.payload event.data_in → HasNow s at bytes → HasNow t at bytes × Acknowledged t at bytes
  by_done (Unopened image) t event is has = absurd is
  by_done (Disc s) (Unopened image) event is has = absurd is
  by_done (Disc s) (Disc t) event is has =
      let step = sync_step s.disc.shown t.disc.shown s.disc.contents t.disc.contents event.data_in is.done in
      (sync_has t.disc.shown s.disc.contents t.disc.contents step has, sync_settles t.disc.shown s.disc.contents t.disc.contents step has)

  pub line_synced : (s t : State) (event : AnsweredStep) → IsStep s event t → WasDone event commands.Synchronize → HasNow s at bytes → HasNow t at bytes × Acknowledged t at bytes
  line_synced s t event step done has = by_done s t event (line_done s t event commands.Synchronize step done) has
