-- How far a drain has come: what holds in each turn of the loop.
use Rattle.std.specs.Prelude.{◌≡◌, ℕ, ◌+◌, Bool, Option, List, ◌++◌, length}
use Rattle.model_drive.specs.declared.WriteOut.{WriteOut}
use Rattle.model_drive.specs.Shown.{block_count}
use Rattle.model_cache.specs.Values.{Contents}
use Rattle.model_cache.specs.Shown.{CacheShown}
use Rattle.model_cache.specs.Drains.{Tries}
use Rattle.ram_cache.specs.Flushes.{CanFlush, due_of}

-- `turns` turns tried as many of the blocks that are due, of which those that were refused stand behind the others, and no sector that is
-- shown changed
pub record DrainedSoFar (start now : CacheShown) (among : Bool) (first count turns enough missing : ℕ) (told : Option WriteOut)
    (before after : Contents → Type 0) : Type 0 where
  pub done : List ℕ
  pub rest : List ℕ
  pub behind : List ℕ
  pub many : length done ≡ turns
  pub due_is : due_of among first count start ≡ done ++ rest
  pub now_due : due_of among first count now ≡ rest ++ behind
  pub counted : length behind + enough ≡ turns + missing
  pub tried : Tries start done enough now missing told
  pub can : CanFlush now
  pub same_shape : now.drive.shape ≡ start.drive.shape
  pub same_count : block_count now.drive ≡ block_count start.drive
  pub same_mode : now.caches ≡ start.caches
  pub stands : (s : Contents) → before s → after s
