-- A drive stands for just what goes with what it shows, if its disc does; and what holds of its pending blocks.
use Rattle.std.proofs.Common.{ℕ, ◌≤◌, List, length, take, ◌↔◌, arith, length-take}
use Rattle.model_sectors.specs.Discs.{Standing, On, Off}
use Rattle.model_drive.specs.Shown.{Shown, StandsFor}
use Rattle.model_cache.specs.declared.TheConstants.{CACHED_BLOCKS}
use Rattle.model_cache.specs.Values.{Contents, Has, MayHave, StandsCached}

pub stands_alike : (stands : Standing → Type 0) (drive : Shown) → ((s : Standing) → stands s ↔ StandsFor drive s) → (pending : List (ℕ × List ℕ)) (s : Contents)
    → StandsCached stands pending s ↔ StandsCached (StandsFor drive) pending s
stands_alike stands drive alike pending (Has v) = (λ (d, so, under). (d, (alike (On d)).0 so, under), λ (d, so, under). (d, (alike (On d)).1 so, under))
stands_alike stands drive alike pending (MayHave all) =
    (λ (discs, so, taken). (discs, (alike (Off discs)).0 so, taken), λ (discs, so, taken). (discs, (alike (Off discs)).1 so, taken))

-- the first n blocks of any are few
pub few_pending : (items : List (ℕ × List ℕ)) (count : ℕ) → count ≤ 32 → length (take count items) ≤ CACHED_BLOCKS
few_pending items count few = omega (arith, length-take count items)
