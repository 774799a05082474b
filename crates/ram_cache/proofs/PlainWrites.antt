-- A write of the disc while nothing is pending is a write through the cache.
use Rattle.std.proofs.Common.{◌≡◌, ℕ, ◌*◌, ◌<◌, inr, None, Bool, true, false, ◌&&◌, List, [], length, refl, sym, ap, ◌∙◌, subst}
use Rattle.std.specs.Prelude.{MatchBool}
use Rattle.std.proofs.lemmas.List.Elements.{All-nil}
use Rattle.model_sectors.specs.Discs.{Standing, On, Off}
use Rattle.model_sectors.specs.Requests.{block_with, blocks_covered}
use Rattle.model_drive.specs.declared.WriteOut.{WriteOut}
use Rattle.model_drive.specs.declared.WriteOut.TheVariants as writes
use Rattle.model_drive.specs.Shown.{Shown, StandsFor, block_count}
use Rattle.model_drive.specs.Parts.{IsInRange}
use Rattle.model_drive.specs.Writes.{WriteCause, WriteStep}
use Rattle.model_cache.specs.Values.{Contents, Has, MayHave, StandsCached}
use Rattle.model_cache.specs.Shown.{CacheShown}
use Rattle.model_cache.specs.Chains.{LeavesSound, leaves_pending}
use Rattle.model_cache.specs.Steps.{ThroughContents}
use Rattle.model_cache.specs.Causes.{ThroughCause, WritesThrough}
use Rattle.ram_cache.specs.Caches.{cache_of}
use Rattle.ram_cache.specs.Flushes.{CanFlush, FlushContents, DrainsDue}
use Rattle.ram_cache.proofs.Beginnings.{plain_disc}
use Rattle.ram_cache.proofs.Through.{written_contents}

module _ (old new : Shown) (caches : Bool) (lba n : ℕ) where
  abbrev start : CacheShown
  start = cache_of old [] caches

  abbrev now : CacheShown
  now = cache_of new [] caches

  direct : LeavesSound old new → (out : WriteOut) → WriteCause old new lba n out → WritesThrough start now lba n out
  direct leaves out wrote = record { mid = start; drained = (None, (refl, refl, refl)); wrote = wrote; leaves = leaves; left = none_left out; same_mode = refl }
    where
      none_left : (out : WriteOut) → now.pending ≡ leaves_pending out start.pending
      none_left writes.Good = refl
      none_left writes.NotFormatted = refl
      none_left (writes.Range known) = refl
      none_left (writes.Unread named home) = refl
      none_left (writes.NoSpare named) = refl
      none_left (writes.NoUpdate counter) = refl
      none_left writes.Cut = refl
      none_left writes.Off = refl
      none_left writes.Fault = refl

  by_nothing : LeavesSound old new → (out : WriteOut) → WriteCause old new lba n out → ThroughCause start now lba n out
  by_nothing leaves writes.Good wrote = (wrote.ends.wrote.inside, direct leaves writes.Good wrote)
  by_nothing leaves writes.NotFormatted wrote = record { on = wrote.on; unformatted = wrote.unformatted; nothing = ap (λ (s : Shown). cache_of s [] caches) wrote.nothing }
  by_nothing leaves (writes.Range known) wrote = record { past = wrote; nothing = ap (λ (s : Shown). cache_of s [] caches) wrote.nothing }
  by_nothing leaves (writes.Unread named home) wrote = (wrote.ends.wrote.inside, direct leaves (writes.Unread named home) wrote)
  by_nothing leaves (writes.NoSpare named) wrote = (wrote.ends.wrote.inside, inr (direct leaves (writes.NoSpare named) wrote))
  by_nothing leaves (writes.NoUpdate counter) wrote = (wrote.ends.wrote.inside, inr (direct leaves (writes.NoUpdate counter) wrote))
  by_nothing leaves writes.Cut wrote = (wrote.wrote.inside, inr (direct leaves writes.Cut wrote))
  by_nothing leaves writes.Off wrote = record { off = wrote.off; nothing = ap (λ (s : Shown). cache_of s [] caches) wrote.nothing }
  by_nothing leaves writes.Fault wrote = (wrote.wrote.inside, inr (direct leaves writes.Fault wrote))

  module _ (before after : Standing → Type 0) (shown : (s : Standing) → before s → StandsFor old s) (bytes : List ℕ) (whole : length bytes ≡ 2048 * n) where
    can : IsInRange old lba n → CanFlush start
    can range = record { on = range.on; formatted = range.formatted; inside = All-nil (λ (x : ℕ × List ℕ). x.0 < block_count old) }

    rule : IsInRange old lba n → DrainsDue start start true (block_with lba) (blocks_covered lba n) 0 writes.Good
    rule range = (None, record { tried = (refl, refl, refl); left = refl; can = can range; same_count = refl; same_mode = refl })

    shows : IsInRange old lba n → (s : Contents) → StandsCached before [] s → FlushContents (StandsCached before []) s writes.Good
    shows range (Has v) so = so
    shows range (MayHave all) (ds, so, taken) = absurd ((shown (Off ds) so).1 range.on)

    in_range : IsInRange old lba n → (s : Contents) (out : WriteOut) → WriteCause old new lba n out → ((t : Standing) → before t → WriteStep new after t lba n bytes out)
        → now.pending ≡ leaves_pending out start.pending → StandsCached before [] s → ThroughContents start now (StandsCached after []) s lba n bytes out
    in_range range s out wrote step left so =
        written_contents lba n start start now 0 refl range (rule range) before after shown bytes whole (StandsCached before []) s out wrote left step (shows range s so)

    plainly : (s : Contents) (out : WriteOut) → WriteCause old new lba n out → ((t : Standing) → before t → WriteStep new after t lba n bytes out) → StandsCached before [] s
        → ThroughContents start now (StandsCached after []) s lba n bytes out
    plainly s writes.Good wrote step so = in_range wrote.ends.wrote.inside s writes.Good wrote step refl so
    plainly (Has v) writes.NotFormatted wrote step (d, so, under) = let gave = step (On d) so in (plain_disc d v under ∙ gave.0, (d, gave.1, under))
    plainly (MayHave all) writes.NotFormatted wrote step (ds, so, taken) = step (Off ds) so
    plainly (Has v) (writes.Range known) wrote step (d, so, under) = (d, step (On d) so, under)
    plainly (MayHave all) (writes.Range known) wrote step (ds, so, taken) = step (Off ds) so
    plainly s (writes.Unread named home) wrote step so = in_range wrote.ends.wrote.inside s (writes.Unread named home) wrote step refl so
    plainly s (writes.NoSpare named) wrote step so = in_range wrote.ends.wrote.inside s (writes.NoSpare named) wrote step refl so
    plainly s (writes.NoUpdate counter) wrote step so = in_range wrote.ends.wrote.inside s (writes.NoUpdate counter) wrote step refl so
    plainly s writes.Cut wrote step so = in_range wrote.wrote.inside s writes.Cut wrote step refl so
    plainly (Has v) writes.Off wrote step (d, so, under) = step (On d) so
    plainly (MayHave all) writes.Off wrote step (ds, so, taken) = (ds, step (Off ds) so, taken)
    plainly s writes.Fault wrote step so = in_range wrote.wrote.inside s writes.Fault wrote step refl so

pub plain_write_cause : (old new : Shown) (p : List (ℕ × List ℕ)) (caches : Bool) (lba n : ℕ) (out : WriteOut) → p ≡ [] → LeavesSound old new → WriteCause old new lba n out
    → ThroughCause (cache_of old p caches) (cache_of new p caches) lba n out
plain_write_cause old new p caches lba n out none leaves wrote =
    subst (λ (l : List (ℕ × List ℕ)). ThroughCause (cache_of old l caches) (cache_of new l caches) lba n out) (sym none) (by_nothing old new caches lba n leaves out wrote)

pub plain_write : (old new : Shown) (p : List (ℕ × List ℕ)) (caches : Bool) (lba n : ℕ) (before after : Standing → Type 0) → ((s : Standing) → before s → StandsFor old s) → (bytes : List ℕ)
    → length bytes ≡ 2048 * n → (out : WriteOut) → p ≡ [] → WriteCause old new lba n out → ((t : Standing) → before t → WriteStep new after t lba n bytes out)
    → (s : Contents) → StandsCached before p s → ThroughContents (cache_of old p caches) (cache_of new p caches) (StandsCached after p) s lba n bytes out
plain_write old new p caches lba n before after shown bytes whole out none wrote step s so =
    subst (λ (l : List (ℕ × List ℕ)). ThroughContents (cache_of old l caches) (cache_of new l caches) (StandsCached after l) s lba n bytes out) (sym none)
    (plainly old new caches lba n before after shown bytes whole s out wrote step (subst (λ (l : List (ℕ × List ℕ)). StandsCached before l s) none so))

-- with the cache off it goes through
pub goes_through : (caches few : Bool) (P Q : Type 0) → caches ≡ false → Q → MatchBool (caches && few) P Q
goes_through true few P Q e q = absurd (let w = e in cc)
goes_through false few P Q e q = q
