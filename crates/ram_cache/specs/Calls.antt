-- What the calls of a drive with a write cache do beside their disc's. (This project's own.)
use Rattle.std.specs.Prelude.{◌≡◌, ℕ, ◌+◌, Bool, true, not, ◌&&◌, nat_lt, if◌then◌else◌, MatchBool, List, []}
use Rattle.model_sectors.specs.Requests.{blocks_covered}
use Rattle.model_drive.specs.declared.Kind.{Kind}
use Rattle.model_drive.specs.declared.Kind.TheVariants as kinds
use Rattle.model_drive.specs.declared.WriteOut.{WriteOut}
use Rattle.model_drive.specs.declared.FormatOut.{FormatOut}
use Rattle.model_drive.specs.declared.FormatOut.TheVariants as formats
use Rattle.model_drive.specs.declared.ExpandOut.{ExpandOut}
use Rattle.model_drive.specs.declared.ExpandOut.TheVariants as expands
use Rattle.model_drive.specs.Shown.{Shown, IsOn, block_count}
use Rattle.model_drive.specs.Tells.{HasDisc}
use Rattle.model_cache.specs.declared.TheConstants.{CACHED_AT_ONCE}
use Rattle.model_cache.specs.Values.{Contents}
use Rattle.model_cache.specs.Shown.{CacheShown, pending_below}
use Rattle.model_cache.specs.Steps.{CachedContents, ThroughContents}
use Rattle.model_cache.specs.Causes.{CachedCause, CachedCauseOf, ThroughCause, ThroughCauseOf}

-- a format that is done leaves nothing pending: it is a full one, or the disc was not formatted
abbrev pub drops_all : Kind → Bool → Bool
drops_all (kinds.Full drop_sdl) formatted = true
drops_all kinds.Rewrite formatted = not formatted

-- A write goes into the cache: this is asked, and few blocks are covered.
abbrev pub goes_in : Bool → (lba n : ℕ) → Bool
goes_in into_cache lba n = into_cache && nat_lt (blocks_covered lba n) (CACHED_AT_ONCE + 1)

-- The cause of each answer of a write into the cache, or through it.
abbrev pub WritesBy : CacheShown → CacheShown → Bool → (lba n : ℕ) → List ℕ → WriteOut → Type 0
WritesBy old new into_cache lba n bytes out =
    MatchBool (goes_in into_cache lba n) (CachedCause old new lba n bytes out) (ThroughCause old new lba n out)

-- the same with the power on, once the pending blocks that the disc has not are dropped
abbrev pub WritesOn : CacheShown → CacheShown → Bool → (lba n : ℕ) → List ℕ → WriteOut → Type 0
WritesOn old new into_cache lba n bytes out =
    MatchBool (goes_in into_cache lba n) (CachedCauseOf old new lba n bytes out) (ThroughCauseOf old new lba n out)

-- what it makes of what the drive stands for
abbrev pub WritesContents : CacheShown → CacheShown → (Contents → Type 0) → Contents → Bool → (lba n : ℕ)
    → List ℕ → WriteOut → Type 0
WritesContents old new after s into_cache lba n bytes out =
    MatchBool (goes_in into_cache lba n) (CachedContents after s lba n bytes out) (ThroughContents old new after s lba n bytes out)

-- of the pending blocks those are left, or none where the disc is not formatted
abbrev pub LeftByLists : Shown → (pending left : List (ℕ × List ℕ)) → Type 0
LeftByLists drive pending left = (HasDisc drive → left ≡ pending) × (¬ HasDisc drive → left ≡ [])

-- what is left pending after a format, of which it is said whether it leaves nothing when it is done
abbrev pub LeftAfter : Shown → (all : Bool) → FormatOut → (pending left : List (ℕ × List ℕ)) → Type 0
LeftAfter drive all formats.Good pending left = left ≡ (if all then [] else pending)
LeftAfter drive all formats.Cut pending left = left ≡ []
LeftAfter drive all formats.Fault pending left = left ≡ []
LeftAfter drive all formats.Off pending left = left ≡ pending
LeftAfter drive all _ pending left = LeftByLists drive pending left

-- what is left pending after an expansion
abbrev pub LeftExpanded : Shown → ExpandOut → (pending left : List (ℕ × List ℕ)) → Type 0
LeftExpanded drive expands.Good pending left = IsOn drive → left ≡ pending_below (block_count drive) pending
LeftExpanded drive expands.Cut pending left = left ≡ []
LeftExpanded drive expands.Fault pending left = left ≡ []
LeftExpanded drive _ pending left = left ≡ pending
