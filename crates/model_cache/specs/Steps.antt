-- What each call makes of what a drive with a write cache stands for. (This project's own, as all here.)
use Rattle.std.specs.Prelude.{◌≡◌, ℕ, ◌+◌, ◌<◌, ◌⊎◌, MatchBool, Option, Some, None, List, [], ◌∷◌}
use Rattle.model_medium.specs.Cells.{Dead}
use Rattle.model_sectors.specs.Discs.{On}
use Rattle.model_sectors.specs.Requests.{block_with, blocks_covered, IsCovered}
use Rattle.model_sectors.specs.declared.ReadOut.{ReadOut}
use Rattle.model_sectors.specs.declared.ReadOut.TheVariants as reads
use Rattle.model_sectors.specs.declared.PowerOut.{PowerOut}
use Rattle.model_sectors.specs.declared.PowerOut.TheVariants as powers
use Rattle.model_places.specs.Places.{Lists}
use Rattle.model_formats.specs.Stopped.{zero_disc}
use Rattle.model_drive.specs.declared.WriteOut.{WriteOut}
use Rattle.model_drive.specs.declared.WriteOut.TheVariants as writes
use Rattle.model_drive.specs.declared.FormatOut.{FormatOut}
use Rattle.model_drive.specs.declared.FormatOut.TheVariants as formats
use Rattle.model_drive.specs.declared.ExpandOut.{ExpandOut}
use Rattle.model_drive.specs.declared.ExpandOut.TheVariants as expands
use Rattle.model_drive.specs.declared.Kind.{Kind}
use Rattle.model_drive.specs.declared.Kind.TheVariants as kinds
use Rattle.model_drive.specs.Shown.{Shown, home_cell}
use Rattle.model_drive.specs.Parts.{AreGood}
use Rattle.model_drive.specs.Reads.{ReadStep, VerifyStep}
use Rattle.model_drive.specs.Power.{FindsDisc}
use Rattle.model_drive.specs.FullFormats.{MarkLacksRoom, MarkHasRoom}
use Rattle.model_drive.specs.Rewriting.{RewriteStep}
use Rattle.model_drive.specs.Expands.{ExpandStep}
use Rattle.model_cache.specs.declared.SyncOut.{SyncOut}
use Rattle.model_cache.specs.declared.SyncOut.TheVariants as syncs
use Rattle.model_cache.specs.declared.TickOut.{TickOut}
use Rattle.model_cache.specs.declared.TickOut.TheVariants as ticks
use Rattle.model_cache.specs.Values.{Values, Contents, Has, MayHave, lifted, plain, settled_values, settled_but, no_values, candidates_of, AreTaken, IsPending, with_written, cached}
use Rattle.model_cache.specs.Shown.{CacheShown, goes_into_cache}

-- A block that the request covers is pending.
pub record SomePending (shown : CacheShown) (lba n : ℕ) : Type 0 where
  pub block : ℕ
  pub covered : IsCovered lba n block
  pub pending : IsPending shown.pending block

-- What a read makes of it, and gives: the sectors that are shown. The older values stay.
abbrev pub ReadContents : (Contents → Type 0) → Contents → (lba n : ℕ) → List ℕ → ReadOut → Type 0
ReadContents after (Has v) lba n into out = ReadStep (λ t. after (lifted v.older t)) (On v.disc) lba n into out
ReadContents after (MayHave all) lba n into reads.Off = after (MayHave all)
ReadContents after (MayHave all) lba n into _ = ⊥

-- What a verification makes of it: nothing new.
abbrev pub VerifyContents : (Contents → Type 0) → Contents → ReadOut → Type 0
VerifyContents after (Has v) out = VerifyStep (λ t. after (lifted v.older t)) (On v.disc) out
VerifyContents after (MayHave all) reads.Off = after (MayHave all)
VerifyContents after (MayHave all) _ = ⊥

module _ (after : Contents → Type 0) (v : Values) where
  -- What a write of a pending block to the disc leaves that was stopped: the disc may have the block or not, and either way
  -- its blocks are values.
  abbrev pub StopsFlush : Type 0
  StopsFlush = after (MayHave (v ∷ v ∷ []))

  module _ (lba n : ℕ) (bytes : List ℕ) where
    -- Through the cache: a write that was stopped in one block. That block has its values as before, or the new one alone;
    -- those before it have their new ones.
    pub record StopsThrough : Type 0 where
      pub block : ℕ
      pub covered : block < blocks_covered lba n
      pub either : after (MayHave (with_written v lba bytes (block_with lba + block)
          ∷ with_written v lba bytes (block_with lba + (block + 1)) ∷ []))

    -- Through the cache: the list could not be written. The blocks before the first one whose home is dead have their new
    -- values alone.
    pub record EndsThrough (new : Shown) : Type 0 where
      pub block : ℕ
      pub covered : block < blocks_covered lba n
      pub dead : home_cell new (block_with lba + block) ≡ Dead
      pub first : AreGood new (block_with lba) block
      pub before : after (Has (with_written v lba bytes (block_with lba + block)))

    module _ (old new : CacheShown) where
      -- a covered block that was pending could not be written, or its write was stopped
      abbrev pub StopsBefore : Type 0
      StopsBefore = SomePending old lba n × StopsFlush

      abbrev pub IsRefusedBefore : Type 0
      IsRefusedBefore = SomePending new lba n × after (Has v)

      -- What a write through the cache makes of a disc with its values, by its answer.
      abbrev pub ThroughValues : WriteOut → Type 0
      ThroughValues writes.Good = after (Has (with_written v lba bytes (block_with lba + blocks_covered lba n)))
      ThroughValues writes.NotFormatted = (v.disc ≡ []) × after (Has v)
      ThroughValues (writes.Range known) = after (Has v)
      ThroughValues (writes.Unread named block) = after (Has (with_written v lba bytes (block_with named)))
      ThroughValues (writes.NoSpare named) = IsRefusedBefore ⊎ (¬ SomePending new lba n
          × after (Has (with_written v lba bytes (block_with named))))
      ThroughValues (writes.NoUpdate counter) = IsRefusedBefore ⊎ (¬ SomePending new lba n × EndsThrough new.drive)
      ThroughValues writes.Cut = StopsBefore ⊎ StopsThrough
      ThroughValues writes.Off = ⊥
      ThroughValues writes.Fault = StopsBefore ⊎ StopsThrough

    -- What a write into the cache makes of it, by its answer. A refused one changes no contents.
    abbrev pub CachedValues : WriteOut → Type 0
    CachedValues writes.Good = after (Has (cached v lba n bytes))
    CachedValues writes.NotFormatted = (v.disc ≡ []) × after (Has v)
    CachedValues (writes.Range known) = after (Has v)
    CachedValues (writes.Unread named block) = after (Has v)
    CachedValues (writes.NoSpare named) = after (Has v)
    CachedValues (writes.NoUpdate counter) = after (Has v)
    CachedValues writes.Cut = after (MayHave (v ∷ [])) ⊎ StopsFlush
    CachedValues writes.Off = ⊥
    CachedValues writes.Fault = after (MayHave (v ∷ [])) ⊎ StopsFlush

  -- What a full format makes of it, by its answer.
  abbrev pub FullValues : Shown → Shown → FormatOut → Type 0
  FullValues old new formats.Good = after (Has (settled_values (zero_disc old.shape)))
  FullValues old new (formats.TooMany found) = after (Has no_values)
  FullValues old new (formats.NoUpdate counter) =
      (MarkLacksRoom old new counter × after (Has v)) ⊎ (MarkHasRoom old × after (Has no_values))
  FullValues old new formats.Cut = after (MayHave (v ∷ no_values ∷ [])) ⊎ after (MayHave (no_values ∷ []))
      ⊎ after (MayHave (no_values ∷ settled_values (zero_disc old.shape) ∷ []))
  FullValues old new formats.Off = ⊥
  FullValues old new formats.Fault = after (MayHave (v ∷ no_values ∷ [])) ⊎ after (MayHave (no_values ∷ []))
      ⊎ after (MayHave (no_values ∷ settled_values (zero_disc old.shape) ∷ []))

  -- What a format makes of it, by the lists that were in use.
  abbrev pub FormatValues : Shown → Shown → Option Lists → Kind → FormatOut → Type 0
  FormatValues old new lists (kinds.Full drop_sdl) out = FullValues old new out
  FormatValues old new None kinds.Rewrite out = FullValues old new out
  FormatValues old new (Some lists) kinds.Rewrite out = RewriteStep (λ t. after (lifted v.older t)) v.disc out

  -- What a synchronisation makes of it: each block has its last value alone, or each that is not pending now.
  abbrev pub SyncValues : CacheShown → SyncOut → Type 0
  SyncValues new syncs.Good = after (Has (settled_values v.disc))
  SyncValues new syncs.NotFormatted = (v.disc ≡ []) × after (Has v)
  SyncValues new (syncs.NoSpare lba) = after (Has (settled_but new.pending v))
  SyncValues new (syncs.NoUpdate counter) = after (Has (settled_but new.pending v))
  SyncValues new syncs.Cut = StopsFlush
  SyncValues new syncs.Off = ⊥
  SyncValues new syncs.Fault = StopsFlush

  -- What the writing of the oldest pending block makes of it: nothing new.
  abbrev pub TickValues : TickOut → Type 0
  TickValues ticks.Idle = after (Has v)
  TickValues (ticks.Written lba) = after (Has v)
  TickValues (ticks.NoSpare lba) = after (Has v)
  TickValues (ticks.NoUpdate counter) = after (Has v)
  TickValues ticks.Cut = StopsFlush
  TickValues ticks.Off = ⊥
  TickValues ticks.Fault = StopsFlush

-- What a write through the cache makes of it.
abbrev pub ThroughContents : CacheShown → CacheShown → (Contents → Type 0) → Contents → (lba n : ℕ) → List ℕ
    → WriteOut → Type 0
ThroughContents old new after (Has v) lba n bytes out = ThroughValues after v lba n bytes old new out
ThroughContents old new after (MayHave all) lba n bytes writes.Off = after (MayHave all)
ThroughContents old new after (MayHave all) lba n bytes _ = ⊥

-- What a write into the cache makes of it.
abbrev pub CachedContents : (Contents → Type 0) → Contents → (lba n : ℕ) → List ℕ → WriteOut → Type 0
CachedContents after (Has v) lba n bytes out = CachedValues after v lba n bytes out
CachedContents after (MayHave all) lba n bytes writes.Off = after (MayHave all)
CachedContents after (MayHave all) lba n bytes _ = ⊥

-- What a write makes of it: into the cache where that is on and few blocks are covered, and else through it.
abbrev pub WriteContents : CacheShown → CacheShown → (Contents → Type 0) → Contents → (lba n : ℕ) → List ℕ
    → WriteOut → Type 0
WriteContents old new after s lba n bytes out = MatchBool (goes_into_cache old lba n)
    (CachedContents after s lba n bytes out) (ThroughContents old new after s lba n bytes out)

-- What a format makes of it.
abbrev pub FormatContents : Shown → Shown → (Contents → Type 0) → Contents → Kind → FormatOut → Type 0
FormatContents old new after (Has v) kind out = FormatValues after v old new old.lists kind out
FormatContents old new after (MayHave all) kind formats.Off = after (MayHave all)
FormatContents old new after (MayHave all) kind _ = ⊥

-- What an expansion makes of it: the blocks that are left keep their values.
abbrev pub ExpandContents : (Contents → Type 0) → Contents → ℕ → ExpandOut → Type 0
ExpandContents after (Has v) sectors out = ExpandStep (λ t. after (lifted v.older t)) (On v.disc) sectors out
ExpandContents after (MayHave all) sectors expands.Off = after (MayHave all)
ExpandContents after (MayHave all) sectors _ = ⊥

-- What a synchronisation makes of it.
abbrev pub SyncContents : CacheShown → (Contents → Type 0) → Contents → SyncOut → Type 0
SyncContents new after (Has v) out = SyncValues after v new out
SyncContents new after (MayHave all) syncs.Off = after (MayHave all)
SyncContents new after (MayHave all) _ = ⊥

-- What the writing of the oldest pending block makes of it.
abbrev pub TickContents : (Contents → Type 0) → Contents → TickOut → Type 0
TickContents after (Has v) out = TickValues after v out
TickContents after (MayHave all) ticks.Off = after (MayHave all)
TickContents after (MayHave all) _ = ⊥

-- The power went off and on again, and lists were found: of some discs, one taken from each that there may be, the first
-- that fits is there. Each block has one value.
pub record FindsValues (new : Shown) (after : Contents → Type 0) (all : List Values) : Type 0 where
  pub discs : List (List ℕ)
  pub taken : AreTaken all discs
  pub finds : FindsDisc new (λ t. after (plain t)) discs

-- What the drive stands for after the power went off and on again.
abbrev pub PowerContents : Shown → (Contents → Type 0) → Contents → PowerOut → Type 0
PowerContents new after s (powers.Ready known) = FindsValues new after (candidates_of s)
PowerContents new after s powers.NotFormatted = after (Has no_values)
PowerContents new after s powers.Cut = after (MayHave (candidates_of s))
PowerContents new after s powers.Fault = after (MayHave (candidates_of s))
