-- A caller that needs what a drive with a write cache stands for afterwards finds it in the step.
use Rattle.std.specs.Prelude.{ℕ, ◌+◌, Bool, true, false, MatchBool, Option, Some, None, List, [], ◌∷◌, ◌⊎◌}
use Rattle.std.proofs.Common.{◌≡◌, refl, inl, inr}
use Rattle.model_sectors.specs.Requests.{block_with, blocks_covered}
use Rattle.model_sectors.specs.declared.ReadOut.{ReadOut}
use Rattle.model_sectors.specs.declared.ReadOut.TheVariants as reads
use Rattle.model_sectors.specs.declared.PowerOut.{PowerOut}
use Rattle.model_sectors.specs.declared.PowerOut.TheVariants as powers
use Rattle.model_places.specs.Places.{Lists}
use Rattle.model_formats.specs.Stopped.{zero_disc}
use Rattle.model_drive.specs.declared.WriteOut.{WriteOut}
use Rattle.model_drive.specs.declared.WriteOut.TheVariants as writes
use Rattle.model_drive.specs.declared.FormatOut.{FormatOut}
use Rattle.model_drive.specs.declared.FormatOut.TheVariants as formats
use Rattle.model_drive.specs.declared.ExpandOut.{ExpandOut}
use Rattle.model_drive.specs.declared.ExpandOut.TheVariants as expands
use Rattle.model_drive.specs.declared.Kind.{Kind}
use Rattle.model_drive.specs.declared.Kind.TheVariants as kinds
use Rattle.model_drive.specs.Shown.{Shown}
use Rattle.model_drive.specs.Expands.{shortened}
use Rattle.model_cache.specs.declared.SyncOut.{SyncOut}
use Rattle.model_cache.specs.declared.SyncOut.TheVariants as syncs
use Rattle.model_cache.specs.declared.TickOut.{TickOut}
use Rattle.model_cache.specs.declared.TickOut.TheVariants as ticks
use Rattle.model_cache.specs.Values.{Values, Contents, Has, MayHave, candidates_of, settled_values, settled_but, no_values, with_older, with_written, cached}
use Rattle.model_cache.specs.Shown.{CacheShown, goes_into_cache}
use Rattle.model_cache.specs.Steps.{ReadContents, VerifyContents, ThroughValues, CachedValues, FullValues, FormatValues, ThroughContents, CachedContents, WriteContents, FormatContents, ExpandContents, SyncContents, TickContents, PowerContents}

module _ (after : Contents → Type 0) where
  -- what it stands for afterwards
  abbrev pub FoundBy : ((Contents → Type 0) → Type 0) → Type 0
  FoundBy Rule = (t : Contents) × after t × Rule (λ x. x ≡ t)

  pub read_found : (s : Contents) (lba n : ℕ) (into : List ℕ) (out : ReadOut) → ReadContents after s lba n into out → FoundBy (λ is. ReadContents is s lba n into out)
  read_found (Has v) lba n into reads.Good step = (Has v, step.1, (step.0, refl))
  read_found (Has v) lba n into reads.NotFormatted step = (Has v, step.1, (step.0, refl))
  read_found (Has v) lba n into (reads.Range known) step = (Has v, step, refl)
  read_found (Has v) lba n into (reads.Unread named block) step = (Has v, step, refl)
  read_found (Has v) lba n into reads.Cut step = (MayHave (v ∷ []), step, refl)
  read_found (Has v) lba n into reads.Off step = absurd step
  read_found (Has v) lba n into reads.Fault step = (MayHave (v ∷ []), step, refl)
  read_found (MayHave all) lba n into reads.Off step = (MayHave all, step, refl)
  read_found (MayHave all) lba n into _ step = absurd step

  pub verify_found : (s : Contents) (out : ReadOut) → VerifyContents after s out → FoundBy (λ is. VerifyContents is s out)
  verify_found (Has v) reads.Good step = (Has v, step, refl)
  verify_found (Has v) reads.NotFormatted step = (Has v, step, refl)
  verify_found (Has v) (reads.Range known) step = (Has v, step, refl)
  verify_found (Has v) (reads.Unread named block) step = (Has v, step, refl)
  verify_found (Has v) reads.Cut step = (MayHave (v ∷ []), step, refl)
  verify_found (Has v) reads.Off step = absurd step
  verify_found (Has v) reads.Fault step = (MayHave (v ∷ []), step, refl)
  verify_found (MayHave all) reads.Off step = (MayHave all, step, refl)
  verify_found (MayHave all) _ step = absurd step

  pub expand_found : (s : Contents) (sectors : ℕ) (out : ExpandOut) → ExpandContents after s sectors out → FoundBy (λ is. ExpandContents is s sectors out)
  expand_found (Has v) sectors expands.Good step = (Has (with_older v.older (shortened sectors v.disc)), step, refl)
  expand_found (Has v) sectors expands.NotFormatted step = (Has v, step.1, (step.0, refl))
  expand_found (Has v) sectors (expands.Refused known) step = (Has v, step, refl)
  expand_found (Has v) sectors (expands.NoUpdate counter) step = (Has v, step, refl)
  expand_found (Has v) sectors expands.Cut step = (MayHave (v ∷ with_older v.older (shortened sectors v.disc) ∷ []), step, refl)
  expand_found (Has v) sectors expands.Off step = absurd step
  expand_found (Has v) sectors expands.Fault step = (MayHave (v ∷ with_older v.older (shortened sectors v.disc) ∷ []), step, refl)
  expand_found (MayHave all) sectors expands.Off step = (MayHave all, step, refl)
  expand_found (MayHave all) sectors _ step = absurd step

  pub sync_found : (new : CacheShown) (s : Contents) (out : SyncOut) → SyncContents new after s out → FoundBy (λ is. SyncContents new is s out)
  sync_found new (Has v) syncs.Good step = (Has (settled_values v.disc), step, refl)
  sync_found new (Has v) syncs.NotFormatted step = (Has v, step.1, (step.0, refl))
  sync_found new (Has v) (syncs.NoSpare lba) step = (Has (settled_but new.pending v), step, refl)
  sync_found new (Has v) (syncs.NoUpdate counter) step = (Has (settled_but new.pending v), step, refl)
  sync_found new (Has v) syncs.Cut step = (MayHave (v ∷ v ∷ []), step, refl)
  sync_found new (Has v) syncs.Off step = absurd step
  sync_found new (Has v) syncs.Fault step = (MayHave (v ∷ v ∷ []), step, refl)
  sync_found new (MayHave all) syncs.Off step = (MayHave all, step, refl)
  sync_found new (MayHave all) _ step = absurd step

  pub tick_found : (s : Contents) (out : TickOut) → TickContents after s out → FoundBy (λ is. TickContents is s out)
  tick_found (Has v) ticks.Idle step = (Has v, step, refl)
  tick_found (Has v) (ticks.Written lba) step = (Has v, step, refl)
  tick_found (Has v) (ticks.NoSpare lba) step = (Has v, step, refl)
  tick_found (Has v) (ticks.NoUpdate counter) step = (Has v, step, refl)
  tick_found (Has v) ticks.Cut step = (MayHave (v ∷ v ∷ []), step, refl)
  tick_found (Has v) ticks.Off step = absurd step
  tick_found (Has v) ticks.Fault step = (MayHave (v ∷ v ∷ []), step, refl)
  tick_found (MayHave all) ticks.Off step = (MayHave all, step, refl)
  tick_found (MayHave all) _ step = absurd step

  pub power_found : (new : Shown) (s : Contents) (out : PowerOut) → PowerContents new after s out → FoundBy (λ is. PowerContents new is s out)
  power_found new s (powers.Ready known) step = (
    Has (settled_values step.finds.disc),
    step.finds.found,
    record {
      discs = step.discs;
      taken = step.taken;
      finds = record { lists = step.finds.lists; in_use = step.finds.in_use; disc = step.finds.disc; first = step.finds.first; found = refl };
    },
  )
  power_found new s powers.NotFormatted step = (Has no_values, step, refl)
  power_found new s powers.Cut step = (MayHave (candidates_of s), step, refl)
  power_found new s powers.Fault step = (MayHave (candidates_of s), step, refl)

  module _ (v : Values) (lba n : ℕ) (bytes : List ℕ) (old new : CacheShown) where
    -- the values after the covered blocks before this one were written
    abbrev values_to : ℕ → Values
    values_to block = with_written v lba bytes (block_with lba + block)

    refused_found : (out : WriteOut) → ThroughValues after v lba n bytes old new out → FoundBy (λ is. ThroughValues is v lba n bytes old new out)
    refused_found writes.Good step = (Has (values_to (blocks_covered lba n)), step, refl)
    refused_found writes.NotFormatted step = (Has v, step.1, (step.0, refl))
    refused_found (writes.Range known) step = (Has v, step, refl)
    refused_found (writes.Unread named block) step = (Has (with_written v lba bytes (block_with named)), step, refl)
    refused_found (writes.NoSpare named) (inl p) = (Has v, p.1, inl (p.0, refl))
    refused_found (writes.NoSpare named) (inr p) = (Has (with_written v lba bytes (block_with named)), p.1, inr (p.0, refl))
    refused_found (writes.NoUpdate counter) (inl p) = (Has v, p.1, inl (p.0, refl))
    refused_found (writes.NoUpdate counter) (inr p) =
        (Has (values_to p.1.block), p.1.before, inr (p.0, record { block = p.1.block; covered = p.1.covered; dead = p.1.dead; first = p.1.first; before = refl }))
    refused_found writes.Cut (inl p) = (MayHave (v ∷ v ∷ []), p.1, inl (p.0, refl))
    refused_found writes.Cut (inr p) =
        (MayHave (values_to p.block ∷ values_to (p.block + 1) ∷ []), p.either, inr (record { block = p.block; covered = p.covered; either = refl }))
    refused_found writes.Off step = absurd step
    refused_found writes.Fault (inl p) = (MayHave (v ∷ v ∷ []), p.1, inl (p.0, refl))
    refused_found writes.Fault (inr p) =
        (MayHave (values_to p.block ∷ values_to (p.block + 1) ∷ []), p.either, inr (record { block = p.block; covered = p.covered; either = refl }))

    into_found : (out : WriteOut) → CachedValues after v lba n bytes out → FoundBy (λ is. CachedValues is v lba n bytes out)
    into_found writes.Good step = (Has (cached v lba n bytes), step, refl)
    into_found writes.NotFormatted step = (Has v, step.1, (step.0, refl))
    into_found (writes.Range known) step = (Has v, step, refl)
    into_found (writes.Unread named block) step = (Has v, step, refl)
    into_found (writes.NoSpare named) step = (Has v, step, refl)
    into_found (writes.NoUpdate counter) step = (Has v, step, refl)
    into_found writes.Cut (inl p) = (MayHave (v ∷ []), p, inl refl)
    into_found writes.Cut (inr p) = (MayHave (v ∷ v ∷ []), p, inr refl)
    into_found writes.Off step = absurd step
    into_found writes.Fault (inl p) = (MayHave (v ∷ []), p, inl refl)
    into_found writes.Fault (inr p) = (MayHave (v ∷ v ∷ []), p, inr refl)

  module _ (old new : CacheShown) (lba n : ℕ) (bytes : List ℕ) where
    pub through_found : (s : Contents) (out : WriteOut) → ThroughContents old new after s lba n bytes out → FoundBy (λ is. ThroughContents old new is s lba n bytes out)
    through_found (Has v) out step = refused_found v lba n bytes old new out step
    through_found (MayHave all) writes.Off step = (MayHave all, step, refl)
    through_found (MayHave all) _ step = absurd step

    cached_found : (s : Contents) (out : WriteOut) → CachedContents after s lba n bytes out → FoundBy (λ is. CachedContents is s lba n bytes out)
    cached_found (Has v) out step = into_found v lba n bytes old new out step
    cached_found (MayHave all) writes.Off step = (MayHave all, step, refl)
    cached_found (MayHave all) _ step = absurd step

    write_by : (into_cache : Bool) (s : Contents) (out : WriteOut) → MatchBool into_cache (CachedContents after s lba n bytes out) (ThroughContents old new after s lba n bytes out)
        → FoundBy (λ is. MatchBool into_cache (CachedContents is s lba n bytes out) (ThroughContents old new is s lba n bytes out))
    write_by true s out step = cached_found s out step
    write_by false s out step = through_found s out step

    pub write_found : (s : Contents) (out : WriteOut) → WriteContents old new after s lba n bytes out → FoundBy (λ is. WriteContents old new is s lba n bytes out)
    write_found s out step = write_by (goes_into_cache old lba n) s out step

  module _ (old new : Shown) (v : Values) where
    -- the discs that a stopped full format leaves
    abbrev Stopped : (Contents → Type 0) → Type 0
    Stopped is = is (MayHave (v ∷ no_values ∷ [])) ⊎ is (MayHave (no_values ∷ []))
        ⊎ is (MayHave (no_values ∷ settled_values (zero_disc old.shape) ∷ []))

    stopped_found : Stopped after → FoundBy Stopped
    stopped_found (inl p) = (MayHave (v ∷ no_values ∷ []), p, inl refl)
    stopped_found (inr (inl p)) = (MayHave (no_values ∷ []), p, inr (inl refl))
    stopped_found (inr (inr p)) = (MayHave (no_values ∷ settled_values (zero_disc old.shape) ∷ []), p, inr (inr refl))

    full_found : (out : FormatOut) → FullValues after v old new out → FoundBy (λ is. FullValues is v old new out)
    full_found formats.Good step = (Has (settled_values (zero_disc old.shape)), step, refl)
    full_found (formats.TooMany found) step = (Has no_values, step, refl)
    full_found (formats.NoUpdate counter) (inl step) = (Has v, step.1, inl (step.0, refl))
    full_found (formats.NoUpdate counter) (inr step) = (Has no_values, step.1, inr (step.0, refl))
    full_found formats.Cut step = stopped_found step
    full_found formats.Off step = absurd step
    full_found formats.Fault step = stopped_found step

    rewrite_found : (lists : Lists) (out : FormatOut) → FormatValues after v old new (Some lists) kinds.Rewrite out → FoundBy (λ is. FormatValues is v old new (Some lists) kinds.Rewrite out)
    rewrite_found lists formats.Good step = (Has v, step, refl)
    rewrite_found lists (formats.TooMany found) step = absurd step
    rewrite_found lists (formats.NoUpdate counter) step = (Has v, step, refl)
    rewrite_found lists formats.Cut step = (MayHave (v ∷ []), step, refl)
    rewrite_found lists formats.Off step = absurd step
    rewrite_found lists formats.Fault step = (MayHave (v ∷ []), step, refl)

    found_by : (lists : Option Lists) (kind : Kind) (out : FormatOut) → FormatValues after v old new lists kind out → FoundBy (λ is. FormatValues is v old new lists kind out)
    found_by lists (kinds.Full drop_sdl) out step = full_found out step
    found_by None kinds.Rewrite out step = full_found out step
    found_by (Some lists) kinds.Rewrite out step = rewrite_found lists out step

  pub format_found : (old new : Shown) (s : Contents) (kind : Kind) (out : FormatOut) → FormatContents old new after s kind out → FoundBy (λ is. FormatContents old new is s kind out)
  format_found old new (Has v) kind out step = found_by old new v old.lists kind out step
  format_found old new (MayHave all) kind formats.Off step = (MayHave all, step, refl)
  format_found old new (MayHave all) kind _ step = absurd step
