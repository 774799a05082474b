-- Calls of a disc one after another count faults as each of them does, and keep the label of the medium and the geometry.
use Rattle.std.specs.Prelude.{◌≡◌, ℕ, Bool, true, false, List}
use Rattle.std.proofs.Common.{refl, ◌∙◌, subst}
use Rattle.model_counts.specs.Counts.{Rose}
use Rattle.model_sectors.specs.declared.ReadOut.{ReadOut}
use Rattle.model_sectors.specs.declared.ReadOut.TheVariants as reads
use Rattle.model_drive.specs.declared.WriteOut.{WriteOut}
use Rattle.model_drive.specs.declared.WriteOut.TheVariants as writes
use Rattle.model_drive.specs.Shown.{Shown}
use Rattle.model_drive.specs.Faults.{faults, ReadFaults, WriteFaults}
use Rattle.model_drive.proofs.Faults.{read_faults, write_faults}
use Rattle.model_drive.proofs.Kept.{read_kept, write_kept}
use Rattle.model_cache.specs.declared.SyncOut.{SyncOut}
use Rattle.model_cache.specs.declared.SyncOut.TheVariants as syncs
use Rattle.model_cache.specs.declared.TickOut.{TickOut}
use Rattle.model_cache.specs.declared.TickOut.TheVariants as ticks
use Rattle.model_cache.specs.Shown.{CacheShown}
use Rattle.model_cache.specs.Causes.{CacheReadCause, CacheWriteCause, ThroughCause, SyncCause, TickCause}
use Rattle.model_cache.specs.Keeping.{KeepsMedium, SyncFaults, TickFaults}
use Rattle.model_cache.proofs.Chained.{read_faulted, write_faulted, sync_faulted, tick_faulted, HoldsOfChains, of_read, of_write, of_through, of_sync, of_tick}

-- a fault is counted where what the medium lies on failed, and none elsewhere
abbrev Counts : Bool → Shown → Shown → Type 0
Counts true old new = Rose (faults old) (faults new)
Counts false old new = faults new ≡ faults old

joined : (faulted : Bool) (a b c : Shown) → Counts false a b → Counts faulted b c → Counts faulted a c
joined true a b c is rose = subst (λ (n : ℕ). Rose n (faults c)) is rose
joined false a b c is then = then ∙ is

by_read : (a b : Shown) (out : ReadOut) → ReadFaults a b out → Counts (read_faulted out) a b
by_read a b reads.Good p = p
by_read a b reads.NotFormatted p = p
by_read a b (reads.Range known) p = p
by_read a b (reads.Unread named block) p = p
by_read a b reads.Cut p = p
by_read a b reads.Off p = p
by_read a b reads.Fault p = p

by_write : (a b : Shown) (out : WriteOut) → WriteFaults a b out → Counts (write_faulted out) a b
by_write a b writes.Good p = p
by_write a b writes.NotFormatted p = p
by_write a b (writes.Range known) p = p
by_write a b (writes.Unread named block) p = p
by_write a b (writes.NoSpare named) p = p
by_write a b (writes.NoUpdate counter) p = p
by_write a b writes.Cut p = p
by_write a b writes.Off p = p
by_write a b writes.Fault p = p

counts : HoldsOfChains Counts
counts = record {
  none = λ s. refl;
  join = joined;
  read = λ a b lba n out leaves cause. by_read a b out (read_faults a b lba n out cause);
  write = λ a b lba n out leaves cause. by_write a b out (write_faults a b lba n out cause);
}

module _ (a b : Shown) where
  as_read : (out : ReadOut) → Counts (read_faulted out) a b → ReadFaults a b out
  as_read reads.Good p = p
  as_read reads.NotFormatted p = p
  as_read (reads.Range known) p = p
  as_read (reads.Unread named block) p = p
  as_read reads.Cut p = p
  as_read reads.Off p = p
  as_read reads.Fault p = p

  as_write : (out : WriteOut) → Counts (write_faulted out) a b → WriteFaults a b out
  as_write writes.Good p = p
  as_write writes.NotFormatted p = p
  as_write (writes.Range known) p = p
  as_write (writes.Unread named block) p = p
  as_write (writes.NoSpare named) p = p
  as_write (writes.NoUpdate counter) p = p
  as_write writes.Cut p = p
  as_write writes.Off p = p
  as_write writes.Fault p = p

  as_sync : (out : SyncOut) → Counts (sync_faulted out) a b → SyncFaults a b out
  as_sync syncs.Good p = p
  as_sync syncs.NotFormatted p = p
  as_sync (syncs.NoSpare named) p = p
  as_sync (syncs.NoUpdate counter) p = p
  as_sync syncs.Cut p = p
  as_sync syncs.Off p = p
  as_sync syncs.Fault p = p

  as_tick : (out : TickOut) → Counts (tick_faulted out) a b → TickFaults a b out
  as_tick ticks.Idle p = p
  as_tick (ticks.Written named) p = p
  as_tick (ticks.NoSpare named) p = p
  as_tick (ticks.NoUpdate counter) p = p
  as_tick ticks.Cut p = p
  as_tick ticks.Off p = p
  as_tick ticks.Fault p = p

abbrev Keeps : Bool → Shown → Shown → Type 0
Keeps faulted old new = KeepsMedium old new

keeps : HoldsOfChains Keeps
keeps = record {
  none = λ s. record { same_label = refl; as_known = refl; same_shape = refl };
  join = λ faulted a b c is then. record { same_label = then.same_label ∙ is.same_label; as_known = then.as_known ∙ is.as_known; same_shape = then.same_shape ∙ is.same_shape };
  read = λ a b lba n out leaves cause.
      let kept = read_kept a b lba n out cause in record { same_label = kept.same_label; as_known = kept.as_known; same_shape = leaves.same_shape };
  write = λ a b lba n out leaves cause.
      let kept = write_kept a b lba n out cause in record { same_label = kept.same_label; as_known = kept.as_known; same_shape = leaves.same_shape };
}

module _ (old new : CacheShown) where
  pub read_counts : (lba n : ℕ) (out : ReadOut) → CacheReadCause old new lba n out → ReadFaults old.drive new.drive out
  read_counts lba n out cause = as_read old.drive new.drive out (of_read Counts counts lba n old new out cause)

  pub write_counts : (lba n : ℕ) (bytes : List ℕ) (out : WriteOut) → CacheWriteCause old new lba n bytes out → WriteFaults old.drive new.drive out
  write_counts lba n bytes out cause = as_write old.drive new.drive out (of_write Counts counts lba n bytes old new out cause)

  pub through_counts : (lba n : ℕ) (out : WriteOut) → ThroughCause old new lba n out → WriteFaults old.drive new.drive out
  through_counts lba n out cause = as_write old.drive new.drive out (of_through Counts counts lba n old new out cause)

  pub sync_counts : (out : SyncOut) → SyncCause old new out → SyncFaults old.drive new.drive out
  sync_counts out cause = as_sync old.drive new.drive out (of_sync Counts counts old new out cause)

  pub tick_counts : (out : TickOut) → TickCause old new out → TickFaults old.drive new.drive out
  tick_counts out cause = as_tick old.drive new.drive out (of_tick Counts counts old new out cause)

  pub read_keeps : (lba n : ℕ) (out : ReadOut) → CacheReadCause old new lba n out → KeepsMedium old.drive new.drive
  read_keeps lba n out cause = of_read Keeps keeps lba n old new out cause

  pub write_keeps : (lba n : ℕ) (bytes : List ℕ) (out : WriteOut) → CacheWriteCause old new lba n bytes out → KeepsMedium old.drive new.drive
  write_keeps lba n bytes out cause = of_write Keeps keeps lba n bytes old new out cause

  pub through_keeps : (lba n : ℕ) (out : WriteOut) → ThroughCause old new lba n out → KeepsMedium old.drive new.drive
  through_keeps lba n out cause = of_through Keeps keeps lba n old new out cause

  pub sync_keeps : (out : SyncOut) → SyncCause old new out → KeepsMedium old.drive new.drive
  sync_keeps out cause = of_sync Keeps keeps old new out cause

  pub tick_keeps : (out : TickOut) → TickCause old new out → KeepsMedium old.drive new.drive
  tick_keeps out cause = of_tick Keeps keeps old new out cause
