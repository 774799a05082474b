-- What holds of each call of the disc, and of one after another, holds of each call of a drive with a write cache.
use Rattle.std.specs.Prelude.{◌≡◌, ℕ, zero, suc, ◌+◌, ◌*◌, ◌⊎◌, Bool, true, false, MatchBool, Option, Some, None, List, [], ◌∷◌, length}
use Rattle.std.proofs.Common.{sym, inl, inr, subst}
use Rattle.model_buffer.specs.Buffer.{bytes_at}
use Rattle.model_sectors.specs.Requests.{block_with, blocks_covered, is_partly}
use Rattle.model_sectors.specs.declared.ReadOut.{ReadOut}
use Rattle.model_sectors.specs.declared.ReadOut.TheVariants as reads
use Rattle.model_drive.specs.declared.WriteOut.{WriteOut}
use Rattle.model_drive.specs.declared.WriteOut.TheVariants as writes
use Rattle.model_drive.specs.Shown.{Shown}
use Rattle.model_drive.specs.Reads.{ReadCause}
use Rattle.model_drive.specs.Writes.{WriteCause}
use Rattle.model_cache.specs.declared.SyncOut.{SyncOut}
use Rattle.model_cache.specs.declared.SyncOut.TheVariants as syncs
use Rattle.model_cache.specs.declared.TickOut.{TickOut}
use Rattle.model_cache.specs.declared.TickOut.TheVariants as ticks
use Rattle.model_cache.specs.Shown.{CacheShown, dropped, pending_in, pending_covered, goes_into_cache}
use Rattle.model_cache.specs.Chains.{LeavesSound}
use Rattle.model_cache.specs.Drains.{IsRefusal, Tries, DrainCause}
use Rattle.model_cache.specs.Causes.{ReadsPart, ReadsParts, EndsReading, ReadPartsCause, CacheReadBy, CacheReadCause, WritesThrough, StopsWritingThrough, DrainsCovered, ThroughCauseOf, ThroughCause, leave_first, MakesRoom, ReadsRest, ReadsRests, GoesIntoCache, EndsRest, LacksRestInCache, CachedCauseOf, CachedCause, CacheWriteCause, DrainsAll, SyncCause, TriesOldest, TickCauseOf, TickCause}

-- whether what the medium lies on failed
abbrev pub read_faulted : ReadOut → Bool
read_faulted reads.Fault = true
read_faulted _ = false

abbrev pub write_faulted : WriteOut → Bool
write_faulted writes.Fault = true
write_faulted _ = false

abbrev pub sync_faulted : SyncOut → Bool
sync_faulted syncs.Fault = true
sync_faulted _ = false

abbrev pub tick_faulted : TickOut → Bool
tick_faulted ticks.Fault = true
tick_faulted _ = false

-- It holds of no call, of one call after others of which none failed so, and of each read and each write of the disc.
pub record HoldsOfChains (P : (faulted : Bool) → Shown → Shown → Type 0) : Type 0 where
  pub none : (s : Shown) → P false s s
  pub join : (faulted : Bool) (a b c : Shown) → P false a b → P faulted b c → P faulted a c
  pub read : (a b : Shown) (lba n : ℕ) (out : ReadOut) → LeavesSound a b → ReadCause a b lba n out → P (read_faulted out) a b
  pub write : (a b : Shown) (lba n : ℕ) (out : WriteOut) → LeavesSound a b → WriteCause a b lba n out → P (write_faulted out) a b

module _ (P : (faulted : Bool) → Shown → Shown → Type 0) (holds : HoldsOfChains P) where
  -- the disc is as it was
  same : (old new : CacheShown) → new ≡ old → P false old.drive new.drive
  same old new is = subst (λ (s : CacheShown). P false old.drive s.drive) (sym is) (holds.none old.drive)

  same_but : (old new : CacheShown) → new ≡ dropped old → P false old.drive new.drive
  same_but old new is = subst (λ (s : CacheShown). P false old.drive s.drive) (sym is) (holds.none old.drive)

  -- ---- drains

  refused : (a b : Shown) (i : ℕ) (out : WriteOut) → IsRefusal out → P (write_faulted out) a b → P false a b
  refused a b i (writes.NoSpare named) is p = p
  refused a b i (writes.NoUpdate counter) is p = p
  refused a b i _ is p = absurd is

  tried : (due : List ℕ) (enough short : ℕ) (old new : CacheShown) (first : Option WriteOut) → Tries old due enough new short first → P false old.drive new.drive
  tried due zero short old new first p = same old new p.0
  tried [] (suc enough) short old new first p = same old new p.0
  tried (i ∷ due) (suc enough) short old new first (inl (mid, flush, later)) =
      holds.join false old.drive mid.drive new.drive (holds.write old.drive mid.drive (16 * i) 16 writes.Good flush.back.leaves flush.back.wrote) (tried due enough short mid new first later)
  tried (i ∷ due) (suc enough) short old new first (inr (mid, out, told, is, later, first_is)) =
      holds.join false old.drive mid.drive new.drive (refused old.drive mid.drive i out is.refused (holds.write old.drive mid.drive (16 * i) 16 out is.back.leaves is.back.wrote))
      (tried due (suc enough) short mid new told later)

  pub drained : (due : List ℕ) (enough : ℕ) (old new : CacheShown) (out : WriteOut) → DrainCause old new due enough out → P (write_faulted out) old.drive new.drive
  drained due enough old new writes.Good p = tried due enough 0 old new p.0 p.1
  drained due enough old new (writes.NoSpare named) p = tried due enough (suc p.short) old new (Some (writes.NoSpare named)) p.tried
  drained due enough old new (writes.NoUpdate counter) p = tried due enough (suc p.short) old new (Some (writes.NoUpdate counter)) p.tried
  drained due enough old new writes.Cut p =
      holds.join false old.drive p.mid.drive new.drive (tried p.done enough (suc p.short) old p.mid p.first p.tried) (holds.write p.mid.drive new.drive (16 * p.block) 16 writes.Cut p.stops.leaves p.stops.wrote)
  drained due enough old new writes.Fault p =
      holds.join true old.drive p.mid.drive new.drive (tried p.done enough (suc p.short) old p.mid p.first p.tried) (holds.write p.mid.drive new.drive (16 * p.block) 16 writes.Fault p.stops.leaves p.stops.wrote)
  drained due enough old new writes.NotFormatted p = absurd p
  drained due enough old new (writes.Range known) p = absurd p
  drained due enough old new (writes.Unread named block) p = absurd p
  drained due enough old new writes.Off p = absurd p

  -- all of those that are covered, or as many of the others as have to leave
  covered_drained : (lba n : ℕ) (old new : CacheShown) (out : WriteOut) → DrainsCovered old new lba n out → P (write_faulted out) old.drive new.drive
  covered_drained lba n old new out p = drained (pending_covered true old lba n) (length (pending_covered true old lba n)) old new out p

  room_made : (lba n : ℕ) (old new : CacheShown) (out : WriteOut) → MakesRoom old new lba n out → P (write_faulted out) old.drive new.drive
  room_made lba n old new out p = drained (pending_covered false old lba n) (leave_first old lba n) old new out p

  -- ---- a read

  module _ (lba n : ℕ) where
    part : (i : ℕ) (old new : CacheShown) (held : Option (List ℕ)) (out : ReadOut) → ReadsPart old new lba n i held out → P (read_faulted out) old.drive new.drive
    part i old new (Some bytes) out p = subst (λ (o : ReadOut). P (read_faulted o) old.drive new.drive) (sym p.0) (same old new p.1)
    part i old new None out p = holds.read old.drive new.drive _ _ out p.0.leaves p.0.cause

    parts : (k : ℕ) (old new : CacheShown) → ReadsParts old new lba n k → P false old.drive new.drive
    parts zero old new is = same old new is
    parts (suc k) old new is =
        holds.join false old.drive is.0.drive new.drive (parts k old is.0 is.1) (part (block_with lba + k) is.0 new (bytes_at (block_with lba + k) old.pending) reads.Good is.2)

    ended_reading : (old new : CacheShown) (out : ReadOut) → EndsReading old new lba n out → P (read_faulted out) old.drive new.drive
    ended_reading old new out p =
        holds.join (read_faulted out) old.drive p.mid.drive new.drive (parts p.before old p.mid p.parts) (part (block_with lba + p.before) p.mid new None out p.ends)

    parts_cause : (old new : CacheShown) (out : ReadOut) → ReadPartsCause old new lba n out → P (read_faulted out) old.drive new.drive
    parts_cause old new reads.Good p = parts (blocks_covered lba n) old new p.1
    parts_cause old new reads.NotFormatted p = absurd p
    parts_cause old new (reads.Range known) p = same_but old new p.nothing
    parts_cause old new (reads.Unread named block) p = ended_reading old new (reads.Unread named block) p
    parts_cause old new reads.Cut p = ended_reading old new reads.Cut p
    parts_cause old new reads.Off p = absurd p
    parts_cause old new reads.Fault p = ended_reading old new reads.Fault p

    read_by : (pending : List (ℕ × List ℕ)) (old new : CacheShown) (out : ReadOut) → CacheReadBy pending old new lba n out → P (read_faulted out) old.drive new.drive
    read_by [] old new out p = holds.read old.drive new.drive lba n out p.0.leaves p.0.cause
    read_by (held ∷ pending) old new out p = parts_cause old new out p

    pub of_read : (old new : CacheShown) (out : ReadOut) → CacheReadCause old new lba n out → P (read_faulted out) old.drive new.drive
    of_read old new reads.Good p = read_by (dropped old).pending (dropped old) new reads.Good p
    of_read old new reads.NotFormatted p = read_by (dropped old).pending (dropped old) new reads.NotFormatted p
    of_read old new (reads.Range known) p = read_by (dropped old).pending (dropped old) new (reads.Range known) p
    of_read old new (reads.Unread named block) p = read_by (dropped old).pending (dropped old) new (reads.Unread named block) p
    of_read old new reads.Cut p = read_by (dropped old).pending (dropped old) new reads.Cut p
    of_read old new reads.Off p = same old new p.nothing
    of_read old new reads.Fault p = read_by (dropped old).pending (dropped old) new reads.Fault p

    -- ---- a write through the cache

    through : (old new : CacheShown) (out : WriteOut) → WritesThrough old new lba n out → P (write_faulted out) old.drive new.drive
    through old new out p =
        holds.join (write_faulted out) old.drive p.mid.drive new.drive (covered_drained lba n old p.mid writes.Good p.drained) (holds.write p.mid.drive new.drive lba n out p.leaves p.wrote)

    stopped_through : (old new : CacheShown) (out : WriteOut) → StopsWritingThrough old new lba n out → P (write_faulted out) old.drive new.drive
    stopped_through old new out (inside, inl ends) = covered_drained lba n old new out ends
    stopped_through old new out (inside, inr wrote) = through old new out wrote

    through_of : (old new : CacheShown) (out : WriteOut) → ThroughCauseOf old new lba n out → P (write_faulted out) old.drive new.drive
    through_of old new writes.Good p = through old new writes.Good p.1
    through_of old new writes.NotFormatted p = absurd p
    through_of old new (writes.Range known) p = same_but old new p.nothing
    through_of old new (writes.Unread named block) p = through old new (writes.Unread named block) p.1
    through_of old new (writes.NoSpare named) p = stopped_through old new (writes.NoSpare named) p
    through_of old new (writes.NoUpdate counter) p = stopped_through old new (writes.NoUpdate counter) p
    through_of old new writes.Cut p = stopped_through old new writes.Cut p
    through_of old new writes.Off p = absurd p
    through_of old new writes.Fault p = stopped_through old new writes.Fault p

    pub of_through : (old new : CacheShown) (out : WriteOut) → ThroughCause old new lba n out → P (write_faulted out) old.drive new.drive
    of_through old new writes.Good p = through_of (dropped old) new writes.Good p
    of_through old new writes.NotFormatted p = same_but old new p.nothing
    of_through old new (writes.Range known) p = through_of (dropped old) new (writes.Range known) p
    of_through old new (writes.Unread named block) p = through_of (dropped old) new (writes.Unread named block) p
    of_through old new (writes.NoSpare named) p = through_of (dropped old) new (writes.NoSpare named) p
    of_through old new (writes.NoUpdate counter) p = through_of (dropped old) new (writes.NoUpdate counter) p
    of_through old new writes.Cut p = through_of (dropped old) new writes.Cut p
    of_through old new writes.Off p = same old new p.nothing
    of_through old new writes.Fault p = through_of (dropped old) new writes.Fault p

    -- ---- a write into the cache

    rest : (i : ℕ) (old new : CacheShown) (partly : Bool) (held : Option (List ℕ)) → ReadsRest old new i partly held → P false old.drive new.drive
    rest i old new true None p = holds.read old.drive new.drive (16 * i) 16 reads.Good p.0.leaves p.0.cause
    rest i old new true (Some bytes) p = same old new p
    rest i old new false held p = same old new p

    rests : (k : ℕ) (old new : CacheShown) → ReadsRests old new lba n k → P false old.drive new.drive
    rests zero old new is = same old new is
    rests (suc k) old new is =
        holds.join false old.drive is.0.drive new.drive (rests k old is.0 is.1)
        (rest (block_with lba + k) is.0 new (is_partly lba n (block_with lba + k)) (bytes_at (block_with lba + k) is.0.pending) is.2)

    told : (i : ℕ) (a b : Shown) (read_out : ReadOut) (out : WriteOut) → EndsRest lba i read_out out → P (read_faulted read_out) a b → P (write_faulted out) a b
    told i a b reads.Good out tells p = absurd tells
    told i a b reads.NotFormatted out tells p = absurd tells
    told i a b (reads.Range known) out tells p = absurd tells
    told i a b (reads.Unread named block) out tells p = subst (λ (o : WriteOut). P (write_faulted o) a b) (sym tells) p
    told i a b reads.Cut out tells p = subst (λ (o : WriteOut). P (write_faulted o) a b) (sym tells) p
    told i a b reads.Off out tells p = absurd tells
    told i a b reads.Fault out tells p = subst (λ (o : WriteOut). P (write_faulted o) a b) (sym tells) p

    lacking : (old new : CacheShown) (out : WriteOut) → LacksRestInCache old new lba n out → P (write_faulted out) old.drive new.drive
    lacking old new out p =
        holds.join (write_faulted out) old.drive p.mid.drive new.drive (room_made lba n old p.mid writes.Good p.drained)
        (holds.join (write_faulted out) p.mid.drive p.late.drive new.drive (rests p.before p.mid p.late p.rests)
        (told (block_with lba + p.before) p.late.drive new.drive p.read_out out p.tells (holds.read p.late.drive new.drive (16 * (block_with lba + p.before)) 16 p.read_out p.ends.leaves p.ends.cause)))

    went_in : (bytes : List ℕ) (old new : CacheShown) → GoesIntoCache old new lba n bytes → P false old.drive new.drive
    went_in bytes old new p =
        holds.join false old.drive p.mid.drive new.drive (room_made lba n old p.mid writes.Good p.drained)
        (subst (P false p.mid.drive) (sym p.comes.same_drive) (rests (blocks_covered lba n) p.mid p.late p.rests))

    stopped_cached : (old new : CacheShown) (out : WriteOut) → MakesRoom old new lba n out ⊎ LacksRestInCache old new lba n out → P (write_faulted out) old.drive new.drive
    stopped_cached old new out (inl ends) = room_made lba n old new out ends
    stopped_cached old new out (inr lacks) = lacking old new out lacks

    cached_of : (bytes : List ℕ) (old new : CacheShown) (out : WriteOut) → CachedCauseOf old new lba n bytes out → P (write_faulted out) old.drive new.drive
    cached_of bytes old new writes.Good p = went_in bytes old new p
    cached_of bytes old new writes.NotFormatted p = absurd p
    cached_of bytes old new (writes.Range known) p = same_but old new p.nothing
    cached_of bytes old new (writes.Unread named block) p = lacking old new (writes.Unread named block) p.1
    cached_of bytes old new (writes.NoSpare named) p = room_made lba n old new (writes.NoSpare named) p.1
    cached_of bytes old new (writes.NoUpdate counter) p = room_made lba n old new (writes.NoUpdate counter) p.1
    cached_of bytes old new writes.Cut p = stopped_cached old new writes.Cut p.1
    cached_of bytes old new writes.Off p = absurd p
    cached_of bytes old new writes.Fault p = stopped_cached old new writes.Fault p.1

    of_cached : (bytes : List ℕ) (old new : CacheShown) (out : WriteOut) → CachedCause old new lba n bytes out → P (write_faulted out) old.drive new.drive
    of_cached bytes old new writes.Good p = cached_of bytes (dropped old) new writes.Good p
    of_cached bytes old new writes.NotFormatted p = same_but old new p.nothing
    of_cached bytes old new (writes.Range known) p = cached_of bytes (dropped old) new (writes.Range known) p
    of_cached bytes old new (writes.Unread named block) p = cached_of bytes (dropped old) new (writes.Unread named block) p
    of_cached bytes old new (writes.NoSpare named) p = cached_of bytes (dropped old) new (writes.NoSpare named) p
    of_cached bytes old new (writes.NoUpdate counter) p = cached_of bytes (dropped old) new (writes.NoUpdate counter) p
    of_cached bytes old new writes.Cut p = cached_of bytes (dropped old) new writes.Cut p
    of_cached bytes old new writes.Off p = same old new p.nothing
    of_cached bytes old new writes.Fault p = cached_of bytes (dropped old) new writes.Fault p

    write_by : (into_cache : Bool) (bytes : List ℕ) (old new : CacheShown) (out : WriteOut) → MatchBool into_cache (CachedCause old new lba n bytes out) (ThroughCause old new lba n out) → P (write_faulted out) old.drive new.drive
    write_by true bytes old new out p = of_cached bytes old new out p
    write_by false bytes old new out p = of_through old new out p

    pub of_write : (bytes : List ℕ) (old new : CacheShown) (out : WriteOut) → CacheWriteCause old new lba n bytes out → P (write_faulted out) old.drive new.drive
    of_write bytes old new out p = write_by (goes_into_cache old lba n) bytes old new out p

  -- ---- a synchronisation, and the write of the oldest pending block

  drained_all : (old new : CacheShown) (out : WriteOut) → DrainsAll old new out → P (write_faulted out) old.drive new.drive
  drained_all old new out p = drained (pending_in old) (length (pending_in old)) old new out p.drained

  pub of_sync : (old new : CacheShown) (out : SyncOut) → SyncCause old new out → P (sync_faulted out) old.drive new.drive
  of_sync old new syncs.Good p = drained_all (dropped old) new writes.Good p
  of_sync old new syncs.NotFormatted p = same_but old new p.nothing
  of_sync old new (syncs.NoSpare lba) p = drained_all (dropped old) new (writes.NoSpare lba) p
  of_sync old new (syncs.NoUpdate counter) p = drained_all (dropped old) new (writes.NoUpdate counter) p
  of_sync old new syncs.Cut p = drained_all (dropped old) new writes.Cut p
  of_sync old new syncs.Off p = same old new p.nothing
  of_sync old new syncs.Fault p = drained_all (dropped old) new writes.Fault p

  tried_oldest : (old new : CacheShown) (out : WriteOut) → TriesOldest old new out → P (write_faulted out) old.drive new.drive
  tried_oldest old new out p = drained (p.block ∷ []) 1 old new out p.drained

  tick_of : (old new : CacheShown) (out : TickOut) → TickCauseOf old new out → P (tick_faulted out) old.drive new.drive
  tick_of old new ticks.Idle p = same old new p.nothing
  tick_of old new (ticks.Written lba) p = tried_oldest old new writes.Good p.0
  tick_of old new (ticks.NoSpare lba) p = tried_oldest old new (writes.NoSpare lba) p
  tick_of old new (ticks.NoUpdate counter) p = tried_oldest old new (writes.NoUpdate counter) p
  tick_of old new ticks.Cut p = tried_oldest old new writes.Cut p
  tick_of old new ticks.Off p = absurd p
  tick_of old new ticks.Fault p = tried_oldest old new writes.Fault p

  pub of_tick : (old new : CacheShown) (out : TickOut) → TickCause old new out → P (tick_faulted out) old.drive new.drive
  of_tick old new ticks.Idle p = tick_of (dropped old) new ticks.Idle p
  of_tick old new (ticks.Written lba) p = tick_of (dropped old) new (ticks.Written lba) p
  of_tick old new (ticks.NoSpare lba) p = tick_of (dropped old) new (ticks.NoSpare lba) p
  of_tick old new (ticks.NoUpdate counter) p = tick_of (dropped old) new (ticks.NoUpdate counter) p
  of_tick old new ticks.Cut p = tick_of (dropped old) new ticks.Cut p
  of_tick old new ticks.Off p = same old new p.nothing
  of_tick old new ticks.Fault p = tick_of (dropped old) new ticks.Fault p
