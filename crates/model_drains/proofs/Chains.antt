-- A call of a drive with a write cache costs one block at most, and none where it was not stopped.
use Rattle.std.specs.Prelude.{◌≡◌, ℕ, zero, suc, ◌+◌, ◌*◌, Bool, true, false, MatchBool, Option, Some, None, List, [], ◌∷◌, length}
use Rattle.std.proofs.Common.{sym, ap, ◌∙◌, inl, inr, subst}
use Rattle.model_buffer.specs.Buffer.{bytes_at}
use Rattle.model_sectors.specs.Requests.{block_with, blocks_covered, is_partly}
use Rattle.model_sectors.specs.declared.ReadOut.{ReadOut}
use Rattle.model_sectors.specs.declared.ReadOut.TheVariants as reads
use Rattle.model_stops.specs.declared.Stop.TheVariants as stop
use Rattle.model_drive.specs.declared.WriteOut.{WriteOut}
use Rattle.model_drive.specs.declared.WriteOut.TheVariants as writes
use Rattle.model_drive.specs.Shown.{Shown, IsKnown}
use Rattle.model_drive.specs.Sound.{IsSound}
use Rattle.model_drive.specs.Reads.{ReadCause}
use Rattle.model_drive.specs.Writes.{WriteCause, next_block}
use Rattle.model_drive.proofs.Kept.{read_kept, write_kept}
use Rattle.model_costs.specs.Costs.{Lives, IsNotStoppedIn}
use Rattle.model_costs.proofs.Living.{read_living, write_living, stops_living}
use Rattle.model_cache.specs.declared.SyncOut.{SyncOut}
use Rattle.model_cache.specs.declared.SyncOut.TheVariants as syncs
use Rattle.model_cache.specs.declared.TickOut.{TickOut}
use Rattle.model_cache.specs.declared.TickOut.TheVariants as ticks
use Rattle.model_cache.specs.Shown.{CacheShown, dropped, pending_in, pending_covered, goes_into_cache}
use Rattle.model_cache.specs.Chains.{LeavesSound}
use Rattle.model_cache.specs.Drains.{IsRefusal, Tries, StopsTrying, DrainCause}
use Rattle.model_cache.specs.Causes.{ReadsPart, ReadsParts, EndsReading, ReadPartsCause, CacheReadBy, CacheReadCause, DrainsCovered, WritesThrough, StopsWritingThrough, ThroughCauseOf, ThroughCause, leave_first, MakesRoom, ReadsRest, ReadsRests, GoesIntoCache, LacksRestInCache, CachedCauseOf, CachedCause, CacheWriteCause, DrainsAll, SyncCause, TriesOldest, TickCause, as_write}
use Rattle.model_drains.specs.Costing.{CostsAtMost, is_stopped, is_stopped_tick}

-- what a chain of calls leaves, so that it goes on
record Leads (stopped : Bool) (a b : Shown) : Type 0 where
  sound : IsSound b
  known : IsKnown b
  costs : CostsAtMost stopped a b

joined : (stopped : Bool) (a b c : Shown) → Leads false a b → Leads stopped b c → Leads stopped a c
joined false a b c first last = record { sound = last.sound; known = last.known; costs = λ i lives. last.costs i (first.costs i lives) }
joined true a b c first last = record {
  sound = last.sound;
  known = last.known;
  costs = (last.costs.0, λ i apart lives. last.costs.1 i apart (first.costs i lives));
}

-- one that costs nothing costs one at most
pub at_most_one : (stopped : Bool) (a b : Shown) → CostsAtMost false a b → CostsAtMost stopped a b
at_most_one false a b costs = costs
at_most_one true a b costs = (0, λ i apart lives. costs i lives)

module _ (a : Shown) (sound : IsSound a) (known : IsKnown a) where
  nothing : (b : Shown) → b ≡ a → Leads false a b
  nothing b is = subst (Leads false a) (sym is) (record { sound = sound; known = known; costs = λ i lives. lives })

  read_leads : (b : Shown) (lba n : ℕ) (out : ReadOut) → LeavesSound a b → ReadCause a b lba n out → Leads false a b
  read_leads b lba n out leaves cause =
      let known' = (read_kept a b lba n out cause).as_known ∙ known in
      record {
        sound = leaves.sound;
        known = known';
        costs = λ i lives. read_living i a b leaves.same_shape leaves.sound known' lba n out lives cause;
      }

  lives_on : (b : Shown) (lba n : ℕ) (out : WriteOut) → LeavesSound a b → WriteCause a b lba n out → (i : ℕ) → IsNotStoppedIn a b lba n out i → Lives a i → Lives b i
  lives_on b lba n out leaves cause i apart lives =
      write_living i a b leaves.same_shape leaves.sound ((write_kept a b lba n out cause).as_known ∙ known) known lives sound lba n out apart cause

  write_costs : (b : Shown) (lba n : ℕ) (out : WriteOut) → LeavesSound a b → WriteCause a b lba n out → CostsAtMost (is_stopped out) a b
  write_costs b lba n writes.Good leaves cause = λ i lives. lives_on b lba n writes.Good leaves cause i tt lives
  write_costs b lba n writes.NotFormatted leaves cause = λ i lives. lives_on b lba n writes.NotFormatted leaves cause i tt lives
  write_costs b lba n (writes.Range known) leaves cause = λ i lives. lives_on b lba n (writes.Range known) leaves cause i tt lives
  write_costs b lba n (writes.Unread named block) leaves cause = λ i lives. lives_on b lba n (writes.Unread named block) leaves cause i tt lives
  write_costs b lba n (writes.NoSpare named) leaves cause = λ i lives. lives_on b lba n (writes.NoSpare named) leaves cause i tt lives
  write_costs b lba n (writes.NoUpdate counter) leaves cause = λ i lives. lives_on b lba n (writes.NoUpdate counter) leaves cause i tt lives
  write_costs b lba n writes.Off leaves cause = λ i lives. lives_on b lba n writes.Off leaves cause i tt lives
  write_costs b lba n writes.Cut leaves cause = (
    next_block lba cause.course,
    λ i apart lives. stops_living i a b leaves.same_shape leaves.sound ((write_kept a b lba n writes.Cut cause).as_known ∙ known) known lives sound lba n stop.Cut cause apart,
  )
  write_costs b lba n writes.Fault leaves cause = (
    next_block lba cause.course,
    λ i apart lives. stops_living i a b leaves.same_shape leaves.sound ((write_kept a b lba n writes.Fault cause).as_known ∙ known) known lives sound lba n stop.Fault cause apart,
  )

  write_leads : (b : Shown) (lba n : ℕ) (out : WriteOut) → LeavesSound a b → WriteCause a b lba n out → Leads (is_stopped out) a b
  write_leads b lba n out leaves cause = record { sound = leaves.sound; known = (write_kept a b lba n out cause).as_known ∙ known; costs = write_costs b lba n out leaves cause }

-- ---- drains

refusal_costs : (a b : Shown) (out : WriteOut) → IsRefusal out → Leads (is_stopped out) a b → Leads false a b
refusal_costs a b (writes.NoSpare named) is leads = leads
refusal_costs a b (writes.NoUpdate counter) is leads = leads
refusal_costs a b _ is leads = absurd is

tries_lead : (due : List ℕ) (enough short : ℕ) (old new : CacheShown) (first : Option WriteOut) → IsSound old.drive → IsKnown old.drive → Tries old due enough new short first → Leads false old.drive new.drive
tries_lead due zero short old new first sound known p = nothing old.drive sound known new.drive (ap (λ (s : CacheShown). s.drive) p.0)
tries_lead [] (suc enough) short old new first sound known p = nothing old.drive sound known new.drive (ap (λ (s : CacheShown). s.drive) p.0)
tries_lead (i ∷ due) (suc enough) short old new first sound known (inl (mid, flush, later)) =
    let one = write_leads old.drive sound known mid.drive (16 * i) 16 writes.Good flush.back.leaves flush.back.wrote in
    joined false old.drive mid.drive new.drive one (tries_lead due enough short mid new first one.sound one.known later)
tries_lead (i ∷ due) (suc enough) short old new first sound known (inr (mid, out, told, is, later, first_is)) =
    let one = refusal_costs old.drive mid.drive out is.refused (write_leads old.drive sound known mid.drive (16 * i) 16 out is.back.leaves is.back.wrote) in
    joined false old.drive mid.drive new.drive one (tries_lead due (suc enough) short mid new told one.sound one.known later)

stops_lead : (due : List ℕ) (enough : ℕ) (old new : CacheShown) (out : WriteOut) → IsSound old.drive → IsKnown old.drive → StopsTrying old new due enough out → Leads (is_stopped out) old.drive new.drive
stops_lead due enough old new out sound known p =
    let before = tries_lead p.done enough (suc p.short) old p.mid p.first sound known p.tried in
    joined (is_stopped out) old.drive p.mid.drive new.drive before (write_leads p.mid.drive before.sound before.known new.drive (16 * p.block) 16 out p.stops.leaves p.stops.wrote)

drain_leads : (due : List ℕ) (enough : ℕ) (old new : CacheShown) (out : WriteOut) → IsSound old.drive → IsKnown old.drive → DrainCause old new due enough out → Leads (is_stopped out) old.drive new.drive
drain_leads due enough old new writes.Good sound known p = tries_lead due enough 0 old new p.0 sound known p.1
drain_leads due enough old new (writes.NoSpare named) sound known p = tries_lead due enough (suc p.short) old new (Some (writes.NoSpare named)) sound known p.tried
drain_leads due enough old new (writes.NoUpdate counter) sound known p = tries_lead due enough (suc p.short) old new (Some (writes.NoUpdate counter)) sound known p.tried
drain_leads due enough old new writes.Cut sound known p = stops_lead due enough old new writes.Cut sound known p
drain_leads due enough old new writes.Fault sound known p = stops_lead due enough old new writes.Fault sound known p
drain_leads due enough old new writes.NotFormatted sound known p = absurd p
drain_leads due enough old new (writes.Range range) sound known p = absurd p
drain_leads due enough old new (writes.Unread named block) sound known p = absurd p
drain_leads due enough old new writes.Off sound known p = absurd p

-- ---- a write through the cache

module _ (lba n : ℕ) where
  covered_leads : (old new : CacheShown) (out : WriteOut) → IsSound old.drive → IsKnown old.drive → DrainsCovered old new lba n out → Leads (is_stopped out) old.drive new.drive
  covered_leads old new out sound known p = drain_leads (pending_covered true old lba n) (length (pending_covered true old lba n)) old new out sound known p

  through_leads : (old new : CacheShown) (out : WriteOut) → IsSound old.drive → IsKnown old.drive → WritesThrough old new lba n out → Leads (is_stopped out) old.drive new.drive
  through_leads old new out sound known p =
      let before = covered_leads old p.mid writes.Good sound known p.drained in
      joined (is_stopped out) old.drive p.mid.drive new.drive before (write_leads p.mid.drive before.sound before.known new.drive lba n out p.leaves p.wrote)

  ends_through : (old new : CacheShown) (out : WriteOut) → IsSound old.drive → IsKnown old.drive → StopsWritingThrough old new lba n out → Leads (is_stopped out) old.drive new.drive
  ends_through old new out sound known (inside, inl drained) = covered_leads old new out sound known drained
  ends_through old new out sound known (inside, inr wrote) = through_leads old new out sound known wrote

  through_of : (old new : CacheShown) (out : WriteOut) → IsSound old.drive → IsKnown old.drive → ThroughCauseOf old new lba n out → Leads (is_stopped out) old.drive new.drive
  through_of old new writes.Good sound known p = through_leads old new writes.Good sound known p.1
  through_of old new writes.NotFormatted sound known p = absurd p
  through_of old new (writes.Range range) sound known p = nothing old.drive sound known new.drive (ap (λ (s : CacheShown). s.drive) p.nothing)
  through_of old new (writes.Unread named block) sound known p = through_leads old new (writes.Unread named block) sound known p.1
  through_of old new writes.Off sound known p = absurd p
  through_of old new (writes.NoSpare named) sound known p = ends_through old new (writes.NoSpare named) sound known p
  through_of old new (writes.NoUpdate counter) sound known p = ends_through old new (writes.NoUpdate counter) sound known p
  through_of old new writes.Cut sound known p = ends_through old new writes.Cut sound known p
  through_of old new writes.Fault sound known p = ends_through old new writes.Fault sound known p

  by_through : (old new : CacheShown) (out : WriteOut) → IsSound old.drive → IsKnown old.drive → ThroughCause old new lba n out → Leads (is_stopped out) old.drive new.drive
  by_through old new writes.NotFormatted sound known p = nothing old.drive sound known new.drive (ap (λ (s : CacheShown). s.drive) p.nothing)
  by_through old new writes.Off sound known p = nothing old.drive sound known new.drive (ap (λ (s : CacheShown). s.drive) p.nothing)
  by_through old new writes.Good sound known p = through_of (dropped old) new writes.Good sound known p
  by_through old new (writes.Range range) sound known p = through_of (dropped old) new (writes.Range range) sound known p
  by_through old new (writes.Unread named block) sound known p = through_of (dropped old) new (writes.Unread named block) sound known p
  by_through old new (writes.NoSpare named) sound known p = through_of (dropped old) new (writes.NoSpare named) sound known p
  by_through old new (writes.NoUpdate counter) sound known p = through_of (dropped old) new (writes.NoUpdate counter) sound known p
  by_through old new writes.Cut sound known p = through_of (dropped old) new writes.Cut sound known p
  by_through old new writes.Fault sound known p = through_of (dropped old) new writes.Fault sound known p

  -- ---- a write into it

  rest_leads : (old new : CacheShown) (block : ℕ) (partly : Bool) (held : Option (List ℕ)) → IsSound old.drive → IsKnown old.drive → ReadsRest old new block partly held → Leads false old.drive new.drive
  rest_leads old new block true None sound known p = read_leads old.drive sound known new.drive (16 * block) 16 reads.Good p.0.leaves p.0.cause
  rest_leads old new block true (Some bytes) sound known p = nothing old.drive sound known new.drive (ap (λ (s : CacheShown). s.drive) p)
  rest_leads old new block false held sound known p = nothing old.drive sound known new.drive (ap (λ (s : CacheShown). s.drive) p)

  rests_lead : (old new : CacheShown) (k : ℕ) → IsSound old.drive → IsKnown old.drive → ReadsRests old new lba n k → Leads false old.drive new.drive
  rests_lead old new zero sound known p = nothing old.drive sound known new.drive (ap (λ (s : CacheShown). s.drive) p)
  rests_lead old new (suc k) sound known (mid, before, rest) =
      let first = rests_lead old mid k sound known before in
      joined false old.drive mid.drive new.drive first
      (rest_leads mid new (block_with lba + k) (is_partly lba n (block_with lba + k)) (bytes_at (block_with lba + k) mid.pending) first.sound first.known rest)

  room_leads : (old new : CacheShown) (out : WriteOut) → IsSound old.drive → IsKnown old.drive → MakesRoom old new lba n out → Leads (is_stopped out) old.drive new.drive
  room_leads old new out sound known p = drain_leads (pending_covered false old lba n) (leave_first old lba n) old new out sound known p

  as_stopped : (stopped : Bool) (a b : Shown) → Leads false a b → Leads stopped a b
  as_stopped stopped a b leads = record { sound = leads.sound; known = leads.known; costs = at_most_one stopped a b leads.costs }

  lacks_lead : (old new : CacheShown) (out : WriteOut) → IsSound old.drive → IsKnown old.drive → LacksRestInCache old new lba n out → Leads (is_stopped out) old.drive new.drive
  lacks_lead old new out sound known p =
      let room = room_leads old p.mid writes.Good sound known p.drained in
      let rests = rests_lead p.mid p.late p.before room.sound room.known p.rests in
      as_stopped (is_stopped out) old.drive new.drive
      (joined false old.drive p.mid.drive new.drive room
      (joined false p.mid.drive p.late.drive new.drive rests (read_leads p.late.drive rests.sound rests.known new.drive (16 * (block_with lba + p.before)) 16 p.read_out p.ends.leaves p.ends.cause)))

  goes_in : (old new : CacheShown) (bytes : List ℕ) → IsSound old.drive → IsKnown old.drive → GoesIntoCache old new lba n bytes → Leads false old.drive new.drive
  goes_in old new bytes sound known p =
      let room = room_leads old p.mid writes.Good sound known p.drained in
      joined false old.drive p.mid.drive new.drive room
      (subst (Leads false p.mid.drive) (sym p.comes.same_drive) (rests_lead p.mid p.late (blocks_covered lba n) room.sound room.known p.rests))

  cached_of : (old new : CacheShown) (bytes : List ℕ) (out : WriteOut) → IsSound old.drive → IsKnown old.drive → CachedCauseOf old new lba n bytes out → Leads (is_stopped out) old.drive new.drive
  cached_of old new bytes writes.Good sound known p = goes_in old new bytes sound known p
  cached_of old new bytes writes.NotFormatted sound known p = absurd p
  cached_of old new bytes (writes.Range range) sound known p = nothing old.drive sound known new.drive (ap (λ (s : CacheShown). s.drive) p.nothing)
  cached_of old new bytes (writes.Unread named block) sound known p = lacks_lead old new (writes.Unread named block) sound known p.1
  cached_of old new bytes writes.Off sound known p = absurd p
  cached_of old new bytes (writes.NoSpare named) sound known p = room_leads old new (writes.NoSpare named) sound known p.1
  cached_of old new bytes (writes.NoUpdate counter) sound known p = room_leads old new (writes.NoUpdate counter) sound known p.1
  cached_of old new bytes writes.Cut sound known (inside, inl p) = room_leads old new writes.Cut sound known p
  cached_of old new bytes writes.Cut sound known (inside, inr p) = lacks_lead old new writes.Cut sound known p
  cached_of old new bytes writes.Fault sound known (inside, inl p) = room_leads old new writes.Fault sound known p
  cached_of old new bytes writes.Fault sound known (inside, inr p) = lacks_lead old new writes.Fault sound known p

  by_cached : (old new : CacheShown) (bytes : List ℕ) (out : WriteOut) → IsSound old.drive → IsKnown old.drive → CachedCause old new lba n bytes out → Leads (is_stopped out) old.drive new.drive
  by_cached old new bytes writes.NotFormatted sound known p = nothing old.drive sound known new.drive (ap (λ (s : CacheShown). s.drive) p.nothing)
  by_cached old new bytes writes.Off sound known p = nothing old.drive sound known new.drive (ap (λ (s : CacheShown). s.drive) p.nothing)
  by_cached old new bytes writes.Good sound known p = cached_of (dropped old) new bytes writes.Good sound known p
  by_cached old new bytes (writes.Range range) sound known p = cached_of (dropped old) new bytes (writes.Range range) sound known p
  by_cached old new bytes (writes.Unread named block) sound known p = cached_of (dropped old) new bytes (writes.Unread named block) sound known p
  by_cached old new bytes (writes.NoSpare named) sound known p = cached_of (dropped old) new bytes (writes.NoSpare named) sound known p
  by_cached old new bytes (writes.NoUpdate counter) sound known p = cached_of (dropped old) new bytes (writes.NoUpdate counter) sound known p
  by_cached old new bytes writes.Cut sound known p = cached_of (dropped old) new bytes writes.Cut sound known p
  by_cached old new bytes writes.Fault sound known p = cached_of (dropped old) new bytes writes.Fault sound known p

  by_mode : (into_cache : Bool) (old new : CacheShown) (bytes : List ℕ) (out : WriteOut) → IsSound old.drive → IsKnown old.drive → MatchBool into_cache (CachedCause old new lba n bytes out) (ThroughCause old new lba n out)
      → Leads (is_stopped out) old.drive new.drive
  by_mode true old new bytes out sound known p = by_cached old new bytes out sound known p
  by_mode false old new bytes out sound known p = by_through old new out sound known p

  pub through_costs : (old new : CacheShown) (out : WriteOut) → IsSound old.drive → IsKnown old.drive → ThroughCause old new lba n out → CostsAtMost (is_stopped out) old.drive new.drive
  through_costs old new out sound known p = (by_through old new out sound known p).costs

  pub cache_costs : (old new : CacheShown) (bytes : List ℕ) (out : WriteOut) → IsSound old.drive → IsKnown old.drive → CacheWriteCause old new lba n bytes out → CostsAtMost (is_stopped out) old.drive new.drive
  cache_costs old new bytes out sound known p = (by_mode (goes_into_cache old lba n) old new bytes out sound known p).costs

-- ---- a synchronisation, and a tick

module _ (old new : CacheShown) (sound : IsSound old.drive) (known : IsKnown old.drive) where
  all_costs : (out : WriteOut) → DrainsAll (dropped old) new out → CostsAtMost (is_stopped out) old.drive new.drive
  all_costs out p = (drain_leads (pending_in (dropped old)) (length (pending_in (dropped old))) (dropped old) new out sound known p.drained).costs

  pub sync_costs : (out : SyncOut) → SyncCause old new out → CostsAtMost (is_stopped (as_write out)) old.drive new.drive
  sync_costs syncs.NotFormatted p = (nothing old.drive sound known new.drive (ap (λ (s : CacheShown). s.drive) p.nothing)).costs
  sync_costs syncs.Off p = (nothing old.drive sound known new.drive (ap (λ (s : CacheShown). s.drive) p.nothing)).costs
  sync_costs syncs.Good p = all_costs writes.Good p
  sync_costs (syncs.NoSpare lba) p = all_costs (writes.NoSpare lba) p
  sync_costs (syncs.NoUpdate counter) p = all_costs (writes.NoUpdate counter) p
  sync_costs syncs.Cut p = all_costs writes.Cut p
  sync_costs syncs.Fault p = all_costs writes.Fault p

  oldest_costs : (out : WriteOut) → TriesOldest (dropped old) new out → CostsAtMost (is_stopped out) old.drive new.drive
  oldest_costs out p = (drain_leads (p.block ∷ []) 1 (dropped old) new out sound known p.drained).costs

  pub tick_costs : (out : TickOut) → TickCause old new out → CostsAtMost (is_stopped_tick out) old.drive new.drive
  tick_costs ticks.Off p = (nothing old.drive sound known new.drive (ap (λ (s : CacheShown). s.drive) p.nothing)).costs
  tick_costs ticks.Idle p = (nothing old.drive sound known new.drive (ap (λ (s : CacheShown). s.drive) p.nothing)).costs
  tick_costs (ticks.Written lba) p = oldest_costs writes.Good p.0
  tick_costs (ticks.NoSpare lba) p = oldest_costs (writes.NoSpare lba) p
  tick_costs (ticks.NoUpdate counter) p = oldest_costs (writes.NoUpdate counter) p
  tick_costs ticks.Cut p = oldest_costs writes.Cut p
  tick_costs ticks.Fault p = oldest_costs writes.Fault p

-- ---- a read

module _ (lba n : ℕ) where
  part_leads : (old new : CacheShown) (block : ℕ) (held : Option (List ℕ)) (out : ReadOut) → IsSound old.drive → IsKnown old.drive → ReadsPart old new lba n block held out → Leads false old.drive new.drive
  part_leads old new block (Some bytes) out sound known p = nothing old.drive sound known new.drive (ap (λ (s : CacheShown). s.drive) p.1)
  part_leads old new block None out sound known p = read_leads old.drive sound known new.drive _ _ out p.0.leaves p.0.cause

  parts_lead : (old new : CacheShown) (k : ℕ) → IsSound old.drive → IsKnown old.drive → ReadsParts old new lba n k → Leads false old.drive new.drive
  parts_lead old new zero sound known p = nothing old.drive sound known new.drive (ap (λ (s : CacheShown). s.drive) p)
  parts_lead old new (suc k) sound known (mid, before, last) =
      let first = parts_lead old mid k sound known before in
      joined false old.drive mid.drive new.drive first (part_leads mid new (block_with lba + k) (bytes_at (block_with lba + k) old.pending) reads.Good first.sound first.known last)

  ends_lead : (old new : CacheShown) (out : ReadOut) → IsSound old.drive → IsKnown old.drive → EndsReading old new lba n out → Leads false old.drive new.drive
  ends_lead old new out sound known p =
      let first = parts_lead old p.mid p.before sound known p.parts in
      joined false old.drive p.mid.drive new.drive first (part_leads p.mid new (block_with lba + p.before) None out first.sound first.known p.ends)

  by_parts : (old new : CacheShown) (out : ReadOut) → IsSound old.drive → IsKnown old.drive → ReadPartsCause old new lba n out → Leads false old.drive new.drive
  by_parts old new reads.Good sound known p = parts_lead old new (blocks_covered lba n) sound known p.1
  by_parts old new reads.NotFormatted sound known p = absurd p
  by_parts old new (reads.Range range) sound known p = nothing old.drive sound known new.drive (ap (λ (s : CacheShown). s.drive) p.nothing)
  by_parts old new (reads.Unread named block) sound known p = ends_lead old new (reads.Unread named block) sound known p
  by_parts old new reads.Cut sound known p = ends_lead old new reads.Cut sound known p
  by_parts old new reads.Off sound known p = absurd p
  by_parts old new reads.Fault sound known p = ends_lead old new reads.Fault sound known p

  by_pending : (pending : List (ℕ × List ℕ)) (old new : CacheShown) (out : ReadOut) → IsSound old.drive → IsKnown old.drive → CacheReadBy pending old new lba n out → Leads false old.drive new.drive
  by_pending [] old new out sound known p = read_leads old.drive sound known new.drive lba n out p.0.leaves p.0.cause
  by_pending (held ∷ pending) old new out sound known p = by_parts old new out sound known p

  pub read_costs : (old new : CacheShown) (out : ReadOut) → IsSound old.drive → IsKnown old.drive → CacheReadCause old new lba n out → CostsAtMost false old.drive new.drive
  read_costs old new reads.Off sound known p = (nothing old.drive sound known new.drive (ap (λ (s : CacheShown). s.drive) p.nothing)).costs
  read_costs old new reads.Good sound known p = (by_pending (dropped old).pending (dropped old) new reads.Good sound known p).costs
  read_costs old new reads.NotFormatted sound known p = (by_pending (dropped old).pending (dropped old) new reads.NotFormatted sound known p).costs
  read_costs old new (reads.Range range) sound known p = (by_pending (dropped old).pending (dropped old) new (reads.Range range) sound known p).costs
  read_costs old new (reads.Unread named block) sound known p = (by_pending (dropped old).pending (dropped old) new (reads.Unread named block) sound known p).costs
  read_costs old new reads.Cut sound known p = (by_pending (dropped old).pending (dropped old) new reads.Cut sound known p).costs
  read_costs old new reads.Fault sound known p = (by_pending (dropped old).pending (dropped old) new reads.Fault sound known p).costs
