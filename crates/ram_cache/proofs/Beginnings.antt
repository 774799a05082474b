-- How calls begin: with nothing pending, with the power off, and on a disc that is not formatted.
use Rattle.std.proofs.Common.{◌≡◌, ℕ, ◌+◌, ◌<◌, Bool, not, List, [], ◌∷◌, length, refl, sym, ap, ◌∙◌, subst, arith}
use Rattle.model_sectors.specs.Discs.{Standing, On, Off, sectors_of}
use Rattle.model_sectors.specs.declared.ReadOut.{ReadOut}
use Rattle.model_sectors.specs.declared.ReadOut.TheVariants as reads
use Rattle.model_drive.specs.Shown.{Shown, IsOn, IsFormatted, StandsFor, block_count, cells_in}
use Rattle.model_drive.specs.Sound.{IsSound}
use Rattle.model_drive.specs.Reads.{ReadStep}
use Rattle.model_drive.specs.declared.WriteOut.TheVariants as writes
use Rattle.model_cache.specs.declared.SyncOut.{SyncOut}
use Rattle.model_cache.specs.declared.SyncOut.TheVariants as syncs
use Rattle.model_cache.specs.declared.TickOut.{TickOut}
use Rattle.model_cache.specs.declared.TickOut.TheVariants as ticks
use Rattle.model_cache.specs.Values.{Values, Contents, Has, MayHave, IsPending, IsUnder, AreTaken, StandsCached}
use Rattle.model_cache.specs.Shown.{CacheShown, dropped}
use Rattle.model_cache.specs.Steps.{ReadContents, SyncContents, TickContents}
use Rattle.model_cache.specs.Chains.{ReadsDisc}
use Rattle.model_cache.specs.Causes.{CacheReadCause, CacheReadBy, CacheOutOfRange, DrainsAll, as_write, SyncCause, TickCause, TickCauseOf}
use Rattle.model_cache.proofs.Members.{Contains-none}
use Rattle.model_cache.proofs.SameBlocks.{same_blocks}
use Rattle.ram_cache.specs.Caches.{cache_of}
use Rattle.ram_cache.specs.Flushes.{IsReady, CanFlush, EnterRule}
use Rattle.ram_cache.specs.Reading.{CacheReadOn}
use Rattle.ram_cache.specs.declared.flushing.Entered.TheVariants as entered
use Rattle.ram_cache.proofs.Indices.{all_kept_by}
use Rattle.ram_cache.proofs.Entering.{none_count, long_by, empty}

-- ---- nothing is pending

none_one : (i : ℕ) → ¬ IsPending [] i
none_one i (bytes, has) = Contains-none (i, bytes) has

pub plain_disc : (d : List ℕ) (v : Values) → IsUnder [] d v → v.disc ≡ d
plain_disc d v under = same_blocks (length v.disc) v.disc d (omega arith) under.taken.as_long (λ i. under.others i (none_one i))

plain_contents : (after : Standing → Type 0) (lba n : ℕ) (into : List ℕ) (d : List ℕ) (v : Values) (out : ReadOut) → IsUnder [] d v → ReadStep after (On d) lba n into out
    → ReadContents (StandsCached after []) (Has v) lba n into out
plain_contents after lba n into d v reads.Good under step = (step.0 ∙ ap (λ (l : List ℕ). sectors_of l lba n) (sym (plain_disc d v under)), (d, step.1, under))
plain_contents after lba n into d v reads.NotFormatted under step = (plain_disc d v under ∙ step.0, (d, step.1, under))
plain_contents after lba n into d v (reads.Range known) under step = (d, step, under)
plain_contents after lba n into d v (reads.Unread named home) under step = (d, step, under)
plain_contents after lba n into d v reads.Cut under step = (d ∷ [], step, (under.taken, refl))
plain_contents after lba n into d v reads.Off under step = step
plain_contents after lba n into d v reads.Fault under step = (d ∷ [], step, (under.taken, refl))

off_reads : (after : Standing → Type 0) (lba n : ℕ) (into : List ℕ) (ds : List (List ℕ)) (all : List Values) (out : ReadOut) → AreTaken all ds
    → ReadStep after (Off ds) lba n into out → ReadContents (StandsCached after []) (MayHave all) lba n into out
off_reads after lba n into ds all reads.Off taken step = (ds, step, taken)
off_reads after lba n into ds all reads.Good taken step = step
off_reads after lba n into ds all reads.NotFormatted taken step = step
off_reads after lba n into ds all (reads.Range known) taken step = step
off_reads after lba n into ds all (reads.Unread named home) taken step = step
off_reads after lba n into ds all reads.Cut taken step = step
off_reads after lba n into ds all reads.Fault taken step = step

plain_both : (before after : Standing → Type 0) (lba n : ℕ) (into : List ℕ) (out : ReadOut) → ((t : Standing) → before t → ReadStep after t lba n into out)
    → (s : Contents) → StandsCached before [] s → ReadContents (StandsCached after []) s lba n into out
plain_both before after lba n into out step (Has v) (d, so, under) = plain_contents after lba n into d v out under (step (On d) so)
plain_both before after lba n into out step (MayHave all) (ds, so, taken) = off_reads after lba n into ds all out taken (step (Off ds) so)

-- a read of the disc is that of the drive
pub plain_read : (before after : Standing → Type 0) (p : List (ℕ × List ℕ)) (lba n : ℕ) (into : List ℕ) (out : ReadOut) → p ≡ []
    → ((t : Standing) → before t → ReadStep after t lba n into out) → (s : Contents) → StandsCached before p s → ReadContents (StandsCached after p) s lba n into out
plain_read before after p lba n into out none step s so =
    subst (λ (l : List (ℕ × List ℕ)). ReadContents (StandsCached after l) s lba n into out) (sym none)
    (plain_both before after lba n into out step s (subst (λ (l : List (ℕ × List ℕ)). StandsCached before l s) none so))

by_nothing : (old new : Shown) (caches : Bool) (lba n : ℕ) (out : ReadOut) → ReadsDisc old new lba n out → CacheReadCause (cache_of old [] caches) (cache_of new [] caches) lba n out
by_nothing old new caches lba n reads.Good cause = (cause, (refl, refl))
by_nothing old new caches lba n reads.NotFormatted cause = (cause, (refl, refl))
by_nothing old new caches lba n (reads.Range known) cause = (cause, (refl, refl))
by_nothing old new caches lba n (reads.Unread named home) cause = (cause, (refl, refl))
by_nothing old new caches lba n reads.Cut cause = (cause, (refl, refl))
by_nothing old new caches lba n reads.Off cause = record { off = cause.cause.off; nothing = ap (λ (s : Shown). cache_of s [] caches) cause.cause.nothing }
by_nothing old new caches lba n reads.Fault cause = (cause, (refl, refl))

pub plain_read_cause : (old new : Shown) (p : List (ℕ × List ℕ)) (caches : Bool) (lba n : ℕ) (out : ReadOut) → p ≡ [] → ReadsDisc old new lba n out
    → CacheReadCause (cache_of old p caches) (cache_of new p caches) lba n out
plain_read_cause old new p caches lba n out none cause =
    subst (λ (l : List (ℕ × List ℕ)). CacheReadCause (cache_of old l caches) (cache_of new l caches) lba n out) (sym none) (by_nothing old new caches lba n out cause)

-- ---- the disc has all that is pending

pub dropped_same : (shown : CacheShown) → CanFlush shown → dropped shown ≡ shown
dropped_same shown can = ap (λ (l : List (ℕ × List ℕ)). record shown { pending = l }) (sym (all_kept_by shown.pending (block_count shown.drive) can.inside))

pub out_of_range : (shown : CacheShown) (sectors lba n : ℕ) → IsReady shown sectors → sectors < lba + n → CacheOutOfRange shown shown lba n sectors
out_of_range shown sectors lba n ready past = record {
  past = record {
    on = ready.can.on;
    formatted = ready.can.formatted;
    past = subst (λ (m : ℕ). m < lba + n) ready.sectors_are past;
    known_is = ready.sectors_are;
    nothing = refl;
  };
  nothing = sym (dropped_same shown ready.can);
}

pub read_past : (p : List (ℕ × List ℕ)) (shown : CacheShown) (sectors lba n : ℕ) → 0 < length p → CacheOutOfRange shown shown lba n sectors → CacheReadBy p shown shown lba n (reads.Range sectors)
read_past [] shown sectors lba n some past = absurd (omega (arith, some))
read_past (held ∷ p) shown sectors lba n some past = past

-- ---- the calls after they entered

module _ (old : CacheShown) where
  pub read_entered : (mid new : CacheShown) (lba n : ℕ) (out : ReadOut) → mid ≡ dropped old → CacheReadOn mid new lba n out → CacheReadCause old new lba n out
  read_entered mid new lba n reads.Good is cause = subst (λ (m : CacheShown). CacheReadBy m.pending m new lba n reads.Good) is cause
  read_entered mid new lba n reads.NotFormatted is cause = subst (λ (m : CacheShown). CacheReadBy m.pending m new lba n reads.NotFormatted) is cause
  read_entered mid new lba n (reads.Range known) is cause = subst (λ (m : CacheShown). CacheReadBy m.pending m new lba n (reads.Range known)) is cause
  read_entered mid new lba n (reads.Unread named home) is cause = subst (λ (m : CacheShown). CacheReadBy m.pending m new lba n (reads.Unread named home)) is cause
  read_entered mid new lba n reads.Cut is cause = subst (λ (m : CacheShown). CacheReadBy m.pending m new lba n reads.Cut) is cause
  read_entered mid new lba n reads.Off is cause = absurd cause
  read_entered mid new lba n reads.Fault is cause = subst (λ (m : CacheShown). CacheReadBy m.pending m new lba n reads.Fault) is cause

  pub read_unformatted : (new : CacheShown) (lba n : ℕ) → IsSound old.drive → EnterRule old new entered.NotFormatted → CacheReadCause old new lba n reads.NotFormatted
  read_unformatted new lba n sound (on, bare, is, none) =
      by_list ((dropped old).pending) (sym (ap (λ (s : CacheShown). s.pending) is) ∙ none)
    where
      by_list : (p : List (ℕ × List ℕ)) → p ≡ [] → CacheReadBy p (dropped old) new lba n reads.NotFormatted
      by_list [] e = (
        record {
          cause = record { on = on; unformatted = bare; nothing = ap (λ (s : CacheShown). s.drive) is };
          quiet = λ inside at. absurd (bare inside.formatted);
          leaves = record { same_shape = ap (λ (s : CacheShown). s.drive.shape) is; sound = subst (λ (s : CacheShown). IsSound s.drive) (sym is) sound };
        },
        (none, ap (λ (s : CacheShown). s.caches) is),
      )
      by_list (held ∷ p) e = absurd (let w = e in cc)

  pub sync_entered : (mid new : CacheShown) (out : SyncOut) → mid ≡ dropped old → DrainsAll mid new (as_write out) → SyncCause old new out
  sync_entered mid new syncs.Good is cause = subst (λ (m : CacheShown). DrainsAll m new writes.Good) is cause
  sync_entered mid new syncs.NotFormatted is cause = absurd cause.drained
  sync_entered mid new (syncs.NoSpare lba) is cause = subst (λ (m : CacheShown). DrainsAll m new (writes.NoSpare lba)) is cause
  sync_entered mid new (syncs.NoUpdate counter) is cause = subst (λ (m : CacheShown). DrainsAll m new (writes.NoUpdate counter)) is cause
  sync_entered mid new syncs.Cut is cause = subst (λ (m : CacheShown). DrainsAll m new writes.Cut) is cause
  sync_entered mid new syncs.Off is cause = absurd cause.drained
  sync_entered mid new syncs.Fault is cause = subst (λ (m : CacheShown). DrainsAll m new writes.Fault) is cause

  pub tick_entered : (mid new : CacheShown) (out : TickOut) → mid ≡ dropped old → TickCauseOf mid new out → TickCause old new out
  tick_entered mid new ticks.Idle is cause = subst (λ (m : CacheShown). TickCauseOf m new ticks.Idle) is cause
  tick_entered mid new (ticks.Written lba) is cause = subst (λ (m : CacheShown). TickCauseOf m new (ticks.Written lba)) is cause
  tick_entered mid new (ticks.NoSpare lba) is cause = subst (λ (m : CacheShown). TickCauseOf m new (ticks.NoSpare lba)) is cause
  tick_entered mid new (ticks.NoUpdate counter) is cause = subst (λ (m : CacheShown). TickCauseOf m new (ticks.NoUpdate counter)) is cause
  tick_entered mid new ticks.Cut is cause = subst (λ (m : CacheShown). TickCauseOf m new ticks.Cut) is cause
  tick_entered mid new ticks.Off is cause = absurd cause
  tick_entered mid new ticks.Fault is cause = subst (λ (m : CacheShown). TickCauseOf m new ticks.Fault) is cause

  pub tick_unformatted : (new : CacheShown) → EnterRule old new entered.NotFormatted → TickCause old new ticks.Idle
  tick_unformatted new (on, bare, is, none) = record { on = on; none = sym (ap (λ (s : CacheShown). s.pending) is) ∙ none; nothing = is }

-- ---- what a drive stands for that is off, or whose disc is not formatted

module _ (drive : Shown) (before : Standing → Type 0) (shown : (s : Standing) → before s → StandsFor drive s) (p : List (ℕ × List ℕ)) (after : Contents → Type 0)
    (stays : (s : Contents) → StandsCached before p s → after s) where
  -- the disc has no sectors
  pub no_disc : ¬ IsFormatted drive → (v : Values) → StandsCached before p (Has v) → v.disc ≡ []
  no_disc not v (d, so, under) =
      let long = long_by drive.shape (cells_in drive) drive.lists drive.buffer d ((shown (On d) so).2) in
      let none = none_count drive.shape drive.lists not in
      let same = under.taken.as_long in
      empty v.disc (omega (arith, long, none, same))

  module _ (off : ¬ IsOn drive) where
    pub read_off : (s : Contents) (lba n : ℕ) (into : List ℕ) → StandsCached before p s → ReadContents after s lba n into reads.Off
    read_off (Has v) lba n into (d, so, under) = off ((shown (On d) so).1)
    read_off (MayHave all) lba n into so = stays (MayHave all) so

    pub sync_off : (new : CacheShown) (s : Contents) → StandsCached before p s → SyncContents new after s syncs.Off
    sync_off new (Has v) (d, so, under) = off ((shown (On d) so).1)
    sync_off new (MayHave all) so = stays (MayHave all) so

    pub tick_off : (s : Contents) → StandsCached before p s → TickContents after s ticks.Off
    tick_off (Has v) (d, so, under) = off ((shown (On d) so).1)
    tick_off (MayHave all) so = stays (MayHave all) so

  module _ (on : IsOn drive) (not : ¬ IsFormatted drive) where
    pub read_bare : (s : Contents) (lba n : ℕ) (into : List ℕ) → StandsCached before p s → ReadContents after s lba n into reads.NotFormatted
    read_bare (Has v) lba n into so = (no_disc not v so, stays (Has v) so)
    read_bare (MayHave all) lba n into (ds, so, taken) = absurd ((shown (Off ds) so).1 on)

    pub sync_bare : (new : CacheShown) (s : Contents) → StandsCached before p s → SyncContents new after s syncs.NotFormatted
    sync_bare new (Has v) so = (no_disc not v so, stays (Has v) so)
    sync_bare new (MayHave all) (ds, so, taken) = absurd ((shown (Off ds) so).1 on)

    pub tick_bare : (s : Contents) → StandsCached before p s → TickContents after s ticks.Idle
    tick_bare (Has v) so = stays (Has v) so
    tick_bare (MayHave all) (ds, so, taken) = absurd ((shown (Off ds) so).1 on)
