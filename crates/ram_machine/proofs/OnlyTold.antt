-- A line that was only told that it is not done changes nothing on the disc, and nothing that the drive stands for.
use Rattle.std.specs.Prelude.{◌&&◌, not, ◌≡◌, ℕ, ◌==◌, Bool, true, false, IsTrue, MatchBool, Option, Some, None, Result, Ok, Err, List, [], ◌∷◌}
use Rattle.std.specs.List.{Contains}
use Rattle.std.proofs.Common.{arith, refl, ap, inl, inr, subst}
use Rattle.std.proofs.lemmas.Bool.{false≢true}
use Rattle.model_places.specs.Places.{Lists}
use Rattle.model_sectors.specs.declared.ReadOut.{ReadOut}
use Rattle.model_sectors.specs.declared.ReadOut.TheVariants as reads
use Rattle.model_sectors.specs.declared.PowerOut.{PowerOut}
use Rattle.model_sectors.specs.declared.PowerOut.TheVariants as powers
use Rattle.model_drive.specs.declared.WriteOut.{WriteOut}
use Rattle.model_drive.specs.declared.WriteOut.TheVariants as writes
use Rattle.model_drive.specs.declared.FormatOut.{FormatOut}
use Rattle.model_drive.specs.declared.FormatOut.TheVariants as formats
use Rattle.model_drive.specs.declared.ExpandOut.{ExpandOut}
use Rattle.model_drive.specs.declared.ExpandOut.TheVariants as expands
use Rattle.model_drive.specs.declared.Kind.{Kind}
use Rattle.model_drive.specs.declared.Kind.TheVariants as kinds
use Rattle.model_drive.specs.Shown.{IsOn}
use Rattle.model_drive.specs.Formats.{FormatCauseBy}
use Rattle.model_cache.specs.declared.SyncOut.{SyncOut}
use Rattle.model_cache.specs.declared.SyncOut.TheVariants as syncs
use Rattle.model_cache.specs.declared.TickOut.{TickOut}
use Rattle.model_cache.specs.declared.TickOut.TheVariants as ticks
use Rattle.model_cache.specs.Values.{Contents, Has, MayHave}
use Rattle.model_cache.specs.Shown.{CacheShown, dropped, goes_into_cache}
use Rattle.model_cache.specs.Causes.{CacheReadBy, CacheReadCause, CacheVerifyCause, CachedCause, ThroughCause, CacheFormatCause, CacheExpandCause, SyncCause}
use Rattle.model_cache.specs.Steps.{ReadContents, VerifyContents, CachedContents, ThroughContents, ExpandContents, SyncContents}
use Rattle.model_cache.proofs.Members.{Contains-passed}
use Rattle.model_scrub.specs.declared.ends.StepEnd.{StepEnd}
use Rattle.model_scrub.specs.declared.ends.StepEnd.TheVariants as steps
use Rattle.model_scrub.specs.declared.ends.PassEnd.{PassEnd}
use Rattle.model_scrub.specs.declared.ends.PassEnd.TheVariants as passes
use Rattle.model_sense.specs.declared.sense.Sense.{Sense}
use Rattle.model_sense.specs.declared.answer.Answer.{Answer}
use Rattle.model_sense.specs.declared.answer.Answer.TheVariants as answers
use Rattle.model_cdb.specs.declared.commands.Command.{Command}
use Rattle.model_cdb.specs.declared.commands.Command.TheVariants as commands
use Rattle.model_target.specs.declared.host.Host.{Host}
use Rattle.model_modes.specs.ParameterLists.{caches_after}
use Rattle.model_target.proofs.Settling.{Settles, started, selected}
use Rattle.model_target.specs.Steps.{settle_answer, WrittenCause, WrittenContents, Untouched, TellsStructure, TellsSpares, IsDone, IsAnsweredBy, IsStep as ExecutesTo, read_answer, write_answer, format_answer, expand_answer, sync_answer}
use Rattle.ram_medium.specs.declared.control.FailEnd.{FailEnd}
use Rattle.ram_medium.specs.declared.control.FailEnd.TheVariants as fails
use Rattle.ram_medium.specs.declared.control.Arm.{Arm}
use Rattle.ram_medium.specs.declared.control.Arm.TheVariants as arming
use Rattle.ram_report.specs.declared.printing.Event.TheVariants as events
use Rattle.ram_text.specs.declared.script.Line.{Line}
use Rattle.ram_text.specs.declared.script.Line.TheVariants as lines
use Rattle.ram_machine.specs.declared.reply.Reply.{Reply}
use Rattle.ram_machine.specs.declared.reply.Reply.TheVariants as replies
use Rattle.ram_machine.specs.declared.stopped.Stopped.TheVariants as stopped
use Rattle.ram_machine.specs.Replies.{Outcome, event, power_outcome, fail_outcome, wear_outcome, tick_outcome, step_outcome, pass_outcome, command_outcome}
use Rattle.ram_machine.specs.States.{State, Unopened, Disc, kind_of}
use Rattle.model_geometry.specs.Geometry.{Shape, shape_in}
use Rattle.ram_machine.specs.LineSteps.{PressStep, DiscRule, OnDisc, Step}
use Rattle.ram_machine.specs.OnlyTold.{tells_only, was_only_told, WasOnlyTold}

-- What it leaves: the disc, and what the drive stands for, are as they were, and nothing is pending that was not.
pub record IsUnchanged (old new : CacheShown) (s t : Contents) : Type 0 where
  pub same_drive : new.drive ≡ old.drive
  pub same_contents : s ≡ t
  pub pending : (i : ℕ) (bytes : List ℕ) → Contains new.pending (i, bytes) → Contains old.pending (i, bytes)

abbrev pub IsUnchangedIn : State → State → Type 0
IsUnchangedIn (Unopened image) t = t ≡ Unopened image
IsUnchangedIn (Disc s) (Unopened image) = ⊥
IsUnchangedIn (Disc s) (Disc t) = IsUnchanged s.disc.shown t.disc.shown s.disc.contents t.disc.contents

-- what a drive shows that drops the pending blocks that the disc has not
pub still_pending : (shown : CacheShown) (i : ℕ) (bytes : List ℕ) → Contains (dropped shown).pending (i, bytes) → Contains shown.pending (i, bytes)
still_pending shown i bytes has = (Contains-passed {X = ℕ × List ℕ} _ shown.pending (i, bytes) has).1

none_pending : (pending was : List (ℕ × List ℕ)) → pending ≡ [] → (i : ℕ) (bytes : List ℕ) → Contains pending (i, bytes) → Contains was (i, bytes)
none_pending pending was none i bytes has = absurd (let there = subst (λ (p : List (ℕ × List ℕ)). Contains p (i, bytes)) none has in omega (arith, there.1))

module _ (old new : CacheShown) (s t : Contents) where
  unchanged : new ≡ old → s ≡ t → IsUnchanged old new s t
  unchanged is same = record {
    same_drive = ap (λ (x : CacheShown). x.drive) is;
    same_contents = same;
    pending = λ i bytes has. subst (λ (x : CacheShown). Contains x.pending (i, bytes)) is has;
  }

  unchanged_but : new ≡ dropped old → s ≡ t → IsUnchanged old new s t
  unchanged_but is same = record {
    same_drive = ap (λ (x : CacheShown). x.drive) is;
    same_contents = same;
    pending = λ i bytes has. still_pending old i bytes (subst (λ (x : CacheShown). Contains x.pending (i, bytes)) is has);
  }

  untouched : Untouched old new (λ x. x ≡ s) (λ x. x ≡ t) → IsUnchanged old new s t
  untouched p = unchanged p.same (p.stands s refl)

  -- ---- a read

  module _ (lba n : ℕ) (same : s ≡ t) where
    emptied : new.drive ≡ old.drive → new.pending ≡ [] → IsUnchanged old new s t
    emptied is none = record { same_drive = is; same_contents = same; pending = none_pending new.pending old.pending none }

    bare_read : (pending : List (ℕ × List ℕ)) → CacheReadBy pending (dropped old) new lba n reads.NotFormatted → IsUnchanged old new s t
    bare_read [] p = emptied p.0.cause.nothing p.1.0
    bare_read (held ∷ pending) p = absurd p

    far_read : (known : ℕ) (pending : List (ℕ × List ℕ)) → CacheReadBy pending (dropped old) new lba n (reads.Range known) → IsUnchanged old new s t
    far_read known [] p = emptied p.0.cause.nothing p.1.0
    far_read known (held ∷ pending) p = record {
      same_drive = ap (λ (x : CacheShown). x.drive) p.nothing;
      same_contents = same;
      pending = λ i bytes has. still_pending old i bytes (still_pending (dropped old) i bytes (subst (λ (x : CacheShown). Contains x.pending (i, bytes)) p.nothing has));
    }

    far_write : new ≡ dropped (dropped old) → IsUnchanged old new s t
    far_write is = record {
      same_drive = ap (λ (x : CacheShown). x.drive) is;
      same_contents = same;
      pending = λ i bytes has. still_pending old i bytes (still_pending (dropped old) i bytes (subst (λ (x : CacheShown). Contains x.pending (i, bytes)) is has));
    }

    read_same : (out : ReadOut) → IsTrue (tells_only (read_answer out)) → CacheReadCause old new lba n out → IsUnchanged old new s t
    read_same reads.Good told cause = absurd (false≢true told)
    read_same reads.NotFormatted told cause = bare_read (dropped old).pending cause
    read_same (reads.Range known) told cause = far_read known (dropped old).pending cause
    read_same (reads.Unread named block) told cause = absurd (false≢true told)
    read_same reads.Cut told cause = absurd (false≢true told)
    read_same reads.Off told cause = unchanged cause.nothing same
    read_same reads.Fault told cause = absurd (false≢true told)

    -- a verification leaves the cache
    left_pending : new.pending ≡ old.pending → (i : ℕ) (bytes : List ℕ) → Contains new.pending (i, bytes) → Contains old.pending (i, bytes)
    left_pending is i bytes has = subst (λ (p : List (ℕ × List ℕ)). Contains p (i, bytes)) is has

    kept : new.drive ≡ old.drive → new.pending ≡ old.pending → IsUnchanged old new s t
    kept is pending = record { same_drive = is; same_contents = same; pending = left_pending pending }

    verify_same : (out : ReadOut) → IsTrue (tells_only (read_answer out)) → CacheVerifyCause old new lba n out → IsUnchanged old new s t
    verify_same reads.Good told cause = absurd (false≢true told)
    verify_same reads.NotFormatted told cause = kept cause.0.nothing cause.1
    verify_same (reads.Range known) told cause = kept cause.0.nothing cause.1
    verify_same (reads.Unread named block) told cause = absurd (false≢true told)
    verify_same reads.Cut told cause = absurd (false≢true told)
    verify_same reads.Off told cause = kept cause.0.nothing cause.1
    verify_same reads.Fault told cause = absurd (false≢true told)

    -- ---- a write

    through_same : (out : WriteOut) → IsTrue (tells_only (write_answer out)) → ThroughCause old new lba n out → IsUnchanged old new s t
    through_same writes.Good told cause = absurd (false≢true told)
    through_same writes.NotFormatted told cause = unchanged_but cause.nothing same
    through_same (writes.Range known) told cause = far_write cause.nothing
    through_same (writes.Unread named block) told cause = absurd (false≢true told)
    through_same (writes.NoSpare named) told cause = absurd (false≢true told)
    through_same (writes.NoUpdate counter) told cause = absurd (false≢true told)
    through_same writes.Cut told cause = absurd (false≢true told)
    through_same writes.Off told cause = unchanged cause.nothing same
    through_same writes.Fault told cause = absurd (false≢true told)

    cached_same : (payload : List ℕ) (out : WriteOut) → IsTrue (tells_only (write_answer out)) → CachedCause old new lba n payload out → IsUnchanged old new s t
    cached_same payload writes.Good told cause = absurd (false≢true told)
    cached_same payload writes.NotFormatted told cause = unchanged_but cause.nothing same
    cached_same payload (writes.Range known) told cause = far_write cause.nothing
    cached_same payload (writes.Unread named block) told cause = absurd (false≢true told)
    cached_same payload (writes.NoSpare named) told cause = absurd (false≢true told)
    cached_same payload (writes.NoUpdate counter) told cause = absurd (false≢true told)
    cached_same payload writes.Cut told cause = absurd (false≢true told)
    cached_same payload writes.Off told cause = unchanged cause.nothing same
    cached_same payload writes.Fault told cause = absurd (false≢true told)

    by_same : (into_cache : Bool) (payload : List ℕ) (out : WriteOut) → IsTrue (tells_only (write_answer out)) → MatchBool into_cache (CachedCause old new lba n payload out) (ThroughCause old new lba n out) → IsUnchanged old new s t
    by_same true payload out told cause = cached_same payload out told cause
    by_same false payload out told cause = through_same out told cause

    write_same : (fua : Bool) (payload : List ℕ) (out : WriteOut) → IsTrue (tells_only (write_answer out)) → WrittenCause old new lba n payload fua out → IsUnchanged old new s t
    write_same true payload out told cause = through_same out told cause
    write_same false payload out told cause = by_same (goes_into_cache old lba n) payload out told cause

  -- ---- the other calls

  sync_same : s ≡ t → (out : SyncOut) → IsTrue (tells_only (sync_answer out)) → SyncCause old new out → IsUnchanged old new s t
  sync_same same syncs.Good told cause = absurd (false≢true told)
  sync_same same syncs.NotFormatted told cause = unchanged_but cause.nothing same
  sync_same same (syncs.NoSpare lba) told cause = absurd (false≢true told)
  sync_same same (syncs.NoUpdate counter) told cause = absurd (false≢true told)
  sync_same same syncs.Cut told cause = absurd (false≢true told)
  sync_same same syncs.Off told cause = unchanged cause.nothing same
  sync_same same syncs.Fault told cause = absurd (false≢true told)

  expand_same : s ≡ t → (sectors : ℕ) (out : ExpandOut) → IsTrue (tells_only (expand_answer out)) → CacheExpandCause old new sectors out → IsUnchanged old new s t
  expand_same same sectors expands.Good told cause = absurd (false≢true told)
  expand_same same sectors expands.NotFormatted told cause = kept 0 0 same cause.0.nothing cause.1
  expand_same same sectors (expands.Refused known) told cause = kept 0 0 same cause.0.nothing cause.1
  expand_same same sectors (expands.NoUpdate counter) told cause = absurd (false≢true told)
  expand_same same sectors expands.Cut told cause = absurd (false≢true told)
  expand_same same sectors expands.Off told cause = kept 0 0 same cause.0.nothing cause.1
  expand_same same sectors expands.Fault told cause = absurd (false≢true told)

  -- while the power is on a format is not told that it is off
  format_on : IsOn old.drive → (lists : Option Lists) (kind : Kind) → FormatCauseBy old.drive new.drive lists kind formats.Off → ⊥
  format_on on lists (kinds.Full drop_sdl) cause = cause.off on
  format_on on None kinds.Rewrite cause = cause.off on
  format_on on (Some lists) kinds.Rewrite cause = cause.off on

  format_told : IsOn old.drive → (kind : Kind) (out : FormatOut) → IsTrue (tells_only (format_answer out)) → CacheFormatCause old new kind out → IsUnchanged old new s t
  format_told on kind formats.Good told cause = absurd (false≢true told)
  format_told on kind (formats.TooMany found) told cause = absurd (false≢true told)
  format_told on kind (formats.NoUpdate counter) told cause = absurd (false≢true told)
  format_told on kind formats.Cut told cause = absurd (false≢true told)
  format_told on kind formats.Off told cause = absurd (format_on on old.drive.lists kind cause.0)
  format_told on kind formats.Fault told cause = absurd (false≢true told)

-- ---- what the drive stands for stays

module _ (t : Contents) where
  read_stands : (s : Contents) (lba n : ℕ) (into : List ℕ) (out : ReadOut) → IsTrue (tells_only (read_answer out)) → ReadContents (λ x. x ≡ t) s lba n into out → s ≡ t
  read_stands (Has v) lba n into reads.Good told step = absurd (false≢true told)
  read_stands (Has v) lba n into reads.NotFormatted told step = step.1
  read_stands (Has v) lba n into (reads.Range known) told step = step
  read_stands (Has v) lba n into (reads.Unread named block) told step = absurd (false≢true told)
  read_stands (Has v) lba n into reads.Cut told step = absurd (false≢true told)
  read_stands (Has v) lba n into reads.Off told step = absurd step
  read_stands (Has v) lba n into reads.Fault told step = absurd (false≢true told)
  read_stands (MayHave all) lba n into reads.Off told step = step
  read_stands (MayHave all) lba n into out told step = absurd step

  verify_stands : (s : Contents) (out : ReadOut) → IsTrue (tells_only (read_answer out)) → VerifyContents (λ x. x ≡ t) s out → s ≡ t
  verify_stands (Has v) reads.Good told step = absurd (false≢true told)
  verify_stands (Has v) reads.NotFormatted told step = step
  verify_stands (Has v) (reads.Range known) told step = step
  verify_stands (Has v) (reads.Unread named block) told step = absurd (false≢true told)
  verify_stands (Has v) reads.Cut told step = absurd (false≢true told)
  verify_stands (Has v) reads.Off told step = absurd step
  verify_stands (Has v) reads.Fault told step = absurd (false≢true told)
  verify_stands (MayHave all) reads.Off told step = step
  verify_stands (MayHave all) out told step = absurd step

  sync_stands : (new : CacheShown) (s : Contents) (out : SyncOut) → IsTrue (tells_only (sync_answer out)) → SyncContents new (λ x. x ≡ t) s out → s ≡ t
  sync_stands new (Has v) syncs.Good told step = absurd (false≢true told)
  sync_stands new (Has v) syncs.NotFormatted told step = step.1
  sync_stands new (Has v) (syncs.NoSpare lba) told step = absurd (false≢true told)
  sync_stands new (Has v) (syncs.NoUpdate counter) told step = absurd (false≢true told)
  sync_stands new (Has v) syncs.Cut told step = absurd (false≢true told)
  sync_stands new (Has v) syncs.Off told step = absurd step
  sync_stands new (Has v) syncs.Fault told step = absurd (false≢true told)
  sync_stands new (MayHave all) syncs.Off told step = step
  sync_stands new (MayHave all) out told step = absurd step

  expand_stands : (s : Contents) (sectors : ℕ) (out : ExpandOut) → IsTrue (tells_only (expand_answer out)) → ExpandContents (λ x. x ≡ t) s sectors out → s ≡ t
  expand_stands (Has v) sectors expands.Good told step = absurd (false≢true told)
  expand_stands (Has v) sectors expands.NotFormatted told step = step.1
  expand_stands (Has v) sectors (expands.Refused known) told step = step
  expand_stands (Has v) sectors (expands.NoUpdate counter) told step = absurd (false≢true told)
  expand_stands (Has v) sectors expands.Cut told step = absurd (false≢true told)
  expand_stands (Has v) sectors expands.Off told step = absurd step
  expand_stands (Has v) sectors expands.Fault told step = absurd (false≢true told)
  expand_stands (MayHave all) sectors expands.Off told step = step
  expand_stands (MayHave all) sectors out told step = absurd step

  module _ (old new : CacheShown) (lba n : ℕ) (payload : List ℕ) where
    through_stands : (s : Contents) (out : WriteOut) → IsTrue (tells_only (write_answer out)) → ThroughContents old new (λ x. x ≡ t) s lba n payload out → s ≡ t
    through_stands (Has v) writes.Good told step = absurd (false≢true told)
    through_stands (Has v) writes.NotFormatted told step = step.1
    through_stands (Has v) (writes.Range known) told step = step
    through_stands (Has v) (writes.Unread named block) told step = absurd (false≢true told)
    through_stands (Has v) (writes.NoSpare named) told step = absurd (false≢true told)
    through_stands (Has v) (writes.NoUpdate counter) told step = absurd (false≢true told)
    through_stands (Has v) writes.Cut told step = absurd (false≢true told)
    through_stands (Has v) writes.Off told step = absurd step
    through_stands (Has v) writes.Fault told step = absurd (false≢true told)
    through_stands (MayHave all) writes.Off told step = step
    through_stands (MayHave all) out told step = absurd step

    cached_stands : (s : Contents) (out : WriteOut) → IsTrue (tells_only (write_answer out)) → CachedContents (λ x. x ≡ t) s lba n payload out → s ≡ t
    cached_stands (Has v) writes.Good told step = absurd (false≢true told)
    cached_stands (Has v) writes.NotFormatted told step = step.1
    cached_stands (Has v) (writes.Range known) told step = step
    cached_stands (Has v) (writes.Unread named block) told step = absurd (false≢true told)
    cached_stands (Has v) (writes.NoSpare named) told step = absurd (false≢true told)
    cached_stands (Has v) (writes.NoUpdate counter) told step = absurd (false≢true told)
    cached_stands (Has v) writes.Cut told step = absurd (false≢true told)
    cached_stands (Has v) writes.Off told step = absurd step
    cached_stands (Has v) writes.Fault told step = absurd (false≢true told)
    cached_stands (MayHave all) writes.Off told step = step
    cached_stands (MayHave all) out told step = absurd step

    by_stands : (into_cache : Bool) (s : Contents) (out : WriteOut) → IsTrue (tells_only (write_answer out))
        → MatchBool into_cache (CachedContents (λ x. x ≡ t) s lba n payload out) (ThroughContents old new (λ x. x ≡ t) s lba n payload out) → s ≡ t
    by_stands true s out told step = cached_stands s out told step
    by_stands false s out told step = through_stands s out told step

    write_stands : (fua : Bool) (s : Contents) (out : WriteOut) → IsTrue (tells_only (write_answer out)) → WrittenContents old new lba n payload (λ x. x ≡ t) s fua out → s ≡ t
    write_stands true s out told step = through_stands s out told step
    write_stands false s out told step = by_stands (goes_into_cache old lba n) s out told step

-- ---- a command

module _ (old new : CacheShown) (s t : Contents) where
  structure_same : (structure : Bool) (alloc : ℕ) (answer : Answer) (data_in : List ℕ)
      → MatchBool structure (TellsStructure old new (λ x. x ≡ s) (λ x. x ≡ t) alloc answer data_in) (TellsSpares old new (λ x. x ≡ s) (λ x. x ≡ t) alloc answer data_in) → IsUnchanged old new s t
  structure_same true alloc answer data_in p = untouched old new s t p.is_answered.untouched
  structure_same false alloc answer data_in p = untouched old new s t p.untouched

  -- while the power is on an ejection is good, or a block could not be written
  settle_tells : IsOn old.drive → (mid : CacheShown) (out : SyncOut) → SyncCause old mid out → ¬ IsTrue (tells_only (settle_answer out))
  settle_tells on mid syncs.Off cause told = cause.off on
  settle_tells on mid out cause told = false≢true told

  settles_tells : IsOn old.drive → (answer : Answer) (data_in : List ℕ) → Settles old new (λ x. x ≡ s) (λ x. x ≡ t) answer data_in → ¬ IsTrue (tells_only answer)
  settles_tells on answer data_in p told = settle_tells on p.mid p.out p.cause (subst (λ (a : Answer). IsTrue (tells_only a)) p.answer_is told)

  done_same : IsOn old.drive → (host : Host) (payload : List ℕ) (command : Command) (answer : Answer) (data_in : List ℕ) → IsTrue (tells_only answer)
      → IsDone old new (λ x. x ≡ s) (λ x. x ≡ t) host payload command answer data_in → IsUnchanged old new s t
  done_same on host payload (commands.Format kind) answer data_in told p = format_told old new s t on kind p.out (subst (λ (a : Answer). IsTrue (tells_only a)) p.answer_is told) p.cause
  done_same on host payload (commands.Expand sectors) answer data_in told p =
      let now = subst (λ (a : Answer). IsTrue (tells_only a)) p.answer_is told in
      expand_same old new s t (expand_stands t s sectors p.out now (p.step s refl)) sectors p.out now p.cause
  done_same on host payload (commands.Read lba n) answer data_in told p =
      let now = subst (λ (a : Answer). IsTrue (tells_only a)) p.answer_is told in
      read_same old new s t lba n (read_stands t s lba n p.bytes p.out now (p.step s refl)) p.out now p.cause
  done_same on host payload (commands.Write lba n fua) answer data_in told p =
      let now = subst (λ (a : Answer). IsTrue (tells_only a)) p.answer_is told in
      write_same old new s t lba n (write_stands t old new lba n payload fua s p.out now (p.step s refl)) fua payload p.out now p.cause
  done_same on host payload (commands.Verify lba n) answer data_in told p =
      let now = subst (λ (a : Answer). IsTrue (tells_only a)) p.answer_is told in
      verify_same old new s t lba n (verify_stands t s p.out now (p.step s refl)) p.out now p.cause
  done_same on host payload commands.Synchronize answer data_in told p =
      let now = subst (λ (a : Answer). IsTrue (tells_only a)) p.answer_is told in
      sync_same old new s t (sync_stands t new s p.out now (p.step s refl)) p.out now p.cause
  done_same on host payload (commands.StartStop start eject) answer data_in told p =
      elim (started old new (λ x. x ≡ s) (λ x. x ≡ t) (eject && not start) answer data_in p) [ inl settles ↦ absurd (settles_tells on answer data_in settles told) | inr q ↦ untouched old new s t q.untouched ]
  done_same on host payload commands.ModeSelect answer data_in told p =
      elim (selected old new (λ x. x ≡ s) (λ x. x ≡ t) (old.caches && not (caches_after payload old.caches)) payload answer data_in p) [
        | inl settles ↦ absurd (settles_tells on answer data_in settles told)
        | inr q ↦ absurd (false≢true (subst (λ (a : Answer). IsTrue (tells_only a)) q.answer_is told))
      ]
  done_same on host payload (commands.Structure format alloc) answer data_in told p = structure_same (format == 0x08) alloc answer data_in p
  done_same on host payload command answer data_in told p = untouched old new s t p.untouched

  judged_same : IsOn old.drive → (host : Host) (payload : List ℕ) (judged : Result Command Sense) (answer : Answer) (data_in : List ℕ) → IsTrue (tells_only answer)
      → IsAnsweredBy old new (λ x. x ≡ s) (λ x. x ≡ t) host payload judged answer data_in → IsUnchanged old new s t
  judged_same on host payload (Err why) answer data_in told p = untouched old new s t p.untouched
  judged_same on host payload (Ok command) answer data_in told p = done_same on host payload command answer data_in told p

  command_same : (host later : Host) (cdb payload : List ℕ) (answer : Answer) (data_in : List ℕ) → IsTrue (tells_only answer)
      → ExecutesTo old new (λ x. x ≡ s) (λ x. x ≡ t) host later cdb payload answer data_in → IsUnchanged old new s t
  command_same host later cdb payload answer data_in told (inl off) = untouched old new s t off.1.is_answered.untouched
  command_same host later cdb payload answer data_in told (inr on) = judged_same on.0 host payload on.1.judged answer data_in told on.1.is_answered

-- ---- a line: no other than a command is answered so

abbrev tells : Outcome → Bool
tells (Ok reply) = was_only_told reply
tells (Err why) = false

power_tells : (out : PowerOut) → IsTrue (tells (power_outcome out)) → ⊥
power_tells (powers.Ready capacity) told = false≢true told
power_tells out told = false≢true told

fail_tells : (end : FailEnd) → IsTrue (tells (fail_outcome end)) → ⊥
fail_tells fails.Done told = false≢true told
fail_tells end told = false≢true told

wear_tells : (end : Arm) → IsTrue (tells (wear_outcome end)) → ⊥
wear_tells arming.Set told = false≢true told
wear_tells end told = false≢true told

tick_tells : (out : TickOut) → IsTrue (tells (tick_outcome out)) → ⊥
tick_tells ticks.Idle told = false≢true told
tick_tells out told = false≢true told

step_tells : (end : StepEnd) → IsTrue (tells (step_outcome end)) → ⊥
step_tells steps.NotFormatted told = false≢true told
step_tells end told = false≢true told

pass_tells : (end : PassEnd) (count : ℕ) → IsTrue (tells (pass_outcome end count)) → ⊥
pass_tells passes.Done count told = false≢true told
pass_tells end count told = false≢true told

answer_tells : (cdb : List ℕ) (answer : Answer) → IsTrue (tells (command_outcome cdb answer)) → IsTrue (tells_only answer)
answer_tells cdb answers.Good told = told
answer_tells cdb (answers.Check why) told = told
answer_tells cdb answers.Cut told = told
answer_tells cdb answers.Off told = told
answer_tells cdb answers.Fault told = told

along : (one other : Outcome) → one ≡ other → IsTrue (tells one) → IsTrue (tells other)
along one other is told = subst (λ (o : Outcome). IsTrue (tells o)) is told

rule_same : (old new : CacheShown) (s t : Contents) (host later : Host) (line : Line) (payload : List ℕ) (outcome : Outcome) (data_in : List ℕ) → IsTrue (tells outcome)
    → DiscRule old new (λ x. x ≡ s) (λ x. x ≡ t) host later line payload outcome data_in → IsUnchanged old new s t
rule_same old new s t host later lines.Power payload outcome data_in told p = absurd (power_tells p.0.out (along outcome (power_outcome p.0.out) p.0.outcome_is told))
rule_same old new s t host later (lines.Fail block) payload outcome data_in told p = absurd (fail_tells p.0.end (along outcome (fail_outcome p.0.end) p.0.outcome_is told))
rule_same old new s t host later (lines.Wear block n) payload outcome data_in told p = absurd (wear_tells p.0.end (along outcome (wear_outcome p.0.end) p.0.outcome_is told))
rule_same old new s t host later (lines.Cut n fate) payload outcome data_in told p = absurd (false≢true (along outcome (event events.Armed) p.0.outcome_is told))
rule_same old new s t host later lines.Tick payload outcome data_in told p = absurd (tick_tells p.0.out (along outcome (tick_outcome p.0.out) p.0.outcome_is told))
rule_same old new s t host later (lines.Scrub false) payload outcome data_in told p = absurd (step_tells p.end (along outcome (step_outcome p.end) p.outcome_is told))
rule_same old new s t host later (lines.Scrub true) payload outcome data_in told p = absurd (pass_tells p.end _ (along outcome _ p.outcome_is told))
rule_same old new s t host later (lines.Command cdb) payload outcome data_in told p =
    command_same old new s t host later cdb payload p.answer data_in (answer_tells cdb p.answer (along outcome (command_outcome cdb p.answer) p.outcome_is told)) p.step
rule_same old new s t host later line payload outcome data_in told p = absurd p

on_disc_same : (s t : State) (line : Line) (payload data_in : List ℕ) (reply : Reply) → OnDisc s line payload (Ok reply) data_in t → WasOnlyTold reply → IsUnchangedIn s t
on_disc_same (Unopened image) t line payload data_in reply step told = absurd (let none : Ok reply ≡ Err stopped.NotADisc = step.0 in cc)
on_disc_same (Disc s) (Unopened image) line payload data_in reply step told = absurd step
on_disc_same (Disc s) (Disc t) line payload data_in reply step told =
    rule_same s.disc.shown t.disc.shown s.disc.contents t.disc.contents s.host t.host line payload (Ok reply) data_in told step.rule

press_tells : (s t : State) (shape : Shape) (reply : Reply) → PressStep s shape (Ok reply) t → WasOnlyTold reply → ⊥
press_tells s t shape replies.Nothing step told = false≢true told
press_tells s t shape (replies.Event answer) step told = false≢true told
press_tells s t shape (replies.Command cdb answer) step told = step

pub told_same : (s t : State) (line : Line) (payload data_in : List ℕ) (reply : Reply) → Step s line payload (Ok reply) data_in t → WasOnlyTold reply → IsUnchangedIn s t
told_same s t lines.Empty payload data_in reply step told = absurd (false≢true (along (Ok reply) (Ok replies.Nothing) step.0 told))
told_same s t (lines.Press zones scale psa) payload data_in reply step told = absurd (press_tells s t (shape_in (kind_of s) zones scale psa) reply step.0 told)
told_same s t line payload data_in reply step told = on_disc_same s t line payload data_in reply step told
