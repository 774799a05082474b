-- Nothing is pending while the write cache is off, or the disc is out: over each call and each line.
use Rattle.std.specs.Prelude.{◌≡◌, ◌⊎◌, ◌&&◌, ◌==◌, ◌<◌, not, ℕ, nat_lt, if◌then◌else◌, Bool, true, false, MatchBool, is_some, IsSome, Option, Some, None, Result, Ok, Err, List, [], ◌∷◌, length}
use Rattle.std.specs.Option.{option_map_or}
use Rattle.std.specs.List.{Contains, find}
use Rattle.std.proofs.Common.{arith, refl, sym, ap, ◌∙◌, inl, inr, subst}
use Rattle.std.proofs.lemmas.Bool.{ltb-true}
use Rattle.model_geometry.specs.Geometry.{Shape, shape_in}
use Rattle.model_sectors.specs.declared.ReadOut.{ReadOut}
use Rattle.model_sectors.specs.declared.ReadOut.TheVariants as reads
use Rattle.model_places.specs.Places.{Lists, logical_count}
use Rattle.model_drive.specs.declared.WriteOut.{WriteOut}
use Rattle.model_drive.specs.declared.WriteOut.TheVariants as writes
use Rattle.model_drive.specs.declared.FormatOut.{FormatOut}
use Rattle.model_drive.specs.declared.ExpandOut.{ExpandOut}
use Rattle.model_drive.specs.declared.Kind.{Kind}
use Rattle.model_drive.specs.Shown.{Shown, block_count}
use Rattle.model_cache.specs.declared.SyncOut.{SyncOut}
use Rattle.model_cache.specs.declared.SyncOut.TheVariants as syncs
use Rattle.model_cache.specs.declared.TickOut.{TickOut}
use Rattle.model_cache.specs.declared.TickOut.TheVariants as ticks
use Rattle.model_cache.specs.Values.{Contents, IsPending}
use Rattle.model_cache.specs.Shown.{CacheShown, pending_below}
use Rattle.model_cache.specs.Plain.{uncached}
use Rattle.model_cache.specs.Causes.{CacheReadCause, CacheVerifyCause, CacheWriteCause, CacheFormatCause, CacheExpandCause, KeepsCache, SyncCause, TickCause, leaves_after_read}
use Rattle.model_cache.proofs.Members.{Contains-first, Contains-passed}
use Rattle.model_cache.proofs.Plainly.{is_uncached, none_drained, plain_read_cause, plain_verify_cause, plain_write_cause, plain_format_cause, plain_expand_cause}
use Rattle.model_scrub.proofs.Chained.{HoldsOfVerifications, of_step, of_pass}
use Rattle.model_commands.specs.declared.Operation.{Operation}
use Rattle.model_commands.specs.Commands.{operation_of}
use Rattle.model_modes.specs.ParameterLists.{caches_after}
use Rattle.model_sense.specs.Sense.{sense}
use Rattle.model_sense.specs.declared.sense.Sense.{Sense}
use Rattle.model_sense.specs.declared.answer.Answer.{Answer}
use Rattle.model_sense.specs.declared.answer.Answer.TheVariants as answers
use Rattle.model_cdb.specs.declared.commands.Command.{Command}
use Rattle.model_cdb.specs.declared.commands.Command.TheVariants as commands
use Rattle.model_cdb.specs.Decoding.{refusal, unless}
use Rattle.model_target.specs.declared.host.Host.{Host}
use Rattle.model_target.specs.Host.{is_good, done_by}
use Rattle.model_target.specs.Judging.{needs_disc, needs_format, IsAllowed, IsJudgedBy, IsJudged, asked}
use Rattle.model_target.specs.Steps.{settle_answer, host_after, IsAnswered, IsSettled, TurnsOff, SetsCache, TellsStructure, TellsSpares, IsDone, IsAnsweredBy, IsStep as ExecutesTo, WrittenCause}
use Rattle.ram_text.specs.declared.script.Line.{Line}
use Rattle.ram_text.specs.declared.script.Line.TheVariants as lines
use Rattle.ram_report.specs.declared.printing.Event.TheVariants as events
use Rattle.ram_machine.specs.declared.reply.Reply.TheVariants as replies
use Rattle.ram_machine.specs.declared.stopped.Stopped.TheVariants as stopped
use Rattle.ram_machine.specs.Replies.{Outcome}
use Rattle.ram_machine.specs.States.{State, Served, Unopened, Disc, kind_of, renewed, IsFirst}
use Rattle.ram_machine.specs.LineSteps.{PressStep, DiscRule, OnDisc, Step}
use Rattle.ram_machine.specs.Runs.{Run}
use Rattle.ram_machine.specs.Answered.{AnsweredStep}
use Rattle.ram_mmc.proofs.Judged.{allowed_holds}
use Rattle.ram_machine.proofs.CacheModes.{read_mode, write_mode, sync_mode, tick_mode}
use Rattle.ram_survival.specs.Idle.{IsCacheIdle, PendsNothingIdle}
use Rattle.ram_survival.proofs.SafeBlocks.{synced_out}

-- ---- synchronisations

no_members : (pending : List (ℕ × List ℕ)) → ((i : ℕ) → ¬ IsPending pending i) → pending ≡ []
no_members [] none = refl
no_members (held ∷ pending) none = absurd (none held.0 (held.1, Contains-first {X = ℕ × List ℕ} held pending))

sync_empties : (old new : CacheShown) → SyncCause old new syncs.Good → new.pending ≡ []
sync_empties old new cause = no_members new.pending (λ i held. synced_out i old new cause held)

-- a disc that is not formatted has no block
no_blocks : (lists : Option Lists) (count : Lists → ℕ) → ¬ IsSome lists → option_map_or count lists 0 ≡ 0
no_blocks None count none = refl
no_blocks (Some lists) count none = absurd (none refl)

below_none : (pending : List (ℕ × List ℕ)) (blocks : ℕ) → blocks ≡ 0 → pending_below blocks pending ≡ []
below_none pending blocks zero_is = no_members (pending_below blocks pending) (λ i held.
    let under = (Contains-passed {X = ℕ × List ℕ} (λ (h : ℕ × List ℕ). nat_lt h.0 blocks) pending (i, held.0) held.1).0 in
    let low : i < blocks = ltb-true i blocks under in
    omega (arith, low, zero_is))

settled_empties : (old new : CacheShown) (out : SyncOut) → settle_answer out ≡ answers.Good → SyncCause old new out → new.pending ≡ []
settled_empties old new syncs.Good good cause = sync_empties old new cause
settled_empties old new syncs.NotFormatted good cause =
    ap (λ (s : CacheShown). s.pending) cause.nothing
    ∙ below_none old.pending (block_count old.drive) (no_blocks old.drive.lists (logical_count old.drive.shape) cause.unformatted)
settled_empties old new (syncs.NoSpare lba) good cause = absurd cc
settled_empties old new (syncs.NoUpdate counter) good cause = absurd cc
settled_empties old new syncs.Cut good cause = absurd cc
settled_empties old new syncs.Off good cause = absurd cc
settled_empties old new syncs.Fault good cause = absurd cc

settles : (out : SyncOut) → (settle_answer out ≡ answers.Good) ⊎ (is_good (settle_answer out) ≡ false)
settles syncs.Good = inl refl
settles syncs.NotFormatted = inl refl
settles (syncs.NoSpare lba) = inr refl
settles (syncs.NoUpdate counter) = inr refl
settles syncs.Cut = inr refl
settles syncs.Off = inr refl
settles syncs.Fault = inr refl

-- ---- calls with nothing pending

abbrev emptied : CacheShown → CacheShown
emptied shown = record { drive = shown.drive; pending = []; caches = shown.caches }

as_empty : (shown : CacheShown) → shown.pending ≡ [] → shown ≡ emptied shown
as_empty shown none = ap (λ (p : List (ℕ × List ℕ)). record { drive = shown.drive; pending = p; caches = shown.caches }) none

pending_of : (a b : CacheShown) → a ≡ b → b.pending ≡ [] → a.pending ≡ []
pending_of a b is none = ap (λ (s : CacheShown). s.pending) is ∙ none

module _ (old new : CacheShown) where
  sync_by : (out : SyncOut) → SyncCause (emptied old) new out → new.pending ≡ []
  sync_by syncs.Good cause = pending_of new (emptied old) (none_drained (emptied old) new writes.Good cause.drained).1 refl
  sync_by syncs.NotFormatted cause = pending_of new (emptied old) cause.nothing refl
  sync_by (syncs.NoSpare lba) cause = pending_of new (emptied old) (none_drained (emptied old) new (writes.NoSpare lba) cause.drained).1 refl
  sync_by (syncs.NoUpdate counter) cause = pending_of new (emptied old) (none_drained (emptied old) new (writes.NoUpdate counter) cause.drained).1 refl
  sync_by syncs.Cut cause = pending_of new (emptied old) (none_drained (emptied old) new writes.Cut cause.drained).1 refl
  sync_by syncs.Off cause = pending_of new (emptied old) cause.nothing refl
  sync_by syncs.Fault cause = pending_of new (emptied old) (none_drained (emptied old) new writes.Fault cause.drained).1 refl

  sync_none : (out : SyncOut) → SyncCause old new out → old.pending ≡ [] → new.pending ≡ []
  sync_none out cause none = sync_by out (subst (λ (s : CacheShown). SyncCause s new out) (as_empty old none) cause)

  no_oldest : (block : ℕ) (rest : List ℕ) → [] ≡ block ∷ rest → ⊥
  no_oldest block rest is = cc

  tick_by : (out : TickOut) → TickCause (emptied old) new out → new.pending ≡ []
  tick_by ticks.Idle cause = pending_of new (emptied old) cause.nothing refl
  tick_by (ticks.Written lba) cause = absurd (no_oldest cause.0.block cause.0.rest cause.0.oldest)
  tick_by (ticks.NoSpare lba) cause = absurd (no_oldest cause.block cause.rest cause.oldest)
  tick_by (ticks.NoUpdate counter) cause = absurd (no_oldest cause.block cause.rest cause.oldest)
  tick_by ticks.Cut cause = absurd (no_oldest cause.block cause.rest cause.oldest)
  tick_by ticks.Off cause = pending_of new (emptied old) cause.nothing refl
  tick_by ticks.Fault cause = absurd (no_oldest cause.block cause.rest cause.oldest)

  tick_none : (out : TickOut) → TickCause old new out → old.pending ≡ [] → new.pending ≡ []
  tick_none out cause none = tick_by out (subst (λ (s : CacheShown). TickCause s new out) (as_empty old none) cause)

-- verifications
record Verified (a b : CacheShown) : Type 0 where
  mode : b.caches ≡ a.caches
  empties : a.pending ≡ [] → b.pending ≡ []

read_leaves : (out : ReadOut) (pending : List (ℕ × List ℕ)) → pending ≡ [] → leaves_after_read out pending ≡ []
read_leaves reads.Good pending none = none
read_leaves reads.NotFormatted pending none = none
read_leaves (reads.Range known) pending none = none
read_leaves (reads.Unread named block) pending none = none
read_leaves reads.Cut pending none = refl
read_leaves reads.Off pending none = none
read_leaves reads.Fault pending none = refl

verified : HoldsOfVerifications (λ faulted a b. Verified a b)
verified = record {
  none = λ s. record { mode = refl; empties = λ none. none };
  join = λ faulted a b c first second. record { mode = second.mode ∙ first.mode; empties = λ none. second.empties (first.empties none) };
  verify = λ a b lba n out cause. record { mode = cause.2; empties = λ none. cause.1 ∙ read_leaves out a.pending none };
}

-- ---- commands

-- the disc is in, where a command is done that needs one
not_out : (prevented out third : Bool) (a b c : Sense) (done asked_for : Command) → out ≡ true
    → Ok done ≡ unless (find (λ r. r.applies) (refusal (prevented && false) a ∷ refusal (out && true) b ∷ refusal third c ∷ [])) asked_for → ⊥
not_out true true third a b c done asked_for out_is is = cc
not_out false true third a b c done asked_for out_is is = cc
not_out prevented false third a b c done asked_for out_is is = cc

module _ (host : Host) (formatted : Bool) (payload : List ℕ) (done : Command) where
  allowed_in : (command : Command) → needs_disc command ≡ true → IsAllowed host formatted payload command (Ok done) → host.out ≡ true → ⊥
  allowed_in commands.TestUnitReady needs allowed out = not_out host.prevented host.out (needs_format commands.TestUnitReady && not formatted) (sense 0x5 0x53 0x02) (sense 0x2 0x3a 0x00) (sense 0x3 0x31 0x00) done commands.TestUnitReady out allowed
  allowed_in (commands.Format kind) needs allowed out = not_out host.prevented host.out (needs_format (commands.Format kind) && not formatted) (sense 0x5 0x53 0x02) (sense 0x2 0x3a 0x00) (sense 0x3 0x31 0x00) done (commands.Format kind) out allowed
  allowed_in (commands.Expand sectors) needs allowed out = not_out host.prevented host.out (needs_format (commands.Expand sectors) && not formatted) (sense 0x5 0x53 0x02) (sense 0x2 0x3a 0x00) (sense 0x3 0x31 0x00) done (commands.Expand sectors) out allowed
  allowed_in commands.ReadCapacity needs allowed out = not_out host.prevented host.out (needs_format commands.ReadCapacity && not formatted) (sense 0x5 0x53 0x02) (sense 0x2 0x3a 0x00) (sense 0x3 0x31 0x00) done commands.ReadCapacity out allowed
  allowed_in (commands.Read lba n) needs allowed out = not_out host.prevented host.out (needs_format (commands.Read lba n) && not formatted) (sense 0x5 0x53 0x02) (sense 0x2 0x3a 0x00) (sense 0x3 0x31 0x00) done (commands.Read lba n) out allowed
  allowed_in (commands.Write lba n fua) needs allowed out = not_out host.prevented host.out (needs_format (commands.Write lba n fua) && not formatted) (sense 0x5 0x53 0x02) (sense 0x2 0x3a 0x00) (sense 0x3 0x31 0x00) done (commands.Write lba n fua) out allowed
  allowed_in (commands.Verify lba n) needs allowed out = not_out host.prevented host.out (needs_format (commands.Verify lba n) && not formatted) (sense 0x5 0x53 0x02) (sense 0x2 0x3a 0x00) (sense 0x3 0x31 0x00) done (commands.Verify lba n) out allowed
  allowed_in commands.Synchronize needs allowed out = not_out host.prevented host.out (needs_format commands.Synchronize && not formatted) (sense 0x5 0x53 0x02) (sense 0x2 0x3a 0x00) (sense 0x3 0x31 0x00) done commands.Synchronize out allowed
  allowed_in (commands.DiscInformation alloc) needs allowed out = not_out host.prevented host.out (needs_format (commands.DiscInformation alloc) && not formatted) (sense 0x5 0x53 0x02) (sense 0x2 0x3a 0x00) (sense 0x3 0x31 0x00) done (commands.DiscInformation alloc) out allowed
  allowed_in (commands.Structure format alloc) needs allowed out = not_out host.prevented host.out (needs_format (commands.Structure format alloc) && not formatted) (sense 0x5 0x53 0x02) (sense 0x2 0x3a 0x00) (sense 0x3 0x31 0x00) done (commands.Structure format alloc) out allowed
  allowed_in (commands.RequestSense alloc) needs allowed out = absurd (let e : false ≡ true = needs in cc)
  allowed_in (commands.Inquiry vital alloc) needs allowed out = absurd (let e : false ≡ true = needs in cc)
  allowed_in (commands.StartStop start eject) needs allowed out = absurd (let e : false ≡ true = needs in cc)
  allowed_in (commands.Prevent on) needs allowed out = absurd (let e : false ≡ true = needs in cc)
  allowed_in (commands.FormatCapacities alloc) needs allowed out = absurd (let e : false ≡ true = needs in cc)
  allowed_in (commands.Configuration rt start alloc) needs allowed out = absurd (let e : false ≡ true = needs in cc)
  allowed_in (commands.Events media alloc) needs allowed out = absurd (let e : false ≡ true = needs in cc)
  allowed_in commands.ModeSelect needs allowed out = absurd (let e : false ≡ true = needs in cc)
  allowed_in (commands.ModeSense short control page alloc) needs allowed out = absurd (let e : false ≡ true = needs in cc)
  allowed_in commands.Streaming needs allowed out = absurd (let e : false ≡ true = needs in cc)

  judged_in : (wanted : Result Command Sense) → needs_disc done ≡ true → IsJudgedBy host formatted payload wanted (Ok done) → host.out ≡ true → ⊥
  judged_in (Err why) needs judged out = (let e : Ok done ≡ Err why = judged in cc)
  judged_in (Ok wanted) needs judged out =
      let is = allowed_holds host formatted payload (λ (c : Command). wanted ≡ c) wanted (Ok done) judged refl in
      allowed_in wanted (ap needs_disc is ∙ needs) judged out

-- either of two that are the same
either : (b : Bool) (x y : Bool) → x ≡ y → (if b then x else y) ≡ y
either true x y same = same
either false x y same = refl

module _ (old new : CacheShown) (before after : Contents → Type 0) (host later : Host) where
  -- nothing is pending, if it was not while the cache was off or the disc out
  abbrev Stays : Type 0
  Stays = (IsCacheIdle old host → old.pending ≡ []) → IsCacheIdle new later → new.pending ≡ []

  was_idle : new.caches ≡ old.caches → later.out ≡ host.out → IsCacheIdle new later → IsCacheIdle old host
  was_idle mode out (inl off) = inl (sym mode ∙ off)
  was_idle mode out (inr gone) = inr (sym out ∙ gone)

  ordinary : new.caches ≡ old.caches → later.out ≡ host.out → (IsCacheIdle old host → old.pending ≡ [] → new.pending ≡ []) → Stays
  ordinary mode out empties was idle = let before_idle = was_idle mode out idle in empties before_idle (was before_idle)

  untouched : later.out ≡ host.out → new ≡ old → Stays
  untouched out same = ordinary (ap (λ (s : CacheShown). s.caches) same) out (λ idle none. pending_of new old same none)

  keeps : later ≡ host → KeepsCache old new → Stays
  keeps same cache = ordinary cache.1 (ap (λ (h : Host). h.out) same) (λ idle none. cache.0 ∙ none)

  -- a command that needs a disc, which is in
  module _ (inside : host.out ≡ true → ⊥) where
    was_off : IsCacheIdle old host → old.pending ≡ [] → old ≡ uncached old.drive
    was_off (inl off) none = is_uncached old none off
    was_off (inr out) none = absurd (inside out)

    read : (lba n : ℕ) (out : ReadOut) → CacheReadCause old new lba n out → IsCacheIdle old host → old.pending ≡ [] → new.pending ≡ []
    read lba n out cause idle none =
        pending_of new (uncached new.drive) (plain_read_cause old.drive new lba n out (subst (λ (s : CacheShown). CacheReadCause s new lba n out) (was_off idle none) cause)).1 refl

    verify : (lba n : ℕ) (out : ReadOut) → CacheVerifyCause old new lba n out → IsCacheIdle old host → old.pending ≡ [] → new.pending ≡ []
    verify lba n out cause idle none =
        pending_of new (uncached new.drive) (plain_verify_cause old.drive new lba n out (subst (λ (s : CacheShown). CacheVerifyCause s new lba n out) (was_off idle none) cause)).1 refl

    write : (lba n : ℕ) (fua : Bool) (bytes : List ℕ) (out : WriteOut) → WrittenCause old new lba n bytes fua out → IsCacheIdle old host → old.pending ≡ [] → new.pending ≡ []
    write lba n fua bytes out cause idle none =
        pending_of new (uncached new.drive) (plain_write_cause old.drive new lba n bytes out (by_fua fua (subst (λ (s : CacheShown). WrittenCause s new lba n bytes fua out) (was_off idle none) cause))).1 refl
      where
        by_fua : (fua : Bool) → WrittenCause (uncached old.drive) new lba n bytes fua out → CacheWriteCause (uncached old.drive) new lba n bytes out
        by_fua true through = through
        by_fua false by_cache = by_cache

    format : (kind : Kind) (out : FormatOut) → CacheFormatCause old new kind out → IsCacheIdle old host → old.pending ≡ [] → new.pending ≡ []
    format kind out cause idle none =
        pending_of new (uncached new.drive) (plain_format_cause old.drive new kind out (subst (λ (s : CacheShown). CacheFormatCause s new kind out) (was_off idle none) cause)).1 refl

    expand : (sectors : ℕ) (out : ExpandOut) → CacheExpandCause old new sectors out → IsCacheIdle old host → old.pending ≡ [] → new.pending ≡ []
    expand sectors out cause idle none =
        pending_of new (uncached new.drive) (plain_expand_cause old.drive new sectors out (subst (λ (s : CacheShown). CacheExpandCause s new sectors out) (was_off idle none) cause)).1 refl

  -- an ejection
  ejected : (answer : Answer) (data_in : List ℕ) → later.out ≡ (if is_good answer then true else host.out) → IsSettled old new before after answer data_in → Stays
  ejected answer data_in out p was idle = elim (settles p.out) [
    | inl good ↦ settled_empties old new p.out good p.cause
    | inr bad ↦ ordinary (sync_mode old new p.out p.cause) (out ∙ ap (λ (b : Bool). if b then true else host.out) (ap is_good p.answer_is ∙ bad)) (λ i none. sync_none old new p.out p.cause none) was idle
  ]

  started_idle : (start eject : Bool) (answer : Answer) (data_in : List ℕ) → later.out ≡ (if is_good answer then (done_by (commands.StartStop start eject) host).out else host.out)
      → MatchBool (eject && not start) (IsSettled old new before after answer data_in) (IsAnswered old new before after answer answers.Good data_in []) → Stays
  started_idle true true answer data_in out p was (inl off) = pending_of new old p.untouched.same (was (inl (ap (λ (s : CacheShown). s.caches) (sym p.untouched.same) ∙ off)))
  started_idle true true answer data_in out p was (inr gone) =
      absurd (let e : true ≡ false = sym gone ∙ out ∙ ap (λ (a : Answer). if is_good a then false else host.out) p.answer_is in cc)
  started_idle false true answer data_in out p was idle = ejected answer data_in out p was idle
  started_idle true false answer data_in out p was idle = untouched (out ∙ either (is_good answer) host.out host.out refl) p.untouched.same was idle
  started_idle false false answer data_in out p was idle = untouched (out ∙ either (is_good answer) host.out host.out refl) p.untouched.same was idle

  -- a list of mode pages
  turned : (good : Bool) (mid : CacheShown) → new ≡ (if good then record mid { caches = false } else mid) → new.pending ≡ mid.pending
  turned true mid is = ap (λ (s : CacheShown). s.pending) is
  turned false mid is = ap (λ (s : CacheShown). s.pending) is

  turns_off : (answer : Answer) (data_in : List ℕ) → later.out ≡ host.out → TurnsOff old new before after answer data_in → Stays
  turns_off answer data_in out p was idle = elim (settles p.out) [
    | inl good ↦ turned (is_good answer) p.mid p.new_is ∙ settled_empties old p.mid p.out good p.cause
    | inr bad ↦
        let same : new ≡ p.mid = p.new_is ∙ ap (λ (b : Bool). if b then record p.mid { caches = false } else p.mid) (ap is_good p.answer_is ∙ bad) in
        ordinary (ap (λ (s : CacheShown). s.caches) same ∙ sync_mode old p.mid p.out p.cause) out (λ i none. pending_of new p.mid same (sync_none old p.mid p.out p.cause none)) was idle
  ]

  set_idle : (was_on now_on : Bool) → (was_on && not now_on) ≡ false → now_on ≡ false → was_on ≡ false
  set_idle true true flag off = absurd (let e : true ≡ false = off in cc)
  set_idle true false flag off = absurd (let e : true ≡ false = flag in cc)
  set_idle false now_on flag off = refl

  selected_idle : (flag : Bool) (payload : List ℕ) (answer : Answer) (data_in : List ℕ) → (old.caches && not (caches_after payload old.caches)) ≡ flag → later.out ≡ host.out
      → MatchBool flag (TurnsOff old new before after answer data_in) (SetsCache old new before after payload answer data_in) → Stays
  selected_idle true payload answer data_in flag out p was idle = turns_off answer data_in out p was idle
  selected_idle false payload answer data_in flag out p was (inl off) =
      ap (λ (s : CacheShown). s.pending) p.mode ∙ was (inl (set_idle old.caches (caches_after payload old.caches) flag (sym (ap (λ (s : CacheShown). s.caches) p.mode) ∙ off)))
  selected_idle false payload answer data_in flag out p was (inr gone) = ap (λ (s : CacheShown). s.pending) p.mode ∙ was (inr (sym out ∙ gone))

  told : (structure : Bool) (alloc : ℕ) (answer : Answer) (data_in : List ℕ) → later.out ≡ host.out
      → MatchBool structure (TellsStructure old new before after alloc answer data_in) (TellsSpares old new before after alloc answer data_in) → Stays
  told true alloc answer data_in out p = untouched out p.is_answered.untouched.same
  told false alloc answer data_in out p = untouched out p.untouched.same

  done_idle : (payload : List ℕ) (command : Command) (answer : Answer) (data_in : List ℕ) → (needs_disc command ≡ true → host.out ≡ true → ⊥)
      → later.out ≡ (if is_good answer then (done_by command host).out else host.out) → IsDone old new before after host payload command answer data_in → Stays
  done_idle payload (commands.Format kind) answer data_in inside out p =
      ordinary p.cause.2 (out ∙ either (is_good answer) host.out host.out refl) (format (inside refl) kind p.out p.cause)
  done_idle payload (commands.Expand sectors) answer data_in inside out p =
      ordinary p.cause.2 (out ∙ either (is_good answer) host.out host.out refl) (expand (inside refl) sectors p.out p.cause)
  done_idle payload (commands.Read lba n) answer data_in inside out p =
      ordinary (read_mode old new lba n p.out p.cause) (out ∙ either (is_good answer) host.out host.out refl) (read (inside refl) lba n p.out p.cause)
  done_idle payload (commands.Write lba n fua) answer data_in inside out p =
      ordinary (write_mode fua old new lba n payload p.out p.cause) (out ∙ either (is_good answer) host.out host.out refl) (write (inside refl) lba n fua payload p.out p.cause)
  done_idle payload (commands.Verify lba n) answer data_in inside out p =
      ordinary p.cause.2 (out ∙ either (is_good answer) host.out host.out refl) (verify (inside refl) lba n p.out p.cause)
  done_idle payload commands.Synchronize answer data_in inside out p =
      ordinary (sync_mode old new p.out p.cause) (out ∙ either (is_good answer) host.out host.out refl) (λ idle none. sync_none old new p.out p.cause none)
  done_idle payload (commands.StartStop start eject) answer data_in inside out p = started_idle start eject answer data_in out p
  done_idle payload commands.ModeSelect answer data_in inside out p =
      selected_idle (old.caches && not (caches_after payload old.caches)) payload answer data_in refl (out ∙ either (is_good answer) host.out host.out refl) p
  done_idle payload (commands.Structure format alloc) answer data_in inside out p = told (format == 0x08) alloc answer data_in (out ∙ either (is_good answer) host.out host.out refl) p
  done_idle payload command answer data_in inside out p = untouched (out ∙ either (is_good answer) host.out host.out refl) p.untouched.same

  judged_idle : (operation : Option Operation) (formatted : Bool) (cdb payload : List ℕ) (judged : Result Command Sense) (answer : Answer) (data_in : List ℕ) → IsJudged host formatted cdb payload judged
      → later ≡ host_after host operation judged answer → IsAnsweredBy old new before after host payload judged answer data_in → Stays
  judged_idle operation formatted cdb payload (Err why) answer data_in judged later_is p = untouched (ap (λ (h : Host). h.out) later_is) p.untouched.same
  judged_idle operation formatted cdb payload (Ok command) answer data_in judged later_is p =
      done_idle payload command answer data_in (λ needs out. judged_in host formatted payload command (asked host cdb payload) needs judged out)
      (ap (λ (h : Host). h.out) later_is ∙ out_of (is_good answer)) p
    where
      out_of : (b : Bool) → (if b then done_by command host else host).out ≡ (if b then (done_by command host).out else host.out)
      out_of true = refl
      out_of false = refl

  command_idle : (cdb payload : List ℕ) (answer : Answer) (data_in : List ℕ) → ExecutesTo old new before after host later cdb payload answer data_in → Stays
  command_idle cdb payload answer data_in (inl off) = untouched (ap (λ (h : Host). h.out) off.1.later_is) off.1.is_answered.untouched.same
  command_idle cdb payload answer data_in (inr on) =
      judged_idle (operation_of cdb) (is_some old.drive.lists) cdb payload on.1.judged answer data_in on.1.is_judged on.1.later_is on.1.is_answered

  line_idle : (line : Line) (payload : List ℕ) (outcome : Outcome) (data_in : List ℕ) → DiscRule old new before after host later line payload outcome data_in → Stays
  line_idle lines.Power payload outcome data_in p = λ was idle. p.0.powered.cause.1.0
  line_idle (lines.Fail block) payload outcome data_in p = keeps p.0.same_host p.0.cache
  line_idle (lines.Wear block n) payload outcome data_in p = keeps p.0.keeps.same_host p.0.keeps.cache
  line_idle (lines.Cut n fate) payload outcome data_in p = keeps p.0.keeps.same_host p.0.keeps.cache
  line_idle lines.Tick payload outcome data_in p =
      ordinary (tick_mode old new p.0.out p.0.cause) (ap (λ (h : Host). h.out) p.0.same_host) (λ idle none. tick_none old new p.0.out p.0.cause none)
  line_idle (lines.Scrub false) payload outcome data_in p =
      let left = of_step (λ faulted a b. Verified a b) verified old new p.from p.to p.end p.rule in
      ordinary left.mode (ap (λ (h : Host). h.out) p.same_host) (λ idle none. left.empties none)
  line_idle (lines.Scrub true) payload outcome data_in p =
      let left = of_pass (λ faulted a b. Verified a b) verified old new p.from p.to p.end p.rule in
      ordinary left.mode (ap (λ (h : Host). h.out) p.same_host) (λ idle none. left.empties none)
  line_idle (lines.Command cdb) payload outcome data_in p = command_idle cdb payload p.answer data_in p.step
  line_idle _ payload outcome data_in p = absurd p

-- ---- states

inserted_idle : (t : Served) (drive : Shown) → t.disc.shown ≡ uncached drive → IsCacheIdle t.disc.shown t.host → t.disc.shown.pending ≡ []
inserted_idle t drive is idle = pending_of t.disc.shown (uncached drive) is refl

on_disc_idle : (s : Served) (t : State) (line : Line) (payload : List ℕ) (outcome : Outcome) (data_in : List ℕ) → OnDisc (Disc s) line payload outcome data_in t → PendsNothingIdle (Disc s) → PendsNothingIdle t
on_disc_idle s (Unopened image) line payload outcome data_in step was = absurd step
on_disc_idle s (Disc t) line payload outcome data_in step was =
    line_idle s.disc.shown t.disc.shown (λ x. x ≡ s.disc.contents) (λ x. x ≡ t.disc.contents) s.host t.host line payload outcome data_in step.rule was

pub first_idle : (bytes : List ℕ) (s : State) → IsFirst bytes s → PendsNothingIdle s
first_idle bytes (Unopened image) first = tt
first_idle bytes (Disc s) first = inserted_idle s _ first.2.opened.shown_is

pressed_idle : (s t : State) (shape : Shape) (outcome : Outcome) → PressStep s shape outcome t → PendsNothingIdle s → PendsNothingIdle t
pressed_idle s (Unopened image) shape outcome step was = tt
pressed_idle s (Disc t) shape (Ok (replies.Event events.Pressed)) step was = inserted_idle t _ step.1.opened.shown_is
pressed_idle s (Disc t) shape (Ok (replies.Event events.NotPressed)) step was = subst PendsNothingIdle (sym step.1) (renewed_idle s was)
  where
    renewed_idle : (s : State) → PendsNothingIdle s → PendsNothingIdle (renewed s)
    renewed_idle (Unopened image) was = tt
    renewed_idle (Disc s) was = was
pressed_idle s (Disc t) shape (Err stopped.ImageFault) step was = absurd (elim step.1 [ inl half ↦ half | inr unopened ↦ unopened ])
pressed_idle s (Disc t) shape outcome step was = absurd step

pub step_idle : (s t : State) (line : Line) (payload data_in : List ℕ) (outcome : Outcome) → Step s line payload outcome data_in t → PendsNothingIdle s → PendsNothingIdle t
step_idle s t lines.Empty payload data_in outcome step was = subst PendsNothingIdle (sym step.2) was
step_idle s t (lines.Press zones scale psa) payload data_in outcome step was = pressed_idle s t (shape_in (kind_of s) zones scale psa) outcome step.0 was
step_idle (Unopened image) t line payload data_in outcome step was = subst PendsNothingIdle (sym step.2) tt
step_idle (Disc s) t line payload data_in outcome step was = on_disc_idle s t line payload outcome data_in step was

pub run_idle : (s t : State) (events : List AnsweredStep) → Run s events t → PendsNothingIdle s → PendsNothingIdle t
run_idle s t [] run was = subst PendsNothingIdle (sym run) was
run_idle s t (event ∷ events) run was = step_idle run.0 t event.line event.payload event.data_in (Ok event.reply) run.2 (run_idle s run.0 events run.1 was)
