-- A block that was pending before a drain, and is not any more, went to the disc: it can be read until its home dies.
use Rattle.std.specs.Prelude.{◌≡◌, ◌≢◌, ℕ, zero, suc, ◌*◌, ◌<◌, ◌==◌, nat_lt, not, Bool, is_some, IsSome, Option, Some, None, Result, Ok, Err, List, [], ◌∷◌, length}
use Rattle.std.specs.List.{Contains}
use Rattle.std.specs.Option.{option_map_or}
use Rattle.std.proofs.Common.{arith, refl, sym, ap, ◌∙◌, inl, inr, subst}
use Rattle.std.proofs.lemmas.Bool.{cases_eq, lt-ltb, ne_eqb}
use Rattle.model_geometry.specs.Geometry.{Shape}
use Rattle.model_drive.specs.declared.WriteOut.{WriteOut}
use Rattle.model_drive.specs.declared.WriteOut.TheVariants as writes
use Rattle.model_drive.specs.Shown.{Shown, IsFormatted, block_count}
use Rattle.model_drive.proofs.Kept.{write_kept}
use Rattle.model_costs.proofs.Living.{begins_living}
use Rattle.model_cache.specs.declared.SyncOut.{SyncOut}
use Rattle.model_cache.specs.declared.SyncOut.TheVariants as syncs
use Rattle.model_cache.specs.Values.{Values, Contents, Has, MayHave, IsPending}
use Rattle.model_places.specs.Places.{Lists, logical_count}
use Rattle.model_cache.specs.Steps.{SyncContents}
use Rattle.model_cache.specs.Shown.{CacheShown, CacheStandsFor, dropped, pending_in}
use Rattle.model_cache.specs.Chains.{WritesBack, Flushes}
use Rattle.model_cache.specs.Drains.{Tries}
use Rattle.model_cache.specs.Causes.{SyncCause}
use Rattle.model_cache.proofs.Members.{Contains-kept}
use Rattle.model_cache.proofs.Behind.{stays_there}
use Rattle.model_cache.proofs.FlushedHomes.{flushed_good}
use Rattle.model_sense.specs.declared.sense.Sense.{Sense}
use Rattle.model_sense.specs.declared.answer.Answer.{Answer}
use Rattle.model_sense.specs.declared.answer.Answer.TheVariants as answers
use Rattle.model_cdb.specs.declared.commands.Command.{Command}
use Rattle.model_cdb.specs.declared.commands.Command.TheVariants as commands
use Rattle.model_cdb.specs.Decoding.{decoded}
use Rattle.model_target.specs.Judging.{IsJudged}
use Rattle.model_target.specs.Steps.{sync_answer, IsSynchronised, IsDone, IsAnsweredBy, IsStep as ExecutesTo}
use Rattle.ram_text.specs.declared.script.Line.{Line}
use Rattle.ram_text.specs.declared.script.Line.TheVariants as lines
use Rattle.ram_machine.specs.declared.reply.Reply.{Reply}
use Rattle.ram_machine.specs.declared.reply.Reply.TheVariants as replies
use Rattle.ram_machine.specs.States.{State, Served, Unopened, Disc}
use Rattle.ram_machine.specs.LineSteps.{OnDisc, Step}
use Rattle.ram_machine.specs.Runs.{IsStep}
use Rattle.ram_machine.specs.Answered.{AnsweredStep}
use Rattle.ram_machine.specs.Acknowledged.{IsPendingIn}
use Rattle.ram_machine.proofs.Decoded.{asks_for, same_asked}
use Rattle.ram_machine.proofs.NoSpares.{checked_outcome}
use Rattle.ram_machine.proofs.SoundChains.{IsWell, contents_known}
use Rattle.ram_machine.proofs.SyncedImage.{inside_by, not_there}
use Rattle.ram_survival.specs.Living.{LeavesBlockAsDecoded, LivesNow, WasRefused}
use Rattle.ram_survival.proofs.FormattedLines.{line_formatted}
use Rattle.ram_survival.proofs.LivingFlushes.{IsKept, tried_kept}

module _ (shape : Shape) (i : ℕ) where
  -- a write of a pending block leaves the disc well
  back_well : (old new : CacheShown) (j : ℕ) (out : WriteOut) → WritesBack old new j out → IsWell shape old.drive → IsWell shape new.drive
  back_well old new j out back well = record {
    sound = back.leaves.sound;
    known = (write_kept old.drive new.drive (16 * j) 16 out back.wrote).as_known ∙ well.known;
    same_shape = back.leaves.same_shape ∙ well.same_shape;
  }

  -- the block itself was flushed
  own_flush : (old new : CacheShown) → Flushes old new i → IsWell shape old.drive → IsKept shape i new
  own_flush old new flush well =
      let after = back_well old new i writes.Good flush.back well in
      record {
        on = record {
          well = after;
          lives = begins_living i new.drive flush.back.wrote.reached after.sound after.known flush.back.wrote.ends.now_in_use (flushed_good old new i flush well.sound well.known);
        };
        settled = λ held. not_there old.pending i (subst (λ (p : List (ℕ × List ℕ)). IsPending p i) flush.left held);
      }

  -- another one was
  other_flush : (old new : CacheShown) (j : ℕ) → Flushes old new j → i ≢ j → IsPending old.pending i → IsPending new.pending i
  other_flush old new j flush ne (bytes, has) =
      (bytes, subst (λ (p : List (ℕ × List ℕ)). Contains p (i, bytes)) (sym flush.left) (Contains-kept {X = ℕ × List ℕ} (λ (held : ℕ × List ℕ). not (held.0 == j)) old.pending (i, bytes) (ap not (ne_eqb i j ne)) has))

  pub left_lives : (due : List ℕ) (enough short : ℕ) (old new : CacheShown) (first : Option WriteOut) → Tries old due enough new short first → IsWell shape old.drive → IsPending old.pending i → ¬ IsPending new.pending i
      → IsKept shape i new
  left_lives due zero short old new first p well was gone = absurd (gone (subst (λ (x : CacheShown). IsPending x.pending i) (sym p.0) was))
  left_lives [] (suc enough) short old new first p well was gone = absurd (gone (subst (λ (x : CacheShown). IsPending x.pending i) (sym p.0) was))
  left_lives (j ∷ due) (suc enough) short old new first (inl (mid, flush, later)) well was gone = elim (cases_eq i j) [
    | inl same ↦ tried_kept shape i due enough short mid new first later (own_flush old mid (subst (Flushes old mid) (sym same) flush) well)
    | inr ne ↦ left_lives due enough short mid new first later (back_well old mid j writes.Good flush.back well) (other_flush old mid j flush ne was) gone
  ]
  left_lives (j ∷ due) (suc enough) short old new first (inr (mid, out, told, is, later, first_is)) well was gone =
      left_lives due (suc enough) short mid new told later (back_well old mid j out is.back well)
      (was.0, subst (λ (p : List (ℕ × List ℕ)). Contains p (i, was.0)) (sym is.left) (stays_there j old.pending (i, was.0) was.1)) gone

  -- the disc has it, so it counts
  still_due : (old : CacheShown) → i < block_count old.drive → IsPending old.pending i → IsPending (dropped old).pending i
  still_due old inside (bytes, has) = (bytes, Contains-kept {X = ℕ × List ℕ} (λ (held : ℕ × List ℕ). nat_lt held.0 (block_count old.drive)) old.pending (i, bytes) (lt-ltb i (block_count old.drive) inside) has)

  -- so it is after a synchronisation that was refused
  pub refused_lives : (old new : CacheShown) (out : SyncOut) → SyncCause old new out → ¬ (out ≡ syncs.Cut) → ¬ (out ≡ syncs.Fault) → IsWell shape old.drive → i < block_count old.drive → IsPending old.pending i
      → ¬ IsPending new.pending i → IsKept shape i new
  refused_lives old new syncs.Good cause no_cut no_fault well inside was gone =
      left_lives (pending_in (dropped old)) (length (pending_in (dropped old))) 0 (dropped old) new cause.drained.0 cause.drained.1 well (still_due old inside was) gone
  refused_lives old new (syncs.NoSpare lba) cause no_cut no_fault well inside was gone =
      left_lives (pending_in (dropped old)) (length (pending_in (dropped old))) (suc cause.drained.short) (dropped old) new (Some (writes.NoSpare lba)) cause.drained.tried well (still_due old inside was) gone
  refused_lives old new (syncs.NoUpdate counter) cause no_cut no_fault well inside was gone =
      left_lives (pending_in (dropped old)) (length (pending_in (dropped old))) (suc cause.drained.short) (dropped old) new (Some (writes.NoUpdate counter)) cause.drained.tried well (still_due old inside was) gone
  refused_lives old new syncs.NotFormatted cause no_cut no_fault well inside was gone =
      absurd (gone (subst (λ (x : CacheShown). IsPending x.pending i) (sym cause.nothing) (still_due old inside was)))
  refused_lives old new syncs.Off cause no_cut no_fault well inside was gone = absurd (gone (subst (λ (x : CacheShown). IsPending x.pending i) (sym cause.nothing) was))
  refused_lives old new syncs.Cut cause no_cut no_fault well inside was gone = absurd (no_cut refl)
  refused_lives old new syncs.Fault cause no_cut no_fault well inside was gone = absurd (no_fault refl)

-- ---- over a line

pending_inside : (shown : CacheShown) (v : Values) (i : ℕ) (bytes : List ℕ) → CacheStandsFor shown (Has v) → Contains {X = ℕ × List ℕ} shown.pending (i, bytes) → i < block_count shown.drive
pending_inside shown v i bytes stood has = inside_by shown.drive shown.drive.lists stood.0 i stood.1.2 (stood.2.inside i bytes has)

some_counted : (shown : Shown) (i : ℕ) → i < block_count shown → IsFormatted shown
some_counted shown i inside = by_lists shown.lists inside
  where
    by_lists : (o : Option Lists) → i < option_map_or (logical_count shown.shape) o 0 → IsSome o
    by_lists None few = absurd (omega (arith, few))
    by_lists (Some lists) few = refl

not_cut : (why : Sense) (out : SyncOut) → answers.Check why ≡ sync_answer out → ¬ (out ≡ syncs.Cut)
not_cut why out is same = let clash : answers.Check why ≡ answers.Cut = is ∙ ap sync_answer same in cc

not_failed : (why : Sense) (out : SyncOut) → answers.Check why ≡ sync_answer out → ¬ (out ≡ syncs.Fault)
not_failed why out is same = let clash : answers.Check why ≡ answers.Fault = is ∙ ap sync_answer same in cc

module _ (s t : Served) (i : ℕ) (bytes cdb payload data_in : List ℕ) (why : Sense) (was : Contains {X = ℕ × List ℕ} s.disc.shown.pending (i, bytes)) (gone : ¬ IsPending t.disc.shown.pending i) where
  abbrev Old : CacheShown
  Old = s.disc.shown

  abbrev New : CacheShown
  New = t.disc.shown

  still : {A : Type 0} → New ≡ Old → A
  still is = absurd (gone (subst (λ (x : CacheShown). IsPending x.pending i) (sym is) (bytes, was)))

  by_contents : (c : Contents) → c ≡ s.disc.contents → (out : SyncOut) → SyncContents New (λ x. x ≡ t.disc.contents) c out → SyncCause Old New out → ¬ (out ≡ syncs.Cut) → ¬ (out ≡ syncs.Fault)
      → (IsKept Old.drive.shape i New) × (i < block_count Old.drive)
  by_contents (MayHave all) is syncs.Off step cause no_cut no_fault = still cause.nothing
  by_contents (MayHave all) is out step cause no_cut no_fault = absurd step
  by_contents (Has v) is out step cause no_cut no_fault =
      let inside = pending_inside Old v i bytes (subst (CacheStandsFor Old) (sym is) s.disc.stands) was in (
        refused_lives Old.drive.shape i Old New out cause no_cut no_fault (record { sound = s.disc.sound; known = contents_known Old s.disc.contents s.disc.stands; same_shape = refl }) inside (bytes, was) gone,
        inside,
      )

  by_done : IsSynchronised Old New (λ x. x ≡ s.disc.contents) (λ x. x ≡ t.disc.contents) (answers.Check why) data_in → (IsKept Old.drive.shape i New) × (i < block_count Old.drive)
  by_done p = by_contents s.disc.contents refl p.out (p.step s.disc.contents refl) p.cause (not_cut why p.out p.answer_is) (not_failed why p.out p.answer_is)

  by_judged : (formatted : Bool) (judged : Result Command Sense) → decoded cdb payload ≡ Ok commands.Synchronize → IsJudged s.host formatted cdb payload judged
      → IsAnsweredBy Old New (λ x. x ≡ s.disc.contents) (λ x. x ≡ t.disc.contents) s.host payload judged (answers.Check why) data_in → (IsKept Old.drive.shape i New) × (i < block_count Old.drive)
  by_judged formatted (Err other) asks judged p = still p.untouched.same
  by_judged formatted (Ok command) asks judged p =
      by_done (subst (λ (c : Command). IsDone Old New (λ x. x ≡ s.disc.contents) (λ x. x ≡ t.disc.contents) s.host payload c (answers.Check why) data_in)
      (same_asked command commands.Synchronize (decoded cdb payload) (asks_for s.host formatted cdb payload command judged) asks) p)

  executed : decoded cdb payload ≡ Ok commands.Synchronize → ExecutesTo Old New (λ x. x ≡ s.disc.contents) (λ x. x ≡ t.disc.contents) s.host t.host cdb payload (answers.Check why) data_in
      → (IsKept Old.drive.shape i New) × (i < block_count Old.drive)
  executed asks (inl off) = still off.1.is_answered.untouched.same
  executed asks (inr on) = by_judged (is_some Old.drive.lists) on.1.judged asks on.1.is_judged on.1.is_answered

  pub on_disc_left : decoded cdb payload ≡ Ok commands.Synchronize → OnDisc (Disc s) (lines.Command cdb) payload (Ok (replies.Command cdb (answers.Check why))) data_in (Disc t) → LivesNow (Disc t) i
  on_disc_left asks step =
      let answer : step.rule.answer ≡ answers.Check why = checked_outcome cdb why step.rule.answer step.rule.outcome_is in
      let found = executed asks (subst (λ (a : Answer). ExecutesTo Old New (λ x. x ≡ s.disc.contents) (λ x. x ≡ t.disc.contents) s.host t.host cdb payload a data_in) answer step.rule.step) in
      record {
        lives = found.0.on.lives;
        settled = found.0.settled;
        formatted = line_formatted i Old New (λ on. some_counted Old.drive i found.1) (λ x. x ≡ s.disc.contents) (λ x. x ≡ t.disc.contents) s.host t.host (lines.Command cdb) payload
            (Ok (replies.Command cdb (answers.Check why))) data_in step.rule (subst (LeavesBlockAsDecoded i) (sym asks) tt);
      }

pub left_by_refusal : (s t : State) (event : AnsweredStep) (why : Sense) (i : ℕ) (bytes : List ℕ) → IsStep s event t → WasRefused event commands.Synchronize why → IsPendingIn s i bytes
    → ((held : List ℕ) → ¬ IsPendingIn t i held) → LivesNow t i
left_by_refusal s t event why i bytes step refused was gone = by_states s t
    (subst (λ (l : Line). Step s l event.payload (Ok (replies.Command refused.cdb (answers.Check why))) event.data_in t) refused.line_is
    (subst (λ (r : Reply). Step s event.line event.payload (Ok r) event.data_in t) refused.reply_is step)) was gone
  where
    by_states : (s t : State) → Step s (lines.Command refused.cdb) event.payload (Ok (replies.Command refused.cdb (answers.Check why))) event.data_in t → IsPendingIn s i bytes → ((held : List ℕ) → ¬ IsPendingIn t i held) → LivesNow t i
    by_states (Unopened image) t step was gone = absurd was
    by_states (Disc s) (Unopened image) step was gone = absurd step
    by_states (Disc s) (Disc t) step was gone = on_disc_left s t i bytes refused.cdb event.payload event.data_in why was (λ held. gone held.0 held.1) refused.asks step
