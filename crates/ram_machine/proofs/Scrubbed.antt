-- What a line of a scrub does to the drive, by its verifications alone: no more than that blocks die, or that the power goes off.
use Rattle.std.specs.Prelude.{◌≡◌, ℕ, ◌⊎◌, None, Err, length}
use Rattle.std.proofs.Common.{refl, sym, ◌∙◌, inl, inr, subst}
use Rattle.std.proofs.lemmas.Bool.{cases_eq}
use Rattle.model_medium.specs.Cells.{IsSameOrDead, cell_at}
use Rattle.model_stops.specs.declared.Stop.TheVariants as stops
use Rattle.model_sectors.specs.declared.ReadOut.{ReadOut}
use Rattle.model_sectors.specs.declared.ReadOut.TheVariants as reads
use Rattle.model_drive.specs.Shown.{Shown, IsOn, cells_in}
use Rattle.model_drive.specs.Parts.{AreSameOrDead, OnlyDies}
use Rattle.model_drive.specs.Reads.{VerifyCause}
use Rattle.model_drive.proofs.Kept.{verify_kept}
use Rattle.model_drive.proofs.Ends.{stop_off}
use Rattle.model_drive.proofs.Faults.{verify_faults}
use Rattle.model_cache.specs.Values.{Contents}
use Rattle.model_cache.specs.Shown.{CacheShown}
use Rattle.model_cache.specs.Steps.{VerifyContents}
use Rattle.model_cache.proofs.Chained.{read_faulted}
use Rattle.model_target.specs.declared.host.Host.{Host}
use Rattle.model_target.proofs.Counted.{CountsFaults, counts_faults}
use Rattle.model_scrub.specs.declared.ends.StepEnd.{StepEnd}
use Rattle.model_scrub.specs.declared.ends.StepEnd.TheVariants.{Readable, Unreadable, NotFormatted, Cut, Off, Fault}
use Rattle.model_scrub.specs.declared.ends.PassEnd.{PassEnd}
use Rattle.model_scrub.specs.declared.ends.PassEnd.TheVariants as passes
use Rattle.model_scrub.specs.Asks.{StepContents, PassContents}
use Rattle.model_scrub.proofs.Chained.{HoldsOfVerifications, good_leaves, unread_leaves}
use Rattle.ram_report.specs.declared.printing.Event.TheVariants as events
use Rattle.ram_machine.specs.declared.stopped.Stopped.TheVariants as stopped
use Rattle.ram_machine.specs.Replies.{Outcome, event, step_outcome, pass_outcome}
use Rattle.ram_machine.specs.LineSteps.{StepLine, PassLine}

-- ---- what the drive shows

-- Each cell is as it was, or dead; the lists in use stay, unless the power went off; and it did not come on.
pub record AtMostDies (old new : Shown) : Type 0 where
  pub same_label : new.medium.world.label ≡ old.medium.world.label
  pub dies : AreSameOrDead (cells_in old) (cells_in new)
  pub lists : (new.lists ≡ old.lists) ⊎ ((new.lists ≡ None) × ¬ IsOn new)
  pub was_on : IsOn new → IsOn old

nothing_dies : (s : Shown) → AtMostDies s s
nothing_dies s = record { same_label = refl; dies = λ block. inl refl; lists = inl refl; was_on = λ on. on }

same_dies : (old new : Shown) → new ≡ old → AtMostDies old new
same_dies old new is = subst (AtMostDies old) (sym is) (nothing_dies old)

one_dies : (old new : Shown) (block : ℕ) → OnlyDies old new block → AreSameOrDead (cells_in old) (cells_in new)
one_dies old new block dies other = elim (cases_eq other block) [
  | inl here ↦ subst (λ (b : ℕ). IsSameOrDead (cell_at (cells_in old) b) (cell_at (cells_in new) b)) (sym here) dies.left
  | inr apart ↦ inl (dies.others other apart)
]

verify_dies : (old new : Shown) (lba n : ℕ) (out : ReadOut) → VerifyCause old new lba n out → AtMostDies old new
verify_dies old new lba n reads.Good cause = record {
  same_label = (verify_kept old new lba n reads.Good cause).same_label;
  dies = λ block. inl (cause.same_cells block);
  lists = inl cause.keeps.same_lists;
  was_on = λ on. cause.inside.on;
}
verify_dies old new lba n reads.NotFormatted cause = same_dies old new cause.nothing
verify_dies old new lba n (reads.Range known) cause = same_dies old new cause.nothing
verify_dies old new lba n (reads.Unread named block) cause = record {
  same_label = (verify_kept old new lba n (reads.Unread named block) cause).same_label;
  dies = one_dies old new block cause.dies;
  lists = inl cause.keeps.same_lists;
  was_on = λ on. cause.inside.on;
}
verify_dies old new lba n reads.Cut cause = record {
  same_label = (verify_kept old new lba n reads.Cut cause).same_label;
  dies = one_dies old new _ cause.dies;
  lists = inr (cause.stopped.no_lists, stop_off old.medium new.medium _ stops.Cut cause.stopped.stops);
  was_on = λ on. cause.inside.on;
}
verify_dies old new lba n reads.Off cause = same_dies old new cause.nothing
verify_dies old new lba n reads.Fault cause = record {
  same_label = (verify_kept old new lba n reads.Fault cause).same_label;
  dies = one_dies old new _ cause.dies;
  lists = inr (cause.stopped.no_lists, stop_off old.medium new.medium _ stops.Fault cause.stopped.stops);
  was_on = λ on. cause.inside.on;
}

join_cells : (a b c : Shown) → AreSameOrDead (cells_in a) (cells_in b) → AreSameOrDead (cells_in b) (cells_in c) → AreSameOrDead (cells_in a) (cells_in c)
join_cells a b c first then block = elim (then block) [
  | inl same ↦ (elim (first block) [ inl before ↦ inl (same ∙ before) | inr dead ↦ inr (same ∙ dead) ])
  | inr dead ↦ inr dead
]

join_lists : (a b c : Shown) → (b.lists ≡ a.lists) ⊎ ((b.lists ≡ None) × ¬ IsOn b) → AtMostDies b c → (c.lists ≡ b.lists) ⊎ ((c.lists ≡ None) × ¬ IsOn c) → (c.lists ≡ a.lists) ⊎ ((c.lists ≡ None) × ¬ IsOn c)
join_lists a b c first then (inr off) = inr off
join_lists a b c (inl same) then (inl also) = inl (also ∙ same)
join_lists a b c (inr off) then (inl also) = inr (also ∙ off.0, λ on. off.1 (then.was_on on))

join_dies : (a b c : Shown) → AtMostDies a b → AtMostDies b c → AtMostDies a c
join_dies a b c first then = record {
  same_label = then.same_label ∙ first.same_label;
  dies = join_cells a b c first.dies then.dies;
  lists = join_lists a b c first.lists then then.lists;
  was_on = λ on. first.was_on (then.was_on on);
}

pub at_most_dies : HoldsOfVerifications (λ faulted a b. AtMostDies a.drive b.drive)
at_most_dies = record {
  none = λ s. nothing_dies s.drive;
  join = λ faulted a b c first then. join_dies a.drive b.drive c.drive first then;
  verify = λ a b lba n out cause. verify_dies a.drive b.drive lba n out cause.0;
}

-- how often the image failed
verify_counts : (a b : Shown) (lba n : ℕ) (out : ReadOut) → VerifyCause a b lba n out → CountsFaults (read_faulted out) a b
verify_counts a b lba n reads.Good cause = verify_faults a b lba n reads.Good cause
verify_counts a b lba n reads.NotFormatted cause = verify_faults a b lba n reads.NotFormatted cause
verify_counts a b lba n (reads.Range known) cause = verify_faults a b lba n (reads.Range known) cause
verify_counts a b lba n (reads.Unread named block) cause = verify_faults a b lba n (reads.Unread named block) cause
verify_counts a b lba n reads.Cut cause = verify_faults a b lba n reads.Cut cause
verify_counts a b lba n reads.Off cause = verify_faults a b lba n reads.Off cause
verify_counts a b lba n reads.Fault cause = verify_faults a b lba n reads.Fault cause

pub scrub_counts : HoldsOfVerifications (λ faulted a b. CountsFaults faulted a.drive b.drive)
scrub_counts = record {
  none = λ s. counts_faults.none s.drive;
  join = λ faulted a b c first then. counts_faults.join faulted a.drive b.drive c.drive first then;
  verify = λ a b lba n out cause. verify_counts a.drive b.drive lba n out cause.0;
}

-- the cache is as on as before
pub scrub_mode : HoldsOfVerifications (λ faulted a b. b.caches ≡ a.caches)
scrub_mode = record {
  none = λ s. refl;
  join = λ faulted a b c first then. then ∙ first;
  verify = λ a b lba n out cause. cause.2;
}

-- ---- what it stands for

-- It stands for what it stood for, and no power was lost; or its verification was stopped, and the line says so.
abbrev pub ScrubLeaves : Contents → Contents → Outcome → Type 0
ScrubLeaves s t outcome = ((s ≡ t) × ¬ (outcome ≡ event events.Cut))
    ⊎ (VerifyContents (λ x. x ≡ t) s reads.Cut × (outcome ≡ event events.Cut))
    ⊎ (VerifyContents (λ x. x ≡ t) s reads.Fault × (outcome ≡ Err stopped.ImageFault))

module _ (s t : Contents) where
  step_left : (end : StepEnd) → StepContents (λ x. x ≡ t) s end → ScrubLeaves s t (step_outcome end)
  step_left (Readable i) step = inl (good_leaves s t step, λ cut. cc)
  step_left (Unreadable i) step = inl (unread_leaves s t step.0 step.1 step.2, λ cut. cc)
  step_left NotFormatted step = inl (step, λ cut. cc)
  step_left Cut step = inr (inl (step, refl))
  step_left Off step = inl (step, λ cut. cc)
  step_left Fault step = inr (inr (step, refl))

  pass_left : (end : PassEnd) (count : ℕ) → PassContents (λ x. x ≡ t) s end → ScrubLeaves s t (pass_outcome end count)
  pass_left passes.Done count step = inl (step, λ cut. cc)
  pass_left passes.NotFormatted count step = inl (step, λ cut. cc)
  pass_left passes.Cut count step = inr (inl (step, refl))
  pass_left passes.Off count step = inl (step, λ cut. cc)
  pass_left passes.Fault count step = inr (inr (step, refl))

  module _ (old new : CacheShown) (host later : Host) (outcome : Outcome) where
    pub step_leaves : StepLine old new (λ x. x ≡ s) (λ x. x ≡ t) host later outcome → ScrubLeaves s t outcome
    step_leaves p = subst (ScrubLeaves s t) (sym p.outcome_is) (step_left p.end (p.step s refl))

    pub pass_leaves : PassLine old new (λ x. x ≡ s) (λ x. x ≡ t) host later outcome → ScrubLeaves s t outcome
    pass_leaves p = subst (ScrubLeaves s t) (sym p.outcome_is) (pass_left p.end (length p.to.found) (p.step s refl))
