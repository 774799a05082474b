-- A use of a controllable medium in two parts: it begins, and then the block is read or left.
use Rattle.std.specs.Prelude.{◌≡◌, ℕ, IsTrue, is_some, Option, Some, None, IsSome, List, []}
use Rattle.std.specs.Bool.{OnTrue}
use Rattle.std.specs.Option.{option_map_or}
use Rattle.std.proofs.Common.{refl, sym, ap, ◌∙◌, inl, inr, subst, arith}
use Rattle.model_medium.specs.Cells.{Good, cell_at, IsSameOrDead, MayLeave, written, cut_short}
use Rattle.model_medium.specs.World.{IsUse, HasFailed}
use Rattle.model_medium.specs.Machine.{Machine, fate_due, begun, cut_off, with_cell, after_read}
use Rattle.model_medium.specs.Exact.{HasCountedDown, ReadExactly, WriteExactly}
use Rattle.model_medium.specs.declared.Fate.{Fate}
use Rattle.model_medium.specs.declared.ReadEnd.{ReadEnd}
use Rattle.model_medium.specs.declared.ReadEnd.TheVariants as reads
use Rattle.model_medium.specs.declared.WriteEnd.{WriteEnd}
use Rattle.model_medium.specs.declared.WriteEnd.TheVariants as writes
use Rattle.model_medium.proofs.Uses.{Used, cell_other, dead_here}
use Rattle.model_medium.proofs.CellFacts.{same_is_kind}
use Rattle.model_medium.proofs.Rules.{used_read, left_by_read}
use Rattle.ram_image.specs.Begun.{FailsWithin, ReadOnRule, WriteCutRule}

some_due : (due : Option Fate) (fate : Fate) → due ≡ Some fate → IsSome due
some_due due fate e = ap is_some e

module _ (old mid new : Machine) (block : ℕ) (was_on : IsTrue old.world.power) (begins : mid ≡ begun block old) where
  used : Used old mid block (λ cell. cell)
  used = used_read old mid block was_on begins

  uses_one : FailsWithin mid new block → IsUse old.world new.world block
  uses_one fails = record {
    was_on = was_on;
    same_label = fails.same_label ∙ used.same_label;
    as_known = fails.as_known ∙ used.as_known;
    counts = fails.uses_same ∙ used.counts;
    others = λ other ne. fails.others other ne ∙ cell_other old mid block (λ cell. cell) used same_is_kind.tame other ne;
    stays_dead = λ e. fails.stays_dead (dead_here old mid block (λ cell. cell) used same_is_kind.tame e);
  }

  has_failed : FailsWithin mid new block → HasFailed old.world new.world
  has_failed fails = record {
    turns_off = fails.turns_off;
    no_cut = fails.cuts_same ∙ ap (λ m. m.world.cuts) begins;
    fault = omega (arith, used.no_fault, fails.fault);
  }

  counted_down : FailsWithin mid new block → HasCountedDown old new block
  counted_down fails = record { arms = fails.arms_same ∙ used.arms; cut = fails.cut_same ∙ used.cut }

  left_same : cell_at new.world.cells block ≡ cell_at mid.world.cells block → IsSameOrDead (cell_at old.world.cells block) (cell_at new.world.cells block)
  left_same e = subst (IsSameOrDead (cell_at old.world.cells block)) (sym e) (left_by_read old mid block used)

  left_written : (bytes : List ℕ) → FailsWithin mid new block → MayLeave (cell_at mid.world.cells block) bytes (cell_at new.world.cells block) → MayLeave (cell_at old.world.cells block) bytes (cell_at new.world.cells block)
  left_written bytes fails may = elim (left_by_read old mid block used) [
    | inl same ↦ subst (λ cell. MayLeave cell bytes (cell_at new.world.cells block)) same may
    | inr dead ↦ inr (inr (inr (fails.stays_dead dead)))
  ]

  -- no cut is due
  module _ (not_due : fate_due old.cut ≡ None) where
    read_now : new ≡ mid → new ≡ after_read block old
    read_now x = x ∙ begins ∙ sym (ap (λ due. option_map_or (λ fate. cut_off (begun block old)) due (begun block old)) not_due)

    pub event_read : (into into' : List ℕ) (how : ReadEnd) → ReadOnRule mid new block into into' how → ReadExactly old new block into into' how
    event_read into into' reads.Done rule = record { was_on = was_on; not_due = not_due; exactly = read_now rule.0; gives = subst (λ known. OnTrue known (cell_at new.world.cells block ≡ Good into')) used.as_known rule.1 }
    event_read into into' reads.Unreadable rule = record { was_on = was_on; not_due = not_due; exactly = read_now rule.0; not_good = rule.1; kept = rule.2 }
    event_read into into' reads.Cut rule = absurd rule
    event_read into into' reads.Off rule = absurd rule
    event_read into into' reads.Failed rule = (record { one = uses_one rule.0; failed = has_failed rule.0; left = left_same rule.1; kept = rule.2 }, counted_down rule.0)

  pub failed_write : (bytes : List ℕ) → FailsWithin mid new block × MayLeave (cell_at mid.world.cells block) bytes (cell_at new.world.cells block) → WriteExactly old new block bytes writes.Failed
  failed_write bytes rule = (record { one = uses_one rule.0; failed = has_failed rule.0; left = left_written bytes rule.0 rule.1 }, counted_down rule.0)

  -- a cut is due
  pub event_cut_write : (bytes : List ℕ) (fate : Fate) → fate_due old.cut ≡ Some fate → (how : WriteEnd) → WriteCutRule mid new block bytes fate how → WriteExactly old new block bytes how
  event_cut_write bytes fate due writes.Done rule = absurd rule
  event_cut_write bytes fate due writes.Cut rule = record {
    was_on = was_on;
    due = some_due (fate_due old.cut) fate due;
    exactly = rule ∙ ap (λ m. cut_off (with_cell block (cut_short fate bytes) m)) begins
        ∙ sym (ap (λ due. option_map_or (λ fate. cut_off (with_cell block (cut_short fate bytes) (begun block old))) due (with_cell block (written bytes) (begun block old))) due);
  }
  event_cut_write bytes fate due writes.Off rule = absurd rule
  event_cut_write bytes fate due writes.Failed rule = failed_write bytes rule

-- a read that was not done, into bytes that then stayed as they were
pub event_left : (old new : Machine) (block : ℕ) (gave into into' : List ℕ) (how : ReadEnd) → ¬ (how ≡ reads.Done) → into' ≡ into → ReadExactly old new block [] gave how → ReadExactly old new block into into' how
event_left old new block gave into into' reads.Done not_done same exactly = absurd (not_done refl)
event_left old new block gave into into' reads.Unreadable not_done same exactly = record { was_on = exactly.was_on; not_due = exactly.not_due; exactly = exactly.exactly; not_good = exactly.not_good; kept = same }
event_left old new block gave into into' reads.Cut not_done same exactly = (exactly.0, same)
event_left old new block gave into into' reads.Off not_done same exactly = (exactly.0, same)
event_left old new block gave into into' reads.Failed not_done same exactly = (record { one = exactly.0.one; failed = exactly.0.failed; left = exactly.0.left; kept = same }, exactly.1)
