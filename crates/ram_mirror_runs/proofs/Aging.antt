-- What a line does to a side beside its calls: cells die, and deaths and cuts are armed.
use Rattle.std.specs.Prelude.{◌≡◌, ◌≢◌, ℕ, Bool, true, false, List}
use Rattle.std.proofs.Common.{refl, sym, ap, ◌∙◌, inl, inr, subst}
use Rattle.model_geometry.specs.Geometry.{total}
use Rattle.model_medium.specs.Cells.{Cell, Dead, cell_at}
use Rattle.model_medium.specs.World.{World}
use Rattle.model_medium.specs.Machine.{Machine}
use Rattle.model_medium.specs.declared.Fate.{Fate}
use Rattle.model_medium.specs.declared.WornBlock.{WornBlock}
use Rattle.model_medium.proofs.CellFacts.{cell_at-set_other, cell_at-set_dead}
use Rattle.model_drive.specs.Shown.{Shown, cells_in}
use Rattle.model_drive.specs.Sound.{IsSound}
use Rattle.model_drive.specs.Parts.{AreSameOrDead}
use Rattle.model_drive.proofs.Dying.{one_dies}
use Rattle.model_cache.specs.Chains.{LeavesSound}
use Rattle.model_mirror.specs.Shown.{MirrorShown}
use Rattle.model_mirror.specs.Sides.{named_side}
use Rattle.model_mirror_laws.specs.Bytes.{Ages, SidesAge}
use Rattle.ram_medium.specs.Control.{WearRule}
use Rattle.ram_medium.specs.declared.control.FailEnd.{FailEnd}
use Rattle.ram_medium.specs.declared.control.FailEnd.TheVariants as fails
use Rattle.ram_medium.specs.declared.control.Arm.{Arm}
use Rattle.ram_medium.specs.declared.control.Arm.TheVariants as arming
use Rattle.ram_states.specs.Control.{KeepsMemory, FailOnDrive}
use Rattle.ram_report.specs.declared.printing.MirrorEvent.{MirrorEvent}
use Rattle.ram_pair.specs.PairLines.{with_side, FailCall, WearCall, CutCall}

same_ages : (old : Shown) → IsSound old → Ages old old
same_ages old sound = record {
  leaves = record { same_shape = refl; sound = sound };
  as_known = refl;
  same_power = refl;
  keeps = record { same_lists = refl; same_mark = refl };
  same_buffer = refl;
  same = λ block. inl refl;
}

module _ (old new : Shown) (leaves : LeavesSound old new) where
  still : KeepsMemory old new → new.medium.world.known ≡ old.medium.world.known → new.medium.world.power ≡ old.medium.world.power → AreSameOrDead (cells_in old) (cells_in new) → Ages old new
  still keeps known power dies = record {
    leaves = leaves;
    as_known = known;
    same_power = power;
    keeps = record { same_lists = keeps.same_lists; same_mark = keeps.same_mark };
    same_buffer = keeps.same_buffer;
    same = dies;
  }

  armed : KeepsMemory old new → new.medium.world ≡ old.medium.world → Ages old new
  armed keeps same = still keeps (ap (λ (w : World). w.known) same) (ap (λ (w : World). w.power) same) (λ block. inl (ap (λ (w : World). cell_at w.cells block) same))

  fail_ages : (block : ℕ) (end : FailEnd) → end ≢ fails.Failed → FailOnDrive old new block end → Ages old new
  fail_ages block fails.Done done rule =
      let is = ap (λ (m : Machine). m.world.cells) rule.0.1 in
      still rule.1 (ap (λ (m : Machine). m.world.known) rule.0.1) (ap (λ (m : Machine). m.world.power) rule.0.1)
      (one_dies old new block (record {
        others = λ other ne. ap (λ (l : List Cell). cell_at l other) is ∙ cell_at-set_other (cells_in old) block other Dead ne;
        left = inr (ap (λ (l : List Cell). cell_at l block) is ∙ cell_at-set_dead (cells_in old) block);
      }))
  fail_ages block (fails.NoBlock blocks) done rule = armed rule.1 (ap (λ (m : Machine). m.world) rule.0.2)
  fail_ages block fails.Failed done rule = absurd (done refl)

  wear_ages : (worn : WornBlock) (end : Arm) → WearRule (total old.shape) old.medium new.medium worn end → KeepsMemory old new → Ages old new
  wear_ages worn arming.Set rule keeps = armed keeps (ap (λ (m : Machine). m.world) rule.2)
  wear_ages worn (arming.NoBlock blocks) rule keeps = armed keeps (ap (λ (m : Machine). m.world) rule.2)
  wear_ages worn arming.Full rule keeps = armed keeps (ap (λ (m : Machine). m.world) rule.2)

-- one side of a mirror ages, by its name
module _ (old : MirrorShown) (lead_sound : IsSound old.lead) (other_sound : IsSound old.other) where
  named : (on_a lead_is_a : Bool) (side : Shown) → Ages (named_side on_a (record old { lead_is_a = lead_is_a })) side
      → SidesAge (record old { lead_is_a = lead_is_a }) (with_side on_a side (record old { lead_is_a = lead_is_a }))
  named true true side ages = record { lead = ages; other = same_ages old.other other_sound; new_is = refl }
  named true false side ages = record { lead = same_ages old.lead lead_sound; other = ages; new_is = refl }
  named false true side ages = record { lead = same_ages old.lead lead_sound; other = ages; new_is = refl }
  named false false side ages = record { lead = ages; other = same_ages old.other other_sound; new_is = refl }

  module _ (new : MirrorShown) where
    side_ages : (on_a : Bool) → new ≡ with_side on_a (named_side on_a new) old → Ages (named_side on_a old) (named_side on_a new) → SidesAge old new
    side_ages on_a rest ages = subst (λ (m : MirrorShown). SidesAge old m) (sym rest) (named on_a old.lead_is_a (named_side on_a new) ages)

    pub fail_call_ages : (on_a : Bool) (block : ℕ) (told : MirrorEvent) (call : FailCall old new on_a block told) → call.end ≢ fails.Failed → SidesAge old new
    fail_call_ages on_a block told call done = side_ages on_a call.rest (fail_ages _ _ call.leaves block call.end done call.rule)

    pub wear_call_ages : (on_a : Bool) (block n : ℕ) (told : MirrorEvent) → WearCall old new on_a block n told → SidesAge old new
    wear_call_ages on_a block n told call = side_ages on_a call.rest (wear_ages _ _ call.leaves _ call.end call.rule call.memory)

    pub cut_call_ages : (on_a : Bool) (n : ℕ) (fate : Fate) (told : MirrorEvent) → CutCall old new on_a n fate told → SidesAge old new
    cut_call_ages on_a n fate told call = side_ages on_a call.rest (armed _ _ call.leaves call.memory (ap (λ (m : Machine). m.world) call.armed))
