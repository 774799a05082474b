-- What one use of a controllable medium makes of it, whatever it makes of the cell of its block.
use Rattle.std.specs.Prelude.{◌≡◌, ◌≢◌, ℕ, ◌⊎◌, Bool, true, false, IsTrue, if◌then◌else◌, Some, None, List, set}
use Rattle.std.proofs.Common.{refl, sym, ap, ◌∙◌, inl, inr, subst}
use Rattle.std.proofs.lemmas.Bool.{cases_eq, cases_Bool}
use Rattle.model_counts.specs.Counts.{counted}
use Rattle.model_medium.specs.Cells.{Cell, Torn, Dead, cell_at, IsGood, IsGoodOrDead}
use Rattle.model_medium.specs.Machine.{Machine, arms_after, is_killed, cells_worn, fate_due, cut_after, IsToCome}
use Rattle.model_medium.specs.Reach.{Lasts, NoCutCame, CutCame, IsWornWithin, WornBy, CutStands, CutFell, Reach}
use Rattle.model_medium.specs.declared.Fate.{Fate}
use Rattle.model_medium.proofs.CellFacts.{cell_at-set_same, cell_at-set_dead, cell_at-set_other, good_or_dead-good, IsTame, IsKind, IsHarsh}
use Rattle.model_medium.proofs.Arms.{worn_within-killed, worn_by-one, cut_stands-one, cut_fell-one}

-- A use of a block, after which its cell is what this change makes of it.
pub record Used (old new : Machine) (block : ℕ) (change : Cell → Cell) : Type 0 where
  pub was_on : IsTrue old.world.power
  pub same_label : new.world.label ≡ old.world.label
  pub as_known : new.world.known ≡ old.world.known
  pub counts : new.world.uses ≡ counted old.world.uses 1
  pub no_fault : new.world.faults ≡ old.world.faults
  pub cells : new.world.cells ≡ set (cells_worn block old.arms old.world.cells) block (change (cell_at (cells_worn block old.arms old.world.cells) block))
  pub arms : new.arms ≡ arms_after block old.arms
  pub cut : new.cut ≡ cut_after old.cut

module _ (cells : List Cell) (block : ℕ) where
  worn_other : (killed : Bool) (other : ℕ) → other ≢ block → cell_at (if killed then set cells block Dead else cells) other ≡ cell_at cells other
  worn_other true other ne = cell_at-set_other cells block other Dead ne
  worn_other false other ne = refl

  pub worn_killed : (killed : Bool) → killed ≡ true → cell_at (if killed then set cells block Dead else cells) block ≡ Dead
  worn_killed true e = cell_at-set_dead cells block
  worn_killed false e = absurd (cc)

  pub worn_spared : (killed : Bool) → killed ≡ false → cell_at (if killed then set cells block Dead else cells) block ≡ cell_at cells block
  worn_spared true e = absurd (cc)
  worn_spared false e = refl

  worn_dead : (killed : Bool) → cell_at cells block ≡ Dead → cell_at (if killed then set cells block Dead else cells) block ≡ Dead
  worn_dead true e = cell_at-set_dead cells block
  worn_dead false e = e

module _ (old new : Machine) (block : ℕ) (change : Cell → Cell) (used : Used old new block change) (tame : IsTame change) where
  abbrev worn : List Cell
  worn = cells_worn block old.arms old.world.cells

  pub cell_here : cell_at new.world.cells block ≡ change (cell_at worn block)
  cell_here = ap (λ cells. cell_at cells block) used.cells ∙ cell_at-set_same worn block change tame.dead_stays

  pub cell_other : (other : ℕ) → other ≢ block → cell_at new.world.cells other ≡ cell_at old.world.cells other
  cell_other other ne =
      ap (λ cells. cell_at cells other) used.cells ∙ cell_at-set_other worn block other (change (cell_at worn block)) ne
      ∙ worn_other old.world.cells block (is_killed block old.arms) other ne

  pub dead_here : cell_at old.world.cells block ≡ Dead → cell_at new.world.cells block ≡ Dead
  dead_here e = cell_here ∙ ap change (worn_dead old.world.cells block (is_killed block old.arms) e) ∙ tame.dead_stays

  pub killed_here : is_killed block old.arms ≡ true → cell_at new.world.cells block ≡ Dead
  killed_here e = cell_here ∙ ap change (worn_killed old.world.cells block (is_killed block old.arms) e) ∙ tame.dead_stays

  pub spared_here : is_killed block old.arms ≡ false → cell_at new.world.cells block ≡ change (cell_at old.world.cells block)
  spared_here e = cell_here ∙ ap change (worn_spared old.world.cells block (is_killed block old.arms) e)

  dead_stays : (other : ℕ) → cell_at old.world.cells other ≡ Dead → cell_at new.world.cells other ≡ Dead
  dead_stays other e = elim (cases_eq other block) [
    | inl same ↦ ap (cell_at new.world.cells) same ∙ dead_here (ap (cell_at old.world.cells) (sym same) ∙ e)
    | inr ne ↦ cell_other other ne ∙ e
  ]

  dies_here : cell_at new.world.cells block ≡ Dead → (cell_at old.world.cells block ≡ Dead) ⊎ IsWornWithin 1 block old.arms
  dies_here e = elim (cases_Bool (is_killed block old.arms)) [
    | inl killed ↦ inr (worn_within-killed block old.arms killed)
    | inr spared ↦ inl (tame.none_dies (cell_at old.world.cells block) (sym (spared_here spared) ∙ e))
  ]

  dies : (other : ℕ) → cell_at new.world.cells other ≡ Dead → (cell_at old.world.cells other ≡ Dead) ⊎ IsWornWithin 1 other old.arms
  dies other e = elim (cases_eq other block) [
    | inl same ↦ subst (λ b. (cell_at old.world.cells b ≡ Dead) ⊎ IsWornWithin 1 b old.arms) (sym same) (dies_here (ap (cell_at new.world.cells) (sym same) ∙ e))
    | inr ne ↦ inl (sym (cell_other other ne) ∙ e)
  ]

  lasts_one : Lasts old.world new.world 1
  lasts_one = record { same_label = used.same_label; as_known = used.as_known; counts = used.counts; no_fault = used.no_fault; stays_dead = dead_stays }

  arms_one : WornBy 1 new.world.cells old.arms new.arms
  arms_one = subst (WornBy 1 new.world.cells old.arms) (sym used.arms) (worn_by-one block new.world.cells old.arms killed_here)

  pub reach_by : ((NoCutCame old.world new.world × CutStands 1 old.cut new.cut) ⊎ (CutCame old.world new.world × CutFell 1 old.cut new.cut)) → Reach old new 1
  reach_by ends = record { lasts = lasts_one; off_is_still = λ off. absurd (off used.was_on); dies_by_arm = dies; arms = arms_one; ends = ends }

-- no cut was due
pub reach_on : (old new : Machine) (block : ℕ) (change : Cell → Cell) → Used old new block change → IsKind change → fate_due old.cut ≡ None → new.world.power ≡ old.world.power → new.world.cuts ≡ old.world.cuts
    → Reach old new 1
reach_on old new block change used kind not_due power cuts =
    reach_by old new block change used kind.tame
    (inl (record { power_same = power; no_cut = cuts; stays_good = good }, subst (CutStands 1 old.cut) (sym used.cut) (cut_stands-one old.cut not_due)))
  where
    good : (other : ℕ) → IsGood (cell_at old.world.cells other) → IsGoodOrDead (cell_at new.world.cells other)
    good other h = elim (cases_eq other block) [
      | inl same ↦ elim (cases_Bool (is_killed block old.arms)) [
        | inl killed ↦ subst IsGoodOrDead (sym (ap (cell_at new.world.cells) same ∙ killed_here old new block change used kind.tame killed)) tt
        | inr spared ↦ subst IsGoodOrDead (sym (ap (cell_at new.world.cells) same ∙ spared_here old new block change used kind.tame spared))
            (kind.stays_good (cell_at old.world.cells block) (subst IsGood (ap (cell_at old.world.cells) same) h))
      ]
      | inr ne ↦ subst IsGoodOrDead (sym (cell_other old new block change used kind.tame other ne)) (good_or_dead-good (cell_at old.world.cells other) h)
    ]

-- a cut was due
pub reach_off : (old new : Machine) (block : ℕ) (change : Cell → Cell) (fate : Fate) → Used old new block change → IsHarsh change → IsToCome old.cut → fate_due old.cut ≡ Some fate → ¬ IsTrue new.world.power
    → new.world.cuts ≡ counted old.world.cuts 1 → Reach old new 1
reach_off old new block change fate used harsh to_come due power cuts =
    reach_by old new block change used harsh.tame
    (inr (
      record { was_on = used.was_on; turns_off = power; one_cut = cuts; torn = block; others_stay_good = others; one_torn = here },
      subst (CutFell 1 old.cut) (sym used.cut) (cut_fell-one old.cut fate to_come due),
    ))
  where
    others : (other : ℕ) → other ≢ block → IsGood (cell_at old.world.cells other) → IsGoodOrDead (cell_at new.world.cells other)
    others other ne h = subst IsGoodOrDead (sym (cell_other old new block change used harsh.tame other ne)) (good_or_dead-good (cell_at old.world.cells other) h)

    here : IsGood (cell_at old.world.cells block) → IsGoodOrDead (cell_at new.world.cells block) ⊎ (cell_at new.world.cells block ≡ Torn)
    here h = elim (cases_Bool (is_killed block old.arms)) [
      | inl killed ↦ inl (subst IsGoodOrDead (sym (killed_here old new block change used harsh.tame killed)) tt)
      | inr spared ↦ subst (λ cell. IsGoodOrDead cell ⊎ (cell ≡ Torn)) (sym (spared_here old new block change used harsh.tame spared)) (harsh.may_tear (cell_at old.world.cells block) h)
    ]
