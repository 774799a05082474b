-- That a block can be read until it dies, over expansions and rewriting formats.
use Rattle.std.specs.Prelude.{◌≡◌, ℕ, ◌*◌, ◌<◌, ◌≤◌, Option, Some}
use Rattle.std.specs.Option.{option_map_or}
use Rattle.std.proofs.Common.{arith, sym, ap, ◌∙◌, inl, inr, subst}
use Rattle.model_medium.specs.Cells.{IsGoodOrDead, cell_at}
use Rattle.model_stops.specs.declared.Stop.{Stop}
use Rattle.model_stops.specs.declared.Stop.TheVariants as stops
use Rattle.model_places.specs.Places.{Lists, logical_count}
use Rattle.model_places.specs.Valid.{AreaGrows, AreValid}
use Rattle.model_volume.specs.Given.{IsListBlock, OnlyLists}
use Rattle.model_volume.specs.Expansions.{lists_expanded}
use Rattle.model_volume.proofs.ListCells.{sdl_listed, second_listed}
use Rattle.model_volume.proofs.Expanding.{home_kept}
use Rattle.model_drive.specs.declared.ExpandOut.{ExpandOut}
use Rattle.model_drive.specs.declared.ExpandOut.TheVariants as expands
use Rattle.model_drive.specs.declared.FormatOut.{FormatOut}
use Rattle.model_drive.specs.declared.FormatOut.TheVariants as formats
use Rattle.model_drive.specs.Shown.{Shown, IsKnown, capacity, cells_in}
use Rattle.model_drive.specs.Sound.{IsSound}
use Rattle.model_drive.specs.Expands.{ssa_for, OnlySdl, ExpandsAny, StopsInExpansion, ExpandCause}
use Rattle.model_drive.specs.Rewriting.{StopsInRewrite, RewriteCause}
use Rattle.model_drive.proofs.ExpandSteps.{lawful_area, larger_area, left_blocks}
use Rattle.model_fairness.proofs.Calls.{none_some}
use Rattle.model_costs.specs.Costs.{LivesUnder, Lives}
use Rattle.model_costs.proofs.Living.{under_lists, make, nothing_living, by_in_use}

only_lists : (old new : Shown) → OnlySdl old new → OnlyLists old.shape (cells_in old) (cells_in new)
only_lists old new only block away = only block (λ area is same. away (subst (λ (b : ℕ). IsListBlock old.shape b) (sym same) (sdl_listed old.shape area is)))
    (λ area is same. away (subst (λ (b : ℕ). IsListBlock old.shape b) (sym same) (second_listed old.shape area is)))

module _ (i : ℕ) (old new : Shown) (same : new.shape ≡ old.shape) (old_sound : IsSound old) (sound : IsSound new) (was_known : IsKnown old) (is_known : IsKnown new) (lives : Lives old i) where
  -- ---- an expansion

  module _ (sectors : ℕ) (lists : Lists) (any : ExpandsAny old new sectors lists) where
    valid : AreValid old.shape lists
    valid = (old_sound.in_use lists any.in_use).valid

    now : LivesUnder old.shape (cells_in new) lists i
    now = under_lists i old.shape (cells_in old) (cells_in new) lists valid (only_lists old new any.only) (lives.in_use lists any.in_use)

    present_is : capacity old ≡ logical_count old.shape lists * 16
    present_is = ap (λ (o : Option Lists). option_map_or (logical_count old.shape) o 0 * 16) any.in_use

    fewer : sectors ≤ logical_count old.shape lists * 16
    fewer = subst (λ (n : ℕ). sectors ≤ n) present_is any.lawful.fewer

    larger : LivesUnder old.shape (cells_in new) (lists_expanded old.shape lists (ssa_for old.shape sectors)) i
    larger h =
        let area = lawful_area old.shape lists valid sectors any.lawful.some any.lawful.whole fewer any.lawful.most (subst (λ (n : ℕ). sectors < n → AreaGrows old.shape) present_is any.lawful.grows) in
        let grows = larger_area old.shape lists valid sectors any.lawful.some any.lawful.whole fewer any.lawful.most in
        let left = left_blocks old.shape lists valid sectors any.lawful.some any.lawful.whole fewer any.lawful.most in
        let few = fewer in
        subst (λ (b : ℕ). IsGoodOrDead (cell_at (cells_in new) b)) (sym (home_kept old.shape lists (ssa_for old.shape sectors) valid area grows i h)) (now (omega (arith, left, few, h)))

  expand_stops_living : (sectors : ℕ) (stop : Stop) → StopsInExpansion old new sectors stop → Lives new i
  expand_stops_living sectors stop stopped = make i old new same
      (λ lists is. elim (stopped.given was_known lists is) [
        | inl older ↦ subst (λ (l : Lists). LivesUnder old.shape (cells_in new) l i) (sym older) (now sectors stopped.lists stopped.any)
        | inr newer ↦ subst (λ (l : Lists). LivesUnder old.shape (cells_in new) l i) (sym newer) (larger sectors stopped.lists stopped.any)
      ])
      (λ lists is. absurd (none_some lists new.lists stopped.stopped.no_lists is))

  pub expand_living : (sectors : ℕ) (out : ExpandOut) → ExpandCause old new sectors out → Lives new i
  expand_living sectors expands.Good (inl stays) = by_in_use i old new same sound is_known stays.lists (stays.keeps.same_lists ∙ stays.any.in_use) (now sectors stays.lists stays.any)
  expand_living sectors expands.Good (inr grows) =
      by_in_use i old new same sound is_known (lists_expanded old.shape grows.lists (ssa_for old.shape sectors)) grows.now_in_use (larger sectors grows.lists grows.any)
  expand_living sectors expands.NotFormatted cause = nothing_living i old new same cause.nothing lives
  expand_living sectors (expands.Refused known) cause = nothing_living i old new same cause.nothing lives
  expand_living sectors (expands.NoUpdate counter) cause = by_in_use i old new same sound is_known cause.lists (cause.keeps.same_lists ∙ cause.any.in_use) (now sectors cause.lists cause.any)
  expand_living sectors expands.Cut cause = expand_stops_living sectors stops.Cut cause
  expand_living sectors expands.Off cause = nothing_living i old new same cause.nothing lives
  expand_living sectors expands.Fault cause = expand_stops_living sectors stops.Fault cause

  -- ---- a rewriting format

  module _ (lists : Lists) (in_use : old.lists ≡ Some lists) where
    mended : OnlyLists old.shape (cells_in old) (cells_in new) → LivesUnder old.shape (cells_in new) lists i
    mended only = under_lists i old.shape (cells_in old) (cells_in new) lists (old_sound.in_use lists in_use).valid only (lives.in_use lists in_use)

    rewrite_stops_living : (stop : Stop) → StopsInRewrite old new lists stop → Lives new i
    rewrite_stops_living stop stopped = make i old new same
        (λ other is. under_lists i old.shape (cells_in old) (cells_in new) other is.valid stopped.only (lives.given other (stopped.given was_known other is)))
        (λ other is. absurd (none_some other new.lists stopped.stopped.no_lists is))

    pub rewrite_living : (out : FormatOut) → RewriteCause old new lists out → Lives new i
    rewrite_living formats.Good cause = by_in_use i old new same sound is_known lists (cause.both.keeps.same_lists ∙ in_use) (mended cause.both.only)
    rewrite_living (formats.TooMany found) cause = absurd cause
    rewrite_living (formats.NoUpdate counter) cause = by_in_use i old new same sound is_known lists (cause.both.keeps.same_lists ∙ in_use) (mended cause.both.only)
    rewrite_living formats.Cut cause = rewrite_stops_living stops.Cut cause
    rewrite_living formats.Off cause = nothing_living i old new same cause.nothing lives
    rewrite_living formats.Fault cause = rewrite_stops_living stops.Fault cause
