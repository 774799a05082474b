-- The roles of two sides that are exchanged back.
use Rattle.std.proofs.Common.{◌≡◌, Bool, true, false, not, refl, ap, ◌∙◌}
use Rattle.model_drive.specs.Shown.{Shown}
use Rattle.model_mirror.specs.Leading as values
use Rattle.model_mirror.specs.Shown.{exchanged}
use Rattle.ram_mirror.specs.declared.following.Following.{Following}
use Rattle.ram_mirror.specs.declared.noted.Leading.{Leading}
use Rattle.ram_mirror.specs.Notes.{leading_of}
use Rattle.model_mirror.specs.declared.GiveOut.{GiveOut}
use Rattle.model_mirror.specs.declared.GiveOut.TheVariants as outs
use Rattle.model_mirror.specs.Giving.{GiveLeadCause}
use Rattle.ram_sectors.specs.declared.Sectors.{Ghosts as Drives}
use Rattle.ram_mirror.specs.Sides.{shown_as}
use Rattle.ram_mirror.specs.Giving.{GivesOver, is_given}
use Rattle.ram_mirror.specs.Mirrors.{roles}

back : (b : Bool) → b ≡ not (not b)
back true = refl
back false = refl

pub last_turned : (side : Bool) (lead other : Shown) (now : Following) (who : Leading) → leading_of who ≡ values.exchanged_leading (leading_of now.who)
    → shown_as side lead other (record now { who = who }) ≡ exchanged (shown_as (not side) other lead now)
last_turned side lead other now who is =
    ap (λ (w : values.Leading). record (shown_as side lead other now) { who = w }) is ∙ ap (λ (b : Bool). record (shown_as b lead other now) { who = values.exchanged_leading (leading_of now.who) }) (back side)

-- the lead was given, or was not, to the side that did not have it
module _ {A B : Type 0} (a : Drives A) (b : Drives B) where
  pub over_a : (x x' : A) (y : B) (was now : Following) (out : GiveOut) → GivesOver false (b.shows y) (a.shows x) was (a.shows x') now out → GiveLeadCause (roles a b false x y was) (roles a b (is_given out) x' y now) true out
  over_a x x' y was now outs.Given gives = gives
  over_a x x' y was now (outs.NoUpdate counter) gives = gives
  over_a x x' y was now outs.Cut gives = gives
  over_a x x' y was now outs.Off gives = gives
  over_a x x' y was now outs.Fault gives = gives

  pub over_b : (x : A) (y y' : B) (was now : Following) (out : GiveOut) → GivesOver true (a.shows x) (b.shows y) was (b.shows y') now out → GiveLeadCause (roles a b true x y was) (roles a b (not (is_given out)) x y' now) false out
  over_b x y y' was now outs.Given gives = gives
  over_b x y y' was now (outs.NoUpdate counter) gives = gives
  over_b x y y' was now outs.Cut gives = gives
  over_b x y y' was now outs.Off gives = gives
  over_b x y y' was now outs.Fault gives = gives
