-- How the lead is given to a side by hand, by which is named first. (This project's own.)
use Rattle.std.specs.Prelude.{not, Bool, true, false}
use Rattle.model_drive.specs.Shown.{Shown}
use Rattle.model_mirror.specs.declared.GiveOut.{GiveOut}
use Rattle.model_mirror.specs.declared.GiveOut.TheVariants as outs
use Rattle.model_mirror.specs.Shown.{MirrorShown}
use Rattle.model_mirror.specs.Giving.{Gives}
use Rattle.ram_mirror.specs.declared.following.Following.{Following}
use Rattle.ram_mirror.specs.Sides.{shown_as}

-- the side that is named first is meant
abbrev pub GivesNamed : MirrorShown → MirrorShown → GiveOut → Type 0
GivesNamed old new out = Gives false old new out

-- the other one is: it is named first where it has the lead then
abbrev pub GivesOver : Bool → (lead other : Shown) → Following → (other' : Shown) → Following → GiveOut → Type 0
GivesOver side lead other was other' now outs.Given =
    Gives true (shown_as side lead other was) (shown_as (not side) other' lead now) outs.Given
GivesOver side lead other was other' now out =
    Gives true (shown_as side lead other was) (shown_as side lead other' now) out

-- whether the lead was given
abbrev pub is_given : GiveOut → Bool
is_given outs.Given = true
is_given _ = false
