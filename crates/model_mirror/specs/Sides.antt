-- The sides of a mirror by their names, whichever leads. (This project's own, as all here.)
use Rattle.std.specs.Prelude.{◌⊎◌, if◌then◌else◌, Bool, true, false}
use Rattle.model_counts.specs.Counts.{Rose}
use Rattle.model_drive.specs.Shown.{Shown}
use Rattle.model_drive.specs.Faults.{faults}
use Rattle.model_mirror.specs.Shown.{MirrorShown}

-- what side a shows, whichever leads
abbrev pub side_a : MirrorShown → Shown
side_a shown = if shown.lead_is_a then shown.lead else shown.other

-- what side b shows
abbrev pub side_b : MirrorShown → Shown
side_b shown = if shown.lead_is_a then shown.other else shown.lead

-- what the side of this name shows
abbrev pub named_side : (on_a : Bool) → MirrorShown → Shown
named_side true shown = side_a shown
named_side false shown = side_b shown

-- what one side lies on failed in between, and that was counted
abbrev pub OneFailed : MirrorShown → MirrorShown → Type 0
OneFailed old new = Rose (faults (side_a old)) (faults (side_a new)) ⊎ Rose (faults (side_b old)) (faults (side_b new))
