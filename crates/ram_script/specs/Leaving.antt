-- How the lines of a script end over an image, and what they leave of it, where no last line is printed.
use Rattle.std.specs.Prelude.{◌≡◌, ℕ, ◌⊎◌, Option, Some, Ok, Err, List, []}
use Rattle.ram_report.specs.declared.printing.LastLine.{LastLine}
use Rattle.ram_script.specs.declared.state.Tally.{Tally}
use Rattle.ram_machine.specs.declared.stopped.Stopped.TheVariants as stopped
use Rattle.ram_machine.specs.Replies.{Outcome}
use Rattle.ram_machine.specs.Inserted.{LeavesImage}
use Rattle.ram_script.specs.Progress.{Beginning, SoFar, IsTallied, IsLastIfAny, Ending, last_line}
use Rattle.ram_script.specs.Endings.{ComesToThis}

-- The script was answered to its end: the tally is that of the lines, and the image is as they leave it. (This
-- project's own, as all here.)
pub record IsAnsweredWhole (first : Beginning) (tally : Tally) (image : Option (List ℕ)) : Type 0 where
  pub far : SoFar first
  pub ended : far.rest ≡ []
  pub tallied : IsTallied far tally
  pub image_is : LeavesImage far.now image

-- The lines ended between two of them, for the reason that this last line tells, and the image is as they leave it.
pub record IsLeftBetween (first : Beginning) (image : Option (List ℕ)) (last : Option LastLine) : Type 0 where
  pub far : SoFar first
  pub last_is : IsLastIfAny far last
  pub image_is : LeavesImage far.now image

-- The next line came out so, and the image is as it leaves it.
pub record IsLeftInLine (first : Beginning) (image : Option (List ℕ)) (outcome : Outcome) : Type 0 where
  pub far : SoFar first
  pub line : ComesToThis far image outcome

-- the run did not begin, and the image has the bytes that it had, or the next line came out so
abbrev pub IsLeftBy : Beginning → Option (List ℕ) → Outcome → Type 0
IsLeftBy first image outcome = (image ≡ Some first.image) ⊎ IsLeftInLine first image outcome

-- How the lines end, and what they leave of the image.
abbrev pub LeavesBy : Beginning → Tally → Option (List ℕ) → Ending → Type 0
LeavesBy first tally image (Ok done) = IsAnsweredWhole first tally image
LeavesBy first tally image (Err stopped.ImageFault) = IsLeftBy first image (Err stopped.ImageFault)
LeavesBy first tally image ending = IsLeftBetween first image (last_line tally ending)
