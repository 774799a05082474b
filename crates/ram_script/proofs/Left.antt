-- What the lines of a script leave of an image, by how they end.
use Rattle.std.specs.Prelude.{ℕ, Option, Ok, Err, List}
use Rattle.std.proofs.Common.{inr}
use Rattle.ram_machine.specs.declared.stopped.Stopped.TheVariants as stopped
use Rattle.ram_machine.specs.States.{State}
use Rattle.ram_machine.specs.Inserted.{LeavesImage}
use Rattle.ram_script.specs.Progress.{Beginning, View, Ending, Ends}
use Rattle.ram_script.specs.Leaving.{LeavesBy}
use Rattle.ram_script.proofs.Finishes.{comes_to}

-- what the lines leave of the image
pub leaves_by : (first : Beginning) (stands : State → Type 0) (image : Option (List ℕ)) → ((s : State) → stands s → LeavesImage s image) → (view : View) (ending : Ending) → Ends first stands view ending → LeavesBy first view.tally image ending
leaves_by first stands image leaves view (Ok done) e = record { far = e.far; ended = e.stopped_at.last_is.0; tallied = e.stopped_at.tallied; image_is = leaves e.far.now e.stands_now }
leaves_by first stands image leaves view (Err stopped.NotInLanguage) e = record { far = e.far; last_is = e.stopped_at.last_is; image_is = leaves e.far.now e.stands_now }
leaves_by first stands image leaves view (Err stopped.LineTooLong) e = record { far = e.far; last_is = e.stopped_at.last_is; image_is = leaves e.far.now e.stands_now }
leaves_by first stands image leaves view (Err stopped.ScriptTooLong) e = record { far = e.far; last_is = e.stopped_at.last_is; image_is = leaves e.far.now e.stands_now }
leaves_by first stands image leaves view (Err stopped.NotADisc) e = record { far = e.far; last_is = e.stopped_at.last_is; image_is = leaves e.far.now e.stands_now }
leaves_by first stands image leaves view (Err stopped.SourceFault) e = record { far = e.far; last_is = tt; image_is = leaves e.far.now e.stands_now }
leaves_by first stands image leaves view (Err stopped.SinkFault) e = record { far = e.far; last_is = tt; image_is = leaves e.far.now e.stands_now }
leaves_by first stands image leaves view (Err stopped.ImageFault) e = inr (record { far = e.far; line = comes_to first stands image leaves e.far (Err stopped.ImageFault) e.line })
