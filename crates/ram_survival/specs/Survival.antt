-- That no cut loses the disc, in a user's words: which lines keep a disc formatted, what holds of it from one to the next, and which
-- capacity it may have. For the laws of runs. (This project's own, as all here.)
use Rattle.std.specs.Prelude.{◌≡◌, ℕ, ◌*◌, ◌==◌, Option, None, Some, Result, Ok, Err, List, [], ◌∷◌, All}
use Rattle.std.specs.List.{Contains, filter}
use Rattle.model_geometry.specs.Geometry.{Shape, IsLawful, shape_of}
use Rattle.model_lists.specs.declared.versions.Version.{Version}
use Rattle.model_places.specs.Places.{Lists, count_of}
use Rattle.model_drive.specs.declared.Kind.TheVariants as kinds
use Rattle.model_drive.specs.Expands.{ssa_for}
use Rattle.model_lasting.specs.Lasting.{KeepsTwoCopies, StaysFormatted}
use Rattle.model_sense.specs.declared.sense.Sense.{Sense}
use Rattle.model_sense.specs.declared.answer.Answer.TheVariants as answers
use Rattle.model_cdb.specs.declared.commands.Command.{Command}
use Rattle.model_cdb.specs.declared.commands.Command.TheVariants as commands
use Rattle.model_cdb.specs.Decoding.{decoded}
use Rattle.ram_report.specs.declared.printing.Event.TheVariants as events
use Rattle.ram_text.specs.declared.script.Line.{Line}
use Rattle.ram_text.specs.declared.script.Line.TheVariants as lines
use Rattle.ram_machine.specs.declared.reply.Reply.{Reply}
use Rattle.ram_machine.specs.declared.reply.Reply.TheVariants as replies
use Rattle.ram_machine.specs.declared.stopped.Stopped.TheVariants as stopped
use Rattle.ram_machine.specs.Replies.{Outcome}
use Rattle.ram_machine.specs.States.{State, Unopened, Disc}
use Rattle.ram_machine.specs.LineSteps.{Step}
use Rattle.ram_machine.specs.Runs.{Run}
use Rattle.ram_machine.specs.Answered.{AnsweredStep}
use Rattle.ram_machine.specs.OnlyTold.{UnlessTold}

-- a command makes no disc anew: it is no full format
abbrev pub KeepsAsAsked : Command → Type 0
KeepsAsAsked (commands.Format (kinds.Full drop_sdl)) = ⊥
KeepsAsAsked _ = Unit {0}

-- the same of a command block; one that is refused does nothing
abbrev pub KeepsAsDecoded : Result Command Sense → Type 0
KeepsAsDecoded (Ok asked) = KeepsAsAsked asked
KeepsAsDecoded (Err why) = Unit {0}

-- The same of a line, with its data: it is no press of a lawful geometry, and no full format.
abbrev pub KeepsDisc : Line → (payload : List ℕ) → Type 0
KeepsDisc (lines.Press zones scale psa) payload = ¬ IsLawful (shape_of zones scale psa)
KeepsDisc (lines.Command cdb) payload = KeepsAsDecoded (decoded cdb payload)
KeepsDisc _ payload = Unit {0}

-- so it is of each of these lines, unless it was only told that it is not done
abbrev pub KeepDisc : List AnsweredStep → Type 0
KeepDisc events = All (UnlessTold KeepsDisc) events

-- a command asks for no expansion
abbrev pub AsksNoExpansion : Result Command Sense → Type 0
AsksNoExpansion (Ok (commands.Expand sectors)) = ⊥
AsksNoExpansion _ = Unit {0}

-- the same of a line
abbrev pub LeavesCapacity : Line → (payload : List ℕ) → Type 0
LeavesCapacity (lines.Command cdb) payload = AsksNoExpansion (decoded cdb payload)
LeavesCapacity _ payload = Unit {0}

-- none of these lines asks for an expansion, unless it was only told that it is not done
abbrev pub LeaveCapacity : List AnsweredStep → Type 0
LeaveCapacity events = All (UnlessTold LeavesCapacity) events

-- The sizes that the supplementary area may have after an expansion that was to leave n sectors: the one that leaves them,
-- where it was good; that one too, where the power was cut or the image failed; and else those that it might have before.
abbrev pub sizes_outcome : Shape → (sectors : ℕ) → Outcome → List ℕ → List ℕ
sizes_outcome shape sectors (Ok (replies.Command cdb answers.Good)) sizes = ssa_for shape sectors ∷ []
sizes_outcome shape sectors (Ok (replies.Command cdb answers.Cut)) sizes = ssa_for shape sectors ∷ sizes
sizes_outcome shape sectors (Ok reply) sizes = sizes
sizes_outcome shape sectors (Err why) sizes = ssa_for shape sectors ∷ sizes

-- the same of any command: no other changes them
abbrev pub sizes_asked : Shape → Result Command Sense → Outcome → List ℕ → List ℕ
sizes_asked shape (Ok (commands.Expand sectors)) outcome sizes = sizes_outcome shape sectors outcome sizes
sizes_asked shape asked outcome sizes = sizes

-- the same of a `power` line: where it tells a capacity, the sizes that give it
abbrev pub sizes_powered : Shape → Outcome → List ℕ → List ℕ
sizes_powered shape (Ok (replies.Event (events.Ready known))) sizes =
    filter (λ ssa. count_of shape ssa * 16 == known) sizes
sizes_powered shape outcome sizes = sizes

-- The same of a line, with its data: no other line changes them.
abbrev pub sizes_with : Shape → Line → (payload : List ℕ) → Outcome → List ℕ → List ℕ
sizes_with shape lines.Power payload outcome sizes = sizes_powered shape outcome sizes
sizes_with shape (lines.Command cdb) payload outcome sizes = sizes_asked shape (decoded cdb payload) outcome sizes
sizes_with shape line payload outcome sizes = sizes

-- The same of a run, whose newest line comes first.
abbrev pub sizes_after : Shape → List AnsweredStep → List ℕ → List ℕ
sizes_after shape [] sizes = sizes
sizes_after shape (event ∷ events) sizes =
    sizes_with shape event.line event.payload (Ok event.reply) (sizes_after shape events sizes)

-- a disc has this capacity with an area of one of these sizes
abbrev pub IsCapacityBy : Shape → (sizes : List ℕ) → (known : ℕ) → Type 0
IsCapacityBy shape sizes known = (ssa : ℕ) × Contains sizes ssa × (known ≡ count_of shape ssa * 16)

-- the disc in the drive has this geometry
abbrev pub HasShape : Shape → State → Type 0
HasShape shape (Unopened image) = ⊥
HasShape shape (Disc s) = s.disc.shown.drive.shape ≡ shape

-- the power is on, the disc is formatted, and these lists are in use
abbrev pub HasInUse : State → Lists → Type 0
HasInUse (Unopened image) lists = ⊥
HasInUse (Disc s) lists = s.disc.shown.drive.lists ≡ Some lists

-- at least two copies of each list have no dead cell, where the secondary list is of this version
abbrev pub HasTwoCopies : State → Version → Type 0
HasTwoCopies (Unopened image) version = ⊥
HasTwoCopies (Disc s) version = KeepsTwoCopies s.disc.shown.drive version

-- The disc in the drive stays formatted, with a supplementary area of one of these sizes: its lists can be found, by its cells alone
-- with the power off.
abbrev pub LastsNow : State → Version → (sizes : List ℕ) → Type 0
LastsNow (Unopened image) version sizes = ⊥
LastsNow (Disc s) version sizes = StaysFormatted s.disc.shown.drive version sizes

-- the answer to a `power` line: ready, or cut
abbrev pub IsReadyOrCut : Reply → Type 0
IsReadyOrCut (replies.Event (events.Ready capacity)) = Unit {0}
IsReadyOrCut (replies.Event events.Cut) = Unit {0}
IsReadyOrCut _ = ⊥

-- The image failed in this line, which ended the run.
pub record FaultEnds (s : State) (line : Line) (payload : List ℕ) (t : State) : Type 0 where
  pub data_in : List ℕ
  pub step : Step s line payload (Err stopped.ImageFault) data_in t
  pub keeps : KeepsDisc line payload

-- A run leaves its image in this state: after these lines, or after these and one more, with its data, in which the image failed.
abbrev pub RunLeaves : State → List AnsweredStep → Option (Line × List ℕ) → State → Type 0
RunLeaves s events None t = Run s events t
RunLeaves s events (Some last) t = (before : State) × Run s events before × FaultEnds before last.0 last.1 t

-- the sizes that the area may have then
abbrev pub sizes_left : Shape → List AnsweredStep → Option (Line × List ℕ) → List ℕ → List ℕ
sizes_left shape events None sizes = sizes_after shape events sizes
sizes_left shape events (Some last) sizes =
    sizes_with shape last.0 last.1 (Err stopped.ImageFault) (sizes_after shape events sizes)
