-- Exactly what the objects in memory do at each call: for the forms in memory, and for tests that bring their bytes.
use Rattle.std.specs.Prelude.{◌≡◌, ℕ, ◌+◌, ◌<◌, ◌≤◌, ◌⊎◌, min, Option, Some, None, List, [], ◌∷◌, ◌++◌, length, take, drop}
use Rattle.model_bytes.specs.Bytes.{put_at, resized}
use Rattle.ram_outside.specs.Added.{AddsNow}
use Rattle.ram_outside.specs.Calls.{CallLog, NextCallFails, with_call, with_faults, with_failed_call}
use Rattle.ram_outside.specs.Opener.{Asking, OpenerView, opener_view, asking}
use Rattle.ram_outside.specs.declared.source.Take.{Take}
use Rattle.ram_outside.specs.declared.source.Take.TheVariants as takes
use Rattle.ram_outside.specs.declared.sink.Put.{Put}
use Rattle.ram_outside.specs.declared.sink.Put.TheVariants as puts
use Rattle.ram_outside.specs.declared.image.Length.{Length}
use Rattle.ram_outside.specs.declared.image.Length.TheVariants as lengths
use Rattle.ram_outside.specs.declared.image.Moved.{Moved}
use Rattle.ram_outside.specs.declared.image.Moved.TheVariants as moves
use Rattle.ram_outside.specs.declared.opener.Access.{Access}
use Rattle.ram_outside.specs.declared.opener.Opened.{Opened}
use Rattle.ram_outside.specs.declared.opener.Opened.TheVariants as openings

-- a source in memory: the bytes that are left, the most that it gives at once, and its calls (this project's own)
pub record SourceState : Type 0 where
  pub left : List ℕ
  pub piece : ℕ
  pub calls : CallLog

-- a sink in memory: the bytes that were written, how many it has room for, the most that it takes at once, how many bytes would have
-- been written had the last call that failed taken its whole piece, and its calls (this project's own)
pub record SinkState : Type 0 where
  pub written : List ℕ
  pub room : ℕ
  pub piece : ℕ
  pub refused : ℕ
  pub calls : CallLog

-- An image in memory: its bytes, how many it has room for, and its calls; and, where it keeps them, the bytes before each call that may
-- have changed them and was done, the newest first. (This project's own.)
pub record ImageState : Type 0 where
  pub bytes : List ℕ
  pub room : ℕ
  pub calls : CallLog
  pub earlier : Option (List (List ℕ))

-- the next call of an image fails: it is one that is to fail, or one had failed before (this project's own)
abbrev pub NextImageCallFails : CallLog → Type 0
NextImageCallFails log = NextCallFails log ⊎ (0 < log.faults)

-- an opener in memory: the images that it still has, the image that was handed back last and the one before that, the images that it was
-- asked for, in order, and its calls that open one (this project's own)
pub record OpenerState : Type 0 where
  pub next : Option ImageState
  pub after_next : Option ImageState
  pub returned : Option ImageState
  pub returned_before : Option ImageState
  pub asked : List Asking
  pub calls : CallLog

-- The next n bytes came, as many as fit the slice and one piece; what the slice held behind them stays in it. (This
-- project's own.)
pub record GivesPiece (old new : SourceState) (into into' : List ℕ) (n : ℕ) : Type 0 where
  pub no_failure : ¬ NextCallFails old.calls
  pub some : 0 < n
  pub many : n ≡ min (min old.piece (length into)) (length old.left)
  pub next : take n into' ≡ take n old.left
  pub behind : drop n into' ≡ drop n into
  pub new_state : new ≡ record old { left = drop n old.left; calls = with_call old.calls }

-- nothing was left, and nothing but the number of calls changed, the slice neither (this project's own)
pub record GivesNothing (old new : SourceState) (into into' : List ℕ) : Type 0 where
  pub no_failure : ¬ NextCallFails old.calls
  pub ended : old.left ≡ []
  pub new_state : new ≡ record old { calls = with_call old.calls }
  pub slice : into' ≡ into

-- the call is one that fails, and nothing but the calls changed, the slice neither (this project's own)
pub record FailsToGive (old new : SourceState) (into into' : List ℕ) : Type 0 where
  pub fails : NextCallFails old.calls
  pub new_state : new ≡ record old { calls = with_failed_call old.calls }
  pub slice : into' ≡ into

-- Exactly what `take` of a source in memory does, by its answer: the source before and after, and the slice before and
-- after. (This project's own.)
abbrev pub TakesExactly : SourceState → SourceState → List ℕ → List ℕ → Take → Type 0
TakesExactly old new into into' (takes.Got n) = GivesPiece old new into into' n
TakesExactly old new into into' takes.End = GivesNothing old new into into'
TakesExactly old new into into' takes.Failed = FailsToGive old new into into'

-- the first n bytes of the piece were written, as many as the sink takes at once (this project's own)
pub record TakesPiece (old new : SinkState) (piece : List ℕ) (n : ℕ) : Type 0 where
  pub no_failure : ¬ NextCallFails old.calls
  pub many : n ≡ min old.piece (length piece)
  pub written : new.written ≡ old.written ++ take n piece
  pub room : old.room ≤ new.room
  pub piece_stays : new.piece ≡ old.piece
  pub refused : new.refused ≡ old.refused
  pub calls : new.calls ≡ with_call old.calls

-- nothing was written, since the call is one that fails, or room was refused (this project's own)
pub record RefusesPiece (old new : SinkState) (piece : List ℕ) : Type 0 where
  pub cause : NextCallFails old.calls ⊎ (old.room < length old.written + min old.piece (length piece))
  pub written : new.written ≡ old.written
  pub room : old.room ≤ new.room
  pub piece_stays : new.piece ≡ old.piece
  pub refused : new.refused ≡ length old.written + length piece
  pub calls : new.calls ≡ with_failed_call old.calls

-- Exactly what `put` of a sink in memory does, by its answer. (This project's own.)
abbrev pub PutsExactly : SinkState → SinkState → List ℕ → Put → Type 0
PutsExactly old new piece (puts.Took n) = TakesPiece old new piece n
PutsExactly old new piece puts.Failed = RefusesPiece old new piece

-- Exactly what `len` of an image in memory does, by its answer. (This project's own.)
abbrev pub GivesLengthExactly : ImageState → ImageState → Length → Type 0
GivesLengthExactly old new (lengths.Is n) =
    (¬ NextImageCallFails old.calls) × (n ≡ length old.bytes) × (new ≡ record old { calls = with_call old.calls })
GivesLengthExactly old new lengths.Failed =
    NextImageCallFails old.calls × (new ≡ record old { calls = with_failed_call old.calls })

-- the slice has the bytes from here on, and nothing but the number of calls changed (this project's own)
pub record ReadsBytes (old new : ImageState) (at : ℕ) (into' : List ℕ) : Type 0 where
  pub no_failure : ¬ NextImageCallFails old.calls
  pub read : into' ≡ take (length into') (drop at old.bytes)
  pub new_state : new ≡ record old { calls = with_call old.calls }

-- the call is one that fails, and nothing but the calls changed, the slice neither (this project's own)
pub record FailsToRead (old new : ImageState) (into into' : List ℕ) : Type 0 where
  pub fails : NextImageCallFails old.calls
  pub new_state : new ≡ record old { calls = with_failed_call old.calls }
  pub slice : into' ≡ into

-- Exactly what `read_at` of an image in memory does, by its answer: the image before and after, and the slice before
-- and after. (This project's own.)
abbrev pub ReadsImageExactly : ImageState → ImageState → ℕ → List ℕ → List ℕ → Moved → Type 0
ReadsImageExactly old new at into into' moves.Done = ReadsBytes old new at into'
ReadsImageExactly old new at into into' moves.Failed = FailsToRead old new into into'

-- the image has these bytes now, and this call more; it keeps those of before, unless memory for that was refused (this project's own)
pub record ChangesBytes (old new : ImageState) (bytes : List ℕ) : Type 0 where
  pub no_failure : ¬ NextImageCallFails old.calls
  pub bytes_are : new.bytes ≡ bytes
  pub room : old.room ≤ new.room
  pub calls_are : new.calls ≡ with_call old.calls
  pub keeps : AddsNow old.bytes old.earlier new.earlier

-- no byte changed, and one call more failed (this project's own)
pub record FailsToChange (old new : ImageState) : Type 0 where
  pub same : new.bytes ≡ old.bytes
  pub room : old.room ≤ new.room
  pub calls_are : new.calls ≡ with_failed_call old.calls
  pub same_earlier : new.earlier ≡ old.earlier

-- Exactly what `write_at` of an image in memory does, by its answer: a call that fails writes nothing.
-- (This project's own.)
abbrev pub WritesImageExactly : ImageState → ImageState → ℕ → List ℕ → Moved → Type 0
WritesImageExactly old new at from moves.Done = ChangesBytes old new (put_at at from old.bytes)
WritesImageExactly old new at from moves.Failed = NextImageCallFails old.calls × FailsToChange old new

-- Exactly what `set_len` of an image in memory does, by its answer: it fails where the call fails, or where room was
-- refused, and then no byte changes. (This project's own.)
abbrev pub ResizesExactly : ImageState → ImageState → ℕ → Moved → Type 0
ResizesExactly old new len moves.Done = ChangesBytes old new (resized len old.bytes)
ResizesExactly old new len moves.Failed = (NextImageCallFails old.calls ⊎ (old.room < len)) × FailsToChange old new

-- Exactly what `sync` of an image in memory does, by its answer: it only counts its call. (This project's own.)
abbrev pub SyncsExactly : ImageState → ImageState → Moved → Type 0
SyncsExactly old new moves.Done = (¬ NextImageCallFails old.calls) × (new ≡ record old { calls = with_call old.calls })
SyncsExactly old new moves.Failed = NextImageCallFails old.calls × (new ≡ record old { calls = with_failed_call old.calls })

-- this image, with no failure counted (this project's own)
abbrev pub unfailed : ImageState → ImageState
unfailed image = record image { calls = record image.calls { faults = 0 } }

-- the opener after it was asked for this name too (this project's own)
abbrev pub and_asked_now : Access → List ℕ → OpenerState → OpenerState
and_asked_now access name opener = record opener { asked = opener.asked ++ asking access name ∷ [] }

-- Exactly what opening this name does of an opener in memory, by its answer: it fails where the call is one that fails,
-- or where no image is left; or where memory for the name was refused, and then it asked for nothing.
-- (This project's own.)
abbrev pub OpensExactly : Access → List ℕ → OpenerState → OpenerState → Opened ImageState → Type 0
OpensExactly access name old new (openings.Image image) =
    (¬ NextCallFails old.calls) × (old.next ≡ Some image)
    × (new ≡ record (and_asked_now access name old) { next = old.after_next; after_next = None; calls = with_call old.calls })
OpensExactly access name old new openings.Failed =
    ((NextCallFails old.calls ⊎ (old.next ≡ None))
    × (new ≡ record (and_asked_now access name old) { calls = with_failed_call old.calls }))
    ⊎ (new ≡ record old { calls = with_failed_call old.calls })

-- the opener after it took this image back (this project's own)
abbrev pub after_close : ImageState → OpenerState → OpenerState
after_close image opener = record opener {
  returned = Some image;
  returned_before = opener.returned;
  calls = with_faults image.calls.faults opener.calls;
}

-- what is known of an opener in memory, which is all of it (this project's own)
abbrev pub view_of : OpenerState → OpenerView ImageState
view_of opener =
    opener_view opener.next opener.after_next opener.returned opener.returned_before (Some opener.asked) opener.calls.faults
