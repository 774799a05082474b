-- What each call on the cell of one block of an image may do, by its answer: for the functions of `cells`.
use Rattle.std.specs.Prelude.{◌≡◌, ◌≢◌, ℕ, ◌+◌, ◌-◌, ◌<◌, ◌≤◌, min, Bool, MatchBool, Option, IfSome, List, length, slice_index, slice_range}
use Rattle.model_counts.specs.Counts.{Rose}
use Rattle.model_bytes.specs.Known.{WhereKnown}
use Rattle.model_medium.specs.Cells.{Cell, Good, Dead, IsGood, cell_at, cut_short}
use Rattle.model_medium.specs.declared.Fate.{Fate}
use Rattle.model_image.specs.Cells.{state_offset, cell_in, cells_of, SetsCell, StopsInCell, StopsInState}
use Rattle.model_image.specs.Writes.{good_state, with_state, with_block, worn_bytes, bytes_left, PutsInBlock, StopsInBytes, IsBeforeOrAfter}
use Rattle.ram_outside.specs.Image.{IsUnchanged, ImageFails}
use Rattle.ram_outside.specs.declared.image.Image.{Ghosts as Images}
use Rattle.ram_outside.specs.declared.image.Moved.{Moved}
use Rattle.ram_outside.specs.declared.image.Moved.TheVariants as moves
use Rattle.ram_image.specs.declared.cells.GoodRow.{GoodRow}
use Rattle.ram_image.specs.declared.cells.GoodRow.TheVariants as rows
use Rattle.ram_image.specs.declared.cells.StateRead.{StateRead}
use Rattle.ram_image.specs.declared.cells.StateRead.TheVariants as states

-- A call on the cell of a block: how many blocks there are and which it is, and the image's bytes, where they are
-- known, and its count of failures, before and after. (This project's own, as all here.)
pub record CellCall : Type 0 where
  pub total : ℕ
  pub block : ℕ
  pub before : Option (List ℕ)
  pub after : Option (List ℕ)
  pub faults : ℕ
  pub faults' : ℕ

-- the call on this block of an image of n, between these bytes and counts
abbrev pub call_between : ℕ → ℕ → Option (List ℕ) → Option (List ℕ) → ℕ → ℕ → CellCall
call_between total block before after faults faults' =
    record { total = total; block = block; before = before; after = after; faults = faults; faults' = faults' }

-- the call that made the second image of the first
abbrev pub cell_call : {I : Type 0} → Images I → ℕ → ℕ → I → I → CellCall
cell_call images total block old new =
    call_between total block (images.bytes old) (images.bytes new) (images.faults old) (images.faults new)

-- it changed and counted nothing
abbrev pub ChangesNothing : CellCall → Type 0
ChangesNothing call = IsUnchanged call.before call.after call.faults call.faults'

-- it failed, and changed nothing
abbrev pub FailsUnchanged : CellCall → Type 0
FailsUnchanged call = ImageFails call.before call.after call.faults call.faults'

-- it is done, its bytes are so related, and it counted nothing
abbrev pub IsDone : CellCall → (List ℕ → List ℕ → Type 0) → Type 0
IsDone call R = WhereKnown call.before call.after R × (call.faults' ≡ call.faults)

-- it failed, and what it left of the bytes is so related
abbrev pub FailsLeaving : CellCall → (List ℕ → List ℕ → Type 0) → Type 0
FailsLeaving call R = WhereKnown call.before call.after R × Rose call.faults call.faults'

-- which bytes a call changes, where it is done and where it fails
abbrev pub BytesRule : CellCall → (List ℕ → List ℕ → Type 0) → (List ℕ → List ℕ → Type 0) → Moved → Type 0
BytesRule call done failed moves.Done = WhereKnown call.before call.after done
BytesRule call done failed moves.Failed = WhereKnown call.before call.after failed

-- the state bytes of the blocks from one on up to another are those of good ones
abbrev pub HaveGoodStates : List ℕ → (from to : ℕ) → Type 0
HaveGoodStates held from to = (k : ℕ) → from ≤ k → k < to → slice_index held (state_offset k) ≡ good_state

-- n state bytes at the start are those of good blocks, and the next one, where there is one, is not
pub record LeadsWithGood (states : List ℕ) (count : ℕ) : Type 0 where
  pub inside : count ≤ length states
  pub good : (k : ℕ) → k < count → slice_index states k ≡ good_state
  pub next : count < length states → slice_index states count ≢ good_state

-- the state bytes that one look reads, from a block's own on: 64, or those up to the last block's
abbrev pub states_read : CellCall → List ℕ → List ℕ
states_read call held =
    slice_range held (state_offset call.block) (state_offset call.block + min 64 (call.total - call.block))

-- What a look at the state bytes from a block on may do, by its answer.
abbrev pub GoodRowRule : CellCall → GoodRow → Type 0
GoodRowRule call (rows.Blocks count) = ChangesNothing call × (call.block + count ≤ call.total)
    × IfSome call.before (λ held. HaveGoodStates held call.block (call.block + count))
    × IfSome call.before (λ held. count ≡ 0 → ¬ IsGood (cell_in call.total held call.block))
    × IfSome call.before (λ held. LeadsWithGood (states_read call held) count)
GoodRowRule call rows.Failed = FailsUnchanged call

-- What a read of a good block's data may do, by its answer; `into` is what the bytes that are read into then hold.
abbrev pub ReadDataRule : CellCall → List ℕ → Moved → Type 0
ReadDataRule call into moves.Done =
    ChangesNothing call × IfSome call.before (λ held. cell_in call.total held call.block ≡ Good into)
ReadDataRule call into moves.Failed = FailsUnchanged call

-- What a write of a block's cell may do, by its answer.
abbrev pub WriteCellRule : CellCall → List ℕ → Moved → Type 0
WriteCellRule call from moves.Done = IsDone call (SetsCell call.total call.block (Good from))
WriteCellRule call from moves.Failed = FailsLeaving call (StopsInCell call.total call.block from)

-- Which bytes it changes.
abbrev pub WriteCellBytes : CellCall → List ℕ → Moved → Type 0
WriteCellBytes call from =
    BytesRule call
    (λ held held'. held' ≡ with_block call.total call.block from held)
    (PutsInBlock call.total call.block from)

-- What a read of a block's state byte may do, by its answer.
abbrev pub ReadStateRule : CellCall → StateRead → Type 0
ReadStateRule call states.Dead =
    ChangesNothing call × IfSome call.before (λ held. cell_in call.total held call.block ≡ Dead)
ReadStateRule call states.Alive =
    ChangesNothing call × IfSome call.before (λ held. ¬ (cell_in call.total held call.block ≡ Dead))
ReadStateRule call states.Failed = FailsUnchanged call

-- What a write of a block's state byte may do that makes this cell, by its answer.
abbrev pub WriteStateRule : CellCall → Cell → Moved → Type 0
WriteStateRule call cell moves.Done = IsDone call (SetsCell call.total call.block cell)
WriteStateRule call cell moves.Failed = FailsLeaving call (StopsInState call.total call.block cell)

-- Which bytes it changes: the state byte alone, to this one.
abbrev pub WriteStateBytes : CellCall → ℕ → Moved → Type 0
WriteStateBytes call state =
    BytesRule call
    (λ held held'. held' ≡ with_state call.block state held)
    (λ held held'. IsBeforeOrAfter held (with_state call.block state held) held')

-- What making a block dead where it is to die may do, by its answer.
abbrev pub KillWhereRule : CellCall → Bool → Moved → Type 0
KillWhereRule call dies moves.Done =
    MatchBool dies (WhereKnown call.before call.after (SetsCell call.total call.block Dead)) (call.after ≡ call.before)
    × (call.faults' ≡ call.faults)
KillWhereRule call dies moves.Failed = FailsLeaving call (StopsInState call.total call.block Dead)

-- Which bytes it changes.
abbrev pub KillWhereBytes : CellCall → Bool → Moved → Type 0
KillWhereBytes call dies =
    BytesRule call
    (λ held held'. held' ≡ worn_bytes dies call.block held)
    (λ held held'. IsBeforeOrAfter held (worn_bytes dies call.block held) held')

-- A write of these bytes to a block was stopped, and the block is dead now if it was.
pub record StopsInLeaving (total block : ℕ) (bytes before after : List ℕ) : Type 0 where
  pub stops : StopsInCell total block bytes before after
  pub stays_dead : cell_at (cells_of total before) block ≡ Dead → cell_at (cells_of total after) block ≡ Dead

-- A write of these bytes to a block that ends by this fate: the block's cell is what the fate leaves of it.
abbrev pub LeavesByFate : ℕ → ℕ → List ℕ → Fate → List ℕ → List ℕ → Type 0
LeavesByFate total block bytes fate before after =
    SetsCell total block (cut_short fate bytes (cell_at (cells_of total before) block)) before after

-- What such a write may do, by its answer.
abbrev pub LeaveCellRule : CellCall → List ℕ → Fate → Moved → Type 0
LeaveCellRule call bytes fate moves.Done = IsDone call (LeavesByFate call.total call.block bytes fate)
LeaveCellRule call bytes fate moves.Failed = FailsLeaving call (StopsInLeaving call.total call.block bytes)

-- Which bytes it changes.
abbrev pub LeaveCellBytes : CellCall → List ℕ → Fate → Moved → Type 0
LeaveCellBytes call bytes fate =
    BytesRule call
    (λ held held'. held' ≡ bytes_left fate call.total call.block bytes held)
    (StopsInBytes call.total call.block bytes)
