-- What a write does with the parts of its request, and what the drive stands for after it. (This project's own, as all
-- here.)
use Rattle.std.specs.Prelude.{◌≡◌, ℕ, ◌⊎◌, Bool, true, IsTrue, MatchBool, List, length}
use Rattle.model_geometry.specs.Geometry.{Shape}
use Rattle.model_medium.specs.World.{World, Span}
use Rattle.model_medium.specs.Machine.{Machine}
use Rattle.model_buffer.specs.Buffer.{with_newest}
use Rattle.model_sectors.specs.Discs.{Standing}
use Rattle.model_sectors.specs.Requests.{is_partly, start_in, merged_in}
use Rattle.model_stops.specs.declared.Stop.{Stop}
use Rattle.model_places.specs.Places.{Lists, home_of}
use Rattle.model_volume.specs.Given.{AreSettled}
use Rattle.model_drive.specs.declared.WriteOut.{WriteOut}
use Rattle.model_drive.specs.declared.WriteOut.TheVariants as outs
use Rattle.model_drive.specs.Shown.{Shown, StandsFor}
use Rattle.model_drive.specs.Blocks.{PutsBlock, FindsNoSpare, FindsNoCopy, StopsAtBlock}
use Rattle.model_drive.specs.Writes.{WriteCause, WriteStep}
use Rattle.ram_transfer.specs.Blocks.{IsFetched, CannotBeRead, FetchStopped}
use Rattle.ram_transfer.specs.Shown.{shown_without, shown_under}
use Rattle.ram_transfer.specs.Stopped.{write_stopped_by}

-- What the drive stands for after a write, for each thing that it stood for.
abbrev pub WriteSteps : Shown → Shown → (lba n : ℕ) → List ℕ → WriteOut → Type 0
WriteSteps old new lba n bytes out = (s : Standing) → StandsFor old s → WriteStep new (StandsFor new) s lba n bytes out

-- The medium and the buffered blocks before a part of a request, and the logical block of the part with its home.
module _ {M : Type 0} (world : M → World) (reaches : M → M → Span → Type 0)
    (old : M) (held : List (ℕ × List ℕ)) (lba n i home : ℕ) where
  -- the medium, the block in work and the buffered blocks after the look for the rest of the block
  module _ (new : M) (rest : List ℕ) (held' : List (ℕ × List ℕ)) where
    -- the request covers all of the block, and nothing was done
    pub record NeedsNoRest : Type 0 where
      pub wholly : ¬ IsTrue (is_partly lba n i)
      pub unused : new ≡ old
      pub same_buffer : held' ≡ held

    -- it covers the block in part, and the block was fetched
    pub record HasFetched : Type 0 where
      pub partly : IsTrue (is_partly lba n i)
      pub fetched : IsFetched world reaches old new held i home rest held'

    -- it covers the block in part, and the block cannot be read
    pub record LacksItsRest : Type 0 where
      pub partly : IsTrue (is_partly lba n i)
      pub unread : CannotBeRead world reaches old new held i home held'

    -- the block can be merged with its part of the request
    abbrev pub HasRest : Type 0
    HasRest = NeedsNoRest ⊎ HasFetched

    -- what the look for the rest finds, by whether the block can be written
    abbrev pub BringsRest : Bool → Type 0
    BringsRest ready = MatchBool ready HasRest LacksItsRest

  -- the look for the rest was stopped
  pub record RestStopped (new : M) (stop : Stop) : Type 0 where
    pub partly : IsTrue (is_partly lba n i)
    pub stopped : FetchStopped world reaches old new held i home stop

-- The media before and after the write of a part, the lists in use, the buffered blocks, and the bytes of the request.
module _ {M : Type 0} (world : M → World) (reaches : M → M → Span → Type 0)
    (shape : Shape) (old new : M) (lists lists' : Lists)
    (held held' : List (ℕ × List ℕ)) (lba n i : ℕ) (bytes : List ℕ) where
  -- The rest of the block was in hand, and its part was merged into it. Then came what the rest of the record says.
  pub record AfterRest (Then : M → List ℕ → List (ℕ × List ℕ) → Type 0) : Type 0 where
    pub mid : M
    pub rest : List ℕ
    pub held_mid : List (ℕ × List ℕ)
    pub has : HasRest world reaches old held lba n i (home_of shape lists i) mid rest held_mid
    pub full : length rest ≡ 32768
    pub then_did : Then mid (merged_in lba n bytes i rest) held_mid

  -- the block is written, and is buffered: as it was put, where cells are known
  pub record PutsPart (mid : M) (put : List ℕ) (held_mid : List (ℕ × List ℕ)) : Type 0 where
    pub puts : PutsBlock world reaches shape mid new lists i put lists'
    pub back : List ℕ
    pub buffer_is : held' ≡ with_newest i back held_mid
    pub as_put : (world mid).known ≡ true → back ≡ put

  -- no spare is left for it, and it is named by its first sector of the request
  pub record PartMeetsNoSpare (named : ℕ) (mid : M) (put : List ℕ) (held_mid : List (ℕ × List ℕ)) : Type 0 where
    pub finds : FindsNoSpare world reaches shape mid new lists i put lists'
    pub buffer_is : held' ≡ held_mid
    pub named_is : named ≡ start_in lba i

  -- the list of this counter could not be updated for it
  pub record PartMeetsNoCopy (counter : ℕ) (mid : M) (put : List ℕ) (held_mid : List (ℕ × List ℕ)) : Type 0 where
    pub finds : FindsNoCopy world reaches shape mid new lists i put lists' counter
    pub buffer_is : held' ≡ held_mid

  -- its rest cannot be read: it is named by its first sector of the request, and by its home
  pub record MeetsUnread (named home : ℕ) : Type 0 where
    pub rest : List ℕ
    pub lacks : LacksItsRest world reaches old held lba n i (home_of shape lists i) new rest held'
    pub same : lists' ≡ lists
    pub named_is : named ≡ start_in lba i
    pub home_is : home ≡ home_of shape lists i

  -- what the write of a part does, by its answer: that of a write which was not stopped
  abbrev pub WritesPart : WriteOut → Type 0
  WritesPart outs.Good = AfterRest PutsPart
  WritesPart outs.NotFormatted = ⊥
  WritesPart (outs.Range capacity) = ⊥
  WritesPart (outs.Unread named home) = MeetsUnread named home
  WritesPart (outs.NoSpare named) = AfterRest (PartMeetsNoSpare named)
  WritesPart (outs.NoUpdate counter) = AfterRest (PartMeetsNoCopy counter)
  WritesPart outs.Cut = ⊥
  WritesPart outs.Off = ⊥
  WritesPart outs.Fault = ⊥

-- the write of a part was stopped: in the look for its rest, or in the block
abbrev pub PartStops : {M : Type 0} → (M → World) → (M → M → Span → Type 0) → Shape → (old new : M) → Lists
    → List (ℕ × List ℕ) → (lba n i : ℕ) → List ℕ → Stop → Type 0
PartStops world reaches shape old new lists held lba n i bytes stop =
    RestStopped world reaches old held lba n i (home_of shape lists i) new stop
    ⊎ AfterRest world reaches shape old new lists lists held held lba n i bytes
    (λ mid put held_mid. StopsAtBlock world reaches shape mid new lists i put stop)

-- The machines before and after the write of all parts, the lists in use and the buffered blocks before, and the request.
module _ (shape : Shape) (old new : Machine) (lists : Lists) (held : List (ℕ × List ℕ)) (lba n : ℕ) (bytes : List ℕ) where
  -- It went to its end, and these lists are in use then, and these blocks buffered. The structure is as it was.
  pub record EndsParts (lists' : Lists) (held' : List (ℕ × List ℕ)) (out : WriteOut) : Type 0 where
    pub cause : WriteCause (shown_under shape old lists held) (shown_under shape new lists' held') lba n out
    pub steps : WriteSteps (shown_under shape old lists held) (shown_under shape new lists' held') lba n bytes out
    pub is_on : IsTrue new.world.power
    pub settled : AreSettled shape new.world.cells lists'
    pub same_dds : lists'.dds ≡ lists.dds

  -- It was stopped, and nothing is kept.
  pub record StopsParts (stop : Stop) : Type 0 where
    pub cause : WriteCause (shown_under shape old lists held) (shown_without shape new) lba n (write_stopped_by stop)
    pub steps : WriteSteps (shown_under shape old lists held) (shown_without shape new) lba n bytes (write_stopped_by stop)
    pub is_off : ¬ IsTrue new.world.power
