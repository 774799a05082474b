-- Copies of a list of one cell or two in each area: what they hold, and what a stopped call may leave of them: for all that
-- reads or writes secondary lists. (This project's own, as all here.)
use Rattle.std.specs.Prelude.{◌≡◌, ℕ, zero, suc, ◌+◌, ◌≤◌, ◌⊎◌, List}
use Rattle.model_geometry.specs.declared.kinds.LayoutKind.{LayoutKind}
use Rattle.model_geometry.specs.declared.kinds.LayoutKind.TheVariants.{OneGroup, EachZone}
use Rattle.model_geometry.specs.Geometry.{Shape, dds_block, sdl_block, sdl_second_block}
use Rattle.model_medium.specs.Cells.{Cell, Blank, Good, Torn, Dead, cell_at}
use Rattle.model_lists.specs.Values.{Dds, Sdl}
use Rattle.model_lists.specs.Texts.{IsDdsText, IsTwo, IsSdlText, IsSdlSecond, IsMore, NamesCounter}
use Rattle.model_copies.specs.Copies.{IsArea, Holds, MayHold, Settled, IsMarked, IsMarkedWithin, Rewrites}

-- A list is given by the texts of its parts: that of the first, that of the second, and which values have two. The first
-- part of an area's copy lies in one block, the second in another.
module _ {V : Type 0} (two : V → Type 0) (first second : V → List ℕ → Type 0) where
  -- two values have as many parts: they are of one version
  abbrev pub AreAlike : V → V → Type 0
  AreAlike v w = (two v → two w) × (two w → two v)

  module _ (place place' : ℕ → ℕ) where
    module _ (cells : List Cell) where
      -- A text of this value is made of the first cell of one area and, where it has two parts, the second cell of
      -- another: both can be read.
      pub record HasParts (value : V) (a b : ℕ) : Type 0 where
        pub is_area : IsArea a
        pub is_area' : IsArea b
        pub holds : Holds first (cell_at cells (place a)) value
        pub holds' : two value → Holds second (cell_at cells (place' b)) value

      -- the copy of this area can be read, and is the text of this value
      abbrev pub HasWhole : V → ℕ → Type 0
      HasWhole value area = HasParts value area area

      -- each cell of the four copies of this value is exactly its part of the text, or dead
      pub record AreExact (value : V) : Type 0 where
        pub firsts : Settled first place cells value
        pub seconds : two value → Settled second place' cells value

      -- a value has no copy left: in each area one of its cells is dead
      abbrev pub LosesAll : V → Type 0
      LosesAll value = (area : ℕ) → IsArea area
          → (cell_at cells (place area) ≡ Dead) ⊎ (two value × (cell_at cells (place' area) ≡ Dead))

      -- each cell of the four copies of this value that can be read holds its part of the text
      pub record AreHeldBy (value : V) : Type 0 where
        pub firsts : (area : ℕ) → IsArea area → (bytes : List ℕ) → cell_at cells (place area) ≡ Good bytes
            → first value bytes
        pub seconds : two value → (area : ℕ) → IsArea area → (bytes : List ℕ)
            → cell_at cells (place' area) ≡ Good bytes → second value bytes

      -- some copy can be read that is of the version of this value
      pub record SomeAlike (value : V) : Type 0 where
        pub other : V
        pub area : ℕ
        pub copy : HasWhole other area
        pub alike : AreAlike other value

      -- Each text of the version of one of two values that is made of two cells that can be read, also of two areas, is that
      -- of one of them, while some copy of that version can be read.
      abbrev pub ArePartsBetween : V → V → Type 0
      ArePartsBetween a b = (value : V) (x y : ℕ) → HasParts value x y → SomeAlike value
          → AreAlike value a ⊎ AreAlike value b
          → (value ≡ a) ⊎ (value ≡ b)

    module _ (old new : List Cell) where
      -- what a stopped write of the value's text may leave of the cells of its copies; the others stay
      pub record MayLeaveParts (value : V) : Type 0 where
        pub firsts : (area : ℕ) → IsArea area
            → MayHold first (cell_at old (place area)) value (cell_at new (place area))
        pub seconds : (area : ℕ) → IsArea area → (cell_at new (place' area) ≡ cell_at old (place' area))
            ⊎ (two value × MayHold second (cell_at old (place' area)) value (cell_at new (place' area)))

      -- a dead cell of a copy stays dead
      pub record StayDead : Type 0 where
        pub firsts : (area : ℕ) → IsArea area → cell_at old (place area) ≡ Dead → cell_at new (place area) ≡ Dead
        pub seconds : (area : ℕ) → IsArea area → cell_at old (place' area) ≡ Dead → cell_at new (place' area) ≡ Dead

      -- The copies hold nothing new: each cell is as it was, or torn or dead, or holds its part of what some copy held
      -- before.
      pub record PartsHoldNothingNew : Type 0 where
        pub firsts : (area : ℕ) → IsArea area → (cell_at new (place area) ≡ cell_at old (place area))
            ⊎ (cell_at new (place area) ≡ Torn)
            ⊎ (cell_at new (place area) ≡ Dead)
            ⊎ ((value : V) × (at : ℕ) × HasWhole old value at × Holds first (cell_at new (place area)) value)
        pub seconds : (area : ℕ) → IsArea area → (cell_at new (place' area) ≡ cell_at old (place' area))
            ⊎ (cell_at new (place' area) ≡ Torn)
            ⊎ (cell_at new (place' area) ≡ Dead)
            ⊎ ((value : V) × (at : ℕ) × two value × HasWhole old value at
            × Holds second (cell_at new (place' area)) value)

-- a text of this secondary list is made of the first cell of one area and the second of another
abbrev pub HasSdlParts : Shape → List Cell → Sdl → ℕ → ℕ → Type 0
HasSdlParts shape cells value a b =
    HasParts IsTwo IsSdlText IsSdlSecond (sdl_block shape) (sdl_second_block shape) cells value a b

-- the disc's copy of its secondary list in this area is the text of this value
abbrev pub HasSdlCopy : Shape → List Cell → Sdl → ℕ → Type 0
HasSdlCopy shape cells value area = HasSdlParts shape cells value area area

-- each cell of the four copies is exactly its part of the text of this secondary list, or dead
abbrev pub SdlIsExact : Shape → List Cell → Sdl → Type 0
SdlIsExact shape cells value =
    AreExact IsTwo IsSdlText IsSdlSecond (sdl_block shape) (sdl_second_block shape) cells value

-- this secondary list has no copy left
abbrev pub SdlIsLost : Shape → List Cell → Sdl → Type 0
SdlIsLost shape cells value =
    LosesAll IsTwo IsSdlText IsSdlSecond (sdl_block shape) (sdl_second_block shape) cells value

-- each text of a version of these secondary lists is one of theirs
abbrev pub SdlIsBetween : Shape → List Cell → Sdl → Sdl → Type 0
SdlIsBetween shape cells a b =
    ArePartsBetween IsTwo IsSdlText IsSdlSecond (sdl_block shape) (sdl_second_block shape) cells a b

-- the first cell of a copy names this counter of a structure
abbrev pub Names : Cell → ℕ → Type 0
Names Blank counter = ⊥
Names (Good bytes) counter = NamesCounter bytes counter
Names Torn counter = ⊥
Names Dead counter = ⊥

-- no first cell of a secondary list names a greater counter of a structure than this
abbrev pub NamesWithin : Shape → List Cell → ℕ → Type 0
NamesWithin shape cells most = (counter area : ℕ) → IsArea area
    → Names (cell_at cells (sdl_block shape area)) counter → counter ≤ most

-- The secondary list is settled: each cell of its four copies is exactly its part of the text or dead; or it has no copy
-- left, and no first cell names a greater counter of a structure. It is said so that it has one proof at most.
abbrev pub SdlIsSettled : Shape → List Cell → Sdl → Type 0
SdlIsSettled shape cells value = ¬ (SdlIsLost shape cells value × NamesWithin shape cells value.dds_counter)
    → SdlIsExact shape cells value

-- What a structure counts for the mark of a disc: its counter where its layout is of the disc's kind, and else 0.
abbrev pub counter_by : (disc its : LayoutKind) → (counter : ℕ) → ℕ
counter_by OneGroup OneGroup counter = counter
counter_by OneGroup EachZone counter = 0
counter_by EachZone OneGroup counter = 0
counter_by EachZone EachZone counter = counter

abbrev pub counter_for : Shape → Dds → ℕ
counter_for shape dds = counter_by shape.layout dds.layout dds.counter

-- No readable copy of a disc definition structure of this kind has, and no first cell of a secondary list names, a greater counter of a
-- structure than this.
pub record AreMarkedWithin (shape : Shape) (cells : List Cell) (most : ℕ) : Type 0 where
  pub dds : IsMarkedWithin IsDdsText (dds_block shape) cells (counter_for shape) most
  pub sdl : NamesWithin shape cells most

-- some first cell of a secondary list names this counter
pub record IsNamed (shape : Shape) (cells : List Cell) (mark : ℕ) : Type 0 where
  pub area : ℕ
  pub is_area : IsArea area
  pub names : Names (cell_at cells (sdl_block shape area)) mark

-- The greatest counter of a structure that the first cells of the secondary list name, and 0 where there is none.
pub record IsGreatestName (shape : Shape) (cells : List Cell) (mark : ℕ) : Type 0 where
  pub within : NamesWithin shape cells mark
  pub reached : (mark ≡ 0) ⊎ IsNamed shape cells mark

-- The mark of a disc: the greatest counter of a disc definition structure that a readable copy of one has or that the first
-- cell of a secondary list names, and 0 where there is none.
pub record Mark (shape : Shape) (cells : List Cell) (mark : ℕ) : Type 0 where
  pub within : AreMarkedWithin shape cells mark
  pub reached : (mark ≡ 0) ⊎ IsMarked IsDdsText (dds_block shape) cells (counter_for shape) mark
      ⊎ IsNamed shape cells mark

-- Of the four copies of the secondary list just n were written again: those whose cells were not exactly its text
-- when they were read.
abbrev pub RewritesSdl : Shape → List Cell → List Cell → Sdl → ℕ → Type 0
RewritesSdl shape old new value count = Rewrites (λ cell. Holds IsSdlText cell value) (sdl_block shape) old new 4 count

-- the first cell of a copy is that of a list of two parts, by its front
abbrev pub GoesOn : Cell → Type 0
GoesOn Blank = ⊥
GoesOn (Good bytes) = (names : ℕ) × IsMore bytes names
GoesOn Torn = ⊥
GoesOn Dead = ⊥

-- how many of the first cells of the first k areas go on
abbrev pub CountMores : Shape → List Cell → ℕ → ℕ → Type 0
CountMores shape cells zero count = count ≡ 0
CountMores shape cells (suc k) count = (GoesOn (cell_at cells (sdl_block shape (suc k)))
    × ((before : ℕ) × (count ≡ before + 1) × CountMores shape cells k before))
    ⊎ (¬ GoesOn (cell_at cells (sdl_block shape (suc k))) × CountMores shape cells k count)

-- how many copies of the first n areas can be read whole, where a test says which cells are exactly their parts
module _ {V : Type 0} (two : V → Type 0) (first second : V → List ℕ → Type 0) (place place' : ℕ → ℕ)
    (cells : List Cell) (value : V) where
  -- how many of the copies of the first k areas are exactly the text
  abbrev pub HaveCopies : ℕ → ℕ → Type 0
  HaveCopies zero count = count ≡ 0
  HaveCopies (suc k) count = (HasWhole two first second place place' cells value (suc k)
      × ((before : ℕ) × (count ≡ before + 1) × HaveCopies k before))
      ⊎ (¬ HasWhole two first second place place' cells value (suc k) × HaveCopies k count)
