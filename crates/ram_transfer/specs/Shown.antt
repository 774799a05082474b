-- What a drive shows, by what it keeps in memory: for the transfers, and the states of a drive above them. (This project's own,
-- as all here.)
use Rattle.std.specs.Prelude.{ℕ, Some, None, List, []}
use Rattle.model_geometry.specs.Geometry.{Shape}
use Rattle.model_medium.specs.Machine.{Machine}
use Rattle.model_places.specs.Places.{Lists}
use Rattle.model_drive.specs.Shown.{Shown}

-- what a drive with its power off shows of its medium: it keeps nothing in memory
abbrev pub shown_without : Shape → Machine → Shown
shown_without shape machine = record { shape = shape; medium = machine; lists = None; mark = 0; buffer = [] }

-- what one with its power on shows, where its disc is not formatted: it buffers nothing
abbrev pub shown_unformatted : Shape → Machine → ℕ → Shown
shown_unformatted shape machine mark =
    record { shape = shape; medium = machine; lists = None; mark = mark; buffer = [] }

-- what one shows with these lists in use: its mark is the counter of their structure
abbrev pub shown_under : Shape → Machine → Lists → List (ℕ × List ℕ) → Shown
shown_under shape machine lists buffer = record {
  shape = shape;
  medium = machine;
  lists = Some lists;
  mark = lists.dds.counter;
  buffer = buffer;
}
