-- What the fields of a reader of lines stand for, and what every reader keeps: for the functions of the reader alone.
use Rattle.std.specs.Prelude.{◌≡◌, ◌≤◌, vec_len, slice_range}
use Rattle.ram_text.specs.Lines.{Reading, IsFirstFeed}
use Rattle.ram_text.specs.declared.lines.TheConstants.{ROOM, SCRIPT_LIMIT}
use Rattle.ram_text.specs.declared.lines.LineReader.TheInside.{Inside}

-- what the reader's fields stand for (this project's own)
abbrev pub reading_by : Inside → Reading
reading_by r = record {
  line = slice_range r.bytes.items r.line_start r.line_end;
  buffered = slice_range r.bytes.items r.start r.end;
  taken = r.taken;
}

-- what every reader keeps (this project's own)
pub record IsWhole (r : Inside) : Type 0 where
  pub room : vec_len r.bytes ≡ ROOM
  pub line_ordered : r.line_start ≤ r.line_end
  pub line_inside : r.line_end ≤ ROOM
  pub ordered : r.start ≤ r.end
  pub inside : r.end ≤ ROOM
  pub searched : IsFirstFeed (slice_range r.bytes.items r.start r.end) r.feed
  pub within : r.taken ≤ SCRIPT_LIMIT
