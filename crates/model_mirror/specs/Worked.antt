-- A mirror of two small discs: for the worked numbers. (This project's own.)
use Rattle.std.specs.Prelude.{ℕ, true, false, Bool, None, List, []}
use Rattle.model_drive.specs.Worked.{small_drive}
use Rattle.model_lists.specs.Records.{first_record}
use Rattle.model_mirror.specs.Leading.{Noted}
use Rattle.model_mirror.specs.Shown.{MirrorShown}

-- the first record with this number
abbrev pub small_record : ℕ → Noted
small_record number = record { seen = true; most = number; held = record first_record { generation = number } }

-- a mirror of two small discs that are not formatted
abbrev pub small_mirror : (lead_is_a on up : Bool) → List Bool → MirrorShown
small_mirror lead_is_a on up table = record {
  lead = small_drive [] None 0 0;
  other = small_drive [] None 0 0;
  lead_is_a = lead_is_a;
  on = on;
  up = up;
  table = table;
  who = record { known = true; by_hand = false; lead = small_record 2; other = small_record 1 };
}
