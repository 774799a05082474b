-- How a fetch of a logical block ends.
use Rattle.std.specs.Prelude.{length, ◌<◌, ◌≤◌, ◌≡◌, ℕ, Bool, true, false, MatchBool, Result, Ok, Err, MatchResult, Some, None, List, []}
use Rattle.std.proofs.Common.{refl, sym, ap, ◌∙◌, inl, inr, subst, arith}
use Rattle.model_geometry.specs.Geometry.{Shape, total}
use Rattle.model_medium.specs.Cells.{IsSameOrDead, cell_at}
use Rattle.model_medium.specs.World.{World, Span, IsUse, IsOff}
use Rattle.model_buffer.specs.Buffer.{bytes_at, with_newest}
use Rattle.model_buffer.specs.declared.TheConstants.{BUFFERED_BLOCKS}
use Rattle.model_sectors.proofs.Covering.{bytes_at_none}
use Rattle.ram_transfer.proofs.Buffers.{bytes_at_used}
use Rattle.model_stops.specs.Stops.{Continues, Stops}
use Rattle.model_stops.specs.declared.Stop.{Stop}
use Rattle.model_stops.specs.declared.Stop.TheVariants as stops
use Rattle.model_places.specs.Places.{Lists, logical_count, home_of}
use Rattle.model_places.specs.Valid.{AreValid}
use Rattle.model_places.proofs.Homes.{home_inside}
use Rattle.ram_medium.specs.WholeBlocks.{EndedRead, StoppedRead, read_end}
use Rattle.ram_medium.specs.ReadInto.{bytes_read}
use Rattle.model_sectors.specs.Requests.{filled_by}
use Rattle.ram_transfer.specs.Blocks.{DiesAtMost, FromHome, IsFetched, CannotBeRead, Fetches, FetchStopped}
use Rattle.ram_transfer.specs.Reading.{KeepsBefore, ReadsPart}
use Rattle.ram_transfer.proofs.Buffers.{same_in_some, newest_twice}

-- the home of a logical block is a block of the medium
pub home_below : (shape : Shape) (lists : Lists) (i home blocks : ℕ) → AreValid shape lists → i < logical_count shape lists → home ≡ home_of shape lists i → blocks ≡ total shape → home < blocks
home_below shape lists i home blocks valid within home_is size =
    let inside = home_inside shape lists valid.primary valid.together.secondary i within in
    omega arith

-- one use leaves the other cells as they were
pub use_dies : (old new : World) (home : ℕ) → IsUse old new home → IsSameOrDead (cell_at old.cells home) (cell_at new.cells home) → DiesAtMost old.cells new.cells home
use_dies old new home one left = record { others = one.others; left = left }

pub off_dies : (old new : World) (home : ℕ) → IsOff old new → DiesAtMost old.cells new.cells home
off_dies old new home off = record {
  others = λ other ne. ap (λ (w : World). cell_at w.cells other) off.nothing;
  left = inl (ap (λ (w : World). cell_at w.cells home) off.nothing);
}

module _ {M : Type 0} (world : M → World) (reaches : M → M → Span → Type 0) (old new : M) (held : List (ℕ × List ℕ)) (i home : ℕ) (few : length held ≤ BUFFERED_BLOCKS) (not_found : bytes_at i held ≡ None) (into bytes : List ℕ) where
  read_it : (found : Bool) → found ≡ true → EndedRead (world old) (world new) home into bytes found → Continues world reaches old new 1 → FromHome world reaches old new held i home bytes
  read_it true e rule continues = record {
    continues = continues;
    not_buffered = bytes_at_none i held not_found;
    same_cells = rule.same;
    gives = rule.gives;
  }
  read_it false e rule continues = absurd (cc)

  -- it was read, and put into the buffer
  pub read_in : (found : Bool) → found ≡ true → EndedRead (world old) (world new) home into bytes found → Continues world reaches old new 1 → (held' : List (ℕ × List ℕ)) → held' ≡ with_newest i bytes held
      → IsFetched world reaches old new held i home bytes held'
  read_in found e rule continues held' is = record { buffer_is = is; came = inr (read_it found e rule continues); few = few }

  -- it was put into the buffer, and is found there
  pub fetched : (found : Bool) → found ≡ true → EndedRead (world old) (world new) home into bytes found → Continues world reaches old new 1
      → (put : List (ℕ × List ℕ)) → put ≡ with_newest i bytes held → (room out : List ℕ) (held' : List (ℕ × List ℕ)) (there : Bool)
      → MatchBool there ((bytes_at i put ≡ Some out) × (held' ≡ with_newest i out put)) ((bytes_at i put ≡ None) × (held' ≡ put) × (out ≡ room))
      → Fetches world reaches old new held i home out held' there
  fetched found e rule continues put put_is room out held' true looked =
      let same : bytes ≡ out = same_in_some (sym (bytes_at_used i bytes held) ∙ sym (ap (bytes_at i) put_is) ∙ looked.0) in
      record {
        buffer_is = looked.1 ∙ ap (with_newest i out) (put_is ∙ ap (λ (b : List ℕ). with_newest i b held) same) ∙ newest_twice i out held;
        came = inr (subst (FromHome world reaches old new held i home) same (read_it found e rule continues));
        few = few;
      }
  fetched found e rule continues put put_is room out held' false looked =
      absurd (let none : Some bytes ≡ None = sym (bytes_at_used i bytes held) ∙ sym (ap (bytes_at i) put_is) ∙ looked.0 in cc)

  pub unread : (found : Bool) → found ≡ false → EndedRead (world old) (world new) home into bytes found → Continues world reaches old new 1
      → CannotBeRead world reaches old new held i home held
  unread true e rule continues = absurd (cc)
  unread false e rule continues = record {
    continues = continues;
    not_buffered = bytes_at_none i held not_found;
    buffer_is = refl;
    dies = use_dies (world old) (world new) home rule.one rule.left;
    not_good = rule.not_good;
    few = few;
  }

  stops_there : (stop : Stop) → Stops world reaches old new 1 stop → DiesAtMost (world old).cells (world new).cells home → FetchStopped world reaches old new held i home stop
  stops_there stop stopped dies = record { stops = stopped; not_buffered = bytes_at_none i held not_found; dies = dies; few = few }

  pub halted : (stop : Stop) → StoppedRead (world old) (world new) home into bytes stop → Stops world reaches old new 1 stop → FetchStopped world reaches old new held i home stop
  halted stops.Cut rule stopped = stops_there stops.Cut stopped (use_dies (world old) (world new) home rule.one rule.left)
  halted stops.Off rule stopped = stops_there stops.Off stopped (off_dies (world old) (world new) home rule.0)
  halted stops.Fault rule stopped = stops_there stops.Fault stopped (use_dies (world old) (world new) home rule.one rule.left)

-- a part was read past the buffer, whatever that has but its block: `into'` are the caller's bytes after it
module _ {M : Type 0} (world : M → World) (reaches : M → M → Span → Type 0) (old new : M) (lba n block home : ℕ) (bytes into into' : List ℕ) (kept : KeepsBefore lba block into into') (filled : into' ≡ filled_by lba n block bytes into) where
  pub read_past_it : (read : Result Bool Stop) → MatchResult read (EndedRead (world old) (world new) home [] (bytes_read (read_end read) bytes)) (StoppedRead (world old) (world new) home [] [])
      → MatchResult read (λ whole. Continues world reaches old new 1) (Stops world reaches old new 1) → (held : List (ℕ × List ℕ)) → length held ≤ BUFFERED_BLOCKS → bytes_at block held ≡ None
      → MatchResult read (ReadsPart world reaches old new held lba n block home true held into into') (FetchStopped world reaches old new held block home)
  read_past_it (Ok true) rule continues held few none = record {
    due = with_newest block bytes held;
    copied = record { bytes = bytes; fetched = read_in world reaches old new held block home few none [] bytes true refl rule continues (with_newest block bytes held) refl; copied = filled };
    kept = refl;
  }
  read_past_it (Ok false) rule continues held few none = record { unread = unread world reaches old new held block home few none [] [] false refl rule continues; before = kept }
  read_past_it (Err stop) rule continues held few none = halted world reaches old new held block home few none [] [] stop rule continues
