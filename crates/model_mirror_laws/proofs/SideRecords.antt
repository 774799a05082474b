-- What a call of one side leaves of the copies of its record.
use Rattle.std.specs.Prelude.{◌≡◌, ◌≢◌, ℕ, ◌+◌, ◌<◌, ◌≤◌, List, true, Option, Some, None, IsSome, length}
use Rattle.std.specs.Option.{option_map_or}
use Rattle.std.specs.List.{Contains}
use Rattle.std.proofs.Common.{refl, sym, ap, ◌∙◌, inl, inr, subst, arith}
use Rattle.std.proofs.lemmas.Bool.{false≢true}
use Rattle.model_geometry.specs.Geometry.{Shape, data_blocks, record_block}
use Rattle.model_geometry.proofs.ListBlocks.{record_no_dds, record_no_sdl, record_no_second, no_data_block_record}
use Rattle.model_medium.specs.Cells.{cell_at}
use Rattle.model_sectors.specs.Requests.{block_with, blocks_covered}
use Rattle.model_sectors.specs.declared.ReadOut.{ReadOut}
use Rattle.model_sectors.specs.declared.ReadOut.TheVariants as reads
use Rattle.model_sectors.specs.declared.PowerOut.{PowerOut}
use Rattle.model_sectors.specs.declared.PowerOut.TheVariants as power_outs
use Rattle.model_places.specs.Places.{Lists, home_of}
use Rattle.model_places.specs.Valid.{AreValid}
use Rattle.model_volume.specs.Given.{IsListBlock}
use Rattle.model_volume.proofs.ListCells.{list_block_cases}
use Rattle.model_volume.proofs.Moved.{home_is_data_block, free_is_data}
use Rattle.model_drive.specs.declared.WriteOut.{WriteOut}
use Rattle.model_drive.specs.declared.WriteOut.TheVariants as writes
use Rattle.model_drive.specs.declared.FormatOut.{FormatOut}
use Rattle.model_drive.specs.declared.FormatOut.TheVariants as formats
use Rattle.model_drive.specs.declared.Kind.TheVariants as kinds
use Rattle.model_drive.specs.Shown.{Shown, cells_in, home}
use Rattle.model_drive.specs.Parts.{IsInRange, OnlyDies}
use Rattle.model_drive.specs.Course.{Placing}
use Rattle.model_drive.specs.Reads.{ReadCause}
use Rattle.model_drive.specs.Writes.{WriteCause, WroteSoFar}
use Rattle.model_drive.specs.Formats.{FormatCause}
use Rattle.model_drive.specs.FullFormats.{OnlyFormatted}
use Rattle.model_drive.specs.Power.{PowerCause}
use Rattle.model_drive.specs.Sound.{IsSound}
use Rattle.model_drive.proofs.Ends.{Keeps}
use Rattle.model_drive.proofs.Kept.{read_kept, write_kept, format_kept, power_kept}
use Rattle.model_drive.proofs.WriteTurns.{inside_count}
use Rattle.model_cache.specs.Chains.{ReadsDisc}
use Rattle.model_mirror.specs.Writes.{WritesSide}
use Rattle.model_mirror.specs.Whole.{FormatsSide}
use Rattle.model_mirror_laws.specs.Kept.{KeepsRecord}

pub record_no_list : (shape : Shape) (area : ℕ) → ¬ IsListBlock shape (record_block shape area)
record_no_list shape area listed = elim (list_block_cases shape (record_block shape area) listed) [
  | inl dds ↦ record_no_dds shape area dds.0 dds.2
  | inr (inl sdl) ↦ record_no_sdl shape area sdl.0 sdl.2
  | inr (inr second) ↦ record_no_second shape area second.0 second.2
]

-- nothing happened
pub record_same : (old new : Shown) → new ≡ old → KeepsRecord old new
record_same old new same = record {
  same_shape = ap (λ (s : Shown). s.shape) same;
  as_known = ap (λ (s : Shown). s.medium.world.known) same;
  same_copies = λ area. ap (λ (s : Shown). cell_at (cells_in s) (record_block old.shape area)) same;
}

-- one call after another
pub record_then : (x y z : Shown) → KeepsRecord x y → KeepsRecord y z → KeepsRecord x z
record_then x y z one two = record {
  same_shape = two.same_shape ∙ one.same_shape;
  as_known = two.as_known ∙ one.as_known;
  same_copies = λ area. subst (λ (s : Shape). cell_at (cells_in z) (record_block s area) ≡ cell_at (cells_in y) (record_block s area)) one.same_shape (two.same_copies area) ∙ one.same_copies area;
}

-- lists in use are valid
abbrev pub HasValid : Shown → Type 0
HasValid shown = (lists : Lists) → shown.lists ≡ Some lists → AreValid shown.shape lists

pub sound_valid : (shown : Shown) → IsSound shown → HasValid shown
sound_valid shown sound lists e = (sound.in_use lists e).valid

module _ (old new : Shown) (same_shape : new.shape ≡ old.shape) where
  abbrev SameCopies : Type 0
  SameCopies = (area : ℕ) → cell_at (cells_in new) (record_block old.shape area) ≡ cell_at (cells_in old) (record_block old.shape area)

  kept : Keeps old.medium.world new.medium.world → SameCopies → KeepsRecord old new
  kept keeps same = record { same_shape = same_shape; as_known = keeps.as_known; same_copies = same }

  module _ (valid : HasValid old) (lba n : ℕ) where
    -- the home of a block of a request is no block of the record
    home_apart : (k : ℕ) → IsInRange old lba n → k < blocks_covered lba n → (area : ℕ) → record_block old.shape area ≢ home old (block_with lba + k)
    home_apart k inside covered area same = go old.lists refl inside.formatted
      where
        go : (o : Option Lists) → old.lists ≡ o → IsSome o → ⊥
        go None e some = absurd (false≢true some)
        go (Some lists) e some =
            let within = inside_count old lba n k lists e inside covered in
            let at : home old (block_with lba + k) ≡ home_of old.shape lists (block_with lba + k) = ap (λ (o : Option Lists). option_map_or (λ l. home_of old.shape l (block_with lba + k)) o 0) e in
            no_data_block_record old.shape area (subst (Contains (data_blocks old.shape)) (sym (same ∙ at)) (home_is_data_block old.shape lists (valid lists e) (block_with lba + k) within))

    dies_apart : (k : ℕ) → IsInRange old lba n → k < blocks_covered lba n → (block : ℕ) → block ≡ home old (block_with lba + k) → OnlyDies old new block → SameCopies
    dies_apart k inside covered block is dies area = dies.others (record_block old.shape area) (λ same. home_apart k inside covered area (same ∙ is))

    read_copies : (out : ReadOut) → ReadCause old new lba n out → SameCopies
    read_copies reads.Good cause area = cause.same_cells (record_block old.shape area)
    read_copies reads.NotFormatted cause area = (record_same old new cause.nothing).same_copies area
    read_copies (reads.Range known) cause area = (record_same old new cause.nothing).same_copies area
    read_copies (reads.Unread named block) cause area =
        let same_home : home new (block_with lba + cause.before) ≡ home old (block_with lba + cause.before) =
        ap (λ (s : Shape). home (record new { shape = s }) (block_with lba + cause.before)) same_shape
        ∙ ap (λ (o : Option Lists). home (record new { shape = old.shape; lists = o }) (block_with lba + cause.before)) cause.keeps.same_lists in
        dies_apart cause.before cause.inside cause.is_named.covered block (cause.block_is ∙ same_home) cause.dies area
    read_copies reads.Cut cause area = dies_apart cause.before cause.inside cause.covered _ refl cause.dies area
    read_copies reads.Off cause area = (record_same old new cause.nothing).same_copies area
    read_copies reads.Fault cause area = dies_apart cause.before cause.inside cause.covered _ refl cause.dies area

    pub read_keeps : (out : ReadOut) → ReadCause old new lba n out → KeepsRecord old new
    read_keeps out cause = kept (read_kept old new lba n out cause) (read_copies out cause)

    -- a write changes homes, spares and secondary lists
    wrote_copies : (lists reached : Lists) (course : List Placing) (more : ℕ) → length course + more ≤ blocks_covered lba n → WroteSoFar old new lists lba n course more reached → SameCopies
    wrote_copies lists reached course more few wrote area = wrote.only (record_block old.shape area)
        (λ k h same. no_data_block_record old.shape area (subst (Contains (data_blocks old.shape)) (sym same)
        (home_is_data_block old.shape lists (valid lists wrote.in_use) (block_with lba + k) (inside_count old lba n k lists wrote.in_use wrote.inside (omega (arith, h, few))))))
        (λ k h free. no_data_block_record old.shape area (free_is_data old.shape lists (valid lists wrote.in_use) (block_with lba + k) (record_block old.shape area) free))
        (λ at. record_no_sdl old.shape area at)
        (λ at. record_no_second old.shape area at)

    write_copies : (out : WriteOut) → WriteCause old new lba n out → SameCopies
    write_copies writes.Good cause area = let all = cause.all in wrote_copies cause.lists cause.reached cause.course 0 (omega (arith, all)) cause.ends.wrote area
    write_copies writes.NotFormatted cause area = (record_same old new cause.nothing).same_copies area
    write_copies (writes.Range known) cause area = (record_same old new cause.nothing).same_copies area
    write_copies (writes.Unread named block) cause area = let h = cause.is_named.covered in wrote_copies cause.lists cause.reached cause.course 1 (omega (arith, h)) cause.ends.wrote area
    write_copies (writes.NoSpare named) cause area = let h = cause.is_named.covered in wrote_copies cause.lists cause.reached cause.course 1 (omega (arith, h)) cause.ends.wrote area
    write_copies (writes.NoUpdate counter) cause area = let h = cause.covered in wrote_copies cause.lists cause.reached cause.course 1 (omega (arith, h)) cause.ends.wrote area
    write_copies writes.Cut cause area = let h = cause.covered in wrote_copies cause.lists cause.reached cause.course 1 (omega (arith, h)) cause.wrote area
    write_copies writes.Off cause area = (record_same old new cause.nothing).same_copies area
    write_copies writes.Fault cause area = let h = cause.covered in wrote_copies cause.lists cause.reached cause.course 1 (omega (arith, h)) cause.wrote area

    pub write_keeps : (out : WriteOut) → WriteCause old new lba n out → KeepsRecord old new
    write_keeps out cause = kept (write_kept old new lba n out cause) (write_copies out cause)

  -- a format changes data blocks and lists
  only_formatted : OnlyFormatted old new true → SameCopies
  only_formatted only area = only (record_block old.shape area) (record_no_list old.shape area) (λ certified. no_data_block_record old.shape area certified.data_block)

  format_copies : (out : FormatOut) → FormatCause old new (kinds.Full true) out → SameCopies
  format_copies formats.Good cause = only_formatted cause.any.only
  format_copies (formats.TooMany found) cause = only_formatted cause.any.only
  format_copies (formats.NoUpdate counter) (inl cause) = (record_same old new cause.nothing).same_copies
  format_copies (formats.NoUpdate counter) (inr (inl cause)) = only_formatted cause.any.only
  format_copies (formats.NoUpdate counter) (inr (inr (inl cause))) = only_formatted cause.any.only
  format_copies (formats.NoUpdate counter) (inr (inr (inr cause))) = only_formatted cause.any.only
  format_copies formats.Cut cause = only_formatted cause.only
  format_copies formats.Off cause = (record_same old new cause.nothing).same_copies
  format_copies formats.Fault cause = only_formatted cause.only

  format_keeps : (out : FormatOut) → FormatCause old new (kinds.Full true) out → KeepsRecord old new
  format_keeps out cause = kept (format_kept old new (kinds.Full true) out cause) (format_copies out cause)

  -- a mount changes lists alone
  power_copies : (out : PowerOut) → PowerCause old new out → SameCopies
  power_copies (power_outs.Ready known) cause area = cause.any.only (record_block old.shape area) (record_no_list old.shape area)
  power_copies power_outs.NotFormatted cause area = cause.any.only (record_block old.shape area) (record_no_list old.shape area)
  power_copies power_outs.Cut cause area = cause.any.only (record_block old.shape area) (record_no_list old.shape area)
  power_copies power_outs.Fault cause area = cause.any.only (record_block old.shape area) (record_no_list old.shape area)

  pub power_keeps : (out : PowerOut) → PowerCause old new out → KeepsRecord old new
  power_keeps out cause = kept (power_kept old new out cause) (power_copies out cause)

-- a side was read, written, or formatted
pub reads_side : (old new : Shown) (lba n : ℕ) (out : ReadOut) → HasValid old → ReadsDisc old new lba n out → KeepsRecord old new
reads_side old new lba n out valid read = read_keeps old new read.leaves.same_shape valid lba n out read.cause

pub writes_side : (old new : Shown) (lba n : ℕ) (out : WriteOut) → HasValid old → WritesSide old new lba n out → KeepsRecord old new
writes_side old new lba n out valid wrote = write_keeps old new wrote.leaves.same_shape valid lba n out wrote.wrote

pub formats_side : (old new : Shown) (out : FormatOut) → FormatsSide old new out → KeepsRecord old new
formats_side old new out f = format_keeps old new f.leaves.same_shape out f.formatted
