-- What a write that was answered Good has put into the image.
use Rattle.std.specs.Prelude.{◌≡◌, ℕ, ◌+◌, ◌*◌, ◌<◌, ◌≤◌, Bool, true, Option, Some, List, length}
use Rattle.std.specs.Option.{option_map_or}
use Rattle.std.proofs.Common.{arith, refl, sym, ap, ◌∙◌, subst}
use Rattle.model_geometry.specs.Geometry.{Shape, total}
use Rattle.model_medium.specs.Cells.{Cell, Blank, Good, Torn, Dead, IsGood, cell_at}
use Rattle.model_image.specs.Cells.{cells_of}
use Rattle.model_sectors.specs.Discs.{On, Agrees, sectors_of, block_of}
use Rattle.model_sectors.specs.Requests.{block_with, blocks_covered}
use Rattle.model_places.specs.Places.{Lists, logical_count, home_of}
use Rattle.model_volume.specs.Covers.{FitsUnder}
use Rattle.model_drive.specs.declared.WriteOut.TheVariants as writes
use Rattle.model_drive.specs.Shown.{Shown, StandsFor, StandsBy, IsKnown, cells_in, capacity}
use Rattle.model_drive.specs.Sound.{IsSound}
use Rattle.model_drive.specs.Course.{lists_reached}
use Rattle.model_drive.specs.Writes.{WritesAll}
use Rattle.model_drive.proofs.Courses.{after_good}
use Rattle.model_drive.proofs.WriteTurns.{inside_count}
use Rattle.model_cache.specs.Values.{Values, Contents, Has, MayHave}
use Rattle.model_cache.specs.Shown.{CacheShown, CacheStandsFor, dropped, pending_covered, goes_into_cache}
use Rattle.model_cache.specs.Causes.{WritesThrough, ThroughCause, CachedCause}
use Rattle.model_cache.proofs.Chained.{drained}
use Rattle.model_cache.proofs.Falls.{only}
use Rattle.model_cdb.specs.declared.commands.Command.TheVariants as commands
use Rattle.ram_machine.specs.States.{State, Served, Unopened, Disc, IsLeft}
use Rattle.ram_machine.specs.Runs.{IsStep}
use Rattle.ram_machine.specs.Answered.{AnsweredStep}
use Rattle.ram_machine.specs.Acknowledged.{Acknowledged, StandsWithSector, HasNow, GoesThrough, WasDone, IsAmong, HasInCells, HasInImage}
use Rattle.ram_machine.specs.SectorBytes.{bytes_of_sector}
use Rattle.ram_machine.proofs.Images.{image_left}
use Rattle.ram_machine.proofs.SoundChains.{contents_known, StaysWell, stays_well}
use Rattle.ram_machine.proofs.WrittenDiscs.{block_sector, SoInBlock, SoInValues, SoInContents}
use Rattle.ram_machine.proofs.DoneLines.{Done, line_done, line_written, line_through, write_good, through_by, in_covered}

-- a cell with whole bytes that agrees with a block has its bytes
pub agreed_cell : (cell : Cell) (bytes : List ℕ) → IsGood cell → Agrees cell bytes → cell ≡ Good bytes
agreed_cell Blank bytes good agrees = absurd good
agreed_cell (Good held) bytes good agrees = ap Good agrees
agreed_cell Torn bytes good agrees = absurd good
agreed_cell Dead bytes good agrees = absurd good

-- the disc fits under the lists in use
fits_of : (shown : Shown) (disc : List ℕ) (lists : Lists) → StandsFor shown (On disc) → shown.lists ≡ Some lists → FitsUnder shown.shape (cells_in shown) lists disc
fits_of shown disc lists stands in_use = (subst (λ (o : Option Lists). StandsBy shown.shape (cells_in shown) o shown.buffer disc) in_use stands.2).fits

-- the block of a sector in range is one of the disc's
pub within_count : (lba n at known count : ℕ) → lba + n ≤ known → known ≡ count * 16 → at < lba + n → block_with at < count
within_count lba n at known count inside is within = omega (arith, inside, is, within)

-- a sector of a disc whose home has whole bytes is in these cells
in_cells : (shown : Shown) (lists : Lists) (disc : List ℕ) (cells : List Cell) (at : ℕ) (bytes : List ℕ) → cells ≡ cells_in shown → shown.lists ≡ Some lists
    → FitsUnder shown.shape (cells_in shown) lists disc → block_with at < logical_count shown.shape lists → sectors_of disc at 1 ≡ bytes → IsGood (cell_at (cells_in shown) (home_of shown.shape lists (block_with at))) → HasInCells shown cells at bytes
in_cells shown lists disc cells at bytes same in_use fits inside has good =
    let i : ℕ = block_with at in
    record {
      lists = lists;
      in_use = in_use;
      held = block_of disc i;
      has = ap (λ (c : List Cell). cell_at c (home_of shown.shape lists i)) same
          ∙ agreed_cell (cell_at (cells_in shown) (home_of shown.shape lists i)) (block_of disc i) good (fits.agrees i inside);
      bytes_are = block_sector disc at ∙ has;
    }

-- a block below the number of blocks is the disc's
has_block : (i count long : ℕ) → long ≡ 32768 * count → i < count → 32768 * (i + 1) ≤ long
has_block i count long is inside = omega (arith, is, inside)

-- the disc below has what was acknowledged of a sector
pub below_in_cells : (shown : CacheShown) (v : Values) (lists : Lists) (cells : List Cell) (at : ℕ) (bytes : List ℕ) → CacheStandsFor shown (Has v) → SoInValues (λ found. found ≡ bytes) at v
    → cells ≡ cells_in shown.drive → shown.drive.lists ≡ Some lists → block_with at < logical_count shown.drive.shape lists
    → IsGood (cell_at (cells_in shown.drive) (home_of shown.drive.shape lists (block_with at))) → HasInCells shown.drive cells at bytes
below_in_cells shown v lists cells at bytes stood so same in_use inside good =
    let disc = stood.0 in
    let fits = fits_of shown.drive disc lists stood.1 in_use in
    let long : length disc ≡ 32768 * logical_count shown.drive.shape lists = fits.as_long in
    let as_long : length v.disc ≡ length disc = stood.2.taken.as_long in
    let held : bytes_of_sector (16 * block_with at) (block_of disc (block_with at)) at ≡ bytes =
    so (has_block (block_with at) (logical_count shown.drive.shape lists) (length v.disc) (as_long ∙ long) inside) (block_of disc (block_with at)) (stood.2.taken.each (block_with at)) in
    in_cells shown.drive lists disc cells at bytes same in_use fits inside (sym (block_sector disc at) ∙ held) good

-- after a write that was answered Good the home of each covered block has whole bytes
home_good : (old new : Shown) (lba n at : ℕ) → new.shape ≡ old.shape → IsSound old → IsKnown old → (cause : WritesAll old new lba n) → IsAmong lba n at
    → IsGood (cell_at (cells_in new) (home_of new.shape cause.reached (block_with at)))
home_good old new lba n at same_shape sound known cause among =
    let c = in_covered lba n at among in
    let wrote = cause.ends.wrote in
    let last_is : blocks_covered lba n ≡ c.last + 1 = c.last_is in
    let all : length cause.course ≡ blocks_covered lba n = cause.all in
    let within : block_with lba + c.last < logical_count old.shape cause.lists = inside_count old lba n c.last cause.lists wrote.in_use wrote.inside (omega (arith, last_is)) in
    let covered : c.k < blocks_covered lba n = c.covered in
    let good =
    after_good old.shape cause.lists (block_with lba) (sound.in_use cause.lists wrote.in_use).valid (cells_in new) cause.course (omega (arith, within, all, last_is)) wrote.can (wrote.took known) c.k (omega (arith, all, covered)) in
    let home_is : home_of old.shape (lists_reached old.shape cause.lists (block_with lba) cause.course) (block_with lba + c.k) ≡ home_of new.shape cause.reached (block_with at) =
    ap (λ (i : ℕ). home_of old.shape (lists_reached old.shape cause.lists (block_with lba) cause.course) i) c.there
    ∙ ap (λ (l : Lists). home_of old.shape l (block_with at)) (sym wrote.reached_are)
    ∙ ap (λ (s : Shape). home_of s cause.reached (block_with at)) (sym same_shape) in
    subst (λ (b : ℕ). IsGood (cell_at (cells_in new) b)) home_is good

-- a write through the cache that was answered Good
module _ (s t : Served) (lba n at : ℕ) (among : IsAmong lba n at) (payload image : List ℕ) (same_shape : t.disc.shown.drive.shape ≡ s.disc.shown.drive.shape) (left : IsLeft (Disc t) image)
    (keeps : SoInContents (λ found. found ≡ bytes_of_sector lba payload at) at t.disc.contents) where
  by_values : (c : Contents) → c ≡ t.disc.contents → HasNow (Disc t) at (bytes_of_sector lba payload at) → WritesThrough (dropped s.disc.shown) t.disc.shown lba n writes.Good
      → HasInImage (Disc t) image at (bytes_of_sector lba payload at)
  by_values (MayHave all) is has wrote = absurd (subst (λ (c : Contents). StandsWithSector c at (bytes_of_sector lba payload at)) (sym is) has)
  by_values (Has v) is has wrote =
      let stood = subst (CacheStandsFor t.disc.shown) (sym is) t.disc.stands in
      let known = contents_known s.disc.shown s.disc.contents s.disc.stands in
      let due = pending_covered true (dropped s.disc.shown) lba n in
      let mid = drained StaysWell stays_well due (length due) (dropped s.disc.shown) wrote.mid writes.Good wrote.drained (record { sound = s.disc.sound; known = known; same_shape = refl }) in
      let cause = wrote.wrote in
      let count : capacity t.disc.shown.drive ≡ logical_count t.disc.shown.drive.shape cause.reached * 16 =
      ap (λ (o : Option Lists). option_map_or (logical_count t.disc.shown.drive.shape) o 0 * 16) cause.ends.now_in_use in
      below_in_cells t.disc.shown v cause.reached (cells_of (total t.disc.shown.drive.shape) image) at (bytes_of_sector lba payload at) stood
      (only (SoInBlock (λ found. found ≡ bytes_of_sector lba payload at) at) (block_with at) v (subst (SoInContents (λ found. found ≡ bytes_of_sector lba payload at) at) (sym is) keeps))
      (image_left t image left).cells_are cause.ends.now_in_use
      (by_length at (logical_count t.disc.shown.drive.shape cause.reached) (length v.disc) (length stood.0) (subst (λ (c : Contents). StandsWithSector c at (bytes_of_sector lba payload at)) (sym is) has).inside
      stood.2.taken.as_long (fits_of t.disc.shown.drive stood.0 cause.reached stood.1 cause.ends.now_in_use).as_long)
      (home_good wrote.mid.drive t.disc.shown.drive lba n at wrote.leaves.same_shape mid.sound mid.known cause among)
    where
      by_length : (at count long below : ℕ) → 2048 * (at + 1) ≤ long → long ≡ below → below ≡ 32768 * count → block_with at < count
      by_length at count long below inside same is = omega (arith, inside, same, is)

pub line_in_image : (s t : State) (event : AnsweredStep) (lba n at : ℕ) (fua : Bool) (image : List ℕ) → IsStep s event t → WasDone event (commands.Write lba n fua) → IsAmong lba n at → GoesThrough s lba n fua
    → IsLeft t image → HasInImage t image at (bytes_of_sector lba event.payload at)
line_in_image s t event lba n at fua image step done among goes left =
    by_states s t (line_done s t event (commands.Write lba n fua) step done) (line_written s t event lba n at fua step done among) (line_through s t event lba n at fua step done among goes) goes left
  where
    by_states : (s t : State) → Done s t (commands.Write lba n fua) event.payload event.data_in → HasNow t at (bytes_of_sector lba event.payload at) → Acknowledged t at (bytes_of_sector lba event.payload at)
        → GoesThrough s lba n fua → IsLeft t image → HasInImage t image at (bytes_of_sector lba event.payload at)
    by_states (Unopened first) t is has keeps goes left = absurd is
    by_states (Disc s) (Unopened first) is has keeps goes left = absurd is
    by_states (Disc s) (Disc t) is has keeps goes left =
        let good = write_good s.disc.shown t.disc.shown s.disc.contents t.disc.contents lba n fua event.payload event.data_in is.done in
        let through = through_by fua (goes_into_cache s.disc.shown lba n) (ThroughCause s.disc.shown t.disc.shown lba n writes.Good) (CachedCause s.disc.shown t.disc.shown lba n event.payload writes.Good) goes good.cause in
        by_values s t lba n at among event.payload image is.same_shape left keeps t.disc.contents refl has through.1
