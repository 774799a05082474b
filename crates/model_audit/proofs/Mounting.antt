-- A certified disc mounts, and blocks that are not lost are read.
use Rattle.std.proofs.Common.{◌≡◌, ◌≢◌, ℕ, zero, suc, ◌+◌, ◌*◌, ◌<◌, ◌≤◌, Option, Some, IsSome, List, [], ◌∷◌, ◌++◌, length, map, refl, sym, ap, ◌∙◌, inl, inr, arith, subst}
use Rattle.std.specs.List.{Contains, range_with_len, flat_map}
use Rattle.std.specs.Option.{option_map_or}
use Rattle.std.proofs.lemmas.List.Elements.{Contains-append_left, Contains-append_right}
use Rattle.std.proofs.lemmas.List.FromFn.{length-range_with_len, get_or-range_with_len}
use Rattle.model_geometry.specs.Geometry.{Shape, data_blocks}
use Rattle.model_medium.specs.Cells.{Cell, Blank, Good, Torn, Dead, IsGood, cell_at}
use Rattle.model_sectors.specs.Requests.{block_with, blocks_covered}
use Rattle.model_sectors.proofs.Covering.{covered_inside}
use Rattle.model_sectors.specs.declared.ReadOut.{ReadOut}
use Rattle.model_sectors.specs.declared.ReadOut.TheVariants as reads
use Rattle.model_sectors.specs.declared.PowerOut.{PowerOut}
use Rattle.model_sectors.specs.declared.PowerOut.TheVariants as powers
use Rattle.model_stops.specs.declared.Stop.{Stop}
use Rattle.model_stops.specs.declared.Stop.TheVariants as stops
use Rattle.model_places.specs.Places.{Lists, logical_count, capacity_of, home_of}
use Rattle.model_places.specs.Valid.{AreValid}
use Rattle.model_pools.proofs.Replacements.{Contains-first, Contains-later}
use Rattle.model_volume.specs.Given.{AreChosen, IsListBlock}
use Rattle.model_volume.proofs.GivenFacts.{one_pair, none_lacking}
use Rattle.model_volume.proofs.Moved.{home_is_data_block}
use Rattle.model_volume.proofs.ListCells.{list_block_cases, no_data_block_second}
use Rattle.model_geometry.proofs.ListBlocks.{no_data_block_dds, no_data_block_sdl}
use Rattle.model_drive.specs.Shown.{Shown, IsOn, IsKnown, cells_in, capacity}
use Rattle.model_drive.specs.Parts.{IsStopped}
use Rattle.model_drive.specs.Power.{turned_on, MountsLists, MountsNone, PowerCause}
use Rattle.model_drive.specs.Reads.{MeetsUnread, ReadCause}
use Rattle.model_drive.proofs.Ends.{none_stopped}
use Rattle.model_audit.specs.declared.lines.CertificateLine.{CertificateLine}
use Rattle.model_audit.specs.declared.lines.CertificateLine.TheVariants as lines
use Rattle.model_audit.specs.Certificate.{lost_home_line, lost_lines, list_lines, head_lines, pdl_line, sdl_line, TellsLists, IsCertificate}
use Rattle.model_audit.specs.Reading.{lists_in, NoneDies, IsUndisturbed, NoneLost}
use Rattle.model_audit.proofs.ReadBack.{Tells, told_here, read_from}
use Rattle.model_audit.proofs.Alike.{chosen_moves, seen_alike, alike_back}

-- ---- the mount

module _ (old new : Shown) (lists : Lists) (known : IsKnown old) (chosen : AreChosen old.shape (cells_in old) lists) (still : NoneDies (cells_in old) (cells_in new)) where
  -- the lists that were found are these
  pub found_same : (told : ℕ) (cause : MountsLists old new told) → cause.lists ≡ lists
  found_same told cause =
      one_pair old.shape (cells_in old) cause.lists lists
      (chosen_moves old.shape cause.seen (cells_in old) (seen_alike old.shape (cells_in old) cause.seen (cells_in new) (cause.sees known) still) cause.lists (cause.chosen known))
      chosen

  not_none : MountsNone old new → ⊥
  not_none cause =
      none_lacking old.shape cause.seen cause.chosen (cause.lacks known) lists
      (chosen_moves old.shape (cells_in old) cause.seen
      (alike_back cause.seen (cells_in old) (seen_alike old.shape (cells_in old) cause.seen (cells_in new) (cause.sees known) still)) lists chosen)

  told_capacity : new.shape ≡ old.shape → new.lists ≡ Some lists → capacity new ≡ capacity_of old.shape lists
  told_capacity shape is =
      ap (λ (l : Option Lists). option_map_or (logical_count new.shape) l 0 * 16) is
      ∙ ap (λ (s : Shape). logical_count s lists * 16) shape

  -- a mount that goes to its end has them in use
  pub mounts : new.shape ≡ old.shape → (out : PowerOut) → out ≢ powers.Cut → out ≢ powers.Fault → PowerCause old new out
      → (new.lists ≡ Some lists) × (out ≡ powers.Ready (capacity_of old.shape lists))
  mounts shape (powers.Ready told) no_cut no_fault cause =
      let in_use = cause.in_use ∙ ap (λ (l : Lists). Some l) (found_same told cause) in
      (in_use, ap (λ (k : ℕ). powers.Ready k) (cause.known_is ∙ told_capacity shape in_use))
  mounts shape powers.NotFormatted no_cut no_fault cause = absurd (not_none cause)
  mounts shape powers.Cut no_cut no_fault cause = absurd (no_cut refl)
  mounts shape powers.Fault no_cut no_fault cause = absurd (no_fault refl)

module _ (old new : Shown) (told : List CertificateLine) (lists : Lists) (out : PowerOut) (known : IsKnown old) (shape : new.shape ≡ old.shape)
    (is : IsCertificate old.shape (cells_in old) told) (says : lists_in told ≡ Some lists) (kind : lists.dds.layout ≡ old.shape.layout) (cause : PowerCause old new out) where
  -- where no cell turns dead, a mount that goes to its end is ready with the lists that are told
  pub alive_mounts : NoneDies (cells_in old) (cells_in new) → out ≢ powers.Cut → out ≢ powers.Fault
      → (new.lists ≡ Some lists) × (out ≡ powers.Ready (capacity_of old.shape lists))
  alive_mounts still no_cut no_fault =
      mounts old new lists known (read_from old.shape (cells_in old) told lists (told_here old.shape (cells_in old) told lists is says kind)).0 still
      shape out no_cut no_fault cause

  no_stop : IsUndisturbed old new → (stop : Stop) → (most : ℕ) → IsStopped (turned_on old) new most stop → ⊥
  no_stop still stop most stopped =
      none_stopped (turned_on old) new most stop refl (record { cuts = still.none_counted.cuts; faults = still.none_counted.faults }) stopped

  pub certified_mounts : IsUndisturbed old new → (new.lists ≡ Some lists) × (out ≡ powers.Ready (capacity_of old.shape lists))
  certified_mounts still =
      alive_mounts still.none_dies
      (λ e. no_stop still stops.Cut _ (subst (PowerCause old new) e cause).stopped)
      (λ e. no_stop still stops.Fault _ (subst (PowerCause old new) e cause).stopped)

-- ---- what is lost is told

contains_flat : {A B : Type 0} (f : A → List B) (xs : List A) (x : A) (y : B) → Contains xs x → Contains (f x) y → Contains (flat_map f xs) y
contains_flat f [] x y (k, within, is) has = absurd (omega (arith, within))
contains_flat f (first ∷ rest) x y (zero, within, is) has =
    Contains-append_left (f first) (flat_map f rest) y (subst (λ z. Contains (f z) y) (sym is) has)
contains_flat f (first ∷ rest) x y (suc k, within, is) has =
    Contains-append_right (f first) (flat_map f rest) y (contains_flat f rest x y (k, omega (arith, within), is) has)

in_range : (n i : ℕ) → i < n → Contains (range_with_len 0 n) i
in_range n i inside = (i, rw (length-range_with_len 0 n) inside, get_or-range_with_len 0 n i i inside ∙ omega arith)

-- a cell that is not good has its line
lost_here : (shape : Shape) (cells : List Cell) (lists : Lists) (i : ℕ) (cell : Cell) → cell_at cells (home_of shape lists i) ≡ cell
    → ¬ Contains (lost_home_line shape cells lists i) (lines.Lost (16 * i)) → IsGood cell
lost_here shape cells lists i (Good bytes) is none = tt
lost_here shape cells lists i Blank is none = absurd (none (rw is (Contains-first (lines.Lost (16 * i)) [])))
lost_here shape cells lists i Torn is none = absurd (none (rw is (Contains-first (lines.Lost (16 * i)) [])))
lost_here shape cells lists i Dead is none = absurd (none (rw is (Contains-first (lines.Lost (16 * i)) [])))

module _ (shape : Shape) (cells : List Cell) where
  lost_listed : (lists : Lists) (i : ℕ) → i < logical_count shape lists → ¬ Contains (lost_lines shape cells lists) (lines.Lost (16 * i))
      → IsGood (cell_at cells (home_of shape lists i))
  unfolding lost_lines
  lost_listed lists i inside none =
      lost_here shape cells lists i (cell_at cells (home_of shape lists i)) refl
      (λ has. none (contains_flat (lost_home_line shape cells lists) (range_with_len 0 (logical_count shape lists)) i (lines.Lost (16 * i)) (in_range (logical_count shape lists) i inside) has))

  -- the lines of lost blocks are among all
  lost_told : (told : List CertificateLine) (one : TellsLists shape cells told) (line : CertificateLine)
      → Contains (lost_lines shape cells one.lists) line → Contains told line
  lost_told told one line has =
      let lost = lost_lines shape cells one.lists in
      let entries = map_sdl one.lists in
      let dds = lines.Dds one.lists.dds.version one.lists.dds.counter one.chosen.dds_area in
      let sdl = lines.Sdl one.lists.sdl.counter one.chosen.sdl_area one.lists.sdl.ssa in
      let a = Contains-append_right one.copies lost line has in
      let b = Contains-append_right entries (one.copies ++ lost) line a in
      let c = Contains-later sdl (entries ++ (one.copies ++ lost)) line b in
      let d = Contains-append_right (map_pdl one.lists) (sdl ∷ (entries ++ (one.copies ++ lost))) line c in
      let e = Contains-later dds (map_pdl one.lists ++ (sdl ∷ (entries ++ (one.copies ++ lost)))) line d in
      let all = list_lines one.lists one.chosen.dds_area one.chosen.sdl_area (one.copies ++ lost) in
      let f = Contains-append_right (head_lines shape) all line e in
      subst (λ (xs : List CertificateLine). Contains xs line) (sym one.told_is)
      (Contains-append_left (head_lines shape ++ all) (lines.End (length (head_lines shape ++ all)) ∷ []) line f)
    where
      map_sdl : Lists → List CertificateLine
      map_sdl lists = map sdl_line lists.sdl.entries

      map_pdl : Lists → List CertificateLine
      map_pdl lists = map pdl_line lists.dds.entries

  -- a home that is not told as lost is good
  pub not_lost : (told : List CertificateLine) (lists : Lists) → Tells shape cells told lists
      → (i : ℕ) → i < logical_count shape lists → ¬ Contains told (lines.Lost (16 * i)) → IsGood (cell_at cells (home_of shape lists i))
  not_lost told lists one i inside none =
      subst (λ (l : Lists). IsGood (cell_at cells (home_of shape l i))) one.1
      (lost_listed one.0.lists i (subst (λ (l : Lists). i < logical_count shape l) (sym one.1) inside)
      (λ has. none (lost_told told one.0 (lines.Lost (16 * i)) has)))

-- ---- the read

-- a list block is no data block
data_no_list : (shape : Shape) (block : ℕ) → Contains (data_blocks shape) block → ¬ IsListBlock shape block
data_no_list shape block has listed = elim (list_block_cases shape block listed) [
  | inl first ↦ no_data_block_dds shape first.0 (subst (Contains (data_blocks shape)) first.2 has)
  | inr (inl other) ↦ no_data_block_sdl shape other.0 (subst (Contains (data_blocks shape)) other.2 has)
  | inr (inr other) ↦ no_data_block_second shape other.0 (subst (Contains (data_blocks shape)) other.2 has)
]

good_no_dead : (cell : Cell) → IsGood cell → cell ≡ Dead → ⊥
good_no_dead cell good dead = subst IsGood dead good

module _ (old mid new : Shown) (told : List CertificateLine) (lists : Lists) (count : ℕ) (known : IsKnown old) (same : mid.shape ≡ old.shape) (same' : new.shape ≡ old.shape)
    (tells : Tells old.shape (cells_in old) told lists) (mount : MountsLists old mid count) (before : IsUndisturbed old mid) (after : IsUndisturbed mid new) where
  chosen : AreChosen old.shape (cells_in old) lists
  chosen = (read_from old.shape (cells_in old) told lists tells).0

  valid : AreValid old.shape lists
  valid = (read_from old.shape (cells_in old) told lists tells).1

  in_use : mid.lists ≡ Some lists
  in_use = mount.in_use ∙ ap (λ (l : Lists). Some l) (found_same old mid lists known chosen before.none_dies count mount)

  is_on : IsOn mid
  is_on = mount.ends.is_on

  formatted : IsSome mid.lists
  formatted = subst IsSome (sym in_use) refl

  counted : count ≡ capacity_of old.shape lists
  counted = mount.known_is ∙ ap (λ (l : Option Lists). option_map_or (logical_count mid.shape) l 0 * 16) in_use ∙ ap (λ (s : Shape). logical_count s lists * 16) same

  -- a home that is not lost is good at the mount's end
  good_mid : (i : ℕ) → i < logical_count old.shape lists → ¬ Contains told (lines.Lost (16 * i)) → IsGood (cell_at (cells_in mid) (home_of old.shape lists i))
  good_mid i inside none =
      subst IsGood (sym (mount.any.only (home_of old.shape lists i) (data_no_list old.shape (home_of old.shape lists i) (home_is_data_block old.shape lists valid i inside))))
      (not_lost old.shape (cells_in old) told lists tells i inside none)

  module _ (lba n : ℕ) (inside : lba + n ≤ count) (none_lost : NoneLost told (block_with lba) (blocks_covered lba n)) where
    covered : (k : ℕ) → k < blocks_covered lba n → block_with lba + k < logical_count old.shape lists
    covered k h = covered_inside lba n k (logical_count old.shape lists) (let c = counted in omega (arith, inside, c)) h

    no_unread : (named block : ℕ) → MeetsUnread mid new lba n named block → ⊥
    no_unread named block cause =
        let i = block_with lba + cause.before in
        let good = good_mid i (covered cause.before cause.is_named.covered) (none_lost cause.before cause.is_named.covered) in
        let lists_now = cause.keeps.same_lists ∙ in_use in
        let home_is = cause.block_is ∙ ap (λ (l : Option Lists). option_map_or (λ (x : Lists). home_of new.shape x i) l 0) lists_now ∙ ap (λ (s : Shape). home_of s lists i) same' in
        let good_here = subst (λ (b : ℕ). IsGood (cell_at (cells_in mid) b)) (sym home_is) good in
        elim cause.dies.left [
          | inl stays ↦ cause.unread (subst IsGood (sym stays) good_here)
          | inr dead ↦ good_no_dead (cell_at (cells_in mid) block) good_here (after.none_dies block dead)
        ]

    pub reads_well : (out : ReadOut) → ReadCause mid new lba n out → out ≡ reads.Good
    reads_well reads.Good cause = refl
    reads_well reads.NotFormatted cause = absurd (cause.unformatted formatted)
    reads_well (reads.Range t) cause =
        absurd (let p = cause.past in let c = mount.known_is in omega (arith, p, c, inside))
    reads_well (reads.Unread named block) cause = absurd (no_unread named block cause)
    reads_well reads.Cut cause = absurd (none_stopped mid new _ stops.Cut is_on after.none_counted cause.stopped)
    reads_well reads.Off cause = absurd (cause.off is_on)
    reads_well reads.Fault cause = absurd (none_stopped mid new _ stops.Fault is_on after.none_counted cause.stopped)

pub not_lost_reads : (old mid new : Shown) (told : List CertificateLine) (lists : Lists) (count lba n : ℕ) (out : ReadOut) → IsKnown old → IsKnown mid → mid.shape ≡ old.shape → new.shape ≡ old.shape
    → IsCertificate old.shape (cells_in old) told → lists_in told ≡ Some lists → lists.dds.layout ≡ old.shape.layout → PowerCause old mid (powers.Ready count) → IsUndisturbed old mid → lba + n ≤ count
    → NoneLost told (block_with lba) (blocks_covered lba n) → ReadCause mid new lba n out → IsUndisturbed mid new → out ≡ reads.Good
not_lost_reads old mid new told lists count lba n out known known' same same' is says kind mount before inside none cause after =
    reads_well old mid new told lists count known same same' (told_here old.shape (cells_in old) told lists is says kind) mount before after lba n inside none out cause
