-- That lists are found after what calls leave.
use Rattle.std.specs.Prelude.{◌≡◌, ℕ, ◌+◌, ◌<◌, ◌≤◌, ◌⊎◌, Some, List}
use Rattle.std.proofs.Common.{refl, sym, ap, ◌∙◌, inl, inr, subst, arith}
use Rattle.std.proofs.lemmas.Bool.{cases_eq}
use Rattle.model_geometry.specs.Geometry.{Shape, dds_block, sdl_block, sdl_second_block}
use Rattle.model_lists.specs.Values.{Dds, Sdl}
use Rattle.model_medium.specs.Cells.{Cell, IsSameOrDead, cell_at}
use Rattle.model_stops.specs.declared.Stop.{Stop}
use Rattle.model_places.specs.Places.{Lists, logical_count, free_spares}
use Rattle.model_places.specs.Valid.{AreaGrows, AreValid}
use Rattle.model_volume.specs.Expansions.{lists_expanded}
use Rattle.model_volume.proofs.Moved.{moved_valid}
use Rattle.model_volume.proofs.Expanding.{expanded_valid}
use Rattle.model_volume.proofs.Updates.{dds_no_sdl, dds_no_second}
use Rattle.model_volume.proofs.GivenFacts.{lists_of}
use Rattle.model_pools.specs.Moves.{tried_of}
use Rattle.std.specs.Prelude.{◌*◌, Option, slice_index, length}
use Rattle.std.specs.Option.{option_map_or}
use Rattle.model_survival.specs.Findable.{HaveTwoCopies, IsFindable}
use Rattle.model_survival.proofs.Finding as finding
use Rattle.model_drive.specs.Shown.{Shown, IsKnown, cells_in, capacity, home}
use Rattle.model_drive.specs.Sound.{IsSound}
use Rattle.model_sectors.specs.Requests.{block_with}
use Rattle.model_drive.specs.Power.{MountsLists, MountsNone, StopsInMount}
use Rattle.model_drive.specs.Reads.{StopsInRead}
use Rattle.model_drive.specs.Expands.{ssa_for, ExpandsAny, StopsInExpansion}
use Rattle.model_drive.specs.Writes.{next_block, StopsInWrite}
use Rattle.model_drive.specs.Course.{MovesInPart, LeavesPlacing}
use Rattle.model_drive.specs.Rewriting.{StopsInRewrite}
use Rattle.model_drive.proofs.Courses.{comes_next, after_valid, after_total}
use Rattle.model_drive.proofs.WriteTurns.{inside_count}
use Rattle.model_drive.proofs.ExpandSteps.{lawful_area, larger_area}
use Rattle.model_lasting.specs.Lasting.{CanBeFound, KeepsTwoCopies}

pub in_use_found : (shown : Shown) (lists : Lists) → IsSound shown → IsKnown shown → shown.lists ≡ Some lists → CanBeFound shown lists.dds lists.sdl lists.sdl
in_use_found shown lists sound known is =
    let use_ = sound.in_use lists is in
    finding.settled_findable shown.shape (cells_in shown) lists use_.valid (use_.settled known)

-- the same by the geometry of another drive
pub by_shape : (old new : Shown) (dds : Dds) (a b : Sdl) → new.shape ≡ old.shape → IsFindable old.shape (cells_in new) dds a b → CanBeFound new dds a b
by_shape old new dds a b same f = subst (λ (s : Shape). IsFindable s (cells_in new) dds a b) (sym same) f

module _ (old new : Shown) (dds : Dds) (a b : Sdl) (same : new.shape ≡ old.shape) where
  pub mount_ready : (known : ℕ) → IsKnown old → CanBeFound old dds a b → MountsLists old new known
      → (lists : Lists) × (new.lists ≡ Some lists) × ((lists ≡ lists_of dds a) ⊎ (lists ≡ lists_of dds b))
  mount_ready known is_known f mounts = (
    mounts.lists,
    mounts.in_use,
    finding.mounted_one_of_two old.shape (cells_in old) mounts.seen (cells_in new) (mounts.sees is_known) dds a b mounts.lists f (mounts.chosen is_known),
  )

  pub mount_never_bare : IsKnown old → CanBeFound old dds a b → KeepsTwoCopies new a.version → MountsNone old new → ⊥
  mount_never_bare is_known f two mounts =
      finding.mounted_lacks_none old.shape (cells_in old) mounts.seen (cells_in new) (mounts.sees is_known) dds a b mounts.chosen f mounts.ends.reach.lasts.stays_dead (subst (λ (s : Shape). HaveTwoCopies s (cells_in new) a.version) same two) (mounts.lacks is_known)

  pub mount_stopped : (stop : Stop) → IsKnown old → CanBeFound old dds a b → StopsInMount old new stop → CanBeFound new dds a b
  mount_stopped stop is_known f stops = by_shape old new dds a b same (finding.mount_findable old.shape (cells_in old) (cells_in new) dds a b f (stops.left is_known))

  pub read_stopped : (lba n most : ℕ) (stop : Stop) → CanBeFound old dds a b → StopsInRead old new lba n most stop → CanBeFound new dds a b
  read_stopped lba n most stop f stops = by_shape old new dds a b same (finding.findable_dies old.shape (cells_in old) (cells_in new) (record {
    dds = λ area is. dies (dds_block old.shape area);
    sdl = record { firsts = λ area is. dies (sdl_block old.shape area); seconds = λ area is. dies (sdl_second_block old.shape area) };
  }) dds a b f)
    where
      dies : (block : ℕ) → IsSameOrDead (cell_at (cells_in old) block) (cell_at (cells_in new) block)
      dies block = elim (cases_eq block (home old (block_with lba + stops.before))) [
        | inl here ↦ subst (λ (b : ℕ). IsSameOrDead (cell_at (cells_in old) b) (cell_at (cells_in new) b)) (sym here) stops.dies.left
        | inr other ↦ inl (stops.dies.others block other)
      ]

module _ (old new : Shown) (same : new.shape ≡ old.shape) (sound : IsSound old) (is_known : IsKnown old) where
  pub rewrite_stopped : (lists : Lists) (stop : Stop) → old.lists ≡ Some lists → StopsInRewrite old new lists stop → CanBeFound new lists.dds lists.sdl lists.sdl
  rewrite_stopped lists stop is stops =
      let use_ = sound.in_use lists is in
      by_shape old new lists.dds lists.sdl lists.sdl same (finding.rewriting_findable old.shape (cells_in old) (cells_in new) lists use_.valid (use_.settled is_known) (stops.left is_known))

  -- ---- an expansion

  module _ (sectors : ℕ) (lists : Lists) (any : ExpandsAny old new sectors lists) (valid : AreValid old.shape lists) where
    present_is : capacity old ≡ logical_count old.shape lists * 16
    present_is = ap (λ (o : Option Lists). option_map_or (logical_count old.shape) o 0 * 16) any.in_use

    fewer_now : sectors ≤ logical_count old.shape lists * 16
    fewer_now = subst (λ (n : ℕ). sectors ≤ n) present_is any.lawful.fewer

    larger_valid : AreValid old.shape (lists_expanded old.shape lists (ssa_for old.shape sectors))
    larger_valid = expanded_valid old.shape lists (ssa_for old.shape sectors) valid
        (lawful_area old.shape lists valid sectors any.lawful.some any.lawful.whole fewer_now any.lawful.most (subst (λ (n : ℕ). sectors < n → AreaGrows old.shape) present_is any.lawful.grows))
        (larger_area old.shape lists valid sectors any.lawful.some any.lawful.whole fewer_now any.lawful.most)

    dds_stays : (area : ℕ) → cell_at (cells_in new) (dds_block old.shape area) ≡ cell_at (cells_in old) (dds_block old.shape area)
    dds_stays area = any.only (dds_block old.shape area) (λ at is clash. dds_no_sdl old.shape area at clash) (λ at is clash. dds_no_second old.shape area at clash)

  pub expand_stopped : (sectors : ℕ) (stop : Stop) → StopsInExpansion old new sectors stop
      → (lists : Lists) × (newer : Sdl) × (old.lists ≡ Some lists) × (newer.ssa ≡ ssa_for old.shape sectors) × CanBeFound new lists.dds lists.sdl newer
  expand_stopped sectors stop stops =
      let lists = stops.lists in
      let use_ = sound.in_use lists stops.any.in_use in
      let larger = lists_expanded old.shape lists (ssa_for old.shape sectors) in (
        lists,
        larger.sdl,
        stops.any.in_use,
        refl,
        by_shape old new lists.dds lists.sdl larger.sdl same (finding.stopped_findable old.shape (cells_in old) (cells_in new) lists larger.sdl use_.valid
            (larger_valid sectors lists stops.any use_.valid) (omega arith) (use_.settled is_known)
            (λ area is. inl (dds_stays sectors lists stops.any use_.valid area)) (stops.left is_known)),
      )

-- ---- a write

-- a move that was stopped leaves the lists before it, or those after it
move_stopped : (shape : Shape) (cells : List Cell) (reached : Lists) (i : ℕ) → AreValid shape reached → i < logical_count shape reached → MovesInPart shape cells reached i
    → (newer : Sdl) × (newer.ssa ≡ reached.sdl.ssa) × IsFindable shape cells reached.dds reached.sdl newer
move_stopped shape cells reached i valid inside part =
    let lists_are = part.is_moved.lists_are in
    let tried = part.is_moved.tried in
    let valid_moved : AreValid shape part.moved = subst (AreValid shape) (sym lists_are)
    (moved_valid shape reached valid i inside (tried_of (free_spares shape reached i) tried) (slice_index (free_spares shape reached i) tried) (comes_next shape reached i tried part.is_moved.some_spare)) in
    let same_dds : part.moved.dds ≡ reached.dds = ap (λ (l : Lists). l.dds) lists_are in
    let counter : part.moved.sdl.counter ≡ reached.sdl.counter + 1 = ap (λ (l : Lists). l.sdl.counter) lists_are in (
      part.moved.sdl,
      ap (λ (l : Lists). l.sdl.ssa) lists_are,
      finding.stopped_findable shape part.before cells reached part.moved.sdl valid
          (subst (λ (d : Dds). AreValid shape (lists_of d part.moved.sdl)) same_dds valid_moved) (omega (arith, counter)) part.settled
          (λ area is. inl (part.same_dds area is)) part.left,
    )

reached_left : (shape : Shape) (cells : List Cell) (reached : Lists) (i : ℕ) → AreValid shape reached → i < logical_count shape reached → LeavesPlacing shape cells reached i
    → (newer : Sdl) × (newer.ssa ≡ reached.sdl.ssa) × IsFindable shape cells reached.dds reached.sdl newer
reached_left shape cells reached i valid inside (inl settled) = (reached.sdl, refl, finding.settled_findable shape cells reached valid settled)
reached_left shape cells reached i valid inside (inr part) = move_stopped shape cells reached i valid inside part

module _ (old new : Shown) (same : new.shape ≡ old.shape) (sound : IsSound old) (is_known : IsKnown old) (lba n : ℕ) (stop : Stop) (stops : StopsInWrite old new lba n stop) where
  valid_first : AreValid old.shape stops.lists
  valid_first = (sound.in_use stops.lists stops.wrote.in_use).valid

  within : next_block lba stops.course < logical_count old.shape stops.lists
  within = inside_count old lba n (length stops.course) stops.lists stops.wrote.in_use stops.wrote.inside stops.covered

  valid_reached : AreValid old.shape stops.reached
  valid_reached = subst (AreValid old.shape) (sym stops.wrote.reached_are)
      (after_valid old.shape stops.lists (block_with lba) valid_first stops.course (let w = within in omega (arith, w)) stops.wrote.can)

  within_reached : next_block lba stops.course < logical_count old.shape stops.reached
  within_reached =
      let total : logical_count old.shape stops.reached ≡ logical_count old.shape stops.lists =
      ap (logical_count old.shape) stops.wrote.reached_are ∙ after_total old.shape stops.lists (block_with lba) valid_first stops.course in
      let w = within in omega (arith, w, total)

  pub write_stopped : (newer : Sdl) × (newer.ssa ≡ stops.reached.sdl.ssa) × CanBeFound new stops.reached.dds stops.reached.sdl newer
  write_stopped =
      let found = reached_left old.shape (cells_in new) stops.reached (next_block lba stops.course) valid_reached within_reached (stops.left is_known) in
      (found.0, found.1, by_shape old new stops.reached.dds stops.reached.sdl found.0 same found.2)
