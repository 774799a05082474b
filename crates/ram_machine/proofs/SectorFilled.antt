-- Discs whose blocks that cannot be read are filled with some byte: a drive that was just opened may stand for each of them, so what it
-- shows says nothing of such a block.
use Rattle.std.specs.Prelude.{◌≡◌, ℕ, zero, suc, ◌+◌, ◌-◌, ◌*◌, ◌<◌, ◌≤◌, List, [], ◌∷◌, length, map, take, drop, replicate, flat_map, slice_index, get_or}
use Rattle.std.specs.List.{Contains}
use Rattle.std.proofs.Common.{arith, refl, sym, ap, ◌∙◌, inl, inr, subst}
use Rattle.std.proofs.lemmas.List.{length-replicate, get_or-replicate, drop-replicate, take-replicate}
use Rattle.std.proofs.lemmas.List.FromFn.{get_or-map-range_with_len, length-map-range_with_len}
use Rattle.model_geometry.specs.Geometry.{Shape}
use Rattle.model_medium.specs.Cells.{Cell, Blank, Good, Torn, Dead, cell_at, AreWhole}
use Rattle.model_sectors.specs.Discs.{Standing, Agrees, block_of}
use Rattle.model_sectors.proofs.Fitting.{length_pieces, piece_at}
use Rattle.model_places.specs.Places.{Lists, logical_count, home_of}
use Rattle.model_volume.specs.Starts.{Found, IsDiscStart, homes_under}
use Rattle.model_volume.specs.Covers.{FitsUnder, SomeFit, Cover}

-- n bytes that are all the same
unfoldable pub filled : (fill n : ℕ) → List ℕ
filled fill n = replicate n fill

pub length_filled : (fill n : ℕ) → length (filled fill n) ≡ n
unfolding filled
length_filled fill n = length-replicate n fill

filled_part : (fill size n i : ℕ) → size * i + size ≤ n → take size (drop (size * i) (replicate {A = ℕ} n fill)) ≡ replicate size fill
filled_part fill size n i inside = ap (take size) (drop-replicate (size * i) n fill) ∙ take-replicate size (n - size * i) fill (omega (arith, inside))

pub filled_in : (fill n k : ℕ) → 2048 * k + 2048 ≤ n → take 2048 (drop (2048 * k) (filled fill n)) ≡ filled fill 2048
unfolding filled
filled_in fill n k inside = filled_part fill 2048 n k inside

-- filled with other bytes they differ
differ_by : (n : ℕ) → 0 < n → ◌≡◌ {A = List ℕ} (replicate {A = ℕ} n 0) (replicate {A = ℕ} n 1) → ⊥
differ_by n some same =
    let first : ◌≡◌ {A = ℕ} (get_or (replicate n 0) 0 2) 0 = get_or-replicate n 0 0 2 some in
    let other : ◌≡◌ {A = ℕ} (get_or (replicate n 1) 0 2) 1 = get_or-replicate n 0 1 2 some in
    let both : ◌≡◌ {A = ℕ} (get_or (replicate n 0) 0 2) (get_or (replicate n 1) 0 2) = ap (λ (l : List ℕ). get_or l 0 2) same in
    omega (arith, first, other, both)

pub filled_differ : (n : ℕ) → 0 < n → filled 0 n ≡ filled 1 n → ⊥
unfolding filled
filled_differ n some same = differ_by n some same

module _ (fill : ℕ) where
  -- the whole bytes of a cell, or as many of this byte
  abbrev pub bytes_or : Cell → List ℕ
  bytes_or Blank = filled fill 32768
  bytes_or (Good bytes) = bytes
  bytes_or Torn = filled fill 32768
  bytes_or Dead = filled fill 32768

  length_bytes_or : (cell : Cell) → ((bytes : List ℕ) → cell ≡ Good bytes → length bytes ≡ 32768) → length (bytes_or cell) ≡ 32768
  length_bytes_or Blank whole = length_filled fill 32768
  length_bytes_or (Good bytes) whole = whole bytes refl
  length_bytes_or Torn whole = length_filled fill 32768
  length_bytes_or Dead whole = length_filled fill 32768

  agrees_own : (cell : Cell) → Agrees cell (bytes_or cell)
  agrees_own Blank = tt
  agrees_own (Good bytes) = refl
  agrees_own Torn = tt
  agrees_own Dead = tt

  module _ (shape : Shape) (cells : List Cell) (whole : AreWhole cells) where
    -- the disc that lists show, so filled
    unfoldable pub filled_disc : List ℕ → List ℕ
    filled_disc homes = flat_map (λ block. bytes_or (cell_at cells block)) homes

    abbrev pub filled_under : Found → List ℕ
    filled_under found = filled_disc (homes_under shape found.lists)

    own_length : (homes : List ℕ) (j : ℕ) → length (bytes_or (cell_at cells (slice_index homes j))) ≡ 32768
    own_length homes j = length_bytes_or (cell_at cells (slice_index homes j)) (λ bytes e. whole (slice_index homes j) bytes e)

    length_disc : (homes : List ℕ) → length (filled_disc homes) ≡ 32768 * length homes
    unfolding filled_disc
    length_disc homes = length_pieces (λ block. bytes_or (cell_at cells block)) 32768 homes (λ j h. own_length homes j)

    block_of_disc : (homes : List ℕ) (i : ℕ) → i < length homes → block_of (filled_disc homes) i ≡ bytes_or (cell_at cells (slice_index homes i))
    unfolding filled_disc block_of
    block_of_disc homes i h = piece_at (λ block. bytes_or (cell_at cells block)) 32768 homes i (λ j k. own_length homes j) h

    home_in : (lists : Lists) (i : ℕ) → i < logical_count shape lists → slice_index (homes_under shape lists) i ≡ home_of shape lists i
    home_in lists i h = get_or-map-range_with_len (home_of shape lists) 0 (logical_count shape lists) i i 0 h (omega arith)

    home_many : (lists : Lists) → length (homes_under shape lists) ≡ logical_count shape lists
    home_many lists = length-map-range_with_len (home_of shape lists) 0 (logical_count shape lists)

    pub filled_long : (found : Found) → length (filled_under found) ≡ 32768 * logical_count shape found.lists
    filled_long found = length_disc (homes_under shape found.lists) ∙ ap (λ (n : ℕ). 32768 * n) (home_many found.lists)

    -- a block of it
    pub filled_block : (found : Found) (i : ℕ) → i < logical_count shape found.lists → block_of (filled_under found) i ≡ bytes_or (cell_at cells (home_of shape found.lists i))
    filled_block found i h =
        block_of_disc (homes_under shape found.lists) i (omega (arith, h, home_many found.lists))
        ∙ ap (λ (b : ℕ). bytes_or (cell_at cells b)) (home_in found.lists i h)

    filled_fits : (found : Found) → FitsUnder shape cells found.lists (filled_under found)
    filled_fits found = record {
      as_long = filled_long found;
      agrees = λ i h. subst (Agrees (cell_at cells (home_of shape found.lists i))) (sym (filled_block found i h)) (agrees_own (cell_at cells (home_of shape found.lists i)));
    }

    some_filled : (all : List Found) (found : Found) → Contains all found → SomeFit shape cells found.lists (map filled_under all)
    some_filled [] found (k, within, is) = absurd (omega arith)
    some_filled (f ∷ all) found (zero, within, is) = inl (subst (λ (g : Found). FitsUnder shape cells found.lists (filled_under g)) (sym is) (filled_fits found))
    some_filled (f ∷ all) found (suc k, within, is) = inr (some_filled all found (k, omega arith, is))

    -- they cover all lists that the cells give
    pub filled_cover : (all : List Found) (standing : Standing) → IsDiscStart shape cells all standing → Cover shape cells (map filled_under all)
    filled_cover all standing start lists given =
        let f = start.every lists given in
        subst (λ (l : Lists). SomeFit shape cells l (map filled_under all)) f.2 (some_filled all f.0 f.1)
