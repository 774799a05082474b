-- The register of a sector when an image was opened.
use Rattle.std.specs.Prelude.{◌≡◌, ℕ, ◌+◌, ◌-◌, ◌*◌, ◌%◌, ◌<◌, ◌≤◌, Bool, true, false, if◌then◌else◌, None, List, [], ◌∷◌, length, map, take, drop}
use Rattle.std.specs.List.{Contains}
use Rattle.std.proofs.Common.{arith, refl, sym, ap, ◌∙◌, inl, inr, subst}
use Rattle.std.proofs.lemmas.Bool.{cases_lt}
use Rattle.std.proofs.lemmas.List.{get_or_past}
use Rattle.std.proofs.lemmas.List.Elements.{All-nil, All-cons}
use Rattle.std.proofs.lemmas.List.FromFn.{length-map-range_with_len}
use Rattle.model_geometry.specs.Geometry.{Shape, total}
use Rattle.model_medium.specs.Cells.{Cell, Blank, Good, Torn, Dead, cell_at, AreWhole}
use Rattle.model_image.specs.Cells.{cells_of, cell_in, data_in, data_offset, image_len}
use Rattle.model_image.specs.Image.{IsDiscImage}
use Rattle.model_image.proofs.Writes.{cell_at-cells_of}
use Rattle.model_image.proofs.WholeCells.{cells_of-whole}
use Rattle.model_sectors.specs.Discs.{Standing, block_of, sectors_of}
use Rattle.model_sectors.specs.Requests.{block_with}
use Rattle.model_sectors.proofs.Pieces.{piece_of_piece}
use Rattle.model_places.specs.Places.{home_of}
use Rattle.model_volume.specs.Covers.{Cover}
use Rattle.model_volume.specs.Starts.{Found, disc_under}
use Rattle.model_drive.specs.Shown.{cells_in}
use Rattle.model_cache.specs.Values.{MayHave, HasBlock, settled_values, with_older, plain}
use Rattle.model_cache.specs.Shown.{CacheShown, CacheStandsFor}
use Rattle.model_cache.specs.Runs.{CacheLoaded, IsCacheOpenedOn}
use Rattle.model_cache.proofs.Members.{Contains-none, Contains-first, Contains-later, Contains-cases}
use Rattle.model_cache.proofs.Falls.{settled_within}
use Rattle.model_cache.proofs.SameBlocks.{take_themselves}
use Rattle.ram_machine.specs.States.{State, Unopened, Disc, IsFirst}
use Rattle.ram_machine.specs.Answered.{AnsweredStep}
use Rattle.ram_machine.specs.Runs.{Run}
use Rattle.ram_machine.specs.SectorBytes.{bytes_of_sector}
use Rattle.ram_machine.specs.Register.{Value, Bytes, Lost, Register, MayHold, IsOpened, IsRegister}
use Rattle.ram_machine.proofs.WrittenDiscs.{SoInBlock, SoInValues, SoInContents, so_of_block, block_sector}
use Rattle.ram_machine.proofs.SectorValues.{bytes_under, now_under, falls_under}
use Rattle.ram_machine.proofs.SectorFilled.{filled, filled_in, bytes_or, filled_under, filled_long, filled_block, filled_cover}
use Rattle.ram_machine.proofs.SectorBoth.{Held}
use Rattle.ram_machine.proofs.SectorRuns.{MatchesState, run_turns}

-- the bytes of a good cell are the block's data
good_data : (blank good dead : Bool) (own held : List ℕ) → (if blank then Blank else (if good then Good own else (if dead then Dead else Torn))) ≡ Good held → own ≡ held
good_data true good dead own held is = absurd (let clash : Blank ≡ Good held = is in cc)
good_data false true dead own held is = cc
good_data false false true own held is = absurd (let clash : Dead ≡ Good held = is in cc)
good_data false false false own held is = absurd (let clash : Torn ≡ Good held = is in cc)

good_place : (blocks : ℕ) (image : List ℕ) (block : ℕ) (held : List ℕ) → cell_at (cells_of blocks image) block ≡ Good held → (block < blocks) × (data_in blocks image block ≡ held)
good_place blocks image block held good = elim (cases_lt block blocks) [
  | inl inside ↦ (inside, good_data _ _ _ (data_in blocks image block) held (sym (cell_at-cells_of blocks image block inside) ∙ good))
  | inr past ↦ absurd (
      let none : cell_at (cells_of blocks image) block ≡ Dead = get_or_past (cells_of blocks image) block Dead (omega (arith, past, length-map-range_with_len (cell_in blocks image) 0 blocks)) in
      let clash : Dead ≡ Good held = sym none ∙ good in cc
      )
]

module _ (at : ℕ) where
  -- its place in its block
  in_block : at - 16 * block_with at ≡ at % 16
  in_block = omega arith

  pub place_fits : 2048 * (at - 16 * block_with at) + 2048 ≤ 32768
  place_fits = omega arith

  -- ---- what homes have in it
  -- what a home has: its bytes, where they are whole
  abbrev pub value_in : Cell → Value
  value_in Blank = Lost
  value_in (Good held) = Bytes (bytes_of_sector (16 * block_with at) held at)
  value_in Torn = Lost
  value_in Dead = Lost

  -- and the homes of the block under each of these lists
  abbrev pub falls_of : Shape → List Cell → List Found → List Value
  falls_of shape cells [] = []
  falls_of shape cells (found ∷ all) = value_in (cell_at cells (home_of shape found.lists (block_with at))) ∷ falls_of shape cells all

  -- the sector of a block that is filled where it cannot be read
  filled_value : (fill : ℕ) (cell : Cell) → bytes_of_sector (16 * block_with at) (bytes_or fill cell) at ≡ bytes_under (filled fill 2048) (value_in cell)
  filled_value fill Blank = filled_in fill 32768 (at - 16 * block_with at) place_fits
  filled_value fill (Good held) = refl
  filled_value fill Torn = filled_in fill 32768 (at - 16 * block_with at) place_fits
  filled_value fill Dead = filled_in fill 32768 (at - 16 * block_with at) place_fits

  module _ (fill : ℕ) (shape : Shape) (cells : List Cell) (whole : AreWhole cells) where
    -- the sector of a disc so filled
    pub filled_sector : (found : Found) → HasBlock (filled_under fill shape cells whole found) (block_with at)
        → sectors_of (filled_under fill shape cells whole found) at 1 ≡ bytes_under (filled fill 2048) (value_in (cell_at cells (home_of shape found.lists (block_with at))))
    filled_sector found has =
        let long = filled_long fill shape cells whole found in
        sym (block_sector (filled_under fill shape cells whole found) at)
        ∙ ap (λ (b : List ℕ). bytes_of_sector (16 * block_with at) b at) (filled_block fill shape cells whole found (block_with at) (omega (arith, has, long)))
        ∙ filled_value fill (cell_at cells (home_of shape found.lists (block_with at)))

    in_falls : (all : List Found) (disc : List ℕ) → Contains (map (filled_under fill shape cells whole) all) disc → HasBlock disc (block_with at)
        → Contains (falls_under (filled fill 2048) (falls_of shape cells all)) (sectors_of disc at 1)
    in_falls [] disc has block = absurd (Contains-none disc has)
    in_falls (found ∷ all) disc has block = elim (Contains-cases (filled_under fill shape cells whole found) (map (filled_under fill shape cells whole) all) disc has) [
      | inl is ↦ subst (λ (d : List ℕ). HasBlock d (block_with at) → Contains (falls_under (filled fill 2048) (falls_of shape cells (found ∷ all))) (sectors_of d at 1)) is
          (λ own. subst (Contains (falls_under (filled fill 2048) (falls_of shape cells (found ∷ all)))) (sym (filled_sector found own))
          (Contains-first (bytes_under (filled fill 2048) (value_in (cell_at cells (home_of shape found.lists (block_with at))))) (falls_under (filled fill 2048) (falls_of shape cells all))))
          block
      | inr more ↦ Contains-later (bytes_under (filled fill 2048) (value_in (cell_at cells (home_of shape found.lists (block_with at))))) (falls_under (filled fill 2048) (falls_of shape cells all)) (sectors_of disc at 1)
          (in_falls all disc more block)
    ]

  -- candidates that are discs
  pub all_so : (S : List ℕ → Type 0) (discs : List (List ℕ)) → ((disc : List ℕ) → Contains discs disc → HasBlock disc (block_with at) → S (sectors_of disc at 1)) → SoInContents S at (MayHave (map (with_older []) discs))
  all_so S [] each = All-nil (SoInValues S at)
  all_so S (x ∷ xs) each =
      All-cons (SoInValues S at) (settled_values x) (map (with_older []) xs)
      (settled_within (SoInBlock S at) (block_with at) x (λ has. so_of_block S at x (block_of x (block_with at)) refl (each x (Contains-first x xs) has)))
      (all_so S xs (λ disc more. each disc (Contains-later x xs disc more)))

  -- ---- what the image has
  module _ (image : List ℕ) (blocks : ℕ) (long : length image ≡ image_len blocks) where
    cell_holds : (home : ℕ) (cell : Cell) → cell_at (cells_of blocks image) home ≡ cell → MayHold image at (value_in cell)
    cell_holds home Blank is = tt
    cell_holds home (Good held) is =
        let found = good_place blocks image home held is in (
          blocks,
          home,
          long,
          found.0,
          (
              ap (λ (h : List ℕ). bytes_of_sector (16 * block_with at) h at) (sym found.1)
              ∙ piece_of_piece (data_offset blocks home) 32768 (2048 * (at - 16 * block_with at)) 2048 image place_fits
              ∙ ap (λ (k : ℕ). take 2048 (drop (data_offset blocks home + 2048 * k) image)) in_block
              ),
        )
    cell_holds home Torn is = tt
    cell_holds home Dead is = tt

    founds_hold : (shape : Shape) (all : List Found) (value : Value) → Contains (falls_of shape (cells_of blocks image) all) value → MayHold image at value
    founds_hold shape [] value has = absurd (Contains-none value has)
    founds_hold shape (found ∷ all) value has =
        let home : ℕ = home_of shape found.lists (block_with at) in
        elim (Contains-cases (value_in (cell_at (cells_of blocks image) home)) (falls_of shape (cells_of blocks image) all) value has) [
          | inl is ↦ subst (MayHold image at) is (cell_holds home (cell_at (cells_of blocks image) home) refl)
          | inr more ↦ founds_hold shape all value more
        ]

-- a disc that was just opened stands also for what is filled so, and for no others
pub held_opened : (fill at : ℕ) (shape : Shape) (cells : List Cell) (whole : AreWhole cells) (s : CacheLoaded) (opened : IsCacheOpenedOn shape cells s) (r : Register) → cells_in s.shown.drive ≡ cells → s.shown.drive.shape ≡ shape
    → r.now ≡ None → r.caches ≡ false
    → ((disc : List ℕ) → Contains (map (filled_under fill shape cells whole) opened.all) disc → HasBlock disc (block_with at) → Contains (falls_under (filled fill 2048) r.falls) (sectors_of disc at 1))
    → Held (filled fill 2048) at s.shown r
held_opened fill at shape cells whole s opened r same_cells same_shape none off each =
    let discs : List (List ℕ) = map (filled_under fill shape cells whole) opened.all in
    let stood : CacheStandsFor s.shown (plain opened.standing) = subst (CacheStandsFor s.shown) opened.contents_is s.stands in
    let off_stood : CacheStandsFor s.shown (MayHave (map (with_older []) (map (disc_under shape cells) opened.all))) = subst (λ (x : Standing). CacheStandsFor s.shown (plain x)) opened.starts.standing_is stood in
    let cover : Cover s.shown.drive.shape (cells_in s.shown.drive) discs =
    subst (λ (z : Shape). Cover z (cells_in s.shown.drive) discs) (sym same_shape)
    (subst (λ (c : List Cell). Cover shape c discs) (sym same_cells) (filled_cover fill shape cells whole opened.all opened.standing opened.starts)) in
    record {
      contents = MayHave (map (with_older []) discs);
      stands = (discs, (off_stood.1.0, off_stood.1.1, cover), take_themselves discs);
      matches = record {
        now = ap (now_under (filled fill 2048)) none;
        falls = all_so at (Contains (falls_under (filled fill 2048) r.falls)) discs each;
        caches = off ∙ sym (ap (λ (x : CacheShown). x.caches) opened.shown_is);
      };
    }

-- the register of a sector then
pub record OpensTo (image : List ℕ) (at : ℕ) (s : State) : Type 0 where
  pub register : Register
  pub opened : IsOpened image at register
  pub matches : MatchesState at s register

pub opens : (image : List ℕ) (at : ℕ) (s : State) → IsFirst image s → OpensTo image at s
opens image at (Unopened held) is = record {
  register = record { now = None; falls = []; caches = false };
  opened = record { off = refl; held = λ value has. absurd (Contains-none value has); uncached = refl };
  matches = λ shape same. subst (λ (b : List ℕ). ¬ IsDiscImage shape b) (sym is.0) (is.1 shape same);
}
opens image at (Disc s) is =
    let shape : Shape = is.0 in
    let cells : List Cell = cells_of (total shape) image in
    let whole = cells_of-whole (total shape) image is.1.as_long in
    let opened = is.2.opened in
    let falls : List Value = falls_of at shape cells opened.all in
    let register : Register = record { now = None; falls = falls; caches = false } in
    let held = λ (fill : ℕ). held_opened fill at shape cells whole s.disc opened register (ap (λ (x : CacheShown). cells_in x.drive) opened.shown_is) (ap (λ (x : CacheShown). x.drive.shape) opened.shown_is) refl refl
    (in_falls at fill shape cells whole opened.all) in
    record {
      register = register;
      opened = record { off = refl; held = founds_hold at image (total shape) is.1.as_long shape opened.all; uncached = refl };
      matches = record { one = held 0; other = held 1 };
    }

-- each sector is a register over a run
pub registers : (image : List ℕ) (s t : State) (events : List AnsweredStep) (at : ℕ) → IsFirst image s → Run s events t → IsRegister image events at
registers image s t events at first run =
    let opened = opens image at s first in
    let turned = run_turns at s t events opened.register opened.matches run in
    record { first = opened.register; last = turned.after; opened = opened.opened; turns = turned.rule }
