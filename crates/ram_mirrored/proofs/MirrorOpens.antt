-- The register of a sector when two images were opened, and when two discs were pressed.
use Rattle.std.specs.Prelude.{◌≡◌, ℕ, ◌+◌, ◌-◌, ◌*◌, ◌%◌, ◌<◌, ◌⊎◌, Bool, true, false, if◌then◌else◌, None, Ok, List, [], ◌∷◌, length, map, take, drop, replicate}
use Rattle.std.specs.List.{Contains}
use Rattle.std.proofs.Common.{arith, refl, sym, ap, ◌∙◌, inl, inr, subst}
use Rattle.std.proofs.lemmas.Bool.{cases_lt}
use Rattle.std.proofs.lemmas.List.{get_or-replicate, get_or_past, length-replicate}
use Rattle.std.proofs.lemmas.List.FromFn.{length-map-range_with_len}
use Rattle.model_geometry.specs.Geometry.{Shape, IsLawful, total, dds_block}
use Rattle.model_medium.specs.Cells.{Cell, Blank, Good, Torn, Dead, cell_at, AreWhole}
use Rattle.model_copies.specs.Copies.{Holds}
use Rattle.model_lists.specs.Texts.{IsDdsText}
use Rattle.model_image.specs.Cells.{cells_of, cell_in, data_in, data_offset, image_len}
use Rattle.model_image.specs.Image.{blank_cells, pressed_image}
use Rattle.model_image.proofs.Writes.{cell_at-cells_of}
use Rattle.model_image.proofs.WholeCells.{cells_of-whole}
use Rattle.model_image.proofs.Presses.{pressed, pressed_bytes}
use Rattle.model_places.specs.Places.{home_of}
use Rattle.model_sectors.specs.Discs.{Standing, Off, sectors_of, candidates}
use Rattle.model_sectors.specs.Requests.{block_with}
use Rattle.model_sectors.proofs.Pieces.{piece_of_piece}
use Rattle.model_volume.specs.Covers.{Cover}
use Rattle.model_volume.specs.Starts.{Found, IsFound, disc_under}
use Rattle.model_drive.specs.Shown.{Shown, StandsFor}
use Rattle.model_mirror.specs.Sides.{side_a, side_b}
use Rattle.model_cache.proofs.Members.{Contains-none, Contains-first, Contains-later, Contains-cases}
use Rattle.ram_report.specs.declared.printing.Event.TheVariants as events
use Rattle.ram_report.specs.declared.printing.MirrorEvent.{MirrorEvent}
use Rattle.ram_report.specs.declared.printing.MirrorEvent.TheVariants as mirrors
use Rattle.ram_machine.specs.SectorBytes.{bytes_of_sector}
use Rattle.ram_machine.specs.Register.{Value, MayHold}
use Rattle.ram_machine.proofs.SectorValues.{bytes_under, falls_under}
use Rattle.ram_machine.proofs.SectorFilled.{filled, filled_under, filled_long, filled_cover}
use Rattle.ram_machine.proofs.SectorOpened.{place_fits, value_in, falls_of, filled_sector}
use Rattle.ram_machine.proofs.SectorBoth.{one_lost, other_lost}
use Rattle.ram_pair.specs.declared.told.Told.TheVariants as told
use Rattle.ram_pair.specs.PairStates.{TwoImages, Mirrored, PairState, Unpaired, Paired, ShowsOpened, IsFirstPair, IsPressedPair}
use Rattle.ram_pair.specs.PairSteps.{PressPair}
use Rattle.ram_mirrored.specs.MirrorRegister.{MirrorRegister, OnPress, IsMirrorOpened}
use Rattle.ram_mirrored.proofs.MirrorSectors.{FallTo, SideFalls, SidesFall, MatchesMirror, match_none, both_values, in_first, in_second}

-- the register goes with a state; of images that are no discs nothing is known, and no line can be answered but a press
abbrev pub MatchesPair : (at : ℕ) → PairState → MirrorRegister → Type 0
MatchesPair at (Unpaired images) r = Unit {0}
MatchesPair at (Paired s) r = MatchesMirror at s.shown r

-- A line turns it, and it goes with the state then.
pub record TurnedPair (at : ℕ) (t : PairState) (Rule : MirrorRegister → Type 0) : Type 0 where
  pub after : MirrorRegister
  pub rule : Rule after
  pub matches : MatchesPair at t after

-- ---- what the homes of an image have
good_data : (blank good dead : Bool) (own held : List ℕ) → (if blank then Blank else (if good then Good own else (if dead then Dead else Torn))) ≡ Good held → own ≡ held
good_data true good dead own held is = absurd (let clash : Blank ≡ Good held = is in cc)
good_data false true dead own held is = cc
good_data false false true own held is = absurd (let clash : Dead ≡ Good held = is in cc)
good_data false false false own held is = absurd (let clash : Torn ≡ Good held = is in cc)

good_place : (blocks : ℕ) (image : List ℕ) (block : ℕ) (held : List ℕ) → cell_at (cells_of blocks image) block ≡ Good held → (block < blocks) × (data_in blocks image block ≡ held)
good_place blocks image block held good = elim (cases_lt block blocks) [
  | inl inside ↦ (inside, good_data _ _ _ (data_in blocks image block) held (sym (cell_at-cells_of blocks image block inside) ∙ good))
  | inr past ↦ absurd (
      let none : cell_at (cells_of blocks image) block ≡ Dead = get_or_past (cells_of blocks image) block Dead (omega (arith, past, length-map-range_with_len (cell_in blocks image) 0 blocks)) in
      let clash : Dead ≡ Good held = sym none ∙ good in cc
      )
]

module _ (at : ℕ) where
  module _ (image : List ℕ) (blocks : ℕ) (long : length image ≡ image_len blocks) where
    cell_holds : (home : ℕ) (cell : Cell) → cell_at (cells_of blocks image) home ≡ cell → MayHold image at (value_in at cell)
    cell_holds home Blank is = tt
    cell_holds home (Good held) is =
        let found = good_place blocks image home held is in (
          blocks,
          home,
          long,
          found.0,
          (
              ap (λ (h : List ℕ). bytes_of_sector (16 * block_with at) h at) (sym found.1)
              ∙ piece_of_piece (data_offset blocks home) 32768 (2048 * (at - 16 * block_with at)) 2048 image (place_fits at)
              ∙ ap (λ (k : ℕ). take 2048 (drop (data_offset blocks home + 2048 * k) image)) place
              ),
        )
      where
        place : at - 16 * block_with at ≡ at % 16
        place = omega arith
    cell_holds home Torn is = tt
    cell_holds home Dead is = tt

    founds_hold : (shape : Shape) (all : List Found) (value : Value) → Contains (falls_of at shape (cells_of blocks image) all) value → MayHold image at value
    founds_hold shape [] value has = absurd (Contains-none value has)
    founds_hold shape (found ∷ all) value has =
        let home : ℕ = home_of shape found.lists (block_with at) in
        elim (Contains-cases (value_in at (cell_at (cells_of blocks image) home)) (falls_of at shape (cells_of blocks image) all) value has) [
          | inl is ↦ subst (MayHold image at) is (cell_holds home (cell_at (cells_of blocks image) home) refl)
          | inr more ↦ founds_hold shape all value more
        ]

  -- the discs of an image, filled where they cannot be read, have these values
  in_falls : (fill : ℕ) (shape : Shape) (cells : List Cell) (whole : AreWhole cells) (all : List Found) → FallTo at (falls_under (filled fill 2048) (falls_of at shape cells all)) (map (filled_under fill shape cells whole) all)
  in_falls fill shape cells whole [] disc has inside = absurd (Contains-none disc has)
  in_falls fill shape cells whole (found ∷ all) disc has inside = elim (Contains-cases (filled_under fill shape cells whole found) (map (filled_under fill shape cells whole) all) disc has) [
    | inl is ↦
        let long = filled_long fill shape cells whole found in
        let size = ap length is in
        subst (λ (d : List ℕ). Contains (falls_under (filled fill 2048) (falls_of at shape cells (found ∷ all))) (sectors_of d at 1)) is
        (subst (Contains (falls_under (filled fill 2048) (falls_of at shape cells (found ∷ all)))) (sym (filled_sector at fill shape cells whole found (omega (arith, inside, long, size))))
        (Contains-first (bytes_under (filled fill 2048) (value_in at (cell_at cells (home_of shape found.lists (block_with at))))) (falls_under (filled fill 2048) (falls_of at shape cells all))))
    | inr more ↦ Contains-later (bytes_under (filled fill 2048) (value_in at (cell_at cells (home_of shape found.lists (block_with at))))) (falls_under (filled fill 2048) (falls_of at shape cells all)) (sectors_of disc at 1)
        (in_falls fill shape cells whole all disc more inside)
  ]

  -- ---- a side that was just opened
  abbrev cells_under : Shape → List ℕ → List Cell
  cells_under shape image = cells_of (total shape) image

  module _ (shape : Shape) (image : List ℕ) (long : length image ≡ image_len (total shape)) (side : Shown) (opened : ShowsOpened shape image side) where
    side_values : List Value
    side_values = falls_of at shape (cells_of (total shape) image) opened.opened.all

    side_opened : (fill : ℕ) (falls : List Value) → ((bytes : List ℕ) → Contains (falls_under (filled fill 2048) (falls_of at shape (cells_of (total shape) image) opened.opened.all)) bytes → Contains (falls_under (filled fill 2048) falls) bytes)
        → SideFalls (filled fill 2048) at side falls
    side_opened fill falls more =
        let cells : List Cell = cells_of (total shape) image in
        let whole = cells_of-whole (total shape) image long in
        let discs : List (List ℕ) = map (filled_under fill shape cells whole) opened.opened.all in
        let cover : Cover shape cells discs = filled_cover fill shape cells whole opened.opened.all opened.disc.standing opened.opened.starts in
        record {
          standing = Off discs;
          stands = subst (λ (x : Shown). StandsFor x (Off discs)) (sym (opened.shown_is ∙ opened.opened.shown_is)) (refl, (λ on. absurd (let w : false ≡ true = on in cc)), cover);
          fall = λ disc has inside. more (sectors_of disc at 1) (in_falls fill shape cells whole opened.opened.all disc has inside);
        }

  -- ---- both
  module _ (images : TwoImages) (s : Mirrored) (is : IsFirstPair images (Paired s)) where
    abbrev first_shape : Shape
    first_shape = is.0

    abbrev values_a : List Value
    values_a = falls_of at is.0 (cells_of (total is.0) images.a) is.2.a.opened.all

    abbrev values_b : List Value
    values_b = falls_of at is.0 (cells_of (total is.0) images.b) is.2.b.opened.all

    first_falls : List Value
    first_falls = both_values values_a values_b

    in_either : (values more : List Value) (value : Value) → Contains (both_values values more) value → Contains values value ⊎ Contains more value
    in_either [] more value has = inr has
    in_either (first ∷ values) more value has = elim (Contains-cases first (both_values values more) value has) [
      | inl same ↦ inl (subst (Contains (first ∷ values)) same (Contains-first first values))
      | inr later ↦ elim (in_either values more value later) [ inl one ↦ inl (Contains-later first values value one) | inr other ↦ inr other ]
    ]

    held : (value : Value) → Contains (both_values values_a values_b) value → MayHold images.a at value ⊎ MayHold images.b at value
    held value has = elim (in_either values_a values_b value has) [
      | inl one ↦ inl (founds_hold images.a (total is.0) is.1.a.as_long is.0 is.2.a.opened.all value one)
      | inr other ↦ inr (founds_hold images.b (total is.0) is.1.b.as_long is.0 is.2.b.opened.all value other)
    ]

    sides : (fill : ℕ) → SidesFall (filled fill 2048) at s.shown (both_values values_a values_b)
    sides fill = record {
      a = side_opened is.0 images.a is.1.a.as_long (side_a s.shown) is.2.a fill (both_values values_a values_b) (λ bytes has. in_first (filled fill 2048) values_a values_b bytes has);
      b = side_opened is.0 images.b is.1.b.as_long (side_b s.shown) is.2.b fill (both_values values_a values_b) (λ bytes has. in_second (filled fill 2048) values_a values_b bytes has);
    }

    abbrev first_register : MirrorRegister
    first_register = record { now = None; falls = both_values values_a values_b; led = false }

    first_matches : MatchesMirror at s.shown first_register
    first_matches = match_none at s.shown first_register is.2.unknown refl (record { off = is.2.off; none = refl; one = sides 0; other = sides 1 })

  -- the register of a sector then
  pub record OpensTo (images : TwoImages) (s : PairState) : Type 0 where
    pub register : MirrorRegister
    pub opened : IsMirrorOpened images at register
    pub matches : MatchesPair at s register

  pub opens : (images : TwoImages) (s : PairState) → IsFirstPair images s → OpensTo images s
  opens images (Unpaired held) is = record {
    register = record { now = None; falls = []; led = false };
    opened = record { off = refl; held = λ value has. absurd (Contains-none value has); unled = refl };
    matches = tt;
  }
  opens images (Paired s) is = record {
    register = first_register images s is;
    opened = record { off = refl; held = held images s is; unled = refl };
    matches = first_matches images s is;
  }

  -- ---- a press
  no_text : (cell : Cell) {V : Type 0} (text : V → List ℕ → Type 0) (v : V) → (cell ≡ Blank) ⊎ (cell ≡ Dead) → Holds text cell v → ⊥
  no_text cell text v (inl blank) holds = subst (λ (c : Cell). Holds text c v) blank holds
  no_text cell text v (inr dead) holds = subst (λ (c : Cell). Holds text c v) dead holds

  blank_or_dead : (n block : ℕ) → (cell_at (replicate n Blank) block ≡ Blank) ⊎ (cell_at (replicate n Blank) block ≡ Dead)
  blank_or_dead n block = elim (cases_lt block n) [
    | inl h ↦ inl (get_or-replicate n block Blank Dead h)
    | inr h ↦ inr (get_or_past (replicate n Blank) block Dead (omega (arith, h, length-replicate {A = Cell} n Blank)))
  ]

  blank_found : (shape : Shape) (cells : List Cell) → cells ≡ blank_cells shape → (found : Found) → IsFound shape cells found → ⊥
  blank_found shape cells same found is =
      no_text (cell_at (blank_cells shape) (dds_block shape found.dds_area)) IsDdsText found.lists.dds (blank_or_dead (total shape) (dds_block shape found.dds_area))
      (subst (λ (l : List Cell). Holds IsDdsText (cell_at l (dds_block shape found.dds_area)) found.lists.dds) same is.dds_copy.holds)

  -- the cells of a pressed image are blank
  pressed_cells : (shape : Shape) → IsLawful shape → cells_of (total shape) (pressed_image shape) ≡ blank_cells shape
  pressed_cells shape lawful = ap (λ (l : List ℕ). cells_of (total shape) l) (sym (pressed_bytes shape refl)) ∙ (pressed shape refl lawful).cells_are

  pressed_side : (lost : List ℕ) (shape : Shape) → IsLawful shape → (side : Shown) → ShowsOpened shape (pressed_image shape) side → SideFalls lost at side []
  pressed_side lost shape lawful side opened = record {
    standing = opened.disc.standing;
    stands = subst (λ (x : Shown). StandsFor x opened.disc.standing) (sym opened.shown_is) opened.disc.stands;
    fall = subst (λ (x : Standing). FallTo at [] (candidates x)) (sym opened.opened.starts.standing_is) (none opened.opened.all opened.opened.starts.each);
  }
    where
      cells : List Cell
      cells = cells_of (total shape) (pressed_image shape)

      none : (all : List Found) → ((found : Found) → Contains all found → IsFound shape (cells_of (total shape) (pressed_image shape)) found) → FallTo at [] (map (disc_under shape (cells_of (total shape) (pressed_image shape))) all)
      none [] each disc has inside = absurd (Contains-none disc has)
      none (found ∷ all) each disc has inside = absurd (blank_found shape (cells_of (total shape) (pressed_image shape)) (pressed_cells shape lawful) found (each found (Contains-first found all)))

  abbrev pressed_register : MirrorRegister
  pressed_register = record { now = None; falls = []; led = false }

  pressed_pair : (shape : Shape) → IsLawful shape → (t : PairState) → IsPressedPair shape t → MatchesPair at t pressed_register
  pressed_pair shape lawful (Unpaired images) is = absurd is
  pressed_pair shape lawful (Paired t) is = match_none at t.shown pressed_register is.unknown refl (record { off = is.off; none = refl; one = both one_lost; other = both other_lost })
    where
      both : (lost : List ℕ) → SidesFall lost at t.shown []
      both lost = record { a = pressed_side lost shape lawful (side_a t.shown) is.a; b = pressed_side lost shape lawful (side_b t.shown) is.b }

  pub press_turn : (s t : PairState) (r : MirrorRegister) (shape : Shape) (event : MirrorEvent) → PressPair s shape (Ok (told.Event event)) t → MatchesPair at s r → TurnedPair at t (λ after. OnPress r event after)
  press_turn s t r shape (mirrors.OfDisc events.Pressed) step was = record { after = pressed_register; rule = refl; matches = pressed_pair shape step.0 t step.1 }
  press_turn s t r shape (mirrors.OfDisc events.NotPressed) step was = record { after = r; rule = refl; matches = subst (λ (x : PairState). MatchesPair at x r) (sym step.1) was }
  press_turn s t r shape _ step was = absurd step

  pub press_nothing : (s t : PairState) (shape : Shape) → PressPair s shape (Ok told.Nothing) t → ⊥
  press_nothing s t shape step = step
