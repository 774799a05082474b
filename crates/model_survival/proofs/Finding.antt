-- What keeps the lists of a disc findable.
use Rattle.std.specs.Prelude.{◌≡◌, ℕ, ◌<◌, ◌≤◌, ◌⊎◌, Option, Some, None, List}
use Rattle.std.proofs.Common.{refl, sym, ap, ◌∙◌, inl, inr, subst, arith}
use Rattle.std.proofs.lemmas.Bool.{cases_lt}
use Rattle.model_geometry.specs.Geometry.{Shape, dds_block, sdl_block, sdl_second_block}
use Rattle.model_lists.specs.declared.dds.DdsState.TheVariants.{Formatting, Formatted}
use Rattle.model_lists.specs.Values.{Dds, Sdl}
use Rattle.model_lists.specs.Texts.{IsDdsText, IsTwo, IsSdlText, IsSdlSecond}
use Rattle.model_lists.proofs.DdsTexts as dds_texts
use Rattle.model_medium.specs.Cells.{Cell, Blank, Good, Torn, Dead, IsSameOrDead, cell_at}
use Rattle.model_copies.specs.Copies.{IsArea, Holds, HoldsOrDead, HasDdsCopy, Settled}
use Rattle.model_copies.specs.Parts.{AreAlike, HasSdlParts, HasSdlCopy, SdlIsExact, SdlIsLost, SdlIsBetween, SdlIsSettled}
use Rattle.model_copies.proofs.CopyFacts.{copy_settled}
use Rattle.model_copies.proofs.PartFacts.{lost_none, lost_still}
use Rattle.model_copies.proofs.SdlParts.{sdl_two_decided, sdl_before, sdl_exact, sdl_repaired, sdl_were, lost_decided, settled_stopped, copy_of_two}
use Rattle.model_places.specs.Places.{Lists}
use Rattle.model_places.specs.Valid.{AreValid}
use Rattle.model_volume.specs.Given.{IsWholePair, FitsDds, IsChosenDds, AreChosen, NoSdlChosen, LacksLists, AreSettled, AreSeen, LosesListCells}
use Rattle.model_volume.proofs.GivenFacts.{lists_of, same_lists}
use Rattle.model_volume.proofs.Choosing.{choice_is}
use Rattle.model_survival.specs.Stops.{LeavesSdl, MendsSdl, MendsDds, MendsLists, SdlCellsDie, MendsChosen, StopsMounting}
use Rattle.model_survival.specs.Findable.{SdlLives, HaveTwoCopies, PartsAt, IsFindable, ListCellsDie}

-- ---- one cell

module _ {V : Type 0} (text : V → List ℕ → Type 0) where
  pub alive_holds : (cell : Cell) (v : V) → HoldsOrDead text cell v → ¬ (cell ≡ Dead) → Holds text cell v
  alive_holds Blank v exact alive = absurd exact
  alive_holds (Good bytes) v exact alive = exact
  alive_holds Torn v exact alive = absurd exact
  alive_holds Dead v exact alive = absurd (alive refl)

  holds_exact : (cell : Cell) (v : V) → Holds text cell v → HoldsOrDead text cell v
  holds_exact Blank v h = absurd h
  holds_exact (Good bytes) v h = h
  holds_exact Torn v h = absurd h
  holds_exact Dead v h = tt

  -- a cell that held the text, and is as it was, holds it while it is not dead
  pub holds_on : (old new : Cell) (v : V) → IsSameOrDead old new → Holds text old v → ¬ (new ≡ Dead) → Holds text new v
  holds_on old new v (inl same) h alive = subst (λ (c : Cell). Holds text c v) (sym same) h
  holds_on old new v (inr dead) h alive = absurd (alive dead)

  -- an exact cell that died is exact
  exact_on : (old new : Cell) (v : V) → IsSameOrDead old new → HoldsOrDead text old v → HoldsOrDead text new v
  exact_on old new v (inl same) h = subst (λ (c : Cell). HoldsOrDead text c v) (sym same) h
  exact_on old new v (inr dead) h = subst (λ (c : Cell). HoldsOrDead text c v) (sym dead) tt

  -- one that a repair spares, or that stays dead, is exact
  exact_spared : (old new : Cell) (v : V) → HoldsOrDead text old v → (Holds text old v → IsSameOrDead old new) → (old ≡ Dead → new ≡ Dead) → HoldsOrDead text new v
  exact_spared Blank new v exact spared dead = absurd exact
  exact_spared (Good bytes) new v exact spared dead = exact_on (Good bytes) new v (spared exact) exact
  exact_spared Torn new v exact spared dead = absurd exact
  exact_spared Dead new v exact spared dead = subst (λ (c : Cell). HoldsOrDead text c v) (sym (dead refl)) tt

  -- a settled cell that a repair spares is as it was or dead
  spared_dies : (old new : Cell) (v : V) → HoldsOrDead text old v → (Holds text old v → IsSameOrDead old new) → (old ≡ Dead → new ≡ Dead) → IsSameOrDead old new
  spared_dies Blank new v exact spared dead = absurd exact
  spared_dies (Good bytes) new v exact spared dead = spared exact
  spared_dies Torn new v exact spared dead = absurd exact
  spared_dies Dead new v exact spared dead = inr (dead refl)

alive_before : (old new : Cell) → (old ≡ Dead → new ≡ Dead) → ¬ (new ≡ Dead) → ¬ (old ≡ Dead)
alive_before old new dead alive = λ was. alive (dead was)

dead_on : (old new : Cell) → IsSameOrDead old new → old ≡ Dead → new ≡ Dead
dead_on old new (inl same) was = same ∙ was
dead_on old new (inr dead) was = dead

-- ---- lists that are settled

module _ (shape : Shape) where
  -- a copy without a dead cell is not lost
  lives_not_lost : (cells : List Cell) (v : Sdl) (area : ℕ) → IsArea area → SdlLives shape cells v.version area → SdlIsLost shape cells v → ⊥
  lives_not_lost cells v area is lives lost = elim (lost area is) [
    | inl dead ↦ lives.first dead
    | inr dead ↦ lives.second dead.0 dead.1
  ]

  -- so where the list is settled, it is the text
  pub lives_has : (cells : List Cell) (v : Sdl) (area : ℕ) → SdlIsSettled shape cells v → IsArea area → SdlLives shape cells v.version area → HasSdlCopy shape cells v area
  lives_has cells v area settled is lives =
      let exact = settled (λ both. lives_not_lost cells v area is lives both.0) in record {
        is_area = is;
        is_area' = is;
        holds = alive_holds IsSdlText (cell_at cells (sdl_block shape area)) v (exact.firsts area is) lives.first;
        holds' = λ two. alive_holds IsSdlSecond (cell_at cells (sdl_second_block shape area)) v (exact.seconds two area is) (lives.second two);
      }

  between_lost : (cells : List Cell) (v : Sdl) → SdlIsLost shape cells v → SdlIsBetween shape cells v v
  between_lost cells v lost w x y parts some alike = absurd (none alike)
    where
      none : AreAlike IsTwo IsSdlText IsSdlSecond w v ⊎ AreAlike IsTwo IsSdlText IsSdlSecond w v → ⊥
      none (inl is) = lost_none IsTwo IsSdlText IsSdlSecond (sdl_block shape) (sdl_second_block shape) cells v some.other some.area lost some.copy ((λ t. is.0 (some.alike.0 t)), (λ t. some.alike.1 (is.1 t)))
      none (inr is) = lost_none IsTwo IsSdlText IsSdlSecond (sdl_block shape) (sdl_second_block shape) cells v some.other some.area lost some.copy ((λ t. is.0 (some.alike.0 t)), (λ t. some.alike.1 (is.1 t)))

  between_itself : (cells : List Cell) (v : Sdl) → SdlIsSettled shape cells v → SdlIsBetween shape cells v v
  between_itself cells v settled w x y parts some alike = elim (lost_decided shape cells v) [
    | inl lost ↦ between_lost cells v lost w x y parts some alike
    | inr not ↦ inl (sdl_exact shape cells v w x y (settled (λ both. not both.0)) parts)
  ]

  pub settled_findable : (cells : List Cell) (lists : Lists) → AreValid shape lists → AreSettled shape cells lists → IsFindable shape cells lists.dds lists.sdl lists.sdl
  settled_findable cells lists valid settled = record {
    valid = valid;
    valid' = valid;
    order = inl refl;
    settled = settled.dds;
    between = between_itself cells lists.sdl settled.sdl;
    at = 0;
    parts = record {
      before = λ area is less lives. lives_has cells lists.sdl area settled.sdl is lives;
      after = λ area is more lives. lives_has cells lists.sdl area settled.sdl is lives;
    };
  }

  -- ---- cells that die

  module _ (old new : List Cell) (die : ListCellsDie shape old new) where
    sdl_lives_before : (v : Sdl) (area : ℕ) → IsArea area → SdlLives shape new v.version area → SdlLives shape old v.version area
    sdl_lives_before v area is lives = record {
      first = alive_before (cell_at old (sdl_block shape area)) (cell_at new (sdl_block shape area)) (dead_on (cell_at old (sdl_block shape area)) (cell_at new (sdl_block shape area)) (die.sdl.firsts area is)) lives.first;
      second = λ two. alive_before (cell_at old (sdl_second_block shape area)) (cell_at new (sdl_second_block shape area)) (dead_on (cell_at old (sdl_second_block shape area)) (cell_at new (sdl_second_block shape area)) (die.sdl.seconds area is)) (lives.second two);
    }

    copy_on : (v : Sdl) (area : ℕ) → HasSdlCopy shape old v area → SdlLives shape new v.version area → HasSdlCopy shape new v area
    copy_on v area copy lives = record {
      is_area = copy.is_area;
      is_area' = copy.is_area';
      holds = holds_on IsSdlText (cell_at old (sdl_block shape area)) (cell_at new (sdl_block shape area)) v (die.sdl.firsts area copy.is_area) copy.holds lives.first;
      holds' = λ two. holds_on IsSdlSecond (cell_at old (sdl_second_block shape area)) (cell_at new (sdl_second_block shape area)) v (die.sdl.seconds area copy.is_area') (copy.holds' two) (lives.second two);
    }

    pub parts_were_there : (v : Sdl) (a b : ℕ) → HasSdlParts shape new v a b → HasSdlParts shape old v a b
    parts_were_there v a b parts = sdl_before shape old new v a b (die.sdl.firsts a parts.is_area) (die.sdl.seconds b parts.is_area') parts

    between_dies : (a b : Sdl) → SdlIsBetween shape old a b → SdlIsBetween shape new a b
    between_dies a b between w x y parts some alike =
        between w x y (parts_were_there w x y parts) (record { other = some.other; area = some.area; copy = parts_were_there some.other some.area some.area some.copy; alike = some.alike }) alike

    settled_dies : (v : Dds) → Settled IsDdsText (dds_block shape) old v → Settled IsDdsText (dds_block shape) new v
    settled_dies v settled = λ area is. exact_on IsDdsText (cell_at old (dds_block shape area)) (cell_at new (dds_block shape area)) v (die.dds area is) (settled area is)

    parts_die : (a b : Sdl) (at : ℕ) → PartsAt shape old a b at → PartsAt shape new a b at
    parts_die a b at parts = record {
      before = λ area is less lives. copy_on b area (parts.before area is less (sdl_lives_before b area is lives)) lives;
      after = λ area is more lives. copy_on a area (parts.after area is more (sdl_lives_before a area is lives)) lives;
    }

    pub findable_dies : (dds : Dds) (a b : Sdl) → IsFindable shape old dds a b → IsFindable shape new dds a b
    findable_dies dds a b f = record {
      valid = f.valid;
      valid' = f.valid';
      order = f.order;
      settled = settled_dies dds f.settled;
      between = between_dies a b f.between;
      at = f.at;
      parts = parts_die a b f.at f.parts;
    }

  same_or_dead : (old new : List Cell) → LosesListCells shape old new → (block : ℕ) → IsSameOrDead (cell_at old block) (cell_at new block)
  same_or_dead old new loses block = elim (loses block) [ inl same ↦ inl same | inr dead ↦ inr dead.0 ]

  pub die_of_loses : (old new : List Cell) → LosesListCells shape old new → ListCellsDie shape old new
  die_of_loses old new loses = record {
    dds = λ area is. same_or_dead old new loses (dds_block shape area);
    sdl = record { firsts = λ area is. same_or_dead old new loses (sdl_block shape area); seconds = λ area is. same_or_dead old new loses (sdl_second_block shape area) };
  }

  pub findable_loses : (old new : List Cell) (dds : Dds) (a b : Sdl) → IsFindable shape old dds a b → LosesListCells shape old new → IsFindable shape new dds a b
  findable_loses old new dds a b f loses = findable_dies old new (die_of_loses old new loses) dds a b f

  seen_same_or_dead : (old seen new : List Cell) → AreSeen shape old seen new → (block : ℕ) → IsSameOrDead (cell_at old block) (cell_at seen block)
  seen_same_or_dead old seen new sees block = elim (sees block) [ inl same ↦ inl same | inr dead ↦ inr dead.0 ]

  pub die_of_seen : (old seen new : List Cell) → AreSeen shape old seen new → ListCellsDie shape old seen
  die_of_seen old seen new sees = record {
    dds = λ area is. seen_same_or_dead old seen new sees (dds_block shape area);
    sdl = record { firsts = λ area is. seen_same_or_dead old seen new sees (sdl_block shape area); seconds = λ area is. seen_same_or_dead old seen new sees (sdl_second_block shape area) };
  }

  -- ---- an update that is stopped

  pub stopped_findable : (old new : List Cell) (lists : Lists) (sdl : Sdl) → AreValid shape lists → AreValid shape (record { dds = lists.dds; sdl = sdl }) → lists.sdl.counter < sdl.counter → AreSettled shape old lists
      → ((area : ℕ) → IsArea area → IsSameOrDead (cell_at old (dds_block shape area)) (cell_at new (dds_block shape area)))
      → LeavesSdl shape old new sdl → IsFindable shape new lists.dds lists.sdl sdl
  stopped_findable old new lists sdl valid valid' less settled dds left = record {
    valid = valid;
    valid' = valid';
    order = inr less;
    settled = λ area is. exact_on IsDdsText (cell_at old (dds_block shape area)) (cell_at new (dds_block shape area)) lists.dds (dds area is) (settled.dds area is);
    between = settled_stopped shape old new lists.sdl sdl settled.sdl one_version (inl (λ same. omega (arith, same, less))) left.may left.stays_dead;
    at = left.stops.at;
    parts = record { before = before; after = after };
  }
    where
      one_version : lists.sdl.version ≡ sdl.version
      one_version = valid.together.same_version ∙ sym valid'.together.same_version

      before : (area : ℕ) → IsArea area → area < left.stops.at → SdlLives shape new sdl.version area → HasSdlCopy shape new sdl area
      before area is sooner lives = record {
        is_area = is;
        is_area' = is;
        holds = alive_holds IsSdlText (cell_at new (sdl_block shape area)) sdl (left.stops.firsts.done area is sooner) lives.first;
        holds' = λ two. alive_holds IsSdlSecond (cell_at new (sdl_second_block shape area)) sdl ((left.stops.seconds two).done area is sooner) (lives.second two);
      }

      lives_old : (area : ℕ) → IsArea area → SdlLives shape new lists.sdl.version area → SdlLives shape old lists.sdl.version area
      lives_old area is lives = record {
        first = alive_before (cell_at old (sdl_block shape area)) (cell_at new (sdl_block shape area)) (left.stays_dead.firsts area is) lives.first;
        second = λ two. alive_before (cell_at old (sdl_second_block shape area)) (cell_at new (sdl_second_block shape area)) (left.stays_dead.seconds area is) (lives.second two);
      }

      after : (area : ℕ) → IsArea area → left.stops.at < area → SdlLives shape new lists.sdl.version area → HasSdlCopy shape new lists.sdl area
      after area is later lives =
          let was = lives_has old lists.sdl area settled.sdl is (lives_old area is lives) in record {
            is_area = is;
            is_area' = is;
            holds = holds_on IsSdlText (cell_at old (sdl_block shape area)) (cell_at new (sdl_block shape area)) lists.sdl (left.stops.firsts.to_come area is later) was.holds lives.first;
            holds' = λ two. holds_on IsSdlSecond (cell_at old (sdl_second_block shape area)) (cell_at new (sdl_second_block shape area)) lists.sdl ((left.stops.seconds (sym one_version ∙ two)).to_come area is later) (was.holds' two) (lives.second two);
          }

  -- ---- a repair that is stopped

  one_version : (dds : Dds) (a b : Sdl) → AreValid shape (lists_of dds a) → AreValid shape (lists_of dds b) → a.version ≡ b.version
  one_version dds a b valid valid' = valid.together.same_version ∙ sym valid'.together.same_version

  alike_lives : (cells : List Cell) (a b : Sdl) (area : ℕ) → a.version ≡ b.version → SdlLives shape cells a.version area → SdlLives shape cells b.version area
  alike_lives cells a b area same lives = record { first = lives.first; second = λ two. lives.second (same ∙ two) }

  module _ (seen new : List Cell) (v : Sdl) (mends : MendsSdl shape seen new v) where
    lives_seen : (w : Sdl) (area : ℕ) → IsArea area → SdlLives shape new w.version area → SdlLives shape seen w.version area
    lives_seen w area is lives = record {
      first = alive_before (cell_at seen (sdl_block shape area)) (cell_at new (sdl_block shape area)) (mends.left.stays_dead.firsts area is) lives.first;
      second = λ two. alive_before (cell_at seen (sdl_second_block shape area)) (cell_at new (sdl_second_block shape area)) (mends.left.stays_dead.seconds area is) (lives.second two);
    }

    -- a copy of the text stays
    copy_spared : (area : ℕ) → HasSdlCopy shape seen v area → SdlLives shape new v.version area → HasSdlCopy shape new v area
    copy_spared area copy lives = record {
      is_area = copy.is_area;
      is_area' = copy.is_area';
      holds = holds_on IsSdlText (cell_at seen (sdl_block shape area)) (cell_at new (sdl_block shape area)) v (mends.spares.firsts area copy.is_area copy.holds) copy.holds lives.first;
      holds' = λ two. holds_on IsSdlSecond (cell_at seen (sdl_second_block shape area)) (cell_at new (sdl_second_block shape area)) v (mends.spares.seconds two area copy.is_area (copy.holds' two)) (copy.holds' two) (lives.second two);
    }

    copy_done : (area : ℕ) → IsArea area → area < mends.left.stops.at → SdlLives shape new v.version area → HasSdlCopy shape new v area
    copy_done area is sooner lives = record {
      is_area = is;
      is_area' = is;
      holds = alive_holds IsSdlText (cell_at new (sdl_block shape area)) v (mends.left.stops.firsts.done area is sooner) lives.first;
      holds' = λ two. alive_holds IsSdlSecond (cell_at new (sdl_second_block shape area)) v ((mends.left.stops.seconds two).done area is sooner) (lives.second two);
    }

    copy_to_come : (w : Sdl) (area : ℕ) → w.version ≡ v.version → mends.left.stops.at < area → HasSdlCopy shape seen w area → SdlLives shape new w.version area → HasSdlCopy shape new w area
    copy_to_come w area same later copy lives = record {
      is_area = copy.is_area;
      is_area' = copy.is_area';
      holds = holds_on IsSdlText (cell_at seen (sdl_block shape area)) (cell_at new (sdl_block shape area)) w (mends.left.stops.firsts.to_come area copy.is_area later) copy.holds lives.first;
      holds' = λ two. holds_on IsSdlSecond (cell_at seen (sdl_second_block shape area)) (cell_at new (sdl_second_block shape area)) w ((mends.left.stops.seconds (sym same ∙ two)).to_come area copy.is_area later) (copy.holds' two) (lives.second two);
    }

    -- a repair to the newer list
    parts_to_newer : (a : Sdl) (at : ℕ) → a.version ≡ v.version → PartsAt shape seen a v at → (k : ℕ) × PartsAt shape new a v k
    parts_to_newer a at same parts = elim (cases_lt mends.left.stops.at at) [
      | inl sooner ↦ (
        at,
        record {
          before = λ area is less lives. copy_spared area (parts.before area is less (lives_seen v area is lives)) lives;
          after = λ area is more lives. copy_to_come a area same (omega (arith, sooner, more)) (parts.after area is more (lives_seen a area is lives)) lives;
        },
      )
      | inr later ↦ (
        mends.left.stops.at,
        record {
          before = λ area is less lives. copy_done area is less lives;
          after = λ area is more lives. copy_to_come a area same more (parts.after area is (omega (arith, later, more)) (lives_seen a area is lives)) lives;
        },
      )
    ]

    -- a repair to the older one, where no copy of the newer one can be read
    parts_to_older : (b : Sdl) (at : ℕ) → ((area : ℕ) → HasSdlCopy shape seen b area → ⊥) → PartsAt shape seen v b at → PartsAt shape new v b at
    parts_to_older b at none parts = record {
      before = λ area is less lives. absurd (none area (parts.before area is less (lives_seen b area is lives)));
      after = λ area is more lives. copy_spared area (parts.after area is more (lives_seen v area is lives)) lives;
    }

  module _ (seen new : List Cell) (dds : Dds) (a b : Sdl) (f : IsFindable shape seen dds a b) where
    -- the structure that is chosen
    dds_is : (v : Dds) (area : ℕ) → IsChosenDds shape seen v area → v ≡ dds
    dds_is v area chosen = copy_settled IsDdsText dds_texts.one_value (dds_block shape) seen dds v area f.settled chosen.copy

    dds_cells_die : (v : Dds) → v ≡ dds → MendsDds shape seen new v → (area : ℕ) → IsArea area → IsSameOrDead (cell_at seen (dds_block shape area)) (cell_at new (dds_block shape area))
    dds_cells_die v same repairs area is = spared_dies IsDdsText (cell_at seen (dds_block shape area)) (cell_at new (dds_block shape area)) v
        (subst (HoldsOrDead IsDdsText (cell_at seen (dds_block shape area))) (sym same) (f.settled area is)) (repairs.spares area is) (repairs.left.stays_dead area is)

    chosen_version : (lists : Lists) → AreChosen shape seen lists → lists.sdl.version ≡ a.version
    chosen_version lists chosen = chosen.sdl_chosen.fits.same_version ∙ ap (λ (d : Dds). d.version) (dds_is lists.dds chosen.dds_area chosen.dds_chosen) ∙ sym f.valid.together.same_version

    chosen_of_two : (lists : Lists) → AreChosen shape seen lists → (lists.sdl ≡ a) ⊎ (lists.sdl ≡ b)
    chosen_of_two lists chosen = copy_of_two shape seen a b lists.sdl chosen.sdl_area f.between chosen.sdl_chosen.copy (inl (chosen_version lists chosen))

    -- where the older list is chosen, no copy of the newer one can be read
    none_newer : (lists : Lists) → AreChosen shape seen lists → lists.sdl ≡ a → a.counter < b.counter → (area : ℕ) → HasSdlCopy shape seen b area → ⊥
    none_newer lists chosen is_a less area copy =
        let same = dds_is lists.dds chosen.dds_area chosen.dds_chosen in
        let fits : FitsDds shape lists.dds b = subst (λ (d : Dds). FitsDds shape d b) (sym same) f.valid'.together in
        let counter : lists.sdl.counter ≡ a.counter = ap (λ (s : Sdl). s.counter) is_a in
        worse counter (chosen.sdl_chosen.no_better b area copy fits)
      where
        worse : lists.sdl.counter ≡ a.counter → (b.counter < lists.sdl.counter) ⊎ ((b.counter ≡ lists.sdl.counter) × (chosen.sdl_area ≤ area)) → ⊥
        worse counter (inl lower) = omega (arith, counter, less, lower)
        worse counter (inr (equal, low)) = omega (arith, counter, less, equal)

    between_mended : (lists : Lists) → AreChosen shape seen lists → MendsSdl shape seen new lists.sdl → SdlIsBetween shape new a b
    between_mended lists chosen mends w x y parts some alike =
        let nothing = sdl_repaired shape seen new lists.sdl chosen.sdl_area chosen.sdl_chosen.copy mends.left.may in
        let was = sdl_were shape seen new w x y nothing parts in
        f.between w was.0 was.1 was.2 (record { other = lists.sdl; area = chosen.sdl_area; copy = chosen.sdl_chosen.copy; alike = is_alike alike }) alike
      where
        version_a : lists.sdl.version ≡ a.version
        version_a = chosen_version lists chosen

        version_b : lists.sdl.version ≡ b.version
        version_b = version_a ∙ one_version dds a b f.valid f.valid'

        is_alike : AreAlike IsTwo IsSdlText IsSdlSecond w a ⊎ AreAlike IsTwo IsSdlText IsSdlSecond w b → AreAlike IsTwo IsSdlText IsSdlSecond lists.sdl w
        is_alike (inl is) = ((λ t. is.1 (sym version_a ∙ t)), (λ t. version_a ∙ is.0 t))
        is_alike (inr is) = ((λ t. is.1 (sym version_b ∙ t)), (λ t. version_b ∙ is.0 t))

    parts_mended : (lists : Lists) → AreChosen shape seen lists → MendsSdl shape seen new lists.sdl → (k : ℕ) × PartsAt shape new a b k
    parts_mended lists chosen mends = by_choice (chosen_of_two lists chosen) f.order
      where
        newer : lists.sdl ≡ b → (k : ℕ) × PartsAt shape new a b k
        newer is_b = parts_to_newer seen new b (subst (MendsSdl shape seen new) is_b mends) a f.at (one_version dds a b f.valid f.valid') f.parts

        by_choice : (lists.sdl ≡ a) ⊎ (lists.sdl ≡ b) → (a ≡ b) ⊎ (a.counter < b.counter) → (k : ℕ) × PartsAt shape new a b k
        by_choice (inr is_b) order = newer is_b
        by_choice (inl is_a) (inl same) = newer (is_a ∙ same)
        by_choice (inl is_a) (inr less) = (f.at, parts_to_older seen new a (subst (MendsSdl shape seen new) is_a mends) b f.at (none_newer lists chosen is_a less) f.parts)

    findable_mended : (lists : Lists) → AreChosen shape seen lists → MendsLists shape seen new lists → IsFindable shape new dds a b
    findable_mended lists chosen repairs =
        let parts = parts_mended lists chosen repairs.sdl in
        let die = dds_cells_die lists.dds (dds_is lists.dds chosen.dds_area chosen.dds_chosen) repairs.dds in record {
          valid = f.valid;
          valid' = f.valid';
          order = f.order;
          settled = λ area is. exact_on IsDdsText (cell_at seen (dds_block shape area)) (cell_at new (dds_block shape area)) dds (die area is) (f.settled area is);
          between = between_mended lists chosen repairs.sdl;
          at = parts.0;
          parts = parts.1;
        }

    findable_after : MendsChosen shape seen new → IsFindable shape new dds a b
    findable_after (inl loses) = findable_loses seen new dds a b f loses
    findable_after (inr (inl (v, area, one))) = findable_dies seen new (record { dds = dds_cells_die v (dds_is v area one.chosen) one.mends; sdl = one.dies }) dds a b f
    findable_after (inr (inr (lists, both))) = findable_mended lists both.chosen both.mends

  pub mount_findable : (old new : List Cell) (dds : Dds) (a b : Sdl) → IsFindable shape old dds a b → StopsMounting shape old new → IsFindable shape new dds a b
  mount_findable old new dds a b f stops = findable_after stops.seen new dds a b (findable_dies old stops.seen (die_of_seen old stops.seen new stops.are_seen) dds a b f) stops.mends

  -- ---- a rewriting format that is stopped

  second_dies : (old new : List Cell) (v : Sdl) (area : ℕ) → IsArea area → SdlIsExact shape old v → MendsSdl shape old new v → IsSameOrDead (cell_at old (sdl_second_block shape area)) (cell_at new (sdl_second_block shape area))
  second_dies old new v area is exact mends = elim (sdl_two_decided v) [
    | inl two ↦ spared_dies IsSdlSecond (cell_at old (sdl_second_block shape area)) (cell_at new (sdl_second_block shape area)) v (exact.seconds two area is) (mends.spares.seconds two area is) (mends.left.stays_dead.seconds area is)
    | inr one ↦ elim (mends.left.may.seconds area is) [ inl same ↦ inl same | inr both ↦ absurd (one both.0) ]
  ]

  sdl_cells_die : (old new : List Cell) (v : Sdl) → SdlIsExact shape old v → MendsSdl shape old new v → SdlCellsDie shape old new
  sdl_cells_die old new v exact mends = record {
    firsts = λ area is. spared_dies IsSdlText (cell_at old (sdl_block shape area)) (cell_at new (sdl_block shape area)) v (exact.firsts area is) (mends.spares.firsts area is) (mends.left.stays_dead.firsts area is);
    seconds = λ area is. second_dies old new v area is exact mends;
  }

  pub rewriting_findable : (old new : List Cell) (lists : Lists) → AreValid shape lists → AreSettled shape old lists → MendsLists shape old new lists → IsFindable shape new lists.dds lists.sdl lists.sdl
  rewriting_findable old new lists valid settled repairs =
      let f = settled_findable old lists valid settled in
      let dds_die = dds_cells_die old new lists.dds lists.sdl lists.sdl f lists.dds refl repairs.dds in
      elim (lost_decided shape old lists.sdl) [
        | inr not ↦ findable_dies old new (record { dds = dds_die; sdl = sdl_cells_die old new lists.sdl (settled.sdl (λ both. not both.0)) repairs.sdl }) lists.dds lists.sdl lists.sdl f
        | inl lost ↦
            let still = lost_still IsTwo IsSdlText IsSdlSecond (sdl_block shape) (sdl_second_block shape) old new lists.sdl repairs.sdl.left.stays_dead lost in record {
              valid = valid;
              valid' = valid;
              order = inl refl;
              settled = λ area is. exact_on IsDdsText (cell_at old (dds_block shape area)) (cell_at new (dds_block shape area)) lists.dds (dds_die area is) (settled.dds area is);
              between = between_lost new lists.sdl still;
              at = 0;
              parts = record {
                before = λ area is less lives. absurd (lives_not_lost new lists.sdl area is lives still);
                after = λ area is more lives. absurd (lives_not_lost new lists.sdl area is lives still);
              };
            }
      ]

  -- ---- what is found

  module _ (cells : List Cell) (dds : Dds) (a b : Sdl) (f : IsFindable shape cells dds a b) (two : HaveTwoCopies shape cells a.version) where
    found_dds : HasDdsCopy shape cells dds two.of_dds.lower
    found_dds = record { is_area = two.of_dds.is_lower; holds = alive_holds IsDdsText (cell_at cells (dds_block shape two.of_dds.lower)) dds (f.settled two.of_dds.lower two.of_dds.is_lower) two.of_dds.in_lower }

    pub found_whole : IsWholePair shape cells (lists_of dds a) ⊎ IsWholePair shape cells (lists_of dds b)
    found_whole = elim (cases_lt two.of_sdl.lower f.at) [
      | inl sooner ↦ inr (record {
        dds_area = two.of_dds.lower;
        dds_copy = found_dds;
        sdl_area = two.of_sdl.lower;
        sdl_copy = f.parts.before two.of_sdl.lower two.of_sdl.is_lower sooner (alike_lives cells a b two.of_sdl.lower (one_version dds a b f.valid f.valid') two.of_sdl.in_lower);
        valid = f.valid';
      })
      | inr later ↦ inl (record {
        dds_area = two.of_dds.lower;
        dds_copy = found_dds;
        sdl_area = two.of_sdl.upper;
        sdl_copy = f.parts.after two.of_sdl.upper two.of_sdl.is_upper (let more = two.of_sdl.differ in omega (arith, later, more)) two.of_sdl.in_upper;
        valid = f.valid;
      })
    ]

    some_whole : (lists : Lists) × (lists.dds ≡ dds) × IsWholePair shape cells lists
    some_whole = elim found_whole [
      | inl whole ↦ (lists_of dds a, refl, whole)
      | inr whole ↦ (lists_of dds b, refl, whole)
    ]

    lacks_none : (chosen : Option Dds) → LacksLists shape cells chosen → ⊥
    lacks_none None none = none dds two.of_dds.lower found_dds f.valid.primary
    lacks_none (Some v) ((area, is), why) = by_cause (copy_settled IsDdsText dds_texts.one_value (dds_block shape) cells dds v area f.settled is.copy) why
      where
        by_cause : v ≡ dds → (v.state ≡ Formatting) ⊎ NoSdlChosen shape cells v → ⊥
        by_cause same (inl state) = (let says : Formatted ≡ Formatting = sym f.valid.formatted ∙ ap (λ (d : Dds). d.state) (sym same) ∙ state in cc)
        by_cause same (inr none) =
            let some = some_whole in
            none some.0.sdl some.2.sdl_area some.2.sdl_copy (subst (λ (d : Dds). FitsDds shape d some.0.sdl) (some.1 ∙ sym same) some.2.valid.together)

    pub found_choice : (lists : Lists) × AreChosen shape cells lists
    found_choice = elim (choice_is shape cells) [
      | inl chosen ↦ chosen
      | inr lacks ↦ absurd (lacks_none lacks.0 lacks.1)
    ]

  module _ (old seen new : List Cell) (sees : AreSeen shape old seen new) where
    dead_seen : ((block : ℕ) → cell_at old block ≡ Dead → cell_at new block ≡ Dead) → (block : ℕ) → ¬ (cell_at new block ≡ Dead) → ¬ (cell_at seen block ≡ Dead)
    dead_seen stay block alive dead = elim (sees block) [
      | inl same ↦ alive (stay block (sym same ∙ dead))
      | inr both ↦ alive both.1
    ]

    two_seen : ((block : ℕ) → cell_at old block ≡ Dead → cell_at new block ≡ Dead) → (v : Sdl) → HaveTwoCopies shape new v.version → HaveTwoCopies shape seen v.version
    two_seen stay v two = record {
      of_dds = record {
        lower = two.of_dds.lower;
        upper = two.of_dds.upper;
        differ = two.of_dds.differ;
        is_lower = two.of_dds.is_lower;
        is_upper = two.of_dds.is_upper;
        in_lower = dead_seen stay (dds_block shape two.of_dds.lower) two.of_dds.in_lower;
        in_upper = dead_seen stay (dds_block shape two.of_dds.upper) two.of_dds.in_upper;
      };
      of_sdl = record {
        lower = two.of_sdl.lower;
        upper = two.of_sdl.upper;
        differ = two.of_sdl.differ;
        is_lower = two.of_sdl.is_lower;
        is_upper = two.of_sdl.is_upper;
        in_lower = lives two.of_sdl.lower two.of_sdl.in_lower;
        in_upper = lives two.of_sdl.upper two.of_sdl.in_upper;
      };
    }
      where
        lives : (area : ℕ) → SdlLives shape new v.version area → SdlLives shape seen v.version area
        lives area there = record {
          first = dead_seen stay (sdl_block shape area) there.first;
          second = λ t. dead_seen stay (sdl_second_block shape area) (there.second t);
        }

    pub mounted_lacks_none : (dds : Dds) (a b : Sdl) (chosen : Option Dds) → IsFindable shape old dds a b → ((block : ℕ) → cell_at old block ≡ Dead → cell_at new block ≡ Dead) → HaveTwoCopies shape new a.version → LacksLists shape seen chosen → ⊥
    mounted_lacks_none dds a b chosen f stay two lacks = lacks_none seen dds a b (findable_dies old seen (die_of_seen old seen new sees) dds a b f) (two_seen stay a two) chosen lacks

    pub mounted_one_of_two : (dds : Dds) (a b : Sdl) (lists : Lists) → IsFindable shape old dds a b → AreChosen shape seen lists → (lists ≡ lists_of dds a) ⊎ (lists ≡ lists_of dds b)
    mounted_one_of_two dds a b lists f chosen =
        let g = findable_dies old seen (die_of_seen old seen new sees) dds a b f in
        let same = dds_is seen new dds a b g lists.dds chosen.dds_area chosen.dds_chosen in
        elim (chosen_of_two seen new dds a b g lists chosen) [
          | inl is_a ↦ inl (same_lists lists (lists_of dds a) same is_a)
          | inr is_b ↦ inr (same_lists lists (lists_of dds b) same is_b)
        ]
