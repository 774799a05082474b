-- Which lists cells may give.
use Rattle.std.specs.Prelude.{◌≡◌, ℕ, ◌<◌, ◌≤◌, ◌⊎◌, Option, Some, None, List}
use Rattle.std.proofs.Common.{sym, ap, ◌∙◌, inl, inr, subst, arith}
use Rattle.model_geometry.specs.Geometry.{Shape, dds_block, sdl_block}
use Rattle.model_lists.specs.declared.dds.DdsState.TheVariants.{Formatting, Formatted}
use Rattle.model_lists.specs.Values.{Dds, Sdl}
use Rattle.model_lists.specs.Texts.{IsDdsText, IsTwo, IsSdlText, IsSdlSecond}
use Rattle.model_lists.proofs.DdsTexts as dds_texts
use Rattle.model_lists.proofs.SdlTexts.{one_no_two}
use Rattle.model_lists.specs.declared.versions.Version.TheVariants.{One}
use Rattle.model_medium.specs.Cells.{Cell, IsSameOrDead, cell_at}
use Rattle.model_copies.specs.Copies.{IsArea, MayHold, HoldNothingNew, HasDdsCopy, Settled, AreBetween, IsChosen}
use Rattle.model_geometry.specs.Geometry.{sdl_second_block}
use Rattle.model_copies.specs.Parts.{HasSdlCopy, SdlIsExact, SdlIsLost, SdlIsBetween, SdlIsSettled, MayLeaveParts, PartsHoldNothingNew, AreMarkedWithin, Mark, NamesWithin}
use Rattle.model_copies.proofs.Marking.{counted_most, counted_own}
use Rattle.model_copies.proofs.CopyFacts.{OneValue, copy_before, copy_settled, copy_between, one_list}
use Rattle.model_copies.proofs.NothingNew.{nothing_new_from_write, held_before}
use Rattle.model_copies.proofs.PartFacts.{parts_were, nothing_new_from_repair}
use Rattle.model_copies.proofs.SdlParts.{sdl_tells, one_sdl as one_sdl_parts, sdl_before, sdl_exact, sdl_lost, settled_names}
use Rattle.model_places.specs.Places.{Lists}
use Rattle.model_places.specs.Valid.{IsValidPdl, AreValid}
use Rattle.model_volume.specs.Given.{IsWholePair, SomeWholePair, IsGiven, GivesNone, FitsDds, IsChosenDds, IsChosenSdl, AreChosen, ChoosesNone, NoDdsChosen, NoSdlChosen, LacksLists, AreSettled, AreSeen}

abbrev pub lists_of : Dds → Sdl → Lists
lists_of dds sdl = record { dds = dds; sdl = sdl }

-- the same two lists
pub same_lists : (one two : Lists) → one.dds ≡ two.dds → one.sdl ≡ two.sdl → one ≡ two
same_lists one two d s = ap (λ (x : Dds). lists_of x one.sdl) d ∙ ap (λ (y : Sdl). lists_of two.dds y) s

-- ---- the choice

-- chosen lists are valid
pub chosen_valid : (shape : Shape) (cells : List Cell) (lists : Lists) → AreChosen shape cells lists → AreValid shape lists
chosen_valid shape cells lists chosen = record { primary = chosen.dds_chosen.fits; together = chosen.sdl_chosen.fits; formatted = chosen.formatted }

pub chosen_whole : (shape : Shape) (cells : List Cell) (lists : Lists) → AreChosen shape cells lists → IsWholePair shape cells lists
chosen_whole shape cells lists chosen = record {
  dds_area = chosen.dds_area;
  dds_copy = chosen.dds_chosen.copy;
  sdl_area = chosen.sdl_area;
  sdl_copy = chosen.sdl_chosen.copy;
  valid = chosen_valid shape cells lists chosen;
}

-- each whole pair is given
pub whole_given : (shape : Shape) (cells : List Cell) (lists : Lists) → IsWholePair shape cells lists → IsGiven shape cells lists
whole_given shape cells lists whole = record {
  dds_area = whole.dds_area;
  dds_copy = whole.dds_copy;
  first_area = whole.sdl_area;
  second_area = whole.sdl_area;
  sdl_parts = whole.sdl_copy;
  valid = whole.valid;
  some_whole = (lists, whole);
}

-- a pair whose secondary list is of one block is whole
pub one_whole : (shape : Shape) (cells : List Cell) (lists : Lists) → lists.sdl.version ≡ One → IsGiven shape cells lists → IsWholePair shape cells lists
one_whole shape cells lists one given = record {
  dds_area = given.dds_area;
  dds_copy = given.dds_copy;
  sdl_area = given.first_area;
  sdl_copy = record {
    is_area = given.sdl_parts.is_area;
    is_area' = given.sdl_parts.is_area;
    holds = given.sdl_parts.holds;
    holds' = λ two. absurd (one_no_two lists.sdl.version one two);
  };
  valid = given.valid;
}

pub chosen_given : (shape : Shape) (cells : List Cell) (lists : Lists) → AreChosen shape cells lists → IsGiven shape cells lists
chosen_given shape cells lists chosen = whole_given shape cells lists (chosen_whole shape cells lists chosen)

pub chosen_given_later : (shape : Shape) (old new : List Cell) (lists : Lists) (dds_area sdl_area : ℕ) → AreChosen shape old lists
    → HasDdsCopy shape new lists.dds dds_area → HasSdlCopy shape new lists.sdl sdl_area → IsGiven shape new lists
chosen_given_later shape old new lists dds_area sdl_area chosen dds sdl =
    whole_given shape new lists (record { dds_area = dds_area; dds_copy = dds; sdl_area = sdl_area; sdl_copy = sdl; valid = chosen_valid shape old lists chosen })

-- of two counters and areas, each no worse than the other, the areas are the same
same_area : (c d a b : ℕ) → (d < c) ⊎ ((d ≡ c) × (a ≤ b)) → (c < d) ⊎ ((c ≡ d) × (b ≤ a)) → a ≡ b
same_area c d a b one two = grind (arith, one, two)

-- one copy is chosen at most
module _ {V : Type 0} (text : V → List ℕ → Type 0) (one_value : OneValue text) (place : ℕ → ℕ) (cells : List Cell) (counter : V → ℕ) (accepted : V → Type 0) where
  pub one_area : (v w : V) (a b : ℕ) → IsChosen text place cells counter accepted v a → IsChosen text place cells counter accepted w b → a ≡ b
  one_area v w a b one two = same_area (counter v) (counter w) a b (one.no_better w b two.copy two.fits) (two.no_better v a one.copy one.fits)

  pub one_chosen : (v w : V) (a b : ℕ) → IsChosen text place cells counter accepted v a → IsChosen text place cells counter accepted w b → v ≡ w
  one_chosen v w a b one two = one_list text one_value place cells v w a b one.copy two.copy (ap (λ (k : ℕ). cell_at cells (place k)) (one_area v w a b one two))

pub one_dds : (shape : Shape) (cells : List Cell) (v w : Dds) (a b : ℕ) → IsChosenDds shape cells v a → IsChosenDds shape cells w b → v ≡ w
one_dds shape cells v w a b one two = one_chosen IsDdsText dds_texts.one_value (dds_block shape) cells (λ (list : Dds). list.counter) (IsValidPdl shape) v w a b one two

pub one_sdl : (shape : Shape) (cells : List Cell) (dds : Dds) (v w : Sdl) (a b : ℕ) → IsChosenSdl shape cells dds v a → IsChosenSdl shape cells dds w b → v ≡ w
one_sdl shape cells dds v w a b one two =
    let same = same_area v.counter w.counter a b (one.no_better w b two.copy two.fits) (two.no_better v a one.copy one.fits) in
    one_sdl_parts shape cells v w b b (subst (HasSdlCopy shape cells v) same one.copy) two.copy

pub one_pair : (shape : Shape) (cells : List Cell) (one two : Lists) → AreChosen shape cells one → AreChosen shape cells two → one ≡ two
one_pair shape cells one two a b =
    let dds = one_dds shape cells one.dds two.dds a.dds_area b.dds_area a.dds_chosen b.dds_chosen in
    let sdl = one_sdl shape cells one.dds one.sdl two.sdl a.sdl_area b.sdl_area a.sdl_chosen (subst (λ (d : Dds). IsChosenSdl shape cells d two.sdl b.sdl_area) (sym dds) b.sdl_chosen) in
    same_lists one two dds sdl

-- what a choice lacks that gives none
pub none_lacking : (shape : Shape) (cells : List Cell) (dds : Option Dds) → LacksLists shape cells dds → ChoosesNone shape cells
none_lacking shape cells None none = λ lists chosen. none lists.dds chosen.dds_area chosen.dds_chosen.copy chosen.dds_chosen.fits
none_lacking shape cells (Some dds) ((area, is), why) = λ lists chosen. by_cause lists chosen (one_dds shape cells lists.dds dds chosen.dds_area area chosen.dds_chosen is) why
  where
    by_cause : (lists : Lists) → AreChosen shape cells lists → lists.dds ≡ dds → (dds.state ≡ Formatting) ⊎ NoSdlChosen shape cells dds → ⊥
    by_cause lists chosen same (inl state) = (let says : Formatted ≡ Formatting = sym chosen.formatted ∙ ap (λ (d : Dds). d.state) same ∙ state in cc)
    by_cause lists chosen same (inr none) = none lists.sdl chosen.sdl_area chosen.sdl_chosen.copy (subst (λ (d : Dds). FitsDds shape d lists.sdl) same chosen.sdl_chosen.fits)

-- ---- what is given

-- list cells that turn dead leave no other whole pair
pub whole_before : (shape : Shape) (old new : List Cell) (lists : Lists)
    → ((area : ℕ) → IsArea area → IsSameOrDead (cell_at old (dds_block shape area)) (cell_at new (dds_block shape area)))
    → ((area : ℕ) → IsArea area → IsSameOrDead (cell_at old (sdl_block shape area)) (cell_at new (sdl_block shape area)))
    → ((area : ℕ) → IsArea area → IsSameOrDead (cell_at old (sdl_second_block shape area)) (cell_at new (sdl_second_block shape area)))
    → IsWholePair shape new lists → IsWholePair shape old lists
whole_before shape old new lists dds sdl second whole = record {
  dds_area = whole.dds_area;
  dds_copy = copy_before IsDdsText (dds_block shape) old new lists.dds whole.dds_area (dds whole.dds_area whole.dds_copy.is_area) whole.dds_copy;
  sdl_area = whole.sdl_area;
  sdl_copy = sdl_before shape old new lists.sdl whole.sdl_area whole.sdl_area (sdl whole.sdl_area whole.sdl_copy.is_area) (second whole.sdl_area whole.sdl_copy.is_area') whole.sdl_copy;
  valid = whole.valid;
}

-- and give no other lists
pub given_before : (shape : Shape) (old new : List Cell) (lists : Lists)
    → ((area : ℕ) → IsArea area → IsSameOrDead (cell_at old (dds_block shape area)) (cell_at new (dds_block shape area)))
    → ((area : ℕ) → IsArea area → IsSameOrDead (cell_at old (sdl_block shape area)) (cell_at new (sdl_block shape area)))
    → ((area : ℕ) → IsArea area → IsSameOrDead (cell_at old (sdl_second_block shape area)) (cell_at new (sdl_second_block shape area)))
    → IsGiven shape new lists → IsGiven shape old lists
given_before shape old new lists dds sdl second given = record {
  dds_area = given.dds_area;
  dds_copy = copy_before IsDdsText (dds_block shape) old new lists.dds given.dds_area (dds given.dds_area given.dds_copy.is_area) given.dds_copy;
  first_area = given.first_area;
  second_area = given.second_area;
  sdl_parts = sdl_before shape old new lists.sdl given.first_area given.second_area (sdl given.first_area given.sdl_parts.is_area) (second given.second_area given.sdl_parts.is_area') given.sdl_parts;
  valid = given.valid;
  some_whole = (given.some_whole.0, whole_before shape old new given.some_whole.0 dds sdl second given.some_whole.1);
}

-- what a call saw given was given at entry
pub given_seen : (shape : Shape) (old seen new : List Cell) (lists : Lists) → AreSeen shape old seen new → IsGiven shape seen lists → IsGiven shape old lists
given_seen shape old seen new lists sees given =
    given_before shape old seen lists (λ area is. was_or_dead (dds_block shape area)) (λ area is. was_or_dead (sdl_block shape area)) (λ area is. was_or_dead (sdl_second_block shape area)) given
  where
    was_or_dead : (block : ℕ) → IsSameOrDead (cell_at old block) (cell_at seen block)
    was_or_dead block = elim (sees block) [ inl same ↦ inl same | inr dead ↦ inr dead.0 ]

-- where the structure is settled, and a whole pair is there, the secondary list of its version has a copy left
settled_not_lost : (shape : Shape) (cells : List Cell) (lists : Lists) → Settled IsDdsText (dds_block shape) cells lists.dds → lists.sdl.version ≡ lists.dds.version → SomeWholePair shape cells → SdlIsLost shape cells lists.sdl → ⊥
settled_not_lost shape cells lists dds version whole lost =
    let same = copy_settled IsDdsText dds_texts.one_value (dds_block shape) cells lists.dds whole.0.dds whole.1.dds_area dds whole.1.dds_copy in
    sdl_lost shape cells lists.sdl whole.0.sdl whole.1.sdl_area lost whole.1.sdl_copy
    (whole.1.valid.together.same_version ∙ ap (λ (d : Dds). d.version) same ∙ sym version)

-- settled lists of one version are given alone
pub settled_alone : (shape : Shape) (cells : List Cell) (lists other : Lists) → AreSettled shape cells lists → lists.sdl.version ≡ lists.dds.version → IsGiven shape cells other → other ≡ lists
settled_alone shape cells lists other settled version given =
    let exact = settled.sdl (λ both. settled_not_lost shape cells lists settled.dds version given.some_whole both.0) in
    same_lists other lists
    (copy_settled IsDdsText dds_texts.one_value (dds_block shape) cells lists.dds other.dds given.dds_area settled.dds given.dds_copy)
    (sdl_exact shape cells lists.sdl other.sdl given.first_area given.second_area exact given.sdl_parts)

-- the structure of a given pair has one of two texts, where its copies hold one of two
pub dds_between : (shape : Shape) (cells : List Cell) (a b : Dds) (lists : Lists) → AreBetween IsDdsText (dds_block shape) cells a b → IsGiven shape cells lists → (lists.dds ≡ a) ⊎ (lists.dds ≡ b)
dds_between shape cells a b lists between given = copy_between IsDdsText dds_texts.one_value (dds_block shape) cells a b lists.dds given.dds_area between given.dds_copy

-- with the first list settled, and the second between two of its version, one of both pairs is given
pub pair_between : (shape : Shape) (cells : List Cell) (dds : Dds) (a b : Sdl) (other : Lists) → Settled IsDdsText (dds_block shape) cells dds → a.version ≡ dds.version → SdlIsBetween shape cells a b
    → IsGiven shape cells other → (other ≡ lists_of dds a) ⊎ (other ≡ lists_of dds b)
pair_between shape cells dds a b other settled version between given =
    let first = copy_settled IsDdsText dds_texts.one_value (dds_block shape) cells dds other.dds given.dds_area settled given.dds_copy in
    let whole = given.some_whole in
    let first' = copy_settled IsDdsText dds_texts.one_value (dds_block shape) cells dds whole.0.dds whole.1.dds_area settled whole.1.dds_copy in
    let one : other.sdl.version ≡ dds.version = given.valid.together.same_version ∙ ap (λ (d : Dds). d.version) first in
    let one' : whole.0.sdl.version ≡ dds.version = whole.1.valid.together.same_version ∙ ap (λ (d : Dds). d.version) first' in
    elim (between other.sdl given.first_area given.second_area given.sdl_parts
    (record { other = whole.0.sdl; area = whole.1.sdl_area; copy = whole.1.sdl_copy; alike = ((λ t. one ∙ sym one' ∙ t), (λ t. one' ∙ sym one ∙ t)) })
    (inl ((λ t. version ∙ sym one ∙ t), (λ t. one ∙ sym version ∙ t)))) [
      | inl is_a ↦ inl (same_lists other (lists_of dds a) first is_a)
      | inr is_b ↦ inr (same_lists other (lists_of dds b) first is_b)
    ]

-- with the second list exact, and the first between two, one of both pairs is given
pub pair_between_dds : (shape : Shape) (cells : List Cell) (a b : Dds) (sdl : Sdl) (other : Lists) → AreBetween IsDdsText (dds_block shape) cells a b → SdlIsExact shape cells sdl
    → IsGiven shape cells other → (other ≡ lists_of a sdl) ⊎ (other ≡ lists_of b sdl)
pair_between_dds shape cells a b sdl other between exact given =
    let second = sdl_exact shape cells sdl other.sdl given.first_area given.second_area exact given.sdl_parts in
    elim (dds_between shape cells a b other between given) [
      | inl is_a ↦ inl (same_lists other (lists_of a sdl) is_a second)
      | inr is_b ↦ inr (same_lists other (lists_of b sdl) is_b second)
    ]

-- with the second list settled, and the first between its structure and one that says Formatting, its own pair is given alone
pub pair_between_formatting : (shape : Shape) (cells : List Cell) (lists : Lists) (b : Dds) (other : Lists) → AreBetween IsDdsText (dds_block shape) cells lists.dds b → b.state ≡ Formatting
    → SdlIsSettled shape cells lists.sdl → lists.sdl.version ≡ lists.dds.version → IsGiven shape cells other → other ≡ lists
pair_between_formatting shape cells lists b other between state settled version given =
    let whole = given.some_whole in
    let first : other.dds ≡ lists.dds = formatted other given.valid.formatted (dds_between shape cells lists.dds b other between given) in
    let first' : whole.0.dds ≡ lists.dds = formatted whole.0 whole.1.valid.formatted (copy_between IsDdsText dds_texts.one_value (dds_block shape) cells lists.dds b whole.0.dds whole.1.dds_area between whole.1.dds_copy) in
    let exact = settled (λ both. sdl_lost shape cells lists.sdl whole.0.sdl whole.1.sdl_area both.0 whole.1.sdl_copy
    (whole.1.valid.together.same_version ∙ ap (λ (d : Dds). d.version) first' ∙ sym version)) in
    same_lists other lists first (sdl_exact shape cells lists.sdl other.sdl given.first_area given.second_area exact given.sdl_parts)
  where
    formatted : (l : Lists) → l.dds.state ≡ Formatted → (l.dds ≡ lists.dds) ⊎ (l.dds ≡ b) → l.dds ≡ lists.dds
    formatted l says (inl same) = same
    formatted l says (inr same) = absurd (let h : Formatted ≡ Formatting = sym says ∙ ap (λ (d : Dds). d.state) same ∙ state in cc)

-- ---- a disc that is not formatted, after its structure was repaired

-- without a whole pair nothing is given
pub none_whole : (shape : Shape) (cells : List Cell) → ((lists : Lists) → ¬ IsWholePair shape cells lists) → GivesNone shape cells
none_whole shape cells none lists given = none given.some_whole.0 given.some_whole.1

pub bare_without_dds : (shape : Shape) (cells : List Cell) → NoDdsChosen shape cells → GivesNone shape cells
bare_without_dds shape cells none = λ lists given. none lists.dds given.dds_area given.dds_copy given.valid.primary

pub bare_formatting : (shape : Shape) (cells : List Cell) (dds : Dds) → Settled IsDdsText (dds_block shape) cells dds → dds.state ≡ Formatting → GivesNone shape cells
bare_formatting shape cells dds settled state = λ lists given.
    let same = copy_settled IsDdsText dds_texts.one_value (dds_block shape) cells dds lists.dds given.dds_area settled given.dds_copy in
    let says : Formatted ≡ Formatting = sym given.valid.formatted ∙ ap (λ (d : Dds). d.state) same ∙ state in
    cc

pub bare_without_sdl : (shape : Shape) (cells : List Cell) (dds : Dds) → Settled IsDdsText (dds_block shape) cells dds → NoSdlChosen shape cells dds → GivesNone shape cells
bare_without_sdl shape cells dds settled none = none_whole shape cells (λ lists whole.
    let same = copy_settled IsDdsText dds_texts.one_value (dds_block shape) cells dds lists.dds whole.dds_area settled whole.dds_copy in
    none lists.sdl whole.sdl_area whole.sdl_copy (subst (λ (d : Dds). FitsDds shape d lists.sdl) same whole.valid.together))

-- ---- copies that are written again after others

-- the structure's copies hold nothing new, and those of the secondary list stay or die
pub given_dds_others : (shape : Shape) (old new : List Cell) → HoldNothingNew IsDdsText (dds_block shape) old new
    → ((area : ℕ) → IsArea area → IsSameOrDead (cell_at old (sdl_block shape area)) (cell_at new (sdl_block shape area)))
    → ((area : ℕ) → IsArea area → IsSameOrDead (cell_at old (sdl_second_block shape area)) (cell_at new (sdl_second_block shape area)))
    → (lists : Lists) → IsGiven shape new lists → IsGiven shape old lists
given_dds_others shape old new dds sdl second lists given =
    let was = held_before IsDdsText (dds_block shape) old new dds lists.dds given.dds_area given.dds_copy dds_texts.one_value in
    let whole = given.some_whole in
    let was' = held_before IsDdsText (dds_block shape) old new dds whole.0.dds whole.1.dds_area whole.1.dds_copy dds_texts.one_value in
    record {
      dds_area = was.0;
      dds_copy = was.1;
      first_area = given.first_area;
      second_area = given.second_area;
      sdl_parts = sdl_before shape old new lists.sdl given.first_area given.second_area (sdl given.first_area given.sdl_parts.is_area) (second given.second_area given.sdl_parts.is_area') given.sdl_parts;
      valid = given.valid;
      some_whole = (
        whole.0,
        record {
          dds_area = was'.0;
          dds_copy = was'.1;
          sdl_area = whole.1.sdl_area;
          sdl_copy = sdl_before shape old new whole.0.sdl whole.1.sdl_area whole.1.sdl_area (sdl whole.1.sdl_area whole.1.sdl_copy.is_area) (second whole.1.sdl_area whole.1.sdl_copy.is_area') whole.1.sdl_copy;
          valid = whole.1.valid;
        },
      );
    }

-- the copies of both lists hold nothing new, and there was a whole pair: what is given now, also as a mixed pair, was given
pub given_others : (shape : Shape) (old new : List Cell) → SomeWholePair shape old → HoldNothingNew IsDdsText (dds_block shape) old new
    → PartsHoldNothingNew IsTwo IsSdlText IsSdlSecond (sdl_block shape) (sdl_second_block shape) old new
    → (lists : Lists) → IsGiven shape new lists → IsGiven shape old lists
given_others shape old new whole dds sdl lists given =
    let was = held_before IsDdsText (dds_block shape) old new dds lists.dds given.dds_area given.dds_copy dds_texts.one_value in
    let was' = parts_were IsTwo IsSdlText IsSdlSecond (sdl_block shape) (sdl_second_block shape) sdl_tells old new lists.sdl given.first_area given.second_area sdl given.sdl_parts in
    record { dds_area = was.0; dds_copy = was.1; first_area = was'.0; second_area = was'.1; sdl_parts = was'.2; valid = given.valid; some_whole = whole }

-- while the copies of both chosen lists are repaired, part after part, what is given was given before
pub given_in_repair : (shape : Shape) (old new : List Cell) (chosen : Lists) → IsWholePair shape old chosen
    → ((area : ℕ) → IsArea area → MayHold IsDdsText (cell_at old (dds_block shape area)) chosen.dds (cell_at new (dds_block shape area)))
    → MayLeaveParts IsTwo IsSdlText IsSdlSecond (sdl_block shape) (sdl_second_block shape) old new chosen.sdl
    → (lists : Lists) → IsGiven shape new lists → IsGiven shape old lists
given_in_repair shape old new chosen whole dds sdl =
    given_others shape old new (chosen, whole) (nothing_new_from_write IsDdsText (dds_block shape) old new chosen.dds whole.dds_area whole.dds_copy dds)
    (nothing_new_from_repair IsTwo IsSdlText IsSdlSecond (sdl_block shape) (sdl_second_block shape) sdl_tells old new chosen.sdl whole.sdl_area whole.sdl_copy sdl)

-- while the copies of a chosen structure are repaired, and the other list's copies stay or die, also
pub given_in_dds_repair : (shape : Shape) (old new : List Cell) (chosen : Dds) (a : ℕ) → HasDdsCopy shape old chosen a
    → ((area : ℕ) → IsArea area → MayHold IsDdsText (cell_at old (dds_block shape area)) chosen (cell_at new (dds_block shape area)))
    → ((area : ℕ) → IsArea area → IsSameOrDead (cell_at old (sdl_block shape area)) (cell_at new (sdl_block shape area)))
    → ((area : ℕ) → IsArea area → IsSameOrDead (cell_at old (sdl_second_block shape area)) (cell_at new (sdl_second_block shape area)))
    → (lists : Lists) → IsGiven shape new lists → IsGiven shape old lists
given_in_dds_repair shape old new chosen a copy dds sdl second =
    given_dds_others shape old new (nothing_new_from_write IsDdsText (dds_block shape) old new chosen a copy dds) sdl second

-- ---- marks

-- exact lists are settled
pub exact_settled : (shape : Shape) (cells : List Cell) (lists : Lists) → Settled IsDdsText (dds_block shape) cells lists.dds → SdlIsExact shape cells lists.sdl → AreSettled shape cells lists
exact_settled shape cells lists dds sdl = record { dds = dds; sdl = λ _. sdl }

-- settled lists that belong together have the structure's counter as the mark
pub settled_within : (shape : Shape) (cells : List Cell) (lists : Lists) → AreSettled shape cells lists → lists.sdl.dds_counter ≡ lists.dds.counter → AreMarkedWithin shape cells lists.dds.counter
settled_within shape cells lists settled same = record {
  dds = λ v at c. let e = ap (λ (d : Dds). d.counter) (copy_settled IsDdsText dds_texts.one_value (dds_block shape) cells lists.dds v at settled.dds c) in omega (arith, e, counted_most shape v);
  sdl = subst (NamesWithin shape cells) same (settled_names shape cells lists.sdl settled.sdl);
}

pub settled_mark : (shape : Shape) (cells : List Cell) (lists : Lists) (area : ℕ) → lists.dds.layout ≡ shape.layout → AreSettled shape cells lists → lists.sdl.dds_counter ≡ lists.dds.counter → HasDdsCopy shape cells lists.dds area → Mark shape cells lists.dds.counter
settled_mark shape cells lists area kind settled same copy = record {
  within = settled_within shape cells lists settled same;
  reached = inr (inl (record { value = lists.dds; area = area; copy = copy; has = counted_own shape lists.dds kind }));
}
