-- The copies of the secondary list: the laws over any texts of two parts, at its texts.
use Rattle.std.specs.Prelude.{◌≡◌, ◌≢◌, ℕ, ◌≤◌, ◌⊎◌, List, length}
use Rattle.std.proofs.Common.{refl, sym, ap, ap₂, ◌∙◌, inl, inr, subst, arith}
use Rattle.std.proofs.lemmas.Bool.{cases_lt}
use Rattle.model_geometry.specs.Geometry.{Shape, sdl_block}
use Rattle.model_lists.specs.Values.{Sdl, part_entries}
use Rattle.model_lists.specs.Texts.{IsTwo, IsSdlText, IsSdlSecond}
use Rattle.model_lists.proofs.SdlTexts.{one_value, one_text, one_second, first_version, first_counter, first_dds, first_tells, second_counters, version_cases, one_no_two, names_one}
use Rattle.model_medium.specs.Cells.{Cell, Blank, Good, Torn, Dead, IsSameOrDead, cell_at}
use Rattle.model_copies.specs.Copies.{IsArea, HoldsOrDead}
use Rattle.model_geometry.specs.Geometry.{sdl_second_block}
use Rattle.model_copies.specs.Parts.{AreAlike, AreHeldBy, MayLeaveParts, StayDead, PartsHoldNothingNew, HasSdlParts, HasSdlCopy, SdlIsExact, SdlIsLost, SdlIsBetween, Names, NamesWithin, SdlIsSettled}
use Rattle.model_copies.proofs.CopyFacts.{area_cases}
use Rattle.model_copies.proofs.PartFacts.{TellValues, parts_before, parts_exact, one_of_parts, parts_were, lost_none, stopped_between, nothing_new_from_repair}

pub sdl_two_decided : (v : Sdl) → IsTwo v ⊎ ¬ IsTwo v
sdl_two_decided v = elim (version_cases v.version) [
  | inl one ↦ inr (λ two. one_no_two v.version one two)
  | inr two ↦ inl two
]

pub sdl_tells : TellValues IsTwo IsSdlText IsSdlSecond
sdl_tells = record {
  one_value = λ v w x y of_v of_w of_v' of_w'. one_value v w x y (record { first_is = of_v; second_is = of_v' }) (record { first_is = of_w; second_is = of_w' });
  same_parts = λ v w x of_v of_w two. sym (first_version v w x of_v of_w) ∙ two;
  one_first = one_text;
  one_second = one_second;
  two_decided = sdl_two_decided;
}

-- the counters that both parts say
abbrev pub make_head : ℕ → ℕ → ℕ × ℕ
make_head c d = (c, d)

abbrev pub head : Sdl → ℕ × ℕ
head v = make_head v.counter v.dds_counter

pair_of : {a b c d : ℕ} → a ≡ c → b ≡ d → make_head a b ≡ make_head c d
pair_of one two = ap₂ make_head one two

pub first_head : (v w : Sdl) (x : List ℕ) → IsSdlText v x → IsSdlText w x → head v ≡ head w
first_head v w x of_v of_w = pair_of (first_counter v w x of_v of_w) (first_dds v w x of_v of_w)

pub second_head : (v w : Sdl) (x : List ℕ) → IsSdlSecond v x → IsSdlSecond w x → head v ≡ head w
second_head v w x of_v of_w = (let h = second_counters v w x of_v of_w in pair_of h.0 h.1)

pub heads_differ : (a b : Sdl) → (a.counter ≢ b.counter) ⊎ (a.dds_counter ≢ b.dds_counter) → head a ≢ head b
heads_differ a b (inl counters) same = counters (ap (λ (p : ℕ × ℕ). p.0) same)
heads_differ a b (inr counters) same = counters (ap (λ (p : ℕ × ℕ). p.1) same)

module _ (shape : Shape) where
  pub one_sdl : (cells : List Cell) (v w : Sdl) (a b : ℕ) → HasSdlParts shape cells v a b → HasSdlParts shape cells w a b → v ≡ w
  one_sdl cells v w a b of_v of_w = one_of_parts IsTwo IsSdlText IsSdlSecond (sdl_block shape) (sdl_second_block shape) sdl_tells cells v w a b of_v of_w

  pub sdl_before : (old new : List Cell) (v : Sdl) (a b : ℕ) → IsSameOrDead (cell_at old (sdl_block shape a)) (cell_at new (sdl_block shape a)) → IsSameOrDead (cell_at old (sdl_second_block shape b)) (cell_at new (sdl_second_block shape b))
      → HasSdlParts shape new v a b → HasSdlParts shape old v a b
  sdl_before old new v a b dies dies' parts = parts_before IsTwo IsSdlText IsSdlSecond (sdl_block shape) (sdl_second_block shape) old new v a b dies dies' parts

  pub sdl_exact : (cells : List Cell) (v w : Sdl) (a b : ℕ) → SdlIsExact shape cells v → HasSdlParts shape cells w a b → w ≡ v
  sdl_exact cells v w a b exact parts = parts_exact IsTwo IsSdlText IsSdlSecond (sdl_block shape) (sdl_second_block shape) sdl_tells cells v w a b exact parts

  -- a list of a version that has no copy left has none that can be read
  pub sdl_lost : (cells : List Cell) (v u : Sdl) (area : ℕ) → SdlIsLost shape cells v → HasSdlCopy shape cells u area → u.version ≡ v.version → ⊥
  sdl_lost cells v u area lost copy same = lost_none IsTwo IsSdlText IsSdlSecond (sdl_block shape) (sdl_second_block shape) cells v u area lost copy ((λ t. sym same ∙ t), (λ t. same ∙ t))

  -- An update of the secondary list from a to b, stopped anywhere, leaves each text between both.
  pub sdl_stopped : (old new : List Cell) (a b : Sdl) → (a.counter ≢ b.counter) ⊎ (a.dds_counter ≢ b.dds_counter) → (IsTwo b → ¬ IsTwo a → length b.entries ≤ part_entries)
      → MayLeaveParts IsTwo IsSdlText IsSdlSecond (sdl_block shape) (sdl_second_block shape) old new b → StayDead IsTwo IsSdlText IsSdlSecond (sdl_block shape) (sdl_second_block shape) old new
      → (SdlIsLost shape old a × SdlIsLost shape old b) ⊎ AreHeldBy IsTwo IsSdlText IsSdlSecond (sdl_block shape) (sdl_second_block shape) old a
      → SdlIsBetween shape new a b
  sdl_stopped old new a b differ few left stay entry =
      stopped_between IsTwo IsSdlText IsSdlSecond (sdl_block shape) (sdl_second_block shape) sdl_tells head first_head second_head a b (heads_differ a b differ)
      (λ two one w x of_b of_w. sym (first_tells b w x of_b of_w (few two one))) old new left stay entry

  -- so each copy that can be read has the one or the other
  pub copy_of_two : (cells : List Cell) (a b v : Sdl) (area : ℕ) → SdlIsBetween shape cells a b → HasSdlCopy shape cells v area → (v.version ≡ a.version) ⊎ (v.version ≡ b.version) → (v ≡ a) ⊎ (v ≡ b)
  copy_of_two cells a b v area between copy same = between v area area copy (record { other = v; area = area; copy = copy; alike = ((λ t. t), (λ t. t)) }) (by_version same)
    where
      by_version : (v.version ≡ a.version) ⊎ (v.version ≡ b.version) → AreAlike IsTwo IsSdlText IsSdlSecond v a ⊎ AreAlike IsTwo IsSdlText IsSdlSecond v b
      by_version (inl is) = inl ((λ t. sym is ∙ t), (λ t. is ∙ t))
      by_version (inr is) = inr ((λ t. sym is ∙ t), (λ t. is ∙ t))

  pub sdl_repaired : (old new : List Cell) (v : Sdl) (home : ℕ) → HasSdlCopy shape old v home → MayLeaveParts IsTwo IsSdlText IsSdlSecond (sdl_block shape) (sdl_second_block shape) old new v
      → PartsHoldNothingNew IsTwo IsSdlText IsSdlSecond (sdl_block shape) (sdl_second_block shape) old new
  sdl_repaired old new v home copy left = nothing_new_from_repair IsTwo IsSdlText IsSdlSecond (sdl_block shape) (sdl_second_block shape) sdl_tells old new v home copy left

  pub sdl_were : (old new : List Cell) (w : Sdl) (a b : ℕ) → PartsHoldNothingNew IsTwo IsSdlText IsSdlSecond (sdl_block shape) (sdl_second_block shape) old new → HasSdlParts shape new w a b → (x : ℕ) × (y : ℕ) × HasSdlParts shape old w x y
  sdl_were old new w a b nothing parts = parts_were IsTwo IsSdlText IsSdlSecond (sdl_block shape) (sdl_second_block shape) sdl_tells old new w a b nothing parts

  -- what first cells name while the list is exact
  exact_names : (cell : Cell) (v : Sdl) (counter : ℕ) → HoldsOrDead IsSdlText cell v → Names cell counter → counter ≡ v.dds_counter
  exact_names Blank v counter exact names = absurd names
  exact_names (Good bytes) v counter exact names = names_one v bytes counter exact names
  exact_names Torn v counter exact names = absurd names
  exact_names Dead v counter exact names = absurd names

  -- where a list is exact no first cell names another counter
  pub exact_within : (cells : List Cell) (v : Sdl) → SdlIsExact shape cells v → NamesWithin shape cells v.dds_counter
  exact_within cells v exact counter area is names = (let same = exact_names (cell_at cells (sdl_block shape area)) v counter (exact.firsts area is) names in omega (arith, same))

  -- a settled list names no smaller counter than any first cell
  pub settled_names : (cells : List Cell) (v : Sdl) → SdlIsSettled shape cells v → NamesWithin shape cells v.dds_counter
  settled_names cells v settled counter area is names = elim (cases_lt v.dds_counter counter) [
    | inr most ↦ most
    | inl more ↦
        let exact = settled (λ both. let low = both.1 counter area is names in omega (arith, more, low)) in
        let same = exact_names (cell_at cells (sdl_block shape area)) v counter (exact.firsts area is) names in
        omega (arith, same)
  ]

  -- where its cells are the same, a settled list stays settled
  module _ (old new : List Cell) (v : Sdl) (same : (area : ℕ) → IsArea area → cell_at new (sdl_block shape area) ≡ cell_at old (sdl_block shape area))
      (same' : (area : ℕ) → IsArea area → cell_at new (sdl_second_block shape area) ≡ cell_at old (sdl_second_block shape area)) where
    pub exact_same : SdlIsExact shape old v → SdlIsExact shape new v
    exact_same exact = record {
      firsts = λ area is. subst (λ (c : Cell). HoldsOrDead IsSdlText c v) (sym (same area is)) (exact.firsts area is);
      seconds = λ two area is. subst (λ (c : Cell). HoldsOrDead IsSdlSecond c v) (sym (same' area is)) (exact.seconds two area is);
    }

    lost_same : SdlIsLost shape old v → SdlIsLost shape new v
    lost_same lost area is = elim (lost area is) [
      | inl dead ↦ inl (same area is ∙ dead)
      | inr dead ↦ inr (dead.0, same' area is ∙ dead.1)
    ]

    names_same : (most : ℕ) → NamesWithin shape old most → NamesWithin shape new most
    names_same most within counter area is names = within counter area is (subst (λ (c : Cell). Names c counter) (same area is) names)

    pub settled_same : SdlIsSettled shape old v → SdlIsSettled shape new v
    settled_same settled not_lost = exact_same (settled (λ both. not_lost (lost_same both.0, names_same v.dds_counter both.1)))

  -- ---- an update of a list that is settled

  dead_decided : (cell : Cell) → (cell ≡ Dead) ⊎ ¬ (cell ≡ Dead)
  dead_decided Blank = inr (λ e. cc)
  dead_decided (Good bytes) = inr (λ e. cc)
  dead_decided Torn = inr (λ e. cc)
  dead_decided Dead = inl refl

  -- in this area a cell of the list's copy is dead
  abbrev LosesAt : List Cell → Sdl → ℕ → Type 0
  LosesAt cells v area = (cell_at cells (sdl_block shape area) ≡ Dead) ⊎ (IsTwo v × (cell_at cells (sdl_second_block shape area) ≡ Dead))

  loses_decided : (cells : List Cell) (v : Sdl) (area : ℕ) → LosesAt cells v area ⊎ ¬ LosesAt cells v area
  loses_decided cells v area = elim (dead_decided (cell_at cells (sdl_block shape area))) [
    | inl dead ↦ inl (inl dead)
    | inr alive ↦ elim (sdl_two_decided v) [
      | inr one ↦ inr (λ lost. elim lost [ inl dead ↦ alive dead | inr dead ↦ one dead.0 ])
      | inl two ↦ elim (dead_decided (cell_at cells (sdl_second_block shape area))) [
        | inl dead ↦ inl (inr (two, dead))
        | inr alive' ↦ inr (λ lost. elim lost [ inl dead ↦ alive dead | inr dead ↦ alive' dead.1 ])
      ]
    ]
  ]

  pub lost_decided : (cells : List Cell) (v : Sdl) → SdlIsLost shape cells v ⊎ ¬ SdlIsLost shape cells v
  lost_decided cells v = elim (loses_decided cells v 1) [
    | inr not ↦ inr (λ lost. not (lost 1 (omega arith, omega arith)))
    | inl one ↦ elim (loses_decided cells v 2) [
      | inr not ↦ inr (λ lost. not (lost 2 (omega arith, omega arith)))
      | inl two ↦ elim (loses_decided cells v 3) [
        | inr not ↦ inr (λ lost. not (lost 3 (omega arith, omega arith)))
        | inl three ↦ elim (loses_decided cells v 4) [
          | inr not ↦ inr (λ lost. not (lost 4 (omega arith, omega arith)))
          | inl four ↦ inl (λ area is. by_area one two three four area (area_cases area is))
        ]
      ]
    ]
  ]
    where
      by_area : LosesAt cells v 1 → LosesAt cells v 2 → LosesAt cells v 3 → LosesAt cells v 4 → (area : ℕ) → (area ≡ 1) ⊎ (area ≡ 2) ⊎ (area ≡ 3) ⊎ (area ≡ 4) → LosesAt cells v area
      by_area one two three four area (inl e) = subst (LosesAt cells v) (sym e) one
      by_area one two three four area (inr (inl e)) = subst (LosesAt cells v) (sym e) two
      by_area one two three four area (inr (inr (inl e))) = subst (LosesAt cells v) (sym e) three
      by_area one two three four area (inr (inr (inr e))) = subst (LosesAt cells v) (sym e) four

  -- two lists of one version lose the same cells
  pub lost_alike : (cells : List Cell) (a b : Sdl) → a.version ≡ b.version → SdlIsLost shape cells a → SdlIsLost shape cells b
  lost_alike cells a b same lost area is = elim (lost area is) [ inl dead ↦ inl dead | inr dead ↦ inr (sym same ∙ dead.0, dead.1) ]

  held_if_exact : (text : Sdl → List ℕ → Type 0) (cell : Cell) (v : Sdl) → HoldsOrDead text cell v → (bytes : List ℕ) → cell ≡ Good bytes → text v bytes
  held_if_exact text cell v exact bytes good = subst (λ (c : Cell). HoldsOrDead text c v) good exact

  -- exact cells hold the text where they can be read
  pub exact_held : (cells : List Cell) (v : Sdl) → SdlIsExact shape cells v → AreHeldBy IsTwo IsSdlText IsSdlSecond (sdl_block shape) (sdl_second_block shape) cells v
  exact_held cells v exact = record {
    firsts = λ area is bytes good. held_if_exact IsSdlText (cell_at cells (sdl_block shape area)) v (exact.firsts area is) bytes good;
    seconds = λ two area is bytes good. held_if_exact IsSdlSecond (cell_at cells (sdl_second_block shape area)) v (exact.seconds two area is) bytes good;
  }

  -- An update of a settled list to another of its version and with another counter, stopped anywhere, leaves each text
  -- between both.
  pub settled_stopped : (old new : List Cell) (a b : Sdl) → SdlIsSettled shape old a → a.version ≡ b.version → (a.counter ≢ b.counter) ⊎ (a.dds_counter ≢ b.dds_counter)
      → MayLeaveParts IsTwo IsSdlText IsSdlSecond (sdl_block shape) (sdl_second_block shape) old new b → StayDead IsTwo IsSdlText IsSdlSecond (sdl_block shape) (sdl_second_block shape) old new
      → SdlIsBetween shape new a b
  settled_stopped old new a b settled same differ left stay = sdl_stopped old new a b differ (λ two one. absurd (one (same ∙ two))) left stay (elim (lost_decided old a) [
    | inl lost ↦ inl (lost, lost_alike old a b same lost)
    | inr not ↦ inr (exact_held old a (settled (λ both. not both.0)))
  ])

  -- Where an update left no copy of the new list, the one in use is settled still: it is of its version and names the same
  -- structure.
  pub lost_settled : (cells : List Cell) (a b : Sdl) → a.version ≡ b.version → a.dds_counter ≡ b.dds_counter → SdlIsExact shape cells b → SdlIsLost shape cells b → SdlIsSettled shape cells a
  lost_settled cells a b same names exact lost not =
      absurd (not (lost_alike cells b a (sym same) lost, subst (NamesWithin shape cells) (sym names) (exact_within cells b exact)))

  -- while cells of its copies die and nothing else happens to them, a settled list stays settled
  module _ (old new : List Cell) (v : Sdl) (dies : (area : ℕ) → IsArea area → IsSameOrDead (cell_at old (sdl_block shape area)) (cell_at new (sdl_block shape area)))
      (dies' : (area : ℕ) → IsArea area → IsSameOrDead (cell_at old (sdl_second_block shape area)) (cell_at new (sdl_second_block shape area))) where
    exact_dies : (text : Sdl → List ℕ → Type 0) (was cell : Cell) → IsSameOrDead was cell → HoldsOrDead text was v → HoldsOrDead text cell v
    exact_dies text was cell (inl same) exact = subst (λ (c : Cell). HoldsOrDead text c v) (sym same) exact
    exact_dies text was cell (inr dead) exact = subst (λ (c : Cell). HoldsOrDead text c v) (sym dead) tt

    dead_stays : (was cell : Cell) → IsSameOrDead was cell → was ≡ Dead → cell ≡ Dead
    dead_stays was cell (inl same) dead = same ∙ dead
    dead_stays was cell (inr dies) dead = dies

    names_die : (was cell : Cell) (counter : ℕ) → IsSameOrDead was cell → Names cell counter → Names was counter
    names_die was cell counter (inl same) names = subst (λ (c : Cell). Names c counter) same names
    names_die was cell counter (inr dies) names = absurd (subst (λ (c : Cell). Names c counter) dies names)

    pub settled_dies : SdlIsSettled shape old v → SdlIsSettled shape new v
    settled_dies settled not_lost =
        let exact = settled (λ both. not_lost (
          (λ area is. elim (both.0 area is) [
            | inl dead ↦ inl (dead_stays (cell_at old (sdl_block shape area)) (cell_at new (sdl_block shape area)) (dies area is) dead)
            | inr dead ↦ inr (dead.0, dead_stays (cell_at old (sdl_second_block shape area)) (cell_at new (sdl_second_block shape area)) (dies' area is) dead.1)
          ]),
          (λ counter area is names. both.1 counter area is (names_die (cell_at old (sdl_block shape area)) (cell_at new (sdl_block shape area)) counter (dies area is) names)),
        )) in
        record {
          firsts = λ area is. exact_dies IsSdlText (cell_at old (sdl_block shape area)) (cell_at new (sdl_block shape area)) (dies area is) (exact.firsts area is);
          seconds = λ two area is. exact_dies IsSdlSecond (cell_at old (sdl_second_block shape area)) (cell_at new (sdl_second_block shape area)) (dies' area is) (exact.seconds two area is);
        }
