-- Where the copies that a certificate tells are exact or dead, the lists are settled.
use Rattle.std.proofs.Common.{◌≡◌, ℕ, ◌⊎◌, Some, List, [], ◌∷◌, ◌++◌, length, map, refl, sym, inl, inr, arith, subst}
use Rattle.std.specs.List.{Contains}
use Rattle.std.proofs.lemmas.List.Elements.{Contains-append_left, Contains-append_right}
use Rattle.model_geometry.specs.Geometry.{Shape, dds_block, sdl_block, sdl_second_block}
use Rattle.model_medium.specs.Cells.{Cell, Blank, Good, Torn, Dead, cell_at}
use Rattle.model_lists.specs.declared.versions.Version.{Version}
use Rattle.model_lists.specs.declared.versions.Version.TheVariants.{One, Two}
use Rattle.model_lists.specs.Texts.{IsDdsText, IsSdlText, IsSdlSecond}
use Rattle.model_copies.specs.Copies.{IsArea, HoldsOrDead}
use Rattle.model_copies.proofs.CopyFacts.{area_cases}
use Rattle.model_places.specs.Places.{Lists}
use Rattle.model_pools.proofs.Replacements.{Contains-later}
use Rattle.model_volume.specs.Given.{AreSettled}
use Rattle.model_audit.specs.declared.lines.CopyState.{CopyState}
use Rattle.model_audit.specs.declared.lines.CopyState.TheVariants.{Exact, Other, Unread}
use Rattle.model_audit.specs.declared.lines.CopyState.TheVariants as states
use Rattle.model_audit.specs.declared.lines.CertificateLine.{CertificateLine}
use Rattle.model_audit.specs.declared.lines.CertificateLine.TheVariants as lines
use Rattle.model_audit.specs.Certificate.{ListPart, Structure, First, Second, HoldsPart, CellSays, list_cells, list_lines, head_lines, pdl_line, sdl_line, lost_lines, TellsLists, IsCertificate}
use Rattle.model_audit.specs.Reading.{lists_in, shape_named, AreExactOrDead}
use Rattle.model_audit.proofs.Copying.{cell_told}
use Rattle.model_audit.proofs.ReadBack.{told_lists}

-- each cell of the copies is listed
pub structure_listed : (shape : Shape) (version : Version) (area : ℕ) → IsArea area → Contains (list_cells shape version) (dds_block shape area, Structure)
unfolding list_cells
structure_listed shape One area is = elim (area_cases area is) [
  | inl e ↦ subst (λ (a : ℕ). Contains (list_cells shape One) (dds_block shape a, Structure)) (sym e) (0, omega arith, refl)
  | inr (inl e) ↦ subst (λ (a : ℕ). Contains (list_cells shape One) (dds_block shape a, Structure)) (sym e) (2, omega arith, refl)
  | inr (inr (inl e)) ↦ subst (λ (a : ℕ). Contains (list_cells shape One) (dds_block shape a, Structure)) (sym e) (4, omega arith, refl)
  | inr (inr (inr e)) ↦ subst (λ (a : ℕ). Contains (list_cells shape One) (dds_block shape a, Structure)) (sym e) (6, omega arith, refl)
]
structure_listed shape Two area is = elim (area_cases area is) [
  | inl e ↦ subst (λ (a : ℕ). Contains (list_cells shape Two) (dds_block shape a, Structure)) (sym e) (0, omega arith, refl)
  | inr (inl e) ↦ subst (λ (a : ℕ). Contains (list_cells shape Two) (dds_block shape a, Structure)) (sym e) (3, omega arith, refl)
  | inr (inr (inl e)) ↦ subst (λ (a : ℕ). Contains (list_cells shape Two) (dds_block shape a, Structure)) (sym e) (6, omega arith, refl)
  | inr (inr (inr e)) ↦ subst (λ (a : ℕ). Contains (list_cells shape Two) (dds_block shape a, Structure)) (sym e) (9, omega arith, refl)
]

pub first_listed : (shape : Shape) (version : Version) (area : ℕ) → IsArea area → Contains (list_cells shape version) (sdl_block shape area, First)
unfolding list_cells
first_listed shape One area is = elim (area_cases area is) [
  | inl e ↦ subst (λ (a : ℕ). Contains (list_cells shape One) (sdl_block shape a, First)) (sym e) (1, omega arith, refl)
  | inr (inl e) ↦ subst (λ (a : ℕ). Contains (list_cells shape One) (sdl_block shape a, First)) (sym e) (3, omega arith, refl)
  | inr (inr (inl e)) ↦ subst (λ (a : ℕ). Contains (list_cells shape One) (sdl_block shape a, First)) (sym e) (5, omega arith, refl)
  | inr (inr (inr e)) ↦ subst (λ (a : ℕ). Contains (list_cells shape One) (sdl_block shape a, First)) (sym e) (7, omega arith, refl)
]
first_listed shape Two area is = elim (area_cases area is) [
  | inl e ↦ subst (λ (a : ℕ). Contains (list_cells shape Two) (sdl_block shape a, First)) (sym e) (1, omega arith, refl)
  | inr (inl e) ↦ subst (λ (a : ℕ). Contains (list_cells shape Two) (sdl_block shape a, First)) (sym e) (4, omega arith, refl)
  | inr (inr (inl e)) ↦ subst (λ (a : ℕ). Contains (list_cells shape Two) (sdl_block shape a, First)) (sym e) (7, omega arith, refl)
  | inr (inr (inr e)) ↦ subst (λ (a : ℕ). Contains (list_cells shape Two) (sdl_block shape a, First)) (sym e) (10, omega arith, refl)
]

pub second_listed : (shape : Shape) (area : ℕ) → IsArea area → Contains (list_cells shape Two) (sdl_second_block shape area, Second)
unfolding list_cells
second_listed shape area is = elim (area_cases area is) [
  | inl e ↦ subst (λ (a : ℕ). Contains (list_cells shape Two) (sdl_second_block shape a, Second)) (sym e) (2, omega arith, refl)
  | inr (inl e) ↦ subst (λ (a : ℕ). Contains (list_cells shape Two) (sdl_second_block shape a, Second)) (sym e) (5, omega arith, refl)
  | inr (inr (inl e)) ↦ subst (λ (a : ℕ). Contains (list_cells shape Two) (sdl_second_block shape a, Second)) (sym e) (8, omega arith, refl)
  | inr (inr (inr e)) ↦ subst (λ (a : ℕ). Contains (list_cells shape Two) (sdl_second_block shape a, Second)) (sym e) (11, omega arith, refl)
]

-- a cell that holds its part, by the list's own text
structure_held : (lists : Lists) (cell : Cell) → HoldsPart lists Structure cell → HoldsOrDead IsDdsText cell lists.dds
structure_held lists (Good bytes) h = h
structure_held lists Blank h = h
structure_held lists Torn h = h
structure_held lists Dead h = tt

first_held : (lists : Lists) (cell : Cell) → HoldsPart lists First cell → HoldsOrDead IsSdlText cell lists.sdl
first_held lists (Good bytes) h = h
first_held lists Blank h = h
first_held lists Torn h = h
first_held lists Dead h = tt

second_held : (lists : Lists) (cell : Cell) → HoldsPart lists Second cell → HoldsOrDead IsSdlSecond cell lists.sdl
second_held lists (Good bytes) h = h
second_held lists Blank h = h
second_held lists Torn h = h
second_held lists Dead h = tt

module _ (shape : Shape) (cells : List Cell) (told : List CertificateLine) (one : TellsLists shape cells told) where
  -- the lines of copies are among all
  pub copy_among : (line : CertificateLine) → Contains one.copies line → Contains told line
  copy_among line has =
      let lost = lost_lines shape cells one.lists in
      let entries = map sdl_line one.lists.sdl.entries in
      let dds = lines.Dds one.lists.dds.version one.lists.dds.counter one.chosen.dds_area in
      let sdl = lines.Sdl one.lists.sdl.counter one.chosen.sdl_area one.lists.sdl.ssa in
      let primary = map pdl_line one.lists.dds.entries in
      let a = Contains-append_left one.copies lost line has in
      let b = Contains-append_right entries (one.copies ++ lost) line a in
      let c = Contains-later sdl (entries ++ (one.copies ++ lost)) line b in
      let d = Contains-append_right primary (sdl ∷ (entries ++ (one.copies ++ lost))) line c in
      let e = Contains-later dds (primary ++ (sdl ∷ (entries ++ (one.copies ++ lost)))) line d in
      let all = list_lines one.lists one.chosen.dds_area one.chosen.sdl_area (one.copies ++ lost) in
      let f = Contains-append_right (head_lines shape) all line e in
      subst (λ (xs : List CertificateLine). Contains xs line) (sym one.told_is)
      (Contains-append_left (head_lines shape ++ all) (lines.End (length (head_lines shape ++ all)) ∷ []) line f)

module _ (shape : Shape) (cells : List Cell) (told : List CertificateLine) (one : TellsLists shape cells told) (are : AreExactOrDead told) where
  -- each listed cell holds its part, or is dead
  by_state : (block : ℕ) (part : ListPart) → Contains (list_cells shape one.lists.sdl.version) (block, part)
      → HoldsPart one.lists part (cell_at cells block) ⊎ (cell_at cells block ≡ Dead)
  by_state block part listed =
      let found = cell_told cells one.lists (list_cells shape one.lists.sdl.version) one.copies one.copies_are block part listed in
      cases found.0 found.1 found.2
    where
      cases : (state : CopyState) → Contains one.copies (lines.Copy block state) → CellSays one.lists part (cell_at cells block) state
          → HoldsPart one.lists part (cell_at cells block) ⊎ (cell_at cells block ≡ Dead)
      cases Exact has says = inl says
      cases Other has says = absurd (are.none_other block (copy_among shape cells told one (lines.Copy block Other) has))
      cases Unread has says = absurd (are.none_unread block (copy_among shape cells told one (lines.Copy block Unread) has))
      cases states.Dead has says = inr says

  settled_one : AreSettled shape cells one.lists
  settled_one = record {
    dds = λ area is. elim (by_state (dds_block shape area) Structure (structure_listed shape one.lists.sdl.version area is)) [
      | inl holds ↦ structure_held one.lists (cell_at cells (dds_block shape area)) holds
      | inr dead ↦ subst (λ (c : Cell). HoldsOrDead IsDdsText c one.lists.dds) (sym dead) tt
    ];
    sdl = λ not_both. record {
      firsts = λ area is. elim (by_state (sdl_block shape area) First (first_listed shape one.lists.sdl.version area is)) [
        | inl holds ↦ first_held one.lists (cell_at cells (sdl_block shape area)) holds
        | inr dead ↦ subst (λ (c : Cell). HoldsOrDead IsSdlText c one.lists.sdl) (sym dead) tt
      ];
      seconds = λ two area is. elim (by_state (sdl_second_block shape area) Second
          (subst (λ (v : Version). Contains (list_cells shape v) (sdl_second_block shape area, Second)) (sym two) (second_listed shape area is))) [
            | inl holds ↦ second_held one.lists (cell_at cells (sdl_second_block shape area)) holds
            | inr dead ↦ subst (λ (c : Cell). HoldsOrDead IsSdlSecond c one.lists.sdl) (sym dead) tt
          ];
    };
  }

pub exact_settled : (shape : Shape) (cells : List Cell) (told : List CertificateLine) (lists : Lists) → IsCertificate shape cells told → lists_in told ≡ Some lists
    → AreExactOrDead told → AreSettled (shape_named shape lists) cells lists
exact_settled shape cells told lists is says are =
    let one = told_lists shape cells told lists is says in
    subst (AreSettled (shape_named shape lists) cells) one.1 (settled_one (shape_named shape lists) cells told one.0 are)
