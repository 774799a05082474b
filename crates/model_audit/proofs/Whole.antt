-- A disc has one certificate at most.
use Rattle.std.proofs.Common.{◌≡◌, ℕ, ◌<◌, ◌≤◌, ◌⊎◌, List, [], ◌∷◌, ◌++◌, sym, ap, ◌∙◌, inl, inr, arith, subst}
use Rattle.model_geometry.specs.declared.kinds.LayoutKind.{LayoutKind}
use Rattle.model_geometry.specs.declared.kinds.LayoutKind.TheVariants.{OneGroup, EachZone}
use Rattle.model_geometry.specs.Geometry.{Shape, dds_block}
use Rattle.model_medium.specs.Cells.{Cell}
use Rattle.model_lists.specs.Values.{Dds, Sdl}
use Rattle.model_lists.specs.Texts.{IsDdsText}
use Rattle.model_lists.proofs.DdsTexts as dds_texts
use Rattle.model_copies.specs.Parts.{Mark}
use Rattle.model_places.specs.Places.{Lists}
use Rattle.model_places.specs.Valid.{IsValidPdl}
use Rattle.model_volume.specs.Given.{AreChosen, IsChosenSdl}
use Rattle.model_volume.proofs.GivenFacts.{one_area, one_pair}
use Rattle.model_audit.specs.declared.lines.CertificateLine.{CertificateLine}
use Rattle.model_audit.specs.declared.lines.CertificateLine.TheVariants as lines
use Rattle.model_audit.specs.Certificate.{head_lines, list_lines, list_cells, AreCopyLines, lost_lines, closed, TellsLists, in_kind, AreLookedFor, IsBareCertificate, IsCertificate}
use Rattle.model_audit.proofs.Copying.{one_copies}

module _ (shape : Shape) (cells : List Cell) where
  mark_within : (m n : ℕ) → Mark shape cells m → Mark shape cells n → m ≤ n
  mark_within m n one two = elim one.reached [
    | inl none ↦ omega (arith, none)
    | inr (inl marked) ↦ (let w = two.within.dds marked.value marked.area marked.copy in let h = marked.has in omega (arith, w, h))
    | inr (inr named) ↦ two.within.sdl m named.area named.is_area named.names
  ]

  one_mark : (m n : ℕ) → Mark shape cells m → Mark shape cells n → m ≡ n
  one_mark m n one two = (let a = mark_within m n one two in let b = mark_within n m two one in omega (arith, a, b))

  -- the areas in which one pair was chosen
  one_dds_area : (l m : Lists) (p : AreChosen shape cells l) (q : AreChosen shape cells m) → p.dds_area ≡ q.dds_area
  one_dds_area l m p q =
      one_area IsDdsText dds_texts.one_value (dds_block shape) cells (λ (list : Dds). list.counter) (IsValidPdl shape) l.dds m.dds p.dds_area q.dds_area p.dds_chosen q.dds_chosen

  same_area : (c d a b : ℕ) → (d < c) ⊎ ((d ≡ c) × (a ≤ b)) → (c < d) ⊎ ((c ≡ d) × (b ≤ a)) → a ≡ b
  same_area c d a b one two = grind (arith, one, two)

  sdl_areas : (dds : Dds) (v w : Sdl) (a b : ℕ) → IsChosenSdl shape cells dds v a → IsChosenSdl shape cells dds w b → a ≡ b
  sdl_areas dds v w a b one two = same_area v.counter w.counter a b (one.no_better w b two.copy two.fits) (two.no_better v a one.copy one.fits)

  one_sdl_area : (l m : Lists) (p : AreChosen shape cells l) (q : AreChosen shape cells m) → p.sdl_area ≡ q.sdl_area
  one_sdl_area l m p q = sdl_areas l.dds l.sdl m.sdl p.sdl_area q.sdl_area p.sdl_chosen
      (subst (λ (d : Dds). IsChosenSdl shape cells d m.sdl q.sdl_area) (sym (ap (λ (x : Lists). x.dds) (one_pair shape cells l m p q))) q.sdl_chosen)

  -- all lines of such a certificate
  abbrev all_lines : Lists → ℕ → ℕ → List CertificateLine → List CertificateLine
  all_lines lists dds_area sdl_area copies = closed (head_lines shape ++ list_lines lists dds_area sdl_area (copies ++ lost_lines shape cells lists))

  both_listed : (a b : List CertificateLine) → TellsLists shape cells a → TellsLists shape cells b → a ≡ b
  both_listed a b one two =
      let pair = one_pair shape cells one.lists two.lists one.chosen two.chosen in
      let first = one_dds_area one.lists two.lists one.chosen two.chosen in
      let second = one_sdl_area one.lists two.lists one.chosen two.chosen in
      let moved = subst (λ (l : Lists). AreCopyLines cells l (list_cells shape l.sdl.version) one.copies) pair one.copies_are in
      let copies = one_copies cells two.lists (list_cells shape two.lists.sdl.version) one.copies two.copies moved two.copies_are in
      one.told_is
      ∙ ap (λ (l : Lists). all_lines l one.chosen.dds_area one.chosen.sdl_area one.copies) pair
      ∙ ap (λ (x : ℕ). all_lines two.lists x one.chosen.sdl_area one.copies) first
      ∙ ap (λ (x : ℕ). all_lines two.lists two.chosen.dds_area x one.copies) second
      ∙ ap (λ (xs : List CertificateLine). all_lines two.lists two.chosen.dds_area two.chosen.sdl_area xs) copies
      ∙ sym two.told_is

module _ (shape : Shape) (cells : List Cell) where
  both_bare : (a b : List CertificateLine) → IsBareCertificate shape cells a → IsBareCertificate shape cells b → a ≡ b
  both_bare a b one two =
      one.told_is
      ∙ ap (λ (m : ℕ). closed (head_lines (in_kind OneGroup shape) ++ lines.Bare m ∷ [])) (one_mark (in_kind OneGroup shape) cells one.mark two.mark one.mark_is two.mark_is)
      ∙ sym two.told_is

  -- lists of two kinds are not both told
  by_kinds : (a b : List CertificateLine) (k l : LayoutKind) → AreLookedFor k shape cells → AreLookedFor l shape cells
      → TellsLists (in_kind k shape) cells a → TellsLists (in_kind l shape) cells b → a ≡ b
  by_kinds a b OneGroup OneGroup p q one two = both_listed (in_kind OneGroup shape) cells a b one two
  by_kinds a b OneGroup EachZone p q one two = absurd (q.1 one.lists one.chosen)
  by_kinds a b EachZone OneGroup p q one two = absurd (p.1 two.lists two.chosen)
  by_kinds a b EachZone EachZone p q one two = both_listed (in_kind EachZone shape) cells a b one two

  pub one_certificate : (a b : List CertificateLine) → IsCertificate shape cells a → IsCertificate shape cells b → a ≡ b
  one_certificate a b (inl one) (inl two) = both_bare a b one two
  one_certificate a b (inl one) (inr two) = absurd (one.none two.kind two.looked_for two.tells.lists two.tells.chosen)
  one_certificate a b (inr one) (inl two) = absurd (two.none one.kind one.looked_for one.tells.lists one.tells.chosen)
  one_certificate a b (inr one) (inr two) = by_kinds a b one.kind two.kind one.looked_for two.looked_for one.tells two.tells
