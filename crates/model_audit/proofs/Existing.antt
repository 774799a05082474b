-- A disc has a certificate: what each cell of a chosen list's copies has is decided by the bytes of the copy that was chosen.
use Rattle.std.proofs.Common.{◌≡◌, ℕ, ◌+◌, ◌*◌, ◌⊎◌, arith, inl, inr, List, [], ◌∷◌, refl, sym, subst}
use Rattle.std.proofs.lemmas.Bool.{cases_lt}
use Rattle.model_geometry.specs.declared.TheConstants.{MOST_SPARES}
use Rattle.model_geometry.specs.declared.kinds.LayoutKind.{LayoutKind}
use Rattle.model_geometry.specs.declared.kinds.LayoutKind.TheVariants.{OneGroup, EachZone}
use Rattle.model_geometry.specs.Geometry.{Shape, SparesFitZones, dds_block, sdl_block, sdl_second_block}
use Rattle.model_medium.specs.Cells.{Cell, Blank, Good, Torn, Dead, cell_at}
use Rattle.model_sectors.proofs.Fitting.{same_decided}
use Rattle.model_lists.specs.declared.versions.Version.{Version}
use Rattle.model_lists.specs.declared.versions.Version.TheVariants.{One, Two}
use Rattle.model_lists.specs.Texts.{IsDdsText, IsSdlText, IsSdlSecond}
use Rattle.model_lists.proofs.DdsTexts as dds_texts
use Rattle.model_lists.proofs.SdlTexts as sdl_texts
use Rattle.model_copies.specs.Copies.{Holds}
use Rattle.model_copies.specs.Parts.{Mark}
use Rattle.model_places.specs.Places.{Lists}
use Rattle.model_volume.specs.Given.{AreChosen, ChoosesNone}
use Rattle.model_volume.proofs.Choosing.{choice_is}
use Rattle.model_volume.proofs.GivenFacts.{none_lacking}
use Rattle.model_audit.specs.declared.lines.CopyState.{CopyState}
use Rattle.model_audit.specs.declared.lines.CopyState.TheVariants.{Exact, Other, Unread}
use Rattle.model_audit.specs.declared.lines.CopyState.TheVariants as states
use Rattle.model_audit.specs.declared.lines.CertificateLine.{CertificateLine}
use Rattle.model_audit.specs.declared.lines.CertificateLine.TheVariants as lines
use Rattle.model_audit.specs.Certificate.{ListPart, Structure, First, Second, IsPartOf, HoldsPart, CellSays, list_cells, AreCopyLines, TellsLists, in_kind, AreLookedFor, IsCertificate}

-- the text of a part, as some bytes
abbrev Known : Lists → ListPart → Type 0
Known lists part = (bytes : List ℕ) × IsPartOf lists part bytes

one_part : (lists : Lists) (part : ListPart) (x y : List ℕ) → IsPartOf lists part x → IsPartOf lists part y → x ≡ y
one_part lists Structure x y p q = dds_texts.one_text lists.dds x y p q
one_part lists First x y p q = sdl_texts.one_text lists.sdl x y p q
one_part lists Second x y p q = sdl_texts.one_second lists.sdl x y p q

-- the state of a cell
state_of : (lists : Lists) (part : ListPart) (cell : Cell) → Known lists part → (state : CopyState) × CellSays lists part cell state
state_of lists part Blank known = (Unread, inl refl)
state_of lists part (Good bytes) known = elim (same_decided bytes known.0) [
  | inl same ↦ (Exact, subst (IsPartOf lists part) (sym same) known.1)
  | inr other ↦ (Other, (tt, λ holds. other (one_part lists part bytes known.0 holds known.1)))
]
state_of lists part Torn known = (Unread, inr refl)
state_of lists part Dead known = (states.Dead, refl)

-- the text of each of these cells is known
abbrev AllKnown : Lists → List (ℕ × ListPart) → Type 0
AllKnown lists [] = Unit {0}
AllKnown lists (place ∷ places) = Known lists place.1 × AllKnown lists places

lines_of : (cells : List Cell) (lists : Lists) (places : List (ℕ × ListPart)) → AllKnown lists places → (told : List CertificateLine) × AreCopyLines cells lists places told
lines_of cells lists [] known = ([], refl)
lines_of cells lists (place ∷ places) known =
    let state = state_of lists place.1 (cell_at cells place.0) known.0 in
    let others = lines_of cells lists places known.1 in
    (lines.Copy place.0 state.0 ∷ others.0, (state.0, others.0, refl, state.1, others.1))

held : (lists : Lists) (part : ListPart) (cell : Cell) → HoldsPart lists part cell → Known lists part
held lists part (Good bytes) h = (bytes, h)
held lists part Blank h = absurd h
held lists part Torn h = absurd h
held lists part Dead h = absurd h

same_structure : (lists : Lists) (cell : Cell) → Holds IsDdsText cell lists.dds → HoldsPart lists Structure cell
same_structure lists (Good bytes) h = h
same_structure lists Blank h = h
same_structure lists Torn h = h
same_structure lists Dead h = h

same_first : (lists : Lists) (cell : Cell) → Holds IsSdlText cell lists.sdl → HoldsPart lists First cell
same_first lists (Good bytes) h = h
same_first lists Blank h = h
same_first lists Torn h = h
same_first lists Dead h = h

same_second : (lists : Lists) (cell : Cell) → Holds IsSdlSecond cell lists.sdl → HoldsPart lists Second cell
same_second lists (Good bytes) h = h
same_second lists Blank h = h
same_second lists Torn h = h
same_second lists Dead h = h

module _ (shape : Shape) (cells : List Cell) (lists : Lists) (chosen : AreChosen shape cells lists) where
  structure : Known lists Structure
  structure = held lists Structure _ (same_structure lists (cell_at cells (dds_block shape chosen.dds_area)) chosen.dds_chosen.copy.holds)

  first : Known lists First
  first = held lists First _ (same_first lists (cell_at cells (sdl_block shape chosen.sdl_area)) chosen.sdl_chosen.copy.holds)

  second : lists.sdl.version ≡ Two → Known lists Second
  second two = held lists Second _ (same_second lists (cell_at cells (sdl_second_block shape chosen.sdl_area)) (chosen.sdl_chosen.copy.holds' two))

  all_known : (version : Version) → lists.sdl.version ≡ version → AllKnown lists (list_cells shape version)
  unfolding list_cells
  all_known One is = (structure, (first, (structure, (first, (structure, (first, (structure, (first, tt))))))))
  all_known Two is =
      let s = second is in
      (structure, (first, (s, (structure, (first, (s, (structure, (first, (s, (structure, (first, (s, tt))))))))))))

  of_lists : (told : List CertificateLine) × TellsLists shape cells told
  of_lists =
      let copies = lines_of cells lists (list_cells shape lists.sdl.version) (all_known lists.sdl.version refl) in
      (_, record { lists = lists; chosen = chosen; copies = copies.0; copies_are = copies.1; told_is = refl })

-- the choice under one kind of layout
chosen_or_none : (shape : Shape) (cells : List Cell) → ((lists : Lists) × AreChosen shape cells lists) ⊎ ChoosesNone shape cells
chosen_or_none shape cells = elim (choice_is shape cells) [
  | inl chosen ↦ inl chosen
  | inr none ↦ inr (none_lacking shape cells none.0 none.1)
]

spares_fit_or_not : (shape : Shape) → SparesFitZones shape ⊎ ¬ SparesFitZones shape
spares_fit_or_not shape = elim (cases_lt MOST_SPARES (shape.zones * shape.psa)) [
  | inl over ↦ inr (λ fit. let h = fit.all in omega (arith, h, over))
  | inr within ↦ elim (cases_lt (shape.psa + 2) (shape.scale * 25)) [
    | inl each ↦ inl (record { all = omega (arith, within); each = each })
    | inr few ↦ inr (λ fit. let h = fit.each in omega (arith, h, few))
  ]
]

-- no lists of any kind
bare : (shape : Shape) (cells : List Cell) (mark : ℕ) → Mark (in_kind OneGroup shape) cells mark → ChoosesNone (in_kind OneGroup shape) cells
    → (AreLookedFor EachZone shape cells → ChoosesNone (in_kind EachZone shape) cells) → (told : List CertificateLine) × IsCertificate shape cells told
bare shape cells mark is none none_zoned = (_, inl (record { none = each; mark = mark; mark_is = is; told_is = refl }))
  where
    each : (kind : LayoutKind) → AreLookedFor kind shape cells → ChoosesNone (in_kind kind shape) cells
    each OneGroup looked = none
    each EachZone looked = none_zoned looked

of_kind : (kind : LayoutKind) (shape : Shape) (cells : List Cell) → AreLookedFor kind shape cells → (lists : Lists) × AreChosen (in_kind kind shape) cells lists
    → (told : List CertificateLine) × IsCertificate shape cells told
of_kind kind shape cells looked (lists, chosen) =
    let tells = of_lists (in_kind kind shape) cells lists chosen in
    (tells.0, inr (record { kind = kind; looked_for = looked; tells = tells.1 }))

pub has_certificate : (shape : Shape) (cells : List Cell) (mark : ℕ) → Mark (in_kind OneGroup shape) cells mark → (told : List CertificateLine) × IsCertificate shape cells told
has_certificate shape cells mark is = elim (chosen_or_none (in_kind OneGroup shape) cells) [
  | inl chosen ↦ of_kind OneGroup shape cells tt chosen
  | inr none ↦ elim (spares_fit_or_not (in_kind EachZone shape)) [
    | inl fit ↦ elim (chosen_or_none (in_kind EachZone shape) cells) [
      | inl chosen ↦ of_kind EachZone shape cells (fit, none) chosen
      | inr none_zoned ↦ bare shape cells mark is none (λ looked. none_zoned)
    ]
    | inr unfit ↦ bare shape cells mark is none (λ looked. absurd (unfit looked.0))
  ]
]
