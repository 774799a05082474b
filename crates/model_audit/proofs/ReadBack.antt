-- A certificate is read back: the lists that its lines tell are those that are chosen.
use Rattle.std.proofs.Common.{◌≡◌, ℕ, Option, Some, None, List, [], ◌∷◌, ◌++◌, length, map, refl, sym, ap, ◌∙◌, inl, inr, subst}
use Rattle.std.proofs.lemmas.List.{append_assoc}
use Rattle.model_geometry.specs.declared.kinds.LayoutKind.{LayoutKind}
use Rattle.model_geometry.specs.Geometry.{Shape, dds_block, sdl_block}
use Rattle.model_medium.specs.Cells.{Cell}
use Rattle.model_lists.specs.declared.dds.DdsState.{DdsState}
use Rattle.model_lists.specs.declared.dds.DdsState.TheVariants.{Formatted}
use Rattle.model_lists.specs.declared.dds.PdlEntry.{PdlEntry}
use Rattle.model_lists.specs.declared.sdl.SdlEntry.{SdlEntry}
use Rattle.model_lists.specs.declared.versions.Version.{Version}
use Rattle.model_places.specs.Places.{Lists}
use Rattle.model_places.specs.Valid.{AreValid}
use Rattle.model_volume.specs.Given.{AreChosen}
use Rattle.model_volume.proofs.GivenFacts.{chosen_valid}
use Rattle.model_audit.specs.declared.lines.CertificateLine.{CertificateLine}
use Rattle.model_audit.specs.declared.lines.CertificateLine.TheVariants as lines
use Rattle.model_audit.specs.Certificate.{ListPart, Structure, First, second_cell, area_cells, head_lines, pdl_line, replaced_line, sdl_line, list_lines, list_cells, AreCopyLines, lost_lines, TellsLists, in_kind, IsBareCertificate, IsCertificate}
use Rattle.model_audit.specs.Reading.{pdl_in, after_pdl, entries_in, lists_behind, lists_in, shape_named}

pdl_back : (entries : List PdlEntry) (counter area ssa : ℕ) (others : List CertificateLine)
    → pdl_in (map pdl_line entries ++ (lines.Sdl counter area ssa ∷ others)) ≡ entries
pdl_back [] counter area ssa others = refl
pdl_back (entry ∷ entries) counter area ssa others = ap (λ (xs : List PdlEntry). entry ∷ xs) (pdl_back entries counter area ssa others)

after_back : (entries : List PdlEntry) (counter area ssa : ℕ) (others : List CertificateLine)
    → after_pdl (map pdl_line entries ++ (lines.Sdl counter area ssa ∷ others)) ≡ lines.Sdl counter area ssa ∷ others
after_back [] counter area ssa others = refl
after_back (entry ∷ entries) counter area ssa others = after_back entries counter area ssa others

abbrev entry_of : ℕ → Option ℕ → SdlEntry
entry_of defective replacement = record { defective = defective; replacement = replacement }

entry_back : (defective : ℕ) (replacement : Option ℕ) (others : List CertificateLine)
    → entries_in (replaced_line defective replacement ∷ others) ≡ entry_of defective replacement ∷ entries_in others
entry_back defective (Some replacement) others = refl
entry_back defective None others = refl

entries_back : (entries : List SdlEntry) (others : List CertificateLine) → entries_in others ≡ [] → entries_in (map sdl_line entries ++ others) ≡ entries
entries_back [] others none = none
entries_back (entry ∷ entries) others none =
    entry_back entry.defective entry.replacement (map sdl_line entries ++ others) ∙ ap (λ (xs : List SdlEntry). entry ∷ xs) (entries_back entries others none)

-- the lines of copies are no entries
no_entries_from : (cells : List Cell) (lists : Lists) (place : ℕ × ListPart) (places : List (ℕ × ListPart)) (copies others : List CertificateLine)
    → AreCopyLines cells lists (place ∷ places) copies → entries_in (copies ++ others) ≡ []
no_entries_from cells lists place places copies others (s, told, is, says, rest) = ap (λ (xs : List CertificateLine). entries_in (xs ++ others)) is

no_entries : (shape : Shape) (cells : List Cell) (lists : Lists) (version : Version) (copies others : List CertificateLine)
    → AreCopyLines cells lists (list_cells shape version) copies → entries_in (copies ++ others) ≡ []
unfolding list_cells
no_entries shape cells lists version copies others are =
    no_entries_from cells lists (dds_block shape 1, Structure)
    ((sdl_block shape 1, First) ∷ (second_cell shape version 1 ++ (area_cells shape version 2 ++ (area_cells shape version 3 ++ area_cells shape version 4))))
    copies others are

-- what is read of the lists
abbrev read_lists : LayoutKind → ℕ → Lists → Lists
read_lists layout psa lists = record {
  dds = record { layout = layout; version = lists.dds.version; counter = lists.dds.counter; state = Formatted; psa = psa; entries = lists.dds.entries };
  sdl = record { version = lists.dds.version; counter = lists.sdl.counter; dds_counter = lists.dds.counter; ssa = lists.sdl.ssa; entries = lists.sdl.entries };
}

-- behind the line of the structure
behind : (layout : LayoutKind) (psa : ℕ) (lists : Lists) (area : ℕ) (others : List CertificateLine) → entries_in others ≡ []
    → (told : List CertificateLine) → told ≡ map pdl_line lists.dds.entries ++ (lines.Sdl lists.sdl.counter area lists.sdl.ssa ∷ (map sdl_line lists.sdl.entries ++ others))
    → lists_behind layout psa lists.dds.version lists.dds.counter (pdl_in told) (after_pdl told) ≡ Some (read_lists layout psa lists)
behind layout psa lists area others none told is =
    let back = map sdl_line lists.sdl.entries ++ others in
    let entries = ap pdl_in is ∙ pdl_back lists.dds.entries lists.sdl.counter area lists.sdl.ssa back in
    let after = ap after_pdl is ∙ after_back lists.dds.entries lists.sdl.counter area lists.sdl.ssa back in
    ap (λ (es : List PdlEntry). lists_behind layout psa lists.dds.version lists.dds.counter es (after_pdl told)) entries
    ∙ ap (λ (xs : List CertificateLine). lists_behind layout psa lists.dds.version lists.dds.counter lists.dds.entries xs) after
    ∙ ap (λ (es : List SdlEntry). Some (record {
      dds = record { layout = layout; version = lists.dds.version; counter = lists.dds.counter; state = Formatted; psa = psa; entries = lists.dds.entries };
      sdl = record { version = lists.dds.version; counter = lists.sdl.counter; dds_counter = lists.dds.counter; ssa = lists.sdl.ssa; entries = es };
    })) (entries_back lists.sdl.entries others none)

-- the end of the lines moves inwards
moved_in : (lists : Lists) (area : ℕ) (copies lost ends : List CertificateLine)
    → (map pdl_line lists.dds.entries ++ (lines.Sdl lists.sdl.counter area lists.sdl.ssa ∷ (map sdl_line lists.sdl.entries ++ (copies ++ lost)))) ++ ends
    ≡ map pdl_line lists.dds.entries ++ (lines.Sdl lists.sdl.counter area lists.sdl.ssa ∷ (map sdl_line lists.sdl.entries ++ (copies ++ (lost ++ ends))))
moved_in lists area copies lost ends =
    append_assoc (map pdl_line lists.dds.entries) (lines.Sdl lists.sdl.counter area lists.sdl.ssa ∷ (map sdl_line lists.sdl.entries ++ (copies ++ lost))) ends
    ∙ ap (λ (xs : List CertificateLine). map pdl_line lists.dds.entries ++ (lines.Sdl lists.sdl.counter area lists.sdl.ssa ∷ xs))
    (append_assoc (map sdl_line lists.sdl.entries) (copies ++ lost) ends
    ∙ ap (λ (xs : List CertificateLine). map sdl_line lists.sdl.entries ++ xs) (append_assoc copies lost ends))

some_same : (a b : Lists) → Some a ≡ Some b → a ≡ b
some_same a b h = cc

module _ (shape : Shape) (cells : List Cell) where
  -- valid lists are what is read of them
  read_same : (lists : Lists) → AreValid shape lists → read_lists shape.layout shape.psa lists ≡ lists
  read_same lists valid =
      ap (λ (s : DdsState). record {
        dds = record { layout = shape.layout; version = lists.dds.version; counter = lists.dds.counter; state = s; psa = shape.psa; entries = lists.dds.entries };
        sdl = record { version = lists.dds.version; counter = lists.sdl.counter; dds_counter = lists.dds.counter; ssa = lists.sdl.ssa; entries = lists.sdl.entries };
      }) (sym valid.formatted)
      ∙ ap (λ (k : LayoutKind). record {
        dds = record { layout = k; version = lists.dds.version; counter = lists.dds.counter; state = lists.dds.state; psa = shape.psa; entries = lists.dds.entries };
        sdl = record { version = lists.dds.version; counter = lists.sdl.counter; dds_counter = lists.dds.counter; ssa = lists.sdl.ssa; entries = lists.sdl.entries };
      }) (sym valid.primary.same_layout)
      ∙ ap (λ (p : ℕ). record {
        dds = record { layout = lists.dds.layout; version = lists.dds.version; counter = lists.dds.counter; state = lists.dds.state; psa = p; entries = lists.dds.entries };
        sdl = record { version = lists.dds.version; counter = lists.sdl.counter; dds_counter = lists.dds.counter; ssa = lists.sdl.ssa; entries = lists.sdl.entries };
      }) (sym valid.primary.same_psa)
      ∙ ap (λ (v : Version). record {
        dds = lists.dds;
        sdl = record { version = v; counter = lists.sdl.counter; dds_counter = lists.dds.counter; ssa = lists.sdl.ssa; entries = lists.sdl.entries };
      }) (sym valid.together.same_version)
      ∙ ap (λ (c : ℕ). record {
        dds = lists.dds;
        sdl = record { version = lists.sdl.version; counter = lists.sdl.counter; dds_counter = c; ssa = lists.sdl.ssa; entries = lists.sdl.entries };
      }) (sym valid.together.same_counter)

  valid_told : (told : List CertificateLine) (one : TellsLists shape cells told) → AreValid shape one.lists
  valid_told told one = chosen_valid shape cells one.lists one.chosen

  -- the lists of a certificate that tells some
  listed_back : (told : List CertificateLine) (one : TellsLists shape cells told) → lists_in told ≡ Some one.lists
  listed_back told one =
      let ends = lines.End (length (head_lines shape ++ list_lines one.lists one.chosen.dds_area one.chosen.sdl_area (one.copies ++ lost_lines shape cells one.lists))) ∷ [] in
      ap lists_in one.told_is
      ∙ behind shape.layout shape.psa one.lists one.chosen.sdl_area (one.copies ++ (lost_lines shape cells one.lists ++ ends))
      (no_entries shape cells one.lists one.lists.sdl.version one.copies (lost_lines shape cells one.lists ++ ends) one.copies_are)
      _ (moved_in one.lists one.chosen.sdl_area one.copies (lost_lines shape cells one.lists) ends)
      ∙ ap (λ (l : Lists). Some l) (read_same one.lists (valid_told told one))

-- lines that tell these lists, under this geometry
abbrev pub Tells : Shape → List Cell → List CertificateLine → Lists → Type 0
Tells shape cells told lists = (one : TellsLists shape cells told) × (one.lists ≡ lists)

pub read_from : (shape : Shape) (cells : List Cell) (told : List CertificateLine) (lists : Lists) → Tells shape cells told lists
    → AreChosen shape cells lists × AreValid shape lists
read_from shape cells told lists (one, same) =
    let chosen = subst (AreChosen shape cells) same one.chosen in
    (chosen, chosen_valid shape cells lists chosen)

module _ (shape : Shape) (cells : List Cell) where
  bare_none : (told : List CertificateLine) → IsBareCertificate shape cells told → lists_in told ≡ None
  bare_none told one = ap lists_in one.told_is

  -- a certificate that tells lists tells these, under the layout that they name
  pub told_lists : (told : List CertificateLine) (lists : Lists) → IsCertificate shape cells told → lists_in told ≡ Some lists
      → Tells (shape_named shape lists) cells told lists
  told_lists told lists (inl bare) says = absurd (let none = bare_none told bare in cc)
  told_lists told lists (inr one) says =
      let under = in_kind one.kind shape in
      let same = some_same one.tells.lists lists (sym (listed_back under cells told one.tells) ∙ says) in
      let kind = sym (valid_told under cells told one.tells).primary.same_layout ∙ ap (λ (l : Lists). l.dds.layout) same in
      subst (λ (k : LayoutKind). Tells (in_kind k shape) cells told lists) kind (one.tells, same)

  pub read_back : (told : List CertificateLine) (lists : Lists) → IsCertificate shape cells told → lists_in told ≡ Some lists
      → AreChosen (shape_named shape lists) cells lists × AreValid (shape_named shape lists) lists
  read_back told lists is says = read_from (shape_named shape lists) cells told lists (told_lists told lists is says)

  -- the same under a geometry of the kind that is told
  pub told_here : (told : List CertificateLine) (lists : Lists) → IsCertificate shape cells told → lists_in told ≡ Some lists
      → lists.dds.layout ≡ shape.layout → Tells shape cells told lists
  told_here told lists is says kind =
      subst (λ (k : LayoutKind). Tells (in_kind k shape) cells told lists) kind (told_lists told lists is says)
