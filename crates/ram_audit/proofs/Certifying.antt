-- The lines that were told are the certificate of the disc.
use Rattle.std.specs.Prelude.{◌≡◌, ℕ, ◌+◌, ◌≤◌, Option, Some, None, IfSome, List, [], ◌∷◌, ◌++◌, map, length}
use Rattle.std.proofs.Common.{refl, sym, ap, ap₂, ◌∙◌, inl, inr, subst, arith}
use Rattle.std.proofs.lemmas.List.{append_assoc, append-nil}
use Rattle.model_geometry.specs.declared.kinds.LayoutKind.{LayoutKind}
use Rattle.model_geometry.specs.declared.kinds.LayoutKind.TheVariants.{OneGroup, EachZone}
use Rattle.model_geometry.specs.Geometry.{Shape, SparesFitZones, total}
use Rattle.model_geometry.proofs.Zones.{zone_start_closed}
use Rattle.model_medium.specs.Cells.{Cell}
use Rattle.model_image.specs.Cells.{cells_of}
use Rattle.model_copies.specs.Parts.{Mark}
use Rattle.model_places.specs.Places as places
use Rattle.model_places.specs.Places.{logical_count}
use Rattle.model_volume.specs.Given.{ChoosesNone}
use Rattle.model_audit.specs.declared.lines.CertificateLine.{CertificateLine}
use Rattle.model_audit.specs.declared.lines.CertificateLine.TheVariants as told
use Rattle.model_audit.specs.Certificate.{head_lines, pdl_line, sdl_line, list_lines, list_cells, lost_lines, closed, TellsLists, in_kind, AreLookedFor, IsCertificate}
use Rattle.ram_audit.specs.declared.lines.Lines.{Lines}
use Rattle.ram_audit.specs.Telling.{Adds, AreLines, cells_in_image, AreFound, NoneFound, AddsCopies, AddsLost, AreToldOf, AreCertificate}
use Rattle.ram_audit.proofs.Adding.{if_some, both_some, three_some}

-- ---- the lines of one kind of lists

-- the lines of both lists, with others behind them
lists_before : (lists : places.Lists) (a b : ℕ) (others : List CertificateLine) → list_lines lists a b [] ++ others ≡ list_lines lists a b others
lists_before lists a b others =
    ap (λ (xs : List CertificateLine). told.Dds lists.dds.version lists.dds.counter a ∷ xs)
    (append_assoc (map pdl_line lists.dds.entries) (told.Sdl lists.sdl.counter b lists.sdl.ssa ∷ (map sdl_line lists.sdl.entries ++ [])) others
    ∙ ap (λ (xs : List CertificateLine). map pdl_line lists.dds.entries ++ (told.Sdl lists.sdl.counter b lists.sdl.ssa ∷ xs))
    (ap (λ (xs : List CertificateLine). xs ++ others) (append-nil (map sdl_line lists.sdl.entries))))

together : (shape : Shape) (lists : places.Lists) (a b : ℕ) (copies lost : List CertificateLine)
    → ((([] ++ head_lines shape) ++ list_lines lists a b []) ++ copies) ++ lost ≡ head_lines shape ++ list_lines lists a b (copies ++ lost)
together shape lists a b copies lost =
    append_assoc (head_lines shape ++ list_lines lists a b []) copies lost
    ∙ append_assoc (head_lines shape) (list_lines lists a b []) (copies ++ lost)
    ∙ ap (λ (xs : List CertificateLine). head_lines shape ++ xs) (lists_before lists a b (copies ++ lost))

pub all_told : (shape : Shape) (bytes : Option (List ℕ)) (lists : places.Lists) (dds_area sdl_area : ℕ) (start one two three four last : Lines) → AreLines start [] → AreFound shape bytes lists dds_area sdl_area
    → Adds start one (head_lines shape) → Adds one two (list_lines lists dds_area sdl_area []) → AddsCopies two three shape bytes lists (list_cells shape lists.sdl.version) → AddsLost three four shape bytes lists (logical_count shape lists)
    → ((all : List CertificateLine) → AreLines four all → AreLines last (closed all)) → AreToldOf last shape bytes
unfolding lost_lines
all_told shape bytes lists dds_area sdl_area start one two three four last none found head entries copies lost close = record {
  all = closed (head_lines shape ++ list_lines lists dds_area sdl_area (copies.copies ++ lost.lost));
  are = subst (λ (xs : List CertificateLine). AreLines last (closed xs)) (together shape lists dds_area sdl_area copies.copies lost.lost)
      (close _ (lost.adds _ (copies.adds _ (entries _ (head [] none)))));
  tells = three_some bytes (λ held chosen are lost_are. record {
    lists = lists;
    chosen = chosen.chosen;
    copies = copies.copies;
    copies_are = are;
    told_is = ap (λ (xs : List CertificateLine). closed (head_lines shape ++ list_lines lists dds_area sdl_area (copies.copies ++ xs))) lost_are
        ∙ ap₂ (λ (a b : ℕ). closed (head_lines shape ++ list_lines lists a b (copies.copies ++ lost_lines shape (cells_in_image shape held) lists))) (sym chosen.dds_there) (sym chosen.sdl_there);
  }) found.chosen copies.are lost.are;
}

-- ---- of either kind

same_kind : (shape : Shape) → shape.layout ≡ OneGroup → in_kind OneGroup shape ≡ shape
same_kind shape is = ap (λ (k : LayoutKind). in_kind k shape) (sym is)

pub same_total : (kind : LayoutKind) (shape : Shape) → total (in_kind kind shape) ≡ total shape
same_total kind shape =
    let a = zone_start_closed (in_kind kind shape) shape.zones in
    let b = zone_start_closed shape shape.zones in
    omega (arith, a, b)

pub lists_certify : (last : Lines) (shape : Shape) (bytes : Option (List ℕ)) → shape.layout ≡ OneGroup → AreToldOf last shape bytes → AreCertificate last shape bytes
lists_certify last shape bytes is one = record {
  all = one.all;
  are = one.are;
  certifies = if_some bytes (λ held tells. inr (record {
    kind = OneGroup;
    looked_for = tt;
    tells = subst (λ (s : Shape). TellsLists s (cells_in_image shape held) one.all) (sym (same_kind shape is)) tells;
  })) one.tells;
}

pub zones_certify : (last : Lines) (shape : Shape) (bytes : Option (List ℕ)) (mark : ℕ) → shape.layout ≡ OneGroup → NoneFound shape bytes mark → SparesFitZones shape → AreToldOf last (in_kind EachZone shape) bytes → AreCertificate last shape bytes
zones_certify last shape bytes mark is none fit each = record {
  all = each.all;
  are = each.are;
  certifies = both_some bytes (λ held nothing tells. inr (record {
    kind = EachZone;
    looked_for = (
      record { all = fit.all; each = fit.each },
      subst (λ (s : Shape). ChoosesNone s (cells_in_image shape held)) (sym (same_kind shape is)) nothing.0,
    );
    tells = subst (λ (n : ℕ). TellsLists (in_kind EachZone shape) (cells_of n held) each.all) (same_total EachZone shape) tells;
  })) none each.tells;
}

module _ (last : Lines) (shape : Shape) (bytes : Option (List ℕ)) (mark : ℕ) (is : shape.layout ≡ OneGroup) (none : NoneFound shape bytes mark) (are : AreLines last (closed (head_lines shape ++ told.Bare mark ∷ []))) where
  bare_by : ((held : List ℕ) → bytes ≡ Some held → AreLookedFor EachZone shape (cells_in_image shape held) → ChoosesNone (in_kind EachZone shape) (cells_in_image shape held)) → AreCertificate last shape bytes
  bare_by each = record {
    all = closed (head_lines shape ++ told.Bare mark ∷ []);
    are = are;
    certifies = by_bytes bytes none each;
  }
    where
      by_bytes : (o : Option (List ℕ)) → NoneFound shape o mark → ((held : List ℕ) → o ≡ Some held → AreLookedFor EachZone shape (cells_in_image shape held) → ChoosesNone (in_kind EachZone shape) (cells_in_image shape held))
          → IfSome o (λ held. IsCertificate shape (cells_in_image shape held) (closed (head_lines shape ++ told.Bare mark ∷ [])))
      by_bytes None n e = tt
      by_bytes (Some held) n e = inl (record {
        none = kinds;
        mark = mark;
        mark_is = subst (λ (s : Shape). Mark s (cells_in_image shape held) mark) (sym (same_kind shape is)) n.1;
        told_is = ap (λ (s : Shape). closed (head_lines s ++ told.Bare mark ∷ [])) (sym (same_kind shape is));
      })
        where
          kinds : (kind : LayoutKind) → AreLookedFor kind shape (cells_in_image shape held) → ChoosesNone (in_kind kind shape) (cells_in_image shape held)
          kinds OneGroup looked = subst (λ (s : Shape). ChoosesNone s (cells_in_image shape held)) (sym (same_kind shape is)) n.0
          kinds EachZone looked = e held refl looked

  -- the spares do not fit the zones
  pub bare_certify : ¬ SparesFitZones shape → AreCertificate last shape bytes
  bare_certify apart = bare_by (λ held there looked. absurd (apart (record { all = looked.0.all; each = looked.0.each })))

  -- they do, and there are no lists either
  pub bare_in_zones_certify : (other : ℕ) → NoneFound (in_kind EachZone shape) bytes other → AreCertificate last shape bytes
  bare_in_zones_certify other nothing = bare_by (λ held there looked.
      subst (λ (n : ℕ). ChoosesNone (in_kind EachZone shape) (cells_of n held)) (same_total EachZone shape) (subst (λ (o : Option (List ℕ)). IfSome o (λ h. ChoosesNone (in_kind EachZone shape) (cells_in_image (in_kind EachZone shape) h))) there
      (if_some bytes (λ h both. both.0) nothing)))
