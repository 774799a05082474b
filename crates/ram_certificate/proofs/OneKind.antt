-- The certificate of an image under each kind of layout: what it says does not depend on the kind that its geometry names.
use Rattle.std.specs.Prelude.{◌≡◌, ℕ, Some, None, List, [], ◌∷◌}
use Rattle.std.proofs.Common.{sym, ap, ◌∙◌, inl, inr, subst, arith}
use Rattle.model_geometry.specs.declared.kinds.LayoutKind.{LayoutKind}
use Rattle.model_geometry.specs.declared.kinds.LayoutKind.TheVariants.{OneGroup, EachZone}
use Rattle.model_geometry.specs.Geometry.{Shape, IsLawful, SparesFitZones, total}
use Rattle.model_geometry.proofs.DataBlocks.{length-data_blocks_closed}
use Rattle.model_geometry.proofs.ByKind.{lawful_in_zones}
use Rattle.model_medium.specs.Cells.{Cell}
use Rattle.model_image.specs.Cells.{image_len, cells_of}
use Rattle.model_image.specs.Image.{IsDiscImage}
use Rattle.model_image.proofs.Headers.{one_header}
use Rattle.model_places.specs.Places.{Lists}
use Rattle.model_volume.specs.Given.{ChoosesNone}
use Rattle.model_audit.specs.declared.lines.CertificateLine.{CertificateLine}
use Rattle.model_audit.specs.declared.lines.CertificateLine.TheVariants as lines
use Rattle.model_audit.specs.Certificate.{in_kind, AreLookedFor, IsCertificate}
use Rattle.model_audit.specs.Reading.{lists_in}
use Rattle.model_audit.proofs.ReadBack.{told_lists}
use Rattle.ram_audit.proofs.Certifying.{same_total}
use Rattle.ram_audit.specs.Discs.{AreCertificateOf}

-- ---- geometries

-- a lawful geometry is so with one group of spares
lawful_in_one : (s : Shape) → IsLawful s → IsLawful (in_kind OneGroup s)
lawful_in_one s lawful = record {
  some_zones = lawful.some_zones;
  most_zones = lawful.most_zones;
  some_scale = lawful.some_scale;
  most_scale = lawful.most_scale;
  some_spares = lawful.some_spares;
  most_spares = lawful.most_spares;
  spares_within =
      let a = length-data_blocks_closed s lawful.some_scale in
      let b = length-data_blocks_closed (in_kind OneGroup s) lawful.some_scale in
      let within = lawful.spares_within in
      omega (arith, a, b, within);
  layout_fits = tt;
}

-- an image of a disc is one under each kind that is lawful
in_this_kind : (kind : LayoutKind) (s : Shape) (held : List ℕ) → IsLawful (in_kind kind s) → IsDiscImage s held → IsDiscImage (in_kind kind s) held
in_this_kind kind s held lawful disc = record {
  has_header = record { lawful = lawful; header = disc.has_header.header };
  as_long = disc.as_long ∙ ap image_len (sym (same_total kind s));
}

-- ---- certificates

-- by whichever kind the geometry names
same_certificate : (s : Shape) (cells : List Cell) (told : List CertificateLine) → IsCertificate (in_kind OneGroup s) cells told → IsCertificate s cells told
same_certificate s cells told (inl bare) = inl (record {
  none = λ kind looked. none kind looked;
  mark = bare.mark;
  mark_is = bare.mark_is;
  told_is = bare.told_is;
})
  where
    none : (kind : LayoutKind) → AreLookedFor kind s cells → ChoosesNone (in_kind kind s) cells
    none OneGroup looked = bare.none OneGroup looked
    none EachZone looked = bare.none EachZone looked
same_certificate s cells told (inr one) = inr (record {
  kind = one.kind;
  looked_for = looked one.kind one.looked_for;
  tells = one.tells;
})
  where
    looked : (kind : LayoutKind) → AreLookedFor kind (in_kind OneGroup s) cells → AreLookedFor kind s cells
    looked OneGroup has = has
    looked EachZone has = has

-- the kind of layout that lines name
abbrev named_kind : List CertificateLine → LayoutKind
named_kind (first ∷ (lines.Geometry zones scale psa layout ∷ others)) = layout
named_kind _ = OneGroup

module _ (held : List ℕ) (told : List CertificateLine) (are : AreCertificateOf held told) where
  -- the certificate is that of the disc of each geometry of the image
  pub certifies_here : (s : Shape) → IsDiscImage s held → IsCertificate s (cells_of (total s) held) told
  certifies_here s disc =
      let one = in_this_kind OneGroup s held (lawful_in_one s disc.has_header.lawful) disc in
      let same = one_header are.shape (in_kind OneGroup s) held are.one are.disc.has_header one.has_header in
      same_certificate s (cells_of (total s) held) told
      (subst (λ (n : ℕ). IsCertificate (in_kind OneGroup s) (cells_of n held) told) (same_total OneGroup s)
      (subst (λ (a : Shape). IsCertificate a (cells_of (total a) held) told) same are.certifies))

  -- ---- the kind that is told

  -- where lists with a group of spares in each zone are told, the spares fit
  fits : (a : Shape) (cells : List Cell) (lists : Lists) → IsCertificate a cells told → lists_in told ≡ Some lists
      → lists.dds.layout ≡ EachZone → SparesFitZones (in_kind EachZone a)
  fits a cells lists (inl bare) says kind =
      absurd (let none : lists_in told ≡ None = ap lists_in bare.told_is in let e = sym none ∙ says in cc)
  fits a cells lists (inr one) says kind =
      let tells = told_lists a cells told lists (inr one) says in
      let same = sym (ap named_kind one.tells.told_is) ∙ ap named_kind tells.0.told_is ∙ kind in
      (subst (λ (k : LayoutKind). AreLookedFor k a cells) same one.looked_for).0

  -- so the image is one of a disc of the kind that is told
  disc_by : (lists : Lists) (kind : LayoutKind) → lists_in told ≡ Some lists → lists.dds.layout ≡ kind → IsDiscImage (in_kind kind are.shape) held
  disc_by lists OneGroup says is = in_this_kind OneGroup are.shape held (lawful_in_one are.shape are.disc.has_header.lawful) are.disc
  disc_by lists EachZone says is =
      let fit = fits are.shape (cells_of (total are.shape) held) lists are.certifies says is in
      in_this_kind EachZone are.shape held (lawful_in_zones are.shape are.disc.has_header.lawful (record { all = fit.all; each = fit.each })) are.disc

  pub disc_of_kind : (lists : Lists) → lists_in told ≡ Some lists → IsDiscImage (in_kind lists.dds.layout are.shape) held
  disc_of_kind lists says = disc_by lists lists.dds.layout says refl_layout
    where
      refl_layout : lists.dds.layout ≡ lists.dds.layout
      refl_layout = cc
