-- A disc that is settled in one kind of layout gives no lists of the other.
use Rattle.std.proofs.Common.{◌≡◌, ℕ, ◌+◌, ◌*◌, ◌/◌, List, sym, ap, ◌∙◌, subst}
use Rattle.std.specs.Prelude.{◌≢◌, ◌==◌, if◌then◌else◌}
use Rattle.model_geometry.specs.Geometry.{Shape, label_of, lead_out, dds_block}
use Rattle.model_geometry.proofs.Zones.{zone_start_closed}
use Rattle.model_lists.specs.Values.{Dds}
use Rattle.model_lists.specs.Texts.{IsDdsText}
use Rattle.model_lists.proofs.DdsTexts as dds_texts
use Rattle.model_medium.specs.Cells.{Cell, cell_at}
use Rattle.model_copies.specs.Copies.{Holds, HasDdsCopy}
use Rattle.model_copies.proofs.CopyFacts.{copy_settled}
use Rattle.model_places.specs.Places.{Lists}
use Rattle.model_volume.specs.Given.{GivesNone, AreSettled}

module _ (a b : Shape) (same : label_of a ≡ label_of b) where
  same_end : lead_out b ≡ lead_out a
  same_end =
      let zones : a.zones ≡ b.zones = (let e = same in cc) in
      let scale : a.scale ≡ b.scale = (let e = same in cc) in
      zone_start_closed b b.zones
      ∙ ap (λ (z : ℕ). 8 + b.scale * (z * (z + 49) / 2)) (sym zones)
      ∙ ap (λ (k : ℕ). 8 + k * (a.zones * (a.zones + 49) / 2)) (sym scale)
      ∙ sym (zone_start_closed a a.zones)

  dds_at : ℕ → ℕ → ℕ
  dds_at end area = if area == 1 then 0 else (if area == 2 then 2 else (if area == 3 then end else end + 2))

  same_block : (area : ℕ) → dds_block b area ≡ dds_block a area
  unfolding dds_at
  same_block area = ap (λ (end : ℕ). dds_at end area) same_end

  pub none_of_the_other : a.layout ≢ b.layout → (cells : List Cell) (lists : Lists) → lists.dds.layout ≡ a.layout → AreSettled a cells lists → GivesNone b cells
  none_of_the_other other cells lists kind settled found given =
      let copy : HasDdsCopy a cells found.dds given.dds_area = record {
        is_area = given.dds_copy.is_area;
        holds = subst (λ (n : ℕ). Holds IsDdsText (cell_at cells n) found.dds) (same_block given.dds_area) given.dds_copy.holds;
      } in
      let is : found.dds ≡ lists.dds = copy_settled IsDdsText dds_texts.one_value (dds_block a) cells lists.dds found.dds given.dds_area settled.dds copy in
      other (sym kind ∙ sym (ap (λ (d : Dds). d.layout) is) ∙ given.valid.primary.same_layout)
