-- The table of the data blocks that are not slipped, zone by zone.
use Rattle.std.proofs.Common.{◌≡◌, ℕ, suc, ◌+◌, ◌-◌, ◌<◌, ◌≤◌, inl, inr, List, [], ◌++◌, length, refl, sym, ap, ◌∙◌, subst, arith}
use Rattle.std.specs.Prelude.{not, slice_index}
use Rattle.std.proofs.lemmas.Bool.{cases_lt}
use Rattle.std.proofs.lemmas.List.Elements.{filter-append}
use Rattle.model_geometry.specs.Geometry.{Shape, IsLawful, data_blocks, zone_start, zone_blocks}
use Rattle.model_geometry.proofs.Zones.{zone_start_next, zone_blocks_room, total_most}
use Rattle.model_geometry.proofs.DataBlocks.{zone_data, zones_data, data_blocks_is}
use Rattle.model_pools.specs.Listed.{is_listed}
use Rattle.ram_runs.specs.declared.Run.{Run}
use Rattle.ram_runs.specs.Runs.{blocks_in, IsTable, IsCountBelow, end_of, kept_of}
use Rattle.ram_layout.specs.Filling.{kept_in, HasZones}

pub no_zones : (shape : Shape) (slipped : List ℕ) (runs : List Run) → runs ≡ [] → HasZones shape slipped 0 0 runs
no_zones shape slipped runs none = subst (HasZones shape slipped 0 0) (sym none) (record {
  table = tt;
  blocks = refl;
  behind = omega arith;
  passed_are = λ k below. absurd (omega (arith, below));
  passed_within = omega arith;
})

-- a zone has so much room
pub zone_room : (shape : Shape) → IsLawful shape → (zone : ℕ) → zone_start shape zone + 25 ≤ zone_start shape (zone + 1)
zone_room shape lawful zone = omega (arith, zone_start_next shape zone, zone_blocks_room shape lawful.some_scale zone)

-- the slipped blocks that were passed are among those that come before a later block
pub passed_before : (slipped : List ℕ) (passed limit block count : ℕ) → passed ≤ length slipped → ((k : ℕ) → k < passed → slice_index slipped k < limit) → limit ≤ block → IsCountBelow slipped block count → passed ≤ count
passed_before slipped passed limit block count within before later counted = elim (cases_lt count passed) [
  | inl less ↦ absurd (let low = before count less in let high = counted.others count (omega arith) (omega (arith, less, within)) in omega (arith, low, high, later))
  | inr all ↦ all
]

-- one zone more
pub zone_more : (shape : Shape) → IsLawful shape → (slipped : List ℕ) (zone passed until first end : ℕ) (runs runs' : List Run) → HasZones shape slipped zone passed runs
    → first ≡ zone_start shape zone + 1 → end ≡ zone_start shape (zone + 1) - 1 → IsCountBelow slipped end until → IsTable runs'
    → blocks_in runs' ≡ blocks_in runs ++ kept_of slipped first (end - first) → end_of 0 runs' ≤ end + 1 → HasZones shape slipped (zone + 1) until runs'
zone_more shape lawful slipped zone passed until first end runs runs' so_far first_is end_is counted table blocks behind =
    let room = zone_room shape lawful zone in
    let next = zone_start_next shape zone in
    let wide : end - first ≡ zone_blocks shape zone - 2 = omega (arith, first_is, end_is, next, room) in
    let one : suc zone ≡ zone + 1 = omega arith in
    record {
      table = table;
      blocks = blocks
          ∙ ap (λ (l : List ℕ). l ++ kept_of slipped first (end - first)) so_far.blocks
          ∙ ap (λ (n : ℕ). kept_in slipped (zones_data shape zone) ++ kept_of slipped n (end - first)) first_is
          ∙ ap (λ (n : ℕ). kept_in slipped (zones_data shape zone) ++ kept_of slipped (zone_start shape zone + 1) n) wide
          ∙ sym (filter-append (λ block. not (is_listed slipped block)) (zones_data shape zone) (zone_data shape zone))
          ∙ ap (λ (n : ℕ). kept_in slipped (zones_data shape n)) one;
      behind = omega (arith, behind, end_is, room);
      passed_are = λ k below. (let low = counted.lower k below in omega (arith, low, end_is, room));
      passed_within = counted.within;
    }

-- all zones
pub zones_all : (shape : Shape) → IsLawful shape → (slipped : List ℕ) (zone passed : ℕ) (runs : List Run) → HasZones shape slipped zone passed runs → zone ≡ shape.zones
    → (blocks_in runs ≡ kept_in slipped (data_blocks shape)) × (end_of 0 runs ≤ 147016)
zones_all shape lawful slipped zone passed runs made all =
    let behind = made.behind in
    let end : zone_start shape zone ≡ zone_start shape shape.zones = ap (zone_start shape) all in
    let most = total_most shape lawful in
    (made.blocks ∙ ap (λ (n : ℕ). kept_in slipped (zones_data shape n)) all ∙ ap (kept_in slipped) (sym (data_blocks_is shape lawful.some_scale)), omega (arith, behind, end, most))
