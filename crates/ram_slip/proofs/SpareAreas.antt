-- The spares of both areas, by the kind of the layout.
use Rattle.std.proofs.Common.{◌≡◌, ◌↔◌, ℕ, ◌-◌, ◌≤◌, inl, inr, Bool, IsTrue, nat_eq, Option, Some, None, List, [], length, refl, sym, ap, ◌∙◌, subst, arith}
use Rattle.std.specs.List.{Contains}
use Rattle.std.specs.Option.{option_eq}
use Rattle.std.proofs.lemmas.Bool.{true≢false, eqb-true, eq-eqb}
use Rattle.std.proofs.lemmas.List.{length-take}
use Rattle.model_geometry.specs.declared.kinds.LayoutKind.{LayoutKind}
use Rattle.model_geometry.specs.declared.kinds.LayoutKind.TheVariants.{OneGroup, EachZone}
use Rattle.model_geometry.specs.Geometry.{Shape, IsLawful, IsInZone, IsZoneOf, spare_room}
use Rattle.model_geometry.proofs.Zones.{same_zone}
use Rattle.model_lists.specs.Values.{Dds}
use Rattle.model_pools.specs.Pools.{spares_in}
use Rattle.model_places.specs.Places.{unslipped, unreplaced, zone_groups, pools_of, primary_count, primary_spares, primary_by_kind, supplementary_spares, supplementary_by_kind}
use Rattle.model_places.specs.Valid.{IsValidPdl}
use Rattle.model_places.proofs.ByKind.{cases_kind, slip_room, zone_pools, few_slipped, no_area}
use Rattle.model_places.proofs.Layouts as layouts
use Rattle.model_places.proofs.Pools.{length-unslipped}
use Rattle.ram_slip.specs.Roles.{primary_in, supplementary_in, SharesPool, shares_by_kind}
use Rattle.ram_slip.proofs.ZoneSpares.{spares_many}

-- ---- with one group of spares

pub primary_one : (shape : Shape) (dds : Dds) → shape.layout ≡ OneGroup → primary_in shape dds ≡ primary_spares shape dds
primary_one shape dds is = ap (λ (kind : LayoutKind). primary_by_kind kind shape (unreplaced dds 0)) is

pub supplementary_one : (shape : Shape) (dds : Dds) (ssa : ℕ) → shape.layout ≡ OneGroup → supplementary_in shape dds ssa ≡ supplementary_spares shape dds ssa
supplementary_one shape dds ssa is = ap (λ (kind : LayoutKind). supplementary_by_kind kind shape (unreplaced dds ssa)) is

pub slips_share : (shape : Shape) (block spare : ℕ) → shape.layout ≡ OneGroup → SharesPool shape block spare
slips_share shape block spare is = subst (λ (kind : LayoutKind). shares_by_kind kind shape block spare) (sym is) tt

-- ---- with a group in each zone: each spare is a primary one

pub primary_zones : (shape : Shape) (dds : Dds) → shape.layout ≡ EachZone → primary_in shape dds ≡ spares_in (zone_groups shape dds)
primary_zones shape dds is = ap (λ (kind : LayoutKind). primary_by_kind kind shape (unreplaced dds 0)) is

pub primary_pools : (shape : Shape) (dds : Dds) (ssa : ℕ) → shape.layout ≡ EachZone → primary_in shape dds ≡ spares_in (pools_of shape dds ssa)
primary_pools shape dds ssa is = primary_zones shape dds is ∙ ap spares_in (sym (zone_pools shape is dds ssa))

pub supplementary_zones : (shape : Shape) (dds : Dds) (ssa : ℕ) → shape.layout ≡ EachZone → supplementary_in shape dds ssa ≡ []
supplementary_zones shape dds ssa is = ap (λ (kind : LayoutKind). supplementary_by_kind kind shape (unreplaced dds ssa)) is

pub zones_share : (shape : Shape) (block spare : ℕ) → shape.layout ≡ EachZone → ((zone : ℕ) → IsInZone shape zone block ↔ IsInZone shape zone spare) → SharesPool shape block spare
zones_share shape block spare is same = subst (λ (kind : LayoutKind). shares_by_kind kind shape block spare) (sym is) same

pub in_one_zone : (shape : Shape) (block spare : ℕ) → shape.layout ≡ EachZone → SharesPool shape block spare → (zone : ℕ) → IsInZone shape zone block ↔ IsInZone shape zone spare
in_one_zone shape block spare is shares = subst (λ (kind : LayoutKind). shares_by_kind kind shape block spare) is shares

-- nothing is in an empty list
pub none_among : (l : List ℕ) (block : ℕ) → l ≡ [] → ¬ Contains l block
none_among l block is (k, inside, at) = let e = ap length is in omega (arith, inside, e)

-- ---- whatever the kind

-- as many primary spares are left as are kept at first, less one for each slipped block
pub primary_is : (shape : Shape) (dds : Dds) → IsLawful shape → IsValidPdl shape dds → (length dds.entries ≤ spare_room shape 0) × (spare_room shape 0 - length dds.entries ≡ length (primary_in shape dds))
primary_is shape dds lawful valid = elim (cases_kind shape.layout) [
  | inl is ↦ (let few = few_slipped shape is dds valid in
      let within = lawful.spares_within in (
        omega (arith, few, slip_room shape is 0),
        omega (arith, few, within, slip_room shape is 0, ap length (primary_one shape dds is), length-take (primary_count shape dds) (unslipped shape dds), length-unslipped shape dds valid),
      ))
  | inr is ↦ (let area = no_area shape lawful in
      let within = area.some_logical in
      let many = spares_many shape dds 0 is valid area in (
        omega (arith, within, many, length-unslipped shape dds valid),
        omega (arith, within, many, ap length (primary_zones shape dds is), length-unslipped shape dds valid),
      ))
]

-- the spares of both areas are spares
module _ (shape : Shape) (dds : Dds) (ssa block : ℕ) where
  pub from_primary : Contains (primary_in shape dds) block → Contains (spares_in (pools_of shape dds ssa)) block
  from_primary has = elim (cases_kind shape.layout) [
    | inl is ↦ layouts.from_primary shape dds ssa is block (subst (λ (l : List ℕ). Contains l block) (primary_one shape dds is) has)
    | inr is ↦ subst (λ (l : List ℕ). Contains l block) (primary_pools shape dds ssa is) has
  ]

  pub from_supplementary : Contains (supplementary_in shape dds ssa) block → Contains (spares_in (pools_of shape dds ssa)) block
  from_supplementary has = elim (cases_kind shape.layout) [
    | inl is ↦ layouts.from_supplementary shape dds ssa is block (subst (λ (l : List ℕ). Contains l block) (supplementary_one shape dds ssa is) has)
    | inr is ↦ absurd (none_among (supplementary_in shape dds ssa) block (supplementary_zones shape dds ssa is) has)
  ]

-- what tells the zones of two blocks tells whether they share one
module _ (shape : Shape) (block spare : ℕ) where
  pub both_found : (zone other : ℕ) → IsInZone shape zone block → IsInZone shape other spare → zone ≡ other → (w : ℕ) → IsInZone shape w block ↔ IsInZone shape w spare
  both_found zone other a b same w = (
    λ x. subst (λ (v : ℕ). IsInZone shape v spare) (sym same ∙ same_zone shape zone w block a x) b,
    λ y. subst (λ (v : ℕ). IsInZone shape v block) (same ∙ same_zone shape other w spare b y) a,
  )

  pub zones_tell : (found other : Option ℕ) → IsZoneOf shape block found → IsZoneOf shape spare other → IsTrue (option_eq nat_eq found other) ↔ ((w : ℕ) → IsInZone shape w block ↔ IsInZone shape w spare)
  zones_tell None None none none' = (λ _. λ w. (λ x. absurd (none w x), λ y. absurd (none' w y)), λ _. refl)
  zones_tell None (Some z) none b = (λ t. absurd (true≢false (sym t)), λ same. absurd (none z ((same z).1 b)))
  zones_tell (Some z) None a none = (λ t. absurd (true≢false (sym t)), λ same. absurd (none z ((same z).0 a)))
  zones_tell (Some z) (Some w) a b = (λ t. both_found z w a b (eqb-true z w t), λ same. eq-eqb z w (same_zone shape z w spare ((same z).0 a) b))

-- ---- two blocks share a pool, by what is told of their zones

pub share_where_told : (shape : Shape) (block spare : ℕ) (told : Bool) → shape.layout ≡ EachZone → (IsTrue told ↔ ((w : ℕ) → IsInZone shape w block ↔ IsInZone shape w spare)) → IsTrue told ↔ SharesPool shape block spare
share_where_told shape block spare told is tells = (λ t. zones_share shape block spare is (tells.0 t), λ shares. tells.1 (in_one_zone shape block spare is shares))
