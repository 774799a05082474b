-- How many entries a zone has.
use Rattle.std.proofs.Common.{◌≡◌, ℕ, ◌+◌, ◌-◌, ◌<◌, ◌≤◌, inl, inr, Bool, true, false, IsTrue, ◌&&◌, ltb, leb, cond, List, length, filter, take, get_or, sym, ap, ◌∙◌, subst, arith}
use Rattle.std.proofs.lemmas.Bool.{cases_lt, cases_eq, lt-ltb, le-ltb, le-leb, leb-true}
use Rattle.std.proofs.lemmas.List.{length-map, take_all, get_or-map}
use Rattle.std.proofs.lemmas.List.Filters.{length-filter_more}
use Rattle.model_geometry.specs.declared.kinds.LayoutKind.TheVariants.{OneGroup, EachZone}
use Rattle.model_geometry.specs.Geometry.{Shape, zone_start, is_inside}
use Rattle.model_geometry.proofs.Zones.{zone_start_closed, zone_start_next}
use Rattle.model_lists.specs.declared.dds.PdlEntry.{PdlEntry}
use Rattle.model_lists.specs.Values.{pdl_blocks}
use Rattle.model_places.specs.Valid.{SlipsFew, slipped_in}
use Rattle.model_places.proofs.ByKind.{slips_few, slips_few_from, zones_few, zones_few_from}

abbrev block_of : PdlEntry → ℕ
block_of entry = entry.block

-- a number below the one before an end, in both ways of asking
before_last : (block end : ℕ) → 1 ≤ end → ltb block (end - 1) ≡ ltb (block + 1) end
before_last block end some = elim (cases_lt block (end - 1)) [
  | inl less ↦ lt-ltb block (end - 1) less ∙ sym (lt-ltb (block + 1) end (omega (arith, less)))
  | inr from ↦ le-ltb block (end - 1) from ∙ sym (le-ltb (block + 1) end (omega (arith, from, some)))
]

pub inside_is : (shape : Shape) (zone block start end : ℕ) → start ≡ zone_start shape zone → end ≡ zone_start shape (zone + 1) → 8 ≤ end → (ltb start block && ltb block (end - 1)) ≡ is_inside shape block zone
inside_is shape zone block start end start_is end_is least =
    ap (λ (b : Bool). ltb start block && b) (before_last block end (omega (arith, least)))
    ∙ ap (λ (s : ℕ). ltb s block && ltb (block + 1) end) start_is
    ∙ ap (λ (e : ℕ). ltb (zone_start shape zone) block && ltb (block + 1) e) (end_is ∙ zone_start_next shape zone)

-- where the block comes after the first of the zone
pub inside_then : (shape : Shape) (zone block start end : ℕ) → start ≡ zone_start shape zone → end ≡ zone_start shape (zone + 1) → 8 ≤ end → start < block → ltb block (end - 1) ≡ is_inside shape block zone
inside_then shape zone block start end start_is end_is least after =
    sym (ap (λ (b : Bool). b && ltb block (end - 1)) (lt-ltb start block after)) ∙ inside_is shape zone block start end start_is end_is least

pub start_least : (shape : Shape) (zone start : ℕ) → start ≡ zone_start shape zone → 8 ≤ start
start_least shape zone start is = omega (arith, is, zone_start_closed shape zone)

-- n of the first k entries lie in the zone
abbrev pub CountsUpTo : Shape → List PdlEntry → ℕ → ℕ → ℕ → Type 0
CountsUpTo shape entries zone k count = count ≡ length (filter (λ block. is_inside shape block zone) (take k (pdl_blocks entries)))

module _ (shape : Shape) (entries : List PdlEntry) (zone : ℕ) where
  counted_next : (k : ℕ) (d : PdlEntry) → k < length entries → length (filter (λ block. is_inside shape block zone) (take (k + 1) (pdl_blocks entries)))
      ≡ length (filter (λ block. is_inside shape block zone) (take k (pdl_blocks entries))) + cond (is_inside shape (get_or entries k d).block zone) 1 0
  counted_next k d within =
      length-filter_more (λ block. is_inside shape block zone) (pdl_blocks entries) k 0 (omega (arith, within, length-map entries block_of))
      ∙ ap {B = ℕ} (λ (b : ℕ). length (filter (λ block. is_inside shape block zone) (take k (pdl_blocks entries))) + cond (is_inside shape b zone) 1 0) (get_or-map block_of entries k d 0 within)

  pub one_more : (k count : ℕ) (d : PdlEntry) (found : Bool) → k < length entries → CountsUpTo shape entries zone k count → found ≡ is_inside shape (get_or entries k d).block zone → found ≡ true → CountsUpTo shape entries zone (k + 1) (count + 1)
  one_more k count d found within so_far is yes_it =
      let here = ap {B = ℕ} (λ (b : Bool). cond b 1 0) (sym is ∙ yes_it) in omega (arith, so_far, counted_next k d within, here)

  pub none_more : (k count : ℕ) (d : PdlEntry) (found : Bool) → k < length entries → CountsUpTo shape entries zone k count → found ≡ is_inside shape (get_or entries k d).block zone → found ≡ false → CountsUpTo shape entries zone (k + 1) count
  none_more k count d found within so_far is not_it =
      let here = ap {B = ℕ} (λ (b : Bool). cond b 1 0) (sym is ∙ not_it) in omega (arith, so_far, counted_next k d within, here)

  pub counted_all : (k count : ℕ) → length entries ≤ k → CountsUpTo shape entries zone k count → count ≡ slipped_in shape (pdl_blocks entries) zone
  counted_all k count past so_far = so_far ∙ ap (λ (l : List ℕ). length (filter (λ block. is_inside shape block zone) l)) (take_all k (pdl_blocks entries) (omega (arith, past, length-map entries block_of)))

  -- one more entry, by whether it lies in the zone
  pub counts_on : (k count : ℕ) (d : PdlEntry) (found : Bool) → k < length entries → CountsUpTo shape entries zone k count × (count ≤ k) → found ≡ is_inside shape (get_or entries k d).block zone → found ≡ true
      → CountsUpTo shape entries zone (k + 1) (count + 1) × (count + 1 ≤ k + 1)
  counts_on k count d found within (so_far, low) is yes_it = (one_more k count d found within so_far is yes_it, omega (arith, low))

  pub counts_still : (k count : ℕ) (d : PdlEntry) (found : Bool) → k < length entries → CountsUpTo shape entries zone k count × (count ≤ k) → found ≡ is_inside shape (get_or entries k d).block zone → found ≡ false
      → CountsUpTo shape entries zone (k + 1) count × (count ≤ k + 1)
  counts_still k count d found within (so_far, low) is not_it = (none_more k count d found within so_far is not_it, omega (arith, low))

-- zones that have few, one after another
pub all_few : (many : ℕ → ℕ) (most zones n : ℕ) → n ≡ zones → ((z : ℕ) → z < n → many z ≤ most) → (z : ℕ) → z < zones → many z ≤ most
all_few many most zones n same few z within = few z (omega (arith, same, within))

pub one_more_few : (many : ℕ → ℕ) (most n count : ℕ) → ((z : ℕ) → z < n → many z ≤ most) → count ≡ many n → count ≤ most → (z : ℕ) → z < n + 1 → many z ≤ most
one_more_few many most n count few is low z within = elim (cases_eq z n) [
  | inl last ↦ subst (λ (w : ℕ). many w ≤ most) (sym last) (omega (arith, is, low))
  | inr earlier ↦ few z (omega (arith, within, earlier))
]

-- ---- by the kind of the layout

pub slip_tells : (shape : Shape) (entries : List PdlEntry) (psa : ℕ) → shape.layout ≡ OneGroup → psa ≡ shape.psa → (IsTrue (leb (length entries) psa) → SlipsFew shape (pdl_blocks entries)) × (SlipsFew shape (pdl_blocks entries) → IsTrue (leb (length entries) psa))
slip_tells shape entries psa is psa_is = (
  λ t. slips_few_from shape is (pdl_blocks entries) (let few = leb-true (length entries) psa t in omega (arith, few, psa_is, length-map entries block_of)),
  λ few. le-leb (length entries) psa (let h = slips_few shape is (pdl_blocks entries) few in omega (arith, h, psa_is, length-map entries block_of)),
)

pub zones_tell : (shape : Shape) (entries : List PdlEntry) (psa : ℕ) (found : Bool) → shape.layout ≡ EachZone → psa ≡ shape.psa
    → (IsTrue found → (zone : ℕ) → zone < shape.zones → slipped_in shape (pdl_blocks entries) zone ≤ psa) × (((zone : ℕ) → zone < shape.zones → slipped_in shape (pdl_blocks entries) zone ≤ psa) → IsTrue found)
    → (IsTrue found → SlipsFew shape (pdl_blocks entries)) × (SlipsFew shape (pdl_blocks entries) → IsTrue found)
zones_tell shape entries psa found is psa_is tells = (
  λ t. zones_few_from shape is (pdl_blocks entries) (λ zone within. let few = tells.0 t zone within in omega (arith, few, psa_is)),
  λ few. tells.1 (λ zone within. let h = zones_few shape is (pdl_blocks entries) few zone within in omega (arith, h, psa_is)),
)
