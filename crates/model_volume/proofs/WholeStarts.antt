-- A start of whole pairs has no more than sixteen: one for each area of the structure and each of the secondary list.
use Rattle.std.specs.Prelude.{◌≡◌, ℕ, zero, suc, ◌+◌, ◌-◌, ◌*◌, ◌<◌, ◌≤◌, eqb, List, [], ◌∷◌, map, length}
use Rattle.std.specs.List.{Contains, IsDistinct}
use Rattle.std.proofs.Common.{sym, ◌∙◌, subst, arith}
use Rattle.std.proofs.lemmas.List.{length-map}
use Rattle.std.proofs.lemmas.Map.Keys.{IsDistinct-cons}
use Rattle.std.proofs.lemmas.Map.Steps.{length-le_from_distinct_below}
use Rattle.model_geometry.specs.Geometry.{Shape}
use Rattle.model_medium.specs.Cells.{Cell}
use Rattle.model_sectors.specs.Discs.{Standing}
use Rattle.model_pools.proofs.Entries.{differs_from_all}
use Rattle.model_pools.proofs.Replacements.{Contains-first, Contains-later}
use Rattle.model_pools.proofs.Listed.{Decides-is_listed, is_member_is}
use Rattle.model_volume.specs.Given.{IsWholePair}
use Rattle.model_volume.specs.Starts.{Found, IsFound, Precedes, InOrder, IsDiscStart}
use Rattle.model_volume.proofs.Order.{never_before, SameAreas}
use Rattle.model_volume.proofs.Starting.{one_found}

-- the number of a pair by its areas
key : Found → ℕ
key f = 4 * (f.dds_area - 1) + (f.first_area - 1)

key_of : (fs : List Found) (q : ℕ) → Contains (map key fs) q → (f : Found) × Contains fs f × (q ≡ key f)
key_of [] q (k, within, is) = absurd (omega (arith, within))
key_of (f ∷ fs) q (zero, within, is) = (f, Contains-first f fs, sym is)
key_of (f ∷ fs) q (suc k, within, is) =
    let rest = key_of fs q (k, omega (arith, within), is) in
    (rest.0, Contains-later f fs rest.0 rest.1, rest.2)

module _ (shape : Shape) (cells : List Cell) where
  key_small : (f : Found) → IsFound shape cells f → key f < 16
  unfolding key
  key_small f is = (let a = is.dds_copy.is_area in let b = is.sdl_parts.is_area in omega (arith, a, b))

  same_areas : (f g : Found) → IsFound shape cells f → IsFound shape cells g → f.first_area ≡ f.second_area → g.first_area ≡ g.second_area → key f ≡ key g → SameAreas f g
  unfolding key
  same_areas f g is_f is_g one_f one_g same =
      let a = is_f.dds_copy.is_area in
      let b = is_f.sdl_parts.is_area in
      let c = is_g.dds_copy.is_area in
      let d = is_g.sdl_parts.is_area in
      (omega (arith, a, b, c, d, same), (omega (arith, a, b, c, d, same), omega (arith, a, b, c, d, same, one_f, one_g)))

  distinct : (fs : List Found) → InOrder fs → ((f : Found) → Contains fs f → IsFound shape cells f) → ((f : Found) → Contains fs f → f.first_area ≡ f.second_area) → IsDistinct eqb (map key fs)
  unfolding IsDistinct
  distinct [] order found one = tt
  distinct (f ∷ fs) order found one = IsDistinct-cons eqb (key f) (map key fs)
      (differs_from_all (key f) (map key fs) (λ has.
      let g = key_of fs (key f) has in
      let later = Contains-later f fs g.0 g.1 in
      let same = one_found shape cells f g.0 (found f (Contains-first f fs)) (found g.0 later)
      (same_areas f g.0 (found f (Contains-first f fs)) (found g.0 later) (one f (Contains-first f fs)) (one g.0 later) g.2) in
      never_before f (subst (Precedes f) (sym same) (order.0 g.0 g.1))))
      (distinct fs order.1 (λ g has. found g (Contains-later f fs g has)) (λ g has. one g (Contains-later f fs g has)))

  pub few_whole : (all : List Found) (s : Standing) → IsDiscStart shape cells all s → ((f : Found) → Contains all f → IsWholePair shape cells f.lists) → length all ≤ 16
  few_whole all s start whole =
      let one : (f : Found) → Contains all f → f.first_area ≡ f.second_area = λ f has. (let pair = whole f has in ((start.each f has).whole_lowest pair.sdl_area pair.sdl_copy).0) in
      let few = length-le_from_distinct_below (map key all) 16 (distinct all start.order start.each one)
      (λ q h.
      let f = key_of all q ((Decides-is_listed (map key all) q).0 (sym (is_member_is (map key all) q) ∙ h)) in
      let small = key_small f.0 (start.each f.0 f.1) in
      omega (arith, small, f.2)) in
      omega (arith, few, length-map all key)
