-- That each replacement is a spare of its block's own pool: from the entries one by one, and back.
use Rattle.std.proofs.Common.{◌≡◌, ℕ, zero, suc, ◌<◌, eqb, List, [], ◌∷◌, length, get_or, Option, Some, None, IsNone, IfSome, IsTrue, refl, sym, ap, ◌∙◌, subst, ⊎_elim, arith}
use Rattle.std.specs.List.{All, AllPairs, Contains}
use Rattle.std.proofs.lemmas.Bool.{cases_Bool, eqb-true, eq-eqb, ne_eqb}
use Rattle.std.proofs.lemmas.List.{length-map, get_or-map, get_or_default}
use Rattle.std.proofs.lemmas.List.Elements.{Contains-append_cases}
use Rattle.std.proofs.lemmas.List.Kept.{AllPairs-from_increasing}
use Rattle.model_geometry.specs.Geometry.{Shape}
use Rattle.model_lists.specs.declared.sdl.SdlEntry.{SdlEntry}
use Rattle.model_lists.specs.Values.{defectives}
use Rattle.model_pools.specs.Listed.{is_listed, replacement_of}
use Rattle.model_pools.specs.Pools.{all_in}
use Rattle.model_pools.proofs.Listed.{All-listed, Decides-is_listed}
use Rattle.model_pools.proofs.Replacements.{replacement_of_here, replacement_of_later}
use Rattle.model_places.specs.Places.{Lists, logical_count, pools_under, logical_block, logical_blocks, spares, spares_of}
use Rattle.model_places.specs.Valid.{IsValidPdl, IsValidSsa, IsValidSdl}
use Rattle.model_places.proofs.Layouts.{length-logical_in}
use Rattle.ram_slip.specs.Roles.{SharesPool}
use Rattle.ram_slip.proofs.SharedPools.{shares_own, own_shares}

-- what holds of the replacement in each entry of a block holds of what replaces it
replacing : (P : ℕ → Type 0) (entries : List SdlEntry) (b r : ℕ) → All (λ (e : SdlEntry). e.defective ≡ b → IfSome e.replacement P) entries → replacement_of entries b ≡ Some r → P r
replacing P [] b r all is = absurd cc
replacing P (e ∷ es) b r all is =
    ⊎_elim
    (λ t. subst (λ (o : Option ℕ). IfSome o P) (sym (replacement_of_here e es b t) ∙ is) (all 0 e (omega arith) (eqb-true e.defective b t)))
    (λ f. replacing P es b r (λ k d below. all (suc k) d (omega (arith, below))) (sym (replacement_of_later e es b f) ∙ is))
    (cases_Bool (eqb e.defective b))

-- where the defective blocks rise, each entry is the one of its block
replaced_at : (entries : List SdlEntry) → AllPairs (λ x y. x < y) (defectives entries) → (k : ℕ) (d : SdlEntry) → k < length entries → replacement_of entries (get_or entries k d).defective ≡ (get_or entries k d).replacement
replaced_at [] rise k d below = absurd (omega (arith, below))
replaced_at (e ∷ es) rise zero d below = replacement_of_here e es e.defective (eq-eqb e.defective e.defective refl)
replaced_at (e ∷ es) rise (suc k) d below =
    let less = rise 0 (suc k) 0 (omega arith) (omega (arith, below, length-map es (λ (f : SdlEntry). f.defective))) in
    let at = get_or-map (λ (f : SdlEntry). f.defective) es k d 0 (omega (arith, below)) in
    replacement_of_later e es (get_or es k d).defective (ne_eqb e.defective (get_or es k d).defective (λ same. omega (arith, less, at, same)))
    ∙ replaced_at es (λ i j n l u. rise (suc i) (suc j) n (omega (arith, l)) (omega (arith, u))) k d (omega (arith, below))

module _ (shape : Shape) (lists : Lists) (primary : IsValidPdl shape lists.dds) (area : IsValidSsa shape lists.sdl.version lists.sdl.ssa) where
  inside_count : (i : ℕ) → i < length (logical_blocks shape lists) → i < logical_count shape lists
  inside_count i inside = let long = length-logical_in shape lists.dds lists.sdl.ssa primary area in omega (arith, inside, long)

  pub from_own : All (λ (e : SdlEntry). IfSome e.replacement (Contains (spares shape lists))) lists.sdl.entries → All (λ (e : SdlEntry). IfSome e.replacement (SharesPool shape e.defective)) lists.sdl.entries
      → (i spare : ℕ) → i < length (logical_blocks shape lists) → replacement_of lists.sdl.entries (logical_block shape lists i) ≡ Some spare → IsTrue (is_listed (spares_of shape lists i) spare)
  from_own among own i spare inside is =
      let b = logical_block shape lists i in
      let has = replacing (Contains (spares shape lists)) lists.sdl.entries b spare (λ k d below _. among k d below) is in
      let shares = replacing (SharesPool shape b) lists.sdl.entries b spare (λ k d below same. subst (λ (x : ℕ). IfSome (get_or lists.sdl.entries k d).replacement (SharesPool shape x)) same (own k d below)) is in
      (Decides-is_listed (spares_of shape lists i) spare).1 (own_shares shape lists.dds lists.sdl.ssa primary area i spare (inside_count i inside) has shares)

  -- the entry at a place has a replacement of its own pool, or none
  at_place : (v : IsValidSdl shape lists) (k : ℕ) (d : SdlEntry) → k < length lists.sdl.entries → (o : Option ℕ) → (get_or lists.sdl.entries k d).replacement ≡ o → IfSome o (SharesPool shape (get_or lists.sdl.entries k d).defective)
  at_place v k d below None has = tt
  at_place v k d below (Some spare) has =
      let entries = lists.sdl.entries in
      let b = (get_or entries k d).defective in
      let within = subst (Contains (all_in (pools_under shape lists))) (get_or-map (λ (e : SdlEntry). e.defective) entries k d 0 below)
      (All-listed (all_in (pools_under shape lists)) (defectives entries) v.entries.within k 0 (omega (arith, below, length-map entries (λ (e : SdlEntry). e.defective)))) in
      let replaced : replacement_of entries b ≡ Some spare = replaced_at entries (AllPairs-from_increasing (defectives entries) v.entries.rising) k d below ∙ has in
      ⊎_elim
      (λ logical. (let i = logical.0 in
      let inside : i < length (logical_blocks shape lists) = logical.1 in
      let same : logical_block shape lists i ≡ b = get_or_default (logical_blocks shape lists) i 0 b inside ∙ logical.2 in
      let listed = v.entries.from_own_pool i spare inside (ap (replacement_of entries) same ∙ replaced) in
      subst (λ (x : ℕ). SharesPool shape x spare) same
      (shares_own shape lists.dds lists.sdl.ssa primary area i spare (inside_count i inside) ((Decides-is_listed (spares_of shape lists i) spare).0 listed))))
      (λ retired. absurd (let none : IsNone (Some spare) = subst IsNone has (v.entries.spares_retired k d below retired) in cc))
      (Contains-append_cases (logical_blocks shape lists) (spares shape lists) b within)

  pub own_each : IsValidSdl shape lists → All (λ (e : SdlEntry). IfSome e.replacement (SharesPool shape e.defective)) lists.sdl.entries
  own_each v k d below = at_place v k d below (get_or lists.sdl.entries k d).replacement refl
