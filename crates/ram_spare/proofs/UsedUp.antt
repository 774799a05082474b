-- How many spares are free: those of an area less those that the entries use up.
use Rattle.std.proofs.Common.{◌≡◌, ℕ, zero, suc, ◌+◌, ◌-◌, ◌<◌, ◌≤◌, ◌⊎◌, inl, inr, ⊎_elim, Bool, true, false, not, ◌&&◌, cond, eqb, List, [], ◌∷◌, map, length, get_or, take, drop, take_all, Option, Some, None, IsNone, unwrap_or, count_by, refl, sym, ap, ◌∙◌, subst, arith}
use Rattle.std.specs.List.{All, Contains, IsDistinct, filter, cons_option}
use Rattle.std.specs.List.Sorted.{IsStrictlyIncreasing}
use Rattle.std.proofs.lemmas.Bool.{cases_Bool, cond-true, cond-false, true≢false, false_from_ne_true}
use Rattle.std.proofs.lemmas.Cmp.{nat_eq_equiv}
use Rattle.std.proofs.lemmas.List.{length-map, get_or-map, get_or-take, get_or-drop, length-take, length-drop}
use Rattle.std.proofs.lemmas.List.Elements.{All-contains}
use Rattle.std.proofs.lemmas.List.Filters.{length-filter_both}
use Rattle.std.proofs.lemmas.List.Sums.{length-filter, sum_by-cons, sum_by-take-le, count_by_more_yes, count_by_more_no}
use Rattle.std.proofs.lemmas.Map.Keys.{IsDistinct-cons, IsDistinct-tail}
use Rattle.std.proofs.lemmas.Bool.Decides.{Decides-eqb}
use Rattle.std.proofs.lemmas.Map.Made.{IsDistinct-from_AllPairs, length-from_same_keys}
use Rattle.std.proofs.lemmas.Option.{slice_get-get_or}
use Rattle.model_geometry.specs.declared.kinds.LayoutKind.{LayoutKind}
use Rattle.model_geometry.specs.declared.kinds.LayoutKind.TheVariants.{OneGroup, EachZone}
use Rattle.model_geometry.specs.Geometry.{Shape}
use Rattle.model_lists.specs.declared.sdl.SdlEntry.{SdlEntry}
use Rattle.model_lists.specs.Values.{defectives}
use Rattle.model_pools.specs.Listed.{is_listed, replacements}
use Rattle.model_places.specs.Places.{Lists, unreplaced, is_free, unslipped, primary_count, primary_spares, primary_by_kind, supplementary_spares, supplementary_by_kind, spares, free_primary_count, free_supplementary_count}
use Rattle.model_lists.specs.declared.versions.Version.{Version}
use Rattle.model_places.specs.Valid.{IsValidPdl, IsValidSsa, IsValidSdl, AreValid}
use Rattle.model_pools.proofs.Listed.{Decides-is_listed, is_listed-filter, is_member_is, Contains-from_filter, IsDistinct-from_increasing}
use Rattle.model_pools.proofs.Replacements.{Contains-later, Contains-cons_option, Contains-cons_option_first, first_is_alone, replacement_cases}
use Rattle.model_pools.proofs.Entries.{used, used_differ, differs_from_all}
use Rattle.model_pools.proofs.Free.{free_from_unnamed, unnamed_from_free}
use Rattle.model_places.proofs.ByKind.{cases_kind, zone_area}
use Rattle.model_places.proofs.Layouts.{pools_are_lawful}
use Rattle.model_places.proofs.Pools.{unslipped_rise, slips_are_all}
use Rattle.ram_slip.specs.declared.role.Role.{Role}
use Rattle.ram_slip.specs.declared.role.Role.TheVariants as roles
use Rattle.ram_slip.specs.Roles.{HasRole, primary_in, supplementary_in}
use Rattle.ram_slip.proofs.OneRole.{one_role}
use Rattle.ram_slip.proofs.SpareAreas.{primary_one, primary_pools, supplementary_one, supplementary_zones, from_primary, from_supplementary}

-- ---- the spares of each area, by the kind of the layout

primary_any : (kind : LayoutKind) (shape : Shape) (lists : Lists) → primary_by_kind kind shape (unreplaced lists.dds 0) ≡ primary_by_kind kind shape lists
primary_any OneGroup shape lists = refl
primary_any EachZone shape lists = refl

supplementary_any : (kind : LayoutKind) (shape : Shape) (lists : Lists) → supplementary_by_kind kind shape (unreplaced lists.dds lists.sdl.ssa) ≡ supplementary_by_kind kind shape lists
supplementary_any OneGroup shape lists = refl
supplementary_any EachZone shape lists = refl

free_primary_in : (shape : Shape) (lists : Lists) → free_primary_count shape lists ≡ count_by (is_free lists) (primary_in shape lists.dds)
unfolding free_primary_count
free_primary_in shape lists = ap (count_by (is_free lists)) (sym (primary_any shape.layout shape lists))

free_supplementary_in : (shape : Shape) (lists : Lists) → free_supplementary_count shape lists ≡ count_by (is_free lists) (supplementary_in shape lists.dds lists.sdl.ssa)
unfolding free_supplementary_count
free_supplementary_in shape lists = ap (count_by (is_free lists)) (sym (supplementary_any shape.layout shape lists))

supplementary_many : (shape : Shape) (lists : Lists) (valid : IsValidPdl shape lists.dds) {version : Version} (area : IsValidSsa shape version lists.sdl.ssa) → length (supplementary_in shape lists.dds lists.sdl.ssa) ≡ lists.sdl.ssa
supplementary_many shape lists valid area = elim (cases_kind shape.layout) [
  | inl is ↦ (let all = slips_are_all shape is lists.dds lists.sdl.ssa valid area in
      omega (arith, ap length (supplementary_one shape lists.dds lists.sdl.ssa is), length-drop (length (unslipped shape lists.dds) - lists.sdl.ssa) (unslipped shape lists.dds), all))
  | inr is ↦ (let none = (zone_area shape is lists.sdl.ssa area.of_kind).none in
      omega (arith, ap length (supplementary_zones shape lists.dds lists.sdl.ssa is), none))
]

-- ---- numbers that differ

pub IsDistinct-filter : (p : ℕ → Bool) (xs : List ℕ) → IsDistinct eqb xs → IsDistinct eqb (filter p xs)
IsDistinct-filter p [] apart = apart
IsDistinct-filter p (x ∷ xs) apart =
    let others = IsDistinct-filter p xs (IsDistinct-tail eqb x xs apart) in
    ⊎_elim
    (λ t. subst (IsDistinct eqb) (sym (cond-true (p x) (x ∷ filter p xs) (filter p xs) t))
    (IsDistinct-cons eqb x (filter p xs) (differs_from_all x (filter p xs) (λ has. first_is_alone x xs apart (Contains-from_filter p xs x has).1)) others))
    (λ f. subst (IsDistinct eqb) (sym (cond-false (p x) (x ∷ filter p xs) (filter p xs) f)) others)
    (cases_Bool (p x))

pub rising_front : (n : ℕ) (xs : List ℕ) → IsStrictlyIncreasing xs → IsStrictlyIncreasing (take n xs)
rising_front n xs rise k within =
    let long = length-take n xs in
    let up = rise k (omega (arith, within, long)) in
    omega (arith, up, get_or-take n xs k 0 (omega (arith, within, long)), get_or-take n xs (k + 1) 0 (omega (arith, within, long)))

pub rising_rest : (n : ℕ) (xs : List ℕ) → IsStrictlyIncreasing xs → IsStrictlyIncreasing (drop n xs)
rising_rest n xs rise k within =
    let long = length-drop n xs in
    let next : n + (k + 1) ≡ n + k + 1 = omega arith in
    let up = rise (n + k) (omega (arith, within, long)) in
    omega (arith, up, get_or-drop n xs k 0, get_or-drop n xs (k + 1) 0, ap (λ m. get_or xs m 0) next)

-- ---- what entries name, and what they use up

-- what an entry uses up is named
used_named : (entries : List SdlEntry) (x : ℕ) → Contains (map used entries) x → Contains (replacements entries) x ⊎ Contains (defectives entries) x
used_named [] x (k, within, is) = absurd (omega arith)
used_named (e ∷ es) x (zero, within, is) =
    ⊎_elim
    (λ some.
    let same : used e ≡ some.0 = ap (λ o. unwrap_or o e.defective) some.1 in
    inl (Contains-cons_option_first e.replacement (replacements es) x (some.1 ∙ ap Some (sym same ∙ is))))
    (λ none.
    let same : used e ≡ e.defective = ap (λ o. unwrap_or o e.defective) none in
    inr (0, omega arith, sym same ∙ is))
    (replacement_cases e.replacement)
used_named (e ∷ es) x (suc k, within, is) =
    ⊎_elim
    (λ l. inl (Contains-cons_option e.replacement (replacements es) x l))
    (λ r. inr (Contains-later e.defective (defectives es) x r))
    (used_named es x (k, omega arith, is))

-- a replacement is used up
in_cons_option : (o : Option ℕ) (xs : List ℕ) (x : ℕ) → Contains (cons_option o xs) x → (o ≡ Some x) ⊎ Contains xs x
in_cons_option None xs x has = inr has
in_cons_option (Some y) xs x (zero, within, is) = inl (ap Some is)
in_cons_option (Some y) xs x (suc k, within, is) = inr (k, omega arith, is)

replacement_used : (entries : List SdlEntry) (x : ℕ) → Contains (replacements entries) x → Contains (map used entries) x
replacement_used [] x (k, within, is) = absurd (omega arith)
replacement_used (e ∷ es) x has =
    ⊎_elim
    (λ here. (0, omega arith, ap (λ o. unwrap_or o e.defective) here))
    (λ later. Contains-later (used e) (map used es) x (replacement_used es x later))
    (in_cons_option e.replacement (replacements es) x has)

-- and so is the block of an entry without one
retired_used : (entries : List SdlEntry) (x : ℕ) → All (λ (e : SdlEntry). e.defective ≡ x → IsNone e.replacement) entries → Contains (defectives entries) x → Contains (map used entries) x
retired_used entries x alone (k, within, is) =
    let d : SdlEntry = record { defective = x; replacement = None } in
    let e : SdlEntry = get_or entries k d in
    let below : k < length entries = omega (arith, within, length-map entries (λ (f : SdlEntry). f.defective)) in
    let block : e.defective ≡ x = sym (get_or-map (λ (f : SdlEntry). f.defective) entries k d x below) ∙ is in
    let none : IsNone e.replacement = alone k d below block in
    let same : used e ≡ e.defective = by_none e.replacement e.defective none in
    (k, omega (arith, below, length-map entries used), get_or-map used entries k d x below ∙ same ∙ block)
  where
    by_none : (o : Option ℕ) (b : ℕ) → IsNone o → unwrap_or o b ≡ b
    by_none None b none = refl
    by_none (Some r) b none = absurd (let f = none in cc)

both_ways : (a b : Bool) → (a && b) ≡ (b && a)
both_ways true true = refl
both_ways true false = refl
both_ways false true = refl
both_ways false false = refl

module _ (shape : Shape) (lists : Lists) (valid : IsValidSdl shape lists) where
  -- A spare is not free just where an entry uses it up.
  named_is_used : (q : ℕ) → Contains (spares shape lists) q → not (is_free lists q) ≡ is_listed (map used lists.sdl.entries) q
  named_is_used q spare =
      ⊎_elim
      (λ t. ⊎_elim
      (λ u. let parts = unnamed_from_free lists.sdl.entries q t in absurd (⊎_elim parts.1 parts.0 (used_named lists.sdl.entries q ((Decides-is_listed (map used lists.sdl.entries) q).0 u))))
      (λ n. ap not t ∙ sym n)
      (cases_Bool (is_listed (map used lists.sdl.entries) q)))
      (λ f. ⊎_elim
      (λ u. ap not f ∙ sym u)
      (λ n. absurd (true≢false (sym (free_from_unnamed lists.sdl.entries q
      (λ d. true≢false (sym ((Decides-is_listed (map used lists.sdl.entries) q).1 (retired_used lists.sdl.entries q (λ k e below is. valid.entries.spares_retired k e below (subst (Contains (spares shape lists)) (sym is) spare)) d)) ∙ n))
      (λ r. true≢false (sym ((Decides-is_listed (map used lists.sdl.entries) q).1 (replacement_used lists.sdl.entries q r)) ∙ n))) ∙ f)))
      (cases_Bool (is_listed (map used lists.sdl.entries) q)))
      (cases_Bool (is_free lists q))

  used_apart : IsDistinct eqb (map used lists.sdl.entries)
  used_apart =
      used_differ lists.sdl.entries valid.entries.different (IsDistinct-from_increasing (defectives lists.sdl.entries) valid.entries.rising)
      (λ x h. All-contains (λ b. ¬ Contains (defectives lists.sdl.entries) b) (replacements lists.sdl.entries) x valid.entries.sound h)

  -- The free ones of an area, and the entries that use one up, are as many as the area has.
  pub area_is : (some : List ℕ) → IsDistinct eqb some → ((q : ℕ) → Contains some q → Contains (spares shape lists) q)
      → count_by (is_free lists) some + count_by (λ e. is_listed some (used e)) lists.sdl.entries ≡ length some
  area_is some apart within =
      let named : ℕ → Bool = λ b. not (is_free lists b) in
      let uses = map used lists.sdl.entries in
      let same : length (filter named some) ≡ length (filter (is_listed some) uses) =
      length-from_same_keys nat_eq_equiv (filter named some) (filter (is_listed some) uses) (IsDistinct-filter named some apart) (IsDistinct-filter (is_listed some) uses used_apart)
      (λ q. is_member_is (filter named some) q ∙ is_listed-filter named some q ∙ both q ∙ sym (is_listed-filter (is_listed some) uses q) ∙ sym (is_member_is (filter (is_listed some) uses) q)) in
      omega (
        arith,
        same,
        length-filter_both (is_free lists) named (λ _. refl) some,
        length-filter (is_free lists) some,
        length-filter (is_listed some) uses,
        count_by-map (is_listed some) lists.sdl.entries,
      )
    where
      count_by-map : (p : ℕ → Bool) (es : List SdlEntry) → count_by p (map used es) ≡ count_by (λ e. p (used e)) es
      count_by-map p [] = refl
      count_by-map p (e ∷ es) =
          sum_by-cons (λ (x : ℕ). cond (p x) 1 0) (used e) (map used es)
          ∙ ap (λ n. cond (p (used e)) 1 0 + n) (count_by-map p es)
          ∙ sym (sum_by-cons (λ (f : SdlEntry). cond (p (used f)) 1 0) e es)

      both : (q : ℕ) → (not (is_free lists q) && is_listed some q) ≡ (is_listed some q && is_listed (map used lists.sdl.entries) q)
      both q =
          ⊎_elim
          (λ t. ap (λ b. b && is_listed some q) (named_is_used q (within q ((Decides-is_listed some q).0 t))) ∙ both_ways (is_listed (map used lists.sdl.entries) q) (is_listed some q))
          (λ f. both_ways (not (is_free lists q)) (is_listed some q) ∙ ap (λ b. b && not (is_free lists q)) f ∙ ap (λ b. b && is_listed (map used lists.sdl.entries) q) (sym f))
          (cases_Bool (is_listed some q))

-- ---- one pass over the entries

-- how many of these entries use up a spare of the area
abbrev pub uses : List ℕ → List SdlEntry → ℕ
uses some entries = count_by (λ (e : SdlEntry). is_listed some (used e)) entries

-- So many spares of each area are left by the first k entries.
pub record AreLeft (shape : Shape) (lists : Lists) (k primary supplementary : ℕ) : Type 0 where
  pub primary_are : primary + uses (primary_in shape lists.dds) (take k lists.sdl.entries) ≡ length (primary_in shape lists.dds)
  pub supplementary_are : supplementary + uses (supplementary_in shape lists.dds lists.sdl.ssa) (take k lists.sdl.entries) ≡ length (supplementary_in shape lists.dds lists.sdl.ssa)

-- what one more entry leaves, by what the spare is that it uses up
abbrev pub LeavesAt : Shape → Lists → ℕ → ℕ → ℕ → Role → Type 0
LeavesAt shape lists k primary supplementary roles.Primary = (1 ≤ primary) × AreLeft shape lists k (primary - 1) supplementary
LeavesAt shape lists k primary supplementary roles.Supplementary = (1 ≤ supplementary) × AreLeft shape lists k primary (supplementary - 1)
LeavesAt shape lists k primary supplementary (roles.Logical i) = AreLeft shape lists k primary supplementary
LeavesAt shape lists k primary supplementary roles.Slipped = AreLeft shape lists k primary supplementary
LeavesAt shape lists k primary supplementary roles.Outside = AreLeft shape lists k primary supplementary

module _ (some : List ℕ) (entries : List SdlEntry) (k left x : ℕ) (d : SdlEntry) (below : k < length entries) (is : x ≡ used (get_or entries k d)) (before : left + uses some (take k entries) ≡ length some) where
  test_is : is_listed some (used (get_or entries k d)) ≡ is_listed some x
  test_is = ap (is_listed some) (sym is)

  one_less : uses some entries ≤ length some → Contains some x → (1 ≤ left) × (left - 1 + uses some (take (k + 1) entries) ≡ length some)
  one_less few has =
      let more = count_by_more_yes (λ (e : SdlEntry). is_listed some (used e)) entries k d below (test_is ∙ (Decides-is_listed some x).1 has) in
      let within = sum_by-take-le (λ (e : SdlEntry). cond (is_listed some (used e)) 1 0) entries (k + 1) in
      let least : 1 ≤ left = omega (arith, before, more, within, few) in
      (least, omega (arith, before, more, least))

  as_many : ¬ Contains some x → left + uses some (take (k + 1) entries) ≡ length some
  as_many none =
      let same = count_by_more_no (λ (e : SdlEntry). is_listed some (used e)) entries k d below (test_is ∙ false_from_ne_true (is_listed some x) (λ t. none ((Decides-is_listed some x).0 t))) in
      omega (arith, before, same)

module _ (shape : Shape) (lists : Lists) (valid : AreValid shape lists) where
  spares_apart : IsDistinct eqb (spares shape lists)
  spares_apart =
      let lawful = pools_are_lawful shape lists.dds lists.sdl.ssa valid.primary valid.together.secondary.area in
      IsDistinct-from_AllPairs Decides-eqb (spares shape lists)
      (λ i j d less inside same. let once = lawful.spares i j (get_or (spares shape lists) j d) (slice_get-get_or (spares shape lists) i d (omega (arith, less, inside)) ∙ ap Some same) (slice_get-get_or (spares shape lists) j d inside) in
      omega (arith, once, less))

  primary_apart : IsDistinct eqb (primary_in shape lists.dds)
  primary_apart = elim (cases_kind shape.layout) [
    | inl is ↦ subst (IsDistinct eqb) (sym (primary_one shape lists.dds is))
        (IsDistinct-from_increasing (primary_spares shape lists.dds) (rising_front (primary_count shape lists.dds) (unslipped shape lists.dds) (unslipped_rise shape lists.dds)))
    | inr is ↦ subst (IsDistinct eqb) (sym (primary_pools shape lists.dds lists.sdl.ssa is)) spares_apart
  ]

  supplementary_apart : IsDistinct eqb (supplementary_in shape lists.dds lists.sdl.ssa)
  supplementary_apart = elim (cases_kind shape.layout) [
    | inl is ↦ subst (IsDistinct eqb) (sym (supplementary_one shape lists.dds lists.sdl.ssa is))
        (IsDistinct-from_increasing (supplementary_spares shape lists.dds lists.sdl.ssa) (rising_rest (length (unslipped shape lists.dds) - lists.sdl.ssa) (unslipped shape lists.dds) (unslipped_rise shape lists.dds)))
    | inr is ↦ subst (IsDistinct eqb) (sym (supplementary_zones shape lists.dds lists.sdl.ssa is)) (IsDistinct-from_AllPairs Decides-eqb [] (λ i j d less inside. absurd (omega (arith, inside))))
  ]

  primary_area : count_by (is_free lists) (primary_in shape lists.dds) + uses (primary_in shape lists.dds) lists.sdl.entries ≡ length (primary_in shape lists.dds)
  primary_area = area_is shape lists valid.together.secondary (primary_in shape lists.dds) primary_apart (from_primary shape lists.dds lists.sdl.ssa)

  supplementary_area : count_by (is_free lists) (supplementary_in shape lists.dds lists.sdl.ssa) + uses (supplementary_in shape lists.dds lists.sdl.ssa) lists.sdl.entries ≡ length (supplementary_in shape lists.dds lists.sdl.ssa)
  supplementary_area = area_is shape lists valid.together.secondary (supplementary_in shape lists.dds lists.sdl.ssa) supplementary_apart (from_supplementary shape lists.dds lists.sdl.ssa)

  -- before the first entry
  pub left_first : (primary : ℕ) → primary ≡ length (primary_in shape lists.dds) → AreLeft shape lists 0 primary lists.sdl.ssa
  left_first primary is = record {
    primary_are = omega (arith, is);
    supplementary_are = omega (arith, supplementary_many shape lists valid.primary valid.together.secondary.area);
  }

  -- after all of them
  pub left_last : (k primary supplementary : ℕ) → length lists.sdl.entries ≤ k → AreLeft shape lists k primary supplementary
      → (primary ≡ free_primary_count shape lists) × (supplementary ≡ free_supplementary_count shape lists)
  left_last k primary supplementary past left =
      let all = take_all k lists.sdl.entries past in (
        omega (arith, primary_area, free_primary_in shape lists, left.primary_are, ap (uses (primary_in shape lists.dds)) all),
        omega (arith, supplementary_area, free_supplementary_in shape lists, left.supplementary_are, ap (uses (supplementary_in shape lists.dds lists.sdl.ssa)) all),
      )

  module _ (k primary supplementary x : ℕ) (d : SdlEntry) (below : k < length lists.sdl.entries) (is : x ≡ used (get_or lists.sdl.entries k d)) (before : AreLeft shape lists k primary supplementary) where
    not_first : (role : Role) → HasRole shape lists.dds lists.sdl.ssa x role → (role ≡ roles.Primary → ⊥) → primary + uses (primary_in shape lists.dds) (take (k + 1) lists.sdl.entries) ≡ length (primary_in shape lists.dds)
    not_first role at other =
        as_many (primary_in shape lists.dds) lists.sdl.entries k primary x d below is before.primary_are
        (λ has. other (one_role shape lists.dds lists.sdl.ssa x valid.primary valid.together.secondary.area role roles.Primary at has))

    not_last : (role : Role) → HasRole shape lists.dds lists.sdl.ssa x role → (role ≡ roles.Supplementary → ⊥) → supplementary + uses (supplementary_in shape lists.dds lists.sdl.ssa) (take (k + 1) lists.sdl.entries) ≡ length (supplementary_in shape lists.dds lists.sdl.ssa)
    not_last role at other =
        as_many (supplementary_in shape lists.dds lists.sdl.ssa) lists.sdl.entries k supplementary x d below is before.supplementary_are
        (λ has. other (one_role shape lists.dds lists.sdl.ssa x valid.primary valid.together.secondary.area role roles.Supplementary at has))

    -- one more entry
    pub left_more : (role : Role) → HasRole shape lists.dds lists.sdl.ssa x role → LeavesAt shape lists (k + 1) primary supplementary role
    left_more roles.Primary at =
        let less = one_less (primary_in shape lists.dds) lists.sdl.entries k primary x d below is before.primary_are (omega (arith, primary_area)) at in
        (less.0, record { primary_are = less.1; supplementary_are = not_last roles.Primary at (λ e. absurd cc) })
    left_more roles.Supplementary at =
        let less = one_less (supplementary_in shape lists.dds lists.sdl.ssa) lists.sdl.entries k supplementary x d below is before.supplementary_are (omega (arith, supplementary_area)) at in
        (less.0, record { primary_are = not_first roles.Supplementary at (λ e. absurd cc); supplementary_are = less.1 })
    left_more (roles.Logical i) at = record { primary_are = not_first (roles.Logical i) at (λ e. absurd cc); supplementary_are = not_last (roles.Logical i) at (λ e. absurd cc) }
    left_more roles.Slipped at = record { primary_are = not_first roles.Slipped at (λ e. absurd cc); supplementary_are = not_last roles.Slipped at (λ e. absurd cc) }
    left_more roles.Outside at = record { primary_are = not_first roles.Outside at (λ e. absurd cc); supplementary_are = not_last roles.Outside at (λ e. absurd cc) }
