-- An expansion leaves valid lists, and the first blocks of the disc.
use Rattle.std.proofs.Common.{◌≡◌, ℕ, zero, suc, ◌-◌, ◌*◌, ◌<◌, ◌≤◌, ◌+◌, ◌⊎◌, inl, inr, Option, Some, None, IsSome, IsNone, List, [], ◌∷◌, map, take, drop, refl, sym, ap, ◌∙◌, subst, arith, length-take}
use Rattle.std.specs.Prelude.{unwrap_or}
use Rattle.std.specs.List.{Contains}
use Rattle.std.specs.List.Sorted.{IsStrictlyIncreasing}
use Rattle.std.proofs.lemmas.Bool.{cases_Bool, cases_eq, cond-true, cond-false, true≢false, eq-eqb}
use Rattle.std.proofs.lemmas.List.{take-take, drop-take}
use Rattle.model_geometry.specs.Geometry.{Shape, dds_block}
use Rattle.model_lists.specs.declared.sdl.SdlEntry.{SdlEntry}
use Rattle.model_lists.specs.declared.versions.Version.{Version}
use Rattle.model_lists.specs.Values.{Dds, defectives, pair, retired}
use Rattle.model_lists.specs.Texts.{IsDdsText}
use Rattle.model_medium.specs.Cells.{Cell, cell_at}
use Rattle.model_copies.specs.Copies.{Settled}
use Rattle.model_copies.specs.Parts.{SdlIsBetween}
use Rattle.model_pools.specs.Listed.{is_listed, replacement_of}
use Rattle.model_pools.specs.Pools.{Pool, ArePools, logical_in, spares_in, all_in, block_in}
use Rattle.model_pools.proofs.Listed.{Decides-is_listed}
use Rattle.model_pools.proofs.LookUps.{replaces, here, later}
use Rattle.model_pools.proofs.Members.{ByMembers, by_members, from_members}
use Rattle.model_pools.proofs.Pooled.{logical_apart}
use Rattle.model_pools.proofs.Replacements.{Contains-first, Contains-later}
use Rattle.model_places.specs.Places.{Lists, pools_of, pools_under, count_of, logical_count, home_of}
use Rattle.model_places.specs.Valid.{IsValidPdl, IsValidSsa, AreValid}
use Rattle.model_places.proofs.Growing.{count_shrinks, spares_grow, block_stays, logical_shrinks, its_spares_grow, pooled_stays}
use Rattle.model_places.proofs.Layouts.{pools_are_lawful, length-logical_in}
use Rattle.model_sectors.specs.Discs.{Agrees, block_of}
use Rattle.model_volume.specs.Given.{OnlyLists}
use Rattle.model_volume.specs.Covers.{FitsUnder, Cover}
use Rattle.model_volume.specs.Expansions.{entry_expanded, lists_expanded, disc_cut}
use Rattle.model_volume.proofs.GivenFacts.{pair_between}
use Rattle.model_volume.proofs.ListCells.{fits_still}

module _ (shape : Shape) (dds : Dds) (small big : ℕ) (primary : IsValidPdl shape dds) (grows : small ≤ big) where
  abbrev before : List Pool
  before = pools_of shape dds small

  abbrev after : List Pool
  after = pools_of shape dds big

  -- ---- entries

  is_spare : (e : SdlEntry) → Contains (spares_in after) e.defective → entry_expanded shape dds big e ≡ retired e.defective
  is_spare e has = cond-true (is_listed (spares_in after) e.defective) (retired e.defective) e ((Decides-is_listed (spares_in after) e.defective).1 has)

  same_or_retired : (e : SdlEntry) → ((entry_expanded shape dds big e ≡ retired e.defective) × Contains (spares_in after) e.defective) ⊎ ((entry_expanded shape dds big e ≡ e) × ¬ Contains (spares_in after) e.defective)
  same_or_retired e = elim (cases_Bool (is_listed (spares_in after) e.defective)) [
    | inl listed ↦ inl (cond-true (is_listed (spares_in after) e.defective) (retired e.defective) e listed, (Decides-is_listed (spares_in after) e.defective).0 listed)
    | inr not ↦ inr (cond-false (is_listed (spares_in after) e.defective) (retired e.defective) e not, λ has. true≢false (sym ((Decides-is_listed (spares_in after) e.defective).1 has) ∙ not))
  ]

  same_block : (e : SdlEntry) → (entry_expanded shape dds big e).defective ≡ e.defective
  same_block e = elim (same_or_retired e) [ inl new ↦ ap (λ (x : SdlEntry). x.defective) new.0 | inr old ↦ ap (λ (x : SdlEntry). x.defective) old.0 ]

  same_blocks : (es : List SdlEntry) → defectives (map (entry_expanded shape dds big) es) ≡ defectives es
  same_blocks [] = refl
  same_blocks (e ∷ es) = ap (λ (b : ℕ). b ∷ defectives (map (entry_expanded shape dds big) es)) (same_block e) ∙ ap (λ (bs : List ℕ). e.defective ∷ bs) (same_blocks es)

  from_old : (es : List SdlEntry) (x : SdlEntry) → Contains (map (entry_expanded shape dds big) es) x → (e : SdlEntry) × Contains es e × (entry_expanded shape dds big e ≡ x)
  from_old [] x (k, within, is) = absurd (omega arith)
  from_old (e ∷ es) x (zero, within, is) = (e, Contains-first e es, is)
  from_old (e ∷ es) x (suc k, within, is) = let old = from_old es x (k, omega arith, is) in (old.0, Contains-later e es old.0 old.1, old.2)

  -- a pair was there before
  old_pair : (es : List SdlEntry) (b r : ℕ) → Contains (map (entry_expanded shape dds big) es) (pair b r) → Contains es (pair b r)
  old_pair es b r has =
      let old = from_old es (pair b r) has in
      elim (same_or_retired old.0) [
        | inl new ↦ absurd (let e : None ≡ Some r = ap (λ (x : SdlEntry). x.replacement) (sym new.0 ∙ old.2) in cc)
        | inr kept ↦ subst (Contains es) (sym kept.0 ∙ old.2) old.1
      ]

  module _ {version : Version} (area : IsValidSsa shape version small) (area' : IsValidSsa shape version big) where
    lawful : ArePools after
    lawful = pools_are_lawful shape dds big primary area'

    expands : (es : List SdlEntry) → ByMembers before es → ByMembers after (map (entry_expanded shape dds big) es)
    expands es m = record {
      rising = subst IsStrictlyIncreasing (sym (same_blocks es)) m.rising;
      within = λ x has. let old = from_old es x has in pooled_stays shape dds small big grows primary area area' x.defective
          (subst (Contains (all_in before)) (sym (same_block old.0) ∙ ap (λ (y : SdlEntry). y.defective) old.2) (m.within old.0 old.1));
      replaced = λ x has logical. let old = from_old es x has in
          let block : old.0.defective ≡ x.defective = sym (same_block old.0) ∙ ap (λ (y : SdlEntry). y.defective) old.2 in
          elim (same_or_retired old.0) [
            | inl new ↦ absurd (logical_apart after lawful x.defective logical (subst (Contains (spares_in after)) block new.1))
            | inr kept ↦ subst (λ (y : SdlEntry). IsSome y.replacement) (sym kept.0 ∙ old.2) (m.replaced old.0 old.1 (subst (Contains (logical_in before)) (sym block) (logical_shrinks shape dds small big grows primary area area' x.defective logical)))
          ];
      is_retired = λ x has spare. let old = from_old es x has in
          let block : old.0.defective ≡ x.defective = sym (same_block old.0) ∙ ap (λ (y : SdlEntry). y.defective) old.2 in
          subst (λ (y : SdlEntry). IsNone y.replacement) (sym (is_spare old.0 (subst (Contains (spares_in after)) (sym block) spare)) ∙ old.2) refl;
      from_own = λ i r inside has.
          let long = length-logical_in shape dds big primary area' in
          let longer = length-logical_in shape dds small primary area in
          let fewer = count_shrinks shape small big grows in
          let counted : i < count_of shape big = omega (arith, inside, long) in
          let was = subst (λ (b : ℕ). Contains es (pair b r)) (block_stays shape dds small big grows primary area area' i counted) (old_pair es (block_in after i) r has) in
          its_spares_grow shape dds small big grows primary area area' i counted r (m.from_own i r (omega (arith, counted, longer, fewer)) was);
      from = λ b r has. spares_grow shape dds small big grows r (m.from b r (old_pair es b r has));
      single = λ a b r one two. m.single a b r (old_pair es a r one) (old_pair es b r two);
      sound = λ b r o one two. let old = from_old es (record { defective = r; replacement = o }) two in
          let block : old.0.defective ≡ r = sym (same_block old.0) ∙ ap (λ (y : SdlEntry). y.defective) old.2 in
          m.sound b r old.0.replacement (old_pair es b r one) (subst (λ (n : ℕ). Contains es (record { defective = n; replacement = old.0.replacement })) block old.1);
    }

  -- ---- what replaces a block that stays logical

  replaces_same : (es : List SdlEntry) (b : ℕ) → ¬ Contains (spares_in after) b → replaces (map (entry_expanded shape dds big) es) b ≡ replaces es b
  replaces_same [] b not = refl
  replaces_same (e ∷ es) b not = elim (cases_eq e.defective b) [
    | inl same ↦ here (entry_expanded shape dds big e) (map (entry_expanded shape dds big) es) b (eq-eqb ((entry_expanded shape dds big e).defective) b (same_block e ∙ same))
        ∙ elim (same_or_retired e) [ inl new ↦ absurd (not (subst (Contains (spares_in after)) same new.1)) | inr kept ↦ ap (λ (x : SdlEntry). x.replacement) kept.0 ]
        ∙ sym (here e es b (eq-eqb e.defective b same))
    | inr ne ↦ later (entry_expanded shape dds big e) (map (entry_expanded shape dds big) es) b (λ same. ne (sym (same_block e) ∙ same)) ∙ replaces_same es b not ∙ sym (later e es b ne)
  ]

module _ (shape : Shape) (lists : Lists) (ssa : ℕ) (valid : AreValid shape lists) (area : IsValidSsa shape lists.sdl.version ssa) (grows : lists.sdl.ssa ≤ ssa) where
  pub expanded_valid : AreValid shape (lists_expanded shape lists ssa)
  expanded_valid = record {
    primary = valid.primary;
    together = record {
      same_version = valid.together.same_version;
      same_counter = valid.together.same_counter;
      secondary = record {
        area = area;
        entries = from_members (pools_of shape lists.dds ssa) (map (entry_expanded shape lists.dds ssa) lists.sdl.entries)
            (expands shape lists.dds lists.sdl.ssa ssa valid.primary grows valid.together.secondary.area area lists.sdl.entries (by_members (pools_under shape lists) lists.sdl.entries valid.together.secondary.entries));
      };
    };
    formatted = valid.formatted;
  }

  -- the home of a block that stays is where it was
  pub home_kept : (i : ℕ) → i < logical_count shape (lists_expanded shape lists ssa) → home_of shape (lists_expanded shape lists ssa) i ≡ home_of shape lists i
  home_kept i h =
      let pools = pools_of shape lists.dds ssa in
      let long = length-logical_in shape lists.dds ssa valid.primary area in
      let is_pools = pools_are_lawful shape lists.dds ssa valid.primary area in
      ap (λ (o : Option ℕ). unwrap_or o (block_in pools i))
      (replaces_same shape lists.dds lists.sdl.ssa ssa valid.primary grows lists.sdl.entries (block_in pools i) (is_pools.apart i (omega (arith, h, long))))
      ∙ ap (home_by lists.sdl.entries) (block_stays shape lists.dds lists.sdl.ssa ssa grows valid.primary valid.together.secondary.area area i h)
    where
      home_by : List SdlEntry → ℕ → ℕ
      home_by entries b = unwrap_or (replacement_of entries b) b

  block_cut : (disc : List ℕ) (n i : ℕ) → i < n → block_of (take (32768 * n) disc) i ≡ block_of disc i
  unfolding block_of
  block_cut disc n i h =
      let whole : 32768 * n ≡ 32768 * i + (32768 * n - 32768 * i) = omega (arith, h) in
      ap (λ (m : ℕ). take 32768 (drop (32768 * i) (take m disc))) whole
      ∙ ap (take 32768) (drop-take (32768 * i) (32768 * n - 32768 * i) disc)
      ∙ take-take 32768 (32768 * n - 32768 * i) (drop (32768 * i) disc) (omega (arith, h))

  pub cut_fits : (cells : List Cell) (disc : List ℕ) → FitsUnder shape cells lists disc → FitsUnder shape cells (lists_expanded shape lists ssa) (disc_cut shape (lists_expanded shape lists ssa) disc)
  cut_fits cells disc fits =
      let fewer = count_shrinks shape lists.sdl.ssa ssa grows in
      record {
        as_long = (let long = length-take (32768 * logical_count shape (lists_expanded shape lists ssa)) disc in let had = fits.as_long in omega (arith, long, had, fewer));
        agrees = λ i h. subst (Agrees (cell_at cells (home_of shape (lists_expanded shape lists ssa) i))) (sym (block_cut disc (logical_count shape (lists_expanded shape lists ssa)) i h))
            (subst (λ (b : ℕ). Agrees (cell_at cells b) (block_of disc i)) (sym (home_kept i h)) (fits.agrees i (omega (arith, h, fewer))));
      }

  -- while the secondary list is written, the disc or its first blocks fit
  pub expand_covers : (old new : List Cell) (disc : List ℕ) → OnlyLists shape old new
      → Settled IsDdsText (dds_block shape) new lists.dds → SdlIsBetween shape new lists.sdl ((lists_expanded shape lists ssa).sdl)
      → FitsUnder shape old lists disc → Cover shape new (disc ∷ disc_cut shape (lists_expanded shape lists ssa) disc ∷ [])
  expand_covers old new disc only settled between fits other given =
      let now = fits_still shape old new only lists disc valid fits in
      elim (pair_between shape new lists.dds lists.sdl ((lists_expanded shape lists ssa).sdl) other settled valid.together.same_version between given) [
        | inl is_old ↦ inl (subst (λ (l : Lists). FitsUnder shape new l disc) (sym is_old) now)
        | inr is_new ↦ inr (inl (subst (λ (l : Lists). FitsUnder shape new l (disc_cut shape (lists_expanded shape lists ssa) disc)) (sym is_new) (cut_fits new disc now)))
      ]
