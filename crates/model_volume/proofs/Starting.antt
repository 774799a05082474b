-- The start of a disc exists: all lists that cells give, in order, and no more than sixty-four.
use Rattle.std.specs.Prelude.{◌≡◌, ◌≢◌, ℕ, zero, suc, ◌+◌, ◌*◌, ◌<◌, ◌≤◌, ◌⊎◌, List, [], ◌∷◌, map, length}
use Rattle.std.specs.List.{Contains}
use Rattle.std.proofs.Common.{refl, sym, ap, ◌∙◌, inl, inr, subst, arith}
use Rattle.std.proofs.lemmas.Bool.{cases_eq}
use Rattle.model_geometry.specs.Geometry.{Shape, dds_block, sdl_block}
use Rattle.model_lists.specs.Values.{Dds, Sdl}
use Rattle.model_lists.specs.Texts.{IsDdsText, IsSdlText, IsSdlSecond}
use Rattle.model_lists.proofs.DdsTexts as dds_texts
use Rattle.model_lists.proofs.SdlTexts as sdl_texts
use Rattle.model_medium.specs.Cells.{Cell, cell_at}
use Rattle.model_sectors.specs.Discs.{Off}
use Rattle.model_copies.specs.Copies.{HasCopy}
use Rattle.model_geometry.specs.Geometry.{sdl_second_block}
use Rattle.model_copies.specs.Parts.{HasSdlParts, HasSdlCopy}
use Rattle.model_copies.proofs.SdlParts.{one_sdl, sdl_two_decided}
use Rattle.model_places.specs.Places.{Lists}
use Rattle.model_places.specs.Valid.{AreValid}
use Rattle.model_pools.proofs.Replacements.{Contains-first, Contains-later}
use Rattle.model_volume.specs.Given.{SomeWholePair, IsGiven}
use Rattle.model_volume.specs.Starts.{Found, IsFound, Precedes, InOrder, disc_under, IsDiscStart}
use Rattle.model_volume.proofs.DdsDecided.{dds_text_decided}
use Rattle.model_volume.proofs.ValidDecided.{Decided, valid_decided}
use Rattle.model_volume.proofs.CopiesDecided.{lowest_below, lowest, area_decided, holds_decided, text_held, copy_decided, first_decided, lowest_copy, one_copied}
use Rattle.model_volume.proofs.PartsDecided.{parts_decided}
use Rattle.model_volume.proofs.Order.{precedes_trans, compared, SameAreas}

module _ (shape : Shape) (cells : List Cell) where
  -- what is found in the same areas is one
  pub one_found : (a b : Found) → IsFound shape cells a → IsFound shape cells b → SameAreas a b → a ≡ b
  one_found a b fa fb same =
      let dds : a.lists.dds ≡ b.lists.dds = one_copied IsDdsText dds_texts.one_value dds_texts.one_text dds_text_decided (dds_block shape) cells a.lists.dds b.lists.dds a.dds_area fa.dds_copy
      (subst (HasCopy IsDdsText (dds_block shape) cells b.lists.dds) (sym same.0) fb.dds_copy) in
      let sdl : a.lists.sdl ≡ b.lists.sdl = one_sdl shape cells a.lists.sdl b.lists.sdl a.first_area a.second_area fa.sdl_parts
      (subst (λ (n : ℕ). HasSdlParts shape cells b.lists.sdl a.first_area n) (sym same.1.1) (subst (λ (n : ℕ). HasSdlParts shape cells b.lists.sdl n b.second_area) (sym same.1.0) fb.sdl_parts)) in
      let make : Dds → Sdl → ℕ → ℕ → ℕ → Found = λ d s i j k. record { lists = record { dds = d; sdl = s }; dds_area = i; first_area = j; second_area = k } in
      ap (λ (d : Dds). make d a.lists.sdl a.dds_area a.first_area a.second_area) dds
      ∙ ap (λ (s : Sdl). make b.lists.dds s a.dds_area a.first_area a.second_area) sdl
      ∙ ap (λ (i : ℕ). make b.lists.dds b.lists.sdl i a.first_area a.second_area) same.0
      ∙ ap (λ (j : ℕ). make b.lists.dds b.lists.sdl b.dds_area j a.second_area) same.1.0
      ∙ ap (λ (k : ℕ). make b.lists.dds b.lists.sdl b.dds_area b.first_area k) same.1.1

  -- ---- the areas of a secondary list that has parts

  -- the first cell of one text and the second of another of the same value
  crossed : (v : Sdl) (a b x y : ℕ) → HasSdlParts shape cells v a b → HasSdlParts shape cells v x y → HasSdlParts shape cells v a y
  crossed v a b x y one two = record { is_area = one.is_area; is_area' = two.is_area'; holds = one.holds; holds' = two.holds' }

  -- whether other cells hold a value of which a text is there
  has_parts_decided : (v : Sdl) (a b : ℕ) → HasSdlParts shape cells v a b → (x y : ℕ) → Decided (HasSdlParts shape cells v x y)
  has_parts_decided v a b parts x y = elim (area_decided x) [
    | inr fails ↦ inr (λ p. fails p.is_area)
    | inl is ↦ elim (area_decided y) [
      | inr fails ↦ inr (λ p. fails p.is_area')
      | inl is' ↦
          let known = text_held IsSdlText v (cell_at cells (sdl_block shape a)) parts.holds in
          elim (holds_decided IsSdlText sdl_texts.one_text v known.0 known.1 (cell_at cells (sdl_block shape x))) [
            | inr fails ↦ inr (λ p. fails p.holds)
            | inl first ↦ elim (sdl_two_decided v) [
              | inr one ↦ inl (record { is_area = is; is_area' = is'; holds = first; holds' = λ t. absurd (one t) })
              | inl two ↦
                  let known' = text_held IsSdlSecond v (cell_at cells (sdl_second_block shape b)) (parts.holds' two) in
                  elim (holds_decided IsSdlSecond sdl_texts.one_second v known'.0 known'.1 (cell_at cells (sdl_second_block shape y))) [
                    | inr fails ↦ inr (λ p. fails (p.holds' two))
                    | inl second ↦ inl (record { is_area = is; is_area' = is'; holds = first; holds' = λ _. second })
                  ]
            ]
          ]
    ]
  ]

  -- The areas of a secondary list: the lowest of a whole copy, or else the lowest of each part.
  pub record HasAreas (v : Sdl) (m n : ℕ) : Type 0 where
    pub parts : HasSdlParts shape cells v m n
    pub whole_lowest : (area : ℕ) → HasSdlCopy shape cells v area → (m ≡ n) × (m ≤ area)
    pub parts_lowest : m ≢ n → (a b : ℕ) → HasSdlParts shape cells v a b → (m ≤ a) × (n ≤ b)

  some_areas : (v : Sdl) (a b : ℕ) → HasSdlParts shape cells v a b → (m : ℕ) × (n : ℕ) × HasAreas v m n
  some_areas v a b parts = elim (lowest_below (λ area. HasSdlCopy shape cells v area) (λ area. has_parts_decided v a b parts area area) 5) [
    | inl found ↦ (
      found.0,
      found.0,
      record {
        parts = found.2;
        whole_lowest = λ area copy. (refl, found.3 area copy);
        parts_lowest = λ ne. absurd (ne refl);
      },
    )
    | inr none ↦
        let first = lowest (λ x. HasSdlParts shape cells v x b) (λ x. has_parts_decided v a b parts x b) a parts in
        let second = lowest (λ y. HasSdlParts shape cells v a y) (λ y. has_parts_decided v a b parts a y) b parts in (
          first.0,
          second.0,
          record {
            parts = crossed v first.0 b a second.0 first.1 second.1;
            whole_lowest = λ area copy. absurd (none area (let h = copy.is_area.1 in omega (arith, h)) copy);
            parts_lowest = λ ne x y other. (first.2 x (crossed v x y a b other parts), second.2 y (crossed v a b x y parts other));
          },
        )
  ]

  -- a value has them in one way
  pub one_areas : (v : Sdl) (m n m' n' : ℕ) → HasAreas v m n → HasAreas v m' n' → (m ≡ m') × (n ≡ n')
  one_areas v m n m' n' one two = elim (cases_eq m n) [
    | inl same ↦
        let copy : HasSdlCopy shape cells v m = subst (HasSdlParts shape cells v m) (sym same) one.parts in
        let other = two.whole_lowest m copy in
        let copy' : HasSdlCopy shape cells v m' = subst (HasSdlParts shape cells v m') (sym other.0) two.parts in
        let back = one.whole_lowest m' copy' in
        let up = other.1 in
        let down = back.1 in
        let first : m ≡ m' = omega (arith, up, down) in
        (first, sym same ∙ first ∙ other.0)
    | inr ne ↦ elim (cases_eq m' n') [
      | inl same ↦ absurd (ne (one.whole_lowest m' (subst (HasSdlParts shape cells v m') (sym same) two.parts)).0)
      | inr ne' ↦
          let up = one.parts_lowest ne m' n' two.parts in
          let down = two.parts_lowest ne' m n one.parts in
          let a = up.0 in
          let b = up.1 in
          let c = down.0 in
          let d = down.1 in
          (omega (arith, a, c), omega (arith, b, d))
    ]
  ]

  pub areas_of : (f : Found) → IsFound shape cells f → HasAreas f.lists.sdl f.first_area f.second_area
  areas_of f is = record { parts = is.sdl_parts; whole_lowest = is.whole_lowest; parts_lowest = is.parts_lowest }

  -- lists in order, among them all with some property
  pub record Gathered (most : ℕ) (Q : Found → Type 0) : Type 0 where
    pub all : List Found
    pub few : length all ≤ most
    pub order : InOrder all
    pub each : (f : Found) → Contains all f → IsFound shape cells f
    pub has : (f : Found) → IsFound shape cells f → Q f → Contains all f

  -- one more put in its place
  record Inserted (new : Found) (old : List Found) : Type 0 where
    all : List Found
    few : length all ≤ suc (length old)
    order : InOrder all
    each : (f : Found) → Contains all f → (f ≡ new) ⊎ Contains old f
    has : (f : Found) → (f ≡ new) ⊎ Contains old f → Contains all f

  insert : (new : Found) → IsFound shape cells new → (old : List Found) → InOrder old → ((f : Found) → Contains old f → IsFound shape cells f) → Inserted new old
  insert new is_new [] order each = record {
    all = new ∷ [];
    few = omega arith;
    order = ((λ b has. absurd (let h : has.0 < 0 = has.1 in omega (arith, h))), tt);
    each = λ f has. only f has;
    has = λ f h. elim h [ inl e ↦ subst (Contains (new ∷ [])) (sym e) (Contains-first new []) | inr has ↦ absurd (let h : has.0 < 0 = has.1 in omega (arith, h)) ];
  }
    where
      only : (f : Found) → Contains (new ∷ []) f → (f ≡ new) ⊎ Contains [] f
      only f (zero, within, is) = inl (sym is)
      only f (suc k, within, is) = absurd (omega arith)
  insert new is_new (a ∷ old) order each = elim (compared new a) [
    | inl before ↦ record {
      all = new ∷ a ∷ old;
      few = omega arith;
      order = ((λ b has. ahead before b has), order);
      each = λ f has. first_or f has;
      has = λ f h. elim h [ inl e ↦ subst (Contains (new ∷ a ∷ old)) (sym e) (Contains-first new (a ∷ old)) | inr has ↦ Contains-later new (a ∷ old) f has ];
    }
    | inr other ↦ elim other [
      | inl after ↦ behind after (insert new is_new old order.1 (λ f has. each f (Contains-later a old f has)))
      | inr same ↦ record {
        all = a ∷ old;
        few = omega arith;
        order = order;
        each = λ f has. inr has;
        has = λ f h. elim h [ inl e ↦ subst (Contains (a ∷ old)) (sym (e ∙ one_found new a is_new (each a (Contains-first a old)) same)) (Contains-first a old) | inr has ↦ has ];
      }
    ]
  ]
    where
      ahead : Precedes new a → (b : Found) → Contains (a ∷ old) b → Precedes new b
      ahead before b (zero, within, is) = subst (Precedes new) is before
      ahead before b (suc k, within, is) = precedes_trans new a b before (order.0 b (k, omega arith, is))

      first_or : (f : Found) → Contains (new ∷ a ∷ old) f → (f ≡ new) ⊎ Contains (a ∷ old) f
      first_or f (zero, within, is) = inl (sym is)
      first_or f (suc k, within, is) = inr (k, omega arith, is)

      behind : Precedes a new → Inserted new old → Inserted new (a ∷ old)
      behind after done = record {
        all = a ∷ done.all;
        few = (let h = done.few in omega (arith, h));
        order = ((λ b has. elim (done.each b has) [ inl e ↦ subst (Precedes a) (sym e) after | inr was ↦ order.0 b was ]), done.order);
        each = λ f has. split f has;
        has = λ f h. elim h [ inl e ↦ Contains-later a done.all f (done.has f (inl e)) | inr was ↦ kept f was ];
      }
        where
          split : (f : Found) → Contains (a ∷ done.all) f → (f ≡ new) ⊎ Contains (a ∷ old) f
          split f (zero, within, is) = inr (0, omega arith, is)
          split f (suc k, within, is) = elim (done.each f (k, omega arith, is)) [ inl e ↦ inl e | inr was ↦ inr (Contains-later a old f was) ]

          kept : (f : Found) → Contains (a ∷ old) f → Contains (a ∷ done.all) f
          kept f (zero, within, is) = (0, omega arith, is)
          kept f (suc k, within, is) = Contains-later a done.all f (done.has f (inr (k, omega arith, is)))

  module _ (whole : SomeWholePair shape cells) where
    -- the areas of a found pair are these
    abbrev Is : Found → ℕ → ℕ → ℕ → Type 0
    Is f i j k = (f.dds_area ≡ i) × ((f.first_area ≡ j) × (f.second_area ≡ k))

    -- what is found in three areas, if anything
    found_decided : (i j k : ℕ) → ((f : Found) × IsFound shape cells f × Is f i j k) ⊎ ((f : Found) → IsFound shape cells f → Is f i j k → ⊥)
    found_decided i j k = elim (first_decided IsDdsText dds_texts.one_value dds_texts.one_text dds_text_decided (dds_block shape) cells i) [
      | inr none ↦ inr (λ f is at. none f.lists.dds (subst (HasCopy IsDdsText (dds_block shape) cells f.lists.dds) at.0 is.dds_copy) (λ a c. subst (λ (n : ℕ). n ≤ a) at.0 (is.dds_lowest a c)))
      | inl d ↦ elim (parts_decided shape cells j k) [
        | inr none ↦ inr (λ f is at. none f.lists.sdl (moved f.lists.sdl f.first_area f.second_area at.1 is.sdl_parts))
        | inl s ↦ elim (valid_decided shape (record { dds = d.0; sdl = s.0 })) [
          | inr fails ↦ inr (λ f is at.
              let dds : f.lists.dds ≡ d.0 = one_copied IsDdsText dds_texts.one_value dds_texts.one_text dds_text_decided (dds_block shape) cells f.lists.dds d.0 i (subst (HasCopy IsDdsText (dds_block shape) cells f.lists.dds) at.0 is.dds_copy) d.1 in
              let sdl : f.lists.sdl ≡ s.0 = one_sdl shape cells f.lists.sdl s.0 j k (moved f.lists.sdl f.first_area f.second_area at.1 is.sdl_parts) s.1 in
              let make : Dds → Sdl → Lists = λ x y. record { dds = x; sdl = y } in
              fails (subst (AreValid shape) (ap (λ (x : Dds). make x f.lists.sdl) dds ∙ ap (λ (y : Sdl). make d.0 y) sdl) is.valid))
          | inl valid ↦ by_areas d.0 s.0 d.1 d.2 s.1 valid (some_areas s.0 j k s.1)
        ]
      ]
    ]
      where
        moved : (v : Sdl) (a b : ℕ) → (a ≡ j) × (b ≡ k) → HasSdlParts shape cells v a b → HasSdlParts shape cells v j k
        moved v a b at parts = subst (λ (n : ℕ). HasSdlParts shape cells v j n) at.1 (subst (λ (n : ℕ). HasSdlParts shape cells v n b) at.0 parts)

        by_areas : (d : Dds) (s : Sdl) → HasCopy IsDdsText (dds_block shape) cells d i → ((at : ℕ) → HasCopy IsDdsText (dds_block shape) cells d at → i ≤ at) → HasSdlParts shape cells s j k → AreValid shape (record { dds = d; sdl = s })
            → (m : ℕ) × (n : ℕ) × HasAreas s m n → ((f : Found) × IsFound shape cells f × Is f i j k) ⊎ ((f : Found) → IsFound shape cells f → Is f i j k → ⊥)
        by_areas d s copy low parts valid (m, n, areas) = elim (cases_eq m j) [
          | inr ne ↦ inr (λ f is at. ne (one_areas s m n j k areas (areas_here d s parts f is at)).0)
          | inl e ↦ elim (cases_eq n k) [
            | inr ne ↦ inr (λ f is at. ne (one_areas s m n j k areas (areas_here d s parts f is at)).1)
            | inl e' ↦ inl (
              record { lists = record { dds = d; sdl = s }; dds_area = i; first_area = m; second_area = n },
              record { dds_copy = copy; dds_lowest = low; sdl_parts = areas.parts; whole_lowest = areas.whole_lowest; parts_lowest = areas.parts_lowest; valid = valid; some_whole = whole },
              (refl, (e, e')),
            )
          ]
        ]
          where
            areas_here : (d : Dds) (s : Sdl) → HasSdlParts shape cells s j k → (f : Found) → IsFound shape cells f → Is f i j k → HasAreas s j k
            areas_here d s parts f is at =
                let same : f.lists.sdl ≡ s = one_sdl shape cells f.lists.sdl s j k (moved f.lists.sdl f.first_area f.second_area at.1 is.sdl_parts) parts in
                subst (λ (n : ℕ). HasAreas s j n) at.1.1 (subst (λ (n : ℕ). HasAreas s n f.second_area) at.1.0 (subst (λ (v : Sdl). HasAreas v f.first_area f.second_area) same (areas_of f is)))

    -- the lists found in three more areas
    with_areas : (n : ℕ) (Q : Found → Type 0) (i j k : ℕ) → Gathered n Q → Gathered (suc n) (λ f. Q f ⊎ Is f i j k)
    with_areas n Q i j k so_far = elim (found_decided i j k) [
      | inr none ↦ record {
        all = so_far.all;
        few = (let h = so_far.few in omega (arith, h));
        order = so_far.order;
        each = so_far.each;
        has = λ f is q. elim q [ inl was ↦ so_far.has f is was | inr here ↦ absurd (none f is here) ];
      }
      | inl new ↦
          let put = insert new.0 new.1 so_far.all so_far.order so_far.each in
          record {
            all = put.all;
            few = (let h = so_far.few in let k = put.few in omega (arith, h, k));
            order = put.order;
            each = λ f has. elim (put.each f has) [ inl e ↦ subst (IsFound shape cells) (sym e) new.1 | inr was ↦ so_far.each f was ];
            has = λ f is q. elim q [
              | inl was ↦ put.has f (inr (so_far.has f is was))
              | inr here ↦ put.has f (inl (one_found f new.0 is new.1 (here.0 ∙ sym new.2.0, (here.1.0 ∙ sym new.2.1.0, here.1.1 ∙ sym new.2.1.1))))
            ];
          }
    ]

    weaken : (n m : ℕ) (Q R : Found → Type 0) → n ≤ m → ((f : Found) → IsFound shape cells f → R f → Q f) → Gathered n Q → Gathered m R
    weaken n m Q R le less g = record { all = g.all; few = (let h = g.few in omega (arith, h, le)); order = g.order; each = g.each; has = λ f is r. g.has f is (less f is r) }

    -- the lists found in one area of the structure and one of the first part, and the first areas of the second part
    line : (m : ℕ) (Q : Found → Type 0) (i j n : ℕ) → Gathered m Q → Gathered (m + n) (λ f. Q f ⊎ ((f.dds_area ≡ i) × ((f.first_area ≡ j) × (f.second_area ≤ n))))
    line m Q i j zero so_far =
        weaken m (m + 0) Q (λ f. Q f ⊎ ((f.dds_area ≡ i) × ((f.first_area ≡ j) × (f.second_area ≤ 0)))) (omega arith)
        (λ f is q. elim q [ inl was ↦ was | inr none ↦ absurd (let h = none.1.1 in let k = is.sdl_parts.is_area'.0 in omega (arith, h, k)) ]) so_far
    line m Q i j (suc n) so_far =
        weaken (suc (m + n)) (m + suc n) (λ f. (Q f ⊎ ((f.dds_area ≡ i) × ((f.first_area ≡ j) × (f.second_area ≤ n)))) ⊎ Is f i j (suc n)) (λ f. Q f ⊎ ((f.dds_area ≡ i) × ((f.first_area ≡ j) × (f.second_area ≤ suc n)))) (omega arith)
        (λ f is q. elim q [ inl was ↦ inl (inl was) | inr here ↦ elim (cases_eq f.second_area (suc n)) [ inl e ↦ inr (here.0, (here.1.0, e)) | inr ne ↦ inl (inr (here.0, (here.1.0, (let h = here.1.1 in omega (arith, h, ne))))) ] ])
        (with_areas (m + n) (λ f. Q f ⊎ ((f.dds_area ≡ i) × ((f.first_area ≡ j) × (f.second_area ≤ n)))) i j (suc n) (line m Q i j n so_far))

    -- the lists found in one area of the structure, and the first areas of the first part
    row : (m : ℕ) (Q : Found → Type 0) (i n : ℕ) → Gathered m Q → Gathered (m + 4 * n) (λ f. Q f ⊎ ((f.dds_area ≡ i) × (f.first_area ≤ n)))
    row m Q i zero so_far =
        weaken m (m + 4 * 0) Q (λ f. Q f ⊎ ((f.dds_area ≡ i) × (f.first_area ≤ 0))) (omega arith)
        (λ f is q. elim q [ inl was ↦ was | inr none ↦ absurd (let h = none.1 in let k = is.sdl_parts.is_area.0 in omega (arith, h, k)) ]) so_far
    row m Q i (suc n) so_far =
        weaken (m + 4 * n + 4) (m + 4 * suc n) (λ f. (Q f ⊎ ((f.dds_area ≡ i) × (f.first_area ≤ n))) ⊎ ((f.dds_area ≡ i) × ((f.first_area ≡ suc n) × (f.second_area ≤ 4)))) (λ f. Q f ⊎ ((f.dds_area ≡ i) × (f.first_area ≤ suc n))) (omega arith)
        (λ f is q. elim q [ inl was ↦ inl (inl was) | inr here ↦ elim (cases_eq f.first_area (suc n)) [ inl e ↦ inr (here.0, (e, is.sdl_parts.is_area'.1)) | inr ne ↦ inl (inr (here.0, (let h = here.1 in omega (arith, h, ne)))) ] ])
        (line (m + 4 * n) (λ f. Q f ⊎ ((f.dds_area ≡ i) × (f.first_area ≤ n))) i (suc n) 4 (row m Q i n so_far))

    -- the lists found in the first areas of the structure
    rows : (n : ℕ) → Gathered (16 * n) (λ f. f.dds_area ≤ n)
    rows zero = record {
      all = [];
      few = omega arith;
      order = tt;
      each = λ f has. absurd (let h : has.0 < 0 = has.1 in omega (arith, h));
      has = λ f is none. absurd (let k = is.dds_copy.is_area.0 in omega (arith, none, k));
    }
    rows (suc n) =
        weaken (16 * n + 4 * 4) (16 * suc n) (λ f. (f.dds_area ≤ n) ⊎ ((f.dds_area ≡ suc n) × (f.first_area ≤ 4))) (λ f. f.dds_area ≤ suc n) (omega arith)
        (λ f is less. elim (cases_eq f.dds_area (suc n)) [ inl e ↦ inr (e, is.sdl_parts.is_area.1) | inr ne ↦ inl (omega (arith, less, ne)) ])
        (row (16 * n) (λ f. f.dds_area ≤ n) (suc n) 4 (rows n))

    every_in : (n : ℕ) (g : Gathered n (λ f. f.dds_area ≤ 4)) (lists : Lists) → IsGiven shape cells lists → (found : Found) × Contains g.all found × (found.lists ≡ lists)
    every_in n g lists given =
        let d = lowest_copy IsDdsText dds_texts.one_value dds_texts.one_text dds_text_decided (dds_block shape) cells lists.dds given.dds_area given.dds_copy in
        let s = some_areas lists.sdl given.first_area given.second_area given.sdl_parts in
        let f : Found = record { lists = lists; dds_area = d.0; first_area = s.0; second_area = s.1 } in
        let is : IsFound shape cells f = record { dds_copy = d.1; dds_lowest = d.2; sdl_parts = s.2.parts; whole_lowest = s.2.whole_lowest; parts_lowest = s.2.parts_lowest; valid = given.valid; some_whole = whole } in
        (f, g.has f is d.1.is_area.1, refl)

    start_with : (all : List Found) × (length all ≤ 64) × IsDiscStart shape cells all (Off (map (disc_under shape cells) all))
    start_with =
        let g = rows 4 in
        (g.all, g.few, record { each = g.each; every = λ lists given. every_in (16 * 4) g lists given; order = g.order; standing_is = refl })

  -- ---- whether there is a whole pair

  abbrev PairAt : ℕ → ℕ → Type 0
  PairAt i a = (lists : Lists) × HasCopy IsDdsText (dds_block shape) cells lists.dds i × HasSdlCopy shape cells lists.sdl a × AreValid shape lists

  pair_decided : (i a : ℕ) → Decided (PairAt i a)
  pair_decided i a = elim (copy_decided IsDdsText dds_texts.one_value dds_texts.one_text dds_text_decided (dds_block shape) cells i) [
    | inr none ↦ inr (λ p. none p.0.dds p.1)
    | inl d ↦ elim (parts_decided shape cells a a) [
      | inr none ↦ inr (λ p. none p.0.sdl p.2)
      | inl s ↦ elim (valid_decided shape (record { dds = d.0; sdl = s.0 })) [
        | inl valid ↦ inl (record { dds = d.0; sdl = s.0 }, d.1, s.1, valid)
        | inr fails ↦ inr (λ p.
            let dds : p.0.dds ≡ d.0 = one_copied IsDdsText dds_texts.one_value dds_texts.one_text dds_text_decided (dds_block shape) cells p.0.dds d.0 i p.1 d.1 in
            let sdl : p.0.sdl ≡ s.0 = one_sdl shape cells p.0.sdl s.0 a a p.2 s.1 in
            let make : Dds → Sdl → Lists = λ x y. record { dds = x; sdl = y } in
            fails (subst (AreValid shape) (ap (λ (x : Dds). make x p.0.sdl) dds ∙ ap (λ (y : Sdl). make d.0 y) sdl) p.3))
      ]
    ]
  ]

  row_decided : (i : ℕ) → Decided ((a : ℕ) × PairAt i a)
  row_decided i = elim (lowest_below (λ a. PairAt i a) (λ a. pair_decided i a) 5) [
    | inl found ↦ inl (found.0, found.2)
    | inr none ↦ inr (λ p. none p.0 (let h = p.1.2.is_area.1 in omega (arith, h)) p.1)
  ]

  pub whole_decided : Decided (SomeWholePair shape cells)
  whole_decided = elim (lowest_below (λ i. (a : ℕ) × PairAt i a) (λ i. row_decided i) 5) [
    | inl found ↦ inl (found.2.1.0, record { dds_area = found.0; dds_copy = found.2.1.1; sdl_area = found.2.0; sdl_copy = found.2.1.2; valid = found.2.1.3 })
    | inr none ↦ inr (λ w. none w.1.dds_area (let h = w.1.dds_copy.is_area.1 in omega (arith, h)) (w.1.sdl_area, (w.0, w.1.dds_copy, w.1.sdl_copy, w.1.valid)))
  ]

  -- whatever cells a disc has, it has a start
  pub start_few : (all : List Found) × (length all ≤ 64) × IsDiscStart shape cells all (Off (map (disc_under shape cells) all))
  start_few = elim whole_decided [
    | inl whole ↦ start_with whole
    | inr none ↦ (
      [],
      omega arith,
      record {
        each = λ f has. absurd (let h : has.0 < 0 = has.1 in omega (arith, h));
        every = λ lists given. absurd (none given.some_whole);
        order = tt;
        standing_is = refl;
      },
    )
  ]

  pub start_is : (all : List Found) × IsDiscStart shape cells all (Off (map (disc_under shape cells) all))
  start_is = (start_few.0, start_few.2)
