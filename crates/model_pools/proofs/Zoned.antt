-- Pools of zones that lie one after another: each zone's blocks rise, the first of them are its logical blocks, and the others
-- its spares.
use Rattle.std.proofs.Common.{◌≡◌, ℕ, zero, suc, ◌+◌, ◌-◌, ◌*◌, ◌<◌, ◌≤◌, ◌⊎◌, inl, inr, ⊎_elim, List, ◌++◌, length, take, drop, map, get_or, refl, sym, ap, ◌∙◌, subst, arith}
use Rattle.std.specs.List.{Contains, range_with_len}
use Rattle.std.specs.List.Sorted.{IsStrictlyIncreasing}
use Rattle.std.proofs.Math.Nat.{suc-mul}
use Rattle.std.proofs.lemmas.Bool.{cases_lt, cases_order}
use Rattle.std.proofs.lemmas.List.{length-append, length-take, length-drop, get_or-take, get_or-drop, get_or_append_left, get_or-append_right, take-append-drop}
use Rattle.std.proofs.lemmas.List.Elements.{Contains-append_cases, Contains-append_left, Contains-append_right, Contains-get_or}
use Rattle.std.proofs.lemmas.Option.{slice_get_within, get_or_from_slice_get}
use Rattle.model_pools.specs.Pools.{Pool, ArePools, logical_in, spares_in, block_in, spares_at}
use Rattle.model_pools.proofs.Listed.{same_index, StandsWithin-take, StandsWithin-drop, parts_apart}

-- a list that rises, and behind it one whose numbers are all greater
pub rises_behind : (xs ys : List ℕ) → IsStrictlyIncreasing xs → IsStrictlyIncreasing ys → ((x y : ℕ) → Contains xs x → Contains ys y → x < y) → IsStrictlyIncreasing (xs ++ ys)
rises_behind xs ys rise rise' less k within =
    let long = length-append xs ys in
    elim (cases_lt (k + 1) (length xs)) [
      | inl inside ↦ (let h = rise k inside in
          omega (arith, h, get_or_append_left xs ys 0 k (omega (arith, inside)), get_or_append_left xs ys 0 (k + 1) inside))
      | inr past ↦ elim (cases_lt k (length xs)) [
        | inl last ↦ (let first : k + 1 - length xs ≡ 0 = omega (arith, last, past) in
            let second : get_or (xs ++ ys) (k + 1) 0 ≡ get_or ys 0 0 =
            get_or-append_right xs ys (length xs) (k + 1) 0 refl past ∙ ap (λ (i : ℕ). get_or ys i 0) first in
            let h = less (get_or xs k 0) (get_or ys 0 0) (Contains-get_or xs k 0 last) (Contains-get_or ys 0 0 (omega (arith, within, long, last, past))) in
            omega (arith, h, get_or_append_left xs ys 0 k last, second))
        | inr behind ↦ (let at = get_or-append_right xs ys (length xs) k 0 refl behind in
            let one : k + 1 - length xs ≡ k - length xs + 1 = omega (arith, behind) in
            let next = get_or-append_right xs ys (length xs) (k + 1) 0 refl past ∙ ap (λ (i : ℕ). get_or ys i 0) one in
            let h = rise' (k - length xs) (omega (arith, within, long, behind)) in
            omega (arith, h, at, next))
      ]
    ]

pub take_rises : (xs : List ℕ) (n : ℕ) → IsStrictlyIncreasing xs → IsStrictlyIncreasing (take n xs)
take_rises xs n rise k within =
    let long = length-take n xs in
    let h = rise k (omega (arith, within, long)) in
    omega (arith, h, get_or-take n xs k 0 (omega (arith, within, long)), get_or-take n xs (k + 1) 0 (omega (arith, within, long)))

pub drop_rises : (xs : List ℕ) (n : ℕ) → IsStrictlyIncreasing xs → IsStrictlyIncreasing (drop n xs)
drop_rises xs n rise k within =
    let long = length-drop n xs in
    let h = rise (n + k) (omega (arith, within, long)) in
    let next : n + (k + 1) ≡ n + k + 1 = omega arith in
    omega (arith, h, get_or-drop n xs k 0, get_or-drop n xs (k + 1) 0 ∙ ap (λ (i : ℕ). get_or xs i 0) next)

-- of a list, an element stands in the front or in the rest
pub front_or_rest : (xs : List ℕ) (n x : ℕ) → Contains xs x → Contains (take n xs) x ⊎ Contains (drop n xs) x
front_or_rest xs n x has = Contains-append_cases (take n xs) (drop n xs) x (subst (λ (l : List ℕ). Contains l x) (sym (take-append-drop n xs)) has)

pub from_front : (xs : List ℕ) (n x : ℕ) → Contains (take n xs) x → Contains xs x
from_front xs n x has = let s = StandsWithin-take xs n x has in (s.place, s.inside, s.is)

pub from_rest : (xs : List ℕ) (n x : ℕ) → Contains (drop n xs) x → Contains xs x
from_rest xs n x has = let s = StandsWithin-drop xs n x has in (s.place, s.inside, s.is)

-- The blocks of each zone, how many of them are logical blocks, and where the zone begins.
module _ (U : ℕ → List ℕ) (n : ℕ → ℕ) (start : ℕ → ℕ) where
  abbrev group : ℕ → Pool
  group z = record { blocks = take (n z) (U z); spares = drop (n z) (U z) }

  abbrev groups : ℕ → ℕ → List Pool
  groups a m = map group (range_with_len a m)

  -- ---- of which zone a block is

  pub logical_zone : (a m b : ℕ) → Contains (logical_in (groups a m)) b → (z : ℕ) × (a ≤ z) × (z < a + m) × Contains (take (n z) (U z)) b
  logical_zone a zero b (k, within, is) = absurd (let less : k < 0 = within in omega (arith, less))
  logical_zone a (suc m) b has = ⊎_elim (λ l. (a, omega arith, omega arith, l)) (λ r. let at = logical_zone (a + 1) m b r in (at.0, omega (arith, at.1), omega (arith, at.2), at.3))
      (Contains-append_cases (take (n a) (U a)) (logical_in (groups (a + 1) m)) b has)

  pub spare_zone : (a m b : ℕ) → Contains (spares_in (groups a m)) b → (z : ℕ) × (a ≤ z) × (z < a + m) × Contains (drop (n z) (U z)) b
  spare_zone a zero b (k, within, is) = absurd (let less : k < 0 = within in omega (arith, less))
  spare_zone a (suc m) b has = ⊎_elim (λ l. (a, omega arith, omega arith, l)) (λ r. let at = spare_zone (a + 1) m b r in (at.0, omega (arith, at.1), omega (arith, at.2), at.3))
      (Contains-append_cases (drop (n a) (U a)) (spares_in (groups (a + 1) m)) b has)

  pub from_zone_logical : (a m z b : ℕ) → a ≤ z → z < a + m → Contains (take (n z) (U z)) b → Contains (logical_in (groups a m)) b
  from_zone_logical a zero z b low high has = absurd (omega (arith, low, high))
  from_zone_logical a (suc m) z b low high has = elim (cases_lt a z) [
    | inl later ↦ Contains-append_right (take (n a) (U a)) (logical_in (groups (a + 1) m)) b (from_zone_logical (a + 1) m z b (omega (arith, later)) (omega (arith, high)) has)
    | inr here ↦ (let same : z ≡ a = omega (arith, low, here) in
        Contains-append_left (take (n a) (U a)) (logical_in (groups (a + 1) m)) b (subst (λ (w : ℕ). Contains (take (n w) (U w)) b) same has))
  ]

  pub from_zone_spares : (a m z b : ℕ) → a ≤ z → z < a + m → Contains (drop (n z) (U z)) b → Contains (spares_in (groups a m)) b
  from_zone_spares a zero z b low high has = absurd (omega (arith, low, high))
  from_zone_spares a (suc m) z b low high has = elim (cases_lt a z) [
    | inl later ↦ Contains-append_right (drop (n a) (U a)) (spares_in (groups (a + 1) m)) b (from_zone_spares (a + 1) m z b (omega (arith, later)) (omega (arith, high)) has)
    | inr here ↦ (let same : z ≡ a = omega (arith, low, here) in
        Contains-append_left (drop (n a) (U a)) (spares_in (groups (a + 1) m)) b (subst (λ (w : ℕ). Contains (drop (n w) (U w)) b) same has))
  ]

  -- the spares of a zone are those of its pool
  pub spares_at_zone : (a m k : ℕ) → k < m → spares_at (groups a m) k ≡ drop (n (a + k)) (U (a + k))
  spares_at_zone a zero k inside = absurd (omega (arith, inside))
  spares_at_zone a (suc m) zero inside = let e : a + 0 ≡ a = omega arith in rw e refl
  spares_at_zone a (suc m) (suc k) inside = let e : a + suc k ≡ a + 1 + k = omega arith in rw e (spares_at_zone (a + 1) m k (omega (arith, inside)))

  -- ---- the pools are lawful

  module _ (rise : (z : ℕ) → IsStrictlyIncreasing (U z)) (low : (z b : ℕ) → Contains (U z) b → start z ≤ b) (high : (z b : ℕ) → Contains (U z) b → b < start (z + 1))
      (later : (z w : ℕ) → z ≤ w → start z ≤ start w) where
    -- of two zones the earlier one's blocks are lower
    lower : (z w x y : ℕ) → z < w → Contains (U z) x → Contains (U w) y → x < y
    lower z w x y before in_z in_w = omega (arith, high z x in_z, low w y in_w, later (z + 1) w (omega (arith, before)))

    logical_rise : (a m : ℕ) → IsStrictlyIncreasing (logical_in (groups a m))
    logical_rise a zero = λ k within. absurd (let less : k + 1 < 0 = within in omega (arith, less))
    logical_rise a (suc m) = rises_behind (take (n a) (U a)) (logical_in (groups (a + 1) m)) (take_rises (U a) (n a) (rise a)) (logical_rise (a + 1) m)
        (λ x y here there. let at = logical_zone (a + 1) m y there in lower a at.0 x y (omega (arith, at.1)) (from_front (U a) (n a) x here) (from_front (U at.0) (n at.0) y at.3))

    spares_rise : (a m : ℕ) → IsStrictlyIncreasing (spares_in (groups a m))
    spares_rise a zero = λ k within. absurd (let less : k + 1 < 0 = within in omega (arith, less))
    spares_rise a (suc m) = rises_behind (drop (n a) (U a)) (spares_in (groups (a + 1) m)) (drop_rises (U a) (n a) (rise a)) (spares_rise (a + 1) m)
        (λ x y here there. let at = spare_zone (a + 1) m y there in lower a at.0 x y (omega (arith, at.1)) (from_rest (U a) (n a) x here) (from_rest (U at.0) (n at.0) y at.3))

    zones_apart : (a m b : ℕ) → Contains (logical_in (groups a m)) b → ¬ Contains (spares_in (groups a m)) b
    zones_apart a m b logical spare =
        let x = logical_zone a m b logical in
        let y = spare_zone a m b spare in
        let in_x = from_front (U x.0) (n x.0) b x.3 in
        let in_y = from_rest (U y.0) (n y.0) b y.3 in
        elim (cases_order x.0 y.0) [
          | inl same ↦ (let front = subst (λ (w : ℕ). Contains (take (n w) (U w)) b) same x.3 in
              parts_apart (U y.0) (rise y.0) 0 (n y.0) (n y.0) (length (U y.0)) b (omega arith) (StandsWithin-take (U y.0) (n y.0) b front) (StandsWithin-drop (U y.0) (n y.0) b y.3))
          | inr (inl before) ↦ (let less = lower x.0 y.0 b b before in_x in_y in omega (arith, less))
          | inr (inr after) ↦ (let less = lower y.0 x.0 b b after in_y in_x in omega (arith, less))
        ]

    pub zoned_lawful : (a m : ℕ) → ArePools (groups a m)
    zoned_lawful a m = record {
      blocks = λ i j inside inside' same. same_index (logical_in (groups a m)) (logical_rise a m) i j 0 inside inside' same;
      spares = λ j k block at at'.
          same_index (spares_in (groups a m)) (spares_rise a m) j k 0 (slice_get_within (spares_in (groups a m)) j block at) (slice_get_within (spares_in (groups a m)) k block at')
          (get_or_from_slice_get (spares_in (groups a m)) j block 0 at ∙ sym (get_or_from_slice_get (spares_in (groups a m)) k block 0 at'));
      apart = λ i inside. zones_apart a m (block_in (groups a m) i) (Contains-get_or (logical_in (groups a m)) i 0 inside);
    }

  -- ---- how many there are

  module _ (size : ℕ → ℕ) (q : ℕ) (sized : (z : ℕ) → n z + q + 2 ≡ size z) (next : (z : ℕ) → start (z + 1) ≡ start z + size z) where
    pub logical_count_in : (a m : ℕ) → ((z : ℕ) → a ≤ z → z < a + m → n z ≤ length (U z)) → length (logical_in (groups a m)) + m * q + 2 * m + start a ≡ start (a + m)
    logical_count_in a zero room = let e : a + 0 ≡ a = omega arith in omega (arith, ap start e)
    logical_count_in a (suc m) room =
        let on = logical_count_in (a + 1) m (λ z low high. room z (omega (arith, low)) (omega (arith, high))) in
        let here = room a (omega arith) (omega arith) in
        let e : a + suc m ≡ a + 1 + m = omega arith in
        let more = suc-mul m q in
        omega (arith, on, here, sized a, next a, ap start e, more, length-append (take (n a) (U a)) (logical_in (groups (a + 1) m)), length-take (n a) (U a))

    pub spare_count_in : (a m : ℕ) → ((z : ℕ) → a ≤ z → z < a + m → length (U z) ≤ n z + q) → length (spares_in (groups a m)) ≤ m * q
    spare_count_in a zero room = omega arith
    spare_count_in a (suc m) room =
        let on = spare_count_in (a + 1) m (λ z low high. room z (omega (arith, low)) (omega (arith, high))) in
        let here = room a (omega arith) (omega arith) in
        let more = suc-mul m q in
        omega (arith, on, here, more, length-append (drop (n a) (U a)) (spares_in (groups (a + 1) m)), length-drop (n a) (U a))
