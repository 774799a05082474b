-- Pending blocks as a list: what is at its places, and the list without one of them.
use Rattle.std.proofs.Common.{◌≡◌, ℕ, zero, suc, ◌+◌, ◌-◌, ◌<◌, ◌≤◌, Bool, true, false, not, ◌==◌, List, [], ◌∷◌, ◌++◌, length, take, drop, get_or, refl, sym, ap, ◌∙◌, subst, inl, inr, arith, length-take, length-append}
use Rattle.std.specs.Prelude.{cond, nat_lt}
use Rattle.std.specs.List.{All, Contains, filter, remove}
use Rattle.std.proofs.lemmas.Bool.{cond_both, cond-true, cond-false, cases_lt, eqb-true, eq-eqb, ne_eqb, lt-ltb, le-ltb}
use Rattle.std.proofs.lemmas.List.{ext_get_or, get_or-take, get_or_append_left, length-take-le, take_at, take-take, take-append-le}
use Rattle.std.proofs.lemmas.List.Edits.{length-remove, get_or-remove_below, get_or-remove_above}
use Rattle.std.proofs.lemmas.List.Elements.{Contains-get_or, Contains-append_cases}
use Rattle.model_buffer.specs.Buffer.{numbers_in}
use Rattle.model_cache.specs.Shown.{AreApart, pending_but, pending_below}
use Rattle.model_cache.specs.Drains.{put_behind}
use Rattle.model_cache.proofs.Members.{Contains-none, Contains-first, Contains-later, Contains-cases}
use Rattle.ram_cache.specs.Rooms.{pending_at}

-- ---- a list without one of its places

module _ {X : Type 0} where
  -- the front of a list whose element at an index went to the end
  pub front_removed : (xs : List X) (k n : ℕ) (d : X) → k < n → n ≤ length xs → take (n - 1) (remove xs k ++ get_or xs k d ∷ []) ≡ remove (take n xs) k
  front_removed xs k n d within long =
      let short = length-remove xs k (omega arith) in
      let front = length-take-le n xs long in
      let less = length-remove (take n xs) k (omega arith) in
      ext_get_or d (take (n - 1) (remove xs k ++ get_or xs k d ∷ [])) (remove (take n xs) k)
      (length-take-le (n - 1) (remove xs k ++ get_or xs k d ∷ []) (long_enough xs k n d within long) ∙ omega (arith, less, front))
      (λ j below. at j (omega (arith, below, length-take (n - 1) (remove xs k ++ get_or xs k d ∷ []))))
    where
      long_enough : (xs : List X) (k n : ℕ) (d : X) → k < n → n ≤ length xs → n - 1 ≤ length (remove xs k ++ get_or xs k d ∷ [])
      long_enough xs k n d within long = let short = length-remove xs k (omega arith) in omega (arith, short, length-append (remove xs k) (get_or xs k d ∷ []))

      at : (j : ℕ) → j < n - 1 → get_or (take (n - 1) (remove xs k ++ get_or xs k d ∷ [])) j d ≡ get_or (remove (take n xs) k) j d
      at j below =
          let short = length-remove xs k (omega arith) in
          let front = length-take-le n xs long in
          get_or-take (n - 1) (remove xs k ++ get_or xs k d ∷ []) j d below
          ∙ get_or_append_left (remove xs k) (get_or xs k d ∷ []) d j (omega arith)
          ∙ elim (cases_lt j k) [
            | inl low ↦ get_or-remove_below xs k d j low (omega arith) ∙ sym (get_or-take n xs j d (omega arith)) ∙ sym (get_or-remove_below (take n xs) k d j low (omega arith))
            | inr high ↦ get_or-remove_above xs k d j high (omega arith) ∙ sym (get_or-take n xs (j + 1) d (omega arith)) ∙ sym (get_or-remove_above (take n xs) k d j high (omega arith))
          ]

  pub Contains-removed : (xs : List X) (k : ℕ) (q : X) → Contains (remove xs k) q → Contains xs q
  Contains-removed [] zero q has = absurd (Contains-none q has)
  Contains-removed [] (suc k) q has = absurd (Contains-none q has)
  Contains-removed (x ∷ xs) zero q has = Contains-later x xs q has
  Contains-removed (x ∷ xs) (suc k) q has = elim (Contains-cases x (remove xs k) q has) [
    | inl is ↦ subst (Contains (x ∷ xs)) is (Contains-first x xs)
    | inr more ↦ Contains-later x xs q (Contains-removed xs k q more)
  ]

  pub filter-removed : (p : X → Bool) (xs : List X) (k : ℕ) (d : X) → k < length xs → p (get_or xs k d) ≡ false → filter p (remove xs k) ≡ filter p xs
  filter-removed p [] k d within fails = absurd (omega arith)
  filter-removed p (x ∷ xs) zero d within fails = sym (cond-false (p x) (x ∷ filter p xs) (filter p xs) fails)
  filter-removed p (x ∷ xs) (suc k) d within fails =
      ap (λ (l : List X). cond (p x) (x ∷ l) l) (filter-removed p xs k d (omega arith) fails)

  -- what passes at each index is kept whole
  pub filter-all : (p : X → Bool) (xs : List X) (d : X) → ((j : ℕ) → j < length xs → p (get_or xs j d) ≡ true) → filter p xs ≡ xs
  filter-all p [] d all = refl
  filter-all p (x ∷ xs) d all =
      cond-true (p x) (x ∷ filter p xs) (filter p xs) (all 0 (omega arith))
      ∙ ap (λ (l : List X). x ∷ l) (filter-all p xs d (λ j below. all (suc j) (omega arith)))

pub apart-removed : (p : List (ℕ × List ℕ)) (k : ℕ) → AreApart p → AreApart (remove p k)
apart-removed [] zero apart = tt
apart-removed [] (suc k) apart = tt
apart-removed (held ∷ p) zero apart = apart.1
apart-removed (held ∷ p) (suc k) apart =
    (λ bytes has. apart.0 bytes (Contains-removed p k (held.0, bytes) has), apart-removed p k (apart.1))

-- ---- numbers

-- the one at an index is one of the list
pub Contains-held : (p : List (ℕ × List ℕ)) (k : ℕ) → k < length p → Contains p (pending_at p k)
Contains-held p k within = Contains-get_or p k (0, []) within

-- a block whose number is in no other stays out of the others
others_stay : (i : ℕ) (rest : List (ℕ × List ℕ)) → ((bytes : List ℕ) → ¬ Contains rest (i, bytes)) → pending_but i rest ≡ rest
others_stay i [] none = refl
others_stay i (held ∷ rest) none =
    cond_both (not (held.0 == i)) (held ∷ pending_but i rest) (pending_but i rest) (λ (l : List (ℕ × List ℕ)). l ≡ held ∷ rest)
    (λ t. ap (λ (l : List (ℕ × List ℕ)). held ∷ l) (others_stay i rest (λ bytes has. none bytes (Contains-later held rest (i, bytes) has))))
    (λ f. absurd (none held.1 (subst (λ (n : ℕ). Contains (held ∷ rest) (n, held.1)) (eqb-true held.0 i (is_same (held.0 == i) f)) (Contains-first held rest))))
  where
    is_same : (b : Bool) → not b ≡ false → b ≡ true
    is_same true f = refl
    is_same false f = absurd (let w = f in cc)

-- the blocks without the one at an index are those with other numbers
pub but_removed : (p : List (ℕ × List ℕ)) (k : ℕ) → AreApart p → k < length p → pending_but ((pending_at p k).0) p ≡ remove p k
but_removed [] k apart within = absurd (omega arith)
but_removed (held ∷ p) zero apart within =
    cond-false (not (held.0 == held.0)) (held ∷ pending_but held.0 p) (pending_but held.0 p) (ap not (eq-eqb held.0 held.0 refl)) ∙ others_stay held.0 p apart.0
but_removed (held ∷ p) (suc k) apart within =
    cond-true (not (held.0 == (pending_at p k).0)) (held ∷ pending_but ((pending_at p k).0) p) (pending_but ((pending_at p k).0) p)
    (ap not (ne_eqb held.0 ((pending_at p k).0) (λ e. apart.0 ((pending_at p k).1) (subst (λ (n : ℕ). Contains p (n, (pending_at p k).1)) (sym e) (Contains-held p k (omega arith))))))
    ∙ ap (λ (l : List (ℕ × List ℕ)). held ∷ l) (but_removed p k (apart.1) (omega arith))

-- a block whose number is in no other is there once
none_same : (i : ℕ) (rest : List (ℕ × List ℕ)) → ((bytes : List ℕ) → ¬ Contains rest (i, bytes)) → filter (λ (held : ℕ × List ℕ). held.0 == i) rest ≡ []
none_same i [] none = refl
none_same i (held ∷ rest) none =
    cond-false (held.0 == i) (held ∷ filter (λ (h : ℕ × List ℕ). h.0 == i) rest) (filter (λ (h : ℕ × List ℕ). h.0 == i) rest)
    (ne_eqb held.0 i (λ e. none held.1 (subst (λ (n : ℕ). Contains (held ∷ rest) (n, held.1)) e (Contains-first held rest))))
    ∙ none_same i rest (λ bytes has. none bytes (Contains-later held rest (i, bytes) has))

only_held : (p : List (ℕ × List ℕ)) (k : ℕ) → AreApart p → k < length p → filter (λ (held : ℕ × List ℕ). held.0 == (pending_at p k).0) p ≡ pending_at p k ∷ []
only_held [] k apart within = absurd (omega arith)
only_held (held ∷ p) zero apart within =
    cond-true (held.0 == held.0) (held ∷ filter (λ (h : ℕ × List ℕ). h.0 == held.0) p) (filter (λ (h : ℕ × List ℕ). h.0 == held.0) p) (eq-eqb held.0 held.0 refl)
    ∙ ap (λ (l : List (ℕ × List ℕ)). held ∷ l) (none_same held.0 p apart.0)
only_held (held ∷ p) (suc k) apart within =
    cond-false (held.0 == (pending_at p k).0) (held ∷ filter (λ (h : ℕ × List ℕ). h.0 == (pending_at p k).0) p) (filter (λ (h : ℕ × List ℕ). h.0 == (pending_at p k).0) p)
    (ne_eqb held.0 ((pending_at p k).0) (λ e. apart.0 ((pending_at p k).1) (subst (λ (n : ℕ). Contains p (n, (pending_at p k).1)) (sym e) (Contains-held p k (omega arith)))))
    ∙ only_held p k (apart.1) (omega arith)

-- the blocks with the one at an index behind the others
pub behind_removed : (p : List (ℕ × List ℕ)) (k : ℕ) → AreApart p → k < length p → put_behind ((pending_at p k).0) p ≡ remove p k ++ pending_at p k ∷ []
behind_removed p k apart within =
    ap (λ (l : List (ℕ × List ℕ)). l ++ filter (λ (held : ℕ × List ℕ). held.0 == (pending_at p k).0) p) (but_removed p k apart within)
    ∙ ap (λ (l : List (ℕ × List ℕ)). remove p k ++ l) (only_held p k apart within)

-- one that stands at no other index stays apart behind them
apart_end : (p : List (ℕ × List ℕ)) (held : ℕ × List ℕ) → AreApart p → ((bytes : List ℕ) → ¬ Contains p (held.0, bytes)) → AreApart (p ++ held ∷ [])
apart_end [] held apart none = (λ bytes has. Contains-none (held.0, bytes) has, tt)
apart_end (x ∷ p) held apart none = (
  λ bytes has. elim (Contains-append_cases p (held ∷ []) (x.0, bytes) has) [
    | inl there ↦ apart.0 bytes there
    | inr last ↦ elim (Contains-cases held [] (x.0, bytes) last) [
      | inl is ↦ none x.1 (subst (λ (n : ℕ). Contains (x ∷ p) (n, x.1)) (sym (ap (λ (h : ℕ × List ℕ). h.0) is)) (Contains-first x p))
      | inr nothing ↦ Contains-none (x.0, bytes) nothing
    ]
  ],
  apart_end p held (apart.1) (λ bytes has. none bytes (Contains-later x p (held.0, bytes) has)),
)

not_removed : (p : List (ℕ × List ℕ)) (k : ℕ) → AreApart p → k < length p → (bytes : List ℕ) → ¬ Contains (remove p k) ((pending_at p k).0, bytes)
not_removed [] k apart within bytes has = (omega arith)
not_removed (held ∷ p) zero apart within bytes has = apart.0 bytes has
not_removed (held ∷ p) (suc k) apart within bytes has = elim (Contains-cases held (remove p k) ((pending_at p k).0, bytes) has) [
  | inl is ↦ apart.0 ((pending_at p k).1) (subst (λ (n : ℕ). Contains p (n, (pending_at p k).1)) (sym (ap (λ (h : ℕ × List ℕ). h.0) is)) (Contains-held p k (omega arith)))
  | inr more ↦ not_removed p k (apart.1) (omega arith) bytes more
]

pub apart_behind : (p : List (ℕ × List ℕ)) (k : ℕ) → AreApart p → k < length p → AreApart (remove p k ++ pending_at p k ∷ [])
apart_behind p k apart within = apart_end (remove p k) (pending_at p k) (apart-removed p k apart) (not_removed p k apart within)

pub was_behind : (p : List (ℕ × List ℕ)) (k : ℕ) → k < length p → (held : ℕ × List ℕ) → Contains (remove p k ++ pending_at p k ∷ []) held → Contains p held
was_behind p k within held has = elim (Contains-append_cases (remove p k) (pending_at p k ∷ []) held has) [
  | inl there ↦ Contains-removed p k held there
  | inr last ↦ elim (Contains-cases (pending_at p k) [] held last) [
    | inl is ↦ subst (Contains p) is (Contains-held p k within)
    | inr nothing ↦ absurd (Contains-none held nothing)
  ]
]

-- the numbers that pass a test, of which the first is at this index
pub first_due : (t : ℕ → Bool) (p : List (ℕ × List ℕ)) (k : ℕ) → k < length p → t ((pending_at p k).0) ≡ true → ((j : ℕ) → j < k → t ((pending_at p j).0) ≡ false)
    → filter t (numbers_in p) ≡ (pending_at p k).0 ∷ filter t (numbers_in (remove p k))
first_due t [] k within passes before = absurd (omega arith)
first_due t (held ∷ p) zero within passes before = cond-true (t held.0) (held.0 ∷ filter t (numbers_in p)) (filter t (numbers_in p)) passes
first_due t (held ∷ p) (suc k) within passes before =
    cond-false (t held.0) (held.0 ∷ filter t (numbers_in p)) (filter t (numbers_in p)) (before 0 (omega arith))
    ∙ first_due t p k (omega arith) passes (λ j below. before (suc j) (omega arith))
    ∙ ap (λ (l : List ℕ). (pending_at p k).0 ∷ l) (sym (cond-false (t held.0) (held.0 ∷ filter t (numbers_in (remove p k))) (filter t (numbers_in (remove p k))) (before 0 (omega arith))))

-- none passes
pub none_due : (t : ℕ → Bool) (p : List (ℕ × List ℕ)) → ((j : ℕ) → j < length p → t ((pending_at p j).0) ≡ false) → filter t (numbers_in p) ≡ []
none_due t [] fails = refl
none_due t (held ∷ p) fails =
    cond-false (t held.0) (held.0 ∷ filter t (numbers_in p)) (filter t (numbers_in p)) (fails 0 (omega arith)) ∙ none_due t p (λ j below. fails (suc j) (omega arith))

-- ---- rooms

-- all rooms, of which one was put behind the others
pub rooms_filled : (items rooms now : List (ℕ × List ℕ)) (k count : ℕ) {len : ℕ} → k < length (take count items) → length items ≡ len → rooms ≡ items → now ≡ remove rooms k ++ get_or rooms k (0, []) ∷ []
    → take len (now ++ drop (length now) items) ≡ remove items k ++ get_or items k (0, []) ∷ []
rooms_filled items rooms now k count {len} within long same put =
    let is : now ≡ remove items k ++ get_or items k (0, []) ∷ [] = put ∙ ap (λ (l : List (ℕ × List ℕ)). remove l k ++ get_or l k (0, []) ∷ []) same in
    let short = length-remove items k (omega (arith, within, length-take count items)) in
    take_at now (drop (length now) items) len (ap length is ∙ length-append (remove items k) (get_or items k (0, []) ∷ []) ∙ omega (arith, short, long, within, length-take count items)) ∙ is

-- the front of the rooms, of which one was put behind the others of it
pub front_turned : (items rooms now : List (ℕ × List ℕ)) (k count : ℕ) {len : ℕ} → k < length (take count items) → length items ≡ len → len ≡ 32 → count ≤ 32 → rooms ≡ items
    → now ≡ (remove (take count rooms) k ++ get_or (take count rooms) k (0, []) ∷ []) ++ drop count rooms
    → take count (take len (now ++ drop (length now) items)) ≡ remove (take count items) k ++ pending_at (take count items) k ∷ []
front_turned items rooms now k count {len} within long many few same put =
    let whole : now ≡ (remove (take count items) k ++ pending_at (take count items) k ∷ []) ++ drop count items =
    put ∙ ap (λ (l : List (ℕ × List ℕ)). (remove (take count l) k ++ pending_at (take count l) k ∷ []) ++ drop count l) same in
    let front : length (take count items) ≡ count = length-take-le count items (omega (arith, long, many, few)) in
    let short = length-remove (take count items) k within in
    let turned : length (remove (take count items) k ++ pending_at (take count items) k ∷ []) ≡ count =
    length-append (remove (take count items) k) (pending_at (take count items) k ∷ []) ∙ omega (arith, short, front) in
    let now_long : length now ≡ count + length (drop count items) = ap length whole ∙ length-append (remove (take count items) k ++ pending_at (take count items) k ∷ []) (drop count items) ∙ omega (arith, turned) in
    take-take count len (now ++ drop (length now) items) (omega (arith, many, few))
    ∙ take-append-le count now (drop (length now) items) (omega (arith, now_long))
    ∙ ap (take count) whole
    ∙ take_at (remove (take count items) k ++ pending_at (take count items) k ∷ []) (drop count items) count turned

-- the pending blocks without the one at an index, whose room is behind the others
module _ (items new : List (ℕ × List ℕ)) (k count : ℕ) {len : ℕ} (within : k < length (take count items)) (long : length items ≡ len) (many : len ≡ 32) (few : count ≤ 32)
    (put : new ≡ remove items k ++ get_or items k (0, []) ∷ []) where
  pub left_removed : take (count - 1) new ≡ remove (take count items) k
  left_removed = ap (take (count - 1)) put ∙ front_removed items k count (0, []) (omega (arith, within, length-take count items)) (omega (arith, long, many, few))

  pub apart_left : AreApart (take count items) → AreApart (take (count - 1) new)
  apart_left apart = subst AreApart (sym left_removed) (apart-removed (take count items) k apart)

  pub whole_left : ((i : ℕ) (bytes : List ℕ) → Contains (take count items) (i, bytes) → length bytes ≡ 32768)
      → (i : ℕ) (bytes : List ℕ) → Contains (take (count - 1) new) (i, bytes) → length bytes ≡ 32768
  whole_left whole i bytes has = whole i bytes (Contains-removed (take count items) k (i, bytes) (subst (λ (l : List (ℕ × List ℕ)). Contains l (i, bytes)) left_removed has))

-- ---- those below a number

module _ (p : List (ℕ × List ℕ)) (blocks k : ℕ) (within : k < length p) where
  -- one that is not below is no loss
  pub below_removed : (q : List (ℕ × List ℕ)) → q ≡ remove p k → blocks ≤ (pending_at p k).0 → pending_below blocks q ≡ pending_below blocks p
  below_removed q is past = ap (pending_below blocks) is ∙ filter-removed (λ (x : ℕ × List ℕ). nat_lt x.0 blocks) p k (0, []) within (le-ltb ((pending_at p k).0) blocks past)

  -- those before it stay
  pub before_removed : (q : List (ℕ × List ℕ)) → q ≡ remove p k → ((j : ℕ) → j < k → (pending_at p j).0 < blocks) → (j : ℕ) → j < k → (pending_at q j).0 < blocks
  before_removed q is below j before =
      subst (λ (n : ℕ). n < blocks) (sym (ap (λ (l : List (ℕ × List ℕ)). (pending_at l j).0) is ∙ ap (λ (x : ℕ × List ℕ). x.0) (get_or-remove_below p k (0, []) j before within))) (below j before)

  pub shorter_removed : (q : List (ℕ × List ℕ)) → q ≡ remove p k → length q + 1 ≡ length p
  shorter_removed q is = ap (λ (l : List (ℕ × List ℕ)). length l + 1) is ∙ length-remove p k within

-- where all are below, none is dropped
pub all_kept : (p : List (ℕ × List ℕ)) (blocks : ℕ) → ((j : ℕ) → j < length p → (pending_at p j).0 < blocks) → p ≡ pending_below blocks p
all_kept p blocks below = sym (filter-all (λ (x : ℕ × List ℕ). nat_lt x.0 blocks) p (0, []) (λ j within. lt-ltb ((pending_at p j).0) blocks (below j within)))

-- each is one of the disc's
pub inside_at : {blocks : ℕ} (p : List (ℕ × List ℕ)) (k : ℕ) → k < length p → All (λ (x : ℕ × List ℕ). x.0 < blocks) p → (pending_at p k).0 < blocks
inside_at p k within inside = inside k (0, []) within

pub all_kept_by : (p : List (ℕ × List ℕ)) (blocks : ℕ) → All (λ (x : ℕ × List ℕ). x.0 < blocks) p → p ≡ pending_below blocks p
all_kept_by p blocks below = all_kept p blocks (λ j within. below j (0, []) within)
