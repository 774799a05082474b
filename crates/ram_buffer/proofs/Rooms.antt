-- A list of which one is brought to the front.
use Rattle.std.proofs.Common.{◌≡◌, ◌≢◌, ℕ, zero, suc, ◌+◌, ◌-◌, ◌<◌, ◌≤◌, inl, inr, not, List, [], ◌∷◌, ◌++◌, length, take, drop, get_or, Option, Some, None, refl, sym, ap, ◌∙◌, subst, arith, length-take}
use Rattle.std.specs.Prelude.{◌==◌, min, max}
use Rattle.std.specs.Option.{option_map}
use Rattle.std.specs.List.{filter, find}
use Rattle.std.proofs.lemmas.Bool.{cases_lt, cond-true, cond-false, eq-eqb, ne_eqb}
use Rattle.std.proofs.lemmas.List.{take_all, get_or-take, drop-take}
use lib.Seq.{drop-cons, take_at}
use borrow.Rule.Slice.PartMut.{put_mid}
use Rattle.model_buffer.specs.Buffer.{bytes_at, with_newest}
use Rattle.ram_buffer.specs.Held.{number_at, without, LacksNumber, HaveDistinctNumbers, IsSlotFor}

-- ---- a list without what is at a slot

module _ {X : Type 0} where
  pub without_is : (k : ℕ) (xs : List X) → take k xs ++ drop (suc k) xs ≡ without k xs
  without_is zero [] = refl
  without_is zero (x ∷ xs) = refl
  without_is (suc k) [] = refl
  without_is (suc k) (x ∷ xs) = ap (λ (l : List X). x ∷ l) (without_is k xs)

  take_none : (n : ℕ) → take {A = X} n [] ≡ []
  take_none zero = refl
  take_none (suc n) = refl

  -- the front of a list without what is at a slot
  pub front_without : (k n : ℕ) (xs : List X) → k ≤ n → take n (without k xs) ≡ without k (take (suc n) xs)
  front_without k n [] low = take_none n
  front_without zero n (x ∷ xs) low = refl
  front_without (suc k) zero (x ∷ xs) low = absurd (omega (arith, low))
  front_without (suc k) (suc n) (x ∷ xs) low = ap (λ (l : List X). x ∷ l) (front_without k n xs (omega (arith, low)))

  -- the front of a longer front
  pub front_twice : (n m : ℕ) (xs : List X) → n ≤ m → take n (take m xs) ≡ take n xs
  front_twice zero m xs low = refl
  front_twice (suc n) zero xs low = absurd (omega (arith, low))
  front_twice (suc n) (suc m) [] low = refl
  front_twice (suc n) (suc m) (x ∷ xs) low = ap (λ (l : List X). x ∷ l) (front_twice n m xs (omega (arith, low)))

  -- the first k without the last of them
  pub last_without : (k : ℕ) (xs : List X) → without k (take (suc k) xs) ≡ take k xs
  last_without k [] = sym (take_none k)
  last_without zero (x ∷ xs) = refl
  last_without (suc k) (x ∷ xs) = ap (λ (l : List X). x ∷ l) (last_without k xs)

  pub length-without : (k : ℕ) (xs : List X) → k < length xs → suc (length (without k xs)) ≡ length xs
  length-without k [] within = absurd (omega (arith, within))
  length-without zero (x ∷ xs) within = refl
  length-without (suc k) (x ∷ xs) within = ap suc (length-without k xs (omega (arith, within)))

  -- after `s[..k + 1].rotate_right(1)`
  fronted : (d : X) (k : ℕ) (xs front : List X) → k < length xs → front ≡ take (suc k) xs
      → (drop (length front - 1) front ++ take (length front - 1) front) ++ drop (suc k) xs ≡ get_or xs k d ∷ without k xs
  fronted d k xs front within is =
      let long : length front ≡ suc k = ap length is ∙ length-take (suc k) xs ∙ omega (arith, within) in
      let less : length front - 1 ≡ k = omega (arith, long) in
      let one : suc k ≡ k + 1 = omega arith in
      ap (λ (n : ℕ). (drop n front ++ take n front) ++ drop (suc k) xs) less
      ∙ ap (λ (l : List X). (drop k l ++ take k l) ++ drop (suc k) xs) is
      ∙ ap (λ (l : List X). (l ++ take k (take (suc k) xs)) ++ drop (suc k) xs)
      (ap (λ (n : ℕ). drop k (take n xs)) one ∙ drop-take k 1 xs ∙ ap (take 1) (drop-cons xs k d within))
      ∙ ap (λ (l : List X). get_or xs k d ∷ (l ++ drop (suc k) xs)) (front_twice k (suc k) xs (omega arith))
      ∙ ap (λ (l : List X). get_or xs k d ∷ l) (without_is k xs)

  put_first : (n : ℕ) (xs ys : List X) → put_mid 0 n xs ys ≡ ys ++ drop n xs
  put_first n [] ys = refl
  put_first n (x ∷ xs) ys = refl

  pub put_front : (d : X) (k n len : ℕ) (items rooms turned given : List X) → n ≡ suc k → k < len → length items ≡ len → rooms ≡ items
      → turned ≡ drop (length (take n rooms) - 1) (take n rooms) ++ take (length (take n rooms) - 1) (take n rooms)
      → given ≡ put_mid 0 n rooms turned → take len (given ++ drop (length given) items) ≡ get_or items k d ∷ without k items
  put_front d k n len items rooms turned given next within long same is put =
      let front : take n rooms ≡ take (suc k) items = ap (λ (l : List X). take n l) same ∙ ap (λ (m : ℕ). take m items) next in
      let rest : drop n rooms ≡ drop (suc k) items = ap (λ (l : List X). drop n l) same ∙ ap (λ (m : ℕ). drop m items) next in
      let whole : given ≡ get_or items k d ∷ without k items =
      put ∙ put_first n rooms turned ∙ ap (λ (l : List X). turned ++ l) rest ∙ ap (λ (l : List X). l ++ drop (suc k) items) is
      ∙ fronted d k items (take n rooms) (omega (arith, within, long)) front in
      take_at given (drop (length given) items) len (ap length whole ∙ length-without k items (omega (arith, within, long)) ∙ long) ∙ whole

-- ---- numbers

lacks_without : (i k : ℕ) (held : List (ℕ × List ℕ)) → LacksNumber i held → LacksNumber i (without k held)
lacks_without i k [] lacks = lacks
lacks_without i zero (h ∷ held) lacks = lacks.1
lacks_without i (suc k) (h ∷ held) lacks = (lacks.0, lacks_without i k held lacks.1)

apart_without : (k : ℕ) (held : List (ℕ × List ℕ)) → HaveDistinctNumbers held → HaveDistinctNumbers (without k held)
apart_without k [] apart = apart
apart_without zero (h ∷ held) apart = apart.1
apart_without (suc k) (h ∷ held) apart = (lacks_without h.0 k held apart.0, apart_without k held apart.1)

lacks_front : (i n : ℕ) (held : List (ℕ × List ℕ)) → LacksNumber i held → LacksNumber i (take n held)
lacks_front i zero held lacks = tt
lacks_front i (suc n) [] lacks = tt
lacks_front i (suc n) (h ∷ held) lacks = (lacks.0, lacks_front i n held lacks.1)

apart_front : (n : ℕ) (held : List (ℕ × List ℕ)) → HaveDistinctNumbers held → HaveDistinctNumbers (take n held)
apart_front zero held apart = tt
apart_front (suc n) [] apart = tt
apart_front (suc n) (h ∷ held) apart = (lacks_front h.0 n held apart.0, apart_front n held apart.1)

-- a number that the others lack is not at one of their slots
lacks_at : (i k : ℕ) (held : List (ℕ × List ℕ)) → k < length held → LacksNumber i held → number_at held k ≢ i
lacks_at i k [] within lacks = absurd (omega (arith, within))
lacks_at i zero (h ∷ held) within lacks = lacks.0
lacks_at i (suc k) (h ∷ held) within lacks = lacks_at i k held (omega (arith, within)) lacks.1

-- where no slot has a number, the list lacks it
lacks_all : (i : ℕ) (held : List (ℕ × List ℕ)) → ((j : ℕ) → j < length held → number_at held j ≢ i) → LacksNumber i held
lacks_all i [] none = tt
lacks_all i (h ∷ held) none = (none 0 (omega arith), lacks_all i held (λ j below. none (suc j) (omega (arith, below))))

-- the others lack the number of the one that is taken away
lacks_taken : (i k : ℕ) (held : List (ℕ × List ℕ)) → k < length held → number_at held k ≡ i → HaveDistinctNumbers held → LacksNumber i (without k held)
lacks_taken i k [] within is apart = absurd (omega (arith, within))
lacks_taken i zero (h ∷ held) within is apart = subst (λ (j : ℕ). LacksNumber j held) is apart.0
lacks_taken i (suc k) (h ∷ held) within is apart =
    ((λ same. lacks_at h.0 k held (omega (arith, within)) apart.0 (is ∙ sym same)), lacks_taken i k held (omega (arith, within)) is apart.1)

-- ---- what passes the test of a use

others_stay : (i : ℕ) (held : List (ℕ × List ℕ)) → LacksNumber i held → filter (λ h. not (h.0 == i)) held ≡ held
others_stay i [] lacks = refl
others_stay i (h ∷ held) lacks =
    cond-true (not (h.0 == i)) (h ∷ filter (λ x. not (x.0 == i)) held) (filter (λ x. not (x.0 == i)) held) (ap not (ne_eqb h.0 i lacks.0))
    ∙ ap (λ (l : List (ℕ × List ℕ)). h ∷ l) (others_stay i held lacks.1)

one_goes : (i k : ℕ) (held : List (ℕ × List ℕ)) → k < length held → number_at held k ≡ i → HaveDistinctNumbers held → filter (λ h. not (h.0 == i)) held ≡ without k held
one_goes i k [] within is apart = refl
one_goes i zero (h ∷ held) within is apart =
    cond-false (not (h.0 == i)) (h ∷ filter (λ x. not (x.0 == i)) held) (filter (λ x. not (x.0 == i)) held) (ap not (eq-eqb h.0 i is))
    ∙ others_stay i held (subst (λ (j : ℕ). LacksNumber j held) is apart.0)
one_goes i (suc k) (h ∷ held) within is apart =
    cond-true (not (h.0 == i)) (h ∷ filter (λ x. not (x.0 == i)) held) (filter (λ x. not (x.0 == i)) held)
    (ap not (ne_eqb h.0 i (λ same. lacks_at h.0 k held (omega (arith, within)) apart.0 (is ∙ sym same))))
    ∙ ap (λ (l : List (ℕ × List ℕ)). h ∷ l) (one_goes i k held (omega (arith, within)) is apart.1)

-- ---- looking for a block

passed_by : (i : ℕ) (h : ℕ × List ℕ) (held : List (ℕ × List ℕ)) → h.0 ≢ i → bytes_at i (h ∷ held) ≡ bytes_at i held
passed_by i h held other = ap (λ (o : Option (ℕ × List ℕ)). option_map (λ h. h.1) o) (cond-false (h.0 == i) (Some h) (find (λ x. x.0 == i) held) (ne_eqb h.0 i other))

pub found_at : (i k : ℕ) (held : List (ℕ × List ℕ)) → k < length held → number_at held k ≡ i → HaveDistinctNumbers held → bytes_at i held ≡ Some (get_or held k (0, [])).1
found_at i k [] within is apart = absurd (omega (arith, within))
found_at i zero (h ∷ held) within is apart =
    ap (λ (o : Option (ℕ × List ℕ)). option_map (λ h. h.1) o) (cond-true (h.0 == i) (Some h) (find (λ x. x.0 == i) held) (eq-eqb h.0 i is))
found_at i (suc k) (h ∷ held) within is apart =
    passed_by i h held (λ same. lacks_at h.0 k held (omega (arith, within)) apart.0 (is ∙ sym same)) ∙ found_at i k held (omega (arith, within)) is apart.1

none_found : (i : ℕ) (held : List (ℕ × List ℕ)) → LacksNumber i held → bytes_at i held ≡ None
none_found i [] lacks = refl
none_found i (h ∷ held) lacks = passed_by i h held lacks.0 ∙ none_found i held lacks.1

-- ---- the first n rooms

module _ (rooms : List (ℕ × List ℕ)) (count : ℕ) (long : count ≤ length rooms) where
  many : length (take count rooms) ≡ count
  many = length-take count rooms ∙ omega (arith, long)

  number_there : (k : ℕ) → k < count → number_at (take count rooms) k ≡ number_at rooms k
  number_there k within = ap (λ (h : ℕ × List ℕ). h.0) (get_or-take count rooms k (0, []) within)

  pub lacks_there : (i : ℕ) → ((j : ℕ) → j < count → number_at rooms j ≢ i) → LacksNumber i (take count rooms)
  lacks_there i none = lacks_all i (take count rooms) (λ j below same.
      let within : j < count = omega (arith, below, many) in none j within (sym (number_there j within) ∙ same))

  -- no block is found that has none of the slots
  pub none_there : (i : ℕ) → ((j : ℕ) → j < count → number_at rooms j ≢ i) → bytes_at i (take count rooms) ≡ None
  none_there i none = none_found i (take count rooms) (lacks_there i none)

  module _ (apart : HaveDistinctNumbers (take count rooms)) (i k : ℕ) (within : k < count) (is : number_at rooms k ≡ i) where
    below : k < length (take count rooms)
    below = omega (arith, within, many)

    is_there : number_at (take count rooms) k ≡ i
    is_there = number_there k within ∙ is

    pub bytes_there : bytes_at i (take count rooms) ≡ Some (get_or rooms k (0, [])).1
    bytes_there = found_at i k (take count rooms) below is_there apart ∙ ap (λ (h : ℕ × List ℕ). Some h.1) (get_or-take count rooms k (0, []) within)

    others_lack : LacksNumber i (without k (take count rooms))
    others_lack = lacks_taken i k (take count rooms) below is_there apart

    others_are : filter (λ h. not (h.0 == i)) (take count rooms) ≡ without k (take count rooms)
    others_are = one_goes i k (take count rooms) below is_there apart

    others_few : suc (length (without k (take count rooms))) ≡ count
    others_few = length-without k (take count rooms) below ∙ many

-- A block was put before the others, from its slot or from that of one that makes room.
module _ (rooms : List (ℕ × List ℕ)) (count : ℕ) (long : count ≤ length rooms) (few : count ≤ 8) (apart : HaveDistinctNumbers (take count rooms)) (i k : ℕ) (bytes : List ℕ) where
  abbrev pub used : List (ℕ × List ℕ)
  used = (i, bytes) ∷ without k rooms

  pub record IsUsed (n : ℕ) : Type 0 where
    pub others_apart : HaveDistinctNumbers (take n used)
    pub is : take n used ≡ with_newest i bytes (take count rooms)
    pub at_most : n ≤ 8

  -- from its own slot
  own_used : (n : ℕ) → n ≡ count → k < count → number_at rooms k ≡ i → IsUsed n
  own_used zero all within is = absurd (omega (arith, all, within))
  own_used (suc m) all within is =
      let others : take m (without k rooms) ≡ without k (take count rooms) = front_without k m rooms (omega (arith, within, all)) ∙ ap (λ (n : ℕ). without k (take n rooms)) all in
      let less = others_few rooms count long apart i k within is in
      let same = others_are rooms count long apart i k within is in
      record {
        others_apart = subst (λ (l : List (ℕ × List ℕ)). LacksNumber i l × HaveDistinctNumbers l) (sym others) (others_lack rooms count long apart i k within is, apart_without k (take count rooms) apart);
        is = ap (λ (l : List (ℕ × List ℕ)). (i, bytes) ∷ l) (others ∙ sym same)
            ∙ sym (take_all 8 ((i, bytes) ∷ filter (λ h. not (h.0 == i)) (take count rooms)) (omega (arith, few, less, ap length same)));
        at_most = omega (arith, all, few);
      }

  front_of_front : take (min count 7) rooms ≡ take 7 (take count rooms)
  front_of_front = elim (cases_lt count 8) [
    | inl low ↦ ap (λ (n : ℕ). take n rooms) (let all : min count 7 ≡ count = omega (arith, low) in all) ∙ sym (take_all 7 (take count rooms) (omega (arith, low, length-take count rooms)))
    | inr high ↦ ap (λ (n : ℕ). take n rooms) (let seven : min count 7 ≡ 7 = omega (arith, high) in seven) ∙ sym (front_twice 7 count rooms (omega (arith, high)))
  ]

  -- from a slot that was free, or is made so
  free_used : ((j : ℕ) → j < count → number_at rooms j ≢ i) → k ≡ min count 7 → IsUsed (suc k)
  free_used none last =
      let lacks = lacks_there rooms count long i none in
      let others : take k (without k rooms) ≡ take 7 (take count rooms) =
      front_without k k rooms (omega arith) ∙ last_without k rooms ∙ ap (λ (n : ℕ). take n rooms) last ∙ front_of_front in
      record {
        others_apart = subst (λ (l : List (ℕ × List ℕ)). LacksNumber i l × HaveDistinctNumbers l) (sym others) (lacks_front i 7 (take count rooms) lacks, apart_front 7 (take count rooms) apart);
        is = ap (λ (l : List (ℕ × List ℕ)). (i, bytes) ∷ l) (others ∙ ap (take 7) (sym (others_stay i (take count rooms) lacks)));
        at_most = omega (arith, last);
      }

  -- with as many blocks as there are then
  pub put_used : IsSlotFor rooms count i k → IsUsed (max count (suc k))
  put_used (inl p) = own_used (max count (suc k)) (let within = p.0 in omega (arith, within)) p.0 p.1
  put_used (inr p) = subst IsUsed (let last = p.1 in omega (arith, last, few)) (free_used p.0 p.1)

  pub found_used : k < count → number_at rooms k ≡ i → IsUsed count
  found_used within is = own_used count refl within is
