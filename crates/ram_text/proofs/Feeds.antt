-- Where the first line feed of a list is, by what a search of its back told.
use Rattle.std.proofs.Common.{◌≡◌, ◌≢◌, ℕ, ◌+◌, ◌-◌, ◌<◌, ◌≤◌, ⊎_elim, None, Some, List, ◌∷◌, ◌++◌, slice_range, length, take, drop, get_or, subst, sym, ◌∙◌, ap, arith, length-take, length-drop, take_all, le_refl}
use Rattle.std.proofs.lemmas.Bool.{eq-eqb, eqb-true, cases_lt}
use Rattle.std.proofs.lemmas.List.{get_or-take, get_or-drop, get_or_default, take_rest, take-take, drop-take, drop-drop, drop_more, take-append-drop}
use Rattle.memchr.specs.Find.{IsFirstByte, Passes, Nowhere, is_byte}
use Rattle.ram_text.specs.Lines.{HasNoFeed, FeedAt}

-- no feed among the first n, and none at the places behind them
HasNoFeed-joined : (bytes : List ℕ) (n m : ℕ) → m ≤ length bytes → HasNoFeed (take n bytes) → ((k : ℕ) → n ≤ k → k < m → get_or bytes k 0 ≢ 10) → HasNoFeed (take m bytes)
HasNoFeed-joined bytes n m le prefix back k d lt is =
    let below : k < m = omega (arith, length-take m bytes) in
    let here : get_or bytes k 0 ≡ 10 = get_or_default bytes k 0 d (omega arith) ∙ (sym (get_or-take m bytes k d below) ∙ is) in
    ⊎_elim (λ (lower : k < n). prefix k 0 (omega (arith, length-take n bytes)) (get_or-take n bytes k 0 lower ∙ here)) (λ higher. back k higher below here) (cases_lt k n)

-- a offset behind the first n at which the search of the back found nothing
not_behind : (bytes : List ℕ) (n j k : ℕ) → n ≤ k → k < n + j → Nowhere (Passes (is_byte 10) (drop n bytes)) 0 j → get_or bytes k 0 ≢ 10
not_behind bytes n j k le lt nowhere is =
    let offset : n + (k - n) ≡ k = omega arith in
    nowhere (k - n) (omega arith) (omega arith) (eq-eqb _ 10 (get_or-drop n bytes (k - n) 0 ∙ (ap (λ i. get_or bytes i 0) offset ∙ is)))

pub feed_missed : (bytes : List ℕ) (n : ℕ) → n ≤ length bytes → HasNoFeed (take n bytes) → IsFirstByte (is_byte 10) (take (length bytes - n) (drop n bytes)) None → HasNoFeed bytes
feed_missed bytes n le prefix searched =
    let nowhere = subst (λ (back : List ℕ). IsFirstByte (is_byte 10) back None) (take_rest bytes n) searched in
    let all = HasNoFeed-joined bytes n (length bytes) (le_refl _) prefix (λ k low high. not_behind bytes n (length (drop n bytes)) k low (omega (arith, length-drop n bytes)) nowhere) in
    subst HasNoFeed (take_all (length bytes) bytes (le_refl _)) all

pub feed_found : (bytes : List ℕ) (n k : ℕ) → n ≤ length bytes → HasNoFeed (take n bytes) → IsFirstByte (is_byte 10) (take (length bytes - n) (drop n bytes)) (Some k) → FeedAt bytes (n + k)
feed_found bytes n k le prefix searched =
    let found = subst (λ (back : List ℕ). IsFirstByte (is_byte 10) back (Some k)) (take_rest bytes n) searched in
    record {
      inside = omega (arith, length-drop n bytes, found.0.high);
      feed = sym (get_or-drop n bytes k 0) ∙ eqb-true _ 10 found.1;
      first = HasNoFeed-joined bytes n (n + k) (omega (arith, length-drop n bytes, found.0.high)) prefix (λ j low high. not_behind bytes n k j low high found.0.before);
    }

-- a prefix of bytes without a line feed has none
pub HasNoFeed-prefix : (bytes : List ℕ) (n : ℕ) → HasNoFeed bytes → HasNoFeed (take n bytes)
HasNoFeed-prefix bytes n clear k d lt is =
    let below : k < n = omega (arith, length-take n bytes) in
    clear k d (omega (arith, length-take n bytes)) (sym (get_or-take n bytes k d below) ∙ is)

-- the same of a shorter front
pub HasNoFeed-shorter : (bytes : List ℕ) (m n : ℕ) → m ≤ n → HasNoFeed (take n bytes) → HasNoFeed (take m bytes)
HasNoFeed-shorter bytes m n le clear = subst HasNoFeed (take-take m n bytes le) (HasNoFeed-prefix (take n bytes) m clear)

-- no list has its first line feed behind a front that has none
pub feed_not_within : (bytes : List ℕ) (offset n : ℕ) → FeedAt bytes offset → HasNoFeed (take n bytes) → n ≤ offset
feed_not_within bytes offset n at clear =
    ⊎_elim (λ (lower : offset < n). let inside : offset < length bytes = at.inside in absurd (clear offset 0 (omega (arith, length-take n bytes)) (get_or-take n bytes offset 0 lower ∙ at.feed))) (λ le. le) (cases_lt offset n)

-- the first line feed is at one offset
pub FeedAt-one : (bytes : List ℕ) (a b : ℕ) → FeedAt bytes a → FeedAt bytes b → a ≡ b
FeedAt-one bytes a b first second =
    let low = feed_not_within bytes a b first second.first in
    let high = feed_not_within bytes b a second first.first in
    omega arith

-- what lies between two places is a line, its line feed, and what lies behind it
pub slice_at_feed : (bytes : List ℕ) (start end offset : ℕ) → FeedAt (slice_range bytes start end) offset → slice_range bytes start end ≡ slice_range bytes start (start + offset) ++ (10 ∷ slice_range bytes (start + offset + 1) end)
slice_at_feed bytes start end offset at =
    let held : List ℕ = slice_range bytes start end in
    let inside : offset < length held = at.inside in
    let longer : offset < end - start = omega (arith, length-take (end - start) (drop start bytes)) in
    let prefix : take offset held ≡ slice_range bytes start (start + offset) =
    take-take offset (end - start) (drop start bytes) (omega arith) ∙ ap (λ n. take n (drop start bytes)) (let e : offset ≡ start + offset - start = omega arith in e) in
    let back : drop (offset + 1) held ≡ slice_range bytes (start + offset + 1) end =
    ap (λ n. drop (offset + 1) (take n (drop start bytes))) (let e : end - start ≡ offset + 1 + (end - (start + offset + 1)) = omega arith in e)
    ∙ drop-take (offset + 1) (end - (start + offset + 1)) (drop start bytes)
    ∙ ap (take (end - (start + offset + 1))) (drop-drop (offset + 1) start bytes ∙ ap (λ n. drop n bytes) (let e : start + (offset + 1) ≡ start + offset + 1 = omega arith in e)) in
    sym (take-append-drop offset held) ∙ ap (λ xs. take offset held ++ xs) (drop_more held offset 0 inside ∙ ap (λ x. x ∷ drop (offset + 1) held) at.feed)
    ∙ ap (λ xs. xs ++ (10 ∷ drop (offset + 1) held)) prefix ∙ ap (λ xs. slice_range bytes start (start + offset) ++ (10 ∷ xs)) back

-- the line before a line feed is the front of what was searched
pub slice_before_feed : (bytes : List ℕ) (start end offset : ℕ) → FeedAt (slice_range bytes start end) offset → take offset (slice_range bytes start end) ≡ slice_range bytes start (start + offset)
slice_before_feed bytes start end offset at =
    let held : List ℕ = slice_range bytes start end in
    let inside : offset < length held = at.inside in
    let longer : offset < end - start = omega (arith, length-take (end - start) (drop start bytes)) in
    take-take offset (end - start) (drop start bytes) (omega arith) ∙ ap (λ n. take n (drop start bytes)) (let e : offset ≡ start + offset - start = omega arith in e)
