-- All covered blocks come into the cache: what the drive stands for then.
use Rattle.std.proofs.Common.{◌≡◌, ℕ, zero, suc, ◌+◌, ◌-◌, ◌*◌, ◌<◌, ◌≤◌, ◌⊎◌, inl, inr, true, false, List, [], ◌∷◌, ◌++◌, Option, Some, None, length, map, refl, sym, ap, ◌∙◌, subst, arith}
use Rattle.std.specs.List.{Contains}
use Rattle.std.proofs.lemmas.Bool.{cases_Bool, cases_lt, cond-true, cond-false}
use Rattle.std.proofs.lemmas.List.Elements.{Contains-append_left, Contains-append_right, Contains-append_cases}
use Rattle.model_buffer.specs.Buffer.{bytes_at, numbers_in}
use Rattle.model_sectors.specs.Discs.{Standing, On, block_of, replaced}
use Rattle.model_sectors.specs.Requests.{block_with, blocks_covered, merged_in, IsCovered}
use Rattle.model_sectors.proofs.Covering.{covered_inside}
use Rattle.model_drive.specs.Shown.{Shown, StandsFor, block_count, cells_in}
use Rattle.model_cache.specs.Values.{Values, Has, HasBlock, HasValue, IsPending, IsTaken, IsUnder, StandsCached, is_among, cached, values_now}
use Rattle.model_cache.specs.Causes.{put_over, fresh_blocks}
use Rattle.model_cache.specs.Falling.{LiesIn}
use Rattle.model_cache.proofs.Members.{Contains-none, Contains-first, Contains-later, Contains-cases}
use Rattle.model_cache.proofs.ReplacedBlocks.{as_long_as}
use Rattle.ram_cache.proofs.Entering.{long_by}
use Rattle.ram_cache.proofs.Numbers.{has_number, number_held}
use Rattle.model_cache.proofs.Held.{some_at}
use Rattle.ram_cache.proofs.Fresh.{fresh_below, fresh_has}
use Rattle.ram_cache.proofs.Written.{among_parts, among_from, written_block, other_written, lies_shown}

-- ---- members of a mapped list

mapped_from : (f : (ℕ × List ℕ) → (ℕ × List ℕ)) (p : List (ℕ × List ℕ)) (q : ℕ × List ℕ) → Contains (map f p) q → (x : ℕ × List ℕ) × Contains p x × (f x ≡ q)
mapped_from f [] q has = absurd (Contains-none q has)
mapped_from f (x ∷ p) q has = elim (Contains-cases (f x) (map f p) q has) [
  | inl is ↦ (x, Contains-first x p, is)
  | inr more ↦ let found = mapped_from f p q more in (found.0, Contains-later x p (found.0) (found.1), found.2)
]

mapped_to : (f : (ℕ × List ℕ) → (ℕ × List ℕ)) (p : List (ℕ × List ℕ)) (x : ℕ × List ℕ) → Contains p x → Contains (map f p) (f x)
mapped_to f [] x has = absurd (Contains-none x has)
mapped_to f (y ∷ p) x has = elim (Contains-cases y p x has) [
  | inl is ↦ subst (λ (z : ℕ × List ℕ). Contains (f y ∷ map f p) (f z)) is (Contains-first (f y) (map f p))
  | inr more ↦ Contains-later (f y) (map f p) (f x) (mapped_to f p x more)
]

-- a block has its value now among those of n
now_has : (disc : List ℕ) (first count i : ℕ) → first ≤ i → i < first + count → Contains (values_now disc first count) (i, block_of disc i)
now_has disc first zero i low high = absurd (omega (arith, low, high))
now_has disc first (suc k) i low high = elim (cases_lt i (first + k)) [
  | inl below ↦ Contains-later (first + k, block_of disc (first + k)) (values_now disc first k) (i, block_of disc i) (now_has disc first k i low below)
  | inr from ↦
      let at : first + k ≡ i = omega (arith, from, high) in
      subst (λ (m : ℕ). Contains (values_now disc first (suc k)) (m, block_of disc m)) at (Contains-first (first + k, block_of disc (first + k)) (values_now disc first k))
]

module _ (d : List ℕ) (v : Values) (p fresh : List (ℕ × List ℕ)) (under : IsUnder p d v) (lba n : ℕ) (bytes : List ℕ) (lies : LiesIn d lba n bytes)
    (fresh_are : numbers_in fresh ≡ fresh_blocks p (block_with lba) (blocks_covered lba n))
    (right : (i : ℕ) (held : List ℕ) → Contains fresh (i, held) → held ≡ merged_in lba n bytes i (block_of v.disc i)) where
  abbrev first : ℕ
  first = block_with lba

  abbrev count : ℕ
  count = blocks_covered lba n

  abbrev end : ℕ
  end = first + count

  abbrev f : (ℕ × List ℕ) → (ℕ × List ℕ)
  f = put_over lba n bytes

  lies' : LiesIn v.disc lba n bytes
  lies' = lies_shown d v.disc lba n bytes under.taken.as_long lies

  covered_or : (i : ℕ) → IsCovered lba n i ⊎ ((i < first) ⊎ (end ≤ i))
  covered_or i = elim (cases_lt i first) [
    | inl low ↦ inr (inl low)
    | inr from ↦ elim (cases_lt i end) [ inl below ↦ inl (from, below) | inr high ↦ inr (inr high) ]
  ]

  among_covered : (i : ℕ) → IsCovered lba n i → is_among first count i ≡ true
  among_covered i covered = among_from first count i (covered.0) (covered.1)

  over_covered : (i : ℕ) (held : List ℕ) → is_among first count i ≡ true → f (i, held) ≡ (i, merged_in lba n bytes i held)
  over_covered i held among = ap (λ (b : List ℕ). (i, b)) (cond-true (is_among first count i) (merged_in lba n bytes i held) held among)

  over_other : (i : ℕ) (held : List ℕ) → is_among first count i ≡ false → f (i, held) ≡ (i, held)
  over_other i held among = ap (λ (b : List ℕ). (i, b)) (cond-false (is_among first count i) (merged_in lba n bytes i held) held among)

  -- what was pending still is
  pending_still : (i : ℕ) → IsPending p i → IsPending (map f p ++ fresh) i
  pending_still i (held, has) = ((f (i, held)).1, Contains-append_left (map f p) fresh (f (i, held)) (mapped_to f p (i, held) has))

  -- and each covered block is
  covered_pending : (i : ℕ) → IsCovered lba n i → IsPending (map f p ++ fresh) i
  covered_pending i covered = by_bytes (bytes_at i p) refl
    where
      by_bytes : (o : Option (List ℕ)) → bytes_at i p ≡ o → IsPending (map f p ++ fresh) i
      by_bytes (Some held) is = pending_still i (held, some_at p i held is)
      by_bytes None is =
          let k : ℕ = i - first in
          let low = covered.0 in
          let high = covered.1 in
          let at : first + k ≡ i = omega (arith, low) in
          let there : Contains (fresh_blocks p first count) (first + k) = fresh_has p first count k (omega (arith, low, high)) (subst (λ (m : ℕ). bytes_at m p ≡ None) (sym at) is) in
          let found = number_held fresh i (subst (λ (l : List ℕ). Contains l i) (sym fresh_are) (subst (λ (m : ℕ). Contains (fresh_blocks p first count) m) at there)) in
          (found.0, Contains-append_right (map f p) fresh (i, found.0) (found.1))

  cached_taken : IsTaken (cached v lba n bytes) d
  cached_taken = record {
    as_long = as_long_as v.disc lba n bytes end lies' ∙ under.taken.as_long;
    each = λ i. value_of i (under.taken.each i) (covered_or i);
  }
    where
      value_of : (i : ℕ) → HasValue v i (block_of d i) → IsCovered lba n i ⊎ ((i < first) ⊎ (end ≤ i)) → HasValue (cached v lba n bytes) i (block_of d i)
      value_of i (inr older) out = inr (Contains-append_right (values_now v.disc first count) v.older (i, block_of d i) older)
      value_of i (inl e) (inl covered) =
          inr (Contains-append_left (values_now v.disc first count) v.older (i, block_of d i)
          (subst (λ (b : List ℕ). Contains (values_now v.disc first count) (i, b)) (sym e) (now_has v.disc first count i (covered.0) (covered.1))))
      value_of i (inl e) (inr out) = inl (e ∙ sym (other_written v.disc lba n bytes lies' end i out))

  pub cached_under : IsUnder (map f p ++ fresh) d (cached v lba n bytes)
  cached_under = record {
    taken = cached_taken;
    inside = λ i held has. inside_of i held (Contains-append_cases (map f p) fresh (i, held) has);
    last = λ i held has. last_of i held (Contains-append_cases (map f p) fresh (i, held) has);
    others = λ i none. others_of i none (covered_or i);
  }
    where
      inside_of : (i : ℕ) (held : List ℕ) → Contains (map f p) (i, held) ⊎ Contains fresh (i, held) → HasBlock d i
      inside_of i held (inl old) =
          let found = mapped_from f p (i, held) old in
          let number : (found.0).0 ≡ i = ap (λ (x : ℕ × List ℕ). x.0) (found.2) in
          subst (HasBlock d) number (under.inside ((found.0).0) ((found.0).1) (found.1))
      inside_of i held (inr new) =
          let parts = fresh_below p first count i (subst (λ (l : List ℕ). Contains l i) fresh_are (has_number fresh i held new)) in
          let low = parts.0 in
          let high = parts.1 in
          let k : ℕ = i - first in
          let at : first + k ≡ i = omega (arith, low) in
          let within : i < lies.blocks = subst (λ (m : ℕ). m < lies.blocks) at (covered_inside lba n k lies.blocks lies.inside (omega (arith, low, high))) in
          let long = lies.as_long in
          omega (arith, within, long)

      out : (i : ℕ) → is_among first count i ≡ false → IsCovered lba n i ⊎ ((i < first) ⊎ (end ≤ i)) → (i < first) ⊎ (end ≤ i)
      out i other (inl covered) = absurd (differ (sym (among_covered i covered) ∙ other))
        where
          differ : true ≡ false → ⊥
          differ e = cc
      out i other (inr past) = past

      last_of : (i : ℕ) (held : List ℕ) → Contains (map f p) (i, held) ⊎ Contains fresh (i, held) → block_of (replaced v.disc lba bytes end) i ≡ held
      last_of i held (inr new) =
          let covered = fresh_below p first count i (subst (λ (l : List ℕ). Contains l i) fresh_are (has_number fresh i held new)) in
          written_block v.disc lba n bytes lies' end i (covered.0, covered.1) (covered.1) ∙ sym (right i held new)
      last_of i held (inl old) =
          let found = mapped_from f p (i, held) old in
          let x : ℕ × List ℕ = found.0 in
          let number : x.0 ≡ i = ap (λ (y : ℕ × List ℕ). y.0) (found.2) in
          subst (λ (m : ℕ). block_of (replaced v.disc lba bytes end) m ≡ held) number
          (elim (cases_Bool (is_among first count x.0)) [
            | inl among ↦
                let covered = among_parts first count x.0 among in
                written_block v.disc lba n bytes lies' end x.0 (covered.0, covered.1) (covered.1)
                ∙ ap (merged_in lba n bytes x.0) (under.last x.0 x.1 (found.1))
                ∙ ap (λ (y : ℕ × List ℕ). y.1) (sym (over_covered x.0 x.1 among) ∙ found.2)
            | inr other ↦
                other_written v.disc lba n bytes lies' end x.0 (out x.0 other (covered_or x.0))
                ∙ under.last x.0 x.1 (found.1)
                ∙ ap (λ (y : ℕ × List ℕ). y.1) (sym (over_other x.0 x.1 other) ∙ found.2)
          ])

      others_of : (i : ℕ) → ¬ IsPending (map f p ++ fresh) i → IsCovered lba n i ⊎ ((i < first) ⊎ (end ≤ i)) → block_of (replaced v.disc lba bytes end) i ≡ block_of d i
      others_of i none (inl covered) = absurd (none (covered_pending i covered))
      others_of i none (inr past) = other_written v.disc lba n bytes lies' end i past ∙ under.others i (λ was. none (pending_still i was))

-- the drive stands for the same disc below, and its values with those of the write
pub come_values : (drive : Shown) (amid : Standing → Type 0) (p fresh now : List (ℕ × List ℕ)) → ((s : Standing) → amid s → StandsFor drive s) → (lba n : ℕ) (bytes : List ℕ) → lba + n ≤ 16 * block_count drive
    → length bytes ≡ 2048 * n → now ≡ map (put_over lba n bytes) p ++ fresh → numbers_in fresh ≡ fresh_blocks p (block_with lba) (blocks_covered lba n) → (v : Values)
    → ((i : ℕ) (held : List ℕ) → Contains fresh (i, held) → held ≡ merged_in lba n bytes i (block_of v.disc i)) → StandsCached amid p (Has v) → StandsCached amid now (Has (cached v lba n bytes))
come_values drive amid p fresh now shown lba n bytes inside whole is fresh_are v right (d, so, under) =
    let lies : LiesIn d lba n bytes = record {
      blocks = block_count drive;
      as_long = long_by drive.shape (cells_in drive) drive.lists drive.buffer d ((shown (On d) so).2);
      inside = inside;
      whole = whole;
    } in
    (d, so, subst (λ (l : List (ℕ × List ℕ)). IsUnder l d (cached v lba n bytes)) (sym is) (cached_under d v p fresh under lba n bytes lies fresh_are right))
