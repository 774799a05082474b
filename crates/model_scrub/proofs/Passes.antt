-- After a pass the found blocks are those whose homes have no whole bytes.
use Rattle.std.proofs.Common.{◌≡◌, ℕ, zero, suc, ◌+◌, ◌*◌, ◌<◌, ◌≤◌, inl, inr, Option, Some, None, nat_lt, cond, Contains, refl, sym, ◌∙◌, ap, subst, arith}
use Rattle.std.specs.Prelude.{◌↔◌, IsSome}
use Rattle.std.specs.Option.{option_map_or}
use Rattle.std.proofs.lemmas.Bool.{cases_eq, cond-true, lt-ltb}
use Rattle.model_geometry.specs.Geometry.{Shape}
use Rattle.model_medium.specs.Cells.{Cell, IsGood, cell_at}
use Rattle.model_sectors.specs.Requests.{block_with, blocks_covered}
use Rattle.model_places.specs.Places.{Lists, logical_count, home_of}
use Rattle.model_places.specs.Valid.{AreValid}
use Rattle.model_volume.proofs.Moved.{homes_apart}
use Rattle.model_drive.specs.Shown.{IsKnown, cells_in, block_count, home, home_cell}
use Rattle.model_drive.specs.Sound.{IsSound}
use Rattle.model_drive.specs.Reads.{VerifiesAll, MeetsUnverified}
use Rattle.model_cache.specs.Shown.{CacheShown}
use Rattle.model_scrub.specs.declared.ends.StepEnd.{StepEnd}
use Rattle.model_scrub.specs.declared.ends.StepEnd.TheVariants.{Readable, Unreadable, NotFormatted, Cut, Off, Fault}
use Rattle.model_scrub.specs.declared.ends.PassEnd.TheVariants as passes
use Rattle.model_scrub.specs.Scrubs.{Scrubber, begun_on, read_well, met_unread, with_found}
use Rattle.model_scrub.specs.Asks.{StepRule, StepsThrough, EndsAs, PassRule, AreUnreadNow}
use Rattle.model_scrub.proofs.Rising.{in_with_block, with_block_there, with_block_keeps, in_without_block, without_block_keeps, in_below, below_keeps}

one_covered : (i : ℕ) → blocks_covered (16 * i) 16 ≡ 0 + 1
one_covered i = omega arith

its_block : (i k : ℕ) → k < blocks_covered (16 * i) 16 → block_with (16 * i) + k ≡ i
its_block i k covered = (let c = one_covered i in omega (arith, c, covered))

module _ (old : CacheShown) (lists : Lists) (in_use : old.drive.lists ≡ Some lists) (valid : AreValid old.drive.shape lists) where
  abbrev blocks : ℕ
  blocks = logical_count old.drive.shape lists

  abbrev home_here : ℕ → ℕ
  home_here j = home_of old.drive.shape lists j

  abbrev cell_now : CacheShown → ℕ → Cell
  cell_now shown j = cell_at (cells_in shown.drive) (home_here j)

  -- the lists in use stayed
  record Keeps (now : CacheShown) : Type 0 where
    pub shape : now.drive.shape ≡ old.drive.shape
    pub lists_are : now.drive.lists ≡ Some lists
    pub known : IsKnown now.drive

  counts : (now : CacheShown) → Keeps now → block_count now.drive ≡ blocks
  counts now keeps =
      ap (λ (l : Option Lists). option_map_or (logical_count now.drive.shape) l 0) keeps.lists_are
      ∙ ap (λ (s : Shape). logical_count s lists) keeps.shape

  home_is : (now : CacheShown) (j : ℕ) → Keeps now → home now.drive j ≡ home_here j
  home_is now j keeps =
      ap (λ (l : Option Lists). option_map_or (λ (x : Lists). home_of now.drive.shape x j) l 0) keeps.lists_are
      ∙ ap (λ (s : Shape). home_of s lists j) keeps.shape

  -- what k steps of a pass leave
  record Went (now : CacheShown) (u : Scrubber) (k : ℕ) : Type 0 where
    pub keeps : Keeps now
    pub next : u.next ≡ k
    pub seen : (j : ℕ) → j < k → Contains u.found j ↔ ¬ IsGood (cell_now now j)
    pub inside : 1 ≤ k → (j : ℕ) → Contains u.found j → j < blocks

  module _ (mid new : CacheShown) (u t : Scrubber) (k : ℕ) (went : Went mid u k) (low : k < blocks) (shape : new.drive.shape ≡ mid.drive.shape) where
    begun_next : (begun_on (block_count mid.drive) u).next ≡ k
    begun_next =
        ap (λ (n : ℕ). (begun_on n u).next) (counts mid went.keeps)
        ∙ ap (λ (n : ℕ). cond (nat_lt n blocks) n 0) went.next
        ∙ cond-true (nat_lt k blocks) k 0 (lt-ltb k blocks low)

    abbrev begun : Scrubber
    begun = begun_on blocks u

    begun_is : begun_on (block_count mid.drive) u ≡ begun
    begun_is = ap (λ (n : ℕ). begun_on n u) (counts mid went.keeps)

    next_is : begun.next ≡ k
    next_is = ap (λ (s : Scrubber). s.next) (sym begun_is) ∙ begun_next

    -- a block that could be read
    good_step : VerifiesAll mid.drive new.drive (16 * k) 16 → t ≡ read_well begun → Went new t (suc k)
    good_step cause leaves =
        let keeps : Keeps new = record {
          shape = shape ∙ went.keeps.shape;
          lists_are = cause.keeps.same_lists ∙ went.keeps.lists_are;
          known = cause.ends.reach.lasts.as_known ∙ went.keeps.known;
        } in
        let here : IsGood (cell_now new k) =
        subst (λ (b : ℕ). IsGood (cell_at (cells_in new.drive) b)) (ap (home new.drive) (its_block k 0 (let c = one_covered k in omega (arith, c))) ∙ home_is new k keeps)
        (cause.good went.keeps.known 0 (let c = one_covered k in omega (arith, c))) in
        record {
          keeps = keeps;
          next = ap (λ (s : Scrubber). s.next) leaves ∙ ap (λ (n : ℕ). n + 1) next_is ∙ omega arith;
          seen = λ j h. elim (cases_eq j k) [
            | inl same ↦ (
              (λ has. absurd ((in_without_block begun.next begun.found j (subst (λ (s : Scrubber). Contains s.found j) leaves has)).0 (same ∙ sym next_is))),
              (λ bad. absurd (bad (subst (λ (x : ℕ). IsGood (cell_now new x)) (sym same) here))),
            )
            | inr apart ↦ (let before = went.seen j (omega (arith, h, apart)) in (
              (λ has. subst (λ (c : Cell). ¬ IsGood c) (sym (cause.same_cells (home_here j)))
                  (before.0 (in_below blocks j u.found (in_without_block begun.next begun.found j (subst (λ (s : Scrubber). Contains s.found j) leaves has)).1).1)),
              (λ bad. subst (λ (s : Scrubber). Contains s.found j) (sym leaves)
                  (without_block_keeps begun.next begun.found j (λ same. apart (same ∙ next_is))
                  (below_keeps blocks j u.found (omega (arith, h, low)) (before.1 (subst (λ (c : Cell). ¬ IsGood c) (cause.same_cells (home_here j)) bad))))),
            ))
          ];
          inside = λ some j has. (in_below blocks j u.found (in_without_block begun.next begun.found j (subst (λ (s : Scrubber). Contains s.found j) leaves has)).1).0;
        }

    -- a block that could not
    bad_step : (named block : ℕ) → MeetsUnverified mid.drive new.drive (16 * k) 16 named block → t ≡ met_unread begun → Went new t (suc k)
    bad_step named block cause leaves =
        let keeps : Keeps new = record {
          shape = shape ∙ went.keeps.shape;
          lists_are = cause.keeps.same_lists ∙ went.keeps.lists_are;
          known = cause.ends.reach.lasts.as_known ∙ went.keeps.known;
        } in
        let at : block ≡ home_here k = cause.block_is ∙ ap (home new.drive) (its_block k cause.before cause.is_named.covered) ∙ home_is new k keeps in
        let here : ¬ IsGood (cell_now new k) = subst (λ (b : ℕ). ¬ IsGood (cell_at (cells_in new.drive) b)) at cause.unread in
        record {
          keeps = keeps;
          next = ap (λ (s : Scrubber). s.next) leaves ∙ ap (λ (n : ℕ). n + 1) next_is ∙ omega arith;
          seen = λ j h. elim (cases_eq j k) [
            | inl same ↦ (
              (λ has. subst (λ (x : ℕ). ¬ IsGood (cell_now new x)) (sym same) here),
              (λ bad. subst (λ (s : Scrubber). Contains s.found j) (sym leaves)
                  (subst (Contains (with_found begun.next begun.found)) (sym (same ∙ sym next_is)) (with_block_there begun.next begun.found))),
            )
            | inr apart ↦ (let before = went.seen j (omega (arith, h, apart)) in
                let other : cell_now new j ≡ cell_now mid j =
                cause.dies.others (home_here j) (λ same. apart (homes_apart old.drive.shape lists valid j k (omega (arith, h, low)) low (same ∙ at))) in (
                  (λ has. elim (in_with_block begun.next begun.found j (subst (λ (s : Scrubber). Contains s.found j) leaves has)) [
                    | inl same ↦ absurd (apart (same ∙ next_is))
                    | inr there ↦ subst (λ (c : Cell). ¬ IsGood c) (sym other) (before.0 (in_below blocks j u.found there).1)
                  ]),
                  (λ bad. subst (λ (s : Scrubber). Contains s.found j) (sym leaves)
                      (with_block_keeps begun.next begun.found j
                      (below_keeps blocks j u.found (omega (arith, h, low)) (before.1 (subst (λ (c : Cell). ¬ IsGood c) other bad))))),
                ))
          ];
          inside = λ some j has. elim (in_with_block begun.next begun.found j (subst (λ (s : Scrubber). Contains s.found j) leaves has)) [
            | inl same ↦ subst (λ (x : ℕ). x < blocks) (sym (same ∙ next_is)) low
            | inr there ↦ (in_below blocks j u.found there).0
          ];
        }

  one_more : (mid new : CacheShown) (u t : Scrubber) (k : ℕ) (end : StepEnd) → Went mid u k → k < blocks → EndsAs k end → StepRule mid new u end t → Went new t (suc k)
  one_more mid new u t k (Readable j) went low is step =
      good_step mid new u t k went low step.same_shape
      (subst (λ (x : ℕ). VerifiesAll mid.drive new.drive (16 * x) 16) is step.asks.0)
      (step.leaves.2 ∙ ap read_well (begun_is mid new u t k went low step.same_shape))
  one_more mid new u t k (Unreadable j) went low is step =
      bad_step mid new u t k went low step.same_shape step.asks.0 step.asks.1
      (subst (λ (x : ℕ). MeetsUnverified mid.drive new.drive (16 * x) 16 step.asks.0 step.asks.1) is step.asks.2.0)
      (step.leaves.2 ∙ ap met_unread (begun_is mid new u t k went low step.same_shape))
  one_more mid new u t k NotFormatted went low is step = absurd is
  one_more mid new u t k Cut went low is step = absurd is
  one_more mid new u t k Off went low is step = absurd is
  one_more mid new u t k Fault went low is step = absurd is

  goes : (new : CacheShown) (s t : Scrubber) (k : ℕ) → IsKnown old.drive → k ≤ blocks → StepsThrough old new s t k → Went new t k
  goes new s t zero known few (same, begins) = record {
    keeps = record {
      shape = ap (λ (x : CacheShown). x.drive.shape) same;
      lists_are = ap (λ (x : CacheShown). x.drive.lists) same ∙ in_use;
      known = subst (λ (x : CacheShown). IsKnown x.drive) (sym same) known;
    };
    next = ap (λ (x : Scrubber). x.next) begins;
    seen = λ j h. absurd (omega (arith, h));
    inside = λ some. absurd (omega (arith, some));
  }
  goes new s t (suc k) known few (mid, u, end, went, is, step) =
      one_more mid new u t k end (goes mid s u k known (omega (arith, few)) went) (omega (arith, few)) is step

  pub finds_unread : (new : CacheShown) (s t : Scrubber) → IsKnown old.drive → PassRule old new s passes.Done t → AreUnreadNow new.drive t.found
  finds_unread new s t known (on, formatted, went) j =
      let own : Keeps old = record { shape = refl; lists_are = in_use; known = known } in
      let many = counts old own in
      let done = goes new s t blocks known (omega arith) (subst (StepsThrough old new s t) many went) in
      let some = valid.together.secondary.area.some_logical in
      let count_now = counts new done.keeps in
      let cell_is : home_cell new.drive j ≡ cell_now new j = ap (cell_at (cells_in new.drive)) (home_is new j done.keeps) in (
        (λ has. let low = done.inside (omega (arith, some)) j has in
            (omega (arith, low, count_now), subst (λ (c : Cell). ¬ IsGood c) (sym cell_is) ((done.seen j low).0 has))),
        (λ both. (done.seen j (let l = both.0 in omega (arith, l, count_now))).1 (subst (λ (c : Cell). ¬ IsGood c) cell_is both.1)),
      )

pub pass_finds : (old new : CacheShown) (s t : Scrubber) → IsKnown old.drive → IsSound old.drive → PassRule old new s passes.Done t → AreUnreadNow new.drive t.found
pass_finds old new s t known sound pass = by_lists old.drive.lists refl
  where
    by_lists : (l : Option Lists) → old.drive.lists ≡ l → AreUnreadNow new.drive t.found
    by_lists None none = absurd (let h : IsSome {T = Lists} None = subst (λ (l : Option Lists). IsSome {T = Lists} l) none pass.1 in cc)
    by_lists (Some lists) is = finds_unread old lists is (sound.in_use lists is).valid new s t known pass
