-- No use, and one part after another.
use Rattle.std.specs.Prelude.{◌≡◌, ℕ, ◌+◌, ◌⊎◌, IsTrue}
use Rattle.std.proofs.Common.{refl, sym, ap, ◌∙◌, inl, inr, subst, arith}
use Rattle.model_counts.specs.Counts.{counted}
use Rattle.model_medium.specs.Cells.{Dead, cell_at}
use Rattle.model_medium.specs.World.{World}
use Rattle.model_medium.specs.Machine.{Machine, IsToCome}
use Rattle.model_medium.specs.Reach.{Lasts, NoCutCame, CutCame, Follows, IsWornWithin, WornBy, CutStands, CutFell, Reach}
use Rattle.model_medium.proofs.CellFacts.{good_or_dead-good, good_or_dead-then, dead_or_torn-then}
use Rattle.model_medium.proofs.Arms.{worn_by-none, worn_by-then, worn_within-before, worn_within-more, cut_stands-none, cut_stands-then, cut_fell-then}

counted-none : (n : ℕ) → counted n 0 ≡ n
counted-none n = omega arith

counted-then : (n j k : ℕ) → counted (counted n j) k ≡ counted n (j + k)
counted-then n j k = omega arith

lasts_none : (world : World) → Lasts world world 0
lasts_none world = record { same_label = refl; as_known = refl; counts = sym (counted-none world.uses); no_fault = refl; stays_dead = λ block e. e }

no_cut_none : (world : World) → NoCutCame world world
no_cut_none world = record { power_same = refl; no_cut = refl; stays_good = λ block h. good_or_dead-good (cell_at world.cells block) h }

pub follows_none : (world : World) → Follows world world 0
follows_none world = record { lasts = lasts_none world; off_is_still = λ off. (refl, refl); ends = inl (no_cut_none world) }

pub reach_none : (machine : Machine) → IsToCome machine.cut → Reach machine machine 0
reach_none machine to_come = record {
  lasts = lasts_none machine.world;
  off_is_still = λ off. (refl, refl);
  dies_by_arm = λ block e. inl e;
  arms = worn_by-none machine.world.cells machine.arms;
  ends = inl (no_cut_none machine.world, cut_stands-none machine.cut to_come);
}

lasts_then : (a b c : World) (j k : ℕ) → Lasts a b j → Lasts b c k → Lasts a c (j + k)
lasts_then a b c j k one two = record {
  same_label = two.same_label ∙ one.same_label;
  as_known = two.as_known ∙ one.as_known;
  counts = two.counts ∙ ap (λ n. counted n k) one.counts ∙ counted-then a.uses j k;
  no_fault = two.no_fault ∙ one.no_fault;
  stays_dead = λ block e. two.stays_dead block (one.stays_dead block e);
}

no_cut_then : (a b c : World) (k : ℕ) → NoCutCame a b → NoCutCame b c → Lasts b c k → NoCutCame a c
no_cut_then a b c k one two lasts = record {
  power_same = two.power_same ∙ one.power_same;
  no_cut = two.no_cut ∙ one.no_cut;
  stays_good = λ block h. good_or_dead-then (cell_at b.cells block) (cell_at c.cells block) (two.stays_good block) (lasts.stays_dead block) (one.stays_good block h);
}

cut_then : (a b c : World) (k : ℕ) → NoCutCame a b → CutCame b c → Lasts b c k → CutCame a c
cut_then a b c k one two lasts = record {
  was_on = sym one.power_same ∙ two.was_on;
  turns_off = two.turns_off;
  one_cut = two.one_cut ∙ ap (λ n. counted n 1) one.no_cut;
  torn = two.torn;
  others_stay_good = λ block ne h. good_or_dead-then (cell_at b.cells block) (cell_at c.cells block) (two.others_stay_good block ne) (lasts.stays_dead block) (one.stays_good block h);
  one_torn = λ h. dead_or_torn-then (cell_at b.cells two.torn) (cell_at c.cells two.torn) two.one_torn (lasts.stays_dead two.torn) (one.stays_good two.torn h);
}

no_more : (j k : ℕ) → k ≡ 0 → j ≡ j + k
no_more j k e = omega (arith, e)

module _ (a b c : World) (j k : ℕ) (one : Follows a b j) (two : Follows b c k) where
  still_world : ¬ IsTrue a.power → (c ≡ a) × (j + k ≡ 0)
  still_world off =
      let first = one.off_is_still off in
      let second = two.off_is_still (λ on. off (ap (λ w. w.power) (sym first.0) ∙ on)) in
      (second.0 ∙ first.0, omega (arith, first.1, second.1))

  pub follows_then : Follows a c (j + k)
  follows_then = elim one.ends [
    | inl kept ↦ elim two.ends [
      | inl kept' ↦ record { lasts = lasts_then a b c j k one.lasts two.lasts; off_is_still = still_world; ends = inl (no_cut_then a b c k kept kept' two.lasts) }
      | inr fell ↦ record { lasts = lasts_then a b c j k one.lasts two.lasts; off_is_still = still_world; ends = inr (cut_then a b c k kept fell two.lasts) }
    ]
    | inr fell ↦
        let still = two.off_is_still fell.turns_off in
        subst (λ n. Follows a c n) (no_more j k still.1) (subst (λ w. Follows a w j) (sym still.0) one)
  ]

module _ (a b c : Machine) (j k : ℕ) (one : Reach a b j) (two : Reach b c k) where
  still_machine : ¬ IsTrue a.world.power → (c ≡ a) × (j + k ≡ 0)
  still_machine off =
      let first = one.off_is_still off in
      let second = two.off_is_still (λ on. off (ap (λ m. m.world.power) (sym first.0) ∙ on)) in
      (second.0 ∙ first.0, omega (arith, first.1, second.1))

  dies_then : (block : ℕ) → cell_at c.world.cells block ≡ Dead → (cell_at a.world.cells block ≡ Dead) ⊎ IsWornWithin (j + k) block a.arms
  dies_then block e = elim (two.dies_by_arm block e) [
    | inl dead ↦ elim (one.dies_by_arm block dead) [
      | inl before ↦ inl before
      | inr worn ↦ inr (worn_within-more j (j + k) block a.arms (omega arith) worn)
    ]
    | inr worn ↦ inr (worn_within-before j k block b.world.cells a.arms b.arms one.arms worn)
  ]

  arms_then : WornBy (j + k) c.world.cells a.arms c.arms
  arms_then = worn_by-then j k b.world.cells c.world.cells two.lasts.stays_dead a.arms b.arms c.arms one.arms two.arms

  go_on : ((NoCutCame a.world c.world × CutStands (j + k) a.cut c.cut) ⊎ (CutCame a.world c.world × CutFell (j + k) a.cut c.cut)) → Reach a c (j + k)
  go_on ends = record { lasts = lasts_then a.world b.world c.world j k one.lasts two.lasts; off_is_still = still_machine; dies_by_arm = dies_then; arms = arms_then; ends = ends }

  pub reach_then : Reach a c (j + k)
  reach_then = elim one.ends [
    | inl kept ↦ elim two.ends [
      | inl kept' ↦ go_on (inl (no_cut_then a.world b.world c.world k kept.0 kept'.0 two.lasts, cut_stands-then j k a.cut b.cut c.cut kept.1 kept'.1))
      | inr fell ↦ go_on (inr (cut_then a.world b.world c.world k kept.0 fell.0 two.lasts, cut_fell-then j k a.cut b.cut c.cut kept.1 fell.1))
    ]
    | inr fell ↦
        let still = two.off_is_still fell.0.turns_off in
        subst (λ n. Reach a c n) (no_more j k still.1) (subst (λ m. Reach a m j) (sym still.0) one)
  ]

-- what can follow on a controllable medium can follow on any
pub follows-reach : (a b : Machine) (k : ℕ) → Reach a b k → Follows a.world b.world k
follows-reach a b k reach = record {
  lasts = reach.lasts;
  off_is_still = λ off. (ap (λ m. m.world) (reach.off_is_still off).0, (reach.off_is_still off).1);
  ends = elim reach.ends [ inl kept ↦ inl kept.0 | inr fell ↦ inr fell.0 ];
}
