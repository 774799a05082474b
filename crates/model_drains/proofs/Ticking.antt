-- After as many ticks as blocks are pending each of these was tried.
use Rattle.std.specs.Prelude.{◌≡◌, ◌≢◌, ℕ, zero, suc, ◌==◌, ◌<◌, ◌⊎◌, not, nat_lt, if◌then◌else◌, true, false, Bool, Option, List, [], ◌∷◌, ◌++◌, length}
use Rattle.std.specs.List.{Contains, filter}
use Rattle.std.proofs.Common.{arith, refl, sym, ◌∙◌, inl, inr, subst}
use Rattle.std.proofs.lemmas.Bool.{cases_eq, lt-ltb, ltb-true, eq-eqb, ne_eqb, not_from_true, not_from_false}
use Rattle.model_buffer.specs.Buffer.{numbers_in}
use Rattle.model_drive.specs.declared.WriteOut.{WriteOut}
use Rattle.model_drive.specs.declared.WriteOut.TheVariants as writes
use Rattle.model_drive.specs.Shown.{IsKnown, block_count}
use Rattle.model_drive.specs.Sound.{IsSound}
use Rattle.model_cache.specs.declared.TickOut.{TickOut}
use Rattle.model_cache.specs.declared.TickOut.TheVariants as ticks
use Rattle.model_cache.specs.Shown.{CacheShown, dropped, pending_in, pending_but, pending_below}
use Rattle.model_cache.specs.Drains.{Tries, put_behind}
use Rattle.model_cache.specs.Causes.{TriesOldest, TickCause}
use Rattle.model_cache.proofs.Members.{Contains-none, Contains-cases, Contains-first}
use Rattle.model_cache.proofs.FlushedHomes.{flush_counts, flush_known}
use Rattle.model_cache.proofs.Refusals.{refuses}
use Rattle.model_drains.specs.Leaving.{HasLeftOrIsHeldBack}
use Rattle.model_drains.specs.Ticks.{TickGoesOn, Ticks}
use Rattle.model_drains.proofs.Stuck.{IsEnded, ended_so, dropped_ended, stays_ended, all_ended, refusal_known}

-- ---- a number among the first n of a list

abbrev IsEarly : ℕ → List ℕ → ℕ → Type 0
IsEarly zero numbers j = ⊥
IsEarly (suc n) [] j = ⊥
IsEarly (suc n) (i ∷ numbers) j = (i ≡ j) ⊎ IsEarly n numbers j

all_early : (numbers : List ℕ) (j : ℕ) → Contains numbers j → IsEarly (length numbers) numbers j
all_early [] j has = absurd (Contains-none j has)
all_early (i ∷ numbers) j has = elim (Contains-cases i numbers j has) [
  | inl same ↦ inl same
  | inr more ↦ inr (all_early numbers j more)
]

more_early : (n : ℕ) (numbers : List ℕ) (j : ℕ) → IsEarly n numbers j → IsEarly (suc n) numbers j
more_early zero numbers j early = absurd early
more_early (suc n) [] j early = absurd early
more_early (suc n) (i ∷ numbers) j (inl same) = inl same
more_early (suc n) (i ∷ numbers) j (inr early) = inr (more_early n numbers j early)

early_append : (n : ℕ) (a b : List (ℕ × List ℕ)) (j : ℕ) → IsEarly n (numbers_in a) j → IsEarly n (numbers_in (a ++ b)) j
early_append zero a b j early = absurd early
early_append (suc n) [] b j early = absurd early
early_append (suc n) (held ∷ a) b j (inl same) = inl same
early_append (suc n) (held ∷ a) b j (inr early) = inr (early_append n a b j early)

-- among those behind one that stays or goes
either : (b : Bool) (number : ℕ) (bytes : List ℕ) (n : ℕ) (pending : List (ℕ × List ℕ)) (j : ℕ) → IsEarly n (numbers_in pending) j → IsEarly (suc n) (numbers_in (if b then (number, bytes) ∷ pending else pending)) j
either true number bytes n pending j early = inr early
either false number bytes n pending j early = more_early n (numbers_in pending) j early

module _ (p : ℕ × List ℕ → Bool) (j : ℕ) (passes : (held : ℕ × List ℕ) → held.0 ≡ j → p held ≡ true) where
  early_filter : (n : ℕ) (pending : List (ℕ × List ℕ)) → IsEarly n (numbers_in pending) j → IsEarly n (numbers_in (filter p pending)) j
  early_filter zero pending early = absurd early
  early_filter (suc n) [] early = absurd early
  early_filter (suc n) (held ∷ pending) (inl same) =
      subst (λ (b : Bool). IsEarly (suc n) (numbers_in (if b then held ∷ filter p pending else filter p pending)) j) (sym (passes held same)) (inl same)
  early_filter (suc n) (held ∷ pending) (inr early) = either (p held) held.0 held.1 n (filter p pending) j (early_filter n pending early)

-- ---- one tick

-- the oldest block was tried, and this is pending now
record WasTried (old new : CacheShown) (i : ℕ) : Type 0 where
  short : ℕ
  first : Option WriteOut
  tried : Tries old (i ∷ []) 1 new short first
  known : IsKnown old.drive → IsKnown new.drive
  sound : IsSound new.drive
  counts : block_count new.drive ≡ block_count old.drive
  pending : (new.pending ≡ pending_but i old.pending) ⊎ (new.pending ≡ put_behind i old.pending)

tried_one : (old new : CacheShown) (i short : ℕ) (first : Option WriteOut) → IsSound old.drive → Tries old (i ∷ []) 1 new short first → WasTried old new i
tried_one old new i short first sound (inl (mid, flush, later)) =
    subst (λ (s : CacheShown). WasTried old s i) (sym later.0) (record {
      short = 0;
      first = _;
      tried = inl (mid, flush, (refl, refl, refl));
      known = flush_known old mid i flush sound;
      sound = flush.back.leaves.sound;
      counts = flush_counts old mid i flush sound;
      pending = inl flush.left;
    })
tried_one old new i short first sound (inr (mid, out, told, is, later, first_is)) =
    subst (λ (s : CacheShown). WasTried old s i) (sym later.0) (record {
      short = 1;
      first = _;
      tried = inr (mid, out, _, is, (refl, refl, refl), refl);
      known = refusal_known old mid i out is sound;
      sound = is.back.leaves.sound;
      counts = (refuses old mid i out is sound).counts;
      pending = inr is.left;
    })

after_but : (pending : List (ℕ × List ℕ)) (i : ℕ) (rest : List ℕ) (n j : ℕ) → j ≢ i → numbers_in pending ≡ i ∷ rest → IsEarly n rest j → IsEarly n (numbers_in (pending_but i pending)) j
after_but [] i rest n j ne oldest early = absurd (let e = oldest in cc)
after_but (held ∷ pending) i rest n j ne oldest early =
    subst (λ (b : Bool). IsEarly n (numbers_in (if b then held ∷ pending_but i pending else pending_but i pending)) j)
    (sym (not_from_true (held.0 == i) (eq-eqb held.0 i here)))
    (early_filter (λ held. not (held.0 == i)) j (λ other same. not_from_false (other.0 == i) (ne_eqb other.0 i (λ is. ne (sym same ∙ is)))) n pending
    (subst (λ (l : List ℕ). IsEarly n l j) (sym later) early))
  where
    here : held.0 ≡ i
    here = let e = oldest in cc

    later : numbers_in pending ≡ rest
    later = let e = oldest in cc

next_early : (old new : CacheShown) (i : ℕ) (rest : List ℕ) (n j : ℕ) → j ≢ i → pending_in old ≡ i ∷ rest → (new.pending ≡ pending_but i old.pending) ⊎ (new.pending ≡ put_behind i old.pending)
    → j < block_count new.drive → IsEarly n rest j → IsEarly n (pending_in (dropped new)) j
next_early old new i rest n j ne oldest left inside early =
    early_filter (λ held. nat_lt held.0 (block_count new.drive)) j (λ held same. subst (λ (b : ℕ). nat_lt b (block_count new.drive) ≡ true) (sym same) (lt-ltb j (block_count new.drive) inside)) n new.pending
    (elim left [
      | inl gone ↦ subst (λ (l : List (ℕ × List ℕ)). IsEarly n (numbers_in l) j) (sym gone) (after_but old.pending i rest n j ne oldest early)
      | inr behind ↦ subst (λ (l : List (ℕ × List ℕ)). IsEarly n (numbers_in l) j) (sym behind)
          (early_append n (pending_but i old.pending) (filter (λ held. held.0 == i) old.pending) j (after_but old.pending i rest n j ne oldest early))
    ])

-- it has left, or is held back, or one of the next n ticks tries it
record IsOnItsWay (n : ℕ) (shown : CacheShown) (j : ℕ) : Type 0 where
  sound : IsSound shown.drive
  known : IsKnown shown.drive
  inside : j < block_count shown.drive
  way : IsEnded shown j ⊎ IsEarly n (pending_in (dropped shown)) j

tick_tries : (old new : CacheShown) (n j : ℕ) (out : WriteOut) (oldest : TriesOldest (dropped old) new out) → WasTried (dropped old) new oldest.block → IsOnItsWay (suc n) old j → IsOnItsWay n new j
tick_tries old new n j out oldest was on = record {
  sound = was.sound;
  known = was.known on.known;
  inside = inside;
  way = elim on.way [
    | inl ended ↦ inl (stays_ended (oldest.block ∷ []) 1 was.short (dropped old) new was.first on.sound on.known was.tried j (dropped_ended old j ended))
    | inr early ↦ by (subst (λ (l : List ℕ). IsEarly (suc n) l j) oldest.oldest early)
  ];
} where
  inside : j < block_count new.drive
  inside = subst (λ (c : ℕ). j < c) (sym was.counts) on.inside

  tried_now : oldest.block ≡ j → IsEnded new j
  tried_now same = subst (IsEnded new) same
      (all_ended (oldest.block ∷ []) 1 was.short (dropped old) new was.first (omega arith) on.sound on.known was.tried oldest.block (Contains-first oldest.block []))

  by : (oldest.block ≡ j) ⊎ IsEarly n oldest.rest j → IsEnded new j ⊎ IsEarly n (pending_in (dropped new)) j
  by (inl same) = inl (tried_now same)
  by (inr early) = elim (cases_eq j oldest.block) [
    | inl same ↦ inl (tried_now (sym same))
    | inr ne ↦ inr (next_early (dropped old) new oldest.block oldest.rest n j ne oldest.oldest was.pending inside early)
  ]

-- a tick with nothing pending
nothing_early : (old : CacheShown) (n j : ℕ) → (dropped old).pending ≡ [] → IsOnItsWay (suc n) old j → IsOnItsWay n (dropped old) j
nothing_early old n j none on = record {
  sound = on.sound;
  known = on.known;
  inside = on.inside;
  way = elim on.way [
    | inl ended ↦ inl (dropped_ended old j ended)
    | inr early ↦ absurd (subst (λ (l : List (ℕ × List ℕ)). IsEarly (suc n) (numbers_in l) j) none early)
  ];
}

one_tick : (old new : CacheShown) (n j : ℕ) (out : TickOut) → TickCause old new out → TickGoesOn out → IsOnItsWay (suc n) old j → IsOnItsWay n new j
one_tick old new n j ticks.Idle idle goes on = subst (λ (s : CacheShown). IsOnItsWay n s j) (sym idle.nothing) (nothing_early old n j idle.none on)
one_tick old new n j (ticks.Written lba) (oldest, lba_is) goes on =
    tick_tries old new n j writes.Good oldest (tried_one (dropped old) new oldest.block 0 oldest.drained.0 on.sound oldest.drained.1) on
one_tick old new n j (ticks.NoSpare lba) oldest goes on =
    tick_tries old new n j (writes.NoSpare lba) oldest (tried_one (dropped old) new oldest.block (suc oldest.drained.short) _ on.sound oldest.drained.tried) on
one_tick old new n j (ticks.NoUpdate counter) oldest goes on =
    tick_tries old new n j (writes.NoUpdate counter) oldest (tried_one (dropped old) new oldest.block (suc oldest.drained.short) _ on.sound oldest.drained.tried) on
one_tick old new n j ticks.Cut oldest goes on = absurd goes
one_tick old new n j ticks.Off off goes on = absurd goes
one_tick old new n j ticks.Fault oldest goes on = absurd goes

all_ticks : (n : ℕ) (old new : CacheShown) (j : ℕ) → Ticks old n new → IsOnItsWay n old j → HasLeftOrIsHeldBack new j
all_ticks zero old new j same on = elim on.way [
  | inl ended ↦ subst (λ (s : CacheShown). HasLeftOrIsHeldBack s j) (sym same) (ended_so old j ended)
  | inr early ↦ absurd early
]
all_ticks (suc n) old new j (mid, out, cause, goes, more) on = all_ticks n mid new j more (one_tick old mid n j out cause goes on)

-- one of those that the disc has
below : (pending : List (ℕ × List ℕ)) (count j : ℕ) → Contains (numbers_in (pending_below count pending)) j → j < count
below [] count j has = absurd (Contains-none j has)
below (held ∷ pending) count j has = one (nat_lt held.0 count) refl (below pending count j) has
  where
    one : (b : Bool) → nat_lt held.0 count ≡ b → (Contains (numbers_in (pending_below count pending)) j → j < count)
        → Contains (numbers_in (if b then held ∷ pending_below count pending else pending_below count pending)) j → j < count
    one true under others has = elim (Contains-cases held.0 (numbers_in (pending_below count pending)) j has) [
      | inl same ↦ subst (λ (b : ℕ). b < count) same (ltb-true held.0 count under)
      | inr more ↦ others more
    ]
    one false over others has = others has

pub ticked : (old new : CacheShown) (j : ℕ) → IsSound old.drive → IsKnown old.drive → Ticks old (length (pending_in (dropped old))) new → Contains (pending_in (dropped old)) j → HasLeftOrIsHeldBack new j
ticked old new j sound known made has = all_ticks (length (pending_in (dropped old))) old new j made (record {
  sound = sound;
  known = known;
  inside = below old.pending (block_count old.drive) j has;
  way = inr (all_early (pending_in (dropped old)) j has);
})
