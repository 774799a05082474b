-- Which blocks are pending after one left, or was put behind the others.
use Rattle.std.specs.Prelude.{◌≡◌, ◌≢◌, ℕ, ◌<◌, ◌==◌, not, nat_lt, true, Bool, List}
use Rattle.std.proofs.Common.{refl}
use Rattle.std.proofs.lemmas.Bool.{lt-ltb, eq-eqb, ne_eqb, not_from_false}
use Rattle.model_cache.specs.Values.{IsPending}
use Rattle.model_cache.specs.Shown.{pending_but, pending_below}
use Rattle.model_cache.specs.Drains.{put_behind}
use Rattle.model_cache.proofs.Members.{Contains-kept, Contains-passed}
use Rattle.model_cache.proofs.Behind.{stays_there, was_there}

module _ (i : ℕ) (pending : List (ℕ × List ℕ)) where
  -- a block that left is not pending
  pub itself_left : ¬ IsPending (pending_but i pending) i
  itself_left (bytes, has) =
      contradiction (i == i) (eq-eqb i i refl) (Contains-passed {X = ℕ × List ℕ} (λ (held : ℕ × List ℕ). not (held.0 == i)) pending (i, bytes) has).0
    where
      contradiction : (b : Bool) → b ≡ true → not b ≡ true → ⊥
      contradiction b is isnt = cc

  -- the others are as before
  pub other_was : (j : ℕ) → IsPending (pending_but i pending) j → IsPending pending j
  other_was j (bytes, has) =
      (bytes, (Contains-passed {X = ℕ × List ℕ} (λ (held : ℕ × List ℕ). not (held.0 == i)) pending (j, bytes) has).1)

  pub other_stays : (j : ℕ) → j ≢ i → IsPending pending j → IsPending (pending_but i pending) j
  other_stays j ne (bytes, has) = (
    bytes,
    Contains-kept {X = ℕ × List ℕ} (λ (held : ℕ × List ℕ). not (held.0 == i)) pending (j, bytes) (not_from_false (j == i) (ne_eqb j i ne)) has,
  )

  -- all are as before where one is put behind the others
  pub behind_was : (j : ℕ) → IsPending (put_behind i pending) j → IsPending pending j
  behind_was j (bytes, has) = (bytes, was_there i pending (j, bytes) has)

  pub behind_stays : (j : ℕ) → IsPending pending j → IsPending (put_behind i pending) j
  behind_stays j (bytes, has) = (bytes, stays_there i pending (j, bytes) has)

-- a pending block of the disc is none of those that are dropped
module _ (pending : List (ℕ × List ℕ)) (count j : ℕ) where
  pub below_was : IsPending (pending_below count pending) j → IsPending pending j
  below_was (bytes, has) =
      (bytes, (Contains-passed {X = ℕ × List ℕ} (λ (held : ℕ × List ℕ). nat_lt held.0 count) pending (j, bytes) has).1)

  pub below_stays : j < count → IsPending pending j → IsPending (pending_below count pending) j
  below_stays inside (bytes, has) =
      (bytes, Contains-kept {X = ℕ × List ℕ} (λ (held : ℕ × List ℕ). nat_lt held.0 count) pending (j, bytes) (lt-ltb j count inside) has)
