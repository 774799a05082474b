-- The cursors fit after a move too, where that of the pool stands behind the spare.
use Rattle.std.specs.Prelude.{◌≡◌, ℕ, ◌+◌, ◌<◌, false, Some, List, length, slice_get, slice_index, slice_set}
use Rattle.std.specs.List.{Contains}
use Rattle.std.proofs.Common.{refl, sym, ap, ◌∙◌, inl, inr, subst, arith, zero, suc}
use Rattle.std.proofs.lemmas.Bool.{cases_Bool, cases_eq, cases_lt}
use Rattle.std.proofs.lemmas.List.{get_or-set_same, get_or-set_other, length-set}
use Rattle.model_lists.specs.declared.sdl.SdlEntry.{SdlEntry}
use Rattle.model_pools.specs.Pools.{Pool, ArePools, AreValidUnder, CursorsFit, logical_in, pool_of, spares_at, spares_for, is_unnamed, home_in, free_in}
use Rattle.model_lists.specs.Values.{Sdl}
use Rattle.model_pools.specs.Moves.{entries_moved_in, sdl_moved_in, tried_of}
use Rattle.model_pools.proofs.Moved.{home_moved_in}
use Rattle.model_pools.proofs.Replacements.{Contains-first, Contains-later}
use Rattle.model_pools.proofs.Shrinks.{named_stays, failed_named, spare_named}
use Rattle.ram_replace.specs.declared.spares.Found.{Found}
use Rattle.ram_replace.specs.Spares.{StandsAt, StandsAtTurn}
use Rattle.ram_replace.specs.Cursors.{GoesToTurn}

-- each of the first n was tried
was_tried : (free : List ℕ) (count j : ℕ) → j < count → Contains (tried_of free count) (slice_index free j)
was_tried free zero j below = absurd (omega (arith, below))
was_tried free (suc count) j below = elim (cases_eq j count) [
  | inl same ↦ subst (λ (n : ℕ). Contains (tried_of free (suc count)) (slice_index free n)) (sym same) (Contains-first (slice_index free count) (tried_of free count))
  | inr other ↦ Contains-later (slice_index free count) (tried_of free count) (slice_index free j) (was_tried free count j (omega (arith, below, other)))
]

module _ (pools : List Pool) (entries : List SdlEntry) (lawful : ArePools pools) (valid : AreValidUnder pools entries) (i : ℕ) (inside : i < length (logical_in pools))
    (cursors : List ℕ) (fit : CursorsFit pools entries cursors) (its : pool_of pools i < length cursors) (found : Found) (at : StandsAt (free_in pools entries i) found)
    (turn : StandsAtTurn (is_unnamed entries) (spares_for pools i) found) where
  abbrev failed : List ℕ
  failed = tried_of (free_in pools entries i) found.tried

  abbrev moved : List SdlEntry
  moved = entries_moved_in pools entries i failed found.spare

  stays : (b : ℕ) → is_unnamed entries b ≡ false → is_unnamed moved b ≡ false
  stays = named_stays pools entries lawful valid i inside found.tried found.spare at.inside

  -- up to the spare each one is named
  up_to : (k b : ℕ) → k < found.turn + 1 → slice_get (spares_for pools i) k ≡ Some b → is_unnamed moved b ≡ false
  up_to k b below here = elim (cases_Bool (is_unnamed entries b)) [
    | inl free ↦
        (let there = turn.passed.passed k b below here free in
        elim (cases_lt there.0 found.tried) [
          | inl less ↦
              subst (λ (n : ℕ). is_unnamed moved n ≡ false) there.2
              (failed_named pools entries lawful valid i inside found.tried found.spare at.inside (slice_index (free_in pools entries i) there.0) (was_tried (free_in pools entries i) found.tried there.0 less))
          | inr past ↦
              (let last : there.0 ≡ found.tried = omega (arith, there.1, past) in
              let same : found.spare ≡ b = at.spare_is ∙ ap (slice_index (free_in pools entries i)) (sym last) ∙ there.2 in
              subst (λ (n : ℕ). is_unnamed moved n ≡ false) same (spare_named pools entries lawful valid i inside found.tried found.spare at.inside))
        ])
    | inr named ↦ stays b named
  ]

  pub behind_fits : CursorsFit pools moved (slice_set cursors (pool_of pools i) (found.turn + 1))
  behind_fits pool k b within below here = elim (cases_eq pool (pool_of pools i)) [
    | inl same ↦
        (let cursor : slice_index (slice_set cursors (pool_of pools i) (found.turn + 1)) pool ≡ found.turn + 1 =
        ap (slice_index (slice_set cursors (pool_of pools i) (found.turn + 1))) same ∙ get_or-set_same cursors (pool_of pools i) (found.turn + 1) 0 its in
        up_to k b (omega (arith, below, cursor)) (ap (λ (p : ℕ). slice_get (spares_at pools p) k) (sym same) ∙ here))
    | inr other ↦
        (let cursor : slice_index (slice_set cursors (pool_of pools i) (found.turn + 1)) pool ≡ slice_index cursors pool = get_or-set_other cursors (pool_of pools i) pool (found.turn + 1) 0 other in
        stays b (fit pool k b (omega (arith, within, length-set cursors (pool_of pools i) (found.turn + 1))) (omega (arith, below, cursor)) here))
  ]

  -- the same, by the values of the code
  pub fits_then : (es : List SdlEntry) (new : List ℕ) (pool : ℕ) → es ≡ moved → pool ≡ pool_of pools i → new ≡ slice_set cursors pool (found.turn + 1) → CursorsFit pools es new
  fits_then es new pool are is set_is =
      let there : new ≡ slice_set cursors (pool_of pools i) (found.turn + 1) = set_is ∙ ap (λ (p : ℕ). slice_set cursors p (found.turn + 1)) is in
      subst (λ (x : List ℕ). CursorsFit pools es x) (sym there) (subst (λ (x : List SdlEntry). CursorsFit pools x (slice_set cursors (pool_of pools i) (found.turn + 1))) (sym are) behind_fits)

  pub goes_to_turn : (sdl sdl' : Sdl) (new : List ℕ) (pool : ℕ) → sdl.entries ≡ entries → sdl' ≡ sdl_moved_in pools sdl i (tried_of (free_in pools sdl.entries i) found.tried) found.spare
      → pool ≡ pool_of pools i → new ≡ slice_set cursors pool (found.turn + 1) → GoesToTurn pools sdl sdl' i cursors new
  goes_to_turn sdl sdl' new pool old_is new_is is set_is = record {
    next_list = ap (λ (s : Sdl). s.counter) new_is;
    turn = found.turn;
    home_is = turn.here ∙ ap Some (sym (ap (λ (s : Sdl). home_in pools s.entries i) new_is
        ∙ ap (λ (es : List SdlEntry). home_in pools (entries_moved_in pools es i (tried_of (free_in pools es i) found.tried) found.spare) i) old_is
        ∙ home_moved_in pools entries lawful valid i inside failed found.spare (record { tried = found.tried; failed_are = refl; inside = at.inside; spare_is = at.spare_is })));
    behind = set_is ∙ ap (λ (p : ℕ). slice_set cursors p (found.turn + 1)) is;
  }
