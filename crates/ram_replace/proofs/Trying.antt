-- How the free spares are tried, one after another.
use Rattle.std.specs.Prelude.{◌≡◌, ◌≢◌, ℕ, ◌+◌, ◌*◌, ◌≤◌, ◌<◌, Bool, true, false, IsTrue, List, length, slice_index}
use Rattle.std.specs.Bool.{OnTrue}
use Rattle.std.proofs.Common.{refl, sym, ap, ◌∙◌, inl, inr, subst, arith}
use Rattle.std.specs.List.{Contains}
use Rattle.std.proofs.lemmas.Bool.{cases_eq}
use Rattle.std.proofs.lemmas.List.Elements.{Contains-get_or}
use Rattle.model_medium.specs.Cells.{Good, Dead, cell_at}
use Rattle.model_medium.specs.World.{World, Span}
use Rattle.model_stops.specs.Stops.{Continues}
use Rattle.model_stops.specs.declared.Stop.{Stop}
use Rattle.ram_medium.specs.Laws.{MediumLaws}
use Rattle.ram_medium.proofs.Parts.{continues_none, continues_then, stops_later, stops_within}
use Rattle.ram_copies.specs.Puts.{IsBlockPut, IsBlockLost, StopsPutting}
use Rattle.ram_replace.specs.declared.spares.Found.{Found}
use Rattle.ram_replace.specs.Spares.{StandsAt, ChangesSparesAlone, HaveFailed, IsFound, StopsTrying}

pub on_true : (known : Bool) (P : Type 0) → OnTrue known P → known ≡ true → P
on_true true P h is = h
on_true false P h is = absurd cc

-- a block that is none of the list is not the one at a place of it
not_one : (free : List ℕ) (found : Found) (block : ℕ) → StandsAt free found → ¬ Contains free block → block ≢ found.spare
not_one free found block at away same = away (subst (Contains free) (sym (same ∙ at.spare_is)) (Contains-get_or free found.tried 0 at.inside))

module _ {M : Type 0} (world : M → World) (block_count : M → ℕ) (reaches : M → M → Span → Type 0) (laws : MediumLaws world block_count reaches)
    (old : M) (free : List ℕ) (bytes : List ℕ) where
  -- none was tried
  pub none_failed : IsTrue (world old).power → HaveFailed world reaches old old free bytes 0
  none_failed on = record {
    few = omega arith;
    continues = continues_none world block_count reaches laws old on;
    as_known = refl;
    alone = λ block away. refl;
    dead = λ j h. absurd (omega arith);
  }

  -- all were
  pub all_failed : (new : M) (k : ℕ) → HaveFailed world reaches old new free bytes k → length free ≤ k → HaveFailed world reaches old new free bytes (length free)
  all_failed new k so_far past = let e : k ≡ length free = omega (arith, past, so_far.few) in subst (HaveFailed world reaches old new free bytes) e so_far

  module _ (mid new : M) (k turn spare : ℕ) (so_far : HaveFailed world reaches old mid free bytes k) (at : StandsAt free (record { tried = k; turn = turn; spare = spare })) where
    both_alone : ((other : ℕ) → other ≢ spare → cell_at (world new).cells other ≡ cell_at (world mid).cells other) → ChangesSparesAlone world reaches old new free bytes
    both_alone others block away = others block (not_one free (record { tried = k; turn = turn; spare = spare }) block at away) ∙ so_far.alone block away

    goes_on : Continues world reaches mid new 2 → Continues world reaches old new (2 * k + 2)
    goes_on continues = continues_then world block_count reaches laws old mid new (2 * k) 2 so_far.continues continues

    still_dead : Continues world reaches mid new 2 → (j : ℕ) → j < k → cell_at (world new).cells (slice_index free j) ≡ Dead
    still_dead continues j h = (laws.follows mid new 2 continues.reach).lasts.stays_dead (slice_index free j) (so_far.dead j h)

    -- the next one failed
    pub one_more_failed : IsBlockLost world reaches mid new spare bytes → HaveFailed world reaches old new free bytes (k + 1)
    one_more_failed lost = record {
      few = omega (arith, at.inside);
      continues = subst (Continues world reaches old new) (uses k) (goes_on lost.continues);
      as_known = lost.as_known ∙ so_far.as_known;
      alone = both_alone lost.others;
      dead = λ j h. elim (cases_eq j k) [
        | inl e ↦ ap (λ (n : ℕ). cell_at (world new).cells (slice_index free n)) e ∙ ap (cell_at (world new).cells) (sym at.spare_is) ∙ lost.dead
        | inr ne ↦ still_dead lost.continues j (omega arith)
      ];
    }
      where
        uses : (k : ℕ) → 2 * k + 2 ≡ 2 * (k + 1)
        uses k = omega arith

    -- the next one has the bytes
    pub next_found : IsBlockPut world reaches mid new spare bytes → IsFound world reaches old new free bytes (record { tried = k; turn = turn; spare = spare })
    next_found put = record {
      stands = at;
      continues = goes_on put.continues;
      as_known = put.as_known ∙ so_far.as_known;
      alone = both_alone put.others;
      dead = still_dead put.continues;
      left = put.left;
      has = λ known. on_true (world mid).known (cell_at (world new).cells spare ≡ Good bytes) put.has (so_far.as_known ∙ known);
    }

    -- it was stopped at the next one
    pub stopped_at_next : (stop : Stop) → StopsPutting world reaches mid new spare bytes stop → StopsTrying world reaches old new free bytes stop
    stopped_at_next stop stopped = record {
      stops = stops_within world block_count reaches laws old new (2 * k + 2) (2 * length free) stop (omega (arith, at.inside))
          (stops_later world block_count reaches laws old mid new (2 * k) 2 stop so_far.continues stopped.stops);
      as_known = stopped.as_known ∙ so_far.as_known;
      alone = both_alone stopped.others;
    }
