-- How the write of a logical block goes, step after step, on the cells.
use Rattle.std.specs.Prelude.{◌≡◌, ◌≢◌, ℕ, ◌+◌, ◌*◌, ◌≤◌, ◌<◌, ◌⊎◌, true, IsTrue, ◌==◌, if◌then◌else◌, List, length, slice_index}
use Rattle.std.proofs.Common.{refl, sym, ap, ◌∙◌, inl, inr, subst, arith, eqb}
use Rattle.std.specs.List.{Contains}
use Rattle.std.proofs.lemmas.Bool.{cond-true, cond-false, eq-eqb, ne_eqb}
use Rattle.std.proofs.lemmas.List.Elements.{Contains-get_or}
use Rattle.model_geometry.specs.Geometry.{Shape, data_blocks, dds_block, sdl_block, sdl_second_block}
use Rattle.model_geometry.proofs.ListBlocks.{no_data_block_sdl}
use Rattle.model_lists.specs.Values.{Sdl}
use Rattle.model_lists.specs.Texts.{IsDdsText, IsTwo}
use Rattle.model_medium.specs.Cells.{Cell, Good, Dead, IsGood, MayLeave, cell_at}
use Rattle.model_medium.specs.World.{World, Span}
use Rattle.model_sectors.specs.Discs.{Agrees}
use Rattle.model_sectors.proofs.Fitting.{agrees_not_good}
use Rattle.model_stops.specs.Stops.{Continues, Stops}
use Rattle.model_stops.specs.declared.Stop.{Stop}
use Rattle.model_copies.specs.Copies.{Settled}
use Rattle.model_copies.specs.Parts.{SdlIsBetween, SdlIsExact, SdlIsLost}
use Rattle.model_copies.proofs.SdlParts.{settled_stopped, lost_settled, lost_alike}
use Rattle.model_places.specs.Places.{Lists, logical_count, home_of, free_spares}
use Rattle.model_places.specs.Valid.{AreValid}
use Rattle.model_volume.specs.Given.{AreSettled}
use Rattle.model_pools.specs.Moves.{tried_of}
use Rattle.model_volume.specs.Moves.{lists_moved, sdl_moved, IsNextSpare, OnlyData, OnlyMoves}
use Rattle.model_volume.proofs.ListCells.{no_data_block_second}
use Rattle.model_volume.proofs.GivenFacts.{settled_alone, pair_between}
use Rattle.model_volume.proofs.Moved.{home_not_free, home_is_data_block, free_is_data}
use Rattle.model_volume.proofs.Updates.{agrees_good, data_moves, settled_kept, dds_settled, fits_before, fits_written, fits_moved, cover_settled, cover_between}
use Rattle.model_drive.specs.declared.TheConstants.{LAST_COUNTER}
use Rattle.model_drive.specs.Repairs.{sdl_update_uses}
use Rattle.model_drive.specs.Course.{ToHome, ToSpare, lists_placed, WentTo, AreMoved, most_placing_uses, AreDead}
use Rattle.model_survival.specs.Stops.{LeavesSdl}
use Rattle.model_drive.specs.Blocks.{LeavesBlock, StopsAtBlock}
use Rattle.ram_medium.specs.Laws.{MediumLaws}
use Rattle.ram_medium.proofs.Parts.{continues_then, continues_quiet, stops_later, stops_within}
use Rattle.ram_zones.specs.declared.list_kind.ListKind.TheVariants as kinds
use Rattle.ram_copies.specs.Puts.{IsBlockPut, IsBlockLost, StopsPutting}
use Rattle.ram_copies.specs.Values.{SdlValue}
use Rattle.ram_copies.specs.Calls.{ChangesCopiesAlone, StopsUpdating, HasPutList}
use Rattle.ram_copies.specs.declared.writes.Purpose.TheVariants.{Update}
use Rattle.ram_copies.proofs.EachList.{sdl_exact, sdl_lost, sdl_all_lost}
use Rattle.ram_copies.proofs.Lifting.{quiet_counts, stopped_counts, exact_of, some_kept, none_kept}
use Rattle.ram_replace.specs.declared.spares.Found.{Found}
use Rattle.ram_replace.specs.Spares.{ChangesSparesAlone, HaveFailed, IsFound, StopsTrying}
use Rattle.ram_lists.proofs.MountSteps.{dds_stay}
use Rattle.ram_lists.proofs.Mending.{sdl_left}
use Rattle.ram_replace.specs.Placing.{HasEnded, PlacesBlock, MeetsNoSpare, MeetsNoCopy, PlacingStopped}
use Rattle.ram_replace.proofs.Trying.{on_true}

dead_is_bad : (cell : Cell) → cell ≡ Dead → ¬ IsGood cell
dead_is_bad cell dead good = subst IsGood dead good

good_is_good : (cell : Cell) (bytes : List ℕ) → cell ≡ Good bytes → IsGood cell
good_is_good cell bytes good = subst IsGood (sym good) tt

-- what was put agrees, also where it died
left_agrees : (cell : Cell) (bytes : List ℕ) → (cell ≡ Good bytes) ⊎ (cell ≡ Dead) → Agrees cell bytes
left_agrees cell bytes (inl good) = agrees_good cell bytes good
left_agrees cell bytes (inr dead) = agrees_not_good cell bytes (dead_is_bad cell dead)

-- how a stopped write of the home leaves it, for the discs
left_three : (was cell : Cell) (bytes : List ℕ) → MayLeave was bytes cell → (cell ≡ was) ⊎ (cell ≡ Good bytes) ⊎ ¬ IsGood cell
left_three was cell bytes (inl same) = inl same
left_three was cell bytes (inr (inl good)) = inr (inl good)
left_three was cell bytes (inr (inr (inl torn))) = inr (inr (λ good. (subst IsGood torn good)))
left_three was cell bytes (inr (inr (inr dead))) = inr (inr (dead_is_bad cell dead))

module _ {M : Type 0} (world : M → World) (block_count : M → ℕ) (reaches : M → M → Span → Type 0) (laws : MediumLaws world block_count reaches) where
  -- the count of work that was stopped
  module _ (shape : Shape) (lists : Lists) (valid : AreValid shape lists) (i : ℕ) (inside : i < logical_count shape lists) (bytes : List ℕ)
      (old : M) (settled : AreSettled shape (world old).cells lists) where
    ended_by : (new : M) (k : ℕ) (lists' : Lists) → Continues world reaches old new k → HasEnded world reaches shape old new lists i bytes lists'
    ended_by new k lists' continues = record {
      was_on = (continues_quiet world block_count reaches laws old new k continues).0;
      counts = quiet_counts world block_count reaches laws old new k continues;
    }

    stopped_by : (new : M) (stop : Stop) → IsTrue (world old).power → StopsAtBlock world reaches shape old new lists i bytes stop → PlacingStopped world reaches shape old new lists i bytes lists stop
    stopped_by new stop on stopped = record {
      was_on = on;
      counts = stopped_counts world block_count reaches laws old new (most_placing_uses shape lists i) stop stopped.stops;
      same = refl;
      stopped = stopped;
    }

    -- ---- while cells of the home and of spares alone change

    module _ (new : M) (data_only : OnlyData shape (world old).cells (world new).cells lists i) where
      moves : OnlyMoves shape (world old).cells (world new).cells lists i
      moves = data_moves shape lists valid i inside (world old).cells (world new).cells data_only

      settled_new : AreSettled shape (world new).cells lists
      settled_new = settled_kept shape lists valid i inside (world old).cells (world new).cells data_only settled

      stopped_at : (most : ℕ) (stop : Stop) → most ≤ most_placing_uses shape lists i → Stops world reaches old new most stop → (world new).known ≡ (world old).known
          → (cell_at (world new).cells (home_of shape lists i) ≡ cell_at (world old).cells (home_of shape lists i)) ⊎ (cell_at (world new).cells (home_of shape lists i) ≡ Good bytes)
          ⊎ (¬ IsGood (cell_at (world new).cells (home_of shape lists i))) → StopsAtBlock world reaches shape old new lists i bytes stop
      stopped_at most stop few stops as_known there = record {
        stops = stops_within world block_count reaches laws old new most (most_placing_uses shape lists i) stop few stops;
        given = λ known other given. inl (settled_alone shape (world new).cells lists other settled_new valid.together.same_version given);
        left = λ known. inl settled_new;
        as_known = as_known;
        only = moves;
        covers = λ disc disc' differs fits. cover_settled shape lists valid i inside (world old).cells (world new).cells moves bytes disc disc' differs fits settled_new there;
      }

    -- ---- the home

    home_alone : (new : M) → ((other : ℕ) → other ≢ home_of shape lists i → cell_at (world new).cells other ≡ cell_at (world old).cells other) → OnlyData shape (world old).cells (world new).cells lists i
    home_alone new others block apart free = others block apart

    pub home_stopped : (new : M) (stop : Stop) → IsTrue (world old).power → StopsPutting world reaches old new (home_of shape lists i) bytes stop
        → PlacingStopped world reaches shape old new lists i bytes lists stop
    home_stopped new stop on stopped = stopped_by new stop on
        (stopped_at new (home_alone new stopped.others) 2 stop (omega arith) stopped.stops stopped.as_known
        (left_three (cell_at (world old).cells (home_of shape lists i)) (cell_at (world new).cells (home_of shape lists i)) bytes stopped.left))

    pub home_put : (new : M) → IsBlockPut world reaches old new (home_of shape lists i) bytes → PlacesBlock world reaches shape old new lists i bytes lists
    home_put new put = record {
      ended = ended_by new 2 lists put.continues;
      puts = record {
        placing = ToHome;
        can = tt;
        lists_are = refl;
        continues = put.continues;
        as_known = put.as_known;
        settled = settled_new new (home_alone new put.others);
        only = moves new (home_alone new put.others);
        went = λ known. good_is_good (cell_at (world new).cells (home_of shape lists i)) bytes (on_true (world old).known (cell_at (world new).cells (home_of shape lists i) ≡ Good bytes) put.has known);
        has_copy = λ known. (
          λ area. put.others (sdl_block shape area) (λ same. no_data_block_sdl shape area (subst (Contains (data_blocks shape)) (sym same) (home_is_data_block shape lists valid i inside))),
          λ area. put.others (sdl_second_block shape area) (λ same. no_data_block_second shape area (subst (Contains (data_blocks shape)) (sym same) (home_is_data_block shape lists valid i inside))),
        );
        makes = λ disc disc' differs fits. fits_written shape lists valid i inside (world old).cells (world new).cells (moves new (home_alone new put.others)) bytes disc disc' differs fits
            (left_agrees (cell_at (world new).cells (home_of shape lists i)) bytes put.left);
      };
    }

    -- ---- the home is dead

    module _ (mid : M) (lost : IsBlockLost world reaches old mid (home_of shape lists i) bytes) where
      both_alone : (new : M) → ChangesSparesAlone world reaches mid new (free_spares shape lists i) bytes → OnlyData shape (world old).cells (world new).cells lists i
      both_alone new alone block apart away = alone block away ∙ lost.others block apart

      home_dead : (new : M) → ChangesSparesAlone world reaches mid new (free_spares shape lists i) bytes → cell_at (world new).cells (home_of shape lists i) ≡ Dead
      home_dead new alone = alone (home_of shape lists i) (home_not_free shape lists valid i i inside) ∙ lost.dead

      home_bad : (new : M) → ChangesSparesAlone world reaches mid new (free_spares shape lists i) bytes → ¬ IsGood (cell_at (world new).cells (home_of shape lists i))
      home_bad new alone = dead_is_bad (cell_at (world new).cells (home_of shape lists i)) (home_dead new alone)

      pub spares_stopped : (new : M) (stop : Stop) → IsTrue (world old).power → StopsTrying world reaches mid new (free_spares shape lists i) bytes stop
          → PlacingStopped world reaches shape old new lists i bytes lists stop
      spares_stopped new stop on stopped = stopped_by new stop on
          (stopped_at new (both_alone new stopped.alone) (2 + 2 * length (free_spares shape lists i)) stop (omega arith)
          (stops_later world block_count reaches laws old mid new 2 (2 * length (free_spares shape lists i)) stop lost.continues stopped.stops)
          (stopped.as_known ∙ lost.as_known) (inr (inr (home_bad new stopped.alone))))

      leaves_by : (new : M) (k uses : ℕ) → uses ≡ 2 + k → ChangesSparesAlone world reaches mid new (free_spares shape lists i) bytes → Continues world reaches mid new k
          → (world new).known ≡ (world mid).known → LeavesBlock world reaches shape old new lists i bytes lists uses
      leaves_by new k uses sum alone continues as_known = record {
        same = refl;
        continues = subst (Continues world reaches old new) (sym sum) (continues_then world block_count reaches laws old mid new 2 k lost.continues continues);
        as_known = as_known ∙ lost.as_known;
        settled = settled_new new (both_alone new alone);
        only = moves new (both_alone new alone);
        dead = home_dead new alone;
        keeps = λ disc fits. fits_before shape lists valid i inside (world old).cells (world new).cells (moves new (both_alone new alone)) disc (inr (home_bad new alone)) fits;
      }

      pub no_spare : (new : M) → HaveFailed world reaches mid new (free_spares shape lists i) bytes (length (free_spares shape lists i))
          → MeetsNoSpare world reaches shape old new lists i bytes lists
      no_spare new failed =
          let leaves = leaves_by new (2 * length (free_spares shape lists i)) (2 + 2 * length (free_spares shape lists i)) refl failed.alone failed.continues failed.as_known in
          record {
            ended = ended_by new (2 + 2 * length (free_spares shape lists i)) lists leaves.continues;
            finds = record { leaves = leaves; none = failed.dead };
          }

      -- ---- a spare has the bytes

      module _ (here : M) (found : Found) (has : IsFound world reaches mid here (free_spares shape lists i) bytes found) where
        spare_good : (world old).known ≡ true → cell_at (world here).cells (slice_index (free_spares shape lists i) found.tried) ≡ Good bytes
        spare_good known = ap (cell_at (world here).cells) (sym has.stands.spare_is) ∙ has.has (lost.as_known ∙ known)

        no_update_uses : (counter : ℕ) → counter ≡ LAST_COUNTER → 2 + (2 * found.tried + 2) + (if counter == LAST_COUNTER then 0 else sdl_update_uses lists.sdl) ≡ 2 + (2 * found.tried + 2)
        no_update_uses counter last =
            let none : (if counter == LAST_COUNTER then 0 else sdl_update_uses lists.sdl) ≡ 0 = cond-true (eqb counter LAST_COUNTER) 0 (sdl_update_uses lists.sdl) (eq-eqb counter LAST_COUNTER last) in
            omega (arith, none)

        pub last_counter : lists.sdl.counter ≡ LAST_COUNTER → MeetsNoCopy world reaches shape old here lists i bytes lists lists.sdl.counter
        last_counter last =
            let leaves = leaves_by here (2 * found.tried + 2) (2 + (2 * found.tried + 2) + (if lists.sdl.counter == LAST_COUNTER then 0 else sdl_update_uses lists.sdl))
            (no_update_uses lists.sdl.counter last) has.alone has.continues has.as_known in
            record {
              ended = ended_by here (2 + (2 * found.tried + 2) + (if lists.sdl.counter == LAST_COUNTER then 0 else sdl_update_uses lists.sdl)) lists leaves.continues;
              finds = record {
                tried = found.tried;
                some_spare = has.stands.inside;
                leaves = leaves;
                counter_is = refl;
                cause = inr last;
                tried_dead = has.dead;
                spare_has = λ known. good_is_good (cell_at (world here).cells (slice_index (free_spares shape lists i) found.tried)) bytes (spare_good known);
              };
            }

        -- ---- the update of the secondary list

        next : IsNextSpare shape lists i (tried_of (free_spares shape lists i) found.tried) found.spare
        next = record { tried = found.tried; failed_are = refl; inside = has.stands.inside; spare_is = has.stands.spare_is }

        spare_is_free : (k : ℕ) → k < length (free_spares shape lists i) → Contains (free_spares shape lists i) (slice_index (free_spares shape lists i) k)
        spare_is_free k h = Contains-get_or (free_spares shape lists i) k 0 h

        spare_free : Contains (free_spares shape lists i) found.spare
        spare_free = subst (Contains (free_spares shape lists i)) (sym has.stands.spare_is) (spare_is_free found.tried has.stands.inside)

        -- the lists after the move
        abbrev pub moved : Lists
        moved = lists_moved shape lists i (tried_of (free_spares shape lists i) found.tried) found.spare

        abbrev pub moved_sdl : Sdl
        moved_sdl = sdl_moved shape lists i (tried_of (free_spares shape lists i) found.tried) found.spare

        moved_is : lists_moved shape lists i (tried_of (free_spares shape lists i) found.tried) found.spare ≡ lists_placed shape lists i (ToSpare found.tried)
        moved_is = ap (λ (s : ℕ). lists_moved shape lists i (tried_of (free_spares shape lists i) found.tried) s) has.stands.spare_is

        settled_here : AreSettled shape (world here).cells lists
        settled_here = settled_new here (both_alone here has.alone)

        continues_here : Continues world reaches old here (2 + (2 * found.tried + 2))
        continues_here = continues_then world block_count reaches laws old mid here 2 (2 * found.tried + 2) lost.continues has.continues

        module _ (new : M) (alone : ChangesCopiesAlone world reaches kinds.Sdl shape here new (IsTwo lists.sdl)) where
          all_only : OnlyMoves shape (world old).cells (world new).cells lists i
          all_only block apart away outside outside' = alone.others block (λ area is. outside area) (λ two area is. outside' area) ∙ both_alone here has.alone block apart away

          data_same : (block : ℕ) → Contains (data_blocks shape) block → cell_at (world new).cells block ≡ cell_at (world here).cells block
          data_same block is_data = alone.others block (λ area is same. no_data_block_sdl shape area (subst (Contains (data_blocks shape)) same is_data))
              (λ two area is same. no_data_block_second shape area (subst (Contains (data_blocks shape)) same is_data))

          free_same : (block : ℕ) → Contains (free_spares shape lists i) block → cell_at (world new).cells block ≡ cell_at (world here).cells block
          free_same block free = data_same block (free_is_data shape lists valid i block free)

          dead_still : cell_at (world new).cells (home_of shape lists i) ≡ Dead
          dead_still = data_same (home_of shape lists i) (home_is_data_block shape lists valid i inside) ∙ home_dead here has.alone

          bad_still : ¬ IsGood (cell_at (world new).cells (home_of shape lists i))
          bad_still = dead_is_bad (cell_at (world new).cells (home_of shape lists i)) dead_still

          tried_dead : AreDead (world new).cells (free_spares shape lists i) found.tried
          tried_dead k h = (let inside = has.stands.inside in free_same (slice_index (free_spares shape lists i) k) (spare_is_free k (omega (arith, h, inside)))) ∙ has.dead k h

          spare_agrees : Agrees (cell_at (world new).cells found.spare) bytes
          spare_agrees = subst (λ (c : Cell). Agrees c bytes) (sym (free_same found.spare spare_free)) (left_agrees (cell_at (world here).cells found.spare) bytes has.left)

          spare_good_still : (world old).known ≡ true → IsGood (cell_at (world new).cells (slice_index (free_spares shape lists i) found.tried))
          spare_good_still known = good_is_good (cell_at (world new).cells (slice_index (free_spares shape lists i) found.tried)) bytes
              (free_same (slice_index (free_spares shape lists i) found.tried) (spare_is_free found.tried has.stands.inside) ∙ spare_good known)

          as_known_all : (world new).known ≡ (world old).known
          as_known_all = alone.as_known ∙ has.as_known ∙ lost.as_known

          dds_still : Settled IsDdsText (dds_block shape) (world new).cells lists.dds
          dds_still = dds_settled shape lists valid i inside (world old).cells (world new).cells all_only settled

          went_to : (world old).known ≡ true → WentTo shape (world new).cells lists i (ToSpare found.tried)
          went_to known = (dead_still, tried_dead, spare_good_still known)

          is_moved : (other : Lists) → other ≡ moved → (world old).known ≡ true → AreMoved shape (world new).cells lists i other
          is_moved other after known = record { tried = found.tried; some_spare = has.stands.inside; went = went_to known; lists_are = after ∙ moved_is }

          goes_on : Continues world reaches here new (sdl_update_uses lists.sdl) → Continues world reaches old new (2 + (2 * found.tried + 2) + sdl_update_uses lists.sdl)
          goes_on continues = continues_then world block_count reaches laws old here new (2 + (2 * found.tried + 2)) (sdl_update_uses lists.sdl) continues_here continues

          -- it was stopped
          update_stopped : (stop : Stop) → IsTrue (world old).power → Stops world reaches here new (sdl_update_uses lists.sdl) stop → LeavesSdl shape (world here).cells (world new).cells moved_sdl
              → PlacingStopped world reaches shape old new lists i bytes lists stop
          update_stopped stop on stops leaves = stopped_by new stop on (record {
            stops = stops_within world block_count reaches laws old new (2 + (2 * found.tried + 2) + sdl_update_uses lists.sdl) (most_placing_uses shape lists i) stop (let inside = has.stands.inside in omega (arith, inside))
                (stops_later world block_count reaches laws old here new (2 + (2 * found.tried + 2)) (sdl_update_uses lists.sdl) stop continues_here stops);
            given = λ known other given. elim (pair_between shape (world new).cells lists.dds lists.sdl moved_sdl other dds_still valid.together.same_version between given) [
              | inl before ↦ inl before
              | inr after ↦ inr (is_moved other after known)
            ];
            left = λ known. inr (record {
              before = (world here).cells;
              settled = settled_here;
              same_dds = λ area is. dds_stay world reaches shape here new alone area;
              moved = moved;
              is_moved = is_moved moved refl known;
              left = leaves;
            });
            as_known = as_known_all;
            only = all_only;
            covers = λ disc disc' differs fits. cover_between shape lists valid i inside (world old).cells (world new).cells all_only bytes disc disc' differs fits
                (tried_of (free_spares shape lists i) found.tried) found.spare next spare_agrees settled bad_still between;
          })
            where
              between : SdlIsBetween shape (world new).cells lists.sdl moved_sdl
              between = settled_stopped shape (world here).cells (world new).cells lists.sdl moved_sdl settled_here.sdl refl (inl (λ same. omega (arith, same))) leaves.may leaves.stays_dead

          -- no copy can be read
          no_copy_left : lists.sdl.counter ≢ LAST_COUNTER → Continues world reaches here new (sdl_update_uses lists.sdl) → SdlIsExact shape (world new).cells moved_sdl → SdlIsLost shape (world new).cells moved_sdl
              → MeetsNoCopy world reaches shape old new lists i bytes lists lists.sdl.counter
          no_copy_left room continues exact all_lost = record {
            ended = ended_by new (2 + (2 * found.tried + 2) + sdl_update_uses lists.sdl) lists (goes_on continues);
            finds = record {
              tried = found.tried;
              some_spare = has.stands.inside;
              leaves = record {
                same = refl;
                continues = subst (Continues world reaches old new) uses (goes_on continues);
                as_known = as_known_all;
                settled = record { dds = dds_still; sdl = lost_settled shape (world new).cells lists.sdl moved_sdl refl refl exact all_lost };
                only = all_only;
                dead = dead_still;
                keeps = λ disc fits. fits_before shape lists valid i inside (world old).cells (world new).cells all_only disc (inr bad_still) fits;
              };
              counter_is = refl;
              cause = inl (lost_alike shape (world new).cells moved_sdl lists.sdl refl all_lost);
              tried_dead = tried_dead;
              spare_has = spare_good_still;
            };
          }
            where
              uses : 2 + (2 * found.tried + 2) + sdl_update_uses lists.sdl ≡ 2 + (2 * found.tried + 2) + (if lists.sdl.counter == LAST_COUNTER then 0 else sdl_update_uses lists.sdl)
              uses =
                  let some : (if lists.sdl.counter == LAST_COUNTER then 0 else sdl_update_uses lists.sdl) ≡ sdl_update_uses lists.sdl = cond-false (eqb lists.sdl.counter LAST_COUNTER) 0 (sdl_update_uses lists.sdl) (ne_eqb lists.sdl.counter LAST_COUNTER room) in
                  omega (arith, some)

          -- the list was written
          list_written : lists.sdl.counter < LAST_COUNTER → Continues world reaches here new (sdl_update_uses lists.sdl) → SdlIsExact shape (world new).cells moved_sdl
              → ((world here).known ≡ true → ¬ SdlIsLost shape (world new).cells moved_sdl) → PlacesBlock world reaches shape old new lists i bytes moved
          list_written room continues exact not_lost = record {
            ended = ended_by new (2 + (2 * found.tried + 2) + sdl_update_uses lists.sdl) moved (goes_on continues);
            puts = record {
              placing = ToSpare found.tried;
              can = (has.stands.inside, room);
              lists_are = moved_is;
              continues = goes_on continues;
              as_known = as_known_all;
              settled = record { dds = dds_still; sdl = λ _. exact };
              only = all_only;
              went = went_to;
              has_copy = λ known none. not_lost (has.as_known ∙ lost.as_known ∙ known) (lost_alike shape (world new).cells lists.sdl moved_sdl refl none);
              makes = λ disc disc' differs fits. fits_moved shape lists valid i inside (world old).cells (world new).cells all_only bytes disc disc' differs fits
                  (tried_of (free_spares shape lists i) found.tried) found.spare next spare_agrees;
            };
          }

        -- ---- how the update ended

        pub update_stops : (new : M) (stop : Stop) → IsTrue (world old).power → StopsUpdating world reaches kinds.Sdl shape here new (SdlValue moved_sdl) stop
            → PlacingStopped world reaches shape old new lists i bytes lists stop
        update_stops new stop on h = update_stopped new h.within.alone stop on h.within.stops (sdl_left shape (world here).cells (world new).cells moved_sdl h.leaves)

        module _ (new : M) (readable : ℕ) (did : HasPutList world reaches kinds.Sdl shape here new (SdlValue moved_sdl) Update readable) where
          exact_by : SdlIsExact shape (world new).cells moved_sdl
          exact_by = sdl_exact shape moved_sdl (world new).cells (exact_of world reaches kinds.Sdl shape here new (SdlValue moved_sdl) readable did.1)

          pub no_copy : readable ≡ 0 → lists.sdl.counter ≢ LAST_COUNTER → MeetsNoCopy world reaches shape old new lists i bytes lists lists.sdl.counter
          no_copy none room = no_copy_left new did.0.alone room did.0.continues exact_by
              (sdl_lost shape moved_sdl (world new).cells (none_kept world reaches kinds.Sdl shape here new (SdlValue moved_sdl) readable none did.1).lost)

          pub spare_put : readable ≢ 0 → lists.sdl.counter < LAST_COUNTER → PlacesBlock world reaches shape old new lists i bytes moved
          spare_put some room = list_written new did.0.alone room did.0.continues exact_by
              (λ known none. (some_kept world reaches kinds.Sdl shape here new (SdlValue moved_sdl) readable some did.1).not_lost known (sdl_all_lost shape moved_sdl (world new).cells none))
