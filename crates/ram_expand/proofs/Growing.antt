-- How an expansion goes, on the cells.
use Rattle.std.specs.Prelude.{◌≡◌, ◌≢◌, ℕ, ◌*◌, ◌≤◌, ◌<◌, List, [], ◌∷◌}
use Rattle.std.proofs.Common.{refl, sym, ap, inl, subst, arith, eqb, take}
use Rattle.std.proofs.lemmas.Bool.{cond-false, ne_eqb}
use Rattle.model_geometry.specs.Geometry.{Shape, dds_block}
use Rattle.model_lists.specs.Texts.{IsDdsText, IsTwo}
use Rattle.model_medium.specs.World.{World, Span}
use Rattle.model_stops.specs.declared.Stop.{Stop}
use Rattle.model_copies.specs.Copies.{Settled}
use Rattle.model_copies.specs.Parts.{SdlIsBetween, SdlIsLost}
use Rattle.model_survival.specs.Stops.{LeavesSdl}
use Rattle.model_copies.proofs.SdlParts.{settled_stopped, lost_settled, lost_alike}
use Rattle.model_places.specs.Places.{Lists, logical_count}
use Rattle.model_places.specs.Valid.{IsValidSsa, AreValid}
use Rattle.model_volume.specs.Given.{AreSettled, OnlyLists}
use Rattle.model_volume.specs.Covers.{FitsUnder, Cover}
use Rattle.model_volume.specs.Expansions.{disc_cut}
use Rattle.model_volume.proofs.GivenFacts.{pair_between}
use Rattle.model_volume.proofs.ListCells.{fits_still}
use Rattle.model_volume.proofs.Expanding.{expanded_valid, cut_fits, expand_covers}
use Rattle.model_drive.specs.declared.TheConstants.{LAST_COUNTER}
use Rattle.model_drive.specs.Repairs.{sdl_update_uses}
use Rattle.model_drive.specs.Expands.{ssa_for, shortened}
use Rattle.model_drive.proofs.ExpandSteps.{lawful_area, larger_area, left_blocks}
use Rattle.ram_medium.specs.Laws.{MediumLaws}
use Rattle.ram_zones.specs.declared.list_kind.ListKind.TheVariants as kinds
use Rattle.ram_copies.specs.Values.{SdlValue}
use Rattle.ram_copies.specs.Calls.{ChangesCopiesAlone, CallEnds, Keeps, KeepsNone, StopsUpdating, HasPutList}
use Rattle.ram_copies.specs.declared.writes.Purpose.TheVariants.{Update}
use Rattle.ram_copies.proofs.EachList.{sdl_exact, sdl_lost, sdl_all_lost}
use Rattle.ram_copies.proofs.Lifting.{some_kept, none_kept}
use Rattle.ram_lists.proofs.Mending.{sdl_left}
use Rattle.ram_lists.proofs.MountSteps.{settled_same, sdl_only, dds_stay}
use Rattle.ram_expand.specs.Sizes.{IsSmaller}
use Rattle.ram_expand.specs.Expanding.{lists_grown, HasGrown, LacksUpdate, StopsGrowing}

module _ {M : Type 0} (world : M → World) (block_count : M → ℕ) (reaches : M → M → Span → Type 0) (laws : MediumLaws world block_count reaches) where
  module _ (shape : Shape) (lists : Lists) (valid : AreValid shape lists) (capacity : ℕ) (size : IsSmaller shape lists capacity)
      (old : M) (settled : AreSettled shape (world old).cells lists) where
    pub area : IsValidSsa shape lists.sdl.version (ssa_for shape capacity)
    area = lawful_area shape lists valid capacity size.lawful.some size.lawful.whole size.lawful.fewer size.lawful.most size.lawful.grows

    pub grows : lists.sdl.ssa ≤ ssa_for shape capacity
    grows = larger_area shape lists valid capacity size.lawful.some size.lawful.whole size.lawful.fewer size.lawful.most

    pub grown_valid : AreValid shape (lists_grown shape lists capacity)
    grown_valid = expanded_valid shape lists (ssa_for shape capacity) valid area grows

    shortened_is : (disc : List ℕ) → disc_cut shape (lists_grown shape lists capacity) disc ≡ shortened capacity disc
    shortened_is disc =
        let whole = size.lawful.whole in
        let left = left_blocks shape lists valid capacity size.lawful.some size.lawful.whole size.lawful.fewer size.lawful.most in
        let same : 32768 * logical_count shape (lists_grown shape lists capacity) ≡ 2048 * capacity = omega (arith, whole, left) in
        ap (λ (n : ℕ). take n disc) same

    -- ---- the update of the secondary list

    module _ (new : M) (alone : ChangesCopiesAlone world reaches kinds.Sdl shape old new (IsTwo lists.sdl)) where
      only_lists : OnlyLists shape (world old).cells (world new).cells
      only_lists = sdl_only world reaches shape old new alone

      dds_kept : Settled IsDdsText (dds_block shape) (world new).cells lists.dds
      dds_kept = settled_same IsDdsText (dds_block shape) (world old).cells (world new).cells (dds_stay world reaches shape old new alone) lists.dds settled.dds

      fits_now : (disc : List ℕ) → FitsUnder shape (world old).cells lists disc → FitsUnder shape (world new).cells lists disc
      fits_now disc fits = fits_still shape (world old).cells (world new).cells only_lists lists disc valid fits

      -- each copy was written
      written : (readable : ℕ) → lists.sdl.counter < LAST_COUNTER → CallEnds world reaches kinds.Sdl shape old new (IsTwo lists.sdl) (sdl_update_uses lists.sdl)
          → Keeps world reaches kinds.Sdl shape old new (SdlValue (lists_grown shape lists capacity).sdl) readable → HasGrown world reaches shape old new lists capacity (lists_grown shape lists capacity)
      written readable room ended keeps = record {
        size = size;
        room = room;
        ended = ended;
        lists_are = refl;
        settled = record { dds = dds_kept; sdl = λ _. sdl_exact shape (lists_grown shape lists capacity).sdl (world new).cells keeps.exact };
        has_copy = λ known lost. keeps.not_lost known
            (sdl_all_lost shape (lists_grown shape lists capacity).sdl (world new).cells (lost_alike shape (world new).cells lists.sdl (lists_grown shape lists capacity).sdl refl lost));
        makes = λ disc fits. subst (FitsUnder shape (world new).cells (lists_grown shape lists capacity)) (shortened_is disc)
            (cut_fits shape lists (ssa_for shape capacity) valid area grows (world new).cells disc (fits_now disc fits));
      }

      -- none can be read
      unwritten : lists.sdl.counter ≢ LAST_COUNTER → CallEnds world reaches kinds.Sdl shape old new (IsTwo lists.sdl) (sdl_update_uses lists.sdl)
          → KeepsNone world reaches kinds.Sdl shape old new (SdlValue (lists_grown shape lists capacity).sdl) → LacksUpdate world reaches shape old new lists capacity lists lists.sdl.counter
      unwritten room ended keeps = record {
        size = size;
        counter_is = refl;
        cause = inl (lost_alike shape (world new).cells (lists_grown shape lists capacity).sdl lists.sdl refl all_lost);
        ended = subst (CallEnds world reaches kinds.Sdl shape old new (IsTwo lists.sdl)) (sym (cond-false (eqb lists.sdl.counter LAST_COUNTER) 0 (sdl_update_uses lists.sdl) (ne_eqb lists.sdl.counter LAST_COUNTER room))) ended;
        same = refl;
        settled = record { dds = dds_kept; sdl = lost_settled shape (world new).cells lists.sdl (lists_grown shape lists capacity).sdl refl refl (sdl_exact shape (lists_grown shape lists capacity).sdl (world new).cells keeps.exact) all_lost };
        keeps = fits_now;
      }
        where
          all_lost : SdlIsLost shape (world new).cells (lists_grown shape lists capacity).sdl
          all_lost = sdl_lost shape (lists_grown shape lists capacity).sdl (world new).cells keeps.lost

      -- the update was stopped
      halted : (stop : Stop) → lists.sdl.counter < LAST_COUNTER → StopsUpdating world reaches kinds.Sdl shape old new (SdlValue (lists_grown shape lists capacity).sdl) stop
          → StopsGrowing world reaches shape old new lists capacity lists stop
      halted stop room did = record {
        size = size;
        room = room;
        stopped = did.within;
        same = refl;
        left = left;
        given = λ other given. pair_between shape (world new).cells lists.dds lists.sdl (lists_grown shape lists capacity).sdl other dds_kept valid.together.same_version between given;
        covers = λ disc fits. subst (λ (d : List ℕ). Cover shape (world new).cells (disc ∷ d ∷ [])) (shortened_is disc)
            (expand_covers shape lists (ssa_for shape capacity) valid area grows (world old).cells (world new).cells disc only_lists dds_kept between fits);
      }
        where
          left : LeavesSdl shape (world old).cells (world new).cells (lists_grown shape lists capacity).sdl
          left = sdl_left shape (world old).cells (world new).cells (lists_grown shape lists capacity).sdl did.leaves

          between : SdlIsBetween shape (world new).cells lists.sdl (lists_grown shape lists capacity).sdl
          between = settled_stopped shape (world old).cells (world new).cells lists.sdl (lists_grown shape lists capacity).sdl settled.sdl refl (inl (λ same. omega (arith, same)))
              left.may left.stays_dead

    -- ---- by what the update answered

    pub growing_stopped : (new : M) (stop : Stop) → lists.sdl.counter < LAST_COUNTER → StopsUpdating world reaches kinds.Sdl shape old new (SdlValue (lists_grown shape lists capacity).sdl) stop
        → StopsGrowing world reaches shape old new lists capacity lists stop
    growing_stopped new stop room did = halted new did.within.alone stop room did

    module _ (new : M) (readable : ℕ) (did : HasPutList world reaches kinds.Sdl shape old new (SdlValue (lists_grown shape lists capacity).sdl) Update readable) where
      pub has_grown : readable ≢ 0 → lists.sdl.counter < LAST_COUNTER → HasGrown world reaches shape old new lists capacity (lists_grown shape lists capacity)
      has_grown some room = written new did.0.alone readable room did.0 (some_kept world reaches kinds.Sdl shape old new (SdlValue (lists_grown shape lists capacity).sdl) readable some did.1)

      pub no_copy : readable ≡ 0 → lists.sdl.counter ≢ LAST_COUNTER → LacksUpdate world reaches shape old new lists capacity lists lists.sdl.counter
      no_copy none room = unwritten new did.0.alone room did.0 (none_kept world reaches kinds.Sdl shape old new (SdlValue (lists_grown shape lists capacity).sdl) readable none did.1)
