-- That a block can be read until it dies, by the cause of each answer.
use Rattle.std.specs.Prelude.{◌≡◌, ◌≢◌, ℕ, zero, suc, ◌+◌, ◌*◌, ◌<◌, ◌≤◌, true, false, IsSome, Option, Some, None, List, length, slice_index}
use Rattle.std.specs.Option.{option_map_or}
use Rattle.std.specs.List.{Contains}
use Rattle.std.proofs.Common.{arith, refl, sym, ap, ◌∙◌, inl, inr, subst}
use Rattle.std.proofs.lemmas.Bool.{cases_eq}
use Rattle.model_geometry.specs.Geometry.{Shape, data_blocks}
use Rattle.model_geometry.proofs.ListBlocks.{no_data_block_dds, no_data_block_sdl}
use Rattle.model_medium.specs.Cells.{Cell, IsGood, IsGoodOrDead, IsSameOrDead, cell_at}
use Rattle.model_sectors.specs.Requests.{block_with, blocks_covered}
use Rattle.model_sectors.specs.declared.ReadOut.{ReadOut}
use Rattle.model_sectors.specs.declared.ReadOut.TheVariants as reads
use Rattle.model_sectors.specs.declared.PowerOut.{PowerOut}
use Rattle.model_sectors.specs.declared.PowerOut.TheVariants as powers
use Rattle.model_stops.specs.declared.Stop.{Stop}
use Rattle.model_stops.specs.declared.Stop.TheVariants as stops
use Rattle.model_places.specs.Places.{Lists, logical_count, home_of, free_spares}
use Rattle.model_places.specs.Valid.{AreValid}
use Rattle.model_pools.specs.Moves.{tried_of}
use Rattle.model_volume.specs.Given.{IsGiven, IsListBlock, OnlyLists}
use Rattle.model_volume.proofs.GivenFacts.{given_seen, chosen_given}
use Rattle.model_volume.proofs.ListCells.{no_data_block_second, list_block_cases}
use Rattle.model_volume.proofs.Moved.{home_is_data_block, homes_apart, home_not_free, home_stays}
use Rattle.model_drive.specs.declared.WriteOut.{WriteOut}
use Rattle.model_drive.specs.declared.WriteOut.TheVariants as writes
use Rattle.model_drive.specs.Shown.{Shown, IsKnown, cells_in, home, home_cell}
use Rattle.model_drive.specs.Sound.{IsSound}
use Rattle.model_drive.specs.Parts.{AreSameOrDead}
use Rattle.model_drive.specs.Course.{Placing, AreMoved, lists_reached}
use Rattle.model_drive.specs.Power.{MountsAny, PowerCause}
use Rattle.model_drive.specs.Reads.{StopsInRead, ReadCause, VerifyCause}
use Rattle.model_drive.specs.Writes.{EndsWriting, WroteSoFar, StopsInWrite, WriteCause, next_block}
use Rattle.model_drive.proofs.Dying.{in_use_alone, given_dies}
use Rattle.model_drive.proofs.Courses.{comes_next, after_total, after_valid, after_good}
use Rattle.model_drive.proofs.WriteTurns.{inside_count}
use Rattle.model_fairness.proofs.Calls.{some_same, none_some, dies_one}
use Rattle.model_costs.specs.Costs.{LivesUnder, Lives, IsNotStoppedIn}
use Rattle.model_costs.proofs.Cells.{good_or_dead}
use Rattle.model_costs.proofs.Homes.{after_other, among}

some_of : (o : Option Lists) → IsSome o → (l : Lists) × (o ≡ Some l)
some_of None is = absurd (let h : false ≡ true = is in cc)
some_of (Some l) is = (l, refl)

data_no_list : (shape : Shape) (block : ℕ) → Contains (data_blocks shape) block → ¬ IsListBlock shape block
data_no_list shape block has listed = elim (list_block_cases shape block listed) [
  | inl first ↦ no_data_block_dds shape first.0 (subst (Contains (data_blocks shape)) first.2 has)
  | inr (inl other) ↦ no_data_block_sdl shape other.0 (subst (Contains (data_blocks shape)) other.2 has)
  | inr (inr other) ↦ no_data_block_second shape other.0 (subst (Contains (data_blocks shape)) other.2 has)
]

home_by : (shown : Shown) (lists : Lists) (i : ℕ) → shown.lists ≡ Some lists → home shown i ≡ home_of shown.shape lists i
home_by shown lists i in_use = ap (λ (o : Option Lists). option_map_or (λ l. home_of shown.shape l i) o 0) in_use

-- a cell that is as it was, or dead
stays : (old new : Cell) → IsSameOrDead old new → IsGoodOrDead old → IsGoodOrDead new
stays old new dies lives = elim dies [
  | inl same ↦ subst IsGoodOrDead (sym same) lives
  | inr dead ↦ subst IsGoodOrDead (sym dead) tt
]

module _ (i : ℕ) where
  under_dies : (shape : Shape) (old new : List Cell) (lists : Lists) → AreSameOrDead old new → LivesUnder shape old lists i → LivesUnder shape new lists i
  under_dies shape old new lists dies lives h = stays (cell_at old (home_of shape lists i)) (cell_at new (home_of shape lists i)) (dies (home_of shape lists i)) (lives h)

  pub under_lists : (shape : Shape) (old new : List Cell) (lists : Lists) → AreValid shape lists → OnlyLists shape old new → LivesUnder shape old lists i → LivesUnder shape new lists i
  under_lists shape old new lists valid only lives h =
      subst IsGoodOrDead (sym (only (home_of shape lists i) (data_no_list shape (home_of shape lists i) (home_is_data_block shape lists valid i h)))) (lives h)

  pub begins_living : (shown : Shown) (lists : Lists) → IsSound shown → IsKnown shown → shown.lists ≡ Some lists → IsGood (home_cell shown i) → Lives shown i
  begins_living shown lists sound known in_use good = record {
    given = λ other given h. subst (λ (l : Lists). IsGoodOrDead (cell_at (cells_in shown) (home_of shown.shape l i)))
        (sym (in_use_alone shown sound known lists in_use (cells_in shown) (λ block. inl refl) other given)) here;
    in_use = λ other is h. subst (λ (l : Lists). IsGoodOrDead (cell_at (cells_in shown) (home_of shown.shape l i))) (sym (some_same lists other shown.lists in_use is)) here;
  }
    where
      here : IsGoodOrDead (cell_at (cells_in shown) (home_of shown.shape lists i))
      here = subst (λ (b : ℕ). IsGoodOrDead (cell_at (cells_in shown) b)) (home_by shown lists i in_use) (good_or_dead (home_cell shown i) good)

  module _ (old new : Shown) (same : new.shape ≡ old.shape) where
    given_by_old : (lists : Lists) → IsGiven new.shape (cells_in new) lists → IsGiven old.shape (cells_in new) lists
    given_by_old lists given = subst (λ (s : Shape). IsGiven s (cells_in new) lists) same given

    by_old : (lists : Lists) → LivesUnder old.shape (cells_in new) lists i → LivesUnder new.shape (cells_in new) lists i
    by_old lists lives = subst (λ (s : Shape). LivesUnder s (cells_in new) lists i) (sym same) lives

    pub make : ((lists : Lists) → IsGiven old.shape (cells_in new) lists → LivesUnder old.shape (cells_in new) lists i)
        → ((lists : Lists) → new.lists ≡ Some lists → LivesUnder old.shape (cells_in new) lists i) → Lives new i
    make given in_use = record {
      given = λ lists is. by_old lists (given lists (given_by_old lists is));
      in_use = λ lists is. by_old lists (in_use lists is);
    }

    pub dies_living : new.lists ≡ old.lists → AreSameOrDead (cells_in old) (cells_in new) → Lives old i → Lives new i
    dies_living kept dies lives = make
        (λ lists is. under_dies old.shape (cells_in old) (cells_in new) lists dies (lives.given lists (given_dies old.shape (cells_in old) (cells_in new) dies lists is)))
        (λ lists is. under_dies old.shape (cells_in old) (cells_in new) lists dies (lives.in_use lists (sym kept ∙ is)))

    pub nothing_living : new ≡ old → Lives old i → Lives new i
    nothing_living is lives = subst (λ (s : Shown). Lives s i) (sym is) lives

    pub off_living : new.lists ≡ None → AreSameOrDead (cells_in old) (cells_in new) → Lives old i → Lives new i
    off_living none dies lives = make
        (λ lists is. under_dies old.shape (cells_in old) (cells_in new) lists dies (lives.given lists (given_dies old.shape (cells_in old) (cells_in new) dies lists is)))
        (λ lists is. absurd (none_some lists new.lists none is))

    read_stops_living : (lba n most : ℕ) (stop : Stop) → StopsInRead old new lba n most stop → Lives old i → Lives new i
    read_stops_living lba n most stop stopped lives = off_living stopped.stopped.no_lists (dies_one old new (home old (block_with lba + stopped.before)) stopped.dies) lives

    module _ (sound : IsSound new) (is_known : IsKnown new) where
      pub by_in_use : (lists : Lists) → new.lists ≡ Some lists → LivesUnder old.shape (cells_in new) lists i → Lives new i
      by_in_use lists is lives = record {
        given = λ other given. subst (λ (l : Lists). LivesUnder new.shape (cells_in new) l i)
            (sym (in_use_alone new sound is_known lists is (cells_in new) (λ block. inl refl) other given)) (by_old lists lives);
        in_use = λ other other_is. subst (λ (l : Lists). LivesUnder new.shape (cells_in new) l i) (sym (some_same lists other new.lists is other_is)) (by_old lists lives);
      }

      pub read_living : (lba n : ℕ) (out : ReadOut) → Lives old i → ReadCause old new lba n out → Lives new i
      read_living lba n reads.Good lives cause = dies_living cause.keeps.same_lists (λ block. inl (cause.same_cells block)) lives
      read_living lba n reads.NotFormatted lives cause = nothing_living cause.nothing lives
      read_living lba n (reads.Range known) lives cause = nothing_living cause.nothing lives
      read_living lba n (reads.Unread named block) lives cause = dies_living cause.keeps.same_lists (dies_one old new block cause.dies) lives
      read_living lba n reads.Cut lives cause = read_stops_living lba n _ stops.Cut cause lives
      read_living lba n reads.Off lives cause = nothing_living cause.nothing lives
      read_living lba n reads.Fault lives cause = read_stops_living lba n _ stops.Fault cause lives

      pub verify_living : (lba n : ℕ) (out : ReadOut) → Lives old i → VerifyCause old new lba n out → Lives new i
      verify_living lba n reads.Good lives cause = dies_living cause.keeps.same_lists (λ block. inl (cause.same_cells block)) lives
      verify_living lba n reads.NotFormatted lives cause = nothing_living cause.nothing lives
      verify_living lba n (reads.Range known) lives cause = nothing_living cause.nothing lives
      verify_living lba n (reads.Unread named block) lives cause = dies_living cause.keeps.same_lists (dies_one old new block cause.dies) lives
      verify_living lba n reads.Cut lives cause = read_stops_living lba n _ stops.Cut cause lives
      verify_living lba n reads.Off lives cause = nothing_living cause.nothing lives
      verify_living lba n reads.Fault lives cause = read_stops_living lba n _ stops.Fault cause lives

      module _ (was_known : IsKnown old) (lives : Lives old i) where
        -- ---- the power

        mount_stops_living : new.lists ≡ None → MountsAny old new → Lives new i
        mount_stops_living none any = make
            (λ lists is. under_lists old.shape (cells_in old) (cells_in new) lists is.valid any.only (lives.given lists (any.given was_known lists is)))
            (λ lists is. absurd (none_some lists new.lists none is))

        pub power_living : (out : PowerOut) → PowerCause old new out → Lives new i
        power_living (powers.Ready known) cause =
            let given = given_seen old.shape (cells_in old) cause.seen (cells_in new) cause.lists (cause.sees was_known) (chosen_given old.shape cause.seen cause.lists (cause.chosen was_known)) in
            by_in_use cause.lists cause.in_use (under_lists old.shape (cells_in old) (cells_in new) cause.lists given.valid cause.any.only (lives.given cause.lists given))
        power_living powers.NotFormatted cause = mount_stops_living cause.no_lists cause.any
        power_living powers.Cut cause = mount_stops_living cause.stopped.no_lists cause.any
        power_living powers.Fault cause = mount_stops_living cause.stopped.no_lists cause.any

        -- ---- a write

        module _ (old_sound : IsSound old) (lba n : ℕ) where
          module _ (lists : Lists) (course : List Placing) (more : ℕ) (reached : Lists) (wrote : WroteSoFar old new lists lba n course more reached) where
            valid : AreValid old.shape lists
            valid = (old_sound.in_use lists wrote.in_use).valid

            module _ (fits : block_with lba + length course + more ≤ logical_count old.shape lists) where
              total : logical_count old.shape (lists_reached old.shape lists (block_with lba) course) ≡ logical_count old.shape lists
              total = after_total old.shape lists (block_with lba) valid course

              -- a block that was not written has its home as it was
              module _ (inside : i < logical_count old.shape lists) (none : (k : ℕ) → k < length course + more → i ≢ block_with lba + k) where
                is_data : Contains (data_blocks old.shape) (home_of old.shape lists i)
                is_data = home_is_data_block old.shape lists valid i inside

                same_cell : cell_at (cells_in new) (home_of old.shape lists i) ≡ cell_at (cells_in old) (home_of old.shape lists i)
                same_cell = wrote.only (home_of old.shape lists i)
                    (λ k h same. none k h (homes_apart old.shape lists valid i (block_with lba + k) inside (omega (arith, fits, h)) same))
                    (λ k h. home_not_free old.shape lists valid (block_with lba + k) i inside)
                    (λ area same. no_data_block_sdl old.shape area (subst (Contains (data_blocks old.shape)) same is_data))
                    (λ area same. no_data_block_second old.shape area (subst (Contains (data_blocks old.shape)) same is_data))

                other_lives : IsGoodOrDead (cell_at (cells_in new) (home_of old.shape (lists_reached old.shape lists (block_with lba) course) i))
                other_lives = subst (λ (b : ℕ). IsGoodOrDead (cell_at (cells_in new) b))
                    (sym (after_other old.shape lists (block_with lba) valid course (omega (arith, fits)) wrote.can i inside (λ k h. none k (omega (arith, h)))))
                    (subst IsGoodOrDead (sym same_cell) (lives.in_use lists wrote.in_use inside))

              at_course : (inside : i < logical_count old.shape lists)
                  → (((k : ℕ) → k < length course → i ≢ block_with lba + k) → IsGoodOrDead (cell_at (cells_in new) (home_of old.shape (lists_reached old.shape lists (block_with lba) course) i)))
                  → IsGoodOrDead (cell_at (cells_in new) (home_of old.shape (lists_reached old.shape lists (block_with lba) course) i))
              at_course inside otherwise = elim (among (block_with lba) i (length course)) [
                | inl found ↦ subst (λ (b : ℕ). IsGoodOrDead (cell_at (cells_in new) (home_of old.shape (lists_reached old.shape lists (block_with lba) course) b))) (sym found.2)
                    (good_or_dead (cell_at (cells_in new) (home_of old.shape (lists_reached old.shape lists (block_with lba) course) (block_with lba + found.0)))
                    (after_good old.shape lists (block_with lba) valid (cells_in new) course (omega (arith, fits)) wrote.can (wrote.took was_known) found.0 found.1))
                | inr none ↦ otherwise none
              ]

          -- ---- it was not stopped

          ends_living : (lists : Lists) (course : List Placing) (more : ℕ) (reached : Lists) (uses : ℕ) (buffered_now : List ℕ)
              → (ends : EndsWriting old new lists lba n course more reached uses buffered_now) → block_with lba + length course + more ≤ logical_count old.shape lists
              → ((inside : i < logical_count old.shape lists) → ((k : ℕ) → k < length course → i ≢ block_with lba + k) → IsGoodOrDead (cell_at (cells_in new) (home_of old.shape (lists_reached old.shape lists (block_with lba) course) i)))
              → Lives new i
          ends_living lists course more reached uses buffered_now ends fits otherwise =
              by_in_use reached ends.now_in_use (subst (λ (l : Lists). LivesUnder old.shape (cells_in new) l i) (sym ends.wrote.reached_are)
              (λ h. let all = total lists course more reached ends.wrote fits in
              let inside : i < logical_count old.shape lists = omega (arith, all, h) in
              at_course lists course more reached ends.wrote fits inside (otherwise inside)))

          next_fits : (lists : Lists) (course : List Placing) (reached : Lists) → WroteSoFar old new lists lba n course 1 reached → length course < blocks_covered lba n
              → block_with lba + length course + 1 ≤ logical_count old.shape lists
          next_fits lists course reached wrote covered =
              let last = inside_count old lba n (length course) lists wrote.in_use wrote.inside covered in omega (arith, last)

          all_fit : (lists : Lists) (course : List Placing) (reached : Lists) → WroteSoFar old new lists lba n course 0 reached → length course ≡ blocks_covered lba n
              → block_with lba + length course + 0 ≤ logical_count old.shape lists
          all_fit lists course reached wrote all =
              let few : lba + n ≤ logical_count old.shape lists * 16 = subst (λ (o : Option Lists). lba + n ≤ option_map_or (logical_count old.shape) o 0 * 16) wrote.in_use wrote.inside.inside in
              by_count (length course) all few
            where
              by_count : (c : ℕ) → c ≡ blocks_covered lba n → lba + n ≤ logical_count old.shape lists * 16 → block_with lba + c + 0 ≤ logical_count old.shape lists
              by_count zero is few = omega (arith, few)
              by_count (suc c) is few = let last = inside_count old lba n c lists wrote.in_use wrote.inside (omega (arith, is)) in omega (arith, last)

          -- the next block has its home as it was, or it is dead
          next_living : (lists : Lists) (course : List Placing) (reached : Lists) (uses : ℕ) (buffered_now : List ℕ)
              → (ends : EndsWriting old new lists lba n course 1 reached uses buffered_now) → length course < blocks_covered lba n
              → IsSameOrDead (cell_at (cells_in old) (home new (next_block lba course))) (cell_at (cells_in new) (home new (next_block lba course))) → Lives new i
          next_living lists course reached uses buffered_now ends covered dies =
              let fits = next_fits lists course reached ends.wrote covered in
              ends_living lists course 1 reached uses buffered_now ends fits (λ inside none. elim (cases_eq i (next_block lba course)) [
                | inl here ↦
                    let there : home new (next_block lba course) ≡ home_of old.shape (lists_reached old.shape lists (block_with lba) course) i =
                    home_by new reached (next_block lba course) ends.now_in_use
                    ∙ ap (λ (s : Shape). home_of s reached (next_block lba course)) same
                    ∙ ap (λ (l : Lists). home_of old.shape l (next_block lba course)) ends.wrote.reached_are
                    ∙ ap (λ (b : ℕ). home_of old.shape (lists_reached old.shape lists (block_with lba) course) b) (sym here) in
                    let was : home_of old.shape (lists_reached old.shape lists (block_with lba) course) i ≡ home_of old.shape lists i =
                    after_other old.shape lists (block_with lba) (valid lists course 1 reached ends.wrote) course (omega (arith, fits)) ends.wrote.can i inside none in
                    stays (cell_at (cells_in old) (home_of old.shape (lists_reached old.shape lists (block_with lba) course) i)) (cell_at (cells_in new) (home_of old.shape (lists_reached old.shape lists (block_with lba) course) i))
                    (subst (λ (b : ℕ). IsSameOrDead (cell_at (cells_in old) b) (cell_at (cells_in new) b)) there dies)
                    (subst (λ (b : ℕ). IsGoodOrDead (cell_at (cells_in old) b)) (sym was) (lives.in_use lists ends.wrote.in_use inside))
                | inr other ↦ other_lives lists course 1 reached ends.wrote fits inside (λ k h. elim (cases_eq k (length course)) [
                  | inl last ↦ (λ is. other (is ∙ ap (λ (m : ℕ). block_with lba + m) last))
                  | inr less ↦ none k (omega (arith, h, less))
                ])
              ])

          -- ---- it was stopped in another block

          pub stops_living : (stop : Stop) (stopped : StopsInWrite old new lba n stop) → i ≢ next_block lba stopped.course → Lives new i
          stops_living stop stopped apart =
              let fits = next_fits stopped.lists stopped.course stopped.reached stopped.wrote stopped.covered in
              let all = total stopped.lists stopped.course 1 stopped.reached stopped.wrote fits in
              make (λ lists is. elim (stopped.given was_known lists is) [
                | inl reached ↦ subst (λ (l : Lists). LivesUnder old.shape (cells_in new) l i) (sym (reached ∙ stopped.wrote.reached_are)) (λ h. at_reached (omega (arith, all, h)))
                | inr moved ↦ by_moved lists (subst (λ (l : Lists). AreMoved old.shape (cells_in new) l (next_block lba stopped.course) lists) stopped.wrote.reached_are moved) is.valid
              ])
              (λ lists is. absurd (none_some lists new.lists stopped.stopped.no_lists is))
            where
              at : Lists
              at = lists_reached old.shape stopped.lists (block_with lba) stopped.course

              fits : block_with lba + length stopped.course + 1 ≤ logical_count old.shape stopped.lists
              fits = next_fits stopped.lists stopped.course stopped.reached stopped.wrote stopped.covered

              at_reached : i < logical_count old.shape stopped.lists → IsGoodOrDead (cell_at (cells_in new) (home_of old.shape (lists_reached old.shape stopped.lists (block_with lba) stopped.course) i))
              at_reached inside = at_course stopped.lists stopped.course 1 stopped.reached stopped.wrote fits inside (λ none.
                  other_lives stopped.lists stopped.course 1 stopped.reached stopped.wrote fits inside (λ k h. elim (cases_eq k (length stopped.course)) [
                    | inl last ↦ (λ is. apart (is ∙ ap (λ (m : ℕ). block_with lba + m) last))
                    | inr less ↦ none k (omega (arith, h, less))
                  ]))

              by_moved : (lists : Lists) → AreMoved old.shape (cells_in new) (lists_reached old.shape stopped.lists (block_with lba) stopped.course) (next_block lba stopped.course) lists → AreValid old.shape lists
                  → LivesUnder old.shape (cells_in new) lists i
              by_moved lists moved lawful h =
                  let total' = total stopped.lists stopped.course 1 stopped.reached stopped.wrote fits in
                  let valid' = after_valid old.shape stopped.lists (block_with lba) (valid stopped.lists stopped.course 1 stopped.reached stopped.wrote) stopped.course (omega (arith, fits)) stopped.wrote.can in
                  let counts = ap (logical_count old.shape) moved.lists_are in
                  let inside : i < logical_count old.shape stopped.lists = omega (arith, total', counts, h) in
                  subst (λ (b : ℕ). IsGoodOrDead (cell_at (cells_in new) b)) (sym (ap (λ (l : Lists). home_of old.shape l i) moved.lists_are
                  ∙ home_stays old.shape at valid' (next_block lba stopped.course) (omega (arith, total', fits))
                  (tried_of (free_spares old.shape at (next_block lba stopped.course)) moved.tried) (slice_index (free_spares old.shape at (next_block lba stopped.course)) moved.tried)
                  (comes_next old.shape at (next_block lba stopped.course) moved.tried moved.some_spare) i (omega (arith, total', inside)) apart))
                  (at_reached inside)

          pub write_living : (out : WriteOut) → IsNotStoppedIn old new lba n out i → WriteCause old new lba n out → Lives new i
          write_living writes.Good apart cause =
              let fits = all_fit cause.lists cause.course cause.reached cause.ends.wrote cause.all in
              ends_living cause.lists cause.course 0 cause.reached _ _ cause.ends fits (λ inside none.
              other_lives cause.lists cause.course 0 cause.reached cause.ends.wrote fits inside (λ k h. none k (omega (arith, h))))
          write_living writes.NotFormatted apart cause = nothing_living cause.nothing lives
          write_living (writes.Range known) apart cause = nothing_living cause.nothing lives
          write_living (writes.Unread named block) apart cause =
              next_living cause.lists cause.course cause.reached _ _ cause.ends cause.is_named.covered
              (subst (λ (b : ℕ). IsSameOrDead (cell_at (cells_in old) b) (cell_at (cells_in new) b)) cause.block_is cause.left)
          write_living (writes.NoSpare named) apart cause = next_living cause.lists cause.course cause.reached _ _ cause.ends cause.is_named.covered (inr cause.dead)
          write_living (writes.NoUpdate counter) apart cause = next_living cause.lists cause.course cause.reached _ _ cause.ends cause.covered (inr cause.dead)
          write_living writes.Cut apart cause = stops_living stops.Cut cause (apart cause)
          write_living writes.Off apart cause = nothing_living cause.nothing lives
          write_living writes.Fault apart cause = stops_living stops.Fault cause (apart cause)
