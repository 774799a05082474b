-- A write of a request, block after block: what was written so far, and what becomes of it with the next block.
use Rattle.std.proofs.Common.{◌≡◌, ℕ, suc, ◌+◌, ◌*◌, ◌<◌, ◌≤◌, true, IsTrue, Option, List, [], ◌∷◌, length, inl, refl, sym, ap, ◌∙◌, subst, arith}
use Rattle.std.specs.List.{Contains}
use Rattle.model_geometry.specs.Geometry.{Shape, data_blocks}
use Rattle.model_geometry.proofs.ListBlocks.{no_data_block_sdl}
use Rattle.model_volume.proofs.ListCells.{no_data_block_second}
use Rattle.model_medium.specs.Cells.{Cell, IsSameOrDead, IsGood, cell_at}
use Rattle.model_medium.specs.World.{World, Span}
use Rattle.model_medium.specs.Machine.{Machine}
use Rattle.model_medium.specs.Exact.{Event}
use Rattle.model_medium.specs.Reach.{ReachBy}
use Rattle.model_medium.specs.declared.WornBlock.{WornBlock}
use Rattle.model_medium.specs.declared.ArmedCut.{ArmedCut}
use Rattle.model_buffer.specs.Buffer.{numbers_in, touched_one, with_newest}
use Rattle.model_sectors.specs.Discs.{On, Off, replaced}
use Rattle.model_sectors.specs.Requests.{block_with, blocks_covered, start_in, merged_in}
use Rattle.model_sectors.specs.Uses.{touched_refused}
use Rattle.model_buffer.proofs.Numbers.{numbers_in-with_newest}
use Rattle.model_sectors.proofs.Covering.{covered_inside, block_with_start, replaced_first}
use Rattle.model_stops.specs.Stops.{Continues, Stops}
use Rattle.model_stops.specs.declared.Stop.{Stop}
use Rattle.model_stops.specs.declared.Stop.TheVariants as stops
use Rattle.model_places.specs.Places.{Lists, logical_count, capacity_of, home_of}
use Rattle.model_places.specs.Valid.{AreValid}
use Rattle.model_volume.specs.Given.{AreSettled}
use Rattle.model_volume.specs.Covers.{FitsUnder, Cover}
use Rattle.model_volume.specs.Moves.{DiffersAt}
use Rattle.model_volume.proofs.GivenFacts.{settled_alone}
use Rattle.model_volume.proofs.Moved.{home_is_data_block, homes_apart, home_not_free}
use Rattle.model_drive.specs.declared.WriteOut.TheVariants as outs
use Rattle.model_drive.specs.Shown.{Shown, HoldsBlocksOf, StandsFor}
use Rattle.model_drive.specs.Parts.{AreSameOrDead}
use Rattle.model_drive.specs.Course.{Placing, ToHome, ToSpare, lists_placed, placing_uses, most_placing_uses, uses_of_rest, TookCourse, LeavesCopy, HasCopyOfMoves}
use Rattle.model_drive.specs.Blocks.{PutsBlock, LeavesBlock, FindsNoSpare, FindsNoCopy, StopsAtBlock}
use Rattle.model_drive.specs.Writes.{WroteCourse, ReadRest, LacksRest, StopsInWrite, StopsInBlock, disc_after}
use Rattle.model_drive.proofs.Ends.{stop_known, stop_off}
use Rattle.model_drive.proofs.Dying.{one_dies, fits_dies, cover_dies, settled_dies}
use Rattle.model_drive.proofs.Courses.{after_total, after_later, after_good, after_version}
use Rattle.model_drive.proofs.WriteTurns.{ends_none, reached_valid, begun, lacks_rest, copied_then}
use Rattle.model_drive.proofs.WriteBytes.{next_differs}
use Rattle.model_drive.proofs.BlockTurns.{put_turn, no_spare_turn, no_copy_turn, stop_turn, rest_stop_turn}
use Rattle.ram_medium.specs.Laws.{MediumLaws, ControlLaws, machine_shown}
use Rattle.ram_transfer.specs.Writing.{HasRest, LacksItsRest, RestStopped, EndsParts, StopsParts, WriteSteps}
use Rattle.ram_transfer.specs.Shown.{shown_without, shown_under}
use Rattle.ram_transfer.proofs.Buffers.{holds_put}
use Rattle.ram_transfer.proofs.Machines.{machine_continues, machine_stops}
use Rattle.ram_transfer.proofs.Rests.{reads_it, one_use, rest_continues, rest_cells, rest_put, rest_refused, rest_holds, merged_is}

-- a placing keeps the structure
placed_dds : (shape : Shape) (lists : Lists) (i : ℕ) (placing : Placing) → (lists_placed shape lists i placing).dds ≡ lists.dds
placed_dds shape lists i ToHome = refl
placed_dds shape lists i (ToSpare tried) = refl

module _ (shape : Shape) (old mid : Machine) (lists reached : Lists) (held held' : List (ℕ × List ℕ)) (lba n : ℕ) (bytes : List ℕ) where
  -- The blocks of this course were written. Whatever disc the drive stood for, with them replaced it fits now. Where one of
  -- them was moved, the list that says so has a copy that can be read.
  pub record WroteBlocks (course : List Placing) : Type 0 where
    pub wrote : WroteCourse (shown_under shape old lists held) (shown_under shape mid reached held') lists lba n course reached
    pub settled : AreSettled shape mid.world.cells reached
    pub same_dds : reached.dds ≡ lists.dds
    pub has_copy : old.world.known ≡ true → HasCopyOfMoves shape mid.world.cells lists.sdl course
    pub makes : (disc : List ℕ) → StandsFor (shown_under shape old lists held) (On disc) → FitsUnder shape mid.world.cells reached (disc_after disc lba n bytes (length course))
    pub holds : (disc : List ℕ) → StandsFor (shown_under shape old lists held) (On disc) → HoldsBlocksOf (disc_after disc lba n bytes (length course)) held'

  -- k blocks were written
  pub record WroteSome (k : ℕ) : Type 0 where
    pub course : List Placing
    pub as_many : length course ≡ k
    pub blocks : WroteBlocks course

module _ {M : Type 0} (world : M → World) (block_count : M → ℕ) (reaches : M → M → Span → Type 0) (takes : M → M → Event → Type 0) (arms : M → List WornBlock) (armed_cut : M → Option ArmedCut)
    (rules : MediumLaws world block_count reaches) (laws : ControlLaws world reaches takes arms armed_cut) (shape : Shape) where
  abbrev machine : M → Machine
  machine m = machine_shown world arms armed_cut m

  abbrev under : M → Lists → List (ℕ × List ℕ) → Shown
  under m lists held = shown_under shape (machine m) lists held

  -- none was written yet
  pub wrote_none : (old : M) (lists : Lists) (held : List (ℕ × List ℕ)) (lba n : ℕ) (bytes : List ℕ) → IsTrue (world old).power → lba + n ≤ capacity_of shape lists → AreSettled shape (world old).cells lists
      → WroteSome shape (machine old) (machine old) lists lists held held lba n bytes 0
  wrote_none old lists held lba n bytes on inside settled = record {
    course = [];
    as_many = refl;
    blocks = record {
      wrote = ends_none (under old lists held) lba n lists (record { on = on; formatted = refl; inside = inside }) refl (laws.reach old old 0 (rules.none old));
      settled = settled;
      same_dds = refl;
      has_copy = λ known. tt;
      makes = λ disc stood. subst (FitsUnder shape (world old).cells lists) (sym (first disc)) stood.2.fits;
      holds = λ disc stood. subst (λ (d : List ℕ). HoldsBlocksOf d held) (sym (first disc)) stood.2.holds;
    };
  }
    where
      first : (disc : List ℕ) → disc_after disc lba n bytes 0 ≡ disc
      first disc = let there : block_with lba + 0 ≡ block_with lba = omega arith in ap (replaced disc lba bytes) there ∙ replaced_first disc lba bytes

  module _ (old mid : M) (lists reached : Lists) (held held_mid : List (ℕ × List ℕ)) (lba n : ℕ) (bytes : List ℕ) (course : List Placing)
      (did : WroteBlocks shape (machine old) (machine mid) lists reached held held_mid lba n bytes course)
      (valid : AreValid shape lists) (inside : lba + n ≤ capacity_of shape lists) (whole : length bytes ≡ 2048 * n) (covered : length course < blocks_covered lba n) where
    abbrev i : ℕ
    i = block_with lba + length course

    abbrev home : ℕ
    home = home_of shape reached i

    abbrev before : Shown
    before = under old lists held

    abbrev now : Shown
    now = under mid reached held_mid

    few : lba + n ≤ 16 * logical_count shape lists
    few = omega (arith, inside)

    within_old : i < logical_count shape lists
    within_old = covered_inside lba n (length course) (logical_count shape lists) few covered

    total : logical_count shape reached ≡ logical_count shape lists
    total = ap (logical_count shape) did.wrote.wrote.reached_are ∙ after_total shape lists (block_with lba) valid course

    within : i < logical_count shape reached
    within = let w = within_old in omega (arith, total, w)

    reached_ok : AreValid shape reached
    reached_ok = reached_valid before now now lba n course lists reached did.wrote valid covered

    was_on : IsTrue (world old).power
    was_on = did.wrote.wrote.inside.on

    known_mid : (disc : List ℕ) → StandsFor before (On disc) → (world mid).known ≡ true
    known_mid disc stood = did.wrote.ends.reach.lasts.as_known ∙ stood.0

    -- the home of the block is as it was before the write
    untouched : cell_at (world mid).cells home ≡ cell_at (world old).cells home
    untouched =
        subst (λ (b : ℕ). cell_at (world mid).cells b ≡ cell_at (world old).cells b) (sym home_is)
        (did.wrote.wrote.only (home_of shape lists i)
        (λ j less same. apart j (let l = less in omega (arith, l)) (homes_apart shape lists valid i (block_with lba + j) within_old (let w = within_old in let l = less in omega (arith, w, l)) same))
        (λ j less. home_not_free shape lists valid (block_with lba + j) i within_old)
        (λ area same. no_data_block_sdl shape area (subst (Contains (data_blocks shape)) same (home_is_data_block shape lists valid i within_old)))
        (λ area same. no_data_block_second shape area (subst (Contains (data_blocks shape)) same (home_is_data_block shape lists valid i within_old))))
      where
        home_is : home ≡ home_of shape lists i
        home_is = ap (λ (l : Lists). home_of shape l i) did.wrote.wrote.reached_are ∙ after_later shape lists (block_with lba) valid course did.wrote.wrote.can i (omega arith) within_old

        apart : (j : ℕ) → j < length course → i ≡ block_with lba + j → ⊥
        apart j less same = omega (arith, less, same)

    -- a write that was stopped in the block
    module _ (new : M) where
      abbrev off : Shown
      off = shown_without shape (machine new)

      stopped_parts : (stop : Stop) → StopsInWrite before off lba n stop → ((disc : List ℕ) → StandsFor before (On disc) → StopsInBlock disc lba n bytes (StandsFor off)) → ¬ IsTrue (world new).power
          → StopsParts shape (machine old) (machine new) lists held lba n bytes stop
      stopped_parts stops.Cut cause either is_off = record { cause = cause; steps = steps; is_off = is_off }
        where
          steps : WriteSteps before off lba n bytes outs.Cut
          steps (On disc) stood = either disc stood
          steps (Off discs) stood = absurd (stood.1 was_on)
      stopped_parts stops.Off cause either is_off = absurd (cause.stopped.stops.was_off was_on)
      stopped_parts stops.Fault cause either is_off = record { cause = cause; steps = steps; is_off = is_off }
        where
          steps : WriteSteps before off lba n bytes outs.Fault
          steps (On disc) stood = either disc stood
          steps (Off discs) stood = absurd (stood.1 was_on)

      -- in the look for its rest
      pub rest_stopped : (stop : Stop) → RestStopped world reaches mid held_mid lba n i home new stop → StopsParts shape (machine old) (machine new) lists held lba n bytes stop
      rest_stopped stop halted =
          stopped_parts stop
          (rest_stop_turn before now off lba n course lists reached did.wrote valid covered stop stops_there
          (one_use world block_count reaches rules shape reached mid held_mid (numbers_in held) lba n (length course) did.wrote.buffered_are halted.partly halted.stopped.not_buffered)
          dies halted.stopped.dies.others (λ known. did.settled) refl refl refl)
          (λ disc stood. record {
            block = length course;
            covered = covered;
            either = (stop_known (machine mid) (machine new) 1 stop stops_there ∙ known_mid disc stood, is_off, covers disc stood);
          })
          is_off
        where
          stops_there : Stops (λ (m : Machine). m.world) ReachBy (machine mid) (machine new) 1 stop
          stops_there = machine_stops world reaches takes arms armed_cut laws mid new 1 1 refl stop halted.stopped.stops

          is_off : ¬ IsTrue (world new).power
          is_off = stop_off (machine mid) (machine new) 1 stop stops_there

          dies : AreSameOrDead (world mid).cells (world new).cells
          dies = one_dies now off home (record { others = halted.stopped.dies.others; left = halted.stopped.dies.left })

          covers : (disc : List ℕ) → StandsFor before (On disc) → Cover shape (world new).cells (disc_after disc lba n bytes (length course) ∷ disc_after disc lba n bytes (length course + 1) ∷ [])
          covers disc stood = cover_dies shape (world mid).cells (world new).cells dies (disc_after disc lba n bytes (length course) ∷ disc_after disc lba n bytes (length course + 1) ∷ [])
              (λ other given. inl (subst (λ (l : Lists). FitsUnder shape (world mid).cells l (disc_after disc lba n bytes (length course))) (sym (settled_alone shape (world mid).cells reached other did.settled reached_ok.together.same_version given)) (did.makes disc stood)))

    -- Its rest cannot be read.
    module _ (new : M) (rest : List ℕ) (held' : List (ℕ × List ℕ)) (lacks : LacksItsRest world reaches mid held_mid lba n i home new rest held') (named : ℕ) (named_is : named ≡ start_in lba i) where
      unread_dies : AreSameOrDead (world mid).cells (world new).cells
      unread_dies = one_dies now (under new reached held_mid) home (record { others = lacks.unread.dies.others; left = lacks.unread.dies.left })

      unread_goes : Continues (λ (m : Machine). m.world) ReachBy (machine mid) (machine new) 1
      unread_goes = machine_continues world reaches takes arms armed_cut laws mid new 1 lacks.unread.continues

      unread_cause : LacksRest before (under new reached held_mid) lba n named home
      unread_cause =
          lacks_rest before now (under new reached held_mid) lba n course lists reached did.wrote valid covered
          (λ block home free sdl second. lacks.unread.dies.others block home) (λ block was. unread_goes.reach.lasts.stays_dead block was)
          named home (record { covered = covered; first = named_is })
          (reads_it world block_count reaches rules shape reached mid held_mid (numbers_in held) lba n (length course) did.wrote.buffered_are lacks.partly lacks.unread.not_buffered)
          unread_goes refl refl refl refl lacks.unread.not_good
          (subst (λ (c : Cell). IsSameOrDead c (cell_at (world new).cells home)) untouched lacks.unread.dies.left)

      unread_steps : WriteSteps before (under new reached held_mid) lba n bytes (outs.Unread named home)
      unread_steps (On disc) stood =
          subst (λ (j : ℕ). StandsFor (under new reached held_mid) (On (replaced disc lba bytes j))) (sym (ap block_with named_is ∙ block_with_start lba n (length course) covered)) (
            unread_goes.reach.lasts.as_known ∙ known_mid disc stood,
            unread_goes.is_on,
            record {
              valid = reached_ok;
              settled = settled_dies shape (world mid).cells (world new).cells unread_dies reached did.settled;
              fits = fits_dies shape (world mid).cells (world new).cells unread_dies reached (disc_after disc lba n bytes (length course)) (did.makes disc stood);
              holds = did.holds disc stood;
            },
          )
      unread_steps (Off discs) stood = absurd (stood.1 was_on)

      unread_ends : EndsParts shape (machine old) (machine new) lists held lba n bytes reached held_mid (outs.Unread named home)
      unread_ends = record {
        cause = unread_cause;
        steps = unread_steps;
        is_on = unread_goes.is_on;
        settled = settled_dies shape (world mid).cells (world new).cells unread_dies reached did.settled;
        same_dds = did.same_dds;
      }

      pub meets_unread : (block : ℕ) → block ≡ home → (lists' : Lists) → lists' ≡ reached → EndsParts shape (machine old) (machine new) lists held lba n bytes lists' held' (outs.Unread named block)
      meets_unread block block_is lists' same =
          subst (λ (b : ℕ). EndsParts shape (machine old) (machine new) lists held lba n bytes lists' held' (outs.Unread named b)) (sym block_is)
          (subst (λ (l : Lists). EndsParts shape (machine old) (machine new) lists held lba n bytes l held' (outs.Unread named home)) (sym same)
          (subst (λ (h : List (ℕ × List ℕ)). EndsParts shape (machine old) (machine new) lists held lba n bytes reached h (outs.Unread named home)) (sym lacks.unread.buffer_is) unread_ends))

    -- Its rest was in hand, and its part of the request was merged into it.
    module _ (at : M) (rest : List ℕ) (held_at : List (ℕ × List ℕ)) (has : HasRest world reaches mid held_mid lba n i home at rest held_at) (full : length rest ≡ 32768) where
      abbrev put : List ℕ
      put = merged_in lba n bytes i rest

      same_cells : (world at).cells ≡ (world mid).cells
      same_cells = rest_cells world block_count reaches rules shape reached mid held_mid (numbers_in held) lba n (length course) did.wrote.buffered_are at rest held_at has

      reads : ReadRest before now lba n course (machine at)
      reads = record {
        continues = machine_continues world reaches takes arms armed_cut laws mid at (uses_of_rest (numbers_in held) lba n (length course))
            (rest_continues world block_count reaches rules shape reached mid held_mid (numbers_in held) lba n (length course) did.wrote.buffered_are at rest held_at did.wrote.ends.is_on has);
        same_cells = λ block. ap (λ (l : List Cell). cell_at l block) same_cells;
      }

      refused_buffer : numbers_in held_at ≡ touched_refused (numbers_in held) lba n (length course)
      refused_buffer = rest_refused world block_count reaches rules shape reached mid held_mid (numbers_in held) lba n (length course) did.wrote.buffered_are at rest held_at has

      known_at : (disc : List ℕ) → StandsFor before (On disc) → (world at).known ≡ true
      known_at disc stood = reads.continues.reach.lasts.as_known ∙ known_mid disc stood

      fits_at : (disc : List ℕ) → StandsFor before (On disc) → FitsUnder shape (world at).cells reached (disc_after disc lba n bytes (length course))
      fits_at disc stood = subst (λ (l : List Cell). FitsUnder shape l reached (disc_after disc lba n bytes (length course))) (sym same_cells) (did.makes disc stood)

      holds_at : (disc : List ℕ) → StandsFor before (On disc) → HoldsBlocksOf (disc_after disc lba n bytes (length course)) held_at
      holds_at disc stood =
          rest_holds world block_count reaches rules shape reached mid held_mid (numbers_in held) lba n (length course) did.wrote.buffered_are at rest held_at
          (disc_after disc lba n bytes (length course)) (known_mid disc stood) (did.makes disc stood) (did.holds disc stood) within has

      differs_at : (disc : List ℕ) → StandsFor before (On disc) → DiffersAt i put (disc_after disc lba n bytes (length course)) (disc_after disc lba n bytes (length course + 1))
      differs_at disc stood =
          subst (λ (p : List ℕ). DiffersAt i p (disc_after disc lba n bytes (length course)) (disc_after disc lba n bytes (length course + 1)))
          (sym (merged_is world block_count reaches rules shape reached mid held_mid (numbers_in held) lba n (length course) did.wrote.buffered_are at rest held_at
          (disc_after disc lba n bytes (length course)) (known_mid disc stood) (did.makes disc stood) (did.holds disc stood) within has bytes whole full))
          (next_differs disc (logical_count shape lists) lba n bytes whole few stood.2.fits.as_long (length course) covered)

      -- The block is written.
      module _ (new : M) (lists' : Lists) (held' : List (ℕ × List ℕ)) (puts : PutsBlock world reaches shape at new reached i put lists') (back : List ℕ) (buffer_is : held' ≡ with_newest i back held_at) (as_put : (world at).known ≡ true → back ≡ put) where
        pub puts_shown : PutsBlock (λ (m : Machine). m.world) ReachBy shape (machine at) (machine new) reached i put lists'
        puts_shown = record {
          placing = puts.placing;
          can = puts.can;
          lists_are = puts.lists_are;
          continues = machine_continues world reaches takes arms armed_cut laws at new (placing_uses reached puts.placing) puts.continues;
          as_known = puts.as_known;
          settled = puts.settled;
          only = puts.only;
          went = puts.went;
          has_copy = puts.has_copy;
          makes = puts.makes;
        }

        dds_now : lists'.dds ≡ reached.dds
        dds_now = ap (λ (l : Lists). l.dds) puts.lists_are ∙ placed_dds shape reached i puts.placing

        touched_now : numbers_in held' ≡ touched_one (numbers_in held_mid) i
        touched_now =
            ap numbers_in buffer_is ∙ numbers_in-with_newest i back held_at
            ∙ rest_put world block_count reaches rules shape reached mid held_mid (numbers_in held) lba n (length course) did.wrote.buffered_are at rest held_at has

        one_more : suc (length course) ≡ length course + 1
        one_more = omega arith

        copied : (world old).known ≡ true → HasCopyOfMoves shape (world new).cells lists.sdl (puts_shown.placing ∷ course)
        copied known =
            let known_now = did.wrote.ends.reach.lasts.as_known ∙ known in
            let version = ap (λ (l : Lists). l.sdl.version) did.wrote.wrote.reached_are ∙ after_version shape lists (block_with lba) valid course in
            copied_then shape (world mid).cells (world new).cells lists.sdl reached.sdl course puts_shown.placing (sym version)
            (subst (λ (l : List Cell). LeavesCopy shape l (world new).cells reached.sdl puts_shown.placing) same_cells (puts_shown.has_copy (reads.continues.reach.lasts.as_known ∙ known_now)))
            (did.has_copy known)

        pub wrote_block : WroteBlocks shape (machine old) (machine new) lists lists' held held' lba n bytes (puts_shown.placing ∷ course)
        wrote_block = record {
          wrote = subst (λ (l : Lists). WroteCourse before (under new lists' held') lists lba n (puts_shown.placing ∷ course) l) (sym puts_shown.lists_are)
              (put_turn before now (under new lists' held') lba n course lists reached did.wrote valid covered (machine at) reads put lists' puts_shown refl (ap (λ d. d.counter) dds_now) touched_now);
          settled = puts.settled;
          same_dds = dds_now ∙ did.same_dds;
          has_copy = copied;
          makes = λ disc stood. subst (λ (m : ℕ). FitsUnder shape (world new).cells lists' (disc_after disc lba n bytes m)) (sym one_more)
              (puts.makes (disc_after disc lba n bytes (length course)) (disc_after disc lba n bytes (length course + 1)) (differs_at disc stood) (fits_at disc stood));
          holds = λ disc stood. subst (λ (m : ℕ). HoldsBlocksOf (disc_after disc lba n bytes m) held') (sym one_more)
              (subst (HoldsBlocksOf (disc_after disc lba n bytes (length course + 1))) (sym (buffer_is ∙ ap (λ (b : List ℕ). with_newest i b held_at) (as_put (known_at disc stood))))
              (holds_put (disc_after disc lba n bytes (length course)) (disc_after disc lba n bytes (length course + 1)) i put held_at
              (sym (differs_at disc stood).here) (differs_at disc stood).others (holds_at disc stood)));
        }

      -- It was stopped in the block.
      pub block_stopped : (new : M) (stop : Stop) → StopsAtBlock world reaches shape at new reached i put stop → StopsParts shape (machine old) (machine new) lists held lba n bytes stop
      block_stopped new stop halted =
          stopped_parts new stop
          (stop_turn before now (off new) lba n course lists reached did.wrote valid covered (machine at) reads put stop shown refl refl refl)
          (λ disc stood. record {
            block = length course;
            covered = covered;
            either = (
              halted.as_known ∙ known_at disc stood,
              is_off,
              halted.covers (disc_after disc lba n bytes (length course)) (disc_after disc lba n bytes (length course + 1)) (differs_at disc stood) (fits_at disc stood),
            );
          })
          is_off
        where
          shown : StopsAtBlock (λ (m : Machine). m.world) ReachBy shape (machine at) (machine new) reached i put stop
          shown = record {
            stops = machine_stops world reaches takes arms armed_cut laws at new (most_placing_uses shape reached i) (most_placing_uses shape reached i) refl stop halted.stops;
            given = halted.given;
            left = halted.left;
            as_known = halted.as_known;
            only = halted.only;
            covers = halted.covers;
          }

          is_off : ¬ IsTrue (world new).power
          is_off = stop_off (machine at) (machine new) (most_placing_uses shape reached i) stop shown.stops

      -- The block was refused, and the lists and the disc are as before.
      module _ (new : M) (lists' : Lists) (uses : ℕ) (leaves : LeavesBlock world reaches shape at new reached i put lists' uses) where
        abbrev after : Shown
        after = under new reached held_at

        leaves_shown : LeavesBlock (λ (m : Machine). m.world) ReachBy shape (machine at) (machine new) reached i put lists' uses
        leaves_shown = record {
          same = leaves.same;
          continues = machine_continues world reaches takes arms armed_cut laws at new uses leaves.continues;
          as_known = leaves.as_known;
          settled = leaves.settled;
          only = leaves.only;
          dead = leaves.dead;
          keeps = leaves.keeps;
        }

        stands_left : (disc : List ℕ) → StandsFor before (On disc) → StandsFor after (On (disc_after disc lba n bytes (length course)))
        stands_left disc stood = (
          leaves.as_known ∙ known_at disc stood,
          leaves.continues.is_on,
          record {
            valid = reached_ok;
            settled = leaves.settled;
            fits = leaves.keeps (disc_after disc lba n bytes (length course)) (fits_at disc stood);
            holds = holds_at disc stood;
          },
        )

        took_left : (disc : List ℕ) → StandsFor before (On disc) → TookCourse shape (world new).cells lists (block_with lba) course
        took_left disc stood =
            (begun before now after lba n course lists reached did.wrote valid covered
            (λ block home free sdl second. leaves.only block home free sdl second ∙ ap (λ (l : List Cell). cell_at l block) same_cells)
            (λ block was. leaves_shown.continues.reach.lasts.stays_dead block (ap (λ (l : List Cell). cell_at l block) same_cells ∙ was))).took stood.0

        good_left : (disc : List ℕ) → StandsFor before (On disc) → (j : ℕ) → j < length course → IsGood (cell_at (world new).cells (home_of shape reached (block_with lba + j)))
        good_left disc stood j less =
            subst (λ (l : Lists). IsGood (cell_at (world new).cells (home_of shape l (block_with lba + j)))) (sym did.wrote.wrote.reached_are)
            (after_good shape lists (block_with lba) valid (world new).cells course (let w = within_old in omega (arith, w)) did.wrote.wrote.can (took_left disc stood) j less)

      pub meets_no_spare : (new : M) (lists' : Lists) (held' : List (ℕ × List ℕ)) → held' ≡ held_at → FindsNoSpare world reaches shape at new reached i put lists'
          → (named : ℕ) → named ≡ start_in lba i → EndsParts shape (machine old) (machine new) lists held lba n bytes lists' held' (outs.NoSpare named)
      meets_no_spare new lists' held' buffer_is finds named named_is =
          subst (λ (h : List (ℕ × List ℕ)). EndsParts shape (machine old) (machine new) lists held lba n bytes lists' h (outs.NoSpare named)) (sym buffer_is)
          (subst (λ (l : Lists). EndsParts shape (machine old) (machine new) lists held lba n bytes l held_at (outs.NoSpare named)) (sym finds.leaves.same)
          (record {
            cause = no_spare_turn before now (after new lists' _ finds.leaves) lba n course lists reached did.wrote valid covered (machine at) reads put lists'
                (record { leaves = leaves_shown new lists' _ finds.leaves; none = finds.none }) named (record { covered = covered; first = named_is }) refl refl refl refused_buffer;
            steps = steps;
            is_on = finds.leaves.continues.is_on;
            settled = finds.leaves.settled;
            same_dds = did.same_dds;
          }))
        where
          steps : WriteSteps before (under new reached held_at) lba n bytes (outs.NoSpare named)
          steps (On disc) stood =
              subst (λ (j : ℕ). StandsFor (under new reached held_at) (On (replaced disc lba bytes j))) (sym (ap block_with named_is ∙ block_with_start lba n (length course) covered))
              (stands_left new lists' _ finds.leaves disc stood)
          steps (Off discs) stood = absurd (stood.1 was_on)

      pub meets_no_copy : (new : M) (lists' : Lists) (held' : List (ℕ × List ℕ)) → held' ≡ held_at → (counter : ℕ) → FindsNoCopy world reaches shape at new reached i put lists' counter
          → EndsParts shape (machine old) (machine new) lists held lba n bytes lists' held' (outs.NoUpdate counter)
      meets_no_copy new lists' held' buffer_is counter finds =
          subst (λ (h : List (ℕ × List ℕ)). EndsParts shape (machine old) (machine new) lists held lba n bytes lists' h (outs.NoUpdate counter)) (sym buffer_is)
          (subst (λ (l : Lists). EndsParts shape (machine old) (machine new) lists held lba n bytes l held_at (outs.NoUpdate counter)) (sym finds.leaves.same)
          (record {
            cause = no_copy_turn before now (under new reached held_at) lba n course lists reached did.wrote valid covered (machine at) reads put lists' counter
                (record {
                  tried = finds.tried;
                  some_spare = finds.some_spare;
                  leaves = leaves_shown new lists' _ finds.leaves;
                  counter_is = finds.counter_is;
                  cause = finds.cause;
                  tried_dead = finds.tried_dead;
                  spare_has = finds.spare_has;
                }) refl refl refl refused_buffer;
            steps = steps;
            is_on = finds.leaves.continues.is_on;
            settled = finds.leaves.settled;
            same_dds = did.same_dds;
          }))
        where
          steps : WriteSteps before (under new reached held_at) lba n bytes (outs.NoUpdate counter)
          steps (On disc) stood = record {
            block = length course;
            covered = covered;
            dead = finds.leaves.dead;
            first = good_left new lists' _ finds.leaves disc stood;
            before = stands_left new lists' _ finds.leaves disc stood;
          }
          steps (Off discs) stood = absurd (stood.1 was_on)
