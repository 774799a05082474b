-- No call of a drive gives up a block that is not dead, one lemma for each call.
use Rattle.std.specs.Prelude.{◌⊎◌, ◌≡◌, ℕ, ◌+◌, true, false, IsSome, Bool, Option, Some, None, List, [], ◌∷◌, length}
use Rattle.std.proofs.Common.{refl, sym, ap, ◌∙◌, inl, inr, subst}
use Rattle.std.proofs.lemmas.Bool.{cases_eq}
use Rattle.model_geometry.specs.Geometry.{Shape, dds_block, sdl_block, sdl_second_block}
use Rattle.model_medium.specs.Cells.{Cell, Blank, Good, Torn, Dead, IsSameOrDead, cell_at}
use Rattle.model_medium.specs.World.{World, IsUse}
use Rattle.model_medium.specs.Machine.{Machine}
use Rattle.model_medium.specs.Reach.{ReachBy}
use Rattle.model_stops.specs.Stops.{Stops, FailsInUse}
use Rattle.model_stops.specs.declared.Stop.{Stop}
use Rattle.model_stops.specs.declared.Stop.TheVariants as stops
use Rattle.model_sectors.specs.declared.ReadOut.{ReadOut}
use Rattle.model_sectors.specs.declared.ReadOut.TheVariants as reads
use Rattle.model_sectors.specs.declared.PowerOut.{PowerOut}
use Rattle.model_sectors.specs.declared.PowerOut.TheVariants as powers
use Rattle.model_sectors.specs.Requests.{block_with}
use Rattle.std.specs.Option.{option_map_or}
use Rattle.std.specs.List.{Contains}
use Rattle.model_lists.specs.Values.{defectives}
use Rattle.model_pools.specs.Listed.{replacements}
use Rattle.model_places.specs.Places.{Lists, pools_under, spares_of, free_spares}
use Rattle.model_pools.proofs.Free.{Contains-free_in}
use Rattle.model_volume.proofs.ValidDecided.{contains_decided}
use Rattle.model_pools.proofs.Members.{defective_member}
use Rattle.model_volume.specs.Given.{IsGiven, GivesNone}
use Rattle.model_volume.specs.Expansions.{lists_expanded}
use Rattle.model_volume.proofs.GivenFacts.{given_before, given_seen, chosen_given}
use Rattle.model_drive.specs.declared.WriteOut.{WriteOut}
use Rattle.model_drive.specs.declared.WriteOut.TheVariants as writes
use Rattle.model_drive.specs.declared.ExpandOut.{ExpandOut}
use Rattle.model_drive.specs.declared.ExpandOut.TheVariants as expands
use Rattle.model_drive.specs.declared.FormatOut.{FormatOut}
use Rattle.model_drive.specs.declared.FormatOut.TheVariants as formats
use Rattle.model_drive.specs.declared.Kind.{Kind}
use Rattle.model_drive.specs.declared.Kind.TheVariants as kinds
use Rattle.model_drive.specs.Shown.{Shown, IsKnown, IsOn, IsFormatted, cells_in, home}
use Rattle.model_drive.specs.Sound.{IsSound}
use Rattle.model_drive.specs.Parts.{KeepsLists, AreSameOrDead, OnlyDies, IsStopped, GivesNoOthers}
use Rattle.model_drive.specs.Course.{IsUsable, Placing, ToSpare, TookCourse, lists_reached}
use Rattle.model_drive.specs.Power.{MountsAny, PowerCause}
use Rattle.model_drive.specs.Reads.{StopsInRead, ReadCause, VerifyCause}
use Rattle.model_drive.specs.Writes.{EndsWriting, StopsInWrite, WriteCause, next_block}
use Rattle.model_drive.specs.Expands.{ssa_for, StopsInExpansion, ExpandCause}
use Rattle.model_drive.specs.FullFormats.{StopsInFormat, FullCause}
use Rattle.model_drive.specs.Rewriting.{RewriteCause}
use Rattle.model_drive.specs.Formats.{FormatCauseBy, FormatCause}
use Rattle.model_drive.proofs.Dying.{in_use_alone}
use Rattle.model_fairness.proofs.Staying.{placed_fair, expanded_fair, dying_fair, fresh_fair}
use Rattle.model_fairness.specs.Fair.{IsFair, GivesUpDeadAlone}

-- dead cells stay dead
abbrev DeadStay : Shown → Shown → Type 0
DeadStay old new = (block : ℕ) → cell_at (cells_in old) block ≡ Dead → cell_at (cells_in new) block ≡ Dead

use_dead : (old new : World) (at : ℕ) → IsUse old new at → (block : ℕ) → cell_at old.cells block ≡ Dead → cell_at new.cells block ≡ Dead
use_dead old new at one block dead = elim (cases_eq block at) [
  | inl here ↦ subst (λ (b : ℕ). cell_at new.cells b ≡ Dead) (sym here) (one.stays_dead (subst (λ (b : ℕ). cell_at old.cells b ≡ Dead) here dead))
  | inr other ↦ one.others block other ∙ dead
]

fails_dead : (old new : World) (at : ℕ) → FailsInUse old new at → (block : ℕ) → cell_at old.cells block ≡ Dead → cell_at new.cells block ≡ Dead
fails_dead old new at (inl read) = use_dead old new at read.2.one
fails_dead old new at (inr write) = use_dead old new at write.1.one

pub stop_dead : (old new : Machine) (most : ℕ) (stop : Stop) → Stops (λ (m : Machine). m.world) ReachBy old new most stop → (block : ℕ) → cell_at old.world.cells block ≡ Dead → cell_at new.world.cells block ≡ Dead
stop_dead old new most stops.Cut stopped = stopped.reach.lasts.stays_dead
stop_dead old new most stops.Off stopped = λ block dead. ap (λ (w : World). cell_at w.cells block) stopped.nothing ∙ dead
stop_dead old new most stops.Fault stopped = λ block dead. fails_dead stopped.mid.world new.world stopped.block stopped.fails block (stopped.reach.lasts.stays_dead block dead)

pub some_same : (l m : Lists) (o : Option Lists) → o ≡ Some l → o ≡ Some m → m ≡ l
some_same l m o one two = (let both : Some m ≡ Some l = sym two ∙ one in cc)

pub none_some : (l : Lists) (o : Option Lists) → o ≡ None → o ≡ Some l → ⊥
none_some l o none some = (let both : None ≡ Some l = sym none ∙ some in cc)

some_of : (o : Option Lists) → IsSome o → (l : Lists) × (o ≡ Some l)
some_of None is = absurd (let h : false ≡ true = is in cc)
some_of (Some l) is = (l, refl)

pub dies_one : (old new : Shown) (at : ℕ) → OnlyDies old new at → (block : ℕ) → IsSameOrDead (cell_at (cells_in old) block) (cell_at (cells_in new) block)
dies_one old new at dies block = elim (cases_eq block at) [
  | inl here ↦ subst (λ (b : ℕ). IsSameOrDead (cell_at (cells_in old) b) (cell_at (cells_in new) b)) (sym here) dies.left
  | inr other ↦ inl (dies.others block other)
]

pub dead_of_dies : (old new : Shown) → AreSameOrDead (cells_in old) (cells_in new) → DeadStay old new
dead_of_dies old new dies block dead = elim (dies block) [ inl same ↦ same ∙ dead | inr is ↦ is ]

pub blank_fair : (shown : Shown) → shown.lists ≡ None → GivesNone shown.shape (cells_in shown) → GivesUpDeadAlone shown
blank_fair shown none gives = record { given = λ lists given. absurd (gives lists given); in_use = λ lists is. absurd (none_some lists shown.lists none is) }

module _ (old new : Shown) (same : new.shape ≡ old.shape) where
  given_by_old : (lists : Lists) → IsGiven new.shape (cells_in new) lists → IsGiven old.shape (cells_in new) lists
  given_by_old lists given = subst (λ (s : Shape). IsGiven s (cells_in new) lists) same given

  -- cells that die
  pub die_given : AreSameOrDead (cells_in old) (cells_in new) → GivesNoOthers old new
  die_given dies lists given = given_before old.shape (cells_in old) (cells_in new) lists (λ area is. dies (dds_block old.shape area)) (λ area is. dies (sdl_block old.shape area)) (λ area is. dies (sdl_second_block old.shape area)) given

  -- what is given was given, and the lists in use were
  pub no_others_fair : GivesNoOthers old new → DeadStay old new → ((lists : Lists) → new.lists ≡ Some lists → old.lists ≡ Some lists) → GivesUpDeadAlone old → GivesUpDeadAlone new
  no_others_fair gives stay kept fair = record {
    given = λ lists given. dying_fair (cells_in old) (cells_in new) lists stay (fair.given lists (gives lists (given_by_old lists given)));
    in_use = λ lists is. dying_fair (cells_in old) (cells_in new) lists stay (fair.in_use lists (kept lists is));
  }

  pub dies_fair : new.lists ≡ old.lists → AreSameOrDead (cells_in old) (cells_in new) → GivesUpDeadAlone old → GivesUpDeadAlone new
  dies_fair kept dies fair = no_others_fair (die_given dies) (dead_of_dies old new dies) (λ lists is. sym kept ∙ is) fair

  stopped_fair : (most : ℕ) (stop : Stop) → GivesNoOthers old new → IsStopped old new most stop → GivesUpDeadAlone old → GivesUpDeadAlone new
  stopped_fair most stop gives stopped fair = no_others_fair gives (stop_dead old.medium new.medium most stop stopped.stops) (λ lists is. absurd (none_some lists new.lists stopped.no_lists is)) fair

  -- lists in use that name dead blocks alone
  module _ (sound : IsSound new) (is_known : IsKnown new) where
    in_use_fair : (lists : Lists) → new.lists ≡ Some lists → IsFair (cells_in new) lists → GivesUpDeadAlone new
    in_use_fair lists is fair = record {
      given = λ other given. subst (IsFair (cells_in new)) (sym (in_use_alone new sound is_known lists is (cells_in new) (λ block. inl refl) other given)) fair;
      in_use = λ other other_is. subst (IsFair (cells_in new)) (sym (some_same lists other new.lists is other_is)) fair;
    }

    kept_fair : IsFormatted old → KeepsLists old new → DeadStay old new → GivesUpDeadAlone old → GivesUpDeadAlone new
    kept_fair formatted keeps stay fair =
        let some = some_of old.lists formatted in
        in_use_fair some.0 (keeps.same_lists ∙ some.1) (dying_fair (cells_in old) (cells_in new) some.0 stay (fair.in_use some.0 some.1))

    nothing_fair : new ≡ old → GivesUpDeadAlone old → GivesUpDeadAlone new
    nothing_fair is fair = subst GivesUpDeadAlone (sym is) fair

    read_stops_fair : (lba n most : ℕ) (stop : Stop) → StopsInRead old new lba n most stop → GivesUpDeadAlone old → GivesUpDeadAlone new
    read_stops_fair lba n most stop stops fair = stopped_fair most stop (die_given (dies_one old new (home old (block_with lba + stops.before)) stops.dies)) stops.stopped fair

    pub read_fair : (lba n : ℕ) (out : ReadOut) → GivesUpDeadAlone old → ReadCause old new lba n out → GivesUpDeadAlone new
    read_fair lba n reads.Good fair cause = kept_fair cause.inside.formatted cause.keeps cause.ends.reach.lasts.stays_dead fair
    read_fair lba n reads.NotFormatted fair cause = nothing_fair cause.nothing fair
    read_fair lba n (reads.Range known) fair cause = nothing_fair cause.nothing fair
    read_fair lba n (reads.Unread named block) fair cause = kept_fair cause.inside.formatted cause.keeps cause.ends.reach.lasts.stays_dead fair
    read_fair lba n reads.Cut fair cause = read_stops_fair lba n _ stops.Cut cause fair
    read_fair lba n reads.Off fair cause = nothing_fair cause.nothing fair
    read_fair lba n reads.Fault fair cause = read_stops_fair lba n _ stops.Fault cause fair

    pub verify_fair : (lba n : ℕ) (out : ReadOut) → GivesUpDeadAlone old → VerifyCause old new lba n out → GivesUpDeadAlone new
    verify_fair lba n reads.Good fair cause = kept_fair cause.inside.formatted cause.keeps cause.ends.reach.lasts.stays_dead fair
    verify_fair lba n reads.NotFormatted fair cause = nothing_fair cause.nothing fair
    verify_fair lba n (reads.Range known) fair cause = nothing_fair cause.nothing fair
    verify_fair lba n (reads.Unread named block) fair cause = kept_fair cause.inside.formatted cause.keeps cause.ends.reach.lasts.stays_dead fair
    verify_fair lba n reads.Cut fair cause = read_stops_fair lba n _ stops.Cut cause fair
    verify_fair lba n reads.Off fair cause = nothing_fair cause.nothing fair
    verify_fair lba n reads.Fault fair cause = read_stops_fair lba n _ stops.Fault cause fair

    module _ (was_known : IsKnown old) (fair : GivesUpDeadAlone old) where
      -- ---- the power

      mount_stops_fair : (stay : DeadStay old new) → new.lists ≡ None → MountsAny old new → GivesUpDeadAlone new
      mount_stops_fair stay none any = no_others_fair (any.given was_known) stay (λ lists is. absurd (none_some lists new.lists none is)) fair

      pub power_fair : (out : PowerOut) → PowerCause old new out → GivesUpDeadAlone new
      power_fair (powers.Ready known) cause =
          in_use_fair cause.lists cause.in_use (dying_fair (cells_in old) (cells_in new) cause.lists cause.ends.reach.lasts.stays_dead
          (fair.given cause.lists (given_seen old.shape (cells_in old) cause.seen (cells_in new) cause.lists (cause.sees was_known) (chosen_given old.shape cause.seen cause.lists (cause.chosen was_known)))))
      power_fair powers.NotFormatted cause = mount_stops_fair cause.ends.reach.lasts.stays_dead cause.no_lists cause.any
      power_fair powers.Cut cause = mount_stops_fair (stop_dead _ _ _ stops.Cut cause.stopped.stops) cause.stopped.no_lists cause.any
      power_fair powers.Fault cause = mount_stops_fair (stop_dead _ _ _ stops.Fault cause.stopped.stops) cause.stopped.no_lists cause.any

      -- ---- a write

      course_fair : (lists : Lists) (first : ℕ) (course : List Placing) → IsFair (cells_in new) lists → TookCourse old.shape (cells_in new) lists first course → IsFair (cells_in new) (lists_reached old.shape lists first course)
      course_fair lists first [] is took = is
      course_fair lists first (placing ∷ earlier) is took =
          placed_fair old.shape (cells_in new) (lists_reached old.shape lists first earlier) (course_fair lists first earlier is took.1) (first + length earlier) placing took.0

      ends_fair : (lists : Lists) (lba n : ℕ) (course : List Placing) (more : ℕ) (reached : Lists) (uses : ℕ) (buffered_now : List ℕ) → EndsWriting old new lists lba n course more reached uses buffered_now → GivesUpDeadAlone new
      ends_fair lists lba n course more reached uses buffered_now ends =
          in_use_fair reached ends.now_in_use (subst (IsFair (cells_in new)) (sym ends.wrote.reached_are)
          (course_fair lists (block_with lba) course (dying_fair (cells_in old) (cells_in new) lists ends.ends.reach.lasts.stays_dead (fair.in_use lists ends.wrote.in_use)) (ends.wrote.took was_known)))

      write_stops_fair : (lba n : ℕ) (stop : Stop) → StopsInWrite old new lba n stop → GivesUpDeadAlone new
      write_stops_fair lba n stop stops =
          let stay = stop_dead old.medium new.medium _ stop stops.stopped.stops in
          let reached : IsFair (cells_in new) stops.reached = subst (IsFair (cells_in new)) (sym stops.wrote.reached_are)
          (course_fair stops.lists (block_with lba) stops.course (dying_fair (cells_in old) (cells_in new) stops.lists stay (fair.in_use stops.lists stops.wrote.in_use)) (stops.wrote.took was_known)) in
          record {
            given = λ lists given. elim (stops.given was_known lists (given_by_old lists given)) [
              | inl same ↦ subst (IsFair (cells_in new)) (sym same) reached
              | inr moved ↦ subst (IsFair (cells_in new)) (sym moved.lists_are) (placed_fair old.shape (cells_in new) stops.reached reached (next_block lba stops.course) (ToSpare moved.tried) moved.went)
            ];
            in_use = λ lists is. absurd (none_some lists new.lists stops.stopped.no_lists is);
          }

      pub write_fair : (lba n : ℕ) (out : WriteOut) → WriteCause old new lba n out → GivesUpDeadAlone new
      write_fair lba n writes.Good cause = ends_fair cause.lists lba n cause.course _ cause.reached _ _ cause.ends
      write_fair lba n writes.NotFormatted cause = nothing_fair cause.nothing fair
      write_fair lba n (writes.Range known) cause = nothing_fair cause.nothing fair
      write_fair lba n (writes.Unread named block) cause = ends_fair cause.lists lba n cause.course _ cause.reached _ _ cause.ends
      write_fair lba n (writes.NoSpare named) cause = ends_fair cause.lists lba n cause.course _ cause.reached _ _ cause.ends
      write_fair lba n (writes.NoUpdate counter) cause = ends_fair cause.lists lba n cause.course _ cause.reached _ _ cause.ends
      write_fair lba n writes.Cut cause = write_stops_fair lba n stops.Cut cause
      write_fair lba n writes.Off cause = nothing_fair cause.nothing fair
      write_fair lba n writes.Fault cause = write_stops_fair lba n stops.Fault cause

      -- ---- an expansion

      expand_stops_fair : (sectors : ℕ) (stop : Stop) → StopsInExpansion old new sectors stop → GivesUpDeadAlone new
      expand_stops_fair sectors stop stops =
          let stay = stop_dead old.medium new.medium _ stop stops.stopped.stops in
          let now = dying_fair (cells_in old) (cells_in new) stops.lists stay (fair.in_use stops.lists stops.any.in_use) in
          record {
            given = λ lists given. elim (stops.given was_known lists (given_by_old lists given)) [
              | inl same ↦ subst (IsFair (cells_in new)) (sym same) now
              | inr larger ↦ subst (IsFair (cells_in new)) (sym larger) (expanded_fair old.shape (cells_in new) stops.lists now (ssa_for old.shape sectors))
            ];
            in_use = λ lists is. absurd (none_some lists new.lists stops.stopped.no_lists is);
          }

      pub expand_fair : (sectors : ℕ) (out : ExpandOut) → ExpandCause old new sectors out → GivesUpDeadAlone new
      expand_fair sectors expands.Good (inl stays) = in_use_fair stays.lists (stays.keeps.same_lists ∙ stays.any.in_use) (dying_fair (cells_in old) (cells_in new) stays.lists stays.ends.reach.lasts.stays_dead (fair.in_use stays.lists stays.any.in_use))
      expand_fair sectors expands.Good (inr grows) = in_use_fair (lists_expanded old.shape grows.lists (ssa_for old.shape sectors)) grows.now_in_use
          (expanded_fair old.shape (cells_in new) grows.lists (dying_fair (cells_in old) (cells_in new) grows.lists grows.ends.reach.lasts.stays_dead (fair.in_use grows.lists grows.any.in_use)) (ssa_for old.shape sectors))
      expand_fair sectors expands.NotFormatted cause = nothing_fair cause.nothing fair
      expand_fair sectors (expands.Refused known) cause = nothing_fair cause.nothing fair
      expand_fair sectors (expands.NoUpdate counter) cause = in_use_fair cause.lists (cause.keeps.same_lists ∙ cause.any.in_use) (dying_fair (cells_in old) (cells_in new) cause.lists cause.ends.reach.lasts.stays_dead (fair.in_use cause.lists cause.any.in_use))
      expand_fair sectors expands.Cut cause = expand_stops_fair sectors stops.Cut cause
      expand_fair sectors expands.Off cause = nothing_fair cause.nothing fair
      expand_fair sectors expands.Fault cause = expand_stops_fair sectors stops.Fault cause

      -- ---- a format

      bare_fair : IsOn new → new.lists ≡ None → GivesUpDeadAlone new
      bare_fair on none = blank_fair new none ((sound.bare on none).gives_none is_known)

      full_stops_fair : (drop_sdl : Bool) (stop : Stop) → StopsInFormat old new drop_sdl stop → GivesUpDeadAlone new
      full_stops_fair drop_sdl stop stops =
          let stay = stop_dead old.medium new.medium _ stop stops.stopped.stops in
          record {
            given = λ lists given. elim (stops.given was_known lists (given_by_old lists given)) [
              | inl was ↦ dying_fair (cells_in old) (cells_in new) lists stay (fair.given lists was)
              | inr fresh ↦ subst (IsFair (cells_in new)) (sym fresh.lists_are) (fresh_fair old.shape (cells_in new) old.mark fresh.entries)
            ];
            in_use = λ lists is. absurd (none_some lists new.lists stops.stopped.no_lists is);
          }

      full_fair : (drop_sdl : Bool) (out : FormatOut) → FullCause old new drop_sdl out → GivesUpDeadAlone new
      full_fair drop_sdl formats.Good cause = in_use_fair _ cause.lists_are (fresh_fair old.shape (cells_in new) old.mark cause.entries)
      full_fair drop_sdl (formats.TooMany found) cause = bare_fair cause.any.ends.is_on cause.no_lists
      full_fair drop_sdl (formats.NoUpdate counter) (inl lacks) = nothing_fair lacks.nothing fair
      full_fair drop_sdl (formats.NoUpdate counter) (inr (inl loses)) = bare_fair loses.any.ends.is_on loses.no_lists
      full_fair drop_sdl (formats.NoUpdate counter) (inr (inr (inl loses))) = bare_fair loses.any.ends.is_on loses.no_lists
      full_fair drop_sdl (formats.NoUpdate counter) (inr (inr (inr loses))) = bare_fair loses.any.ends.is_on loses.no_lists
      full_fair drop_sdl formats.Cut cause = full_stops_fair drop_sdl stops.Cut cause
      full_fair drop_sdl formats.Off cause = nothing_fair cause.nothing fair
      full_fair drop_sdl formats.Fault cause = full_stops_fair drop_sdl stops.Fault cause

      rewrite_fair : (lists : Lists) → old.lists ≡ Some lists → (out : FormatOut) → RewriteCause old new lists out → GivesUpDeadAlone new
      rewrite_fair lists is formats.Good cause = in_use_fair lists (cause.both.keeps.same_lists ∙ is) (dying_fair (cells_in old) (cells_in new) lists cause.both.ends.reach.lasts.stays_dead (fair.in_use lists is))
      rewrite_fair lists is (formats.TooMany found) cause = absurd cause
      rewrite_fair lists is (formats.NoUpdate counter) cause = in_use_fair lists (cause.both.keeps.same_lists ∙ is) (dying_fair (cells_in old) (cells_in new) lists cause.both.ends.reach.lasts.stays_dead (fair.in_use lists is))
      rewrite_fair lists is formats.Cut cause = stopped_fair _ stops.Cut (cause.given was_known) cause.stopped fair
      rewrite_fair lists is formats.Off cause = nothing_fair cause.nothing fair
      rewrite_fair lists is formats.Fault cause = stopped_fair _ stops.Fault (cause.given was_known) cause.stopped fair

      by_kind : (lists : Option Lists) → old.lists ≡ lists → (kind : Kind) (out : FormatOut) → FormatCauseBy old new lists kind out → GivesUpDeadAlone new
      by_kind None is (kinds.Full drop_sdl) out cause = full_fair drop_sdl out cause
      by_kind (Some lists) is (kinds.Full drop_sdl) out cause = full_fair drop_sdl out cause
      by_kind None is kinds.Rewrite out cause = full_fair false out cause
      by_kind (Some lists) is kinds.Rewrite out cause = rewrite_fair lists is out cause

      pub format_fair : (kind : Kind) (out : FormatOut) → FormatCause old new kind out → GivesUpDeadAlone new
      format_fair kind out cause = by_kind old.lists refl kind out cause

-- ---- no spare

alive_decided : (cell : Cell) → (cell ≡ Dead) ⊎ ¬ (cell ≡ Dead)
alive_decided Blank = inr (λ e. cc)
alive_decided (Good bytes) = inr (λ e. cc)
alive_decided Torn = inr (λ e. cc)
alive_decided Dead = inl refl

module _ (shown : Shown) (i : ℕ) (lists : Lists) (fair : GivesUpDeadAlone shown) (none : (spare : ℕ) → ¬ IsUsable shown i spare) (is : shown.lists ≡ Some lists)
    (spare : ℕ) (has : Contains (spares_of shown.shape lists i) spare) (replaces : ¬ Contains (replacements lists.sdl.entries) spare) where
  usable : ¬ Contains (defectives lists.sdl.entries) spare → ¬ (cell_at (cells_in shown) spare ≡ Dead) → IsUsable shown i spare
  usable sound alive = record {
    free = subst (λ (o : Option Lists). Contains (option_map_or (λ (l : Lists). free_spares shown.shape l i) o []) spare) (sym is) (Contains-free_in (pools_under shown.shape lists) lists.sdl.entries i spare has sound replaces);
    lives = alive;
  }

  pub none_left : cell_at (cells_in shown) spare ≡ Dead
  none_left = elim (alive_decided (cell_at (cells_in shown) spare)) [
    | inl dead ↦ dead
    | inr alive ↦ elim (contains_decided (defectives lists.sdl.entries) spare) [
      | inl listed ↦ (let entry = defective_member lists.sdl.entries spare listed in fair.in_use lists is (record { defective = spare; replacement = entry.0 }) entry.1)
      | inr sound ↦ absurd (none spare (usable sound alive))
    ]
  ]
