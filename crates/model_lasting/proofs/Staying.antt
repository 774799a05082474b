-- That a formatted disc stays formatted.
use Rattle.std.specs.Prelude.{◌≡◌, ℕ, ◌+◌, ◌*◌, ◌==◌, ◌⊎◌, false, Option, Some, None, List, [], ◌∷◌, length}
use Rattle.std.specs.Option.{option_map_or}
use Rattle.std.specs.List.{Contains}
use Rattle.model_pools.proofs.Replacements.{Contains-first, Contains-later}
use Rattle.model_pools.proofs.Listed.{Contains-filter}
use Rattle.std.proofs.lemmas.Bool.{eq-eqb}
use Rattle.std.proofs.Common.{arith, refl, sym, ap, ◌∙◌, inl, inr, subst}
use Rattle.model_geometry.specs.Geometry.{Shape, dds_block, sdl_block, sdl_second_block}
use Rattle.model_stops.specs.declared.Stop.{Stop}
use Rattle.model_stops.specs.declared.Stop.TheVariants as stops
use Rattle.model_sectors.specs.declared.ReadOut.{ReadOut}
use Rattle.model_sectors.specs.declared.ReadOut.TheVariants as reads
use Rattle.model_sectors.specs.declared.PowerOut.{PowerOut}
use Rattle.model_sectors.specs.declared.PowerOut.TheVariants as powers
use Rattle.model_sectors.specs.Requests.{block_with}
use Rattle.model_lists.specs.Values.{Dds, Sdl}
use Rattle.model_lists.specs.declared.versions.Version.{Version}
use Rattle.model_places.specs.Places.{Lists, count_of, logical_count}
use Rattle.model_places.proofs.ByKind.{room_grows}
use Rattle.model_volume.specs.Expansions.{lists_expanded}
use Rattle.model_volume.proofs.GivenFacts.{lists_of}
use Rattle.model_survival.proofs.Finding as finding
use Rattle.model_drive.specs.declared.WriteOut.{WriteOut}
use Rattle.model_drive.specs.declared.WriteOut.TheVariants as writes
use Rattle.model_drive.specs.declared.ExpandOut.{ExpandOut}
use Rattle.model_drive.specs.declared.ExpandOut.TheVariants as expands
use Rattle.model_drive.specs.declared.FormatOut.{FormatOut}
use Rattle.model_drive.specs.declared.FormatOut.TheVariants as formats
use Rattle.model_drive.specs.declared.Kind.TheVariants as kinds
use Rattle.model_drive.specs.Shown.{Shown, IsKnown, IsOn, cells_in, capacity}
use Rattle.model_drive.specs.Sound.{IsSound}
use Rattle.model_drive.specs.Parts.{KeepsLists, AreSameOrDead}
use Rattle.model_drive.specs.Course.{Placing, ToHome, ToSpare, lists_placed, lists_reached}
use Rattle.model_drive.specs.Reads.{StopsInRead, ReadCause, VerifyCause}
use Rattle.model_drive.specs.Writes.{EndsWriting, StopsInWrite, WriteCause}
use Rattle.model_drive.specs.Power.{StopsInMount, PowerCause}
use Rattle.model_drive.specs.Rewriting.{StopsInRewrite, RewriteCause}
use Rattle.model_drive.specs.FullFormats.{FullCause}
use Rattle.model_drive.specs.Formats.{FormatCauseBy, FormatCause}
use Rattle.model_drive.specs.Expands.{ssa_for, StaysAsLarge, StopsInExpansion, ExpandCause}
use Rattle.model_drive.proofs.Ends.{stop_off}
use Rattle.model_lasting.specs.Lasting.{CanBeFound, KeepsTwoCopies, StaysFormatted, TellsSize, sizes_found, sizes_expanded}
use Rattle.model_lasting.proofs.Finding.{in_use_found, by_shape, mount_ready, mount_never_bare, mount_stopped, read_stopped, rewrite_stopped, expand_stopped, write_stopped}
use Rattle.model_fairness.proofs.Calls.{some_same, none_some}

-- lists in use
on_stays : (shown : Shown) (version : Version) (sizes : List ℕ) → IsSound shown → IsKnown shown → (lists : Lists) → shown.lists ≡ Some lists → lists.sdl.version ≡ version → Contains sizes lists.sdl.ssa → StaysFormatted shown version sizes
on_stays shown version sizes sound is_known lists is of_version size = record {
  dds = lists.dds;
  older = lists.sdl;
  newer = lists.sdl;
  found = in_use_found shown lists sound is_known is;
  of_version = of_version;
  size = size;
  size' = size;
  in_use = λ on. is;
}

pub begins : (shown : Shown) (lists : Lists) → IsSound shown → IsKnown shown → shown.lists ≡ Some lists → StaysFormatted shown lists.sdl.version (lists.sdl.ssa ∷ [])
begins shown lists sound is_known is = on_stays shown lists.sdl.version (lists.sdl.ssa ∷ []) sound is_known lists is refl (Contains-first lists.sdl.ssa [])

-- the power is off
off_stays : (shown : Shown) (version : Version) (sizes : List ℕ) → ¬ IsOn shown → (dds : Dds) (a b : Sdl) → CanBeFound shown dds a b → a.version ≡ version → Contains sizes a.ssa → Contains sizes b.ssa → StaysFormatted shown version sizes
off_stays shown version sizes off dds a b found of_version size size' = record { dds = dds; older = a; newer = b; found = found; of_version = of_version; size = size; size' = size'; in_use = λ on. absurd (off on) }

-- a write keeps the version and the size
module _ (shape : Shape) (lists : Lists) (first : ℕ) where
  placed_sdl : (reached : Lists) (i : ℕ) (placing : Placing) → (reached.sdl.version ≡ lists.sdl.version) × (reached.sdl.ssa ≡ lists.sdl.ssa)
      → ((lists_placed shape reached i placing).sdl.version ≡ lists.sdl.version) × ((lists_placed shape reached i placing).sdl.ssa ≡ lists.sdl.ssa)
  placed_sdl reached i ToHome is = is
  placed_sdl reached i (ToSpare tried) is = is

  reached_sdl : (course : List Placing) → ((lists_reached shape lists first course).sdl.version ≡ lists.sdl.version) × ((lists_reached shape lists first course).sdl.ssa ≡ lists.sdl.ssa)
  reached_sdl [] = (refl, refl)
  reached_sdl (placing ∷ earlier) = placed_sdl (lists_reached shape lists first earlier) (first + length earlier) placing (reached_sdl earlier)

module _ (old new : Shown) (version : Version) (sizes : List ℕ) (same : new.shape ≡ old.shape) (s : StaysFormatted old version sizes) where
  pub dies_stays : (IsOn new → IsOn old) → (IsOn new → new.lists ≡ old.lists) → AreSameOrDead (cells_in old) (cells_in new) → StaysFormatted new version sizes
  dies_stays was_on kept dies = record {
    dds = s.dds;
    older = s.older;
    newer = s.newer;
    found = by_shape old new s.dds s.older s.newer same (finding.findable_dies old.shape (cells_in old) (cells_in new) (record {
      dds = λ area is. dies (dds_block old.shape area);
      sdl = record { firsts = λ area is. dies (sdl_block old.shape area); seconds = λ area is. dies (sdl_second_block old.shape area) };
    }) s.dds s.older s.newer s.found);
    of_version = s.of_version;
    size = s.size;
    size' = s.size';
    in_use = λ on. kept on ∙ s.in_use (was_on on);
  }

  nothing_stays : new ≡ old → StaysFormatted new version sizes
  nothing_stays is = subst (λ (shown : Shown). StaysFormatted shown version sizes) (sym is) s

  -- with the power on lists are in use
  no_lists : old.lists ≡ None → IsOn old → ⊥
  no_lists none on = none_some (lists_of s.dds s.older) old.lists none (s.in_use on)

  -- the lists in use are these
  in_use_is : (lists : Lists) → IsOn old → old.lists ≡ Some lists → lists ≡ lists_of s.dds s.older
  in_use_is lists on is = some_same (lists_of s.dds s.older) lists old.lists (s.in_use on) is

  version_is : (lists : Lists) → IsOn old → old.lists ≡ Some lists → lists.sdl.version ≡ version
  version_is lists on is = ap (λ (l : Lists). l.sdl.version) (in_use_is lists on is) ∙ s.of_version

  size_is : (lists : Lists) → IsOn old → old.lists ≡ Some lists → Contains sizes lists.sdl.ssa
  size_is lists on is = subst (Contains sizes) (sym (ap (λ (l : Lists). l.sdl.ssa) (in_use_is lists on is))) s.size

  module _ (sound : IsSound new) (is_known : IsKnown new) where
    kept_stays : IsOn old → KeepsLists old new → StaysFormatted new version sizes
    kept_stays on keeps = on_stays new version sizes sound is_known (lists_of s.dds s.older) (keeps.same_lists ∙ s.in_use on) s.of_version s.size

    stops_stays : (lba n most : ℕ) (stop : Stop) → StopsInRead old new lba n most stop → StaysFormatted new version sizes
    stops_stays lba n most stop cause = off_stays new version sizes (stop_off old.medium new.medium most stop cause.stopped.stops) s.dds s.older s.newer
        (read_stopped old new s.dds s.older s.newer same lba n most stop s.found cause) s.of_version s.size s.size'

    pub read_stays : (lba n : ℕ) (out : ReadOut) → ReadCause old new lba n out → StaysFormatted new version sizes
    read_stays lba n reads.Good cause = kept_stays cause.inside.on cause.keeps
    read_stays lba n reads.NotFormatted cause = nothing_stays cause.nothing
    read_stays lba n (reads.Range known) cause = nothing_stays cause.nothing
    read_stays lba n (reads.Unread named block) cause = kept_stays cause.inside.on cause.keeps
    read_stays lba n reads.Cut cause = stops_stays lba n _ stops.Cut cause
    read_stays lba n reads.Off cause = nothing_stays cause.nothing
    read_stays lba n reads.Fault cause = stops_stays lba n _ stops.Fault cause

    pub verify_stays : (lba n : ℕ) (out : ReadOut) → VerifyCause old new lba n out → StaysFormatted new version sizes
    verify_stays lba n reads.Good cause = kept_stays cause.inside.on cause.keeps
    verify_stays lba n reads.NotFormatted cause = nothing_stays cause.nothing
    verify_stays lba n (reads.Range known) cause = nothing_stays cause.nothing
    verify_stays lba n (reads.Unread named block) cause = kept_stays cause.inside.on cause.keeps
    verify_stays lba n reads.Cut cause = stops_stays lba n _ stops.Cut cause
    verify_stays lba n reads.Off cause = nothing_stays cause.nothing
    verify_stays lba n reads.Fault cause = stops_stays lba n _ stops.Fault cause

    -- ---- the power

    module _ (was_known : IsKnown old) where
      mount_off : (stop : Stop) → StopsInMount old new stop → StaysFormatted new version sizes
      mount_off stop cause = off_stays new version sizes (stop_off _ _ _ stop cause.stopped.stops) s.dds s.older s.newer
          (mount_stopped old new s.dds s.older s.newer same stop was_known s.found cause) s.of_version s.size s.size'

      capacity_told : (lists : Lists) (known : ℕ) → new.lists ≡ Some lists → known ≡ capacity new → known ≡ count_of old.shape lists.sdl.ssa * 16
      capacity_told lists known is known_is = known_is ∙ ap (λ (o : Option Lists). option_map_or (logical_count new.shape) o 0 * 16) is
          ∙ ap (λ (shape : Shape). count_of shape lists.sdl.ssa * 16) same

      one_version : s.newer.version ≡ version
      one_version = s.found.valid'.together.same_version ∙ sym s.found.valid.together.same_version ∙ s.of_version

      ready_stays : (known : ℕ) (lists : Lists) → new.lists ≡ Some lists → known ≡ capacity new → lists.sdl.version ≡ version → Contains sizes lists.sdl.ssa
          → StaysFormatted new version (sizes_found old.shape (powers.Ready known) sizes) × TellsSize old.shape sizes (powers.Ready known)
      ready_stays known lists is known_is of_version size =
          let told = capacity_told lists known is known_is in (
            on_stays new version (sizes_found old.shape (powers.Ready known) sizes) sound is_known lists is of_version
                (Contains-filter (λ ssa. count_of old.shape ssa * 16 == known) sizes lists.sdl.ssa (eq-eqb (count_of old.shape lists.sdl.ssa * 16) known (sym told)) size),
            (lists.sdl.ssa, size, told),
          )

      pub power_stays : (out : PowerOut) → PowerCause old new out → KeepsTwoCopies new version → StaysFormatted new version (sizes_found old.shape out sizes) × TellsSize old.shape sizes out
      power_stays (powers.Ready known) cause two =
          let ready = mount_ready old new s.dds s.older s.newer same known was_known s.found cause in
          by_lists ready.0 ready.1 ready.2
        where
          by_lists : (lists : Lists) → new.lists ≡ Some lists → (lists ≡ lists_of s.dds s.older) ⊎ (lists ≡ lists_of s.dds s.newer) → StaysFormatted new version (sizes_found old.shape (powers.Ready known) sizes) × TellsSize old.shape sizes (powers.Ready known)
          by_lists lists is (inl older) = ready_stays known lists is cause.known_is (ap (λ (l : Lists). l.sdl.version) older ∙ s.of_version) (subst (Contains sizes) (sym (ap (λ (l : Lists). l.sdl.ssa) older)) s.size)
          by_lists lists is (inr newer) = ready_stays known lists is cause.known_is (ap (λ (l : Lists). l.sdl.version) newer ∙ one_version) (subst (Contains sizes) (sym (ap (λ (l : Lists). l.sdl.ssa) newer)) s.size')
      power_stays powers.NotFormatted cause two = absurd (mount_never_bare old new s.dds s.older s.newer same was_known s.found (subst (KeepsTwoCopies new) (sym s.of_version) two) cause)
      power_stays powers.Cut cause two = (mount_off stops.Cut cause, tt)
      power_stays powers.Fault cause two = (mount_off stops.Fault cause, tt)

    -- ---- what needs lists in use

    module _ (was_sound : IsSound old) (was_known : IsKnown old) where
      ends_stays : (lists : Lists) (lba n : ℕ) (course : List Placing) (more : ℕ) (reached : Lists) (uses : ℕ) (buffered_now : List ℕ) → EndsWriting old new lists lba n course more reached uses buffered_now → StaysFormatted new version sizes
      ends_stays lists lba n course more reached uses buffered_now ends =
          let on = ends.wrote.inside.on in
          let is = reached_sdl old.shape lists (block_with lba) course in
          on_stays new version sizes sound is_known reached ends.now_in_use
          (ap (λ (l : Lists). l.sdl.version) ends.wrote.reached_are ∙ is.0 ∙ version_is lists on ends.wrote.in_use)
          (subst (Contains sizes) (sym (ap (λ (l : Lists). l.sdl.ssa) ends.wrote.reached_are ∙ is.1)) (size_is lists on ends.wrote.in_use))

      write_off : (lba n : ℕ) (stop : Stop) → StopsInWrite old new lba n stop → StaysFormatted new version sizes
      write_off lba n stop cause =
          let on = cause.wrote.inside.on in
          let is = reached_sdl old.shape cause.lists (block_with lba) cause.course in
          let ssa : cause.reached.sdl.ssa ≡ cause.lists.sdl.ssa = ap (λ (l : Lists). l.sdl.ssa) cause.wrote.reached_are ∙ is.1 in
          let size = size_is cause.lists on cause.wrote.in_use in
          let found = write_stopped old new same was_sound was_known lba n stop cause in
          off_stays new version sizes (stop_off old.medium new.medium _ stop cause.stopped.stops) cause.reached.dds cause.reached.sdl found.0 found.2
          (ap (λ (l : Lists). l.sdl.version) cause.wrote.reached_are ∙ is.0 ∙ version_is cause.lists on cause.wrote.in_use)
          (subst (Contains sizes) (sym ssa) size) (subst (Contains sizes) (sym (found.1 ∙ ssa)) size)

      pub write_stays : (lba n : ℕ) (out : WriteOut) → WriteCause old new lba n out → StaysFormatted new version sizes
      write_stays lba n writes.Good cause = ends_stays cause.lists lba n cause.course _ cause.reached _ _ cause.ends
      write_stays lba n writes.NotFormatted cause = nothing_stays cause.nothing
      write_stays lba n (writes.Range known) cause = nothing_stays cause.nothing
      write_stays lba n (writes.Unread named block) cause = ends_stays cause.lists lba n cause.course _ cause.reached _ _ cause.ends
      write_stays lba n (writes.NoSpare named) cause = ends_stays cause.lists lba n cause.course _ cause.reached _ _ cause.ends
      write_stays lba n (writes.NoUpdate counter) cause = ends_stays cause.lists lba n cause.course _ cause.reached _ _ cause.ends
      write_stays lba n writes.Cut cause = write_off lba n stops.Cut cause
      write_stays lba n writes.Off cause = nothing_stays cause.nothing
      write_stays lba n writes.Fault cause = write_off lba n stops.Fault cause

      rewrite_off : (lists : Lists) → old.lists ≡ Some lists → (stop : Stop) → StopsInRewrite old new lists stop → StaysFormatted new version sizes
      rewrite_off lists is stop cause =
          off_stays new version sizes (stop_off old.medium new.medium _ stop cause.stopped.stops) lists.dds lists.sdl lists.sdl (rewrite_stopped old new same was_sound was_known lists stop is cause)
          (version_is lists cause.was_on is) (size_is lists cause.was_on is) (size_is lists cause.was_on is)

      rewrite_stays : (lists : Lists) → old.lists ≡ Some lists → (out : FormatOut) → RewriteCause old new lists out → StaysFormatted new version sizes
      rewrite_stays lists is formats.Good cause = kept_stays cause.both.was_on cause.both.keeps
      rewrite_stays lists is (formats.TooMany found) cause = absurd cause
      rewrite_stays lists is (formats.NoUpdate counter) cause = kept_stays cause.both.was_on cause.both.keeps
      rewrite_stays lists is formats.Cut cause = rewrite_off lists is stops.Cut cause
      rewrite_stays lists is formats.Off cause = nothing_stays cause.nothing
      rewrite_stays lists is formats.Fault cause = rewrite_off lists is stops.Fault cause

      -- a rewriting format of a disc without lists is a full one, and comes where the power is off alone
      full_stays : old.lists ≡ None → (out : FormatOut) → FullCause old new false out → StaysFormatted new version sizes
      full_stays none formats.Good cause = absurd (no_lists none cause.any.was_on)
      full_stays none (formats.TooMany found) cause = absurd (no_lists none cause.any.was_on)
      full_stays none (formats.NoUpdate counter) (inl lacks) = nothing_stays lacks.nothing
      full_stays none (formats.NoUpdate counter) (inr (inl loses)) = absurd (no_lists none loses.any.was_on)
      full_stays none (formats.NoUpdate counter) (inr (inr (inl loses))) = absurd (no_lists none loses.any.was_on)
      full_stays none (formats.NoUpdate counter) (inr (inr (inr loses))) = absurd (no_lists none loses.any.was_on)
      full_stays none formats.Cut cause = absurd (no_lists none cause.was_on)
      full_stays none formats.Off cause = nothing_stays cause.nothing
      full_stays none formats.Fault cause = absurd (no_lists none cause.was_on)

      format_by : (lists : Option Lists) → old.lists ≡ lists → (out : FormatOut) → FormatCauseBy old new lists kinds.Rewrite out → StaysFormatted new version sizes
      format_by None is out cause = full_stays is out cause
      format_by (Some lists) is out cause = rewrite_stays lists is out cause

      pub format_stays : (out : FormatOut) → FormatCause old new kinds.Rewrite out → StaysFormatted new version sizes
      format_stays out cause = format_by old.lists refl out cause

      -- ---- an expansion

      module _ (sectors : ℕ) where
        -- an expansion to the capacity that the disc has
        same_size : (stays : StaysAsLarge old new sectors) → stays.lists.sdl.ssa ≡ ssa_for old.shape sectors
        same_size stays =
            let had = (was_sound.in_use stays.lists stays.any.in_use).valid.together.secondary.area.some_logical in
            let room = room_grows old.shape stays.lists.sdl.ssa in
            let present : sectors ≡ logical_count old.shape stays.lists * 16 = stays.present ∙ ap (λ (o : Option Lists). option_map_or (logical_count old.shape) o 0 * 16) stays.any.in_use in
            omega (arith, room, present, had)

        exactly : (lists : Lists) → new.lists ≡ Some lists → lists.sdl.version ≡ version → lists.sdl.ssa ≡ ssa_for old.shape sectors → StaysFormatted new version (ssa_for old.shape sectors ∷ [])
        exactly lists is of_version size =
            on_stays new version (ssa_for old.shape sectors ∷ []) sound is_known lists is of_version (subst (Contains (ssa_for old.shape sectors ∷ [])) (sym size) (Contains-first (ssa_for old.shape sectors) []))

        expand_off : (stop : Stop) → StopsInExpansion old new sectors stop → StaysFormatted new version (ssa_for old.shape sectors ∷ sizes)
        expand_off stop cause =
            let found = expand_stopped old new same was_sound was_known sectors stop cause in
            off_stays new version (ssa_for old.shape sectors ∷ sizes) (stop_off old.medium new.medium _ stop cause.stopped.stops) found.0.dds found.0.sdl found.1 found.4
            (version_is found.0 cause.any.was_on found.2) (Contains-later (ssa_for old.shape sectors) sizes found.0.sdl.ssa (size_is found.0 cause.any.was_on found.2)) (subst (Contains (ssa_for old.shape sectors ∷ sizes)) (sym found.3) (Contains-first (ssa_for old.shape sectors) sizes))

        pub expand_stays : (out : ExpandOut) → ExpandCause old new sectors out → StaysFormatted new version (sizes_expanded old.shape sectors out sizes)
        expand_stays expands.Good (inl stays) = exactly stays.lists (stays.keeps.same_lists ∙ stays.any.in_use) (version_is stays.lists stays.any.was_on stays.any.in_use) (same_size stays)
        expand_stays expands.Good (inr grows) = exactly (lists_expanded old.shape grows.lists (ssa_for old.shape sectors)) grows.now_in_use (version_is grows.lists grows.any.was_on grows.any.in_use) refl
        expand_stays expands.NotFormatted cause = nothing_stays cause.nothing
        expand_stays (expands.Refused known) cause = nothing_stays cause.nothing
        expand_stays (expands.NoUpdate counter) cause = kept_stays cause.any.was_on cause.keeps
        expand_stays expands.Cut cause = expand_off stops.Cut cause
        expand_stays expands.Off cause = nothing_stays cause.nothing
        expand_stays expands.Fault cause = expand_off stops.Fault cause
