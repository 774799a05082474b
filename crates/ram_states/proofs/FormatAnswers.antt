-- The answers of a format in each state: why they come, and what the drive stands for then.
use Rattle.std.proofs.Common.{◌≡◌, ℕ, ◌⊎◌, inl, inr, IsTrue, Bool, false, Option, Some, None, List, [], refl, sym, ap, ◌∙◌, subst}
use Rattle.model_geometry.specs.Geometry.{Shape}
use Rattle.model_lists.specs.declared.dds.PdlEntry.{PdlEntry}
use Rattle.model_lists.specs.declared.dds.PdlKind.{PdlKind}
use Rattle.model_lists.specs.declared.dds.PdlKind.TheVariants as pdl_kinds
use Rattle.model_medium.specs.World.{World, Span}
use Rattle.model_medium.specs.Machine.{Machine}
use Rattle.model_medium.specs.Exact.{Event}
use Rattle.model_medium.specs.declared.WornBlock.{WornBlock}
use Rattle.model_medium.specs.declared.ArmedCut.{ArmedCut}
use Rattle.model_stops.specs.declared.Stop.{Stop}
use Rattle.model_stops.specs.declared.Stop.TheVariants as stops
use Rattle.model_places.specs.Places.{Lists}
use Rattle.model_drive.specs.declared.Kind.{Kind}
use Rattle.model_drive.specs.declared.Kind.TheVariants as kinds
use Rattle.model_drive.specs.declared.FormatOut.{FormatOut}
use Rattle.model_drive.specs.declared.FormatOut.TheVariants as outs
use Rattle.model_drive.specs.Shown.{Shown}
use Rattle.model_drive.specs.FullFormats.{FullCause}
use Rattle.model_drive.specs.Formats.{FormatCause}
use Rattle.model_drive.proofs.Powers.{KeepsRight}
use Rattle.model_drive.proofs.FormatSteps.{format_step}
use Rattle.ram_medium.specs.Laws.{ControlLaws, machine_shown}
use Rattle.ram_format.specs.Keeping.{AreAllKept}
use Rattle.ram_format.specs.Full.{MakesLists, HasNoRoom, MeetsTooMany, LosesFirst, LosesSecond, LosesThird, LeavesNoLists, FormatStopped}
use Rattle.ram_format.specs.Rewriting.{HaveCopies, LacksCopies, RewriteStopped}
use Rattle.ram_format.proofs.Keeps.{none_kept}
use Rattle.model_places.specs.Valid.{AreValid}
use Rattle.model_volume.specs.Given.{AreSettled}
use Rattle.ram_transfer.specs.Shown.{shown_without, shown_unformatted, shown_under}
use Rattle.ram_transfer.specs.Stopped.{format_stopped_by}
use Rattle.ram_states.specs.Formats.{FormatSteps}
use Rattle.ram_states.proofs.Keeping.{off_right, under_right, bare_right}
use Rattle.ram_states.proofs.FormatCauses.{good_cause, many_cause, lost_cause, stop_cause}
use Rattle.ram_states.proofs.RewriteCauses.{rewritten_cause, lacking_cause, stopped_cause}

-- the steps follow from the cause
steps : (old new : Shown) → new.shape ≡ old.shape → KeepsRight new → (kind : Kind) (out : FormatOut) → FormatCause old new kind out → FormatSteps old new kind out
steps old new same_shape right kind out cause s stood = format_step old new same_shape right s stood kind out cause

module _ {M : Type 0} (world : M → World) (reaches : M → M → Span → Type 0) (takes : M → M → Event → Type 0) (arms : M → List WornBlock) (armed_cut : M → Option ArmedCut)
    (laws : ControlLaws world reaches takes arms armed_cut) (shape : Shape) (old new : M) where
  abbrev machine : M → Machine
  machine m = machine_shown world arms armed_cut m

  abbrev off : Shown
  off = shown_without shape (machine new)

  -- where a list was lost, no lists are left
  pub lost_leaves : (kept : List PdlEntry) (kind : PdlKind) (mark counter left : ℕ)
      → LosesFirst world reaches shape kept kind mark old new counter left ⊎ LosesSecond world reaches shape kept kind mark old new counter left ⊎ LosesThird world reaches shape kept kind mark old new counter left
      → LeavesNoLists world reaches shape kept kind mark old new left
  lost_leaves kept kind mark counter left (inl first) = first.leaves
  lost_leaves kept kind mark counter left (inr (inl second)) = second.leaves
  lost_leaves kept kind mark counter left (inr (inr third)) = third.leaves

  -- of a disc that is not formatted
  module _ (mark : ℕ) (kind : Kind) where
    abbrev bare : Shown
    bare = shown_unformatted shape (machine old) mark

    by_kind : (after : Shown) (out : FormatOut) (some : Kind) → ((drop_sdl : Bool) → FullCause bare after drop_sdl out) → FormatCause bare after some out
    by_kind after out (kinds.Full drop_sdl) cause = cause drop_sdl
    by_kind after out kinds.Rewrite cause = cause false

    pub bare_good : (made : Lists) → MakesLists world reaches shape [] pdl_kinds.P mark old new made → FormatCause bare (shown_under shape (machine new) made []) kind outs.Good
    bare_good made makes = by_kind (shown_under shape (machine new) made []) outs.Good kind
        (λ drop_sdl. good_cause world reaches takes arms armed_cut laws shape None mark [] drop_sdl [] (none_kept drop_sdl) old new made makes)

    pub bare_good_steps : (made : Lists) → MakesLists world reaches shape [] pdl_kinds.P mark old new made → FormatSteps bare (shown_under shape (machine new) made []) kind outs.Good
    bare_good_steps made makes =
        steps bare (shown_under shape (machine new) made []) refl (under_right shape (machine new) made [] makes.valid makes.settled) kind outs.Good (bare_good made makes)

    pub bare_many : (found left : ℕ) → MeetsTooMany world reaches shape [] pdl_kinds.P mark old new found left → FormatCause bare (shown_unformatted shape (machine new) left) kind (outs.TooMany found)
    bare_many found left meets = by_kind (shown_unformatted shape (machine new) left) (outs.TooMany found) kind
        (λ drop_sdl. many_cause world reaches takes arms armed_cut laws shape None mark [] drop_sdl [] (none_kept drop_sdl) old new found left meets)

    pub bare_lost : (counter left : ℕ)
        → LosesFirst world reaches shape [] pdl_kinds.P mark old new counter left ⊎ LosesSecond world reaches shape [] pdl_kinds.P mark old new counter left ⊎ LosesThird world reaches shape [] pdl_kinds.P mark old new counter left
        → FormatCause bare (shown_unformatted shape (machine new) left) kind (outs.NoUpdate counter)
    bare_lost counter left loses = by_kind (shown_unformatted shape (machine new) left) (outs.NoUpdate counter) kind
        (λ drop_sdl. lost_cause world reaches takes arms armed_cut laws shape None mark [] drop_sdl [] (none_kept drop_sdl) old new counter left loses)

    bare_stop : (out : FormatOut) → ((drop_sdl : Bool) → FullCause bare off drop_sdl out) → ¬ IsTrue (world new).power → FormatCause bare off kind out × FormatSteps bare off kind out
    bare_stop out cause fell = let why = by_kind off out kind cause in (why, steps bare off refl (off_right shape (machine new) fell) kind out why)

    pub bare_stopped : (stop : Stop) → IsTrue (world old).power → FormatStopped world reaches shape [] pdl_kinds.P mark old new stop
        → FormatCause bare off kind (format_stopped_by stop) × FormatSteps bare off kind (format_stopped_by stop)
    bare_stopped stops.Cut on was =
        bare_stop outs.Cut (λ drop_sdl. stop_cause world reaches takes arms armed_cut laws shape None mark [] drop_sdl [] (none_kept drop_sdl) old new stops.Cut was) was.stops.cut.turns_off
    bare_stopped stops.Off on was = absurd (was.stops.was_off on)
    bare_stopped stops.Fault on was =
        bare_stop outs.Fault (λ drop_sdl. stop_cause world reaches takes arms armed_cut laws shape None mark [] drop_sdl [] (none_kept drop_sdl) old new stops.Fault was) was.counts.turns_off

  -- of a formatted disc
  module _ (lists : Lists) (buffer : List (ℕ × List ℕ)) where
    abbrev ready : Shown
    ready = shown_under shape (machine old) lists buffer

    -- it was stopped, for this cause
    went_off : (kind : Kind) (out : FormatOut) → FormatCause ready off kind out → ¬ IsTrue (world new).power → FormatCause ready off kind out × FormatSteps ready off kind out
    went_off kind out cause fell = (cause, steps ready off refl (off_right shape (machine new) fell) kind out cause)

    -- fully
    module _ (drop_sdl : Bool) (kept : List PdlEntry) (all : AreAllKept (Some lists) drop_sdl kept) where
      abbrev mark : ℕ
      mark = lists.dds.counter

      pub full_good : (made : Lists) → MakesLists world reaches shape kept pdl_kinds.G1 mark old new made → FormatCause ready (shown_under shape (machine new) made []) (kinds.Full drop_sdl) outs.Good
      full_good made makes = good_cause world reaches takes arms armed_cut laws shape (Some lists) mark buffer drop_sdl kept all old new made makes

      pub full_good_steps : (made : Lists) → MakesLists world reaches shape kept pdl_kinds.G1 mark old new made → FormatSteps ready (shown_under shape (machine new) made []) (kinds.Full drop_sdl) outs.Good
      full_good_steps made makes =
          steps ready (shown_under shape (machine new) made []) refl (under_right shape (machine new) made [] makes.valid makes.settled) (kinds.Full drop_sdl) outs.Good (full_good made makes)

      pub full_many : (found left : ℕ) → MeetsTooMany world reaches shape kept pdl_kinds.G1 mark old new found left → FormatCause ready (shown_unformatted shape (machine new) left) (kinds.Full drop_sdl) (outs.TooMany found)
      full_many found left meets = many_cause world reaches takes arms armed_cut laws shape (Some lists) mark buffer drop_sdl kept all old new found left meets

      pub full_lost : (counter left : ℕ)
          → LosesFirst world reaches shape kept pdl_kinds.G1 mark old new counter left ⊎ LosesSecond world reaches shape kept pdl_kinds.G1 mark old new counter left ⊎ LosesThird world reaches shape kept pdl_kinds.G1 mark old new counter left
          → FormatCause ready (shown_unformatted shape (machine new) left) (kinds.Full drop_sdl) (outs.NoUpdate counter)
      full_lost counter left loses = lost_cause world reaches takes arms armed_cut laws shape (Some lists) mark buffer drop_sdl kept all old new counter left loses

      pub full_many_steps : (found left : ℕ) → MeetsTooMany world reaches shape kept pdl_kinds.G1 mark old new found left → FormatSteps ready (shown_unformatted shape (machine new) left) (kinds.Full drop_sdl) (outs.TooMany found)
      full_many_steps found left meets = steps ready (shown_unformatted shape (machine new) left) refl (bare_right shape (machine new) left meets.leaves.gives_none meets.leaves.marked) (kinds.Full drop_sdl) (outs.TooMany found)
          (full_many found left meets)

      pub full_lost_steps : (counter left : ℕ)
          → LosesFirst world reaches shape kept pdl_kinds.G1 mark old new counter left ⊎ LosesSecond world reaches shape kept pdl_kinds.G1 mark old new counter left ⊎ LosesThird world reaches shape kept pdl_kinds.G1 mark old new counter left
          → FormatSteps ready (shown_unformatted shape (machine new) left) (kinds.Full drop_sdl) (outs.NoUpdate counter)
      full_lost_steps counter left loses =
          let leaves = lost_leaves kept pdl_kinds.G1 mark counter left loses in
          steps ready (shown_unformatted shape (machine new) left) refl (bare_right shape (machine new) left leaves.gives_none leaves.marked) (kinds.Full drop_sdl) (outs.NoUpdate counter) (full_lost counter left loses)

      pub full_stopped : (stop : Stop) → IsTrue (world old).power → FormatStopped world reaches shape kept pdl_kinds.G1 mark old new stop
          → FormatCause ready off (kinds.Full drop_sdl) (format_stopped_by stop) × FormatSteps ready off (kinds.Full drop_sdl) (format_stopped_by stop)
      full_stopped stops.Cut on was = went_off (kinds.Full drop_sdl) outs.Cut (stop_cause world reaches takes arms armed_cut laws shape (Some lists) mark buffer drop_sdl kept all old new stops.Cut was) was.stops.cut.turns_off
      full_stopped stops.Off on was = absurd (was.stops.was_off on)
      full_stopped stops.Fault on was = went_off (kinds.Full drop_sdl) outs.Fault (stop_cause world reaches takes arms armed_cut laws shape (Some lists) mark buffer drop_sdl kept all old new stops.Fault was) was.counts.turns_off

      -- nothing was done
      module _ (valid : AreValid shape lists) (settled : AreSettled shape (world old).cells lists) (after : Shown) (is : after ≡ shown_under shape (machine new) lists buffer) where
        undone : (out : FormatOut) → new ≡ old → (after ≡ ready → FormatCause ready after (kinds.Full drop_sdl) out) → FormatCause ready after (kinds.Full drop_sdl) out × FormatSteps ready after (kinds.Full drop_sdl) out
        undone out nothing cause =
            let same : after ≡ ready = is ∙ ap (λ (m : M). shown_under shape (machine m) lists buffer) nothing in
            (cause same, steps ready after (ap (λ (s : Shown). s.shape) same) (subst KeepsRight (sym same) (under_right shape (machine old) lists buffer valid settled)) (kinds.Full drop_sdl) out (cause same))

        pub full_unroomy : (left : ℕ) → HasNoRoom world reaches shape kept pdl_kinds.G1 mark old new left
            → FormatCause ready after (kinds.Full drop_sdl) (outs.NoUpdate left) × FormatSteps ready after (kinds.Full drop_sdl) (outs.NoUpdate left)
        full_unroomy left was = undone (outs.NoUpdate left) was.nothing (λ same. inl (record { was_on = was.was_on; full = was.full; counter_is = was.left_is; nothing = same }))

    -- or by writing its lists again
    module _ (valid : AreValid shape lists) where
      abbrev again : Shown
      again = shown_under shape (machine new) lists []

      pub rewritten : HaveCopies world reaches shape old new lists → FormatCause ready again kinds.Rewrite outs.Good
      rewritten have = rewritten_cause world reaches takes arms armed_cut laws shape lists buffer old new have

      pub rewritten_steps : HaveCopies world reaches shape old new lists → FormatSteps ready again kinds.Rewrite outs.Good
      rewritten_steps have = steps ready again refl (under_right shape (machine new) lists [] valid have.both.settled) kinds.Rewrite outs.Good (rewritten have)

      pub lacking : (counter : ℕ) → LacksCopies world reaches shape old new lists counter → FormatCause ready again kinds.Rewrite (outs.NoUpdate counter)
      lacking counter lacks = lacking_cause world reaches takes arms armed_cut laws shape lists buffer old new counter lacks

      pub lacking_steps : (counter : ℕ) → LacksCopies world reaches shape old new lists counter → FormatSteps ready again kinds.Rewrite (outs.NoUpdate counter)
      lacking_steps counter lacks = steps ready again refl (under_right shape (machine new) lists [] valid lacks.both.settled) kinds.Rewrite (outs.NoUpdate counter) (lacking counter lacks)

    pub rewrite_stopped : (stop : Stop) → IsTrue (world old).power → RewriteStopped world reaches shape old new lists stop
        → FormatCause ready off kinds.Rewrite (format_stopped_by stop) × FormatSteps ready off kinds.Rewrite (format_stopped_by stop)
    rewrite_stopped stops.Cut on was = went_off kinds.Rewrite outs.Cut (stopped_cause world reaches takes arms armed_cut laws shape lists buffer old new stops.Cut was) was.stops.cut.turns_off
    rewrite_stopped stops.Off on was = absurd (was.stops.was_off on)
    rewrite_stopped stops.Fault on was = went_off kinds.Rewrite outs.Fault (stopped_cause world reaches takes arms armed_cut laws shape lists buffer old new stops.Fault was) was.counts.turns_off
