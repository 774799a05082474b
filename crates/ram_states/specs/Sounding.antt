-- What each state shows is sound.
use Rattle.std.proofs.Common.{◌≡◌, Bool, Option, Some, None, length, refl, ap, ◌∙◌, subst}
use Rattle.std.specs.Bool.{OnTrue}
use Rattle.std.specs.Option.{option_map_or}
use Rattle.model_medium.specs.Machine.{IsToCome, AreToCome}
use Rattle.model_places.specs.Places.{Lists}
use Rattle.model_drive.specs.Sound.{AreInUse, IsSound}
use Rattle.ram_medium.specs.declared.blocks.Medium.{Ghosts}
use Rattle.ram_medium.specs.declared.control.MediumControl.{Ghosts as ControlGhosts}
use Rattle.ram_lists.specs.Lists.{lists_of}
use Rattle.ram_states.specs.Shown.{shown_ready, shown_state}
use Rattle.ram_states.specs.declared.states.State.{State}
use Rattle.ram_states.specs.declared.states.State.TheVariants as states

module _ {M : Type 0} {c : ControlGhosts M} {d : Ghosts M}
    (as_many : (m : M) → OnTrue (d.world m).known (length (d.world m).cells ≡ d.block_count m))
    (to_come : (m : M) → IsToCome (c.armed_cut m)) (arms_to_come : (m : M) → AreToCome (c.arms m)) where
  pub sound_state : (state : State M c d) → IsSound (shown_state state)
  sound_state (states.Off off) = record {
    as_many = λ known.
        subst (λ (b : Bool). OnTrue b (length (d.world off.medium).cells ≡ d.block_count off.medium)) known
        (as_many off.medium)
        ∙ off.size;
    armed = record { cut = to_come off.medium; arms = arms_to_come off.medium };
    off = λ is_off. record { no_lists = refl; no_mark = refl; no_buffer = refl };
    bare = λ on none. absurd (off.off on);
    in_use = λ lists is. absurd (let e : None ≡ Some lists = is in cc);
  }
  sound_state (states.Ready ready) = record {
    as_many = λ known.
        subst (λ (b : Bool). OnTrue b (length (d.world ready.medium).cells ≡ d.block_count ready.medium)) known
        (as_many ready.medium)
        ∙ ready.size;
    armed = record { cut = to_come ready.medium; arms = arms_to_come ready.medium };
    off = λ is_off. absurd (is_off ready.on);
    bare = λ on none. absurd (let e : Some (lists_of ready.memory.lists) ≡ None = none in cc);
    in_use = λ lists is.
        subst (AreInUse (shown_ready ready))
        (ap (λ (o : Option Lists). option_map_or (λ (l : Lists). l) o (lists_of ready.memory.lists)) is)
        (record { valid = ready.valid; mark_is = refl; settled = λ known. ready.settled });
  }
  sound_state (states.NotFormatted bare) = record {
    as_many = λ known.
        subst (λ (b : Bool). OnTrue b (length (d.world bare.medium).cells ≡ d.block_count bare.medium)) known
        (as_many bare.medium)
        ∙ bare.size;
    armed = record { cut = to_come bare.medium; arms = arms_to_come bare.medium };
    off = λ is_off. absurd (is_off bare.on);
    bare = λ on none. record { no_buffer = refl; gives_none = λ known. bare.bare; marked = λ known. bare.marked };
    in_use = λ lists is. absurd (let e : None ≡ Some lists = is in cc);
  }
