use Rattle.std.proofs.Common.{refl, sym, ap, ◌∙◌, subst}
use Rattle.model_copies.specs.Parts.{AreMarkedWithin}
use Rattle.model_medium.specs.Machine.{Machine}
use Rattle.model_medium.specs.World.{World}
use Rattle.model_volume.specs.Given.{GivesNone}
use Rattle.ram_medium.specs.Laws.{machine_shown}
use Rattle.ram_transfer.specs.Shown.{shown_without}
use Rattle.ram_states.specs.Shown.{shown_off}
use Rattle.ram_states.proofs.Controlling.{stands_armed}
use Rattle.ram_states.proofs.states.State.arm_cut.Goals as goal

pub invariant_of-bare : goal.invariant_of-bare
invariant_of-bare g c =
    let same = ap (λ (m : Machine). m.world) c.arm_cut-in-NotFormatted.ensures.rule in
    record {
      size = c.arm_cut-in-NotFormatted.ensures.as_many ∙ c.in-NotFormatted.bare.size;
      on = ap (λ (w : World). w.power) same ∙ c.in-NotFormatted.bare.on;
      bare = subst (λ (w : World). GivesNone c.in-NotFormatted.bare.geometry w.cells) (sym same) c.in-NotFormatted.bare.bare;
      marked = subst (λ (w : World). AreMarkedWithin c.in-NotFormatted.bare.geometry w.cells c.in-NotFormatted.bare.mark) (sym same) c.in-NotFormatted.bare.marked;
      kind = c.in-NotFormatted.bare.kind;
    }

pub returns-in-Off-clause-stands : goal.returns-in-Off-clause-stands
returns-in-Off-clause-stands g c =
    rw c.in-Off.is (stands_armed (shown_off c.in-Off.off) (shown_without c.in-Off.off.geometry (machine_shown g.M.Medium.world g.M.MediumControl.arms g.M.MediumControl.armed_cut c.arm_cut.new.self)) (record { same_shape = refl; same_lists = refl; same_mark = refl; same_buffer = refl })
    (ap (λ (m : Machine). m.world) c.arm_cut.ensures.rule))
