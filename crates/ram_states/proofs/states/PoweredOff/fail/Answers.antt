use Rattle.std.proofs.Common.{refl}
use Rattle.ram_medium.specs.Laws.{machine_shown}
use Rattle.ram_transfer.specs.Shown.{shown_without}
use Rattle.ram_states.specs.Shown.{shown_off}
use Rattle.ram_states.proofs.Controlling.{stands_off}
use Rattle.ram_states.proofs.states.PoweredOff.fail.Goals as goal

pub returns-clause-stands : goal.returns-clause-stands
returns-clause-stands g c =
    stands_off (shown_off c.args.self) (shown_without c.args.self.geometry (machine_shown g.M.Medium.world g.M.MediumControl.arms g.M.MediumControl.armed_cut c.fail-end.new.self))
    _ c.args.block c.fail-end.result (record { same_shape = refl; same_lists = refl; same_mark = refl; same_buffer = refl }) (record { same_shape = refl; no_lists = refl; no_mark = refl; no_buffer = refl }) c.fail-end.ensures.rule
