use Rattle.ram_medium.specs.Laws.{machine_shown}
use Rattle.ram_states.proofs.Controlling.{off_synced}
use Rattle.ram_states.proofs.states.PoweredOff.sync.Goals as goal

pub returns-clause-rule : goal.returns-clause-rule
returns-clause-rule g c =
    off_synced c.args.self.geometry (machine_shown g.M.Medium.world g.M.MediumControl.arms g.M.MediumControl.armed_cut c.args.self.medium) (machine_shown g.M.Medium.world g.M.MediumControl.arms g.M.MediumControl.armed_cut c.sync-end.new.self)
    c.sync-end.result c.sync-end.ensures.rule
