use Rattle.ram_states.specs.Shown.{shown_off, shown_bare, shown_ready, shown_state}
use Rattle.ram_states.proofs.Controlling.{stands_synced}
use Rattle.ram_states.proofs.states.State.sync.Goals as goal

pub returns-in-Off-clause-stands : goal.returns-in-Off-clause-stands
returns-in-Off-clause-stands g c =
    rw c.in-Off.is (stands_synced (shown_off c.in-Off.off) (shown_state c.sync.result.0) c.sync.result.1 c.sync.ensures.rule)

pub returns-in-Ready-clause-stands : goal.returns-in-Ready-clause-stands
returns-in-Ready-clause-stands g c =
    rw c.in-Ready.is (stands_synced (shown_ready c.in-Ready.ready) (shown_state c.sync-in-Ready.result.0) c.sync-in-Ready.result.1 c.sync-in-Ready.ensures.rule)

pub returns-in-NotFormatted-clause-stands : goal.returns-in-NotFormatted-clause-stands
returns-in-NotFormatted-clause-stands g c =
    rw c.in-NotFormatted.is (stands_synced (shown_bare c.in-NotFormatted.bare) (shown_state c.sync-in-NotFormatted.result.0) c.sync-in-NotFormatted.result.1 c.sync-in-NotFormatted.ensures.rule)
