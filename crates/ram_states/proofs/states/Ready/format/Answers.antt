use Rattle.model_drive.specs.declared.Kind.TheVariants as kinds
use Rattle.model_drive.proofs.Completing.{format_completes}
use Rattle.ram_states.specs.Shown.{shown_ready, shown_state}
use Rattle.ram_states.proofs.states.Ready.format.Goals as goal

pub returns-in-Full-clause-completes : goal.returns-in-Full-clause-completes
returns-in-Full-clause-completes g c =
    rw c.in-Full.is
    (format_completes (shown_ready c.args.self) (shown_state c.format_fully.result.0) (kinds.Full c.in-Full.drop_sdl) c.format_fully.result.1 c.format_fully.ensures.cause)

pub returns-in-Rewrite-clause-completes : goal.returns-in-Rewrite-clause-completes
returns-in-Rewrite-clause-completes g c =
    rw c.in-Rewrite.is
    (format_completes (shown_ready c.args.self) (shown_state c.rewrite_lists.result.0) kinds.Rewrite c.rewrite_lists.result.1 c.rewrite_lists.ensures.cause)
