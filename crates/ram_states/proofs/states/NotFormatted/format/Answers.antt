use Rattle.model_drive.proofs.Completing.{format_completes}
use Rattle.ram_states.specs.Shown.{shown_bare, shown_state}
use Rattle.ram_states.proofs.states.NotFormatted.format.Goals as goal

pub returns-clause-completes : goal.returns-clause-completes
returns-clause-completes g c =
    format_completes (shown_bare c.args.self) (shown_state c.format_anew.result.0) c.args.kind c.format_anew.result.1 c.format_anew.ensures.cause
