-- The commands of messages, one after another, are a run.
use Rattle.std.proofs.Common.{List, [], ◌∷◌, ◌++◌, map, sym, subst}
use Rattle.model_nbd.specs.Handshake.{Export}
use Rattle.ram_text.specs.declared.script.Line.{Line}
use Rattle.ram_machine.specs.Answered.{AnsweredStep}
use Rattle.ram_machine.specs.States.{State}
use Rattle.ram_machine.specs.Runs.{Run}
use Rattle.ram_script.specs.Progress.{Beginning}
use Rattle.ram_session.specs.Doing.{Did, Doing, step_of}
use Rattle.ram_session.specs.Talk.{Phase, Turned, Talk, dids_in}
use Rattle.ram_session.specs.Opening.{export_after}
use Rattle.ram_session.specs.Session.{SessionSoFar}

-- one run after another is a run
pub run_on : (first mid last : State) (before after : List AnsweredStep) → Run first before mid → Run mid after last → Run first (after ++ before) last
run_on first mid last before [] run then = subst (λ (s : State). Run first before s) (sym then) run
run_on first mid last before (step ∷ after) run then = (then.0, run_on first mid (then.0) before after run then.1, then.2)

-- and so are commands after others
pub doing_on : (first mid last : State) (before after : List Did) → Doing first before mid → Doing mid after last → Doing first (after ++ before) last
doing_on first mid last before [] run then = subst (λ (s : State). Doing first before s) (sym then) run
doing_on first mid last before (did ∷ after) run then = (then.0, doing_on first mid (then.0) before after run then.1, then.2)

pub talk_runs : (export : Export) (first last : State) (turns : List Turned) (phase : Phase) → Talk export first turns last phase → Doing first (dids_in turns) last
talk_runs export first last [] phase talk = talk.0
talk_runs export first last (turned ∷ before) phase talk =
    doing_on first (talk.0) last (dids_in before) turned.dids (talk_runs export first (talk.0) before (talk.1) talk.2) talk.3

pub session_runs : (first : Beginning) (faults : List Line) (far : SessionSoFar first faults) → Run far.opened.start (map step_of (dids_in far.turns) ++ far.opened.steps) far.now
session_runs first faults far =
    run_on far.opened.start far.opened.ready far.now far.opened.steps (map step_of (dids_in far.turns)) far.opened.run
    (talk_runs (export_after far.opened.steps) far.opened.ready far.now far.turns far.phase far.talk)
