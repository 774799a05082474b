-- By the lemmas on chains.
use Rattle.ram_session.proofs.Chains.{talk_runs, session_runs}
use Rattle.ram_session.proofs.laws.a_talk_is_a_run.Goals as goal

pub returns-clause-talk : goal.returns-clause-talk
returns-clause-talk c = talk_runs

pub returns-clause-session : goal.returns-clause-session
returns-clause-session c = session_runs
