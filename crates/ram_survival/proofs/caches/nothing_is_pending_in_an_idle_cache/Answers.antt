use Rattle.ram_survival.proofs.IdleCache.{first_idle, step_idle, run_idle}
use Rattle.ram_survival.proofs.caches.nothing_is_pending_in_an_idle_cache.Goals as goal

pub returns-clause-first : goal.returns-clause-first
returns-clause-first c = first_idle

pub returns-clause-step : goal.returns-clause-step
returns-clause-step c = step_idle

pub returns-clause-run : goal.returns-clause-run
returns-clause-run c = run_idle
