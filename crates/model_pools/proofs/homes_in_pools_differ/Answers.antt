use Rattle.model_pools.proofs.Homes.{home_cases_in, home_differs_in, home_not_free_in}
use Rattle.model_pools.proofs.homes_in_pools_differ.Goals as goal

pub returns-clause-place : goal.returns-clause-place
returns-clause-place c = home_cases_in

pub returns-clause-differ : goal.returns-clause-differ
returns-clause-differ c = λ pools entries lawful valid. home_differs_in pools entries valid lawful

pub returns-clause-taken : goal.returns-clause-taken
returns-clause-taken c = λ pools entries lawful valid. home_not_free_in pools entries valid lawful
