use Rattle.model_pools.proofs.Apart.{free_apart_in}
use Rattle.model_pools.proofs.Free.{Contains-free_in, Contains-from_free_in}
use Rattle.model_pools.proofs.free_spares_are_unnamed.Goals as goal

pub returns-clause-free : goal.returns-clause-free
returns-clause-free c = Contains-from_free_in

pub returns-clause-every : goal.returns-clause-every
returns-clause-every c = Contains-free_in

pub returns-clause-differ : goal.returns-clause-differ
returns-clause-differ c = free_apart_in
