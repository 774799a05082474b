use Rattle.model_places.proofs.Layouts.{pools_are_lawful, length-logical_in, spares_most, pooled_data, data_is_pooled}
use Rattle.model_places.proofs.the_pools_of_a_disc_are_lawful.Goals as goal

pub returns-clause-pools : goal.returns-clause-pools
returns-clause-pools c = λ shape lists valid area. pools_are_lawful shape lists.dds lists.sdl.ssa valid area

pub returns-clause-logical : goal.returns-clause-logical
returns-clause-logical c = λ shape lists valid area. length-logical_in shape lists.dds lists.sdl.ssa valid area

pub returns-clause-spares : goal.returns-clause-spares
returns-clause-spares c = λ shape lists valid area. spares_most shape lists.dds lists.sdl.ssa valid area

pub returns-clause-data : goal.returns-clause-data
returns-clause-data c = λ shape lists. pooled_data shape lists.dds lists.sdl.ssa

pub returns-clause-every : goal.returns-clause-every
returns-clause-every c = λ shape lists valid area. data_is_pooled shape lists.dds lists.sdl.ssa valid area
