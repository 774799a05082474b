use Rattle.model_volume.proofs.OtherKind.{none_of_the_other}
use Rattle.model_volume.proofs.laws.a_disc_of_one_kind_is_none_of_the_other.Goals as goal

pub returns : goal.returns
returns c = none_of_the_other
