use Rattle.ram_slip.proofs.OneRole.{one_role}
use Rattle.ram_slip.proofs.role.a_block_has_one_role.Goals as goal

pub returns : goal.returns
returns c = λ shape dds ssa block a b valid area x y. one_role shape dds ssa block valid area.1 a b x y
