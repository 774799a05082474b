use Rattle.ram_machine.proofs.InImage.{line_in_image}
use Rattle.ram_machine.proofs.laws.a_write_told_good_is_in_the_image.Goals as goal

pub returns : goal.returns
returns c = λ s t event lba n at fua image step done among goes left. line_in_image s t event lba n at fua image step done among goes left
