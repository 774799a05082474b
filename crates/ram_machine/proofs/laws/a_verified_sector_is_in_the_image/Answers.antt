use Rattle.ram_machine.proofs.VerifiedLines.{line_verified}
use Rattle.ram_machine.proofs.laws.a_verified_sector_is_in_the_image.Goals as goal

pub returns : goal.returns
returns c = λ s t event lba n at bytes image step done among keeps left. line_verified s t event lba n at bytes image step done among keeps left
