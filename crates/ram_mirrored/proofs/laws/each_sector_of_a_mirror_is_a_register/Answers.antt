use Rattle.ram_mirrored.proofs.MirrorPromised.{mirror_promised}
use Rattle.ram_mirrored.proofs.laws.each_sector_of_a_mirror_is_a_register.Goals as goal

pub returns : goal.returns
returns c = mirror_promised
