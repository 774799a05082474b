use Rattle.std.proofs.Common.{refl}
use Rattle.model_sectors.specs.Discs.{sectors_of}
use Rattle.model_mirror.proofs.Mends.{rewritten}
use Rattle.model_mirror.proofs.laws.what_is_written_back_leaves_the_disc.Goals as goal

pub returns : goal.returns
returns c = λ disc lba n block. rewritten disc lba n block (sectors_of disc lba n) refl
