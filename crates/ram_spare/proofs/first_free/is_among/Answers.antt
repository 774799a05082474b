use Rattle.std.proofs.Common.{◌∙◌}
use Rattle.ram_spare.proofs.FirstFree.{found_by}
use Rattle.ram_spare.proofs.first_free.is_among.Goals as goal

pub returns : goal.returns
returns c = c.is_ok.ensures.value ∙ found_by c.args.blocks.now c.args.block c.binary_search.result c.requires c.binary_search.ensures.position
