use Rattle.ram_scrub.proofs.Halving.{found_index}
use Rattle.ram_scrub.proofs.found.search.Goals as goal

pub returns : goal.returns
returns c = found_index c.args.found.now c.args.block c.binary_search.result c.requires c.binary_search.ensures.position
