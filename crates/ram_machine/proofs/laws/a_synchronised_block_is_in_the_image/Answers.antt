use Rattle.ram_machine.proofs.SyncedImage.{block_in_image, sector_in_image}
use Rattle.ram_machine.proofs.laws.a_synchronised_block_is_in_the_image.Goals as goal

pub returns-clause-block : goal.returns-clause-block
returns-clause-block c s t event i bytes image step done pending left = block_in_image i bytes image s t event step done pending left

pub returns-clause-sector : goal.returns-clause-sector
returns-clause-sector c s t event i at bytes held image step done pending is now left = sector_in_image i bytes image s t event at held step done pending is now left
