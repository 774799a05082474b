use Rattle.ram_machine.proofs.SyncedImage.{ticked_in_image}
use Rattle.ram_machine.proofs.laws.a_ticked_block_is_in_the_image.Goals as goal

pub returns : goal.returns
returns c s t event i bytes image step is_tick written pending left = ticked_in_image i bytes image s t event step is_tick written pending left
