use Rattle.model_geometry.proofs.ListBlocks.{no_data_block_record, record_no_dds, record_no_sdl, record_no_second, record_blocks_rise, record_block_inside}
use Rattle.model_geometry.proofs.record_blocks_are_four_others.Goals as goal

pub returns-clause-data : goal.returns-clause-data
returns-clause-data c = no_data_block_record

pub returns-clause-dds : goal.returns-clause-dds
returns-clause-dds c = record_no_dds

pub returns-clause-sdl : goal.returns-clause-sdl
returns-clause-sdl c = record_no_sdl

pub returns-clause-second : goal.returns-clause-second
returns-clause-second c = record_no_second

pub returns-clause-areas : goal.returns-clause-areas
returns-clause-areas c = record_blocks_rise

pub returns-clause-inside : goal.returns-clause-inside
returns-clause-inside c = record_block_inside
