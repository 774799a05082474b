-- A command block has at most 16 bytes.
use Rattle.ram_text.proofs.HexSteps.{command_block_of-long, command_block_of-none, command_block_of-some}
use Rattle.ram_text.proofs.payload.command_block.Goals as goal

pub returns-then-count-gt-CDB_LIMIT : goal.returns-then-count-gt-CDB_LIMIT
returns-then-count-gt-CDB_LIMIT c = command_block_of-long c.args.word.now c.if-count-gt-CDB_LIMIT.true

pub returns-then-decode : goal.returns-then-decode
returns-then-decode c =
    command_block_of-some c.args.word.now c.decode.new.into c.from_bytes.result c.if-decode.ensures c.from_bytes.ensures

pub returns-else-decode : goal.returns-else-decode
returns-else-decode c = command_block_of-none c.args.word.now c.if-decode.ensures
