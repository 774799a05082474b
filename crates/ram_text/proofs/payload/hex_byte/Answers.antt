-- A byte has two digits.
use Rattle.std.proofs.Common.{sym}
use Rattle.ram_text.proofs.HexSteps.{hex_byte_of-other, hex_byte_of-some, hex_byte_of-none}
use Rattle.ram_text.proofs.payload.hex_byte.Goals as goal

pub returns-then-word-ne2 : goal.returns-then-word-ne2
returns-then-word-ne2 c = sym (hex_byte_of-other c.args.word.now c.if-word-ne2.true)

pub returns-then-decode : goal.returns-then-decode
returns-then-decode c = hex_byte_of-some c.args.word.now c.decode.new.into c.if-decode.ensures c.decode.auto.into

pub returns-else-decode : goal.returns-else-decode
returns-else-decode c = hex_byte_of-none c.args.word.now c.if-decode.ensures
