-- The number of the block has three digits at most, so the second number has room for twenty.
use Rattle.std.proofs.Common.{arith}
use Rattle.ram_generate.proofs.Growing.{short_number}
use Rattle.ram_generate.proofs.steps.add_wear.Goals as goal

pub add_number-requires-2 : goal.add_number-requires-2
add_number-requires-2 c =
    let block = short_number c.add.new.text.items c.add_number.new.text.items c.from.result (omega (arith, c.from.ensures, c.draw-block.ensures.below)) c.add_number.ensures.items in
    record { room = omega (arith, block, c.add.ensures.len, c.add.ensures.room, c.add_number.ensures.room, c.add-2.ensures.len, c.add-2.ensures.room, c.requires.room) }

pub add-requires-3 : goal.add-requires-3
add-requires-3 c =
    let block = short_number c.add.new.text.items c.add_number.new.text.items c.from.result (omega (arith, c.from.ensures, c.draw-block.ensures.below)) c.add_number.ensures.items in
    record { room = omega (arith, block, c.add.ensures.len, c.add.ensures.room, c.add_number.ensures.room, c.add-2.ensures.len, c.add-2.ensures.room, c.add_number-2.ensures.len, c.add_number-2.ensures.room, c.requires.room) }

pub returns-clause-len : goal.returns-clause-len
returns-clause-len c =
    let block = short_number c.add.new.text.items c.add_number.new.text.items c.from.result (omega (arith, c.from.ensures, c.draw-block.ensures.below)) c.add_number.ensures.items in
    omega (arith, block, c.add.ensures.len, c.add-2.ensures.len, c.add_number-2.ensures.len, c.add-3.ensures.len)
