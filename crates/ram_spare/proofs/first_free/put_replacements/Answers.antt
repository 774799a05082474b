use Rattle.std.proofs.Common.{arith}
use Rattle.ram_spare.proofs.FirstFree.{put_all}
use Rattle.ram_spare.proofs.first_free.put_replacements.Goals as goal

pub put-requires : goal.put-requires
put-requires c =
    let few = c.loop-entry.invariant.put.few in
    let room = c.loop-entry.invariant.room in
    record { room = omega (arith, few, room, c.loop-entry-test.true, c.requires) }

pub returns-clause-blocks : goal.returns-clause-blocks
returns-clause-blocks c = put_all _ _ _ c.loop-entry.invariant.put c.loop-entry-test.false

pub returns-clause-room : goal.returns-clause-room
returns-clause-room c = c.loop-entry.invariant.room
