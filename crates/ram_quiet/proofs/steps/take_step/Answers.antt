use Rattle.std.proofs.Common.{arith}
use Rattle.ram_quiet.proofs.Keeping.{data_inside}
use Rattle.ram_quiet.proofs.steps.take_step.Goals as goal

pub write-requires : goal.write-requires
write-requires g c =
    let inside = data_inside c.args.geometry.now c.in-Write.block (rw c.in-Write.is at c.requires.lawful) in
    let size = c.requires.size in
    omega (arith, inside, size)
