use Rattle.std.proofs.Common.{arith}
use Rattle.ram_audit.proofs.Written.{none_fits}
use Rattle.ram_audit.proofs.certificate.tell_bare.Goals as goal

pub tell_head-requires : goal.tell_head-requires
tell_head-requires c = record { fits = let room = none_fits c.args.lines.now c.requires.none in omega (arith, room) }

pub push-requires : goal.push-requires
push-requires c = let room = none_fits c.args.lines.now c.requires.none in omega (arith, room, c.tell_head.ensures.len)

pub close-requires : goal.close-requires
close-requires c = let room = none_fits c.args.lines.now c.requires.none in omega (arith, room, c.tell_head.ensures.len, c.push.ensures.len)
