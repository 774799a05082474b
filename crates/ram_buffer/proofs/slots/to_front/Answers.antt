use Rattle.std.proofs.Common.{[], ◌+◌, ◌-◌, refl, sym, arith}
use Rattle.ram_buffer.proofs.Rooms.{put_front}
use Rattle.ram_buffer.proofs.slots.to_front.Goals as goal

pub returns-clause-items : goal.returns-clause-items
returns-clause-items c =
    put_front (0, []) c.args.k (c.args.k + 1 - 0) c.args.rooms.now.len c.args.rooms.now.items c.as_mut_slice-rooms.result.now c.rotate_right.new.self _ (omega arith) c.requires (sym c.args.rooms.now.ok.0)
    c.as_mut_slice-rooms.ensures.value c.rotate_right.ensures.after refl
