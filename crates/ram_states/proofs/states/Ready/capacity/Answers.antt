use Rattle.std.proofs.Common.{◌≡◌, ◌+◌, ◌-◌, ◌*◌, ℕ, ap, arith}
use Rattle.model_places.specs.Places.{count_of}
use Rattle.model_places.proofs.ByKind.{room_grows}
use Rattle.ram_states.proofs.states.Ready.capacity.Goals as goal

pub overflow_add-kept : goal.overflow_add-kept
overflow_add-kept g c =
    let some = c.args.self.now.valid.together.secondary.area.some_logical in
    let most = c.spare_room.ensures.most in
    let count = c.data_blocks-blocks.ensures.most in
    omega (arith, some, most, room_grows c.args.self.now.geometry c.args.self.now.memory.lists.sdl.ssa)

pub overflow_sub-result : goal.overflow_sub-result
overflow_sub-result g c =
    let some = c.args.self.now.valid.together.secondary.area.some_logical in
    omega (arith, some, c.data_blocks-blocks.ensures.count, c.spare_room.ensures.room, room_grows c.args.self.now.geometry c.args.self.now.memory.lists.sdl.ssa)

pub returns-clause-sectors : goal.returns-clause-sectors
returns-clause-sectors g c =
    let same : c.data_blocks-blocks.result - (c.spare_room.result + c.args.self.now.memory.lists.sdl.ssa) ≡ count_of c.args.self.now.geometry c.args.self.now.memory.lists.sdl.ssa =
    omega (arith, c.data_blocks-blocks.ensures.count, c.spare_room.ensures.room, room_grows c.args.self.now.geometry c.args.self.now.memory.lists.sdl.ssa) in
    ap (λ (n : ℕ). n * 16) same
