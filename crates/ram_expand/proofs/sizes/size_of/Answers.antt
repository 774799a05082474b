use Rattle.std.proofs.Common.{arith}
use Rattle.model_geometry.proofs.ByKind.{room_grows}
use Rattle.ram_lists.specs.Lists.{lists_of}
use Rattle.ram_expand.proofs.Sizing.{area_within, is_present, too_large, none_left, not_whole, too_many_spares, cannot_grow, is_smaller}
use Rattle.ram_expand.proofs.sizes.size_of.Goals as goal
use Rattle.ram_expand.proofs.sizes.size_of.Goals.{then-capacity-eq0-via-then-capacity-eq0, then-capacity-eq0-via-else-capacity-eq0+then-capacity-ne0, then-capacity-eq0-via-else-capacity-eq0+else-capacity-ne0+then-present-capacity}

pub overflow_sub-present-2 : goal.overflow_sub-present-2
overflow_sub-present-2 c = area_within c.args.geometry.now (lists_of c.args.lists.now) c.requires c.data_blocks.result c.spare_room-room.result c.data_blocks.ensures.count c.spare_room-room.ensures.room

pub returns-then-capacity-present : goal.returns-then-capacity-present
returns-then-capacity-present c =
    is_present c.args.geometry.now (lists_of c.args.lists.now) c.requires c.data_blocks.result c.spare_room-room.result c.data_blocks.ensures.count c.spare_room-room.ensures.room c.args.capacity c.if-capacity-present.true

pub returns-then-capacity-eq0 : goal.returns-then-capacity-eq0
returns-then-capacity-eq0 c = elim c.then-capacity-eq0.branch [
  | then-capacity-eq0-via-then-capacity-eq0 w ↦
      none_left c.args.geometry.now (lists_of c.args.lists.now) c.requires c.data_blocks.result c.spare_room-room.result c.data_blocks.ensures.count c.spare_room-room.ensures.room c.args.capacity w.if-capacity-eq0.true
  | then-capacity-eq0-via-else-capacity-eq0+then-capacity-ne0 w ↦
      not_whole c.args.geometry.now (lists_of c.args.lists.now) c.requires c.data_blocks.result c.spare_room-room.result c.data_blocks.ensures.count c.spare_room-room.ensures.room c.args.capacity w.if-capacity-ne0.true
  | then-capacity-eq0-via-else-capacity-eq0+else-capacity-ne0+then-present-capacity w ↦
      too_large c.args.geometry.now (lists_of c.args.lists.now) c.requires c.data_blocks.result c.spare_room-room.result c.data_blocks.ensures.count c.spare_room-room.ensures.room c.args.capacity w.if-present-capacity.true
]

pub area_for-requires : goal.area_for-requires
area_for-requires c =
    let within = area_within c.args.geometry.now (lists_of c.args.lists.now) c.requires c.data_blocks.result c.spare_room-room.result c.data_blocks.ensures.count c.spare_room-room.ensures.room in
    let most = c.if-present-capacity.false in
    let logical = c.requires.together.secondary.area.some_logical in
    omega (arith, within, most, logical, room_grows c.args.geometry.now (lists_of c.args.lists.now).sdl.ssa, c.data_blocks.ensures.count, c.spare_room-room.ensures.room)

pub returns-then-most_spares-room : goal.returns-then-most_spares-room
returns-then-most_spares-room c =
    too_many_spares c.args.geometry.now (lists_of c.args.lists.now) c.requires c.data_blocks.result c.spare_room-room.result c.data_blocks.ensures.count c.spare_room-room.ensures.room c.args.capacity
    c.area_for.result c.most_spares.result c.area_for.ensures.area c.most_spares.ensures.most (let more = c.if-most_spares-room.true in omega (arith, more, c.spare_room-room.ensures.room))

pub returns : goal.returns
returns c =
    is_smaller c.args.geometry.now (lists_of c.args.lists.now) c.requires c.data_blocks.result c.spare_room-room.result c.data_blocks.ensures.count c.spare_room-room.ensures.room c.args.capacity
    (c.may_grow.ensures.0 c.if-not-may_grow.false) c.area_for.result c.most_spares.result (let some = c.if-capacity-eq0.false in omega (arith, some)) c.if-capacity-ne0.false c.if-present-capacity.false c.if-capacity-present.false
    c.area_for.ensures.area c.most_spares.ensures.most (let most = c.if-most_spares-room.false in omega (arith, most, c.spare_room-room.ensures.room))

pub returns-then-not-may_grow : goal.returns-then-not-may_grow
returns-then-not-may_grow c =
    cannot_grow c.args.geometry.now (lists_of c.args.lists.now) c.requires c.data_blocks.result c.spare_room-room.result c.data_blocks.ensures.count c.spare_room-room.ensures.room c.args.capacity
    c.may_grow.result c.may_grow.ensures c.if-not-may_grow.true c.if-capacity-present.false
