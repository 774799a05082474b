use Rattle.std.proofs.Common.{arith}
use Rattle.ram_slip.proofs.Validity.{ssa_if_fits, ssa_too_many, none_left}
use Rattle.ram_slip.proofs.valid.is_valid_ssa.Goals as goal

pub returns-then-most_spares-room : goal.returns-then-most_spares-room
returns-then-most_spares-room c = (
  λ t. absurd (let f = t in cc),
  λ valid. absurd (ssa_too_many c.args.geometry.now c.args.version c.args.ssa c.most_spares.result c.spare_room-room.result c.most_spares.ensures.most c.spare_room-room.ensures.room c.if-most_spares-room.true valid),
)

pub returns-then-data_blocks-room : goal.returns-then-data_blocks-room
returns-then-data_blocks-room c = (
  λ t. absurd (let f = t in cc),
  λ valid. absurd (none_left c.args.geometry.now c.args.version c.args.ssa c.spare_room-room.result c.data_blocks.result c.spare_room-room.ensures.room c.data_blocks.ensures.count c.if-data_blocks-room.true valid),
)

pub returns : goal.returns
returns c =
    ssa_if_fits c.args.geometry.now c.args.version c.args.ssa c.most_spares.result c.spare_room-room.result c.data_blocks.result c.may_have.result
    c.most_spares.ensures.most c.spare_room-room.ensures.room c.data_blocks.ensures.count c.if-most_spares-room.false
    (let least = c.most_spares.ensures.least in let most = c.spare_room-room.ensures.most in omega (arith, least, most)) c.if-data_blocks-room.false c.may_have.ensures
