use Rattle.ram_layout.proofs.SlipPools.{room_to_resize, resized_by, still_whole}
use Rattle.ram_layout.proofs.slip_layout.SlipLayout.set_ssa.Goals as goal

pub overflow_sub-self-2 : goal.overflow_sub-self-2
overflow_sub-self-2 c =
    room_to_resize c.self.inside c.args.self.now c.self.view_is c.args.ssa c.requires.one c.requires.area c.data_blocks.result c.psa.result c.data_blocks.ensures.count c.psa.ensures.spares

pub invariant_of-self : goal.invariant_of-self
invariant_of-self c =
    still_whole c.self.inside c.args.self.now c.self.view_is c.args.ssa c.requires.one c.requires.area c.data_blocks.result c.psa.result c.data_blocks.ensures.count c.psa.ensures.spares
    c.self.invariant c.requires.fits

pub returns : goal.returns
returns c =
    resized_by c.self.inside c.args.self.now c.self.view_is c.args.ssa c.requires.one c.requires.area c.data_blocks.result c.psa.result c.data_blocks.ensures.count c.psa.ensures.spares
