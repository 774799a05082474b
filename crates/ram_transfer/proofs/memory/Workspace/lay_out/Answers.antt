use Rattle.std.proofs.Common.{ap, arith, length, ◌∙◌, ℕ}
use Rattle.std.proofs.lemmas.List.{length-replicate}
use Rattle.ram_lists.specs.Lists.{lists_of}
use Rattle.ram_transfer.proofs.Layouts.{few_pools, laid_out, few_replaced}
use Rattle.ram_transfer.proofs.memory.Workspace.lay_out.Goals as goal

pub reset-requires : goal.reset-requires
reset-requires c =
    omega (arith, c.pools.ensures.count, few_pools c.args.geometry.now (lists_of c.args.lists.now) c.rebuild.new.self c.requires.valid c.rebuild.ensures c.spare_room-room.ensures.lawful)

pub set_to_first_free-requires-clause-one_each : goal.set_to_first_free-requires-clause-one_each
set_to_first_free-requires-clause-one_each c = ap length c.reset.ensures ∙ length-replicate {A = ℕ} c.pools.result 0 ∙ c.pools.ensures.count

pub set_to_first_free-requires-clause-blocks_room : goal.set_to_first_free-requires-clause-blocks_room
set_to_first_free-requires-clause-blocks_room c =
    few_replaced c.args.geometry.now (lists_of c.args.lists.now) _ c.requires.valid c.args.self.now.format.found_roomy

pub returns-clause-laid_out : goal.returns-clause-laid_out
returns-clause-laid_out c =
    laid_out c.args.geometry.now (lists_of c.args.lists.now) c.rebuild.new.self c.requires.valid c.rebuild.ensures c.set_to_first_free.new.self
    (c.set_to_first_free.ensures.one_each ∙ ap length c.reset.ensures ∙ length-replicate {A = ℕ} c.pools.result 0 ∙ c.pools.ensures.count) c.set_to_first_free.ensures.fit
