use Rattle.std.proofs.Common.{arith, sym, subst}
use Rattle.model_lists.specs.Values.{IsLawfulSdl}
use Rattle.model_volume.specs.Expansions.{lists_expanded}
use Rattle.model_volume.proofs.Expanding.{expanded_valid}
use Rattle.ram_sdl.specs.Sdl.{sdl_of}
use Rattle.ram_lists.specs.Lists.{lists_of}
use Rattle.ram_expand.proofs.Lawful.{valid_lawful}
use Rattle.ram_expand.proofs.Drafting.{draft_is}
use Rattle.ram_expand.proofs.drafts.draft_expanded.Goals as goal

pub returns-clause-lawful : goal.returns-clause-lawful
returns-clause-lawful c =
    let lists = lists_of c.args.lists.now in
    let is = draft_is c.args.geometry.now lists c.args.ssa (sdl_of c.copy_from.new.self) (sdl_of c.retire_spares.new.draft) c.copy_from.ensures c.retire_spares.ensures.value in
    subst IsLawfulSdl (sym is)
    (valid_lawful c.args.geometry.now c.requires.shape (lists_expanded c.args.geometry.now lists c.args.ssa)
    (expanded_valid c.args.geometry.now lists c.args.ssa c.requires.valid c.requires.area c.requires.grows) (omega (arith, c.requires.counter)) c.requires.lawful.dds_counted)
