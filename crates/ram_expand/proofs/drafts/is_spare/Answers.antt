use Rattle.std.proofs.Common.{sym}
use Rattle.std.proofs.lemmas.Bool.{false_from_ne_true}
use Rattle.model_pools.specs.Listed.{is_listed}
use Rattle.model_pools.specs.Pools.{spares_in}
use Rattle.model_places.specs.Places.{pools_of}
use Rattle.model_pools.proofs.Listed.{Decides-is_listed}
use Rattle.ram_dds.specs.Dds.{dds_of}
use Rattle.model_geometry.proofs.DataBlocks.{Contains-slice_get}
use Rattle.ram_expand.proofs.drafts.is_spare.Goals as goal

pub returns-in-None : goal.returns-in-None
returns-in-None c =
    let listed = spares_in (pools_of c.args.geometry.now (dds_of c.args.dds.now) c.args.ssa) in
    sym (false_from_ne_true (is_listed listed c.args.block) (λ t. c.in-None.ensures ((Decides-is_listed listed c.args.block).0 t)))

pub returns-in-Some : goal.returns-in-Some
returns-in-Some c =
    let listed = spares_in (pools_of c.args.geometry.now (dds_of c.args.dds.now) c.args.ssa) in
    sym ((Decides-is_listed listed c.args.block).1 (Contains-slice_get listed c.in-Some.field-0 c.args.block c.in-Some.ensures))
