use Rattle.std.proofs.Common.{◌↔◌, Bool, IsTrue, sym, subst}
use Rattle.ram_slip.specs.Roles.{SharesPool}
use Rattle.ram_slip.proofs.SpareAreas.{zones_tell, share_where_told}
use Rattle.ram_slip.proofs.zones.shares_pool.Goals as goal

pub returns-in-EachZone : goal.returns-in-EachZone
returns-in-EachZone c =
    let shape = c.args.geometry.now in
    subst (λ (told : Bool). IsTrue told ↔ SharesPool shape c.args.block c.args.spare) (sym c.eq.ensures)
    (share_where_told shape c.args.block c.args.spare _ (sym c.in-EachZone.ensures) (zones_tell shape c.args.block c.args.spare _ _ c.zone_of.ensures c.zone_of-in-EachZone.ensures))
