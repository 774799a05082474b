use Rattle.std.proofs.Common.{◌∙◌, sym, ap}
use Rattle.model_places.specs.Places.{zone_first}
use Rattle.ram_groups.proofs.Cutting.{logical_many, cut_lawful}
use Rattle.ram_groups.proofs.Tables.{zones_are, first_of, zoned_by, cut_by}
use Rattle.ram_groups.proofs.zone_layout.ZoneLayoutLayout.logical.Goals as goal

pub returns-clause-count : goal.returns-clause-count
returns-clause-count c =
    let table = c.args.self.now in
    let inside = c.self.inside in
    c.zone_first.ensures.first
    ∙ ap (zone_first inside.geometry) c.zones.ensures
    ∙ ap (zone_first inside.geometry) (zones_are inside table c.self.view_is c.self.invariant)
    ∙ first_of inside table c.self.view_is c.self.invariant table.shape.zones
    ∙ sym (logical_many table.shape table.blocks table.starts (zoned_by inside table c.self.view_is c.self.invariant) (cut_by inside table c.self.view_is c.self.invariant))

pub returns-clause-lawful : goal.returns-clause-lawful
returns-clause-lawful c =
    let table = c.args.self.now in
    let inside = c.self.inside in
    cut_lawful table.shape table.blocks table.starts (zoned_by inside table c.self.view_is c.self.invariant) (cut_by inside table c.self.view_is c.self.invariant)
