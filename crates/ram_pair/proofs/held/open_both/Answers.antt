use Rattle.std.proofs.Common.{refl, ◌∙◌, subst}
use Rattle.model_geometry.specs.declared.kinds.LayoutKind.{LayoutKind}
use Rattle.ram_image.specs.Opening.{IsRefused}
use Rattle.ram_side.specs.Side.{OpensSide}
use Rattle.ram_pair.proofs.OpenedPairs.{refused_a, counts_a}
use Rattle.ram_pair.proofs.held.open_both.Goals as goal

pub returns-in-Ok-clause-opens : goal.returns-in-Ok-clause-opens
returns-in-Ok-clause-opens g c kind =
    c.open_second.ensures.opens c.args.a
    (subst (λ (k : LayoutKind). OpensSide k (g.S.Image.Image.bytes c.args.a) (g.S.Image.Image.faults c.args.a) c.in-Ok.geometry (g.S.Sectors.shows c.in-Ok.side) (g.S.Sectors.stands c.in-Ok.side) (g.S.Side.lies_in c.in-Ok.side) (g.S.Side.has_failed c.in-Ok.side)) kind.a c.in-Ok.ensures)
    kind.b

pub returns-in-Ok-clause-count : goal.returns-in-Ok-clause-count
returns-in-Ok-clause-count g c = c.open_second.ensures.count c.args.a c.in-Ok.ensures.count_is

pub returns-in-Err-clause-opens : goal.returns-in-Err-clause-opens
returns-in-Err-clause-opens g c kind =
    refused_a g.S.Sectors g.S.Side.lies_in g.S.Image.Image c.args.a c.args.b c.in-Err.field-0.image c.args.b _ (record { a = c.in-Err.ensures.0 ∙ kind.a; b = kind.b }) c.refuse.result c.in-Err.field-0.fault
    (subst (λ (k : LayoutKind). IsRefused k (g.S.Image.Image.bytes c.args.a) (g.S.Image.Image.bytes c.in-Err.field-0.image) (g.S.Image.Image.faults c.args.a) (g.S.Image.Image.faults c.in-Err.field-0.image) c.in-Err.field-0.fault) kind.a c.in-Err.ensures.1)
    (record { bytes = refl; count = refl })
    c.refuse.ensures

pub returns-in-Err-clause-count : goal.returns-in-Err-clause-count
returns-in-Err-clause-count g c =
    counts_a g.S.Sectors g.S.Side.lies_in g.S.Image.Image c.args.rooms.a.kind c.args.a c.args.b c.in-Err.field-0.image c.args.b _ c.refuse.result c.in-Err.field-0.fault c.in-Err.ensures.1 refl c.refuse.ensures
