use Rattle.std.proofs.Common.{refl, sym, ap, ◌∙◌, subst}
use Rattle.model_geometry.specs.declared.kinds.LayoutKind.{LayoutKind}
use Rattle.model_geometry.specs.declared.kinds.LayoutKind.TheVariants.{OneGroup}
use Rattle.model_geometry.specs.Geometry.{Shape}
use Rattle.model_drive.specs.Faults.{faults}
use Rattle.ram_image.specs.Opening.{IsRefused}
use Rattle.ram_side.specs.Side.{OpensSide}
use Rattle.ram_pair.proofs.OpenedPairs.{same_geometry, other_geometry, made_of, handed_back, one_group, unlike, refused_b, counts_b}
use Rattle.ram_pair.proofs.held.open_second.Goals as goal

pub returns-in-Ok-clause-opens : goal.returns-in-Ok-clause-opens
returns-in-Ok-clause-opens g c a first kind =
    let alike = same_geometry c.in-Ok.same c.args.geometry _ (c.in-Ok.ensures.kind_is ∙ kind ∙ sym first.kind_is) (sym c.eq.ensures ∙ c.if-eq.true) in
    made_of g.S.Sectors g.S.Side.lies_in g.S.Side.has_failed g.S.Image.Image a c.args.image c.args.geometry c.new.result c.args.side c.in-Ok.other c.new.ensures first
    (subst (λ (z : Shape). OpensSide OneGroup (g.S.Image.Image.bytes c.args.image) (g.S.Image.Image.faults c.args.image) z (g.S.Sectors.shows c.in-Ok.other) (g.S.Sectors.stands c.in-Ok.other) (g.S.Side.lies_in c.in-Ok.other) (g.S.Side.has_failed c.in-Ok.other)) alike
    (subst (λ (k : LayoutKind). OpensSide k (g.S.Image.Image.bytes c.args.image) (g.S.Image.Image.faults c.args.image) c.in-Ok.same (g.S.Sectors.shows c.in-Ok.other) (g.S.Sectors.stands c.in-Ok.other) (g.S.Side.lies_in c.in-Ok.other) (g.S.Side.has_failed c.in-Ok.other)) kind c.in-Ok.ensures))

pub returns-in-Ok-clause-count : goal.returns-in-Ok-clause-count
returns-in-Ok-clause-count g c a first = (ap (λ (z : g.row.S.Denot). faults (g.S.Sectors.shows z)) c.new.ensures.a_is ∙ first, ap (λ (z : g.row.S.Denot). faults (g.S.Sectors.shows z)) c.new.ensures.b_is ∙ c.in-Ok.ensures.count_is)

pub returns-in-Ok-2-clause-opens : goal.returns-in-Ok-2-clause-opens
returns-in-Ok-2-clause-opens g c a first kind =
    let second : OpensSide OneGroup (g.S.Image.Image.bytes c.args.image) (g.S.Image.Image.faults c.args.image) c.in-Ok.same (g.S.Sectors.shows c.in-Ok.other) (g.S.Sectors.stands c.in-Ok.other) (g.S.Side.lies_in c.in-Ok.other) (g.S.Side.has_failed c.in-Ok.other) =
    subst (λ (k : LayoutKind). OpensSide k (g.S.Image.Image.bytes c.args.image) (g.S.Image.Image.faults c.args.image) c.in-Ok.same (g.S.Sectors.shows c.in-Ok.other) (g.S.Sectors.stands c.in-Ok.other) (g.S.Side.lies_in c.in-Ok.other) (g.S.Side.has_failed c.in-Ok.other)) kind c.in-Ok.ensures in
    let differ = other_geometry c.in-Ok.same c.args.geometry _ (rw (second.kind_is, first.kind_is) refl) (sym c.eq.ensures ∙ c.if-eq.false) in (
      unlike g.S.Sectors g.S.Side.lies_in g.S.Side.has_failed g.S.Image.Image a c.args.image c.into_parts-a.result.0 c.into_parts-b.result.0 c.args.geometry c.in-Ok.same c.args.side c.in-Ok.other differ first second
          (handed_back g.S.Sectors g.S.Side.lies_in g.S.Side.has_failed g.S.Image.Image a c.into_parts-a.result.0 c.args.geometry c.args.side first c.into_parts-a.ensures.bytes c.into_parts-a.ensures.count)
          (handed_back g.S.Sectors g.S.Side.lies_in g.S.Side.has_failed g.S.Image.Image c.args.image c.into_parts-b.result.0 c.in-Ok.same c.in-Ok.other second c.into_parts-b.ensures.bytes c.into_parts-b.ensures.count),
      record {
        a = one_group g.S.Sectors g.S.Side.lies_in g.S.Side.has_failed g.S.Image.Image a c.args.geometry c.args.side c.into_parts-a.result.1.kind first c.into_parts-a.ensures.kind;
        b = one_group g.S.Sectors g.S.Side.lies_in g.S.Side.has_failed g.S.Image.Image c.args.image c.in-Ok.same c.in-Ok.other c.into_parts-b.result.1.kind second c.into_parts-b.ensures.kind;
      },
    )

pub returns-in-Ok-2-clause-count : goal.returns-in-Ok-2-clause-count
returns-in-Ok-2-clause-count g c a first = (c.into_parts-a.ensures.count ∙ first, c.into_parts-b.ensures.count ∙ c.in-Ok.ensures.count_is)

pub returns-in-Err-clause-opens : goal.returns-in-Err-clause-opens
returns-in-Err-clause-opens g c a first kind =
    refused_b g.S.Sectors g.S.Side.lies_in g.S.Image.Image a c.args.image c.into_parts-a-in-Err.result.0 c.in-Err.field-0.image _
    (record {
      a = one_group g.S.Sectors g.S.Side.lies_in g.S.Side.has_failed g.S.Image.Image a c.args.geometry c.args.side c.into_parts-a-in-Err.result.1.kind first c.into_parts-a-in-Err.ensures.kind;
      b = c.in-Err.ensures.0 ∙ kind;
    })
    c.refuse.result c.in-Err.field-0.fault
    (subst (λ (k : LayoutKind). IsRefused k (g.S.Image.Image.bytes c.args.image) (g.S.Image.Image.bytes c.in-Err.field-0.image) (g.S.Image.Image.faults c.args.image) (g.S.Image.Image.faults c.in-Err.field-0.image) c.in-Err.field-0.fault) kind c.in-Err.ensures.1)
    (handed_back g.S.Sectors g.S.Side.lies_in g.S.Side.has_failed g.S.Image.Image a c.into_parts-a-in-Err.result.0 c.args.geometry c.args.side first c.into_parts-a-in-Err.ensures.bytes c.into_parts-a-in-Err.ensures.count)
    c.refuse.ensures

pub returns-in-Err-clause-count : goal.returns-in-Err-clause-count
returns-in-Err-clause-count g c a first =
    counts_b g.S.Sectors g.S.Side.lies_in g.S.Image.Image c.args.rooms.kind a c.args.image c.into_parts-a-in-Err.result.0 c.in-Err.field-0.image _ c.refuse.result c.in-Err.field-0.fault c.in-Err.ensures.1 (c.into_parts-a-in-Err.ensures.count ∙ first) c.refuse.ensures
