use Rattle.std.proofs.Common.{◌≡◌, refl, ◌∙◌, subst}
use Rattle.model_geometry.specs.declared.kinds.LayoutKind.TheVariants.{OneGroup}
use Rattle.model_geometry.specs.Geometry.{Shape, IsLawful, shape_in}
use Rattle.ram_image.specs.declared.pressing.PressOut.TheVariants as presses
use Rattle.ram_pair.specs.Opening.{PressesBoth}
use Rattle.ram_pair.specs.Pairs.{first_faults, second_faults}
use Rattle.ram_pair.proofs.PressedPairs.{press_stopped, press_mirrored, press_holds, press_refused, same_sum, sum_rose}
use Rattle.ram_pair.proofs.held.press_both.Goals as goal

pub returns-in-Failed-clause-step : goal.returns-in-Failed-clause-step
returns-in-Failed-clause-step g c s is =
    let same : c.in-Some.geometry ≡ shape_in OneGroup c.args.wanted.0 c.args.wanted.1 c.args.wanted.2 = c.in-Some.ensures.0 in
    let lawful : IsLawful (shape_in OneGroup c.args.wanted.0 c.args.wanted.1 c.args.wanted.2) = subst (λ (z : Shape). IsLawful z) same c.in-Some.ensures.1 in
    press_stopped g.S.Sectors g.S.Side.lies_in g.S.Image.Image s (shape_in OneGroup c.args.wanted.0 c.args.wanted.1 c.args.wanted.2) refl lawful c.into_parts-a.result.0 c.into_parts-a.result.1 (c.into_parts-a.ensures.left s is) c.press_images.new.a c.press_images.new.b c.into_parts-a.result.2 (c.into_parts-a.ensures.kind s is)
    (subst (λ (z : Shape). PressesBoth g.S.Image.Image c.into_parts-a.result.0 c.into_parts-a.result.1 c.press_images.new.a c.press_images.new.b z presses.Failed) same c.in-Failed.ensures)

pub returns-in-Mirror-clause-step : goal.returns-in-Mirror-clause-step
returns-in-Mirror-clause-step g c s is =
    let same : c.in-Some.geometry ≡ shape_in OneGroup c.args.wanted.0 c.args.wanted.1 c.args.wanted.2 = c.in-Some.ensures.0 in
    let lawful : IsLawful (shape_in OneGroup c.args.wanted.0 c.args.wanted.1 c.args.wanted.2) = subst (λ (z : Shape). IsLawful z) same c.in-Some.ensures.1 in
    rw c.as_one-in-Mirror.ensures
    (press_mirrored g.S.Sectors g.S.Side.lies_in g.S.Image.Image s (shape_in OneGroup c.args.wanted.0 c.args.wanted.1 c.args.wanted.2) refl lawful c.into_parts-a.result.0 c.into_parts-a.result.1 (c.into_parts-a.ensures.left s is) c.press_images.new.a c.press_images.new.b
    (subst (λ (z : Shape). PressesBoth g.S.Image.Image c.into_parts-a.result.0 c.into_parts-a.result.1 c.press_images.new.a c.press_images.new.b z presses.Done) same c.in-Done.ensures)
    c.in-Mirror.mirror (c.in-Mirror.ensures.opens (c.into_parts-a.ensures.kind s is)))

pub returns-in-Mirror-clause-count : goal.returns-in-Mirror-clause-count
returns-in-Mirror-clause-count g c =
    rw c.as_one-in-Mirror.ensures
    (same_sum _ _ _ _ (c.in-Mirror.ensures.count.0 ∙ c.in-Done.ensures.0.1 ∙ c.into_parts-a.ensures.first) (c.in-Mirror.ensures.count.1 ∙ c.in-Done.ensures.1.1 ∙ c.into_parts-a.ensures.second))

pub returns-in-Images-clause-step : goal.returns-in-Images-clause-step
returns-in-Images-clause-step g c s is =
    let same : c.in-Some.geometry ≡ shape_in OneGroup c.args.wanted.0 c.args.wanted.1 c.args.wanted.2 = c.in-Some.ensures.0 in
    let lawful : IsLawful (shape_in OneGroup c.args.wanted.0 c.args.wanted.1 c.args.wanted.2) = subst (λ (z : Shape). IsLawful z) same c.in-Some.ensures.1 in
    press_holds g.S.Sectors g.S.Side.lies_in g.S.Image.Image s (shape_in OneGroup c.args.wanted.0 c.args.wanted.1 c.args.wanted.2) refl lawful c.into_parts-a.result.0 c.into_parts-a.result.1 (c.into_parts-a.ensures.left s is) c.press_images.new.a c.press_images.new.b
    (subst (λ (z : Shape). PressesBoth g.S.Image.Image c.into_parts-a.result.0 c.into_parts-a.result.1 c.press_images.new.a c.press_images.new.b z presses.Done) same c.in-Done.ensures)
    c.in-Images.a c.in-Images.b c.in-Images.rooms (c.in-Images.ensures.opens (c.into_parts-a.ensures.kind s is))

pub returns-in-Images-clause-count : goal.returns-in-Images-clause-count
returns-in-Images-clause-count g c = same_sum _ _ _ _ (c.in-Images.ensures.count.0 ∙ c.in-Done.ensures.0.1 ∙ c.into_parts-a.ensures.first) (c.in-Images.ensures.count.1 ∙ c.in-Done.ensures.1.1 ∙ c.into_parts-a.ensures.second)

pub returns-in-Failed-open_both-clause-step : goal.returns-in-Failed-open_both-clause-step
returns-in-Failed-open_both-clause-step g c s is =
    let same : c.in-Some.geometry ≡ shape_in OneGroup c.args.wanted.0 c.args.wanted.1 c.args.wanted.2 = c.in-Some.ensures.0 in
    let lawful : IsLawful (shape_in OneGroup c.args.wanted.0 c.args.wanted.1 c.args.wanted.2) = subst (λ (z : Shape). IsLawful z) same c.in-Some.ensures.1 in
    press_refused g.S.Sectors g.S.Side.lies_in g.S.Image.Image s (shape_in OneGroup c.args.wanted.0 c.args.wanted.1 c.args.wanted.2) refl lawful c.into_parts-a.result.0 c.into_parts-a.result.1 (c.into_parts-a.ensures.left s is) c.press_images.new.a c.press_images.new.b
    (subst (λ (z : Shape). PressesBoth g.S.Image.Image c.into_parts-a.result.0 c.into_parts-a.result.1 c.press_images.new.a c.press_images.new.b z presses.Done) same c.in-Done.ensures)
    c.in-Failed-open_both.a c.in-Failed-open_both.b c.in-Failed-open_both.rooms (c.in-Failed-open_both.ensures.opens (c.into_parts-a.ensures.kind s is))

pub returns-in-Failed-open_both-clause-count : goal.returns-in-Failed-open_both-clause-count
returns-in-Failed-open_both-clause-count g c =
    sum_rose g.S.Image.Image c.press_images.new.a c.press_images.new.b c.in-Failed-open_both.a c.in-Failed-open_both.b (first_faults g.S.Sectors g.S.Image.Image c.args.held) (second_faults g.S.Sectors g.S.Image.Image c.args.held)
    (c.in-Done.ensures.0.1 ∙ c.into_parts-a.ensures.first) (c.in-Done.ensures.1.1 ∙ c.into_parts-a.ensures.second) c.in-Failed-open_both.ensures.count
