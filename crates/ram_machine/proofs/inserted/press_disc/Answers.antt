use Rattle.std.proofs.Common.{◌≡◌, sym, ap, ◌∙◌, subst}
use Rattle.model_bytes.specs.Known.{WhereKnown}
use Rattle.model_geometry.specs.declared.kinds.LayoutKind.{LayoutKind}
use Rattle.model_geometry.specs.Geometry.{Shape, IsLawful, shape_in}
use Rattle.model_image.specs.Image.{PressesImage}
use Rattle.ram_image.specs.Opening.{IsRefused}
use Rattle.ram_machine.specs.Drive.{IsOpenedBy}
use Rattle.ram_machine.specs.States.{kind_of}
use Rattle.ram_machine.proofs.Opens.{press_stopped, press_opened, press_refused}
use Rattle.ram_machine.proofs.inserted.press_disc.Goals as goal

pub returns-in-Failed-clause-step : goal.returns-in-Failed-clause-step
returns-in-Failed-clause-step g c s h =
    let its : c.kind-kind.result ≡ kind_of s = c.kind-kind.ensures s h in
    let same : c.in-Some.geometry ≡ shape_in (kind_of s) c.args.wanted.0 c.args.wanted.1 c.args.wanted.2 =
    c.in-Some.ensures.0 ∙ ap (λ (k : LayoutKind). shape_in k c.args.wanted.0 c.args.wanted.1 c.args.wanted.2) its in
    let lawful : IsLawful (shape_in (kind_of s) c.args.wanted.0 c.args.wanted.1 c.args.wanted.2) = subst (λ (z : Shape). IsLawful z) same c.in-Some.ensures.1 in
    press_stopped g.D.Caching g.D.Drive.lies_in g.D.Image.Image s c.kind-kind.result (shape_in (kind_of s) c.args.wanted.0 c.args.wanted.1 c.args.wanted.2) (sym its) its lawful
    (g.D.Image.Image.bytes c.into_parts-image.result.0) c.press.new.image c.into_parts-image.result.1 (c.into_parts-image.ensures.kind s h ∙ sym its) (c.into_parts-image.ensures.left s h) c.in-Failed.ensures.0

pub returns-in-Ok-clause-step : goal.returns-in-Ok-clause-step
returns-in-Ok-clause-step g c s h =
    let its : c.kind-kind.result ≡ kind_of s = c.kind-kind.ensures s h in
    let same : c.in-Some.geometry ≡ shape_in (kind_of s) c.args.wanted.0 c.args.wanted.1 c.args.wanted.2 =
    c.in-Some.ensures.0 ∙ ap (λ (k : LayoutKind). shape_in k c.args.wanted.0 c.args.wanted.1 c.args.wanted.2) its in
    let lawful : IsLawful (shape_in (kind_of s) c.args.wanted.0 c.args.wanted.1 c.args.wanted.2) = subst (λ (z : Shape). IsLawful z) same c.in-Some.ensures.1 in
    press_opened g.D.Caching g.D.Drive.lies_in g.D.Image.Image s c.kind-kind.result (shape_in (kind_of s) c.args.wanted.0 c.args.wanted.1 c.args.wanted.2) (sym its) its lawful
    (g.D.Image.Image.bytes c.into_parts-image.result.0) c.press.new.image (c.into_parts-image.ensures.left s h)
    (subst (λ (z : Shape). WhereKnown (g.D.Image.Image.bytes c.into_parts-image.result.0) (g.D.Image.Image.bytes c.press.new.image) (PressesImage z)) same c.in-Done.ensures.0)
    c.in-Ok.target c.in-Ok.ensures.0.host_is
    (λ bytes known. subst (λ (k : LayoutKind). IsOpenedBy k bytes (g.D.Caching.shows c.in-Ok.target.disc) (g.D.Caching.stands c.in-Ok.target.disc)) (c.into_parts-image.ensures.kind s h ∙ sym its) (c.in-Ok.ensures.0.opens.opened bytes known))
    c.in-Ok.ensures.0.opens.same_bytes c.in-Ok.scrub c.in-Ok.ensures.1

pub returns-in-Err-clause-step : goal.returns-in-Err-clause-step
returns-in-Err-clause-step g c s h =
    let its : c.kind-kind.result ≡ kind_of s = c.kind-kind.ensures s h in
    let same : c.in-Some.geometry ≡ shape_in (kind_of s) c.args.wanted.0 c.args.wanted.1 c.args.wanted.2 =
    c.in-Some.ensures.0 ∙ ap (λ (k : LayoutKind). shape_in k c.args.wanted.0 c.args.wanted.1 c.args.wanted.2) its in
    let lawful : IsLawful (shape_in (kind_of s) c.args.wanted.0 c.args.wanted.1 c.args.wanted.2) = subst (λ (z : Shape). IsLawful z) same c.in-Some.ensures.1 in
    rw c.from.ensures
    (press_refused g.D.Caching g.D.Drive.lies_in g.D.Image.Image s c.kind-kind.result (shape_in (kind_of s) c.args.wanted.0 c.args.wanted.1 c.args.wanted.2) (sym its) its lawful
    (g.D.Image.Image.bytes c.into_parts-image.result.0) c.press.new.image (c.into_parts-image.ensures.left s h)
    (subst (λ (z : Shape). WhereKnown (g.D.Image.Image.bytes c.into_parts-image.result.0) (g.D.Image.Image.bytes c.press.new.image) (PressesImage z)) same c.in-Done.ensures.0)
    c.in-Err.field-0.image c.in-Err.field-0.rooms (c.in-Err.ensures.0 ∙ c.into_parts-image.ensures.kind s h ∙ sym its) (g.D.Image.Image.faults c.press.new.image) (g.D.Image.Image.faults c.in-Err.field-0.image) c.in-Err.field-0.fault
    (subst (λ (k : LayoutKind). IsRefused k (g.D.Image.Image.bytes c.press.new.image) (g.D.Image.Image.bytes c.in-Err.field-0.image) (g.D.Image.Image.faults c.press.new.image) (g.D.Image.Image.faults c.in-Err.field-0.image) c.in-Err.field-0.fault)
    (c.into_parts-image.ensures.kind s h ∙ sym its) c.in-Err.ensures.1))
