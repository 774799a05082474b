-- The first `power` of a run over a checked image: nothing is armed, so no cell turns dead and no cut comes.
use Rattle.std.specs.Prelude.{◌≡◌, ℕ, ◌+◌, ◌⊎◌, Some, None, Err, List, []}
use Rattle.std.proofs.Common.{refl, sym, ap, ◌∙◌, inl, inr, subst, arith}
use Rattle.model_geometry.specs.Geometry.{Shape, total}
use Rattle.model_medium.specs.Cells.{Cell, Dead, cell_at}
use Rattle.model_medium.specs.Machine.{Machine}
use Rattle.model_medium.specs.Reach.{Reach}
use Rattle.model_image.specs.Cells.{cells_of}
use Rattle.model_image.specs.Image.{IsDiscImage}
use Rattle.model_sectors.specs.declared.PowerOut.{PowerOut}
use Rattle.model_sectors.specs.declared.PowerOut.TheVariants as powers
use Rattle.model_places.specs.Places.{Lists, capacity_of}
use Rattle.model_drive.specs.Shown.{Shown, cells_in}
use Rattle.model_drive.specs.Parts.{IsStopped}
use Rattle.model_drive.specs.Power.{turned_on, PowerCause}
use Rattle.model_drive.specs.Repairs.{mount_most}
use Rattle.model_drive.specs.Runs.{opened_drive}
use Rattle.model_stops.specs.declared.Stop.TheVariants as stops
use Rattle.model_cache.specs.Shown.{CacheShown}
use Rattle.model_audit.specs.declared.lines.CertificateLine.{CertificateLine}
use Rattle.model_audit.specs.Certificate.{in_kind, IsCertificate}
use Rattle.model_audit.specs.Reading.{lists_in, NoneDies}
use Rattle.model_audit.proofs.Mounting.{alive_mounts}
use Rattle.ram_audit.specs.Discs.{AreCertificateOf}
use Rattle.ram_report.specs.declared.printing.Event.TheVariants as events
use Rattle.ram_text.specs.declared.script.Line.TheVariants as lines
use Rattle.ram_machine.specs.declared.stopped.Stopped.TheVariants as stopped
use Rattle.ram_machine.specs.Replies.{Outcome, event, power_outcome}
use Rattle.ram_machine.specs.States.{State, Served, Unopened, Disc, IsFirst, kind_of}
use Rattle.ram_machine.specs.LineSteps.{Step, DiscStep}
use Rattle.ram_certificate.specs.NextRun.{MountsOrFails}
use Rattle.ram_certificate.proofs.OneKind.{certifies_here, disc_of_kind}

module _ (shape : Shape) (cells : List Cell) (faults : ℕ) (new : Shown) where
  -- the drive as its image was opened
  abbrev before : Shown
  before = opened_drive shape cells faults

  -- no cut came
  same_cuts : (k : ℕ) → Reach (turned_on before).medium new.medium k → new.medium.world.cuts ≡ 0
  same_cuts k reach = elim reach.ends [ inl none ↦ none.0.no_cut | inr came ↦ absurd came.1 ]

  -- no cell turned dead
  none_dies : (k : ℕ) → Reach (turned_on before).medium new.medium k → NoneDies cells (cells_in new)
  none_dies k reach block dead = elim (reach.dies_by_arm block dead) [ inl was ↦ was | inr worn ↦ absurd worn ]

  not_cut : IsStopped (turned_on before) new mount_most stops.Cut → ⊥
  not_cut stopped =
      let same = same_cuts stopped.stops.uses stopped.stops.reach in
      let one = stopped.stops.cut.one_cut in
      omega (arith, same, one)

  module _ (told : List CertificateLine) (lists : Lists) (same : new.shape ≡ shape) (is : IsCertificate shape cells told)
      (says : lists_in told ≡ Some lists) (kind : lists.dds.layout ≡ shape.layout) where
    -- the mount is ready with the lists that are told, or was stopped by a fault
    pub opened_mounts : (out : PowerOut) → PowerCause before new out
        → ((new.lists ≡ Some lists) × (out ≡ powers.Ready (capacity_of shape lists))) ⊎ (out ≡ powers.Fault)
    opened_mounts (powers.Ready known) cause =
        inl (alive_mounts before new told lists (powers.Ready known) refl same is says kind cause (none_dies _ cause.ends.reach) (λ e. cc) (λ e. cc))
    opened_mounts powers.NotFormatted cause =
        inl (alive_mounts before new told lists powers.NotFormatted refl same is says kind cause (none_dies _ cause.ends.reach) (λ e. cc) (λ e. cc))
    opened_mounts powers.Cut cause = absurd (not_cut cause.stopped)
    opened_mounts powers.Fault cause = inr refl

module _ (held : List ℕ) (told : List CertificateLine) (lists : Lists) (are : AreCertificateOf held told) (says : lists_in told ≡ Some lists) where
  mounts_in : (s t : Served) (payload data_in : List ℕ) (outcome : Outcome) → IsFirst held (Disc s) → s.disc.shown.drive.shape.layout ≡ lists.dds.layout
      → DiscStep s t lines.Power payload outcome data_in → MountsOrFails lists (Disc t) outcome
  mounts_in s t payload data_in outcome (shape, disc, inserted) kind step =
      let cells = cells_of (total shape) held in
      let faults = inserted.opened.faults in
      let drive : s.disc.shown.drive ≡ opened_drive shape cells faults = ap (λ (c : CacheShown). c.drive) inserted.opened.shown_is in
      let new = t.disc.shown.drive in
      let out = step.rule.0.out in
      let is = step.rule.0.outcome_is in
      let cause : PowerCause (opened_drive shape cells faults) new out = subst (λ (d : Shown). PowerCause d new out) drive step.rule.0.powered.cause.0 in
      let here : s.disc.shown.drive.shape ≡ shape = ap (λ (d : Shown). d.shape) drive in
      let same = step.same_shape ∙ here in
      let named = sym kind ∙ ap (λ (a : Shape). a.layout) here in
      elim (opened_mounts shape cells faults new told lists same (certifies_here held told are shape disc) says named out cause) [
        | inl ready ↦ inl (ready.0, is ∙ ap power_outcome ready.1 ∙ ap (λ (a : Shape). event (events.Ready (capacity_of a lists))) (sym same))
        | inr fault ↦ inr (is ∙ ap power_outcome fault)
      ]

  pub checked_mounts : (s t : State) (payload data_in : List ℕ) (outcome : Outcome) → IsFirst held s → kind_of s ≡ lists.dds.layout
      → Step s lines.Power payload outcome data_in t → MountsOrFails lists t outcome
  checked_mounts (Unopened image) t payload data_in outcome first kind step =
      absurd (first.1 (in_kind lists.dds.layout are.shape) (sym kind) (disc_of_kind held told are lists says))
  checked_mounts (Disc s) (Unopened image) payload data_in outcome first kind step = absurd step
  checked_mounts (Disc s) (Disc t) payload data_in outcome first kind step = mounts_in s t payload data_in outcome first kind step
