-- That a volume over the medium in an image lies in bytes that have its cells, and that its events change them by their
-- rules: for the law of drives. (This project's own,
-- as all here.)
use Rattle.std.specs.Prelude.{◌≡◌, ℕ, false, Option, None, Some, is_some, IsSome, MatchOption, List, [], ◌∷◌}
use Rattle.std.specs.Option.{ForSome}
use Rattle.std.proofs.Common.{refl, ap, ◌∙◌, subst}
use Rattle.std.proofs.lemmas.Bool.{false≢true}
use Rattle.model_geometry.specs.Geometry.{Shape, IsLawful, label_of, total}
use Rattle.model_medium.specs.Machine.{Machine}
use Rattle.model_medium.specs.Exact.{Event}
use Rattle.model_medium.specs.Happened.{IsEventOf, Happens, Happened}
use Rattle.model_image.specs.Cells.{cells_known}
use Rattle.model_image.specs.Image.{IsDiscImage, IsImageOf}
use Rattle.model_image.proofs.Headers.{image_by_label}
use Rattle.ram_outside.specs.declared.image.Image.{Ghosts as Images}
use Rattle.ram_image.specs.EventBytes.{BytesAt}
use Rattle.ram_image.specs.Medium.{shape_of_medium, machine_in, bytes_in, ImageTakes}
use Rattle.ram_image.specs.declared.medium.ImageMedium.{ImageMedium}
use Rattle.ram_medium.specs.Laws.{machine_shown}
use Rattle.ram_medium.specs.declared.blocks.Medium.{Ghosts}
use Rattle.ram_medium.specs.declared.control.MediumControl.{Ghosts as ControlGhosts}
use Rattle.ram_volume.specs.Drives.{shown_by, medium_by}
use Rattle.ram_states.specs.Shown.{medium_under}
use Rattle.ram_volume.specs.Volume.{state_in, shown_in}
use Rattle.ram_states.specs.declared.states.State.{State as VolumeState}
use Rattle.ram_states.specs.declared.states.State.TheVariants as states
use Rattle.ram_volume.specs.declared.volume.Volume.{Volume}
use Rattle.ram_machine.specs.Underwent.{InImage, DoesInImage, UnderwentEvents}
use Rattle.ram_machine.specs.Drive.{HasCells}

-- the bytes that a medium lies in have its cells
cells_there : (geometry : Shape) (o : Option (List ℕ)) → ForSome o (IsDiscImage geometry)
    → MatchOption o (is_some o ≡ false) (λ bytes. (shape : Shape) → label_of geometry ≡ label_of shape → IsLawful shape → IsImageOf shape (cells_known (total geometry) o) bytes)
cells_there geometry None disc = refl
cells_there geometry (Some bytes) disc = λ shape label lawful. image_by_label geometry shape bytes label lawful (disc bytes refl)

-- and those of what the drive shows
pub has_cells : {I : Type 0} {d : Images I} (medium : ImageMedium I d) (machine : Machine) → machine_in medium ≡ machine → HasCells machine.world (bytes_in medium)
has_cells {d = d} medium machine is = subst (λ (m : Machine). HasCells m.world (bytes_in medium)) is (cells_there medium.geometry (d.bytes medium.image) medium.disc)

module _ {I : Type 0} {d : Images I} where
  -- a medium with the bytes of its image
  abbrev lying : ImageMedium I d → InImage
  lying medium = record { machine = machine_in medium; bytes = bytes_in medium }

  does : (old mid new : ImageMedium I d) (event : Event) → shape_of_medium mid ≡ shape_of_medium old → ImageTakes mid new event
      → DoesInImage (total (shape_of_medium old)) (lying mid) (lying new) event
  does old mid new event same took = record {
    lawful = subst (λ (s : Shape). IsEventOf (total s) event) same took.lawful;
    exactly = took.exactly;
    bytes = subst (λ (s : Shape). BytesAt (machine_in mid) (total s) (bytes_in mid) (bytes_in new) event) same took.bytes;
  }

  each_does : (old new : ImageMedium I d) (events : List Event) → Happens ImageTakes old events new
      → Happens (DoesInImage (total (shape_of_medium old))) (lying old) events (lying new) × (shape_of_medium new ≡ shape_of_medium old)
  each_does old new [] same = (ap (λ (m : ImageMedium I d). lying m) same, ap (λ (m : ImageMedium I d). shape_of_medium m) same)
  each_does old new (event ∷ events) did =
      let before = each_does old did.0 events did.1 in
      ((lying did.0, before.0, does old did.0 new event before.1 did.2), did.2.same_shape ∙ before.1)

  -- its events change the bytes that it lies in by their rules
  pub by_events : (old new : ImageMedium I d) (first last : Machine) (blocks : ℕ) → machine_in old ≡ first → machine_in new ≡ last
      → total (shape_of_medium old) ≡ blocks → Happened ImageTakes old new → UnderwentEvents blocks first (bytes_in old) last (bytes_in new)
  by_events old new first last blocks first_is last_is blocks_are happened =
      subst (λ (n : ℕ). UnderwentEvents n first (bytes_in old) last (bytes_in new)) blocks_are
      (subst (λ (m : Machine). UnderwentEvents (total (shape_of_medium old)) first (bytes_in old) m (bytes_in new)) last_is
      (subst (λ (m : Machine). UnderwentEvents (total (shape_of_medium old)) m (bytes_in old) (machine_in new) (bytes_in new)) first_is
      (happened.0, (each_does old new happened.0 happened.1).0)))

module _ {M : Type 0} {c : ControlGhosts M} {d : Ghosts M} where
  -- a drive's medium has as many blocks as its geometry says
  held_blocks : (held : Option (VolumeState M c d)) (some : IsSome held) → d.block_count (medium_under (state_in held some)) ≡ total (shown_in held some).shape
  held_blocks None none = absurd (false≢true none)
  held_blocks (Some (states.Off off)) some = off.size
  held_blocks (Some (states.Ready ready)) some = ready.size
  held_blocks (Some (states.NotFormatted bare)) some = bare.size

  pub has_blocks : (volume : Volume M c d) → d.block_count (medium_by volume) ≡ total (shown_by volume).shape
  has_blocks volume = held_blocks volume.state volume.held

  -- a drive shows its medium
  held_medium : (held : Option (VolumeState M c d)) (some : IsSome held) → machine_shown d.world c.arms c.armed_cut (medium_under (state_in held some)) ≡ (shown_in held some).medium
  held_medium None none = absurd (false≢true none)
  held_medium (Some (states.Off off)) some = refl
  held_medium (Some (states.Ready ready)) some = refl
  held_medium (Some (states.NotFormatted bare)) some = refl

  pub shown_medium : (volume : Volume M c d) → machine_shown d.world c.arms c.armed_cut (medium_by volume) ≡ (shown_by volume).medium
  shown_medium volume = held_medium volume.state volume.held
