-- The disc and the machine of a medium over an image, behind a write that ends by a fate or is stopped.
use Rattle.std.specs.Prelude.{◌≡◌, ℕ, ◌<◌, Bool, true, false, Option, Some, None, List}
use Rattle.std.specs.Option.{ForSome}
use Rattle.std.proofs.Common.{refl, sym, ap, ◌∙◌, inl, subst, get_or-set_same, get_or-set_other}
use Rattle.std.proofs.lemmas.List.FromFn.{length-map-range_with_len}
use Rattle.model_counts.specs.Counts.{Rose}
use Rattle.model_bytes.specs.Known.{WhereKnown}
use Rattle.model_geometry.specs.Geometry.{Shape, total}
use Rattle.model_medium.specs.Cells.{Cell, Dead, MayLeave, cell_at, cut_short}
use Rattle.model_medium.specs.Machine.{Machine, with_cell}
use Rattle.model_medium.specs.declared.Fate.{Fate}
use Rattle.model_medium.specs.declared.WornBlock.{WornBlock}
use Rattle.model_medium.specs.declared.ArmedCut.{ArmedCut}
use Rattle.model_image.specs.Cells.{cell_in, cells_of, cells_known}
use Rattle.model_image.specs.Image.{IsDiscImage}
use Rattle.ram_image.specs.Begun.{FailsWithin}
use Rattle.ram_image.specs.CellCalls.{StopsInLeaving, LeavesByFate}
use Rattle.ram_image.proofs.MachineParts.{machine_by, disc_sets}

module _ (shape : Shape) (block : ℕ) (bytes : List ℕ) where
  disc_then : (R : List ℕ → List ℕ → Type 0) → ((held held' : List ℕ) → R held held' → IsDiscImage shape held → IsDiscImage shape held') → (before after : Option (List ℕ)) → ForSome before (IsDiscImage shape) → WhereKnown before after R
      → ForSome after (IsDiscImage shape)
  disc_then R step None None disc known = disc
  disc_then R step None (Some held') disc known = absurd known
  disc_then R step (Some held) None disc known = absurd known
  disc_then R step (Some held) (Some held') disc known = λ x e. subst (IsDiscImage shape) (let both : Some held' ≡ Some x = e in cc) (step held held' known (disc held refl))

  -- the disc is still one of its geometry
  pub disc_after_left : (fate : Fate) (before after : Option (List ℕ)) → ForSome before (IsDiscImage shape) → WhereKnown before after (LeavesByFate (total shape) block bytes fate) → ForSome after (IsDiscImage shape)
  disc_after_left fate =
      disc_then (LeavesByFate (total shape) block bytes fate)
      (λ held held' sets disc. disc_sets shape block (cut_short fate bytes (cell_at (cells_of (total shape) held) block)) held held' disc sets)

  pub disc_after_stopped : (before after : Option (List ℕ)) → ForSome before (IsDiscImage shape) → WhereKnown before after (StopsInLeaving (total shape) block bytes) → ForSome after (IsDiscImage shape)
  disc_after_stopped = disc_then (StopsInLeaving (total shape) block bytes) (λ held held' left disc. disc_sets shape block left.stops.cell held held' disc left.stops.sets)

abbrev with_cells : List Cell → Machine → Machine
with_cells cells machine = record machine { world = record machine.world { cells = cells } }

module _ (label : List ℕ) (total block : ℕ) (bytes : List ℕ) (uses cuts f f' : ℕ) (arms : List WornBlock) (cut : Option ArmedCut) where
  -- the machine is the same with the cell that the fate leaves
  pub machine_left : (power : Bool) (fate : Fate) (before after : Option (List ℕ)) → WhereKnown before after (LeavesByFate total block bytes fate) → f' ≡ f
      → machine_by label total after power uses cuts f' arms cut ≡ with_cell block (cut_short fate bytes) (machine_by label total before power uses cuts f arms cut)
  machine_left power fate None None known count = ap (λ n. machine_by label total None power uses cuts n arms cut) count
  machine_left power fate None (Some held') known count = absurd known
  machine_left power fate (Some held) None known count = absurd known
  machine_left power fate (Some held) (Some held') known count =
      ap (λ n. machine_by label total (Some held') power uses cuts n arms cut) count
      ∙ ap (λ (cells : List Cell). with_cells cells (machine_by label total (Some held) power uses cuts f arms cut)) known.cells

  -- the image failed in it
  pub machine_stopped : (power : Bool) (before after : Option (List ℕ)) → block < total → WhereKnown before after (StopsInLeaving total block bytes) → Rose f f'
      → FailsWithin (machine_by label total before power uses cuts f arms cut) (machine_by label total after false uses cuts f' arms cut) block
      × MayLeave (cell_at (cells_known total before) block) bytes (cell_at (cells_known total after) block)
  machine_stopped power None None inside known rose = (
    record {
      turns_off = λ on. let both : false ≡ true = on in cc;
      fault = rose;
      same_label = refl;
      as_known = refl;
      uses_same = refl;
      cuts_same = refl;
      arms_same = refl;
      cut_same = refl;
      others = λ other apart. refl;
      stays_dead = λ dead. dead;
    },
    inl refl,
  )
  machine_stopped power None (Some held') inside known rose = absurd known
  machine_stopped power (Some held) None inside known rose = absurd known
  machine_stopped power (Some held) (Some held') inside known rose = (
    record {
      turns_off = λ on. let both : false ≡ true = on in cc;
      fault = rose;
      same_label = refl;
      as_known = refl;
      uses_same = refl;
      cuts_same = refl;
      arms_same = refl;
      cut_same = refl;
      others = λ other apart. ap (λ (cells : List Cell). cell_at cells other) known.stops.sets.cells ∙ get_or-set_other (cells_of total held) block other known.stops.cell Dead apart;
      stays_dead = known.stays_dead;
    },
    subst (MayLeave (cell_at (cells_of total held) block) bytes) (sym now) known.stops.may,
  )
    where
      now : cell_at (cells_of total held') block ≡ known.stops.cell
      now = ap (λ (cells : List Cell). cell_at cells block) known.stops.sets.cells
          ∙ get_or-set_same (cells_of total held) block known.stops.cell Dead (subst (λ n. block < n) (sym (length-map-range_with_len (cell_in total held) 0 total)) inside)
