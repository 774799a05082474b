-- A drive stands for something after each call, as it did before.
use Rattle.std.proofs.Common.{◌≡◌, ℕ, false, true, List, sym, ◌∙◌, subst, length}
use Rattle.model_geometry.specs.Geometry.{Shape, total}
use Rattle.model_medium.specs.Cells.{AreWhole}
use Rattle.model_medium.specs.Machine.{Machine}
use Rattle.model_sectors.specs.Discs.{Standing, On, Off}
use Rattle.model_sectors.specs.declared.ReadOut.{ReadOut}
use Rattle.model_sectors.specs.declared.PowerOut.{PowerOut}
use Rattle.model_drive.specs.declared.WriteOut.{WriteOut}
use Rattle.model_drive.specs.declared.Kind.{Kind}
use Rattle.model_drive.specs.declared.FormatOut.{FormatOut}
use Rattle.model_drive.specs.Shown.{Shown, IsKnown, IsOn, StandsFor}
use Rattle.model_drive.specs.Runs.{Loaded, opened_drive, IsOpenedOn}
use Rattle.model_drive.specs.Reads.{ReadCause}
use Rattle.model_drive.specs.Writes.{WriteCause}
use Rattle.model_drive.specs.Power.{PowerCause}
use Rattle.model_drive.specs.Formats.{FormatCause}
use Rattle.model_drive.proofs.Found.{read_found, write_found, power_found, format_found}
use Rattle.model_drive.proofs.Kept.{read_kept, write_kept, power_kept, format_kept}
use Rattle.model_drive.proofs.Opening.{opened_disc}
use Rattle.ram_transfer.specs.Shown.{shown_without}
use Rattle.ram_transfer.specs.Writing.{WriteSteps}
use Rattle.ram_states.specs.Reading.{ReadSteps}
use Rattle.ram_states.specs.Powers.{PowerSteps}
use Rattle.ram_states.specs.Formats.{FormatSteps}
use Rattle.ram_volume.specs.Volume.{StandsForSome}

module _ (old new : Shown) where
  pub still_some : new.medium.world.known ≡ old.medium.world.known → ((s : Standing) → StandsFor old s → (t : Standing) × StandsFor new t) → StandsForSome old → StandsForSome new
  still_some same finds some known none = some (sym same ∙ known) (λ s stands. none (finds s stands).0 (finds s stands).1)

  pub read_some : (lba n : ℕ) (into : List ℕ) (out : ReadOut) → ReadCause old new lba n out → ReadSteps old new lba n into out → StandsForSome old → StandsForSome new
  read_some lba n into out cause steps =
      still_some (read_kept old new lba n out cause).as_known
      (λ s stands. let found = read_found (StandsFor new) s lba n into out (steps s stands) in (found.0, found.1))

  pub write_some : (lba n : ℕ) (from : List ℕ) (out : WriteOut) → WriteCause old new lba n out → WriteSteps old new lba n from out → StandsForSome old → StandsForSome new
  write_some lba n from out cause steps =
      still_some (write_kept old new lba n out cause).as_known
      (λ s stands. let found = write_found (StandsFor new) new s lba n from out (steps s stands) in (found.0, found.1))

  pub power_some : (out : PowerOut) → PowerCause old new out → PowerSteps old new out → StandsForSome old → StandsForSome new
  power_some out cause steps =
      still_some (power_kept old new out cause).as_known
      (λ s stands. let found = power_found (StandsFor new) new s out (steps s stands) in (found.0, found.1))

  pub format_some : (kind : Kind) (out : FormatOut) → FormatCause old new kind out → FormatSteps old new kind out → StandsForSome old → StandsForSome new
  format_some kind out cause steps =
      still_some (format_kept old new kind out cause).as_known
      (λ s stands. let found = format_found (StandsFor new) old new s kind out (steps s stands) in (found.0, found.1))

-- With its power off a drive stands for the discs of the lists that its cells give, if these are whole.
pub new_some : (shape : Shape) (machine : Machine) → ¬ IsOn (shown_without shape machine) → AreWhole machine.world.cells
    → (IsKnown (shown_without shape machine) → length machine.world.cells ≡ total shape) → StandsForSome (shown_without shape machine)
new_some shape machine off whole as_many known none = stands_off opened.0.standing (subst (λ (x : Shown). StandsFor x opened.0.standing) opened.2 opened.0.stands)
  where
    opened : (s : Loaded) × IsOpenedOn shape machine.world.cells s × (s.shown ≡ opened_drive shape machine.world.cells 0)
    opened = opened_disc shape machine.world.cells 0 (as_many known) whole

    stands_off : (s : Standing) → StandsFor (opened_drive shape machine.world.cells 0) s → ⊥
    stands_off (On disc) stands = let on : false ≡ true = stands.1 in absurd cc
    stands_off (Off discs) stands = none (Off discs) (known, off, stands.2)

-- A call that began in this state did so in what the state shows.
module _ (old begun new : Shown) (same : old ≡ begun) where
  pub read_keeps : (lba n : ℕ) (into : List ℕ) (out : ReadOut) → ReadCause begun new lba n out → ReadSteps begun new lba n into out → StandsForSome old → StandsForSome new
  read_keeps lba n into out cause steps = subst (λ (x : Shown). StandsForSome x → StandsForSome new) (sym same) (read_some begun new lba n into out cause steps)

  pub write_keeps : (lba n : ℕ) (from : List ℕ) (out : WriteOut) → WriteCause begun new lba n out → WriteSteps begun new lba n from out → StandsForSome old → StandsForSome new
  write_keeps lba n from out cause steps = subst (λ (x : Shown). StandsForSome x → StandsForSome new) (sym same) (write_some begun new lba n from out cause steps)

  pub format_keeps : (kind : Kind) (out : FormatOut) → FormatCause begun new kind out → FormatSteps begun new kind out → StandsForSome old → StandsForSome new
  format_keeps kind out cause steps = subst (λ (x : Shown). StandsForSome x → StandsForSome new) (sym same) (format_some begun new kind out cause steps)
