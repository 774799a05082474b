-- What each state keeps in memory is right: all that a step needs of it.
use Rattle.std.proofs.Common.{◌≡◌, ℕ, IsTrue, Option, Some, None, List, refl, ap, subst}
use Rattle.std.specs.Option.{option_map_or}
use Rattle.model_geometry.specs.Geometry.{Shape}
use Rattle.model_medium.specs.Machine.{Machine}
use Rattle.model_places.specs.Places.{Lists}
use Rattle.model_places.specs.Valid.{AreValid}
use Rattle.model_copies.specs.Parts.{AreMarkedWithin}
use Rattle.model_volume.specs.Given.{GivesNone, AreSettled}
use Rattle.model_drive.specs.Sound.{AreInUse}
use Rattle.model_drive.proofs.Powers.{KeepsRight}
use Rattle.ram_transfer.specs.Shown.{shown_without, shown_unformatted, shown_under}

-- with the power off nothing is kept
pub off_right : (shape : Shape) (machine : Machine) → ¬ IsTrue machine.world.power → KeepsRight (shown_without shape machine)
off_right shape machine off = record {
  bare = λ on none. absurd (off on);
  in_use = λ lists is. absurd (let e : None ≡ Some lists = is in cc);
}

-- lists in use are valid and settled
pub under_right : (shape : Shape) (machine : Machine) (lists : Lists) (buffer : List (ℕ × List ℕ)) → AreValid shape lists → AreSettled shape machine.world.cells lists → KeepsRight (shown_under shape machine lists buffer)
under_right shape machine lists buffer valid settled = record {
  bare = λ on none. absurd (let e : Some lists ≡ None = none in cc);
  in_use = λ others is.
      subst (AreInUse (shown_under shape machine lists buffer)) (ap (λ (o : Option Lists). option_map_or (λ (l : Lists). l) o lists) is)
      (record { valid = valid; mark_is = refl; settled = λ known. settled });
}

-- nor are lists in use where the cells give none, and no copy has a mark above the one that is kept
pub bare_right : (shape : Shape) (machine : Machine) (mark : ℕ) → GivesNone shape machine.world.cells → AreMarkedWithin shape machine.world.cells mark → KeepsRight (shown_unformatted shape machine mark)
bare_right shape machine mark none marked = record {
  bare = λ on is. record { no_buffer = refl; gives_none = λ known. none; marked = λ known. marked };
  in_use = λ lists is. absurd (let e : None ≡ Some lists = is in cc);
}
