-- What a choice of both lists found in an image, and why it was stopped.
use Rattle.std.specs.Prelude.{◌≡◌, ℕ, Bool, true, IsTrue, Option, Some, None, is_some, IfSome, List}
use Rattle.std.proofs.Common.{refl, sym, ap, ◌∙◌, inl, inr, subst}
use Rattle.model_counts.specs.Counts.{Rose}
use Rattle.model_geometry.specs.Geometry.{Shape, total}
use Rattle.model_medium.specs.Cells.{Cell}
use Rattle.model_medium.specs.World.{UseContinues}
use Rattle.model_stops.specs.declared.Stop.{Stop}
use Rattle.model_stops.specs.declared.Stop.TheVariants as stops
use Rattle.model_image.specs.Cells.{cells_of, cells_known}
use Rattle.model_copies.specs.Parts.{Mark}
use Rattle.model_volume.specs.Given.{ChoosesNone}
use Rattle.model_places.specs.Places as places
use Rattle.ram_outside.specs.declared.image.Image.{Ghosts}
use Rattle.ram_copies.specs.Calls.{StoppedCounts}
use Rattle.ram_copies.specs.ReadsAlone.{ReadsAlone}
use Rattle.ram_image.specs.declared.medium.ImageMedium.{ImageMedium}
use Rattle.ram_image.specs.Medium.{shape_of_medium, world_of, bytes_in, ImageTakes}
use Rattle.ram_lists.specs.Chosen.{AreChosenIn, FoundRule}
use Rattle.ram_lists.specs.declared.choosing.FoundLists.{FoundLists}
use Rattle.ram_lists.specs.declared.choosing.FoundLists.TheVariants as founds
use Rattle.ram_audit.specs.Leaving.{IsUnarmed, IsLeft, LooksOn, FailsLooking}
use Rattle.ram_audit.specs.Telling.{FindsIn, cells_in_image}
use Rattle.ram_audit.proofs.Leaving.{reads_leave}

-- what holds of cells that are known now held of those of the bytes before
known_before : (n m : ℕ) (old new : Option (List ℕ)) (P : List Cell → Type 0) → n ≡ m → new ≡ old → (is_some new ≡ true → P (cells_known n new)) → IfSome old (λ held. P (cells_of m held))
known_before n m old new P size same known = subst (λ (k : ℕ). IfSome old (λ held. P (cells_of k held))) size (by_bytes old (subst (λ (o : Option (List ℕ)). is_some o ≡ true → P (cells_known n o)) same known))
  where
    by_bytes : (o : Option (List ℕ)) → (is_some o ≡ true → P (cells_known n o)) → IfSome o (λ held. P (cells_of n held))
    by_bytes None h = tt
    by_bytes (Some held) h = h refl

module _ {I : Type 0} {d : Ghosts I} (old new : ImageMedium I d) (shape : Shape) (unarmed : IsUnarmed old) (on : IsTrue (world_of old).power) (reads : ReadsAlone ImageTakes old new) where
  pub found_here : (lists : places.Lists) (found : FoundLists) → total (shape_of_medium old) ≡ total shape → UseContinues (world_of old) (world_of new) → FoundRule shape (world_of new) lists found
      → LooksOn old new × FindsIn shape (bytes_in old) lists found
  found_here lists found size continues rule = (
    record { left = left; same_power = continues.stays_on ∙ sym on; no_fault = continues.no_fault },
    finds found rule,
  )
    where
      left : IsLeft old new
      left = (reads_leave old new unarmed reads).left

      sizes : total (shape_of_medium new) ≡ total shape
      sizes = ap total left.same_shape ∙ size

      finds : (f : FoundLists) → FoundRule shape (world_of new) lists f → FindsIn shape (bytes_in old) lists f
      finds (founds.Lists dds_area sdl_area) both = record {
        valid = both.valid;
        lawful_dds = both.lawful_dds;
        lawful_sdl = both.lawful_sdl;
        chosen = known_before (total (shape_of_medium new)) (total shape) (bytes_in old) (bytes_in new) (λ (cells : List Cell). AreChosenIn shape cells lists dds_area sdl_area) sizes left.same_bytes both.chosen;
      }
      finds (founds.Bare mark) neither =
          known_before (total (shape_of_medium new)) (total shape) (bytes_in old) (bytes_in new) (λ (cells : List Cell). ChoosesNone shape cells × Mark shape cells mark) sizes left.same_bytes
          (λ known. (neither.none known, neither.mark_is known))

  pub failed_here : (stop : Stop) → StoppedCounts (world_of old) (world_of new) stop → FailsLooking old new
  failed_here stop counts =
      let leaves = reads_leave old new unarmed reads in
      record { left = leaves.left; fault = elim leaves.ended [ inl same ↦ by_stop stop counts same.0 | inr rose ↦ rose ] }
    where
      by_stop : (s : Stop) → StoppedCounts (world_of old) (world_of new) s → (world_of new).power ≡ (world_of old).power → Rose (world_of old).faults (world_of new).faults
      by_stop stops.Cut cut same = absurd (cut.turns_off (same ∙ on))
      by_stop stops.Off off same = absurd (off.was_off on)
      by_stop stops.Fault fail same = fail.fault
