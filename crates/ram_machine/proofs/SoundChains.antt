-- Calls of a disc one after another leave it sound, with its geometry and its cells as known as before.
use Rattle.std.specs.Prelude.{◌≡◌, Bool}
use Rattle.std.proofs.Common.{refl, ◌∙◌}
use Rattle.model_geometry.specs.Geometry.{Shape}
use Rattle.model_drive.specs.Shown.{Shown, IsKnown}
use Rattle.model_drive.specs.Sound.{IsSound}
use Rattle.model_drive.proofs.Kept.{read_kept, write_kept}
use Rattle.model_cache.specs.Values.{Contents, Has, MayHave}
use Rattle.model_cache.specs.Shown.{CacheShown, CacheStandsFor}
use Rattle.model_cache.proofs.Chained.{HoldsOfChains}

-- the cells of a drive are known whatever it stands for
pub contents_known : (shown : CacheShown) (s : Contents) → CacheStandsFor shown s → IsKnown shown.drive
contents_known shown (Has v) stands = stands.1.0
contents_known shown (MayHave all) stands = stands.1.0

-- it stays sound, and known
pub record IsWell (shape : Shape) (s : Shown) : Type 0 where
  pub sound : IsSound s
  pub known : IsKnown s
  pub same_shape : s.shape ≡ shape

abbrev pub StaysWell : Bool → Shown → Shown → Type 0
StaysWell faulted a b = IsWell a.shape a → IsWell a.shape b

pub stays_well : HoldsOfChains StaysWell
stays_well = record {
  none = λ s well. well;
  join = λ faulted a b c first then well.
      let mid = first well in
      let last = then (record { sound = mid.sound; known = mid.known; same_shape = refl }) in
      record { sound = last.sound; known = last.known; same_shape = last.same_shape ∙ mid.same_shape };
  read = λ a b lba n out leaves cause well. record { sound = leaves.sound; known = (read_kept a b lba n out cause).as_known ∙ well.known; same_shape = leaves.same_shape };
  write = λ a b lba n out leaves cause well. record { sound = leaves.sound; known = (write_kept a b lba n out cause).as_known ∙ well.known; same_shape = leaves.same_shape };
}
