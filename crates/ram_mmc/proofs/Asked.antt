-- The features that are asked for, one after another, and what the counts of a disc tell of them.
use Rattle.std.specs.Prelude.{◌≡◌, ◌↔◌, ℕ, Bool, true, false, IsTrue, IsSome, is_some, if◌then◌else◌, Option, Some, None, List, [], ◌∷◌, ◌++◌}
use Rattle.std.specs.List.{filter, flat_map}
use Rattle.std.proofs.Common.{rules, refl, ap, append_assoc, append-nil}
use Rattle.model_places.specs.Places.{Lists}
use Rattle.model_drive.specs.declared.DriveCounts.{DriveCounts}
use Rattle.model_drive.specs.Shown.{Shown, IsOn}
use Rattle.model_drive.specs.Tells.{CountsRule}
use Rattle.model_target.specs.Replies.{Feature, is_asked, feature_bytes, features_asked, configuration_reply}
use Rattle.model_target.specs.Steps.{configuration_told}
use Rattle.ram_mmc.specs.Looks.{feature_told}

one_told : (asked : Bool) (one : Feature) (rest : List Feature) (told : List ℕ) → flat_map feature_bytes rest ≡ told
    → flat_map feature_bytes (if asked then one ∷ rest else rest) ≡ (if asked then feature_bytes one else []) ++ told
one_told true one rest told is = ap (λ (l : List ℕ). feature_bytes one ++ l) is
one_told false one rest told is = is

-- of each feature its bytes are told where it is asked for, and nothing where it is not
pub asked_told : (kind first : ℕ) (all : List Feature) → features_asked kind first all ≡ flat_map (feature_told kind first) all
asked_told kind first [] = refl
asked_told kind first (one ∷ rest) =
    one_told (is_asked kind first one) one (filter (is_asked kind first) rest) (flat_map (feature_told kind first) rest) (asked_told kind first rest)

-- nine pieces, one put behind another
pub nine_put : (old a b c d e f g h i : List ℕ)
    → ((((((((old ++ a) ++ b) ++ c) ++ d) ++ e) ++ f) ++ g) ++ h) ++ i ≡ old ++ (a ++ (b ++ (c ++ (d ++ (e ++ (f ++ (g ++ (h ++ (i ++ [])))))))))
nine_put old a b c d e f g h i = search (rules, append_assoc, append-nil)

-- a test that says whether there is something says so of it
told_some : (On : Type 0) (formatted : Bool) (lists : Option Lists) → On → (IsTrue formatted ↔ (On × IsSome lists)) → formatted ≡ is_some lists
told_some On true (Some lists) on is = refl
told_some On true None on is = search (rules, is, on)
told_some On false (Some lists) on is = search (rules, is, on)
told_some On false None on is = refl

-- the features by the counts of a disc are those of the disc
pub counted_features : (kind first : ℕ) (out : Bool) (shown : Shown) (counts : DriveCounts) → IsOn shown → CountsRule shown counts
    → configuration_reply kind first out counts.formatted counts.capacity ≡ configuration_told kind first out shown
counted_features kind first out shown counts on rule =
    rw (told_some (IsOn shown) counts.formatted shown.lists on rule.formatted, rule.capacity_is) refl
