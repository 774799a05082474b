-- What a run begins with and what is known after it, where source, sink and opener tell what they hold. For the main clause of the run.
-- (This project's own, as all here.)
use Rattle.std.specs.Prelude.{◌≡◌, ℕ, Bool, true, Option, None, Some, IfSome, List}
use Rattle.ram_outside.specs.Past.{Moment, HasNewest, OnlyNewestFailed}
use Rattle.ram_script.specs.Around.{Surroundings}
use Rattle.ram_script.specs.Progress.{Beginning}
use Rattle.ram_script.specs.Endings.{Aftermath, Begins, aftermath}

-- What is known of source, sink and opener is what the run begins with: the script that is left, what was written before,
-- and the image that is opened next. The opener tells what is handed back.
pub record IsBeginning {I : Type 0} (bytes_of : I → Option (List ℕ)) (first : Beginning) (before : Surroundings I)
    (returned_known : Bool) : Type 0 where
  pub image : I
  pub next_is : before.opener.next ≡ Some image
  pub begins : Begins first before.left before.written (bytes_of image)
  pub returned_known_is : returned_known ≡ true

-- the bytes of an image that was handed back, where these are known
abbrev pub bytes_returned : {X : Type 0} → (X → Option (List ℕ)) → Option X → Option (List ℕ)
bytes_returned bytes_of None = None
bytes_returned bytes_of (Some image) = bytes_of image

-- what is known after a run
abbrev pub aftermath_of : {I : Type 0} → (I → Option (List ℕ)) → Surroundings I → Aftermath
aftermath_of bytes_of after = aftermath after.left after.written after.refused (bytes_returned bytes_of after.opener.returned)

-- The image that was handed back stopped at its first failure: where its past is known, its last call failed and no other did, and it has
-- the bytes right after that call.
pub record EndsAtFailure {I : Type 0} (bytes_of : I → Option (List ℕ)) (past_of : I → Option (List Moment)) (after : Surroundings I) : Type 0 where
  pub image : I
  pub returned_is : after.opener.returned ≡ Some image
  pub only_last : IfSome (past_of image) (OnlyNewestFailed 1)
  pub bytes_are : IfSome (past_of image) (HasNewest (bytes_of image))
