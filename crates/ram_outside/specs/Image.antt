-- What the calls on an image's bytes may do, by their answers: for the trait `Image`, and for the media over it.
use Rattle.std.specs.Prelude.{◌≡◌, ℕ, ◌⊎◌, Option, IfSome, MatchOption, List, length, take, drop}
use Rattle.std.specs.Option.{option_map}
use Rattle.model_bytes.specs.Bytes.{put_at, resized, PartlyPut}
use Rattle.model_counts.specs.Counts.{Rose}
use Rattle.ram_outside.specs.declared.image.Length.{Length}
use Rattle.ram_outside.specs.declared.image.Length.TheVariants as lengths
use Rattle.ram_outside.specs.declared.image.Moved.{Moved}
use Rattle.ram_outside.specs.declared.image.Moved.TheVariants as moves

-- the image has the bytes that it had, and counted nothing (this project's own)
pub record IsUnchanged (before after : Option (List ℕ)) (faults faults' : ℕ) : Type 0 where
  pub same : after ≡ before
  pub count : faults' ≡ faults

-- the image failed and counted it, and has the bytes that it had (this project's own)
pub record ImageFails (before after : Option (List ℕ)) (faults faults' : ℕ) : Type 0 where
  pub same : after ≡ before
  pub count : Rose faults faults'

-- the whole change was made, and nothing was counted (this project's own)
pub record IsChanged (change : List ℕ → List ℕ) (before after : Option (List ℕ)) (faults faults' : ℕ) : Type 0 where
  pub changed : after ≡ option_map change before
  pub count : faults' ≡ faults

-- What `len` may do, by its answer. (This project's own.)
abbrev pub LenRule : Option (List ℕ) → Option (List ℕ) → ℕ → ℕ → Length → Type 0
LenRule before after faults faults' (lengths.Is n) =
    IsUnchanged before after faults faults' × IfSome before (λ held. n ≡ length held)
LenRule before after faults faults' lengths.Failed = ImageFails before after faults faults'

-- What `read_at` may do, by its answer; `into` is what the slice then holds. (This project's own.)
abbrev pub ReadAtRule : Option (List ℕ) → Option (List ℕ) → ℕ → ℕ → ℕ → List ℕ → Moved → Type 0
ReadAtRule before after faults faults' at into moves.Done =
    IsUnchanged before after faults faults' × IfSome before (λ held. into ≡ take (length into) (drop at held))
ReadAtRule before after faults faults' at into moves.Failed = ImageFails before after faults faults'

-- What `write_at` may do, by its answer. (This project's own.)
abbrev pub WriteAtRule : Option (List ℕ) → Option (List ℕ) → ℕ → ℕ → ℕ → List ℕ → Moved → Type 0
WriteAtRule before after faults faults' at from moves.Done = IsChanged (put_at at from) before after faults faults'
WriteAtRule before after faults faults' at from moves.Failed =
    Rose faults faults'
    × MatchOption before (after ≡ before) (λ held. MatchOption after ⊥ (λ held'. PartlyPut at from held held'))

-- What `set_len` may do, by its answer. (This project's own.)
abbrev pub SetLenRule : Option (List ℕ) → Option (List ℕ) → ℕ → ℕ → ℕ → Moved → Type 0
SetLenRule before after faults faults' len moves.Done = IsChanged (resized len) before after faults faults'
SetLenRule before after faults faults' len moves.Failed =
    Rose faults faults' × ((after ≡ before) ⊎ (after ≡ option_map (resized len) before))

-- What `sync` may do, by its answer. (This project's own.)
abbrev pub SyncRule : Option (List ℕ) → Option (List ℕ) → ℕ → ℕ → Moved → Type 0
SyncRule before after faults faults' moves.Done = IsUnchanged before after faults faults'
SyncRule before after faults faults' moves.Failed = ImageFails before after faults faults'

-- the call failed, since one had failed before, and no byte changed (this project's own)
pub record FailsAgain {A : Type 0} (failed result : A) (before after : Option (List ℕ)) : Type 0 where
  pub again : result ≡ failed
  pub same : after ≡ before
