-- What a mirror stands for: what its lead stands for; and where the other side is up, that one stands for a disc with the same
-- bytes in each block that is not apart. (This project's own, as all here.)
use Rattle.std.specs.Prelude.{◌≡◌, ℕ, ◌*◌, ◌≤◌, ◌⊎◌, Bool, true, false, List, [], ◌∷◌, length}
use Rattle.model_sectors.specs.Discs.{Standing, On, Off, block_of}
use Rattle.model_drive.specs.Shown.{StandsFor}
use Rattle.model_mirror.specs.Table.{is_apart}
use Rattle.model_mirror.specs.Shown.{MirrorShown}

-- Two discs are as long as each other, and have the same bytes in each block that is not apart. The table has an entry for each
-- of their blocks.
pub record AgreesBut (table : List Bool) (disc copy : List ℕ) : Type 0 where
  pub as_long : length copy ≡ length disc
  pub told : length disc ≤ 32768 * length table
  pub same : (i : ℕ) → is_apart table i ≡ false → block_of copy i ≡ block_of disc i

-- The other side stands for such a disc.
pub record HasCopy (other : Standing → Type 0) (table : List Bool) (disc : List ℕ) : Type 0 where
  pub copy : List ℕ
  pub stands : other (On copy)
  pub agrees : AgreesBut table disc copy

-- it stands for something
pub record StandsSomehow (other : Standing → Type 0) : Type 0 where
  pub standing : Standing
  pub stands : other standing

-- The other side stands for something, and where it is up for a disc that agrees.
pub record IsFollowed (shown : MirrorShown) (other : Standing → Type 0) (disc : List ℕ) : Type 0 where
  pub some : StandsSomehow other
  pub copy : shown.up ≡ true → HasCopy other shown.table disc

-- The mirror is off, and its lead is on with this one disc.
pub record LeadIsIdle (shown : MirrorShown) (lead : Standing → Type 0) (discs : List (List ℕ)) : Type 0 where
  pub off : shown.on ≡ false
  pub disc : List ℕ
  pub one : discs ≡ disc ∷ []
  pub stands : lead (On disc)

-- What a mirror stands for, by what its sides stand for.
abbrev pub MirrorStands : MirrorShown → (lead other : Standing → Type 0) → Standing → Type 0
MirrorStands shown lead other (On disc) = (shown.on ≡ true) × lead (On disc) × IsFollowed shown other disc
MirrorStands shown lead other (Off discs) = (lead (Off discs) ⊎ LeadIsIdle shown lead discs) × StandsSomehow other

-- a mirror of two drives may stand for this
abbrev pub MayBe : MirrorShown → Standing → Type 0
MayBe shown s = MirrorStands shown (StandsFor shown.lead) (StandsFor shown.other) s
