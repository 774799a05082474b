-- A read of a mirror, block after block: what the reads of one block give, and how far a read came. (This project's own.)
use Rattle.std.specs.Prelude.{◌≡◌, ℕ, ◌-◌, MatchBool, List, [], ◌∷◌, length}
use Rattle.model_sectors.specs.Discs.{Standing, On, Off, block_of, sectors_of}
use Rattle.model_sectors.specs.Requests.{start_in, end_in, filled_by}
use Rattle.model_sectors.specs.declared.ReadOut.{ReadOut}
use Rattle.model_sectors.specs.declared.ReadOut.TheVariants as reads
use Rattle.model_drive.specs.Shown.{Shown}
use Rattle.model_cache.specs.Chains.{ReadsDisc}
use Rattle.model_mirror.specs.Shown.{MirrorShown, stands_in}
use Rattle.model_mirror.specs.Standing.{IsFollowed, StandsSomehow}
use Rattle.model_mirror.specs.Reads.{AsksOther}

-- the part of a request in one block was read from a side
abbrev pub ReadsSide : Shown → Shown → (lba n block : ℕ) → ReadOut → Type 0
ReadsSide old new lba n block out = ReadsDisc old new (start_in lba block) (end_in lba n block - start_in lba block) out

-- No byte changed but those of the part of a request in one block.
pub record KeepsOthers (lba n block : ℕ) (into into' : List ℕ) : Type 0 where
  pub as_long : length into' ≡ length into
  pub fills : (bytes : List ℕ) → length bytes ≡ 32768
      → filled_by lba n block bytes into' ≡ filled_by lba n block bytes into

-- What the read of a part gives of a side that stood for a disc, and what it stands for then.
abbrev pub SideGives : (Standing → Type 0) → List ℕ → (lba n block : ℕ) → (into into' : List ℕ) → ReadOut → Type 0
SideGives after disc lba n block into into' reads.Good =
    after (On disc) × (into' ≡ filled_by lba n block (block_of disc block) into)
SideGives after disc lba n block into into' reads.NotFormatted = after (On disc)
SideGives after disc lba n block into into' (reads.Range known) = after (On disc)
SideGives after disc lba n block into into' (reads.Unread named home) = after (On disc)
SideGives after disc lba n block into into' reads.Cut = after (Off (disc ∷ []))
SideGives after disc lba n block into into' reads.Fault = after (Off (disc ∷ []))
SideGives after disc lba n block into into' reads.Off = ⊥

-- The other side is asked in place of the lead, which lacks the bytes, where it may stand in.
abbrev pub InPlace : MirrorShown → MirrorShown → (lba n block : ℕ) → (refused out : ReadOut) → Type 0
InPlace mid new lba n block refused out = MatchBool (stands_in mid block)
    (AsksOther mid new lba n block refused out) ((new ≡ mid) × (out ≡ refused))

-- where bytes came, they are the disc's
abbrev pub BytesCame : List ℕ → (lba n block : ℕ) → (into into' : List ℕ) → ReadOut → Type 0
BytesCame disc lba n block into into' reads.Good = into' ≡ filled_by lba n block (block_of disc block) into
BytesCame disc lba n block into into' _ = Unit {0}

-- What the read of a part gives of a mirror whose lead stood for a disc, and what its sides stand for then.
module _ (lead' other' : Standing → Type 0) (new : MirrorShown) (disc : List ℕ) where
  -- the lead stands for its disc still, and the other side follows
  abbrev pub StillHas : Type 0
  StillHas = lead' (On disc) × IsFollowed new other' disc

  -- by the answer
  abbrev pub PartGives : (lba n block : ℕ) → (into into' : List ℕ) → ReadOut → Type 0
  PartGives lba n block into into' reads.Good = StillHas × (into' ≡ filled_by lba n block (block_of disc block) into)
  PartGives lba n block into into' reads.NotFormatted = StillHas
  PartGives lba n block into into' (reads.Range known) = StillHas
  PartGives lba n block into into' (reads.Unread named home) = StillHas
  PartGives lba n block into into' reads.Cut = lead' (Off (disc ∷ [])) × IsFollowed new other' disc
  PartGives lba n block into into' reads.Off = ⊥
  PartGives lba n block into into' reads.Fault = lead' (Off (disc ∷ [])) × IsFollowed new other' disc

  -- What a read of all of a request gives.
  abbrev pub LedGives : (lba n : ℕ) → (into : List ℕ) → ReadOut → Type 0
  LedGives lba n into reads.Good = StillHas × (into ≡ sectors_of disc lba n)
  LedGives lba n into (reads.Unread named home) = StillHas
  LedGives lba n into reads.Cut = lead' (Off (disc ∷ [])) × IsFollowed new other' disc
  LedGives lba n into reads.Fault = lead' (Off (disc ∷ [])) × IsFollowed new other' disc
  LedGives lba n into _ = ⊥

  -- What a read gives, also one that the lead refuses.
  abbrev pub AllGives : (lba n : ℕ) → (into : List ℕ) → ReadOut → Type 0
  AllGives lba n into reads.NotFormatted = (disc ≡ []) × StillHas
  AllGives lba n into (reads.Range known) = StillHas
  AllGives lba n into out = LedGives lba n into out

-- What a read gives of a lead whose power is off: it is refused.
abbrev pub OffGives : (lead' other' : Standing → Type 0) → List (List ℕ) → ReadOut → Type 0
OffGives lead' other' discs reads.Off = lead' (Off discs) × StandsSomehow other'
OffGives lead' other' discs _ = ⊥
