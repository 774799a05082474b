-- A read while blocks are pending, block after block: for the code of a drive with a write cache. (This project's own.)
use Rattle.std.specs.Prelude.{◌≡◌, ℕ, List, [], ◌∷◌}
use Rattle.model_sectors.specs.Discs.{block_of}
use Rattle.model_sectors.specs.Requests.{filled_by}
use Rattle.model_sectors.specs.declared.ReadOut.{ReadOut}
use Rattle.model_sectors.specs.declared.ReadOut.TheVariants as reads
use Rattle.model_cache.specs.Values.{Values, Contents, Has, MayHave}
use Rattle.model_cache.specs.Shown.{CacheShown}
use Rattle.model_cache.specs.Causes.{CacheReadBy}

-- What a read of the part of a request in one block gives of a disc with these values, and what is left.
abbrev pub PartContents : (Contents → Type 0) → Values → (lba n block : ℕ) → (into into' : List ℕ) → ReadOut → Type 0
PartContents after v lba n block into into' reads.Good =
    after (Has v) × (into' ≡ filled_by lba n block (block_of v.disc block) into)
PartContents after v lba n block into into' (reads.Unread named home) = after (Has v)
PartContents after v lba n block into into' reads.Cut = after (MayHave (v ∷ []))
PartContents after v lba n block into into' reads.Fault = after (MayHave (v ∷ []))
PartContents after v lba n block into into' _ = ⊥

-- A read with the power on, once the pending blocks that the disc has not are dropped.
abbrev pub CacheReadOn : CacheShown → CacheShown → (lba n : ℕ) → ReadOut → Type 0
CacheReadOn old new lba n reads.Off = ⊥
CacheReadOn old new lba n out = CacheReadBy old.pending old new lba n out
