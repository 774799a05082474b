-- What is so of a sector in each value of its block after a write, whatever the write answers.
use Rattle.std.specs.Prelude.{◌≡◌, ℕ, ◌+◌, ◌-◌, ◌*◌, ◌≤◌, Bool, true, false, not, MatchBool, Option, None, Some, List, length}
use Rattle.std.specs.Option.{option_map_or}
use Rattle.std.proofs.Common.{arith, refl, sym, ap, ◌∙◌, inl, inr, subst}
use Rattle.model_geometry.specs.Geometry.{Shape}
use Rattle.model_medium.specs.Cells.{Cell}
use Rattle.model_sectors.specs.Discs.{On, block_of, sectors_of, replaced}
use Rattle.model_sectors.specs.Requests.{block_with, blocks_covered}
use Rattle.model_sectors.proofs.Pieces.{sectors_in_block}
use Rattle.model_places.specs.Places.{Lists, logical_count}
use Rattle.model_drive.specs.declared.WriteOut.{WriteOut}
use Rattle.model_drive.specs.declared.WriteOut.TheVariants as writes
use Rattle.model_drive.specs.Shown.{Shown, StandsFor, StandsBy, cells_in}
use Rattle.model_drive.specs.Parts.{IsInRange}
use Rattle.model_cache.specs.Values.{Values, Contents, Has, MayHave, HasBlock, with_written, cached, is_among}
use Rattle.model_cache.specs.Shown.{CacheShown, CacheStandsFor, goes_into_cache}
use Rattle.model_cache.specs.Causes.{ThroughCause, CachedCause}
use Rattle.model_cache.specs.Steps.{ThroughContents, CachedContents}
use Rattle.model_cache.specs.Falling.{LiesIn, EachValue, FallsTo}
use Rattle.model_cache.proofs.Members.{Contains-passed}
use Rattle.model_cache.proofs.ReplacedBlocks.{as_long_as}
use Rattle.model_cache.proofs.Falls.{one, write_falls, older_cached}
use Rattle.model_target.specs.Steps.{WrittenCause, WrittenContents}
use Rattle.ram_machine.specs.SectorBytes.{bytes_of_sector}

-- the sectors of a request are the disc's, which has n blocks
pub record Lies (disc : List ℕ) (lba n : ℕ) : Type 0 where
  pub blocks : ℕ
  pub inside : lba + n ≤ 16 * blocks
  pub long : length disc ≡ 32768 * blocks

lies_by : (shape : Shape) (cells : List Cell) (lists : Option Lists) (buffer : List (ℕ × List ℕ)) (disc : List ℕ) (lba n : ℕ) → lba + n ≤ option_map_or (logical_count shape) lists 0 * 16 → StandsBy shape cells lists buffer disc
    → Lies disc lba n
lies_by shape cells None buffer disc lba n inside stands = record { blocks = 0; inside = omega (arith, inside); long = ap length stands.0 }
lies_by shape cells (Some lists) buffer disc lba n inside stands = record { blocks = logical_count shape lists; inside = omega (arith, inside); long = stands.fits.as_long }

lies_below : (old : Shown) (disc : List ℕ) (lba n : ℕ) → StandsFor old (On disc) → IsInRange old lba n → Lies disc lba n
lies_below old disc lba n stood inside = lies_by old.shape (cells_in old) old.lists old.buffer disc lba n inside.inside stood.2

-- the same of the disc that is shown
pub lies : (old : CacheShown) (v : Values) (lba n : ℕ) → CacheStandsFor old (Has v) → IsInRange old.drive lba n → Lies v.disc lba n
lies old v lba n stood inside =
    let below = lies_below old.drive stood.0 lba n stood.1 inside in
    record { blocks = below.blocks; inside = below.inside; long = stood.2.taken.as_long ∙ below.long }

-- the sector of a disc, in the block that it lies in
pub block_sector : (disc : List ℕ) (at : ℕ) → bytes_of_sector (16 * block_with at) (block_of disc (block_with at)) at ≡ sectors_of disc at 1
block_sector disc at =
    let i : ℕ = block_with at in
    let there : 16 * i + (at - 16 * i) ≡ at = omega arith in
    sym (sectors_in_block disc i (at - 16 * i) 1 (omega arith)) ∙ ap (λ (m : ℕ). sectors_of disc m 1) there

module _ (S : List ℕ → Type 0) (at : ℕ) where
  -- it is so of the sector in these bytes of its block
  abbrev pub SoInBlock : List ℕ → Type 0
  SoInBlock held = S (bytes_of_sector (16 * block_with at) held at)

  -- and of the sector in each value of its block
  abbrev pub SoInValues : Values → Type 0
  SoInValues v = EachValue SoInBlock (block_with at) v

  abbrev pub SoInContents : Contents → Type 0
  SoInContents s = FallsTo SoInBlock (block_with at) s

  -- of the sector that is shown
  pub so_shown : (v : Values) → HasBlock v.disc (block_with at) → SoInValues v → S (sectors_of v.disc at 1)
  so_shown v has so = subst S (block_sector v.disc at) (so has (block_of v.disc (block_with at)) (inl refl))

  pub so_of_block : (disc held : List ℕ) → held ≡ block_of disc (block_with at) → S (sectors_of disc at 1) → SoInBlock held
  so_of_block disc held is so = subst SoInBlock (sym is) (subst S (sym (block_sector disc at)) so)

  module _ (old new : CacheShown) (v : Values) (t : Contents) (lba n : ℕ) (payload : List ℕ) (stood : CacheStandsFor old (Has v)) (whole : length payload ≡ 2048 * n)
      (kept : SoInValues v) (replaces : (r : Lies v.disc lba n) → (b : ℕ) → HasBlock v.disc (block_with at) → S (sectors_of (replaced v.disc lba payload b) at 1)) where
    lies_in : (r : Lies v.disc lba n) → LiesIn v.disc lba n payload
    lies_in r = record { blocks = r.blocks; as_long = r.long; inside = r.inside; whole = whole }

    has_it : (r : Lies v.disc lba n) (b : ℕ) → HasBlock (replaced v.disc lba payload b) (block_with at) → HasBlock v.disc (block_with at)
    has_it r b has = let long = as_long_as v.disc lba n payload b (lies_in r) in omega (arith, has, long)

    through_so : (r : Lies v.disc lba n) (b : ℕ) → SoInValues (with_written v lba payload b)
    through_so r b has held (inl is) = so_of_block (replaced v.disc lba payload b) held is (replaces r b (has_it r b has))
    through_so r b has held (inr older) =
        kept (has_it r b has) held (inr ((Contains-passed (λ (x : ℕ × List ℕ). not (is_among (block_with lba) (b - block_with lba) x.0)) v.older (block_with at, held) older).1))

    into_so : (r : Lies v.disc lba n) → SoInValues (cached v lba n payload)
    into_so r has held (inl is) =
        let b = block_with lba + blocks_covered lba n in
        so_of_block (replaced v.disc lba payload b) held is (replaces r b (has_it r b has))
    into_so r has held (inr older) = kept (has_it r (block_with lba + blocks_covered lba n) has) held (older_cached (block_with at) v lba n held older)

    still : Has v ≡ t → SoInContents t
    still is = subst SoInContents is (one SoInBlock (block_with at) v kept)

    reached : IsInRange old.drive lba n → (into_cache : Bool) (out : WriteOut)
        → MatchBool into_cache (CachedContents (λ x. x ≡ t) (Has v) lba n payload out) (ThroughContents old new (λ x. x ≡ t) (Has v) lba n payload out) → SoInContents t
    reached inside into_cache out step =
        let r = lies old v lba n stood inside in
        write_falls SoInBlock (block_with at) v lba n payload t kept (through_so r) (into_so r) old new into_cache out step

    through_left : (out : WriteOut) → ThroughCause old new lba n out → ThroughContents old new (λ x. x ≡ t) (Has v) lba n payload out → SoInContents t
    through_left writes.Good cause step = reached cause.0 false writes.Good step
    through_left writes.NotFormatted cause step = still step.1
    through_left (writes.Range known) cause step = still step
    through_left (writes.Unread named block) cause step = reached cause.0 false (writes.Unread named block) step
    through_left (writes.NoSpare named) cause step = reached cause.0 false (writes.NoSpare named) step
    through_left (writes.NoUpdate counter) cause step = reached cause.0 false (writes.NoUpdate counter) step
    through_left writes.Cut cause step = reached cause.0 false writes.Cut step
    through_left writes.Off cause step = absurd step
    through_left writes.Fault cause step = reached cause.0 false writes.Fault step

    cached_left : (out : WriteOut) → CachedCause old new lba n payload out → CachedContents (λ x. x ≡ t) (Has v) lba n payload out → SoInContents t
    cached_left writes.Good cause step = reached cause.inside true writes.Good step
    cached_left writes.NotFormatted cause step = still step.1
    cached_left (writes.Range known) cause step = still step
    cached_left (writes.Unread named block) cause step = still step
    cached_left (writes.NoSpare named) cause step = still step
    cached_left (writes.NoUpdate counter) cause step = still step
    cached_left writes.Cut cause step = reached cause.0 true writes.Cut step
    cached_left writes.Off cause step = absurd step
    cached_left writes.Fault cause step = reached cause.0 true writes.Fault step

    write_left : (into_cache : Bool) (out : WriteOut) → MatchBool into_cache (CachedCause old new lba n payload out) (ThroughCause old new lba n out)
        → MatchBool into_cache (CachedContents (λ x. x ≡ t) (Has v) lba n payload out) (ThroughContents old new (λ x. x ≡ t) (Has v) lba n payload out) → SoInContents t
    write_left true out cause step = cached_left out cause step
    write_left false out cause step = through_left out cause step

    -- after a write
    pub written_left : (fua : Bool) (out : WriteOut) → WrittenCause old new lba n payload fua out → WrittenContents old new lba n payload (λ x. x ≡ t) (Has v) fua out → SoInContents t
    written_left true out cause step = through_left out cause step
    written_left false out cause step = write_left (goes_into_cache old lba n) out cause step

  -- with the power off
  through_off : (old new : CacheShown) (all : List Values) (t : Contents) (lba n : ℕ) (payload : List ℕ) (out : WriteOut) → SoInContents (MayHave all) → ThroughContents old new (λ x. x ≡ t) (MayHave all) lba n payload out → SoInContents t
  through_off old new all t lba n payload writes.Off so step = subst SoInContents step so
  through_off old new all t lba n payload _ so step = absurd step

  cached_off : (all : List Values) (t : Contents) (lba n : ℕ) (payload : List ℕ) (out : WriteOut) → SoInContents (MayHave all) → CachedContents (λ x. x ≡ t) (MayHave all) lba n payload out → SoInContents t
  cached_off all t lba n payload writes.Off so step = subst SoInContents step so
  cached_off all t lba n payload _ so step = absurd step

  write_off : (old new : CacheShown) (all : List Values) (t : Contents) (lba n : ℕ) (payload : List ℕ) (into_cache : Bool) (out : WriteOut) → SoInContents (MayHave all)
      → MatchBool into_cache (CachedContents (λ x. x ≡ t) (MayHave all) lba n payload out) (ThroughContents old new (λ x. x ≡ t) (MayHave all) lba n payload out) → SoInContents t
  write_off old new all t lba n payload true out so step = cached_off all t lba n payload out so step
  write_off old new all t lba n payload false out so step = through_off old new all t lba n payload out so step

  pub written_off : (old new : CacheShown) (all : List Values) (t : Contents) (lba n : ℕ) (payload : List ℕ) (fua : Bool) (out : WriteOut) → SoInContents (MayHave all)
      → WrittenContents old new lba n payload (λ x. x ≡ t) (MayHave all) fua out → SoInContents t
  written_off old new all t lba n payload true out so step = through_off old new all t lba n payload out so step
  written_off old new all t lba n payload false out so step = write_off old new all t lba n payload (goes_into_cache old lba n) out so step
