-- A write into the cache for which there is room.
use Rattle.std.specs.Prelude.{◌≡◌, ℕ, zero, suc, ◌+◌, ◌<◌, Bool, true, false, Option, List}
use Rattle.std.proofs.Common.{arith, refl, sym, ap, ◌∙◌, inl, inr, subst}
use Rattle.model_buffer.specs.Buffer.{bytes_at}
use Rattle.model_sectors.specs.Requests.{block_with, blocks_covered, is_partly}
use Rattle.model_drive.specs.declared.WriteOut.{WriteOut}
use Rattle.model_drive.specs.declared.WriteOut.TheVariants as writes
use Rattle.model_drive.specs.Parts.{IsInRange}
use Rattle.model_cache.specs.Shown.{CacheShown, dropped, pending_covered}
use Rattle.model_cache.specs.Drains.{DrainCause}
use Rattle.model_cache.specs.Causes.{leave_first, MakesRoom, ReadsRest, ReadsRests, LacksRestInCache, CachedCauseOf, CachedCause}

-- where none has to leave nothing is tried
room_there : (due : List ℕ) (old new : CacheShown) (out : WriteOut) → DrainCause old new due 0 out → (out ≡ writes.Good) × (new ≡ old)
room_there due old new writes.Good p = (refl, p.1.0)
room_there due old new (writes.NoSpare named) p = absurd (let e : suc p.short ≡ 0 = p.tried.1 in omega (arith, e))
room_there due old new (writes.NoUpdate counter) p = absurd (let e : suc p.short ≡ 0 = p.tried.1 in omega (arith, e))
room_there due old new writes.Cut p = absurd (let e : suc p.short ≡ 0 = p.tried.1 in omega (arith, e))
room_there due old new writes.Fault p = absurd (let e : suc p.short ≡ 0 = p.tried.1 in omega (arith, e))
room_there due old new writes.NotFormatted p = absurd p
room_there due old new (writes.Range known) p = absurd p
room_there due old new (writes.Unread named block) p = absurd p
room_there due old new writes.Off p = absurd p

module _ (lba n : ℕ) (whole : (k : ℕ) → k < blocks_covered lba n → is_partly lba n (block_with lba + k) ≡ false) where
  rest_there : (old new : CacheShown) (block : ℕ) (partly : Bool) (held : Option (List ℕ)) → partly ≡ false → ReadsRest old new block partly held → new ≡ old
  rest_there old new block true held is p = absurd (let e = is in cc)
  rest_there old new block false held is p = p

  rests_there : (k : ℕ) (old new : CacheShown) → k < blocks_covered lba n + 1 → ReadsRests old new lba n k → new ≡ old
  rests_there zero old new few p = p
  rests_there (suc k) old new few (mid, before, rest) =
      rest_there mid new (block_with lba + k) (is_partly lba n (block_with lba + k)) (bytes_at (block_with lba + k) mid.pending) (whole k (omega (arith, few))) rest
      ∙ rests_there k old mid (omega (arith, few)) before

  module _ (old new : CacheShown) (room : leave_first old lba n ≡ 0) (inside : IsInRange old.drive lba n) where
    made : (mid : CacheShown) (out : WriteOut) → MakesRoom old mid lba n out → (out ≡ writes.Good) × (mid ≡ old)
    made mid out p = room_there (pending_covered false old lba n) old mid out (subst (λ (m : ℕ). DrainCause old mid (pending_covered false old lba n) m out) room p)

    never_lacks : (out : WriteOut) → LacksRestInCache old new lba n out → ⊥
    never_lacks out p = (let e : true ≡ false = sym p.partly ∙ whole p.before p.covered in cc)

    goes_in : (bytes : List ℕ) (out : WriteOut) → CachedCauseOf old new lba n bytes out → (out ≡ writes.Good) × (new.drive ≡ old.drive)
    goes_in bytes writes.Good p = (
      refl,
      p.comes.same_drive ∙ ap (λ (s : CacheShown). s.drive) (rests_there (blocks_covered lba n) p.mid p.late (omega arith) p.rests ∙ (made p.mid writes.Good p.drained).1),
    )
    goes_in bytes writes.NotFormatted p = absurd p
    goes_in bytes (writes.Range known) p = let past = p.past.past in let fits = inside.inside in absurd (omega (arith, past, fits))
    goes_in bytes (writes.Unread named block) p = absurd (never_lacks (writes.Unread named block) p.1)
    goes_in bytes (writes.NoSpare named) p = absurd (let e = (made new (writes.NoSpare named) p.1).0 in cc)
    goes_in bytes (writes.NoUpdate counter) p = absurd (let e = (made new (writes.NoUpdate counter) p.1).0 in cc)
    goes_in bytes writes.Cut (there, inl p) = absurd (let e = (made new writes.Cut p).0 in cc)
    goes_in bytes writes.Cut (there, inr p) = absurd (never_lacks writes.Cut p)
    goes_in bytes writes.Off p = absurd p
    goes_in bytes writes.Fault (there, inl p) = absurd (let e = (made new writes.Fault p).0 in cc)
    goes_in bytes writes.Fault (there, inr p) = absurd (never_lacks writes.Fault p)

  pub into_good : (old new : CacheShown) (bytes : List ℕ) (out : WriteOut) → leave_first (dropped old) lba n ≡ 0 → IsInRange old.drive lba n → CachedCause old new lba n bytes out
      → (out ≡ writes.Good) × (new.drive ≡ old.drive)
  into_good old new bytes writes.NotFormatted room inside p = absurd (p.unformatted inside.formatted)
  into_good old new bytes writes.Off room inside p = absurd (p.off inside.on)
  into_good old new bytes writes.Good room inside p = goes_in (dropped old) new room inside bytes writes.Good p
  into_good old new bytes (writes.Range known) room inside p = goes_in (dropped old) new room inside bytes (writes.Range known) p
  into_good old new bytes (writes.Unread named block) room inside p = goes_in (dropped old) new room inside bytes (writes.Unread named block) p
  into_good old new bytes (writes.NoSpare named) room inside p = goes_in (dropped old) new room inside bytes (writes.NoSpare named) p
  into_good old new bytes (writes.NoUpdate counter) room inside p = goes_in (dropped old) new room inside bytes (writes.NoUpdate counter) p
  into_good old new bytes writes.Cut room inside p = goes_in (dropped old) new room inside bytes writes.Cut p
  into_good old new bytes writes.Fault room inside p = goes_in (dropped old) new room inside bytes writes.Fault p
