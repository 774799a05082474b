-- With the cache off and nothing pending the calls are those of the disc.
use Rattle.std.proofs.Common.{◌≡◌, ◌≢◌, ℕ, suc, Bool, false, List, [], ◌∷◌, ◌++◌, Option, Some, None, inl, inr, refl, sym, ap, ◌∙◌, subst, arith, map}
use Rattle.std.specs.List.{Contains}
use Rattle.model_sectors.specs.Discs.{Standing, On, Off, candidates}
use Rattle.model_sectors.specs.declared.ReadOut.{ReadOut}
use Rattle.model_sectors.specs.declared.ReadOut.TheVariants as reads
use Rattle.model_sectors.specs.declared.PowerOut.{PowerOut}
use Rattle.model_sectors.specs.declared.PowerOut.TheVariants as powers
use Rattle.model_places.specs.Places.{Lists}
use Rattle.model_drive.specs.declared.WriteOut.{WriteOut}
use Rattle.model_drive.specs.declared.WriteOut.TheVariants as writes
use Rattle.model_drive.specs.declared.FormatOut.{FormatOut}
use Rattle.model_drive.specs.declared.FormatOut.TheVariants as formats
use Rattle.model_drive.specs.declared.ExpandOut.{ExpandOut}
use Rattle.model_drive.specs.declared.ExpandOut.TheVariants as expands
use Rattle.model_drive.specs.declared.Kind.{Kind}
use Rattle.model_drive.specs.declared.Kind.TheVariants as kinds
use Rattle.model_drive.specs.Shown.{Shown, IsFirstUnder, cells_in}
use Rattle.model_drive.specs.Reads.{ReadCause, ReadStep, VerifyCause, VerifyStep, ReadIsQuiet}
use Rattle.model_drive.specs.Writes.{WriteCause, WriteStep}
use Rattle.model_drive.specs.Formats.{FormatCause, FormatStep, FormatStepBy}
use Rattle.model_drive.specs.FullFormats.{FullStep}
use Rattle.model_drive.specs.Rewriting.{RewriteStep}
use Rattle.model_drive.specs.Expands.{ExpandCause, ExpandStep}
use Rattle.model_drive.specs.Power.{PowerCause, PowerStep, FindsDisc}
use Rattle.model_cache.specs.Values.{Contents, MayHave, lifted, plain, with_older, settled_values, candidates_of}
use Rattle.model_cache.specs.Shown.{CacheShown}
use Rattle.model_cache.specs.Chains.{leaves_pending}
use Rattle.model_cache.specs.Drains.{DrainCause}
use Rattle.model_cache.specs.Steps.{SomePending, FindsValues, FullValues, FormatValues, ReadContents, VerifyContents, WriteContents, FormatContents, ExpandContents, PowerContents}
use Rattle.model_cache.specs.Causes.{CacheReadCause, CacheVerifyCause, CacheWriteCause, CacheFormatCause, CacheExpandCause, CachePowerCause, WritesThrough, StopsWritingThrough, leaves_after_read, leaves_after_format, leaves_after_full, leaves_after_expansion}
use Rattle.model_cache.proofs.SameBlocks.{same_taken}
use Rattle.model_cache.specs.Plain.{uncached, LeavesUncached, StandsForUncached}

abbrev made : Shown → List (ℕ × List ℕ) → Bool → CacheShown
made drive pending caches = record { drive = drive; pending = pending; caches = caches }

-- a cache that is off and empty
pub is_uncached : (new : CacheShown) → new.pending ≡ [] → new.caches ≡ false → new ≡ uncached new.drive
is_uncached new none off = ap (λ p. made new.drive p new.caches) none ∙ ap (made new.drive []) off

-- nothing lies behind something
none_behind : (done rest : List ℕ) (block : ℕ) → [] ≡ done ++ block ∷ rest → ⊥
none_behind [] rest block e = cc
none_behind (x ∷ done) rest block e = cc

-- a drain of no block is good
pub none_drained : (old new : CacheShown) (out : WriteOut) → DrainCause old new [] 0 out → (out ≡ writes.Good) × (new ≡ old)
none_drained old new writes.Good p = (refl, p.1.0)
none_drained old new (writes.NoSpare named) p = absurd (let e : suc p.short ≡ 0 = p.tried.1 in cc)
none_drained old new (writes.NoUpdate counter) p = absurd (let e : suc p.short ≡ 0 = p.tried.1 in cc)
none_drained old new writes.Cut p = absurd (none_behind p.done p.rest p.block p.due_is)
none_drained old new writes.Fault p = absurd (none_behind p.done p.rest p.block p.due_is)
none_drained old new writes.NotFormatted p = absurd p
none_drained old new (writes.Range known) p = absurd p
none_drained old new (writes.Unread named block) p = absurd p
none_drained old new writes.Off p = absurd p

none_left : (out : WriteOut) → leaves_pending out [] ≡ []
none_left writes.Cut = refl
none_left writes.Fault = refl
none_left writes.Good = refl
none_left writes.NotFormatted = refl
none_left (writes.Range known) = refl
none_left (writes.Unread named block) = refl
none_left (writes.NoSpare named) = refl
none_left (writes.NoUpdate counter) = refl
none_left writes.Off = refl

none_after_read : (out : ReadOut) → leaves_after_read out [] ≡ []
none_after_read reads.Cut = refl
none_after_read reads.Fault = refl
none_after_read reads.Good = refl
none_after_read reads.NotFormatted = refl
none_after_read (reads.Range known) = refl
none_after_read (reads.Unread named block) = refl
none_after_read reads.Off = refl

none_after_full : (now : Option Lists) (out : FormatOut) → leaves_after_full now out [] ≡ []
none_after_full now formats.Good = refl
none_after_full now formats.Cut = refl
none_after_full now formats.Fault = refl
none_after_full now formats.Off = refl
none_after_full None (formats.TooMany found) = refl
none_after_full (Some lists) (formats.TooMany found) = refl
none_after_full None (formats.NoUpdate counter) = refl
none_after_full (Some lists) (formats.NoUpdate counter) = refl

none_after_format : (was now : Option Lists) (kind : Kind) (out : FormatOut) → leaves_after_format was now kind out [] ≡ []
none_after_format was now (kinds.Full drop_sdl) out = none_after_full now out
none_after_format None now kinds.Rewrite out = none_after_full now out
none_after_format (Some lists) now kinds.Rewrite formats.Good = refl
none_after_format (Some lists) now kinds.Rewrite formats.Cut = refl
none_after_format (Some lists) now kinds.Rewrite formats.Fault = refl
none_after_format (Some lists) now kinds.Rewrite formats.Off = refl
none_after_format (Some lists) now kinds.Rewrite (formats.TooMany found) = refl
none_after_format (Some lists) now kinds.Rewrite (formats.NoUpdate counter) = refl

none_after_expansion : (new : CacheShown) (out : ExpandOut) → leaves_after_expansion new out [] ≡ []
none_after_expansion new expands.Good = refl
none_after_expansion new expands.Cut = refl
none_after_expansion new expands.Fault = refl
none_after_expansion new expands.NotFormatted = refl
none_after_expansion new (expands.Refused known) = refl
none_after_expansion new (expands.NoUpdate counter) = refl
none_after_expansion new expands.Off = refl

module _ (drive : Shown) (new : CacheShown) where
  -- a read
  pub plain_read_cause : (lba n : ℕ) (out : ReadOut) → CacheReadCause (uncached drive) new lba n out
      → LeavesUncached new (ReadCause drive new.drive lba n out)
  plain_read_cause lba n reads.Off p = (
    record { off = p.off; nothing = ap (λ (s : CacheShown). s.drive) p.nothing },
    is_uncached new (ap (λ (s : CacheShown). s.pending) p.nothing) (ap (λ (s : CacheShown). s.caches) p.nothing),
  )
  plain_read_cause lba n reads.Good p = (p.0.cause, is_uncached new (p.1.0) (p.1.1))
  plain_read_cause lba n reads.NotFormatted p = (p.0.cause, is_uncached new (p.1.0) (p.1.1))
  plain_read_cause lba n (reads.Range known) p = (p.0.cause, is_uncached new (p.1.0) (p.1.1))
  plain_read_cause lba n (reads.Unread named block) p = (p.0.cause, is_uncached new (p.1.0) (p.1.1))
  plain_read_cause lba n reads.Cut p = (p.0.cause, is_uncached new (p.1.0) (p.1.1))
  plain_read_cause lba n reads.Fault p = (p.0.cause, is_uncached new (p.1.0) (p.1.1))

  pub plain_read_quiet : (lba n : ℕ) (out : ReadOut) → CacheReadCause (uncached drive) new lba n out → ReadIsQuiet drive new.drive lba n out
  plain_read_quiet lba n reads.Off p = λ inside buffered. absurd (p.off inside.on)
  plain_read_quiet lba n reads.Good p = p.0.quiet
  plain_read_quiet lba n reads.NotFormatted p = p.0.quiet
  plain_read_quiet lba n (reads.Range known) p = p.0.quiet
  plain_read_quiet lba n (reads.Unread named block) p = p.0.quiet
  plain_read_quiet lba n reads.Cut p = p.0.quiet
  plain_read_quiet lba n reads.Fault p = p.0.quiet

  -- a verification
  pub plain_verify_cause : (lba n : ℕ) (out : ReadOut) → CacheVerifyCause (uncached drive) new lba n out
      → LeavesUncached new (VerifyCause drive new.drive lba n out)
  plain_verify_cause lba n out p = (p.0, is_uncached new (p.1 ∙ none_after_read out) (p.2))

  -- a write on the disc
  through : (lba n : ℕ) (out : WriteOut) → WritesThrough (uncached drive) new lba n out → LeavesUncached new (WriteCause drive new.drive lba n out)
  through lba n out p =
      let same : p.mid ≡ uncached drive = (none_drained (uncached drive) p.mid writes.Good p.drained).1 in
      let none : new.pending ≡ [] = p.left ∙ ap (λ (s : CacheShown). leaves_pending out s.pending) same ∙ none_left out in
      (subst (λ (s : CacheShown). WriteCause s.drive new.drive lba n out) same p.wrote, is_uncached new none p.same_mode)

  stops_through : (lba n : ℕ) (out : WriteOut) → out ≢ writes.Good → StopsWritingThrough (uncached drive) new lba n out → LeavesUncached new (WriteCause drive new.drive lba n out)
  stops_through lba n out not_good (inside, inl p) = absurd (not_good (none_drained (uncached drive) new out p).0)
  stops_through lba n out not_good (inside, inr p) = through lba n out p

  pub plain_write_cause : (lba n : ℕ) (bytes : List ℕ) (out : WriteOut) → CacheWriteCause (uncached drive) new lba n bytes out
      → LeavesUncached new (WriteCause drive new.drive lba n out)
  plain_write_cause lba n bytes writes.Good p = through lba n writes.Good p.1
  plain_write_cause lba n bytes writes.NotFormatted p = (
    record { on = p.on; unformatted = p.unformatted; nothing = ap (λ (s : CacheShown). s.drive) p.nothing },
    is_uncached new (ap (λ (s : CacheShown). s.pending) p.nothing) (ap (λ (s : CacheShown). s.caches) p.nothing),
  )
  plain_write_cause lba n bytes (writes.Range known) p =
      (p.past, is_uncached new (ap (λ (s : CacheShown). s.pending) p.nothing) (ap (λ (s : CacheShown). s.caches) p.nothing))
  plain_write_cause lba n bytes (writes.Unread named block) p = through lba n (writes.Unread named block) (p.1)
  plain_write_cause lba n bytes (writes.NoSpare named) p = stops_through lba n (writes.NoSpare named) (λ is. cc) p
  plain_write_cause lba n bytes (writes.NoUpdate counter) p = stops_through lba n (writes.NoUpdate counter) (λ is. cc) p
  plain_write_cause lba n bytes writes.Cut p = stops_through lba n writes.Cut (λ is. cc) p
  plain_write_cause lba n bytes writes.Off p = (
    record { off = p.off; nothing = ap (λ (s : CacheShown). s.drive) p.nothing },
    is_uncached new (ap (λ (s : CacheShown). s.pending) p.nothing) (ap (λ (s : CacheShown). s.caches) p.nothing),
  )
  plain_write_cause lba n bytes writes.Fault p = stops_through lba n writes.Fault (λ is. cc) p

  -- a format, an expansion, and the power
  pub plain_format_cause : (kind : Kind) (out : FormatOut) → CacheFormatCause (uncached drive) new kind out
      → LeavesUncached new (FormatCause drive new.drive kind out)
  plain_format_cause kind out p = (p.0, is_uncached new (p.1 ∙ none_after_format drive.lists new.drive.lists kind out) (p.2))

  pub plain_expand_cause : (sectors : ℕ) (out : ExpandOut) → CacheExpandCause (uncached drive) new sectors out
      → LeavesUncached new (ExpandCause drive new.drive sectors out)
  plain_expand_cause sectors out p = (p.0, is_uncached new (p.1 ∙ none_after_expansion new out) (p.2))

  pub plain_power_cause : (out : PowerOut) → CachePowerCause (uncached drive) new out → LeavesUncached new (PowerCause drive new.drive out)
  plain_power_cause out p = (p.0, is_uncached new (p.1.0) (p.1.1))

-- ---- what the calls make of it

-- it came to what the disc came to
plainly : (t : Contents) (u : Standing) → plain u ≡ t → StandsForUncached t (λ x. u ≡ x)
plainly t u e = record { standing = u; is = sym e; so = refl }

with_first : {A : Type 0} (t : Contents) (u : Standing) → A → plain u ≡ t → StandsForUncached t (λ x. A × (u ≡ x))
with_first t u a e = record { standing = u; is = sym e; so = (a, refl) }

none_some : (new : CacheShown) (lba n : ℕ) → new ≡ uncached new.drive → SomePending new lba n → ⊥
none_some new lba n none some =
    none_there some.pending.0 some.block (subst (λ (l : List (ℕ × List ℕ)). Contains {X = ℕ × List ℕ} l (some.block, some.pending.0)) (ap (λ (s : CacheShown). s.pending) none) some.pending.1)
  where
    none_there : (bytes : List ℕ) (i : ℕ) → Contains {X = ℕ × List ℕ} [] (i, bytes) → ⊥
    none_there bytes i (k, within, is) = omega arith

module _ (t : Contents) where
  pub plain_read_step : (s : Standing) (lba n : ℕ) (into : List ℕ) (out : ReadOut) → ReadContents (λ x. x ≡ t) (plain s) lba n into out
      → StandsForUncached t (λ u. ReadStep (λ x. x ≡ u) s lba n into out)
  plain_read_step (On disc) lba n into reads.Good p = with_first t (On disc) (p.0) (p.1)
  plain_read_step (On disc) lba n into reads.NotFormatted p = with_first t (On disc) (p.0) (p.1)
  plain_read_step (On disc) lba n into (reads.Range known) p = plainly t (On disc) p
  plain_read_step (On disc) lba n into (reads.Unread named block) p = plainly t (On disc) p
  plain_read_step (On disc) lba n into reads.Cut p = plainly t (Off (disc ∷ [])) p
  plain_read_step (On disc) lba n into reads.Off p = absurd p
  plain_read_step (On disc) lba n into reads.Fault p = plainly t (Off (disc ∷ [])) p
  plain_read_step (Off discs) lba n into reads.Off p = plainly t (Off discs) p
  plain_read_step (Off discs) lba n into _ p = absurd p

  pub plain_verify_step : (s : Standing) (out : ReadOut) → VerifyContents (λ x. x ≡ t) (plain s) out → StandsForUncached t (λ u. VerifyStep (λ x. x ≡ u) s out)
  plain_verify_step (On disc) reads.Good p = plainly t (On disc) p
  plain_verify_step (On disc) reads.NotFormatted p = plainly t (On disc) p
  plain_verify_step (On disc) (reads.Range known) p = plainly t (On disc) p
  plain_verify_step (On disc) (reads.Unread named block) p = plainly t (On disc) p
  plain_verify_step (On disc) reads.Cut p = plainly t (Off (disc ∷ [])) p
  plain_verify_step (On disc) reads.Off p = absurd p
  plain_verify_step (On disc) reads.Fault p = plainly t (Off (disc ∷ [])) p
  plain_verify_step (Off discs) reads.Off p = plainly t (Off discs) p
  plain_verify_step (Off discs) _ p = absurd p

  pub plain_expand_step : (s : Standing) (sectors : ℕ) (out : ExpandOut) → ExpandContents (λ x. x ≡ t) (plain s) sectors out
      → StandsForUncached t (λ u. ExpandStep (λ x. x ≡ u) s sectors out)
  plain_expand_step (On disc) sectors expands.Good p = plainly t (On _) p
  plain_expand_step (On disc) sectors expands.NotFormatted p = with_first t (On disc) (p.0) (p.1)
  plain_expand_step (On disc) sectors (expands.Refused known) p = plainly t (On disc) p
  plain_expand_step (On disc) sectors (expands.NoUpdate counter) p = plainly t (On disc) p
  plain_expand_step (On disc) sectors expands.Cut p = plainly t (Off (disc ∷ _ ∷ [])) p
  plain_expand_step (On disc) sectors expands.Off p = absurd p
  plain_expand_step (On disc) sectors expands.Fault p = plainly t (Off (disc ∷ _ ∷ [])) p
  plain_expand_step (Off discs) sectors expands.Off p = plainly t (Off discs) p
  plain_expand_step (Off discs) sectors _ p = absurd p

  -- a write
  pub plain_write_step : (drive : Shown) (new : CacheShown) (s : Standing) (lba n : ℕ) (bytes : List ℕ) (out : WriteOut) → new ≡ uncached new.drive
      → WriteContents (uncached drive) new (λ x. x ≡ t) (plain s) lba n bytes out → StandsForUncached t (λ u. WriteStep new.drive (λ x. x ≡ u) s lba n bytes out)
  plain_write_step drive new (On disc) lba n bytes writes.Good none p = plainly t (On _) p
  plain_write_step drive new (On disc) lba n bytes writes.NotFormatted none p = with_first t (On disc) (p.0) (p.1)
  plain_write_step drive new (On disc) lba n bytes (writes.Range known) none p = plainly t (On disc) p
  plain_write_step drive new (On disc) lba n bytes (writes.Unread named block) none p = plainly t (On _) p
  plain_write_step drive new (On disc) lba n bytes (writes.NoSpare named) none (inl p) = absurd (none_some new lba n none (p.0))
  plain_write_step drive new (On disc) lba n bytes (writes.NoSpare named) none (inr p) = plainly t (On _) (p.1)
  plain_write_step drive new (On disc) lba n bytes (writes.NoUpdate counter) none (inl p) = absurd (none_some new lba n none (p.0))
  plain_write_step drive new (On disc) lba n bytes (writes.NoUpdate counter) none (inr p) = record {
    standing = On _;
    is = sym p.1.before;
    so = record { block = p.1.block; covered = p.1.covered; dead = p.1.dead; first = p.1.first; before = refl };
  }
  plain_write_step drive new (On disc) lba n bytes writes.Cut none (inl p) = absurd (none_some (uncached drive) lba n refl (p.0))
  plain_write_step drive new (On disc) lba n bytes writes.Cut none (inr p) = record {
    standing = Off _;
    is = sym p.either;
    so = record { block = p.block; covered = p.covered; either = refl };
  }
  plain_write_step drive new (On disc) lba n bytes writes.Off none p = absurd p
  plain_write_step drive new (On disc) lba n bytes writes.Fault none (inl p) = absurd (none_some (uncached drive) lba n refl (p.0))
  plain_write_step drive new (On disc) lba n bytes writes.Fault none (inr p) = record {
    standing = Off _;
    is = sym p.either;
    so = record { block = p.block; covered = p.covered; either = refl };
  }
  plain_write_step drive new (Off discs) lba n bytes writes.Off none p = plainly t (Off discs) p
  plain_write_step drive new (Off discs) lba n bytes _ none p = absurd p

  -- a format
  full_step : (old new : Shown) (disc : List ℕ) (out : FormatOut) → FullValues (λ x. x ≡ t) (settled_values disc) old new out → StandsForUncached t (λ u. FullStep old new (λ x. x ≡ u) disc out)
  full_step old new disc formats.Good p = plainly t (On _) p
  full_step old new disc (formats.TooMany found) p = plainly t (On []) p
  full_step old new disc (formats.NoUpdate counter) (inl p) = record { standing = On disc; is = sym p.1; so = inl (p.0, refl) }
  full_step old new disc (formats.NoUpdate counter) (inr p) = record { standing = On []; is = sym p.1; so = inr (p.0, refl) }
  full_step old new disc formats.Cut (inl p) = record { standing = Off _; is = sym p; so = inl refl }
  full_step old new disc formats.Cut (inr (inl p)) = record { standing = Off _; is = sym p; so = inr (inl refl) }
  full_step old new disc formats.Cut (inr (inr p)) = record { standing = Off _; is = sym p; so = inr (inr refl) }
  full_step old new disc formats.Off p = absurd p
  full_step old new disc formats.Fault (inl p) = record { standing = Off _; is = sym p; so = inl refl }
  full_step old new disc formats.Fault (inr (inl p)) = record { standing = Off _; is = sym p; so = inr (inl refl) }
  full_step old new disc formats.Fault (inr (inr p)) = record { standing = Off _; is = sym p; so = inr (inr refl) }

  rewrite_step : (disc : List ℕ) (out : FormatOut) → RewriteStep (λ u. lifted [] u ≡ t) disc out → StandsForUncached t (λ u. RewriteStep (λ x. x ≡ u) disc out)
  rewrite_step disc formats.Good p = plainly t (On disc) p
  rewrite_step disc (formats.NoUpdate counter) p = plainly t (On disc) p
  rewrite_step disc formats.Cut p = plainly t (Off (disc ∷ [])) p
  rewrite_step disc formats.Fault p = plainly t (Off (disc ∷ [])) p
  rewrite_step disc (formats.TooMany found) p = absurd p
  rewrite_step disc formats.Off p = absurd p

  format_by : (old new : Shown) (lists : Option Lists) (disc : List ℕ) (kind : Kind) (out : FormatOut) → FormatValues (λ x. x ≡ t) (settled_values disc) old new lists kind out
      → StandsForUncached t (λ u. FormatStepBy old new lists (λ x. x ≡ u) disc kind out)
  format_by old new lists disc (kinds.Full drop_sdl) out p = full_step old new disc out p
  format_by old new None disc kinds.Rewrite out p = full_step old new disc out p
  format_by old new (Some lists) disc kinds.Rewrite out p = rewrite_step disc out p

  pub plain_format_step : (old new : Shown) (s : Standing) (kind : Kind) (out : FormatOut) → FormatContents old new (λ x. x ≡ t) (plain s) kind out
      → StandsForUncached t (λ u. FormatStep old new (λ x. x ≡ u) s kind out)
  plain_format_step old new (On disc) kind out p = format_by old new old.lists disc kind out p
  plain_format_step old new (Off discs) kind formats.Off p = plainly t (Off discs) p
  plain_format_step old new (Off discs) kind _ p = absurd p

  -- the power
  finds : (new : Shown) (discs : List (List ℕ)) → FindsValues new (λ x. x ≡ t) (map (with_older []) discs) → StandsForUncached t (λ u. FindsDisc new (λ x. x ≡ u) discs)
  finds new discs p =
      let first = subst (λ (l : List (List ℕ)). IsFirstUnder new.shape (cells_in new) p.finds.lists l p.finds.disc) (sym (same_taken discs p.discs p.taken)) p.finds.first in
      record {
        standing = On p.finds.disc;
        is = sym p.finds.found;
        so = record { lists = p.finds.lists; in_use = p.finds.in_use; disc = p.finds.disc; first = first; found = refl };
      }

  candidates_are : (s : Standing) → candidates_of (plain s) ≡ map (with_older []) (candidates s)
  candidates_are (On disc) = refl
  candidates_are (Off discs) = refl

  pub plain_power_step : (new : Shown) (s : Standing) (out : PowerOut) → PowerContents new (λ x. x ≡ t) (plain s) out → StandsForUncached t (λ u. PowerStep new (λ x. x ≡ u) s out)
  plain_power_step new s (powers.Ready known) p = finds new (candidates s) (subst (FindsValues new (λ x. x ≡ t)) (candidates_are s) p)
  plain_power_step new s powers.NotFormatted p = plainly t (On []) p
  plain_power_step new s powers.Cut p = plainly t (Off (candidates s)) (ap MayHave (sym (candidates_are s)) ∙ p)
  plain_power_step new s powers.Fault p = plainly t (Off (candidates s)) (ap MayHave (sym (candidates_are s)) ∙ p)
