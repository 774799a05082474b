-- A block that is written back to a disc as it has it leaves that disc.
use Rattle.std.proofs.Common.{◌≡◌, ℕ, zero, suc, ◌+◌, ◌-◌, ◌*◌, ◌≤◌, ◌⊎◌, inl, inr, Bool, true, false, List, [], ◌∷◌, ◌++◌, length, take, drop, refl, sym, ap, ◌∙◌, subst, arith}
use Rattle.std.specs.Prelude.{Option, IsSome}
use Rattle.std.proofs.lemmas.Bool.{cases_lt}
use Rattle.std.proofs.lemmas.List.{take-take}
use Rattle.model_bytes.specs.Bytes.{put_at}
use Rattle.model_geometry.specs.Geometry.{Shape}
use Rattle.model_places.specs.Places.{Lists, logical_count}
use Rattle.model_sectors.specs.Requests.{block_with}
use Rattle.model_sectors.specs.Discs.{Standing, On, Off, sectors_of, replaced}
use Rattle.model_sectors.specs.declared.ReadOut.{ReadOut}
use Rattle.model_sectors.specs.declared.ReadOut.TheVariants as reads
use Rattle.model_drive.specs.declared.WriteOut.{WriteOut}
use Rattle.model_drive.specs.declared.WriteOut.TheVariants as writes
use Rattle.model_drive.specs.Shown.{Shown, StandsFor, block_count}
use Rattle.model_drive.specs.Sound.{IsSound}
use Rattle.model_drive.specs.Tells.{HasDisc}
use Rattle.model_drive.specs.Course.{Placing}
use Rattle.model_drive.proofs.Courses.{after_total}
use Rattle.model_drive.specs.Reads.{ReadStep, VerifyStep}
use Rattle.model_drive.specs.Writes.{EndsWriting, WriteCause, WriteStep}
use Rattle.model_cache.proofs.FlushedHomes.{count_is}
use Rattle.model_cache.proofs.ReplacedBlocks.{as_sectors}
use Rattle.model_mirror.specs.Table.{is_apart}
use Rattle.model_mirror.specs.Shown.{MirrorShown, led_by}
use Rattle.model_mirror.specs.Reads.{up_after_read, read_is_stopped}
use Rattle.model_mirror.specs.Writes.{write_is_stopped, after_lone_write}
use Rattle.model_mirror.specs.Standing.{HasCopy, IsFollowed, MirrorStands}
use Rattle.model_mirror.specs.Whole.{MendsBlock, MendGoesOn, MendEnds, WritesBack, once_written}
use Rattle.model_mirror.proofs.Somehow.{read_somehow}

-- the first bytes of a list, and what lies behind as many
front_and_rest : (k : ℕ) (l : List ℕ) → take k l ++ drop (length (take k l)) l ≡ l
front_and_rest zero [] = refl
front_and_rest zero (x ∷ l) = refl
front_and_rest (suc k) [] = refl
front_and_rest (suc k) (x ∷ l) = ap (λ (t : List ℕ). x ∷ t) (front_and_rest k l)

take_none : (k : ℕ) → take {A = ℕ} k [] ≡ []
take_none zero = refl
take_none (suc k) = refl

drop_none : (k : ℕ) → drop {A = ℕ} k [] ≡ []
drop_none zero = refl
drop_none (suc k) = refl

-- a piece that is put where it was taken
put_back : (at k : ℕ) (d : List ℕ) → put_at at (take k (drop at d)) d ≡ d
put_back zero k d =
    let e : 0 + length (take k d) ≡ length (take k d) = omega arith in
    ap (λ (m : ℕ). take k d ++ drop m d) e ∙ front_and_rest k d
put_back (suc at) k [] = ap (λ (l : List ℕ). l ++ drop (suc at + length l) []) (take_none k) ∙ drop_none (suc at + 0)
put_back (suc at) k (x ∷ d) = one_more (take at d) (take k (drop at d)) (put_back at k d) (omega arith)
  where
    one_more : (before piece : List ℕ) → before ++ piece ++ drop (at + length piece) d ≡ d → suc at + length piece ≡ suc (at + length piece)
        → (x ∷ before) ++ piece ++ drop (suc at + length piece) (x ∷ d) ≡ x ∷ d
    one_more before piece back e = ap (λ (m : ℕ). (x ∷ before) ++ piece ++ drop m (x ∷ d)) e ∙ ap (λ (t : List ℕ). x ∷ t) back

-- no more is taken of a piece than it has
all_taken : (j k : ℕ) (rest : List ℕ) → k ≤ j → take j (take k rest) ≡ take k rest
all_taken zero zero rest few = refl
all_taken (suc j) zero rest few = refl
all_taken zero (suc k) rest few = absurd (omega arith)
all_taken (suc j) (suc k) [] few = refl
all_taken (suc j) (suc k) (x ∷ rest) few = ap (λ (t : List ℕ). x ∷ t) (all_taken j k rest (omega arith))

-- the first bytes of a piece are a piece
piece_of : (j k : ℕ) (l d : List ℕ) (at : ℕ) → l ≡ take k (drop at d) → put_at at (take j l) d ≡ d
piece_of j k l d at is = elim (cases_lt j k) [
  | inl shorter ↦ ap (λ (t : List ℕ). put_at at t d) (ap (take j) is ∙ take-take j k (drop at d) (omega (arith, shorter))) ∙ put_back at j d
  | inr longer ↦ ap (λ (t : List ℕ). put_at at t d) (ap (take j) is ∙ all_taken j k (drop at d) longer) ∙ put_back at k d
]

-- a disc whose sectors are replaced by its own
pub rewritten : (d : List ℕ) (lba n b : ℕ) (bytes : List ℕ) → bytes ≡ sectors_of d lba n → replaced d lba bytes b ≡ d
unfolding replaced sectors_of
rewritten d lba n b bytes is = piece_of (2048 * (16 * b - lba)) (2048 * n) bytes d (2048 * lba) is

-- of two that are the same one will do
one_of : {X : Type 0} → X ⊎ (X ⊎ ⊥) → X ⊎ ⊥
one_of (inl first) = inl first
one_of (inr (inl second)) = inl second
one_of (inr (inr none)) = inr none

pub one_of_two : (shown : Shown) (disc : List ℕ) → StandsFor shown (Off (disc ∷ disc ∷ [])) → StandsFor shown (Off (disc ∷ []))
one_of_two shown disc (known, off, cover) = (known, off, λ lists given. one_of (cover lists given))

-- What the lead stands for once its own sectors were written to it.
pub back_step : (lead' : Standing → Type 0) (new : Shown) (disc : List ℕ) (lba n : ℕ) (bytes : List ℕ) → bytes ≡ sectors_of disc lba n → (lead' (Off (disc ∷ disc ∷ [])) → lead' (Off (disc ∷ [])))
    → (told : WriteOut) → WriteStep new lead' (On disc) lba n bytes told → VerifyStep lead' (On disc) (once_written told)
back_step lead' new disc lba n bytes is one told step = go told step
  where
    back : (b : ℕ) → lead' (On (replaced disc lba bytes b)) → lead' (On disc)
    back b so = subst (λ (d : List ℕ). lead' (On d)) (rewritten disc lba n b bytes is) so

    either : (b c : ℕ) → lead' (Off (replaced disc lba bytes b ∷ replaced disc lba bytes c ∷ [])) → lead' (Off (disc ∷ []))
    either b c so = one (subst (λ (d : List ℕ). lead' (Off (d ∷ disc ∷ []))) (rewritten disc lba n b bytes is)
        (subst (λ (d : List ℕ). lead' (Off (replaced disc lba bytes b ∷ d ∷ []))) (rewritten disc lba n c bytes is) so))

    go : (told : WriteOut) → WriteStep new lead' (On disc) lba n bytes told → VerifyStep lead' (On disc) (once_written told)
    go writes.Good step = back _ step
    go writes.NotFormatted step = step.1
    go (writes.Range known) step = step
    go (writes.Unread named block) step = back _ step
    go (writes.NoSpare named) step = back _ step
    go (writes.NoUpdate counter) step = back _ step.before
    go writes.Cut step = either _ _ step.either
    go writes.Off step = absurd step
    go writes.Fault step = either _ _ step.either

-- a write that was not stopped leaves the disc, with as many blocks
module _ (old new : Shown) (lba n : ℕ) (same_shape : new.shape ≡ old.shape) (sound : IsSound old) where
  ends_keep : (lists : Lists) (course : List Placing) (more : ℕ) (reached : Lists) (uses : ℕ) (buffered_now : List ℕ) → EndsWriting old new lists lba n course more reached uses buffered_now
      → HasDisc new × (block_count new ≡ block_count old)
  ends_keep lists course more reached uses buffered_now ends = (
    (ends.ends.is_on, subst (λ (o : Option Lists). IsSome o) (sym ends.now_in_use) refl),
    count_is new reached ends.now_in_use
        ∙ ap (λ (s : Shape). logical_count s reached) same_shape
        ∙ ap (logical_count old.shape) ends.wrote.reached_are
        ∙ after_total old.shape lists (block_with lba) (sound.in_use lists ends.wrote.in_use).valid course
        ∙ sym (count_is old lists ends.wrote.in_use),
  )

  same_keeps : new ≡ old → HasDisc old → HasDisc new × (block_count new ≡ block_count old)
  same_keeps same disc = (subst HasDisc (sym same) disc, ap block_count same)

  pub write_keeps : HasDisc old → (out : WriteOut) → write_is_stopped out ≡ false → WriteCause old new lba n out → HasDisc new × (block_count new ≡ block_count old)
  write_keeps disc writes.Good stop cause = ends_keep cause.lists cause.course _ cause.reached _ _ cause.ends
  write_keeps disc writes.NotFormatted stop cause = same_keeps cause.nothing disc
  write_keeps disc (writes.Range known) stop cause = same_keeps cause.nothing disc
  write_keeps disc (writes.Unread named block) stop cause = ends_keep cause.lists cause.course _ cause.reached _ _ cause.ends
  write_keeps disc (writes.NoSpare named) stop cause = ends_keep cause.lists cause.course _ cause.reached _ _ cause.ends
  write_keeps disc (writes.NoUpdate counter) stop cause = ends_keep cause.lists cause.course _ cause.reached _ _ cause.ends
  write_keeps disc writes.Cut stop cause = absurd (let w = stop in cc)
  write_keeps disc writes.Off stop cause = same_keeps cause.nothing disc
  write_keeps disc writes.Fault stop cause = absurd (let w = stop in cc)

-- a block that was gone through without a stop was mended, or could not be
pub mended_good : (old new : MirrorShown) (i : ℕ) (out : ReadOut) → read_is_stopped out ≡ false → MendsBlock old new i out → out ≡ reads.Good
mended_good old new i out stop mends = go mends.told mends.goes_on
  where
    by_write : (told : WriteOut) → out ≡ once_written told → out ≡ reads.Good
    by_write writes.Good is = is
    by_write writes.NotFormatted is = is
    by_write (writes.Range known) is = is
    by_write (writes.Unread named block) is = is
    by_write (writes.NoSpare named) is = is
    by_write (writes.NoUpdate counter) is = is
    by_write writes.Cut is = absurd (let e : false ≡ true = sym stop ∙ ap read_is_stopped is in cc)
    by_write writes.Off is = is
    by_write writes.Fault is = absurd (let e : false ≡ true = sym stop ∙ ap read_is_stopped is in cc)

    by_other : (late : MirrorShown) (told : ReadOut) → MendEnds late new i told out → out ≡ reads.Good
    by_other late reads.Good back = by_write back.told back.out_is
    by_other late reads.NotFormatted p = p.1
    by_other late (reads.Range known) p = p.1
    by_other late (reads.Unread named block) p = p.1
    by_other late reads.Cut p = p.1
    by_other late reads.Off p = p.1
    by_other late reads.Fault p = p.1

    go : (told : ReadOut) → MendGoesOn mends.mid new i told out → out ≡ reads.Good
    go reads.Good p = p.1
    go reads.NotFormatted p = absurd p
    go (reads.Range known) p = absurd p
    go (reads.Unread named block) lack = by_other lack.late lack.told lack.ends
    go reads.Cut p = absurd (let e : false ≡ true = sym stop ∙ ap read_is_stopped p.1 in cc)
    go reads.Off p = absurd p
    go reads.Fault p = absurd (let e : false ≡ true = sym stop ∙ ap read_is_stopped p.1 in cc)

-- The other side was read: it follows still where it is up.
pub asked_followed : (mid late : MirrorShown) (other other' : Standing → Type 0) (disc : List ℕ) (lba n : ℕ) (into : List ℕ) (told : ReadOut) → late ≡ record mid { other = late.other; up = up_after_read told }
    → ((s : Standing) → other s → ReadStep other' s lba n into told) → mid.up ≡ true → IsFollowed mid other disc → IsFollowed late other' disc
asked_followed mid late other other' disc lba n into told is step up followed = record {
  some = read_somehow other' followed.some.standing lba n into told (step followed.some.standing followed.some.stands);
  copy = λ still. subst (λ (t : List Bool). HasCopy other' t disc) (sym (ap (λ (s : MirrorShown). s.table) is))
      (go told (step (On held.copy) held.stands) (sym (ap (λ (s : MirrorShown). s.up) is) ∙ still));
}
  where
    held : HasCopy other mid.table disc
    held = followed.copy up

    as_held : other' (On held.copy) → HasCopy other' mid.table disc
    as_held so = record { copy = held.copy; stands = so; agrees = held.agrees }

    go : (told : ReadOut) → ReadStep other' (On held.copy) lba n into told → up_after_read told ≡ true → HasCopy other' mid.table disc
    go reads.Good step still = as_held step.1
    go reads.NotFormatted step still = absurd (let w = still in cc)
    go (reads.Range known) step still = absurd (let w = still in cc)
    go (reads.Unread named block) step still = as_held step
    go reads.Cut step still = absurd (let w = still in cc)
    go reads.Off step still = absurd (let w = still in cc)
    go reads.Fault step still = absurd (let w = still in cc)

-- and what it gave of a block that is not apart are the bytes of the disc
pub gave_block : (mid : MirrorShown) (other other' : Standing → Type 0) (disc : List ℕ) (i : ℕ) (into : List ℕ) → ((s : Standing) → other s → ReadStep other' s (16 * i) 16 into reads.Good)
    → mid.up ≡ true → is_apart mid.table i ≡ false → IsFollowed mid other disc → into ≡ sectors_of disc (16 * i) 16
gave_block mid other other' disc i into step up together followed =
    let held = followed.copy up in
    (step (On held.copy) held.stands).0 ∙ as_sectors held.copy i ∙ held.agrees.same i together ∙ sym (as_sectors disc i)

-- The block was written back: what the mirror stands for, by what its lead does.
pub back_stands : (late new : MirrorShown) (i : ℕ) (lead' other' : Standing → Type 0) (disc : List ℕ) → late.on ≡ true → IsFollowed late other' disc → (out : ReadOut) → WritesBack late new i out
    → VerifyStep lead' (On disc) out → VerifyStep (MirrorStands new lead' other') (On disc) out
back_stands late new i lead' other' disc on followed out back step =
    subst (VerifyStep (MirrorStands new lead' other') (On disc)) (sym back.out_is) (go back.told back.new_is (subst (VerifyStep lead' (On disc)) back.out_is step))
  where
    goes_on : new ≡ led_by late new.lead → lead' (On disc) → MirrorStands new lead' other' (On disc)
    goes_on is so = (
      ap (λ (s : MirrorShown). s.on) is ∙ on,
      so,
      subst (λ (s : MirrorShown). IsFollowed s other' disc) (sym is) (record { some = followed.some; copy = followed.copy }),
    )

    go : (told : WriteOut) → new ≡ after_lone_write told (led_by late new.lead) → VerifyStep lead' (On disc) (once_written told) → VerifyStep (MirrorStands new lead' other') (On disc) (once_written told)
    go writes.Good is step = goes_on is step
    go writes.NotFormatted is step = goes_on is step
    go (writes.Range known) is step = goes_on is step
    go (writes.Unread named block) is step = goes_on is step
    go (writes.NoSpare named) is step = goes_on is step
    go (writes.NoUpdate counter) is step = goes_on is step
    go writes.Cut is step = (inl step, followed.some)
    go writes.Off is step = goes_on is step
    go writes.Fault is step = (inl step, followed.some)
