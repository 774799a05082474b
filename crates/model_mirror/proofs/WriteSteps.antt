-- What a write makes of the disc of a mirror, and of the copy on the other side: one lemma for each end.
use Rattle.std.proofs.Common.{◌≡◌, ℕ, ◌+◌, ◌*◌, ◌≤◌, inl, true, false, Some, None, Option, List, length, refl, sym, ap, ◌∙◌, subst, arith}
use Rattle.std.specs.Option.{option_map_or}
use Rattle.model_sectors.specs.Discs.{Standing, On, Off, replaced}
use Rattle.model_sectors.specs.Requests.{block_with, blocks_covered, NamesBlock}
use Rattle.model_sectors.proofs.Covering.{block_with_start}
use Rattle.model_places.specs.Places.{Lists, logical_count}
use Rattle.model_drive.specs.declared.WriteOut.{WriteOut}
use Rattle.model_drive.specs.declared.WriteOut.TheVariants as writes
use Rattle.model_drive.specs.Shown.{Shown, StandsFor, StandsBy, block_count, cells_in}
use Rattle.model_drive.specs.Parts.{IsInRange}
use Rattle.model_drive.specs.Writes.{WriteCause, WriteStep}
use Rattle.model_cache.specs.Falling.{LiesIn}
use Rattle.model_mirror.specs.Table.{AreMarked, is_covered, is_covered_before}
use Rattle.model_mirror.specs.Shown.{MirrorShown, led_by}
use Rattle.model_mirror.specs.Taking.{LeadIsTaken, TakeStep}
use Rattle.model_mirror.specs.Standing.{HasCopy, StandsSomehow, IsFollowed, MirrorStands}
use Rattle.model_mirror.specs.Writes.{WritesSide, OtherEnds}
use Rattle.model_mirror.specs.Writes as write_causes
use Rattle.model_mirror.proofs.Handing.{takes_the_lead, taken_alone, alone_write, write_elsewhere}
use Rattle.model_mirror.proofs.Writes.{both_written, first_refused, first_unlisted, second_refused, second_unlisted}
use Rattle.model_mirror.proofs.Somehow.{write_somehow, led_off}

-- a disc of a drive has as many bytes as its lists say
pub long_as_counted : (shown : Shown) (disc : List ℕ) → StandsFor shown (On disc) → length disc ≡ 32768 * block_count shown
long_as_counted shown disc stood = go shown.lists refl stood.2
  where
    go : (lists : Option Lists) → shown.lists ≡ lists → StandsBy shown.shape (cells_in shown) lists shown.buffer disc → length disc ≡ 32768 * option_map_or (logical_count shown.shape) shown.lists 0
    go None is by = subst (λ (o : Option Lists). length disc ≡ 32768 * option_map_or (logical_count shown.shape) o 0) (sym is) (ap (λ (l : List ℕ). length l) by.0)
    go (Some lists) is by = subst (λ (o : Option Lists). length disc ≡ 32768 * option_map_or (logical_count shown.shape) o 0) (sym is) by.fits.as_long

-- the sectors of a request in range are the disc's
pub lies_in_range : (shown : Shown) (disc : List ℕ) (lba n : ℕ) (bytes : List ℕ) → StandsFor shown (On disc) → IsInRange shown lba n → length bytes ≡ 2048 * n → LiesIn disc lba n bytes
lies_in_range shown disc lba n bytes stood inside whole = record {
  blocks = block_count shown;
  as_long = long_as_counted shown disc stood;
  inside = let h = inside.inside in omega arith;
  whole = whole;
}

-- the block of the sector that a refusal names
pub named_block : (lba n named k : ℕ) → NamesBlock lba n named k → block_with named ≡ block_with lba + k
named_block lba n named k names = ap block_with names.first ∙ block_with_start lba n k names.covered

named_early : (lba n named k : ℕ) → NamesBlock lba n named k → block_with named ≤ block_with lba + blocks_covered lba n
named_early lba n named k names = let covered = names.covered in omega (arith, named_block lba n named k names)

module _ (lba n : ℕ) (bytes : List ℕ) where
  -- The lead wrote all of it to this disc, and then the other side was written, and answered so.
  pub followed_write : (mid new : MirrorShown) (other other' : Standing → Type 0) (disc : List ℕ) → LiesIn disc lba n bytes → IsFollowed mid other disc → mid.up ≡ true
      → (told : WriteOut) → WriteCause mid.other new.other lba n told → ((s : Standing) → other s → WriteStep new.other other' s lba n bytes told) → OtherEnds mid new lba n told
      → IsFollowed new other' (replaced disc lba bytes (block_with lba + blocks_covered lba n))
  followed_write mid new other other' disc lies followed up told cause step ends = record {
    some = write_somehow other' new.other followed.some.standing lba n bytes told (step followed.some.standing followed.some.stands);
    copy = λ still. go told cause (step (On held.copy) held.stands) ends still;
  }
    where
      held : HasCopy other mid.table disc
      held = followed.copy up

      is_down : new ≡ record mid { other = new.other; up = false } → new.up ≡ true → ⊥
      is_down is still = let e : false ≡ true = sym (ap (λ (s : MirrorShown). s.up) is) ∙ still in cc

      go : (told : WriteOut) → WriteCause mid.other new.other lba n told → WriteStep new.other other' (On held.copy) lba n bytes told → OtherEnds mid new lba n told → new.up ≡ true
          → HasCopy other' new.table (replaced disc lba bytes (block_with lba + blocks_covered lba n))
      go writes.Good cause step ends still = record { copy = _; stands = step; agrees = both_written mid.table new.table disc held.copy lba n bytes lies held.agrees ends.1 }
      go writes.NotFormatted cause step ends still = absurd (is_down ends still)
      go (writes.Range known) cause step ends still = absurd (is_down ends still)
      go (writes.Unread named block) cause step ends still =
          record { copy = _; stands = step; agrees = second_refused mid.table new.table disc held.copy lba n bytes lies held.agrees named (named_early lba n named (length cause.course) cause.is_named) ends.1 }
      go (writes.NoSpare named) cause step ends still =
          record { copy = _; stands = step; agrees = second_refused mid.table new.table disc held.copy lba n bytes lies held.agrees named (named_early lba n named (length cause.course) cause.is_named) ends.1 }
      go (writes.NoUpdate counter) cause step ends still =
          record { copy = _; stands = step.before; agrees = second_unlisted mid.table new.table disc held.copy lba n bytes lies held.agrees (block_with lba + step.block) ends.1 }
      go writes.Cut cause step ends still = absurd (is_down ends still)
      go writes.Off cause step ends still = absurd (is_down ends still)
      go writes.Fault cause step ends still = absurd (is_down ends still)

  -- The lead refused, and wrote the blocks before that of this sector; or it wrote up to some block, and all that are covered
  -- are apart.
  pub refused_followed : (mid new : MirrorShown) (other : Standing → Type 0) (disc : List ℕ) (named : ℕ) → LiesIn disc lba n bytes → IsFollowed mid other disc
      → new ≡ record mid { table = new.table } → AreMarked (is_covered_before lba n named) true mid.table new.table → IsFollowed new other (replaced disc lba bytes (block_with named))
  refused_followed mid new other disc named lies followed is marked = record {
    some = followed.some;
    copy = λ up. let held = followed.copy (sym (ap (λ (s : MirrorShown). s.up) is) ∙ up) in
        record { copy = held.copy; stands = held.stands; agrees = first_refused mid.table new.table disc held.copy lba n bytes lies held.agrees named marked };
  }

  pub unlisted_followed : (mid new : MirrorShown) (other : Standing → Type 0) (disc : List ℕ) (b : ℕ) → LiesIn disc lba n bytes → IsFollowed mid other disc
      → new ≡ record mid { table = new.table } → AreMarked (is_covered lba n) true mid.table new.table → IsFollowed new other (replaced disc lba bytes b)
  unlisted_followed mid new other disc b lies followed is marked = record {
    some = followed.some;
    copy = λ up. let held = followed.copy (sym (ap (λ (s : MirrorShown). s.up) is) ∙ up) in
        record { copy = held.copy; stands = held.stands; agrees = first_unlisted mid.table new.table disc held.copy lba n bytes lies held.agrees b marked };
  }

-- What a write of a mirror that is on makes of it, by how its lead answered.
module _ (lba n : ℕ) (bytes : List ℕ) (old : MirrorShown) (on : old.on ≡ true) (lead other : Standing → Type 0) (to_shown : (s : Standing) → lead s → StandsFor old.lead s)
    (whole : length bytes ≡ 2048 * n) where
  -- a mirror that is on stands for Off where its lead does
  pub off_lead : (discs : List (List ℕ)) → MirrorStands old lead other (Off discs) → lead (Off discs)
  off_lead discs stood = led_off old on lead other discs stood

  lies : (disc : List ℕ) → IsInRange old.lead lba n → lead (On disc) → LiesIn disc lba n bytes
  lies disc inside so = lies_in_range old.lead disc lba n bytes (to_shown (On disc) so) inside whole

  module _ (mid new : MirrorShown) (led : mid ≡ led_by old mid.lead) where
    pub mid_followed : (disc : List ℕ) → IsFollowed old other disc → IsFollowed mid other disc
    mid_followed disc followed = subst (λ (s : MirrorShown). IsFollowed s other disc) (sym led) (record { some = followed.some; copy = followed.copy })

    pub mid_on : mid.on ≡ true
    mid_on = ap (λ (s : MirrorShown). s.on) led ∙ on

    module _ (lead' : Standing → Type 0) (is : new ≡ record mid { table = new.table }) where
      still_on : new.on ≡ true
      still_on = ap (λ (s : MirrorShown). s.on) is ∙ mid_on

      -- it refused at a block, or could not write its list
      pub unread_write : (named block : ℕ) → IsInRange old.lead lba n → AreMarked (is_covered_before lba n named) true mid.table new.table
          → ((s : Standing) → lead s → WriteStep new.lead lead' s lba n bytes (writes.Unread named block)) → (s : Standing) → MirrorStands old lead other s
          → WriteStep new.lead (MirrorStands new lead' other) s lba n bytes (writes.Unread named block)
      unread_write named block inside marked step (On disc) (_, so, followed) =
          (still_on, step (On disc) so, refused_followed lba n bytes mid new other disc named (lies disc inside so) (mid_followed disc followed) is marked)
      unread_write named block inside marked step (Off discs) stood = step (Off discs) (off_lead discs stood)

      pub spareless_write : (named : ℕ) → IsInRange old.lead lba n → AreMarked (is_covered_before lba n named) true mid.table new.table
          → ((s : Standing) → lead s → WriteStep new.lead lead' s lba n bytes (writes.NoSpare named)) → (s : Standing) → MirrorStands old lead other s
          → WriteStep new.lead (MirrorStands new lead' other) s lba n bytes (writes.NoSpare named)
      spareless_write named inside marked step (On disc) (_, so, followed) =
          (still_on, step (On disc) so, refused_followed lba n bytes mid new other disc named (lies disc inside so) (mid_followed disc followed) is marked)
      spareless_write named inside marked step (Off discs) stood = step (Off discs) (off_lead discs stood)

      pub unlisted_write : (counter : ℕ) → IsInRange old.lead lba n → AreMarked (is_covered lba n) true mid.table new.table
          → ((s : Standing) → lead s → WriteStep new.lead lead' s lba n bytes (writes.NoUpdate counter)) → (s : Standing) → MirrorStands old lead other s
          → WriteStep new.lead (MirrorStands new lead' other) s lba n bytes (writes.NoUpdate counter)
      unlisted_write counter inside marked step (On disc) (_, so, followed) =
          let ends = step (On disc) so in
          record {
            block = ends.block;
            covered = ends.covered;
            dead = ends.dead;
            first = ends.first;
            before = (still_on, ends.before, unlisted_followed lba n bytes mid new other disc (block_with lba + ends.block) (lies disc inside so) (mid_followed disc followed) is marked);
          }
      unlisted_write counter inside marked step (Off discs) stood = step (Off discs) (off_lead discs stood)

    -- it wrote all, and the other side was written then
    pub good_write : (lead' other' : Standing → Type 0) → IsInRange old.lead lba n → mid.up ≡ true → new.on ≡ mid.on
        → (told : WriteOut) → WriteCause mid.other new.other lba n told → ((s : Standing) → other s → WriteStep new.other other' s lba n bytes told) → OtherEnds mid new lba n told
        → ((s : Standing) → lead s → WriteStep new.lead lead' s lba n bytes writes.Good) → (s : Standing) → MirrorStands old lead other s
        → WriteStep new.lead (MirrorStands new lead' other') s lba n bytes writes.Good
    good_write lead' other' inside up same_on told cause other_step ends step (On disc) (_, so, followed) =
        (same_on ∙ mid_on, step (On disc) so, followed_write lba n bytes mid new other other' disc (lies disc inside so) (mid_followed disc followed) up told cause other_step ends)
    good_write lead' other' inside up same_on told cause other_step ends step (Off discs) stood = step (Off discs) (off_lead discs stood)

    -- it wrote all, and the other side is down
    pub good_write_alone : (lead' : Standing → Type 0) → mid.up ≡ false → ((s : Standing) → lead s → WriteStep mid.lead lead' s lba n bytes writes.Good)
        → (s : Standing) → MirrorStands old lead other s → WriteStep mid.lead (MirrorStands mid lead' other) s lba n bytes writes.Good
    good_write_alone lead' down step (On disc) (_, so, followed) = (mid_on, step (On disc) so, record { some = followed.some; copy = λ up. absurd (let e : false ≡ true = sym down ∙ up in cc) })
    good_write_alone lead' down step (Off discs) stood = step (Off discs) (off_lead discs stood)

    -- it was stopped, and the other side takes the lead: what that makes of the disc is what the mirror makes of it
    pub elsewhere_write : (late : MirrorShown) (lead' other₁ new_lead : Standing → Type 0) (out : WriteOut) → LeadIsTaken mid late → TakeStep other other₁ true → StandsSomehow lead'
        → new ≡ write_causes.after_lone_write out (led_by late new.lead) → ((s : Standing) → other₁ s → WriteStep new.lead new_lead s lba n bytes out) → (disc : List ℕ) → MirrorStands old lead other (On disc)
        → WriteStep new.lead (MirrorStands new new_lead lead') (On disc) lba n bytes out
    elsewhere_write late lead' other₁ new_lead out taken take some is step disc (_, so, followed) =
        let alone = taken_alone mid late taken in
        let ends = write_elsewhere late new alone.0 alone.1 out is in
        alone_write new new_lead lead' ends.0 some new.lead disc lba n bytes out ends.1 (step (On disc) (take disc (takes_the_lead mid other disc (mid_followed disc followed) taken.may)))

    -- it was stopped, and the mirror is off
    pub stopped_write : (lead' other' : Standing → Type 0) (out : WriteOut) → write_causes.write_is_stopped out ≡ true → TakeStep other other' false
        → ((s : Standing) → lead s → WriteStep mid.lead lead' s lba n bytes out) → (s : Standing) → MirrorStands old lead other s
        → WriteStep mid.lead (MirrorStands new lead' other') s lba n bytes out
    stopped_write lead' other' writes.Cut stop take step (On disc) (_, so, followed) =
        let ends = step (On disc) so in record { block = ends.block; covered = ends.covered; either = (inl ends.either, take followed.some.standing followed.some.stands) }
    stopped_write lead' other' writes.Fault stop take step (On disc) (_, so, followed) =
        let ends = step (On disc) so in record { block = ends.block; covered = ends.covered; either = (inl ends.either, take followed.some.standing followed.some.stands) }
    stopped_write lead' other' writes.Cut stop take step (Off discs) stood = step (Off discs) (off_lead discs stood)
    stopped_write lead' other' writes.Fault stop take step (Off discs) stood = step (Off discs) (off_lead discs stood)
    stopped_write lead' other' writes.Good stop take step s stood = absurd (let w = stop in cc)
    stopped_write lead' other' writes.NotFormatted stop take step s stood = absurd (let w = stop in cc)
    stopped_write lead' other' (writes.Range known) stop take step s stood = absurd (let w = stop in cc)
    stopped_write lead' other' (writes.Unread named block) stop take step s stood = absurd (let w = stop in cc)
    stopped_write lead' other' (writes.NoSpare named) stop take step s stood = absurd (let w = stop in cc)
    stopped_write lead' other' (writes.NoUpdate counter) stop take step s stood = absurd (let w = stop in cc)
    stopped_write lead' other' writes.Off stop take step s stood = absurd (let w = stop in cc)
