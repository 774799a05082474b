-- How a read of a mirror ends that is on, over plain values: its lead has kept it, was stopped, or gave it to the other side.
use Rattle.std.proofs.Common.{◌≡◌, ℕ, ◌⊎◌, inl, inr, true, false, List, [], ◌∷◌, ap, ◌∙◌}
use Rattle.model_sectors.specs.Discs.{Standing, On, Off}
use Rattle.model_sectors.specs.declared.ReadOut.{ReadOut}
use Rattle.model_sectors.specs.declared.ReadOut.TheVariants as reads
use Rattle.model_drive.specs.Reads.{ReadStep}
use Rattle.model_mirror.specs.Shown.{MirrorShown, led_by}
use Rattle.model_mirror.specs.Taking.{LeadIsTaken, TakeStep}
use Rattle.model_mirror.proofs.Somehow.{led_off}
use Rattle.model_mirror.specs.Standing.{StandsSomehow, IsFollowed, MirrorStands}
use Rattle.model_mirror.specs.Reads.{read_is_stopped, after_lone_read}
use Rattle.model_mirror.proofs.Handing.{takes_the_lead, taken_alone, alone_read, read_elsewhere}
use Rattle.ram_mirror.specs.Reading.{AllGives, OffGives}

-- a lead that is off refuses
pub off_refuses : (lead' other' : Standing → Type 0) (discs : List (List ℕ)) (lba n : ℕ) (into : List ℕ) (out : ReadOut) → ReadStep lead' (Off discs) lba n into out → StandsSomehow other' → OffGives lead' other' discs out
off_refuses lead' other' discs lba n into reads.Good step some = absurd step
off_refuses lead' other' discs lba n into reads.NotFormatted step some = absurd step
off_refuses lead' other' discs lba n into (reads.Range known) step some = absurd step
off_refuses lead' other' discs lba n into (reads.Unread named home) step some = absurd step
off_refuses lead' other' discs lba n into reads.Cut step some = absurd step
off_refuses lead' other' discs lba n into reads.Off step some = (step, some)
off_refuses lead' other' discs lba n into reads.Fault step some = absurd step

-- a read that was cut or failed was stopped
pub read_stops : (out : ReadOut) → (out ≡ reads.Cut) ⊎ (out ≡ reads.Fault) → read_is_stopped out ≡ true
read_stops out (inl e) = ap read_is_stopped e
read_stops out (inr e) = ap read_is_stopped e

-- What a read by the lead gives, from what it gives where its power is on and where it is off.
module _ (old mid : MirrorShown) (lead lead' other other' : Standing → Type 0) (lba n : ℕ) (into : List ℕ) (on : old.on ≡ true) (same_on : mid.on ≡ old.on) (out : ReadOut)
    (gives : (disc : List ℕ) → lead (On disc) → IsFollowed old other disc → AllGives lead' other' mid disc lba n into out)
    (off : (discs : List (List ℕ)) → lead (Off discs) → StandsSomehow other → OffGives lead' other' discs out) where
  now_on : mid.on ≡ true
  now_on = same_on ∙ on

  -- the lead has kept it
  pub kept_read : read_is_stopped out ≡ false → (s : Standing) → MirrorStands old lead other s → ReadStep (MirrorStands mid lead' other') s lba n into out
  kept_read go_on (On disc) (_, so, followed) = go out go_on (gives disc so followed)
    where
      go : (out : ReadOut) → read_is_stopped out ≡ false → AllGives lead' other' mid disc lba n into out → ReadStep (MirrorStands mid lead' other') (On disc) lba n into out
      go reads.Good stop p = (p.1, (now_on, p.0.0, p.0.1))
      go reads.NotFormatted stop p = (p.0, (now_on, p.1.0, p.1.1))
      go (reads.Range known) stop p = (now_on, p.0, p.1)
      go (reads.Unread named home) stop p = (now_on, p.0, p.1)
      go reads.Cut stop p = absurd (let w = stop in cc)
      go reads.Off stop p = absurd p
      go reads.Fault stop p = absurd (let w = stop in cc)
  kept_read go_on (Off discs) stood = go out (off discs (led_off old on lead other discs stood) stood.1)
    where
      go : (out : ReadOut) → OffGives lead' other' discs out → ReadStep (MirrorStands mid lead' other') (Off discs) lba n into out
      go reads.Good p = absurd p
      go reads.NotFormatted p = absurd p
      go (reads.Range known) p = absurd p
      go (reads.Unread named home) p = absurd p
      go reads.Cut p = absurd p
      go reads.Off p = (inl p.0, p.1)
      go reads.Fault p = absurd p

  -- what a lead that was stopped leaves
  stopped_gives : read_is_stopped out ≡ true → (disc : List ℕ) → lead (On disc) → IsFollowed old other disc → lead' (Off (disc ∷ [])) × IsFollowed mid other' disc
  stopped_gives stop disc so followed = go out stop (gives disc so followed)
    where
      go : (out : ReadOut) → read_is_stopped out ≡ true → AllGives lead' other' mid disc lba n into out → lead' (Off (disc ∷ [])) × IsFollowed mid other' disc
      go reads.Good stop p = absurd (let w = stop in cc)
      go reads.NotFormatted stop p = absurd (let w = stop in cc)
      go (reads.Range known) stop p = absurd (let w = stop in cc)
      go (reads.Unread named home) stop p = absurd (let w = stop in cc)
      go reads.Cut stop p = p
      go reads.Off stop p = absurd p
      go reads.Fault stop p = p

  not_off : read_is_stopped out ≡ true → (discs : List (List ℕ)) → lead (Off discs) → StandsSomehow other → ⊥
  not_off stop discs so some = go out stop (off discs so some)
    where
      go : (out : ReadOut) → read_is_stopped out ≡ true → OffGives lead' other' discs out → ⊥
      go reads.Good stop p = p
      go reads.NotFormatted stop p = p
      go (reads.Range known) stop p = p
      go (reads.Unread named home) stop p = p
      go reads.Cut stop p = p
      go reads.Off stop p = absurd (let w = stop in cc)
      go reads.Fault stop p = p

  -- it was stopped, and the mirror is off
  pub stopped_read : (new : MirrorShown) (other₁ : Standing → Type 0) → TakeStep other' other₁ false → read_is_stopped out ≡ true → (s : Standing) → MirrorStands old lead other s
      → ReadStep (MirrorStands new lead' other₁) s lba n into out
  stopped_read new other₁ take stop (On disc) (_, so, followed) = go out stop (stopped_gives stop disc so followed)
    where
      go : (out : ReadOut) → read_is_stopped out ≡ true → lead' (Off (disc ∷ [])) × IsFollowed mid other' disc → ReadStep (MirrorStands new lead' other₁) (On disc) lba n into out
      go reads.Good stop p = absurd (let w = stop in cc)
      go reads.NotFormatted stop p = absurd (let w = stop in cc)
      go (reads.Range known) stop p = absurd (let w = stop in cc)
      go (reads.Unread named home) stop p = absurd (let w = stop in cc)
      go reads.Cut stop p = (inl p.0, take p.1.some.standing p.1.some.stands)
      go reads.Off stop p = absurd (let w = stop in cc)
      go reads.Fault stop p = (inl p.0, take p.1.some.standing p.1.some.stands)
  stopped_read new other₁ take stop (Off discs) stood = absurd (not_off stop discs (led_off old on lead other discs stood) stood.1)

  -- it was stopped, and all was read by the side that took the lead
  pub given_read : (late new : MirrorShown) (into' : List ℕ) (told : ReadOut) (other₁ new_lead : Standing → Type 0) → read_is_stopped out ≡ true → LeadIsTaken mid late → TakeStep other' other₁ true
      → ((s : Standing) → other₁ s → ReadStep new_lead s lba n into' told) → new ≡ after_lone_read told (led_by late new.lead)
      → (s : Standing) → MirrorStands old lead other s → ReadStep (MirrorStands new new_lead lead') s lba n into' told
  given_read late new into' told other₁ new_lead stop taken take step is (On disc) (_, so, followed) =
      let left = stopped_gives stop disc so followed in
      let alone = taken_alone mid late taken in
      let ends = read_elsewhere late new alone.0 alone.1 told is in
      alone_read new new_lead lead' ends.0 (record { standing = Off (disc ∷ []); stands = left.0 }) disc lba n into' told ends.1 (step (On disc) (take disc (takes_the_lead mid other' disc left.1 taken.may)))
  given_read late new into' told other₁ new_lead stop taken take step is (Off discs) stood = absurd (not_off stop discs (led_off old on lead other discs stood) stood.1)
