-- The other side takes the lead: it stands for the same disc; and what a call of a lead alone makes of that.
use Rattle.std.proofs.Common.{◌≡◌, ℕ, inl, List, [], ◌∷◌, refl, sym, ap, ◌∙◌, subst}
use Rattle.std.specs.Prelude.{Bool, true, false, ◌&&◌, not}
use Rattle.model_sectors.specs.Discs.{Standing, On, Off}
use Rattle.model_sectors.specs.declared.ReadOut.{ReadOut}
use Rattle.model_sectors.specs.declared.ReadOut.TheVariants as reads
use Rattle.model_drive.specs.declared.WriteOut.{WriteOut}
use Rattle.model_drive.specs.declared.WriteOut.TheVariants as writes
use Rattle.model_drive.specs.Shown.{Shown}
use Rattle.model_drive.specs.Reads.{ReadStep}
use Rattle.model_drive.specs.Writes.{WriteStep}
use Rattle.model_mirror.specs.Table.{some_apart}
use Rattle.model_mirror.specs.Shown.{MirrorShown, may_lead, led_by}
use Rattle.model_mirror.specs.Taking.{LeadIsTaken}
use Rattle.model_mirror.specs.Standing.{StandsSomehow, IsFollowed, MirrorStands}
use Rattle.model_mirror.specs.Reads as read_causes
use Rattle.model_mirror.specs.Writes as write_causes
use Rattle.model_mirror.proofs.Alike.{one_disc}

and_both : (a b : Bool) → (a && b) ≡ true → (a ≡ true) × (b ≡ true)
and_both true true e = (refl, refl)
and_both true false e = absurd (let w = e in cc)
and_both false b e = absurd (let w = e in cc)

not_true : (a : Bool) → not a ≡ true → a ≡ false
not_true true e = absurd (let w = e in cc)
not_true false e = refl

-- a side that may lead stands for the disc of the lead
pub takes_the_lead : (shown : MirrorShown) (other : Standing → Type 0) (disc : List ℕ) → IsFollowed shown other disc → may_lead shown ≡ true → other (On disc)
takes_the_lead shown other disc followed may =
    let both = and_both shown.up (not (some_apart shown.table)) may in
    let copy = followed.copy both.0 in
    subst (λ (d : List ℕ). other (On d)) (one_disc shown.table disc copy.copy copy.agrees (not_true (some_apart shown.table) both.1)) copy.stands

-- What a lead without the other side stands for, by its answer: with an answer that is no stop the mirror is on.
module _ (new : MirrorShown) (lead other : Standing → Type 0) (down : new.up ≡ false) (some : StandsSomehow other) where
  up_not : new.up ≡ true → ⊥
  up_not is = let e : false ≡ true = sym down ∙ is in cc

  pub stands_alone : new.on ≡ true → (disc : List ℕ) → lead (On disc) → MirrorStands new lead other (On disc)
  stands_alone on disc so = (on, so, record { some = some; copy = λ up. absurd (up_not up) })

  pub stands_off : (discs : List (List ℕ)) → lead (Off discs) → MirrorStands new lead other (Off discs)
  stands_off discs so = (inl so, some)

  pub alone_read : (disc : List ℕ) (lba n : ℕ) (into : List ℕ) (out : ReadOut) → (read_causes.read_is_stopped out ≡ false → new.on ≡ true) → ReadStep lead (On disc) lba n into out
      → ReadStep (MirrorStands new lead other) (On disc) lba n into out
  alone_read disc lba n into reads.Good on step = (step.0, stands_alone (on refl) disc step.1)
  alone_read disc lba n into reads.NotFormatted on step = (step.0, stands_alone (on refl) disc step.1)
  alone_read disc lba n into (reads.Range known) on step = stands_alone (on refl) disc step
  alone_read disc lba n into (reads.Unread named block) on step = stands_alone (on refl) disc step
  alone_read disc lba n into reads.Cut on step = stands_off (disc ∷ []) step
  alone_read disc lba n into reads.Off on step = step
  alone_read disc lba n into reads.Fault on step = stands_off (disc ∷ []) step

  pub alone_write : (shown : Shown) (disc : List ℕ) (lba n : ℕ) (bytes : List ℕ) (out : WriteOut) → (write_causes.write_is_stopped out ≡ false → new.on ≡ true) → WriteStep shown lead (On disc) lba n bytes out
      → WriteStep shown (MirrorStands new lead other) (On disc) lba n bytes out
  alone_write shown disc lba n bytes writes.Good on step = stands_alone (on refl) _ step
  alone_write shown disc lba n bytes writes.NotFormatted on step = (step.0, stands_alone (on refl) disc step.1)
  alone_write shown disc lba n bytes (writes.Range known) on step = stands_alone (on refl) disc step
  alone_write shown disc lba n bytes (writes.Unread named block) on step = stands_alone (on refl) _ step
  alone_write shown disc lba n bytes (writes.NoSpare named) on step = stands_alone (on refl) _ step
  alone_write shown disc lba n bytes (writes.NoUpdate counter) on step = record { block = step.block; covered = step.covered; dead = step.dead; first = step.first; before = stands_alone (on refl) _ step.before }
  alone_write shown disc lba n bytes writes.Cut on step = record { block = step.block; covered = step.covered; either = stands_off _ step.either }
  alone_write shown disc lba n bytes writes.Off on step = step
  alone_write shown disc lba n bytes writes.Fault on step = record { block = step.block; covered = step.covered; either = stands_off _ step.either }

-- a side that took the lead has it alone, and the mirror is on
pub taken_alone : (mid late : MirrorShown) → LeadIsTaken mid late → (late.up ≡ false) × (late.on ≡ true)
taken_alone mid late taken = (ap (λ (s : MirrorShown). s.up) taken.new_is, ap (λ (s : MirrorShown). s.on) taken.new_is)

-- All was read, or written, by the side that had taken the lead.
module _ (late new : MirrorShown) (down : late.up ≡ false) (on : late.on ≡ true) where
  pub read_elsewhere : (out : ReadOut) → new ≡ read_causes.after_lone_read out (led_by late new.lead)
      → (new.up ≡ false) × (read_causes.read_is_stopped out ≡ false → new.on ≡ true)
  read_elsewhere reads.Good is = (ap (λ (s : MirrorShown). s.up) is ∙ down, λ go. ap (λ (s : MirrorShown). s.on) is ∙ on)
  read_elsewhere reads.NotFormatted is = (ap (λ (s : MirrorShown). s.up) is ∙ down, λ go. ap (λ (s : MirrorShown). s.on) is ∙ on)
  read_elsewhere (reads.Range known) is = (ap (λ (s : MirrorShown). s.up) is ∙ down, λ go. ap (λ (s : MirrorShown). s.on) is ∙ on)
  read_elsewhere (reads.Unread named block) is = (ap (λ (s : MirrorShown). s.up) is ∙ down, λ go. ap (λ (s : MirrorShown). s.on) is ∙ on)
  read_elsewhere reads.Cut is = (ap (λ (s : MirrorShown). s.up) is, λ go. absurd (let w = go in cc))
  read_elsewhere reads.Off is = (ap (λ (s : MirrorShown). s.up) is ∙ down, λ go. ap (λ (s : MirrorShown). s.on) is ∙ on)
  read_elsewhere reads.Fault is = (ap (λ (s : MirrorShown). s.up) is, λ go. absurd (let w = go in cc))

  pub write_elsewhere : (out : WriteOut) → new ≡ write_causes.after_lone_write out (led_by late new.lead)
      → (new.up ≡ false) × (write_causes.write_is_stopped out ≡ false → new.on ≡ true)
  write_elsewhere writes.Good is = (ap (λ (s : MirrorShown). s.up) is ∙ down, λ go. ap (λ (s : MirrorShown). s.on) is ∙ on)
  write_elsewhere writes.NotFormatted is = (ap (λ (s : MirrorShown). s.up) is ∙ down, λ go. ap (λ (s : MirrorShown). s.on) is ∙ on)
  write_elsewhere (writes.Range known) is = (ap (λ (s : MirrorShown). s.up) is ∙ down, λ go. ap (λ (s : MirrorShown). s.on) is ∙ on)
  write_elsewhere (writes.Unread named block) is = (ap (λ (s : MirrorShown). s.up) is ∙ down, λ go. ap (λ (s : MirrorShown). s.on) is ∙ on)
  write_elsewhere (writes.NoSpare named) is = (ap (λ (s : MirrorShown). s.up) is ∙ down, λ go. ap (λ (s : MirrorShown). s.on) is ∙ on)
  write_elsewhere (writes.NoUpdate counter) is = (ap (λ (s : MirrorShown). s.up) is ∙ down, λ go. ap (λ (s : MirrorShown). s.on) is ∙ on)
  write_elsewhere writes.Cut is = (ap (λ (s : MirrorShown). s.up) is, λ go. absurd (let w = go in cc))
  write_elsewhere writes.Off is = (ap (λ (s : MirrorShown). s.up) is ∙ down, λ go. ap (λ (s : MirrorShown). s.on) is ∙ on)
  write_elsewhere writes.Fault is = (ap (λ (s : MirrorShown). s.up) is, λ go. absurd (let w = go in cc))
