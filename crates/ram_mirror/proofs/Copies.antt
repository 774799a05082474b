-- One block that is copied, over plain values.
use Rattle.std.proofs.Common.{◌≡◌, ℕ, ◌*◌, inl, true, List, length, sym, ap, ◌∙◌, subst, arith}
use Rattle.model_sectors.specs.Discs.{Standing, On, Off}
use Rattle.model_sectors.specs.declared.ReadOut.TheVariants as reads
use Rattle.model_drive.specs.declared.WriteOut.{WriteOut}
use Rattle.model_drive.specs.Shown.{StandsFor}
use Rattle.model_drive.specs.Parts.{IsInRange}
use Rattle.model_drive.specs.Reads.{ReadStep, VerifyStep}
use Rattle.model_drive.specs.Writes.{WriteCause, WriteStep}
use Rattle.model_mirror.specs.Shown.{MirrorShown, led_by}
use Rattle.model_mirror.specs.Standing.{IsFollowed, MirrorStands}
use Rattle.model_mirror.specs.Whole.{CopyEnds}
use Rattle.model_mirror.proofs.Somehow.{led_off}
use Rattle.model_mirror.proofs.WriteSteps.{lies_in_range}
use Rattle.model_mirror.proofs.WholeSteps.{copied_followed}

pub copied_step : (i : ℕ) (bytes : List ℕ) (old mid new : MirrorShown) → old.on ≡ true → old.up ≡ true → (lead lead' other other' : Standing → Type 0) → ((s : Standing) → lead s → StandsFor old.lead s)
    → IsInRange old.lead (16 * i) 16 → length bytes ≡ 32768 → mid ≡ led_by old mid.lead → new.on ≡ mid.on → ((s : Standing) → lead s → ReadStep lead' s (16 * i) 16 bytes reads.Good)
    → (told : WriteOut) → WriteCause mid.other new.other (16 * i) 16 told → ((s : Standing) → other s → WriteStep new.other other' s (16 * i) 16 bytes told) → CopyEnds mid new i told
    → (s : Standing) → MirrorStands old lead other s → VerifyStep (MirrorStands new lead' other') s reads.Good
copied_step i bytes old mid new on up lead lead' other other' to_shown inside whole led same_on lead_step told cause step ends (On disc) (_, so, followed) =
    let gives = lead_step (On disc) so in (
      same_on ∙ ap (λ (s : MirrorShown). s.on) led ∙ on,
      gives.1,
      copied_followed mid new i bytes other other' disc (subst (λ (s : MirrorShown). IsFollowed s other disc) (sym led) (record { some = followed.some; copy = followed.copy }))
          (ap (λ (s : MirrorShown). s.up) led ∙ up) gives.0 (lies_in_range old.lead disc (16 * i) 16 bytes (to_shown (On disc) so) inside (omega (arith, whole))) told cause step ends,
    )
copied_step i bytes old mid new on up lead lead' other other' to_shown inside whole led same_on lead_step told cause step ends (Off discs) stood = lead_step (Off discs) (led_off old on lead other discs stood)

-- the lead was stopped, and the mirror is off
pub fault_step : (old new : MirrorShown) → old.on ≡ true → (lead lead' other : Standing → Type 0) (lba n : ℕ) (bytes : List ℕ) → ((s : Standing) → lead s → ReadStep lead' s lba n bytes reads.Fault)
    → (s : Standing) → MirrorStands old lead other s → VerifyStep (MirrorStands new lead' other) s reads.Fault
fault_step old new on lead lead' other lba n bytes step (On disc) (_, so, followed) = (inl (step (On disc) so), followed.some)
fault_step old new on lead lead' other lba n bytes step (Off discs) stood = step (Off discs) (led_off old on lead other discs stood)

-- the lead lacks the block, which stays apart
pub unread_step : (old new : MirrorShown) → old.on ≡ true → new ≡ led_by old new.lead → (lead lead' other : Standing → Type 0) (lba n : ℕ) (bytes : List ℕ) (named block : ℕ)
    → ((s : Standing) → lead s → ReadStep lead' s lba n bytes (reads.Unread named block)) → (s : Standing) → MirrorStands old lead other s
    → VerifyStep (MirrorStands new lead' other) s (reads.Unread named block)
unread_step old new on led lead lead' other lba n bytes named block step (On disc) (_, so, followed) = (
  ap (λ (s : MirrorShown). s.on) led ∙ on,
  step (On disc) so,
  subst (λ (s : MirrorShown). IsFollowed s other disc) (sym led) (record { some = followed.some; copy = followed.copy }),
)
unread_step old new on led lead lead' other lba n bytes named block step (Off discs) stood = step (Off discs) (led_off old on lead other discs stood)
