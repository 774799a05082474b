-- One block that is mended in the lead, over plain values.
use Rattle.std.proofs.Common.{◌≡◌, ◌≢◌, ℕ, ◌*◌, Bool, true, List, refl, sym, subst}
use Rattle.model_sectors.specs.Discs.{Standing, On, Off}
use Rattle.model_sectors.specs.declared.ReadOut.{ReadOut}
use Rattle.model_sectors.specs.declared.ReadOut.TheVariants as reads
use Rattle.model_drive.specs.Reads.{ReadStep, VerifyStep}
use Rattle.model_drive.specs.Shown.{Shown}
use Rattle.model_cache.specs.Chains.{ReadsDisc}
use Rattle.model_mirror.specs.Leading.{Leading}
use Rattle.model_mirror.specs.Shown.{MirrorShown, led_by}
use Rattle.model_mirror.specs.Reads.{up_after_read}
use Rattle.model_mirror.specs.Standing.{IsFollowed, MirrorStands}
use Rattle.model_mirror.specs.Whole.{MendsLack}
use Rattle.model_mirror.proofs.Somehow.{led_off}
use Rattle.ram_mirror.proofs.Ends.{keeping, kept_as}

-- only the other side and whether it is up are others
pub asked_as : (mid : MirrorShown) (other : Shown) (on up : Bool) (table : List Bool) (who : Leading) (told : ReadOut) → on ≡ mid.on → up ≡ up_after_read told → table ≡ mid.table → who ≡ mid.who
    → keeping (record mid { other = other }) on up table who ≡ record mid { other = other; up = up_after_read told }
asked_as mid other on up table who told same_on up_is same same_who =
    kept_as (record mid { other = other }) on mid.on up (up_after_read told) table mid.table who mid.who same_on up_is same same_who

-- the other side lacks the block too
pub other_lacks : (mid late : MirrorShown) (i : ℕ) (told : ReadOut) → told ≢ reads.Good → ReadsDisc mid.other late.other (16 * i) 16 told → late ≡ record mid { other = late.other; up = up_after_read told }
    → MendsLack mid late i reads.Good
other_lacks mid late i reads.Good not_good asked is = absurd (not_good refl)
other_lacks mid late i reads.NotFormatted not_good asked is = record { late = late; told = reads.NotFormatted; reads = asked; late_is = is; ends = (refl, refl) }
other_lacks mid late i (reads.Range known) not_good asked is = record { late = late; told = reads.Range known; reads = asked; late_is = is; ends = (refl, refl) }
other_lacks mid late i (reads.Unread named block) not_good asked is = record { late = late; told = reads.Unread named block; reads = asked; late_is = is; ends = (refl, refl) }
other_lacks mid late i reads.Cut not_good asked is = record { late = late; told = reads.Cut; reads = asked; late_is = is; ends = (refl, refl) }
other_lacks mid late i reads.Off not_good asked is = record { late = late; told = reads.Off; reads = asked; late_is = is; ends = (refl, refl) }
other_lacks mid late i reads.Fault not_good asked is = record { late = late; told = reads.Fault; reads = asked; late_is = is; ends = (refl, refl) }

-- the lead lacks the block, and stands for its disc still
pub mended_step : (old mid new : MirrorShown) → old.on ≡ true → mid ≡ led_by old mid.lead → (lead lead₁ lead' other other' : Standing → Type 0) (lba n : ℕ) (into : List ℕ) (named block : ℕ)
    → ((s : Standing) → lead s → ReadStep lead₁ s lba n into (reads.Unread named block)) → (out : ReadOut)
    → ((disc : List ℕ) → lead₁ (On disc) → IsFollowed mid other disc → VerifyStep (MirrorStands new lead' other') (On disc) out)
    → (s : Standing) → MirrorStands old lead other s → VerifyStep (MirrorStands new lead' other') s out
mended_step old mid new on led lead lead₁ lead' other other' lba n into named block step out mends (On disc) (_, so, followed) =
    mends disc (step (On disc) so) (subst (λ (s : MirrorShown). IsFollowed s other disc) (sym led) (record { some = followed.some; copy = followed.copy }))
mended_step old mid new on led lead lead₁ lead' other other' lba n into named block step out mends (Off discs) stood = absurd (step (Off discs) (led_off old on lead other discs stood))
