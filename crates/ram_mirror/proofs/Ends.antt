-- How calls of a mirror end, over plain values: for the answers of the functions.
use Rattle.std.proofs.Common.{◌≡◌, ℕ, ◌*◌, ◌⊎◌, inl, inr, Bool, true, false, List, length, sym, ap, ◌∙◌}
use Rattle.std.specs.Prelude.{not}
use Rattle.model_sectors.specs.Discs.{Standing, On, Off}
use Rattle.model_drive.specs.declared.WriteOut.{WriteOut}
use Rattle.model_drive.specs.declared.WriteOut.TheVariants as writes
use Rattle.model_drive.specs.Shown.{Shown, StandsFor}
use Rattle.model_drive.specs.Writes.{WriteStep}
use Rattle.model_mirror.specs.Leading.{Leading}
use Rattle.model_mirror.specs.Shown.{MirrorShown, led_by, mirror_turned_off}
use Rattle.model_mirror.specs.Taking.{LeadIsTaken, TakeStep}
use Rattle.model_mirror.specs.Standing.{MirrorStands}
use Rattle.model_mirror.specs.Writes.{write_is_stopped, after_lone_write}
use Rattle.model_mirror.proofs.Somehow.{write_somehow}
use Rattle.model_mirror.proofs.WriteSteps.{elsewhere_write, off_lead}

-- a mirror whose lead and other side are these
abbrev pub keeping : MirrorShown → (on up : Bool) → List Bool → Leading → MirrorShown
keeping mid on up table who = record { lead = mid.lead; other = mid.other; lead_is_a = mid.lead_is_a; on = on; up = up; table = table; who = who }

-- two such mirrors are alike where what they keep is
pub kept_as : (mid : MirrorShown) (on on' up up' : Bool) (table table' : List Bool) (who who' : Leading) → on ≡ on' → up ≡ up' → table ≡ table' → who ≡ who' → keeping mid on up table who ≡ keeping mid on' up' table' who'
kept_as mid on on' up up' table table' who who' a b c d =
    ap (λ (x : Bool). keeping mid x up table who) a ∙ ap (λ (x : Bool). keeping mid on' x table who) b ∙ ap (λ (x : List Bool). keeping mid on' up' x who) c ∙ ap (λ (x : Leading). keeping mid on' up' table' x) d

-- only the table is another, where the flags are as before
pub only_table : (mid : MirrorShown) (on up : Bool) (table : List Bool) (who : Leading) → on ≡ mid.on → up ≡ mid.up → who ≡ mid.who
    → record { lead = mid.lead; other = mid.other; lead_is_a = mid.lead_is_a; on = on; up = up; table = table; who = who } ≡ record mid { table = table }
only_table mid on up table who same_on same_up same_who =
    ap (λ (b : Bool). keeping mid b up table who) same_on ∙ ap (λ (b : Bool). keeping mid mid.on b table who) same_up ∙ ap (λ (w : Leading). keeping mid mid.on mid.up table w) same_who

-- the mirror is off, and the table as before
pub all_off : (mid : MirrorShown) (on up : Bool) (table : List Bool) (who : Leading) → on ≡ false → up ≡ false → table ≡ mid.table → who ≡ mid.who
    → record { lead = mid.lead; other = mid.other; lead_is_a = mid.lead_is_a; on = on; up = up; table = table; who = who } ≡ mirror_turned_off mid
all_off mid on up table who off down same same_who =
    ap (λ (b : Bool). keeping mid b up table who) off ∙ ap (λ (b : Bool). keeping mid false b table who) down ∙ ap (λ (t : List Bool). keeping mid false false t who) same
    ∙ ap (λ (w : Leading). keeping mid false false mid.table w) same_who

-- a write that was cut or failed was stopped
pub stops : (out : WriteOut) → (out ≡ writes.Cut) ⊎ (out ≡ writes.Fault) → write_is_stopped out ≡ true
stops out (inl e) = ap write_is_stopped e
stops out (inr e) = ap write_is_stopped e

pub flipped : (b c : Bool) → not b ≡ true → b ≡ c → c ≡ false
flipped true c e is = absurd (let w = e in cc)
flipped false c e is = sym is

pub unflipped : (b c : Bool) → not b ≡ false → b ≡ c → c ≡ true
unflipped true c e is = sym is
unflipped false c e is = absurd (let w = e in cc)

-- a side that is off answers no stop
off_stop : (new : Shown) (after : Standing → Type 0) (discs : List (List ℕ)) (lba n : ℕ) (bytes : List ℕ) (out : WriteOut) → write_is_stopped out ≡ true → WriteStep new after (Off discs) lba n bytes out → ⊥
off_stop new after discs lba n bytes writes.Cut stop step = step
off_stop new after discs lba n bytes writes.Fault stop step = step
off_stop new after discs lba n bytes writes.Good stop step = absurd (let w = stop in cc)
off_stop new after discs lba n bytes writes.NotFormatted stop step = absurd (let w = stop in cc)
off_stop new after discs lba n bytes (writes.Range known) stop step = absurd (let w = stop in cc)
off_stop new after discs lba n bytes (writes.Unread named block) stop step = absurd (let w = stop in cc)
off_stop new after discs lba n bytes (writes.NoSpare named) stop step = absurd (let w = stop in cc)
off_stop new after discs lba n bytes (writes.NoUpdate counter) stop step = absurd (let w = stop in cc)
off_stop new after discs lba n bytes writes.Off stop step = absurd (let w = stop in cc)

-- the lead was stopped, and the other side took it and was written
pub elsewhere_any : (lba n : ℕ) (bytes : List ℕ) (old mid late new : MirrorShown) (on : old.on ≡ true) (lead other lead' other₁ new_lead : Standing → Type 0) (to_shown : (s : Standing) → lead s → StandsFor old.lead s)
    (whole : length bytes ≡ 2048 * n) (led : mid ≡ led_by old mid.lead) (lost out : WriteOut) → write_is_stopped lost ≡ true → LeadIsTaken mid late → TakeStep other other₁ true
    → ((s : Standing) → lead s → WriteStep mid.lead lead' s lba n bytes lost) → new ≡ after_lone_write out (led_by late new.lead)
    → ((s : Standing) → other₁ s → WriteStep new.lead new_lead s lba n bytes out) → (s : Standing) → MirrorStands old lead other s
    → WriteStep new.lead (MirrorStands new new_lead lead') s lba n bytes out
elsewhere_any lba n bytes old mid late new on lead other lead' other₁ new_lead to_shown whole led lost out stop taken take lead_step is step (On disc) stood =
    elsewhere_write lba n bytes old on lead other to_shown whole mid new led late lead' other₁ new_lead out taken take (write_somehow lead' mid.lead (On disc) lba n bytes lost (lead_step (On disc) stood.1)) is step disc stood
elsewhere_any lba n bytes old mid late new on lead other lead' other₁ new_lead to_shown whole led lost out stop taken take lead_step is step (Off discs) stood =
    absurd (off_stop mid.lead lead' discs lba n bytes lost stop (lead_step (Off discs) (off_lead lba n bytes old on lead other to_shown whole discs stood)))
