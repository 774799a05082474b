-- What a mirror acknowledged stays, and is shown: from the register alone.
use Rattle.std.specs.Prelude.{◌≡◌, ◌≢◌, ℕ, ◌*◌, Bool, true, false, nat_lt, MatchBool, Option, None, Some, List, [], ◌∷◌, length}
use Rattle.std.specs.List.{Contains}
use Rattle.std.proofs.Common.{refl, sym, ◌∙◌, inl, inr, subst}
use Rattle.model_cache.proofs.Members.{Contains-none, Contains-cases}
use Rattle.ram_report.specs.declared.printing.Event.TheVariants as events
use Rattle.ram_report.specs.declared.printing.MirrorEvent.{MirrorEvent}
use Rattle.ram_report.specs.declared.printing.MirrorEvent.TheVariants as mirrors
use Rattle.ram_text.specs.declared.mirror.MirrorLine.{MirrorLine}
use Rattle.ram_text.specs.declared.mirror.MirrorLine.TheVariants as lines
use Rattle.ram_machine.specs.Register.{Value, Bytes}
use Rattle.ram_machine.specs.SectorBytes.{bytes_of_sector, is_sector_among}
use Rattle.ram_pair.specs.declared.told.Told.{Told}
use Rattle.ram_pair.specs.declared.told.Told.TheVariants as told
use Rattle.ram_mirrored.specs.MirrorRegister.{MirrorRegister, settled_at, has_none, emptied, led_on, OnPower, OnRefusal, OnRead, OnWrite, OnOther, OnResync, OnLead, OnLine, MirrorTurn, MirrorTurns, MirrorAnswered, GivesSector}
use Rattle.ram_mirrored.specs.MirrorSettled.{HasSettledOn, KeepsOneSector, KeepSector}

module _ (at : ℕ) (bytes : List ℕ) where
  kept : (r after : MirrorRegister) → after ≡ r → HasSettledOn r bytes → HasSettledOn after bytes
  kept r after is has = subst (λ (x : MirrorRegister). HasSettledOn x bytes) (sym is) has

  went : (r after : MirrorRegister) → after ≡ has_none r → HasSettledOn r bytes → HasSettledOn after bytes
  went r after is has = kept (has_none r) after is (record { shows = λ found some. absurd (let clash : None ≡ Some found = some in cc); falls = has.falls })

  none_left : (r after : MirrorRegister) → after ≡ led_on (emptied r) → HasSettledOn r bytes → HasSettledOn after bytes
  none_left r after is has =
      kept (led_on (emptied r)) after is (record { shows = λ found some. absurd (let clash : None ≡ Some found = some in cc); falls = λ found none. absurd (Contains-none found none) })

  same_some : (a b : Value) → ◌≡◌ {A = Option Value} (Some a) (Some b) → a ≡ b
  same_some a b is = cc

  one_value : (value found : Value) → value ≡ Bytes bytes → Contains (value ∷ []) found → found ≡ Bytes bytes
  one_value value found is there = elim (Contains-cases value [] found there) [ inl same ↦ sym same ∙ is | inr none ↦ absurd (Contains-none found none) ]

  now_one : (r : MirrorRegister) (value : Value) → value ≡ Bytes bytes → HasSettledOn (settled_at r value) bytes
  now_one r value is = record { shows = λ found some. sym (same_some value found some) ∙ is; falls = λ found there. one_value value found is there }

  by_power : (r after : MirrorRegister) (event : MirrorEvent) → told.Event event ≢ told.Event mirrors.Unknown → OnPower at r event after → HasSettledOn r bytes → HasSettledOn after bytes
  by_power r after (mirrors.OfDisc (events.Ready capacity)) leads is has = go (nat_lt at capacity) is
    where
      go : (there : Bool) → MatchBool there ((value : Value) × Contains r.falls value × (after ≡ led_on (settled_at r value))) (after ≡ led_on (emptied r)) → HasSettledOn after bytes
      go true (value, among, is) =
          let one = now_one r value (has.falls value among) in
          kept (led_on (settled_at r value)) after is (record { shows = one.shows; falls = one.falls })
      go false is = none_left r after is has
  by_power r after (mirrors.OfDisc events.NotFormatted) leads is has = none_left r after is has
  by_power r after mirrors.Unknown leads is has = absurd (leads refl)
  by_power r after (mirrors.OfDisc events.Cut) leads is has = went r after is has
  by_power r after _ leads is has = absurd is

  by_refusal : (r after : MirrorRegister) (event : MirrorEvent) → OnRefusal r event after → HasSettledOn r bytes → HasSettledOn after bytes
  by_refusal r after (mirrors.OfDisc events.Cut) is has = went r after is has
  by_refusal r after (mirrors.OfDisc events.Off) is has = kept r after is has
  by_refusal r after (mirrors.OfDisc events.NotFormatted) is has = kept r after is has
  by_refusal r after (mirrors.Range capacity) is has = kept r after is has
  by_refusal r after _ is has = absurd is

  by_read : (r after : MirrorRegister) (lba n : ℕ) (shown : List ℕ) (event : MirrorEvent) → OnRead at r lba n shown event after → HasSettledOn r bytes → HasSettledOn after bytes
  by_read r after lba n shown (mirrors.Shows first) is has = kept r after is.2 has
  by_read r after lba n shown (mirrors.Unread named) is has = kept r after is has
  by_read r after lba n shown (mirrors.OfDisc event) is has = by_refusal r after (mirrors.OfDisc event) is has
  by_read r after lba n shown (mirrors.Range capacity) is has = kept r after is has
  by_read r after lba n shown _ is has = absurd is

  by_other : (r after : MirrorRegister) (event : MirrorEvent) → OnOther r event after → HasSettledOn r bytes → HasSettledOn after bytes
  by_other r after mirrors.Good is has = kept r after is has
  by_other r after (mirrors.Unread named) is has = kept r after is has
  by_other r after (mirrors.NoSpare named) is has = kept r after is has
  by_other r after (mirrors.NoUpdate counter) is has = kept r after is has
  by_other r after (mirrors.OfDisc event) is has = by_refusal r after (mirrors.OfDisc event) is has
  by_other r after (mirrors.Range capacity) is has = kept r after is has
  by_other r after _ is has = absurd is

  by_write : (r after : MirrorRegister) (sent : List ℕ) (event : MirrorEvent) (among : Bool) → among ≡ false → MatchBool among (OnWrite at r sent event after) (OnOther r event after) → HasSettledOn r bytes → HasSettledOn after bytes
  by_write r after sent event true is p has = absurd (let w = is in cc)
  by_write r after sent event false is p has = by_other r after event p has

  by_resync : (r after : MirrorRegister) (event : MirrorEvent) → OnResync r event after → HasSettledOn r bytes → HasSettledOn after bytes
  by_resync r after (mirrors.Left count) is has = kept r after is has
  by_resync r after (mirrors.OfDisc event) is has = by_refusal r after (mirrors.OfDisc event) is has
  by_resync r after (mirrors.Range capacity) is has = kept r after is has
  by_resync r after _ is has = absurd is

  by_lead : (r after : MirrorRegister) (event : MirrorEvent) → OnLead r event after → HasSettledOn r bytes → HasSettledOn after bytes
  by_lead r after (mirrors.Leads on_a) is has = kept r after is.1 has
  by_lead r after mirrors.Unknown is has = kept r after is.1 has
  by_lead r after _ is has = absurd is

  by_line : (r after : MirrorRegister) (line : MirrorLine) (payload : List ℕ) (event : MirrorEvent) (shown : List ℕ) → KeepsOneSector at line → told.Event event ≢ told.Event mirrors.Unknown
      → OnLine at r line payload event shown after → HasSettledOn r bytes → HasSettledOn after bytes
  by_line r after lines.Empty payload event shown leaves leads is has = absurd is
  by_line r after (lines.Press zones scale psa) payload event shown leaves leads is has = absurd leaves
  by_line r after lines.Power payload event shown leaves leads is has = by_power r after event leads is has
  by_line r after (lines.Read lba n) payload event shown leaves leads is has = by_read r after lba n shown event is has
  by_line r after (lines.Write lba n) payload event shown leaves leads is has = by_write r after (bytes_of_sector lba payload at) event (is_sector_among lba n at) leaves is has
  by_line r after lines.Format payload event shown leaves leads is has = absurd leaves
  by_line r after lines.Resync payload event shown leaves leads is has = by_resync r after event is has
  by_line r after lines.Lead payload event shown leaves leads is has = by_lead r after event is has
  by_line r after (lines.GiveLead to_a) payload event shown leaves leads is has = absurd leaves
  by_line r after (lines.Fail on_a block) payload event shown leaves leads is has = kept r after is has
  by_line r after (lines.Wear on_a block n) payload event shown leaves leads is has = kept r after is has
  by_line r after (lines.Cut on_a n fate) payload event shown leaves leads is has = kept r after is has

  by_turn : (r after : MirrorRegister) (line : MirrorLine) (payload : List ℕ) (reply : Told) (shown : List ℕ) → KeepsOneSector at line → reply ≢ told.Event mirrors.Unknown
      → MirrorTurn at r line payload reply shown after → HasSettledOn r bytes → HasSettledOn after bytes
  by_turn r after line payload told.Nothing shown leaves leads is has = kept r after is.1 has
  by_turn r after line payload (told.Event event) shown leaves leads is has = by_line r after line payload event shown leaves leads is has

pub stays_settled : (at : ℕ) (bytes : List ℕ) (r after : MirrorRegister) (events : List MirrorAnswered) → MirrorTurns at r events after → KeepSector at events → HasSettledOn r bytes → HasSettledOn after bytes
stays_settled at bytes r after [] turns leaves has = kept at bytes r after turns has
stays_settled at bytes r after (event ∷ events) turns leaves has =
    by_turn at bytes turns.0 after event.line event.payload event.told event.bytes leaves.1 leaves.2 turns.2 (stays_settled at bytes r turns.0 events turns.1 leaves.0 has)

-- a good write
pub settles : (at : ℕ) (r after : MirrorRegister) (event : MirrorAnswered) (lba n : ℕ) → MirrorTurn at r event.line event.payload event.told event.bytes after → event.line ≡ lines.Write lba n → event.told ≡ told.Event mirrors.Good
    → is_sector_among lba n at ≡ true → HasSettledOn after (bytes_of_sector lba event.payload at)
settles at r after event lba n turn line_is told_is among =
    let same : MirrorTurn at r (lines.Write lba n) event.payload (told.Event mirrors.Good) event.bytes after =
    subst (λ (x : Told). MirrorTurn at r (lines.Write lba n) event.payload x event.bytes after) told_is
    (subst (λ (l : MirrorLine). MirrorTurn at r l event.payload event.told event.bytes after) line_is turn) in
    go (is_sector_among lba n at) among same
  where
    go : (b : Bool) → b ≡ true → MatchBool b (after ≡ settled_at r (Bytes (bytes_of_sector lba event.payload at))) (after ≡ r) → HasSettledOn after (bytes_of_sector lba event.payload at)
    go true is wrote = kept at (bytes_of_sector lba event.payload at) (settled_at r (Bytes (bytes_of_sector lba event.payload at))) after wrote (now_one at (bytes_of_sector lba event.payload at) r (Bytes (bytes_of_sector lba event.payload at)) refl)
    go false is left = absurd (let w = is in cc)

-- a good read
read_turn : (at : ℕ) (r after : MirrorRegister) (event : MirrorAnswered) (lba n first : ℕ) → MirrorTurn at r event.line event.payload event.told event.bytes after → event.line ≡ lines.Read lba n → event.told ≡ told.Event (mirrors.Shows first)
    → GivesSector at r lba n event.bytes
read_turn at r after event lba n first turn line_is told_is =
    let same : MirrorTurn at r (lines.Read lba n) event.payload (told.Event (mirrors.Shows first)) event.bytes after =
    subst (λ (x : Told). MirrorTurn at r (lines.Read lba n) event.payload x event.bytes after) told_is
    (subst (λ (l : MirrorLine). MirrorTurn at r l event.payload event.told event.bytes after) line_is turn) in same.1

same_bytes : (a b : List ℕ) → Bytes a ≡ Bytes b → a ≡ b
same_bytes a b is = cc

pub shows_settled : (at : ℕ) (r after : MirrorRegister) (event : MirrorAnswered) (lba n first : ℕ) (bytes : List ℕ) → MirrorTurn at r event.line event.payload event.told event.bytes after → event.line ≡ lines.Read lba n
    → event.told ≡ told.Event (mirrors.Shows first) → is_sector_among lba n at ≡ true → HasSettledOn r bytes → bytes_of_sector lba event.bytes at ≡ bytes
shows_settled at r after event lba n first bytes turn line_is told_is among has =
    let shown = read_turn at r after event lba n first turn line_is told_is in
    same_bytes (bytes_of_sector lba event.bytes at) bytes (has.shows (Bytes (bytes_of_sector lba event.bytes at)) (shown.shown among))

pub read_whole : (at : ℕ) (r after : MirrorRegister) (event : MirrorAnswered) (lba n first : ℕ) → MirrorTurn at r event.line event.payload event.told event.bytes after → event.line ≡ lines.Read lba n
    → event.told ≡ told.Event (mirrors.Shows first) → length event.bytes ≡ 2048 * n
read_whole at r after event lba n first turn line_is told_is = (read_turn at r after event lba n first turn line_is told_is).whole
